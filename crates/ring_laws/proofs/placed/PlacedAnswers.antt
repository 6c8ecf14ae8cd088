-- What a placed answer keeps: the ring, the ids, and what both sides keep of the device.
use Rattle.std.proofs.Common.{◌≡◌, ℕ, ◌+◌, ◌^◌, ◌≤◌, ◌<◌, true, false, List, [], ◌∷◌, ◌++◌, length, take, drop, map, refl, sym, ap, ◌∙◌, arith, suc, Some, length-append, subst, ⊎_elim}
use Rattle.std.proofs.lemmas.Bool.{cases_Bool}
use Rattle.std.specs.Option.{option_map}
use Rattle.tcmu_types.specs.declared.settings.Flags.{Flags}
use Rattle.tcmu_model.specs.declared.state.CommandState.{CommandState}
use Rattle.tcmu_model.specs.declared.state.CommandState.TheVariants.{Parked, Placed}
use Rattle.tcmu_model.specs.RingState.{serials_in}
use Rattle.tcmu_model.specs.RingState as ring
use Rattle.tcmu_model.specs.Device.{Unfinished, DeviceState, is_at}
use Rattle.tcmu_model.specs.Events.{turned}
use Rattle.tcmu_types.specs.Numbers.{Differ}
use Rattle.tcmu_types.specs.Lists.{Every}
use Rattle.tcmu_model.specs.BlockLists.{Taken}
use Rattle.region_model.specs.Layout.{with_response}
use Rattle.region_model.specs.Regions.{RegionState}
use Rattle.region_model.specs.Picture.{place_of, told_length}
use Rattle.region_model.specs.Sides.{Recorded, PendingRow, TargetState, UserState, GivenJob, Carried}
use Rattle.region_model.specs.Sides as sides
use Rattle.region_model.specs.Represents.{NoteStands, RingStands, IdsStand, NotesStand, IsId, entry_at, ids_in, TargetKeeps, UserKeeps, pending_of, id_of, row_has, command_places}
use Rattle.region_model.specs.UserSteps.{Placing, placed_at, placed_one, with_payload}
use Rattle.ring_laws.specs.Placed.{CanAnswer, CanPlace, placed_in}
use Rattle.ring_laws.proofs.placed.Numbered.{NextEntry, next-entry}
use Rattle.ring_laws.proofs.placed.AnswerBytes.{place-ring, place-ids, found-at, other-kept, answer_into}
use Rattle.tcmu_types.proofs.Places.{drop_from}

abbrev pub placing_of : RegionState → UserState → Placing
placing_of r user = record { region = r; user = user }

-- the entry into which the answer goes, with what is left
pub record Into (user : UserState) (d : DeviceState) : Type 0 where
  pub entry : NextEntry d
  pub first : user.offsets ≡ place_of d.ring entry.index ∷ drop (length d.placed + 1) (command_places d.ring.size 0 (take d.ring.dispatched d.ring.laid))

pub goes_into : (user : UserState) (rows : List PendingRow) (d : DeviceState) (lists : List Taken) (s : ℕ) (u : Unfinished) (p : sides.Parked) (parts : List (List ℕ)) →
    CanAnswer d → CanPlace user rows d lists s u p parts → Into user d
goes_into user rows d lists s u p parts can place =
    let e : NextEntry d = next-entry d can place.behind in
    let ps : List ℕ = command_places d.ring.size 0 (take d.ring.dispatched d.ring.laid) in
    let k : suc (length d.placed) ≡ length d.placed + 1 = omega arith in
    record { entry = e; first = place.offsets ∙ drop_from ps (length d.placed) (place_of d.ring e.index) e.place ∙ ap (λ n. place_of d.ring e.index ∷ drop n ps) k }

front_answered : (r : RegionState) (user : UserState) (rows : List PendingRow) (d : DeviceState) (lists : List Taken) (s : ℕ) (u : Unfinished) (p : sides.Parked) (parts : List (List ℕ)) (rest : List GivenJob) →
    CanPlace user rows d lists s u p parts → (i : Into user d) →
    (placed_one (placing_of r user) p rest).region.front ≡ with_response r.front (place_of d.ring i.entry.index) p.job.id p.reply (told_length d.settings.flags.read_len u.command.cdb p.reply)
front_answered r user rows d lists s u p parts rest place i =
    let at : ℕ = place_of d.ring i.entry.index in
    ap (λ ats. (placed_at (placing_of r user) p rest ats).region.front) i.first
    ∙ ap (λ (c : Carried). with_response (with_payload r p.job.iovs c p.reply.payload).front at p.job.id p.reply (told_length user.flags.read_len p.job.cdb p.reply)) place.job.carried
    ∙ ap (λ (f : Flags). with_response r.front at p.job.id p.reply (told_length f.read_len p.job.cdb p.reply)) place.flags
    ∙ ap (λ cdb. with_response r.front at p.job.id p.reply (told_length d.settings.flags.read_len cdb p.reply)) place.job.cdb

id_held : (rows : List PendingRow) (q id : ℕ) → Every (λ e. IsId e.id) rows → id_of rows q ≡ Some id → IsId id
id_held [] q id h e = absurd (cc)
id_held (row ∷ rows) q id h e =
    ⊎_elim
    (λ (k : row_has q row ≡ true). let g : option_map (λ (r : PendingRow). r.id) (Some row) ≡ Some id = rw k at e in let i : row.id ≡ id = cc in subst IsId i h.0)
    (λ (k : row_has q row ≡ false). let g : id_of rows q ≡ Some id = rw k at e in id_held rows q id h.1 g)
    (cases_Bool (row_has q row))

pub small_id : (rows : List PendingRow) (q id : ℕ) → Every (λ e. IsId e.id) rows → id_of rows q ≡ Some id → id < 2 ^ 16
small_id rows q id h e = let i : IsId id = id_held rows q id h e in let k : id ≤ 65535 = i.high in omega arith

pub ring_placed : (r : RegionState) (user : UserState) (items : List Recorded) (rows : List PendingRow) (d : DeviceState) (lists : List Taken) (s : ℕ) (u : Unfinished) (p : sides.Parked) (parts : List (List ℕ)) (rest : List GivenJob) →
    CanAnswer d → RingStands r.front items d lists → IdsStand r.front rows d → CanPlace user rows d lists s u p parts →
    RingStands (placed_one (placing_of r user) p rest).region.front items (placed_in d s) lists
ring_placed r user items rows d lists s u p parts rest can ring ids place =
    let i : Into user d = goes_into user rows d lists s u p parts can place in
    subst (λ (front : List ℕ). RingStands front items (placed_in d s) lists) (sym (front_answered r user rows d lists s u p parts rest place i))
    (place-ring r.front items d lists s p.job.id u p.reply i.entry can ring (record { found = place.found; replied = place.replied }) (small_id rows u.serial p.job.id ids.range place.job.id))

pub ids_placed : (r : RegionState) (user : UserState) (items : List Recorded) (rows : List PendingRow) (d : DeviceState) (lists : List Taken) (s : ℕ) (u : Unfinished) (p : sides.Parked) (parts : List (List ℕ)) (rest : List GivenJob) →
    CanAnswer d → RingStands r.front items d lists → IdsStand r.front rows d → CanPlace user rows d lists s u p parts →
    IdsStand (placed_one (placing_of r user) p rest).region.front rows (placed_in d s)
ids_placed r user items rows d lists s u p parts rest can ring ids place =
    let i : Into user d = goes_into user rows d lists s u p parts can place in
    let q : u.serial ≡ s = found-at s Parked d.unfinished u place.found in
    subst (λ (front : List ℕ). IdsStand front rows (placed_in d s)) (sym (front_answered r user rows d lists s u p parts rest place i))
    (place-ids r.front items rows d lists s p.job.id u p.reply i.entry can ring ids (record { found = place.found; replied = place.replied }) (small_id rows u.serial p.job.id ids.range place.job.id)
    (ap (id_of rows) (sym q) ∙ place.job.id))

-- ==== what both sides keep

pub pending_turned : (lists : List Taken) (s : ℕ) (a b : CommandState) (us : List Unfinished) → map (pending_of lists) (turned s a b us) ≡ map (pending_of lists) us
pending_turned lists s a b [] = refl
pending_turned lists s a b (u ∷ us) =
    ⊎_elim
    (λ (k : is_at s a u ≡ true). rw k refl)
    (λ (k : is_at s a u ≡ false). rw k (ap (λ ps. pending_of lists u ∷ ps) (pending_turned lists s a b us)))
    (cases_Bool (is_at s a u))

pub serials_turned : (s : ℕ) (a b : CommandState) (us : List Unfinished) → map (λ u. u.serial) (turned s a b us) ≡ map (λ u. u.serial) us
serials_turned s a b [] = refl
serials_turned s a b (u ∷ us) =
    ⊎_elim
    (λ (k : is_at s a u ≡ true). rw k refl)
    (λ (k : is_at s a u ≡ false). rw k (ap (λ ps. u.serial ∷ ps) (serials_turned s a b us)))
    (cases_Bool (is_at s a u))

pub target_placed : (t : TargetState) (d : DeviceState) (lists : List Taken) (s : ℕ) → TargetKeeps t d lists → TargetKeeps t (placed_in d s) lists
target_placed t d lists s k =
    record {
      settings = k.settings;
      now = k.now;
      blocked = k.blocked;
      accepted = k.accepted;
      rows = k.rows ∙ sym (pending_turned lists s Parked Placed d.unfinished);
      delayed = k.delayed;
      cleaned = k.cleaned;
      laid = k.laid;
      cleared = k.cleared;
      broken = k.broken;
      log = k.log;
    }

pub user_placed : (r : RegionState) (user : UserState) (rows : List PendingRow) (d : DeviceState) (lists : List Taken) (s : ℕ) (u : Unfinished) (p : sides.Parked) (parts : List (List ℕ)) (rest : List GivenJob) →
    CanAnswer d → UserKeeps user d → CanPlace user rows d lists s u p parts → UserKeeps (placed_one (placing_of r user) p rest).user (placed_in d s)
user_placed r user rows d lists s u p parts rest can k place =
    let i : Into user d = goes_into user rows d lists s u p parts can place in
    let e : (placed_one (placing_of r user) p rest).user ≡ (placed_at (placing_of r user) p rest (place_of d.ring i.entry.index ∷ drop (length d.placed + 1) (command_places d.ring.size 0 (take d.ring.dispatched d.ring.laid)))).user =
    ap (λ ats. (placed_at (placing_of r user) p rest ats).user) i.first in
    let l : length (d.placed ++ s ∷ []) ≡ length d.placed + 1 = length-append d.placed (s ∷ []) in
    subst (λ (z : UserState). UserKeeps z (placed_in d s)) (sym e)
    (record {
      ring = k.ring;
      pages = k.pages;
      flags = k.flags;
      tail = k.tail;
      dispatched = k.dispatched;
      placed = ap (λ n. n + 1) k.placed ∙ sym l;
      published = k.published;
      place = k.place;
      items = k.items;
    })

-- the offsets that are left
pub offsets_placed : (r : RegionState) (user : UserState) (rows : List PendingRow) (d : DeviceState) (lists : List Taken) (s : ℕ) (u : Unfinished) (p : sides.Parked) (parts : List (List ℕ)) (rest : List GivenJob) →
    CanAnswer d → CanPlace user rows d lists s u p parts →
    (placed_one (placing_of r user) p rest).user.offsets ≡ drop (length (placed_in d s).placed) (command_places d.ring.size 0 (take d.ring.dispatched d.ring.laid))
offsets_placed r user rows d lists s u p parts rest can place =
    let i : Into user d = goes_into user rows d lists s u p parts can place in
    let l : length (d.placed ++ s ∷ []) ≡ length d.placed + 1 = length-append d.placed (s ∷ []) in
    ap (λ ats. (placed_at (placing_of r user) p rest ats).user.offsets) i.first
    ∙ ap (λ n. drop n (command_places d.ring.size 0 (take d.ring.dispatched d.ring.laid))) (sym l)

pub can_placed : (d : DeviceState) (s : ℕ) → CanAnswer d → CanAnswer (placed_in d s)
can_placed d s can =
    let l : length (d.placed ++ s ∷ []) ≡ length d.placed + 1 = length-append d.placed (s ∷ []) in
    record {
      holds = can.holds;
      cleared = can.cleared;
      published = can.published;
      dispatched = can.dispatched;
      answered = omega (arith, can.answered, l);
      differ = subst Differ (sym (serials_turned s Parked Placed d.unfinished)) can.differ;
      long = can.long;
    }

-- no note stands in the entry of an answer
pub notes_placed : (r : RegionState) (user : UserState) (items : List Recorded) (rows : List PendingRow) (d : DeviceState) (lists : List Taken) (s : ℕ) (u : Unfinished) (p : sides.Parked) (parts : List (List ℕ)) (rest : List GivenJob) →
    CanAnswer d → RingStands r.front items d lists → CanPlace user rows d lists s u p parts → NotesStand r.front rows d → NotesStand (placed_one (placing_of r user) p rest).region.front rows (placed_in d s)
notes_placed r user items rows d lists s u p parts rest can stands place notes = λ j n type_ ss l g.
    let i : Into user d = goes_into user rows d lists s u p parts can place in
    let c1 : d.ring.cleared ≤ d.ring.published = can.cleared in
    let c2 : d.ring.published ≤ d.ring.dispatched = can.published in
    let late : d.ring.dispatched ≤ j = l in
    let early : i.entry.index < d.ring.dispatched = i.entry.dispatched in
    let same : entry_at (answer_into r.front d (place_of d.ring i.entry.index) p.job.id u p.reply) (place_of d.ring j) n ≡ entry_at r.front (place_of d.ring j) n =
    other-kept r.front d p.job.id u p.reply i.entry.index j i.entry.item (record { len = n; laid = ring.Tmr type_ ss }) can stands.long i.entry.uncleared (omega arith) i.entry.there g i.entry.command (λ q. absurd (omega arith)) in
    subst (λ (e : List ℕ). NoteStands rows (serials_in (take j d.ring.laid)) (serials_in (drop j d.ring.laid)) type_ ss (ids_in (length ss) 32 e))
    (sym (ap (λ z. entry_at z (place_of d.ring j) n) (front_answered r user rows d lists s u p parts rest place i) ∙ same)) (notes j n type_ ss l g)
