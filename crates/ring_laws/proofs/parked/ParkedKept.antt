-- A handled command is parked: no point looks at it otherwise than before, but for the jobs.
use Rattle.std.proofs.Common.{◌≡◌, ℕ, true, false, List, [], ◌∷◌, ◌++◌, length, take, map, filter, refl, sym, ap, ◌∙◌, Option, Some, None, slice_get, subst, ⊎_elim}
use Rattle.std.specs.Prelude.{IfSome}
use Rattle.std.proofs.lemmas.Bool.{cases_Bool, and_parts}
use Rattle.tcmu_types.specs.Rules.{IsCommand}
use Rattle.tcmu_model.specs.declared.state.CommandState.{CommandState}
use Rattle.tcmu_model.specs.declared.state.CommandState.TheVariants.{Handled, Parked}
use Rattle.tcmu_types.specs.Lists.{first_of}
use Rattle.tcmu_model.specs.Lengths.{blocks_of, block_size}
use Rattle.tcmu_model.specs.RingState.{Item, Laid, commands_in}
use Rattle.tcmu_model.specs.RingState as ring
use Rattle.tcmu_model.specs.Device.{Unfinished, DeviceState, has_serial, is_at}
use Rattle.tcmu_model.specs.Events.{is_in_hand, in_state, turned}
use Rattle.tcmu_types.specs.Numbers.{is_among, Differ}
use Rattle.tcmu_model.specs.Sound.{IsSound, ReplyFits}
use Rattle.tcmu_model.specs.BlockLists.{Taken, list_of, held_by}
use Rattle.tcmu_model.proofs.CommandStates.{state_at, serial_at}
use Rattle.tcmu_types.proofs.Everies.{every-with_first}
use Rattle.region_model.specs.Picture.{place_of, item_bytes, entry_of, request_of, ids_named}
use Rattle.region_model.specs.Sides.{Recorded, PendingRow, TargetState, UserState}
use Rattle.region_model.specs.Represents.{RingStands, IdsStand, NotesStand, BlocksOf, BlocksStand, TargetKeeps, UserKeeps, entry_at, id_in, ids_in, pending_of}
use Rattle.tcmu_model.specs.Owned.{ListsSound}
use Rattle.ring_laws.specs.Placed.{CanAnswer, CanFill, parked_in}
use Rattle.ring_laws.proofs.placed.AnswerBytes.{turned-found}
use Rattle.ring_laws.proofs.placed.AnswerBlocks.{can_fill}
use Rattle.ring_laws.proofs.placed.Numbered.{can_answer}
use Rattle.ring_laws.proofs.TakenOut.{none_at}
use Rattle.ring_laws.proofs.Matched.{matched}

-- ==== a command whose state turns

map-turned : {X : Type 0} (f : Unfinished → X) (s : ℕ) (a b : CommandState) (us : List Unfinished) → ((u : Unfinished) → f (in_state b u) ≡ f u) → map f (turned s a b us) ≡ map f us
map-turned f s a b [] h = refl
map-turned f s a b (u ∷ us) h =
    ⊎_elim
    (λ (k : is_at s a u ≡ true). rw k (ap (λ y. y ∷ map f us) (h u)))
    (λ (k : is_at s a u ≡ false). rw k (ap (λ ys. f u ∷ ys) (map-turned f s a b us h)))
    (cases_Bool (is_at s a u))

held-turned : (lists : List Taken) (s : ℕ) (a b : CommandState) (us : List Unfinished) → held_by lists (turned s a b us) ≡ held_by lists us
held-turned lists s a b [] = refl
held-turned lists s a b (u ∷ us) =
    ⊎_elim
    (λ (k : is_at s a u ≡ true). rw k refl)
    (λ (k : is_at s a u ≡ false). rw k (ap (λ ys. list_of lists u.serial ++ ys) (held-turned lists s a b us)))
    (cases_Bool (is_at s a u))

hand-parked : (lists : List Taken) (s : ℕ) (us : List Unfinished) → held_by lists (filter is_in_hand (turned s Handled Parked us)) ≡ held_by lists (filter is_in_hand us)
hand-parked lists s [] = refl
hand-parked lists s (u ∷ us) =
    ⊎_elim
    (λ (k : is_at s Handled u ≡ true).
    let st : u.state ≡ Handled = state_at s Handled u k in
    let n : is_in_hand u ≡ true = rw st refl in
    rw (k, n) refl)
    (λ (k : is_at s Handled u ≡ false).
    ⊎_elim
    (λ (n : is_in_hand u ≡ true). rw (k, n) (ap (λ ys. list_of lists u.serial ++ ys) (hand-parked lists s us)))
    (λ (n : is_in_hand u ≡ false). rw (k, n) (hand-parked lists s us))
    (cases_Bool (is_in_hand u)))
    (cases_Bool (is_at s Handled u))

-- the command is found parked
pub found-parked : (s : ℕ) (us : List Unfinished) (u : Unfinished) → Differ (map (λ (v : Unfinished). v.serial) us) → first_of (is_at s Handled) us ≡ Some u → first_of (is_at s Parked) (turned s Handled Parked us) ≡ Some (in_state Parked u)
found-parked s [] u d f = absurd (cc)
found-parked s (v ∷ us) u d f =
    ⊎_elim
    (λ (k : is_at s Handled v ≡ true).
    let g : Some v ≡ Some u = rw k at f in
    let q : v ≡ u = cc in
    let z : is_at s Parked (in_state Parked v) ≡ true = (let m : has_serial s v ≡ true = (and_parts _ _ k).0 in rw m refl) in
    rw (k, z) (ap (λ (y : Unfinished). Some (in_state Parked y)) q))
    (λ (k : is_at s Handled v ≡ false).
    let g : first_of (is_at s Handled) us ≡ Some u = rw k at f in
    ⊎_elim
    (λ (z : is_at s Parked v ≡ true). let q : v.serial ≡ s = serial_at s Parked v z in absurd (none_at s Handled us u (subst (λ (y : ℕ). is_among (map (λ (w : Unfinished). w.serial) us) y ≡ false) q d.0) g))
    (λ (z : is_at s Parked v ≡ false). rw (k, z) (found-parked s us u d.1 g))
    (cases_Bool (is_at s Parked v)))
    (cases_Bool (is_at s Handled v))

-- ==== the points

entry_parked : (d : DeviceState) (s id : ℕ) (request : List ℕ) (o : Option ℕ) → entry_of (parked_in d s) id request o ≡ entry_of d id request o
entry_parked d s id request None = refl
entry_parked d s id request (Some q) = turned-found s q Handled Parked d.unfinished d.settings.flags.read_len id request

item_parked : (d : DeviceState) (lists : List Taken) (s i n : ℕ) (l : Laid) (id : ℕ) (ids : List ℕ) → item_bytes (parked_in d s) lists i id ids (record { len = n; laid = l }) ≡ item_bytes d lists i id ids (record { len = n; laid = l })
item_parked d lists s i n ring.Pad id ids = refl
item_parked d lists s i n (ring.Tmr kind ss) id ids = refl
item_parked d lists s i n (ring.Cmd q c) id ids = entry_parked d s id (request_of d.settings (list_of lists q) (place_of d.ring i) id c) (slice_get d.placed (commands_in (take i d.ring.laid)))

pub ring_parked : (front : List ℕ) (items : List Recorded) (d : DeviceState) (lists : List Taken) (s : ℕ) → RingStands front items d lists → RingStands front items (parked_in d s) lists
ring_parked front items d lists s h =
    record {
      long = h.long;
      mailbox = h.mailbox;
      stands = λ i x c g.
          let e : List ℕ = entry_at front (place_of d.ring i) x.len in
          h.stands i x c g ∙ sym (item_parked d lists s i x.len x.laid (id_in e) (ids_in (ids_named x) 32 e));
      recorded = h.recorded;
    }

pub ids_parked : (front : List ℕ) (rows : List PendingRow) (d : DeviceState) (s : ℕ) → IdsStand front rows d → IdsStand front rows (parked_in d s)
ids_parked front rows d s h = record { range = h.range; differ = h.differ; answered = h.answered; own = h.own }

pub notes_parked : (front : List ℕ) (rows : List PendingRow) (d : DeviceState) (s : ℕ) → NotesStand front rows d → NotesStand front rows (parked_in d s)
notes_parked front rows d s h = h

pub blocks_parked : (area : List (Option (List ℕ))) (d : DeviceState) (lists : List Taken) (s : ℕ) → BlocksStand area d lists → BlocksStand area (parked_in d s) lists
blocks_parked area d lists s h =
    let size : ℕ = block_size d.settings.pages in
    record {
      all = every-with_first (is_at s Handled) (in_state Parked) (BlocksOf size area lists) d.unfinished
          (λ u k p. let st : u.state ≡ Handled = state_at s Handled u k in matched (is_in_hand u) _ _ (rw st refl) p) h.all;
      just = λ b l. ap (λ bs. is_among bs b) (hand-parked lists s d.unfinished) ∙ h.just b l;
    }

pub target_parked : (t : TargetState) (d : DeviceState) (lists : List Taken) (s : ℕ) → TargetKeeps t d lists → TargetKeeps t (parked_in d s) lists
target_parked t d lists s h =
    record {
      settings = h.settings;
      now = h.now;
      blocked = h.blocked;
      accepted = h.accepted;
      rows = h.rows ∙ sym (map-turned (pending_of lists) s Handled Parked d.unfinished (λ u. refl));
      delayed = h.delayed;
      cleaned = h.cleaned;
      laid = h.laid;
      cleared = h.cleared;
      broken = h.broken;
      log = h.log;
    }

pub side_parked : (user : UserState) (d : DeviceState) (s : ℕ) → UserKeeps user d → UserKeeps user (parked_in d s)
side_parked user d s h =
    record { ring = h.ring; pages = h.pages; flags = h.flags; tail = h.tail; dispatched = h.dispatched; placed = h.placed; published = h.published; place = h.place; items = h.items }

-- the command of a serial in the one state turns to the other
abbrev pub turned_in : DeviceState → ℕ → CommandState → CommandState → DeviceState
turned_in d s a b = record d { unfinished = turned s a b d.unfinished }

-- ==== what placing rests on

pub can_answer_parked : (d : DeviceState) (s : ℕ) → IsSound d → CanAnswer (parked_in d s)
can_answer_parked d s sound =
    let h : CanAnswer d = can_answer d sound in
    record {
      holds = h.holds;
      cleared = h.cleared;
      published = h.published;
      dispatched = h.dispatched;
      answered = h.answered;
      differ = subst Differ (sym (map-turned (λ (u : Unfinished). u.serial) s Handled Parked d.unfinished (λ u. refl))) h.differ;
      long = h.long;
    }

pub can_fill_parked : (d : DeviceState) (lists : List Taken) (s : ℕ) → IsSound d → ListsSound d lists → CanFill (parked_in d s) lists
can_fill_parked d lists s sound owned =
    let h : CanFill d lists = can_fill d lists sound owned in
    record {
      pages = h.pages;
      ring = h.ring;
      commands = every-with_first (is_at s Handled) (in_state Parked) (λ (u : Unfinished). IsCommand u.command) d.unfinished (λ u k p. p) h.commands;
      replies = every-with_first (is_at s Handled) (in_state Parked) (λ (u : Unfinished). IfSome u.reply (ReplyFits u.command)) d.unfinished (λ u k p. p) h.replies;
      differ = subst Differ (sym (held-turned lists s Handled Parked d.unfinished)) h.differ;
      sizes = every-with_first (is_at s Handled) (in_state Parked) (λ (u : Unfinished). length (list_of lists u.serial) ≡ blocks_of d.settings.pages u.command) d.unfinished (λ u k p. p) h.sizes;
    }

pub found_parked : (d : DeviceState) (s : ℕ) (u : Unfinished) → IsSound d → first_of (is_at s Handled) d.unfinished ≡ Some u → first_of (is_at s Parked) (parked_in d s).unfinished ≡ Some (in_state Parked u)
found_parked d s u sound f = found-parked s d.unfinished u (can_answer d sound).differ f
