-- A dispatch: what it keeps of the ring, the ids, the notes, both sides' records and the lists.
use Rattle.std.proofs.Common.{◌≡◌, ℕ, ◌+◌, true, false, cond, List, [], ◌∷◌, ◌++◌, take, drop, map, refl, sym, ap, ◌∙◌, arith, suc, Option, Some, None, subst, ⊎_elim}
use Rattle.std.specs.List.{prefix_len}
use Rattle.std.proofs.lemmas.Bool.{cases_Bool}
use Rattle.std.proofs.lemmas.List.Sums.{sum_by-cons}
use Rattle.tcmu_model.specs.declared.state.CommandState.TheVariants.{Waiting, Out}
use Rattle.tcmu_model.specs.RingState.{Item, Laid, commands_in, is_command, is_pad, next_place, dispatched_commands, published_commands}
use Rattle.tcmu_model.specs.RingState as ring
use Rattle.tcmu_model.specs.Device.{Unfinished, DeviceState, is_at}
use Rattle.tcmu_model.specs.Events.{after_dispatch, after_item, next_item, passed, turned}
use Rattle.tcmu_model.specs.BlockLists.{Taken, list_of, held_by}
use Rattle.region_model.specs.Picture.{place_of}
use Rattle.region_model.specs.Regions.{RegionState}
use Rattle.region_model.specs.Sides.{InHand, PendingRow, Recorded, TargetState, UserState}
use Rattle.region_model.specs.Represents.{RingStands, IdsStand, NotesStand, TargetKeeps, UserKeeps, pending_of, recorded}
use Rattle.region_model.specs.UserNext.{nexted}
use Rattle.ring_laws.specs.Dispatched.{CanDispatch}
use Rattle.ring_laws.proofs.placed.AnswerBytes.{turned-found}
use Rattle.ring_laws.proofs.cleaned.CleanedOne.{commands-next}
use Rattle.ring_laws.proofs.dispatched.NextCases.{after_at, after_detached, by_next, noted_in, sent_in}
use Rattle.ring_laws.proofs.placed.PlacedAnswers.{pending_turned}
use Rattle.ring_laws.proofs.laid.LaidRing.{commands-append}
use Rattle.ring_laws.proofs.published.TailMoved.{take_more}
use Rattle.ring_laws.proofs.ticked.Ticked.{ring_by}
use Rattle.tcmu_model.proofs.Unnamed.{found_item}

-- ==== the ring, the ids and the notes

ring_noted : (front : List ℕ) (items : List Recorded) (d : DeviceState) (lists : List Taken) → RingStands front items d lists → RingStands front items (noted_in d) lists
ring_noted front items d lists h = record { long = h.long; mailbox = h.mailbox; stands = h.stands; recorded = h.recorded }

ring_sent : (front : List ℕ) (items : List Recorded) (d : DeviceState) (lists : List Taken) (s : ℕ) → RingStands front items d lists → RingStands front items (sent_in d s) lists
ring_sent front items d lists s h =
    let k : RingStands front items (record d { unfinished = turned s Waiting Out d.unfinished }) lists =
    ring_by front items d d.now d.blocked d.attached (turned s Waiting Out d.unfinished) d.delayed d.log lists (λ k q g rl id r. turned-found s q Waiting Out d.unfinished rl id r) h in
    record { long = k.long; mailbox = k.mailbox; stands = k.stands; recorded = k.recorded }

pub ring_dispatched : (r : RegionState) (t : TargetState) (user : UserState) (hand : List InHand) (d : DeviceState) (lists : List Taken) → CanDispatch r t user hand d lists →
    RingStands (nexted r user).region.front t.items (after_dispatch d) lists
ring_dispatched r t user hand d lists h =
    by_next (λ z a e. RingStands z.region.front t.items e lists) r t user hand d lists h
    (record { none = λ e. h.ring; job = λ n s c e. ring_sent r.front t.items d lists s h.ring; note = λ n k m ss e b. ring_noted r.front t.items d lists h.ring })

ids_passed : (front : List ℕ) (rows : List PendingRow) (d : DeviceState) (us : List Unfinished) → IdsStand front rows d → IdsStand front rows (record d { ring = passed d.ring; unfinished = us })
ids_passed front rows d us h = record { range = h.range; differ = h.differ; answered = h.answered; own = λ i n s c l g. h.own i n s c (omega arith) g }

pub ids_dispatched : (r : RegionState) (t : TargetState) (user : UserState) (hand : List InHand) (d : DeviceState) (lists : List Taken) → CanDispatch r t user hand d lists →
    IdsStand (nexted r user).region.front t.rows (after_dispatch d)
ids_dispatched r t user hand d lists h =
    by_next (λ z a e. IdsStand z.region.front t.rows e) r t user hand d lists h
    (record { none = λ e. h.ids; job = λ n s c e. ids_passed r.front t.rows d (turned s Waiting Out d.unfinished) h.ids; note = λ n k m ss e b. ids_passed r.front t.rows d d.unfinished h.ids })

notes_passed : (front : List ℕ) (rows : List PendingRow) (d : DeviceState) (us : List Unfinished) → NotesStand front rows d → NotesStand front rows (record d { ring = passed d.ring; unfinished = us })
notes_passed front rows d us h = λ i n kind ss l g. h i n kind ss (omega arith) g

pub notes_dispatched : (r : RegionState) (t : TargetState) (user : UserState) (hand : List InHand) (d : DeviceState) (lists : List Taken) → CanDispatch r t user hand d lists →
    NotesStand (nexted r user).region.front t.rows (after_dispatch d)
notes_dispatched r t user hand d lists h =
    by_next (λ z a e. NotesStand z.region.front t.rows e) r t user hand d lists h
    (record { none = λ e. h.notes; job = λ n s c e. notes_passed r.front t.rows d (turned s Waiting Out d.unfinished) h.notes; note = λ n k m ss e b. notes_passed r.front t.rows d d.unfinished h.notes })

pub pages_dispatched : (r : RegionState) (t : TargetState) (user : UserState) (hand : List InHand) (d : DeviceState) (lists : List Taken) → CanDispatch r t user hand d lists →
    (nexted r user).region.pages ≡ (after_dispatch d).settings.pages
pages_dispatched r t user hand d lists h =
    by_next (λ z a e. z.region.pages ≡ e.settings.pages) r t user hand d lists h (record { none = λ e. h.pages; job = λ n s c e. h.pages; note = λ n k m ss e b. h.pages })

-- ==== the user side's records

-- padding is no command
pub no_command : (n : ℕ) (l : Laid) → is_pad (record { len = n; laid = l }) ≡ true → is_command (record { len = n; laid = l }) ≡ false
no_command n ring.Pad h = refl
no_command n (ring.Cmd s c) h = absurd (cc)
no_command n (ring.Tmr k ss) h = refl

no_commands : (xs : List Item) → commands_in (take (prefix_len is_pad xs) xs) ≡ 0
no_commands [] = refl
no_commands (x ∷ xs) =
    ⊎_elim
    (λ (p : is_pad x ≡ true).
    let k : 1 + prefix_len is_pad xs ≡ suc (prefix_len is_pad xs) = omega arith in
    let c : is_command x ≡ false = no_command x.len x.laid p in
    let s : commands_in (x ∷ take (prefix_len is_pad xs) xs) ≡ cond (is_command x) 1 0 + commands_in (take (prefix_len is_pad xs) xs) = sum_by-cons (λ (y : Item). cond {A = ℕ} (is_command y) 1 0) x (take (prefix_len is_pad xs) xs) in
    let z : ◌≡◌ {A = ℕ} (cond (is_command x) 1 0) 0 = ap (λ b. cond {A = ℕ} b 1 0) c in
    let q : commands_in (x ∷ take (prefix_len is_pad xs) xs) ≡ 0 = omega (arith, s, z, no_commands xs) in
    rw p (ap (λ m. commands_in (take m (x ∷ xs))) k ∙ q))
    (λ (p : is_pad x ≡ false). rw p refl)
    (cases_Bool (is_pad x))

commands_to : (d : DeviceState) → commands_in (take (next_place d.ring) d.ring.laid) ≡ dispatched_commands d.ring
commands_to d =
    let xs : List Item = drop d.ring.dispatched d.ring.laid in
    let a : commands_in (take (next_place d.ring) d.ring.laid) ≡ commands_in (take d.ring.dispatched d.ring.laid) + commands_in (take (prefix_len is_pad xs) xs) =
    ap commands_in (take_more d.ring.dispatched (prefix_len is_pad xs) d.ring.laid) ∙ commands-append (take d.ring.dispatched d.ring.laid) (take (prefix_len is_pad xs) xs) in
    omega (arith, a, no_commands xs)

-- with the next item they are counted
commands_behind : (d : DeviceState) (x : Item) → next_item d ≡ Some x → commands_in (take (next_place d.ring + 1) d.ring.laid) ≡ dispatched_commands d.ring + cond (is_command x) 1 0
commands_behind d x g =
    let k : next_place d.ring + 1 ≡ suc (next_place d.ring) = omega arith in
    ap (λ m. commands_in (take m d.ring.laid)) k ∙ commands-next d.ring.laid (next_place d.ring) x g ∙ ap (λ m. m + cond {A = ℕ} (is_command x) 1 0) (commands_to d)

pub side_dispatched : (r : RegionState) (t : TargetState) (user : UserState) (hand : List InHand) (d : DeviceState) (lists : List Taken) → CanDispatch r t user hand d lists →
    UserKeeps (nexted r user).user (after_dispatch d)
side_dispatched r t user hand d lists h =
    let k : UserKeeps user d = h.side in
    let j : suc (next_place d.ring) ≡ next_place d.ring + 1 = omega arith in
    let at : place_of d.ring (suc (next_place d.ring)) ≡ place_of d.ring (next_place d.ring + 1) = ap (place_of d.ring) j in
    let xs : map recorded (drop d.ring.published (take (suc (next_place d.ring)) d.ring.laid)) ≡ map recorded (drop d.ring.published (take (next_place d.ring + 1) d.ring.laid)) = ap (λ m. map recorded (drop d.ring.published (take m d.ring.laid))) j in
    by_next (λ z a e. UserKeeps z.user e) r t user hand d lists h
    (record {
      none = λ e. h.side;
      job = λ n s c e. record {
        ring = k.ring;
        pages = k.pages;
        flags = k.flags;
        tail = k.tail;
        dispatched = ap (λ m. m + 1) k.dispatched ∙ sym (commands_behind d (record { len = n; laid = ring.Cmd s c }) e);
        placed = k.placed;
        published = k.published;
        place = λ a. at;
        items = λ a. xs;
      };
      note = λ n kind m ss e b.
          let none : dispatched_commands d.ring ≡ dispatched_commands d.ring + 0 = omega arith in
          record {
            ring = k.ring;
            pages = k.pages;
            flags = k.flags;
            tail = k.tail;
            dispatched = k.dispatched ∙ none ∙ sym (commands_behind d (record { len = n; laid = ring.Tmr kind ss }) e);
            placed = k.placed;
            published = k.published;
            place = λ a. at;
            items = λ a. xs;
          };
    })

-- ==== the target's records, and the lists

-- what an item turns of the commands
turned_by : (P : List Unfinished → Type 0) (us : List Unfinished) (n : ℕ) (l : Laid) → P us → ((s : ℕ) → P (turned s Waiting Out us)) → P (after_item us (record { len = n; laid = l }))
turned_by P us n ring.Pad h k = h
turned_by P us n (ring.Cmd s c) h k = k s
turned_by P us n (ring.Tmr kind ss) h k = h

-- a device behind a dispatch, whether or not it is attached
pub record Behind (P : DeviceState → Type 0) (d : DeviceState) : Type 0 where
  pub same : P d
  pub sent : (s : ℕ) → P (sent_in d s)
  pub noted : P (noted_in d)

behind : (P : DeviceState → Type 0) (d : DeviceState) → Behind P d → P (after_dispatch d)
behind P d h =
    ⊎_elim
    (λ (a : d.attached ≡ true). subst P (sym (after_at d (next_item d) a refl)) (by_item (next_item d)))
    (λ (a : d.attached ≡ false). subst P (sym (after_detached d a)) h.same)
    (cases_Bool d.attached)
  where
    by_item : (o : Option Item) → P (found_item d o)
    by_item None = h.same
    by_item (Some x) = turned_by (λ us. P (record d { ring = passed d.ring; unfinished = us })) d.unfinished x.len x.laid h.noted h.sent

target_passed : (t : TargetState) (d : DeviceState) (lists : List Taken) (us : List Unfinished) → map (pending_of lists) us ≡ map (pending_of lists) d.unfinished → TargetKeeps t d lists → TargetKeeps t (record d { ring = passed d.ring; unfinished = us }) lists
target_passed t d lists us e h =
    record {
      settings = h.settings;
      now = h.now;
      blocked = h.blocked;
      accepted = h.accepted;
      rows = h.rows ∙ sym e;
      delayed = h.delayed;
      cleaned = h.cleaned;
      laid = h.laid;
      cleared = h.cleared;
      broken = h.broken;
      log = h.log;
    }

pub target_dispatched : (t : TargetState) (d : DeviceState) (lists : List Taken) → TargetKeeps t d lists → TargetKeeps t (after_dispatch d) lists
target_dispatched t d lists h =
    behind (λ e. TargetKeeps t e lists) d
    (record { same = h; sent = λ s. target_passed t d lists (turned s Waiting Out d.unfinished) (pending_turned lists s Waiting Out d.unfinished) h; noted = target_passed t d lists d.unfinished refl h })

held_sent : (lists : List Taken) (s : ℕ) (us : List Unfinished) → held_by lists (turned s Waiting Out us) ≡ held_by lists us
held_sent lists s [] = refl
held_sent lists s (u ∷ us) =
    ⊎_elim
    (λ (k : is_at s Waiting u ≡ true). rw k refl)
    (λ (k : is_at s Waiting u ≡ false). rw k (ap (λ bs. list_of lists u.serial ++ bs) (held_sent lists s us)))
    (cases_Bool (is_at s Waiting u))
