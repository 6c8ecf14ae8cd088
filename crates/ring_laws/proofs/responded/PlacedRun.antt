-- Where answers are placed in order: the device goes along the serials laid, the user side along its jobs, and both place the same answers.
use Rattle.std.proofs.Common.{◌≡◌, ℕ, ◌+◌, ◌≤◌, ◌||◌, ◌&&◌, Bool, true, false, List, [], ◌∷◌, ◌++◌, length, take, drop, map, filter, refl, sym, ap, ◌∙◌, arith, Some, None, subst, ⊎_elim, append_assoc, length-append}
use Rattle.std.specs.List.{list_any}
use Rattle.std.proofs.lemmas.Bool.{cases_Bool, or_parts, or_right, or_left, and_from, eq-eqb}
use Rattle.std.proofs.lemmas.List.Elements.{filter-append}
use Rattle.std.proofs.lemmas.List.Folds.{list_any-append}
use Rattle.tcmu_model.specs.declared.state.CommandState.{CommandState}
use Rattle.tcmu_model.specs.declared.state.CommandState.TheVariants.{Parked, Placed}
use Rattle.tcmu_model.specs.States.{same_state}
use Rattle.tcmu_types.specs.Lists.{first_of, Every}
use Rattle.tcmu_model.specs.RingState.{serials_in, dispatched_commands}
use Rattle.tcmu_model.specs.Device.{Unfinished, DeviceState, has_serial, has_state, is_at}
use Rattle.tcmu_model.specs.Events.{in_state, is_in_hand, run_placed, turned}
use Rattle.tcmu_types.specs.Numbers.{is_among, Rise}
use Rattle.tcmu_model.specs.Events as events
use Rattle.tcmu_model.specs.BlockLists.{Taken}
use Rattle.region_model.specs.Regions.{RegionState}
use Rattle.tcmu_model.proofs.CommandStates.{state_is}
use Rattle.tcmu_types.proofs.Everies.{every-append, every-none, every-weaker}
use Rattle.tcmu_types.proofs.Rises.{every-among, not_above, not_among, rise_seam}
use Rattle.region_model.specs.Sides.{GivenJob, PendingRow, UserState}
use Rattle.region_model.specs.Sides as sides
use Rattle.region_model.specs.Represents.{AreGiven, IsJobOf, command_places}
use Rattle.region_model.specs.UserSteps.{Placing, placed_at, placed_front, placed_one}
use Rattle.ring_laws.specs.Placed.{CanAnswer, CanFill, CanPlace, placed_in}
use Rattle.ring_laws.proofs.placed.AnswerBlocks.{fill_placed}
use Rattle.ring_laws.proofs.responded.OrderedRows.{InOrder, not_parked, turned-behind}
use Rattle.ring_laws.proofs.placed.PlacedAnswers.{Into, can_placed, goes_into, offsets_placed, placing_of}
use Rattle.ring_laws.proofs.Matched.{matched, unmatched}

-- ==== lists

pub first-past : {X : Type 0} (p : X → Bool) (front back : List X) → Every (λ x. p x ≡ false) front → first_of p (front ++ back) ≡ first_of p back
first-past p [] back e = refl
first-past p (x ∷ front) back e = let n : p x ≡ false = e.0 in rw n (first-past p front back e.1)

first-behind : {X : Type 0} (p : X → Bool) (front : List X) (x : X) (back : List X) → Every (λ y. p y ≡ false) front → p x ≡ true → first_of p (front ++ x ∷ back) ≡ Some x
first-behind p front x back e h = first-past p front (x ∷ back) e ∙ (rw h refl)

none-filter : {X : Type 0} (p : X → Bool) (xs : List X) → list_any p xs ≡ false → filter p xs ≡ []
none-filter p [] h = refl
none-filter p (x ∷ xs) h = let t = or_parts (p x) (list_any p xs) h in let n : p x ≡ false = t.0 in rw n (none-filter p xs t.1)

filter-none : {X : Type 0} (p : X → Bool) (xs : List X) → Every (λ x. p x ≡ false) xs → filter p xs ≡ []
filter-none p xs e = none-filter p xs (every-none p xs e)

-- a serial that no command has is at none
pub none-with : (s : ℕ) (t : CommandState) (us : List Unfinished) → is_among (map (λ u. u.serial) us) s ≡ false → list_any (is_at s t) us ≡ false
none-with s t [] h = refl
none-with s t (u ∷ us) h =
    let k = or_parts (has_serial s u) (is_among (map (λ u. u.serial) us) s) h in
    let n : is_at s t u ≡ false = ap (λ b. b && same_state u.state t) k.0 in
    rw n (none-with s t us k.1)

-- the commands in hand are among those behind the answers placed
pub in_hand_behind : (d : DeviceState) (more : List Unfinished) → InOrder d more → filter is_in_hand d.unfinished ≡ filter is_in_hand more
in_hand_behind d more h = ap (filter is_in_hand) h.rows ∙ filter-append is_in_hand h.done more ∙ ap (λ us. us ++ filter is_in_hand more) (filter-none is_in_hand h.done h.none)

-- ==== the device

-- a device whose parked commands are placed along serials, up to the first that is not parked
abbrev pub ran : DeviceState → List ℕ → DeviceState
ran d ss = let p : events.Placing = run_placed (record { placed = d.placed; unfinished = d.unfinished }) ss in record d { unfinished = p.unfinished; placed = p.placed }

-- serials that are placed are passed by
pub passes : (p : events.Placing) (front ss : List ℕ) → Every (λ s. is_among p.placed s ≡ true) front → run_placed p (front ++ ss) ≡ run_placed p ss
passes p [] ss e = refl
passes p (s ∷ front) ss e = let y : is_among p.placed s ≡ true = e.0 in rw y (passes p front ss e.1)

pub ran_laid : (d : DeviceState) (more : List Unfinished) → InOrder d more → ran d (serials_in d.ring.laid) ≡ ran d (map (λ u. u.serial) more)
ran_laid d more h =
    let start : events.Placing = record { placed = d.placed; unfinished = d.unfinished } in
    ap (ran d) h.laid ∙ ap (λ (p : events.Placing). record d { unfinished = p.unfinished; placed = p.placed }) (passes start d.placed (map (λ u. u.serial) more) (every-among d.placed))

-- the next command is not placed, and stands once
pub record IsNext (d : DeviceState) (u : Unfinished) (us : List Unfinished) : Type 0 where
  pub new : is_among d.placed u.serial ≡ false
  pub once : is_among (map (λ v. v.serial) us) u.serial ≡ false

pub is_next : (d : DeviceState) (u : Unfinished) (us : List Unfinished) → InOrder d (u ∷ us) → IsNext d u us
is_next d u us h =
    let r = rise_seam 0 d.placed u.serial (map (λ v. v.serial) us) d.accepted (subst (λ (xs : List ℕ). Rise 0 xs d.accepted) h.laid h.rise) in
    record { new = not_among d.placed u.serial r.0; once = not_above u.serial (map (λ v. v.serial) us) d.accepted u.serial r.2 (omega arith) }

at_parked : (u : Unfinished) → u.state ≡ Parked → is_at u.serial Parked u ≡ true
at_parked u st = and_from _ _ (eq-eqb u.serial u.serial refl) (ap (λ t. same_state t Parked) st)

none_parked : (d : DeviceState) (more : List Unfinished) (s : ℕ) → (h : InOrder d more) → Every (λ u. is_at s Parked u ≡ false) h.done
none_parked d more s h = every-weaker (λ u. is_in_hand u ≡ false) (λ u. is_at s Parked u ≡ false) h.done (λ u k. not_parked s u k) h.none

pub found_next : (d : DeviceState) (u : Unfinished) (us : List Unfinished) → InOrder d (u ∷ us) → u.state ≡ Parked → first_of (is_at u.serial Parked) d.unfinished ≡ Some u
found_next d u us h st = ap (first_of (is_at u.serial Parked)) h.rows ∙ first-behind (is_at u.serial Parked) h.done u us (none_parked d (u ∷ us) u.serial h) (at_parked u st)

-- where the next command is parked the run goes on behind it, and else it stops
pub goes : (d : DeviceState) (u : Unfinished) (us : List Unfinished) → InOrder d (u ∷ us) → u.state ≡ Parked → ran d (map (λ v. v.serial) (u ∷ us)) ≡ ran (placed_in d u.serial) (map (λ v. v.serial) us)
goes d u us h st =
    let new : is_among d.placed u.serial ≡ false = (is_next d u us h).new in
    let at : is_at u.serial Parked u ≡ true = at_parked u st in
    let here : list_any (is_at u.serial Parked) (u ∷ us) ≡ true = or_left (is_at u.serial Parked u) (list_any (is_at u.serial Parked) us) at in
    let there : list_any (is_at u.serial Parked) d.unfinished ≡ true =
    ap (list_any (is_at u.serial Parked)) h.rows ∙ list_any-append (is_at u.serial Parked) h.done (u ∷ us) ∙ or_right (list_any (is_at u.serial Parked) h.done) (list_any (is_at u.serial Parked) (u ∷ us)) here in
    rw (new, there) refl

pub stops : (d : DeviceState) (u : Unfinished) (us : List Unfinished) → InOrder d (u ∷ us) → has_state Parked u ≡ false → ran d (map (λ v. v.serial) (u ∷ us)) ≡ d
stops d u us h n =
    let next = is_next d u us h in
    let new : is_among d.placed u.serial ≡ false = next.new in
    let at : is_at u.serial Parked u ≡ false = ap (λ b. has_serial u.serial u && b) n ∙ never (has_serial u.serial u) in
    let here : list_any (is_at u.serial Parked) (u ∷ us) ≡ false = rw at (none-with u.serial Parked us next.once) in
    let before : list_any (is_at u.serial Parked) h.done ≡ false = every-none (is_at u.serial Parked) h.done (none_parked d (u ∷ us) u.serial h) in
    let there : list_any (is_at u.serial Parked) d.unfinished ≡ false =
    ap (list_any (is_at u.serial Parked)) h.rows ∙ list_any-append (is_at u.serial Parked) h.done (u ∷ us) ∙ ap (λ b. b || list_any (is_at u.serial Parked) (u ∷ us)) before ∙ here in
    rw (new, there) refl
  where
    never : (b : Bool) → (b && false) ≡ false
    never true = refl
    never false = refl

pub order_placed : (d : DeviceState) (u : Unfinished) (us : List Unfinished) → InOrder d (u ∷ us) → u.state ≡ Parked → InOrder (placed_in d u.serial) us
order_placed d u us h st =
    let at : is_at u.serial Parked u ≡ true = at_parked u st in
    let first : turned u.serial Parked Placed (u ∷ us) ≡ in_state Placed u ∷ us = rw at refl in
    record {
      done = h.done ++ in_state Placed u ∷ [];
      rows = ap (turned u.serial Parked Placed) h.rows ∙ turned-behind u.serial Parked Placed h.done (u ∷ us) (none_parked d (u ∷ us) u.serial h)
          ∙ ap (λ vs. h.done ++ vs) first ∙ sym (append_assoc h.done (in_state Placed u ∷ []) us);
      none = every-append (λ v. is_in_hand v ≡ false) h.done (in_state Placed u ∷ []) h.none (refl, tt);
      hand = h.hand.1;
      laid = h.laid ∙ sym (append_assoc d.placed (u.serial ∷ []) (map (λ v. v.serial) us));
      rise = h.rise;
    }

-- ==== both sides

-- What both sides come with between two answers: these commands are still laid behind the answers placed, and these are the jobs of those in
-- hand. An entry is left for each.
pub record Between (rows : List PendingRow) (lists : List Taken) (user : UserState) (jobs : List GivenJob) (d : DeviceState) (more : List Unfinished) : Type 0 where
  pub can : CanAnswer d
  pub fill : CanFill d lists
  pub order : InOrder d more
  pub known : user.jobs ≡ jobs
  pub given : AreGiven d.settings rows lists jobs (filter is_in_hand more)
  pub room : length d.placed + length jobs ≤ dispatched_commands d.ring
  pub flags : user.flags ≡ d.settings.flags
  pub offsets : user.offsets ≡ drop (length d.placed) (command_places d.ring.size 0 (take d.ring.dispatched d.ring.laid))

-- placing an answer keeps this
abbrev pub Keeps : List PendingRow → List Taken → (Placing → DeviceState → Type 0) → Type 0
Keeps rows lists P =
    (r : RegionState) (user : UserState) (d : DeviceState) (s : ℕ) (u : Unfinished) (p : sides.Parked) (parts : List (List ℕ)) (rest : List GivenJob) →
    CanAnswer d → CanFill d lists → CanPlace user rows d lists s u p parts → P (placing_of r user) d → P (placed_one (placing_of r user) p rest) (placed_in d s)

-- where a run comes to, it is kept
pub record Ran (rows : List PendingRow) (lists : List Taken) (P : Placing → DeviceState → Type 0) (k : Placing) (d : DeviceState) : Type 0 where
  pub kept : P k d
  pub more : List Unfinished
  pub between : Between rows lists k.user k.user.jobs d more

-- the job of the next command has its reply where the command is parked
record NextJob (rows : List PendingRow) (lists : List Taken) (user : UserState) (d : DeviceState) (g : GivenJob) (gs : List GivenJob) (u : Unfinished) (us : List Unfinished) : Type 0 where
  p : sides.Parked
  parts : List (List ℕ)
  answer : g.parked ≡ Some p
  place : CanPlace user rows d lists u.serial u p parts
  given : AreGiven d.settings rows lists gs (filter is_in_hand us)

next_job : (rows : List PendingRow) (lists : List Taken) (user : UserState) (d : DeviceState) (g : GivenJob) (gs : List GivenJob) (u : Unfinished) (us : List Unfinished) →
    Between rows lists user (g ∷ gs) d (u ∷ us) → u.state ≡ Parked → NextJob rows lists user d g gs u us
next_job rows lists user d g gs u us b st =
    let hand : is_in_hand u ≡ true = rw st refl in
    let parked : has_state Parked u ≡ true = rw st refl in
    let given : AreGiven d.settings rows lists (g ∷ gs) (u ∷ filter is_in_hand us) = rw hand at (b.given) in
    let job = matched (has_state Parked u) ((p : sides.Parked) × (g.parked ≡ Some p) × (u.reply ≡ Some p.reply) × (parts : List (List ℕ)) × IsJobOf d.settings rows lists u p.job parts) (g.parked ≡ None) parked given.0.1 in
    let room : length d.placed + length (g ∷ gs) ≤ dispatched_commands d.ring = b.room in
    record {
      p = job.0;
      parts = job.3;
      answer = job.1;
      place = record {
        found = found_next d u us b.order st;
        replied = job.2;
        job = job.4;
        behind = omega (arith, room);
        flags = b.flags;
        offsets = b.offsets;
      };
      given = given.1;
    }

between_placed : (rows : List PendingRow) (lists : List Taken) (k : Placing) (d : DeviceState) (g : GivenJob) (gs : List GivenJob) (u : Unfinished) (us : List Unfinished) →
    Between rows lists k.user (g ∷ gs) d (u ∷ us) → u.state ≡ Parked → (n : NextJob rows lists k.user d g gs u us) → Between rows lists (placed_one k n.p gs).user gs (placed_in d u.serial) us
between_placed rows lists k d g gs u us b st n =
    let into : Into k.user d = goes_into k.user rows d lists u.serial u n.p n.parts b.can n.place in
    let room : length d.placed + length (g ∷ gs) ≤ dispatched_commands d.ring = b.room in
    let l : length (d.placed ++ u.serial ∷ []) ≡ length d.placed + 1 = length-append d.placed (u.serial ∷ []) in
    record {
      can = can_placed d u.serial b.can;
      fill = fill_placed d lists u.serial b.fill;
      order = order_placed d u us b.order st;
      known = ap (λ ats. (placed_at k n.p gs ats).user.jobs) into.first;
      given = n.given;
      room = omega (arith, room, l);
      flags = ap (λ ats. (placed_at k n.p gs ats).user.flags) into.first ∙ b.flags;
      offsets = offsets_placed k.region k.user rows d lists u.serial u n.p n.parts gs b.can n.place;
    }

-- a job without its reply ends the run of the user side
front_stops : (k : Placing) (g : GivenJob) (gs : List GivenJob) → g.parked ≡ None → placed_front k (g ∷ gs) ≡ k
front_stops k g gs e = rw e refl

front_goes : (k : Placing) (g : GivenJob) (gs : List GivenJob) (p : sides.Parked) → g.parked ≡ Some p → placed_front k (g ∷ gs) ≡ placed_front (placed_one k p gs) gs
front_goes k g gs p e = rw e refl

-- both runs stop at a command that is not parked
both_stop : (rows : List PendingRow) (lists : List Taken) (P : Placing → DeviceState → Type 0) (k : Placing) (d : DeviceState) (jobs : List GivenJob) (u : Unfinished) (us : List Unfinished) →
    Between rows lists k.user jobs d (u ∷ us) → P k d → has_state Parked u ≡ false → placed_front k jobs ≡ k → Ran rows lists P (placed_front k jobs) (ran d (map (λ v. v.serial) (u ∷ us)))
both_stop rows lists P k d jobs u us b kept n e =
    subst (λ (z : Placing). Ran rows lists P z (ran d (map (λ v. v.serial) (u ∷ us)))) (sym e)
    (subst (λ (z : DeviceState). Ran rows lists P k z) (sym (stops d u us b.order n))
    (record { kept = kept; more = u ∷ us; between = subst (λ (js : List GivenJob). Between rows lists k.user js d (u ∷ us)) (sym b.known) b }))

job_stops : (rows : List PendingRow) (lists : List Taken) (k : Placing) (d : DeviceState) (jobs : List GivenJob) (u : Unfinished) (us : List Unfinished) →
    Between rows lists k.user jobs d (u ∷ us) → has_state Parked u ≡ false → placed_front k jobs ≡ k
job_stops rows lists k d [] u us b n = refl
job_stops rows lists k d (g ∷ gs) u us b n =
    ⊎_elim
    (λ (e : is_in_hand u ≡ true).
    let given : AreGiven d.settings rows lists (g ∷ gs) (u ∷ filter is_in_hand us) = rw e at (b.given) in
    front_stops k g gs (unmatched (has_state Parked u) ((p : sides.Parked) × (g.parked ≡ Some p) × (u.reply ≡ Some p.reply) × (parts : List (List ℕ)) × IsJobOf d.settings rows lists u p.job parts) (g.parked ≡ None) n given.0.1))
    (λ (e : is_in_hand u ≡ false).
    let none : filter is_in_hand us ≡ [] = none-filter is_in_hand us (b.order.hand.0 e) in
    let given : AreGiven d.settings rows lists (g ∷ gs) (filter is_in_hand us) = rw e at (b.given) in
    absurd (subst (AreGiven d.settings rows lists (g ∷ gs)) none given))
    (cases_Bool (is_in_hand u))

-- the runs of both sides together
pub runs : (rows : List PendingRow) (lists : List Taken) (P : Placing → DeviceState → Type 0) → Keeps rows lists P → (k : Placing) (d : DeviceState) (jobs : List GivenJob) (more : List Unfinished) →
    Between rows lists k.user jobs d more → P k d → Ran rows lists P (placed_front k jobs) (ran d (map (λ v. v.serial) more))
runs rows lists P keeps k d [] [] b kept =
    record { kept = kept; more = []; between = subst (λ (js : List GivenJob). Between rows lists k.user js d []) (sym b.known) b }
runs rows lists P keeps k d (g ∷ gs) [] b kept = absurd (b.given)
runs rows lists P keeps k d [] (u ∷ us) b kept =
    ⊎_elim
    (λ (e : has_state Parked u ≡ true).
    let st : u.state ≡ Parked = state_is u.state Parked e in
    let hand : is_in_hand u ≡ true = rw st refl in
    let given : AreGiven d.settings rows lists [] (u ∷ filter is_in_hand us) = rw hand at (b.given) in
    absurd given)
    (λ (e : has_state Parked u ≡ false). both_stop rows lists P k d [] u us b kept e refl)
    (cases_Bool (has_state Parked u))
runs rows lists P keeps k d (g ∷ gs) (u ∷ us) b kept =
    ⊎_elim
    (λ (e : has_state Parked u ≡ true).
    let st : u.state ≡ Parked = state_is u.state Parked e in
    let n = next_job rows lists k.user d g gs u us b st in
    subst (λ (z : Placing). Ran rows lists P z (ran d (map (λ v. v.serial) (u ∷ us)))) (sym (front_goes k g gs n.p n.answer))
    (subst (λ (z : DeviceState). Ran rows lists P (placed_front (placed_one k n.p gs) gs) z) (sym (goes d u us b.order st))
    (runs rows lists P keeps (placed_one k n.p gs) (placed_in d u.serial) gs us (between_placed rows lists k d g gs u us b st n)
    (keeps k.region k.user d u.serial u n.p n.parts gs b.can b.fill n.place kept))))
    (λ (e : has_state Parked u ≡ false). both_stop rows lists P k d (g ∷ gs) u us b kept e (job_stops rows lists k d (g ∷ gs) u us b e))
    (cases_Bool (has_state Parked u))
