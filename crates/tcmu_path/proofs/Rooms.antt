-- Room for what is to be placed and logged.
use Rattle.std.proofs.Common.{◌≡◌, ℕ, ◌+◌, ◌≤◌, Bool, true, false, cond, List, [], ◌∷◌, Some, None, refl, ap, ◌∙◌, arith, ⊎_elim, map, if◌then◌else◌, ◌++◌, length}
use Rattle.std.specs.List.{list_any, sum_by, count_by}
use Rattle.tcmu_model.specs.declared.state.CommandState.{CommandState}
use Rattle.tcmu_model.specs.declared.state.CommandState.TheVariants.{Out, Parked, Placed, Lost}
use Rattle.tcmu_model.specs.Device.{Unfinished, is_at, has_state}
use Rattle.tcmu_model.specs.Events.{in_state, turned, is_open, completions, with_reply, expire, is_due, lose, is_losing}
use Rattle.tcmu_types.specs.Lists.{first_of, without_first, with_first}
use Rattle.tcmu_model.specs.Lengths.{blocks_of}
use Rattle.tcmu_types.specs.Data.{DoneData, ReplyData}
use Rattle.std.proofs.lemmas.Bool.{cases_Bool, and_parts, and_from}
use Rattle.std.proofs.lemmas.List.Sums.{sum_by-cons, sum_by_push, count_by-le-length}
use Rattle.tcmu_model.proofs.CommandStates.{state_at, state_same}
use Rattle.tcmu_types.proofs.Counts.{sum-with_first_less, sum-with_first_same, sum-without_first, sum-with_first_le, sum-map_same, sum-map_le}
use Rattle.tcmu_types.proofs.Firsts.{any-with_first}
use Rattle.tcmu_path.specs.Room.{may_be_placed, is_placeable, to_place, to_log, blocks_of_commands, KeepsRoom}
use Rattle.tcmu_model.proofs.Accounts.{at_most_one}

-- a parked command that is placed is no more to be placed
pub to_place_less : (s : ℕ) (us : List Unfinished) → list_any (is_at s Parked) us ≡ true → to_place (turned s Parked Placed us) + 1 ≡ to_place us
to_place_less s us h =
    sum-with_first_less (is_at s Parked) (in_state Placed) (λ u. cond (may_be_placed u) 1 0) 1 us
    (λ u e. let k : is_placeable u.state ≡ true = ap is_placeable (state_at s Parked u e) in rw k refl) h

-- a command that is taken out
pub to_log_taken : (p : Unfinished → Bool) (us : List Unfinished) (u : Unfinished) → first_of p us ≡ Some u → to_log (without_first p us) + cond (is_open u) 1 0 ≡ to_log us
to_log_taken p us u h = sum-without_first p (λ x. cond (is_open x) 1 0) us u h

pub held_by_taken : (pages : ℕ) (p : Unfinished → Bool) (us : List Unfinished) (u : Unfinished) → first_of p us ≡ Some u → blocks_of_commands pages (without_first p us) + blocks_of pages u.command ≡ blocks_of_commands pages us
held_by_taken pages p us u h = sum-without_first p (λ x. blocks_of pages x.command) us u h

-- what logs is open
pub open_logs : (read_len : Bool) (u : Unfinished) (done : DoneData) → done ∷ [] ≡ completions read_len u → is_open u ≡ true
open_logs read_len u done h =
    ⊎_elim
    (λ (e : u.expired ≡ true). let k : done ∷ [] ≡ [] = rw e at h in absurd (cc))
    (λ (e : u.expired ≡ false). rw e refl)
    (cases_Bool u.expired)

-- a command that is due is open, and no more when it is expired
expire_one : (now : ℕ) (u : Unfinished) → cond (is_open (expire now u)) 1 0 + cond (is_due now u) 1 0 ≡ cond (is_open u) 1 0
expire_one now u =
    ⊎_elim
    (λ (e : is_due now u ≡ true). let o : is_open u ≡ true = (and_parts _ _ e).0 in rw (e, o) refl)
    (λ (e : is_due now u ≡ false). rw e (omega arith))
    (cases_Bool (is_due now u))

-- what is due leaves the number of what is to be logged
pub to_log_expired : (now : ℕ) (us : List Unfinished) → to_log (map (expire now) us) + count_by (is_due now) us ≡ to_log us
to_log_expired now [] = refl
to_log_expired now (u ∷ us) =
    let opened : Unfinished → ℕ = λ x. cond (is_open x) 1 0 in
    let due : Unfinished → ℕ = λ x. cond (is_due now x) 1 0 in
    let a : sum_by opened (expire now u ∷ map (expire now) us) ≡ opened (expire now u) + sum_by opened (map (expire now) us) = sum_by-cons opened (expire now u) (map (expire now) us) in
    let b : sum_by due (u ∷ us) ≡ due u + sum_by due us = sum_by-cons due u us in
    let d : sum_by opened (u ∷ us) ≡ opened u + sum_by opened us = sum_by-cons opened u us in
    let one : opened (expire now u) + due u ≡ opened u = expire_one now u in
    let rest : sum_by opened (map (expire now) us) + sum_by due us ≡ sum_by opened us = to_log_expired now us in
    omega (arith, a, b, d, one, rest)

one_place : (from to : CommandState) (u : Unfinished) → u.state ≡ from → (is_placeable to ≡ true → is_placeable from ≡ true) → cond (may_be_placed (in_state to u)) 1 0 ≤ cond (may_be_placed u) 1 0
one_place from to u e h =
    ⊎_elim
    (λ (t : is_placeable to ≡ true). let f : is_placeable u.state ≡ true = ap is_placeable e ∙ h t in rw (t, f) (omega arith))
    (λ (t : is_placeable to ≡ false). rw t (omega arith))
    (cases_Bool (is_placeable to))

pub expire_same : (now : ℕ) (u : Unfinished) (g : Unfinished → ℕ) → g (record u { expired = true }) ≡ g u → g (expire now u) ≡ g u
expire_same now u g h =
    ⊎_elim
    (λ (e : is_due now u ≡ true). rw e h)
    (λ (e : is_due now u ≡ false). rw e refl)
    (cases_Bool (is_due now u))

pub lose_same : (ps : List ℕ) (u : Unfinished) (g : Unfinished → ℕ) → g (record u { state = Lost; reply = if has_state Placed u then u.reply else None }) ≡ g u → g (lose ps u) ≡ g u
lose_same ps u g h =
    ⊎_elim
    (λ (e : is_losing ps u ≡ true). rw e h)
    (λ (e : is_losing ps u ≡ false). rw e refl)
    (cases_Bool (is_losing ps u))

lose_place : (ps : List ℕ) (u : Unfinished) → cond (may_be_placed (lose ps u)) 1 0 ≤ cond (may_be_placed u) 1 0
lose_place ps u =
    ⊎_elim
    (λ (e : is_losing ps u ≡ true). rw e (omega arith))
    (λ (e : is_losing ps u ≡ false). rw e (omega arith))
    (cases_Bool (is_losing ps u))

-- a command that turns from one state to another holds its blocks
pub KeepsRoom-turned : (s : ℕ) (from to : CommandState) (us : List Unfinished) → (is_placeable to ≡ true → is_placeable from ≡ true) → KeepsRoom us (turned s from to us)
KeepsRoom-turned s from to us h =
    record {
      blocks = λ pages. sum-with_first_same (is_at s from) (in_state to) (λ u. blocks_of pages u.command) us (λ u e. refl);
      to_log = sum-with_first_le (is_at s from) (in_state to) (λ u. cond (is_open u) 1 0) us (λ u e. omega arith);
      to_place = sum-with_first_le (is_at s from) (in_state to) (λ u. cond (may_be_placed u) 1 0) us (λ u e. one_place from to u (state_at s from u e) h);
    }

pub KeepsRoom-none : (us : List Unfinished) → KeepsRoom us us
KeepsRoom-none us = record { blocks = λ pages. refl; to_log = omega arith; to_place = omega arith }

pub KeepsRoom-then : (us vs ws : List Unfinished) → KeepsRoom us vs → KeepsRoom vs ws → KeepsRoom us ws
KeepsRoom-then us vs ws a b =
    record {
      blocks = λ pages. b.blocks pages ∙ a.blocks pages;
      to_log = omega (arith, a.to_log, b.to_log);
      to_place = omega (arith, a.to_place, b.to_place);
    }

pub KeepsRoom-expire : (now : ℕ) (us : List Unfinished) → KeepsRoom us (map (expire now) us)
KeepsRoom-expire now us =
    record {
      blocks = λ pages. sum-map_same (expire now) (λ u. blocks_of pages u.command) us (λ u. expire_same now u (λ v. blocks_of pages v.command) refl);
      to_log = sum-map_le (expire now) (λ u. cond (is_open u) 1 0) us (λ u. omega (arith, expire_one now u));
      to_place = let e : to_place (map (expire now) us) ≡ to_place us = sum-map_same (expire now) (λ u. cond (may_be_placed u) 1 0) us (λ u. expire_same now u (λ v. cond (may_be_placed v) 1 0) refl) in omega (arith, e);
    }

pub KeepsRoom-lose : (ps : List ℕ) (us : List Unfinished) → KeepsRoom us (map (lose ps) us)
KeepsRoom-lose ps us =
    record {
      blocks = λ pages. sum-map_same (lose ps) (λ u. blocks_of pages u.command) us (λ u. lose_same ps u (λ v. blocks_of pages v.command) refl);
      to_log = let e : to_log (map (lose ps) us) ≡ to_log us = sum-map_same (lose ps) (λ u. cond (is_open u) 1 0) us (λ u. lose_same ps u (λ v. cond (is_open v) 1 0) refl) in omega (arith, e);
      to_place = sum-map_le (lose ps) (λ u. cond (may_be_placed u) 1 0) us (λ u. lose_place ps u);
    }

-- the command that turned is in the other state
pub any-turned : (s : ℕ) (from to : CommandState) (us : List Unfinished) → list_any (is_at s from) us ≡ true → list_any (is_at s to) (turned s from to us) ≡ true
any-turned s from to us h = any-with_first (is_at s from) (is_at s to) (in_state to) us (λ u e. and_from _ _ (and_parts _ _ e).0 (state_same to)) h

pub to_place_taken : (p : Unfinished → Bool) (us : List Unfinished) (u : Unfinished) → first_of p us ≡ Some u → to_place (without_first p us) ≤ to_place us
to_place_taken p us u h = omega (arith, sum-without_first p (λ x. cond (may_be_placed x) 1 0) us u h)

pub to_log-push : (us vs : List Unfinished) (u : Unfinished) → vs ≡ us ++ u ∷ [] → to_log vs ≤ to_log us + 1
to_log-push us vs u h =
    let e : to_log vs ≡ to_log us + cond (is_open u) 1 0 = ap to_log h ∙ sum_by_push (λ (x : Unfinished). cond (is_open x) 1 0) us u in
    let one : cond {A = ℕ} (is_open u) 1 0 ≤ 1 = at_most_one (is_open u) in
    omega (arith, e, one)

pub to_place-push : (us vs : List Unfinished) (u : Unfinished) → vs ≡ us ++ u ∷ [] → to_place vs ≤ to_place us + 1
to_place-push us vs u h =
    let e : to_place vs ≡ to_place us + cond (may_be_placed u) 1 0 = ap to_place h ∙ sum_by_push (λ (x : Unfinished). cond (may_be_placed x) 1 0) us u in
    let one : cond {A = ℕ} (may_be_placed u) 1 0 ≤ 1 = at_most_one (may_be_placed u) in
    omega (arith, e, one)

pub held_by-push : (pages : ℕ) (us vs : List Unfinished) (u : Unfinished) → vs ≡ us ++ u ∷ [] → blocks_of_commands pages vs ≡ blocks_of_commands pages us + blocks_of pages u.command
held_by-push pages us vs u h = ap (blocks_of_commands pages) h ∙ sum_by_push (λ (x : Unfinished). blocks_of pages x.command) us u

pub ruleset pushes = (to_log-push, to_place-push, held_by-push)

pub KeepsRoom-replied : (s : ℕ) (reply : ReplyData) (us : List Unfinished) → KeepsRoom us (with_first (is_at s Out) (with_reply reply) us)
KeepsRoom-replied s reply us =
    record {
      blocks = λ pages. sum-with_first_same (is_at s Out) (with_reply reply) (λ u. blocks_of pages u.command) us (λ u e. refl);
      to_log = sum-with_first_le (is_at s Out) (with_reply reply) (λ u. cond (is_open u) 1 0) us (λ u e. omega arith);
      to_place = sum-with_first_le (is_at s Out) (with_reply reply) (λ u. cond (may_be_placed u) 1 0) us (λ u e. let k : is_placeable u.state ≡ true = ap is_placeable (state_at s Out u e) in rw k (omega arith));
    }

pub most_places : (us : List Unfinished) → to_place us ≤ length us
most_places us = count_by-le-length may_be_placed us

pub most_completions : (us : List Unfinished) → to_log us ≤ length us
most_completions us = count_by-le-length is_open us
