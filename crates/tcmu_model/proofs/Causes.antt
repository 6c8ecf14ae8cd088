-- Worked causes: the tick that lets a command expire or leave, and none before it or behind it.
use Rattle.std.proofs.Common.{◌≡◌, ◌⊎◌, inl, inr, ℕ, ◌+◌, ◌≤◌, ◌<◌, List, [], ◌∷◌, ◌++◌, refl, sym, ap, ◌∙◌, subst, arith, ⊎_elim}
use Rattle.tcmu_types.specs.Data.{CommandData, DoneData, SettingsData}
use Rattle.tcmu_types.specs.Events.{EventData, AnswerData, EntryData}
use Rattle.tcmu_types.specs.Events as ev
use Rattle.tcmu_types.specs.declared.answer.Submit.TheVariants as submit
use Rattle.tcmu_types.specs.declared.answer.Enter.TheVariants as enter
use Rattle.tcmu_model.specs.Journals.{Has, HasReplied, moment, MadeAt, WasDelayedAt, WasLaidAt, Reaches, Logs, cleaned, reset_cleaned, expired, left, reset, IsExplainedAt}
use Rattle.tcmu_model.specs.Examples.{flags_ooo, dev, read_one, entry, queued_one, delayed_two, ticked, was_cleaned, timed_out, left_full, small, ExpiresInTime, ExpiresNotEarly, ExpiresNotLate, CleanExpiresNone, LeavesInTime, LeavesNotEarly, LeavesNotLate}
use Rattle.tcmu_model.proofs.Moments.{has_within}

-- ==== what an entry can be the cause of

-- a tick is the cause of an expiry and of a departure alone
data TickCauses (s : SettingsData) (before : List EntryData) (x : EntryData) (e : DoneData) : Type 0 where
  expiry : (at : ℕ) (c : CommandData) → WasLaidAt before at e.serial c → Reaches before x (at + s.timeout) → e.status ≡ 0x02 → TickCauses s before x e
  departure : (at : ℕ) (c : CommandData) → WasDelayedAt before at e.serial c → Reaches before x (at + s.qfull) → e.status ≡ 0x28 → TickCauses s before x e

tick_causes : (s : SettingsData) (before : List EntryData) (x : EntryData) (e : DoneData) (n : ℕ) → x.event ≡ ev.Tick n → IsExplainedAt s before x e → TickCauses s before x e
tick_causes s before x e n t h = go h.cause
  where
    go : Logs s before x h.command e → TickCauses s before x e
    go (cleaned z a) = let q : ev.Tick n ≡ ev.Clean = sym t ∙ z in absurd (cc)
    go (reset_cleaned level z a) = let q : ev.Tick n ≡ ev.Reset level = sym t ∙ z.event in absurd (cc)
    go (expired k at z l r q) = expiry at h.command l r (ap (λ (y : DoneData). y.status) q)
    go (left k at z l r q) = departure at h.command l r (ap (λ (y : DoneData). y.status) q)
    go (reset level z q) = let q : ev.Tick n ≡ ev.Reset level = sym t ∙ z.event in absurd (cc)

-- an event is that of the first entry, made at moment 0, or of a later one
made_first : (x : EntryData) (xs : List EntryData) (at : ℕ) (event : EventData) (answer : AnswerData) → MadeAt (x ∷ xs) at event answer → ((x.event ≡ event) × (0 ≡ at)) ⊎ Has xs event answer
made_first x xs at event answer h = go h.before h.stands h.moment_is
  where
    go : (ys : List EntryData) → x ∷ xs ≡ ys ++ h.entry ∷ h.behind → moment ys ≡ at → ((x.event ≡ event) × (0 ≡ at)) ⊎ Has xs event answer
    go [] e m = let q : x ≡ h.entry = cc in inl (ap (λ (y : EntryData). y.event) q ∙ h.event_is, m)
    go (y ∷ ys) e m = let q : xs ≡ ys ++ h.entry ∷ h.behind = cc in inr (subst (λ (zs : List EntryData). Has zs event answer) (sym q) (has_within ys h.entry h.behind event answer h.event_is h.answer_is))

-- ==== expiries

laid_first : (n s at : ℕ) (c : CommandData) → WasLaidAt (queued_one ∷ ticked n ∷ []) at s c → 0 ≡ at
unfolding queued_one ticked entry
laid_first n s at c (inl m) =
    ⊎_elim (λ (k : (ev.Submit (read_one 1) ≡ ev.Submit c) × (0 ≡ at)). k.1)
    (λ (k : Has (ticked n ∷ []) (ev.Submit c) (ev.Submitted (submit.Queued s))). absurd (no_submit k)) (made_first queued_one (ticked n ∷ []) at _ _ m)
  where
    no_submit : Has (ticked n ∷ []) (ev.Submit c) (ev.Submitted (submit.Queued s)) → ⊥
    no_submit (inl k) = let q : ev.Tick n ≡ ev.Submit c = k.0 in cc
    no_submit (inr k) = k
laid_first n s at c (inr m) =
    ⊎_elim (λ (k : (ev.Submit (read_one 1) ≡ ev.Enter) × (0 ≡ at)). k.1)
    (λ (k : Has (ticked n ∷ []) ev.Enter (ev.Entered (enter.Entered s))). absurd (no_enter k)) (made_first queued_one (ticked n ∷ []) at _ _ m.0)
  where
    no_enter : Has (ticked n ∷ []) ev.Enter (ev.Entered (enter.Entered s)) → ⊥
    no_enter (inl k) = let q : ev.Tick n ≡ ev.Enter = k.0 in cc
    no_enter (inr k) = k

pub expires_in_time : ExpiresInTime
unfolding dev flags_ooo read_one entry queued_one ticked timed_out
expires_in_time =
    let m : MadeAt (queued_one ∷ ticked 29 ∷ []) 0 (ev.Submit (read_one 1)) (ev.Submitted (submit.Queued 1)) =
    record { before = []; entry = queued_one; behind = ticked 29 ∷ []; stands = refl; event_is = refl; answer_is = refl; moment_is = refl } in
    record { command = read_one 1; accepted = inl (inl (refl, refl)); cause = expired 1 0 refl (inl m) (record { early = omega arith; reached = omega arith }) refl }

pub expires_not_early : ExpiresNotEarly
unfolding dev entry queued_one ticked timed_out
expires_not_early h = go (tick_causes dev (queued_one ∷ []) (ticked 29) timed_out 29 refl h)
  where
    go : TickCauses dev (queued_one ∷ []) (ticked 29) timed_out → ⊥
    go (expiry at c l r q) = let z : at + 30 ≤ 29 = r.reached in omega arith
    go (departure at c l r q) = let z : 2 ≡ 40 = q in omega arith

pub expires_not_late : ExpiresNotLate
unfolding dev entry queued_one ticked timed_out
expires_not_late h = go (tick_causes dev (queued_one ∷ ticked 30 ∷ []) (ticked 1) timed_out 1 refl h)
  where
    go : TickCauses dev (queued_one ∷ ticked 30 ∷ []) (ticked 1) timed_out → ⊥
    go (expiry at c l r q) = let z : 30 < at + 30 = r.early in let first : 0 ≡ at = laid_first 30 1 at c l in omega arith
    go (departure at c l r q) = let z : 2 ≡ 40 = q in omega arith

pub clean_expires_none : CleanExpiresNone
unfolding dev flags_ooo read_one entry queued_one ticked was_cleaned timed_out
clean_expires_none h = go h.cause
  where
    none : (reply : _) → HasReplied (queued_one ∷ ticked 30 ∷ []) 1 reply → ⊥
    none reply (inl k) = let q : ev.Submit (read_one 1) ≡ ev.Handle 1 = k.0 in cc
    none reply (inr (inl k)) = let q : ev.Tick 30 ≡ ev.Handle 1 = k.0 in cc
    none reply (inr (inr k)) = k

    go : Logs dev (queued_one ∷ ticked 30 ∷ []) was_cleaned h.command timed_out → ⊥
    go (cleaned z a) = none a.reply a.replied
    go (reset_cleaned level z a) = none a.reply a.replied
    go (expired n at z l r q) = let k : ev.Clean ≡ ev.Tick n = z in cc
    go (left n at z l r q) = let k : ev.Clean ≡ ev.Tick n = z in cc
    go (reset level z q) = let k : ev.Clean ≡ ev.Reset level = z.event in cc

-- ==== departures

pub leaves_in_time : LeavesInTime
unfolding dev small flags_ooo read_one entry queued_one delayed_two ticked left_full
leaves_in_time =
    let m : MadeAt (queued_one ∷ delayed_two ∷ ticked 4 ∷ []) 0 (ev.Submit (read_one 2)) (ev.Submitted (submit.Delayed 2)) =
    record { before = queued_one ∷ []; entry = delayed_two; behind = ticked 4 ∷ []; stands = refl; event_is = refl; answer_is = refl; moment_is = refl } in
    record { command = read_one 2; accepted = inr (inr (inl (refl, refl))); cause = left 1 0 refl m (record { early = omega arith; reached = omega arith }) refl }

delayed_second : (n s at : ℕ) (c : CommandData) → WasDelayedAt (queued_one ∷ delayed_two ∷ ticked n ∷ []) at s c → 0 ≡ at
unfolding queued_one delayed_two ticked entry
delayed_second n s at c m = go m.before m.stands m.moment_is
  where
    go : (ys : List EntryData) → queued_one ∷ delayed_two ∷ ticked n ∷ [] ≡ ys ++ m.entry ∷ m.behind → moment ys ≡ at → 0 ≡ at
    go [] e k = k
    go (y ∷ []) e k = let q : queued_one ≡ y = cc in subst (λ (x : EntryData). moment (x ∷ []) ≡ at) (sym q) k
    go (y ∷ z ∷ []) e k = let q : ticked n ≡ m.entry = cc in let t : ev.Tick n ≡ ev.Submit c = ap (λ (x : EntryData). x.event) q ∙ m.event_is in absurd (cc)
    go (y ∷ z ∷ w ∷ ys) e k = let q : [] ≡ ys ++ m.entry ∷ m.behind = cc in absurd (none ys q)
      where
        none : (xs : List EntryData) → [] ≡ xs ++ m.entry ∷ m.behind → ⊥
        none [] q = cc
        none (x ∷ xs) q = cc

pub leaves_not_early : LeavesNotEarly
unfolding dev small entry queued_one delayed_two ticked left_full
leaves_not_early h = go (tick_causes small (queued_one ∷ delayed_two ∷ []) (ticked 4) left_full 4 refl h)
  where
    go : TickCauses small (queued_one ∷ delayed_two ∷ []) (ticked 4) left_full → ⊥
    go (expiry at c l r q) = let z : 40 ≡ 2 = q in omega arith
    go (departure at c l r q) = let z : at + 5 ≤ 4 = r.reached in omega arith

pub leaves_not_late : LeavesNotLate
unfolding dev small entry queued_one delayed_two ticked left_full
leaves_not_late h = go (tick_causes small (queued_one ∷ delayed_two ∷ ticked 5 ∷ []) (ticked 1) left_full 1 refl h)
  where
    go : TickCauses small (queued_one ∷ delayed_two ∷ ticked 5 ∷ []) (ticked 1) left_full → ⊥
    go (expiry at c l r q) = let z : 40 ≡ 2 = q in omega arith
    go (departure at c l r q) = let z : 5 < at + 5 = r.early in let second : 0 ≡ at = delayed_second 5 2 at c l in omega arith
