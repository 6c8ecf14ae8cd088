-- Each call of the target keeps it sound, over any bytes.
use Rattle.std.proofs.Common.{◌≡◌, ◌≢◌, ℕ, ◌+◌, ◌*◌, ◌≤◌, Bool, true, false, not, cond, ◌&&◌, eqb, ltb, leb, ◌==◌, List, [], ◌∷◌, ◌++◌, length, Option, Some, None, refl, sym, ap, ◌∙◌, subst, ⊎_elim}
use Rattle.std.specs.List.{filter}
use Rattle.std.proofs.lemmas.Bool.{cases_Bool, eqb-true, eqb-false, and_parts, leb-true}
use Rattle.tcmu_types.specs.Data.{CommandData, SettingsData}
use Rattle.tcmu_types.specs.declared.answer.Submit.{Submit}
use Rattle.tcmu_types.specs.declared.answer.Submit.TheVariants as submit
use Rattle.tcmu_types.specs.declared.answer.Enter.{Enter}
use Rattle.tcmu_types.specs.declared.answer.Enter.TheVariants as enter
use Rattle.tcmu_types.specs.declared.answer.Tmr.{Tmr}
use Rattle.tcmu_types.specs.declared.answer.Tmr.TheVariants as tmr
use Rattle.tcmu_types.specs.declared.dump.ItemKind.{ItemKind}
use Rattle.tcmu_types.specs.declared.dump.ItemKind.TheVariants as kind
use Rattle.region_model.specs.declared.entry.Response.{Response}
use Rattle.tcmu_types.specs.Lists.{first_of}
use Rattle.tcmu_model.specs.Device.{Delayed}
use Rattle.tcmu_model.specs.Events.{later, has_left}
use Rattle.region_model.specs.Regions.{RegionState, size_of}
use Rattle.region_model.specs.Sides.{PendingRow, Recorded, TargetState}
use Rattle.region_model.specs.Represents.{has_id}
use Rattle.region_model.specs.TargetSteps.{opening_target, blocks_free, blocks_wanted, fits_in, length_in, has_room, row_of, target_laid, submit_or_full, submit_or_delay, target_submit_answer, target_submitted, enter_or_full, target_enter_answer, first_entered, target_entered, target_tmr_answer, target_noted, target_ticked, target_blocked}
use Rattle.region_model.specs.TargetCleans.{tail_read, tail_fits, answered_by, response_in, one_cleaned, unless_broken, all_cleaned, target_cleaned, emptied_of, target_reset}
use Rattle.ring_laws.specs.Calls.{TargetCall, Submits, Enters, Notes, Ticks, Blocks, Cleans, Resets, CallMade, Called, CanCall, IsFreeId, target_called, SerialsSound, TargetSound}
use Rattle.ring_laws.proofs.PendingRows.{no_rows, rows_push, rows_without, rows_expired}
use Rattle.ring_laws.proofs.CountedSerials.{no_serials, serials_queued, serials_delayed, serials_entered, serials_answered, serials_ticked, serials_reset}
use Rattle.tcmu_model.proofs.SoundSubmit.{none_waits}

pub sound_opened : (s : SettingsData) → TargetSound (opening_target s)
unfolding opening_target
sound_opened s = record { rows = no_rows s.blocks; serials = no_serials; none = λ q. refl }

-- ==== a submit

-- what the answers tell that change something
abbrev pub Told : TargetState → CommandData → Submit → Type 0
Told t c (submit.Queued s) = (s ≡ t.accepted + 1) × (t.delayed ≡ []) × (blocks_wanted t c ≤ blocks_free t) × (fits_in t (length_in t c) ≡ true)
Told t c (submit.Delayed s) = (s ≡ t.accepted + 1) × (t.settings.qfull ≢ 0)
Told t c submit.Busy = Unit {0}
Told t c (submit.TooBig have limit) = Unit {0}
Told t c (submit.FullRing need free) = Unit {0}
Told t c (submit.FullBlocks need free) = Unit {0}

told_full : (t : TargetState) (c : CommandData) → t.delayed ≡ [] → Told t c (submit_or_full t c)
told_full t c none =
    ⊎_elim
    (λ (e : fits_in t (length_in t c) ≡ true).
    ⊎_elim
    (λ (z : leb (blocks_wanted t c) (blocks_free t) ≡ true). let room : blocks_wanted t c ≤ blocks_free t = leb-true _ _ z in rw (e, z) (refl, none, room, e))
    (λ (z : leb (blocks_wanted t c) (blocks_free t) ≡ false). rw (e, z) tt)
    (cases_Bool (leb (blocks_wanted t c) (blocks_free t))))
    (λ (e : fits_in t (length_in t c) ≡ false). rw e tt)
    (cases_Bool (fits_in t (length_in t c)))

told_delay : (t : TargetState) (c : CommandData) → t.settings.qfull ≢ 0 → Told t c (submit_or_delay t c)
told_delay t c q =
    ⊎_elim
    (λ (e : (has_room t c && (length t.delayed == 0)) ≡ true).
    let f : (has_room t c ≡ true) × ((length t.delayed == 0) ≡ true) = and_parts _ _ e in
    let g : (fits_in t (length_in t c) ≡ true) × (leb (blocks_wanted t c) (blocks_free t) ≡ true) = and_parts _ _ f.0 in
    let none : t.delayed ≡ [] = none_waits t.delayed f.1 in
    let room : blocks_wanted t c ≤ blocks_free t = leb-true _ _ g.1 in
    rw e (refl, none, room, g.0))
    (λ (e : (has_room t c && (length t.delayed == 0)) ≡ false). rw e (refl, q))
    (cases_Bool (has_room t c && (length t.delayed == 0)))

pub told : (t : TargetState) (c : CommandData) → TargetSound t → Told t c (target_submit_answer t c)
unfolding target_submit_answer
told t c h =
    ⊎_elim
    (λ (b : t.blocked ≡ true). rw b tt)
    (λ (b : t.blocked ≡ false).
    ⊎_elim
    (λ (r : ltb t.settings.ring (2 * length_in t c) ≡ true). rw (b, r) tt)
    (λ (r : ltb t.settings.ring (2 * length_in t c) ≡ false).
    ⊎_elim
    (λ (l : ltb t.settings.blocks (blocks_wanted t c) ≡ true). rw (b, r, l) tt)
    (λ (l : ltb t.settings.blocks (blocks_wanted t c) ≡ false).
    ⊎_elim
    (λ (q : eqb t.settings.qfull 0 ≡ true). let f = told_full t c (h.none (eqb-true t.settings.qfull 0 q)) in rw (b, r, l, q) f)
    (λ (q : eqb t.settings.qfull 0 ≡ false). let f = told_delay t c (eqb-false t.settings.qfull 0 q) in rw (b, r, l, q) f)
    (cases_Bool (eqb t.settings.qfull 0)))
    (cases_Bool (ltb t.settings.blocks (blocks_wanted t c))))
    (cases_Bool (ltb t.settings.ring (2 * length_in t c))))
    (cases_Bool t.blocked)

sound_answered : (t : TargetState) (c : CommandData) (id : ℕ) (a : Submit) → TargetSound t → Told t c a → ((s : ℕ) → a ≡ submit.Queued s → IsFreeId t id) → TargetSound (target_submitted t c id a)
unfolding target_submitted target_laid
sound_answered t c id (submit.Queued s) h w f =
    let free : IsFreeId t id = f s refl in
    let n : ℕ = t.accepted in
    let e : PendingRow = row_of t s c id in
    let ser = subst (λ (ws : List Delayed). SerialsSound t.accepted t.rows ws t.log) w.1 h.serials in
    record {
      rows = rows_push t.settings.blocks (blocks_wanted t c) t.rows e h.rows free.range free.free refl w.2;
      serials = subst (λ (ws : List Delayed). SerialsSound (n + 1) (t.rows ++ e ∷ []) ws t.log) (sym w.1) (serials_queued n t.rows t.log e ser w.0 refl);
      none = λ q. w.1;
    }
sound_answered t c id (submit.Delayed s) h w f =
    record {
      rows = h.rows;
      serials = serials_delayed t.accepted t.rows t.delayed t.log (record { serial = s; command = c; leaves = t.now + t.settings.qfull }) h.serials w.0;
      none = λ q. absurd (w.1 q);
    }
sound_answered t c id submit.Busy h w f = h
sound_answered t c id (submit.TooBig have limit) h w f = h
sound_answered t c id (submit.FullRing need free) h w f = h
sound_answered t c id (submit.FullBlocks need free) h w f = h

pub sound_submitted : (t : TargetState) (c : CommandData) (id : ℕ) → TargetSound t → ((s : ℕ) → target_submit_answer t c ≡ submit.Queued s → IsFreeId t id) →
    TargetSound (target_submitted t c id (target_submit_answer t c))
sound_submitted t c id h f = sound_answered t c id (target_submit_answer t c) h (told t c h) f

-- ==== an enter

filled : (w : Delayed) (ws : List Delayed) → w ∷ ws ≡ [] → ⊥
filled w ws q = cc

-- what the answer to an enter tells
abbrev pub ToldFirst : TargetState → List Delayed → Enter → Type 0
ToldFirst t ws (enter.Entered s) = (w : Delayed) × (vs : List Delayed) × (ws ≡ w ∷ vs) × (blocks_wanted t w.command ≤ blocks_free t) × (fits_in t (length_in t w.command) ≡ true)
ToldFirst t ws enter.Empty = Unit {0}
ToldFirst t ws (enter.FullRing need free) = Unit {0}
ToldFirst t ws (enter.FullBlocks need free) = Unit {0}

pub told_first : (t : TargetState) (ws : List Delayed) → ToldFirst t ws (enter_or_full t ws)
told_first t [] = tt
told_first t (w ∷ ws) =
    ⊎_elim
    (λ (e : fits_in t (length_in t w.command) ≡ true).
    ⊎_elim
    (λ (z : leb (blocks_wanted t w.command) (blocks_free t) ≡ true). let room : blocks_wanted t w.command ≤ blocks_free t = leb-true _ _ z in rw (e, z) (w, ws, refl, room, e))
    (λ (z : leb (blocks_wanted t w.command) (blocks_free t) ≡ false). rw (e, z) tt)
    (cases_Bool (leb (blocks_wanted t w.command) (blocks_free t))))
    (λ (e : fits_in t (length_in t w.command) ≡ false). rw e tt)
    (cases_Bool (fits_in t (length_in t w.command)))

sound_first : (t : TargetState) (id : ℕ) (w : Delayed) (ws : List Delayed) → TargetSound t → IsFreeId t id → t.delayed ≡ w ∷ ws → blocks_wanted t w.command ≤ blocks_free t →
    TargetSound (first_entered t id (w ∷ ws))
unfolding target_laid
sound_first t id w ws h free e room =
    let row : PendingRow = row_of t w.serial w.command id in
    let ser = subst (λ (vs : List Delayed). SerialsSound t.accepted t.rows vs t.log) e h.serials in
    record {
      rows = rows_push t.settings.blocks (blocks_wanted t w.command) t.rows row h.rows free.range free.free refl room;
      serials = serials_entered t.accepted t.rows w ws t.log row ser refl refl;
      none = λ q. absurd (filled w ws (sym e ∙ h.none q));
    }

sound_entering : (t : TargetState) (id : ℕ) (a : Enter) → TargetSound t → ToldFirst t t.delayed a → ((s : ℕ) → a ≡ enter.Entered s → IsFreeId t id) → TargetSound (target_entered t id a)
unfolding target_entered
sound_entering t id (enter.Entered s) h w f =
    subst (λ (ws : List Delayed). TargetSound (first_entered t id ws)) (sym w.2) (sound_first t id w.0 w.1 h (f s refl) w.2 w.3)
sound_entering t id enter.Empty h w f = h
sound_entering t id (enter.FullRing need free) h w f = h
sound_entering t id (enter.FullBlocks need free) h w f = h

pub sound_entered : (t : TargetState) (id : ℕ) → TargetSound t → ((s : ℕ) → target_enter_answer t ≡ enter.Entered s → IsFreeId t id) → TargetSound (target_entered t id (target_enter_answer t))
unfolding target_enter_answer
sound_entered t id h f = sound_entering t id (enter_or_full t t.delayed) h (told_first t t.delayed) f

-- ==== notes, ticks, block and unblock

pub sound_noted : (t : TargetState) (ss : List ℕ) (a : Tmr) → TargetSound t → TargetSound (target_noted t ss a)
unfolding target_noted
sound_noted t ss tmr.Noted h = record { rows = h.rows; serials = h.serials; none = h.none }
sound_noted t ss tmr.Off h = h
sound_noted t ss tmr.Busy h = h
sound_noted t ss (tmr.Unknown s) h = h
sound_noted t ss (tmr.FullRing need free) h = h

pub sound_ticked : (t : TargetState) (n : ℕ) → TargetSound t → TargetSound (target_ticked t n)
unfolding target_ticked
sound_ticked t n h =
    let now : ℕ = later t.now n in
    record {
      rows = rows_expired t.settings.blocks now t.rows h.rows;
      serials = serials_ticked t.accepted now t.rows t.delayed t.log h.serials;
      none = λ q. ap (filter (λ (w : Delayed). not (has_left now w))) (h.none q);
    }

pub sound_blocked : (t : TargetState) (b : Bool) → TargetSound t → TargetSound (target_blocked t b)
unfolding target_blocked
sound_blocked t b h = record { rows = h.rows; serials = h.serials; none = h.none }

-- ==== a clean

sound_by : (r : RegionState) (a : Response) (t : TargetState) (x : Recorded) (xs : List Recorded) (o : Option PendingRow) → TargetSound t → first_of (has_id a.id) t.rows ≡ o → TargetSound (answered_by r a t x xs o)
sound_by r a t x xs None h f = record { rows = h.rows; serials = h.serials; none = h.none }
sound_by r a t x xs (Some e) h f =
    record {
      rows = rows_without t.settings.blocks (has_id a.id) t.rows h.rows;
      serials = serials_answered t.accepted (size_of r) r.blocks (has_id a.id) t.rows t.delayed t.log e a h.serials f;
      none = h.none;
    }

pub sound_one : (r : RegionState) (t : TargetState) (x : Recorded) (xs : List Recorded) (k : ItemKind) → TargetSound t → TargetSound (one_cleaned r t x xs k)
sound_one r t x xs kind.Pad h = record { rows = h.rows; serials = h.serials; none = h.none }
sound_one r t x xs kind.Tmr h = record { rows = h.rows; serials = h.serials; none = h.none }
sound_one r t x xs kind.Cmd h = let a : Response = response_in r t in sound_by r a t x xs (first_of (has_id a.id) t.rows) h refl

-- what each item keeps, a clean keeps
unless_keeps : (P : TargetState → Type 0) (o : Option ℕ) (t further : TargetState) → P t → P further → P (unless_broken o t further)
unless_keeps P None t further h k = k
unless_keeps P (Some id) t further h k = h

all_keep : (P : TargetState → Type 0) (r : RegionState) (tail : ℕ) (t : TargetState) (xs : List Recorded) → ((k : TargetState) (x : Recorded) (ys : List Recorded) → P k → P (one_cleaned r k x ys x.kind)) →
    P t → P (all_cleaned r tail t xs)
all_keep P r tail t [] f h = h
all_keep P r tail t (x ∷ xs) f h =
    let further : P (all_cleaned r tail (one_cleaned r t x xs x.kind) xs) = all_keep P r tail (one_cleaned r t x xs x.kind) xs f (f t x xs h) in
    let z : P (unless_broken t.broken t (all_cleaned r tail (one_cleaned r t x xs x.kind) xs)) = unless_keeps P t.broken t (all_cleaned r tail (one_cleaned r t x xs x.kind) xs) h further in
    ⊎_elim
    (λ (e : eqb t.cleaned tail ≡ true). subst (λ (b : Bool). P (cond b t (unless_broken t.broken t (all_cleaned r tail (one_cleaned r t x xs x.kind) xs)))) (sym e) h)
    (λ (e : eqb t.cleaned tail ≡ false). subst (λ (b : Bool). P (cond b t (unless_broken t.broken t (all_cleaned r tail (one_cleaned r t x xs x.kind) xs)))) (sym e) z)
    (cases_Bool (eqb t.cleaned tail))

pub clean_keeps : (P : TargetState → Type 0) (r : RegionState) (t : TargetState) → ((k : TargetState) (x : Recorded) (ys : List Recorded) → P k → P (one_cleaned r k x ys x.kind)) → P t → P (target_cleaned r t)
unfolding target_cleaned
clean_keeps P r t f h = by_broken t.broken
  where
    fitting : (b : Bool) → P (cond b (all_cleaned r (tail_read r) t t.items) t)
    fitting true = all_keep P r (tail_read r) t t.items f h
    fitting false = h

    by_broken : (o : Option ℕ) → P (elim o as (λ x. TargetState) [ Some id ↦ t | None ↦ cond (tail_fits r t) (all_cleaned r (tail_read r) t t.items) t ])
    by_broken None = fitting (tail_fits r t)
    by_broken (Some id) = h

pub sound_cleaned : (r : RegionState) (t : TargetState) → TargetSound t → TargetSound (target_cleaned r t)
sound_cleaned r t h = clean_keeps TargetSound r t (λ k x ys s. sound_one r k x ys x.kind s) h

-- ==== a reset

sound_emptied : (t : TargetState) (level : ℕ) → TargetSound t → TargetSound (emptied_of t level)
sound_emptied t level h =
    record { rows = no_rows t.settings.blocks; serials = serials_reset t.accepted level t.rows t.delayed t.log h.serials; none = λ q. refl }

pub sound_reset : (r : RegionState) (t : TargetState) (level : ℕ) → TargetSound t → TargetSound (target_reset r t level)
unfolding target_reset
sound_reset r t level h = sound_emptied (target_cleaned r t) level (sound_cleaned r t h)

-- ==== any call

pub sound_called : (r : RegionState) (t : TargetState) (call : TargetCall) → TargetSound t → CanCall t call → TargetSound (target_called r t call)
sound_called r t (Submits c id) h can = sound_submitted t c id h can
sound_called r t (Enters id) h can = sound_entered t id h can
sound_called r t (Notes type_ ss) h can = sound_noted t ss (target_tmr_answer t ss) h
sound_called r t (Ticks n) h can = sound_ticked t n h
sound_called r t (Blocks b) h can = sound_blocked t b h
sound_called r t Cleans h can = sound_cleaned r t h
sound_called r t (Resets level) h can = sound_reset r t level h

pub sound_all : (t : TargetState) (ms : List CallMade) (after : TargetState) → TargetSound t → Called t ms after → TargetSound after
sound_all t [] after h c = subst TargetSound (sym c) h
sound_all t (m ∷ ms) after h c = sound_all (target_called m.region t m.call) ms after (sound_called m.region t m.call h c.0) c.1

pub sound_from_opening : (s : SettingsData) (ms : List CallMade) (t : TargetState) → Called (opening_target s) ms t → TargetSound t
sound_from_opening s ms t c = sound_all (opening_target s) ms t (sound_opened s) c
