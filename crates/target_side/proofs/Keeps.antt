-- What each call keeps of a target, over any bytes.
use Rattle.std.specs.Prelude.{IfOk, OnErr, Result, Ok, Err}
use Rattle.std.proofs.Common.{◌≡◌, ℕ, ◌+◌, ◌*◌, ◌/◌, ◌≤◌, ltb, Bool, true, false, not, List, [], ◌∷◌, length, Option, Some, None, refl, sym, ap, ◌∙◌, subst, ⊎_elim}
use Rattle.std.specs.List.{filter}
use Rattle.std.proofs.lemmas.Bool.{cases_Bool, ltb-false}
use Rattle.tcmu_types.specs.Data.{CommandData, SettingsData}
use Rattle.tcmu_types.specs.Rules.{IsSettings}
use Rattle.tcmu_types.specs.Lists.{Every, first_of}
use Rattle.tcmu_types.specs.declared.answer.Submit.{Submit}
use Rattle.tcmu_types.specs.declared.answer.Submit.TheVariants as submit
use Rattle.tcmu_types.specs.declared.dump.ItemKind.{ItemKind}
use Rattle.tcmu_types.specs.declared.dump.ItemKind.TheVariants as kind
use Rattle.tcmu_types.specs.declared.answer.Enter.{Enter}
use Rattle.tcmu_types.specs.declared.answer.Enter.TheVariants as enter
use Rattle.tcmu_types.specs.declared.answer.Tmr.{Tmr}
use Rattle.tcmu_types.specs.declared.answer.Tmr.TheVariants as tmr
use Rattle.tcmu_types.specs.ByteFields.{put}
use Rattle.tcmu_types.proofs.ByteFields.{length-put}
use Rattle.tcmu_types.proofs.Everies.{every-append}
use Rattle.tcmu_model.specs.Device.{Delayed}
use Rattle.tcmu_model.specs.Events.{has_left, later}
use Rattle.tcmu_model.specs.Lengths.{entry_length}
use Rattle.region_model.specs.Layout.{data_start}
use Rattle.region_model.specs.Regions.{RegionState, opening_region}
use Rattle.region_model.specs.declared.entry.Response.{Response}
use Rattle.region_model.specs.Represents.{has_id}
use Rattle.region_model.specs.Sides.{PendingRow, Recorded, TargetState}
use Rattle.region_model.specs.TargetCleans.{answered_by, one_cleaned, region_cleaned, region_reset, response_in, target_cleaned, target_reset}
use Rattle.region_model.specs.TargetSteps.{first_entered, length_in, opening_target, region_entered, region_noted, region_submitted, target_blocked, target_laid, target_enter_answer, target_entered, target_noted, target_submit_answer, target_submitted, target_ticked, target_tmr_answer}
use Rattle.region_model.proofs.PartLengths.{length-opening}
use Rattle.ring_laws.proofs.target_over_any_bytes.AnyCalls.{clean_keeps, sound_called, sound_opened}
use Rattle.ring_laws.proofs.target_over_any_bytes.AnyDates.{dates_called, dates_opened}
use Rattle.ring_laws.proofs.target_over_any_bytes.AnyAreas.{same_pages}
use Rattle.ring_laws.proofs.target_over_any_bytes.AnyRing.{front_called, ring_called, ring_opened}
use Rattle.ring_laws.proofs.target_over_any_bytes.AnyRows.{rows_called, rows_of_opening}
use Rattle.ring_laws.proofs.target_over_any_bytes.AnySettings.{called_same}
use Rattle.ring_laws.specs.CalledOn.{SameSizes, region_called}
use Rattle.ring_laws.specs.Calls.{CanCall, TargetCall, target_called, Submits, Enters, Notes, Ticks, Blocks, Cleans, Resets}
use Rattle.target_side.specs.Kept.{Fits, Kept}
use Rattle.target_side.specs.Submits.{Entered, Submitted}

-- ==== the commands that wait

-- none is longer than half the ring
abbrev pub AreShort : SettingsData → List Delayed → Type 0
AreShort s ws = Every (λ (w : Delayed). 2 * entry_length s.pages w.command ≤ s.ring) ws

not_delayed_busy : (s : ℕ) → submit.Busy ≡ submit.Delayed s → ⊥
not_delayed_busy s h = cc

not_delayed_big : (have limit s : ℕ) → submit.TooBig have limit ≡ submit.Delayed s → ⊥
not_delayed_big have limit s h = cc

-- a command that is longer does not wait
short_enough : (t : TargetState) (c : CommandData) (s : ℕ) → target_submit_answer t c ≡ submit.Delayed s → 2 * length_in t c ≤ t.settings.ring
unfolding target_submit_answer
short_enough t c s h =
    ⊎_elim
    (λ (b : t.blocked ≡ true). absurd (not_delayed_busy s (rw b at h)))
    (λ (b : t.blocked ≡ false).
    ⊎_elim
    (λ (r : ltb t.settings.ring (2 * length_in t c) ≡ true). absurd (not_delayed_big (length_in t c) (t.settings.ring / 2) s (rw (b, r) at h)))
    (λ (r : ltb t.settings.ring (2 * length_in t c) ≡ false). ltb-false t.settings.ring (2 * length_in t c) r)
    (cases_Bool (ltb t.settings.ring (2 * length_in t c))))
    (cases_Bool t.blocked)

short_submitted : (t : TargetState) (c : CommandData) (id : ℕ) (a : Submit) → AreShort t.settings t.delayed → ((s : ℕ) → a ≡ submit.Delayed s → 2 * length_in t c ≤ t.settings.ring) → AreShort t.settings (target_submitted t c id a).delayed
unfolding target_submitted target_laid
short_submitted t c id (submit.Queued s) h f = h
short_submitted t c id (submit.Delayed s) h f =
    every-append (λ (w : Delayed). 2 * entry_length t.settings.pages w.command ≤ t.settings.ring) t.delayed (record { serial = s; command = c; leaves = t.now + t.settings.qfull } ∷ []) h (f s refl, tt)
short_submitted t c id submit.Busy h f = h
short_submitted t c id (submit.TooBig have limit) h f = h
short_submitted t c id (submit.FullRing need free) h f = h
short_submitted t c id (submit.FullBlocks need free) h f = h

short_entered : (t : TargetState) (id : ℕ) (a : Enter) → AreShort t.settings t.delayed → AreShort t.settings (target_entered t id a).delayed
unfolding target_entered target_laid
short_entered t id (enter.Entered s) h = go t.delayed h
  where
    go : (ws : List Delayed) → AreShort t.settings ws → AreShort t.settings (first_entered t id ws).delayed
    go [] k = h
    go (w ∷ ws) k = k.1
short_entered t id enter.Empty h = h
short_entered t id (enter.FullRing need free) h = h
short_entered t id (enter.FullBlocks need free) h = h

short_noted : (t : TargetState) (ss : List ℕ) (a : Tmr) → AreShort t.settings t.delayed → AreShort t.settings (target_noted t ss a).delayed
unfolding target_noted
short_noted t ss tmr.Noted h = h
short_noted t ss tmr.Off h = h
short_noted t ss tmr.Busy h = h
short_noted t ss (tmr.Unknown s) h = h
short_noted t ss (tmr.FullRing need free) h = h

short_filtered : (s : SettingsData) (p : Delayed → Bool) (ws : List Delayed) → AreShort s ws → AreShort s (filter p ws)
short_filtered s p [] h = tt
short_filtered s p (w ∷ ws) h =
    ⊎_elim
    (λ (k : p w ≡ true). rw k (h.0, short_filtered s p ws h.1))
    (λ (k : p w ≡ false). rw k (short_filtered s p ws h.1))
    (cases_Bool (p w))

short_ticked : (t : TargetState) (n : ℕ) → AreShort t.settings t.delayed → AreShort t.settings (target_ticked t n).delayed
unfolding target_ticked
short_ticked t n h = short_filtered t.settings (λ (w : Delayed). not (has_left (later t.now n) w)) t.delayed h

short_blocked : (t : TargetState) (b : Bool) → AreShort t.settings t.delayed → AreShort t.settings (target_blocked t b).delayed
unfolding target_blocked
short_blocked t b h = h

same_waiting : (r : RegionState) (a : Response) (t : TargetState) (x : Recorded) (xs : List Recorded) (o : Option PendingRow) → (answered_by r a t x xs o).delayed ≡ t.delayed
same_waiting r a t x xs None = refl
same_waiting r a t x xs (Some e) = refl

one_waiting : (r : RegionState) (t : TargetState) (x : Recorded) (xs : List Recorded) (k : ItemKind) → (one_cleaned r t x xs k).delayed ≡ t.delayed
one_waiting r t x xs kind.Pad = refl
one_waiting r t x xs kind.Tmr = refl
one_waiting r t x xs kind.Cmd = let a : Response = response_in r t in same_waiting r a t x xs (first_of (has_id a.id) t.rows)

-- a clean does not look at the commands that wait
pub cleaned_waiting : (r : RegionState) (t : TargetState) → (target_cleaned r t).delayed ≡ t.delayed
cleaned_waiting r t = clean_keeps (λ k. k.delayed ≡ t.delayed) r t (λ k x ys h. one_waiting r k x ys x.kind ∙ h) refl

short_reset : (s : SettingsData) (r : RegionState) (t : TargetState) (level : ℕ) → AreShort s (target_reset r t level).delayed
unfolding target_reset
short_reset s r t level = tt

short_called : (r : RegionState) (t : TargetState) (call : TargetCall) → AreShort t.settings t.delayed → AreShort t.settings (target_called r t call).delayed
short_called r t (Submits c id) h = short_submitted t c id (target_submit_answer t c) h (short_enough t c)
short_called r t (Enters id) h = short_entered t id (target_enter_answer t) h
short_called r t (Notes type_ ss) h = short_noted t ss (target_tmr_answer t ss) h
short_called r t (Ticks n) h = short_ticked t n h
short_called r t (Blocks b) h = short_blocked t b h
short_called r t Cleans h = subst (AreShort t.settings) (sym (cleaned_waiting r t)) h
short_called r t (Resets level) h = short_reset t.settings r t level

-- ==== all of it

pub kept_called : (r : RegionState) (t : TargetState) (call : TargetCall) → Kept t → CanCall t call → Kept (target_called r t call)
kept_called r t call h c =
    let e : (target_called r t call).settings ≡ t.settings = called_same r t call in
    record {
      settings = subst IsSettings (sym e) h.settings;
      sound = sound_called r t call h.sound c;
      ring = ring_called r t call h.settings h.sound h.ring;
      rows = rows_called r t call h.rows;
      dates = dates_called r t call h.dates;
      waiting = subst (λ (s : SettingsData). AreShort s (target_called r t call).delayed) (sym e) (short_called r t call h.waiting);
    }

same_settings : (s : SettingsData) → (opening_target s).settings ≡ s
unfolding opening_target
same_settings s = refl

none_waiting : (s : SettingsData) → AreShort (opening_target s).settings (opening_target s).delayed
unfolding opening_target
none_waiting s = tt

pub kept_opened : (s : SettingsData) → IsSettings s → Kept (opening_target s)
kept_opened s h =
    record {
      settings = subst IsSettings (sym (same_settings s)) h;
      sound = sound_opened s;
      ring = ring_opened s h;
      rows = rows_of_opening s [] (opening_target s) refl;
      dates = dates_opened s;
      waiting = none_waiting s;
    }

-- ==== the region

same_area : (r : RegionState) → SameSizes r r
same_area r = record { front = refl; area = record { pages = refl; count = refl } }

pages_called : (r : RegionState) (t : TargetState) (call : TargetCall) → CanCall t call → (region_called r t call).pages ≡ r.pages
pages_called r t call c =
    same_pages r t (record { region = r; call = call } ∷ []) (region_called r t call) (target_called r t call) (same_area r, c, (same_area (region_called r t call), refl))

pub fits_called : (r : RegionState) (t : TargetState) (call : TargetCall) → Kept t → CanCall t call → Fits r t → Fits (region_called r t call) (target_called r t call)
fits_called r t call k c f =
    let e : (target_called r t call).settings ≡ t.settings = called_same r t call in
    record {
      front = front_called r t call k.settings k.sound k.ring f.front ∙ f.front ∙ sym (ap (λ (s : SettingsData). data_start s.ring) e);
      pages = pages_called r t call c ∙ f.pages ∙ sym (ap (λ (s : SettingsData). s.pages) e);
    }

-- ==== call by call

pub kept_submitted : (r r' : RegionState) (t t' : TargetState) (c : CommandData) (a : Submit) → a ≡ target_submit_answer t c → Submitted r t c a r' t' → Kept t → Fits r t → Kept t' × Fits r' t'
kept_submitted r r' t t' c a e s k f =
    let can : CanCall t (Submits c s.id) = λ n q. s.free n (e ∙ q) in
    let x : t' ≡ target_called r t (Submits c s.id) = s.target ∙ ap (target_submitted t c s.id) e in
    let y : r' ≡ region_called r t (Submits c s.id) = s.region ∙ ap (region_submitted r t c s.id) e in (
      subst Kept (sym x) (kept_called r t (Submits c s.id) k can),
      subst (λ (z : RegionState). Fits z t') (sym y) (subst (λ (z : TargetState). Fits (region_called r t (Submits c s.id)) z) (sym x) (fits_called r t (Submits c s.id) k can f)),
    )

pub kept_entered : (r r' : RegionState) (t t' : TargetState) (a : Enter) → a ≡ target_enter_answer t → Entered r t a r' t' → Kept t → Fits r t → Kept t' × Fits r' t'
kept_entered r r' t t' a e s k f =
    let can : CanCall t (Enters s.id) = λ n q. s.free n (e ∙ q) in
    let x : t' ≡ target_called r t (Enters s.id) = s.target ∙ ap (target_entered t s.id) e in
    let y : r' ≡ region_called r t (Enters s.id) = s.region ∙ ap (region_entered r t s.id) e in (
      subst Kept (sym x) (kept_called r t (Enters s.id) k can),
      subst (λ (z : RegionState). Fits z t') (sym y) (subst (λ (z : TargetState). Fits (region_called r t (Enters s.id)) z) (sym x) (fits_called r t (Enters s.id) k can f)),
    )

pub kept_noted : (r r' : RegionState) (t t' : TargetState) (type_ : ℕ) (ss : List ℕ) (a : Tmr) → a ≡ target_tmr_answer t ss → t' ≡ target_noted t ss a → r' ≡ region_noted r t type_ ss a → Kept t → Fits r t → Kept t' × Fits r' t'
kept_noted r r' t t' type_ ss a e p q k f =
    let x : t' ≡ target_called r t (Notes type_ ss) = p ∙ ap (target_noted t ss) e in
    let y : r' ≡ region_called r t (Notes type_ ss) = q ∙ ap (region_noted r t type_ ss) e in (
      subst Kept (sym x) (kept_called r t (Notes type_ ss) k tt),
      subst (λ (z : RegionState). Fits z t') (sym y) (subst (λ (z : TargetState). Fits (region_called r t (Notes type_ ss)) z) (sym x) (fits_called r t (Notes type_ ss) k tt f)),
    )

-- a target that is as one that is kept
pub kept_same : (t t' : TargetState) → t' ≡ t → Kept t → Kept t'
kept_same t t' e k = subst Kept (sym e) k

pub fits_same : (r r' : RegionState) (t t' : TargetState) → r' ≡ r → t' ≡ t → Fits r t → Fits r' t'
fits_same r r' t t' p e f = subst (λ (z : RegionState). Fits z t') (sym p) (subst (Fits r) (sym e) f)

pub kept_ticked : (r : RegionState) (t t' : TargetState) (n : ℕ) → t' ≡ target_ticked t n → Kept t → Kept t'
kept_ticked r t t' n e k = subst Kept (sym e) (kept_called r t (Ticks n) k tt)

pub kept_blocked : (r : RegionState) (t t' : TargetState) (b : Bool) → t' ≡ target_blocked t b → Kept t → Kept t'
kept_blocked r t t' b e k = subst Kept (sym e) (kept_called r t (Blocks b) k tt)

pub kept_cleaned : (r r' : RegionState) (t t' : TargetState) → t' ≡ target_cleaned r t → r' ≡ region_cleaned r t → Kept t → Fits r t → Kept t' × Fits r' t'
kept_cleaned r r' t t' x y k f = (
  subst Kept (sym x) (kept_called r t Cleans k tt),
  subst (λ (z : RegionState). Fits z t') (sym y) (subst (λ (z : TargetState). Fits (region_called r t Cleans) z) (sym x) (fits_called r t Cleans k tt f)),
)

pub kept_reset : (r r' : RegionState) (t t' : TargetState) (level : ℕ) → t' ≡ target_reset r t level → r' ≡ region_reset r → Kept t → Fits r t → Kept t' × Fits r' t'
kept_reset r r' t t' level x y k f = (
  subst Kept (sym x) (kept_called r t (Resets level) k tt),
  subst (λ (z : RegionState). Fits z t') (sym y) (subst (λ (z : TargetState). Fits (region_called r t (Resets level)) z) (sym x) (fits_called r t (Resets level) k tt f)),
)

-- a new region, and the target of the same settings
pub fits_opened : (s : SettingsData) → Fits (opening_region s) (opening_target s)
unfolding opening_target
fits_opened s = record { front = length-opening s; pages = refl }

-- ==== answers

pub submit_kept : {E : Type 0} (r r' : RegionState) (t t' : TargetState) (c : CommandData) (res : Result Submit E) → IfOk res (λ a. a ≡ target_submit_answer t c) → IfOk res (λ a. Submitted r t c a r' t') →
    OnErr res (t' ≡ t) → OnErr res (r' ≡ r) → Kept t → Fits r t → Kept t' × Fits r' t'
submit_kept r r' t t' c (Ok a) e s x y k f = kept_submitted r r' t t' c a e s k f
submit_kept r r' t t' c (Err z) e s x y k f = (kept_same t t' x k, fits_same r r' t t' y x f)

pub enter_kept : {E : Type 0} (r r' : RegionState) (t t' : TargetState) (res : Result Enter E) → IfOk res (λ a. a ≡ target_enter_answer t) → IfOk res (λ a. Entered r t a r' t') →
    OnErr res (t' ≡ t) → OnErr res (r' ≡ r) → Kept t → Fits r t → Kept t' × Fits r' t'
enter_kept r r' t t' (Ok a) e s x y k f = kept_entered r r' t t' a e s k f
enter_kept r r' t t' (Err z) e s x y k f = (kept_same t t' x k, fits_same r r' t t' y x f)

pub tmr_kept : {E : Type 0} (r r' : RegionState) (t t' : TargetState) (type_ : ℕ) (ss : List ℕ) (res : Result Tmr E) → IfOk res (λ a. a ≡ target_tmr_answer t ss) → IfOk res (λ a. t' ≡ target_noted t ss a) →
    IfOk res (λ a. r' ≡ region_noted r t type_ ss a) → OnErr res (t' ≡ t) → OnErr res (r' ≡ r) → Kept t → Fits r t → Kept t' × Fits r' t'
tmr_kept r r' t t' type_ ss (Ok a) e p q x y k f = kept_noted r r' t t' type_ ss a e p q k f
tmr_kept r r' t t' type_ ss (Err z) e p q x y k f = (kept_same t t' x k, fits_same r r' t t' y x f)

-- bytes written before the data area
pub fits_put : (r : RegionState) (t : TargetState) (at : ℕ) (bytes : List ℕ) → Fits r t → at + length bytes ≤ length r.front → Fits (record r { front = put r.front at bytes }) t
fits_put r t at bytes f l = record { front = length-put r.front at bytes l ∙ f.front; pages = f.pages }
