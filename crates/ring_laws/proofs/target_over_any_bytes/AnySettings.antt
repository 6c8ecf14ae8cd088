-- The settings of a target stay as they are, whatever it is called to do.
use Rattle.std.proofs.Common.{◌≡◌, ℕ, ◌<◌, Bool, List, [], ◌∷◌, Option, Some, None, refl, ap, ◌∙◌, subst}
use Rattle.tcmu_types.specs.Data.{CommandData, SettingsData}
use Rattle.tcmu_types.specs.declared.answer.Submit.{Submit}
use Rattle.tcmu_types.specs.declared.answer.Submit.TheVariants as submit
use Rattle.tcmu_types.specs.declared.answer.Enter.{Enter}
use Rattle.tcmu_types.specs.declared.answer.Enter.TheVariants as enter
use Rattle.tcmu_types.specs.declared.answer.Tmr.{Tmr}
use Rattle.tcmu_types.specs.declared.answer.Tmr.TheVariants as tmr
use Rattle.tcmu_types.specs.declared.dump.ItemKind.{ItemKind}
use Rattle.tcmu_types.specs.declared.dump.ItemKind.TheVariants as kind
use Rattle.region_model.specs.declared.entry.Response.{Response}
use Rattle.tcmu_types.specs.Lists.{first_of, Every}
use Rattle.tcmu_model.specs.Device.{Delayed}
use Rattle.region_model.specs.Regions.{RegionState}
use Rattle.region_model.specs.Sides.{PendingRow, Recorded, TargetState}
use Rattle.region_model.specs.Represents.{has_id}
use Rattle.region_model.specs.TargetSteps.{opening_target, blocks_held, target_laid, target_submit_answer, target_submitted, target_enter_answer, first_entered, target_entered, target_tmr_answer, target_noted, target_ticked, target_blocked}
use Rattle.region_model.specs.TargetCleans.{answered_by, response_in, one_cleaned, target_cleaned, target_reset}
use Rattle.ring_laws.specs.Calls.{TargetCall, Submits, Enters, Notes, Ticks, Blocks, Cleans, Resets, CallMade, Called, target_called}
use Rattle.ring_laws.proofs.target_over_any_bytes.AnyCalls.{clean_keeps, sound_from_opening}

submitted_same : (t : TargetState) (c : CommandData) (id : ℕ) (a : Submit) → (target_submitted t c id a).settings ≡ t.settings
unfolding target_submitted target_laid
submitted_same t c id (submit.Queued s) = refl
submitted_same t c id (submit.Delayed s) = refl
submitted_same t c id submit.Busy = refl
submitted_same t c id (submit.TooBig have limit) = refl
submitted_same t c id (submit.FullRing need free) = refl
submitted_same t c id (submit.FullBlocks need free) = refl

first_same : (t : TargetState) (id : ℕ) (ws : List Delayed) → (first_entered t id ws).settings ≡ t.settings
unfolding target_laid
first_same t id [] = refl
first_same t id (w ∷ ws) = refl

entered_same : (t : TargetState) (id : ℕ) (a : Enter) → (target_entered t id a).settings ≡ t.settings
unfolding target_entered
entered_same t id (enter.Entered s) = first_same t id t.delayed
entered_same t id enter.Empty = refl
entered_same t id (enter.FullRing need free) = refl
entered_same t id (enter.FullBlocks need free) = refl

noted_same : (t : TargetState) (ss : List ℕ) (a : Tmr) → (target_noted t ss a).settings ≡ t.settings
unfolding target_noted
noted_same t ss tmr.Noted = refl
noted_same t ss tmr.Off = refl
noted_same t ss tmr.Busy = refl
noted_same t ss (tmr.Unknown s) = refl
noted_same t ss (tmr.FullRing need free) = refl

ticked_same : (t : TargetState) (n : ℕ) → (target_ticked t n).settings ≡ t.settings
unfolding target_ticked
ticked_same t n = refl

blocked_same : (t : TargetState) (b : Bool) → (target_blocked t b).settings ≡ t.settings
unfolding target_blocked
blocked_same t b = refl

by_same : (r : RegionState) (a : Response) (t : TargetState) (x : Recorded) (xs : List Recorded) (o : Option PendingRow) → (answered_by r a t x xs o).settings ≡ t.settings
by_same r a t x xs None = refl
by_same r a t x xs (Some e) = refl

pub one_same : (r : RegionState) (t : TargetState) (x : Recorded) (xs : List Recorded) (k : ItemKind) → (one_cleaned r t x xs k).settings ≡ t.settings
one_same r t x xs kind.Pad = refl
one_same r t x xs kind.Tmr = refl
one_same r t x xs kind.Cmd = let a : Response = response_in r t in by_same r a t x xs (first_of (has_id a.id) t.rows)

cleaned_same : (r : RegionState) (t : TargetState) → (target_cleaned r t).settings ≡ t.settings
cleaned_same r t = clean_keeps (λ k. k.settings ≡ t.settings) r t (λ k x ys h. one_same r k x ys x.kind ∙ h) refl

reset_same : (r : RegionState) (t : TargetState) (level : ℕ) → (target_reset r t level).settings ≡ t.settings
unfolding target_reset
reset_same r t level = cleaned_same r t

pub called_same : (r : RegionState) (t : TargetState) (call : TargetCall) → (target_called r t call).settings ≡ t.settings
called_same r t (Submits c id) = submitted_same t c id (target_submit_answer t c)
called_same r t (Enters id) = entered_same t id (target_enter_answer t)
called_same r t (Notes type_ ss) = noted_same t ss (target_tmr_answer t ss)
called_same r t (Ticks n) = ticked_same t n
called_same r t (Blocks b) = blocked_same t b
called_same r t Cleans = cleaned_same r t
called_same r t (Resets level) = reset_same r t level

pub all_same : (t : TargetState) (ms : List CallMade) (after : TargetState) → Called t ms after → after.settings ≡ t.settings
all_same t [] after c = ap (λ (k : TargetState). k.settings) c
all_same t (m ∷ ms) after c = all_same (target_called m.region t m.call) ms after c.1 ∙ called_same m.region t m.call

pub opened_same : (s : SettingsData) (ms : List CallMade) (t : TargetState) → Called (opening_target s) ms t → t.settings ≡ s
unfolding opening_target
opened_same s ms t c = all_same (opening_target s) ms t c

pub blocks_below : (s : SettingsData) (ms : List CallMade) (t : TargetState) → Called (opening_target s) ms t → Every (λ n. n < s.blocks) (blocks_held t.rows)
blocks_below s ms t c = subst (λ (z : SettingsData). Every (λ n. n < z.blocks) (blocks_held t.rows)) (opened_same s ms t c) (sound_from_opening s ms t c).rows.below
