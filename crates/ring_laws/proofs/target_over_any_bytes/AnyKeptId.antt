-- An id that a clean keeps stays up to a reset.
use Rattle.std.proofs.Common.{◌≡◌, ℕ, Bool, false, List, [], ◌∷◌, Some, refl, ap, ◌∙◌}
use Rattle.std.proofs.lemmas.Bool.{true≢false}
use Rattle.tcmu_types.specs.Data.{CommandData}
use Rattle.tcmu_types.specs.declared.answer.Submit.{Submit}
use Rattle.tcmu_types.specs.declared.answer.Submit.TheVariants as submit
use Rattle.tcmu_types.specs.declared.answer.Enter.{Enter}
use Rattle.tcmu_types.specs.declared.answer.Enter.TheVariants as enter
use Rattle.tcmu_types.specs.declared.answer.Tmr.{Tmr}
use Rattle.tcmu_types.specs.declared.answer.Tmr.TheVariants as tmr
use Rattle.tcmu_model.specs.Device.{Delayed}
use Rattle.region_model.specs.Regions.{RegionState}
use Rattle.region_model.specs.Sides.{TargetState}
use Rattle.region_model.specs.TargetSteps.{target_laid, target_submit_answer, target_submitted, target_enter_answer, first_entered, target_entered, target_tmr_answer, target_noted, target_ticked, target_blocked}
use Rattle.ring_laws.specs.Calls.{TargetCall, Submits, Enters, Notes, Ticks, Blocks, Cleans, Resets, target_called, is_reset}
use Rattle.ring_laws.proofs.target_over_any_bytes.AnyStops.{kept_id}

submitted_kept : (t : TargetState) (c : CommandData) (id : ℕ) (a : Submit) → (target_submitted t c id a).broken ≡ t.broken
unfolding target_submitted target_laid
submitted_kept t c id (submit.Queued s) = refl
submitted_kept t c id (submit.Delayed s) = refl
submitted_kept t c id submit.Busy = refl
submitted_kept t c id (submit.TooBig have limit) = refl
submitted_kept t c id (submit.FullRing need free) = refl
submitted_kept t c id (submit.FullBlocks need free) = refl

first_kept : (t : TargetState) (id : ℕ) (ws : List Delayed) → (first_entered t id ws).broken ≡ t.broken
unfolding target_laid
first_kept t id [] = refl
first_kept t id (w ∷ ws) = refl

entered_kept : (t : TargetState) (id : ℕ) (a : Enter) → (target_entered t id a).broken ≡ t.broken
unfolding target_entered
entered_kept t id (enter.Entered s) = first_kept t id t.delayed
entered_kept t id enter.Empty = refl
entered_kept t id (enter.FullRing need free) = refl
entered_kept t id (enter.FullBlocks need free) = refl

noted_kept : (t : TargetState) (ss : List ℕ) (a : Tmr) → (target_noted t ss a).broken ≡ t.broken
unfolding target_noted
noted_kept t ss tmr.Noted = refl
noted_kept t ss tmr.Off = refl
noted_kept t ss tmr.Busy = refl
noted_kept t ss (tmr.Unknown s) = refl
noted_kept t ss (tmr.FullRing need free) = refl

ticked_kept : (t : TargetState) (n : ℕ) → (target_ticked t n).broken ≡ t.broken
unfolding target_ticked
ticked_kept t n = refl

blocked_kept : (t : TargetState) (b : Bool) → (target_blocked t b).broken ≡ t.broken
unfolding target_blocked
blocked_kept t b = refl

pub id_stays : (r : RegionState) (t : TargetState) (call : TargetCall) (id : ℕ) → t.broken ≡ Some id → is_reset call ≡ false → (target_called r t call).broken ≡ Some id
id_stays r t (Submits c n) id e h = submitted_kept t c n (target_submit_answer t c) ∙ e
id_stays r t (Enters n) id e h = entered_kept t n (target_enter_answer t) ∙ e
id_stays r t (Notes type_ ss) id e h = noted_kept t ss (target_tmr_answer t ss) ∙ e
id_stays r t (Ticks n) id e h = ticked_kept t n ∙ e
id_stays r t (Blocks b) id e h = blocked_kept t b ∙ e
id_stays r t Cleans id e h = ap (λ (k : TargetState). k.broken) (kept_id r t id e).1.target ∙ e
id_stays r t (Resets level) id e h = absurd (true≢false h)
