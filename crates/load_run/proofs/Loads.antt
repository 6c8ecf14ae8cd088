-- The replay of a load, from what was played of its lines.
use Rattle.std.proofs.Common.{◌≡◌, ℕ, zero, suc, ◌%◌, nat_eq, Bool, true, false, List, [], ◌∷◌, Option, None, refl, sym, ap, ◌∙◌, subst, arith}
use Rattle.scsi_model.specs.Scsi.{Serves}
use Rattle.tcmu_model.specs.Device.{Device}
use Rattle.tcmu_model.specs.Sound.{IsSound}
use Rattle.tcmu_types.specs.Lists.{Every}
use Rattle.text_model.specs.ScenarioData.{LineData}
use Rattle.text_model.specs.Replay.{Plays}
use Rattle.text_model.specs.Several.{ReplaysEach}
use Rattle.text_model.specs.Load.{load_device, load_lines, random_of, LoadNumbers, summary_text}
use Rattle.tcmu_model.proofs.SoundEvents.{sound_opening}
use Rattle.tcmu_model.proofs.Runs.{sound_run}
use Rattle.load_gen.proofs.Limits.{lines_none, lines_more, submit_line, drain_if, command_is, device_is}
use Rattle.text_model.specs.ScenarioRules.{IsFitFor}
use Rattle.load_run.specs.Tallies.{Played, numbers_in}
use Rattle.load_run.specs.Loading.{opened_over, opened_load, IsLoadText}
use Rattle.load_run.proofs.Tallying.{run_of}
use Rattle.load_run.proofs.Summing.{numbers_are}
use Rattle.tcmu_types.proofs.Everies.{every-append}

-- ==== the device

pub opened_sound : IsSound opened_load.state
unfolding opened_over
opened_sound = sound_opening load_device.settings device_is.settings

pub opened_none : opened_load.state.accepted ≡ 0
unfolding opened_over
opened_none = refl

-- ==== the lines

drain_fit : (b : Bool) → Every (IsFitFor 1) (drain_if b)
drain_fit true = (record { device = omega arith; what = tt }, tt)
drain_fit false = tt

pub lines_fit : (seed i : ℕ) → Every (IsFitFor 1) (load_lines seed i)
lines_fit seed zero = subst (λ (ls : List LineData). Every (IsFitFor 1) ls) (sym (lines_none seed)) tt
lines_fit seed (suc i) =
    let x = random_of seed (suc i) in
    let b = nat_eq (suc i % 16) 0 in
    let line : IsFitFor 1 (submit_line (suc i) x) = record { device = omega arith; what = (command_is (suc i) x).command } in
    subst (λ (ls : List LineData). Every (IsFitFor 1) ls) (sym (lines_more seed i))
    (every-append (IsFitFor 1) (load_lines seed i) (submit_line (suc i) x ∷ drain_if b) (lines_fit seed i) (line, drain_fit b))

-- ==== its text

-- what play_lines says of the load's device and lines
abbrev pub LoadPlayed : ℕ → ℕ → Device → List (Option ℕ) → Type 0
LoadPlayed seed count d sizes = Played Serves (λ es. ReplaysEach (Plays Serves) (opened_load ∷ []) (load_lines seed count) es (d ∷ [])) opened_load d (None ∷ []) sizes

pub load_played : (seed count : ℕ) (start d : Device) (lines : List LineData) (first sizes : List (Option ℕ)) → start ≡ opened_load → lines ≡ load_lines seed count → first ≡ None ∷ []
    → Played Serves (λ es. ReplaysEach (Plays Serves) (start ∷ []) lines es (d ∷ [])) start d first sizes → LoadPlayed seed count d sizes
load_played seed count start d lines first sizes e f s p =
    subst (λ (x : Device). Played Serves (λ es. ReplaysEach (Plays Serves) (x ∷ []) (load_lines seed count) es (d ∷ [])) x d (None ∷ []) sizes) e
    (subst (λ (ls : List LineData). Played Serves (λ es. ReplaysEach (Plays Serves) (start ∷ []) ls es (d ∷ [])) start d (None ∷ []) sizes) f
    (subst (λ (xs : List (Option ℕ)). Played Serves (λ es. ReplaysEach (Plays Serves) (start ∷ []) lines es (d ∷ [])) start d xs sizes) s p))

pub load_sound : (seed count : ℕ) (d : Device) (sizes : List (Option ℕ)) → LoadPlayed seed count d sizes → IsSound d.state
load_sound seed count d sizes p = sound_run Serves opened_load d p.entries opened_sound (run_of Serves opened_load d p.entries p.run)

pub load_text : (seed count : ℕ) (d : Device) (sizes : List (Option ℕ)) (n : LoadNumbers) (text : List ℕ) → LoadPlayed seed count d sizes → n ≡ numbers_in sizes d.state → text ≡ summary_text seed count n → IsLoadText seed count text
load_text seed count d sizes n text p e f =
    record {
      entries = p.entries;
      end = d;
      replays = p.right;
      legal = run_of Serves opened_load d p.entries p.run;
      whole = f ∙ ap (summary_text seed count) (e ∙ numbers_are Serves opened_load d p.entries sizes p.run opened_none p.noted);
    }
