-- A script that is read can be kept.
use Rattle.std.proofs.Common.{◌≡◌, ◌&&◌, ℕ, zero, suc, ◌+◌, ◌*◌, ◌^◌, ◌<◌, ◌≤◌, nat_lt, Bool, true, false, List, [], ◌∷◌, length, slice_get, get_or, refl, arith}
use Rattle.std.specs.List.{All, sum_by}
use Rattle.std.proofs.lemmas.Bool.{ltb-true}
use Rattle.std.proofs.lemmas.List.Sums.{sum_by-cons}
use Rattle.tcmu_types.specs.Decimals.{is_rising}
use Rattle.tcmu_types.specs.Events.{EventData}
use Rattle.tcmu_types.specs.Events as ev
use Rattle.tcmu_types.specs.Numbers.{RisesAbove, IsRising}
use Rattle.tcmu_path.specs.Tasks.{CanBeMade}
use Rattle.text_model.specs.ScenarioRules.{IsEvent, IsInitLine, IsScript}
use Rattle.text_model.specs.Script.{InitLineData, ScriptData}
use Rattle.journal_kept.specs.Fronts.{CanKeep}

rises : (n : ℕ) (ns : List ℕ) → is_rising (n ∷ ns) ≡ true → RisesAbove n ns
rises n [] h = tt
rises n (m ∷ ns) h = let parts = both_true (nat_lt n m) (is_rising (m ∷ ns)) h in (ltb-true n m parts.0, rises m ns parts.1)
  where
    both_true : (a b : Bool) → (a && b) ≡ true → (a ≡ true) × (b ≡ true)
    both_true true b e = (refl, e)
    both_true false b e = absurd (cc)

rising_is : (ns : List ℕ) → is_rising ns ≡ true → IsRising ns
rising_is [] h = tt
rising_is (n ∷ ns) h = rises n ns h

can_be_made : (e : EventData) → IsEvent e → CanBeMade e
can_be_made (ev.Reset level) h = (h.least, h.most)
can_be_made (ev.Tmr kind ss) h = (h.known.least, h.known.most, rising_is ss h.rising.rising)
can_be_made (ev.Submit c) h = tt
can_be_made ev.Dispatch h = tt
can_be_made (ev.Handle s) h = tt
can_be_made (ev.Respond s) h = tt
can_be_made ev.Publish h = tt
can_be_made ev.Clean h = tt
can_be_made (ev.Tick n) h = tt
can_be_made ev.Block h = tt
can_be_made ev.Unblock h = tt
can_be_made ev.Restart h = tt
can_be_made ev.Stat h = tt
can_be_made ev.Enter h = tt

-- so many initiators of so few commands each have few in all
few_of_each : (is : List InitLineData) → All IsInitLine is → sum_by (λ (i : InitLineData). length i.commands) is ≤ 20000 * length is
few_of_each [] h = omega arith
few_of_each (i ∷ is) h =
    omega (arith, (h 0 i (omega arith)).few, few_of_each is (λ k d within. h (suc k) d (omega (arith, within))), sum_by-cons (λ (j : InitLineData). length j.commands) i is)

pub script_kept : (x : ScriptData) → IsScript x → CanKeep x
script_kept x h =
    record {
      few = h.few;
      names = h.names;
      own = λ k d within. (h.inits k d within).own;
      few_commands = omega (arith, few_of_each x.inits h.inits, h.few);
      admin = λ k d within. record { kind = (h.admin k d within).kind; can = can_be_made _ (h.admin k d within).event };
    }
