-- What is asked for by a line within its limits can be made.
use Rattle.std.proofs.Common.{◌&&◌, nat_lt, Bool, true, false, ◌≡◌, ℕ, List, [], ◌∷◌, Option, refl, sym, ap, ◌∙◌, subst}
use Rattle.std.proofs.lemmas.Bool.{ltb-true}
use Rattle.tcmu_types.specs.Events.{EventData}
use Rattle.tcmu_types.specs.Events as ev
use Rattle.tcmu_types.specs.Numbers.{RisesAbove, IsRising}
use Rattle.tcmu_types.specs.Decimals.{is_rising}
use Rattle.text_model.specs.ScenarioData.{LineWhat}
use Rattle.text_model.specs.ScenarioData as line
use Rattle.tcmu_path.specs.Tasks.{CanBeMade}
use Rattle.text_model.specs.ScenarioRules.{IsEvent, IsFit}

-- the test of rising numbers, as a fact
rises : (n : ℕ) (ns : List ℕ) → is_rising (n ∷ ns) ≡ true → RisesAbove n ns
rises n [] h = tt
rises n (m ∷ ns) h = let both = both_true (nat_lt n m) (is_rising (m ∷ ns)) h in (ltb-true n m both.0, rises m ns both.1)
  where
    both_true : (a b : Bool) → (a && b) ≡ true → (a ≡ true) × (b ≡ true)
    both_true true b e = (refl, e)
    both_true false b e = absurd (cc)

rising_is : (ns : List ℕ) → is_rising ns ≡ true → IsRising ns
rising_is [] h = tt
rising_is (n ∷ ns) h = rises n ns h

can_be_made : (e : EventData) → IsEvent e → CanBeMade e
can_be_made (ev.Reset level) h = (h.least, h.most)
can_be_made (ev.Tmr kind ss) h = (h.known.least, h.known.most, rising_is ss h.rising.rising)
can_be_made (ev.Submit c) h = tt
can_be_made ev.Dispatch h = tt
can_be_made (ev.Handle s) h = tt
can_be_made (ev.Respond s) h = tt
can_be_made ev.Publish h = tt
can_be_made ev.Clean h = tt
can_be_made (ev.Tick n) h = tt
can_be_made ev.Block h = tt
can_be_made ev.Unblock h = tt
can_be_made ev.Restart h = tt
can_be_made ev.Stat h = tt
can_be_made ev.Enter h = tt

-- a line within its limits asks for an event that can be made
pub can_of_fit : (event : EventData) (task : LineWhat) → task ≡ line.EventLine event → IsFit task → CanBeMade event
can_of_fit event task is fit = can_be_made event (subst IsFit is fit)
