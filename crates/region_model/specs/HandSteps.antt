-- What becomes of the jobs in hand: a handler answers, and an answer is responded.
use Rattle.std.specs.Prelude.{ℕ, ◌==◌, Bool, List, Some}
use Rattle.tcmu_types.specs.Data.{ReplyData}
use Rattle.tcmu_types.specs.Lists.{with_first, without_first}
use Rattle.region_model.specs.Sides.{InHand}

abbrev pub hand_has : ℕ → InHand → Bool
hand_has s h = h.serial == s

abbrev pub with_answer : ReplyData → InHand → InHand
with_answer reply h = record h { reply = Some reply }

-- the job of a serial has its reply
unfoldable pub hand_answered : List InHand → ℕ → ReplyData → List InHand
hand_answered hand s reply = with_first (hand_has s) (with_answer reply) hand

-- the job of a serial is out of hand
unfoldable pub hand_responded : List InHand → ℕ → List InHand
hand_responded hand s = without_first (hand_has s) hand
