-- The jobs in hand, by what is still owed of each.
use Rattle.std.specs.Prelude.{ℕ, ◌&&◌, not, Bool}
use Rattle.std.specs.Option.{is_some}
use Rattle.region_model.specs.Sides.{InHand}
use Rattle.region_model.specs.HandSteps.{hand_has}

-- the job of a serial, without its reply
abbrev pub is_asked : ℕ → InHand → Bool
is_asked s h = hand_has s h && not (is_some h.reply)

-- the job of a serial, with its reply
abbrev pub is_answered : ℕ → InHand → Bool
is_answered s h = hand_has s h && is_some h.reply
