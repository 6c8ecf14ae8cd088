-- What the jobs in hand keep beside themselves: their serials rise, so one is found by bisection; and of those without and of those with
-- their reply the least serial and the number are kept.
use Rattle.std.specs.Prelude.{◌≡◌, ℕ, ◌==◌, ◌&&◌, nat_lt, Bool, not, List, map, Option, None, Some, if◌then◌else◌}
use Rattle.std.specs.List.{count_by}
use Rattle.std.specs.Option.{is_some, option_map}
use Rattle.tcmu_types.specs.Numbers.{IsRising}
use Rattle.region_model.specs.HandSteps.{hand_has}
use Rattle.region_model.specs.Sides.{InHand, Parked}
use Rattle.ring_laws.specs.SidesShow.{first_serial}
use Rattle.ring_path.specs.declared.tally.Tally.{Tally}

-- it is with its handler
abbrev pub lacks_reply : InHand → Bool
lacks_reply h = not (is_some h.reply)

-- it is to be responded
abbrev pub has_reply : InHand → Bool
has_reply h = is_some h.reply

abbrev pub owes : Bool → InHand → Bool
owes replied h = if replied then has_reply h else lacks_reply h

-- the job of a serial, with its reply or without
abbrev pub owed_at : Bool → ℕ → InHand → Bool
owed_at replied s h = hand_has s h && owes replied h

-- a job with its reply, where it has one
abbrev pub with_its_reply : InHand → Option Parked
with_its_reply h = option_map (λ r. record { job = h.job; reply = r }) h.reply

abbrev pub serials_in_hand : List InHand → List ℕ
serials_in_hand hand = map (λ h. h.serial) hand

-- the least of some serials, with one more
abbrev pub lesser : Option ℕ → ℕ → Option ℕ
lesser least s = elim (least) [ None ↦ Some s | Some m ↦ if nat_lt m s then Some m else Some s ]

-- the least of some serials, without this one: where it was the least, the next one
abbrev pub without : Option ℕ → ℕ → Option ℕ → Option ℕ
without least s next = elim (least) [ None ↦ None | Some m ↦ if m == s then next else Some m ]

-- the tally is that of the jobs that pass
pub record IsTally (p : InHand → Bool) (hand : List InHand) (tally : Tally) : Type 0 where
  pub least_is : tally.least ≡ first_serial p hand
  pub count_is : tally.count ≡ count_by p hand

-- serials rise, and each tally is that of its jobs
pub record AreInHand (hand : List InHand) (asked answered : Tally) : Type 0 where
  pub rising : IsRising (serials_in_hand hand)
  pub asked_is : IsTally lacks_reply hand asked
  pub answered_is : IsTally has_reply hand answered
