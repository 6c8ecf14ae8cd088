-- What becomes of the entry that comes next: a job in hand, or a note by serials.
use Rattle.std.specs.Prelude.{◌≡◌, ℕ, ◌≤◌, List, [], ◌∷◌, ◌++◌, length, map, Some, None, IsSome}
use Rattle.tcmu_types.specs.Data.{Spared}
use Rattle.tcmu_types.specs.Lists.{Every}
use Rattle.tcmu_types.specs.Numbers.{IsRising}
use Rattle.tcmu_types.specs.Views.{dispatch_data}
use Rattle.tcmu_types.specs.Events as ev
use Rattle.tcmu_types.specs.declared.answer.Dispatch.{Dispatch}
use Rattle.region_model.specs.Represents.{serial_with}
use Rattle.region_model.specs.Sides.{InHand, JobState, PendingRow}
use Rattle.user_lib.specs.declared.next.Next.{Next}
use Rattle.user_lib.specs.declared.next.Next.TheVariants as next
use Rattle.ring_path.specs.Hands.{serials_in_hand}

abbrev pub taken_in_hand : ℕ → JobState → InHand
taken_in_hand s job = record { serial = s; job = job; reply = None }

-- each id has a command, the hand has room for a job, which is the last of its serials, and there is room for the serials of a note
abbrev pub CanBeGiven : List PendingRow → Spared InHand → ℕ → Next → Type 0
CanBeGiven rows hand room (next.Job job) =
    (s : ℕ) × (serial_with rows job.id ≡ Some s) × (1 ≤ hand.spare) × IsRising (serials_in_hand (hand.items ++ taken_in_hand s job ∷ []))
CanBeGiven rows hand room (next.Note type_ ids) = (length ids.items ≤ room) × Every (λ id. IsSome (serial_with rows id)) ids.items
CanBeGiven rows hand room next.Nothing = Unit {0}

-- the job is in hand under its serial, and a note is told by the serials of its ids
abbrev pub IsGivenOut : List PendingRow → List InHand → Next → Dispatch → List InHand → Type 0
IsGivenOut rows hand (next.Job job) a after =
    (s : ℕ) × (serial_with rows job.id ≡ Some s) × (dispatch_data a ≡ ev.Job s) × (after ≡ hand ++ taken_in_hand s job ∷ [])
IsGivenOut rows hand (next.Note type_ ids) a after =
    (ss : List ℕ) × (map Some ss ≡ map (serial_with rows) ids.items) × (dispatch_data a ≡ ev.Note type_ ss) × (after ≡ hand)
IsGivenOut rows hand next.Nothing a after = (dispatch_data a ≡ ev.Nothing) × (after ≡ hand)
