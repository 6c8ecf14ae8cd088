-- A dispatch: what it rests on, what the user side answers to it, and the jobs in hand behind it.
use Rattle.std.specs.Prelude.{◌≡◌, ℕ, true, List, [], ◌∷◌, ◌++◌, map, Some, None}
use Rattle.tcmu_types.specs.Events.{DispatchData}
use Rattle.tcmu_types.specs.Events as device
use Rattle.tcmu_model.specs.Device.{Unfinished, DeviceState}
use Rattle.tcmu_model.specs.Events.{after_dispatch, command_out}
use Rattle.tcmu_model.specs.Sound.{IsSound}
use Rattle.tcmu_model.specs.BlockLists.{Taken}
use Rattle.region_model.specs.Regions.{RegionState}
use Rattle.region_model.specs.Sides.{PendingRow, TargetState, UserState, InHand}
use Rattle.region_model.specs.Represents.{RingStands, IdsStand, NotesStand, BlocksStand, JobsStand, UserKeeps, IsJobOf, id_of}
use Rattle.region_model.specs.UserNext.{NextAnswer, Job, Note, Nothing}
use Rattle.tcmu_model.specs.Owned.{ListsSound}

-- the user side of an attached device, with its region and the jobs in hand: of the points, those that next reads
pub record CanDispatch (r : RegionState) (t : TargetState) (user : UserState) (hand : List InHand) (d : DeviceState) (lists : List Taken) : Type 0 where
  pub sound : IsSound d
  pub owned : ListsSound d lists
  pub attached : d.attached ≡ true
  pub ring : RingStands r.front t.items d lists
  pub ids : IdsStand r.front t.rows d
  pub notes : NotesStand r.front t.rows d
  pub blocks : BlocksStand r.blocks d lists
  pub jobs : JobsStand user hand t.rows d lists
  pub side : UserKeeps user d
  pub pages : r.pages ≡ d.settings.pages

-- The user side answers what the device does: the job of the command that is now out; the note, of the same type, and with the ids under
-- which its serials stand; or nothing.
abbrev pub AnswersDispatch : List PendingRow → DeviceState → List Taken → DispatchData → NextAnswer → Type 0
AnswersDispatch rows d lists (device.Job s) (Job job) =
    (u : Unfinished) × (parts : List (List ℕ)) × (command_out (after_dispatch d) s ≡ Some u) × IsJobOf d.settings rows lists u job parts
AnswersDispatch rows d lists (device.Note type_ ss) (Note read ids) = (read ≡ type_) × (map Some ids ≡ map (id_of rows) ss)
AnswersDispatch rows d lists device.Nothing Nothing = Unit {0}
AnswersDispatch rows d lists _ _ = ⊥

-- the job of the command that is sent out is the last in hand
abbrev pub hand_dispatched : List InHand → DispatchData → NextAnswer → List InHand
hand_dispatched hand (device.Job s) (Job job) = hand ++ record { serial = s; job = job; reply = None } ∷ []
hand_dispatched hand _ _ = hand
