-- Jobs of commands that keep their ids and their block lists, where rows and lists change for others.
use Rattle.std.proofs.Common.{◌≡◌, ℕ, List, [], ◌∷◌, length, ap, ◌∙◌, sym}
use Rattle.tcmu_types.specs.Data.{SettingsData}
use Rattle.tcmu_model.specs.declared.state.CommandState.TheVariants.{Parked}
use Rattle.tcmu_model.specs.Device.{Unfinished, has_state}
use Rattle.tcmu_types.specs.Lists.{Every}
use Rattle.tcmu_model.specs.BlockLists.{Taken, list_of}
use Rattle.region_model.specs.Picture.{command_iovs}
use Rattle.region_model.specs.Sides.{GivenJob, InHand, JobState, PendingRow}
use Rattle.region_model.specs.Represents.{AreGiven, AreOut, IsJobOf, id_of}
use Rattle.ring_laws.proofs.Matched.{match_left}

-- rows and lists give the command the same id and the same blocks
abbrev pub HasSame : List PendingRow → List PendingRow → List Taken → List Taken → Unfinished → Type 0
HasSame rows rows' lists lists' u = (id_of rows' u.serial ≡ id_of rows u.serial) × (list_of lists' u.serial ≡ list_of lists u.serial)

job_same : (s : SettingsData) (rows rows' : List PendingRow) (lists lists' : List Taken) (u : Unfinished) (job : JobState) (parts : List (List ℕ)) → HasSame rows rows' lists lists' u → IsJobOf s rows lists u job parts → IsJobOf s rows' lists' u job parts
job_same s rows rows' lists lists' u job parts m h =
    let e : list_of lists u.serial ≡ list_of lists' u.serial = sym m.1 in
    record {
      id = m.0 ∙ h.id;
      cdb = h.cdb;
      iovs = h.iovs ∙ ap (λ bs. command_iovs s bs u.command) e;
      in_len = h.in_len;
      carried = h.carried;
      count = h.count ∙ ap length e;
      size = h.size;
      payload = h.payload;
    }

pub given_same : (s : SettingsData) (rows rows' : List PendingRow) (lists lists' : List Taken) (gs : List GivenJob) (us : List Unfinished) → Every (HasSame rows rows' lists lists') us → AreGiven s rows lists gs us → AreGiven s rows' lists' gs us
given_same s rows rows' lists lists' [] [] m h = h
given_same s rows rows' lists lists' [] (u ∷ us) m h = absurd h
given_same s rows rows' lists lists' (g ∷ gs) [] m h = absurd h
given_same s rows rows' lists lists' (g ∷ gs) (u ∷ us) m h = (
  (m.0.0 ∙ h.0.0, match_left (has_state Parked u) _ _ _ (λ p. (p.0, p.1, p.2, p.3, job_same s rows rows' lists lists' u p.0.job p.3 m.0 p.4)) h.0.1),
  given_same s rows rows' lists lists' gs us m.1 h.1,
)

pub outs_same : (s : SettingsData) (rows rows' : List PendingRow) (lists lists' : List Taken) (hs : List InHand) (us : List Unfinished) → Every (HasSame rows rows' lists lists') us → AreOut s rows lists hs us → AreOut s rows' lists' hs us
outs_same s rows rows' lists lists' [] [] m h = h
outs_same s rows rows' lists lists' [] (u ∷ us) m h = absurd h
outs_same s rows rows' lists lists' (x ∷ hs) [] m h = absurd h
outs_same s rows rows' lists lists' (x ∷ hs) (u ∷ us) m h =
    ((h.0.0, h.0.1, (h.0.2.0, job_same s rows rows' lists lists' u x.job h.0.2.0 m.0 h.0.2.1)), outs_same s rows rows' lists lists' hs us m.1 h.1)
