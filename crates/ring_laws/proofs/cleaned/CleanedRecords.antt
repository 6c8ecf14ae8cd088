-- What a clean keeps of both sides' records, and of the pages.
use Rattle.std.proofs.Common.{◌≡◌, true, false, List, length, ⊎_elim, eqb}
use Rattle.std.proofs.lemmas.Bool.{cases_Bool}
use Rattle.tcmu_model.specs.Device.{DeviceState}
use Rattle.tcmu_model.specs.Events.{after_clean}
use Rattle.tcmu_model.specs.BlockLists.{Taken}
use Rattle.region_model.specs.Regions.{RegionState}
use Rattle.region_model.specs.Sides.{TargetState, UserState}
use Rattle.region_model.specs.Represents.{TargetKeeps, UserKeeps}
use Rattle.region_model.specs.TargetCleans.{region_cleaned, target_cleaned}
use Rattle.ring_laws.specs.Cleaned.{CanClean}
use Rattle.ring_laws.proofs.cleaned.CleanedAll.{cleaned-at}

pub target_cleaned_keeps : (r : RegionState) (t : TargetState) (d : DeviceState) (lists : List Taken) → CanClean r t d lists → TargetKeeps (target_cleaned r t) (after_clean d) lists
unfolding after_clean
target_cleaned_keeps r t d lists h =
    let at = cleaned-at r t d lists h in
    record {
      settings = at.settings;
      now = at.now;
      blocked = at.blocked;
      accepted = at.accepted;
      rows = at.pending;
      delayed = at.delayed;
      cleaned = at.cleaned;
      laid = at.laid;
      cleared = at.cleared;
      broken = at.broken;
      log = at.logged;
    }

pub side_cleaned : (user : UserState) (d : DeviceState) → UserKeeps user d → UserKeeps user (after_clean d)
unfolding after_clean
side_cleaned user d h =
    record { ring = h.ring; pages = h.pages; flags = h.flags; tail = h.tail; dispatched = h.dispatched; placed = h.placed; published = h.published; place = h.place; items = h.items }

-- the area may end earlier, in blocks of the same size
pub pages_cleaned : (r : RegionState) (t : TargetState) (d : DeviceState) → r.pages ≡ d.settings.pages → (region_cleaned r t).pages ≡ (after_clean d).settings.pages
unfolding after_clean region_cleaned
pages_cleaned r t d h =
    ⊎_elim
    (λ (k : eqb (length (target_cleaned r t).rows) (length t.rows) ≡ true). rw k h)
    (λ (k : eqb (length (target_cleaned r t).rows) (length t.rows) ≡ false). rw k h)
    (cases_Bool (eqb (length (target_cleaned r t).rows) (length t.rows)))
