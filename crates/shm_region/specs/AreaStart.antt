-- Where the data area begins.
use Rattle.std.specs.Prelude.{◌≡◌, ℕ, ◌+◌, ◌%◌, ◌<◌, ◌≤◌, length}
use Rattle.tcmu_types.specs.Data.{SettingsData}
use Rattle.region_model.specs.Layout.{ring_start, data_start}
use Rattle.tcmu_types.specs.Rules.{IsRingSize}
use Rattle.region_model.specs.Regions.{opening_region}

-- n is the least multiple of a step that is not below a number
pub record IsLeastMultiple (step low n : ℕ) : Type 0 where
  pub multiple : n % step ≡ 0
  pub enough : low ≤ n
  pub near : n < low + step

abbrev pub AreaBeginsAtPage : Type 0
AreaBeginsAtPage = (ring : ℕ) → IsRingSize ring → IsLeastMultiple 4096 (ring_start + ring) (data_start ring)

-- the bytes before the data area of a new region are as many
abbrev pub OpensAtArea : Type 0
OpensAtArea = (s : SettingsData) → length (opening_region s).front ≡ data_start s.ring
