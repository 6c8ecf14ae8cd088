-- Over media in memory the texts of a scenario are those of which the law of replay speaks.
use Rattle.std.proofs.Common.{◌≡◌, ℕ, List, [], ◌∷◌, Option, Some, None, refl, sym, ap, ◌∙◌, subst}
use Rattle.std.specs.Option.{option_map, option_and_then}
use Rattle.edge.specs.Stores.{FilesState}
use Rattle.tcmu_types.specs.Reading.{each}
use Rattle.tcmu_model.specs.MediumState.{MediumState}
use Rattle.scsi_model.specs.Medium.{opened_medium, memory_below}
use Rattle.tcmu_model.specs.Device.{Device, opening}
use Rattle.text_model.specs.Config.{MediumData, InMemory, InFile}
use Rattle.text_model.specs.ScenarioData.{DeviceLineData}
use Rattle.tcmu_types.proofs.Readings.{same_some, both, mapped}
use Rattle.text_laws.specs.InMemory.{memory_device}
use Rattle.tcmu_top.specs.Opened.{OpensKind, Opens, OpenEach}
use Rattle.tcmu_top.specs.Laws.{LiesInMemory, LieInMemory, TextsAgree}

-- ---- one device

abbrev in_memory : DeviceLineData → ℕ → Device
in_memory l blocks = opening l.settings l.name (opened_medium blocks l.config.protected l.config.fails (memory_below blocks))

abbrev device_of : DeviceLineData → MediumData → Option Device
device_of l kind = elim kind [ InMemory blocks ↦ Some (in_memory l blocks) | InFile name ↦ None ]

opens_so : (files : Option FilesState) (l : DeviceLineData) (d : Device) → LiesInMemory l.config.kind → Opens files l d → memory_device l ≡ Some d
opens_so files l d lies h = go l.config.kind lies h.1
  where
    go : (kind : MediumData) → LiesInMemory kind → OpensKind kind files l.config h.0 → device_of l kind ≡ Some d
    go (InMemory blocks) lies m = ap (λ (x : MediumState). Some (opening l.settings l.name x)) (sym m) ∙ ap (λ (x : Device). Some x) (sym h.2)
    go (InFile name) lies m = absurd lies

so_opens : (files : Option FilesState) (l : DeviceLineData) (d : Device) → memory_device l ≡ Some d → Opens files l d
so_opens files l d e = go l.config.kind e
  where
    go : (kind : MediumData) → device_of l kind ≡ Some d → (m : MediumState) × OpensKind kind files l.config m × (d ≡ opening l.settings l.name m)
    go (InMemory blocks) e = (opened_medium blocks l.config.protected l.config.fails (memory_below blocks), refl, sym (same_some (in_memory l blocks) d e))
    go (InFile name) e = absurd (cc)

-- ---- all devices

each_opens_so : (files : Option FilesState) (ls : List DeviceLineData) (ds : List Device) → LieInMemory ls → OpenEach files ls ds → each memory_device ls ≡ Some ds
each_opens_so files [] [] lies h = refl
each_opens_so files [] (d ∷ ds) lies h = absurd h
each_opens_so files (l ∷ ls) [] lies h = absurd h
each_opens_so files (l ∷ ls) (d ∷ ds) lies h =
    ap (option_and_then (λ y. option_map (λ ys. y ∷ ys) (each memory_device ls))) (opens_so files l d lies.0 h.0)
    ∙ ap (option_map (λ ys. d ∷ ys)) (each_opens_so files ls ds lies.1 h.1)

so_each_opens : (files : Option FilesState) (ls : List DeviceLineData) (ds : List Device) → each memory_device ls ≡ Some ds → OpenEach files ls ds
so_each_opens files [] ds e = subst (λ (x : List Device). OpenEach files [] x) (same_some [] ds e) tt
so_each_opens files (l ∷ ls) ds e =
    let first = both (λ (y : Device). option_map (λ (ys : List Device). y ∷ ys) (each memory_device ls)) (memory_device l) ds e in
    let others = mapped (λ (ys : List Device). first.0 ∷ ys) (each memory_device ls) ds first.2 in
    subst (λ (x : List Device). OpenEach files (l ∷ ls) x) (sym others.2) (so_opens files l first.0 first.1, so_each_opens files ls others.0 others.1)

pub texts_agree : TextsAgree
texts_agree files s text lies = (
  λ is. record { opened = is.opened; memory = each_opens_so files s.devices is.opened lies is.opens; replay = is.replay },
  λ is. record { opened = is.opened; opens = so_each_opens files s.devices is.opened is.memory; replay = is.replay },
)
