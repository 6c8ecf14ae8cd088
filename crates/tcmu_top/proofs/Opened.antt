-- Devices as they open: over these files, sound, and without a command.
use Rattle.std.proofs.Common.{◌≡◌, ℕ, ◌≤◌, List, [], ◌∷◌, Option, sym, ap, subst, arith}
use Rattle.std.specs.List.{All}
use Rattle.std.proofs.lemmas.List.Elements.{All-tail}
use Rattle.edge.specs.Stores.{FilesState}
use Rattle.tcmu_types.specs.Lists.{Every}
use Rattle.tcmu_model.specs.Device.{Device}
use Rattle.tcmu_model.specs.Sound.{IsSound}
use Rattle.tcmu_model.proofs.SoundEvents.{sound_opening}
use Rattle.text_model.specs.ScenarioData.{DeviceLineData}
use Rattle.text_model.specs.ScenarioRules.{IsDeviceLine}
use Rattle.text_laws.specs.Replays.{OpenAs}
use Rattle.tcmu_top.specs.Opened.{OpenEach}

pub open_as : (files : Option FilesState) (ls : List DeviceLineData) (ds : List Device) → OpenEach files ls ds → OpenAs ls ds
open_as files [] [] h = tt
open_as files [] (d ∷ ds) h = absurd h
open_as files (l ∷ ls) [] h = absurd h
open_as files (l ∷ ls) (d ∷ ds) h = ((h.0.0, h.0.2), open_as files ls ds h.1)

pub opened_sound : (ls : List DeviceLineData) (ds : List Device) → All IsDeviceLine ls → OpenAs ls ds → Every (λ d. IsSound d.state) ds
opened_sound [] [] k h = tt
opened_sound [] (d ∷ ds) k h = absurd h
opened_sound (l ∷ ls) [] k h = absurd h
opened_sound (l ∷ ls) (d ∷ ds) k h =
    (subst IsSound (sym (ap (λ (x : Device). x.state) h.0.1)) (sound_opening l.settings (k 0 l (omega arith)).settings), opened_sound ls ds (All-tail IsDeviceLine l ls k) h.1)

pub opened_none : (n : ℕ) (ls : List DeviceLineData) (ds : List Device) → OpenAs ls ds → Every (λ d. d.state.accepted ≤ n) ds
opened_none n [] [] h = tt
opened_none n [] (d ∷ ds) h = absurd h
opened_none n (l ∷ ls) [] h = absurd h
opened_none n (l ∷ ls) (d ∷ ds) h = (let none : d.state.accepted ≡ 0 = ap (λ (x : Device). x.state.accepted) h.0.1 in omega (arith, none), opened_none n ls ds h.1)
