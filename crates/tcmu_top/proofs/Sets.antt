-- The devices of a set, one of which is changed.
use Rattle.std.proofs.Common.{◌≡◌, ℕ, zero, suc, List, [], ◌∷◌, length, slice_get, slice_set, Option, Some, refl, ap}
use Rattle.std.proofs.lemmas.List.{length-map}
use Rattle.std.proofs.lemmas.Option.{same_Some}
use Rattle.tcmu_types.specs.Events.{EntryData}
use Rattle.tcmu_model.specs.Device.{Device}
use Rattle.tcmu_model.specs.Steps.{HandlerRelation}
use Rattle.text_model.specs.ScenarioData.{DeviceLineData}
use Rattle.tcmu_path.specs.Calls.{Accepts}
use Rattle.device_set.specs.Sets.{devices, with_device}
use Rattle.tcmu_top.specs.Playing.{states_of, Wrote, WroteFront, WroteOn, WroteOnFront}

pub states_count : {P : Type 0} (device : P → Device) (es : List (List ℕ × P)) → length (states_of device es) ≡ length es
states_count device es = length-map es (λ e. device e.1)

pub states_get : {P : Type 0} (device : P → Device) (es : List (List ℕ × P)) (at : ℕ) (p : P) → slice_get (devices es) at ≡ Some p → slice_get (states_of device es) at ≡ Some (device p)
states_get device [] at p h = absurd (cc)
states_get device (e ∷ es) zero p h = ap (λ x. Some (device x)) (same_Some e.1 p h)
states_get device (e ∷ es) (suc at) p h = states_get device es at p h

pub states_with : {P : Type 0} (device : P → Device) (es : List (List ℕ × P)) (at : ℕ) (p : P) → states_of device (with_device es at p) ≡ slice_set (states_of device es) at (device p)
states_with device [] at p = refl
states_with device (e ∷ es) zero p = refl
states_with device (e ∷ es) (suc at) p = ap (λ x. device e.1 ∷ x) (states_with device es at p)

pub wrote_on : {P : Type 0} (device : P → Device) (R : HandlerRelation) (ls : List DeviceLineData) (at n : ℕ) (so : Device → List EntryData → Device → Type 0) (es : List (List ℕ × P)) (l : DeviceLineData) (p p' : P) (old new : Option (List ℕ))
    → slice_get ls at ≡ Some l → slice_get (devices es) at ≡ Some p → Accepts n (device p) (device p') → Wrote R l (λ x. so (device p) x (device p')) (device p) (device p') old new
    → WroteOn R ls at n so (states_of device es) (states_of device (with_device es at p')) old new
wrote_on device R ls at n so es l p p' old new named found accepts w =
    record {
      line = l;
      before = device p;
      after = device p';
      named = named;
      found = states_get device es at p found;
      others = states_with device es at p';
      wrote = w;
      accepts = accepts;
    }

pub wrote_on_front : {P : Type 0} (device : P → Device) (R : HandlerRelation) (ls : List DeviceLineData) (at : ℕ) (part so : Device → List EntryData → Device → Type 0) (es : List (List ℕ × P)) (l : DeviceLineData) (p p' : P) (old new : Option (List ℕ))
    → slice_get ls at ≡ Some l → slice_get (devices es) at ≡ Some p → WroteFront R l (part (device p)) (so (device p)) (device p) (device p') old new
    → WroteOnFront R ls at part so (states_of device es) (states_of device (with_device es at p')) old new
wrote_on_front device R ls at part so es l p p' old new named found w =
    record {
      line = l;
      before = device p;
      after = device p';
      named = named;
      found = states_get device es at p found;
      others = states_with device es at p';
      wrote = w;
    }
