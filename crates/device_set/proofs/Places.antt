-- Adding, replacing and taking out devices.
use Rattle.std.proofs.Common.{◌≡◌, ℕ, zero, suc, ◌-◌, ◌<◌, ◌↔◌, true≢false, List, [], ◌∷◌, ◌++◌, length, set, slice_get, option_map, option_to_list, Option, Some, None, IsSome, refl, sym, ap, ◌∙◌, arith, length-append, bytes_eq}
use Rattle.indexmap.specs.IndexMap.{insert_entry}
use Rattle.indexmap.specs.Layout.{set_value_at}
use Rattle.indexmap.proofs.MapLemmas.{Missing-position, insert_entry-absent}
use Rattle.device_set.specs.Sets.{names, devices, number_of, with_device}

module _ {P : Type 0} where
  -- ---- adding

  -- a device with a new name goes last
  goes_last : (name : List ℕ) (device : P) (es : List (List ℕ × P)) → number_of name es ≡ None → insert_entry bytes_eq es name device ≡ es ++ (name, device) ∷ []
  goes_last name device es none =
      let missing = Missing-position (bytes_eq name) es none in
      insert_entry-absent bytes_eq name device es missing.absent

  pub added : (name : List ℕ) (device : P) (new es old : List (List ℕ × P)) → new ≡ insert_entry bytes_eq es name device → es ≡ old → number_of name old ≡ None → new ≡ old ++ (name, device) ∷ []
  added name device new es old e v none = e ∙ ap (λ (xs : List (List ℕ × P)). insert_entry bytes_eq xs name device) v ∙ goes_last name device old none

  pub one_more : (name : List ℕ) (device : P) (new old : List (List ℕ × P)) → new ≡ old ++ (name, device) ∷ [] → length old < 4294967295 → length new < 4294967296
  one_more name device new old e room = omega (arith, room, ap (λ (xs : List (List ℕ × P)). length xs) e, length-append old ((name, device) ∷ []))

  -- ---- another device under a name

  pub with_device-set_value_at : (es : List (List ℕ × P)) (at : ℕ) (device : P) → set_value_at es at device ≡ with_device es at device
  with_device-set_value_at [] at device = refl
  with_device-set_value_at (e ∷ es) zero device = refl
  with_device-set_value_at (e ∷ es) (suc at) device = ap (λ (xs : List (List ℕ × P)). e ∷ xs) (with_device-set_value_at es at device)

  pub names-with_device : (es : List (List ℕ × P)) (at : ℕ) (device : P) → names (with_device es at device) ≡ names es
  names-with_device [] at device = refl
  names-with_device (e ∷ es) zero device = refl
  names-with_device (e ∷ es) (suc at) device = ap (λ (ns : List (List ℕ)). e.0 ∷ ns) (names-with_device es at device)

  pub devices-with_device : (es : List (List ℕ × P)) (at : ℕ) (device : P) → devices (with_device es at device) ≡ set (devices es) at device
  devices-with_device [] at device = refl
  devices-with_device (e ∷ es) zero device = refl
  devices-with_device (e ∷ es) (suc at) device = ap (λ (ds : List P). e.1 ∷ ds) (devices-with_device es at device)

  pub length-with_device : (es : List (List ℕ × P)) (at : ℕ) (device : P) → length (with_device es at device) ≡ length es
  length-with_device [] at device = refl
  length-with_device (e ∷ es) zero device = refl
  length-with_device (e ∷ es) (suc at) device = ap suc (length-with_device es at device)

  -- ---- the last device

  at_end : (es : List (List ℕ × P)) (e : List ℕ × P) → slice_get (devices (es ++ e ∷ [])) (length es) ≡ Some e.1
  at_end [] e = refl
  at_end (x ∷ es) e = at_end es e

  last_of : (old new : List (List ℕ × P)) (e : List ℕ × P) → old ≡ new ++ e ∷ [] → slice_get (devices old) (length old - 1) ≡ Some e.1
  last_of old new e is =
      let short : length old - 1 ≡ length new = omega (arith, ap (λ (xs : List (List ℕ × P)). length xs) is, length-append new (e ∷ [])) in
      ap (slice_get (devices old)) short ∙ ap (λ (xs : List (List ℕ × P)). slice_get (devices xs) (length new)) is ∙ at_end new e

  pub last_is : (old new : List (List ℕ × P)) (o : Option (List ℕ × P)) → old ≡ new ++ option_to_list o → IsSome o ↔ (0 < length old) → option_map (λ e. e.1) o ≡ slice_get (devices old) (length old - 1)
  last_is old new (Some e) is found = sym (last_of old new e is)
  last_is [] new None is found = refl
  last_is (x ∷ old) new None is found = absurd (true≢false (sym (found.1 (omega (arith)))))
