-- Devices with their names, in the order in which they were added.
use Rattle.std.specs.Prelude.{ℕ, zero, suc, List, [], ◌∷◌, Option, map, position, bytes_eq}
use Rattle.std.specs.List.{IsDistinct}

module _ {P : Type 0} where
  abbrev pub names : List (List ℕ × P) → List (List ℕ)
  names = map (λ e. e.0)

  abbrev pub devices : List (List ℕ × P) → List P
  devices = map (λ e. e.1)

  -- the number of the device of this name, from 0 in the order of adding
  abbrev pub number_of : List ℕ → List (List ℕ × P) → Option ℕ
  number_of name es = position (bytes_eq name) (names es)

  -- each name is another than those behind it
  abbrev pub HasOwnNames : List (List ℕ × P) → Type 0
  HasOwnNames es = IsDistinct bytes_eq (names es)

  -- with another device in the place of this number, under the same name
  abbrev pub with_device : List (List ℕ × P) → ℕ → P → List (List ℕ × P)
  with_device [] at device = []
  with_device (e ∷ es) zero device = (e.0, device) ∷ es
  with_device (e ∷ es) (suc at) device = e ∷ with_device es at device
