-- Lines as lists of fields.
use Rattle.std.specs.Prelude.{ℕ, List, [], ◌∷◌, Option, Some, None, codes}
use Rattle.std.specs.Option.{option_and_then, option_map}
use Rattle.tcmu_types.specs.Fields.{after_word}

-- ---- how many fields follow the verb

abbrev pub one_field : List (List ℕ) → Option (List ℕ)
one_field (a ∷ []) = Some a
one_field _ = None

abbrev pub two_fields : List (List ℕ) → Option (List ℕ × List ℕ)
two_fields (a ∷ b ∷ []) = Some (a, b)
two_fields _ = None

abbrev pub three_fields : List (List ℕ) → Option (List ℕ × List ℕ × List ℕ)
three_fields (a ∷ b ∷ c ∷ []) = Some (a, b, c)
three_fields _ = None

-- what a submit line ends with
pub data PayloadField : Type 0 where
  NoPayload : PayloadField
  InBytes : List ℕ → PayloadField
  OutRuns : List ℕ → PayloadField

pub record SubmitFields : Type 0 where
  pub name : List ℕ
  pub init : List ℕ
  pub tag : List ℕ
  pub cdb : List ℕ
  pub payload : PayloadField

abbrev pub payload_field : List ℕ → Option PayloadField
payload_field text =
    elim (after_word (codes "in=") text) [
      | Some n ↦ Some (InBytes n)
      | None ↦ option_map OutRuns (after_word (codes "out=") text)
    ]

abbrev pub payload_fields : List (List ℕ) → Option PayloadField
payload_fields [] = Some NoPayload
payload_fields (a ∷ []) = payload_field a
payload_fields _ = None

unfoldable pub submit_fields : List (List ℕ) → Option SubmitFields
submit_fields (name ∷ init ∷ tag ∷ cdb ∷ more) = option_map (λ p. record { name = name; init = init; tag = tag; cdb = cdb; payload = p }) (payload_fields more)
submit_fields _ = None

-- the last fields of a device line, which may be absent
pub record LastFields : Type 0 where
  pub qfull : Option (List ℕ)
  pub pages : Option (List ℕ)

abbrev pub last_field : List ℕ → Option LastFields
last_field text =
    elim (after_word (codes "qfull=") text) [
      | Some q ↦ Some (record { qfull = Some q; pages = None })
      | None ↦ option_map (λ p. record { qfull = None; pages = Some p }) (after_word (codes "pages=") text)
    ]

abbrev pub last_fields : List (List ℕ) → Option LastFields
last_fields [] = Some (record { qfull = None; pages = None })
last_fields (a ∷ []) = last_field a
last_fields (a ∷ b ∷ []) = option_and_then (λ q. option_map (λ p. record { qfull = Some q; pages = Some p }) (after_word (codes "pages=") b)) (after_word (codes "qfull=") a)
last_fields _ = None

pub record DeviceFields : Type 0 where
  pub name : List ℕ
  pub config : List ℕ
  pub ring : List ℕ
  pub blocks : List ℕ
  pub flags : List ℕ
  pub timeout : List ℕ
  pub last : LastFields

unfoldable pub device_fields : List (List ℕ) → Option DeviceFields
device_fields (name ∷ config ∷ ring ∷ blocks ∷ flags ∷ timeout ∷ more) =
    option_and_then (λ r. option_and_then (λ b. option_and_then (λ f. option_and_then (λ t. option_map (λ l.
    record { name = name; config = config; ring = r; blocks = b; flags = f; timeout = t; last = l })
    (last_fields more)) (after_word (codes "timeout=") timeout)) (after_word (codes "flags=") flags)) (after_word (codes "blocks=") blocks)) (after_word (codes "ring=") ring)
device_fields _ = None
