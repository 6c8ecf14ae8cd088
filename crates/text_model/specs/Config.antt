-- Config texts: `tcm-user/<hba_num>/<device_name>/<subtype>/<path>`.
use Rattle.std.specs.Prelude.{ℕ, Bool, true, false, ◌&&◌, List, [], length, Option, Some, None, Result, Ok, Err, nat_le, ◌==◌, codes}
use Rattle.std.specs.List.{list_all, position}
use Rattle.std.specs.Option.{option_and_then, option_map, ok_or}
use Rattle.tcmu_types.specs.Reading.{◌>>=◌}
use Rattle.text_model.specs.Fields.{name_of}
use Rattle.tcmu_types.specs.Decimals.{number_of, rising_of}
use Rattle.tcmu_types.specs.Fields.{slash, plus, colon, cut_at, after_word, only_if}
use Rattle.text_model.specs.declared.faults.ConfigFault.{ConfigFault}
use Rattle.text_model.specs.declared.faults.ConfigFault.TheVariants as fault
use Rattle.text_model.specs.Words.{subtype_of}
use Rattle.text_model.specs.declared.words.Subtype.{Subtype}
use Rattle.text_model.specs.declared.words.Subtype.TheVariants.{Mem, File, Ro, Fail}

pub data MediumData : Type 0 where
  InMemory : ℕ → MediumData
  InFile : List ℕ → MediumData

pub record ConfigData : Type 0 where
  pub hba : ℕ
  pub name : List ℕ
  pub kind : MediumData
  pub protected : Bool
  pub fails : List ℕ

-- what a path says
pub record PathData : Type 0 where
  pub kind : MediumData
  pub protected : Bool
  pub fails : List ℕ

-- a character that is seen in ASCII
abbrev pub is_shown : ℕ → Bool
is_shown c = nat_le 0x21 c && nat_le c 0x7e

-- 1 to 200 such characters
abbrev pub is_file_name : List ℕ → Bool
is_file_name text = nat_le 1 (length text) && nat_le (length text) 200 && list_all is_shown text

abbrev pub memory_of : List ℕ → Option MediumData
memory_of text = option_map InMemory (number_of 1 32768 text)

abbrev pub file_of : List ℕ → Option MediumData
file_of text = option_map InFile (only_if is_file_name text)

-- `mem/` or `file/` and its path
unfoldable pub medium_of : List ℕ → Option MediumData
medium_of text =
    elim (after_word (codes "mem/") text) [
      | Some size ↦ memory_of size
      | None ↦ option_and_then file_of (after_word (codes "file/") text)
    ]

unfoldable pub path_of : Subtype → List ℕ → Option PathData
path_of Mem text = option_map (λ m. record { kind = m; protected = false; fails = [] }) (memory_of text)
path_of File text = option_map (λ m. record { kind = m; protected = false; fails = [] }) (file_of text)
path_of Ro text = option_map (λ m. record { kind = m; protected = true; fails = [] }) (medium_of text)
path_of Fail text =
    option_and_then (λ p. option_and_then (λ ns. option_map (λ m. record { kind = m; protected = false; fails = ns }) (medium_of p.1)) (rising_of plus 1000000 p.0)) (cut_at slash text)

-- a part that ends with a slash, and what follows the slash
abbrev pub part : {A : Type 0} → ConfigFault → (List ℕ → Option A) → List ℕ → Result (A × List ℕ) ConfigFault
part e read text = do
  p ← ok_or (cut_at slash text) e
  x ← ok_or (read p.0) e
  Ok (x, p.1)

abbrev pub is_colon : ℕ → Bool
is_colon c = c == colon

-- the parts of a text in which no colon stands
unfoldable pub parts_of : List ℕ → Result ConfigData ConfigFault
parts_of text = do
  rest ← ok_or (after_word (codes "tcm-user/") text) fault.Prefix
  hba ← part fault.Hba (number_of 0 65535) rest
  name ← part fault.Name name_of hba.1
  subtype ← part fault.Subtype subtype_of name.1
  path ← ok_or (path_of subtype.0 subtype.1) fault.Path
  Ok (record { hba = hba.0; name = name.0; kind = path.kind; protected = path.protected; fails = path.fails })

-- the one reading of a text, or the first fault
unfoldable pub config_of : List ℕ → Result ConfigData ConfigFault
config_of text = elim (position is_colon text) [ Some at ↦ Err (fault.Colon at) | None ↦ parts_of text ]
