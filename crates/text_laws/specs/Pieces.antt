-- What is written of a piece of a line is read again: the law of each kind of piece.
use Rattle.std.specs.Prelude.{◌≡◌, ℕ, ◌^◌, ◌<◌, ◌≤◌, List, length, Some}
use Rattle.std.specs.List.{flat_map}
use Rattle.std.specs.Fmt.{decimal}
use Rattle.tcmu_types.specs.Rules.{IsCdb}
use Rattle.tcmu_types.specs.declared.settings.Flags.{Flags}
use Rattle.text_model.specs.Fields.{cdb_of, runs_of, flags_of, serials_of}
use Rattle.tcmu_types.specs.Hex.{bytes_of_hex, hex_byte}
use Rattle.tcmu_types.specs.Decimals.{number_of, rising_of, IsWithin, IsRisingTo}
use Rattle.text_model.specs.Text.{runs_text, numbers_text, flags_text, serials_text}
use Rattle.text_laws.specs.Bytes.{AreBytes}

-- a number, within its limits
abbrev pub NumbersAgain : Type 0
NumbersAgain = (low high n : ℕ) → IsWithin low high n → high < 2 ^ 60 → number_of low high (decimal n) ≡ Some n

-- bytes, by their hexadecimal digits
abbrev pub HexAgain : Type 0
HexAgain = (bytes : List ℕ) → AreBytes bytes → bytes_of_hex (flat_map hex_byte bytes) ≡ Some bytes

-- a command descriptor block, by the same
abbrev pub CdbsAgain : Type 0
CdbsAgain = (cdb : List ℕ) → AreBytes cdb → IsCdb cdb → cdb_of (flat_map hex_byte cdb) ≡ Some cdb

-- bytes, by their runs
abbrev pub RunsAgain : Type 0
RunsAgain = (bytes : List ℕ) → AreBytes bytes → 0 < length bytes → length bytes ≤ 1048576 → runs_of (runs_text bytes) ≡ Some bytes

-- rising numbers, with a byte between them that is below the digits
abbrev pub RisingAgain : Type 0
RisingAgain =
    (at high : ℕ) (ns : List ℕ) → at < 48 → high < 2 ^ 60 → IsRisingTo high ns → 0 < length ns → rising_of at high (numbers_text at ns) ≡ Some ns

-- rising serials, or `none`
abbrev pub SerialsAgain : Type 0
SerialsAgain = (serials : List ℕ) → IsRisingTo 1000000000 serials → serials_of (serials_text serials) ≡ Some serials

-- the words of the flags that are set, or `none`
abbrev pub FlagsAgain : Type 0
FlagsAgain = (f : Flags) → flags_of (flags_text f) ≡ Some f
