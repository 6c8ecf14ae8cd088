-- Flags are read again.
use Rattle.std.proofs.Common.{Bool, true, false, refl, ◌≡◌, Some}
use Rattle.text_model.specs.Fields.{flags_of}
use Rattle.text_model.specs.Text.{flags_text}
use Rattle.text_laws.specs.Pieces.{FlagsAgain}

by_words : (ooo len tmr : Bool) → flags_of (flags_text (record { ooo = ooo; read_len = len; tmr = tmr })) ≡ Some (record { ooo = ooo; read_len = len; tmr = tmr })
unfolding flags_of flags_text
by_words true true true = refl
by_words true true false = refl
by_words true false true = refl
by_words true false false = refl
by_words false true true = refl
by_words false true false = refl
by_words false false true = refl
by_words false false false = refl

pub flags_again : FlagsAgain
flags_again f = by_words f.ooo f.read_len f.tmr
