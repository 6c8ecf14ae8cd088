-- What a choice between two statements says, once it is known which.
use Rattle.std.proofs.Common.{◌≡◌, Bool, true, false, sym}
use Rattle.std.specs.Bool.{MatchBool}
use Rattle.std.proofs.lemmas.Bool.{false≢true}

pub matched : (b : Bool) (P Q : Type 0) → b ≡ true → MatchBool b P Q → P
matched true P Q e h = h
matched false P Q e h = absurd (false≢true e)

pub unmatched : (b : Bool) (P Q : Type 0) → b ≡ false → MatchBool b P Q → Q
unmatched true P Q e h = absurd (false≢true (sym e))
unmatched false P Q e h = h

pub match_left : (b : Bool) (P Q R : Type 0) → (P → R) → MatchBool b P Q → MatchBool b R Q
match_left true P Q R f h = f h
match_left false P Q R f h = h
