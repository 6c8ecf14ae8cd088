use Rattle.std.proofs.Common.{◌≡◌, ◌∙◌, List, ℕ, ◌++◌, ap}
use Rattle.tcmu_types.specs.Hex.{hex_byte}
use Rattle.report_text.proofs.Digits.{lower_hex}
use Rattle.report_text.proofs.pieces.push_hex.Goals as goal

pub returns : goal.returns
returns c =
    let digits : c.encode_to_slice.new.output ≡ hex_byte c.args.b = (rw c.unwrap.ensures at c.encode_to_slice.ensures.written) ∙ lower_hex c.args.b c.ranges.b.fits in
    c.in_ok-extend_from_slice.ensures.items ∙ ap (λ (d : List ℕ). c.args.out.now.items ++ d) digits
