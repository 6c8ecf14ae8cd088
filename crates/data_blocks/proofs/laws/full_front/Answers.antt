use Rattle.std.proofs.Common.{arith, ◌∙◌, ◌==◌, ap, sym, take}
use Rattle.std.specs.List.{list_all}
use Rattle.std.proofs.lemmas.List.{take_rest}
use Rattle.data_blocks.proofs.Bits.{more_full}
use Rattle.data_blocks.proofs.laws.full_front.Goals as goal

pub loop-at-preserved : goal.loop-at-preserved
loop-at-preserved c =
    let rest = ap (λ xs. list_all (λ w. w == 18446744073709551615) (take 8 xs)) (take_rest c.args.words.now c.loop-at.at) in
    record {
      within = omega arith;
      full =
          more_full c.args.words.now c.loop-at.at c.loop-at-test.true c.loop-at.invariant.full
          (sym rest ∙ sym c.full_group.ensures ∙ c.if-full_group.true);
    }
