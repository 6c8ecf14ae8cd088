use Rattle.std.proofs.Common.{◌≤◌, List, length, sym, ap, subst, arith}
use Rattle.tcmu_types.specs.Data.{Spared}
use Rattle.tcmu_types.specs.Numbers.{IsRising}
use Rattle.tcmu_model.specs.Device.{Unfinished, is_at}
use Rattle.tcmu_model.proofs.CommandStates.{serial_at}
use Rattle.tcmu_path.specs.Tallies.{serials_of}
use Rattle.tcmu_path.proofs.Rising.{none_at, none_at_end}
use Rattle.tcmu_path.proofs.rows.Rows.index_of.Goals as goal

pub returns-then-at-len : goal.returns-then-at-len
returns-then-at-len c =
    let s = c.args.serial in
    let us : List Unfinished = c.args.self.now.items in
    let e = ap (λ (x : Spared Unfinished). x.items) c.self.view_is in
    let r : IsRising (serials_of us) = subst (λ (xs : List Unfinished). IsRising (serials_of xs)) e c.self.invariant.rising in
    let l : length us ≤ c.first_from-at.result = omega (arith, ap (λ (xs : List Unfinished). length xs) e, c.self.inside.rows.ok.0, c.len.ensures, c.if-at-len.true) in
    none_at_end (is_at s c.args.state) s us c.first_from-at.result (serial_at s c.args.state) r c.first_from-at.ensures.below l

pub returns-else-is_at : goal.returns-else-is_at
returns-else-is_at c =
    let s = c.args.serial in
    let us : List Unfinished = c.args.self.now.items in
    let e = ap (λ (x : Spared Unfinished). x.items) c.self.view_is in
    let r : IsRising (serials_of us) = subst (λ (xs : List Unfinished). IsRising (serials_of xs)) e c.self.invariant.rising in
    none_at (is_at s c.args.state) s us c.first_from-at.result c.index-row.result.now (serial_at s c.args.state) r c.first_from-at.ensures.below c.first_from-at.ensures.above
    (rw e at c.index-row.ensures) (sym c.if-is_at.ensures)
