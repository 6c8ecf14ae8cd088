use Rattle.std.proofs.Common.{◌≡◌, ◌<◌, ◌≤◌, true, false, eqb, List, length, get_or, sym, ap, subst, ◌∙◌, arith, ⊎_elim}
use Rattle.std.proofs.lemmas.Bool.{cases_Bool, eqb-true}
use Rattle.tcmu_types.specs.Data.{Spared}
use Rattle.tcmu_types.specs.Numbers.{IsRising}
use Rattle.tcmu_model.specs.Device.{Unfinished, has_serial}
use Rattle.tcmu_types.proofs.Firsts.{any_at}
use Rattle.tcmu_path.specs.Tallies.{serials_of}
use Rattle.tcmu_path.proofs.Rising.{none_at, none_at_end, first_there}
use Rattle.tcmu_path.proofs.rows.Rows.is_known.Goals as goal

pub returns-then-at-len : goal.returns-then-at-len
returns-then-at-len c =
    let s = c.args.serial in
    let us : List Unfinished = c.args.self.now.items in
    let e = ap (λ (x : Spared Unfinished). x.items) c.self.view_is in
    let r : IsRising (serials_of us) = subst (λ (xs : List Unfinished). IsRising (serials_of xs)) e c.self.invariant.rising in
    let l : length us ≤ c.first_from-at.result = omega (arith, ap (λ (xs : List Unfinished). length xs) e, c.self.inside.rows.ok.0, c.len.ensures, c.if-at-len.true) in
    sym (none_at_end (has_serial s) s us c.first_from-at.result (λ u h. eqb-true u.serial s h) r c.first_from-at.ensures.below l)

pub returns : goal.returns
returns c =
    let s = c.args.serial in
    let us : List Unfinished = c.args.self.now.items in
    let n = c.first_from-at.result in
    let x : Unfinished = c.index-row.result.now in
    let e = ap (λ (y : Spared Unfinished). y.items) c.self.view_is in
    let r : IsRising (serials_of us) = subst (λ (xs : List Unfinished). IsRising (serials_of xs)) e c.self.invariant.rising in
    let there : x ≡ get_or us n x = rw e at c.index-row.ensures in
    let l : n < length us = omega (arith, ap (λ (xs : List Unfinished). length xs) e, c.self.inside.rows.ok.0, c.len.ensures, c.first_from-at.ensures.within, c.if-at-len.false) in
    let same : eqb c.serial.result s ≡ eqb x.serial s = ap (λ m. eqb m s) c.serial.ensures in
    same ∙ ⊎_elim
    (λ (h : eqb x.serial s ≡ true). h ∙ sym (any_at (has_serial s) us n (first_there (has_serial s) s us n x (λ u k. eqb-true u.serial s k) c.first_from-at.ensures.below l there h)))
    (λ (h : eqb x.serial s ≡ false). h ∙ sym (none_at (has_serial s) s us n x (λ u k. eqb-true u.serial s k) r c.first_from-at.ensures.below c.first_from-at.ensures.above there h))
    (cases_Bool (eqb x.serial s))
