use Rattle.std.proofs.Common.{◌≡◌, ◌≤◌, List, [], ◌∷◌, ◌++◌, sym, ap, ◌∙◌, arith}
use Rattle.std.specs.List.{sum_by}
use Rattle.tcmu_types.specs.Dumps.{ItemData}
use Rattle.region_model.specs.Sides.{Recorded}
use Rattle.target_side.specs.declared.numbers.TargetNumbers.{TargetNumbers}
use Rattle.ring_path.proofs.Items.{count_next, counts_next, item_read, same_item, told_all, told_next, told_whole}
use Rattle.ring_path.proofs.state.showing_items.items_of.Goals as goal

pub returns-in-None : goal.returns-in-None
returns-in-None c = told_all c.args.front.now c.args.target.now c.loop-index.index c.loop-index.items.items (sym c.in-None.is ∙ c.item.ensures) c.loop-index.invariant.told

pub item_of-requires : goal.item_of-requires
item_of-requires c = count_next c.args.front.now c.args.target.now c.loop-index.index c.in-Some.item (sym c.in-Some.is ∙ c.item.ensures) c.loop-index.invariant.counts

pub loop-index-preserved : goal.loop-index-preserved
loop-index-preserved c =
    let front = c.args.front.now in
    let t = c.args.target.now in
    let i = c.loop-index.index in
    let e = sym c.in-Some.is ∙ c.item.ensures in
    let y = c.in_ok-item_of-in-Some.field-0 in
    let same : y ≡ item_read front c.in-Some.item = same_item c.in_ok-item_of-in-Some.ensures.at c.in_ok-item_of-in-Some.ensures.kind c.in_ok-item_of-in-Some.ensures.bytes in
    record {
      told = told_next front t i c.in-Some.item c.loop-index.items.items c.push.new.self.items y e c.loop-index.invariant.told (c.push.ensures.items ∙ ap (λ (xs : List ItemData). xs ++ y ∷ []) c.reserve.ensures.items) same;
      counts = counts_next front t i c.in-Some.item e c.loop-index.invariant.counts;
    }

pub returns : goal.returns
returns c =
    let used = ap (λ (n : TargetNumbers). n.used) c.numbers-index-end.ensures.value in
    let all : sum_by (λ (y : Recorded). y.len) c.args.target.now.items ≤ c.loop-index.index = omega (arith, used, c.loop-index-test.false) in
    told_whole c.args.front.now c.args.target.now c.loop-index.index c.loop-index.items.items c.requires all c.loop-index.invariant.told
