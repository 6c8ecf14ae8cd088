use Rattle.std.proofs.Common.{◌≡◌, ◌<◌, ◌+◌, ◌%◌, List, length, get_or, take, refl, ap, ◌∙◌, arith}
use Rattle.std.specs.List.{sum_by}
use Rattle.std.proofs.lemmas.List.Sums.{sum_by-take-le, sum_by_more_le}
use Rattle.region_model.specs.Sides.{Recorded}
use Rattle.std.proofs.lemmas.Option.{slice_get_read}
use Rattle.target_side.specs.RingRecord.{SparedRing}
use Rattle.target_side.proofs.Recorded.{item_found}
use Rattle.target_side.proofs.places.Places.item.Goals as goal

pub overflow_add-before : goal.overflow_add-before
overflow_add-before c =
    let items : List Recorded = c.args.self.now.ring.items in
    let same = ap (λ (s : SparedRing). s.ring.items) c.self.view_is in
    let there : c.loop-earlier.earlier < length items = omega (arith, ap (λ (xs : List Recorded). length xs) same, c.in_ok-item.ensures.variant.0 refl, c.loop-earlier-test.true) in
    let len = c.len.ensures ∙ ap (λ (x : Recorded). x.len) (c.index.ensures ∙ ap (λ (xs : List Recorded). get_or xs c.loop-earlier.earlier c.index.result.now) same) in
    let within = sum_by_more_le (λ (x : Recorded). x.len) items c.loop-earlier.earlier c.index.result.now there in
    omega (arith, len, within, c.loop-earlier.invariant, c.used-used.ensures.value, c.used-used.ensures.below, c.size-size.ensures.size.most)

pub overflow_add-at : goal.overflow_add-at
overflow_add-at c =
    let within = sum_by-take-le (λ (x : Recorded). x.len) c.args.self.now.ring.items c.loop-earlier.earlier in
    omega (arith, within, c.loop-earlier.invariant, c.used-used.ensures.value, c.used-used.ensures.below, c.size-size.ensures.size.most, c.cleaned.ensures.below)

pub returns : goal.returns
returns c =
    let same = ap (λ (s : SparedRing). s.ring.items) c.self.view_is in
    let there : c.args.index < length c.args.self.now.ring.items = omega (arith, ap (λ (xs : List Recorded). length xs) same, c.in_ok-item.ensures.variant.0 refl) in
    let found = slice_get_read c.args.self.now.ring.items (length c.args.self.now.ring.items) c.args.index c.in_ok-item.item.now refl there
    (c.in_ok-item.ensures.lookup ∙ ap (λ (xs : List Recorded). get_or xs c.args.index c.in_ok-item.item.now) same) in
    let end : c.loop-earlier.earlier ≡ c.args.index = omega (arith, c.loop-earlier-test.false, c.loop-earlier.auto.earlier-end) in
    let at : (c.cleaned.result + c.loop-earlier.before) % c.size-size.result
    ≡ (c.args.self.now.ring.cleaned + sum_by (λ (y : Recorded). y.len) (take c.args.index c.args.self.now.ring.items)) % c.args.self.now.ring.size =
    ap (λ n. (n + c.loop-earlier.before) % c.size-size.result) c.cleaned.ensures.value
    ∙ (ap (λ n. (c.args.self.now.ring.cleaned + n) % c.size-size.result) (c.loop-earlier.invariant ∙ ap (λ n. sum_by (λ (y : Recorded). y.len) (take n c.args.self.now.ring.items)) end)
    ∙ ap (λ n. (c.args.self.now.ring.cleaned + sum_by (λ (y : Recorded). y.len) (take c.args.index c.args.self.now.ring.items)) % n) c.size-size.ensures.value) in
    item_found c.args.self.now.ring c.args.index _ c.len-2.result c.kind.result c.in_ok-item.item.now found at c.kind.ensures c.len-2.ensures
