use Rattle.std.proofs.Common.{◌≡◌, ◌+◌, ◌∷◌, ◌++◌, [], None, length, length-append, vec_len, sym, ap, ◌∙◌, arith}
use Rattle.std.proofs.lemmas.Bool.{eqb-true}
use Rattle.target_table.proofs.PlacesAdded.{Placing, placed-kept, placed-rows}
use Rattle.target_table.proofs.table.Table.reserve.Goals as goal

placing : (c : goal.After-append-then-len-lt-MOST_PLACES) → Placing c.self.inside.places.items c.self.inside.free.items c.self.inside.order.items c.self.inside.expired
    c.append.new.list.items c.append-then-len-lt-MOST_PLACES.new.list.items c.make_room-then-len-lt-MOST_PLACES.new.list.items
placing c =
    let l = c.len.ensures in
    let m : c.len-places.result ≡ length c.self.inside.places.items = (let e = c.len-places.ensures in omega arith) in
    let z : vec_len c.self.inside.free ≡ 0 = eqb-true (vec_len c.self.inside.free) 0 (sym c.is_empty.ensures ∙ c.if-is_empty.true) in
    record {
      kept = c.self.invariant.kept;
      none_free = omega arith;
      few = let t = c.if-len-lt-MOST_PLACES.true in omega arith;
      more_places = c.append.ensures.items ∙ ap (λ xs. xs ++ None ∷ []) c.in_ok-make_room.ensures.items;
      more_free = c.append-then-len-lt-MOST_PLACES.ensures.items ∙ ap (λ xs. xs ++ (c.len-places.result + 1) ∷ []) c.in_ok-make_room-3.ensures.items
          ∙ ap (λ n. c.self.inside.free.items ++ (n + 1) ∷ []) m;
      same_order = c.in_ok-make_room-2.ensures.items;
    }

pub invariant_of-self-then-len-lt-MOST_PLACES : goal.invariant_of-self-then-len-lt-MOST_PLACES
invariant_of-self-then-len-lt-MOST_PLACES c =
    let p = placing c in
    let n = ap length p.more_places ∙ length-append c.self.inside.places.items (None ∷ []) in
    let k = c.self.invariant.kept.counted in
    let z = p.none_free in
    let a = c.in_ok-make_room-2.ensures.room in
    let b = c.in_ok-make_room-3.ensures.room in
    let d = c.append-then-len-lt-MOST_PLACES.ensures.capacity in
    let e = c.len-places.ensures in
    record {
      kept = placed-kept _ _ _ _ _ _ _ p;
      order_room = omega arith;
      free_room = omega arith;
    }

pub returns-in_ok-make_room-3-clause-rows : goal.returns-in_ok-make_room-3-clause-rows
returns-in_ok-make_room-3-clause-rows c = rw (← c.self.view_is) (placed-rows _ _ _ _ _ _ _ (placing c))
