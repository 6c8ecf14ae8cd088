use Rattle.std.proofs.Common.{◌≡◌, ◌+◌, ◌%◌, List, sym, ap, ◌∙◌, subst, arith}
use Rattle.tcmu_types.specs.Lists.{Every}
use Rattle.region_model.specs.Sides.{Recorded}
use Rattle.ring_laws.specs.RingKept.{IsPlace}
use Rattle.ring_laws.proofs.user_over_any_bytes.AnyNext.{next_place}
use Rattle.user_lib.proofs.books.UserBooks.move_item.Goals as goal

pub invariant_of-self : goal.invariant_of-self
invariant_of-self c =
    let a = c.self.invariant.sound in
    let P : Recorded → Type 0 = λ x. x.len % 8 ≡ 0 in
    let o = subst (λ (xs : List Recorded). Every P xs) c.in-Some.ensures.items a.items in
    let even = a.tail.aligned in
    let words : c.item.inside.len % 8 ≡ 0 = ap (λ (x : Recorded). x.len % 8) c.item.view_is ∙ o.0 in
    record {
      sound = record {
        ring = a.ring;
        place = a.place;
        tail = subst (IsPlace c.self.inside.ring) (sym c.place_behind-self-inside.ensures) (next_place c.self.inside.ring (c.self.inside.tail + c.item.inside.len) a.ring.least a.ring.pages (omega (arith, even, words)));
        items = o.1;
        offsets = a.offsets;
      };
      order = c.self.invariant.order;
    }
