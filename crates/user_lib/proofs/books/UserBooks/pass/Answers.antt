use Rattle.std.proofs.Common.{◌≡◌, ◌+◌, ◌%◌, ◌++◌, ◌∷◌, [], List, sym, ap, ◌∙◌, subst, arith}
use Rattle.region_model.specs.Sides.{Recorded}
use Rattle.tcmu_types.specs.Lists.{Every}
use Rattle.tcmu_types.proofs.Everies.{every-append}
use Rattle.ring_laws.specs.RingKept.{IsPlace}
use Rattle.ring_laws.proofs.user_over_any_bytes.AnyNext.{next_place}
use Rattle.user_lib.proofs.books.UserBooks.pass.Goals as goal

pub invariant_of-self-2 : goal.invariant_of-self-2
invariant_of-self-2 c =
    let a = c.self.invariant.sound in
    let even = a.place.aligned in
    let words = c.requires.words in
    let P : Recorded → Type 0 = λ x. x.len % 8 ≡ 0 in
    let x : Recorded = record { kind = c.args.kind; len = c.args.len } in
    record {
      sound = record {
        ring = a.ring;
        place = subst (IsPlace c.self.inside.ring) (sym c.place_behind-self-inside.ensures) (next_place c.self.inside.ring (c.self.inside.place + c.args.len) a.ring.least a.ring.pages (omega (arith, even, words)));
        tail = a.tail;
        items = subst (λ (xs : List Recorded). Every P xs) (sym (c.push_back_reserved.ensures.items ∙ ap (λ (xs : List Recorded). xs ++ x ∷ []) c.reserve.ensures.items)) (every-append P c.self.inside.items.items (x ∷ []) a.items (words, tt));
        offsets = a.offsets;
      };
      order = c.self.invariant.order;
    }
