use Rattle.std.proofs.Common.{◌≡◌, ℕ, ◌+◌, ◌%◌, ◌≤◌, ◌++◌, ◌∷◌, [], List, sym, ap, ◌∙◌, subst, arith}
use Rattle.tcmu_types.specs.declared.dump.ItemKind.TheVariants as kind
use Rattle.tcmu_types.specs.Lists.{Every}
use Rattle.tcmu_types.proofs.Everies.{every-append}
use Rattle.region_model.specs.Sides.{Recorded, UserState}
use Rattle.ring_laws.specs.RingKept.{IsPlace}
use Rattle.ring_laws.proofs.user_over_any_bytes.AnyNext.{next_place}
use Rattle.user_lib.proofs.books.UserBooks.pass_job.Goals as goal

pub invariant_of-self-2 : goal.invariant_of-self-2
invariant_of-self-2 c =
    let a = c.self.invariant.sound in
    let even = a.place.aligned in
    let words = c.requires.words in
    let P : Recorded → Type 0 = λ x. x.len % 8 ≡ 0 in
    let Q : ℕ → Type 0 = λ x. x + 112 ≤ c.self.inside.ring in
    let x : Recorded = record { kind = kind.Cmd; len = c.args.len } in
    let p : c.self.inside.place ≡ c.args.self.now.place = ap (λ (u : UserState). u.place) c.self.view_is in
    let r : c.self.inside.ring ≡ c.args.self.now.ring = ap (λ (u : UserState). u.ring) c.self.view_is in
    let fits : c.self.inside.place + 112 ≤ c.self.inside.ring = let h = c.requires.answer in omega (arith, p, r, h) in
    record {
      sound = record {
        ring = a.ring;
        place = subst (IsPlace c.self.inside.ring) (sym c.place_behind-self-inside.ensures) (next_place c.self.inside.ring (c.self.inside.place + c.args.len) a.ring.least a.ring.pages (omega (arith, even, words)));
        tail = a.tail;
        items = subst (λ (xs : List Recorded). Every P xs) (sym (c.push_back_reserved-2.ensures.items ∙ ap (λ (xs : List Recorded). xs ++ x ∷ []) c.reserve-3.ensures.items)) (every-append P c.self.inside.items.items (x ∷ []) a.items (words, tt));
        offsets = subst (λ (xs : List ℕ). Every Q xs) (sym (c.push_back_reserved.ensures.items ∙ ap (λ (xs : List ℕ). xs ++ c.self.inside.place ∷ []) c.reserve-2.ensures.items)) (every-append Q c.self.inside.offsets.items (c.self.inside.place ∷ []) a.offsets (fits, tt));
      };
      order = c.push.ensures.order ∙ (c.reserve.ensures.order ∙ c.self.invariant.order);
    }
