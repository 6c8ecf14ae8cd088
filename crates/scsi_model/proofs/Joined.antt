-- What holds of joined calls, since it holds of their parts.
use Rattle.std.proofs.Common.{◌∙◌, ◌≡◌, Bool, true, false, sym, ap, subst, refl, if◌then◌else◌}
use Rattle.std.specs.Bool.{MatchBool}
use Rattle.scsi_model.specs.Calls.{Call, Does, Leaves, Then, Chosen}

-- ==== a relation between the states before and after

abbrev pub Kept : {X : Type 0} → (X → X → Type 0) → Call X → Type 0
Kept {X} R C = (x : X) (f : Bool) (a : X) → C x f a → R x a

pub record IsOrder {X : Type 0} (R : X → X → Type 0) : Type 0 where
  pub same : (x : X) → R x x
  pub next : (x y z : X) → R x y → R y z → R x z

pub does_kept : {X : Type 0} (R : X → X → Type 0) (change : X → X) → ((x : X) → R x (change x)) → Kept R (Does change)
does_kept R change h x f a c = subst (R x) (sym c.1) (h x)

pub leaves_kept : {X : Type 0} (R : X → X → Type 0) (C : Call X) (success failure : X → X) → IsOrder R → Kept R C → ((x : X) → R x (success x)) → ((x : X) → R x (failure x))
    → Kept R (Leaves C success failure)
leaves_kept {X} R C success failure o k s h x f a c = subst (R x) (sym c.2) (o.next x c.0 _ (k x f c.0 c.1) (by f c.0))
  where
    by : (f : Bool) (y : X) → R y (if f then failure y else success y)
    by true y = h y
    by false y = s y

pub then_kept : {X : Type 0} (R : X → X → Type 0) (C D : Call X) → IsOrder R → Kept R C → Kept R D → Kept R (Then C D)
then_kept {X} R C D o k l x f a c = o.next x c.1 a (k x c.0 c.1 c.2) (by c.0 c.1 c.3)
  where
    by : (broke : Bool) (y : X) → MatchBool broke ((f ≡ true) × (a ≡ y)) (D y f a) → R y a
    by true y d = subst (R y) (sym d.1) (o.same y)
    by false y d = l y f a d

pub chosen_kept : {X : Type 0} (R : X → X → Type 0) (test : Bool) (C D : Call X) → Kept R C → Kept R D → Kept R (Chosen test C D)
chosen_kept R true C D k l x f a c = k x f a c
chosen_kept R false C D k l x f a c = l x f a c

-- ==== outcomes

-- A call has an outcome, only one where the failing calls are told, and tells as much behind it.
pub record IsDecided {X : Type 0} (tells : X → Bool) (C : Call X) : Type 0 where
  pub some : (x : X) → (f : Bool) × (a : X) × C x f a
  pub one : (x : X) (f g : Bool) (a b : X) → tells x ≡ true → C x f a → C x g b → (f ≡ g) × (a ≡ b)
  pub same : (x : X) (f : Bool) (a : X) → C x f a → tells a ≡ tells x

-- a change that tells as much
abbrev pub Tells : {X : Type 0} → (X → Bool) → (X → X) → Type 0
Tells {X} tells change = (x : X) → tells (change x) ≡ tells x

pub does_decided : {X : Type 0} (tells : X → Bool) (change : X → X) → Tells tells change → IsDecided tells (Does change)
does_decided tells change keeps = record {
  some = λ x. (false, change x, (refl, refl));
  one = λ x f g a b t p q. (p.0 ∙ sym q.0, p.1 ∙ sym q.1);
  same = λ x f a p. ap tells p.1 ∙ keeps x;
}

pub leaves_decided : {X : Type 0} (tells : X → Bool) (C : Call X) (success failure : X → X) → IsDecided tells C → Tells tells success → Tells tells failure
    → IsDecided tells (Leaves C success failure)
leaves_decided {X} tells C success failure d s h = record {
  some = λ x. let p = d.some x in (p.0, (if p.0 then failure p.1 else success p.1), (p.1, p.2, refl));
  one = λ x f g a b t p q.
      let e = d.one x f g p.0 q.0 t p.1 q.1 in
      (e.0, p.2 ∙ ap (λ (k : X). if f then failure k else success k) e.1 ∙ ap (λ z. if z then failure q.0 else success q.0) e.0 ∙ sym q.2);
  same = λ x f a p. ap tells p.2 ∙ by f p.0 ∙ d.same x f p.0 p.1;
}
  where
    by : (f : Bool) (y : X) → tells (if f then failure y else success y) ≡ tells y
    by true y = h y
    by false y = s y

pub then_decided : {X : Type 0} (tells : X → Bool) (C D : Call X) → IsDecided tells C → IsDecided tells D → IsDecided tells (Then C D)
then_decided {X} tells C D p q = record { some = some; one = one; same = same }
  where
    some : (x : X) → (f : Bool) × (a : X) × Then C D x f a
    some x = let s = p.some x in by s.0 s.1 s.2 (q.some s.1)
      where
        by : (broke : Bool) (y : X) → C x broke y → ((f : Bool) × (a : X) × D y f a) → (f : Bool) × (a : X) × Then C D x f a
        by true y s more = (true, y, (true, y, s, (refl, refl)))
        by false y s more = (more.0, more.1, (false, y, s, more.2))

    one : (x : X) (f g : Bool) (a b : X) → tells x ≡ true → Then C D x f a → Then C D x g b → (f ≡ g) × (a ≡ b)
    one x f g a b t s r =
        let e = p.one x s.0 r.0 s.1 r.1 t s.2 r.2 in
        let P : Bool → X → Type 0 = λ broke y. MatchBool broke ((g ≡ true) × (b ≡ y)) (D y g b) in
        let z : P s.0 s.1 = subst (P s.0) (sym e.1) (subst (λ broke. P broke r.1) (sym e.0) r.3) in
        by s.0 s.1 (p.same x s.0 s.1 s.2 ∙ t) s.3 z
      where
        by : (broke : Bool) (y : X) → tells y ≡ true → MatchBool broke ((f ≡ true) × (a ≡ y)) (D y f a)
            → MatchBool broke ((g ≡ true) × (b ≡ y)) (D y g b) → (f ≡ g) × (a ≡ b)
        by true y t u v = (u.0 ∙ sym v.0, u.1 ∙ sym v.1)
        by false y t u v = q.one y f g a b t u v

    same : (x : X) (f : Bool) (a : X) → Then C D x f a → tells a ≡ tells x
    same x f a s = by s.0 s.1 s.3 ∙ p.same x s.0 s.1 s.2
      where
        by : (broke : Bool) (y : X) → MatchBool broke ((f ≡ true) × (a ≡ y)) (D y f a) → tells a ≡ tells y
        by true y u = ap tells u.1
        by false y u = q.same y f a u

pub chosen_decided : {X : Type 0} (tells : X → Bool) (test : Bool) (C D : Call X) → IsDecided tells C → IsDecided tells D → IsDecided tells (Chosen test C D)
chosen_decided tells true C D p q = record { some = p.some; one = p.one; same = p.same }
chosen_decided tells false C D p q = record { some = q.some; one = q.one; same = q.same }
