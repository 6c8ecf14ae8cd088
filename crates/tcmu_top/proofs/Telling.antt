-- What is told of a source and of a sink, over several calls.
use Rattle.std.proofs.Common.{subst, ◌≡◌, ℕ, ◌+◌, ◌<◌, ◌≤◌, ⊎_elim, inl, inr, List, [], ◌∷◌, ◌++◌, length, get_or, take, drop, Option, Some, None, Result, Ok, Err, OnErr, refl, sym, ap, ◌∙◌, arith, append_assoc, length-append}
use Rattle.std.specs.Option.{option_map, IfSome}
use Rattle.std.proofs.lemmas.List.{append-nil, drop_more, take-append-drop}
use Rattle.std.proofs.lemmas.List.Concat.{flat_map-append}
use Rattle.std.specs.List.{flat_map}
use Rattle.std.proofs.lemmas.Bool.{cases_lt}
use Rattle.tcmu_types.specs.Numbered.{Rose}
use Rattle.edge.specs.Outside.{Tells, Gave, Gained, GainedFront}
use Rattle.tcmu_top.specs.Calls.{TookFront}

map_twice : (xs ys : List ℕ) (o : Option (List ℕ)) → option_map (λ zs. xs ++ zs) (option_map (λ zs. ys ++ zs) o) ≡ option_map (λ zs. xs ++ ys ++ zs) o
map_twice xs ys None = refl
map_twice xs ys (Some zs) = ap (λ (l : List ℕ). Some l) (sym (append_assoc xs ys zs))

-- one piece after another
pub gave_more : (old mid new : Option (List ℕ)) (xs ys zs : List ℕ) → Gave old xs mid → Gave mid ys new → zs ≡ xs ++ ys → Gave old zs new
gave_more old mid new xs ys zs e f z = e ∙ ap (option_map (λ l. xs ++ l)) f ∙ map_twice xs ys new ∙ ap (λ (l : List ℕ). option_map (λ r. l ++ r) new) (sym z)

-- two pieces were taken, of a scenario's length and of one read
pub took_two : (old mid new : Option (List ℕ)) (xs ys : List ℕ) (before now : ℕ) → length xs ≤ 4194304 → length ys ≤ 4096 → Gave old xs mid → Gave mid ys new → now ≤ before + length xs + 1 → TookFront old new before now
took_two old mid new xs ys before now long few e f reads =
    record {
      piece = xs ++ ys;
      gave = gave_more old mid new xs ys (xs ++ ys) e f refl;
      most = omega (arith, long, few, length-append xs ys);
      few = omega (arith, long, reads, length-append xs ys);
    }

-- at the end, what was given is all
pub gave_all : (old mid : Option (List ℕ)) (xs : List ℕ) → Gave old xs mid → Tells mid [] → Tells old xs
gave_all None mid xs e t = tt
gave_all (Some ys) None xs e t = absurd (cc)
gave_all (Some ys) (Some zs) xs e t =
    let h : ys ≡ xs ++ zs = cc in
    h ∙ ap (λ (l : List ℕ). xs ++ l) t ∙ append-nil xs

pub gave_long : (old mid : Option (List ℕ)) (xs : List ℕ) (n : ℕ) → Gave old xs mid → n < length xs → IfSome old (λ ys. n < length ys)
gave_long None mid xs n e lt = tt
gave_long (Some ys) None xs n e lt = absurd (cc)
gave_long (Some ys) (Some zs) xs n e lt =
    let h : ys ≡ xs ++ zs = cc in
    omega (arith, ap length h, length-append xs zs)

-- a rise stays one
pub rose_later : (a b c : ℕ) → a ≤ b → b ≤ c → Rose b c → Rose a c
rose_later a b c le le' (inl lt) = inl (omega arith)
rose_later a b c le le' (inr end) = ⊎_elim (λ h. inl (omega arith)) (λ h. inr (omega arith)) (cases_lt a b)

-- ---- sinks

map_after : (xs ys : List ℕ) (o : Option (List ℕ)) → option_map (λ w. w ++ ys) (option_map (λ w. w ++ xs) o) ≡ option_map (λ w. w ++ (xs ++ ys)) o
map_after xs ys None = refl
map_after xs ys (Some w) = ap (λ (l : List ℕ). Some l) (append_assoc w xs ys)

map_none : (o : Option (List ℕ)) → o ≡ option_map (λ w. w ++ []) o
map_none None = refl
map_none (Some w) = ap (λ (l : List ℕ). Some l) (sym (append-nil w))

-- nothing was appended
pub gained_none : (old : Option (List ℕ)) → Gained old [] old
gained_none old = map_none old

pub gained_more : (old mid new : Option (List ℕ)) (xs ys : List ℕ) → Gained old xs mid → Gained mid ys new → Gained old (xs ++ ys) new
gained_more old mid new xs ys g h = h ∙ ap (option_map (λ w. w ++ ys)) g ∙ map_after xs ys old

pub gained_as : (old new : Option (List ℕ)) (xs ys : List ℕ) → xs ≡ ys → Gained old xs new → Gained old ys new
gained_as old new xs ys e g = let P : List ℕ → Type 0 = λ l. Gained old l new in subst P e g

-- nothing, as a front of a text
pub front_none : (old : Option (List ℕ)) (text : List ℕ) → GainedFront old text old
front_none old text = ([], text, refl, gained_none old)

-- the whole, as a front of a longer text
pub front_whole : (old new : Option (List ℕ)) (xs ys text : List ℕ) → text ≡ xs ++ ys → Gained old xs new → GainedFront old text new
front_whole old new xs ys text e g = (xs, ys, e, g)

-- a front of the second part behind the first
pub front_more : (old mid new : Option (List ℕ)) (xs ys zs text : List ℕ) → text ≡ xs ++ (ys ++ zs) → Gained old xs mid → GainedFront mid ys new → GainedFront old text new
front_more old mid new xs ys zs text e g f =
    (xs ++ f.0, f.1 ++ zs, e ∙ ap (λ (l : List ℕ). xs ++ (l ++ zs)) f.2 ∙ simp append_assoc, gained_more old mid new xs f.0 g f.3)

-- a front of the first part
pub front_first : (old new : Option (List ℕ)) (xs ys text : List ℕ) → text ≡ xs ++ ys → GainedFront old xs new → GainedFront old text new
front_first old new xs ys text e f = (f.0, f.1 ++ ys, e ∙ ap (λ (l : List ℕ). l ++ ys) f.2 ∙ append_assoc f.0 f.1 ys, f.3)

pub on_err : {T E X : Type 0} (r : Result T E) → X → OnErr r X
on_err (Ok x) h = tt
on_err (Err e) h = h

-- the text of a list up to a place, at it and behind it
pub pieces_at : {X : Type 0} (f : X → List ℕ) (xs : List X) (i : ℕ) (x : X) → i < length xs → x ≡ get_or xs i x
    → flat_map f xs ≡ flat_map f (take i xs) ++ (f x ++ flat_map f (drop (i + 1) xs))
pieces_at {X} f xs i x lt is =
    let rest : drop i xs ≡ x ∷ drop (i + 1) xs = drop_more xs i x lt ∙ ap (λ (y : X). y ∷ drop (i + 1) xs) (sym is) in
    let whole : xs ≡ take i xs ++ (x ∷ drop (i + 1) xs) = sym (take-append-drop i xs) ∙ ap (λ (l : List X). take i xs ++ l) rest in
    ap (flat_map f) whole ∙ flat_map-append f (take i xs) (x ∷ drop (i + 1) xs)

-- a front of the last part
pub front_behind : (old mid new : Option (List ℕ)) (xs ys text : List ℕ) → text ≡ xs ++ ys → Gained old xs mid → GainedFront mid ys new → GainedFront old text new
front_behind old mid new xs ys text e g f = front_more old mid new xs ys [] text (e ∙ ap (λ (l : List ℕ). xs ++ l) (sym (append-nil ys))) g f
