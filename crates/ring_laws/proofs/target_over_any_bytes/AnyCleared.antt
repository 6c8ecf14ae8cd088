-- Which items a clean clears over any bytes: the first ones, up to the tail or to the entry of an id that no command has.
use Rattle.std.proofs.Common.{◌≡◌, ◌⊎◌, inl, inr, ℕ, ◌+◌, ◌%◌, ◌<◌, Bool, true, false, cond, ◌||◌, ◌==◌, List, [], ◌∷◌, take, drop, suc, Option, Some, None, refl, sym, ap, ◌∙◌, arith, subst, ⊎_elim}
use Rattle.std.specs.List.{sum_by}
use Rattle.std.proofs.Math.Nat.{mod-add-mod, mod-eq_of_lt, mod-lt}
use Rattle.std.proofs.lemmas.Bool.{eqb-true, false≢true}
use Rattle.std.proofs.lemmas.List.Sums.{sum_by-cons}
use Rattle.tcmu_types.proofs.Readings.{same_some}
use Rattle.tcmu_types.specs.Data.{SettingsData}
use Rattle.tcmu_types.specs.declared.dump.ItemKind.{ItemKind}
use Rattle.tcmu_types.specs.declared.dump.ItemKind.TheVariants as kind
use Rattle.tcmu_types.specs.Lists.{first_of}
use Rattle.region_model.specs.Regions.{RegionState}
use Rattle.region_model.specs.Sides.{PendingRow, Recorded, TargetState}
use Rattle.region_model.specs.Represents.{has_id}
use Rattle.region_model.specs.TargetCleans.{tail_read, ends_at, tail_fits, answered_by, response_in, one_cleaned, unless_broken, all_cleaned, target_cleaned}
use Rattle.ring_laws.specs.Calls.{ClearsFirst, StopsAt}

-- ==== one item

-- an item is passed
pub record Passed (t k : TargetState) (len : ℕ) (xs : List Recorded) : Type 0 where
  pub items : k.items ≡ xs
  pub cleaned : k.cleaned ≡ (t.cleaned + len) % t.settings.ring
  pub settings : k.settings ≡ t.settings
  pub broken : k.broken ≡ t.broken

-- or it is a command's, whose entry has an id that none has
pub record Stopped (r : RegionState) (t k : TargetState) (c : ItemKind) : Type 0 where
  pub same : k ≡ record t { broken = Some (response_in r t).id }
  pub cmd : c ≡ kind.Cmd
  pub none : first_of (has_id (response_in r t).id) t.rows ≡ None

pub one_case : (r : RegionState) (t : TargetState) (x : Recorded) (xs : List Recorded) (c : ItemKind) → Passed t (one_cleaned r t x xs c) x.len xs ⊎ Stopped r t (one_cleaned r t x xs c) c
one_case r t x xs kind.Pad = inl (record { items = refl; cleaned = refl; settings = refl; broken = refl })
one_case r t x xs kind.Tmr = inl (record { items = refl; cleaned = refl; settings = refl; broken = refl })
one_case r t x xs kind.Cmd = by_row (first_of (has_id (response_in r t).id) t.rows) refl
  where
    By : Option PendingRow → Type 0
    By o = Passed t (answered_by r (response_in r t) t x xs o) x.len xs ⊎ Stopped r t (answered_by r (response_in r t) t x xs o) kind.Cmd

    by_row : (o : Option PendingRow) → first_of (has_id (response_in r t).id) t.rows ≡ o → By o
    by_row None e = inr (record { same = refl; cmd = refl; none = e })
    by_row (Some row) e = inl (record { items = refl; cleaned = refl; settings = refl; broken = refl })

-- ==== all items

-- a clean ends at an item, or goes on behind it
pub by_item : (P : TargetState → Type 0) (r : RegionState) (tail : ℕ) (t : TargetState) (x : Recorded) (xs : List Recorded) → ((t.cleaned == tail) ≡ true → P t) → ((id : ℕ) → t.broken ≡ Some id → P t) →
    (t.broken ≡ None → (t.cleaned == tail) ≡ false → P (all_cleaned r tail (one_cleaned r t x xs x.kind) xs)) → P (all_cleaned r tail t (x ∷ xs))
by_item P r tail t x xs here kept more = by_tail (t.cleaned == tail) refl
  where
    further : TargetState
    further = all_cleaned r tail (one_cleaned r t x xs x.kind) xs

    by_broken : (o : Option ℕ) → t.broken ≡ o → (t.cleaned == tail) ≡ false → P (unless_broken o t further)
    by_broken None e b = more e b
    by_broken (Some id) e b = kept id e

    by_tail : (b : Bool) → (t.cleaned == tail) ≡ b → P (cond b t (unless_broken t.broken t further))
    by_tail true e = here e
    by_tail false e = by_broken t.broken refl e

pub neither : (o : Option ℕ) (id : ℕ) → o ≡ None → o ≡ Some id → ⊥
neither o id n e = cc

-- a kept id stops what would come behind it
stays_broken : (r : RegionState) (tail : ℕ) (t : TargetState) (xs : List Recorded) (id : ℕ) → t.broken ≡ Some id → all_cleaned r tail t xs ≡ t
stays_broken r tail t [] id h = refl
stays_broken r tail t (x ∷ xs) id h = by_item (λ k. k ≡ t) r tail t x xs (λ e. refl) (λ i e. refl) (λ e b. absurd (neither t.broken id e h))

pub stopped_all : (r : RegionState) (tail : ℕ) (t k : TargetState) (c : ItemKind) (xs : List Recorded) → Stopped r t k c → all_cleaned r tail k xs ≡ record t { broken = Some (response_in r t).id }
stopped_all r tail t k c xs s = stays_broken r tail k xs (response_in r t).id (ap (λ (z : TargetState). z.broken) s.same) ∙ s.same

-- ==== the first items

clears_none : (t z : TargetState) → t.cleaned < t.settings.ring → z.items ≡ t.items → z.cleaned ≡ t.cleaned → ClearsFirst t z 0
clears_none t z h i c =
    let same : t.cleaned % t.settings.ring ≡ t.cleaned = mod-eq_of_lt h in
    let start : t.cleaned + 0 ≡ t.cleaned = omega arith in
    record { items = i; cleaned = c ∙ sym same ∙ ap (λ n. n % t.settings.ring) (sym start) }

clears_more : (t k z : TargetState) (x : Recorded) (xs : List Recorded) (n : ℕ) → t.items ≡ x ∷ xs → Passed t k x.len xs → ClearsFirst k z n → ClearsFirst t z (suc n)
clears_more t k z x xs n e p c =
    let ring : ℕ = t.settings.ring in
    let rest : ℕ = sum_by (λ (y : Recorded). y.len) (take n xs) in
    let more : sum_by (λ (y : Recorded). y.len) (x ∷ take n xs) ≡ x.len + rest = sum_by-cons (λ (y : Recorded). y.len) x (take n xs) in
    let q : (t.cleaned + x.len) + rest ≡ t.cleaned + sum_by (λ (y : Recorded). y.len) (x ∷ take n xs) = omega (arith, more) in
    record {
      items = c.items ∙ ap (drop n) p.items ∙ ap (drop (suc n)) (sym e);
      cleaned = c.cleaned
          ∙ ap (λ (s : SettingsData). (k.cleaned + sum_by (λ (y : Recorded). y.len) (take n k.items)) % s.ring) p.settings
          ∙ ap (λ a. (a + sum_by (λ (y : Recorded). y.len) (take n k.items)) % ring) p.cleaned
          ∙ ap (λ ys. ((t.cleaned + x.len) % ring + sum_by (λ (y : Recorded). y.len) (take n ys)) % ring) p.items
          ∙ mod-add-mod (t.cleaned + x.len) ring rest
          ∙ ap (λ a. a % ring) q
          ∙ ap (λ ys. (t.cleaned + sum_by (λ (y : Recorded). y.len) (take (suc n) ys)) % ring) (sym e);
    }

abbrev Clears : TargetState → TargetState → Type 0
Clears t z = (n : ℕ) × ClearsFirst t z n

all_clears : (r : RegionState) (tail : ℕ) (t : TargetState) (xs : List Recorded) → t.items ≡ xs → t.cleaned < t.settings.ring → Clears t (all_cleaned r tail t xs)
all_clears r tail t [] e h = (0, clears_none t t h refl refl)
all_clears r tail t (x ∷ xs) e h =
    by_item (Clears t) r tail t x xs (λ d. (0, clears_none t t h refl refl)) (λ id d. (0, clears_none t t h refl refl))
    (λ d z.
    ⊎_elim
    (λ (p : Passed t next x.len xs). let c : Clears next (all_cleaned r tail next xs) = all_clears r tail next xs p.items (below p) in (suc c.0, clears_more t next (all_cleaned r tail next xs) x xs c.0 e p c.1))
    (λ (s : Stopped r t next x.kind).
    let q : all_cleaned r tail next xs ≡ record t { broken = Some (response_in r t).id } = stopped_all r tail t next x.kind xs s in
    (0, clears_none t (all_cleaned r tail next xs) h (ap (λ (z : TargetState). z.items) q) (ap (λ (z : TargetState). z.cleaned) q)))
    (one_case r t x xs x.kind))
  where
    next : TargetState
    next = one_cleaned r t x xs x.kind

    below : Passed t next x.len xs → next.cleaned < next.settings.ring
    below p =
        let l : (t.cleaned + x.len) % t.settings.ring < t.settings.ring = mod-lt (t.cleaned + x.len) (omega (arith, h)) in
        let q : next.settings.ring ≡ t.settings.ring = ap (λ (s : SettingsData). s.ring) p.settings in
        omega (arith, l, q, p.cleaned)

-- ==== up to the tail

abbrev pub Fits : ℕ → TargetState → List Recorded → Type 0
Fits tail t xs = ((t.cleaned == tail) || ends_at t.settings.ring t.cleaned xs tail) ≡ true

pub all_reach : (r : RegionState) (tail : ℕ) (t : TargetState) (xs : List Recorded) → Fits tail t xs → (all_cleaned r tail t xs).broken ≡ None → (all_cleaned r tail t xs).cleaned ≡ tail
all_reach r tail t [] f = λ b. eqb-true t.cleaned tail (or_first (t.cleaned == tail) f)
  where
    or_first : (a : Bool) → (a || false) ≡ true → a ≡ true
    or_first true h = refl
    or_first false h = absurd (false≢true h)
all_reach r tail t (x ∷ xs) f =
    by_item Reaches r tail t x xs (λ e b. eqb-true t.cleaned tail e) (λ id e b. absurd (neither t.broken id b e))
    (λ d z.
    ⊎_elim
    (λ (p : Passed t next x.len xs). all_reach r tail next xs (fits p z))
    (λ (s : Stopped r t next x.kind). λ b. absurd (neither (all_cleaned r tail next xs).broken (response_in r t).id b (ap (λ (k : TargetState). k.broken) (stopped_all r tail t next x.kind xs s))))
    (one_case r t x xs x.kind))
  where
    next : TargetState
    next = one_cleaned r t x xs x.kind

    Reaches : TargetState → Type 0
    Reaches z = z.broken ≡ None → z.cleaned ≡ tail

    -- where its first item ends the others begin
    fits : Passed t next x.len xs → (t.cleaned == tail) ≡ false → Fits tail next xs
    fits p z =
        let at : ℕ = (t.cleaned + x.len) % t.settings.ring in
        let g : ((at == tail) || ends_at t.settings.ring at xs tail) ≡ true = rw z at f in
        subst (λ (s : SettingsData). ((next.cleaned == tail) || ends_at s.ring next.cleaned xs tail) ≡ true) (sym p.settings)
        (subst (λ a. ((a == tail) || ends_at t.settings.ring a xs tail) ≡ true) (sym p.cleaned) g)

-- ==== or to an id that no command has

pub all_stop : (r : RegionState) (tail : ℕ) (t : TargetState) (xs : List Recorded) (id : ℕ) → t.items ≡ xs → t.broken ≡ None → (all_cleaned r tail t xs).broken ≡ Some id → StopsAt r id (all_cleaned r tail t xs)
all_stop r tail t [] id e n = λ h. absurd (neither t.broken id n h)
all_stop r tail t (x ∷ xs) id e n =
    by_item Stops r tail t x xs (λ d h. absurd (neither t.broken id n h)) (λ i d h. absurd (neither t.broken id n h))
    (λ d z.
    ⊎_elim
    (λ (p : Passed t next x.len xs). all_stop r tail next xs id p.items (p.broken ∙ n))
    (λ (s : Stopped r t next x.kind). subst Stops (sym (stopped_all r tail t next x.kind xs s)) (stands s))
    (one_case r t x xs x.kind))
  where
    next : TargetState
    next = one_cleaned r t x xs x.kind

    Stops : TargetState → Type 0
    Stops z = z.broken ≡ Some id → StopsAt r id z

    stands : Stopped r t next x.kind → Stops (record t { broken = Some (response_in r t).id })
    stands s h =
        let q : (response_in r t).id ≡ id = same_some (response_in r t).id id h in
        record {
          kept = h;
          none = subst (λ i. first_of (has_id i) t.rows ≡ None) q s.none;
          len = x.len;
          rest = xs;
          item = e ∙ ap (λ c. record { kind = c; len = x.len } ∷ xs) s.cmd;
          read = q;
        }

-- ==== a clean

pub clean_front : (r : RegionState) (t : TargetState) → t.cleaned < t.settings.ring → (n : ℕ) × ClearsFirst t (target_cleaned r t) n
unfolding target_cleaned
clean_front r t h = by_broken t.broken
  where
    fitting : (b : Bool) → Clears t (cond b (all_cleaned r (tail_read r) t t.items) t)
    fitting true = all_clears r (tail_read r) t t.items refl h
    fitting false = (0, clears_none t t h refl refl)

    by_broken : (o : Option ℕ) → Clears t (elim o as (λ x. TargetState) [ Some id ↦ t | None ↦ cond (tail_fits r t) (all_cleaned r (tail_read r) t t.items) t ])
    by_broken None = fitting (tail_fits r t)
    by_broken (Some id) = (0, clears_none t t h refl refl)
