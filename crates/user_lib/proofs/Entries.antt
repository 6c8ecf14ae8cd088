-- What is read of an entry one after another: iovecs and ids.
use Rattle.std.proofs.Common.{◌≡◌, ℕ, suc, ◌+◌, ◌-◌, ◌<◌, ◌≤◌, Bool, true, false, cond, List, [], ◌∷◌, ◌++◌, length, drop, drop-cons, add-one, get_or, refl, sym, ap, ◌∙◌, subst, arith, append_assoc, Ok, ⊎_elim}
use Rattle.std.proofs.lemmas.List.{append-nil}
use Rattle.std.specs.List.{filter, list_all}
use Rattle.std.proofs.lemmas.Bool.{and_parts, cases_Bool, leb-true}
use Rattle.tcmu_types.specs.declared.iovec.Iov.{Iov}
use Rattle.region_model.specs.declared.mailbox.Mailbox.{Mailbox}
use Rattle.region_model.specs.declared.entry.EntryRef.TheVariants as entry
use Rattle.region_model.specs.Layout.{data_start, ring_start}
use Rattle.region_model.specs.EntryReading.{entry_read, iov_at, lies_inside, tmr_id_at}
use Rattle.region_model.specs.Iovecs.{total_of}
use Rattle.region_model.specs.Regions.{LieInRegion, RegionState, bytes_of}
use Rattle.region_model.specs.UserSteps.{lie_in_area}
use Rattle.region_model.specs.UserNext.{iovs_in, tmr_ids_in}
use Rattle.ring_laws.proofs.PassedEntries.{inside_read}

-- ==== iovecs

pub iovs_first : (front : List ℕ) (b i n : ℕ) → i < n → iovs_in front b i (n - i) ≡ iov_at front b i ∷ iovs_in front b (i + 1) (n - (i + 1))
iovs_first front b i n h = let e : n - i ≡ suc (n - (i + 1)) = omega (arith, h) in ap (λ k. iovs_in front b i k) e

pub iovs_step : (front : List ℕ) (b i n : ℕ) (items new : List Iov) (x : Iov) → i < n → x ≡ iov_at front b i → new ≡ items ++ x ∷ [] → new ++ iovs_in front b (i + 1) (n - (i + 1)) ≡ items ++ iovs_in front b i (n - i)
iovs_step front b i n items new x h e p =
    let rest : List Iov = iovs_in front b (i + 1) (n - (i + 1)) in
    ap (λ xs. xs ++ rest) p ∙ (append_assoc items (x ∷ []) rest ∙ (ap (λ y. items ++ y ∷ rest) e ∙ ap (λ xs. items ++ xs) (sym (iovs_first front b i n h))))

pub iovs_end : (front : List ℕ) (b i n : ℕ) (items : List Iov) → n ≤ i → items ++ iovs_in front b i (n - i) ≡ items
iovs_end front b i n items h = let e : n - i ≡ 0 = omega (arith, h) in ap (λ k. items ++ iovs_in front b i k) e ∙ append-nil items

-- ==== ids that pass a test

ids_first : (front : List ℕ) (b i n : ℕ) → i < n → tmr_ids_in front b i (n - i) ≡ tmr_id_at front b i ∷ tmr_ids_in front b (i + 1) (n - (i + 1))
ids_first front b i n h = let e : n - i ≡ suc (n - (i + 1)) = omega (arith, h) in ap (λ k. tmr_ids_in front b i k) e

filter_first : (p : ℕ → Bool) (x : ℕ) (xs : List ℕ) (b : Bool) → p x ≡ b → filter p (x ∷ xs) ≡ cond b (x ∷ filter p xs) (filter p xs)
filter_first p x xs true e = rw e refl
filter_first p x xs false e = rw e refl

pub ids_taken : (p : ℕ → Bool) (front : List ℕ) (b i n : ℕ) (items new : List ℕ) (x : ℕ) → i < n → x ≡ tmr_id_at front b i → p x ≡ true → new ≡ items ++ x ∷ [] →
    new ++ filter p (tmr_ids_in front b (i + 1) (n - (i + 1))) ≡ items ++ filter p (tmr_ids_in front b i (n - i))
ids_taken p front b i n items new x h e t q =
    let rest : List ℕ = tmr_ids_in front b (i + 1) (n - (i + 1)) in
    ap (λ xs. xs ++ filter p rest) q
    ∙ (append_assoc items (x ∷ []) (filter p rest)
    ∙ (ap (λ xs. items ++ xs) (sym (filter_first p x rest true t)) ∙ ap (λ xs. items ++ filter p xs) (ap (λ y. y ∷ rest) e ∙ sym (ids_first front b i n h))))

pub ids_left : (p : ℕ → Bool) (front : List ℕ) (b i n : ℕ) (items : List ℕ) (x : ℕ) → i < n → x ≡ tmr_id_at front b i → p x ≡ false →
    items ++ filter p (tmr_ids_in front b (i + 1) (n - (i + 1))) ≡ items ++ filter p (tmr_ids_in front b i (n - i))
ids_left p front b i n items x h e t =
    let rest : List ℕ = tmr_ids_in front b (i + 1) (n - (i + 1)) in
    ap (λ xs. items ++ xs) (sym (filter_first p x rest false t)) ∙ ap (λ xs. items ++ filter p xs) (ap (λ y. y ∷ rest) e ∙ sym (ids_first front b i n h))

pub ids_step : (p : ℕ → Bool) (front : List ℕ) (b i n : ℕ) (items new : List ℕ) (x : ℕ) → i < n → x ≡ tmr_id_at front b i → new ≡ cond (p x) (items ++ x ∷ []) items →
    new ++ filter p (tmr_ids_in front b (i + 1) (n - (i + 1))) ≡ items ++ filter p (tmr_ids_in front b i (n - i))
ids_step p front b i n items new x h e q =
    ⊎_elim
    (λ (t : p x ≡ true). ids_taken p front b i n items new x h e t (q ∙ ap (λ c. cond c (items ++ x ∷ []) items) t))
    (λ (t : p x ≡ false). ap (λ xs. xs ++ filter p (tmr_ids_in front b (i + 1) (n - (i + 1)))) (q ∙ ap (λ c. cond c (items ++ x ∷ []) items) t) ∙ ids_left p front b i n items x h e t)
    (cases_Bool (p x))

pub ids_end : (p : ℕ → Bool) (front : List ℕ) (b i n : ℕ) (items : List ℕ) → n ≤ i → items ++ filter p (tmr_ids_in front b i (n - i)) ≡ items
ids_end p front b i n items h = let e : n - i ≡ 0 = omega (arith, h) in ap (λ k. items ++ filter p (tmr_ids_in front b i k)) e ∙ append-nil items

-- ==== how many bytes iovecs name

pub total_first : (iovs : List Iov) (i : ℕ) (d : Iov) → i < length iovs → total_of (drop i iovs) ≡ (get_or iovs i d).len + total_of (drop (i + 1) iovs)
total_first iovs i d h = ap total_of (drop-cons iovs i d h) ∙ ap (λ k. (get_or iovs i d).len + total_of (drop k iovs)) (sym (add-one i))

-- ==== iovecs in the area

pub lies_in_region : (r : RegionState) (iovs : List Iov) → lie_in_area r iovs ≡ true → LieInRegion r iovs
lies_in_region r [] h = tt
lies_in_region r (iov ∷ iovs) h =
    let p = and_parts (lies_inside (length r.front) (length (bytes_of r)) iov) (lie_in_area r iovs) h in
    (leb-true _ _ (and_parts _ _ p.0).1, lies_in_region r iovs p.1)

-- those of an entry that was read do
pub inside_area : (r : RegionState) (front : List ℕ) (area : ℕ) (m : Mailbox) (at len id count : ℕ) (cdb : List ℕ) → front ≡ r.front → length r.front ≡ data_start m.cmdr_size → length (bytes_of r) ≡ length r.front + area →
    entry_read front area m at ≡ Ok (entry.Cmd len id count cdb) → lie_in_area r (iovs_in r.front (ring_start + at) 0 count) ≡ true
inside_area r front area m at len id count cdb e low end h =
    let iovs : List Iov = iovs_in r.front (ring_start + at) 0 count in
    let k = inside_read r.front area m at (entry.Cmd len id count cdb) (ap (λ f. entry_read f area m at) (sym e) ∙ h) in
    let high : data_start m.cmdr_size + area ≡ length (bytes_of r) = omega (arith, low, end) in
    subst (λ n. list_all (lies_inside n (length (bytes_of r))) iovs ≡ true) (sym low) (subst (λ n. list_all (lies_inside (data_start m.cmdr_size) n) iovs ≡ true) high k)
