-- Jobs under keys: what one that is parked or taken out leaves of the others.
use Rattle.std.proofs.Common.{◌≡◌, ◌≢◌, ℕ, suc, ◌+◌, ◌≤◌, ◌==◌, ◌&&◌, not, true, false, cond, List, [], ◌∷◌, ◌++◌, length, Option, Some, None, refl, sym, ap, ◌∙◌, subst, arith, ⊎_elim}
use Rattle.std.specs.List.{list_any}
use Rattle.std.specs.Option.{MatchOption, OnSome, is_some, option_and_then, option_map}
use Rattle.std.proofs.lemmas.List.Sums.{sum_by-cons}
use Rattle.std.proofs.lemmas.Bool.{and_parts, cases_Bool, false≢true}
use Rattle.slab.specs.Slab.{Slab, Updates, get, slab_len}
use Rattle.tcmu_types.specs.Lists.{first_of, without_first, with_first, Every}
use Rattle.region_model.specs.Sides.{GivenJob, Parked}
use Rattle.region_model.specs.UserSteps.{is_open_job, is_unanswered, with_parked}
use Rattle.ring_laws.specs.Restarted.{count_parked}
use Rattle.user_lib.specs.declared.past.Given.{Given}
use Rattle.user_lib.specs.ById.{first_key, keys_under}
use Rattle.user_lib.specs.Given.{AreApart, AreKeyed, IsKeyed, TakesKey, awaited, first_given, first_id, first_parked, is_open, is_parked_job, leads_parked, parked_job, job_of, jobs_of, kept_under, keys_of, with_key, with_key_of}

-- ==== one job

pub some_is : {X : Type 0} (o : Option X) (x : X) → o ≡ Some x → is_some o ≡ true
some_is o x e = ap is_some e

not_none : {X : Type 0} (o : Option X) → o ≡ None → is_some o ≡ true → ⊥
not_none o e h = false≢true (sym (ap is_some e) ∙ h)

-- a job shows itself open where it has no key
pub open_same : (s : Slab Parked) (id : ℕ) (g : Given) (keys : List ℕ) → IsKeyed s g.key keys → is_open_job id (job_of s g) ≡ is_open id g
open_same s id g keys h = go g.key h
  where
    go : (o : Option ℕ) → IsKeyed s o keys → ((g.id == id) && not (is_some (kept_under s o))) ≡ ((g.id == id) && not (is_some o))
    go None k = refl
    go (Some key) k = ap (λ b. (g.id == id) && not b) k.0

-- an open one has no key
pub open_none : (id : ℕ) (g : Given) → is_open id g ≡ true → g.key ≡ None
open_none id g h = go g.key (and_parts _ _ h).1
  where
    go : (o : Option ℕ) → not (is_some o) ≡ true → o ≡ None
    go None k = refl
    go (Some key) k = absurd (false≢true k)

abbrev KeyHas : (ℕ → Type 0) → Option ℕ → Type 0
KeyHas P None = Unit {0}
KeyHas P (Some key) = P key

keys_parts : (P : ℕ → Type 0) (o : Option ℕ) (keys : List ℕ) → Every P (with_key_of o keys) → KeyHas P o × Every P keys
keys_parts P None keys h = (tt, h)
keys_parts P (Some key) keys h = (h.0, h.1)

keys_both : (P : ℕ → Type 0) (o : Option ℕ) (keys : List ℕ) → KeyHas P o → Every P keys → Every P (with_key_of o keys)
keys_both P None keys h k = k
keys_both P (Some key) keys h k = (h, k)

-- ==== all of them

pub any_open : (s : Slab Parked) (id : ℕ) (gs : List Given) → AreApart s gs → list_any (is_open_job id) (jobs_of s gs) ≡ list_any (is_open id) gs
any_open s id [] h = refl
any_open s id (g ∷ gs) h =
    let a : is_open_job id (job_of s g) ≡ is_open id g = open_same s id g (keys_of gs) h.0 in
    let b : list_any (is_open_job id) (jobs_of s gs) ≡ list_any (is_open id) gs = any_open s id gs h.1 in
    cc

-- ==== one is taken out that has no reply

pub jobs_without : (s : Slab Parked) (id : ℕ) (gs : List Given) → AreApart s gs → jobs_of s (without_first (is_open id) gs) ≡ without_first (is_open_job id) (jobs_of s gs)
jobs_without s id [] h = refl
jobs_without s id (g ∷ gs) h =
    let a : is_open_job id (job_of s g) ≡ is_open id g = open_same s id g (keys_of gs) h.0 in
    ⊎_elim
    (λ (e : is_open id g ≡ true). rw (a, e) refl)
    (λ (e : is_open id g ≡ false). rw (a, e) (ap (λ xs. job_of s g ∷ xs) (jobs_without s id gs h.1)))
    (cases_Bool (is_open id g))

pub keys_without : (id : ℕ) (gs : List Given) → keys_of (without_first (is_open id) gs) ≡ keys_of gs
keys_without id [] = refl
keys_without id (g ∷ gs) =
    ⊎_elim
    (λ (e : is_open id g ≡ true). rw e (ap (λ o. with_key_of o (keys_of gs)) (sym (open_none id g e))))
    (λ (e : is_open id g ≡ false). rw e (ap (λ keys. with_key_of g.key keys) (keys_without id gs)))
    (cases_Bool (is_open id g))

pub apart_without : (s : Slab Parked) (id : ℕ) (gs : List Given) → AreApart s gs → AreApart s (without_first (is_open id) gs)
apart_without s id [] h = tt
apart_without s id (g ∷ gs) h =
    ⊎_elim
    (λ (e : is_open id g ≡ true). rw e h.1)
    (λ (e : is_open id g ≡ false). rw e (subst (λ keys. IsKeyed s g.key keys) (sym (keys_without id gs)) h.0, apart_without s id gs h.1))
    (cases_Bool (is_open id g))

-- ==== what stands under one key changes

pub free_key : (s : Slab Parked) (key : ℕ) (gs : List Given) → AreApart s gs → get s key ≡ None → Every (λ k. k ≢ key) (keys_of gs)
free_key s key [] h none = tt
free_key s key (g ∷ gs) h none = keys_both (λ k. k ≢ key) g.key (keys_of gs) (go g.key h.0) (free_key s key gs h.1 none)
  where
    go : (o : Option ℕ) → IsKeyed s o (keys_of gs) → KeyHas (λ k. k ≢ key) o
    go None k = tt
    go (Some x) k = λ e. not_none (get s key) none (ap (λ z. is_some (get s z)) (sym e) ∙ k.0)

kept_other : (s s' : Slab Parked) (key : ℕ) (slot : Option Parked) (o : Option ℕ) → Updates s s' key slot → KeyHas (λ k. k ≢ key) o → kept_under s' o ≡ kept_under s o
kept_other s s' key slot None u h = refl
kept_other s s' key slot (Some k) u h = u.others k h

pub jobs_kept : (s s' : Slab Parked) (key : ℕ) (slot : Option Parked) (gs : List Given) → Updates s s' key slot → Every (λ k. k ≢ key) (keys_of gs) → jobs_of s' gs ≡ jobs_of s gs
jobs_kept s s' key slot [] u h = refl
jobs_kept s s' key slot (g ∷ gs) u h =
    let p = keys_parts (λ k. k ≢ key) g.key (keys_of gs) h in
    let a : kept_under s' g.key ≡ kept_under s g.key = kept_other s s' key slot g.key u p.0 in
    let b : jobs_of s' gs ≡ jobs_of s gs = jobs_kept s s' key slot gs u p.1 in
    ap (λ (x : Option Parked). (record { id = g.id; parked = x }) ∷ jobs_of s' gs) a ∙ ap (λ xs. job_of s g ∷ xs) b

keyed_other : (s s' : Slab Parked) (key : ℕ) (slot : Option Parked) (o : Option ℕ) (keys : List ℕ) → Updates s s' key slot → KeyHas (λ k. k ≢ key) o → IsKeyed s o keys → IsKeyed s' o keys
keyed_other s s' key slot None keys u h k = tt
keyed_other s s' key slot (Some x) keys u h k = (ap is_some (u.others x h) ∙ k.0, k.1)

pub apart_kept : (s s' : Slab Parked) (key : ℕ) (slot : Option Parked) (gs : List Given) → Updates s s' key slot → Every (λ k. k ≢ key) (keys_of gs) → AreApart s gs → AreApart s' gs
apart_kept s s' key slot [] u h k = tt
apart_kept s s' key slot (g ∷ gs) u h k =
    let p = keys_parts (λ k. k ≢ key) g.key (keys_of gs) h in
    (keyed_other s s' key slot g.key (keys_of gs) u p.0 k.0, apart_kept s s' key slot gs u p.1 k.1)

-- ==== one is parked

pub jobs_parked : (s s' : Slab Parked) (id key : ℕ) (p : Parked) (gs : List Given) → Updates s s' key (Some p) → AreApart s gs → Every (λ k. k ≢ key) (keys_of gs) →
    jobs_of s' (with_first (is_open id) (with_key key) gs) ≡ with_first (is_open_job id) (with_parked p) (jobs_of s gs)
jobs_parked s s' id key p [] u h f = refl
jobs_parked s s' id key p (g ∷ gs) u h f =
    let a : is_open_job id (job_of s g) ≡ is_open id g = open_same s id g (keys_of gs) h.0 in
    let k = keys_parts (λ k. k ≢ key) g.key (keys_of gs) f in
    let b : jobs_of s' gs ≡ jobs_of s gs = jobs_kept s s' key (Some p) gs u k.1 in
    let c : kept_under s' g.key ≡ kept_under s g.key = kept_other s s' key (Some p) g.key u k.0 in
    ⊎_elim
    (λ (e : is_open id g ≡ true). rw (a, e) (
    ap (λ (x : Option Parked). (record { id = g.id; parked = x }) ∷ jobs_of s' gs) u.changed
    ∙ ap (λ xs. record { id = g.id; parked = Some p } ∷ xs) b))
    (λ (e : is_open id g ≡ false). rw (a, e) (
    ap (λ (x : Option Parked). (record { id = g.id; parked = x }) ∷ jobs_of s' (with_first (is_open id) (with_key key) gs)) c
    ∙ ap (λ xs. job_of s g ∷ xs) (jobs_parked s s' id key p gs u h.1 k.1)))
    (cases_Bool (is_open id g))

every_key : (P : ℕ → Type 0) (id key : ℕ) (gs : List Given) → Every P (keys_of gs) → P key → Every P (keys_of (with_first (is_open id) (with_key key) gs))
every_key P id key [] h k = tt
every_key P id key (g ∷ gs) h k =
    let p = keys_parts P g.key (keys_of gs) h in
    ⊎_elim
    (λ (e : is_open id g ≡ true). rw e (k, p.1))
    (λ (e : is_open id g ≡ false). rw e (keys_both P g.key (keys_of (with_first (is_open id) (with_key key) gs)) p.0 (every_key P id key gs p.1 k)))
    (cases_Bool (is_open id g))

pub apart_parked : (s s' : Slab Parked) (id key : ℕ) (p : Parked) (gs : List Given) → Updates s s' key (Some p) → AreApart s gs → Every (λ k. k ≢ key) (keys_of gs) →
    AreApart s' (with_first (is_open id) (with_key key) gs)
apart_parked s s' id key p [] u h f = tt
apart_parked s s' id key p (g ∷ gs) u h f =
    let k = keys_parts (λ k. k ≢ key) g.key (keys_of gs) f in
    ⊎_elim
    (λ (e : is_open id g ≡ true). rw e ((some_is (get s' key) p u.changed, k.1), apart_kept s s' key (Some p) gs u k.1 h.1))
    (λ (e : is_open id g ≡ false). rw e (go g.key k.0 h.0, apart_parked s s' id key p gs u h.1 k.1))
    (cases_Bool (is_open id g))
  where
    go : (o : Option ℕ) → KeyHas (λ k. k ≢ key) o → IsKeyed s o (keys_of gs) → IsKeyed s' o (keys_of (with_first (is_open id) (with_key key) gs))
    go None n i = tt
    go (Some x) n i = (ap is_some (u.others x n) ∙ i.0, every_key (λ y. y ≢ x) id key gs i.1 (λ e. n (sym e)))

-- ==== how many

pub keys_most : (gs : List Given) → length (keys_of gs) ≤ length gs
keys_most [] = omega arith
keys_most (g ∷ gs) = go g.key (keys_most gs)
  where
    go : (o : Option ℕ) → length (keys_of gs) ≤ length gs → length (with_key_of o (keys_of gs)) ≤ suc (length gs)
    go None h = omega (arith, h)
    go (Some key) h = omega (arith, h)

pub keys_fewer : (id : ℕ) (gs : List Given) → list_any (is_open id) gs ≡ true → length (keys_of gs) + 1 ≤ length gs
keys_fewer id [] h = absurd (false≢true h)
keys_fewer id (g ∷ gs) h =
    ⊎_elim
    (λ (e : is_open id g ≡ true). let n : with_key_of g.key (keys_of gs) ≡ keys_of gs = ap (λ o. with_key_of o (keys_of gs)) (open_none id g e) in omega (arith, ap length n, keys_most gs))
    (λ (e : is_open id g ≡ false). let k : list_any (is_open id) gs ≡ true = rw e at h in go g.key (keys_fewer id gs k))
    (cases_Bool (is_open id g))
  where
    go : (o : Option ℕ) → length (keys_of gs) + 1 ≤ length gs → length (with_key_of o (keys_of gs)) + 1 ≤ suc (length gs)
    go None k = omega (arith, k)
    go (Some key) k = omega (arith, k)

pub keys_parked : (id key : ℕ) (gs : List Given) → list_any (is_open id) gs ≡ true → length (keys_of (with_first (is_open id) (with_key key) gs)) ≡ length (keys_of gs) + 1
keys_parked id key [] h = absurd (false≢true h)
keys_parked id key (g ∷ gs) h =
    ⊎_elim
    (λ (e : is_open id g ≡ true). let n : with_key_of g.key (keys_of gs) ≡ keys_of gs = ap (λ o. with_key_of o (keys_of gs)) (open_none id g e) in rw e (omega (arith, ap length n)))
    (λ (e : is_open id g ≡ false). let k : list_any (is_open id) gs ≡ true = rw e at h in rw e (go g.key (keys_parked id key gs k)))
    (cases_Bool (is_open id g))
  where
    go : (o : Option ℕ) → length (keys_of (with_first (is_open id) (with_key key) gs)) ≡ length (keys_of gs) + 1 →
        length (with_key_of o (keys_of (with_first (is_open id) (with_key key) gs))) ≡ length (with_key_of o (keys_of gs)) + 1
    go None k = k
    go (Some x) k = omega (arith, k)

counted : (id : ℕ) (o : Option Parked) (jobs : List GivenJob) → is_some o ≡ true → count_parked (record { id = id; parked = o } ∷ jobs) ≡ count_parked jobs + 1
counted id None jobs e = absurd (false≢true e)
counted id (Some p) jobs e =
    let k : count_parked (record { id = id; parked = Some p } ∷ jobs) ≡ 1 + count_parked jobs = sum_by-cons (λ (g : GivenJob). cond {A = ℕ} (is_some g.parked) 1 0) (record { id = id; parked = Some p }) jobs in
    omega (arith, k)

pub count_keys : (s : Slab Parked) (gs : List Given) → AreApart s gs → count_parked (jobs_of s gs) ≡ length (keys_of gs)
count_keys s [] h = refl
count_keys s (g ∷ gs) h = go g.key h.0 (count_keys s gs h.1)
  where
    go : (o : Option ℕ) → IsKeyed s o (keys_of gs) → count_parked (jobs_of s gs) ≡ length (keys_of gs) →
        count_parked (record { id = g.id; parked = kept_under s o } ∷ jobs_of s gs) ≡ length (with_key_of o (keys_of gs))
    go None k e = e
    go (Some key) k e = counted g.id (get s key) (jobs_of s gs) k.0 ∙ omega (arith, e)

-- ==== the invariant behind a change

-- with one job more that has no reply
pub keyed_push : (s : Slab Parked) (gs : List Given) (id : ℕ) → AreKeyed s gs → AreKeyed s (gs ++ record { id = id; key = None } ∷ [])
keyed_push s gs id h = record { apart = apart gs h.apart; count = h.count ∙ sym (ap length (keys gs)) }
  where
    g : Given
    g = record { id = id; key = None }

    keys : (gs : List Given) → keys_of (gs ++ g ∷ []) ≡ keys_of gs
    keys [] = refl
    keys (x ∷ gs) = ap (λ ks. with_key_of x.key ks) (keys gs)

    apart : (gs : List Given) → AreApart s gs → AreApart s (gs ++ g ∷ [])
    apart [] a = (tt, tt)
    apart (x ∷ gs) a = (subst (λ ks. IsKeyed s x.key ks) (sym (keys gs)) a.0, apart gs a.1)

pub jobs_push : (s : Slab Parked) (gs : List Given) (id : ℕ) → jobs_of s (gs ++ record { id = id; key = None } ∷ []) ≡ jobs_of s gs ++ record { id = id; parked = None } ∷ []
jobs_push s [] id = refl
jobs_push s (g ∷ gs) id = ap (λ xs. job_of s g ∷ xs) (jobs_push s gs id)

-- in a slab whose capacity alone differs
pub keyed_grown : (s s' : Slab Parked) (gs : List Given) → s' ≡ record s { capacity = s'.capacity } → AreKeyed s gs → AreKeyed s' gs
keyed_grown s s' gs same h = subst (λ (x : Slab Parked). AreKeyed x gs) (sym same) (record { apart = apart gs h.apart; count = h.count })
  where
    apart : (gs : List Given) → AreApart s gs → AreApart (record s { capacity = s'.capacity }) gs
    apart [] a = tt
    apart (g ∷ gs) a = (go g.key a.0, apart gs a.1)
      where
        go : (o : Option ℕ) → IsKeyed s o (keys_of gs) → IsKeyed (record s { capacity = s'.capacity }) o (keys_of gs)
        go None k = tt
        go (Some key) k = k

pub jobs_grown : (s s' : Slab Parked) (gs : List Given) → s' ≡ record s { capacity = s'.capacity } → jobs_of s' gs ≡ jobs_of s gs
jobs_grown s s' gs same = ap (λ (x : Slab Parked). jobs_of x gs) same ∙ go gs
  where
    one : (g : Given) (o : Option ℕ) → kept_under (record s { capacity = s'.capacity }) o ≡ kept_under s o
    one g None = refl
    one g (Some key) = refl

    go : (gs : List Given) → jobs_of (record s { capacity = s'.capacity }) gs ≡ jobs_of s gs
    go [] = refl
    go (g ∷ gs) =
        ap (λ (x : Option Parked). (record { id = g.id; parked = x }) ∷ jobs_of (record s { capacity = s'.capacity }) gs) (one g g.key)
        ∙ ap (λ xs. job_of s g ∷ xs) (go gs)

-- without the first open job of an id
pub keyed_without : (s : Slab Parked) (id : ℕ) (gs : List Given) → AreKeyed s gs → AreKeyed s (without_first (is_open id) gs)
keyed_without s id gs h = record { apart = apart_without s id gs h.apart; count = h.count ∙ sym (ap length (keys_without id gs)) }

-- with the first open job of an id under a key that was free
pub keyed_parked : (s s' : Slab Parked) (id key : ℕ) (p : Parked) (gs : List Given) → Updates s s' key (Some p) → get s key ≡ None → list_any (is_open id) gs ≡ true → slab_len s' ≡ slab_len s + 1 → AreKeyed s gs →
    AreKeyed s' (with_first (is_open id) (with_key key) gs)
keyed_parked s s' id key p gs u none any more h =
    record {
      apart = apart_parked s s' id key p gs u h.apart (free_key s key gs h.apart none);
      count = more ∙ (ap (λ n. n + 1) h.count ∙ sym (keys_parked id key gs any));
    }

-- without the first job
pub keyed_pop : (s s' : Slab Parked) (g : Given) (gs : List Given) → TakesKey s s' g.key → AreKeyed s (g ∷ gs) → AreKeyed s' gs
keyed_pop s s' g gs t h = go g.key t h.apart.0 h.count
  where
    go : (o : Option ℕ) → TakesKey s s' o → IsKeyed s o (keys_of gs) → slab_len s ≡ length (with_key_of o (keys_of gs)) → AreKeyed s' gs
    go None e k n = subst (λ (x : Slab Parked). AreKeyed x gs) (sym e) (record { apart = h.apart.1; count = n })
    go (Some key) u k n =
        let less : slab_len s' + 1 ≡ slab_len s = u.1 k.0 in
        record { apart = apart_kept s s' key None gs u.0 k.1 h.apart.1; count = omega (arith, less, n) }

pub pop_room : (s s' : Slab Parked) (key : Option ℕ) → TakesKey s s' key → s'.capacity ≡ s.capacity
pop_room s s' None e = ap (λ (x : Slab Parked). x.capacity) e
pop_room s s' (Some key) u = u.2

pub jobs_pop : (s s' : Slab Parked) (g : Given) (gs : List Given) → TakesKey s s' g.key → AreKeyed s (g ∷ gs) → jobs_of s' gs ≡ jobs_of s gs
jobs_pop s s' g gs t h = go g.key t h.apart.0
  where
    go : (o : Option ℕ) → TakesKey s s' o → IsKeyed s o (keys_of gs) → jobs_of s' gs ≡ jobs_of s gs
    go None e k = ap (λ (x : Slab Parked). jobs_of x gs) e
    go (Some key) u k = jobs_kept s s' key None gs u.0 k.1

pub awaited_most : (o : Option ℕ) → awaited o ≤ 1
awaited_most None = omega arith
awaited_most (Some id) = omega arith

-- where none is under a key, none has its reply
pub none_kept : (s : Slab Parked) (gs : List Given) → keys_of gs ≡ [] → Every (λ g. g.parked ≡ None) (jobs_of s gs)
none_kept s [] e = tt
none_kept s (g ∷ gs) e = go g.key e (λ q. none_kept s gs q)
  where
    go : (o : Option ℕ) → with_key_of o (keys_of gs) ≡ [] → (keys_of gs ≡ [] → Every (λ g. g.parked ≡ None) (jobs_of s gs)) → (kept_under s o ≡ None) × Every (λ g. g.parked ≡ None) (jobs_of s gs)
    go None q rest = (refl, rest q)
    go (Some key) q rest = absurd (omega (arith, ap length q))

pub none_jobs : (s : Slab Parked) (gs : List Given) → jobs_of s gs ≡ [] → gs ≡ []
none_jobs s [] e = refl
none_jobs s (g ∷ gs) e = absurd (omega (arith, ap length e))

-- ==== what the look-ups tell

pub on_some : {X : Type 0} (P : Type 0) (o : Option X) → is_some o ≡ true → OnSome o P → P
on_some P None e h = absurd (false≢true e)
on_some P (Some x) e h = h

pub at_none : {X : Type 0} (P : Type 0) (Q : X → Type 0) (o : Option X) → o ≡ None → MatchOption o P Q → P
at_none P Q o e h = subst (λ x. MatchOption x P Q) e h

pub at_some : {X : Type 0} (P : Type 0) (Q : X → Type 0) (o : Option X) (x : X) → o ≡ Some x → MatchOption o P Q → Q x
at_some P Q o x e h = subst (λ y. MatchOption y P Q) e h

-- the first job is under a key where it has its reply
pub leads_same : (s : Slab Parked) (gs : List Given) → AreApart s gs → leads_parked gs ≡ first_parked (jobs_of s gs)
leads_same s [] h = refl
leads_same s (g ∷ gs) h = go g.key h.0
  where
    go : (o : Option ℕ) → IsKeyed s o (keys_of gs) → is_some o ≡ is_some (kept_under s o)
    go None k = refl
    go (Some key) k = sym k.0

-- the first of all is the first that has no reply, where it has none
pub open_leads : (jobs : List GivenJob) → first_parked jobs ≡ false → option_map (λ g. g.id) (first_of is_unanswered jobs) ≡ first_given jobs
open_leads [] h = refl
open_leads (g ∷ jobs) h = let t : is_unanswered g ≡ true = ap not h in rw t refl

pub first_given_same : (s : Slab Parked) (gs : List Given) → first_given (jobs_of s gs) ≡ first_id gs
first_given_same s [] = refl
first_given_same s (g ∷ gs) = refl

-- what is under the first key of an id is its first parked job
pub parked_same : (s : Slab Parked) (id : ℕ) (gs : List Given) → AreApart s gs → option_map (λ p. p.job) (kept_under s (first_key (keys_under id gs))) ≡ parked_job id (jobs_of s gs)
parked_same s id [] h = refl
parked_same s id (g ∷ gs) h =
    ⊎_elim
    (λ (t : (g.id == id) ≡ true). rw t (go g.key h.0 (parked_same s id gs h.1)))
    (λ (f : (g.id == id) ≡ false). rw f (parked_same s id gs h.1))
    (cases_Bool (g.id == id))
  where
    one : (o : Option Parked) → is_some o ≡ true → option_map (λ p. p.job) o ≡ option_and_then (λ (x : GivenJob). option_map (λ (p : Parked). p.job) x.parked) (cond (is_some o) (Some (record { id = g.id; parked = o })) (first_of (is_parked_job id) (jobs_of s gs)))
    one None e = absurd (false≢true e)
    one (Some p) e = refl

    go : (o : Option ℕ) → IsKeyed s o (keys_of gs) → option_map (λ p. p.job) (kept_under s (first_key (keys_under id gs))) ≡ parked_job id (jobs_of s gs) →
        option_map (λ p. p.job) (kept_under s (first_key (with_key_of o (keys_under id gs))))
        ≡ option_and_then (λ (x : GivenJob). option_map (λ (p : Parked). p.job) x.parked) (cond (is_some (kept_under s o)) (Some (record { id = g.id; parked = kept_under s o })) (first_of (is_parked_job id) (jobs_of s gs)))
    go None k rest = rest
    go (Some key) k rest = one (get s key) k.0
