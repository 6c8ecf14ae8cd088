-- Where a name stands among files in memory.
use Rattle.std.proofs.Common.{◌≡◌, ◌∙◌, ℕ, zero, suc, ◌+◌, ◌%◌, ◌^◌, ◌≤◌, Bool, true, false, not, ◌&&◌, ◌||◌, nat_le, nat_eq, length, is_some, List, [], ◌∷◌, ◌++◌, Option, Some, None, IfSome, cond, refl, sym, ap, subst, arith, get_or, zero-add, if◌then◌else◌}
use Rattle.std.specs.List.{position, position_from, slice_set}
use Rattle.std.specs.Str.{bytes_eq}
use Rattle.std.proofs.lemmas.Iterator.Adapters.{position_from-zero}
use Rattle.std.proofs.lemmas.Slice.Eq.{bytes_eq-Decides}
use Rattle.std.proofs.Math.Path.{fun_ext}
use Rattle.std.proofs.lemmas.Bool.{and_parts, leb-true, eqb-true}
use Rattle.tcmu_types.specs.Numbered.{is_listed, next_call}
use Rattle.edge.specs.Stores.{FetchGives, store_of, is_medium_size, Content, Place, missing, out, at_home, can_open, with_place, given_back, FilesState}
use Rattle.edge.specs.Memory.{CallsInMemory, StoreInMemory, NamedStore, FilesInMemory, files_state, after_add, content_of, place_of, place_in}

-- ==== tests of names

same_tests : (a b : Bool) → (a ≡ true → b ≡ true) → (b ≡ true → a ≡ true) → a ≡ b
same_tests true b f g = sym (f refl)
same_tests false true f g = g refl
same_tests false false f g = refl

-- the test of a name that is this one, either way round
same_name : (a name q : List ℕ) → a ≡ name → bytes_eq a q ≡ bytes_eq q name
same_name a name q e =
    same_tests (bytes_eq a q) (bytes_eq q name)
    (λ t. (bytes_eq-Decides q name).1 (sym ((bytes_eq-Decides a q).0 t) ∙ e))
    (λ t. (bytes_eq-Decides a q).1 (e ∙ sym ((bytes_eq-Decides q name).0 t)))

-- a name that is not this one is not asked for where this one is
other_name : (a name q : List ℕ) → bytes_eq a name ≡ false → bytes_eq a q ≡ true → bytes_eq q name ≡ false
other_name a name q other t = ap (λ b. bytes_eq b name) (sym ((bytes_eq-Decides a q).0 t)) ∙ other

twice : (b : Bool) (x y z : Place) → (if b then x else z) ≡ (if b then x else (if b then y else z))
twice true x y z = refl
twice false x y z = refl

exchanged : (a b : Bool) (x y z : Place) → (a ≡ true → b ≡ false) → (if a then x else (if b then y else z)) ≡ (if b then y else (if a then x else z))
exchanged true true x y z h = absurd (let e : true ≡ false = h refl in cc)
exchanged true false x y z h = refl
exchanged false b x y z h = refl

-- ==== the first file of a name

abbrev FirstAt : List ℕ → List NamedStore → ℕ → Type 0
FirstAt name [] i = ⊥
FirstAt name (f ∷ files) zero = bytes_eq f.name name ≡ true
FirstAt name (f ∷ files) (suc i) = (bytes_eq f.name name ≡ false) × FirstAt name files i

same_number : (m n : ℕ) → ◌≡◌ {A = Option ℕ} (Some m) (Some n) → m ≡ n
same_number m n e = ap (λ o. elim o [ Some k ↦ k | None ↦ m ]) e

found_from : (files : List NamedStore) (name : List ℕ) (k j : ℕ) → position_from (λ (f : NamedStore). bytes_eq f.name name) k files ≡ Some j → (i : ℕ) × (j ≡ k + i) × FirstAt name files i
found_from [] name k j e = absurd (cc)
found_from (f ∷ files) name k j e = by (λ r. found_from files name (k + 1) j r) (bytes_eq f.name name) refl e
  where
    by : (position_from (λ (f : NamedStore). bytes_eq f.name name) (k + 1) files ≡ Some j → (i : ℕ) × (j ≡ k + 1 + i) × FirstAt name files i) → (b : Bool) → bytes_eq f.name name ≡ b → cond b (Some k) (position_from (λ (f : NamedStore). bytes_eq f.name name) (k + 1) files) ≡ Some j → (i : ℕ) × (j ≡ k + i) × FirstAt name (f ∷ files) i
    by more true t e = let same : k ≡ j = same_number k j e in (zero, omega (arith, same), t)
    by more false t e =
        let rest = more e in
        let far : j ≡ k + 1 + rest.0 = rest.1 in
        let here : j ≡ k + suc rest.0 = omega (arith, far) in
        (suc rest.0, here, (t, rest.2))

first : (files : List NamedStore) (name : List ℕ) (i : ℕ) → position (λ (f : NamedStore). bytes_eq f.name name) files ≡ Some i → FirstAt name files i
first files name i e =
    let it = found_from files name 0 i (sym (position_from-zero (λ (f : NamedStore). bytes_eq f.name name) files) ∙ e) in
    subst (FirstAt name files) (sym (it.1 ∙ zero-add it.0)) it.2

none_from : (files : List NamedStore) (name : List ℕ) (k : ℕ) → position_from (λ (f : NamedStore). bytes_eq f.name name) k files ≡ None → place_in files name ≡ missing
none_from [] name k e = refl
none_from (f ∷ files) name k e = by (none_from files name (k + 1)) (bytes_eq f.name name) e
  where
    by : (position_from (λ (f : NamedStore). bytes_eq f.name name) (k + 1) files ≡ None → place_in files name ≡ missing) → (b : Bool) → cond b (Some k) (position_from (λ (f : NamedStore). bytes_eq f.name name) (k + 1) files) ≡ None → (if b then place_of f.store else place_in files name) ≡ missing
    by more true e = absurd (cc)
    by more false e = more e

pub place_none : (files : List NamedStore) (name : List ℕ) → position (λ (f : NamedStore). bytes_eq f.name name) files ≡ None → place_in files name ≡ missing
place_none files name e = none_from files name 0 (sym (position_from-zero (λ (f : NamedStore). bytes_eq f.name name) files) ∙ e)

place_first : (files : List NamedStore) (name : List ℕ) (i : ℕ) (d : NamedStore) → FirstAt name files i → place_in files name ≡ place_of (get_or files i d).store
place_first [] name i d h = absurd h
place_first (f ∷ files) name zero d h = ap (λ b. if b then place_of f.store else place_in files name) h
place_first (f ∷ files) name (suc i) d h = ap (λ b. if b then place_of f.store else place_in files name) h.0 ∙ place_first files name i d h.1

-- a name stands where its file says
pub place_found : (files : List NamedStore) (name : List ℕ) (i : ℕ) (d : NamedStore) → position (λ (f : NamedStore). bytes_eq f.name name) files ≡ Some i
    → place_in files name ≡ place_of (get_or files i d).store
place_found files name i d e = place_first files name i d (first files name i e)

set_first : (files : List NamedStore) (name : List ℕ) (i : ℕ) (g d : NamedStore) → FirstAt name files i → g.name ≡ (get_or files i d).name → (q : List ℕ)
    → place_in (slice_set files i g) q ≡ with_place name (place_of g.store) (place_in files) q
set_first [] name i g d h e q = absurd h
set_first (f ∷ files) name zero g d h e q =
    let named : f.name ≡ name = (bytes_eq-Decides f.name name).0 h in
    ap (λ b. if b then place_of g.store else place_in files q) (same_name g.name name q (e ∙ named))
    ∙ twice (bytes_eq q name) (place_of g.store) (place_of f.store) (place_in files q)
    ∙ ap (λ b. if bytes_eq q name then place_of g.store else (if b then place_of f.store else place_in files q)) (sym (same_name f.name name q named))
set_first (f ∷ files) name (suc i) g d h e q =
    ap (λ p. if bytes_eq f.name q then place_of f.store else p) (set_first files name i g d h.1 e q)
    ∙ exchanged (bytes_eq f.name q) (bytes_eq q name) (place_of f.store) (place_of g.store) (place_in files q) (other_name f.name name q h.0)

-- behind a change of the first file of a name
pub place_changed : (files : List NamedStore) (name : List ℕ) (i : ℕ) (d g : NamedStore) → position (λ (f : NamedStore). bytes_eq f.name name) files ≡ Some i
    → g.name ≡ (get_or files i d).name → (q : List ℕ) → place_in (slice_set files i g) q ≡ with_place name (place_of g.store) (place_in files) q
place_changed files name i d g e = set_first files name i g d (first files name i e)

-- ==== what the calls do

pub opens : (o : Option StoreInMemory) → can_open (place_of o) ≡ true → is_some o ≡ true
opens None t = t
opens (Some s) t = refl

pub opened : (o : Option StoreInMemory) (p : Place) → p ≡ place_of o → IfSome o (λ s. p ≡ at_home (content_of s))
opened None p e = tt
opened (Some s) p e = e

pub if_some : {A : Type 0} (o : Option A) (P : Type 0) → P → IfSome o (λ _. P)
if_some None P p = tt
if_some (Some x) P p = p

-- a name that is missing stays so when it is given back
pub kept_missing : (files : List NamedStore) (name : List ℕ) (c : Content) → place_in files name ≡ missing → (q : List ℕ)
    → place_in files q ≡ with_place name (given_back c (place_in files name)) (place_in files) q
kept_missing files name c e q = by (bytes_eq q name) refl
  where
    by : (b : Bool) → bytes_eq q name ≡ b → place_in files q ≡ (if b then given_back c (place_in files name) else place_in files q)
    by true t = ap (place_in files) ((bytes_eq-Decides q name).0 t) ∙ e ∙ sym (ap (given_back c) e)
    by false t = refl

at_none : (o : Option StoreInMemory) → place_of o ≡ missing → ⊥
at_none None e = absurd (cc)
at_none (Some s) e = absurd (cc)

-- behind a file of a new name
pub place_added : (files : List NamedStore) (f : NamedStore) (name : List ℕ) → place_in files name ≡ missing → f.name ≡ name → (q : List ℕ)
    → place_in (files ++ f ∷ []) q ≡ with_place name (place_of f.store) (place_in files) q
place_added [] f name e n q = ap (λ b. if b then place_of f.store else missing) (same_name f.name name q n)
place_added (g ∷ files) f name e n q = by (λ r. place_added files f name r n q) (bytes_eq g.name name) refl e
  where
    by : (place_in files name ≡ missing → place_in (files ++ f ∷ []) q ≡ with_place name (place_of f.store) (place_in files) q) → (b : Bool) → bytes_eq g.name name ≡ b → (if b then place_of g.store else place_in files name) ≡ missing
        → place_in ((g ∷ files) ++ f ∷ []) q ≡ with_place name (place_of f.store) (place_in (g ∷ files)) q
    by more true t e = absurd (at_none g.store e)
    by more false t e =
        ap (λ p. if bytes_eq g.name q then place_of g.store else p) (more e)
        ∙ exchanged (bytes_eq g.name q) (bytes_eq q name) (place_of g.store) (place_of f.store) (place_in files q) (other_name g.name name q t)

-- states of files whose places agree
pub same_places : (f g : FilesState) → ((q : List ℕ) → f.places q ≡ g.places q) → f.fails ≡ g.fails → f.fetches ≡ g.fetches → f ≡ g
same_places f g p a b =
    ap (λ (places : List ℕ → Place). record f { places = places }) (fun_ext p)
    ∙ ap (λ (fails : List ℕ). record f { places = g.places; fails = fails }) a
    ∙ ap (λ (fetches : ℕ). record g { fetches = fetches }) b

pub added_state : (old : FilesInMemory) (files : List NamedStore) (f : NamedStore) (name : List ℕ) (s : StoreInMemory) → files ≡ old.files ++ f ∷ [] → f.name ≡ name → f.store ≡ Some s
    → place_in old.files name ≡ missing → files_state (record old { files = files }) ≡ after_add name (content_of s) (files_state old)
added_state old files f name s e n t new =
    same_places _ _
    (λ q. ap (λ files. place_in files q) e ∙ place_added old.files f name new n q ∙ ap (λ o. with_place name (place_of o) (place_in old.files) q) t)
    refl refl

whole_blocks : (n : ℕ) → is_medium_size n ≡ true → (n % 512 ≡ 0) × (512 ≤ n) × (n ≤ 2 ^ 44)
whole_blocks n e =
    let ends = and_parts (nat_eq (n % 512) 0 && nat_le 512 n) (nat_le n (2 ^ 44)) e in
    let parts = and_parts (nat_eq (n % 512) 0) (nat_le 512 n) ends.0 in
    (eqb-true (n % 512) 0 parts.0, leb-true 512 n parts.1, leb-true n (2 ^ 44) ends.1)

fetchable : (listed : Bool) (p : Place) → listed ≡ false → can_open p ≡ true → (listed || not (can_open p)) ≡ false
fetchable listed p e t = ap (λ b. b || not (can_open p)) e ∙ ap not t

-- behind the fetch of a file that is at home
pub fetched_state : (old : FilesInMemory) (calls : CallsInMemory) (files : List NamedStore) (name : List ℕ) (s : StoreInMemory) → calls.calls ≡ next_call old.fetches → calls.fails ≡ old.fails
    → is_listed old.fails old.fetches ≡ false → can_open (place_in old.files name) ≡ true → place_in old.files name ≡ at_home (content_of s)
    → ((q : List ℕ) → place_in files q ≡ with_place name out (place_in old.files) q)
    → FetchGives name (store_of (content_of s)) (Some (files_state old)) (Some (files_state (record { files = files; fails = calls.fails; fetches = calls.calls; faults = calls.faults })))
fetched_state old calls files name s more kept unlisted can home places =
    let size = whole_blocks (length s.bytes) (ap can_open (sym home) ∙ can) in
    record {
      whole = size.0;
      some = size.1;
      most = size.2;
      told = (fetchable (is_listed old.fails old.fetches) (place_in old.files name) unlisted can, (content_of s, home, refl));
      after = ap (λ (f : FilesState). Some f) (same_places _ _ places kept more);
    }
