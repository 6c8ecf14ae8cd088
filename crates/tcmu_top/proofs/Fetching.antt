-- The devices of a scenario open one after another, each over the files as those before it left them.
use Rattle.std.proofs.Common.{◌≡◌, ◌≢◌, ℕ, zero, suc, ◌+◌, ◌<◌, ◌≤◌, Bool, true, false, ◌||◌, List, [], ◌∷◌, ◌++◌, length, map, take, get_or, slice_get, Option, Some, None, IfSome, bytes_eq, refl, sym, ap, ◌∙◌, arith, subst, ⊎_elim}
use Rattle.std.specs.List.{AllPairs, list_any, position, position_or_len}
use Rattle.std.specs.Option.{option_map}
use Rattle.std.proofs.lemmas.Bool.{cases_Bool, cases_lt, le-ltb, or_parts}
use Rattle.std.proofs.lemmas.List.{append-nil, length-map, length-take-le, map-append, take_more}
use Rattle.std.proofs.lemmas.Option.{slice_get_within, slice_get_read, get_or_from_slice_get}
use Rattle.std.proofs.lemmas.Slice.Eq.{bytes_eq-Decides}
use Rattle.edge.specs.Stores.{StoreState, Content, store_of, out, at_home, FilesState, fetch_fails, after_fetch, FetchGives}
use Rattle.tcmu_model.specs.MediumState.{MediumState}
use Rattle.tcmu_model.specs.Device.{Device, opening}
use Rattle.text_model.specs.Config.{ConfigData, MediumData, InMemory, InFile}
use Rattle.text_model.specs.ScenarioData.{DeviceLineData}
use Rattle.text_model.specs.Said.{same_file}
use Rattle.tcmu_types.proofs.Readings.{same_bytes, other_bytes}
use Rattle.device_set.specs.Sets.{names}
use Rattle.media.specs.Opening as made
use Rattle.tcmu_top.specs.Playing.{states_of}
use Rattle.tcmu_top.specs.Opened.{OpensFile, OpensKind, Opens, OpenEach, name_in, file_names, a_fetch_fails, after_fetches, Fetched, AreOpen, Made, OwnFiles}

-- ==== names

pub bytes_same : (a : List ℕ) → bytes_eq a a ≡ true
bytes_same a = (bytes_eq-Decides a a).1 refl

pub bytes_differ : (a b : List ℕ) → (a ≡ b → ⊥) → bytes_eq a b ≡ false
bytes_differ a b ne = ⊎_elim (λ (e : bytes_eq a b ≡ true). absurd (ne (same_bytes a b e))) (λ (e : bytes_eq a b ≡ false). e) (cases_Bool (bytes_eq a b))

pub bytes_turned : (a b : List ℕ) → bytes_eq a b ≡ false → bytes_eq b a ≡ false
bytes_turned a b h = bytes_differ b a (λ e. other_bytes a b h (sym e))

-- a name that is none of these
abbrev pub IsFree : List (List ℕ) → List ℕ → Type 0
IsFree names name = list_any (bytes_eq name) names ≡ false

pub free_append : (xs ys : List (List ℕ)) (name : List ℕ) → IsFree (xs ++ ys) name → IsFree xs name × IsFree ys name
free_append [] ys name h = (refl, h)
free_append (x ∷ xs) ys name h =
    let t = or_parts (bytes_eq name x) (list_any (bytes_eq name) (xs ++ ys)) h in
    let more = free_append xs ys name t.1 in
    (rw t.0 more.0, more.1)

pub names_one : (l : DeviceLineData) → file_names (l ∷ []) ≡ name_in l.config.kind []
names_one l = refl

names_in : (k : MediumData) (xs ys : List (List ℕ)) → name_in k (xs ++ ys) ≡ name_in k xs ++ ys
names_in (InMemory n) xs ys = refl
names_in (InFile name) xs ys = refl

pub names_append : (xs ys : List DeviceLineData) → file_names (xs ++ ys) ≡ file_names xs ++ file_names ys
names_append [] ys = refl
names_append (x ∷ xs) ys = ap (name_in x.config.kind) (names_append xs ys) ∙ names_in x.config.kind (file_names xs) (file_names ys)

pub names_parts : (all ls rest : List DeviceLineData) (l : DeviceLineData) → all ≡ (ls ++ l ∷ []) ++ rest → file_names all ≡ (file_names ls ++ file_names (l ∷ [])) ++ file_names rest
names_parts all ls rest l e = ap file_names e ∙ names_append (ls ++ l ∷ []) rest ∙ ap (λ (xs : List (List ℕ)). xs ++ file_names rest) (names_append ls (l ∷ []))

-- ==== fetches

pub fails_append : (xs ys : List (List ℕ)) (f : FilesState) → a_fetch_fails (xs ++ ys) f ≡ (a_fetch_fails xs f || a_fetch_fails ys (after_fetches xs f))
fails_append [] ys f = refl
fails_append (x ∷ xs) ys f = ap (λ b. fetch_fails x f || b) (fails_append xs ys (after_fetch x f)) ∙ regroup (fetch_fails x f) (a_fetch_fails xs (after_fetch x f)) (a_fetch_fails ys (after_fetches xs (after_fetch x f)))
  where
    regroup : (a b c : Bool) → (a || (b || c)) ≡ ((a || b) || c)
    regroup true b c = refl
    regroup false b c = refl

pub fetches_append : (xs ys : List (List ℕ)) (f : FilesState) → after_fetches (xs ++ ys) f ≡ after_fetches ys (after_fetches xs f)
fetches_append [] ys f = refl
fetches_append (x ∷ xs) ys f = fetches_append xs ys (after_fetch x f)

pub fetches_fails : (names : List (List ℕ)) (f : FilesState) → (after_fetches names f).fails ≡ f.fails
fetches_fails [] f = refl
fetches_fails (x ∷ xs) f = fetches_fails xs (after_fetch x f)

pub place_free : (names : List (List ℕ)) (f : FilesState) (name : List ℕ) → IsFree names name → (after_fetches names f).places name ≡ f.places name
place_free [] f name h = refl
place_free (x ∷ xs) f name h =
    let t = or_parts (bytes_eq name x) (list_any (bytes_eq name) xs) h in
    let here : (after_fetch x f).places name ≡ f.places name = rw t.0 refl in
    place_free xs (after_fetch x f) name t.1 ∙ here

pub place_out : (names : List (List ℕ)) (f : FilesState) (name : List ℕ) → f.places name ≡ out → (after_fetches names f).places name ≡ out
place_out [] f name h = h
place_out (x ∷ xs) f name h = place_out xs (after_fetch x f) name (⊎_elim (λ (e : bytes_eq name x ≡ true). rw e refl) (λ (e : bytes_eq name x ≡ false). rw e h) (cases_Bool (bytes_eq name x)))

pub fetched_first : (files : Option FilesState) → Fetched [] files files
fetched_first None = record { none = tt; after = refl }
fetched_first (Some f) = record { none = refl; after = refl }

fetched_more : (names : List (List ℕ)) (name : List ℕ) (store : StoreState) (files mid new : Option FilesState) → Fetched names files mid → FetchGives name store mid new → Fetched (names ++ name ∷ []) files new
fetched_more names name store None mid new h o = record { none = tt; after = o.after ∙ ap (option_map (after_fetch name)) h.after }
fetched_more names name store (Some f) mid new h o =
    let told = subst (λ (x : Option FilesState). IfSome x (λ g. (fetch_fails name g ≡ false) × ((c : Content) × (g.places name ≡ at_home c) × (store ≡ store_of c)))) h.after o.told in
    let last : a_fetch_fails (name ∷ []) (after_fetches names f) ≡ false = rw (told.0) refl in
    record {
      none = fails_append names (name ∷ []) f ∙ ap (λ b. b || a_fetch_fails (name ∷ []) (after_fetches names f)) h.none ∙ last;
      after = o.after ∙ ap (option_map (after_fetch name)) h.after ∙ ap (λ (x : FilesState). Some x) (sym (fetches_append names (name ∷ []) f));
    }

opens_file : (names : List (List ℕ)) (name : List ℕ) (c : ConfigData) (m : MediumState) (files mid new : Option FilesState) → Fetched names files mid → IsFree names name → made.MakesFile name c mid new m → OpensFile name files c m
opens_file names name c m files mid new h free o =
    record { store = o.store; whole = o.fetched.whole; some = o.fetched.some; most = o.fetched.most; told = told files h; medium = o.medium }
  where
    told : (files : Option FilesState) → Fetched names files mid → IfSome files (λ f. (content : Content) × (f.places name ≡ at_home content) × (o.store ≡ store_of content))
    told None h = tt
    told (Some f) h =
        let x = subst (λ (y : Option FilesState). IfSome y (λ g. (fetch_fails name g ≡ false) × ((c : Content) × (g.places name ≡ at_home c) × (o.store ≡ store_of c)))) h.after o.fetched.told in
        (x.1.0, sym (place_free names f name free) ∙ x.1.1, x.1.2)

-- ==== devices

-- the file of this medium is none of these
abbrev pub IsOwn : List (List ℕ) → MediumData → Type 0
IsOwn names (InFile name) = IsFree names name
IsOwn names (InMemory blocks) = Unit {0}

pub open_none : (files : Option FilesState) → AreOpen files files [] []
open_none files = record { opens = tt; fetched = fetched_first files }

open_append : (files : Option FilesState) (ls : List DeviceLineData) (ds : List Device) (l : DeviceLineData) (d : Device) → OpenEach files ls ds → Opens files l d → OpenEach files (ls ++ l ∷ []) (ds ++ d ∷ [])
open_append files [] [] l d h o = (o, tt)
open_append files [] (e ∷ ds) l d h o = absurd h
open_append files (k ∷ ls) [] l d h o = absurd h
open_append files (k ∷ ls) (e ∷ ds) l d h o = (h.0, open_append files ls ds l d h.1 o)

kind_opens : (k : MediumData) (names : List (List ℕ)) (c : ConfigData) (m : MediumState) (files mid new : Option FilesState) → Fetched names files mid → IsOwn names k → made.MakesKind k c mid new m
    → OpensKind k files c m × Fetched (names ++ name_in k []) files new
kind_opens (InMemory blocks) names c m files mid new h own o =
    (o.medium, subst (λ (xs : List (List ℕ)). Fetched xs files new) (sym (append-nil names)) (subst (Fetched names files) (sym o.files) h))
kind_opens (InFile name) names c m files mid new h own o = (opens_file names name c m files mid new h own o, fetched_more names name o.store files mid new h o.fetched)

pub open_more : (files mid new : Option FilesState) (ls : List DeviceLineData) (ds : List Device) (l : DeviceLineData) (m : MediumState) → AreOpen files mid ls ds → IsOwn (file_names ls) l.config.kind
    → made.MakesMedium l.config mid new m → AreOpen files new (ls ++ l ∷ []) (ds ++ opening l.settings l.name m ∷ [])
open_more files mid new ls ds l m h own o =
    let x = kind_opens l.config.kind (file_names ls) l.config m files mid new h.fetched own o in
    record {
      opens = open_append files ls ds l (opening l.settings l.name m) h.opens (m, x.0, refl);
      fetched = subst (λ (names : List (List ℕ)). Fetched names files new) (sym (names_append ls (l ∷ []))) x.1;
    }

-- ==== where it stops

-- one of the fetches fails
pub fetch_lacks : (all ls rest : List DeviceLineData) (l : DeviceLineData) (files mid : Option FilesState) → all ≡ (ls ++ l ∷ []) ++ rest → Fetched (file_names ls) files mid
    → IfSome mid (λ f. a_fetch_fails (file_names (l ∷ [])) f ≡ true) → IfSome files (λ f. a_fetch_fails (file_names all) f ≡ true)
fetch_lacks all ls rest l None mid e h lacks = tt
fetch_lacks all ls rest l (Some f) mid e h lacks =
    let last = file_names (l ∷ []) in
    let here : a_fetch_fails last (after_fetches (file_names ls) f) ≡ true = subst (λ (x : Option FilesState). IfSome x (λ g. a_fetch_fails (file_names (l ∷ [])) g ≡ true)) h.after lacks in
    let front : a_fetch_fails (file_names ls ++ last) f ≡ true = fails_append (file_names ls) last f ∙ ap (λ b. a_fetch_fails (file_names ls) f || b) here ∙ or_true (a_fetch_fails (file_names ls) f) in
    ap (λ (xs : List (List ℕ)). a_fetch_fails xs f) (names_parts all ls rest l e) ∙ fails_append (file_names ls ++ last) (file_names rest) f
    ∙ ap (λ b. b || a_fetch_fails (file_names rest) (after_fetches (file_names ls ++ last) f)) front
  where
    or_true : (b : Bool) → (b || true) ≡ true
    or_true true = refl
    or_true false = refl

-- ==== from a scenario's rules

-- what any two items keep
pub pair_at : {X : Type 0} (R : X → X → Type 0) (xs : List X) (i j : ℕ) (x y : X) → AllPairs R xs → slice_get xs i ≡ Some x → slice_get xs j ≡ Some y → i < j → R x y
pair_at R xs i j x y h e k lt =
    let z = h i j x lt (slice_get_within xs j y k) in
    subst (λ v. R v y) (get_or_from_slice_get xs i x x e) (subst (λ v. R (get_or xs i x) v) (get_or_from_slice_get xs j y x k) z)

abbrev DifferentFiles : DeviceLineData → DeviceLineData → Type 0
DifferentFiles d e = same_file d.config.kind e.config.kind ≡ false

files_free : (ls : List DeviceLineData) (n : ℕ) (name : List ℕ) → ((j : ℕ) (x : DeviceLineData) → slice_get ls j ≡ Some x → j < n → same_file x.config.kind (InFile name) ≡ false) → IsFree (file_names (take n ls)) name
files_free [] zero name h = refl
files_free [] (suc n) name h = refl
files_free (x ∷ xs) zero name h = refl
files_free (x ∷ xs) (suc n) name h = by x.config.kind (h 0 x refl (omega arith)) (files_free xs n name (λ j y e lt. h (suc j) y e (omega (arith, lt))))
  where
    by : (k : MediumData) → same_file k (InFile name) ≡ false → IsFree (file_names (take n xs)) name → IsFree (name_in k (file_names (take n xs))) name
    by (InMemory blocks) e more = more
    by (InFile a) e more = rw (bytes_turned a name e) more

own_at : (ls : List DeviceLineData) (i : ℕ) (l : DeviceLineData) → slice_get ls i ≡ Some l → AllPairs DifferentFiles ls → IsOwn (file_names (take i ls)) l.config.kind
own_at ls i l e h = by l.config.kind refl
  where
    by : (k : MediumData) → l.config.kind ≡ k → IsOwn (file_names (take i ls)) k
    by (InMemory blocks) kind = tt
    by (InFile name) kind =
        files_free ls i name (λ j x f lt. subst (λ (m : MediumData). same_file x.config.kind m ≡ false) kind (pair_at DifferentFiles ls j i x l h f e lt))

pub own_files : (ls : List DeviceLineData) → AllPairs (λ d e. same_file d.config.kind e.config.kind ≡ false) ls → OwnFiles ls
own_files ls h i l a e p j k b f q ne =
    ⊎_elim
    (λ (lt : i < j). first i j l k a b e f p q lt)
    (λ (le : j ≤ i). bytes_turned b a (first j i k l b a f e q p (omega (arith, le, ne))))
    (cases_lt i j)
  where
    first : (i j : ℕ) (l k : DeviceLineData) (a b : List ℕ) → slice_get ls i ≡ Some l → slice_get ls j ≡ Some k → l.config.kind ≡ InFile a → k.config.kind ≡ InFile b → i < j → bytes_eq a b ≡ false
    first i j l k a b e f p q lt =
        subst (λ (m : MediumData). same_file (InFile a) m ≡ false) q (subst (λ (m : MediumData). same_file m k.config.kind ≡ false) p (pair_at DifferentFiles ls i j l k h e f lt))

-- no device before has this name
pub name_new : (ls : List DeviceLineData) (i : ℕ) (l : DeviceLineData) (xs : List (List ℕ)) → slice_get ls i ≡ Some l → AllPairs (λ d e. d.name ≢ e.name) ls → xs ≡ map (λ d. d.name) (take i ls) → position (bytes_eq l.name) xs ≡ None
name_new ls i l xs e h is = none xs (subst (λ (ys : List (List ℕ)). position_or_len (bytes_eq l.name) ys ≡ length ys) (sym is) (go ls i (λ j x f lt. pair_at (λ (d e : DeviceLineData). d.name ≢ e.name) ls j i x l h f e lt)))
  where
    none : (ys : List (List ℕ)) → position_or_len (bytes_eq l.name) ys ≡ length ys → position (bytes_eq l.name) ys ≡ None
    none ys all = rw (all, le-ltb (length ys) (length ys) (omega arith)) refl

    go : (ds : List DeviceLineData) (n : ℕ) → ((j : ℕ) (x : DeviceLineData) → slice_get ds j ≡ Some x → j < n → x.name ≢ l.name)
        → position_or_len (bytes_eq l.name) (map (λ d. d.name) (take n ds)) ≡ length (map (λ d. d.name) (take n ds))
    go [] zero h = refl
    go [] (suc n) h = refl
    go (x ∷ ds) zero h = refl
    go (x ∷ ds) (suc n) h =
        let differs = bytes_differ l.name x.name (λ e. h 0 x refl (omega arith) (sym e)) in
        let more = go ds n (λ j y f lt. h (suc j) y f (omega (arith, lt))) in
        rw differs (omega (arith, more))

-- one device more is open
pub opened_more : (files mid new : Option FilesState) (ls : List DeviceLineData) (i : ℕ) (l : DeviceLineData) (set set' : List (List ℕ × Device)) (d : Device) → i < length ls → l ≡ get_or ls i l
    → AllPairs (λ d e. same_file d.config.kind e.config.kind ≡ false) ls → AreOpen files mid (take i ls) (states_of (λ x. x) set) → Made l mid new d → set' ≡ set ++ (l.name, d) ∷ []
    → AreOpen files new (take (i + 1) ls) (states_of (λ x. x) set')
opened_more files mid new ls i l set set' d lt is own h made_it added =
    let found = slice_get_read ls (length ls) i l refl lt is in
    let front : take (i + 1) ls ≡ take i ls ++ l ∷ [] = take_more ls i l lt ∙ ap (λ (x : DeviceLineData). take i ls ++ x ∷ []) (sym is) in
    let all = open_more files mid new (take i ls) (states_of (λ x. x) set) l made_it.0 h (own_at ls i l found own) made_it.1 in
    let states : states_of (λ (x : Device). x) set' ≡ states_of (λ x. x) set ++ opening l.settings l.name made_it.0 ∷ [] =
    ap (states_of (λ (x : Device). x)) added ∙ map-append (λ (e : List ℕ × Device). e.1) set ((l.name, d) ∷ []) ∙ ap (λ (x : Device). states_of (λ y. y) set ++ x ∷ []) made_it.2 in
    subst (λ (x : List DeviceLineData). AreOpen files new x (states_of (λ y. y) set')) (sym front) (subst (λ (x : List Device). AreOpen files new (take i ls ++ l ∷ []) x) (sym states) all)

pub names_more : (ls : List DeviceLineData) (i : ℕ) (l : DeviceLineData) (set set' : List (List ℕ × Device)) (d : Device) → i < length ls → l ≡ get_or ls i l → names set ≡ map (λ d. d.name) (take i ls)
    → set' ≡ set ++ (l.name, d) ∷ [] → names set' ≡ map (λ d. d.name) (take (i + 1) ls)
names_more ls i l set set' d lt is h added =
    let front : take (i + 1) ls ≡ take i ls ++ l ∷ [] = take_more ls i l lt ∙ ap (λ (x : DeviceLineData). take i ls ++ x ∷ []) (sym is) in
    ap names added ∙ map-append (λ (e : List ℕ × Device). e.0) set ((l.name, d) ∷ []) ∙ ap (λ (x : List (List ℕ)). x ++ l.name ∷ []) h
    ∙ sym (ap (map (λ (d : DeviceLineData). d.name)) front ∙ map-append (λ (d : DeviceLineData). d.name) (take i ls) (l ∷ []))

pub names_count : (ls : List DeviceLineData) (i : ℕ) (set : List (List ℕ × Device)) → i < length ls → names set ≡ map (λ d. d.name) (take i ls) → length set ≡ i
names_count ls i set lt h =
    sym (length-map set (λ (e : List ℕ × Device). e.0)) ∙ ap (λ (x : List (List ℕ)). length x) h ∙ length-map (take i ls) (λ (d : DeviceLineData). d.name) ∙ length-take-le i ls (omega (arith, lt))
