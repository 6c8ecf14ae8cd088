-- The files are given back one after another, from the last device on.
use Rattle.std.proofs.Common.{◌≡◌, ℕ, zero, suc, ◌+◌, ◌-◌, ◌<◌, ◌≤◌, false, List, [], ◌∷◌, length, take, slice_get, Option, Some, None, IfSome, is_some, bytes_eq, refl, sym, ap, ◌∙◌, arith, subst, ⊎_elim}
use Rattle.std.specs.List.{list_any}
use Rattle.std.specs.Option.{option_map}
use Rattle.std.proofs.lemmas.Bool.{cases_eq, or_parts, false≢true}
use Rattle.std.proofs.lemmas.List.{length-map, length-take-le, take-take, take-map}
use Rattle.std.proofs.lemmas.Option.{same_Some, slice_get_within}
use Rattle.edge.specs.Stores.{StoreState, Content, store_of, out, at_home, FilesState, after_fetch, given_back, after_keep}
use Rattle.tcmu_model.specs.MediumState.{MediumState}
use Rattle.scsi_model.specs.Base.{zeroed}
use Rattle.scsi_model.specs.Medium.{has_store}
use Rattle.tcmu_model.specs.Device.{Device}
use Rattle.text_model.specs.Config.{MediumData, InMemory, InFile}
use Rattle.text_model.specs.ScenarioData.{DeviceLineData}
use Rattle.media.specs.Stored.{IsStoredIn}
use Rattle.device_set.specs.Sets.{devices}
use Rattle.tcmu_top.specs.Playing.{states_of}
use Rattle.tcmu_top.specs.Opened.{name_in, file_names, is_named, IsLeftOf, Holds, SameOthers, Kept, OwnFiles, TellFiles, AreOut, Returns, KeepsEach, after_fetches}
use Rattle.tcmu_top.proofs.Fetching.{bytes_same, place_out}
use Rattle.tcmu_types.proofs.Places.{get_within, get_taken}

-- the name of a device line's file is no other name
named_differs : (ls : List DeviceLineData) (at : ℕ) (l : DeviceLineData) (name other : List ℕ) → slice_get ls at ≡ Some l → l.config.kind ≡ InFile name → is_named ls other ≡ false → bytes_eq other name ≡ false
named_differs [] at l name other e k h = absurd (cc)
named_differs (x ∷ xs) zero l name other e k h =
    let kind : x.config.kind ≡ InFile name = ap (λ (y : DeviceLineData). y.config.kind) (same_Some x l e) ∙ k in
    (or_parts (bytes_eq other name) (list_any (bytes_eq other) (file_names xs)) (subst (λ (m : MediumData). list_any (bytes_eq other) (name_in m (file_names xs)) ≡ false) kind h)).0
named_differs (x ∷ xs) (suc at) l name other e k h = named_differs xs at l name other e k (behind x.config.kind h)
  where
    behind : (m : MediumData) → list_any (bytes_eq other) (name_in m (file_names xs)) ≡ false → list_any (bytes_eq other) (file_names xs) ≡ false
    behind (InMemory n) h = h
    behind (InFile a) h = (or_parts (bytes_eq other a) (list_any (bytes_eq other) (file_names xs)) h).1

-- a file that is named is out behind all fetches
pub fetched_out : (ls : List DeviceLineData) (f : FilesState) (at : ℕ) (l : DeviceLineData) (name : List ℕ) → slice_get ls at ≡ Some l → l.config.kind ≡ InFile name → (after_fetches (file_names ls) f).places name ≡ out
fetched_out [] f at l name e k = absurd (cc)
fetched_out (x ∷ xs) f zero l name e k =
    let kind : x.config.kind ≡ InFile name = ap (λ (y : DeviceLineData). y.config.kind) (same_Some x l e) ∙ k in
    let first : (after_fetch name f).places name ≡ out = rw (bytes_same name) refl in
    subst (λ (m : MediumData). (after_fetches (name_in m (file_names xs)) f).places name ≡ out) (sym kind) (place_out (file_names xs) (after_fetch name f) name first)
fetched_out (x ∷ xs) f (suc at) l name e k = by x.config.kind (λ (g : FilesState). fetched_out xs g at l name e k)
  where
    by : (m : MediumData) → ((g : FilesState) → (after_fetches (file_names xs) g).places name ≡ out) → (after_fetches (name_in m (file_names xs)) f).places name ≡ out
    by (InMemory n) more = more f
    by (InFile a) more = more (after_fetch a f)

-- The files of the devices from a number on are at home again, and those before it are still out.
pub record Keeping (ls : List DeviceLineData) (ends : List Device) (f g : FilesState) (from : ℕ) : Type 0 where
  pub home : (at : ℕ) (l : DeviceLineData) (d : Device) (name : List ℕ) → from ≤ at → slice_get ls at ≡ Some l → slice_get ends at ≡ Some d → l.config.kind ≡ InFile name → Holds d.medium (g.places name)
  pub away : (at : ℕ) (l : DeviceLineData) (name : List ℕ) → at < from → slice_get ls at ≡ Some l → l.config.kind ≡ InFile name → g.places name ≡ out
  pub others : SameOthers ls f g
  pub fails : g.fails ≡ f.fails
  pub fetches : g.fetches ≡ f.fetches

pub keeping_first : (ls : List DeviceLineData) (ends : List Device) (f : FilesState) (n : ℕ) → AreOut ls f → ((at : ℕ) (l : DeviceLineData) → slice_get ls at ≡ Some l → at < n) → Keeping ls ends f f n
keeping_first ls ends f n away within =
    record {
      home = λ at l d name le e g k. absurd (let lt = within at l e in omega (arith, lt, le));
      away = λ at l name lt e k. away at l name e k;
      others = λ name free. refl;
      fails = refl;
      fetches = refl;
    }

-- what is given back of a device: nothing of one in memory, and of one in a file what its medium left
abbrev pub KeepsKind : MediumData → MediumState → FilesState → FilesState → Type 0
KeepsKind (InMemory blocks) m g g' = g' ≡ g
KeepsKind (InFile name) m g g' = (c : Content) × IsLeftOf m c × (g' ≡ after_keep name c g)

pub keeping_more : (ls : List DeviceLineData) (ends : List Device) (f g g' : FilesState) (n : ℕ) (l : DeviceLineData) (d : Device) → OwnFiles ls → slice_get ls n ≡ Some l → slice_get ends n ≡ Some d
    → Keeping ls ends f g (n + 1) → KeepsKind l.config.kind d.medium g g' → Keeping ls ends f g' n
keeping_more ls ends f g g' n l d own at_ls at_ends h k = by l.config.kind refl k
  where
    by : (m : MediumData) → l.config.kind ≡ m → KeepsKind m d.medium g g' → Keeping ls ends f g' n
    by (InMemory blocks) kind same =
        let all : Keeping ls ends f g n = record {
          home = λ at x y name le e z k.
              ⊎_elim
              (λ (eq : at ≡ n). absurd (no_file x name blocks k (ap (λ (v : DeviceLineData). v.config.kind) (same_Some x l (sym e ∙ ap (slice_get ls) eq ∙ at_ls)) ∙ kind)))
              (λ (ne : at ≡ n → ⊥). h.home at x y name (above at ne le) e z k)
              (cases_eq at n);
          away = λ at x name lt e k. h.away at x name (omega (arith, lt)) e k;
          others = h.others;
          fails = h.fails;
          fetches = h.fetches;
        } in
        subst (λ (z : FilesState). Keeping ls ends f z n) (sym same) all
      where
        no_file : (x : DeviceLineData) (name : List ℕ) (blocks : ℕ) → x.config.kind ≡ InFile name → x.config.kind ≡ InMemory blocks → ⊥
        no_file x name blocks p q = let z : InFile name ≡ InMemory blocks = sym p ∙ q in cc

        above : (at : ℕ) → (at ≡ n → ⊥) → n ≤ at → n + 1 ≤ at
        above at ne le = omega (arith, ne, le)
    by (InFile name) kind kept =
        let c = kept.0 in
        let was : g.places name ≡ out = h.away n l name (omega arith) at_ls kind in
        let now_home : (after_keep name c g).places name ≡ at_home c = rw (bytes_same name) (ap (given_back c) was) in
        let elsewhere : (other : List ℕ) → bytes_eq other name ≡ false → (after_keep name c g).places other ≡ g.places other = λ other e. rw e refl in
        let all : Keeping ls ends f (after_keep name c g) n = record {
          home = λ at x y other le e z k.
              ⊎_elim
              (λ (eq : at ≡ n).
              let device : y ≡ d = same_Some y d (sym z ∙ ap (slice_get ends) eq ∙ at_ends) in
              let line_is : x ≡ l = same_Some x l (sym e ∙ ap (slice_get ls) eq ∙ at_ls) in
              let same_name : other ≡ name = file_same other name (sym k ∙ ap (λ (v : DeviceLineData). v.config.kind) line_is ∙ kind) in
              subst (λ (v : Device). Holds v.medium ((after_keep name c g).places other)) (sym device)
              (subst (λ (v : List ℕ). Holds d.medium ((after_keep name c g).places v)) (sym same_name) (c, now_home, kept.1)))
              (λ (ne : at ≡ n → ⊥).
              subst (Holds y.medium) (sym (elsewhere other (own at x other e k n l name at_ls kind ne))) (h.home at x y other (omega (arith, ne, le)) e z k))
              (cases_eq at n);
          away = λ at x other lt e k. elsewhere other (own at x other e k n l name at_ls kind (λ eq. omega (arith, eq, lt))) ∙ h.away at x other (omega (arith, lt)) e k;
          others = λ other free. elsewhere other (named_differs ls n l name other at_ls kind free) ∙ h.others other free;
          fails = h.fails;
          fetches = h.fetches;
        } in
        subst (λ (z : FilesState). Keeping ls ends f z n) (sym kept.2) all
      where
        file_same : (a b : List ℕ) → InFile a ≡ InFile b → a ≡ b
        file_same a b e = cc

pub keeping_done : (ls : List DeviceLineData) (ends : List Device) (f g : FilesState) → Keeping ls ends f g 0 → Kept ls ends f.fetches f g
keeping_done ls ends f g h = record { named = λ at l name e k d z. h.home at l d name (omega arith) e z k; others = h.others; fails = h.fails; fetches = h.fetches }

-- ==== from what the calls say

-- the file that a store of told bytes is
file_of : (s : StoreState) (bs : List ℕ) → s.bytes ≡ Some bs → length bs ≡ s.size → s ≡ store_of (record { bytes = bs; calls = s.calls; syncs = s.syncs })
file_of s bs e long =
    ap (λ (n : ℕ). record { size = n; bytes = s.bytes; calls = s.calls; syncs = s.syncs }) (sym long) ∙ ap (λ (o : Option (List ℕ)). record { size = length bs; bytes = o; calls = s.calls; syncs = s.syncs }) e

pub returned_file : (name : List ℕ) (s : StoreState) (m : MediumState) (old new : Option FilesState) → IfSome s.bytes (λ bs. length bs ≡ s.size) → IsStoredIn s m
    → ((c : Content) → s ≡ store_of c → new ≡ option_map (after_keep name c) old) → Returns (InFile name) m old new
returned_file name s m old new sized stored kept layer told = by s.bytes refl
  where
    by : (o : Option (List ℕ)) → s.bytes ≡ o → (c : Content) × IsLeftOf m c × (new ≡ option_map (after_keep name c) old)
    by None e = let none : is_some m.below.store.bytes ≡ false = ap (λ (o : Option (List ℕ)). is_some o) (stored.bytes ∙ ap (option_map (zeroed m.below.store.free)) e) in absurd (false≢true (sym none ∙ told))
    by (Some bs) e =
        let long = subst (λ (o : Option (List ℕ)). IfSome o (λ bs. length bs ≡ s.size)) e sized in
        let c : Content = record { bytes = bs; calls = s.calls; syncs = s.syncs } in
        (c, record { size = long ∙ stored.size; bytes = stored.bytes ∙ ap (option_map (zeroed m.below.store.free)) e; calls = stored.calls; syncs = stored.syncs }, kept c (file_of s bs e long))

-- a medium in memory is in no file
pub returned_none : (k : MediumData) (m : MediumState) (old : Option FilesState) → has_store m.below.layer ≡ false → Returns k m old old
returned_none (InMemory blocks) m old e = refl
returned_none (InFile name) m old e = λ layer told. absurd (false≢true (sym e ∙ layer))

-- the files behind the devices that were given back so far
abbrev pub KeptFrom : List DeviceLineData → List Device → Option FilesState → Option FilesState → ℕ → Type 0
KeptFrom ls ends old mid n =
    OwnFiles ls → TellFiles ls ends → (f : FilesState) → old ≡ Some f → AreOut ls f → (g : FilesState) × (mid ≡ Some g) × Keeping ls ends f g n

pub kept_first : (ls : List DeviceLineData) (ends : List Device) (old : Option FilesState) (n : ℕ) → length ls ≤ n → KeptFrom ls ends old old n
kept_first ls ends old n le own tell f e away = (f, e, keeping_first ls ends f n away (λ at l g. let lt = slice_get_within ls at l g in omega (arith, lt, le)))

pub kept_more : (ls : List DeviceLineData) (ends : List Device) (old mid new : Option FilesState) (n : ℕ) (l : DeviceLineData) (d : Device) → slice_get ls n ≡ Some l → slice_get ends n ≡ Some d
    → KeptFrom ls ends old mid (n + 1) → Returns l.config.kind d.medium mid new → KeptFrom ls ends old new n
kept_more ls ends old mid new n l d at_ls at_ends h r own tell f e away = by l.config.kind refl r
  where
    before : (g : FilesState) × (mid ≡ Some g) × Keeping ls ends f g (n + 1)
    before = h own tell f e away

    by : (k : MediumData) → l.config.kind ≡ k → Returns k d.medium mid new → (g : FilesState) × (new ≡ Some g) × Keeping ls ends f g n
    by (InMemory blocks) kind same =
        (before.0, same ∙ before.1, keeping_more ls ends f before.0 before.0 n l d own at_ls at_ends before.2 (subst (λ (k : MediumData). KeepsKind k d.medium before.0 before.0) (sym kind) refl))
    by (InFile name) kind back =
        let t = tell n l name at_ls kind d at_ends in
        let x = back t.0 t.1 in
        let g' = after_keep name x.0 before.0 in
        (g', x.2 ∙ ap (option_map (after_keep name x.0)) before.1, keeping_more ls ends f before.0 g' n l d own at_ls at_ends before.2 (subst (λ (k : MediumData). KeepsKind k d.medium before.0 g') (sym kind) (x.0, x.1, refl)))

pub kept_done : (ls : List DeviceLineData) (ends : List Device) (old new : Option FilesState) → KeptFrom ls ends old new 0 → KeepsEach ls ends old new
kept_done ls ends old new h own tell f e away = let x = h own tell f e away in (x.0, x.1, keeping_done ls ends f x.0 x.2)

-- one device is given back alone
pub keeps_one : (l : DeviceLineData) (d : Device) (old new : Option FilesState) → Returns l.config.kind d.medium old new → KeepsEach (l ∷ []) (d ∷ []) old new
keeps_one l d old new r = kept_done (l ∷ []) (d ∷ []) old new (kept_more (l ∷ []) (d ∷ []) old old new 0 l d refl refl (kept_first (l ∷ []) (d ∷ []) old 1 (omega arith)) r)

-- the last of the first so many devices of a set
pub popped : (set rest all : List (List ℕ × Device)) (d : Device) → set ≡ take (length set) all → rest ≡ take (length set - 1) set → slice_get (devices set) (length set - 1) ≡ Some d
    → (length set ≡ length rest + 1) × (rest ≡ take (length rest) all) × (slice_get (states_of (λ x. x) all) (length rest) ≡ Some d)
popped set rest all d front left found =
    let states : slice_get (states_of (λ (x : Device). x) set) (length set - 1) ≡ Some d = found in
    let within = slice_get_within (states_of (λ (x : Device). x) set) (length set - 1) d states in
    let some : length set - 1 < length set = subst (λ (n : ℕ). length set - 1 < n) (length-map set (λ (e : List ℕ × Device). e.1)) within in
    let count : length rest ≡ length set - 1 = ap (λ (x : List (List ℕ × Device)). length x) left ∙ length-take-le (length set - 1) set (omega arith) in
    let shorter : rest ≡ take (length set - 1) all = left ∙ ap (take (length set - 1)) front ∙ take-take (length set - 1) (length set) all (omega arith) in (
      omega (arith, count, some),
      shorter ∙ ap (λ (n : ℕ). take n all) (sym count),
      subst (λ (n : ℕ). slice_get (states_of (λ (x : Device). x) all) n ≡ Some d) (sym count)
          (get_taken (states_of (λ (x : Device). x) all) (length set) (length set - 1) d (subst (λ (l : List Device). slice_get l (length set - 1) ≡ Some d) fronts states)),
    )
  where
    fronts : states_of (λ (x : Device). x) set ≡ take (length set) (states_of (λ (x : Device). x) all)
    fronts = ap (states_of (λ (x : Device). x)) front ∙ sym (take-map (λ (e : List ℕ × Device). e.1) (length set) all)

-- no device is left
pub popped_none : (set : List (List ℕ × Device)) → None ≡ slice_get (devices set) (length set - 1) → length set ≡ 0
popped_none [] e = refl
popped_none (x ∷ xs) e =
    let some = get_within (devices (x ∷ xs)) (length (x ∷ xs) - 1) (omega (arith, length-map (x ∷ xs) (λ (e : List ℕ × Device). e.1))) in
    absurd (no_such some.0 (e ∙ some.1))
  where
    no_such : (d : Device) → None ≡ Some d → ⊥
    no_such d h = cc
