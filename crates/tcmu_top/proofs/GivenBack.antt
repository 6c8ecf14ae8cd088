-- Devices that were opened and made nothing are given back, and each file is as it was.
use Rattle.std.proofs.Common.{◌≡◌, ℕ, zero, suc, ◌+◌, ◌<◌, ◌≤◌, ◌/◌, Bool, true, false, ◌||◌, List, [], ◌∷◌, ◌++◌, length, take, drop, get_or, slice_get, Option, Some, None, IfSome, is_some, bytes_eq, refl, sym, ap, ◌∙◌, arith, subst, append_assoc, ⊎_elim}
use Rattle.std.specs.List.{AllPairs, list_any, filter}
use Rattle.std.specs.Option.{option_map}
use Rattle.std.proofs.lemmas.Bool.{cases_Bool}
use Rattle.std.proofs.lemmas.List.{take_more, take-append-drop}
use Rattle.std.proofs.lemmas.Option.{same_Some, slice_get_within}
use Rattle.tcmu_types.specs.Numbered.{Numbered, next_call}
use Rattle.edge.specs.Stores.{StoreState, Content, Place, at_home, FilesState, fetch_fails, one_more_fetch}
use Rattle.tcmu_model.specs.MediumState.{Layer, memory, file, overlay, write_back, MediumState}
use Rattle.scsi_model.specs.Medium.{has_store, opened_medium, file_below}
use Rattle.scsi_model.specs.Runs.{clean}
use Rattle.scsi_model.proofs.Cleared.{cleared_none}
use Rattle.scsi_model.proofs.Running.{runs_keep}
use Rattle.scsi_model.specs.Scsi.{Serves}
use Rattle.tcmu_model.specs.Device.{Device}
use Rattle.text_model.specs.Config.{MediumData, InMemory, InFile}
use Rattle.text_model.specs.ScenarioData.{DeviceLineData}
use Rattle.text_model.specs.Said.{same_file}
use Rattle.text_model.specs.Journals.{Journaled, is_of, IsLegalEach}
use Rattle.tcmu_types.proofs.Readings.{same_bytes}
use Rattle.media.specs.Opening as made
use Rattle.media.specs.declared.make.MakeFault.{MakeFault}
use Rattle.media.specs.declared.make.MakeFault.TheVariants as fault
use Rattle.tcmu_top.specs.Opened.{OpensFile, OpensKind, Opens, OpenEach, name_in, file_names, a_fetch_fails, is_named, IsLeftOf, Holds, Kept, FetchedFront, NoneFailed, NextFailed, SameFiles, AsTheyWere, after_fetches, AreOpen, Made, Unopened, OwnFiles, TellFiles, AreOut, Returns, KeepsEach}
use Rattle.tcmu_top.proofs.Telling.{rose_later}
use Rattle.tcmu_top.proofs.FileRuns.{device_runs}
use Rattle.tcmu_top.proofs.Legal.{legal_none}
use Rattle.tcmu_top.proofs.Fetching.{names_append, fails_append, fetches_append, fetches_fails, place_free, IsOwn, open_none, open_more, fetch_lacks, own_files}
use Rattle.tcmu_top.proofs.Keeping.{fetched_out, keeps_one}
use Rattle.tcmu_types.proofs.Places.{get_taken}

-- ==== what a device tells as it opens, and behind its run

pub open_at : (files : Option FilesState) (ls : List DeviceLineData) (ds : List Device) (at : ℕ) (l : DeviceLineData) → OpenEach files ls ds → slice_get ls at ≡ Some l → (d : Device) × (slice_get ds at ≡ Some d) × Opens files l d
open_at files [] ds at l h e = absurd (cc)
open_at files (k ∷ ls) [] at l h e = absurd h
open_at files (k ∷ ls) (d ∷ ds) zero l h e = (d, refl, subst (λ (x : DeviceLineData). Opens files x d) (same_Some k l e) h.0)
open_at files (k ∷ ls) (d ∷ ds) (suc at) l h e = open_at files ls ds at l h.1 e

-- the store of a device over a file that is told is told as it opens
opens_told : (f : FilesState) (l : DeviceLineData) (d : Device) (name : List ℕ) → Opens (Some f) l d → l.config.kind ≡ InFile name → (has_store d.medium.below.layer ≡ true) × (is_some d.medium.below.store.bytes ≡ true)
opens_told f l d name o kind =
    let x : OpensFile name (Some f) l.config o.0 = subst (λ (k : MediumData). OpensKind k (Some f) l.config o.0) kind o.1 in
    let medium_is : d.medium ≡ opened_medium (x.store.size / 512) l.config.protected l.config.fails (file_below x.store.size x.store.bytes x.store.calls x.store.syncs) = ap (λ (y : Device). y.medium) o.2 ∙ x.medium in
    let bytes_are : x.store.bytes ≡ Some x.told.0.bytes = ap (λ (s : StoreState). s.bytes) x.told.2 in
    (ap (λ (m : MediumState). has_store m.below.layer) medium_is, ap (λ (m : MediumState). is_some m.below.store.bytes) medium_is ∙ ap (λ (o : Option (List ℕ)). is_some o) bytes_are)

-- whether there is a store below goes by the layer, whatever is dirty
clean_store : (l : Layer) → has_store (clean l) ≡ has_store l
clean_store memory = refl
clean_store file = refl
clean_store overlay = refl
clean_store (write_back slots dirty) = refl

pub tell_files : (f : FilesState) (ls : List DeviceLineData) (ds ends : List Device) (js : List Journaled) → OpenEach (Some f) ls ds → IsLegalEach Serves ds js ends → TellFiles ls ends
tell_files f ls ds ends js opens legal at l name e kind d' g =
    let x = open_at (Some f) ls ds at l opens e in
    let first = opens_told f l x.0 name x.2 kind in
    let stays = runs_keep x.0.medium d'.medium (device_runs x.0 d' (filter (is_of at) js) (legal at x.0 d' x.1 g)) in
    (sym (clean_store d'.medium.below.layer) ∙ ap has_store stays.layer ∙ clean_store x.0.medium.below.layer ∙ first.0, stays.stored ∙ first.1)

-- ==== one file

pub content_same : (a b : Content) → a.bytes ≡ b.bytes → a.calls ≡ b.calls → a.syncs ≡ b.syncs → a ≡ b
content_same a b e h k =
    ap (λ (x : List ℕ). record { bytes = x; calls = a.calls; syncs = a.syncs }) e
    ∙ ap (λ (n : Numbered). record { bytes = b.bytes; calls = n; syncs = a.syncs }) h ∙ ap (λ (n : ℕ). record { bytes = b.bytes; calls = b.calls; syncs = n }) k

-- what is left of a device that made nothing is what its file was
file_again : (f : FilesState) (l : DeviceLineData) (d : Device) (name : List ℕ) (place : Place) → Opens (Some f) l d → l.config.kind ≡ InFile name → Holds d.medium place → place ≡ f.places name
file_again f l d name place o kind h =
    let x : OpensFile name (Some f) l.config o.0 = subst (λ (k : MediumData). OpensKind k (Some f) l.config o.0) kind o.1 in
    let medium_is = ap (λ (y : Device). y.medium) o.2 ∙ x.medium in
    let left = subst (λ (m : MediumState). IsLeftOf m h.0) medium_is h.2 in
    let was = x.told.0 in
    let bytes_are : Some h.0.bytes ≡ Some was.bytes = ap (λ (xs : List ℕ). Some xs) (sym (cleared_none h.0.bytes)) ∙ sym left.bytes ∙ ap (λ (s : StoreState). s.bytes) x.told.2 in
    let calls_are : h.0.calls ≡ was.calls = left.calls ∙ ap (λ (s : StoreState). s.calls) x.told.2 in
    let syncs_are : h.0.syncs ≡ was.syncs = left.syncs ∙ ap (λ (s : StoreState). s.syncs) x.told.2 in
    h.1 ∙ ap (λ (c : Content). at_home c) (content_same h.0 was (same_Some h.0.bytes was.bytes bytes_are) calls_are syncs_are) ∙ sym x.told.1

-- the device line whose file this is
abbrev NamedAt : List DeviceLineData → List ℕ → Type 0
NamedAt ls name = (at : ℕ) × ((l : DeviceLineData) × (slice_get ls at ≡ Some l) × (l.config.kind ≡ InFile name))

named_at : (ls : List DeviceLineData) (name : List ℕ) → is_named ls name ≡ true → NamedAt ls name
named_at [] name h = absurd (cc)
named_at (x ∷ xs) name h = by x.config.kind refl h (λ k. let r = named_at xs name k in (suc r.0, r.1))
  where
    by : (m : MediumData) → x.config.kind ≡ m → list_any (bytes_eq name) (name_in m (file_names xs)) ≡ true → (is_named xs name ≡ true → NamedAt (x ∷ xs) name) → NamedAt (x ∷ xs) name
    by (InMemory blocks) kind h more = more h
    by (InFile a) kind h more =
        ⊎_elim
        (λ (e : bytes_eq name a ≡ true). (0, (x, refl, kind ∙ ap (λ (n : List ℕ). InFile n) (sym (same_bytes name a e)))))
        (λ (e : bytes_eq name a ≡ false). more (sym (ap (λ (b : Bool). b || list_any (bytes_eq name) (file_names xs)) e) ∙ h))
        (cases_Bool (bytes_eq name a))

-- ==== all files

-- which fetches were made, of those of names
abbrev pub Fetches : Type 1
Fetches = List (List ℕ) → FilesState → ℕ → Type 0

-- they go on behind fetches that did not fail
abbrev pub GoesBehind : Fetches → Type 0
GoesBehind So = (xs ys : List (List ℕ)) (f : FilesState) (count : ℕ) → a_fetch_fails xs f ≡ false → So ys (after_fetches xs f) count → So (xs ++ ys) f count

-- and they are those of more names
abbrev pub IsOfMore : Fetches → Type 0
IsOfMore So = (xs ys : List (List ℕ)) (f : FilesState) (count : ℕ) → So xs f count → So (xs ++ ys) f count

front_behind : (xs ys : List (List ℕ)) (f : FilesState) → a_fetch_fails xs f ≡ false → FetchedFront ys (after_fetches xs f) → FetchedFront (xs ++ ys) f
front_behind xs ys f none h =
    record {
      tried = xs ++ h.tried;
      rest = h.rest;
      front = ap (λ (l : List (List ℕ)). xs ++ l) h.front ∙ sym (append_assoc xs h.tried h.rest);
      none = fails_append xs h.tried f ∙ ap (λ b. b || a_fetch_fails h.tried (after_fetches xs f)) none ∙ h.none;
    }

front_of_more : (xs ys : List (List ℕ)) (f : FilesState) → FetchedFront xs f → FetchedFront (xs ++ ys) f
front_of_more xs ys f h =
    record { tried = h.tried; rest = h.rest ++ ys; front = ap (λ (l : List (List ℕ)). l ++ ys) h.front ∙ append_assoc h.tried h.rest ys; none = h.none }

none_behind : GoesBehind NoneFailed
unfolding front_behind
none_behind xs ys f count none h = record { made = front_behind xs ys f none h.made; fetches = h.fetches ∙ ap (λ (x : FilesState). x.fetches) (sym (fetches_append xs h.made.tried f)) }

none_of_more : IsOfMore NoneFailed
unfolding front_of_more
none_of_more xs ys f count h = record { made = front_of_more xs ys f h.made; fetches = h.fetches }

next_behind : GoesBehind NextFailed
unfolding front_behind
next_behind xs ys f count none h =
    let same = sym (fetches_append xs h.made.tried f) in
    record {
      made = front_behind xs ys f none h.made;
      lacking = h.lacking;
      more = h.more;
      next = h.next;
      fails = ap (fetch_fails h.lacking) (sym same) ∙ h.fails;
      fetches = h.fetches ∙ ap (λ (x : FilesState). next_call x.fetches) same;
    }

next_of_more : IsOfMore NextFailed
unfolding front_of_more
next_of_more xs ys f count h =
    record {
      made = front_of_more xs ys f h.made;
      lacking = h.lacking;
      more = h.more ++ ys;
      next = ap (λ (l : List (List ℕ)). l ++ ys) h.next;
      fails = h.fails;
      fetches = h.fetches;
    }

-- they are given back to files that are as the devices' fetches left them, but for more fetches
same_again : (f g f' : FilesState) (ls : List DeviceLineData) (ds : List Device) → OpenEach (Some f) ls ds → SameFiles (after_fetches (file_names ls) f) g → Kept ls ds g.fetches g f' → SameFiles f f'
same_again f g f' ls ds opens s k =
    record {
      places = λ name.
          ⊎_elim
          (λ (e : is_named ls name ≡ true). named name (named_at ls name e))
          (λ (e : is_named ls name ≡ false). k.others name e ∙ s.places name ∙ place_free (file_names ls) f name e)
          (cases_Bool (is_named ls name));
      fails = k.fails ∙ s.fails ∙ fetches_fails (file_names ls) f;
    }
  where
    named : (name : List ℕ) → NamedAt ls name → f'.places name ≡ f.places name
    named name at =
        let d = open_at (Some f) ls ds at.0 at.1.0 opens at.1.1 in
        file_again f at.1.0 d.0 name (f'.places name) d.2 at.1.2 (k.named at.0 at.1.0 name at.1.1 at.1.2 d.0 d.1)

pub as_they_were : (So : Fetches) (files mid new last : Option FilesState) (ls more : List DeviceLineData) (ds : List Device) → GoesBehind So → AreOpen files mid ls ds → OwnFiles ls → AsTheyWere So more mid new
    → KeepsEach ls ds new last → AsTheyWere So (ls ++ more) files last
as_they_were So None mid new last ls more ds goes h own same k = tt
as_they_were So (Some f) mid new last ls more ds goes h own same k =
    let here = subst (λ (x : Option FilesState). IfSome x (λ g. (g' : FilesState) × (new ≡ Some g') × SameFiles g g' × So (file_names more) g g'.fetches)) h.fetched.after same in
    let away : AreOut ls here.0 = λ at l name e kind. here.2.places name ∙ fetched_out ls f at l name e kind in
    let x = k own (tell_files f ls ds ds [] h.opens (legal_none Serves ds)) here.0 here.1 away in (
      x.0,
      x.1,
      same_again f here.0 x.0 ls ds h.opens here.2 x.2,
      subst (λ (names : List (List ℕ)). So names f x.0.fetches) (sym (names_append ls more))
          (goes (file_names ls) (file_names more) f x.0.fetches h.fetched.none (subst (So (file_names more) (after_fetches (file_names ls) f)) (sym x.2.fetches) here.3)),
    )

all_as_they_were : (So : Fetches) (all ls rest : List DeviceLineData) (files files' : Option FilesState) → IsOfMore So → all ≡ ls ++ rest → AsTheyWere So ls files files' → AsTheyWere So all files files'
all_as_they_were So all ls rest None files' wider e h = tt
all_as_they_were So all ls rest (Some f) files' wider e h =
    (h.0, h.1, h.2, subst (λ (names : List (List ℕ)). So names f h.0.fetches) (sym (ap file_names e ∙ names_append ls rest)) (wider (file_names ls) (file_names rest) f h.0.fetches h.3))

-- ==== one device more

-- no fetch of these names was made
none_tried : (names : List (List ℕ)) (f : FilesState) → FetchedFront names f
none_tried names f = record { tried = []; rest = names; front = refl; none = refl }

-- nothing came of it
pub unchanged : (ls : List DeviceLineData) (files files' : Option FilesState) → files' ≡ files → AsTheyWere NoneFailed ls files files'
unfolding none_tried
unchanged ls None files' e = tt
unchanged ls (Some f) files' e = (f, e, record { places = λ name. refl; fails = refl }, record { made = none_tried (file_names ls) f; fetches = refl })

-- its fetch failed
refused_fetch : (l : DeviceLineData) (name : List ℕ) (files files' : Option FilesState) → l.config.kind ≡ InFile name → IfSome files (λ f. fetch_fails name f ≡ true) → files' ≡ option_map one_more_fetch files
    → AsTheyWere NextFailed (l ∷ []) files files'
unfolding none_tried
refused_fetch l name None files' kind fails e = tt
refused_fetch l name (Some f) files' kind fails e = (
  one_more_fetch f,
  e,
  record { places = λ name. refl; fails = refl },
  record { made = none_tried (file_names (l ∷ [])) f; lacking = name; more = []; next = ap (λ (k : MediumData). name_in k []) kind; fails = fails; fetches = refl },
)

fetch_fails_one : (l : DeviceLineData) (name : List ℕ) (files : Option FilesState) → l.config.kind ≡ InFile name → IfSome files (λ f. fetch_fails name f ≡ true) → IfSome files (λ f. a_fetch_fails (file_names (l ∷ [])) f ≡ true)
fetch_fails_one l name None kind h = tt
fetch_fails_one l name (Some f) kind h = ap (λ (k : MediumData). a_fetch_fails (name_in k []) f) kind ∙ ap (λ (b : Bool). b || false) h

-- no medium was made for it
pub unmade : (e : MakeFault) (l : DeviceLineData) (old new : Option FilesState) (faults faults' : ℕ) → made.Refuses e l.config old new faults faults' → Unopened e (l ∷ []) old new faults faults'
unmade e l old new faults faults' r = by e l.config.kind refl r
  where
    by : (e : MakeFault) (k : MediumData) → l.config.kind ≡ k → made.RefusesKind k e old new faults faults' → Unopened e (l ∷ []) old new faults faults'
    by fault.Open (InMemory blocks) kind r = absurd r
    by fault.Open (InFile name) kind r = record { fails = fetch_fails_one l name old kind r.fails; same = refused_fetch l name old new kind r.fails r.files; rose = r.rose }
    by fault.NoMemory (InMemory blocks) kind r = unchanged (l ∷ []) old new r
    by fault.NoMemory (InFile name) kind r = unchanged (l ∷ []) old new r

-- there was no room for it
pub unadded : (l : DeviceLineData) (d : Device) (old mid new : Option FilesState) → Made l old mid d → Returns l.config.kind d.medium mid new → AsTheyWere NoneFailed (l ∷ []) old new
unadded l d old mid new m r =
    let opened = open_more old old mid [] [] l m.0 (open_none old) (own_none l.config.kind) m.1 in
    as_they_were NoneFailed old mid mid new (l ∷ []) [] (d ∷ []) none_behind (subst (λ (x : Device). AreOpen old mid (l ∷ []) (x ∷ [])) (sym m.2) opened) own (unchanged [] mid mid refl) (keeps_one l d mid new r)
  where
    own_none : (k : MediumData) → IsOwn [] k
    own_none (InMemory blocks) = tt
    own_none (InFile name) = refl

    own : OwnFiles (l ∷ [])
    own i x a e p j y b h q ne = absurd (ne (omega (arith, slice_get_within (l ∷ []) i x e, slice_get_within (l ∷ []) j y h)))

-- ==== where it stops

own_front : (ls : List DeviceLineData) (n : ℕ) → OwnFiles ls → OwnFiles (take n ls)
own_front ls n own i l a e p j k b f q ne = own i l a (get_taken ls n i l e) p j k b (get_taken ls n j k f) q ne

-- a device could not be opened, and those before it are given back
pub unopened : (e : MakeFault) (files mid new last : Option FilesState) (faults f1 f2 : ℕ) (ls : List DeviceLineData) (i : ℕ) (l : DeviceLineData) (ds : List Device) → i < length ls → l ≡ get_or ls i l
    → AllPairs (λ d e. same_file d.config.kind e.config.kind ≡ false) ls → AreOpen files mid (take i ls) ds → faults ≤ f1 → f1 ≤ f2 → Unopened e (l ∷ []) mid new f1 f2
    → KeepsEach (take i ls) ds new last → Unopened e ls files last faults f2
unopened e files mid new last faults f1 f2 ls i l ds lt is own h le le' r k = by e r
  where
    parts : ls ≡ (take i ls ++ l ∷ []) ++ drop (i + 1) ls
    parts = sym (take-append-drop (i + 1) ls) ∙ ap (λ (x : List DeviceLineData). x ++ drop (i + 1) ls) (take_more ls i l lt ∙ ap (λ (x : DeviceLineData). take i ls ++ x ∷ []) (sym is))

    same : (So : Fetches) → GoesBehind So → IsOfMore So → AsTheyWere So (l ∷ []) mid new → AsTheyWere So ls files last
    same So goes wider s =
        all_as_they_were So ls (take i ls ++ l ∷ []) (drop (i + 1) ls) files last wider parts (as_they_were So files mid new last (take i ls) (l ∷ []) ds goes h (own_front ls i (own_files ls own)) s k)

    by : (e : MakeFault) → Unopened e (l ∷ []) mid new f1 f2 → Unopened e ls files last faults f2
    by fault.Open r = record { fails = fetch_lacks ls (take i ls) (drop (i + 1) ls) l files mid parts h.fetched r.fails; same = same NextFailed next_behind next_of_more r.same; rose = rose_later faults f1 f2 le le' r.rose }
    by fault.NoMemory r = same NoneFailed none_behind none_of_more r
