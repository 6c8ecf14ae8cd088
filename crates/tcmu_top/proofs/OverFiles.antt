-- Over files whose stores tell which calls fail a scenario that has a known text has no other, and where they list none every text is known.
use Rattle.std.proofs.Common.{◌≡◌, inl, inr, ℕ, suc, ◌*◌, ◌/◌, Bool, true, false, ◌||◌, List, [], ◌∷◌, length, slice_get, bytes_eq, Option, Some, None, IfSome, is_some, ⊎_elim, refl, sym, ap, ◌∙◌, subst, arith}
use Rattle.std.specs.List.{list_any, filter}
use Rattle.std.specs.Option.{option_map}
use Rattle.std.proofs.lemmas.Bool.{cases_Bool, false≢true}
use Rattle.std.proofs.lemmas.Option.{slice_get_within}
use Rattle.edge.specs.Stores.{Content, StoreState, store_of, Place, at_home, FilesState}
use Rattle.tcmu_model.specs.MediumState.{MediumState}
use Rattle.scsi_model.specs.Base.{zeroed}
use Rattle.scsi_model.specs.Medium.{lies_in, empty_span, blanked, opened_medium, file_below}
use Rattle.scsi_model.specs.Runs.{ShowsFile}
use Rattle.scsi_model.proofs.Cleared.{hidden, get_cleared}
use Rattle.scsi_model.proofs.FileRuns.{runs_show_file}
use Rattle.tcmu_model.specs.Device.{Device, opening}
use Rattle.text_model.specs.Config.{ConfigData, MediumData, InMemory, InFile}
use Rattle.text_model.specs.ScenarioData.{DeviceLineData, ScenarioData}
use Rattle.scsi_model.specs.Scsi.{Serves}
use Rattle.scsi_model.specs.ReadsLost.{ServesKnown}
use Rattle.scsi_model.proofs.Holding.{holds_one}
use Rattle.text_model.specs.Several.{IsReplayOf, ReplaysEach}
use Rattle.text_model.specs.Journals.{Journaled, is_of, IsLegalEach}
use Rattle.text_model.specs.Replay.{Plays}
use Rattle.text_model.specs.Printed.{entries_in}
use Rattle.region_model.specs.Picture.{picture_of}
use Rattle.text_model.proofs.PrintedJournals.{entries_printed, legal_entries, replays_entries}
use Rattle.tcmu_types.specs.Lists.{Every}
use Rattle.tcmu_types.specs.Numbers.{is_among}
use Rattle.tcmu_types.proofs.Everies.{every_at}
use Rattle.tcmu_types.proofs.Readings.{same_some, same_bytes}
use Rattle.tcmu_types.proofs.Places.{get_within, same_list}
use Rattle.block_engine.specs.Determined.{IsTold, LosesNothing}
use Rattle.text_laws.proofs.Knowing.{known_without_loss}
use Rattle.text_laws.proofs.Settled.{one_replay, one_known_text}
use Rattle.tcmu_top.specs.Opened.{OpensFile, OpensKind, Opens, OpenEach, EachFile, after_fetches, file_names, name_in, is_named, IsLeftOf, Holds, SameFiles, Kept, KeptFiles}
use Rattle.tcmu_top.specs.Top.{IsTextOf}
use Rattle.tcmu_top.specs.Laws.{TellsFails, TellFails, IsKnown, HasOneKnownText, SamePlaceBut, SameFilesBut, LeavesTheKnownFiles, ListsNone, ListNone, AreKnown, LeavesTheSameFiles}
use Rattle.tcmu_top.proofs.Completions.{devices_stay}
use Rattle.tcmu_top.proofs.FileRuns.{device_runs}
use Rattle.tcmu_top.proofs.GivenBack.{open_at, content_same}

-- ---- one medium

same_content : (a b : Content) → at_home a ≡ at_home b → a ≡ b
same_content a b e = cc

-- what is opened is determined by the files
one_medium : (f : FilesState) (kind : MediumData) (c : ConfigData) (m n : MediumState) → OpensKind kind (Some f) c m → OpensKind kind (Some f) c n → m ≡ n
one_medium f (InMemory blocks) c m n h k = h ∙ sym k
one_medium f (InFile name) c m n h k =
    let content : h.told.0 ≡ k.told.0 = same_content h.told.0 k.told.0 (sym h.told.1 ∙ k.told.1) in
    let store : h.store ≡ k.store = h.told.2 ∙ ap (λ (x : Content). store_of x) content ∙ sym k.told.2 in
    h.medium ∙ ap (λ (s : StoreState). opened_medium (s.size / 512) c.protected c.fails (file_below s.size s.bytes s.calls s.syncs)) store ∙ sym k.medium

loses_nothing : (f : FilesState) (kind : MediumData) (c : ConfigData) (m : MediumState) → ListsNone f kind → OpensKind kind (Some f) c m → LosesNothing m
loses_nothing f (InMemory blocks) c m none h =
    subst LosesNothing (sym h) (record { told = record { own = refl; store = refl; bytes = refl }; lossless = record { place = inl refl; lost = refl } })
loses_nothing f (InFile name) c m none h =
    let bytes = ap (λ (s : StoreState). is_some s.bytes) h.told.2 in
    let fails : h.store.calls.fails ≡ Some [] = ap (λ (s : StoreState). s.calls.fails) h.told.2 ∙ none h.told.0 h.told.1 in
    subst LosesNothing (sym h.medium) (record { told = record { own = refl; store = ap is_some fails; bytes = bytes }; lossless = record { place = inr (refl, fails); lost = refl } })

-- ---- all devices

one_opening : (f : FilesState) (ls : List DeviceLineData) (ds es : List Device) → OpenEach (Some f) ls ds → OpenEach (Some f) ls es → ds ≡ es
one_opening f [] [] [] h k = refl
one_opening f [] [] (e ∷ es) h k = absurd k
one_opening f [] (d ∷ ds) es h k = absurd h
one_opening f (l ∷ ls) [] es h k = absurd h
one_opening f (l ∷ ls) (d ∷ ds) [] h k = absurd k
one_opening f (l ∷ ls) (d ∷ ds) (e ∷ es) h k =
    let medium = one_medium f l.config.kind l.config h.0.0 k.0.0 h.0.1 k.0.1 in
    let first : d ≡ e = h.0.2 ∙ ap (λ (m : MediumState). opening l.settings l.name m) medium ∙ sym k.0.2 in
    ap (λ (x : Device). x ∷ ds) first ∙ ap (λ (xs : List Device). e ∷ xs) (one_opening f ls ds es h.1 k.1)

lose_nothing : (f : FilesState) (ls : List DeviceLineData) (ds : List Device) → ListNone f ls → OpenEach (Some f) ls ds → Every (λ d. LosesNothing d.medium) ds
lose_nothing f [] [] none h = tt
lose_nothing f [] (d ∷ ds) none h = absurd h
lose_nothing f (l ∷ ls) [] none h = absurd h
lose_nothing f (l ∷ ls) (d ∷ ds) none h =
    (subst (λ (x : Device). LosesNothing x.medium) (sym h.0.2) (loses_nothing f l.config.kind l.config h.0.0 none.0 h.0.1), lose_nothing f ls ds none.1 h.1)

pub are_known : AreKnown
are_known f s t none is = known_without_loss picture_of s.devices s.lines is.opened t (lose_nothing f s.devices is.opened none is.opens) is.replay

-- ---- the files behind a replay

record IsNamedAt (ls : List DeviceLineData) (name : List ℕ) : Type 0 where
  at : ℕ
  line : DeviceLineData
  found : slice_get ls at ≡ Some line
  kind : line.config.kind ≡ InFile name

-- a device line names it
named_at : (ls : List DeviceLineData) (name : List ℕ) → is_named ls name ≡ true → IsNamedAt ls name
named_at [] name e = absurd (cc)
named_at (l ∷ ls) name e = go l.config.kind refl e (named_at ls name)
  where
    later : IsNamedAt ls name → IsNamedAt (l ∷ ls) name
    later x = record { at = suc x.at; line = x.line; found = x.found; kind = x.kind }

    first : (other : List ℕ) → l.config.kind ≡ InFile other → (b : Bool) → bytes_eq name other ≡ b → (b || list_any (bytes_eq name) (file_names ls)) ≡ true
        → (is_named ls name ≡ true → IsNamedAt ls name) → IsNamedAt (l ∷ ls) name
    first other kind true same e rest = record { at = 0; line = l; found = refl; kind = kind ∙ ap (λ (n : List ℕ). InFile n) (sym (same_bytes name other same)) }
    first other kind false same e rest = later (rest e)

    go : (kind : MediumData) → l.config.kind ≡ kind → list_any (bytes_eq name) (name_in kind (file_names ls)) ≡ true → (is_named ls name ≡ true → IsNamedAt ls name) → IsNamedAt (l ∷ ls) name
    go (InMemory blocks) kind e rest = later (rest e)
    go (InFile other) kind e rest = first other kind (bytes_eq name other) refl e rest

-- where nothing is lost of a medium that shows its file, no block of its store is free
none_free : (m : MediumState) → m.below.lost ≡ empty_span → ShowsFile m → (xs : List ℕ) → zeroed m.below.store.free xs ≡ xs
none_free m e s xs = same_list _ _ (λ i. get_cleared m.below.store.free xs i ∙ ap (λ b. hidden b (slice_get xs i)) (away i))
  where
    away : (i : ℕ) → is_among m.below.store.free (i / 512) ≡ false
    away i =
        ⊎_elim
        (λ (t : is_among m.below.store.free (i / 512) ≡ true).
        let seen : lies_in m.below.lost i ≡ true = s.free i t in
        let hid : lies_in m.below.lost i ≡ false = rw e (grind arith) in
        absurd (false≢true (sym hid ∙ seen)))
        (λ (f : is_among m.below.store.free (i / 512) ≡ false). f)
        (cases_Bool (is_among m.below.store.free (i / 512)))

-- a medium that loses nothing leaves one content
one_content : (m : MediumState) (a b : Content) → LosesNothing m → ShowsFile m → IsLeftOf m a → IsLeftOf m b → a ≡ b
one_content m a b keeps shows p q =
    let hidden_same : zeroed m.below.store.free a.bytes ≡ zeroed m.below.store.free b.bytes = same_some _ _ (sym p.bytes ∙ q.bytes) in
    let bytes : a.bytes ≡ b.bytes = sym (none_free m keeps.lossless.lost shows a.bytes) ∙ hidden_same ∙ none_free m keeps.lossless.lost shows b.bytes in
    content_same a b bytes (p.calls ∙ sym q.calls) (p.syncs ∙ sym q.syncs)

one_place : (m : MediumState) (p q : Place) → LosesNothing m → ShowsFile m → Holds m p → Holds m q → q ≡ p
one_place m p q keeps shows h k = k.1 ∙ ap (λ (c : Content). at_home c) (one_content m k.0 h.0 keeps shows k.2 h.2) ∙ sym h.1

-- the device of each file shows it, behind its run as when it opened
abbrev ShowFiles : List DeviceLineData → List Device → Type 0
ShowFiles ls ds = EachFile ls (λ at name. (d : Device) → slice_get ds at ≡ Some d → ShowsFile d.medium)

opens_showing : (f : FilesState) (l : DeviceLineData) (d : Device) (name : List ℕ) → Opens (Some f) l d → l.config.kind ≡ InFile name → ShowsFile d.medium
opens_showing f l d name o kind =
    let x : OpensFile name (Some f) l.config o.0 = subst (λ (k : MediumData). OpensKind k (Some f) l.config o.0) kind o.1 in
    let store = x.told.2 in
    let m = opened_medium (x.store.size / 512) l.config.protected l.config.fails (file_below x.store.size x.store.bytes x.store.calls x.store.syncs) in
    let medium_is : d.medium ≡ m = ap (λ (y : Device). y.medium) o.2 ∙ x.medium in
    let size : x.store.size ≡ 512 * (x.store.size / 512) = omega (arith, x.whole) in
    let long : IfSome x.store.bytes (λ xs. length xs ≡ x.store.size) = rw store refl in
    let opened : ShowsFile m = record {
      layer = refl;
      size = size;
      long = long;
      ordered = omega arith;
      inside = omega arith;
      bytes = sym (blanked_none x.store.bytes);
      free = λ i e. absurd (false≢true e);
    } in
    subst ShowsFile (sym medium_is) opened
  where
    blanked_none : (o : Option (List ℕ)) → option_map (blanked empty_span) o ≡ o
    blanked_none None = refl
    blanked_none (Some xs) = refl

pub show_files : (f : FilesState) (ls : List DeviceLineData) (ds ends : List Device) (js : List Journaled) → OpenEach (Some f) ls ds → IsLegalEach Serves ds js ends → ShowFiles ls ends
show_files f ls ds ends js opens legal at l name e kind d' g =
    let x = open_at (Some f) ls ds at l opens e in
    runs_show_file x.0.medium d'.medium (device_runs x.0 d' (filter (is_of at) js) (legal at x.0 d' x.1 g)) (opens_showing f l x.0 name x.2 kind)

same_places : (ls : List DeviceLineData) (ends : List Device) (count : ℕ) (f g h : FilesState) → length ends ≡ length ls → Every (λ d. LosesNothing d.medium) ends
    → ShowFiles ls ends → Kept ls ends count f g → Kept ls ends count f h → (name : List ℕ) → h.places name ≡ g.places name
same_places ls ends count f g h all keeps shows p q name = go (is_named ls name) refl
  where
    go : (b : Bool) → is_named ls name ≡ b → h.places name ≡ g.places name
    go false e = q.others name e ∙ sym (p.others name e)
    go true e =
        let x = named_at ls name e in
        let d = get_within ends x.at (omega (arith, slice_get_within ls x.at x.line x.found, all)) in
        one_place d.0.medium (g.places name) (h.places name) (every_at (λ d. LosesNothing d.medium) ends x.at d.0 keeps d.1)
        (shows x.at x.line name x.found x.kind d.0 d.1)
        (p.named x.at x.line name x.found x.kind d.0 d.1) (q.named x.at x.line name x.found x.kind d.0 d.1)

same_files : (ls : List DeviceLineData) (ends : List Device) (f g h : FilesState) → length ends ≡ length ls → Every (λ d. LosesNothing d.medium) ends
    → ShowFiles ls ends → KeptFiles ls ends (Some f) (Some g) → KeptFiles ls ends (Some f) (Some h) → SameFiles g h × (h.fetches ≡ g.fetches)
same_files ls ends f g h all keeps shows p q =
    let count = (after_fetches (file_names ls) f).fetches in
    let first : Kept ls ends count f g = subst (λ (x : FilesState). Kept ls ends count f x) (sym (same_some g p.0 p.1)) p.2 in
    let other : Kept ls ends count f h = subst (λ (x : FilesState). Kept ls ends count f x) (sym (same_some h q.0 q.1)) q.2 in
    (record { places = same_places ls ends count f g h all keeps shows first other; fails = other.fails ∙ sym first.fails }, other.fetches ∙ sym first.fetches)

pub leaves_the_same_files : LeavesTheSameFiles
leaves_the_same_files f g h bytes t u s read none is it p q =
    let opened = one_opening f s.devices is.opened it.opened is.opens it.opens in
    let first = replays_entries Serves is.opened is.replay.ends s.lines is.replay.printed is.replay.replays in
    let other = replays_entries Serves it.opened it.replay.ends s.lines it.replay.printed it.replay.replays in
    let replays = subst (λ (x : List Device). ReplaysEach (Plays Serves) x s.lines (entries_printed is.replay.printed) is.replay.ends) opened first in
    let lose = lose_nothing f s.devices it.opened none it.opens in
    let one = one_replay it.opened s.lines (entries_printed is.replay.printed) (entries_printed it.replay.printed) is.replay.ends it.replay.ends lose replays other in
    let kept = subst (λ (x : List Device). KeptFiles s.devices x (Some f) (Some g)) one.1 p in
    same_files s.devices it.replay.ends f g h (devices_stay (Some f) bytes u s read it).ends one.2
    (show_files f s.devices it.opened it.replay.ends (entries_in it.replay.printed) it.opens (legal_entries Serves picture_of it.opened it.replay.printed it.replay.ends it.replay.legal)) kept q

-- ---- where calls of the stores fail, and nothing lost is read

is_told : (f : FilesState) (kind : MediumData) (c : ConfigData) (m : MediumState) → TellsFails f kind → OpensKind kind (Some f) c m → IsTold m
is_told f (InMemory blocks) c m tells h = subst IsTold (sym h) (record { own = refl; store = refl; bytes = refl })
is_told f (InFile name) c m tells h =
    let bytes = ap (λ (s : StoreState). is_some s.bytes) h.told.2 in
    let fails = ap (λ (s : StoreState). is_some s.calls.fails) h.told.2 ∙ tells h.told.0 h.told.1 in
    subst IsTold (sym h.medium) (record { own = refl; store = fails; bytes = bytes })

all_told : (f : FilesState) (ls : List DeviceLineData) (ds : List Device) → TellFails f ls → OpenEach (Some f) ls ds → Every (λ d. IsTold d.medium) ds
all_told f [] [] tell h = tt
all_told f [] (d ∷ ds) tell h = absurd h
all_told f (l ∷ ls) [] tell h = absurd h
all_told f (l ∷ ls) (d ∷ ds) tell h =
    (subst (λ (x : Device). IsTold x.medium) (sym h.0.2) (is_told f l.config.kind l.config h.0.0 tell.0 h.0.1), all_told f ls ds tell.1 h.1)

-- two replays have one text and one end, where a known one has the text of the first
record IsAlike (s : ScenarioData) (ds es : List Device) (t u : List ℕ) (is : IsReplayOf Serves picture_of s.devices ds s.lines t) (it : IsReplayOf Serves picture_of s.devices es s.lines u) : Type 0 where
  text : t ≡ u
  ends : is.ends ≡ it.ends

alike : (s : ScenarioData) (ds es : List Device) (t u : List ℕ) → Every (λ d. IsTold d.medium) ds → ds ≡ es → IsReplayOf ServesKnown picture_of s.devices ds s.lines t
    → (is : IsReplayOf Serves picture_of s.devices ds s.lines t) → (it : IsReplayOf Serves picture_of s.devices es s.lines u) → IsAlike s ds es t u is it
alike s ds es t u told same known is =
    subst (λ (x : List Device). (it : IsReplayOf Serves picture_of s.devices x s.lines u) → IsAlike s ds x t u is it) same (λ it.
    let mine = one_known_text picture_of s.devices s.lines ds t t told known is in
    let other = one_known_text picture_of s.devices s.lines ds t u told known it in
    record { text = other.text; ends = sym mine.ends ∙ other.ends })

texts_alike : (f : FilesState) (t u : List ℕ) (s : ScenarioData) → TellFails f s.devices → (is : IsTextOf (Some f) s t) → IsKnown (Some f) s t is → (it : IsTextOf (Some f) s u)
    → IsAlike s is.opened it.opened t u is.replay it.replay
texts_alike f t u s tell is known it =
    alike s is.opened it.opened t u (all_told f s.devices is.opened tell is.opens) (one_opening f s.devices is.opened it.opened is.opens it.opens) known is.replay it.replay

pub has_one_known_text : HasOneKnownText
has_one_known_text f s t u tell is known it = (texts_alike f t u s tell is known it).text

-- what stands where a medium over a file left it is determined but for what is lost
same_place_but : (m : MediumState) (p q : Place) → ShowsFile m → Holds m p → Holds m q → SamePlaceBut m.below.lost p q
same_place_but m p q shows h k = (
  h.0,
  k.0,
  h.1,
  k.1,
  record { bytes = holds_one m h.0.bytes k.0.bytes shows h.2.bytes k.2.bytes; calls = k.2.calls ∙ sym h.2.calls; syncs = k.2.syncs ∙ sym h.2.syncs },
)

same_files_but : (ls : List DeviceLineData) (ends : List Device) (f g h : FilesState) → ShowFiles ls ends → KeptFiles ls ends (Some f) (Some g) → KeptFiles ls ends (Some f) (Some h)
    → SameFilesBut ls ends g h
same_files_but ls ends f g h shows p q =
    let count = (after_fetches (file_names ls) f).fetches in
    let first : Kept ls ends count f g = subst (λ (x : FilesState). Kept ls ends count f x) (sym (same_some g p.0 p.1)) p.2 in
    let other : Kept ls ends count f h = subst (λ (x : FilesState). Kept ls ends count f x) (sym (same_some h q.0 q.1)) q.2 in
    record {
      named = λ at l name e kind d found.
          same_place_but d.medium (g.places name) (h.places name) (shows at l name e kind d found) (first.named at l name e kind d found) (other.named at l name e kind d found);
      others = λ name e. other.others name e ∙ sym (first.others name e);
      fails = other.fails ∙ sym first.fails;
      fetches = other.fetches ∙ sym first.fetches;
    }

pub leaves_the_known_files : LeavesTheKnownFiles
leaves_the_known_files f g h s t u tell is known it p q =
    let ends = (texts_alike f t u s tell is known it).ends in
    let kept = subst (λ (x : List Device). KeptFiles s.devices x (Some f) (Some h)) (sym ends) q in
    let shows =
    show_files f s.devices is.opened is.replay.ends (entries_in is.replay.printed) is.opens (legal_entries Serves picture_of is.opened is.replay.printed is.replay.ends is.replay.legal) in
    (ends, same_files_but s.devices is.replay.ends f g h shows p kept)
