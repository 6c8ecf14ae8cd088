-- A command is laid: the ring stands.
use Rattle.std.proofs.Common.{◌≡◌, ℕ, ◌+◌, ◌*◌, ◌%◌, ◌^◌, ◌≤◌, ◌<◌, cond, List, [], ◌∷◌, ◌++◌, length, take, refl, sym, ap, ◌∙◌, arith, None, slice_get, length-take, subst, eqb}
use Rattle.std.proofs.lemmas.Bool.{eq-eqb}
use Rattle.std.proofs.lemmas.List.{take_at}
use Rattle.std.proofs.lemmas.List.Sums.{sum_by-append, sum_by-take-le}
use Rattle.std.proofs.lemmas.Option.{slice_get_past}
use Rattle.tcmu_types.specs.Data.{CommandData, SettingsData}
use Rattle.tcmu_types.specs.Rules.{payload_length}
use Rattle.tcmu_types.specs.declared.dump.ItemKind.TheVariants as kind
use Rattle.tcmu_types.specs.Lists.{Every}
use Rattle.tcmu_model.specs.Lengths.{blocks_of, block_size, entry_length}
use Rattle.tcmu_model.specs.RingState.{RingState, Item, Laid, lengths, head, used, free, need, pads, with_item, commands_in, is_command, serials_in, serial_in, dispatched_commands}
use Rattle.tcmu_model.specs.RingState as ring
use Rattle.tcmu_model.specs.Device.{Unfinished, DeviceState, has_serial}
use Rattle.tcmu_model.specs.BlockLists.{Taken, list_of, held_by, least_free, blocks_taken, with_taken}
use Rattle.region_model.specs.Layout.{data_start}
use Rattle.region_model.specs.Picture.{place_of, item_bytes, entry_of, request_of, ids_named}
use Rattle.region_model.specs.Sides.{Recorded, TargetState}
use Rattle.region_model.specs.Represents.{RingStands, recorded, id_in, ids_in, TargetKeeps}
use Rattle.region_model.specs.TargetSteps.{pads_of, head_in, pad_in, need_in, blocks_given, place_in, length_in, front_with, region_laid, target_laid}
use Rattle.tcmu_model.specs.Events.{waiting}
use Rattle.region_model.specs.Iovecs.{iovs_along}
use Rattle.region_model.specs.Regions.{RegionState}
use Rattle.tcmu_model.specs.Sound.{IsSound}
use Rattle.tcmu_model.proofs.Facts.{placed_dispatched}
use Rattle.tcmu_model.proofs.Basics.{placed_every}
use Rattle.tcmu_types.proofs.Everies.{every_at}
use Rattle.tcmu_model.specs.Owned.{ListsSound, HasRoom}
use Rattle.ring_laws.proofs.Layouts.{add-mod, id_of_request}
use Rattle.ring_laws.specs.Placed.{HoldsItems}
use Rattle.ring_laws.proofs.SoundRing.{holds}
use Rattle.ring_laws.proofs.Places.{lengths_to_new}
use Rattle.tcmu_model.proofs.LaidItems.{laid_with, serial_at}
use Rattle.ring_laws.proofs.laid.LaidEntry.{laid_in, entered}
use Rattle.ring_laws.proofs.laid.RingLaid.{SameItems, ring-laid}
use Rattle.ring_laws.proofs.Agree.{Agrees, agrees, blocks-same}
use Rattle.region_model.proofs.PartLengths.{length-iovs, length-request}
use Rattle.tcmu_model.proofs.ListsLaid.{not_below, unlisted, cmd_item, with_waiting}
use Rattle.tcmu_types.proofs.Firsts.{first-append, first-here}

-- ==== what is laid

pub same_items : (d : DeviceState) (lists : List Taken) (s : ℕ) (c : CommandData) → IsSound d → Every (λ k. k < s) (serials_in d.ring.laid) →
    SameItems d (laid_in d (cmd_item d s c) (with_waiting d s c)) lists (with_taken d lists s c)
same_items d lists s c sound above =
    record {
      settings = refl;
      size = refl;
      placed = refl;
      found = λ k q h. first-append (has_serial q) d.unfinished (waiting d s c) (not_below s q (every_at (λ (n : ℕ). n < s) d.placed k q (placed_every (λ (n : ℕ). n < s) d sound.answers above) h));
      listed = λ i n q c' cl h. ap blocks_taken (first-append (λ (t : Taken). eqb t.serial q) lists (record { serial = s; blocks = least_free d.settings.blocks (held_by lists d.unfinished) (blocks_of d.settings.pages c) })
          (not_below s q (serial_at (λ (n : ℕ). n < s) d.ring.laid i n q c' above h)));
    }

entered-same : (front : List ℕ) (a a' b b' c c' e e' : ℕ) (x x' : List ℕ) → a ≡ a' → b ≡ b' → c ≡ c' → e ≡ e' → x ≡ x' → entered front a b c e x ≡ entered front a' b' c' e' x'
entered-same front a a' b b' c c' e e' x x' p q r s y =
    ap (λ z. entered front z b c e x) p ∙ ap (λ z. entered front a' z c e x) q ∙ ap (λ z. entered front a' b' z e x) r ∙ ap (λ z. entered front a' b' c' z x) s ∙ ap (λ z. entered front a' b' c' e' z) y

-- where the target lays an item, and what stands there then
pub place_same : (t : TargetState) (d : DeviceState) (n : ℕ) → Agrees t d → place_in t n ≡ (lengths d.ring.laid + ring.pad d.ring n) % d.ring.size
place_same t d n g =
    ap (λ z. (head_in t + pad_in t n) % z) g.size ∙ ap (λ z. (z + pad_in t n) % d.ring.size) g.head
    ∙ ap (λ z. (head d.ring + z) % d.ring.size) (g.pad n) ∙ add-mod (lengths d.ring.laid) (ring.pad d.ring n) d.ring.size

pub front_same : (front : List ℕ) (t : TargetState) (d : DeviceState) (n : ℕ) (bytes : List ℕ) → Agrees t d →
    front_with front t n bytes ≡ entered front (head d.ring) (ring.pad d.ring n) ((lengths d.ring.laid + ring.pad d.ring n) % d.ring.size) ((lengths d.ring.laid + ring.pad d.ring n + n) % d.ring.size) bytes
unfolding front_with
front_same front t d n bytes g =
    let p : ℕ = ring.pad d.ring n in
    let moved : (head_in t + need_in t n) % t.settings.ring ≡ (lengths d.ring.laid + p + n) % d.ring.size =
    ap (λ z. (head_in t + need_in t n) % z) g.size
    ∙ ap (λ z. (z + need_in t n) % d.ring.size) g.head
    ∙ ap (λ z. (head d.ring + (z + n)) % d.ring.size) (g.pad n)
    ∙ add-mod (lengths d.ring.laid) (p + n) d.ring.size
    ∙ (let q : lengths d.ring.laid + (p + n) ≡ lengths d.ring.laid + p + n = omega arith in ap (λ z. z % d.ring.size) q) in
    entered-same front (head_in t) (head d.ring) (pad_in t n) p (place_in t n) ((lengths d.ring.laid + p) % d.ring.size) ((head_in t + need_in t n) % t.settings.ring) ((lengths d.ring.laid + p + n) % d.ring.size) bytes bytes
    g.head (g.pad n) (place_same t d n g) moved refl

-- an item for which there is room is no longer than the ring
pub within_ring : (d : DeviceState) (c : CommandData) → HasRoom d c → entry_length d.settings.pages c ≤ d.ring.size
within_ring d c room = let k : 2 * entry_length d.settings.pages c ≤ d.ring.size = room.small in omega arith

pub commands-append : (xs ys : List Item) → commands_in (xs ++ ys) ≡ commands_in xs + commands_in ys
commands-append xs ys = sum_by-append (λ x. cond (is_command x) 1 0) xs ys

commands_within : (n : ℕ) (xs : List Item) → commands_in (take n xs) ≤ commands_in xs
commands_within n xs = sum_by-take-le (λ x. cond (is_command x) 1 0) xs n

-- what is written for a command that is laid
pub record LaidCommand (r : RegionState) (t : TargetState) (d : DeviceState) (lists : List Taken) (s : ℕ) (c : CommandData) (id : ℕ) : Type 0 where
  pub bytes : List ℕ
  pub len : length bytes ≡ entry_length d.settings.pages c
  pub id_is : id_in bytes ≡ id
  pub none : slice_get d.placed (commands_in (take (length (d.ring.laid ++ pads (ring.pad d.ring (entry_length d.settings.pages c)))) (laid_with d.ring (cmd_item d s c)))) ≡ None
  pub front : (region_laid r t c id).front ≡ entered r.front (head d.ring) (ring.pad d.ring (entry_length d.settings.pages c)) ((lengths d.ring.laid + ring.pad d.ring (entry_length d.settings.pages c)) % d.ring.size) ((lengths d.ring.laid + ring.pad d.ring (entry_length d.settings.pages c) + entry_length d.settings.pages c) % d.ring.size) bytes
  pub stands : RingStands (region_laid r t c id).front (target_laid t s c id).items (laid_in d (cmd_item d s c) (with_waiting d s c)) (with_taken d lists s c)

pub laid_command : (r : RegionState) (t : TargetState) (d : DeviceState) (lists : List Taken) (s : ℕ) (c : CommandData) (id : ℕ) →
    IsSound d → ListsSound d lists → RingStands r.front t.items d lists → TargetKeeps t d lists → HasRoom d c → id < 2 ^ 16 → Every (λ k. k < s) (serials_in d.ring.laid) → Every (λ (l : Taken). l.serial < s) lists →
    LaidCommand r t d lists s c id
unfolding region_laid target_laid
laid_command r t d lists s c id sound owned shape keeps room small_id above fresh =
    let g : Agrees t d = agrees r.front t d lists shape keeps sound.ring.size in
    let hold : HoldsItems d.ring = holds d sound in
    let pages : ℕ = d.settings.pages in
    let n : ℕ = entry_length pages c in
    let p : ℕ = ring.pad d.ring n in
    let lists' = with_taken d lists s c in
    let it : Item = cmd_item d s c in
    let us' : List Unfinished = with_waiting d s c in
    let at : ℕ = (lengths d.ring.laid + p) % d.ring.size in
    let bytes : List ℕ = request_of d.settings (list_of lists' s) at id c in
    let j : ℕ = length (d.ring.laid ++ pads p) in
    let free0 : List ℕ = least_free d.settings.blocks (held_by lists d.unfinished) (blocks_of pages c) in
    let lb : list_of lists' s ≡ free0 = ap blocks_taken (first-here (λ (l : Taken). eqb l.serial s) lists (record { serial = s; blocks = free0 }) (eq-eqb s s refl) (unlisted lists s fresh)) in
    let lbl : length (list_of lists' s) ≤ blocks_of pages c = let q : length (list_of lists' s) ≡ length free0 = ap length lb in omega (arith, q, length-take {A = ℕ}) in
    let es = iovs_along (data_start d.settings.ring) (block_size pages) (list_of lists' s) (payload_length c) in
    let esl : length es ≤ length (list_of lists' s) = length-iovs (data_start d.settings.ring) (block_size pages) (list_of lists' s) (payload_length c) in
    let len : length bytes ≡ n = length-request at id (blocks_of pages c) es c.cdb (omega arith) in
    let ids : id_in bytes ≡ id = id_of_request at id (blocks_of pages c) es c.cdb small_id in
    let place : place_of (with_item d.ring it) j ≡ at = ap (λ z. z % d.ring.size) (lengths_to_new d.ring it) in
    let k : ℕ = commands_in (take j (laid_with d.ring it)) in
    let k0 : k ≡ commands_in (d.ring.laid ++ pads p) = ap commands_in (take_at (d.ring.laid ++ pads p) (it ∷ []) j refl) in
    let k1 : commands_in (d.ring.laid ++ pads p) ≡ commands_in d.ring.laid + commands_in (pads p) = commands-append d.ring.laid (pads p) in
    let k2 : commands_in (take d.ring.dispatched d.ring.laid) ≤ commands_in d.ring.laid = commands_within d.ring.dispatched d.ring.laid in
    let owed : length d.placed ≤ commands_in (take d.ring.dispatched d.ring.laid) = placed_dispatched d sound in
    let none : slice_get d.placed k ≡ None = slice_get_past d.placed k (omega (arith, k0, k1, k2, owed)) in
    let e : DeviceState = laid_in d it us' in
    let nb : bytes ≡ item_bytes e lists' j (id_in bytes) (ids_in (ids_named it) 32 bytes) it =
    sym (ap (entry_of e (id_in bytes) (request_of d.settings (list_of lists' s) (place_of (with_item d.ring it) j) (id_in bytes) c)) none
    ∙ ap (λ z. request_of d.settings (list_of lists' s) z (id_in bytes) c) place ∙ ap (λ z. request_of d.settings (list_of lists' s) at z c) ids) in
    let c0 : d.ring.cleared ≤ d.ring.published = sound.ring.cleared in
    let c1 : d.ring.published ≤ d.ring.dispatched = sound.ring.published in
    let c2 : d.ring.dispatched ≤ length d.ring.laid = sound.ring.dispatched in
    let all : RingStands (entered r.front (head d.ring) p at ((lengths d.ring.laid + p + n) % d.ring.size) bytes) (t.items ++ pads_of p ++ recorded it ∷ []) e lists' =
    ring-laid r.front t.items d lists lists' it us' bytes shape hold (omega (arith, c0, c1, c2)) (omega (arith, c1, c2))
    room.fits (within_ring d c room) (let m : 112 ≤ n = omega arith in omega arith) (same_items d lists s c sound above) len nb in
    let n' : ℕ = length_in t c in
    let nt : n' ≡ n = ap (λ (z : SettingsData). entry_length z.pages c) keeps.settings in
    let pt : pad_in t n' ≡ p = ap (pad_in t) nt ∙ g.pad n in
    let by0 : request_of t.settings (blocks_given t c) (place_in t n) id c ≡ bytes =
    ap (λ z. request_of t.settings (blocks_given t c) z id c) (place_same t d n g)
    ∙ ap (λ z. request_of z (blocks_given t c) at id c) keeps.settings
    ∙ ap (λ z. request_of d.settings z at id c) (blocks-same t d lists c keeps ∙ sym lb) in
    let fr : (region_laid r t c id).front ≡ entered r.front (head d.ring) p at ((lengths d.ring.laid + p + n) % d.ring.size) bytes =
    ap (λ z. front_with r.front t z (request_of t.settings (blocks_given t c) (place_in t z) id c)) nt ∙ ap (front_with r.front t n) by0 ∙ front_same r.front t d n bytes g in
    let it0 : (target_laid t s c id).items ≡ t.items ++ pads_of p ++ recorded it ∷ [] =
    ap (λ z. t.items ++ pads_of z ++ (record { kind = kind.Cmd; len = n' }) ∷ []) pt
    ∙ ap (λ z. t.items ++ pads_of p ++ (record { kind = kind.Cmd; len = z }) ∷ []) nt in
    record {
      bytes = bytes;
      len = len;
      id_is = ids;
      none = none;
      front = fr;
      stands =
          subst (λ (f : List ℕ). RingStands f (target_laid t s c id).items e lists') (sym fr)
          (subst (λ (is : List Recorded). RingStands (entered r.front (head d.ring) p at ((lengths d.ring.laid + p + n) % d.ring.size) bytes) is e lists') (sym it0) all);
    }
