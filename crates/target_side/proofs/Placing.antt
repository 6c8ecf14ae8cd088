-- What laying a command makes of its row, its blocks and the region.
use Rattle.std.proofs.Common.{◌≡◌, ℕ, ◌+◌, ◌*◌, ◌%◌, ◌≤◌, ◌<◌, eqb, cond, false, List, [], ◌∷◌, ◌++◌, ◌^◌, length, map, Option, Some, None, refl, sym, ap, ◌∙◌, arith, subst}
use Rattle.std.specs.List.{list_any}
use Rattle.std.specs.Option.{option_map}
use Rattle.std.proofs.lemmas.Bool.{eq-eqb, or_parts}
use Rattle.tcmu_types.specs.Data.{CommandData, SettingsData}
use Rattle.tcmu_types.specs.ByteFields.{le, put}
use Rattle.tcmu_types.specs.Overwriting.{zeros}
use Rattle.tcmu_types.specs.declared.dump.ItemKind.{ItemKind}
use Rattle.tcmu_types.specs.declared.dump.ItemKind.TheVariants as kind
use Rattle.tcmu_types.specs.Lists.{Every}
use Rattle.tcmu_types.specs.Numbers.{above_all, is_among}
use Rattle.tcmu_types.specs.Rules.{IsSettings, takes_payload}
use Rattle.tcmu_types.proofs.Firsts.{first-here, first_of_none}
use Rattle.tcmu_model.specs.Lengths.{block_size, tmr_length}
use Rattle.tcmu_model.proofs.FreeBlocks.{IsFree, least-are, length-least_free}
use Rattle.iovec_scatter.specs.Ends.{EachBelow}
use Rattle.cmd_ring.specs.declared.ring.Place.{Place}
use Rattle.region_model.specs.Areas.{written_along}
use Rattle.region_model.specs.Layout.{data_start, head_place, ring_start, tmr_bytes}
use Rattle.region_model.specs.Picture.{request_of}
use Rattle.region_model.specs.Pending.{PendingData}
use Rattle.region_model.specs.Regions.{RegionState, grown_to, size_of}
use Rattle.region_model.specs.Represents.{has_id}
use Rattle.region_model.specs.Sides.{PendingRow, TargetState}
use Rattle.region_model.specs.TargetSteps.{blocks_free, blocks_given, blocks_held, blocks_wanted, front_with, head_in, ids_of, length_in, need_in, pad_in, pads_of, place_in, region_laid}
use Rattle.ring_laws.specs.Calls.{IsFreeId}
use Rattle.target_table.specs.Rows.{command_of}
use Rattle.target_side.specs.declared.entrant.Entrant.{Entrant}
use Rattle.target_side.specs.declared.entries.Entries.{Entries}
use Rattle.target_side.specs.Adding.{Added, blocks_for_next, pending_of_entrant}
use Rattle.target_side.specs.Kept.{Fits}
use Rattle.target_side.specs.RingRecord.{RingRecord, SparedRing, head_of, need_of, pad_of, place_in_record}
use Rattle.target_side.specs.Entering.{IsEntrant}
use Rattle.target_side.specs.HeldRows.{HeldRows}
use Rattle.target_side.specs.Laid.{HasBlocks, HasOwnBlocks, IfHasBlocks, LaidAs, NotedAs, as_target, items_with, pending_for, region_written}
use Rattle.target_side.specs.Writing.{data_for, padded_at, with_padding}
use Rattle.target_side.proofs.Rows.{some_same}
use Rattle.target_side.proofs.Written.{front_same, noted}

-- ==== the row

entrant_fields : (h : HeldRows) (e : Entrant) (serial : ℕ) (init : List ℕ) (tag in_len : ℕ) (deadline : Option ℕ) (count : ℕ) (buffer : List ℕ) →
    e.serial ≡ serial → e.init ≡ init → e.tag ≡ tag → e.in_len ≡ in_len → e.deadline ≡ deadline → e.count ≡ count → e.buffer.items ≡ buffer →
    pending_of_entrant h e ≡ record { serial = serial; init = init; tag = tag; in_len = in_len; blocks = blocks_for_next h count; deadline = deadline; expired = false; buffer = buffer }
entrant_fields h e serial init tag in_len deadline count buffer a b c d f g i =
    ap (λ x. record (pending_of_entrant h e) { serial = x }) a
    ∙ (ap (λ x. record (pending_of_entrant h e) { serial = serial; init = x }) b
    ∙ (ap (λ x. record (pending_of_entrant h e) { serial = serial; init = init; tag = x }) c
    ∙ (ap (λ x. record (pending_of_entrant h e) { serial = serial; init = init; tag = tag; in_len = x }) d
    ∙ (ap (λ x. record (pending_of_entrant h e) { serial = serial; init = init; tag = tag; in_len = in_len; deadline = x }) f
    ∙ (ap (λ x. record (pending_of_entrant h e) { serial = serial; init = init; tag = tag; in_len = in_len; deadline = deadline; blocks = blocks_for_next h x }) g
    ∙ ap (λ x. record (pending_of_entrant h e) { serial = serial; init = init; tag = tag; in_len = in_len; deadline = deadline; blocks = blocks_for_next h count; buffer = x }) i)))))

pub entrant_pending : (s : Entries) (e : Entrant) (serial : ℕ) (deadline : Option ℕ) (c : CommandData) (count : ℕ) → IsEntrant e serial c deadline count → count ≡ blocks_wanted (as_target s) c →
    pending_of_entrant s.commands e ≡ pending_for (as_target s) serial deadline c
entrant_pending s e serial deadline c count h w =
    entrant_fields s.commands e serial c.init c.tag c.in_len deadline count (zeros c.in_len) h.serial h.init h.tag h.in_len h.deadline h.count h.buffer
    ∙ ap (λ n. record (pending_for (as_target s) serial deadline c) { blocks = blocks_for_next s.commands n }) w

not_among : (rows : List PendingRow) (id : ℕ) → list_any (has_id id) rows ≡ false → is_among (map (λ (e : PendingRow). e.id) rows) id ≡ false
not_among [] id h = refl
not_among (x ∷ rows) id h = let s = or_parts (eqb x.id id) (list_any (has_id id) rows) h in rw s.0 (not_among rows id s.1)

pub free_id : (t : TargetState) (id : ℕ) → 1 ≤ id → id ≤ 65535 → list_any (has_id id) t.rows ≡ false → IsFreeId t id
free_id t id low high h = record { range = record { low = low; high = high }; free = not_among t.rows id h }

-- ==== its blocks

each_below : (limit : ℕ) (bs : List ℕ) (held : List ℕ) → Every (IsFree held 0 (0 + limit)) bs → EachBelow limit bs
each_below limit [] held h = tt
each_below limit (b ∷ bs) held h = let f = h.0 in let k : b < 0 + limit = f.high_ in (omega (arith, k), each_below limit bs held h.1)

pub own_blocks : (s : Entries) (rows : List PendingRow) (e : PendingRow) (id : ℕ) (c : CommandData) (t : TargetState) → t.rows ≡ s.commands.rows ++ e ∷ [] → t.settings ≡ (as_target s).settings → e.id ≡ id →
    list_any (has_id id) s.commands.rows ≡ false → e.pending.blocks ≡ blocks_given (as_target s) c → blocks_wanted (as_target s) c ≤ blocks_free (as_target s) → length (blocks_held s.commands.rows) ≤ s.commands.limit →
    HasBlocks t id c (blocks_given (as_target s) c)
own_blocks s rows e id c t r q i f b w l =
    let t0 : TargetState = as_target s in
    let held : List ℕ = blocks_held t0.rows in
    record {
      row = ap (λ (xs : List PendingRow). option_map (λ (p : PendingData). p.blocks) (command_of xs id)) r
          ∙ (ap (λ (o : Option PendingRow). option_map (λ (p : PendingData). p.blocks) (option_map (λ (x : PendingRow). x.pending) o)) (first-here (has_id id) s.commands.rows e (eq-eqb e.id id i) (first_of_none (has_id id) s.commands.rows f)) ∙ ap Some b);
      count = length-least_free t0.settings.blocks held (blocks_wanted t0 c) (omega (arith, w, l)) ∙ ap (λ (z : SettingsData). blocks_wanted (record t0 { settings = z }) c) (sym q);
      below = subst (λ (z : SettingsData). EachBelow z.blocks (blocks_given t0 c)) (sym q) (each_below t0.settings.blocks (blocks_given t0 c) held (least-are t0.settings.blocks held (blocks_wanted t0 c)));
    }

-- the blocks of the command of an id
pub own_list : (t : TargetState) (id : ℕ) (c : CommandData) (own : HasOwnBlocks t id c) (p : PendingData) → Some p ≡ command_of t.rows id → p.blocks ≡ own.0
own_list t id c own p h = some_same p.blocks own.0 (ap (option_map (λ (q : PendingData). q.blocks)) h ∙ own.1.row)

-- the data area ends below 2^64
pub area_ends : (s : SettingsData) (start : ℕ) → IsSettings s → start ≡ data_start s.ring → start + block_size s.pages * s.blocks < 2 ^ 64
area_ends s start h e = let area = h.area in let high = h.ring.most in omega (arith, area, high, e)

-- ==== the region

-- what is written, after the area has grown, is what laying makes of the region
pub region_same : (r : RegionState) (t after : TargetState) (c : CommandData) (id : ℕ) (place : Place) → r.pages ≡ t.settings.pages → after.settings ≡ t.settings →
    place ≡ record { pad = cond (eqb (pad_in t (length_in t c)) 0) None (Some (pad_in t (length_in t c))); pad_at = head_in t; at = place_in t (length_in t c) } →
    head_in after ≡ (head_in t + need_in t (length_in t c)) % t.settings.ring →
    region_written (grown_to r (above_all (blocks_given t c))) after place id c (blocks_given t c) ≡ region_laid r t c id
unfolding region_laid
region_same r t after c id place p s q e =
    let bs : List ℕ = blocks_given t c in
    let n : ℕ = length_in t c in
    let g : RegionState = grown_to r (above_all bs) in
    let a : region_written g after place id c bs ≡ record g {
      front = front_with r.front t n (request_of t.settings bs (place_in t n) id c);
      blocks = written_along (size_of r) g.blocks bs (data_for (size_of r) c (length bs));
    } =
    ap (λ (x : Place). region_written g after x id c bs) q
    ∙ (ap (λ (z : SettingsData). record g {
      front = put (put (padded r t n) (ring_start + place_in t n) (request_of z bs (place_in t n) id c)) head_place (le 4 (head_in after));
      blocks = written_along (size_of r) g.blocks bs (data_for (size_of r) c (length bs));
    }) s
    ∙ ap (λ xs. record g { front = xs; blocks = written_along (size_of r) g.blocks bs (data_for (size_of r) c (length bs)) }) (front_same r.front t n (request_of t.settings bs (place_in t n) id c) (head_in after) e)) in
    a ∙ ap (λ k. record g {
      front = front_with r.front t n (request_of t.settings bs (place_in t n) id c);
      blocks = written_along (size_of r) g.blocks bs (cond (takes_payload c.cdb) c.sent (zeros (block_size k * length bs)));
    }) p
  where
    padded : RegionState → TargetState → ℕ → List ℕ
    padded r t n = padded_at r.front (head_in t) (cond (eqb (pad_in t n) 0) None (Some (pad_in t n)))

-- ==== all of it

abbrev build : ℕ → HeldRows → RingRecord → TargetState
build pages h p =
    record {
      settings = record { ring = p.size; blocks = h.limit; flags = record { ooo = false; read_len = false; tmr = false }; timeout = 0; qfull = 0; pages = pages };
      now = 0;
      blocked = false;
      accepted = 0;
      rows = h.rows;
      delayed = [];
      items = p.items;
      cleaned = p.cleaned;
      laid = 0;
      cleared = 0;
      broken = None;
      log = [];
    }

-- an item of n bytes comes to lie at a place, behind padding where that is needed
pub record Lays (p : RingRecord) (k : ItemKind) (n : ℕ) (place : Place) (after : RingRecord) : Type 0 where
  pub ring : after ≡ record p { items = p.items ++ pads_of (pad_of p n) ++ record { kind = k; len = n } ∷ [] }
  pub laid_at : place ≡ place_in_record p n
  pub head : head_of after ≡ (head_of p + need_of p n) % p.size

-- the same, where the ring and the length are known up to equations
pub lays : (p q after : RingRecord) (k : ItemKind) (n m : ℕ) (place : Place) → q ≡ p → m ≡ n → place ≡ place_in_record q m → after ≡ record q { items = q.items ++ pads_of (pad_of q m) ++ record { kind = k; len = m } ∷ [] } →
    head_of after ≡ (head_of q + need_of q m) % q.size → Lays p k n place after
lays p q after k n m place e l at is head =
    subst (λ (x : RingRecord). Lays x k n place after) e
    (subst (λ (x : ℕ). Lays q k x place after) l (record { ring = is; laid_at = at; head = head }))

-- a command that is added, whose item is laid
pub record Adds (e e' : Entries) (ent : Entrant) (id : ℕ) (place : Place) (c : CommandData) : Type 0 where
  pub added : Added e.commands ent id e'.commands
  pub ring : e'.places.ring ≡ record e.places.ring { items = items_with (as_target e) kind.Cmd (length_in (as_target e) c) }
  pub pages : e'.pages ≡ e.pages
  pub laid_at : place ≡ place_in_record e.places.ring (length_in (as_target e) c)
  pub head : head_of e'.places.ring ≡ (head_of e.places.ring + need_of e.places.ring (length_in (as_target e) c)) % e.places.ring.size

pub adds : (e : Entries) (added : HeldRows) (laid : SparedRing) (ent : Entrant) (id : ℕ) (place : Place) (c : CommandData) → Added e.commands ent id added → Lays e.places.ring kind.Cmd (length_in (as_target e) c) place laid.ring →
    Adds e (record { pages = e.pages; commands = added; places = laid }) ent id place c
adds e added laid ent id place c a l = record { added = a; ring = l.ring; pages = refl; laid_at = l.laid_at; head = l.head }

-- the entrant has as many blocks as its command needs
pub is_entrant : (ent : Entrant) (s : ℕ) (c : CommandData) (due : Option ℕ) (n m : ℕ) → n ≡ m → IsEntrant ent s c due n → IsEntrant ent s c due m
is_entrant ent s c due n m e h = subst (IsEntrant ent s c due) e h

rows_of : (e e' : Entries) (ent : Entrant) (id : ℕ) (place : Place) (serial : ℕ) (deadline : Option ℕ) (c : CommandData) → Adds e e' ent id place c → IsEntrant ent serial c deadline (blocks_wanted (as_target e) c) →
    e'.commands ≡ record e.commands { rows = e.commands.rows ++ record { id = id; pending = pending_for (as_target e) serial deadline c } ∷ [] }
rows_of e e' ent id place serial deadline c a i =
    a.added.rows ∙ ap (λ (p : PendingData). record e.commands { rows = e.commands.rows ++ record { id = id; pending = p } ∷ [] }) (entrant_pending e ent serial deadline c (blocks_wanted (as_target e) c) i refl)

pub entries_laid : (e e' : Entries) (ent : Entrant) (id : ℕ) (place : Place) (serial : ℕ) (deadline : Option ℕ) (c : CommandData) → Adds e e' ent id place c → IsEntrant ent serial c deadline (blocks_wanted (as_target e) c) →
    as_target e' ≡ record (as_target e) {
      rows = e.commands.rows ++ record { id = id; pending = pending_for (as_target e) serial deadline c } ∷ [];
      items = items_with (as_target e) kind.Cmd (length_in (as_target e) c);
    }
entries_laid e e' ent id place serial deadline c a i =
    ap (λ n. build n e'.commands e'.places.ring) a.pages
    ∙ (ap (λ h. build e.pages h e'.places.ring) (rows_of e e' ent id place serial deadline c a i)
    ∙ ap (λ p. build e.pages (record e.commands { rows = e.commands.rows ++ record { id = id; pending = pending_for (as_target e) serial deadline c } ∷ [] }) p) a.ring)

-- the command has its blocks under its id
pub adds_blocks : (e e' : Entries) (ent : Entrant) (id : ℕ) (place : Place) (serial : ℕ) (deadline : Option ℕ) (c : CommandData) → Adds e e' ent id place c → IsEntrant ent serial c deadline (blocks_wanted (as_target e) c) →
    blocks_wanted (as_target e) c ≤ blocks_free (as_target e) → length (blocks_held e.commands.rows) ≤ e.commands.limit → HasBlocks (as_target e') id c (blocks_given (as_target e) c)
adds_blocks e e' ent id place serial deadline c a i w l =
    let t = entries_laid e e' ent id place serial deadline c a i in
    own_blocks e e.commands.rows (record { id = id; pending = pending_for (as_target e) serial deadline c }) id c (as_target e') (ap (λ (x : TargetState). x.rows) t) (ap (λ (x : TargetState). x.settings) t) refl a.added.fresh refl w l

pub laid_as : (r r' : RegionState) (e e' : Entries) (ent : Entrant) (id : ℕ) (place : Place) (serial : ℕ) (deadline : Option ℕ) (c : CommandData) → Fits r (as_target e) → Adds e e' ent id place c → IsEntrant ent serial c deadline (blocks_wanted (as_target e) c) →
    blocks_wanted (as_target e) c ≤ blocks_free (as_target e) → length (blocks_held e.commands.rows) ≤ e.commands.limit →
    IfHasBlocks (as_target e') id (λ blocks. r' ≡ region_written (grown_to r (above_all (blocks_for_next e.commands ent.count))) (as_target e') place id c blocks) →
    LaidAs r (as_target e) serial deadline c id r' (as_target e')
laid_as r r' e e' ent id place serial deadline c f a i w l written =
    let t = entries_laid e e' ent id place serial deadline c a i in
    let bs : List ℕ = blocks_given (as_target e) c in
    let own : HasBlocks (as_target e') id c bs = adds_blocks e e' ent id place serial deadline c a i w l in
    record {
      target = t;
      region = written bs own.row
          ∙ (ap (λ n. region_written (grown_to r (above_all (blocks_for_next e.commands n))) (as_target e') place id c bs) i.count
          ∙ region_same r (as_target e) (as_target e') c id place f.pages (ap (λ (x : TargetState). x.settings) t) a.laid_at a.head);
      free = free_id (as_target e) id a.added.low a.added.high a.added.fresh;
    }

-- a note, whose item is laid
pub noted_as : (r r1 r2 r3 : RegionState) (e : Entries) (laid : SparedRing) (place : Place) (type_ : ℕ) (ids ss : List ℕ) (head : ℕ) → Lays e.places.ring kind.Tmr (tmr_length (length ss)) place laid.ring →
    r1 ≡ record r { front = with_padding r.front place } → r2 ≡ record r1 { front = put r1.front (ring_start + place.at) (tmr_bytes type_ ids) } → r3 ≡ record r2 { front = put r2.front head_place (le 4 head) } →
    head ≡ head_of laid.ring → ids ≡ ids_of e.commands.rows ss → NotedAs r (as_target e) type_ ss r3 (as_target (record { pages = e.pages; commands = e.commands; places = laid }))
noted_as r r1 r2 r3 e laid place type_ ids ss head l a b d h i =
    record {
      target = ap (λ p. build e.pages e.commands p) l.ring;
      region = noted r r1 r2 r3 (as_target e) place (tmr_length (length ss)) type_ ids (ids_of e.commands.rows ss) head a b d l.laid_at (h ∙ l.head) i;
    }
