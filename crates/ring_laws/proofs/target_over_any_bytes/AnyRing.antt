-- The target's record of the ring over any bytes: what is laid stands whole in the ring, and the bytes before the data area stay as many.
use Rattle.std.proofs.Common.{◌≡◌, ◌≢◌, ℕ, ◌+◌, ◌-◌, ◌%◌, ◌<◌, ◌≤◌, Bool, true, false, cond, eqb, ltb, List, [], ◌∷◌, ◌++◌, length, Option, Some, None, refl, sym, ap, ◌∙◌, arith, subst, ⊎_elim, length-take}
use Rattle.std.specs.List.{sum_by}
use Rattle.std.proofs.Math.Nat.{mod-eq_of_lt, mod_self}
use Rattle.std.proofs.lemmas.Bool.{cases_Bool, eqb-true, ltb-false, leb-true}
use Rattle.std.proofs.lemmas.List.Sums.{sum_by-cons, sum_by-append}
use Rattle.tcmu_types.specs.Data.{CommandData, SettingsData}
use Rattle.tcmu_types.specs.Rules.{IsSettings, payload_length}
use Rattle.tcmu_types.specs.declared.answer.Submit.{Submit}
use Rattle.tcmu_types.specs.declared.answer.Submit.TheVariants as submit
use Rattle.tcmu_types.specs.declared.answer.Enter.{Enter}
use Rattle.tcmu_types.specs.declared.answer.Enter.TheVariants as enter
use Rattle.tcmu_types.specs.declared.answer.Tmr.{Tmr}
use Rattle.tcmu_types.specs.declared.answer.Tmr.TheVariants as tmr
use Rattle.tcmu_types.specs.declared.dump.ItemKind.{ItemKind}
use Rattle.tcmu_types.specs.declared.dump.ItemKind.TheVariants as kind
use Rattle.region_model.specs.declared.entry.Response.{Response}
use Rattle.tcmu_types.specs.Lists.{first_of, Every}
use Rattle.tcmu_model.specs.Lengths.{block_size, blocks_of, tmr_length}
use Rattle.tcmu_model.specs.Device.{Delayed}
use Rattle.tcmu_model.specs.BlockLists.{free_from}
use Rattle.region_model.specs.Layout.{tmr_bytes, data_start, head_place, tail_place}
use Rattle.tcmu_types.specs.ByteFields.{le, put}
use Rattle.region_model.specs.Regions.{RegionState, opening_region}
use Rattle.region_model.specs.Picture.{command_iovs, request_of}
use Rattle.region_model.specs.Sides.{PendingRow, Recorded, TargetState}
use Rattle.region_model.specs.Represents.{has_id, row_has}
use Rattle.region_model.specs.TargetSteps.{opening_target, used_in, head_in, free_in, pad_in, need_in, fits_in, length_in, blocks_held, blocks_given, blocks_wanted, place_in, front_with, pads_of, with_recorded, region_laid, target_laid, id_or_zero, ids_of, unknown_in, target_submit_answer, target_submitted, region_submitted, target_enter_answer, first_entered, region_with_first, target_entered, region_entered, target_tmr_answer, target_noted, region_noted, target_ticked, target_blocked}
use Rattle.region_model.specs.TargetCleans.{tail_read, tail_fits, past, answered_by, response_in, one_cleaned, unless_broken, all_cleaned, target_cleaned, target_reset, region_reset}
use Rattle.tcmu_types.proofs.Everies.{every-append}
use Rattle.tcmu_types.proofs.ByteFields.{length-le, length-put}
use Rattle.tcmu_model.proofs.SoundLaying.{entry_even, tmr_sizes}
use Rattle.ring_laws.specs.Calls.{TargetCall, Submits, Enters, Notes, Ticks, Blocks, Cleans, Resets, CallMade, Called, TargetSound, target_called}
use Rattle.ring_laws.specs.CalledOn.{region_called, CalledOn}
use Rattle.ring_laws.specs.RingKept.{IsPlace, RingKept}
use Rattle.ring_laws.proofs.laid.LaidEntry.{length-entered}
use Rattle.std.proofs.lemmas.List.{length-map}
use Rattle.ring_laws.proofs.target_over_any_bytes.AnyCalls.{Told, told, ToldFirst, told_first, sound_opened, sound_called}
use Rattle.ring_laws.proofs.target_over_any_bytes.AnySettings.{one_same, called_same}
use Rattle.ring_laws.proofs.user_over_any_bytes.AnyNext.{next_place}
use Rattle.region_model.proofs.PartLengths.{length-iovs, length-note, length-opening, length-request}
use Rattle.ring_laws.proofs.cleaned.CleanedRing.{front_cleaned}

pub ring_opened : (s : SettingsData) → IsSettings s → RingKept (opening_target s)
unfolding opening_target
ring_opened s h = let low : 4096 ≤ s.ring = h.ring.least in record { cleaned = record { below = omega (arith, low); aligned = refl }; items = tt; used = omega (arith, low) }

opened_settings : (s : SettingsData) → (opening_target s).settings ≡ s
unfolding opening_target
opened_settings s = refl

-- ==== where an item is laid

pub record Laid (t : TargetState) (n : ℕ) : Type 0 where
  pub pad_room : head_in t + pad_in t n ≤ t.settings.ring
  pub whole : place_in t n + n ≤ t.settings.ring
  pub least : pad_in t n ≢ 0 → 8 ≤ pad_in t n
  pub even : pad_in t n % 8 ≡ 0

laid_at : (ring hd n : ℕ) → hd < ring → ring % 8 ≡ 0 → hd % 8 ≡ 0 → n ≤ ring → let pad : ℕ = cond (ltb (ring - hd) n) (ring - hd) 0 in
    (hd + pad ≤ ring) × ((hd + pad) % ring + n ≤ ring) × (pad ≢ 0 → 8 ≤ pad) × (pad % 8 ≡ 0)
laid_at ring hd n l e f m =
    ⊎_elim
    (λ (z : ltb (ring - hd) n ≡ true).
    let q : hd + (ring - hd) ≡ ring = omega (arith, l) in
    let w : (hd + (ring - hd)) % ring ≡ 0 = ap (λ k. k % ring) q ∙ mod_self ring in
    rw z (omega (arith, q), omega (arith, w, m), λ some. omega (arith, l, e, f), omega (arith, l, e, f)))
    (λ (z : ltb (ring - hd) n ≡ false).
    let k : n ≤ ring - hd = ltb-false (ring - hd) n z in
    let w : (hd + 0) % ring ≡ hd = (let q : hd + 0 ≡ hd = omega arith in ap (λ k. k % ring) q ∙ mod-eq_of_lt l) in
    rw z (omega (arith, l), omega (arith, w, k, l), λ some. absurd (some refl), refl))
    (cases_Bool (ltb (ring - hd) n))

pub sum_even : (xs : List Recorded) → Every (λ (x : Recorded). x.len % 8 ≡ 0) xs → sum_by (λ (x : Recorded). x.len) xs % 8 ≡ 0
sum_even [] h = refl
sum_even (x ∷ xs) h = let a : x.len % 8 ≡ 0 = h.0 in omega (arith, sum_by-cons (λ (y : Recorded). y.len) x xs, a, sum_even xs h.1)

head_place_of : (t : TargetState) → IsSettings t.settings → RingKept t → IsPlace t.settings.ring (head_in t)
head_place_of t s h =
    let a : t.cleaned % 8 ≡ 0 = h.cleaned.aligned in
    let b : used_in t % 8 ≡ 0 = sum_even t.items h.items in
    next_place t.settings.ring (t.cleaned + used_in t) s.ring.least s.ring.pages (omega (arith, a, b))

pub laid_within : (t : TargetState) (n : ℕ) → IsSettings t.settings → RingKept t → fits_in t n ≡ true → Laid t n
laid_within t n s h f =
    let p : IsPlace t.settings.ring (head_in t) = head_place_of t s h in
    let pages : t.settings.ring % 4096 ≡ 0 = s.ring.pages in
    let fit : need_in t n ≤ free_in t = leb-true (need_in t n) (free_in t) f in
    let few : n ≤ t.settings.ring = omega (arith, fit) in
    let k = laid_at t.settings.ring (head_in t) n p.below (omega (arith, pages)) p.aligned few in
    record { pad_room = k.0; whole = k.1; least = k.2; even = k.3 }

-- ==== an item more

sum_pads : (n : ℕ) → sum_by (λ (x : Recorded). x.len) (pads_of n) ≡ n
sum_pads n =
    ⊎_elim
    (λ (z : eqb n 0 ≡ true). rw z (sym (eqb-true n 0 z)))
    (λ (z : eqb n 0 ≡ false). rw z (sum_by-cons (λ (x : Recorded). x.len) (record { kind = kind.Pad; len = n }) [] ∙ (let q : n + 0 ≡ n = omega arith in q)))
    (cases_Bool (eqb n 0))

pads_even : (n : ℕ) → n % 8 ≡ 0 → Every (λ (x : Recorded). x.len % 8 ≡ 0) (pads_of n)
pads_even n h =
    ⊎_elim
    (λ (z : eqb n 0 ≡ true). rw z tt)
    (λ (z : eqb n 0 ≡ false). rw z (h, tt))
    (cases_Bool (eqb n 0))

ring_recorded : (t : TargetState) (k : ItemKind) (n : ℕ) → IsSettings t.settings → RingKept t → fits_in t n ≡ true → n % 8 ≡ 0 → RingKept (with_recorded t k n)
ring_recorded t k n s h f e =
    let l : Laid t n = laid_within t n s h f in
    let fit : need_in t n ≤ free_in t = leb-true (need_in t n) (free_in t) f in
    let item : Recorded = record { kind = k; len = n } in
    let ps : List Recorded = pads_of (pad_in t n) in
    let a : sum_by (λ (x : Recorded). x.len) (t.items ++ ps ++ item ∷ []) ≡ sum_by (λ (x : Recorded). x.len) (t.items ++ ps) + sum_by (λ (x : Recorded). x.len) (item ∷ []) = sum_by-append (λ (x : Recorded). x.len) (t.items ++ ps) (item ∷ []) in
    let b : sum_by (λ (x : Recorded). x.len) (t.items ++ ps) ≡ used_in t + sum_by (λ (x : Recorded). x.len) ps = sum_by-append (λ (x : Recorded). x.len) t.items ps in
    let c : sum_by (λ (x : Recorded). x.len) (item ∷ []) ≡ n + 0 = sum_by-cons (λ (x : Recorded). x.len) item [] in
    let used : used_in t < t.settings.ring = h.used in
    record {
      cleaned = h.cleaned;
      items = every-append (λ (x : Recorded). x.len % 8 ≡ 0) (t.items ++ ps) (item ∷ []) (every-append (λ (x : Recorded). x.len % 8 ≡ 0) t.items ps h.items (pads_even (pad_in t n) l.even)) (e, tt);
      used = omega (arith, a, b, c, sum_pads (pad_in t n), fit, used);
    }

ring_submit : (t : TargetState) (c : CommandData) (id : ℕ) (a : Submit) → IsSettings t.settings → RingKept t → Told t c a → RingKept (target_submitted t c id a)
unfolding target_submitted target_laid
ring_submit t c id (submit.Queued s) g h w = let k : RingKept (with_recorded t kind.Cmd (length_in t c)) = ring_recorded t kind.Cmd (length_in t c) g h w.3 (entry_even t.settings.pages c) in record { cleaned = k.cleaned; items = k.items; used = k.used }
ring_submit t c id (submit.Delayed s) g h w = record { cleaned = h.cleaned; items = h.items; used = h.used }
ring_submit t c id submit.Busy g h w = h
ring_submit t c id (submit.TooBig have limit) g h w = h
ring_submit t c id (submit.FullRing need free) g h w = h
ring_submit t c id (submit.FullBlocks need free) g h w = h

ring_first : (t : TargetState) (id : ℕ) (w : Delayed) (ws : List Delayed) → IsSettings t.settings → RingKept t → fits_in t (length_in t w.command) ≡ true → RingKept (first_entered t id (w ∷ ws))
unfolding target_laid
ring_first t id w ws g h f =
    let k : RingKept (with_recorded t kind.Cmd (length_in t w.command)) = ring_recorded t kind.Cmd (length_in t w.command) g h f (entry_even t.settings.pages w.command) in record { cleaned = k.cleaned; items = k.items; used = k.used }

told_enter : (t : TargetState) → ToldFirst t t.delayed (target_enter_answer t)
unfolding target_enter_answer
told_enter t = told_first t t.delayed

ring_enter : (t : TargetState) (id : ℕ) (a : Enter) → IsSettings t.settings → RingKept t → ToldFirst t t.delayed a → RingKept (target_entered t id a)
unfolding target_entered
ring_enter t id (enter.Entered s) g h w = subst (λ (ws : List Delayed). RingKept (first_entered t id ws)) (sym w.2) (ring_first t id w.0 w.1 g h w.4)
ring_enter t id enter.Empty g h w = h
ring_enter t id (enter.FullRing need free) g h w = h
ring_enter t id (enter.FullBlocks need free) g h w = h

-- what the answer to a note tells
abbrev ToldNote : TargetState → List ℕ → Tmr → Type 0
ToldNote t ss tmr.Noted = fits_in t (tmr_length (length ss)) ≡ true
ToldNote t ss tmr.Off = Unit {0}
ToldNote t ss tmr.Busy = Unit {0}
ToldNote t ss (tmr.Unknown s) = Unit {0}
ToldNote t ss (tmr.FullRing need free) = Unit {0}

told_note : (t : TargetState) (ss : List ℕ) → ToldNote t ss (target_tmr_answer t ss)
unfolding target_tmr_answer
told_note t ss =
    ⊎_elim
    (λ (o : t.settings.flags.tmr ≡ true).
    ⊎_elim
    (λ (b : t.blocked ≡ true). rw (o, b) tt)
    (λ (b : t.blocked ≡ false). rw (o, b) (by_unknown (unknown_in t.rows ss)))
    (cases_Bool t.blocked))
    (λ (o : t.settings.flags.tmr ≡ false). rw o tt)
    (cases_Bool t.settings.flags.tmr)
  where
    by_fit : (b : Bool) → fits_in t (tmr_length (length ss)) ≡ b → ToldNote t ss (cond b tmr.Noted (tmr.FullRing (need_in t (tmr_length (length ss))) (free_in t)))
    by_fit true e = e
    by_fit false e = tt

    by_unknown : (o : Option ℕ) → ToldNote t ss (elim o as (λ x. Tmr) [ Some s ↦ tmr.Unknown s | None ↦ cond (fits_in t (tmr_length (length ss))) tmr.Noted (tmr.FullRing (need_in t (tmr_length (length ss))) (free_in t)) ])
    by_unknown None = by_fit (fits_in t (tmr_length (length ss))) refl
    by_unknown (Some s) = tt

ring_note : (t : TargetState) (ss : List ℕ) (a : Tmr) → IsSettings t.settings → RingKept t → ToldNote t ss a → RingKept (target_noted t ss a)
unfolding target_noted
ring_note t ss tmr.Noted g h w = ring_recorded t kind.Tmr (tmr_length (length ss)) g h w (tmr_sizes (length ss)).1
ring_note t ss tmr.Off g h w = h
ring_note t ss tmr.Busy g h w = h
ring_note t ss (tmr.Unknown s) g h w = h
ring_note t ss (tmr.FullRing need free) g h w = h

ring_tick : (t : TargetState) (n : ℕ) → RingKept t → RingKept (target_ticked t n)
unfolding target_ticked
ring_tick t n h = record { cleaned = h.cleaned; items = h.items; used = h.used }

ring_block : (t : TargetState) (b : Bool) → RingKept t → RingKept (target_blocked t b)
unfolding target_blocked
ring_block t b h = record { cleaned = h.cleaned; items = h.items; used = h.used }

-- ==== a clean

ring_past : (t : TargetState) (x : Recorded) (xs : List Recorded) → IsSettings t.settings → RingKept t → Every (λ (y : Recorded). y.len % 8 ≡ 0) (x ∷ xs) → sum_by (λ (y : Recorded). y.len) (x ∷ xs) < t.settings.ring → RingKept (past t x xs)
ring_past t x xs g h e l =
    let a : t.cleaned % 8 ≡ 0 = h.cleaned.aligned in
    let b : x.len % 8 ≡ 0 = e.0 in
    record { cleaned = next_place t.settings.ring (t.cleaned + x.len) g.ring.least g.ring.pages (omega (arith, a, b)); items = e.1; used = omega (arith, sum_by-cons (λ (y : Recorded). y.len) x xs, l) }

ring_by : (r : RegionState) (a : Response) (t : TargetState) (x : Recorded) (xs : List Recorded) (o : Option PendingRow) → RingKept t → RingKept (past t x xs) → RingKept (answered_by r a t x xs o)
ring_by r a t x xs None h k = record { cleaned = h.cleaned; items = h.items; used = h.used }
ring_by r a t x xs (Some e) h k = record { cleaned = k.cleaned; items = k.items; used = k.used }

ring_one : (r : RegionState) (t : TargetState) (x : Recorded) (xs : List Recorded) (c : ItemKind) → RingKept t → RingKept (past t x xs) → RingKept (one_cleaned r t x xs c)
ring_one r t x xs kind.Pad h k = k
ring_one r t x xs kind.Tmr h k = k
ring_one r t x xs kind.Cmd h k = let a : Response = response_in r t in ring_by r a t x xs (first_of (has_id a.id) t.rows) h k

ring_unless : (o : Option ℕ) (t further : TargetState) → RingKept t → RingKept further → RingKept (unless_broken o t further)
ring_unless None t further h k = k
ring_unless (Some id) t further h k = h

ring_all : (s : SettingsData) (r : RegionState) (tail : ℕ) (t : TargetState) (xs : List Recorded) → t.settings ≡ s → IsSettings s → RingKept t → Every (λ (y : Recorded). y.len % 8 ≡ 0) xs → sum_by (λ (y : Recorded). y.len) xs < s.ring →
    RingKept (all_cleaned r tail t xs)
ring_all s r tail t [] q g h e l = h
ring_all s r tail t (x ∷ xs) q g h e l =
    let next : TargetState = one_cleaned r t x xs x.kind in
    let g' : IsSettings t.settings = subst IsSettings (sym q) g in
    let l' : sum_by (λ (y : Recorded). y.len) (x ∷ xs) < t.settings.ring = subst (λ (z : SettingsData). sum_by (λ (y : Recorded). y.len) (x ∷ xs) < z.ring) (sym q) l in
    let one : RingKept next = ring_one r t x xs x.kind h (ring_past t x xs g' h e l') in
    let further : RingKept (all_cleaned r tail next xs) = ring_all s r tail next xs (one_same r t x xs x.kind ∙ q) g one e.1 (omega (arith, sum_by-cons (λ (y : Recorded). y.len) x xs, l)) in
    let z : RingKept (unless_broken t.broken t (all_cleaned r tail next xs)) = ring_unless t.broken t (all_cleaned r tail next xs) h further in
    ⊎_elim
    (λ (k : eqb t.cleaned tail ≡ true). subst (λ (b : Bool). RingKept (cond b t (unless_broken t.broken t (all_cleaned r tail next xs)))) (sym k) h)
    (λ (k : eqb t.cleaned tail ≡ false). subst (λ (b : Bool). RingKept (cond b t (unless_broken t.broken t (all_cleaned r tail next xs)))) (sym k) z)
    (cases_Bool (eqb t.cleaned tail))

ring_clean : (r : RegionState) (t : TargetState) → IsSettings t.settings → RingKept t → RingKept (target_cleaned r t)
unfolding target_cleaned
ring_clean r t g h = by_broken t.broken
  where
    fitting : (b : Bool) → RingKept (cond b (all_cleaned r (tail_read r) t t.items) t)
    fitting true = ring_all t.settings r (tail_read r) t t.items refl g h h.items h.used
    fitting false = h

    by_broken : (o : Option ℕ) → RingKept (elim o as (λ x. TargetState) [ Some id ↦ t | None ↦ cond (tail_fits r t) (all_cleaned r (tail_read r) t t.items) t ])
    by_broken None = fitting (tail_fits r t)
    by_broken (Some id) = h

ring_reset : (r : RegionState) (t : TargetState) (level : ℕ) → IsSettings t.settings → RingKept t → RingKept (target_reset r t level)
unfolding target_reset
ring_reset r t level g h =
    let k : RingKept (target_cleaned r t) = ring_clean r t g h in
    let used : used_in (target_cleaned r t) < (target_cleaned r t).settings.ring = k.used in
    record { cleaned = record { below = omega (arith, used); aligned = refl }; items = tt; used = omega (arith, used) }

-- ==== any call

pub ring_called : (r : RegionState) (t : TargetState) (call : TargetCall) → IsSettings t.settings → TargetSound t → RingKept t → RingKept (target_called r t call)
ring_called r t (Submits c id) g sound h = ring_submit t c id (target_submit_answer t c) g h (told t c sound)
ring_called r t (Enters id) g sound h = ring_enter t id (target_enter_answer t) g h (told_enter t)
ring_called r t (Notes type_ ss) g sound h = ring_note t ss (target_tmr_answer t ss) g h (told_note t ss)
ring_called r t (Ticks n) g sound h = ring_tick t n h
ring_called r t (Blocks b) g sound h = ring_block t b h
ring_called r t Cleans g sound h = ring_clean r t g h
ring_called r t (Resets level) g sound h = ring_reset r t level g h

pub ring_along : (s : SettingsData) (t : TargetState) (ms : List CallMade) (after : TargetState) → t.settings ≡ s → IsSettings s → TargetSound t → RingKept t → Called t ms after → RingKept after
ring_along s t [] after q g sound h c = subst RingKept (sym c) h
ring_along s t (m ∷ ms) after q g sound h c =
    let g' : IsSettings t.settings = subst IsSettings (sym q) g in
    ring_along s (target_called m.region t m.call) ms after (called_same m.region t m.call ∙ q) g (sound_called m.region t m.call sound c.0) (ring_called m.region t m.call g' sound h) c.1

pub ring_of_opening : (s : SettingsData) (ms : List CallMade) (t : TargetState) → IsSettings s → Called (opening_target s) ms t → RingKept t
ring_of_opening s ms t g c = ring_along s (opening_target s) ms t (opened_settings s) g (sound_opened s) (ring_opened s g) c

-- ==== the bytes before the data area

front_long : (front : List ℕ) (t : TargetState) (n : ℕ) (bytes : List ℕ) → IsSettings t.settings → RingKept t → fits_in t n ≡ true → length bytes ≡ n → length front ≡ data_start t.settings.ring →
    length (front_with front t n bytes) ≡ length front
unfolding front_with
front_long front t n bytes g h f b l =
    let k : Laid t n = laid_within t n g h f in
    let whole : place_in t n + n ≤ t.settings.ring = k.whole in
    length-entered front t.settings.ring (head_in t) (pad_in t n) (place_in t n) ((head_in t + need_in t n) % t.settings.ring) bytes l k.least k.pad_room (omega (arith, b, whole))

given_few : (t : TargetState) (c : CommandData) → length (blocks_given t c) ≤ blocks_wanted t c
given_few t c = omega (arith, length-take (blocks_wanted t c) (free_from (blocks_held t.rows) 0 t.settings.blocks))

laid_front : (r : RegionState) (t : TargetState) (c : CommandData) (id : ℕ) → IsSettings t.settings → RingKept t → fits_in t (length_in t c) ≡ true → length r.front ≡ data_start t.settings.ring →
    length (region_laid r t c id).front ≡ length r.front
unfolding region_laid
laid_front r t c id g h f l =
    let n : ℕ = length_in t c in
    let bs : List ℕ = blocks_given t c in
    let few : length (command_iovs t.settings bs c) ≤ length bs = length-iovs (data_start t.settings.ring) (block_size t.settings.pages) bs (payload_length c) in
    let len : length (request_of t.settings bs (place_in t n) id c) ≡ n = length-request (place_in t n) id (blocks_of t.settings.pages c) (command_iovs t.settings bs c) c.cdb (omega (arith, few, given_few t c)) in
    front_long r.front t n (request_of t.settings bs (place_in t n) id c) g h f len l

front_submit : (r : RegionState) (t : TargetState) (c : CommandData) (id : ℕ) (a : Submit) → IsSettings t.settings → RingKept t → Told t c a → length r.front ≡ data_start t.settings.ring → length (region_submitted r t c id a).front ≡ length r.front
unfolding region_submitted
front_submit r t c id (submit.Queued s) g h w l = laid_front r t c id g h w.3 l
front_submit r t c id (submit.Delayed s) g h w l = refl
front_submit r t c id submit.Busy g h w l = refl
front_submit r t c id (submit.TooBig have limit) g h w l = refl
front_submit r t c id (submit.FullRing need free) g h w l = refl
front_submit r t c id (submit.FullBlocks need free) g h w l = refl

front_enter : (r : RegionState) (t : TargetState) (id : ℕ) (a : Enter) → IsSettings t.settings → RingKept t → ToldFirst t t.delayed a → length r.front ≡ data_start t.settings.ring → length (region_entered r t id a).front ≡ length r.front
unfolding region_entered
front_enter r t id (enter.Entered s) g h w l = subst (λ (ws : List Delayed). length (region_with_first r t id ws).front ≡ length r.front) (sym w.2) (laid_front r t w.0.command id g h w.4 l)
front_enter r t id enter.Empty g h w l = refl
front_enter r t id (enter.FullRing need free) g h w l = refl
front_enter r t id (enter.FullBlocks need free) g h w l = refl

front_note : (r : RegionState) (t : TargetState) (type_ : ℕ) (ss : List ℕ) (a : Tmr) → IsSettings t.settings → RingKept t → ToldNote t ss a → length r.front ≡ data_start t.settings.ring → length (region_noted r t type_ ss a).front ≡ length r.front
unfolding region_noted
front_note r t type_ ss tmr.Noted g h w l =
    let same : length (ids_of t.rows ss) ≡ length ss = length-map ss (λ s. id_or_zero (first_of (row_has s) t.rows)) in
    front_long r.front t (tmr_length (length ss)) (tmr_bytes type_ (ids_of t.rows ss)) g h w (length-note type_ (ids_of t.rows ss) ∙ ap tmr_length same) l
front_note r t type_ ss tmr.Off g h w l = refl
front_note r t type_ ss tmr.Busy g h w l = refl
front_note r t type_ ss (tmr.Unknown s) g h w l = refl
front_note r t type_ ss (tmr.FullRing need free) g h w l = refl

front_reset : (r : RegionState) (ring : ℕ) → length r.front ≡ data_start ring → length (region_reset r).front ≡ length r.front
unfolding region_reset
front_reset r ring l =
    let a : length (put r.front head_place (le 4 0)) ≡ length r.front = length-put r.front head_place (le 4 0) (omega (arith, length-le 4 0, l)) in
    length-put (put r.front head_place (le 4 0)) tail_place (le 4 0) (omega (arith, length-le 4 0, a, l)) ∙ a

pub front_called : (r : RegionState) (t : TargetState) (call : TargetCall) → IsSettings t.settings → TargetSound t → RingKept t → length r.front ≡ data_start t.settings.ring → length (region_called r t call).front ≡ length r.front
front_called r t (Submits c id) g sound h l = front_submit r t c id (target_submit_answer t c) g h (told t c sound) l
front_called r t (Enters id) g sound h l = front_enter r t id (target_enter_answer t) g h (told_enter t) l
front_called r t (Notes type_ ss) g sound h l = front_note r t type_ ss (target_tmr_answer t ss) g h (told_note t ss) l
front_called r t (Ticks n) g sound h l = refl
front_called r t (Blocks b) g sound h l = refl
front_called r t Cleans g sound h l = ap length (front_cleaned r t)
front_called r t (Resets level) g sound h l = front_reset r t.settings.ring l

front_along : (s : SettingsData) (r : RegionState) (t : TargetState) (ms : List CallMade) (left : RegionState) (after : TargetState) → t.settings ≡ s → IsSettings s → TargetSound t → RingKept t →
    length r.front ≡ data_start s.ring → CalledOn r t ms left after → length left.front ≡ data_start s.ring
front_along s r t [] left after q g sound h l c = c.0.front ∙ l
front_along s r t (m ∷ ms) left after q g sound h l c =
    let g' : IsSettings t.settings = subst IsSettings (sym q) g in
    let here : length m.region.front ≡ data_start s.ring = c.0.front ∙ l in
    let mine : length m.region.front ≡ data_start t.settings.ring = subst (λ (z : SettingsData). length m.region.front ≡ data_start z.ring) (sym q) here in
    front_along s (region_called m.region t m.call) (target_called m.region t m.call) ms left after (called_same m.region t m.call ∙ q) g
    (sound_called m.region t m.call sound c.1) (ring_called m.region t m.call g' sound h) (front_called m.region t m.call g' sound h mine ∙ here) c.2

pub front_of_opening : (s : SettingsData) (ms : List CallMade) (r : RegionState) (t : TargetState) → IsSettings s → CalledOn (opening_region s) (opening_target s) ms r t → length r.front ≡ data_start s.ring
front_of_opening s ms r t g c = front_along s (opening_region s) (opening_target s) ms r t (opened_settings s) g (sound_opened s) (ring_opened s g) (length-opening s) c
