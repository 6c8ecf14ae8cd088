-- An answer is placed: the ring and the ids.
use Rattle.std.proofs.Common.{◌≡◌, ◌≢◌, ℕ, ◌+◌, ◌-◌, ◌^◌, ◌≤◌, ◌<◌, ◌⊎◌, ◌&&◌, inl, inr, true, false, Bool, List, [], ◌∷◌, ◌++◌, length, take, drop, map, refl, sym, ap, ◌∙◌, arith, Option, Some, None, slice_get, length-append, length-drop, subst, ⊎_elim, eqb}
use Rattle.std.proofs.lemmas.Bool.{cases_Bool, eqb-true, eqb-false, cases_lt, or_parts, and_parts, false≢true}
use Rattle.std.proofs.lemmas.List.{length-take-le}
use Rattle.std.proofs.lemmas.Option.{slice_get_past}
use Rattle.tcmu_types.specs.Data.{CommandData, ReplyData}
use Rattle.tcmu_model.specs.declared.state.CommandState.{CommandState}
use Rattle.tcmu_model.specs.declared.state.CommandState.TheVariants.{Parked, Placed}
use Rattle.tcmu_model.specs.States.{same_state}
use Rattle.tcmu_types.specs.Lists.{first_of}
use Rattle.tcmu_model.specs.RingState.{Item, Laid, commands_in, is_command}
use Rattle.tcmu_model.specs.RingState as ring
use Rattle.tcmu_model.specs.Device.{Unfinished, DeviceState, has_serial, is_at}
use Rattle.tcmu_model.specs.Events.{turned, in_state}
use Rattle.tcmu_types.specs.Numbers.{is_among, Differ}
use Rattle.tcmu_model.specs.BlockLists.{Taken, list_of}
use Rattle.region_model.specs.Layout.{ring_start, data_start, response_bytes, with_response}
use Rattle.tcmu_types.specs.ByteFields.{le, put}
use Rattle.tcmu_types.proofs.ByteFields.{length-le, length-put}
use Rattle.region_model.specs.Picture.{place_of, item_bytes, entry_of, with_answer, request_of, ids_named, told_length, answered_entry}
use Rattle.region_model.specs.Sides.{Recorded, PendingRow}
use Rattle.region_model.specs.Represents.{RingStands, StandsAt, IdsStand, entry_at, id_in, ids_in, entry_id_at, id_of}
use Rattle.ring_laws.proofs.Bytes.{take-written}
use Rattle.tcmu_model.proofs.LaidItems.{slice_get-right}
use Rattle.ring_laws.proofs.placed.Answered.{response_apart, response_here, id_of_answered, answered_over}
use Rattle.ring_laws.specs.Placed.{CanAnswer, placed_in}
use Rattle.ring_laws.proofs.placed.Numbered.{NextEntry, items_apart, counted-before}
use Rattle.ring_laws.proofs.laid.LaidIds.{id-same}
use Rattle.tcmu_types.proofs.Places.{get_append_left}
use Rattle.region_model.proofs.PartLengths.{length-response}

pub command-of : (n : ℕ) (l : Laid) → is_command (record { len = n; laid = l }) ≡ true → (q : ℕ) × (c : CommandData) × (l ≡ ring.Cmd q c)
command-of n ring.Pad h = absurd (false≢true h)
command-of n (ring.Cmd q c) h = (q, c, refl)
command-of n (ring.Tmr kind ss) h = absurd (false≢true h)

-- ==== a command whose state turns

pub turned-found : (s q : ℕ) (a b : CommandState) (us : List Unfinished) (rl : Bool) (id : ℕ) (e : List ℕ) →
    with_answer rl id e (first_of (has_serial q) (turned s a b us)) ≡ with_answer rl id e (first_of (has_serial q) us)
turned-found s q a b [] rl id e = refl
turned-found s q a b (u ∷ us) rl id e =
    ⊎_elim
    (λ (k : is_at s a u ≡ true).
    ⊎_elim
    (λ (m : has_serial q u ≡ true). rw (k, m) refl)
    (λ (m : has_serial q u ≡ false). rw (k, m) refl)
    (cases_Bool (has_serial q u)))
    (λ (k : is_at s a u ≡ false).
    ⊎_elim
    (λ (m : has_serial q u ≡ true). rw (k, m) refl)
    (λ (m : has_serial q u ≡ false). rw (k, m) (turned-found s q a b us rl id e))
    (cases_Bool (has_serial q u)))
    (cases_Bool (is_at s a u))

no_serial : (s : ℕ) (t : CommandState) (us : List Unfinished) (u : Unfinished) → is_among (map (λ v. v.serial) us) s ≡ false → first_of (is_at s t) us ≡ Some u → ⊥
no_serial s t [] u h f = absurd (cc)
no_serial s t (v ∷ us) u h f =
    let p = or_parts (has_serial s v) (is_among (map (λ (w : Unfinished). w.serial) us) s) h in
    let n : is_at s t v ≡ false = ap (λ z. z && same_state v.state t) p.0 in
    let k : first_of (is_at s t) us ≡ Some u = rw n at f in
    no_serial s t us u p.1 k

-- of commands whose serials differ, the one of a serial in a state is the one of that serial
pub found-serial : (s : ℕ) (t : CommandState) (us : List Unfinished) (u : Unfinished) → Differ (map (λ v. v.serial) us) → first_of (is_at s t) us ≡ Some u → first_of (has_serial s) us ≡ Some u
found-serial s t [] u a f = absurd (cc)
found-serial s t (v ∷ us) u a f =
    ⊎_elim
    (λ (k : is_at s t v ≡ true). let m : has_serial s v ≡ true = (and_parts _ _ k).0 in let g : Some v ≡ Some u = rw k at f in rw m g)
    (λ (k : is_at s t v ≡ false).
    let g : first_of (is_at s t) us ≡ Some u = rw k at f in
    ⊎_elim
    (λ (m : has_serial s v ≡ true). let e : v.serial ≡ s = eqb-true v.serial s m in absurd (no_serial s t us u (subst (λ (x : ℕ). is_among (map (λ (w : Unfinished). w.serial) us) x ≡ false) e a.0) g))
    (λ (m : has_serial s v ≡ false). rw m (found-serial s t us u a.1 g))
    (cases_Bool (has_serial s v)))
    (cases_Bool (is_at s t v))

pub found-at : (s : ℕ) (t : CommandState) (us : List Unfinished) (u : Unfinished) → first_of (is_at s t) us ≡ Some u → u.serial ≡ s
found-at s t [] u f = absurd (cc)
found-at s t (v ∷ us) u f =
    ⊎_elim
    (λ (k : is_at s t v ≡ true). let g : Some v ≡ Some u = rw k at f in let q : v ≡ u = cc in ap (λ (z : Unfinished). z.serial) (sym q) ∙ eqb-true v.serial s (and_parts _ _ k).0)
    (λ (k : is_at s t v ≡ false). let g : first_of (is_at s t) us ≡ Some u = rw k at f in found-at s t us u g)
    (cases_Bool (is_at s t v))

-- ==== the bytes

-- the parked command of a serial has this reply
pub record Replied (d : DeviceState) (s : ℕ) (u : Unfinished) (reply : ReplyData) : Type 0 where
  pub found : first_of (is_at s Parked) d.unfinished ≡ Some u
  pub replied : u.reply ≡ Some reply

abbrev pub answer_into : List ℕ → DeviceState → ℕ → ℕ → Unfinished → ReplyData → List ℕ
answer_into front d at id u reply = with_response front at id reply (told_length d.settings.flags.read_len u.command.cdb reply)

-- every other item keeps its bytes
pub other-kept : (front : List ℕ) (d : DeviceState) (id : ℕ) (u : Unfinished) (reply : ReplyData) (i j : ℕ) (x y : Item) →
    CanAnswer d → length front ≡ data_start d.ring.size → d.ring.cleared ≤ i → d.ring.cleared ≤ j → slice_get d.ring.laid i ≡ Some x → slice_get d.ring.laid j ≡ Some y → is_command x ≡ true → i ≢ j →
    entry_at (answer_into front d (place_of d.ring i) id u reply) (place_of d.ring j) y.len ≡ entry_at front (place_of d.ring j) y.len
other-kept front d id u reply i j x y owned long ci cj g h k n =
    let lx : 112 ≤ x.len = owned.long i x g k in
    let wx : place_of d.ring i + x.len ≤ d.ring.size = owned.holds.whole i x g in
    let meet : (place_of d.ring j + y.len ≤ place_of d.ring i) ⊎ (place_of d.ring i + 112 ≤ place_of d.ring j) =
    ⊎_elim
    (λ (l : i < j). ⊎_elim (λ (m : place_of d.ring i + x.len ≤ place_of d.ring j). inr (omega arith)) (λ (m : place_of d.ring j + y.len ≤ place_of d.ring i). inl m) (items_apart d i j x y owned.holds ci g h l))
    (λ (l : j ≤ i). ⊎_elim (λ (m : place_of d.ring j + y.len ≤ place_of d.ring i). inl m) (λ (m : place_of d.ring i + x.len ≤ place_of d.ring j). inr (omega arith)) (items_apart d j i y x owned.holds cj h g (below n l)))
    (cases_lt i j) in
    response_apart front (place_of d.ring i) id reply (told_length d.settings.flags.read_len u.command.cdb reply) (place_of d.ring j) y.len (omega arith) meet
  where
    below : {i j : ℕ} → i ≢ j → j ≤ i → j < i
    below n l = omega arith

-- ==== the law

-- which answer stands in another entry
other-answer : (d : DeviceState) (s j : ℕ) (y : Item) (e : NextEntry d) → slice_get d.ring.laid j ≡ Some y → is_command y ≡ true → e.index ≢ j →
    slice_get (d.placed ++ s ∷ []) (commands_in (take j d.ring.laid)) ≡ slice_get d.placed (commands_in (take j d.ring.laid))
other-answer d s j y e h c n =
    ⊎_elim
    (λ (l : e.index < j).
    let k : commands_in (take e.index d.ring.laid) + 1 ≤ commands_in (take j d.ring.laid) = counted-before d.ring.laid e.index j e.item e.there e.command l in
    let m : length (d.placed ++ s ∷ []) ≡ length d.placed + 1 = length-append d.placed (s ∷ []) in
    slice_get_past (d.placed ++ s ∷ []) (commands_in (take j d.ring.laid)) (omega (arith, k, m, e.before)) ∙ sym (slice_get_past d.placed (commands_in (take j d.ring.laid)) (omega (arith, k, e.before))))
    (λ (l : j ≤ e.index).
    let k : commands_in (take j d.ring.laid) + 1 ≤ commands_in (take e.index d.ring.laid) = counted-before d.ring.laid j e.index y h c (strict n l) in
    get_append_left d.placed (s ∷ []) (commands_in (take j d.ring.laid)) (omega (arith, k, e.before)))
    (cases_lt e.index j)
  where
    strict : {i j : ℕ} → i ≢ j → j ≤ i → j < i
    strict n l = omega arith

entry-turned : (d : DeviceState) (s id : ℕ) (request : List ℕ) (o : Option ℕ) → entry_of (placed_in d s) id request o ≡ entry_of d id request o
entry-turned d s id request None = refl
entry-turned d s id request (Some q) = turned-found s q Parked Placed d.unfinished d.settings.flags.read_len id request

other-item : (d : DeviceState) (lists : List Taken) (s j : ℕ) (n : ℕ) (l : Laid) (id : ℕ) (ids : List ℕ) (e : NextEntry d) → slice_get d.ring.laid j ≡ Some (record { len = n; laid = l }) → e.index ≢ j →
    item_bytes (placed_in d s) lists j id ids (record { len = n; laid = l }) ≡ item_bytes d lists j id ids (record { len = n; laid = l })
other-item d lists s j n ring.Pad id ids e h k = refl
other-item d lists s j n (ring.Tmr m ss) id ids e h k = refl
other-item d lists s j n (ring.Cmd q c) id ids e h k =
    let r : List ℕ = request_of d.settings (list_of lists q) (place_of d.ring j) id c in
    ap (entry_of (placed_in d s) id r) (other-answer d s j (record { len = n; laid = ring.Cmd q c }) e h refl k)
    ∙ entry-turned d s id r (slice_get d.placed (commands_in (take j d.ring.laid)))

turned-there : (s : ℕ) (us : List Unfinished) (u : Unfinished) → Differ (map (λ v. v.serial) us) → first_of (is_at s Parked) us ≡ Some u → first_of (has_serial s) (turned s Parked Placed us) ≡ Some (in_state Placed u)
turned-there s [] u a f = absurd (cc)
turned-there s (v ∷ us) u a f =
    ⊎_elim
    (λ (k : is_at s Parked v ≡ true). let m : has_serial s v ≡ true = (and_parts _ _ k).0 in let g : Some v ≡ Some u = rw k at f in let e : v ≡ u = cc in rw (k, m) (ap (λ z. Some (in_state Placed z)) e))
    (λ (k : is_at s Parked v ≡ false).
    let g : first_of (is_at s Parked) us ≡ Some u = rw k at f in
    ⊎_elim
    (λ (m : has_serial s v ≡ true). let e : v.serial ≡ s = eqb-true v.serial s m in absurd (no_serial s Parked us u (subst (λ (x : ℕ). is_among (map (λ (w : Unfinished). w.serial) us) x ≡ false) e a.0) g))
    (λ (m : has_serial s v ≡ false). rw (k, m) (turned-there s us u a.1 g))
    (cases_Bool (has_serial s v)))
    (cases_Bool (is_at s Parked v))

answered-by : (rl : Bool) (id : ℕ) (u : Unfinished) (reply : ReplyData) (x : List ℕ) → u.reply ≡ Some reply → with_answer rl id x (Some (in_state Placed u)) ≡ answered_entry x id reply (told_length rl u.command.cdb reply)
answered-by rl id u reply x h = rw h refl

pub place-ring : (front : List ℕ) (items : List Recorded) (d : DeviceState) (lists : List Taken) (s id : ℕ) (u : Unfinished) (reply : ReplyData) (e : NextEntry d) →
    CanAnswer d → RingStands front items d lists → Replied d s u reply → id < 2 ^ 16 → RingStands (answer_into front d (place_of d.ring e.index) id u reply) items (placed_in d s) lists
place-ring front items d lists s id u reply e owned shape places small =
    let at : ℕ = place_of d.ring e.index in
    let told = told_length d.settings.flags.read_len u.command.cdb reply in
    let w : List ℕ = put front (ring_start + at + 4) (le 2 id) in
    let l2 : length (le 2 id) ≡ 2 = length-le 2 id in
    let long : length front ≡ data_start d.ring.size = shape.long in
    let lx : 112 ≤ e.item.len = owned.long e.index e.item e.there e.command in
    let wx : at + e.item.len ≤ d.ring.size = owned.holds.whole e.index e.item e.there in
    let la : length (response_bytes reply told) ≡ 105 = length-response reply told in
    let lw : length w ≡ length front = length-put front (ring_start + at + 4) (le 2 id) (omega arith) in
    record {
      long = length-put w (ring_start + at + 7) (response_bytes reply told) (omega arith) ∙ lw ∙ shape.long;
      mailbox = take-written w (ring_start + at + 7) (response_bytes reply told) ring_start (omega arith) (omega arith)
          ∙ take-written front (ring_start + at + 4) (le 2 id) ring_start (omega arith) (omega arith) ∙ shape.mailbox;
      stands = λ j y c h. ⊎_elim (λ (q : eqb e.index j ≡ true). mine j y c h (eqb-true e.index j q)) (λ (q : eqb e.index j ≡ false). other j y c h (eqb-false e.index j q)) (cases_Bool (eqb e.index j));
      recorded = shape.recorded;
    }
  where
    other : (j : ℕ) (y : Item) → d.ring.cleared ≤ j → slice_get d.ring.laid j ≡ Some y → e.index ≢ j → StandsAt (answer_into front d (place_of d.ring e.index) id u reply) (placed_in d s) lists j y
    other j y c h n =
        let b = other-kept front d id u reply e.index j e.item y owned shape.long e.uncleared c e.there h e.command n in
        let old = entry_at front (place_of d.ring j) y.len in
        let P : List ℕ → Type 0 = λ z. z ≡ item_bytes (placed_in d s) lists j (id_in z) (ids_in (ids_named y) 32 z) y in
        subst P (sym b) (shape.stands j y c h ∙ sym (other-item d lists s j y.len y.laid (id_in old) (ids_in (ids_named y) 32 old) e h n))

    here : (y : Item) → slice_get d.ring.laid e.index ≡ Some y → StandsAt (answer_into front d (place_of d.ring e.index) id u reply) (placed_in d s) lists e.index y
    here y g =
        let at : ℕ = place_of d.ring e.index in
        let told = told_length d.settings.flags.read_len u.command.cdb reply in
        let iy : Some e.item ≡ Some y = sym e.there ∙ g in
        let ey : e.item ≡ y = cc in
        let yc : is_command y ≡ true = ap is_command (sym ey) ∙ e.command in
        let k = command-of y.len y.laid yc in
        let y0 : Item = record { len = y.len; laid = ring.Cmd k.0 k.1 } in
        let yy : y ≡ y0 = ap (λ (l : Laid). record { len = y.len; laid = l }) k.2 in
        let ly : 112 ≤ y.len = owned.long e.index y g yc in
        let wy : at + y.len ≤ d.ring.size = owned.holds.whole e.index y g in
        let long : length front ≡ data_start d.ring.size = shape.long in
        let old : List ℕ = entry_at front at y.len in
        let lo : length old ≡ y.len = length-take-le y.len (drop (ring_start + at) front) (let z : length (drop (ring_start + at) front) ≡ length front - (ring_start + at) = length-drop (ring_start + at) front in omega arith) in
        let none : slice_get d.placed (commands_in (take e.index d.ring.laid)) ≡ None = slice_get_past d.placed (commands_in (take e.index d.ring.laid)) (omega (arith, e.before)) in
        let st : old ≡ item_bytes d lists e.index (id_in old) (ids_in (ids_named y) 32 old) y = shape.stands e.index y e.uncleared g in
        let st0 : old ≡ request_of d.settings (list_of lists k.0) at (id_in old) k.1 =
        st ∙ ap (λ z. item_bytes d lists e.index (id_in old) (ids_in (ids_named y) 32 old) z) yy ∙ ap (entry_of d (id_in old) (request_of d.settings (list_of lists k.0) at (id_in old) k.1)) none in
        let new : List ℕ = entry_at (answer_into front d at id u reply) at y.len in
        let nw : new ≡ answered_entry old id reply told = response_here front at id reply told y.len (omega arith) ly in
        let idn : id_in new ≡ id = ap id_in nw ∙ id_of_answered old id reply told (omega arith) small in
        let some : slice_get (d.placed ++ s ∷ []) (commands_in (take e.index d.ring.laid)) ≡ Some s =
        (let z : commands_in (take e.index d.ring.laid) ≡ length d.placed + 0 = omega (arith, e.before) in ap (slice_get (d.placed ++ s ∷ [])) z) ∙ slice_get-right d.placed (s ∷ []) 0 in
        let wa : (i : ℕ) (x : List ℕ) → with_answer d.settings.flags.read_len i x (Some (in_state Placed u)) ≡ answered_entry x i reply told = λ i x. answered-by d.settings.flags.read_len i u reply x places.replied in
        let goal0 : item_bytes (placed_in d s) lists e.index (id_in new) (ids_in (ids_named y) 32 new) y0 ≡ answered_entry (request_of d.settings (list_of lists k.0) at (id_in new) k.1) (id_in new) reply told =
        ap (entry_of (placed_in d s) (id_in new) (request_of d.settings (list_of lists k.0) at (id_in new) k.1)) some
        ∙ ap (with_answer d.settings.flags.read_len (id_in new) (request_of d.settings (list_of lists k.0) at (id_in new) k.1)) (turned-there s d.unfinished u owned.differ places.found)
        ∙ wa (id_in new) (request_of d.settings (list_of lists k.0) at (id_in new) k.1) in
        nw ∙ ap (λ z. answered_entry z id reply told) st0
        ∙ answered_over d.settings (list_of lists k.0) at (id_in old) id k.1 reply told
        ∙ ap (λ z. answered_entry (request_of d.settings (list_of lists k.0) at z k.1) z reply told) (sym idn)
        ∙ sym goal0 ∙ ap (λ z. item_bytes (placed_in d s) lists e.index (id_in new) (ids_in (ids_named y) 32 new) z) (sym yy)

    mine : (j : ℕ) (y : Item) → d.ring.cleared ≤ j → slice_get d.ring.laid j ≡ Some y → e.index ≡ j → StandsAt (answer_into front d (place_of d.ring e.index) id u reply) (placed_in d s) lists j y
    mine j y c h q =
        let P : ℕ → Type 0 = λ i. slice_get d.ring.laid i ≡ Some y → StandsAt (answer_into front d (place_of d.ring e.index) id u reply) (placed_in d s) lists i y in
        subst P q (λ g. here y g) h

-- ==== ids

pub place-ids : (front : List ℕ) (items : List Recorded) (rows : List PendingRow) (d : DeviceState) (lists : List Taken) (s id : ℕ) (u : Unfinished) (reply : ReplyData) (e : NextEntry d) →
    CanAnswer d → RingStands front items d lists → IdsStand front rows d → Replied d s u reply → id < 2 ^ 16 → id_of rows s ≡ Some id →
    IdsStand (answer_into front d (place_of d.ring e.index) id u reply) rows (placed_in d s)
place-ids front items rows d lists s id u reply e owned shape ids places small holds =
    record {
      range = ids.range;
      differ = ids.differ;
      answered = λ j y q c h k p.
          ⊎_elim
          (λ (m : eqb e.index j ≡ true). mine j q p (eqb-true e.index j m))
          (λ (m : eqb e.index j ≡ false).
          let n : e.index ≢ j = eqb-false e.index j m in
          ids.answered j y q c h k (sym (other-answer d s j y e h k n) ∙ p) ∙ ap Some (sym (kept j y c h k n)))
          (cases_Bool (eqb e.index j));
      own = λ j n q c l h.
          let k : e.index < d.ring.dispatched = e.dispatched in
          let cl : d.ring.cleared ≤ j = omega (arith, owned.cleared, owned.published, l) in
          ids.own j n q c l h ∙ ap Some (sym (kept j (record { len = n; laid = ring.Cmd q c }) cl h refl (λ z. absurd (below e.index j z k l))));
    }
  where
    below : (i j : ℕ) → i ≡ j → i < d.ring.dispatched → d.ring.dispatched ≤ j → ⊥
    below i j z k l = omega arith

    kept : (j : ℕ) (y : Item) → d.ring.cleared ≤ j → slice_get d.ring.laid j ≡ Some y → is_command y ≡ true → e.index ≢ j → entry_id_at (answer_into front d (place_of d.ring e.index) id u reply) (place_of d.ring j) ≡ entry_id_at front (place_of d.ring j)
    kept j y c h k n = id-same front (answer_into front d (place_of d.ring e.index) id u reply) (place_of d.ring j) y.len (owned.long j y h k)
        (other-kept front d id u reply e.index j e.item y owned shape.long e.uncleared c e.there h e.command n)

    mine : (j q : ℕ) → slice_get (d.placed ++ s ∷ []) (commands_in (take j d.ring.laid)) ≡ Some q → e.index ≡ j → id_of rows q ≡ Some (entry_id_at (answer_into front d (place_of d.ring e.index) id u reply) (place_of d.ring j))
    mine j q p m =
        let at : ℕ = place_of d.ring e.index in
        let told = told_length d.settings.flags.read_len u.command.cdb reply in
        let z : commands_in (take j d.ring.laid) ≡ length d.placed + 0 = (let w : commands_in (take j d.ring.laid) ≡ commands_in (take e.index d.ring.laid) = ap (λ i. commands_in (take i d.ring.laid)) (sym m) in omega (arith, w, e.before)) in
        let some : Some s ≡ Some q = sym (ap (slice_get (d.placed ++ s ∷ [])) z ∙ slice_get-right d.placed (s ∷ []) 0) ∙ p in
        let sq : s ≡ q = cc in
        let lx : 112 ≤ e.item.len = owned.long e.index e.item e.there e.command in
        let wx : at + e.item.len ≤ d.ring.size = owned.holds.whole e.index e.item e.there in
        let long : length front ≡ data_start d.ring.size = shape.long in
        let old : List ℕ = entry_at front at 112 in
        let lo : length old ≡ 112 = length-take-le 112 (drop (ring_start + at) front) (let v : length (drop (ring_start + at) front) ≡ length front - (ring_start + at) = length-drop (ring_start + at) front in omega arith) in
        let nw : entry_at (answer_into front d at id u reply) at 112 ≡ answered_entry old id reply told = response_here front at id reply told 112 (omega arith) (omega arith) in
        let idn : entry_id_at (answer_into front d at id u reply) at ≡ id = ap id_in nw ∙ id_of_answered old id reply told (omega arith) small in
        ap (id_of rows) (sym sq) ∙ holds ∙ ap Some (sym idn) ∙ ap (λ i. Some (entry_id_at (answer_into front d at id u reply) (place_of d.ring i))) m
