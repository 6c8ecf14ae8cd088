-- A dispatch, and a handler's answer, leave the device sound.
use Rattle.std.proofs.Common.{◌≡◌, ℕ, ◌+◌, ◌<◌, Bool, true, false, cond, List, [], ◌∷◌, ◌++◌, length, take, drop, map, slice_get, refl, sym, ap, ◌∙◌, arith, ⊎_elim, subst, ◌||◌, eqb, if◌then◌else◌, Some, None, Option, suc, zero, append_assoc, append-nil}
use Rattle.std.specs.List.{prefix_len}
use Rattle.std.specs.Option.{is_some}
use Rattle.std.specs.Prelude.{IfSome}
use Rattle.std.proofs.lemmas.Bool.{cases_Bool, false≢true, eqb-true, eqb-false, eq-eqb, ne_eqb, or_left, or_right}
use Rattle.tcmu_types.specs.Data.{CommandData, ReplyData}
use Rattle.tcmu_model.specs.declared.state.CommandState.{CommandState}
use Rattle.tcmu_model.specs.declared.state.CommandState.TheVariants.{Waiting, Out, Handled, Parked, Placed}
use Rattle.tcmu_types.specs.Lists.{first_of, with_first, Every}
use Rattle.tcmu_model.specs.States.{same_state}
use Rattle.tcmu_model.specs.RingState.{Item, Laid, Pad, Cmd, Tmr, is_pad, serial_in, serials_in, next_place, published_commands}
use Rattle.tcmu_model.specs.Device.{Unfinished, DeviceState, has_state, is_at}
use Rattle.tcmu_model.specs.Events.{in_state, turned, next_item, passed, after_item, after_dispatch, command_out, with_reply, after_handle}
use Rattle.tcmu_types.specs.Numbers.{is_among, Rise}
use Rattle.tcmu_model.specs.Sound.{ReplyFits, dispatched_serials, state_fits, is_right, parked_rightly, RingSound, IsSound}
use Rattle.tcmu_model.proofs.CommandStates.{state_at}
use Rattle.tcmu_types.proofs.Everies.{every-map, every-weaker}
use Rattle.tcmu_types.proofs.Rises.{rise_seam, not_among, among-append, among_every}
use Rattle.tcmu_types.proofs.Places.{within}
use Rattle.tcmu_model.proofs.Turning.{turning, turned_map}
use Rattle.tcmu_model.proofs.Basics.{laid_rise, rows_rise, serials_split}
use Rattle.tcmu_model.proofs.Rows.{Same, SameRows, rows-turned, state_kept, serials_same, room_same, undispatched_waits, parked_kept}
use Rattle.tcmu_model.proofs.Unnamed.{found_item}

-- ==== the next item

pad_serials : (n : ℕ) (l : Laid) → let i : Item = record { len = n; laid = l } in is_pad i ≡ true → serial_in i ≡ []
pad_serials n Pad h = refl
pad_serials n (Cmd s c) h = absurd (false≢true h)
pad_serials n (Tmr k ss) h = absurd (false≢true h)

pads_sent : (m : ℕ) (is : List Item) (i : Item) → m ≡ prefix_len is_pad is → slice_get is m ≡ Some i → serials_in (take (suc m) is) ≡ serial_in i
pads_sent m [] i e h = absurd (cc)
pads_sent m (x ∷ is) i e h =
    ⊎_elim
    (λ (p : is_pad x ≡ true). padded m (rw p at e) h (pad_serials x.len x.laid p) (λ k q l. pads_sent k is i q l))
    (λ (p : is_pad x ≡ false). let z : ◌≡◌ {A = ℕ} m 0 = rw p at e in first m z h)
    (cases_Bool (is_pad x))
  where
    first : (m : ℕ) → m ≡ 0 → slice_get (x ∷ is) m ≡ Some i → serials_in (take (suc m) (x ∷ is)) ≡ serial_in i
    first zero z h = let same : x ≡ i = cc in append-nil (serial_in x) ∙ ap serial_in same
    first (suc m) z h = absurd (omega (arith, z))

    padded : (m : ℕ) → m ≡ 1 + prefix_len is_pad is → slice_get (x ∷ is) m ≡ Some i → serial_in x ≡ [] →
        ((k : ℕ) → k ≡ prefix_len is_pad is → slice_get is k ≡ Some i → serials_in (take (suc k) is) ≡ serial_in i) → serials_in (take (suc m) (x ∷ is)) ≡ serial_in i
    padded zero z h n more = absurd (omega (arith, z))
    padded (suc m) z h n more = ap (λ (ys : List ℕ). ys ++ serials_in (take (suc m) is)) n ∙ more m (omega (arith, z)) h

sent_more : (n m : ℕ) (is : List Item) (i : Item) → m ≡ n + prefix_len is_pad (drop n is) → slice_get is m ≡ Some i → serials_in (take (suc m) is) ≡ serials_in (take n is) ++ serial_in i
sent_more zero m is i e h = pads_sent m is i (omega (arith, e)) h
sent_more (suc n) m [] i e h = absurd (cc)
sent_more (suc n) zero (x ∷ is) i e h = absurd (omega (arith, e))
sent_more (suc n) (suc m) (x ∷ is) i e h =
    ap (λ (ys : List ℕ). serial_in x ++ ys) (sent_more n m is i (omega (arith, e)) h)
    ∙ sym (append_assoc (serial_in x) (serials_in (take n is)) (serial_in i))

-- ==== dispatch

sent_row : (D : List ℕ) (P : List ℕ) (A : List ℕ) (at : Bool) (s : ℕ) (u : Unfinished) → at ≡ true → is_among D s ≡ false → is_among P s ≡ false →
    state_fits (is_among D u.serial) (is_among P u.serial) (is_among A u.serial) at u.state (is_some u.reply) ≡ true →
    let v : Unfinished = turning (is_at s Waiting) (in_state Out) u in
    state_fits (is_among (D ++ s ∷ []) v.serial) (is_among P v.serial) (is_among A v.serial) at v.state (is_some v.reply) ≡ true
sent_row D P A at s u a nd np h =
    ⊎_elim
    (λ (e : eqb u.serial s ≡ true).
    let q : u.serial ≡ s = eqb-true u.serial s e in
    let d0 : is_among D u.serial ≡ false = ap (is_among D) q ∙ nd in
    let p0 : is_among P u.serial ≡ false = ap (is_among P) q ∙ np in
    let h' : state_fits false (is_among P u.serial) (is_among A u.serial) at u.state (is_some u.reply) ≡ true = rw d0 at h in
    let w = undispatched_waits (is_among P u.serial) (is_among A u.serial) at u.state (is_some u.reply) h' in
    let t : is_at s Waiting u ≡ true = rw (e, w.0) refl in
    let d1 : is_among (D ++ s ∷ []) u.serial ≡ true = among-append D (s ∷ []) u.serial ∙ or_right (is_among D u.serial) (is_among (s ∷ []) u.serial) (let z : eqb s u.serial ≡ true = eq-eqb s u.serial (sym q) in rw z refl) in
    rw (t, d1, p0, a, w.1) refl)
    (λ (e : eqb u.serial s ≡ false).
    let t : is_at s Waiting u ≡ false = rw e refl in
    let z : eqb s u.serial ≡ false = ne_eqb s u.serial (λ q. eqb-false u.serial s e (sym q)) in
    let d1 : is_among (D ++ s ∷ []) u.serial ≡ is_among D u.serial = among-append D (s ∷ []) u.serial ∙ none D z in
    rw (t, d1) h)
    (cases_Bool (eqb u.serial s))
  where
    none : (D : List ℕ) → eqb s u.serial ≡ false → (is_among D u.serial || is_among (s ∷ []) u.serial) ≡ is_among D u.serial
    none D z = rw z (go (is_among D u.serial))
      where
        go : (b : Bool) → (b || (false || false)) ≡ b
        go true = refl
        go false = refl

keeps_state : (t : CommandState) (s : ℕ) (from to : CommandState) (u : Unfinished) → same_state from t ≡ false → same_state to t ≡ false → has_state t (turning (is_at s from) (in_state to) u) ≡ has_state t u
keeps_state t s from to u h k =
    ⊎_elim
    (λ (e : is_at s from u ≡ true). let q : u.state ≡ from = state_at s from u e in let z : same_state u.state t ≡ false = ap (λ x. same_state x t) q ∙ h in rw (e, z) k)
    (λ (e : is_at s from u ≡ false). rw e refl)
    (cases_Bool (is_at s from u))

ring_passed : (d : DeviceState) (i : Item) → next_item d ≡ Some i → RingSound d.settings d.ring → RingSound d.settings (passed d.ring)
ring_passed d i e h =
    let w : next_place d.ring < length d.ring.laid = within d.ring.laid (next_place d.ring) i e in
    record {
      size = h.size;
      cleared = h.cleared;
      published = omega (arith, h.published);
      dispatched = omega (arith, w);
      room = h.room;
      items = h.items;
      ends = h.ends;
    }

sent_serials : (d : DeviceState) (i : Item) → next_item d ≡ Some i → dispatched_serials (passed d.ring) ≡ dispatched_serials d.ring ++ serial_in i
sent_serials d i e =
    let n : next_place d.ring + 1 ≡ suc (next_place d.ring) = omega arith in
    ap (λ (k : ℕ). serials_in (take k d.ring.laid)) n ∙ sent_more d.ring.dispatched (next_place d.ring) d.ring.laid i refl e

-- what is no command changes only the ring
other_sent : (d : DeviceState) (i : Item) → next_item d ≡ Some i → serial_in i ≡ [] → IsSound d → IsSound (record d { ring = passed d.ring })
other_sent d i e n h =
    let s : dispatched_serials (passed d.ring) ≡ dispatched_serials d.ring = sent_serials d i e ∙ (ap (λ (xs : List ℕ). dispatched_serials d.ring ++ xs) n ∙ append-nil (dispatched_serials d.ring)) in
    record {
      settings = h.settings;
      ring = ring_passed d i e h.ring;
      serials = record { rise = h.serials.rise; order = h.serials.order; laid = h.serials.laid; accounted = h.serials.accounted };
      answers = record {
        published = h.answers.published;
        differ = h.answers.differ;
        dispatched = subst (λ (xs : List ℕ). Every (λ k. is_among xs k ≡ true) d.placed) (sym s) h.answers.dispatched;
        states = subst (λ (xs : List ℕ). Every (λ u. state_fits (is_among xs u.serial) (is_among d.placed u.serial) (is_among (take (published_commands d.ring) d.placed) u.serial) d.attached u.state (is_some u.reply) ≡ true) d.unfinished) (sym s) h.answers.states;
        replies = h.answers.replies;
        in_order = h.answers.in_order;
        parked = h.answers.parked;
      };
      room = record { blocks = h.room.blocks; delayed = h.room.delayed; none = h.room.none; now = h.room.now };
    }

command_sent : (d : DeviceState) (n s : ℕ) (c : CommandData) → d.attached ≡ true → next_item d ≡ Some (record { len = n; laid = Cmd s c }) → IsSound d → IsSound (record d { ring = passed d.ring; unfinished = turned s Waiting Out d.unfinished })
command_sent d n s c a e h =
    let i : Item = record { len = n; laid = Cmd s c } in
    let us = d.unfinished in
    let D : List ℕ = dispatched_serials d.ring in
    let f : Unfinished → Unfinished = turning (is_at s Waiting) (in_state Out) in
    let sent : dispatched_serials (passed d.ring) ≡ D ++ s ∷ [] = sent_serials d i e in
    let rest : List ℕ = serials_in (drop (next_place d.ring + 1) d.ring.laid) in
    let split : D ++ s ∷ rest ≡ serials_in d.ring.laid = sym (append_assoc D (s ∷ []) rest) ∙ (ap (λ (xs : List ℕ). xs ++ rest) (sym sent) ∙ serials_split (next_place d.ring + 1) d.ring.laid) in
    let below : Every (λ x. x < s) D = (rise_seam 0 D s rest d.accepted (subst (λ (xs : List ℕ). Rise 0 xs d.accepted) (sym split) (laid_rise d h.serials))).0 in
    let nd : is_among D s ≡ false = not_among D s below in
    let np : is_among d.placed s ≡ false = not_among d.placed s (every-weaker (λ k. is_among D k ≡ true) (λ k. k < s) d.placed (λ k z. among_every (λ x. x < s) D k below z) h.answers.dispatched) in
    let m : turned s Waiting Out us ≡ map f us = turned_map s Waiting (in_state Out) 0 us d.accepted (rows_rise d h.serials) in
    let rows : SameRows us (turned s Waiting Out us) = rows-turned (is_at s Waiting) (in_state Out) us (state_kept Out) in
    let ser = serials_same d (turned s Waiting Out us) rows h.serials in
    let room = room_same d (turned s Waiting Out us) rows h.room in
    let new : Every (λ u. state_fits (is_among (D ++ s ∷ []) u.serial) (is_among d.placed u.serial) (is_among (take (published_commands d.ring) d.placed) u.serial) d.attached u.state (is_some u.reply) ≡ true) (map f us) =
    every-map f (λ u. is_right d u ≡ true) (λ u. state_fits (is_among (D ++ s ∷ []) u.serial) (is_among d.placed u.serial) (is_among (take (published_commands d.ring) d.placed) u.serial) d.attached u.state (is_some u.reply) ≡ true) us
    (λ u k. sent_row D d.placed (take (published_commands d.ring) d.placed) d.attached s u a nd np k) h.answers.states in
    record {
      settings = h.settings;
      ring = ring_passed d i e h.ring;
      serials = record { rise = ser.rise; order = ser.order; laid = ser.laid; accounted = ser.accounted };
      answers = record {
        published = h.answers.published;
        differ = h.answers.differ;
        dispatched = subst (λ (xs : List ℕ). Every (λ k. is_among xs k ≡ true) d.placed) (sym sent)
            (every-weaker (λ k. is_among D k ≡ true) (λ k. is_among (D ++ s ∷ []) k ≡ true) d.placed (λ k z. among-append D (s ∷ []) k ∙ or_left (is_among D k) (is_among (s ∷ []) k) z) h.answers.dispatched);
        states = subst (λ (xs : List ℕ). Every (λ u. state_fits (is_among xs u.serial) (is_among d.placed u.serial) (is_among (take (published_commands d.ring) d.placed) u.serial) d.attached u.state (is_some u.reply) ≡ true) (turned s Waiting Out us)) (sym sent)
            (subst (λ (vs : List Unfinished). Every (λ u. state_fits (is_among (D ++ s ∷ []) u.serial) (is_among d.placed u.serial) (is_among (take (published_commands d.ring) d.placed) u.serial) d.attached u.state (is_some u.reply) ≡ true) vs) (sym m) new);
        replies = subst (λ (vs : List Unfinished). Every (λ u. IfSome u.reply (ReplyFits u.command)) vs) (sym m)
            (every-map f (λ u. IfSome u.reply (ReplyFits u.command)) (λ u. IfSome u.reply (ReplyFits u.command)) us (λ u k. kept_reply (is_at s Waiting u) u k) h.answers.replies);
        in_order = h.answers.in_order;
        parked = ap (parked_rightly d.settings.flags.ooo) m
            ∙ (parked_kept d.settings.flags.ooo f us (λ u. keeps_state Parked s Waiting Out u refl refl) (λ u. keeps_state Placed s Waiting Out u refl refl) ∙ h.answers.parked);
      };
      room = record { blocks = room.blocks; delayed = room.delayed; none = room.none; now = room.now };
    }
  where
    kept_reply : (b : Bool) (u : Unfinished) → IfSome u.reply (ReplyFits u.command) → let v : Unfinished = if b then in_state Out u else u in IfSome v.reply (ReplyFits v.command)
    kept_reply true u k = k
    kept_reply false u k = k

item_sent : (d : DeviceState) (n : ℕ) (l : Laid) → d.attached ≡ true → next_item d ≡ Some (record { len = n; laid = l }) → IsSound d → IsSound (record d { ring = passed d.ring; unfinished = after_item d.unfinished (record { len = n; laid = l }) })
item_sent d n Pad a e h = other_sent d (record { len = n; laid = Pad }) e refl h
item_sent d n (Tmr k ss) a e h = other_sent d (record { len = n; laid = Tmr k ss }) e refl h
item_sent d n (Cmd s c) a e h = command_sent d n s c a e h

item_found : (d : DeviceState) (o : Option Item) → d.attached ≡ true → next_item d ≡ o → IsSound d → IsSound (found_item d o)
item_found d None a e h = h
item_found d (Some i) a e h = item_sent d i.len i.laid a e h

pub sound_after_dispatch : (d : DeviceState) → IsSound d → IsSound (after_dispatch d)
unfolding after_dispatch
sound_after_dispatch d h =
    let P : Bool → Type 0 = λ b. IsSound (cond b (found_item d (next_item d)) d) in
    ⊎_elim
    (λ (e : d.attached ≡ true). subst P (sym e) (item_found d (next_item d) e refl h))
    (λ (e : d.attached ≡ false). subst P (sym e) h)
    (cases_Bool d.attached)

-- ==== handle

handled_fits : (dispatched placed published attached : Bool) (r : Bool) → state_fits dispatched placed published attached Out r ≡ true → state_fits dispatched placed published attached Handled true ≡ true
handled_fits true false p true r h = refl
handled_fits true false p false r h = absurd (false≢true h)
handled_fits true true p q r h = absurd (false≢true h)
handled_fits false b p q r h = absurd (false≢true h)

reply_same : (reply : ReplyData) (u : Unfinished) → Same u (with_reply reply u)
reply_same reply u = record { serial = refl; command = refl; expired = refl }

handled_row : (s : ℕ) (reply : ReplyData) (D P A : List ℕ) (at : Bool) (u : Unfinished) →
    state_fits (is_among D u.serial) (is_among P u.serial) (is_among A u.serial) at u.state (is_some u.reply) ≡ true →
    let v : Unfinished = turning (is_at s Out) (with_reply reply) u in
    state_fits (is_among D v.serial) (is_among P v.serial) (is_among A v.serial) at v.state (is_some v.reply) ≡ true
handled_row s reply D P A at u h =
    ⊎_elim
    (λ (e : is_at s Out u ≡ true).
    let t : u.state ≡ Out = state_at s Out u e in
    let h' : state_fits (is_among D u.serial) (is_among P u.serial) (is_among A u.serial) at Out (is_some u.reply) ≡ true = rw t at h in
    rw e (handled_fits (is_among D u.serial) (is_among P u.serial) (is_among A u.serial) at (is_some u.reply) h'))
    (λ (e : is_at s Out u ≡ false). rw e h)
    (cases_Bool (is_at s Out u))

keeps_handled : (t : CommandState) (s : ℕ) (reply : ReplyData) (u : Unfinished) → same_state Out t ≡ false → same_state Handled t ≡ false → has_state t (turning (is_at s Out) (with_reply reply) u) ≡ has_state t u
keeps_handled t s reply u h k =
    ⊎_elim
    (λ (e : is_at s Out u ≡ true). let q : u.state ≡ Out = state_at s Out u e in let z : same_state u.state t ≡ false = ap (λ x. same_state x t) q ∙ h in rw (e, z) k)
    (λ (e : is_at s Out u ≡ false). rw e refl)
    (cases_Bool (is_at s Out u))

-- the first that passes is at its place
first_replies : (s : ℕ) (reply : ReplyData) (us : List Unfinished) (u : Unfinished) → first_of (is_at s Out) us ≡ Some u → ReplyFits u.command reply → Every (λ v. IfSome v.reply (ReplyFits v.command)) us → Every (λ v. IfSome v.reply (ReplyFits v.command)) (with_first (is_at s Out) (with_reply reply) us)
first_replies s reply [] u e fits h = tt
first_replies s reply (v ∷ us) u e fits h =
    ⊎_elim
    (λ (z : is_at s Out v ≡ true).
    let k : Some v ≡ Some u = rw z at e in
    let q : v ≡ u = cc in
    let w : ReplyFits v.command reply = subst (λ (x : Unfinished). ReplyFits x.command reply) (sym q) fits in
    rw z (w, h.1))
    (λ (z : is_at s Out v ≡ false). let k : first_of (is_at s Out) us ≡ Some u = rw z at e in rw z (h.0, first_replies s reply us u k fits h.1))
    (cases_Bool (is_at s Out v))

pub sound_after_handle : (d : DeviceState) (s : ℕ) (reply : ReplyData) (u : Unfinished) → IsSound d → command_out d s ≡ Some u → ReplyFits u.command reply → IsSound (after_handle d s reply)
unfolding after_handle
sound_after_handle d s reply u h e fits =
    let us = d.unfinished in
    let f : Unfinished → Unfinished = turning (is_at s Out) (with_reply reply) in
    let vs : List Unfinished = with_first (is_at s Out) (with_reply reply) us in
    let m : vs ≡ map f us = turned_map s Out (with_reply reply) 0 us d.accepted (rows_rise d h.serials) in
    let rows : SameRows us vs = rows-turned (is_at s Out) (with_reply reply) us (reply_same reply) in
    record {
      settings = h.settings;
      ring = h.ring;
      serials = serials_same d vs rows h.serials;
      answers = record {
        published = h.answers.published;
        differ = h.answers.differ;
        dispatched = h.answers.dispatched;
        states = subst (λ (ws : List Unfinished). Every (λ v. is_right d v ≡ true) ws) (sym m)
            (every-map f (λ v. is_right d v ≡ true) (λ v. is_right d v ≡ true) us (λ v k. handled_row s reply (dispatched_serials d.ring) d.placed (take (published_commands d.ring) d.placed) d.attached v k) h.answers.states);
        replies = first_replies s reply us u e fits h.answers.replies;
        in_order = h.answers.in_order;
        parked = ap (parked_rightly d.settings.flags.ooo) m
            ∙ (parked_kept d.settings.flags.ooo f us (λ v. keeps_handled Parked s reply v refl refl) (λ v. keeps_handled Placed s reply v refl refl) ∙ h.answers.parked);
      };
      room = room_same d vs rows h.room;
    }
