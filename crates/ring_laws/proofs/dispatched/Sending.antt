-- The command that a dispatch sends out: the first that waits, where it stands among the unfinished ones.
use Rattle.std.proofs.Common.{◌≡◌, ℕ, ◌+◌, ◌<◌, ◌≤◌, ◌⊎◌, inl, inr, Bool, true, false, not, List, [], ◌∷◌, ◌++◌, drop, map, filter, refl, sym, ap, ◌∙◌, arith, suc, zero, Option, Some, None, slice_get, subst, ⊎_elim}
use Rattle.std.specs.List.{prefix_len}
use Rattle.std.specs.Option.{is_some}
use Rattle.std.proofs.lemmas.Bool.{cases_Bool, false≢true, ne_eqb, eq-eqb}
use Rattle.std.proofs.lemmas.List.{map-append}
use Rattle.tcmu_types.specs.Data.{CommandData, ReplyData}
use Rattle.tcmu_model.specs.declared.state.CommandState.TheVariants.{Waiting, Out}
use Rattle.tcmu_types.specs.Lists.{first_of, with_first, Every}
use Rattle.tcmu_model.specs.RingState.{RingState, Item, Laid, is_pad, serial_in, serials_in, next_place, published_commands}
use Rattle.tcmu_model.specs.RingState as ring
use Rattle.tcmu_model.specs.Device.{Unfinished, DeviceState, has_serial, has_state, is_at}
use Rattle.tcmu_model.specs.Events.{next_item, in_state, turned, answered}
use Rattle.tcmu_types.specs.Numbers.{is_among, Rise}
use Rattle.tcmu_model.specs.Sound.{IsLaid, IsSound, dispatched_serials, is_right, state_fits}
use Rattle.tcmu_model.proofs.Basics.{laid_rise, rows_rise, serials_split}
use Rattle.tcmu_model.proofs.CommandStates.{state_is}
use Rattle.tcmu_types.proofs.Everies.{every-weaker, every-both, every-back, every-mapped}
use Rattle.tcmu_model.proofs.Facts.{waiting_rows, waiting_undispatched}
use Rattle.tcmu_types.proofs.Rises.{rise_seam, rise_within, not_among}
use Rattle.tcmu_model.proofs.Rows.{undispatched_waits}
use Rattle.ring_laws.proofs.Places.{get-dropped}

-- ==== lists

pub first-split : {X : Type 0} (p : X → Bool) (xs ys : List X) (x : X) → Every (λ v. p v ≡ false) xs → p x ≡ true → first_of p (xs ++ x ∷ ys) ≡ Some x
first-split p [] ys x e h = rw h refl
first-split p (v ∷ xs) ys x e h = rw (e.0) (first-split p xs ys x e.1 h)

pub with-split : {X : Type 0} (p : X → Bool) (g : X → X) (xs ys : List X) (x : X) → Every (λ v. p v ≡ false) xs → p x ≡ true → with_first p g (xs ++ x ∷ ys) ≡ xs ++ g x ∷ ys
with-split p g [] ys x e h = rw h refl
with-split p g (v ∷ xs) ys x e h = rw (e.0) (ap (λ zs. v ∷ zs) (with-split p g xs ys x e.1 h))

-- ==== the next item's serial

pad_serials : (n : ℕ) (l : Laid) → is_pad (record { len = n; laid = l }) ≡ true → serial_in (record { len = n; laid = l }) ≡ []
pad_serials n ring.Pad h = refl
pad_serials n (ring.Cmd s c) h = absurd (false≢true h)
pad_serials n (ring.Tmr k ss) h = absurd (false≢true h)

behind_pads : (xs : List Item) (k : ℕ) (x : Item) → k ≡ prefix_len is_pad xs → slice_get xs k ≡ Some x → serials_in xs ≡ serial_in x ++ serials_in (drop (suc k) xs)
behind_pads [] k x e g = absurd (cc)
behind_pads (y ∷ xs) k x e g =
    ⊎_elim
    (λ (p : is_pad y ≡ true). let q : k ≡ 1 + prefix_len is_pad xs = rw p at e in padded k q g (pad_serials y.len y.laid p) (λ j a b. behind_pads xs j x a b))
    (λ (p : is_pad y ≡ false). let q : k ≡ 0 = rw p at e in first k q g)
    (cases_Bool (is_pad y))
  where
    first : (k : ℕ) → k ≡ 0 → slice_get (y ∷ xs) k ≡ Some x → serials_in (y ∷ xs) ≡ serial_in x ++ serials_in (drop (suc k) (y ∷ xs))
    first zero e g = let same : y ≡ x = cc in ap (λ z. serial_in z ++ serials_in xs) same
    first (suc k) e g = absurd (omega (arith, e))

    padded : (k : ℕ) → k ≡ 1 + prefix_len is_pad xs → slice_get (y ∷ xs) k ≡ Some x → serial_in y ≡ [] →
        ((j : ℕ) → j ≡ prefix_len is_pad xs → slice_get xs j ≡ Some x → serials_in xs ≡ serial_in x ++ serials_in (drop (suc j) xs)) → serials_in (y ∷ xs) ≡ serial_in x ++ serials_in (drop (suc k) (y ∷ xs))
    padded zero e g n more = absurd (omega (arith, e))
    padded (suc k) e g n more = ap (λ ys. ys ++ serials_in xs) n ∙ more k (omega (arith, e)) g

-- the serials that are not dispatched begin with the next item's
pub next_serials : (d : DeviceState) (x : Item) → next_item d ≡ Some x →
    serials_in (drop d.ring.dispatched d.ring.laid) ≡ serial_in x ++ serials_in (drop (suc (prefix_len is_pad (drop d.ring.dispatched d.ring.laid))) (drop d.ring.dispatched d.ring.laid))
next_serials d x g =
    let k : ℕ = prefix_len is_pad (drop d.ring.dispatched d.ring.laid) in
    behind_pads (drop d.ring.dispatched d.ring.laid) k x refl (sym (get-dropped d.ring.laid d.ring.dispatched k) ∙ g)

-- ==== the first command that waits

record FirstWaiting (us : List Unfinished) (s : ℕ) : Type 0 where
  command : Unfinished
  front : List Unfinished
  back : List Unfinished
  is : us ≡ front ++ command ∷ back
  serial : command.serial ≡ s
  waits : has_state Waiting command ≡ true

first_waiting : (us : List Unfinished) (s : ℕ) (ss : List ℕ) → map (λ u. u.serial) (filter (has_state Waiting) us) ≡ s ∷ ss → FirstWaiting us s
first_waiting [] s ss h = absurd (cc)
first_waiting (u ∷ us) s ss h =
    ⊎_elim
    (λ (e : has_state Waiting u ≡ true).
    let g : u.serial ∷ map (λ (v : Unfinished). v.serial) (filter (has_state Waiting) us) ≡ s ∷ ss = rw e at h in
    let q : u.serial ≡ s = cc in
    record { command = u; front = []; back = us; is = refl; serial = q; waits = e })
    (λ (e : has_state Waiting u ≡ false).
    let g : map (λ (v : Unfinished). v.serial) (filter (has_state Waiting) us) ≡ s ∷ ss = rw e at h in
    let f : FirstWaiting us s = first_waiting us s ss g in
    record { command = f.command; front = u ∷ f.front; back = f.back; is = ap (λ vs. u ∷ vs) f.is; serial = f.serial; waits = f.waits })
    (cases_Bool (has_state Waiting u))

-- a serial is laid with one command
not_laid : (is : List Item) (low s high : ℕ) (c : CommandData) → Rise low (serials_in is) high → s ≤ low → IsLaid is s c → ⊥
not_laid [] low s high c r l h = h
not_laid (i ∷ is) low s high c r l h = by_laid i.laid r h (λ k r' l' m. not_laid is k s high c r' l' m)
  where
    by_laid : (k : Laid) → Rise low (serial_in (record { len = i.len; laid = k }) ++ serials_in is) high → (k ≡ ring.Cmd s c) ⊎ IsLaid is s c →
        ((k : ℕ) → Rise k (serials_in is) high → s ≤ k → IsLaid is s c → ⊥) → ⊥
    by_laid ring.Pad r h more = ⊎_elim (λ (e : ring.Pad ≡ ring.Cmd s c). absurd (cc)) (λ (m : IsLaid is s c). more low r l m) h
    by_laid (ring.Tmr kind ss) r h more = ⊎_elim (λ (e : ring.Tmr kind ss ≡ ring.Cmd s c). absurd (cc)) (λ (m : IsLaid is s c). more low r l m) h
    by_laid (ring.Cmd q b) r h more =
        let up : low < q = r.0 in
        ⊎_elim (λ (e : ring.Cmd q b ≡ ring.Cmd s c). let k : q ≡ s = cc in absurd (omega arith)) (λ (m : IsLaid is s c). more q r.1 (omega arith) m) h

laid_there : (is : List Item) (i n s : ℕ) (c : CommandData) → slice_get is i ≡ Some (record { len = n; laid = ring.Cmd s c }) → IsLaid is s c
laid_there [] i n s c g = absurd (cc)
laid_there (y ∷ is) zero n s c g = let e : y ≡ record { len = n; laid = ring.Cmd s c } = cc in inl (ap (λ (z : Item). z.laid) e)
laid_there (y ∷ is) (suc i) n s c g = inr (laid_there is i n s c g)

one_command : (is : List Item) (low high i n s : ℕ) (b c : CommandData) → Rise low (serials_in is) high → IsLaid is s b → slice_get is i ≡ Some (record { len = n; laid = ring.Cmd s c }) → b ≡ c
one_command [] low high i n s b c r h g = absurd h
one_command (x ∷ is) low high zero n s b c r h g =
    let e : x ≡ record { len = n; laid = ring.Cmd s c } = cc in
    let l : x.laid ≡ ring.Cmd s c = ap (λ (z : Item). z.laid) e in
    let r' : Rise low (s ∷ serials_in is) high = subst (λ (z : Item). Rise low (serial_in z ++ serials_in is) high) e r in
    ⊎_elim
    (λ (k : x.laid ≡ ring.Cmd s b). let m : ring.Cmd s b ≡ ring.Cmd s c = sym k ∙ l in cc)
    (λ (m : IsLaid is s b). absurd (not_laid is s s high b r'.1 (omega arith) m)) h
one_command (x ∷ is) low high (suc i) n s b c r h g = by_laid x.laid r h (λ k r' m. one_command is k high i n s b c r' m g)
  where
    by_laid : (k : Laid) → Rise low (serial_in (record { len = x.len; laid = k }) ++ serials_in is) high → (k ≡ ring.Cmd s b) ⊎ IsLaid is s b →
        ((k : ℕ) → Rise k (serials_in is) high → IsLaid is s b → b ≡ c) → b ≡ c
    by_laid ring.Pad r h more = ⊎_elim (λ (e : ring.Pad ≡ ring.Cmd s b). absurd (cc)) (λ (m : IsLaid is s b). more low r m) h
    by_laid (ring.Tmr kind ss) r h more = ⊎_elim (λ (e : ring.Tmr kind ss ≡ ring.Cmd s b). absurd (cc)) (λ (m : IsLaid is s b). more low r m) h
    by_laid (ring.Cmd q a) r h more =
        ⊎_elim
        (λ (e : ring.Cmd q a ≡ ring.Cmd s b).
        let k : q ≡ s = cc in
        let r' : Rise s (serials_in is) high = subst (λ z. Rise z (serials_in is) high) k r.1 in
        absurd (not_laid is s s high c r' (omega arith) (laid_there is i n s c g)))
        (λ (m : IsLaid is s b). more q r.1 m) h

-- ==== the command that is sent

-- it is found behind those that are dispatched, and in front of the others that wait
pub record Sends (d : DeviceState) (s : ℕ) (c : CommandData) : Type 0 where
  pub command : Unfinished
  pub front : List Unfinished
  pub back : List Unfinished
  pub is : d.unfinished ≡ front ++ command ∷ back
  pub serial : command.serial ≡ s
  pub asks : command.command ≡ c
  pub state : command.state ≡ Waiting
  pub reply : command.reply ≡ None
  pub before : Every (λ v. has_serial s v ≡ false) front
  pub behind : Every (λ v. v.state ≡ Waiting) back

no_reply : (o : Option ReplyData) → is_some o ≡ false → o ≡ None
no_reply None h = refl
no_reply (Some r) h = absurd (false≢true (sym h))

pub sends : (d : DeviceState) (n s : ℕ) (c : CommandData) → IsSound d → next_item d ≡ Some (record { len = n; laid = ring.Cmd s c }) → Sends d s c
sends d n s c sound g =
    let L : List ℕ = serials_in d.ring.laid in
    let D : List ℕ = dispatched_serials d.ring in
    let rest : List ℕ = serials_in (drop (suc (prefix_len is_pad (drop d.ring.dispatched d.ring.laid))) (drop d.ring.dispatched d.ring.laid)) in
    let next : serials_in (drop d.ring.dispatched d.ring.laid) ≡ s ∷ rest = next_serials d (record { len = n; laid = ring.Cmd s c }) g in
    let f : FirstWaiting d.unfinished s = first_waiting d.unfinished s rest (waiting_rows d sound ∙ next) in
    let lr : Rise 0 (D ++ s ∷ rest) d.accepted = subst (λ (xs : List ℕ). Rise 0 xs d.accepted) (sym (serials_split d.ring.dispatched d.ring.laid) ∙ ap (λ ys. D ++ ys) next) (laid_rise d sound.serials) in
    let below : Every (λ k. k < s) D = (rise_seam 0 D s rest d.accepted lr).0 in
    let parts : map (λ (v : Unfinished). v.serial) d.unfinished ≡ map (λ (v : Unfinished). v.serial) f.front ++ s ∷ map (λ (v : Unfinished). v.serial) f.back =
    ap (map (λ (v : Unfinished). v.serial)) f.is ∙ map-append (λ (v : Unfinished). v.serial) f.front (f.command ∷ f.back)
    ∙ ap (λ k. map (λ (v : Unfinished). v.serial) f.front ++ k ∷ map (λ (v : Unfinished). v.serial) f.back) f.serial in
    let seam = rise_seam 0 (map (λ (v : Unfinished). v.serial) f.front) s (map (λ (v : Unfinished). v.serial) f.back) d.accepted (subst (λ (xs : List ℕ). Rise 0 xs d.accepted) parts (rows_rise d sound.serials)) in
    let least : Every (λ (v : Unfinished). v.serial < s) f.front = every-mapped (λ (v : Unfinished). v.serial) (λ k. k < s) f.front seam.0 in
    let most : Every (λ (v : Unfinished). (s < v.serial) × (v.serial ≤ d.accepted)) f.back =
    every-mapped (λ (v : Unfinished). v.serial) (λ k. (s < k) × (k ≤ d.accepted)) f.back (rise_within s (map (λ (v : Unfinished). v.serial) f.back) d.accepted seam.2) in
    let wu : Every (λ (v : Unfinished). has_state Waiting v ≡ not (is_among D v.serial)) (f.front ++ f.command ∷ f.back) =
    subst (Every (λ (v : Unfinished). has_state Waiting v ≡ not (is_among D v.serial))) f.is (waiting_undispatched d sound) in
    let wb = every-back (λ (v : Unfinished). has_state Waiting v ≡ not (is_among D v.serial)) f.front (f.command ∷ f.back) wu in
    let right = every-back (λ (v : Unfinished). is_right d v ≡ true) f.front (f.command ∷ f.back) (subst (Every (λ (v : Unfinished). is_right d v ≡ true)) f.is sound.answers.states) in
    let laid = every-back (λ (v : Unfinished). IsLaid d.ring.laid v.serial v.command) f.front (f.command ∷ f.back) (subst (Every (λ (v : Unfinished). IsLaid d.ring.laid v.serial v.command)) f.is sound.serials.laid) in
    let nd : is_among D f.command.serial ≡ false = ap (is_among D) f.serial ∙ not_among D s below in
    let fits : state_fits false (is_among d.placed f.command.serial) (is_among (answered d) f.command.serial) d.attached f.command.state (is_some f.command.reply) ≡ true = rw nd at right.0 in
    let w = undispatched_waits (is_among d.placed f.command.serial) (is_among (answered d) f.command.serial) d.attached f.command.state (is_some f.command.reply) fits in
    record {
      command = f.command;
      front = f.front;
      back = f.back;
      is = f.is;
      serial = f.serial;
      asks = one_command d.ring.laid 0 d.accepted (next_place d.ring) n s f.command.command c (laid_rise d sound.serials) (subst (λ k. IsLaid d.ring.laid k f.command.command) f.serial laid.0) g;
      state = w.0;
      reply = no_reply f.command.reply w.1;
      before = every-weaker (λ (v : Unfinished). v.serial < s) (λ (v : Unfinished). has_serial s v ≡ false) f.front (λ v l. ne_eqb v.serial s (λ q. below_not v.serial s l q)) least;
      behind = every-weaker (λ (v : Unfinished). ((s < v.serial) × (v.serial ≤ d.accepted)) × (has_state Waiting v ≡ not (is_among D v.serial))) (λ (v : Unfinished). v.state ≡ Waiting) f.back
          (λ v k. state_is v.state Waiting (k.1 ∙ ap not (not_among D v.serial (every-weaker (λ x. x < s) (λ x. x < v.serial) D (λ x l. omega (arith, l, k.0.0)) below))))
          (every-both (λ (v : Unfinished). (s < v.serial) × (v.serial ≤ d.accepted)) (λ (v : Unfinished). has_state Waiting v ≡ not (is_among D v.serial)) f.back most wb.1);
    }
  where
    below_not : (a b : ℕ) → a < b → a ≡ b → ⊥
    below_not a b l q = omega arith

-- ==== the device behind it

pub sent_is : (d : DeviceState) (s : ℕ) (c : CommandData) (h : Sends d s c) → turned s Waiting Out d.unfinished ≡ h.front ++ in_state Out h.command ∷ h.back
sent_is d s c h =
    let t : is_at s Waiting h.command ≡ true = (let e : has_serial s h.command ≡ true = eq-eqb h.command.serial s h.serial in let st : h.command.state ≡ Waiting = h.state in rw (e, st) refl) in
    let no : Every (λ v. is_at s Waiting v ≡ false) h.front = every-weaker (λ v. has_serial s v ≡ false) (λ v. is_at s Waiting v ≡ false) h.front (λ v k. rw k refl) h.before in
    ap (turned s Waiting Out) h.is ∙ with-split (is_at s Waiting) (in_state Out) h.front h.back h.command no t

pub found-sent : (d : DeviceState) (s : ℕ) (c : CommandData) (h : Sends d s c) → first_of (is_at s Out) (turned s Waiting Out d.unfinished) ≡ Some (in_state Out h.command)
found-sent d s c h =
    let t : is_at s Out (in_state Out h.command) ≡ true = (let e : has_serial s h.command ≡ true = eq-eqb h.command.serial s h.serial in rw e refl) in
    let no : Every (λ v. is_at s Out v ≡ false) h.front = every-weaker (λ v. has_serial s v ≡ false) (λ v. is_at s Out v ≡ false) h.front (λ v k. rw k refl) h.before in
    ap (first_of (is_at s Out)) (sent_is d s c h) ∙ first-split (is_at s Out) h.front h.back (in_state Out h.command) no t
