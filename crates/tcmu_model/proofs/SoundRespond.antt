-- A response leaves the device sound: answers are placed in the order of laying, or out of it, and none is parked in vain.
use Rattle.std.proofs.Common.{◌≡◌, ℕ, ◌+◌, ◌<◌, ◌≤◌, Bool, true, false, not, cond, List, [], ◌∷◌, ◌++◌, length, take, map, refl, sym, ap, ◌∙◌, arith, ⊎_elim, subst, ◌||◌, ◌&&◌, eqb, if◌then◌else◌, append_assoc, append-nil, length-append}
use Rattle.std.specs.List.{list_any, filter}
use Rattle.std.specs.Option.{is_some}
use Rattle.std.specs.Prelude.{IfSome}
use Rattle.std.proofs.lemmas.Bool.{cases_Bool, false≢true, or_parts, and_parts, and_from, eqb-true, eqb-false, eq-eqb, ne_eqb, or_right, true≢false}
use Rattle.std.proofs.lemmas.List.{take-append-le}
use Rattle.tcmu_model.specs.declared.state.CommandState.{CommandState}
use Rattle.tcmu_model.specs.declared.state.CommandState.TheVariants.{Waiting, Out, Handled, Parked, Placed, Lost}
use Rattle.tcmu_model.specs.States.{same_state}
use Rattle.tcmu_model.specs.RingState.{serials_in, published_commands, cleared_commands}
use Rattle.tcmu_model.specs.Device.{Unfinished, DeviceState, has_state, is_at}
use Rattle.tcmu_model.specs.Events.{in_state, turned, is_handled, with_parked, Placing, with_placed, run_placed, placed_by, placing, after_respond}
use Rattle.tcmu_types.specs.Numbers.{is_among, Rise, Begins, Differ}
use Rattle.tcmu_model.specs.Sound.{ReplyFits, finished, dispatched_serials, state_fits, is_right, parked_rightly, SerialsSound, IsSound}
use Rattle.tcmu_types.specs.Lists.{Every}
use Rattle.tcmu_model.proofs.CommandStates.{state_at, serial_at}
use Rattle.tcmu_types.proofs.Firsts.{any-with_first}
use Rattle.tcmu_types.proofs.Everies.{every-map, every-weaker, every-both, every-append, found, none-every}
use Rattle.tcmu_types.proofs.Rises.{among-append, among-take, among-filter, among_every, among-here, differ-push, not_above, not_among, rise_seam, every-among}
use Rattle.tcmu_model.proofs.Turning.{turning, turned_map}
use Rattle.tcmu_model.proofs.Basics.{laid_rise, rows_rise, rows_among, cleared_placed}
use Rattle.tcmu_model.proofs.Rows.{SameRows, rows-trans, rows-turned, rows-serials, rows-every, state_kept, serials_same, room_same, fits_attached, placed_stands, none_parked}

-- ==== rows while answers are placed: the state of each fits what is dispatched and placed so far

abbrev fits_in : List ℕ → List ℕ → Unfinished → Type 0
fits_in D P u = state_fits (is_among D u.serial) (is_among P u.serial) false true u.state (is_some u.reply) ≡ true

parks_row : (D P : List ℕ) (s : ℕ) (u : Unfinished) → fits_in D P u → fits_in D P (turning (is_at s Handled) (in_state Parked) u)
parks_row D P s u h =
    ⊎_elim
    (λ (e : is_at s Handled u ≡ true).
    let t : u.state ≡ Handled = state_at s Handled u e in
    let h' : state_fits (is_among D u.serial) (is_among P u.serial) false true Handled (is_some u.reply) ≡ true = rw t at h in
    rw e h')
    (λ (e : is_at s Handled u ≡ false). rw e h)
    (cases_Bool (is_at s Handled u))

-- a command in hand is dispatched, and its answer is not placed
parked_tells : (dispatched placed published : Bool) (r : Bool) → state_fits dispatched placed published true Parked r ≡ true → (dispatched ≡ true) × (placed ≡ false) × (r ≡ true)
parked_tells true false p true h = (refl, refl, refl)
parked_tells true false p false h = absurd (false≢true h)
parked_tells true true p r h = absurd (false≢true h)
parked_tells false b p r h = absurd (false≢true h)

above : (s k : ℕ) → s < k → eqb k s ≡ false
above s k l = ne_eqb k s (λ q. never s k l q)
  where
    never : (s k : ℕ) → s < k → k ≡ s → ⊥
    never s k l q = omega arith

-- where one command of a serial is in a state, each of that serial is
only_above : (s : ℕ) (t : CommandState) (us : List Unfinished) (low high : ℕ) → s ≤ low → Rise low (map (λ u. u.serial) us) high → Every (λ u. u.serial ≡ s → u.state ≡ t) us
only_above s t [] low high l r = tt
only_above s t (u ∷ us) low high l r = ((λ q. absurd (never u.serial r.0 q)), only_above s t us u.serial high (omega (arith, l, r.0)) r.1)
  where
    never : (k : ℕ) → low < k → k ≡ s → ⊥
    never k m q = omega arith

none_above : (s : ℕ) (t : CommandState) (us : List Unfinished) (low high : ℕ) → s ≤ low → Rise low (map (λ u. u.serial) us) high → list_any (is_at s t) us ≡ false
none_above s t [] low high l r = refl
none_above s t (u ∷ us) low high l r =
    let e : eqb u.serial s ≡ false = above s u.serial (omega (arith, l, r.0)) in
    rw e (none_above s t us u.serial high (omega (arith, l, r.0)) r.1)

only_one : (s : ℕ) (t : CommandState) (us : List Unfinished) (low high : ℕ) → Rise low (map (λ u. u.serial) us) high → list_any (is_at s t) us ≡ true → Every (λ u. u.serial ≡ s → u.state ≡ t) us
only_one s t [] low high r h = tt
only_one s t (u ∷ us) low high r h =
    ⊎_elim
    (λ (e : is_at s t u ≡ true). ((λ q. state_at s t u e), only_above s t us u.serial high (omega (arith, serial_at s t u e)) r.1))
    (λ (e : is_at s t u ≡ false).
    let rest : list_any (is_at s t) us ≡ true = rw e at h in
    ((λ q. absurd (false≢true (sym (none_above s t us u.serial high (omega (arith, q)) r.1) ∙ rest))), only_one s t us u.serial high r.1 rest))
    (cases_Bool (is_at s t u))

-- one is placed
places_row : (D P : List ℕ) (s : ℕ) (u : Unfinished) → fits_in D P u → (u.serial ≡ s → u.state ≡ Parked) → fits_in D (P ++ s ∷ []) (turning (is_at s Parked) (in_state Placed) u)
places_row D P s u h k =
    ⊎_elim
    (λ (e : eqb u.serial s ≡ true).
    let q : u.serial ≡ s = eqb-true u.serial s e in
    let t : u.state ≡ Parked = k q in
    let h' : state_fits (is_among D u.serial) (is_among P u.serial) false true Parked (is_some u.reply) ≡ true = rw t at h in
    let w = parked_tells (is_among D u.serial) (is_among P u.serial) false (is_some u.reply) h' in
    let at : is_at s Parked u ≡ true = rw (e, t) refl in
    let p1 : is_among (P ++ s ∷ []) u.serial ≡ true = among-append P (s ∷ []) u.serial ∙ or_right (is_among P u.serial) (is_among (s ∷ []) u.serial) (let z : eqb s u.serial ≡ true = eq-eqb s u.serial (sym q) in rw z refl) in
    rw (at, p1, w.0, w.2) refl)
    (λ (e : eqb u.serial s ≡ false).
    let at : is_at s Parked u ≡ false = rw e refl in
    let z : eqb s u.serial ≡ false = ne_eqb s u.serial (λ q. eqb-false u.serial s e (sym q)) in
    let p1 : is_among (P ++ s ∷ []) u.serial ≡ is_among P u.serial = among-append P (s ∷ []) u.serial ∙ none (is_among P u.serial) z in
    rw (at, p1) h)
    (cases_Bool (eqb u.serial s))
  where
    none : (b : Bool) → eqb s u.serial ≡ false → (b || is_among (s ∷ []) u.serial) ≡ b
    none true z = refl
    none false z = rw z refl

-- what holds of the answers placed so far and of the rows, which began as these
record PlacingSound (d : DeviceState) (p : Placing) : Type 0 where
  more : List ℕ
  grown : p.placed ≡ d.placed ++ more
  differ : Differ p.placed
  dispatched : Every (λ s. is_among (dispatched_serials d.ring) s ≡ true) p.placed
  states : Every (fits_in (dispatched_serials d.ring) p.placed) p.unfinished
  replies : Every (λ u. IfSome u.reply (ReplyFits u.command)) p.unfinished
  rows : SameRows d.unfinished p.unfinished

kept_reply : (b : Bool) (t : CommandState) (u : Unfinished) → IfSome u.reply (ReplyFits u.command) → let v : Unfinished = if b then in_state t u else u in IfSome v.reply (ReplyFits v.command)
kept_reply true t u k = k
kept_reply false t u k = k

rows_risen : (d : DeviceState) (us : List Unfinished) → SerialsSound d → SameRows d.unfinished us → Rise 0 (map (λ u. u.serial) us) d.accepted
rows_risen d us h s = subst (λ (xs : List ℕ). Rise 0 xs d.accepted) (sym (rows-serials d.unfinished us s)) (rows_rise d h)

one_placed : (d : DeviceState) (p : Placing) (s : ℕ) → SerialsSound d → list_any (is_at s Parked) p.unfinished ≡ true → PlacingSound d p → PlacingSound d (with_placed p s)
one_placed d p s g a h =
    let D : List ℕ = dispatched_serials d.ring in
    let us = p.unfinished in
    let r : Rise 0 (map (λ u. u.serial) us) d.accepted = rows_risen d us g h.rows in
    let f : Unfinished → Unfinished = turning (is_at s Parked) (in_state Placed) in
    let m : turned s Parked Placed us ≡ map f us = turned_map s Parked (in_state Placed) 0 us d.accepted r in
    let one : Every (λ u. u.serial ≡ s → u.state ≡ Parked) us = only_one s Parked us 0 d.accepted r a in
    let w = found (is_at s Parked) (fits_in D p.placed) us h.states a in
    let w' : state_fits (is_among D w.0.serial) (is_among p.placed w.0.serial) false true Parked (is_some w.0.reply) ≡ true = subst (λ (t : CommandState). state_fits (is_among D w.0.serial) (is_among p.placed w.0.serial) false true t (is_some w.0.reply) ≡ true) (state_at s Parked w.0 w.1) w.2 in
    let tells = parked_tells (is_among D w.0.serial) (is_among p.placed w.0.serial) false (is_some w.0.reply) w' in
    let q : w.0.serial ≡ s = serial_at s Parked w.0 w.1 in
    record {
      more = h.more ++ s ∷ [];
      grown = ap (λ (xs : List ℕ). xs ++ s ∷ []) h.grown ∙ append_assoc d.placed h.more (s ∷ []);
      differ = differ-push p.placed s h.differ (subst (λ (k : ℕ). is_among p.placed k ≡ false) q tells.1);
      dispatched = every-append (λ k. is_among D k ≡ true) p.placed (s ∷ []) h.dispatched (subst (λ (k : ℕ). is_among D k ≡ true) q tells.0, tt);
      states = subst (λ (vs : List Unfinished). Every (fits_in D (p.placed ++ s ∷ [])) vs) (sym m)
          (every-map f (λ u. fits_in D p.placed u × (u.serial ≡ s → u.state ≡ Parked)) (fits_in D (p.placed ++ s ∷ [])) us (λ u k. places_row D p.placed s u k.0 k.1)
          (every-both (fits_in D p.placed) (λ u. u.serial ≡ s → u.state ≡ Parked) us h.states one));
      replies = subst (λ (vs : List Unfinished). Every (λ u. IfSome u.reply (ReplyFits u.command)) vs) (sym m)
          (every-map f (λ u. IfSome u.reply (ReplyFits u.command)) (λ u. IfSome u.reply (ReplyFits u.command)) us (λ u k. kept_reply (is_at s Parked u) Placed u k) h.replies);
      rows = rows-trans d.unfinished us (turned s Parked Placed us) h.rows (rows-turned (is_at s Parked) (in_state Placed) us (state_kept Placed));
    }

-- ==== in order: all that are laid before the first that waits are placed

-- the commands that do not stand among these are placed
abbrev PlacedBut : List ℕ → List Unfinished → Type 0
PlacedBut ss us = Every (λ u. is_among ss u.serial ≡ false → u.state ≡ Placed) us

-- the first that is not placed has this serial, and is not parked
stops : (s : ℕ) (ss : List ℕ) (us : List Unfinished) (low high high' : ℕ) → Rise low (map (λ u. u.serial) us) high → Rise s ss high' → PlacedBut (s ∷ ss) us →
    is_among (map (λ u. u.serial) us) s ≡ true → Every (λ u. u.serial ≡ s → has_state Placed u ≡ false) us → list_any (is_at s Parked) us ≡ false → parked_rightly false us ≡ true
stops s ss [] low high high' r q b i n k = absurd (false≢true i)
stops s ss (u ∷ us) low high high' r q b i n k =
    let k' = or_parts (is_at s Parked u) (list_any (is_at s Parked) us) k in
    ⊎_elim
    (λ (e : eqb u.serial s ≡ true).
    let w : u.serial ≡ s = eqb-true u.serial s e in
    let no : has_state Placed u ≡ false = n.0 w in
    let other : has_state Parked u ≡ false = ap (λ t. t && has_state Parked u) (sym e) ∙ k'.0 in
    rw (no, other) refl)
    (λ (e : eqb u.serial s ≡ false).
    let rest : is_among (map (λ v. v.serial) us) s ≡ true = rw e at i in
    let w : u.serial < s = before us u.serial r.1 rest in
    let not_in : is_among (s ∷ ss) u.serial ≡ false = rw (above u.serial s w) (not_above s ss high' u.serial q (omega (arith, w))) in
    let t : u.state ≡ Placed = b.0 not_in in
    let yes : has_state Placed u ≡ true = rw t refl in
    rw yes (stops s ss us u.serial high high' r.1 q b.1 rest n.1 k'.1))
    (cases_Bool (eqb u.serial s))
  where
    before : (us : List Unfinished) (low : ℕ) → Rise low (map (λ v. v.serial) us) high → is_among (map (λ v. v.serial) us) s ≡ true → low < s
    before [] low r i = absurd (false≢true i)
    before (v ∷ us) low r i =
        ⊎_elim
        (λ (e : eqb v.serial s ≡ true). omega (arith, r.0, eqb-true v.serial s e))
        (λ (e : eqb v.serial s ≡ false). omega (arith, r.0, before us v.serial r.1 (rw e at i)))
        (cases_Bool (eqb v.serial s))

all_placed : (us : List Unfinished) → PlacedBut [] us → parked_rightly false us ≡ true
all_placed [] h = refl
all_placed (u ∷ us) h = let t : u.state ≡ Placed = h.0 refl in let yes : has_state Placed u ≡ true = rw t refl in rw yes (all_placed us h.1)

-- a placed answer's command is Placed, and so is not looked for again
passes_by : (D P : List ℕ) (s : ℕ) (ss : List ℕ) (us : List Unfinished) → is_among D s ≡ true → is_among P s ≡ true → Every (fits_in D P) us → PlacedBut (s ∷ ss) us → PlacedBut ss us
passes_by D P s ss us d p f b =
    every-weaker (λ u. fits_in D P u × (is_among (s ∷ ss) u.serial ≡ false → u.state ≡ Placed)) (λ u. is_among ss u.serial ≡ false → u.state ≡ Placed) us
    (λ u k n.
    ⊎_elim
    (λ (e : eqb s u.serial ≡ true).
    let q : s ≡ u.serial = eqb-true s u.serial e in
    let x : is_among D u.serial ≡ true = ap (is_among D) (sym q) ∙ d in
    let y : is_among P u.serial ≡ true = ap (is_among P) (sym q) ∙ p in
    let z : state_fits true true false true u.state (is_some u.reply) ≡ true = rw (x, y) at (k.0) in
    placed_stands false u.state (is_some u.reply) z)
    (λ (e : eqb s u.serial ≡ false). k.1 (rw e n))
    (cases_Bool (eqb s u.serial)))
    (every-both (fits_in D P) (λ u. is_among (s ∷ ss) u.serial ≡ false → u.state ≡ Placed) us f b)

-- placing one places no other anew
still_placed : (s : ℕ) (ss : List ℕ) (us : List Unfinished) → Every (λ u. u.serial ≡ s → u.state ≡ Parked) us → PlacedBut (s ∷ ss) us → PlacedBut ss (map (turning (is_at s Parked) (in_state Placed)) us)
still_placed s ss us one b =
    every-map (turning (is_at s Parked) (in_state Placed)) (λ u. (u.serial ≡ s → u.state ≡ Parked) × (is_among (s ∷ ss) u.serial ≡ false → u.state ≡ Placed)) (λ u. is_among ss u.serial ≡ false → u.state ≡ Placed) us
    (λ u k. turn u k.0 k.1) (every-both (λ u. u.serial ≡ s → u.state ≡ Parked) (λ u. is_among (s ∷ ss) u.serial ≡ false → u.state ≡ Placed) us one b)
  where
    turn : (u : Unfinished) → (u.serial ≡ s → u.state ≡ Parked) → (is_among (s ∷ ss) u.serial ≡ false → u.state ≡ Placed) → let v : Unfinished = turning (is_at s Parked) (in_state Placed) u in is_among ss v.serial ≡ false → v.state ≡ Placed
    turn u k b =
        ⊎_elim
        (λ (e : eqb u.serial s ≡ true).
        let t : u.state ≡ Parked = k (eqb-true u.serial s e) in
        let at : is_at s Parked u ≡ true = rw (e, t) refl in
        rw at (λ n. refl))
        (λ (e : eqb u.serial s ≡ false).
        let at : is_at s Parked u ≡ false = rw e refl in
        let z : eqb s u.serial ≡ false = ne_eqb s u.serial (λ q. eqb-false u.serial s e (sym q)) in
        rw at (λ n. b (rw z n)))
        (cases_Bool (eqb u.serial s))

record RunSound (d : DeviceState) (p : Placing) : Type 0 where
  sound : PlacingSound d p
  parked : parked_rightly false p.unfinished ≡ true

-- a serial that is laid and not placed is of a command that is there, on whatever rows
is_there : (d : DeviceState) (p : Placing) (s : ℕ) → IsSound d → PlacingSound d p → is_among (serials_in d.ring.laid) s ≡ true → is_among p.placed s ≡ false → is_among (map (λ u. u.serial) p.unfinished) s ≡ true
is_there d p s g h l n =
    let c : ℕ = cleared_commands d.ring in
    let n0 : is_among d.placed s ≡ false = (or_parts (is_among d.placed s) (is_among h.more s) (sym (among-append d.placed h.more s) ∙ (ap (λ (xs : List ℕ). is_among xs s) (sym h.grown) ∙ n))).0 in
    let nf : is_among (finished d) s ≡ false = among-take c d.placed s n0 in
    let a : is_among (filter (λ k. not (is_among (finished d) k)) (serials_in d.ring.laid)) s ≡ true = among-filter (λ k. not (is_among (finished d) k)) (serials_in d.ring.laid) s ∙ (let z : (not (is_among (finished d) s) && is_among (serials_in d.ring.laid) s) ≡ true = rw (nf, l) refl in z) in
    ap (λ (xs : List ℕ). is_among xs s) (rows-serials d.unfinished p.unfinished h.rows ∙ g.serials.order) ∙ a

not_placed : (D P : List ℕ) (s : ℕ) (u : Unfinished) → is_among P s ≡ false → fits_in D P u → u.serial ≡ s → has_state Placed u ≡ false
not_placed D P s u n h q =
    let z : is_among P u.serial ≡ false = ap (is_among P) q ∙ n in
    let k : state_fits (is_among D u.serial) false false true u.state (is_some u.reply) ≡ true = rw z at h in
    go (is_among D u.serial) u.state (is_some u.reply) k
  where
    go : (b : Bool) (t : CommandState) (r : Bool) → state_fits b false false true t r ≡ true → same_state t Placed ≡ false
    go b Waiting r k = refl
    go b Out r k = refl
    go b Handled r k = refl
    go b Parked r k = refl
    go true Placed r k = absurd (false≢true k)
    go false Placed r k = absurd (false≢true k)
    go b Lost r k = refl

run_sound : (d : DeviceState) (p : Placing) (low : ℕ) (ss : List ℕ) → IsSound d → Rise low ss d.accepted → Every (λ s. is_among (serials_in d.ring.laid) s ≡ true) ss → PlacedBut ss p.unfinished → PlacingSound d p → RunSound d (run_placed p ss)
run_sound d p low [] g r l b h = record { sound = h; parked = all_placed p.unfinished b }
run_sound d p low (s ∷ ss) g r l b h =
    let D : List ℕ = dispatched_serials d.ring in
    ⊎_elim
    (λ (e : is_among p.placed s ≡ true).
    let x : is_among D s ≡ true = among_every (λ k. is_among D k ≡ true) p.placed s h.dispatched e in
    rw e (run_sound d p s ss g r.1 l.1 (passes_by D p.placed s ss p.unfinished x e h.states b) h))
    (λ (e : is_among p.placed s ≡ false).
    ⊎_elim
    (λ (z : list_any (is_at s Parked) p.unfinished ≡ true).
    let rr : Rise 0 (map (λ u. u.serial) p.unfinished) d.accepted = rows_risen d p.unfinished g.serials h.rows in
    let m : turned s Parked Placed p.unfinished ≡ map (turning (is_at s Parked) (in_state Placed)) p.unfinished = turned_map s Parked (in_state Placed) 0 p.unfinished d.accepted rr in
    let one : Every (λ u. u.serial ≡ s → u.state ≡ Parked) p.unfinished = only_one s Parked p.unfinished 0 d.accepted rr z in
    let b' : PlacedBut ss (turned s Parked Placed p.unfinished) = subst (λ (vs : List Unfinished). PlacedBut ss vs) (sym m) (still_placed s ss p.unfinished one b) in
    rw (e, z) (run_sound d (with_placed p s) s ss g r.1 l.1 b' (one_placed d p s g.serials z h)))
    (λ (z : list_any (is_at s Parked) p.unfinished ≡ false).
    let rr : Rise 0 (map (λ u. u.serial) p.unfinished) d.accepted = rows_risen d p.unfinished g.serials h.rows in
    let x : parked_rightly false p.unfinished ≡ true = stops s ss p.unfinished 0 d.accepted d.accepted rr r.1 b (is_there d p s g h l.0 e)
    (every-weaker (fits_in D p.placed) (λ u. u.serial ≡ s → has_state Placed u ≡ false) p.unfinished (λ u k q. not_placed D p.placed s u e k q) h.states) z in
    rw (e, z) (record { sound = h; parked = x }))
    (cases_Bool (list_any (is_at s Parked) p.unfinished)))
    (cases_Bool (is_among p.placed s))

-- ==== in order: what is placed is a front of what is laid

run_rest : (p : Placing) (L : List ℕ) (high : ℕ) (done rest : List ℕ) → Rise 0 L high → L ≡ done ++ rest → p.placed ≡ done → Begins (run_placed p rest).placed L
run_rest p L high done [] r l e = ([], l ∙ ap (λ (xs : List ℕ). xs ++ []) (sym e))
run_rest p L high done (s ∷ rest) r l e =
    let below : Every (λ x. x < s) done = (rise_seam 0 done s rest high (subst (λ (xs : List ℕ). Rise 0 xs high) l r)).0 in
    let new : is_among p.placed s ≡ false = ap (λ (xs : List ℕ). is_among xs s) e ∙ not_among done s below in
    ⊎_elim
    (λ (z : list_any (is_at s Parked) p.unfinished ≡ true).
    rw (new, z) (run_rest (with_placed p s) L high (done ++ s ∷ []) rest r (l ∙ sym (append_assoc done (s ∷ []) rest)) (ap (λ (xs : List ℕ). xs ++ s ∷ []) e)))
    (λ (z : list_any (is_at s Parked) p.unfinished ≡ false). rw (new, z) (s ∷ rest, l ∙ ap (λ (xs : List ℕ). xs ++ s ∷ rest) (sym e)))
    (cases_Bool (list_any (is_at s Parked) p.unfinished))

run_begins : (p : Placing) (L : List ℕ) (high : ℕ) (done more rest : List ℕ) → Rise 0 L high → L ≡ done ++ (more ++ rest) → p.placed ≡ done ++ more → Begins (run_placed p (more ++ rest)).placed L
run_begins p L high done [] rest r l e = run_rest p L high done rest r l (e ∙ append-nil done)
run_begins p L high done (s ∷ more) rest r l e =
    let old : is_among p.placed s ≡ true = ap (λ (xs : List ℕ). is_among xs s) e ∙ among-here done s more in
    rw old (run_begins p L high (done ++ s ∷ []) more rest r (l ∙ sym (append_assoc done (s ∷ []) (more ++ rest))) (e ∙ sym (append_assoc done (s ∷ []) more)))

-- ==== the response

placed_sound : (d : DeviceState) (p : Placing) → IsSound d → d.attached ≡ true → PlacingSound d p → parked_rightly d.settings.flags.ooo p.unfinished ≡ true → (d.settings.flags.ooo ≡ false → Begins p.placed (serials_in d.ring.laid)) → IsSound (record d { unfinished = p.unfinished; placed = p.placed })
placed_sound d p g a h k b =
    let c : ℕ = cleared_commands d.ring in
    let l : length p.placed ≡ length d.placed + length h.more = ap length h.grown ∙ length-append d.placed h.more in
    let cut : take c p.placed ≡ take c d.placed = ap (take c) h.grown ∙ take-append-le c d.placed h.more (cleared_placed d g.ring g.answers) in
    let ser = serials_same d p.unfinished h.rows g.serials in
    let room = room_same d p.unfinished h.rows g.room in
    record {
      settings = g.settings;
      ring = g.ring;
      serials = record {
        rise = ser.rise;
        order = ser.order ∙ ap (λ (xs : List ℕ). filter (λ s. not (is_among xs s)) (serials_in d.ring.laid)) (sym cut);
        laid = ser.laid;
        accounted = ser.accounted;
      };
      answers = record {
        published = omega (arith, g.answers.published, l);
        differ = h.differ;
        dispatched = h.dispatched;
        states = every-weaker (fits_in (dispatched_serials d.ring) p.placed)
            (λ u. state_fits (is_among (dispatched_serials d.ring) u.serial) (is_among p.placed u.serial) (is_among (take (published_commands d.ring) p.placed) u.serial) d.attached u.state (is_some u.reply) ≡ true) p.unfinished
            (λ u z. ap (λ b. state_fits (is_among (dispatched_serials d.ring) u.serial) (is_among p.placed u.serial) (is_among (take (published_commands d.ring) p.placed) u.serial) b u.state (is_some u.reply)) a
            ∙ (fits_attached (is_among (dispatched_serials d.ring) u.serial) (is_among p.placed u.serial) (is_among (take (published_commands d.ring) p.placed) u.serial) false u.state (is_some u.reply) ∙ z)) h.states;
        replies = h.replies;
        in_order = b;
        parked = k;
      };
      room = record { blocks = room.blocks; delayed = room.delayed; none = room.none; now = room.now };
    }

abbrev begun : DeviceState → ℕ → Placing
begun d s = record { placed = d.placed; unfinished = with_parked d s }

begins : (d : DeviceState) (s : ℕ) → IsSound d → d.attached ≡ true → PlacingSound d (begun d s)
begins d s h a =
    let us = d.unfinished in
    let D : List ℕ = dispatched_serials d.ring in
    let f : Unfinished → Unfinished = turning (is_at s Handled) (in_state Parked) in
    let m : with_parked d s ≡ map f us = turned_map s Handled (in_state Parked) 0 us d.accepted (rows_rise d h.serials) in
    record {
      more = [];
      grown = sym (append-nil d.placed);
      differ = h.answers.differ;
      dispatched = h.answers.dispatched;
      states = subst (λ (vs : List Unfinished). Every (fits_in D d.placed) vs) (sym m)
          (every-map f (λ u. is_right d u ≡ true) (fits_in D d.placed) us
          (λ u k. parks_row D d.placed s u
          (fits_attached (is_among D u.serial) (is_among d.placed u.serial) false (is_among (take (published_commands d.ring) d.placed) u.serial) u.state (is_some u.reply)
          ∙ (ap (λ b. state_fits (is_among D u.serial) (is_among d.placed u.serial) (is_among (take (published_commands d.ring) d.placed) u.serial) b u.state (is_some u.reply)) (sym a) ∙ k))) h.answers.states);
      replies = subst (λ (vs : List Unfinished). Every (λ u. IfSome u.reply (ReplyFits u.command)) vs) (sym m)
          (every-map f (λ u. IfSome u.reply (ReplyFits u.command)) (λ u. IfSome u.reply (ReplyFits u.command)) us (λ u k. kept_reply (is_at s Handled u) Parked u k) h.answers.replies);
      rows = rows-turned (is_at s Handled) (in_state Parked) us (state_kept Parked);
    }

-- out of order none is parked
none_left : (s : ℕ) (us : List Unfinished) → Every (λ u. has_state Parked u ≡ false) us →
    Every (λ u. has_state Parked u ≡ false) (map (turning (is_at s Parked) (in_state Placed)) (map (turning (is_at s Handled) (in_state Parked)) us))
none_left s [] h = tt
none_left s (u ∷ us) h = (turn u h.0, none_left s us h.1)
  where
    turn : (u : Unfinished) → has_state Parked u ≡ false → has_state Parked (turning (is_at s Parked) (in_state Placed) (turning (is_at s Handled) (in_state Parked) u)) ≡ false
    turn u n =
        ⊎_elim
        (λ (e : is_at s Handled u ≡ true). let q : eqb u.serial s ≡ true = (and_parts _ _ e).0 in rw (e, q) refl)
        (λ (e : is_at s Handled u ≡ false).
        ⊎_elim
        (λ (z : is_at s Parked u ≡ true). rw (e, z) refl)
        (λ (z : is_at s Parked u ≡ false). rw (e, z) n)
        (cases_Bool (is_at s Parked u)))
        (cases_Bool (is_at s Handled u))

out_of_order : (d : DeviceState) (s : ℕ) → IsSound d → parked_rightly true d.unfinished ≡ true → parked_rightly true (turned s Parked Placed (with_parked d s)) ≡ true
out_of_order d s h k =
    let us = d.unfinished in
    let m : with_parked d s ≡ map (turning (is_at s Handled) (in_state Parked)) us = turned_map s Handled (in_state Parked) 0 us d.accepted (rows_rise d h.serials) in
    let r : Rise 0 (map (λ u. u.serial) (with_parked d s)) d.accepted = rows_risen d (with_parked d s) h.serials (rows-turned (is_at s Handled) (in_state Parked) us (state_kept Parked)) in
    let m' : turned s Parked Placed (with_parked d s) ≡ map (turning (is_at s Parked) (in_state Placed)) (with_parked d s) = turned_map s Parked (in_state Placed) 0 (with_parked d s) d.accepted r in
    let e : turned s Parked Placed (with_parked d s) ≡ map (turning (is_at s Parked) (in_state Placed)) (map (turning (is_at s Handled) (in_state Parked)) us) = m' ∙ ap (map (turning (is_at s Parked) (in_state Placed))) m in
    ap (parked_rightly true) e ∙ none_parked true (map (turning (is_at s Parked) (in_state Placed)) (map (turning (is_at s Handled) (in_state Parked)) us)) (none_left s us (none-every (has_state Parked) us (not-false (list_any (has_state Parked) us) k)))
  where
    not-false : (b : Bool) → not b ≡ true → b ≡ false
    not-false true h = absurd (false≢true h)
    not-false false h = refl

rows_laid : (d : DeviceState) (us : List Unfinished) → SerialsSound d → SameRows d.unfinished us → Every (λ u. is_among (serials_in d.ring.laid) u.serial ≡ true) us
rows_laid d us h s =
    rows-every (λ u. is_among (serials_in d.ring.laid) u.serial ≡ true) d.unfinished us (λ u v k z. ap (is_among (serials_in d.ring.laid)) k.serial ∙ z) s (rows_among d h)

placing_sound : (ooo : Bool) (d : DeviceState) (s : ℕ) → IsSound d → d.settings.flags.ooo ≡ ooo → d.attached ≡ true → is_handled d s ≡ true → IsSound (record d { unfinished = (placed_by ooo (begun d s) s (serials_in d.ring.laid)).unfinished; placed = (placed_by ooo (begun d s) s (serials_in d.ring.laid)).placed })
placing_sound true d s h o a z =
    let w : list_any (is_at s Parked) (with_parked d s) ≡ true = any-with_first (is_at s Handled) (is_at s Parked) (in_state Parked) d.unfinished (λ u k. and_from _ _ (and_parts _ _ k).0 refl) z in
    let p : parked_rightly true d.unfinished ≡ true = subst (λ (b : Bool). parked_rightly b d.unfinished ≡ true) o h.answers.parked in
    placed_sound d (with_placed (begun d s) s) h a (one_placed d (begun d s) s h.serials w (begins d s h a))
    (subst (λ (b : Bool). parked_rightly b (turned s Parked Placed (with_parked d s)) ≡ true) (sym o) (out_of_order d s h p))
    (λ q. absurd (true≢false (sym o ∙ q)))
placing_sound false d s h o a z =
    let b : PlacingSound d (begun d s) = begins d s h a in
    let l : Every (λ u. is_among (serials_in d.ring.laid) u.serial ≡ true) (with_parked d s) = rows_laid d (with_parked d s) h.serials b.rows in
    let r = run_sound d (begun d s) 0 (serials_in d.ring.laid) h (laid_rise d h.serials) (every-among (serials_in d.ring.laid))
    (every-weaker (λ u. is_among (serials_in d.ring.laid) u.serial ≡ true) (λ u. is_among (serials_in d.ring.laid) u.serial ≡ false → u.state ≡ Placed) (with_parked d s) (λ u k n. absurd (false≢true (sym n ∙ k))) l) b in
    placed_sound d (run_placed (begun d s) (serials_in d.ring.laid)) h a r.sound
    (subst (λ (t : Bool). parked_rightly t (run_placed (begun d s) (serials_in d.ring.laid)).unfinished ≡ true) (sym o) r.parked)
    (λ q. let f = h.answers.in_order q in
    subst (λ (ss : List ℕ). Begins (run_placed (begun d s) ss).placed (serials_in d.ring.laid)) (sym f.1) (run_begins (begun d s) (serials_in d.ring.laid) d.accepted [] d.placed f.0 (laid_rise d h.serials) f.1 refl))

pub handled_attached : (dispatched placed published attached : Bool) (r : Bool) → state_fits dispatched placed published attached Handled r ≡ true → attached ≡ true
handled_attached true false p true r h = refl
handled_attached true false p false r h = absurd (false≢true h)
handled_attached true true p q r h = absurd (false≢true h)
handled_attached false b p q r h = absurd (false≢true h)

pub sound_after_respond : (d : DeviceState) (s : ℕ) → IsSound d → IsSound (after_respond d s)
unfolding after_respond
sound_after_respond d s h =
    let P : Bool → Type 0 = λ b. IsSound (cond b (record d { unfinished = (placing d s).unfinished; placed = (placing d s).placed }) d) in
    ⊎_elim
    (λ (e : is_handled d s ≡ true).
    let w = found (is_at s Handled) (λ u. is_right d u ≡ true) d.unfinished h.answers.states e in
    let t : state_fits (is_among (dispatched_serials d.ring) w.0.serial) (is_among d.placed w.0.serial) (is_among (take (published_commands d.ring) d.placed) w.0.serial) d.attached Handled (is_some w.0.reply) ≡ true =
    subst (λ (x : CommandState). state_fits (is_among (dispatched_serials d.ring) w.0.serial) (is_among d.placed w.0.serial) (is_among (take (published_commands d.ring) d.placed) w.0.serial) d.attached x (is_some w.0.reply) ≡ true) (state_at s Handled w.0 w.1) w.2 in
    let a : d.attached ≡ true = handled_attached (is_among (dispatched_serials d.ring) w.0.serial) (is_among d.placed w.0.serial) (is_among (take (published_commands d.ring) d.placed) w.0.serial) d.attached (is_some w.0.reply) t in
    subst P (sym e) (placing_sound d.settings.flags.ooo d s h refl a e))
    (λ (e : is_handled d s ≡ false). subst P (sym e) h)
    (cases_Bool (is_handled d s))
