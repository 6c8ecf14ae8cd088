-- Where answers are placed in order: of a sound device's commands those whose answers are placed come first, those in hand next, and
-- those that are not dispatched last.
use Rattle.std.proofs.Common.{◌≡◌, ℕ, ◌<◌, ◌≤◌, Bool, true, false, not, cond, ◌||◌, ◌&&◌, List, [], ◌∷◌, ◌++◌, take, drop, map, filter, refl, sym, ap, ◌∙◌, arith, subst, ⊎_elim, eqb}
use Rattle.std.specs.List.{list_any}
use Rattle.std.specs.Option.{is_some}
use Rattle.std.proofs.lemmas.Bool.{cases_Bool, false≢true, or_parts, ne_eqb}
use Rattle.std.proofs.lemmas.List.Elements.{filter-append}
use Rattle.tcmu_model.specs.declared.state.CommandState.{CommandState}
use Rattle.tcmu_model.specs.declared.state.CommandState.TheVariants.{Waiting, Handled, Parked, Placed, Lost}
use Rattle.tcmu_model.specs.RingState.{serials_in, cleared_commands}
use Rattle.tcmu_model.specs.Device.{Unfinished, DeviceState, has_state, is_at}
use Rattle.tcmu_model.specs.Events.{answered, is_in_hand, turned}
use Rattle.tcmu_types.specs.Numbers.{is_among, Rise}
use Rattle.tcmu_model.specs.Sound.{IsSound, dispatched_serials, finished}
use Rattle.tcmu_types.specs.Lists.{Every}
use Rattle.tcmu_model.proofs.Basics.{laid_rise, serials_split}
use Rattle.tcmu_model.proofs.CommandStates.{state_at, state_is}
use Rattle.tcmu_types.proofs.Everies.{every-back, every-both, every-filter, every-front, every-mapped, every-none, every-weaker, filter_all}
use Rattle.tcmu_model.proofs.Facts.{apart_behind, waiting_undispatched}
use Rattle.tcmu_types.proofs.Rises.{among-take, among_every, every-among, rise_from, rise_within}
use Rattle.tcmu_model.proofs.Standing.{answered_rows, in_hand_rows}
use Rattle.ring_laws.specs.Placed.{parked_in}
use Rattle.ring_laws.proofs.placed.PlacedAnswers.{serials_turned}

-- ==== numbers that rise

pub rise_back : (low : ℕ) (xs ys : List ℕ) (high : ℕ) → Rise low (xs ++ ys) high → Rise low ys high
rise_back low [] ys high r = r
rise_back low (x ∷ xs) ys high r = rise_from x low ys high (omega (arith, r.0)) (rise_back x xs ys high r.1)

-- behind one that is not in front none is
later_not : (low : ℕ) (xs ys : List ℕ) (high a b : ℕ) → Rise low (xs ++ ys) high → is_among xs a ≡ false → is_among (xs ++ ys) a ≡ true → a < b → is_among xs b ≡ false
later_not low [] ys high a b r n i l = refl
later_not low (x ∷ xs) ys high a b r n i l =
    let t = or_parts (eqb x a) (is_among xs a) n in
    let first : eqb x a ≡ false = t.0 in
    let rest : is_among (xs ++ ys) a ≡ true = rw first at i in
    let w = among_every (λ z. (x < z) × (z ≤ high)) (xs ++ ys) a (rise_within x (xs ++ ys) high r.1) rest in
    let e : eqb x b ≡ false = ne_eqb x b (λ q. never x a b w.0 l q) in
    rw e (later_not x xs ys high a b r.1 t.1 rest l)
  where
    never : (x a b : ℕ) → x < a → a < b → x ≡ b → ⊥
    never x a b k l q = omega arith

-- ==== lists that are cut

-- a list whose numbers are cut
pub record CutBy {X : Type 0} (f : X → ℕ) (xs : List X) (front back : List ℕ) : Type 0 where
  pub before : List X
  pub behind : List X
  pub joined : xs ≡ before ++ behind
  pub first : map f before ≡ front
  pub last : map f behind ≡ back

cut_by : {X : Type 0} (f : X → ℕ) (xs : List X) (front back : List ℕ) → map f xs ≡ front ++ back → CutBy f xs front back
cut_by f xs [] back h = record { before = []; behind = xs; joined = refl; first = refl; last = h }
cut_by f [] (n ∷ front) back h = absurd (cc)
cut_by f (x ∷ xs) (n ∷ front) back h =
    let t : map f xs ≡ front ++ back = cc in
    let q : f x ≡ n = cc in
    let c = cut_by f xs front back t in
    record {
      before = x ∷ c.before;
      behind = c.behind;
      joined = ap (λ ys. x ∷ ys) c.joined;
      first = ap (λ ns. f x ∷ ns) c.first ∙ ap (λ k. k ∷ front) q;
      last = c.last;
    }

-- ==== the commands in order

-- none in hand stands behind one that is not
abbrev pub HandFirst : List Unfinished → Type 0
HandFirst [] = Unit {0}
HandFirst (u ∷ us) = (is_in_hand u ≡ false → list_any is_in_hand us ≡ false) × HandFirst us

-- The commands behind the answers placed are those laid behind them, and those in hand come first; before them none is in hand.
pub record InOrder (d : DeviceState) (more : List Unfinished) : Type 0 where
  pub done : List Unfinished
  pub rows : d.unfinished ≡ done ++ more
  pub none : Every (λ u. is_in_hand u ≡ false) done
  pub hand : HandFirst more
  pub laid : serials_in d.ring.laid ≡ d.placed ++ map (λ u. u.serial) more
  pub rise : Rise 0 (serials_in d.ring.laid) d.accepted

hand_first : (low : ℕ) (xs ys : List ℕ) (high : ℕ) (from : ℕ) (us : List Unfinished) → Rise low (xs ++ ys) high → Rise from (map (λ u. u.serial) us) high →
    Every (λ u. is_among (xs ++ ys) u.serial ≡ true) us → Every (λ u. is_in_hand u ≡ is_among xs u.serial) us → HandFirst us
hand_first low xs ys high from [] r s i e = tt
hand_first low xs ys high from (u ∷ us) r s i e = (
  (λ n. every-none is_in_hand us
      (every-weaker (λ v. (is_in_hand v ≡ is_among xs v.serial) × ((u.serial < v.serial) × (v.serial ≤ high))) (λ v. is_in_hand v ≡ false) us
      (λ v k. k.0 ∙ later_not low xs ys high u.serial v.serial r (sym e.0 ∙ n) i.0 k.1.0)
      (every-both (λ v. is_in_hand v ≡ is_among xs v.serial) (λ v. (u.serial < v.serial) × (v.serial ≤ high)) us e.1
      (every-mapped (λ (v : Unfinished). v.serial) (λ k. (u.serial < k) × (k ≤ high)) us (rise_within u.serial (map (λ v. v.serial) us) high s.1))))),
  hand_first low xs ys high u.serial us r s.1 i.1 e.1,
)

answered_not : (b : Bool) (u : Unfinished) → u.state ≡ cond b Placed Lost → is_in_hand u ≡ false
answered_not true u e = rw e refl
answered_not false u e = rw e refl

-- on an attached device a command whose answer is not placed is in hand just where it is dispatched
in_hand_is : (d : DeviceState) → IsSound d → d.attached ≡ true → Every (λ u. is_among d.placed u.serial ≡ false → is_in_hand u ≡ is_among (dispatched_serials d.ring) u.serial) d.unfinished
in_hand_is d h a =
    every-weaker
    (λ u. (is_among (dispatched_serials d.ring) u.serial ≡ true → is_among d.placed u.serial ≡ false → (cond d.attached (is_in_hand u) (has_state Lost u && not (is_some u.reply))) ≡ true) × (has_state Waiting u ≡ not (is_among (dispatched_serials d.ring) u.serial)))
    (λ u. is_among d.placed u.serial ≡ false → is_in_hand u ≡ is_among (dispatched_serials d.ring) u.serial) d.unfinished
    (λ u k p.
    ⊎_elim
    (λ (e : is_among (dispatched_serials d.ring) u.serial ≡ true).
    let z : cond d.attached (is_in_hand u) (has_state Lost u && not (is_some u.reply)) ≡ true = k.0 e p in
    let y : is_in_hand u ≡ true = rw a at z in
    y ∙ sym e)
    (λ (e : is_among (dispatched_serials d.ring) u.serial ≡ false).
    let w : has_state Waiting u ≡ true = k.1 ∙ ap not e in
    let st : u.state ≡ Waiting = state_is u.state Waiting w in
    let y : is_in_hand u ≡ false = rw st refl in
    y ∙ sym e)
    (cases_Bool (is_among (dispatched_serials d.ring) u.serial)))
    (every-both
    (λ u. is_among (dispatched_serials d.ring) u.serial ≡ true → is_among d.placed u.serial ≡ false → (cond d.attached (is_in_hand u) (has_state Lost u && not (is_some u.reply))) ≡ true)
    (λ u. has_state Waiting u ≡ not (is_among (dispatched_serials d.ring) u.serial)) d.unfinished (in_hand_rows d h) (waiting_undispatched d h))

-- a sound device's commands are in order
pub in_order : (d : DeviceState) → IsSound d → d.attached ≡ true → d.settings.flags.ooo ≡ false → (more : List Unfinished) × InOrder d more
in_order d h a o =
    let b = h.answers.in_order o in
    let rest : List ℕ = b.0 in
    let serial : Unfinished → ℕ = λ u. u.serial in
    let keep : ℕ → Bool = λ s. not (is_among (finished d) s) in
    let laid : List ℕ = serials_in d.ring.laid in
    let D : List ℕ = dispatched_serials d.ring in
    let rising : Rise 0 laid d.accepted = laid_rise d h.serials in
    let r : Rise 0 (d.placed ++ rest) d.accepted = subst (λ (xs : List ℕ). Rise 0 xs d.accepted) b.1 rising in
    let apart : Every (λ y. is_among d.placed y ≡ false) rest = apart_behind 0 d.placed rest d.accepted r in
    let kept : Every (λ y. keep y ≡ true) rest = every-weaker (λ y. is_among d.placed y ≡ false) (λ y. keep y ≡ true) rest (λ y k. ap not (among-take (cleared_commands d.ring) d.placed y k)) apart in
    let e : map serial d.unfinished ≡ filter keep d.placed ++ rest =
    h.serials.order ∙ ap (filter keep) b.1 ∙ filter-append keep d.placed rest ∙ ap (λ ys. filter keep d.placed ++ ys) (filter_all keep rest kept) in
    let c = cut_by serial d.unfinished (filter keep d.placed) rest e in
    let split : (P : Unfinished → Type 0) → Every P d.unfinished → Every P (c.before ++ c.behind) = λ P p. subst (Every P) c.joined p in
    let before_placed : Every (λ u. is_among d.placed u.serial ≡ true) c.before =
    every-mapped serial (λ k. is_among d.placed k ≡ true) c.before (subst (Every (λ k. is_among d.placed k ≡ true)) (sym c.first) (every-filter keep (λ k. is_among d.placed k ≡ true) d.placed (every-among d.placed))) in
    let behind_apart : Every (λ u. is_among d.placed u.serial ≡ false) c.behind =
    every-mapped serial (λ k. is_among d.placed k ≡ false) c.behind (subst (Every (λ k. is_among d.placed k ≡ false)) (sym c.last) apart) in
    let behind_laid : Every (λ u. is_among laid u.serial ≡ true) c.behind =
    every-mapped serial (λ k. is_among laid k ≡ true) c.behind
    (subst (Every (λ k. is_among laid k ≡ true)) (sym c.last) (every-back (λ k. is_among laid k ≡ true) d.placed rest (subst (Every (λ k. is_among laid k ≡ true)) b.1 (every-among laid)))) in
    let cut : serials_in (take d.ring.dispatched d.ring.laid) ++ serials_in (drop d.ring.dispatched d.ring.laid) ≡ laid = serials_split d.ring.dispatched d.ring.laid in
    let back : List ℕ = serials_in (drop d.ring.dispatched d.ring.laid) in (
      c.behind,
      record {
        done = c.before;
        rows = c.joined;
        none = every-weaker (λ u. (is_among d.placed u.serial ≡ true) × (is_among d.placed u.serial ≡ true → (u.state ≡ cond (d.attached || is_among (answered d) u.serial) Placed Lost) × (is_some u.reply ≡ true))) (λ u. is_in_hand u ≡ false) c.before
            (λ u k. answered_not (d.attached || is_among (answered d) u.serial) u (k.1 k.0).0)
            (every-both (λ u. is_among d.placed u.serial ≡ true) (λ u. is_among d.placed u.serial ≡ true → (u.state ≡ cond (d.attached || is_among (answered d) u.serial) Placed Lost) × (is_some u.reply ≡ true)) c.before before_placed
            (every-front (λ u. is_among d.placed u.serial ≡ true → (u.state ≡ cond (d.attached || is_among (answered d) u.serial) Placed Lost) × (is_some u.reply ≡ true)) c.before c.behind (split _ (answered_rows d h))));
        hand = hand_first 0 D back d.accepted 0 c.behind (subst (λ (xs : List ℕ). Rise 0 xs d.accepted) (sym cut) rising)
            (subst (λ (xs : List ℕ). Rise 0 xs d.accepted) (sym c.last) (rise_back 0 d.placed rest d.accepted r))
            (subst (λ (xs : List ℕ). Every (λ u. is_among xs u.serial ≡ true) c.behind) (sym cut) behind_laid)
            (every-weaker (λ u. (is_among d.placed u.serial ≡ false) × (is_among d.placed u.serial ≡ false → is_in_hand u ≡ is_among D u.serial)) (λ u. is_in_hand u ≡ is_among D u.serial) c.behind (λ u k. k.1 k.0)
            (every-both (λ u. is_among d.placed u.serial ≡ false) (λ u. is_among d.placed u.serial ≡ false → is_in_hand u ≡ is_among D u.serial) c.behind behind_apart
            (every-back (λ u. is_among d.placed u.serial ≡ false → is_in_hand u ≡ is_among D u.serial) c.before c.behind (split _ (in_hand_is d h a)))));
        laid = b.1 ∙ ap (λ ys. d.placed ++ ys) (sym c.last);
        rise = rising;
      },
    )

-- ==== commands whose states turn

pub turned-behind : (s : ℕ) (a b : CommandState) (front back : List Unfinished) → Every (λ u. is_at s a u ≡ false) front → turned s a b (front ++ back) ≡ front ++ turned s a b back
turned-behind s a b [] back e = refl
turned-behind s a b (u ∷ front) back e = let n : is_at s a u ≡ false = e.0 in rw n (ap (λ us. u ∷ us) (turned-behind s a b front back e.1))

any-parked : (s : ℕ) (us : List Unfinished) → list_any is_in_hand (turned s Handled Parked us) ≡ list_any is_in_hand us
any-parked s [] = refl
any-parked s (u ∷ us) =
    ⊎_elim
    (λ (k : is_at s Handled u ≡ true). let st : u.state ≡ Handled = state_at s Handled u k in let n : is_in_hand u ≡ true = rw st refl in rw (k, n) refl)
    (λ (k : is_at s Handled u ≡ false). rw k (ap (λ b. is_in_hand u || b) (any-parked s us)))
    (cases_Bool (is_at s Handled u))

first-parked : (s : ℕ) (us : List Unfinished) → HandFirst us → HandFirst (turned s Handled Parked us)
first-parked s [] h = tt
first-parked s (u ∷ us) h =
    ⊎_elim
    (λ (k : is_at s Handled u ≡ true). rw k ((λ n. absurd (false≢true (sym n))), h.1))
    (λ (k : is_at s Handled u ≡ false). rw k ((λ n. any-parked s us ∙ h.0 n), first-parked s us h.1))
    (cases_Bool (is_at s Handled u))

-- one that is not in hand is neither handled nor parked
pub not_handled : (s : ℕ) (u : Unfinished) → is_in_hand u ≡ false → is_at s Handled u ≡ false
not_handled s u n =
    ⊎_elim
    (λ (k : is_at s Handled u ≡ true). let st : u.state ≡ Handled = state_at s Handled u k in let y : is_in_hand u ≡ true = rw st refl in absurd (false≢true (sym n ∙ y)))
    (λ (k : is_at s Handled u ≡ false). k)
    (cases_Bool (is_at s Handled u))

pub not_parked : (s : ℕ) (u : Unfinished) → is_in_hand u ≡ false → is_at s Parked u ≡ false
not_parked s u n =
    ⊎_elim
    (λ (k : is_at s Parked u ≡ true). let st : u.state ≡ Parked = state_at s Parked u k in let y : is_in_hand u ≡ true = rw st refl in absurd (false≢true (sym n ∙ y)))
    (λ (k : is_at s Parked u ≡ false). k)
    (cases_Bool (is_at s Parked u))

-- they stay in order as one is parked
pub in_order_parked : (d : DeviceState) (s : ℕ) (more : List Unfinished) → InOrder d more → InOrder (parked_in d s) (turned s Handled Parked more)
in_order_parked d s more h =
    record {
      done = h.done;
      rows = ap (turned s Handled Parked) h.rows ∙ turned-behind s Handled Parked h.done more (every-weaker (λ u. is_in_hand u ≡ false) (λ u. is_at s Handled u ≡ false) h.done (λ u k. not_handled s u k) h.none);
      none = h.none;
      hand = first-parked s more h.hand;
      laid = h.laid ∙ ap (λ ys. d.placed ++ ys) (sym (serials_turned s Handled Parked more));
      rise = h.rise;
    }
