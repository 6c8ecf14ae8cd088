-- Rows that keep their serials, commands and expiry, while states and replies change.
use Rattle.std.proofs.Common.{◌≡◌, ℕ, Bool, true, false, not, cond, List, [], ◌∷◌, map, refl, sym, ap, ◌∙◌, arith, ⊎_elim, subst, ◌||◌, ◌&&◌, eqb}
use Rattle.std.specs.List.{list_any, count_by, sum_by}
use Rattle.std.proofs.lemmas.Bool.{cases_Bool, false≢true}
use Rattle.std.proofs.lemmas.List.Sums.{sum_by-cons}
use Rattle.tcmu_types.specs.Data.{CommandData}
use Rattle.tcmu_model.specs.declared.state.CommandState.{CommandState}
use Rattle.tcmu_model.specs.declared.state.CommandState.TheVariants.{Waiting, Out, Handled, Parked, Placed, Lost}
use Rattle.tcmu_types.specs.Lists.{with_first, Every}
use Rattle.tcmu_model.specs.Device.{Unfinished, DeviceState, has_state}
use Rattle.tcmu_model.specs.Events.{is_open, in_state, blocks_in, held_blocks}
use Rattle.tcmu_model.specs.Sound.{IsLaid, is_open_at, state_fits, parked_rightly, SerialsSound, RoomSound}

pub record Same (u v : Unfinished) : Type 0 where
  pub serial : v.serial ≡ u.serial
  pub command : v.command ≡ u.command
  pub expired : v.expired ≡ u.expired

abbrev pub SameRows : List Unfinished → List Unfinished → Type 0
SameRows [] [] = Unit {0}
SameRows (u ∷ us) (v ∷ vs) = Same u v × SameRows us vs
SameRows _ _ = ⊥

pub rows-refl : (us : List Unfinished) → SameRows us us
rows-refl [] = tt
rows-refl (u ∷ us) = (record { serial = refl; command = refl; expired = refl }, rows-refl us)

pub rows-trans : (us vs ws : List Unfinished) → SameRows us vs → SameRows vs ws → SameRows us ws
rows-trans [] [] [] a b = tt
rows-trans (u ∷ us) (v ∷ vs) (w ∷ ws) a b =
    (record { serial = b.0.serial ∙ a.0.serial; command = b.0.command ∙ a.0.command; expired = b.0.expired ∙ a.0.expired }, rows-trans us vs ws a.1 b.1)
rows-trans [] (v ∷ vs) ws a b = absurd a
rows-trans (u ∷ us) [] ws a b = absurd a
rows-trans [] [] (w ∷ ws) a b = absurd b
rows-trans (u ∷ us) (v ∷ vs) [] a b = absurd b

pub rows-map : (f : Unfinished → Unfinished) (us : List Unfinished) → ((u : Unfinished) → Same u (f u)) → SameRows us (map f us)
rows-map f [] h = tt
rows-map f (u ∷ us) h = (h u, rows-map f us h)

pub rows-turned : (p : Unfinished → Bool) (g : Unfinished → Unfinished) (us : List Unfinished) → ((u : Unfinished) → Same u (g u)) → SameRows us (with_first p g us)
rows-turned p g [] h = tt
rows-turned p g (u ∷ us) h =
    ⊎_elim
    (λ (e : p u ≡ true). rw e (h u, rows-refl us))
    (λ (e : p u ≡ false). rw e (record { serial = refl; command = refl; expired = refl }, rows-turned p g us h))
    (cases_Bool (p u))

pub rows-serials : (us vs : List Unfinished) → SameRows us vs → map (λ u. u.serial) vs ≡ map (λ u. u.serial) us
rows-serials [] [] h = refl
rows-serials (u ∷ us) (v ∷ vs) h = rw (h.0.serial) (ap (λ (xs : List ℕ). u.serial ∷ xs) (rows-serials us vs h.1))
rows-serials [] (v ∷ vs) h = absurd h
rows-serials (u ∷ us) [] h = absurd h

-- a sum of what serial, command and expiry tell
pub rows-sum : (f : Unfinished → ℕ) (us vs : List Unfinished) → ((u v : Unfinished) → Same u v → f v ≡ f u) → SameRows us vs → sum_by f vs ≡ sum_by f us
rows-sum f [] [] h k = refl
rows-sum f (u ∷ us) (v ∷ vs) h k = omega (arith, sum_by-cons f u us, sum_by-cons f v vs, h u v k.0, rows-sum f us vs h k.1)
rows-sum f [] (v ∷ vs) h k = absurd k
rows-sum f (u ∷ us) [] h k = absurd k

pub rows-every : (P : Unfinished → Type 0) (us vs : List Unfinished) → ((u v : Unfinished) → Same u v → P u → P v) → SameRows us vs → Every P us → Every P vs
rows-every P [] [] h k e = tt
rows-every P (u ∷ us) (v ∷ vs) h k e = (h u v k.0 e.0, rows-every P us vs h k.1 e.1)
rows-every P [] (v ∷ vs) h k e = absurd k
rows-every P (u ∷ us) [] h k e = absurd k

open_same : (k : ℕ) (u v : Unfinished) → Same u v → cond {A = ℕ} (is_open_at k v) 1 0 ≡ cond (is_open_at k u) 1 0
open_same k u v h = ap (λ (s : ℕ). cond {A = ℕ} (eqb s k && is_open v) 1 0) h.serial ∙ ap (λ (x : Bool). cond {A = ℕ} (eqb u.serial k && not x) 1 0) h.expired

-- serials and room stay sound
pub serials_same : (d : DeviceState) (vs : List Unfinished) → SameRows d.unfinished vs → SerialsSound d → SerialsSound (record d { unfinished = vs })
serials_same d vs s h =
    record {
      rise = h.rise;
      order = rows-serials d.unfinished vs s ∙ h.order;
      laid = rows-every (λ u. IsLaid d.ring.laid u.serial u.command) d.unfinished vs
          (λ u v k l. subst (λ (n : ℕ). IsLaid d.ring.laid n v.command) (sym k.serial) (subst (λ (c : CommandData). IsLaid d.ring.laid u.serial c) (sym k.command) l)) s h.laid;
      accounted = λ k.
          let e : count_by (is_open_at k) vs ≡ count_by (is_open_at k) d.unfinished = rows-sum (λ u. cond {A = ℕ} (is_open_at k u) 1 0) d.unfinished vs (open_same k) s in
          omega (arith, e, h.accounted k);
    }

pub room_same : (d : DeviceState) (vs : List Unfinished) → SameRows d.unfinished vs → RoomSound d → RoomSound (record d { unfinished = vs })
room_same d vs s h =
    record {
      blocks = let e : sum_by (λ u. blocks_in d u.command) vs ≡ held_blocks d = rows-sum (λ u. blocks_in d u.command) d.unfinished vs (λ u v k. ap (blocks_in d) k.command) s in omega (arith, e, h.blocks);
      delayed = h.delayed;
      none = h.none;
      now = h.now;
    }

-- ==== states

-- on an attached device it tells nothing whether an answer is published
pub fits_attached : (dispatched placed p q : Bool) (t : CommandState) (r : Bool) → state_fits dispatched placed p true t r ≡ state_fits dispatched placed q true t r
fits_attached a b p q Waiting r = refl
fits_attached a b p q Out r = refl
fits_attached a b p q Handled r = refl
fits_attached a b p q Parked r = refl
fits_attached a b p q Placed r = refl
fits_attached true b p q Lost r = refl
fits_attached false b p q Lost r = refl

-- a command that is not dispatched waits
pub undispatched_waits : (placed published attached : Bool) (t : CommandState) (r : Bool) → state_fits false placed published attached t r ≡ true → (t ≡ Waiting) × (r ≡ false)
undispatched_waits b p q Waiting false h = (refl, refl)
undispatched_waits b p q Waiting true h = absurd (false≢true h)
undispatched_waits b p q Out r h = absurd (false≢true h)
undispatched_waits b p q Handled r h = absurd (false≢true h)
undispatched_waits b p q Parked r h = absurd (false≢true h)
undispatched_waits b p q Placed r h = absurd (false≢true h)
undispatched_waits b p q Lost r h = absurd (false≢true h)

-- a command whose answer is placed on an attached device is Placed
pub placed_stands : (published : Bool) (t : CommandState) (r : Bool) → state_fits true true published true t r ≡ true → t ≡ Placed
placed_stands p Waiting r h = absurd (false≢true h)
placed_stands p Out r h = absurd (false≢true h)
placed_stands p Handled r h = absurd (false≢true h)
placed_stands p Parked r h = absurd (false≢true h)
placed_stands p Placed r h = refl
placed_stands p Lost r h = absurd (false≢true h)

-- ==== parking

-- a change that leaves those that are parked or placed
pub parked_kept : (ooo : Bool) (f : Unfinished → Unfinished) (us : List Unfinished) → ((u : Unfinished) → has_state Parked (f u) ≡ has_state Parked u) → ((u : Unfinished) → has_state Placed (f u) ≡ has_state Placed u) → parked_rightly ooo (map f us) ≡ parked_rightly ooo us
parked_kept true f us h k = ap not (none us)
  where
    none : (us : List Unfinished) → list_any (has_state Parked) (map f us) ≡ list_any (has_state Parked) us
    none [] = refl
    none (u ∷ us) = rw (h u) (ap (λ b. has_state Parked u || b) (none us))
parked_kept false f us h k = first us
  where
    first : (us : List Unfinished) → parked_rightly false (map f us) ≡ parked_rightly false us
    first [] = refl
    first (u ∷ us) =
        ⊎_elim
        (λ (e : has_state Placed u ≡ true). let z : has_state Placed (f u) ≡ true = k u ∙ e in rw (e, z) (first us))
        (λ (e : has_state Placed u ≡ false). let z : has_state Placed (f u) ≡ false = k u ∙ e in rw (e, z) (ap not (h u)))
        (cases_Bool (has_state Placed u))

-- where none is parked all is right
pub none_parked : (ooo : Bool) (us : List Unfinished) → Every (λ u. has_state Parked u ≡ false) us → parked_rightly ooo us ≡ true
none_parked true us h = none us h
  where
    none : (us : List Unfinished) → Every (λ u. has_state Parked u ≡ false) us → not (list_any (has_state Parked) us) ≡ true
    none [] h = refl
    none (u ∷ us) h = rw (h.0) (none us h.1)
none_parked false us h = first us h
  where
    first : (us : List Unfinished) → Every (λ u. has_state Parked u ≡ false) us → parked_rightly false us ≡ true
    first [] h = refl
    first (u ∷ us) h =
        ⊎_elim
        (λ (e : has_state Placed u ≡ true). rw e (first us h.1))
        (λ (e : has_state Placed u ≡ false). rw (e, h.0) refl)
        (cases_Bool (has_state Placed u))

pub state_kept : (t : CommandState) (u : Unfinished) → Same u (in_state t u)
state_kept t u = record { serial = refl; command = refl; expired = refl }
