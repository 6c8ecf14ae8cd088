-- The jobs in hand stand in rising serial.
use Rattle.std.proofs.Common.{◌≡◌, ℕ, Bool, true, false, not, List, [], ◌∷◌, map, filter, sym, ap, ◌∙◌, arith, refl, subst, ⊎_elim}
use Rattle.std.proofs.lemmas.Bool.{cases_Bool}
use Rattle.tcmu_types.specs.Data.{SettingsData}
use Rattle.tcmu_types.specs.Numbers.{IsRising, Rise, RisesAbove, is_among}
use Rattle.tcmu_types.proofs.Rises.{rise_filter, rise_from, rise_front}
use Rattle.tcmu_model.specs.Device.{DeviceState, Unfinished}
use Rattle.tcmu_model.specs.BlockLists.{Taken}
use Rattle.tcmu_model.specs.RingState.{serials_in}
use Rattle.tcmu_model.specs.Sound.{IsSound, delayed_serials, finished}
use Rattle.region_model.specs.Sides.{InHand, PendingRow, UserState}
use Rattle.region_model.specs.Represents.{AreOut, JobsStand, is_out}

above_rises : (low : ℕ) (ss : List ℕ) (high : ℕ) → Rise low ss high → RisesAbove low ss
above_rises low [] high h = tt
above_rises low (s ∷ ss) high h = (h.0, above_rises s ss high h.1)

is_rising : (low : ℕ) (ss : List ℕ) (high : ℕ) → Rise low ss high → IsRising ss
is_rising low [] high h = tt
is_rising low (s ∷ ss) high h = above_rises s ss high h.1

-- of things that rise by a number, those that pass a test do too
rise_passing : {X : Type 0} (p : X → Bool) (g : X → ℕ) (low : ℕ) (xs : List X) (high : ℕ) → Rise low (map g xs) high → Rise low (map g (filter p xs)) high
rise_passing p g low [] high h = h
rise_passing p g low (x ∷ xs) high h =
    ⊎_elim
    (λ (e : p x ≡ true). rw e (h.0, rise_passing p g (g x) xs high h.1))
    (λ (e : p x ≡ false). let below = h.0 in rw e (rise_from (g x) low (map g (filter p xs)) high (omega arith) (rise_passing p g (g x) xs high h.1)))
    (cases_Bool (p x))

-- the serials in hand are those of the commands that are out
serials_out : (s : SettingsData) (rows : List PendingRow) (lists : List Taken) (hs : List InHand) (us : List Unfinished) → AreOut s rows lists hs us → map (λ (h : InHand). h.serial) hs ≡ map (λ (u : Unfinished). u.serial) us
serials_out s rows lists [] [] a = refl
serials_out s rows lists [] (u ∷ us) a = absurd a
serials_out s rows lists (h ∷ hs) [] a = absurd a
serials_out s rows lists (h ∷ hs) (u ∷ us) a = ap (λ n. n ∷ map (λ (h : InHand). h.serial) hs) a.0.0 ∙ ap (λ ns. u.serial ∷ ns) (serials_out s rows lists hs us a.1)

pub hand_rises : (user : UserState) (hand : List InHand) (rows : List PendingRow) (d : DeviceState) (lists : List Taken) → IsSound d → JobsStand user hand rows d lists → IsRising (map (λ (h : InHand). h.serial) hand)
hand_rises user hand rows d lists sound jobs =
    let laid : Rise 0 (serials_in d.ring.laid) d.accepted = rise_front 0 (serials_in d.ring.laid) (delayed_serials d.delayed) d.accepted sound.serials.rise in
    let open_ : Rise 0 (map (λ (u : Unfinished). u.serial) d.unfinished) d.accepted =
    subst (λ ss. Rise 0 ss d.accepted) (sym sound.serials.order) (rise_filter (λ s. not_finished s) 0 (serials_in d.ring.laid) d.accepted laid) in
    subst IsRising (sym (serials_out d.settings rows lists hand (filter is_out d.unfinished) jobs.out))
    (is_rising 0 (map (λ (u : Unfinished). u.serial) (filter is_out d.unfinished)) d.accepted (rise_passing is_out (λ (u : Unfinished). u.serial) 0 d.unfinished d.accepted open_))
  where
    not_finished : ℕ → Bool
    not_finished s = not (is_among (finished d) s)
