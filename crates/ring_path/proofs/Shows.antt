-- What a region that stands for a device shows of it.
use Rattle.std.proofs.Common.{◌≡◌, ℕ, ◌-◌, ◌≤◌, ◌==◌, Bool, true, false, not, cond, List, [], ◌∷◌, length, Option, refl, ap, ◌∙◌, subst, arith, ⊎_elim}
use Rattle.std.specs.List.{count_by}
use Rattle.std.proofs.lemmas.Bool.{cases_Bool}
use Rattle.std.proofs.lemmas.List.Sums.{sum_by-cons}
use Rattle.tcmu_types.specs.declared.stat.Stat.{Stat}
use Rattle.tcmu_types.specs.declared.stat.Todo.{Todo}
use Rattle.tcmu_model.specs.declared.state.CommandState.TheVariants.{Waiting, Out, Handled, Parked, Placed, Lost}
use Rattle.tcmu_model.specs.Device.{DeviceState, Unfinished, has_state}
use Rattle.tcmu_model.specs.Drain.{nothing_to_do, todo_of}
use Rattle.tcmu_model.specs.Sound.{IsSound}
use Rattle.tcmu_model.specs.Events.{answered, count_in_hand, is_in_hand, is_losing, restart_answer, stat_answer}
use Rattle.region_model.specs.Regions.{RegionState}
use Rattle.region_model.specs.Sides.{InHand, TargetState, UserState}
use Rattle.ring_laws.specs.Restarted.{count_parked}
use Rattle.ring_laws.specs.SidesShow.{first_serial, stat_on, todo_on}
use Rattle.ring_laws.proofs.shown.StatSame.{stat_same}
use Rattle.ring_laws.proofs.shown.TodoSame.{todo_same}
use Rattle.target_side.specs.Showing as target
use Rattle.target_side.specs.declared.numbers.TargetNumbers.{TargetNumbers}
use Rattle.tcmu_path.proofs.Bounds.{few_rows}
use Rattle.user_lib.specs.Users as user
use Rattle.user_lib.specs.declared.numbers.UserNumbers.{UserNumbers}
use Rattle.ring_path.specs.Devices.{RingDevice}
use Rattle.ring_path.specs.Hands.{has_reply, lacks_reply}
use Rattle.ring_path.specs.Rings.{IsRing}

pub stat_shown : (r : RegionState) (t : TargetState) (u : UserState) (hand : List InHand) (b : Bool) (most : ℕ) (k : RingDevice) → IsRing r t u hand b most k → stat_on b t u hand ≡ stat_answer k.state
stat_shown r t u hand b most k h =
    let p = h.stands.represents in ap (λ (x : Bool). stat_on x t u hand) h.attached ∙ stat_same r.front t u hand k.state k.lists h.stands.sound h.stands.owned p.ring p.jobs p.target p.side

pub todo_shown : (r : RegionState) (t : TargetState) (u : UserState) (hand : List InHand) (b : Bool) (most : ℕ) (k : RingDevice) → IsRing r t u hand b most k → todo_on b t u hand ≡ todo_of k.state
todo_shown r t u hand b most k h =
    let p = h.stands.represents in ap (λ (x : Bool). todo_on x t u hand) h.attached ∙ todo_same r.front t u hand k.state k.lists h.stands.sound h.stands.owned p.ring p.jobs p.target p.side

-- ==== what the sides count

-- counts of commands of one ring
pub record StatFits (t : TargetState) (u : UserState) (hand : List InHand) (b : Bool) : Type 0 where
  pub waiting : t.laid - u.dispatched ≤ 65536
  pub out : count_by lacks_reply hand ≤ 65536
  pub handled : count_by has_reply hand ≤ 65536
  pub parked : count_parked u.jobs ≤ 65536
  pub placed : cond {A = ℕ} b u.placed u.published - t.cleared ≤ 65536
  pub lost : cond {A = ℕ} b 0 (u.dispatched - u.published) ≤ 65536

count_few : {X : Type 0} (p : X → Bool) (xs : List X) → count_by p xs ≤ length xs
count_few p [] = omega arith
count_few p (x ∷ xs) =
    let rest : count_by p xs ≤ length xs = count_few p xs in
    let c = sum_by-cons (λ y. cond {A = ℕ} (p y) 1 0) x xs in
    ⊎_elim
    (λ (e : p x ≡ true). let one : ◌≡◌ {A = ℕ} (cond (p x) 1 0) 1 = ap (λ b. cond {A = ℕ} b 1 0) e in omega (arith, c, one, rest))
    (λ (e : p x ≡ false). let none : ◌≡◌ {A = ℕ} (cond (p x) 1 0) 0 = ap (λ b. cond {A = ℕ} b 1 0) e in omega (arith, c, none, rest))
    (cases_Bool (p x))

fits : (n : ℕ) (p : Unfinished → Bool) (d : DeviceState) → IsSound d → n ≡ count_by p d.unfinished → n ≤ 65536
fits n p d sound e = let a = count_few p d.unfinished in let b = few_rows d sound in omega (arith, a, b, e)

pub in_hand_few : (d : DeviceState) → IsSound d → count_in_hand d ≤ 65536
in_hand_few d sound = let a = count_few is_in_hand d.unfinished in let b = few_rows d sound in omega (arith, a, b)

pub losing_few : (d : DeviceState) → IsSound d → restart_answer d ≤ 65536
unfolding restart_answer
losing_few d sound = let a = count_few (is_losing (answered d)) d.unfinished in let b = few_rows d sound in omega (arith, a, b)

pub stat_fits : (r : RegionState) (t : TargetState) (u : UserState) (hand : List InHand) (b : Bool) (most : ℕ) (k : RingDevice) → IsRing r t u hand b most k → StatFits t u hand b
unfolding stat_on stat_answer
stat_fits r t u hand b most k h =
    let q = stat_shown r t u hand b most k h in
    let d : DeviceState = k.state in
    let sound = h.stands.sound in
    record {
      waiting = fits (t.laid - u.dispatched) (has_state Waiting) d sound (ap (λ (s : Stat). s.waiting) q);
      out = fits (count_by lacks_reply hand) (has_state Out) d sound (ap (λ (s : Stat). s.out) q);
      handled = fits (count_by has_reply hand) (has_state Handled) d sound (ap (λ (s : Stat). s.handled) q);
      parked = fits (count_parked u.jobs) (has_state Parked) d sound (ap (λ (s : Stat). s.parked) q);
      placed = fits (cond b u.placed u.published - t.cleared) (has_state Placed) d sound (ap (λ (s : Stat). s.placed) q);
      lost = fits (cond b 0 (u.dispatched - u.published)) (has_state Lost) d sound (ap (λ (s : Stat). s.lost) q);
    }

-- what is left of the dispatched without the published ones, of an attached device none
pub lost_same : (b : Bool) (published dispatched : ℕ) → cond b published dispatched - published ≡ cond {A = ℕ} b 0 (dispatched - published)
lost_same true published dispatched = omega arith
lost_same false published dispatched = refl

-- the stat that the sides' numbers make
abbrev pub stat_of : TargetNumbers → Bool → ℕ → ℕ → ℕ → ℕ → ℕ → ℕ → Stat
stat_of n b waiting out handled parked placed lost =
    record {
      now = n.now;
      blocked = n.blocked;
      attached = b;
      head = n.head;
      used = n.used;
      waiting = waiting;
      out = out;
      handled = handled;
      parked = parked;
      placed = placed;
      lost = lost;
      expired = n.expired;
      held = n.held;
      delayed = n.delayed;
    }

pub stat_told : (r : RegionState) (t : TargetState) (u : UserState) (hand : List InHand) (b : Bool) (most : ℕ) (k : RingDevice) (n : TargetNumbers) (waiting out handled parked placed lost : ℕ) → IsRing r t u hand b most k → n ≡ target.numbers_of t →
    waiting ≡ t.laid - u.dispatched → out ≡ count_by lacks_reply hand → handled ≡ count_by has_reply hand → parked ≡ count_parked u.jobs → placed ≡ cond b u.placed u.published - t.cleared → lost ≡ cond b 0 (u.dispatched - u.published) →
    stat_of n b waiting out handled parked placed lost ≡ stat_answer k.state
unfolding stat_on
stat_told r t u hand b most k n waiting out handled parked placed lost h e e1 e2 e3 e4 e5 e6 =
    ap (λ (x : TargetNumbers). stat_of x b waiting out handled parked placed lost) e ∙ same e1 e2 e3 e4 e5 e6 ∙ stat_shown r t u hand b most k h
  where
    same : {a a' b1 b1' c c' f f' g g' i i' : ℕ} → a ≡ a' → b1 ≡ b1' → c ≡ c' → f ≡ f' → g ≡ g' → i ≡ i' → stat_of (target.numbers_of t) b a b1 c f g i ≡ stat_of (target.numbers_of t) b a' b1' c' f' g' i'
    same p1 p2 p3 p4 p5 p6 = cc

-- ==== what is to be done

pub todo_detached : (r : RegionState) (t : TargetState) (u : UserState) (hand : List InHand) (b : Bool) (most : ℕ) (k : RingDevice) → IsRing r t u hand b most k → b ≡ false → nothing_to_do ≡ todo_of k.state
unfolding todo_on
todo_detached r t u hand b most k h e = subst (λ (x : Bool). todo_on x t u hand ≡ todo_of k.state) e (todo_shown r t u hand b most k h)

abbrev pub todo_by : Option ℕ → Option ℕ → Bool → Bool → Bool → Bool → Todo
todo_by h s p c e x = record { handle = h; respond = s; publish = p; clean = c; enter = e; dispatch = x }

pub todo_told : (r : RegionState) (t : TargetState) (u : UserState) (hand : List InHand) (b : Bool) (most : ℕ) (k : RingDevice) (n : TargetNumbers) (m : UserNumbers) (asked answered : Option ℕ) (tail : ℕ) → IsRing r t u hand b most k → b ≡ true →
    n ≡ target.numbers_of t → m ≡ user.numbers_of u → asked ≡ first_serial lacks_reply hand → answered ≡ first_serial has_reply hand → tail ≡ u.tail →
    todo_by asked answered m.moves (not (tail == n.cleaned)) n.enters (not (m.place == n.head)) ≡ todo_of k.state
unfolding todo_on
todo_told r t u hand b most k n m asked answered tail h a e f g i j =
    ap (λ (x : TargetNumbers). todo_by asked answered m.moves (not (tail == x.cleaned)) x.enters (not (m.place == x.head))) e
    ∙ ap (λ (x : UserNumbers). todo_by asked answered x.moves (not (tail == t.cleaned)) (target.numbers_of t).enters (not (x.place == (target.numbers_of t).head))) f
    ∙ ap (λ (x : Option ℕ). todo_by x answered (user.numbers_of u).moves (not (tail == t.cleaned)) (target.numbers_of t).enters (not (u.place == (target.numbers_of t).head))) g
    ∙ ap (λ (x : Option ℕ). todo_by (first_serial lacks_reply hand) x (user.numbers_of u).moves (not (tail == t.cleaned)) (target.numbers_of t).enters (not (u.place == (target.numbers_of t).head))) i
    ∙ ap (λ (x : ℕ). todo_by (first_serial lacks_reply hand) (first_serial has_reply hand) (user.numbers_of u).moves (not (x == t.cleaned)) (target.numbers_of t).enters (not (u.place == (target.numbers_of t).head))) j
    ∙ subst (λ (x : Bool). todo_on x t u hand ≡ todo_of k.state) a (todo_shown r t u hand b most k h)
