-- The commands of a ring, counted, and the entry that the next answer goes into.
use Rattle.std.proofs.Common.{◌≡◌, ℕ, ◌+◌, ◌%◌, ◌≤◌, ◌<◌, ◌⊎◌, true, false, cond, List, [], ◌∷◌, length, take, drop, map, refl, sym, ap, ◌∙◌, arith, suc, zero, Some, slice_get, ⊎_elim}
use Rattle.std.proofs.lemmas.Bool.{cases_Bool, cases_lt}
use Rattle.std.proofs.lemmas.List.{take-take, length-take-le, take-append-drop}
use Rattle.std.proofs.lemmas.List.Sums.{sum_by-cons}
use Rattle.std.proofs.lemmas.Option.{slice_get_within}
use Rattle.tcmu_model.specs.RingState.{Item, lengths, used, commands_in, is_command}
use Rattle.tcmu_model.specs.Device.{DeviceState}
use Rattle.tcmu_model.specs.Sound.{IsSound}
use Rattle.tcmu_model.proofs.Basics.{rows_rise}
use Rattle.tcmu_model.proofs.Fronts.{commands_more}
use Rattle.region_model.specs.Picture.{place_of}
use Rattle.region_model.specs.Represents.{command_places}
use Rattle.ring_laws.specs.Placed.{HoldsItems, CanAnswer}
use Rattle.ring_laws.proofs.SoundRing.{holds}
use Rattle.ring_laws.proofs.laid.LaidIds.{command_long}
use Rattle.ring_laws.proofs.Places.{apart_in_ring, ends_within, used_is, lengths_more}
use Rattle.tcmu_types.proofs.Places.{get_append_left}
use Rattle.tcmu_types.proofs.Rises.{rise_differ}

-- ==== what placing an answer rests on

pub can_answer : (d : DeviceState) → IsSound d → CanAnswer d
can_answer d h =
    record {
      holds = holds d h;
      cleared = h.ring.cleared;
      published = h.ring.published;
      dispatched = h.ring.dispatched;
      answered = h.answers.published;
      differ = rise_differ 0 (map (λ u. u.serial) d.unfinished) d.accepted (rows_rise d h.serials);
      long = λ i x g c. command_long d i x h g c;
    }

-- ==== the k-th command of a ring

pub record NthCommand (size at : ℕ) (xs : List Item) (k : ℕ) : Type 0 where
  pub index : ℕ
  pub item : Item
  pub there : slice_get xs index ≡ Some item
  pub command : is_command item ≡ true
  pub before : commands_in (take index xs) ≡ k
  pub place : slice_get (command_places size at xs) k ≡ Some ((at + lengths (take index xs)) % size)

counted : (x : Item) (xs : List Item) → commands_in (x ∷ xs) ≡ cond (is_command x) 1 0 + commands_in xs
counted x xs = sum_by-cons (λ y. cond (is_command y) 1 0) x xs

further-on : (size at : ℕ) (x : Item) (xs : List Item) (i : ℕ) → (at + x.len + lengths (take i xs)) % size ≡ (at + lengths (take (suc i) (x ∷ xs))) % size
further-on size at x xs i = let s : lengths (x ∷ take i xs) ≡ x.len + lengths (take i xs) = sum_by-cons (λ y. y.len) x (take i xs) in let q : at + x.len + lengths (take i xs) ≡ at + lengths (x ∷ take i xs) = omega arith in ap (λ z. z % size) q

nth-further : (size at : ℕ) (x : Item) (xs : List Item) (k : ℕ) → is_command x ≡ false → NthCommand size (at + x.len) xs k → NthCommand size at (x ∷ xs) k
nth-further size at x xs k e n =
    let one : ◌≡◌ {A = ℕ} (cond (is_command x) 1 0) 0 = ap (λ b. cond b 1 0) e in
    let c : commands_in (x ∷ take n.index xs) ≡ cond (is_command x) 1 0 + commands_in (take n.index xs) = counted x (take n.index xs) in
    record { index = suc n.index; item = n.item; there = n.there; command = n.command; before = omega (arith, c, one, n.before); place = rw e (n.place ∙ ap Some (further-on size at x xs n.index)) }

nth-here : (size at : ℕ) (x : Item) (xs : List Item) (k : ℕ) → is_command x ≡ true → ((m : ℕ) → m < commands_in xs → NthCommand size (at + x.len) xs m) → k < 1 + commands_in xs → NthCommand size at (x ∷ xs) k
nth-here size at x xs zero e rec h =
    let z : ◌≡◌ {A = ℕ} (commands_in []) 0 = refl in let l : ◌≡◌ {A = ℕ} (lengths []) 0 = refl in let q : at ≡ at + lengths [] = omega arith in
    record { index = 0; item = x; there = refl; command = e; before = z; place = rw e (ap (λ y. Some (y % size)) q) }
nth-here size at x xs (suc k) e rec h =
    let one : ◌≡◌ {A = ℕ} (cond (is_command x) 1 0) 1 = ap (λ b. cond b 1 0) e in
    let n = rec k (omega arith) in
    let c : commands_in (x ∷ take n.index xs) ≡ cond (is_command x) 1 0 + commands_in (take n.index xs) = counted x (take n.index xs) in
    record { index = suc n.index; item = n.item; there = n.there; command = n.command; before = omega (arith, c, one, n.before); place = rw e (n.place ∙ ap Some (further-on size at x xs n.index)) }

pub nth-command : (size at : ℕ) (xs : List Item) (k : ℕ) → k < commands_in xs → NthCommand size at xs k
nth-command size at [] k h = let z : ◌≡◌ {A = ℕ} (commands_in []) 0 = refl in absurd (omega arith)
nth-command size at (x ∷ xs) k h =
    let c : commands_in (x ∷ xs) ≡ cond (is_command x) 1 0 + commands_in xs = counted x xs in
    ⊎_elim
    (λ (e : is_command x ≡ true).
    let one : ◌≡◌ {A = ℕ} (cond (is_command x) 1 0) 1 = ap (λ b. cond b 1 0) e in
    nth-here size at x xs k e (λ m l. nth-command size (at + x.len) xs m l) (omega (arith, c, one, h)))
    (λ (e : is_command x ≡ false).
    let one : ◌≡◌ {A = ℕ} (cond (is_command x) 1 0) 0 = ap (λ b. cond b 1 0) e in
    nth-further size at x xs k e (nth-command size (at + x.len) xs k (omega (arith, c, one, h))))
    (cases_Bool (is_command x))

-- a command before another is counted before it
pub counted-before : (xs : List Item) (i j : ℕ) (x : Item) → slice_get xs i ≡ Some x → is_command x ≡ true → i < j → commands_in (take i xs) + 1 ≤ commands_in (take j xs)
counted-before [] i j x g c h = absurd (cc)
counted-before (y ∷ ys) i zero x g c h = absurd (omega arith)
counted-before (y ∷ ys) zero (suc j) x g c h =
    let e : y ≡ x = cc in
    let one : ◌≡◌ {A = ℕ} (cond (is_command y) 1 0) 1 = ap (λ b. cond b 1 0) (ap is_command e ∙ c) in
    let z : ◌≡◌ {A = ℕ} (commands_in []) 0 = refl in
    omega (arith, counted y (take j ys), one, z)
counted-before (y ∷ ys) (suc i) (suc j) x g c h = omega (arith, counted y (take i ys), counted y (take j ys), counted-before ys i j x g c (omega arith))

-- ==== the entry of the next answer

-- two items that are not cleared do not meet
pub items_apart : (d : DeviceState) (i j : ℕ) (x y : Item) → HoldsItems d.ring → d.ring.cleared ≤ i → slice_get d.ring.laid i ≡ Some x → slice_get d.ring.laid j ≡ Some y → i < j →
    (place_of d.ring i + x.len ≤ place_of d.ring j) ⊎ (place_of d.ring j + y.len ≤ place_of d.ring i)
items_apart d i j x y holds c g h l =
    let r = d.ring in
    let p : ℕ = lengths (take i r.laid) in
    let q : ℕ = lengths (take j r.laid) in
    let big : 4096 ≤ r.size = holds.size in
    let us0 : used r < r.size = holds.room in
    let ui : lengths (take r.cleared r.laid) + used r ≡ lengths r.laid = used_is r in
    let more : lengths (take r.cleared r.laid) ≤ p = lengths_more r.laid r.cleared i c in
    let ends : q + y.len ≤ lengths r.laid = ends_within r.laid j y h in
    let next : p + x.len ≤ q = next-to r.laid i j x g l in
    apart_in_ring r.size p x.len q y.len (omega arith) next (omega (arith, ui, more, ends, us0)) (holds.whole i x g) (holds.whole j y h)
  where
    next-to : (xs : List Item) (i j : ℕ) (x : Item) → slice_get xs i ≡ Some x → i < j → lengths (take i xs) + x.len ≤ lengths (take j xs)
    next-to [] i j x g l = absurd (cc)
    next-to (z ∷ xs) i zero x g l = absurd (omega arith)
    next-to (z ∷ xs) zero (suc j) x g l = let e : z ≡ x = cc in let k : z.len ≡ x.len = ap (λ t. t.len) e in let s : lengths (z ∷ take j xs) ≡ z.len + lengths (take j xs) = sum_by-cons (λ t. t.len) z (take j xs) in let o : ◌≡◌ {A = ℕ} (lengths []) 0 = refl in omega arith
    next-to (z ∷ xs) (suc i) (suc j) x g l =
        let k : lengths (take i xs) + x.len ≤ lengths (take j xs) = next-to xs i j x g (omega arith) in
        let s : lengths (z ∷ take j xs) ≡ z.len + lengths (take j xs) = sum_by-cons (λ t. t.len) z (take j xs) in
        let t : lengths (z ∷ take i xs) ≡ z.len + lengths (take i xs) = sum_by-cons (λ t. t.len) z (take i xs) in
        omega arith

-- the entry that the answer goes into
pub record NextEntry (d : DeviceState) : Type 0 where
  pub index : ℕ
  pub item : Item
  pub there : slice_get d.ring.laid index ≡ Some item
  pub command : is_command item ≡ true
  pub before : commands_in (take index d.ring.laid) ≡ length d.placed
  pub uncleared : d.ring.cleared ≤ index
  pub dispatched : index < d.ring.dispatched
  pub place : slice_get (command_places d.ring.size 0 (take d.ring.dispatched d.ring.laid)) (length d.placed) ≡ Some (place_of d.ring index)

pub next-entry : (d : DeviceState) → CanAnswer d → length d.placed < commands_in (take d.ring.dispatched d.ring.laid) → NextEntry d
next-entry d sound h =
    let front = take d.ring.dispatched d.ring.laid in
    let n : NthCommand d.ring.size 0 front (length d.placed) = nth-command d.ring.size 0 front (length d.placed) h in
    let w : n.index < length front = slice_get_within front n.index n.item n.there in
    let lf : length front ≡ d.ring.dispatched = length-take-le d.ring.dispatched d.ring.laid sound.dispatched in
    let tk : take n.index front ≡ take n.index d.ring.laid = take-take n.index d.ring.dispatched d.ring.laid (omega arith) in
    let there : slice_get d.ring.laid n.index ≡ Some n.item =
    ap (λ xs. slice_get xs n.index) (sym (take-append-drop d.ring.dispatched d.ring.laid)) ∙ get_append_left front (drop d.ring.dispatched d.ring.laid) n.index w ∙ n.there in
    let before : commands_in (take n.index d.ring.laid) ≡ length d.placed = ap commands_in (sym tk) ∙ n.before in
    record {
      index = n.index;
      item = n.item;
      there = there;
      command = n.command;
      before = before;
      uncleared =
          ⊎_elim
          (λ (l : n.index < d.ring.cleared).
          let k : commands_in (take n.index d.ring.laid) + 1 ≤ commands_in (take d.ring.cleared d.ring.laid) = counted-before d.ring.laid n.index d.ring.cleared n.item there n.command l in
          let m : commands_in (take d.ring.cleared d.ring.laid) ≤ commands_in (take d.ring.published d.ring.laid) = commands_more d.ring.cleared d.ring.published d.ring.laid sound.cleared in
          absurd (omega (arith, k, m, before, sound.answered)))
          (λ (l : d.ring.cleared ≤ n.index). l)
          (cases_lt n.index d.ring.cleared);
      dispatched = omega arith;
      place = n.place ∙ ap (λ xs. Some ((0 + lengths xs) % d.ring.size)) tk ∙ (let z : 0 + lengths (take n.index d.ring.laid) ≡ lengths (take n.index d.ring.laid) = omega arith in ap (λ y. Some (y % d.ring.size)) z);
    }
