-- All published items are cleaned: the target comes to the device's own books, and to no fault.
use Rattle.std.proofs.Common.{◌≡◌, ◌≢◌, ℕ, ◌+◌, ◌-◌, ◌*◌, ◌/◌, ◌%◌, ◌^◌, ◌≤◌, ◌<◌, ◌&&◌, ◌||◌, inr, Bool, true, false, not, cond, List, [], ◌∷◌, ◌++◌, length, take, drop, map, refl, sym, ap, ◌∙◌, arith, suc, zero, Option, Some, None, slice_get, subst, ⊎_elim, eqb}
use Rattle.std.specs.List.{list_any}
use Rattle.std.specs.Option.{is_some}
use Rattle.std.proofs.lemmas.Bool.{cases_Bool, eqb-false, cases_lt, ne_eqb, eq-eqb, false≢true, or_parts, or_left, or_right}
use Rattle.std.proofs.Math.Nat.{mul-le-mul_left}
use Rattle.std.proofs.lemmas.List.{take-take, take_all, length-take-le, take-append-drop, drop_all}
use Rattle.std.proofs.lemmas.List.Sums.{sum_by_push}
use Rattle.tcmu_types.specs.Data.{ReplyData, DoneData}
use Rattle.tcmu_model.specs.declared.state.CommandState.TheVariants.{Placed}
use Rattle.tcmu_types.specs.Lists.{first_of, without_first, Every}
use Rattle.tcmu_model.specs.RingState.{Item, lengths, head, used, commands_in, is_command, serials_in, published_commands, cleared_commands}
use Rattle.tcmu_model.specs.Device.{Unfinished, DeviceState, has_serial, is_at}
use Rattle.tcmu_model.specs.Events.{completions, finish, finish_all, Books, cleaned_books, clean_answer, answered}
use Rattle.tcmu_types.specs.Numbers.{is_among, Differ}
use Rattle.tcmu_model.specs.Sound.{IsSound, finished, dispatched_serials}
use Rattle.tcmu_model.specs.BlockLists.{Taken}
use Rattle.region_model.specs.Layout.{ring_start, tail_place, device_mailbox, mailbox_bytes}
use Rattle.tcmu_types.specs.ByteFields.{le, field}
use Rattle.tcmu_types.specs.Overwriting.{zeros}
use Rattle.region_model.specs.Regions.{RegionState}
use Rattle.tcmu_types.proofs.ByteFields.{lengths as writes, field-front, field-in}
use Rattle.tcmu_types.proofs.Everies.{every-first, every-weaker, every_at}
use Rattle.tcmu_model.proofs.Basics.{among_more, rows_unfinished}
use Rattle.tcmu_types.proofs.Rises.{among-filter, every-among}
use Rattle.tcmu_model.proofs.Fronts.{commands_more}
use Rattle.tcmu_model.proofs.SoundClean.{answered_placed}
use Rattle.region_model.specs.Picture.{place_of, tail, kind_of, shown_mailbox}
use Rattle.region_model.specs.Sides.{PendingRow, Recorded, TargetState}
use Rattle.region_model.specs.Represents.{RingStands, recorded}
use Rattle.region_model.specs.TargetCleans.{CleanAnswer, Logged, BadTail, Broken, all_cleaned, one_cleaned, unless_broken, logged_or_broken, ends_at, tail_read, tail_fits, target_cleaned, target_clean_answer}
use Rattle.ring_laws.specs.Cleaned.{CanClean}
use Rattle.ring_laws.proofs.SoundRing.{holds}
use Rattle.ring_laws.proofs.placed.Numbered.{can_answer, counted-before}
use Rattle.ring_laws.proofs.Places.{used_is, lengths_more}
use Rattle.ring_laws.proofs.cleaned.CleanedOne.{CleanWith, CleanAt, clean-one, clean-pass, commands-next, next-place, placed-first, take-next, found-serial_is}
use Rattle.tcmu_types.proofs.Places.{get_within, drop_from}

-- ==== small facts

pub get-take : {X : Type 0} (xs : List X) (n i : ℕ) → i < n → slice_get (take n xs) i ≡ slice_get xs i
get-take xs zero i h = absurd (omega arith)
get-take [] (suc n) i h = refl
get-take (x ∷ xs) (suc n) zero h = refl
get-take (x ∷ xs) (suc n) (suc i) h = get-take xs n i (omega arith)

pub not_there : (xs : List ℕ) (a m s : ℕ) → is_among xs a ≡ false → slice_get xs m ≡ Some s → s ≢ a
not_there [] a m s h g = absurd (cc)
not_there (x ∷ xs) a zero s h g = let e : x ≡ s = cc in let p = or_parts (eqb x a) (is_among xs a) h in λ z. eqb-false x a p.0 (e ∙ z)
not_there (x ∷ xs) a (suc m) s h g = let p = or_parts (eqb x a) (is_among xs a) h in not_there xs a m s p.1 g

-- of numbers that differ, one does not stand before its place
pub not-before : (xs : List ℕ) (c m s : ℕ) → Differ xs → slice_get xs m ≡ Some s → c ≤ m → is_among (take c xs) s ≡ false
not-before xs zero m s d g h = refl
not-before [] (suc c) m s d g h = absurd (cc)
not-before (x ∷ xs) (suc c) zero s d g h = absurd (omega arith)
not-before (x ∷ xs) (suc c) (suc m) s d g h =
    let n : s ≢ x = not_there xs x m s d.0 g in
    let z : eqb x s ≡ false = ne_eqb x s (λ q. n (sym q)) in
    rw z (not-before xs c m s d.1 g (omega arith))

find-serial : (s : ℕ) (us : List Unfinished) → is_among (map (λ (u : Unfinished). u.serial) us) s ≡ true → (u : Unfinished) × (first_of (has_serial s) us ≡ Some u)
find-serial s [] h = absurd (false≢true h)
find-serial s (u ∷ us) h =
    ⊎_elim
    (λ (e : has_serial s u ≡ true). (u, rw e refl))
    (λ (e : has_serial s u ≡ false). let g : is_among (map (λ (v : Unfinished). v.serial) us) s ≡ true = rw e at h in let r = find-serial s us g in (r.0, rw e r.1))
    (cases_Bool (has_serial s u))

some_reply : (o : Option ReplyData) → is_some o ≡ true → (reply : ReplyData) × (o ≡ Some reply)
some_reply None h = absurd (false≢true h)
some_reply (Some reply) h = (reply, refl)

-- two places of a ring that are less than its size apart differ
places_differ : (n p q : ℕ) → 0 < n → p < q → q < p + n → p % n ≡ q % n → ⊥
places_differ n p q z l m e =
    ⊎_elim
    (λ (k : p / n < q / n). let t : n * (p / n + 1) ≤ n * (q / n) = mul-le-mul_left n (omega arith) in absurd (omega arith))
    (λ (k : q / n ≤ p / n). let t : n * (q / n) ≤ n * (p / n) = mul-le-mul_left n k in absurd (omega arith))
    (cases_lt (p / n) (q / n))

-- ==== an answer that is published and not cleared

record PlacedAnswer (d : DeviceState) (m : ℕ) : Type 0 where
  serial : ℕ
  there : slice_get d.placed m ≡ Some serial
  new : is_among (take m d.placed) serial ≡ false
  row : Unfinished
  found : first_of (has_serial serial) d.unfinished ≡ Some row
  placed : row.state ≡ Placed
  reply : ReplyData
  replied : row.reply ≡ Some reply

placed_answer : (d : DeviceState) (m : ℕ) → IsSound d → cleared_commands d.ring ≤ m → m < published_commands d.ring → PlacedAnswer d m
placed_answer d m sound l h =
    let p : ℕ = published_commands d.ring in
    let gs = get_within d.placed m (omega (arith, h, sound.answers.published)) in
    let s : ℕ = gs.0 in
    let a : is_among (dispatched_serials d.ring) s ≡ true = every_at (λ q. is_among (dispatched_serials d.ring) q ≡ true) d.placed m s sound.answers.dispatched gs.1 in
    let b : is_among (serials_in d.ring.laid) s ≡ true = among_more d.ring.dispatched d.ring.laid s a in
    let n : is_among (finished d) s ≡ false = not-before d.placed (cleared_commands d.ring) m s sound.answers.differ gs.1 l in
    let both : (not (is_among (finished d) s) && is_among (serials_in d.ring.laid) s) ≡ true = rw (n, b) refl in
    let here : is_among (map (λ (u : Unfinished). u.serial) d.unfinished) s ≡ true = ap (λ ys. is_among ys s) sound.serials.order ∙ among-filter (λ q. not (is_among (finished d) q)) (serials_in d.ring.laid) s ∙ both in
    let fu = find-serial s d.unfinished here in
    let u : Unfinished = fu.0 in
    let ans : is_among (answered d) s ≡ true = every_at (λ q. is_among (answered d) q ≡ true) (answered d) m s (every-among (answered d)) (get-take d.placed p m h ∙ gs.1) in
    let pl : is_among (answered d) u.serial ≡ true → (u.state ≡ Placed) × (is_some u.reply ≡ true) =
    every-first (has_serial s) (λ (v : Unfinished). is_among (answered d) v.serial ≡ true → (v.state ≡ Placed) × (is_some v.reply ≡ true)) d.unfinished u (answered_placed d sound.answers) fu.1 in
    let pr = pl (ap (is_among (answered d)) (found-serial_is s d.unfinished u fu.1) ∙ ans) in
    let rp = some_reply u.reply pr.1 in
    record { serial = s; there = gs.1; new = not-before d.placed m m s sound.answers.differ gs.1 (omega arith); row = u; found = fu.1; placed = pr.0; reply = rp.0; replied = rp.1 }

-- ==== the run

stops : (r : RegionState) (tl : ℕ) (k : TargetState) (xs : List Recorded) → k.cleaned ≡ tl → all_cleaned r tl k xs ≡ k
stops r tl k [] h = refl
stops r tl k (x ∷ xs) h = rw (eq-eqb k.cleaned tl h) refl

goes-on : (r : RegionState) (tl : ℕ) (k : TargetState) (x : Recorded) (xs : List Recorded) → (k.cleaned ≡ tl → ⊥) → k.broken ≡ None →
    all_cleaned r tl k (x ∷ xs) ≡ all_cleaned r tl (one_cleaned r k x xs x.kind) xs
goes-on r tl k x xs h b =
    let f : TargetState = all_cleaned r tl (one_cleaned r k x xs x.kind) xs in
    ap (λ z. cond z k (unless_broken k.broken k f)) (ne_eqb k.cleaned tl h) ∙ ap (λ o. unless_broken o k f) b

finish-found : (rl : Bool) (us : List Unfinished) (log : List DoneData) (s : ℕ) (u : Unfinished) → first_of (is_at s Placed) us ≡ Some u →
    finish rl (record { unfinished = us; log = log }) s ≡ record { unfinished = without_first (is_at s Placed) us; log = log ++ completions rl u }
finish-found rl us log s u f = rw (finish, f) refl

abbrev books_from : DeviceState → ℕ → List Unfinished → List DoneData → Books
books_from d j us log = finish_all d.settings.flags.read_len (record { unfinished = us; log = log }) (drop (commands_in (take j d.ring.laid)) (answered d))

clean-run : (r : RegionState) (rows0 : List PendingRow) (d : DeviceState) (lists : List Taken) (n j : ℕ) (us : List Unfinished) (log : List DoneData) (k : TargetState) →
    CleanWith r rows0 d lists → d.ring.cleared ≤ j → j + n ≡ d.ring.published → CleanAt rows0 d lists j us log k →
    CleanAt rows0 d lists d.ring.published (books_from d j us log).unfinished (books_from d j us log).log (all_cleaned r (tail d.ring) k (map recorded (drop j d.ring.laid)))
clean-run r rows0 d lists zero j us log k w cl e at =
    let jp : j ≡ d.ring.published = omega arith in
    let p : ℕ = published_commands d.ring in
    let m : commands_in (take j d.ring.laid) ≡ p = ap (λ i. commands_in (take i d.ring.laid)) jp in
    let l : length (answered d) ≡ p = length-take-le p d.placed w.sound.answers.published in
    let none : drop (commands_in (take j d.ring.laid)) (answered d) ≡ [] = drop_all (commands_in (take j d.ring.laid)) (answered d) (omega (arith, m, l)) in
    let b : books_from d j us log ≡ record { unfinished = us; log = log } = ap (finish_all d.settings.flags.read_len (record { unfinished = us; log = log })) none in
    let s : all_cleaned r (tail d.ring) k (map recorded (drop j d.ring.laid)) ≡ k = stops r (tail d.ring) k (map recorded (drop j d.ring.laid)) (at.cleaned ∙ ap (place_of d.ring) jp) in
    let c : CleanAt rows0 d lists d.ring.published us log k = subst (λ (i : ℕ). CleanAt rows0 d lists i us log k) jp at in
    subst (λ (y : Books). CleanAt rows0 d lists d.ring.published y.unfinished y.log (all_cleaned r (tail d.ring) k (map recorded (drop j d.ring.laid)))) (sym b)
    (subst (λ (z : TargetState). CleanAt rows0 d lists d.ring.published us log z) (sym s) c)
clean-run r rows0 d lists (suc n) j us log k w cl e at =
    let rl : Bool = d.settings.flags.read_len in
    let pl : d.ring.published ≤ length d.ring.laid = omega (arith, w.sound.ring.published, w.sound.ring.dispatched) in
    let gx = get_within d.ring.laid j (omega arith) in
    let x : Item = gx.0 in
    let g : slice_get d.ring.laid j ≡ Some x = gx.1 in
    let p : ℕ = published_commands d.ring in
    let m : ℕ = commands_in (take j d.ring.laid) in
    let xs : List Recorded = map recorded (drop (suc j) d.ring.laid) in
    let dr : map recorded (drop j d.ring.laid) ≡ recorded x ∷ xs = ap (map recorded) (drop_from d.ring.laid j x g) in
    let differ : k.cleaned ≡ tail d.ring → ⊥ = λ z. apart x g pl (sym at.cleaned ∙ z) in
    let k' : TargetState = one_cleaned r k (recorded x) xs (kind_of x.laid) in
    let on : all_cleaned r (tail d.ring) k (map recorded (drop j d.ring.laid)) ≡ all_cleaned r (tail d.ring) k' xs =
    ap (all_cleaned r (tail d.ring) k) dr ∙ goes-on r (tail d.ring) k (recorded x) xs differ at.broken in
    ⊎_elim
    (λ (c : is_command x ≡ true).
    let less : m + 1 ≤ p = counted-before d.ring.laid j d.ring.published x g c (omega arith) in
    let lm : cleared_commands d.ring ≤ m = commands_more d.ring.cleared j d.ring.laid cl in
    let a : PlacedAnswer d m = placed_answer d m w.sound lm (omega arith) in
    let s : ℕ = a.serial in
    let u : Unfinished = a.row in
    let f : first_of (is_at s Placed) us ≡ Some u = placed-first s us u (at.found s a.new ∙ a.found) a.placed in
    let next = clean-one r rows0 d lists j us log k x s u a.reply w at cl g c a.there a.new a.found a.placed a.replied in
    let ih = clean-run r rows0 d lists n (suc j) (without_first (is_at s Placed) us) (log ++ completions rl u) k' w (omega arith) (omega arith) next in
    let cn : commands_in (take (suc j) d.ring.laid) ≡ suc m = commands-next d.ring.laid j x g ∙ ap (λ b. m + cond b 1 0) c ∙ (let z : m + 1 ≡ suc m = omega arith in z) in
    let ds : drop m (answered d) ≡ s ∷ drop (suc m) (answered d) = drop_from (answered d) m s (get-take d.placed p m (omega arith) ∙ a.there) in
    let b : books_from d j us log ≡ books_from d (suc j) (without_first (is_at s Placed) us) (log ++ completions rl u) =
    ap (finish_all rl (record { unfinished = us; log = log })) ds
    ∙ ap (λ (y : Books). finish_all rl y (drop (suc m) (answered d))) (finish-found rl us log s u f)
    ∙ ap (λ z. finish_all rl (record { unfinished = without_first (is_at s Placed) us; log = log ++ completions rl u }) (drop z (answered d))) (sym cn) in
    subst (λ (y : Books). CleanAt rows0 d lists d.ring.published y.unfinished y.log (all_cleaned r (tail d.ring) k (map recorded (drop j d.ring.laid)))) (sym b)
    (subst (λ (z : TargetState). CleanAt rows0 d lists d.ring.published (books_from d (suc j) (without_first (is_at s Placed) us) (log ++ completions rl u)).unfinished (books_from d (suc j) (without_first (is_at s Placed) us) (log ++ completions rl u)).log z) (sym on) ih))
    (λ (c : is_command x ≡ false).
    let next = clean-pass r rows0 d lists j us log k x w at g c in
    let ih = clean-run r rows0 d lists n (suc j) us log k' w (omega arith) (omega arith) next in
    let cn : commands_in (take (suc j) d.ring.laid) ≡ m = commands-next d.ring.laid j x g ∙ ap (λ b. m + cond b 1 0) c ∙ (let z : m + 0 ≡ m = omega arith in z) in
    let b : books_from d j us log ≡ books_from d (suc j) us log = ap (λ z. finish_all rl (record { unfinished = us; log = log }) (drop z (answered d))) (sym cn) in
    subst (λ (y : Books). CleanAt rows0 d lists d.ring.published y.unfinished y.log (all_cleaned r (tail d.ring) k (map recorded (drop j d.ring.laid)))) (sym b)
    (subst (λ (z : TargetState). CleanAt rows0 d lists d.ring.published (books_from d (suc j) us log).unfinished (books_from d (suc j) us log).log z) (sym on) ih))
    (cases_Bool (is_command x))
  where
    apart : (x : Item) → slice_get d.ring.laid j ≡ Some x → d.ring.published ≤ length d.ring.laid → place_of d.ring j ≡ tail d.ring → ⊥
    apart x g pl =
        let hold = holds d w.sound in
        let q : ℕ = lengths (take j d.ring.laid) in
        let t : ℕ = lengths (take d.ring.published d.ring.laid) in
        let one : lengths (take (suc j) d.ring.laid) ≡ q + x.len = ap lengths (take-next d.ring.laid j x g) ∙ sum_by_push (λ (y : Item). y.len) (take j d.ring.laid) x in
        let sm : 8 ≤ x.len = hold.some j x g in
        let m1 : lengths (take (suc j) d.ring.laid) ≤ t = lengths_more d.ring.laid (suc j) d.ring.published (omega arith) in
        let m2 : t ≤ lengths (take (length d.ring.laid) d.ring.laid) = lengths_more d.ring.laid d.ring.published (length d.ring.laid) pl in
        let m3 : lengths (take (length d.ring.laid) d.ring.laid) ≡ lengths d.ring.laid = ap lengths (take_all (length d.ring.laid) d.ring.laid (omega arith)) in
        let m4 : lengths (take d.ring.cleared d.ring.laid) ≤ q = lengths_more d.ring.laid d.ring.cleared j cl in
        let ui : lengths (take d.ring.cleared d.ring.laid) + used d.ring ≡ lengths d.ring.laid = used_is d.ring in
        let us0 : used d.ring < d.ring.size = hold.room in
        places_differ d.ring.size q t (omega arith) (omega arith) (omega (arith, m2, m3, m4, ui, us0))

-- ==== the clean as a whole

finish-none : (rl : Bool) (us : List Unfinished) (log : List DoneData) (s : ℕ) → first_of (is_at s Placed) us ≡ None → finish rl (record { unfinished = us; log = log }) s ≡ record { unfinished = us; log = log }
finish-none rl us log s f = rw (finish, f) refl

no-serial : (s : ℕ) (us : List Unfinished) → list_any (has_serial s) us ≡ false → first_of (is_at s Placed) us ≡ None
no-serial s [] h = refl
no-serial s (u ∷ us) h = let p = or_parts (has_serial s u) (list_any (has_serial s) us) h in rw p.0 (no-serial s us p.1)

-- a serial of a list in which no command's serial stands is none's
none-has : (us : List Unfinished) (ss : List ℕ) → Every (λ (u : Unfinished). is_among ss u.serial ≡ false) us → Every (λ s. list_any (has_serial s) us ≡ false) ss
none-has us [] h = tt
none-has us (s ∷ ss) h = (first us h, none-has us ss (every-weaker (λ (u : Unfinished). is_among (s ∷ ss) u.serial ≡ false) (λ (u : Unfinished). is_among ss u.serial ≡ false) us (λ u k. (or_parts (eqb s u.serial) (is_among ss u.serial) k).1) h))
  where
    first : (vs : List Unfinished) → Every (λ (u : Unfinished). is_among (s ∷ ss) u.serial ≡ false) vs → list_any (has_serial s) vs ≡ false
    first [] k = refl
    first (v ∷ vs) k =
        let p = or_parts (eqb s v.serial) (is_among ss v.serial) k.0 in
        let z : has_serial s v ≡ false = ne_eqb v.serial s (λ q. eqb-false s v.serial p.0 (sym q)) in
        rw z (first vs k.1)

skip-finished : (rl : Bool) (us : List Unfinished) (log : List DoneData) (c : ℕ) (ss : List ℕ) → Every (λ s. list_any (has_serial s) us ≡ false) (take c ss) →
    finish_all rl (record { unfinished = us; log = log }) ss ≡ finish_all rl (record { unfinished = us; log = log }) (drop c ss)
skip-finished rl us log zero ss e = refl
skip-finished rl us log (suc c) [] e = refl
skip-finished rl us log (suc c) (s ∷ ss) e =
    ap (λ (b : Books). finish_all rl b ss) (finish-none rl us log s (no-serial s us e.0)) ∙ skip-finished rl us log c ss e.1

clean-books : (d : DeviceState) → IsSound d → cleaned_books d ≡ books_from d d.ring.cleared d.unfinished d.log
clean-books d sound =
    let c : ℕ = cleared_commands d.ring in
    let l : c ≤ published_commands d.ring = commands_more d.ring.cleared d.ring.published d.ring.laid sound.ring.cleared in
    let t : take c (answered d) ≡ take c d.placed = take-take c (published_commands d.ring) d.placed l in
    skip-finished d.settings.flags.read_len d.unfinished d.log c (answered d)
    (subst (Every (λ s. list_any (has_serial s) d.unfinished ≡ false)) (sym t) (none-has d.unfinished (finished d) (rows_unfinished d sound.serials)))

-- ==== the tail is the end of an item

ends-step : (d : DeviceState) (j : ℕ) → j < length d.ring.laid →
    ends_at d.ring.size (place_of d.ring j) (map recorded (drop j d.ring.laid)) (tail d.ring)
    ≡ (eqb (place_of d.ring (suc j)) (tail d.ring) || ends_at d.ring.size (place_of d.ring (suc j)) (map recorded (drop (suc j) d.ring.laid)) (tail d.ring))
ends-step d j h =
    let g = get_within d.ring.laid j h in
    let dr : map recorded (drop j d.ring.laid) ≡ recorded g.0 ∷ map recorded (drop (suc j) d.ring.laid) = ap (map recorded) (drop_from d.ring.laid j g.0 g.1) in
    let nx : (place_of d.ring j + g.0.len) % d.ring.size ≡ place_of d.ring (suc j) = next-place d.ring j g.0 g.1 in
    ap (λ xs. ends_at d.ring.size (place_of d.ring j) xs (tail d.ring)) dr
    ∙ ap (λ z. eqb z (tail d.ring) || ends_at d.ring.size z (map recorded (drop (suc j) d.ring.laid)) (tail d.ring)) nx

ends-there : (d : DeviceState) (n j : ℕ) → suc j + n ≡ d.ring.published → d.ring.published ≤ length d.ring.laid →
    ends_at d.ring.size (place_of d.ring j) (map recorded (drop j d.ring.laid)) (tail d.ring) ≡ true
ends-there d zero j e h =
    ends-step d j (omega arith) ∙ or_left (eqb (place_of d.ring (suc j)) (tail d.ring)) (ends_at d.ring.size (place_of d.ring (suc j)) (map recorded (drop (suc j) d.ring.laid)) (tail d.ring))
    (eq-eqb (place_of d.ring (suc j)) (tail d.ring) (let k : suc j ≡ d.ring.published = omega arith in ap (place_of d.ring) k))
ends-there d (suc n) j e h =
    ends-step d j (omega arith) ∙ or_right (eqb (place_of d.ring (suc j)) (tail d.ring)) (ends_at d.ring.size (place_of d.ring (suc j)) (map recorded (drop (suc j) d.ring.laid)) (tail d.ring))
    (ends-there d n (suc j) (omega arith) h)

mailbox_tail : (d : DeviceState) → tail d.ring < 2 ^ 32 → field 4 tail_place (shown_mailbox d) ≡ tail d.ring
unfolding mailbox_bytes
mailbox_tail d small =
    let m = device_mailbox d.settings.flags d.ring.size (head d.ring) (tail d.ring) in
    field-in 4 tail_place (tail d.ring) (le 2 m.version ++ le 2 m.flags ++ le 4 m.cmdr_off ++ le 4 m.cmdr_size ++ le 4 m.head ++ zeros 48) (zeros 60) (shown_mailbox d) refl (omega writes) small

tail_shown : (front : List ℕ) (items : List Recorded) (d : DeviceState) (lists : List Taken) → IsSound d → RingStands front items d lists → field 4 tail_place front ≡ tail d.ring
tail_shown front items d lists sound h =
    let size : d.ring.size ≡ d.settings.ring = sound.ring.size in
    let high : d.settings.ring ≤ 4194304 = sound.settings.ring.most in
    let low : 4096 ≤ d.settings.ring = sound.settings.ring.least in
    let small : tail d.ring < 2 ^ 32 = omega arith in
    let lf = h.long in
    let lt : length (take ring_start front) ≡ ring_start = length-take-le ring_start front (omega arith) in
    ap (field 4 tail_place) (sym (take-append-drop ring_start front)) ∙ field-front 4 tail_place (take ring_start front) (drop ring_start front) (omega arith)
    ∙ ap (field 4 tail_place) h.mailbox ∙ mailbox_tail d small

tail-fits : (r : RegionState) (t : TargetState) (d : DeviceState) (lists : List Taken) → CanClean r t d lists → tail_fits r t ≡ true
tail-fits r t d lists h =
    let shown : tail_read r ≡ tail d.ring = tail_shown r.front t.items d lists h.sound h.ring in
    let ring : t.settings.ring ≡ d.ring.size = ap (λ s. s.ring) h.target.settings ∙ sym h.sound.ring.size in
    let pl : d.ring.published ≤ length d.ring.laid = omega (arith, h.sound.ring.published, h.sound.ring.dispatched) in
    let cp : d.ring.cleared ≤ d.ring.published = h.sound.ring.cleared in
    ⊎_elim
    (λ (l : d.ring.cleared < d.ring.published).
    or_right (eqb (tail_read r) t.cleaned) (ends_at t.settings.ring t.cleaned t.items (tail_read r))
    (ap (λ n. ends_at n t.cleaned t.items (tail_read r)) ring ∙ ap (λ n. ends_at d.ring.size n t.items (tail_read r)) h.target.cleaned
    ∙ ap (λ xs. ends_at d.ring.size (place_of d.ring d.ring.cleared) xs (tail_read r)) h.ring.recorded ∙ ap (ends_at d.ring.size (place_of d.ring d.ring.cleared) (map recorded (drop d.ring.cleared d.ring.laid))) shown
    ∙ ends-there d (d.ring.published - suc d.ring.cleared) d.ring.cleared (omega arith) pl))
    (λ (l : d.ring.published ≤ d.ring.cleared).
    let e : d.ring.published ≡ d.ring.cleared = omega arith in
    or_left (eqb (tail_read r) t.cleaned) (ends_at t.settings.ring t.cleaned t.items (tail_read r))
    (eq-eqb (tail_read r) t.cleaned (shown ∙ ap (place_of d.ring) e ∙ sym h.target.cleaned)))
    (cases_lt d.ring.cleared d.ring.published)

-- what the target's clean leaves
pub cleaned-at : (r : RegionState) (t : TargetState) (d : DeviceState) (lists : List Taken) → CanClean r t d lists →
    CleanAt t.rows d lists d.ring.published (cleaned_books d).unfinished (cleaned_books d).log (target_cleaned r t)
unfolding target_cleaned
cleaned-at r t d lists h =
    let items : t.items ≡ map recorded (drop d.ring.cleared d.ring.laid) = h.ring.recorded in
    let shown : tail_read r ≡ tail d.ring = tail_shown r.front t.items d lists h.sound h.ring in
    let w : CleanWith r t.rows d lists = record { sound = h.sound; owned = h.owned; ring = subst (λ (xs : List Recorded). RingStands r.front xs d lists) items h.ring; ids = h.ids; blocks = h.blocks; pages = h.pages } in
    let start : CleanAt t.rows d lists d.ring.cleared d.unfinished d.log t = record {
      settings = h.target.settings;
      now = h.target.now;
      blocked = h.target.blocked;
      accepted = h.target.accepted;
      delayed = h.target.delayed;
      laid = h.target.laid;
      items = items;
      cleaned = h.target.cleaned;
      cleared = h.target.cleared;
      broken = h.target.broken;
      logged = h.target.log;
      pending = h.target.rows;
      range = h.ids.range;
      ids = h.ids.differ;
      kept = λ q k. refl;
      notes = λ i. inr refl;
      differ = (can_answer d h.sound).differ;
      found = λ q k. refl;
    } in
    let n : d.ring.cleared + (d.ring.published - d.ring.cleared) ≡ d.ring.published = omega (arith, h.sound.ring.cleared) in
    let run = clean-run r t.rows d lists (d.ring.published - d.ring.cleared) d.ring.cleared d.unfinished d.log t w (omega arith) n start in
    let whole : target_cleaned r t ≡ all_cleaned r (tail d.ring) t (map recorded (drop d.ring.cleared d.ring.laid)) =
    ap (λ (o : Option ℕ). elim o as (λ z. TargetState) [ Some id ↦ t | None ↦ cond (tail_fits r t) (all_cleaned r (tail_read r) t t.items) t ]) h.target.broken
    ∙ ap (λ b. cond b (all_cleaned r (tail_read r) t t.items) t) (tail-fits r t d lists h) ∙ ap (λ z. all_cleaned r z t t.items) shown ∙ ap (all_cleaned r (tail d.ring) t) items in
    subst (λ (z : TargetState). CleanAt t.rows d lists d.ring.published (cleaned_books d).unfinished (cleaned_books d).log z) (sym whole)
    (subst (λ (y : Books). CleanAt t.rows d lists d.ring.published y.unfinished y.log (all_cleaned r (tail d.ring) t (map recorded (drop d.ring.cleared d.ring.laid)))) (sym (clean-books d h.sound)) run)

pub answer_cleaned : (r : RegionState) (t : TargetState) (d : DeviceState) (lists : List Taken) → CanClean r t d lists → target_clean_answer r t ≡ Logged (clean_answer d)
unfolding target_clean_answer clean_answer
answer_cleaned r t d lists h =
    let at = cleaned-at r t d lists h in
    let b : (target_cleaned r t).broken ≡ None = at.broken in
    let n : length (target_cleaned r t).log - length t.log ≡ length (cleaned_books d).log - length d.log = ap (λ xs. length xs - length t.log) at.logged ∙ ap (λ xs. length (cleaned_books d).log - length xs) h.target.log in
    let l : logged_or_broken (length t.log) (target_cleaned r t) ≡ Logged (length (cleaned_books d).log - length d.log) = rw b (ap Logged n) in
    let yes : CleanAnswer = logged_or_broken (length t.log) (target_cleaned r t) in
    ap (λ (o : Option ℕ). elim o as (λ z. CleanAnswer) [ Some id ↦ Broken id | None ↦ cond (tail_fits r t) yes (BadTail (tail_read r)) ]) h.target.broken
    ∙ ap (λ b. cond b yes (BadTail (tail_read r))) (tail-fits r t d lists h) ∙ l
