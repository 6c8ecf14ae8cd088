-- Placing along the items of a ring in the order of laying.
use Rattle.std.proofs.Common.{◌≡◌, ℕ, ◌+◌, ◌<◌, true, false, List, [], ◌∷◌, ◌++◌, length, take, drop, get_or, refl, sym, ap, subst, ◌∙◌, append_assoc, ◌||◌, ◌==◌, append-nil}
use Rattle.std.specs.List.{list_any}
use Rattle.std.proofs.lemmas.List.{take_more, take-append-drop}
use Rattle.std.proofs.Math.Seq.{take-add}
use Rattle.std.proofs.lemmas.List.Folds.{list_any-append}
use Rattle.std.proofs.lemmas.Grind.{flat_map-append}
use Rattle.std.proofs.lemmas.Bool.{or_parts, or_right, ne_eqb, eqb-false}
use Rattle.tcmu_model.specs.declared.state.CommandState.TheVariants.{Parked}
use Rattle.tcmu_model.specs.RingState.{Item, Laid, Pad, Cmd, Tmr, serial_in, serials_in}
use Rattle.tcmu_model.specs.Device.{Unfinished, is_at}
use Rattle.tcmu_model.specs.Events.{Placing, with_placed, run_placed}
use Rattle.tcmu_types.specs.Numbers.{is_among, Differ}
use Rattle.tcmu_types.specs.Lists.{Every}
use Rattle.tcmu_types.proofs.Rises.{every-among}

-- a parked command that is not placed is placed
pub goes : (p : Placing) (s : ℕ) (rest : List ℕ) → is_among p.placed s ≡ false → list_any (is_at s Parked) p.unfinished ≡ true → run_placed p (s ∷ rest) ≡ run_placed (with_placed p s) rest
goes p s rest a h = rw (a, h) refl

-- at one that is not parked all stops
pub stops : (p : Placing) (s : ℕ) (rest : List ℕ) → is_among p.placed s ≡ false → list_any (is_at s Parked) p.unfinished ≡ false → run_placed p (s ∷ rest) ≡ p
stops p s rest a h = rw (a, h) refl

-- what is placed is passed over
pub passes : (p : Placing) (ss rest : List ℕ) → Every (λ s. is_among p.placed s ≡ true) ss → run_placed p (ss ++ rest) ≡ run_placed p rest
passes p [] rest h = refl
passes p (s ∷ ss) rest h = rw h.0 (passes p ss rest h.1)

-- a number in a list of numbers that differ does not stand before its place
pub differ-before : (xs : List ℕ) (s : ℕ) (ys : List ℕ) → Differ (xs ++ s ∷ ys) → is_among xs s ≡ false
differ-before [] s ys h = refl
differ-before (x ∷ xs) s ys h =
    let a : is_among (xs ++ s ∷ ys) x ≡ false = h.0 in
    let b : is_among (xs ++ s ∷ ys) x ≡ (is_among xs x || is_among (s ∷ ys) x) = list_any-append (λ k. k == x) xs (s ∷ ys) in
    let c = (or_parts (is_among xs x) (is_among (s ∷ ys) x) (sym b ∙ a)).1 in
    let d : (s == x) ≡ false = (or_parts (s == x) (is_among ys x) c).0 in
    let e : (x == s) ≡ false = ne_eqb x s (λ q. eqb-false s x d (sym q)) in
    rw e (differ-before xs s ys h.1)

-- the serials up to an item, those of the item, and those behind it
pub serials-at : (items : List Item) (i : ℕ) (x : Item) → i < length items → x ≡ get_or items i x → serials_in items ≡ (serials_in (take i items) ++ serial_in x) ++ serials_in (drop (i + 1) items)
serials-at items i x l e =
    let more : take (i + 1) items ≡ take i items ++ x ∷ [] = take_more items i x l ∙ ap (λ (y : Item). take i items ++ y ∷ []) (sym e) in
    let front : serials_in (take (i + 1) items) ≡ serials_in (take i items) ++ serial_in x = ap serials_in more ∙ (flat_map-append serial_in (take i items) (x ∷ []) ∙ ap (λ ss. serials_in (take i items) ++ ss) (append-nil (serial_in x))) in
    let all : serials_in items ≡ serials_in (take (i + 1) items) ++ serials_in (drop (i + 1) items) = ap serials_in (sym (take-append-drop (i + 1) items)) ∙ flat_map-append serial_in (take (i + 1) items) (drop (i + 1) items) in
    all ∙ ap (λ ss. ss ++ serials_in (drop (i + 1) items)) front

apart_one : (n : ℕ) (laid : Laid) (xs ys : List ℕ) → Differ (xs ++ (serial_in (record { len = n; laid = laid }) ++ ys)) → Every (λ s. is_among xs s ≡ false) (serial_in (record { len = n; laid = laid }))
apart_one n Pad xs ys h = tt
apart_one n (Cmd s c) xs ys h = (differ-before xs s ys h, tt)
apart_one n (Tmr kind ss) xs ys h = tt

-- the serial of an item does not stand among those before it
pub apart : (start placed : List ℕ) (items : List Item) (i : ℕ) (x : Item) → i < length items → x ≡ get_or items i x → placed ≡ start ++ serials_in (take i items) → Differ (start ++ serials_in items) → Every (λ s. is_among placed s ≡ false) (serial_in x)
apart start placed items i x l e p h =
    let behind = serials_in (drop (i + 1) items) in
    let front = serials_in (take i items) in
    let a : start ++ serials_in items ≡ start ++ ((front ++ serial_in x) ++ behind) = ap (λ ss. start ++ ss) (serials-at items i x l e) in
    let b : start ++ ((front ++ serial_in x) ++ behind) ≡ start ++ (front ++ (serial_in x ++ behind)) = ap (λ ss. start ++ ss) (append_assoc front (serial_in x) behind) in
    let c : start ++ (front ++ (serial_in x ++ behind)) ≡ (start ++ front) ++ (serial_in x ++ behind) = sym (append_assoc start front (serial_in x ++ behind)) in
    let d : start ++ serials_in items ≡ placed ++ (serial_in x ++ behind) = a ∙ (b ∙ (c ∙ ap (λ ss. ss ++ (serial_in x ++ behind)) (sym p))) in
    apart_one x.len x.laid placed behind (subst (λ (ss : List ℕ). Differ ss) d h)

among-more : (x s : ℕ) (xs : List ℕ) → is_among xs s ≡ true → is_among (x ∷ xs) s ≡ true
among-more x s xs h = or_right (x == s) (is_among xs s) h

every-weaker : (x : ℕ) (xs ss : List ℕ) → Every (λ s. is_among xs s ≡ true) ss → Every (λ s. is_among (x ∷ xs) s ≡ true) ss
every-weaker x xs [] h = tt
every-weaker x xs (s ∷ ss) h = (among-more x s xs h.0, every-weaker x xs ss h.1)

-- the serials before a place, and those from there on
pub serials-cut : (items : List Item) (n : ℕ) → serials_in items ≡ serials_in (take n items) ++ serials_in (drop n items)
serials-cut items n = ap serials_in (sym (take-append-drop n items)) ∙ flat_map-append serial_in (take n items) (drop n items)

-- where what is placed are the serials before a place, a run may begin there
pub run_from : (placed : List ℕ) (us : List Unfinished) (items : List Item) (n : ℕ) → placed ≡ serials_in (take n items) → run_placed (record { placed = placed; unfinished = us }) (serials_in (drop n items)) ≡ run_placed (record { placed = placed; unfinished = us }) (serials_in items)
run_from placed us items n e =
    let p : Placing = record { placed = placed; unfinished = us } in
    let cut : serials_in items ≡ placed ++ serials_in (drop n items) = serials-cut items n ∙ ap (λ ss. ss ++ serials_in (drop n items)) (sym e) in
    sym (ap (run_placed p) cut ∙ passes p placed (serials_in (drop n items)) (every-among placed))

-- the serials of a longer front
pub serials-front : (items : List Item) (n k : ℕ) → serials_in (take (n + k) items) ≡ serials_in (take n items) ++ serials_in (take k (drop n items))
serials-front items n k = ap serials_in (take-add n k items) ∙ flat_map-append serial_in (take n items) (take k (drop n items))
