-- The blocks of several commands are given back, one command's after another's.
use Rattle.std.proofs.Common.{◌≡◌, ℕ, true, false, List, [], ◌∷◌, ◌++◌, length, take, refl, sym, ap, ◌∙◌, suc, zero, Option, slice_get, ⊎_elim}
use Rattle.std.proofs.lemmas.Bool.{cases_Bool, false≢true, or_parts, or_left, or_right}
use Rattle.tcmu_types.specs.Rules.{payload_length}
use Rattle.tcmu_model.specs.Device.{Unfinished}
use Rattle.tcmu_types.specs.Numbers.{is_among, Differ}
use Rattle.tcmu_types.specs.Lists.{Every}
use Rattle.tcmu_model.specs.BlockLists.{Taken, list_of, held_by}
use Rattle.region_model.specs.Iovecs.{gathered}
use Rattle.region_model.specs.Regions.{HaveSize, returned}
use Rattle.region_model.specs.Areas.{IsHome, IsLent}
use Rattle.region_model.specs.Picture.{payload_of}
use Rattle.region_model.specs.Represents.{HaveData}
use Rattle.ring_laws.proofs.laid.LaidBlocks.{every-join}
use Rattle.ring_laws.proofs.laid.Scatter.{along-same}
use Rattle.ring_laws.proofs.placed.AnswerData.{returned-other, returned-data}
use Rattle.ring_laws.proofs.placed.AnswerBlocks.{differ-split}
use Rattle.tcmu_types.proofs.Rises.{differ-right}
use Rattle.tcmu_types.proofs.Everies.{every-weaker}
use Rattle.tcmu_types.proofs.Rises.{among-append, among_every, every-among, differ_front}

-- the parts of commands are put back into the blocks of their lists
abbrev pub all_back : List Taken → List (Option (List ℕ)) → List Unfinished → List (List (List ℕ)) → List (Option (List ℕ))
all_back lists area [] more = area
all_back lists area (u ∷ us) [] = area
all_back lists area (u ∷ us) (parts ∷ more) = all_back lists (returned area (list_of lists u.serial) parts) us more

-- as many parts as a command has blocks, with its payload in them
pub record ArePartsOf (size : ℕ) (lists : List Taken) (u : Unfinished) (parts : List (List ℕ)) : Type 0 where
  pub count : length parts ≡ length (list_of lists u.serial)
  pub sized : HaveSize size parts
  pub payload : take (payload_length u.command) (gathered parts) ≡ payload_of u

-- the same of several commands, in order
abbrev pub AreParts : ℕ → List Taken → List Unfinished → List (List (List ℕ)) → Type 0
AreParts size lists [] [] = Unit {0}
AreParts size lists (u ∷ us) (parts ∷ more) = ArePartsOf size lists u parts × AreParts size lists us more
AreParts size lists _ _ = ⊥

pub back-other : (lists : List Taken) (area : List (Option (List ℕ))) (us : List Unfinished) (pss : List (List (List ℕ))) (b : ℕ) → is_among (held_by lists us) b ≡ false → slice_get (all_back lists area us pss) b ≡ slice_get area b
back-other lists area [] pss b h = refl
back-other lists area (u ∷ us) [] b h = refl
back-other lists area (u ∷ us) (ps ∷ pss) b h =
    let q = or_parts (is_among (list_of lists u.serial) b) (is_among (held_by lists us) b) (sym (among-append (list_of lists u.serial) (held_by lists us) b) ∙ h) in
    back-other lists (returned area (list_of lists u.serial) ps) us pss b q.1 ∙ returned-other area (list_of lists u.serial) ps b q.0

-- of lists that differ as one, no number of the first stands in the second
pub split-left : (xs ys : List ℕ) (b : ℕ) → Differ (xs ++ ys) → is_among xs b ≡ true → is_among ys b ≡ false
split-left xs ys b d h =
    ⊎_elim
    (λ (e : is_among ys b ≡ true). absurd (false≢true (sym (differ-split xs ys b d e) ∙ h)))
    (λ (e : is_among ys b ≡ false). e)
    (cases_Bool (is_among ys b))

-- lent blocks outside a list are still lent when that list is given back
still-lent : (lists : List Taken) (area area' : List (Option (List ℕ))) (us : List Unfinished) → ((b : ℕ) → is_among (held_by lists us) b ≡ true → slice_get area' b ≡ slice_get area b) →
    Every (λ (u : Unfinished). Every (IsLent area) (list_of lists u.serial)) us → Every (λ (u : Unfinished). Every (IsLent area') (list_of lists u.serial)) us
still-lent lists area area' [] same e = tt
still-lent lists area area' (u ∷ us) same e = (
  every-join (λ b. is_among (list_of lists u.serial) b ≡ true) (IsLent area) (IsLent area') (list_of lists u.serial)
      (λ b h l. same b (among-append (list_of lists u.serial) (held_by lists us) b ∙ or_left (is_among (list_of lists u.serial) b) (is_among (held_by lists us) b) h) ∙ l) (every-among (list_of lists u.serial)) e.0,
  still-lent lists area area' us (λ b h. same b (among-append (list_of lists u.serial) (held_by lists us) b ∙ or_right (is_among (list_of lists u.serial) b) (is_among (held_by lists us) b) h)) e.1,
)

-- data in blocks that stay as they are
pub data-other : (size : ℕ) (area area' : List (Option (List ℕ))) (bs bytes : List ℕ) → ((b : ℕ) → is_among bs b ≡ true → slice_get area' b ≡ slice_get area b) → HaveData size area bs bytes → HaveData size area' bs bytes
data-other size area area' bs bytes same h =
    let all : Every (λ b. slice_get area' b ≡ slice_get area b) bs = every-weaker (λ b. is_among bs b ≡ true) (λ b. slice_get area' b ≡ slice_get area b) bs same (every-among bs) in
    record {
      here = every-join (λ b. slice_get area' b ≡ slice_get area b) (IsHome size area) (IsHome size area') bs (λ b e i. (i.0, e ∙ i.1, i.2)) all h.here;
      begin_ = ap (take (length bytes)) (along-same size area area' bs all) ∙ h.begin_;
    }

-- a front is as long as it is
take-own : (n : ℕ) (xs : List ℕ) → take (length (take n xs)) xs ≡ take n xs
take-own zero xs = refl
take-own (suc n) [] = refl
take-own (suc n) (x ∷ xs) = ap (λ ys. x ∷ ys) (take-own n xs)

front-of : (n : ℕ) (xs ys : List ℕ) → take n xs ≡ ys → take (length ys) xs ≡ ys
front-of n xs ys h = ap (λ (zs : List ℕ). take (length zs) xs) (sym h) ∙ take-own n xs ∙ h

-- each command's blocks come back with its payload
pub back-data : (size : ℕ) (lists : List Taken) (area : List (Option (List ℕ))) (us : List Unfinished) (pss : List (List (List ℕ))) → Differ (held_by lists us) →
    Every (λ (u : Unfinished). Every (IsLent area) (list_of lists u.serial)) us → AreParts size lists us pss →
    Every (λ (u : Unfinished). HaveData size (all_back lists area us pss) (list_of lists u.serial) (payload_of u)) us
back-data size lists area [] [] d e h = tt
back-data size lists area [] (ps ∷ pss) d e h = absurd h
back-data size lists area (u ∷ us) [] d e h = absurd h
back-data size lists area (u ∷ us) (ps ∷ pss) d e h =
    let bs : List ℕ = list_of lists u.serial in
    let area1 : List (Option (List ℕ)) = returned area bs ps in
    let k = returned-data size area bs ps h.0.count (differ_front bs (held_by lists us) d) e.0 h.0.sized in
    let own : HaveData size area1 bs (payload_of u) = record {
      here = k.0;
      begin_ = ap (take (length (payload_of u))) k.1 ∙ front-of (payload_length u.command) (gathered ps) (payload_of u) h.0.payload;
    } in (
      data-other size area1 (all_back lists area1 us pss) bs (payload_of u) (λ b m. back-other lists area1 us pss b (split-left bs (held_by lists us) b d m)) own,
      back-data size lists area1 us pss (differ-right bs (held_by lists us) d)
          (still-lent lists area area1 us (λ b m. returned-other area bs ps b (differ-split bs (held_by lists us) b d m)) e.1) h.1,
    )

-- a block that a command with its data holds is at home
pub held-home : (size : ℕ) (area : List (Option (List ℕ))) (lists : List Taken) (us : List Unfinished) (b : ℕ) → Every (λ (u : Unfinished). HaveData size area (list_of lists u.serial) (payload_of u)) us →
    is_among (held_by lists us) b ≡ true → IsHome size area b
held-home size area lists [] b e h = absurd (false≢true h)
held-home size area lists (u ∷ us) b e h =
    let bs : List ℕ = list_of lists u.serial in
    ⊎_elim
    (λ (m : is_among bs b ≡ true). let d = e.0 in among_every (IsHome size area) bs b d.here m)
    (λ (m : is_among bs b ≡ false). held-home size area lists us b e.1 (let z : is_among (bs ++ held_by lists us) b ≡ is_among (held_by lists us) b = among-append bs (held_by lists us) b ∙ rw m refl in sym z ∙ h))
    (cases_Bool (is_among bs b))

-- one run of returns after another
pub back-append : (lists : List Taken) (size : ℕ) (area : List (Option (List ℕ))) (us vs : List Unfinished) (pss qss : List (List (List ℕ))) → AreParts size lists us pss →
    all_back lists area (us ++ vs) (pss ++ qss) ≡ all_back lists (all_back lists area us pss) vs qss
back-append lists size area [] vs [] qss h = refl
back-append lists size area [] vs (ps ∷ pss) qss h = absurd h
back-append lists size area (u ∷ us) vs [] qss h = absurd h
back-append lists size area (u ∷ us) vs (ps ∷ pss) qss h = back-append lists size (returned area (list_of lists u.serial) ps) us vs pss qss h.1

pub parts-append : (lists : List Taken) (size : ℕ) (us vs : List Unfinished) (pss qss : List (List (List ℕ))) → AreParts size lists us pss → AreParts size lists vs qss → AreParts size lists (us ++ vs) (pss ++ qss)
parts-append lists size [] vs [] qss h k = k
parts-append lists size [] vs (ps ∷ pss) qss h k = absurd h
parts-append lists size (u ∷ us) vs [] qss h k = absurd h
parts-append lists size (u ∷ us) vs (ps ∷ pss) qss h k = (h.0, parts-append lists size us vs pss qss h.1 k)
