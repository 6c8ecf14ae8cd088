-- The block lists of a run are short, and their blocks are numbers of 64 bits.
use Rattle.std.proofs.Common.{◌≡◌, ℕ, zero, suc, ◌+◌, ◌<◌, ◌≤◌, Bool, true, false, cond, List, [], ◌∷◌, length, take, nat_eq, Option, Some, None, refl, arith}
use Rattle.std.proofs.lemmas.List.{length-take}
use Rattle.tcmu_types.specs.Data.{CommandData}
use Rattle.tcmu_types.specs.Events.{EventData, AnswerData}
use Rattle.tcmu_types.specs.Events as ev
use Rattle.tcmu_types.specs.declared.answer.Submit.TheVariants as submit
use Rattle.tcmu_types.specs.declared.answer.Enter.TheVariants as enter
use Rattle.tcmu_types.specs.Lists.{first_of, Every}
use Rattle.tcmu_types.specs.Numbers.{is_among}
use Rattle.tcmu_types.proofs.Everies.{every-append, every-filter, every-first, every-weaker}
use Rattle.tcmu_model.specs.BlockLists.{Taken, blocks_taken, list_of, held_by, free_from, least_free, with_taken, is_kept, kept_lists, lists_after}
use Rattle.tcmu_model.specs.Device.{Unfinished, Delayed, DeviceState}
use Rattle.tcmu_model.specs.Events.{blocks_in}
use Rattle.tcmu_model.specs.Sound.{IsSound}
use Rattle.text_laws.specs.Values.{IsNumber}
use Rattle.text_laws.proofs.Devices.{blocks_few}
use Rattle.text_laws.proofs.Pictured.{AreFew}

-- at most so many blocks, each below this number
pub record IsShort (most : ℕ) (blocks : List ℕ) : Type 0 where
  pub few : length blocks ≤ most
  pub below : Every (λ b. b < most) blocks

abbrev pub AreShort : List Taken → Type 0
AreShort lists = Every (λ (t : Taken). IsShort 4096 t.blocks) lists

-- ---- free blocks

free_few : (held : List ℕ) (n k : ℕ) → length (free_from held n k) ≤ k
free_few held n zero = omega arith
free_few held n (suc k) = go (is_among held n) (free_few held (n + 1) k)
  where
    go : (b : Bool) → length (free_from held (n + 1) k) ≤ k → length (cond b (free_from held (n + 1) k) (n ∷ free_from held (n + 1) k)) ≤ suc k
    go true rest = omega (arith, rest)
    go false rest = omega (arith, rest)

free_below : (held : List ℕ) (n k most : ℕ) → n + k ≤ most → Every (λ b. b < most) (free_from held n k)
free_below held n zero most le = tt
free_below held n (suc k) most le = go (is_among held n) (free_below held (n + 1) k most (omega (arith, le)))
  where
    go : (b : Bool) → Every (λ b. b < most) (free_from held (n + 1) k) → Every (λ b. b < most) (cond b (free_from held (n + 1) k) (n ∷ free_from held (n + 1) k))
    go true rest = rest
    go false rest = (omega (arith, le), rest)

every_take : (P : ℕ → Type 0) (n : ℕ) (xs : List ℕ) → Every P xs → Every P (take n xs)
every_take P zero xs h = tt
every_take P (suc n) [] h = tt
every_take P (suc n) (x ∷ xs) h = (h.0, every_take P n xs h.1)

least_short : (limit n : ℕ) (held : List ℕ) → limit ≤ 4096 → IsShort 4096 (least_free limit held n)
least_short limit n held le =
    record {
      few = omega (arith, le, free_few held 0 limit, length-take n (free_from held 0 limit));
      below = every_take (λ b. b < 4096) n (free_from held 0 limit) (free_below held 0 limit 4096 (omega (arith, le)));
    }

-- ---- events

taken_more : (d : DeviceState) (lists : List Taken) (s : ℕ) (c : CommandData) → IsSound d → AreShort lists → AreShort (with_taken d lists s c)
taken_more d lists s c sound h =
    every-append (λ (t : Taken). IsShort 4096 t.blocks) lists (record { serial = s; blocks = least_free d.settings.blocks (held_by lists d.unfinished) (blocks_in d c) } ∷ []) h
    (least_short d.settings.blocks (blocks_in d c) (held_by lists d.unfinished) (blocks_few d.settings sound.settings), tt)

entered : (d : DeviceState) (lists : List Taken) (s : ℕ) (ws : List Delayed) → IsSound d → AreShort lists → AreShort (elim ws [ [] ↦ lists | w ∷ more ↦ with_taken d lists s w.command ])
entered d lists s [] sound h = h
entered d lists s (w ∷ ws) sound h = taken_more d lists s w.command sound h

kept : (after : DeviceState) (lists : List Taken) → AreShort lists → AreShort (kept_lists after lists)
kept after lists h = every-filter (is_kept after) (λ (t : Taken). IsShort 4096 t.blocks) lists h

pub short_after : (d after : DeviceState) (lists : List Taken) (event : EventData) (answer : AnswerData) → IsSound d → AreShort lists → AreShort (lists_after d lists event answer after)
short_after d after lists (ev.Submit c) (ev.Submitted (submit.Queued s)) sound h = taken_more d lists s c sound h
short_after d after lists ev.Enter (ev.Entered (enter.Entered s)) sound h = entered d lists s d.delayed sound h
short_after d after lists ev.Stat answer sound h = let less = kept after lists h in assumption (h, less)
short_after d after lists event answer sound h = kept after lists h

-- ---- the lists of a device

list_short : (lists : List Taken) (s : ℕ) → AreShort lists → IsShort 4096 (list_of lists s)
list_short lists s h = go (first_of (λ (t : Taken). nat_eq t.serial s) lists) refl
  where
    go : (o : Option Taken) → first_of (λ (t : Taken). nat_eq t.serial s) lists ≡ o → IsShort 4096 (blocks_taken o)
    go None e = record { few = omega arith; below = tt }
    go (Some t) e = every-first (λ (x : Taken). nat_eq x.serial s) (λ (x : Taken). IsShort 4096 x.blocks) lists t h e

held_numbers : (lists : List Taken) (us : List Unfinished) → AreShort lists → Every IsNumber (held_by lists us)
held_numbers lists [] h = tt
held_numbers lists (u ∷ us) h =
    let own = list_short lists u.serial h in
    every-append IsNumber (list_of lists u.serial) (held_by lists us) (every-weaker (λ b. b < 4096) IsNumber (list_of lists u.serial) (λ b lt. omega (arith, lt)) own.below) (held_numbers lists us h)

pub short_few : (d : DeviceState) (lists : List Taken) → AreShort lists → AreFew d lists
short_few d lists h =
    record {
      spans = λ i n s c behind found. let own = list_short lists s h in omega (arith, own.few);
      held = held_numbers lists d.unfinished h;
    }
