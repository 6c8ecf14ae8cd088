-- Block lists stay sound where no command is laid or cleaned, and where lists go that no unfinished command and no uncleared item has.
use Rattle.std.proofs.Common.{◌≡◌, ℕ, ◌≤◌, ◌<◌, ◌||◌, Bool, true, false, List, [], ◌∷◌, ◌++◌, length, drop, map, filter, refl, sym, ap, ◌∙◌, arith, suc, zero, Some, slice_get, append_assoc, subst, ⊎_elim, eqb}
use Rattle.std.specs.List.{list_any, flat_map}
use Rattle.std.proofs.lemmas.Bool.{cases_Bool, eqb-true, eq-eqb, or_left, or_right}
use Rattle.tcmu_types.specs.Data.{CommandData, SettingsData}
use Rattle.tcmu_types.specs.Lists.{first_of, Every}
use Rattle.tcmu_types.specs.Numbers.{is_among, Differ}
use Rattle.tcmu_types.proofs.Everies.{every-weaker, every-filter, every-both, every-map, every-mapped}
use Rattle.tcmu_types.proofs.Rises.{among-append}
use Rattle.tcmu_model.specs.Lengths.{blocks_of}
use Rattle.tcmu_model.specs.RingState.{Item, serials_in, serial_in}
use Rattle.tcmu_model.specs.RingState as ring
use Rattle.tcmu_model.specs.Device.{Unfinished, DeviceState, has_serial, opening_state}
use Rattle.tcmu_model.specs.Events.{emptied}
use Rattle.tcmu_model.specs.BlockLists.{Taken, list_of, held_by, blocks_taken, is_kept, kept_lists}
use Rattle.tcmu_model.specs.Owned.{ListsSound}

-- ==== no list

pub lists_sound_opening : (s : SettingsData) → ListsSound (opening_state s) []
lists_sound_opening s = record { listed = tt; differ = tt; below = tt; sizes = tt; spans = λ i n q c l g. absurd (cc) }

pub lists_emptied : (d : DeviceState) (level : ℕ) → ListsSound (emptied d level) []
lists_emptied d level = record { listed = tt; differ = tt; below = tt; sizes = tt; spans = λ i m q c l g. absurd (cc) }

pub none_kept : (d : DeviceState) (level : ℕ) (lists : List Taken) → kept_lists (emptied d level) lists ≡ []
none_kept d level [] = refl
none_kept d level (l ∷ lists) = none_kept d level lists

-- ==== what a block list is for

-- a command by its serial
pub record Called : Type 0 where
  pub serial : ℕ
  pub command : CommandData

abbrev pub called : Unfinished → Called
called u = record { serial = u.serial; command = u.command }

-- all of a device that its block lists are of
pub record Holders : Type 0 where
  pub settings : SettingsData
  pub laid : List Item
  pub cleared : ℕ
  pub unfinished : List Called

abbrev pub holders : DeviceState → Holders
holders d = record { settings = d.settings; laid = d.ring.laid; cleared = d.ring.cleared; unfinished = map called d.unfinished }

abbrev held_of : List Taken → List Called → List ℕ
held_of lists us = flat_map (λ (u : Called). list_of lists u.serial) us

record AreSound (h : Holders) (lists : List Taken) : Type 0 where
  listed : Every (λ (t : Taken). is_among (serials_in h.laid) t.serial ≡ true) lists
  differ : Differ (held_of lists h.unfinished)
  below : Every (λ n. n < h.settings.blocks) (held_of lists h.unfinished)
  sizes : Every (λ u. length (list_of lists u.serial) ≡ blocks_of h.settings.pages u.command) h.unfinished
  spans : (i n s : ℕ) (c : CommandData) → h.cleared ≤ i → slice_get h.laid i ≡ Some (record { len = n; laid = ring.Cmd s c }) → length (list_of lists s) ≡ blocks_of h.settings.pages c

held-called : (lists : List Taken) (us : List Unfinished) → held_of lists (map called us) ≡ held_by lists us
held-called lists [] = refl
held-called lists (u ∷ us) = ap (λ bs. list_of lists u.serial ++ bs) (held-called lists us)

of_device : (d : DeviceState) (lists : List Taken) → ListsSound d lists → AreSound (holders d) lists
of_device d lists h =
    let e = sym (held-called lists d.unfinished) in
    let P : Called → Type 0 = λ u. length (list_of lists u.serial) ≡ blocks_of d.settings.pages u.command in
    record {
      listed = h.listed;
      differ = subst Differ e h.differ;
      below = subst (Every (λ n. n < d.settings.blocks)) e h.below;
      sizes = every-map called (λ u. P (called u)) P d.unfinished (λ u k. k) h.sizes;
      spans = h.spans;
    }

for_device : (d : DeviceState) (lists : List Taken) → AreSound (holders d) lists → ListsSound d lists
for_device d lists h =
    let e = held-called lists d.unfinished in
    record {
      listed = h.listed;
      differ = subst Differ e h.differ;
      below = subst (Every (λ n. n < d.settings.blocks)) e h.below;
      sizes = every-mapped called (λ u. length (list_of lists u.serial) ≡ blocks_of d.settings.pages u.command) d.unfinished h.sizes;
      spans = h.spans;
    }

-- a device with the same commands and the same ring
pub lists_same : (d d' : DeviceState) (lists : List Taken) → holders d' ≡ holders d → ListsSound d lists → ListsSound d' lists
lists_same d d' lists e h = for_device d' lists (subst (λ (x : Holders). AreSound x lists) (sym e) (of_device d lists h))

-- ==== lists that go

-- a serial whose list is kept
abbrev pub StillListed : DeviceState → ℕ → Type 0
StillListed d s = (list_any (has_serial s) d.unfinished || is_among (serials_in (drop d.ring.cleared d.ring.laid)) s) ≡ true

pub list_kept : (d : DeviceState) (lists : List Taken) (s : ℕ) → StillListed d s → list_of (kept_lists d lists) s ≡ list_of lists s
list_kept d lists s h = ap blocks_taken (first_kept lists)
  where
    first_kept : (ls : List Taken) → first_of (λ (t : Taken). eqb t.serial s) (filter (is_kept d) ls) ≡ first_of (λ (t : Taken). eqb t.serial s) ls
    first_kept [] = refl
    first_kept (t ∷ ts) =
        ⊎_elim
        (λ (e : eqb t.serial s ≡ true).
        let q : t.serial ≡ s = eqb-true t.serial s e in
        let k : is_kept d t ≡ true = subst (λ z. StillListed d z) (sym q) h in
        rw (k, e) refl)
        (λ (e : eqb t.serial s ≡ false).
        ⊎_elim
        (λ (k : is_kept d t ≡ true). rw (k, e) (first_kept ts))
        (λ (k : is_kept d t ≡ false). rw (k, e) (first_kept ts))
        (cases_Bool (is_kept d t)))
        (cases_Bool (eqb t.serial s))

any-more : (p : Unfinished → Bool) (us vs : List Unfinished) → list_any p vs ≡ true → list_any p (us ++ vs) ≡ true
any-more p [] vs h = h
any-more p (u ∷ us) vs h = or_right (p u) (list_any p (us ++ vs)) (any-more p us vs h)

-- each of these is unfinished
abbrev pub AreUnfinished : DeviceState → List Unfinished → Type 0
AreUnfinished d us = Every (λ u. StillListed d u.serial) us

pub own_listed : (d : DeviceState) → AreUnfinished d d.unfinished
own_listed d = behind [] d.unfinished refl
  where
    behind : (front us : List Unfinished) → front ++ us ≡ d.unfinished → AreUnfinished d us
    behind front [] e = tt
    behind front (u ∷ us) e =
        let a : list_any (has_serial u.serial) (front ++ u ∷ us) ≡ true = any-more (has_serial u.serial) front (u ∷ us) (or_left (eqb u.serial u.serial) (list_any (has_serial u.serial) us) (eq-eqb u.serial u.serial refl)) in (
          or_left (list_any (has_serial u.serial) d.unfinished) (is_among (serials_in (drop d.ring.cleared d.ring.laid)) u.serial) (subst (λ (vs : List Unfinished). list_any (has_serial u.serial) vs ≡ true) e a),
          behind (front ++ u ∷ []) us (append_assoc front (u ∷ []) us ∙ e),
        )

pub item_listed : (d : DeviceState) (i n s : ℕ) (c : CommandData) → d.ring.cleared ≤ i → slice_get d.ring.laid i ≡ Some (record { len = n; laid = ring.Cmd s c }) → StillListed d s
item_listed d i n s c l g = or_right (list_any (has_serial s) d.unfinished) (is_among (serials_in (drop d.ring.cleared d.ring.laid)) s) (within d.ring.laid d.ring.cleared i l g)
  where
    here : (xs : List Item) (j : ℕ) → slice_get xs j ≡ Some (record { len = n; laid = ring.Cmd s c }) → is_among (serials_in xs) s ≡ true
    here [] j h = absurd (cc)
    here (x ∷ xs) zero h =
        let e : x ≡ record { len = n; laid = ring.Cmd s c } = cc in
        subst (λ (y : Item). is_among (serial_in y ++ serials_in xs) s ≡ true) (sym e) (or_left (eqb s s) (is_among (serials_in xs) s) (eq-eqb s s refl))
    here (x ∷ xs) (suc j) h = among-append (serial_in x) (serials_in xs) s ∙ or_right (is_among (serial_in x) s) (is_among (serials_in xs) s) (here xs j h)

    within : (xs : List Item) (k j : ℕ) → k ≤ j → slice_get xs j ≡ Some (record { len = n; laid = ring.Cmd s c }) → is_among (serials_in (drop k xs)) s ≡ true
    within xs zero j l h = here xs j h
    within [] (suc k) j l h = absurd (cc)
    within (x ∷ xs) (suc k) zero l h = absurd (omega arith)
    within (x ∷ xs) (suc k) (suc j) l h = within xs k j (omega arith) h

pub held_kept : (d : DeviceState) (lists : List Taken) (us : List Unfinished) → AreUnfinished d us → held_by (kept_lists d lists) us ≡ held_by lists us
held_kept d lists [] h = refl
held_kept d lists (u ∷ us) h = ap (λ bs. bs ++ held_by (kept_lists d lists) us) (list_kept d lists u.serial h.0) ∙ ap (λ bs. list_of lists u.serial ++ bs) (held_kept d lists us h.1)

pub lists_kept : (d : DeviceState) (lists : List Taken) → ListsSound d lists → ListsSound d (kept_lists d lists)
lists_kept d lists h =
    let held : held_by (kept_lists d lists) d.unfinished ≡ held_by lists d.unfinished = held_kept d lists d.unfinished (own_listed d) in
    record {
      listed = every-filter (is_kept d) (λ (t : Taken). is_among (serials_in d.ring.laid) t.serial ≡ true) lists h.listed;
      differ = subst Differ (sym held) h.differ;
      below = subst (Every (λ (n : ℕ). n < d.settings.blocks)) (sym held) h.below;
      sizes = every-weaker (λ (u : Unfinished). StillListed d u.serial × (length (list_of lists u.serial) ≡ blocks_of d.settings.pages u.command)) (λ (u : Unfinished). length (list_of (kept_lists d lists) u.serial) ≡ blocks_of d.settings.pages u.command) d.unfinished
          (λ u q. ap length (list_kept d lists u.serial q.0) ∙ q.1)
          (every-both (λ (u : Unfinished). StillListed d u.serial) (λ (u : Unfinished). length (list_of lists u.serial) ≡ blocks_of d.settings.pages u.command) d.unfinished (own_listed d) h.sizes);
      spans = λ i n s c l g. ap length (list_kept d lists s (item_listed d i n s c l g)) ∙ h.spans i n s c l g;
    }
