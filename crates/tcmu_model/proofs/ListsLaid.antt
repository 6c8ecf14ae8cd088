-- A command is laid: the block lists stay sound.
use Rattle.std.proofs.Common.{◌≡◌, ℕ, ◌+◌, ◌≤◌, ◌<◌, ◌||◌, true, false, List, [], ◌∷◌, ◌++◌, length, None, refl, sym, ap, ◌∙◌, arith, append_assoc, append-nil, subst, eqb, length-append}
use Rattle.std.specs.List.{sum_by}
use Rattle.std.proofs.lemmas.Bool.{eqb-false, eq-eqb, ne_eqb, false≢true, or_parts, or_left}
use Rattle.std.proofs.lemmas.List.Sums.{sum_by-cons}
use Rattle.tcmu_types.specs.Data.{CommandData}
use Rattle.tcmu_types.specs.Lists.{first_of, Every}
use Rattle.tcmu_types.specs.Numbers.{is_among, Differ}
use Rattle.tcmu_types.specs.declared.answer.Submit.TheVariants as submit
use Rattle.tcmu_types.specs.declared.answer.Enter.TheVariants as enter
use Rattle.tcmu_types.proofs.Everies.{every-append, every-weaker}
use Rattle.tcmu_types.proofs.Rises.{among-append, among-here, among_every}
use Rattle.tcmu_model.specs.Lengths.{blocks_of, entry_length}
use Rattle.tcmu_model.specs.RingState.{Item, pads, is_command, serials_in}
use Rattle.tcmu_model.specs.RingState as ring
use Rattle.tcmu_model.specs.Device.{Unfinished, Delayed, DeviceState}
use Rattle.tcmu_model.specs.Events.{held_blocks, waiting, with_command, submit_answer, after_submit, enter_answer, after_enter, after_entering}
use Rattle.tcmu_model.specs.BlockLists.{Taken, list_of, held_by, least_free, blocks_taken, with_taken}
use Rattle.tcmu_model.specs.Owned.{ListsSound, HasRoom}
use Rattle.tcmu_model.specs.Sound.{IsSound}
use Rattle.tcmu_model.proofs.Basics.{rows_among}
use Rattle.tcmu_model.proofs.Laying.{serials-append}
use Rattle.tcmu_model.proofs.LaidItems.{laid_with, LaidCase, laid_case, Old, Padding, New, serial_at}
use Rattle.tcmu_types.proofs.Firsts.{first-append, first-here}
use Rattle.tcmu_model.proofs.FreeBlocks.{IsFree, length-least_free, least-are, least-differ}
use Rattle.tcmu_model.proofs.AnsweredRoom.{queued_room, above_accepted, room_answered, above_laid}

-- ==== lists of one more

pub not_below : (s q : ℕ) → q < s → eqb s q ≡ false
not_below s q h = ne_eqb s q (λ e. absurd (omega arith))

-- no list has a serial above all that are laid
pub unlisted : (lists : List Taken) (s : ℕ) → Every (λ (t : Taken). t.serial < s) lists → first_of (λ (t : Taken). eqb t.serial s) lists ≡ None
unlisted [] s h = refl
unlisted (t ∷ ts) s h = let k : eqb t.serial s ≡ false = ne_eqb t.serial s (λ e. let l : t.serial < s = h.0 in absurd (omega arith)) in rw k (unlisted ts s h.1)

pub rows_below : (d : DeviceState) (s : ℕ) → IsSound d → Every (λ k. k < s) (serials_in d.ring.laid) → Every (λ (u : Unfinished). u.serial < s) d.unfinished
rows_below d s sound above =
    every-weaker (λ (u : Unfinished). is_among (serials_in d.ring.laid) u.serial ≡ true) (λ (u : Unfinished). u.serial < s) d.unfinished
    (λ u h. among_every (λ (k : ℕ). k < s) (serials_in d.ring.laid) u.serial above h) (rows_among d sound.serials)

pub lists_below : (d : DeviceState) (lists : List Taken) (s : ℕ) → ListsSound d lists → Every (λ k. k < s) (serials_in d.ring.laid) → Every (λ (t : Taken). t.serial < s) lists
lists_below d lists s owned above =
    every-weaker (λ (t : Taken). is_among (serials_in d.ring.laid) t.serial ≡ true) (λ (t : Taken). t.serial < s) lists
    (λ t h. among_every (λ (k : ℕ). k < s) (serials_in d.ring.laid) t.serial above h) owned.listed

pub held_length : (pages : ℕ) (lists : List Taken) (us : List Unfinished) → Every (λ (u : Unfinished). length (list_of lists u.serial) ≡ blocks_of pages u.command) us → length (held_by lists us) ≡ sum_by (λ (u : Unfinished). blocks_of pages u.command) us
held_length pages lists [] h = refl
held_length pages lists (u ∷ us) h =
    let a : length (list_of lists u.serial ++ held_by lists us) ≡ length (list_of lists u.serial) + length (held_by lists us) = length-append (list_of lists u.serial) (held_by lists us) in
    let b : length (list_of lists u.serial) ≡ blocks_of pages u.command = h.0 in
    let c : length (held_by lists us) ≡ sum_by (λ (v : Unfinished). blocks_of pages v.command) us = held_length pages lists us h.1 in
    a ∙ ap (λ z. z + length (held_by lists us)) b ∙ ap (λ z. blocks_of pages u.command + z) c ∙ sym (sum_by-cons (λ (v : Unfinished). blocks_of pages v.command) u us)

pub differ-append : (xs ys : List ℕ) → Differ xs → Differ ys → Every (λ y. is_among xs y ≡ false) ys → Differ (xs ++ ys)
differ-append [] ys d e h = e
differ-append (x ∷ xs) ys d e h = (
  among-append xs ys x ∙ ap (λ b. b || is_among ys x) d.0 ∙ not_there ys h,
  differ-append xs ys d.1 e (every-weaker (λ y. is_among (x ∷ xs) y ≡ false) (λ y. is_among xs y ≡ false) ys (λ y k. (or_parts (eqb x y) (is_among xs y) k).1) h),
)
  where
    not_there : (zs : List ℕ) → Every (λ y. is_among (x ∷ xs) y ≡ false) zs → is_among zs x ≡ false
    not_there [] k = refl
    not_there (z ∷ zs) k =
        let p = or_parts (eqb x z) (is_among xs z) k.0 in
        let q : eqb z x ≡ false = ne_eqb z x (λ e. eqb-false x z p.0 (sym e)) in
        rw q (not_there zs k.1)

held-append : (lists : List Taken) (us : List Unfinished) (u : Unfinished) → held_by lists (us ++ u ∷ []) ≡ held_by lists us ++ held_by lists (u ∷ [])
held-append lists [] u = refl
held-append lists (v ∷ us) u =
    ap (λ xs. list_of lists v.serial ++ xs) (held-append lists us u) ∙ sym (append_assoc (list_of lists v.serial) (held_by lists us) (held_by lists (u ∷ [])))

held_same : (lists lists' : List Taken) (s : ℕ) (us : List Unfinished) → ((q : ℕ) → q < s → list_of lists' q ≡ list_of lists q) → Every (λ (u : Unfinished). u.serial < s) us → held_by lists' us ≡ held_by lists us
held_same lists lists' s [] l h = refl
held_same lists lists' s (u ∷ us) l h = ap (λ z. z ++ held_by lists' us) (l u.serial h.0) ∙ ap (λ z. list_of lists u.serial ++ z) (held_same lists lists' s us l h.1)

sizes_same : (pages : ℕ) (lists lists' : List Taken) (s : ℕ) (us : List Unfinished) → ((q : ℕ) → q < s → list_of lists' q ≡ list_of lists q) → Every (λ (u : Unfinished). u.serial < s) us →
    Every (λ (u : Unfinished). length (list_of lists u.serial) ≡ blocks_of pages u.command) us → Every (λ (u : Unfinished). length (list_of lists' u.serial) ≡ blocks_of pages u.command) us
sizes_same pages lists lists' s [] l h e = tt
sizes_same pages lists lists' s (u ∷ us) l h e = (ap length (l u.serial h.0) ∙ e.0, sizes_same pages lists lists' s us l h.1 e.1)

-- ==== a command is laid

abbrev pub cmd_item : DeviceState → ℕ → CommandData → Item
cmd_item d s c = record { len = entry_length d.settings.pages c; laid = ring.Cmd s c }

abbrev pub with_waiting : DeviceState → ℕ → CommandData → List Unfinished
with_waiting d s c = d.unfinished ++ waiting d s c ∷ []

pub lists_sound_laid : (d : DeviceState) (lists : List Taken) (s : ℕ) (c : CommandData) → IsSound d → ListsSound d lists → HasRoom d c → Every (λ k. k < s) (serials_in d.ring.laid) →
    ListsSound (with_command d s c) (with_taken d lists s c)
unfolding with_command
lists_sound_laid d lists s c sound owned room above =
    let hs : List ℕ = held_by lists d.unfinished in
    let n : ℕ = blocks_of d.settings.pages c in
    let bs : List ℕ = least_free d.settings.blocks hs n in
    let it : Item = cmd_item d s c in
    let new : Taken = record { serial = s; blocks = bs } in
    let lists' = with_taken d lists s c in
    let u : Unfinished = waiting d s c in
    let rows : Every (λ (v : Unfinished). v.serial < s) d.unfinished = rows_below d s sound above in
    let old : (q : ℕ) → q < s → list_of lists' q ≡ list_of lists q = λ q h. ap blocks_taken (first-append (λ (l : Taken). eqb l.serial q) lists new (not_below s q h)) in
    let mine : list_of lists' s ≡ bs = ap blocks_taken (first-here (λ (l : Taken). eqb l.serial s) lists new (eq-eqb s s refl) (unlisted lists s (lists_below d lists s owned above))) in
    let lh : length hs ≡ held_blocks d = held_length d.settings.pages lists d.unfinished owned.sizes in
    let rb : held_blocks d + n ≤ d.settings.blocks = room.blocks in
    let ln : length bs ≡ n = length-least_free d.settings.blocks hs n (omega arith) in
    let free : Every (IsFree hs 0 (0 + d.settings.blocks)) bs = least-are d.settings.blocks hs n in
    let held : held_by lists' (with_waiting d s c) ≡ hs ++ bs =
    held-append lists' d.unfinished u ∙ ap (λ z. z ++ held_by lists' (u ∷ [])) (held_same lists lists' s d.unfinished old rows) ∙ ap (λ z. hs ++ z) (append-nil (list_of lists' s) ∙ mine) in
    let front : List ℕ = serials_in (d.ring.laid ++ pads (ring.pad d.ring (entry_length d.settings.pages c))) in
    let ser : serials_in (laid_with d.ring it) ≡ front ++ s ∷ [] = serials-append (d.ring.laid ++ pads (ring.pad d.ring (entry_length d.settings.pages c))) (it ∷ []) in
    let ser0 : front ≡ serials_in d.ring.laid ++ serials_in (pads (ring.pad d.ring (entry_length d.settings.pages c))) = serials-append d.ring.laid (pads (ring.pad d.ring (entry_length d.settings.pages c))) in
    record {
      listed = every-append (λ (t : Taken). is_among (serials_in (laid_with d.ring it)) t.serial ≡ true) lists (new ∷ [])
          (every-weaker (λ (t : Taken). is_among (serials_in d.ring.laid) t.serial ≡ true) (λ (t : Taken). is_among (serials_in (laid_with d.ring it)) t.serial ≡ true) lists
          (λ t h. ap (λ xs. is_among xs t.serial) ser ∙ among-append front (s ∷ []) t.serial
          ∙ or_left (is_among front t.serial) (is_among (s ∷ []) t.serial)
          (ap (λ xs. is_among xs t.serial) ser0 ∙ among-append (serials_in d.ring.laid) (serials_in (pads (ring.pad d.ring (entry_length d.settings.pages c)))) t.serial
          ∙ or_left (is_among (serials_in d.ring.laid) t.serial) (is_among (serials_in (pads (ring.pad d.ring (entry_length d.settings.pages c)))) t.serial) h))
          owned.listed)
          (ap (λ xs. is_among xs s) ser ∙ among-here front s [], tt);
      differ = subst Differ (sym held) (differ-append hs bs owned.differ (least-differ d.settings.blocks hs n)
          (every-weaker (IsFree hs 0 (0 + d.settings.blocks)) (λ y. is_among hs y ≡ false) bs (λ y f. f.free) free));
      below = subst (Every (λ y. y < d.settings.blocks)) (sym held) (every-append (λ y. y < d.settings.blocks) hs bs owned.below
          (every-weaker (IsFree hs 0 (0 + d.settings.blocks)) (λ y. y < d.settings.blocks) bs (λ y f. let h : y < 0 + d.settings.blocks = f.high_ in omega arith) free));
      sizes = every-append (λ (v : Unfinished). length (list_of lists' v.serial) ≡ blocks_of d.settings.pages v.command) d.unfinished (u ∷ [])
          (sizes_same d.settings.pages lists lists' s d.unfinished old rows owned.sizes) (ap length mine ∙ ln, tt);
      spans = λ i n' q c' cl g. spans_case i n' q c' cl (laid_case d.ring it i (record { len = n'; laid = ring.Cmd q c' }) g) old (ap length mine ∙ ln);
    }
  where
    spans_case : (i n' q : ℕ) (c' : CommandData) → d.ring.cleared ≤ i → LaidCase d.ring (cmd_item d s c) i (record { len = n'; laid = ring.Cmd q c' }) →
        ((k : ℕ) → k < s → list_of (with_taken d lists s c) k ≡ list_of lists k) → length (list_of (with_taken d lists s c) s) ≡ blocks_of d.settings.pages c →
        length (list_of (with_taken d lists s c) q) ≡ blocks_of d.settings.pages c'
    spans_case i n' q c' cl (Old l g) old mine = ap length (old q (serial_at (λ (k : ℕ). k < s) d.ring.laid i n' q c' above g)) ∙ owned.spans i n' q c' cl g
    spans_case i n' q c' cl (Padding a b e) old mine = absurd (false≢true (ap is_command (sym e)))
    spans_case i n' q c' cl (New a e) old mine =
        let l : ring.Cmd q c' ≡ ring.Cmd s c = ap (λ (y : Item). y.laid) e in
        let q0 : q ≡ s = cc in
        let c0 : c' ≡ c = cc in
        ap (λ k. length (list_of (with_taken d lists s c) k)) q0 ∙ mine ∙ ap (λ (y : CommandData). blocks_of d.settings.pages y) (sym c0)

pub lists_submitted : (d : DeviceState) (lists : List Taken) (s : ℕ) (c : CommandData) → IsSound d → ListsSound d lists → submit_answer d c ≡ submit.Queued s →
    ListsSound (after_submit d c (submit.Queued s)) (with_taken d lists s c)
unfolding after_submit with_command
lists_submitted d lists s c sound owned h =
    let q = queued_room d c s sound h in
    let k : ListsSound (with_command d s c) (with_taken d lists s c) = lists_sound_laid d lists s c sound owned q.0 (above_accepted d s sound q.1) in
    record { listed = k.listed; differ = k.differ; below = k.below; sizes = k.sizes; spans = k.spans }

-- what holds behind the laying of the first one that waits holds behind the step
by_device : (d : DeviceState) (w : Delayed) (ws : List Delayed) (s : ℕ) (P : DeviceState → Type 0) → d.delayed ≡ w ∷ ws → P (after_entering d (w ∷ ws)) → P (after_enter d (enter.Entered s))
unfolding after_enter
by_device d w ws s P e p = subst (λ (xs : List Delayed). P (after_entering d xs)) (sym e) p

pub lists_entered : (d : DeviceState) (lists : List Taken) (w : Delayed) (ws : List Delayed) (s : ℕ) → IsSound d → ListsSound d lists → d.delayed ≡ w ∷ ws → enter_answer d ≡ enter.Entered s →
    ListsSound (after_enter d (enter.Entered s)) (with_taken d lists w.serial w.command)
lists_entered d lists w ws s sound owned e h =
    let k : ListsSound (with_command d w.serial w.command) (with_taken d lists w.serial w.command) = lists_sound_laid d lists w.serial w.command sound owned (room_answered d w ws s sound e h).0 (above_laid d w ws sound e) in
    by_device d w ws s (λ d'. ListsSound d' (with_taken d lists w.serial w.command)) e (record { listed = k.listed; differ = k.differ; below = k.below; sizes = k.sizes; spans = k.spans })
