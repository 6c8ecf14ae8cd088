-- A cleaning leaves the device sound: the answered commands are finished, and logged but where they expired.
use Rattle.std.proofs.Common.{◌≡◌, ℕ, ◌+◌, ◌-◌, ◌<◌, ◌≤◌, Bool, true, false, not, cond, List, [], ◌∷◌, ◌++◌, take, drop, map, refl, sym, ap, ◌∙◌, arith, ⊎_elim, subst, ◌||◌, ◌&&◌, eqb, Some, None, Option, append-nil}
use Rattle.std.specs.List.{list_any, filter, count_by, sum_by}
use Rattle.std.specs.Option.{is_some}
use Rattle.std.specs.Prelude.{IfSome}
use Rattle.std.proofs.lemmas.Bool.{cases_Bool, true≢false, false≢true, or_left, or_right, eq-eqb}
use Rattle.std.proofs.lemmas.List.{take-take, drop-drop}
use Rattle.std.proofs.lemmas.List.Elements.{filter_agree}
use Rattle.std.proofs.lemmas.List.Sums.{sum_by-cons, sum_by_push, sum_by-take-drop}
use Rattle.tcmu_types.specs.Data.{ReplyData, DoneData}
use Rattle.tcmu_model.specs.declared.state.CommandState.{CommandState}
use Rattle.tcmu_model.specs.declared.state.CommandState.TheVariants.{Waiting, Out, Handled, Parked, Placed, Lost}
use Rattle.tcmu_types.specs.Lists.{first_of, without_first, Every}
use Rattle.tcmu_model.specs.RingState.{RingState, Item, lengths, used, serials_in, published_commands, cleared_commands}
use Rattle.tcmu_model.specs.Device.{Unfinished, DeviceState, has_state, is_at}
use Rattle.tcmu_model.specs.Events.{blocks_in, completion, completions, Books, finish, finish_all, answered, books, cleaned_books, after_clean}
use Rattle.tcmu_types.specs.Numbers.{is_among, Rise}
use Rattle.tcmu_model.specs.Sound.{ReplyFits, IsLaid, finished, dispatched_serials, is_open_at, times_logged, state_fits, is_right, parked_rightly, AnswersSound, IsSound}
use Rattle.tcmu_model.proofs.CommandStates.{serial_at}
use Rattle.tcmu_types.proofs.Counts.{sum-without_first, counts_none, counts_one}
use Rattle.tcmu_types.proofs.Firsts.{without_first_missing}
use Rattle.tcmu_types.proofs.Everies.{every-weaker, every-filter, every-all, filter_twice, filter_all, map_filter}
use Rattle.tcmu_types.proofs.Rises.{rise_filter, among-take, among_every, among-all}
use Rattle.tcmu_model.proofs.Turning.{taken_filter}
use Rattle.tcmu_model.proofs.Basics.{rows_rise, cleared_published}

-- ==== the rows that are left

abbrev stays : List ℕ → Unfinished → Bool
stays ss u = not (is_among ss u.serial)

-- the commands of these serials are Placed, with replies
abbrev ArePlaced : List ℕ → List Unfinished → Type 0
ArePlaced ss us = Every (λ u. is_among ss u.serial ≡ true → (u.state ≡ Placed) × (is_some u.reply ≡ true)) us

pub finish_taken : (read_len : Bool) (b : Books) (s : ℕ) (o : Option Unfinished) → first_of (is_at s Placed) b.unfinished ≡ o → (finish read_len b s).unfinished ≡ without_first (is_at s Placed) b.unfinished
finish_taken read_len b s None h = rw (finish, h) (sym (without_first_missing (is_at s Placed) b.unfinished h))
finish_taken read_len b s (Some u) h = rw (finish, h) refl

finish_one : (read_len : Bool) (b : Books) (s : ℕ) (ss : List ℕ) (high : ℕ) → Rise 0 (map (λ u. u.serial) b.unfinished) high → ArePlaced (s ∷ ss) b.unfinished → (finish read_len b s).unfinished ≡ filter (stays (s ∷ [])) b.unfinished
finish_one read_len b s ss high r a =
    finish_taken read_len b s (first_of (is_at s Placed) b.unfinished) refl
    ∙ (taken_filter s Placed 0 b.unfinished high r
    (every-weaker (λ u. is_among (s ∷ ss) u.serial ≡ true → (u.state ≡ Placed) × (is_some u.reply ≡ true)) (λ u. u.serial ≡ s → u.state ≡ Placed) b.unfinished
    (λ u k q. (k (or_left (eqb s u.serial) (is_among ss u.serial) (eq-eqb s u.serial (sym q)))).0) a)
    ∙ filter_agree (λ u. not (eqb s u.serial)) (stays (s ∷ [])) (λ u. one (eqb s u.serial)) b.unfinished)
  where
    one : (x : Bool) → not x ≡ not (x || false)
    one true = refl
    one false = refl

left_rise : (p : ℕ → Bool) (us : List Unfinished) (high : ℕ) → Rise 0 (map (λ u. u.serial) us) high → Rise 0 (map (λ u. u.serial) (filter (λ u. p u.serial) us)) high
left_rise p us high r = subst (λ (xs : List ℕ). Rise 0 xs high) (sym (map_filter (λ (u : Unfinished). u.serial) p us)) (rise_filter p 0 (map (λ u. u.serial) us) high r)

left_placed : (s : ℕ) (ss : List ℕ) (us : List Unfinished) → ArePlaced (s ∷ ss) us → ArePlaced ss (filter (stays (s ∷ [])) us)
left_placed s ss us a =
    every-filter (stays (s ∷ [])) (λ u. is_among ss u.serial ≡ true → (u.state ≡ Placed) × (is_some u.reply ≡ true)) us
    (every-weaker (λ u. is_among (s ∷ ss) u.serial ≡ true → (u.state ≡ Placed) × (is_some u.reply ≡ true)) (λ u. is_among ss u.serial ≡ true → (u.state ≡ Placed) × (is_some u.reply ≡ true)) us
    (λ u k q. k (or_right (eqb s u.serial) (is_among ss u.serial) q)) a)

finish_left : (read_len : Bool) (b : Books) (ss : List ℕ) (high : ℕ) → Rise 0 (map (λ u. u.serial) b.unfinished) high → ArePlaced ss b.unfinished → (finish_all read_len b ss).unfinished ≡ filter (stays ss) b.unfinished
finish_left read_len b [] high r a = sym (filter_all (stays []) b.unfinished (every-all (λ u. stays [] u ≡ true) b.unfinished (λ u. refl)))
finish_left read_len b (s ∷ ss) high r a =
    let e : (finish read_len b s).unfinished ≡ filter (stays (s ∷ [])) b.unfinished = finish_one read_len b s ss high r a in
    let r' : Rise 0 (map (λ u. u.serial) (finish read_len b s).unfinished) high = subst (λ (vs : List Unfinished). Rise 0 (map (λ u. u.serial) vs) high) (sym e) (left_rise (λ k. not (is_among (s ∷ []) k)) b.unfinished high r) in
    let a' : ArePlaced ss (finish read_len b s).unfinished = subst (λ (vs : List Unfinished). ArePlaced ss vs) (sym e) (left_placed s ss b.unfinished a) in
    finish_left read_len (finish read_len b s) ss high r' a'
    ∙ (ap (filter (stays ss)) e
    ∙ filter_twice (stays (s ∷ [])) (stays ss) (stays (s ∷ ss)) b.unfinished (λ u h. out (eqb s u.serial) (is_among ss u.serial) h) (λ u h. in_ (eqb s u.serial) (is_among ss u.serial) h))
  where
    out : (x y : Bool) → not (x || false) ≡ false → not (x || y) ≡ false
    out true y h = refl
    out false y h = absurd (true≢false h)

    in_ : (x y : Bool) → not (x || false) ≡ true → not (x || y) ≡ not y
    in_ true y h = absurd (false≢true h)
    in_ false y h = refl

-- ==== what is logged

logged_push : (k : ℕ) (log : List DoneData) (e : DoneData) → times_logged (log ++ e ∷ []) k ≡ times_logged log k + cond (eqb e.serial k) 1 0
logged_push k log e = sum_by_push (λ (x : DoneData). cond {A = ℕ} (eqb x.serial k) 1 0) log e

-- an open command that is finished is logged once
abbrev tally : ℕ → Books → ℕ
tally k b = times_logged b.log k + count_by (is_open_at k) b.unfinished

row_tally : (read_len : Bool) (k : ℕ) (log : List DoneData) (u : Unfinished) → is_some u.reply ≡ true → times_logged (log ++ completions read_len u) k ≡ times_logged log k + cond (is_open_at k u) 1 0
row_tally read_len k log u h =
    ⊎_elim
    (λ (e : u.expired ≡ true). rw e (ap (λ (l : List DoneData). times_logged l k) (append-nil log) ∙ (let z : cond {A = ℕ} (eqb u.serial k && false) 1 0 ≡ 0 = counts_none (eqb u.serial k) in omega (arith, z))))
    (λ (e : u.expired ≡ false). rw e (replied u.reply h))
    (cases_Bool u.expired)
  where
    replied : (o : Option ReplyData) → is_some o ≡ true → times_logged (log ++ (elim o as (λ x. List DoneData) [ None ↦ [] | Some reply ↦ completion read_len u reply ∷ [] ])) k ≡ times_logged log k + cond (eqb u.serial k && true) 1 0
    replied None h = absurd (false≢true h)
    replied (Some reply) h = omega (arith, logged_push k log (completion read_len u reply), counts_one (eqb u.serial k))

finish_tally : (read_len : Bool) (b : Books) (s k : ℕ) (o : Option Unfinished) → first_of (is_at s Placed) b.unfinished ≡ o → IfSome o (λ u. is_some u.reply ≡ true) → tally k (finish read_len b s) ≡ tally k b
finish_tally read_len b s k None h w = rw (finish, h) refl
finish_tally read_len b s k (Some u) h w =
    let a : count_by (is_open_at k) (without_first (is_at s Placed) b.unfinished) + cond (is_open_at k u) 1 0 ≡ count_by (is_open_at k) b.unfinished = sum-without_first (is_at s Placed) (λ (v : Unfinished). cond {A = ℕ} (is_open_at k v) 1 0) b.unfinished u h in
    let c = row_tally read_len k b.log u w in
    rw (finish, h) (omega (arith, a, c))

first_replied : (s : ℕ) (ss : List ℕ) (us : List Unfinished) (o : Option Unfinished) → first_of (is_at s Placed) us ≡ o → ArePlaced (s ∷ ss) us → IfSome o (λ u. is_some u.reply ≡ true)
first_replied s ss us None h a = tt
first_replied s ss us (Some u) h a = first us h a
  where
    first : (us : List Unfinished) → first_of (is_at s Placed) us ≡ Some u → ArePlaced (s ∷ ss) us → is_some u.reply ≡ true
    first [] h a = absurd (cc)
    first (v ∷ us) h a =
        ⊎_elim
        (λ (e : is_at s Placed v ≡ true).
        let k : Some v ≡ Some u = rw e at h in
        let q : v ≡ u = cc in
        let w : is_some v.reply ≡ true = (a.0 (or_left (eqb s v.serial) (is_among ss v.serial) (eq-eqb s v.serial (sym (serial_at s Placed v e))))).1 in
        subst (λ (x : Unfinished). is_some x.reply ≡ true) q w)
        (λ (e : is_at s Placed v ≡ false). let k : first_of (is_at s Placed) us ≡ Some u = rw e at h in first us k a.1)
        (cases_Bool (is_at s Placed v))

all_tally : (read_len : Bool) (b : Books) (ss : List ℕ) (high k : ℕ) → Rise 0 (map (λ u. u.serial) b.unfinished) high → ArePlaced ss b.unfinished → tally k (finish_all read_len b ss) ≡ tally k b
all_tally read_len b [] high k r a = refl
all_tally read_len b (s ∷ ss) high k r a =
    let e : (finish read_len b s).unfinished ≡ filter (stays (s ∷ [])) b.unfinished = finish_one read_len b s ss high r a in
    let r' : Rise 0 (map (λ u. u.serial) (finish read_len b s).unfinished) high = subst (λ (vs : List Unfinished). Rise 0 (map (λ u. u.serial) vs) high) (sym e) (left_rise (λ x. not (is_among (s ∷ []) x)) b.unfinished high r) in
    let a' : ArePlaced ss (finish read_len b s).unfinished = subst (λ (vs : List Unfinished). ArePlaced ss vs) (sym e) (left_placed s ss b.unfinished a) in
    all_tally read_len (finish read_len b s) ss high k r' a'
    ∙ finish_tally read_len b s k (first_of (is_at s Placed) b.unfinished) refl (first_replied s ss b.unfinished (first_of (is_at s Placed) b.unfinished) refl a)

-- ==== the answered commands are Placed

published_placed : (dispatched attached : Bool) (t : CommandState) (r : Bool) → dispatched ≡ true → state_fits dispatched true true attached t r ≡ true → (t ≡ Placed) × (r ≡ true)
published_placed true q Waiting r e h = absurd (false≢true h)
published_placed true q Out r e h = absurd (false≢true h)
published_placed true q Handled r e h = absurd (false≢true h)
published_placed true q Parked r e h = absurd (false≢true h)
published_placed true true Placed true e h = (refl, refl)
published_placed true true Placed false e h = absurd (false≢true h)
published_placed true false Placed true e h = (refl, refl)
published_placed true false Placed false e h = absurd (false≢true h)
published_placed true true Lost r e h = absurd (false≢true h)
published_placed true false Lost r e h = absurd (false≢true h)
published_placed false q t r e h = absurd (false≢true e)

pub answered_placed : (d : DeviceState) → AnswersSound d → ArePlaced (answered d) d.unfinished
answered_placed d h =
    every-weaker (λ u. is_right d u ≡ true) (λ u. is_among (answered d) u.serial ≡ true → (u.state ≡ Placed) × (is_some u.reply ≡ true)) d.unfinished
    (λ u k q.
    let p : is_among d.placed u.serial ≡ true = among-all (published_commands d.ring) d.placed u.serial q in
    let s : is_among (dispatched_serials d.ring) u.serial ≡ true = among_every (λ x. is_among (dispatched_serials d.ring) x ≡ true) d.placed u.serial h.dispatched p in
    let z : state_fits (is_among (dispatched_serials d.ring) u.serial) true true d.attached u.state (is_some u.reply) ≡ true = rw (p, q) at k in
    published_placed (is_among (dispatched_serials d.ring) u.serial) d.attached u.state (is_some u.reply) s z) h.states

-- ==== parking

first_left : (q : Unfinished → Bool) (us : List Unfinished) → Every (λ u. q u ≡ false → has_state Placed u ≡ true) us → parked_rightly false (filter q us) ≡ parked_rightly false us
first_left q [] h = refl
first_left q (u ∷ us) h =
    ⊎_elim
    (λ (e : q u ≡ true).
    ⊎_elim
    (λ (z : has_state Placed u ≡ true). rw (e, z) (first_left q us h.1))
    (λ (z : has_state Placed u ≡ false). rw (e, z) refl)
    (cases_Bool (has_state Placed u)))
    (λ (e : q u ≡ false). let z : has_state Placed u ≡ true = h.0 e in rw (e, z) (first_left q us h.1))
    (cases_Bool (q u))

none_kept : (p q : Unfinished → Bool) (us : List Unfinished) → not (list_any p us) ≡ true → not (list_any p (filter q us)) ≡ true
none_kept p q [] h = refl
none_kept p q (u ∷ us) h =
    ⊎_elim
    (λ (e : p u ≡ true). let k : not (true || list_any p us) ≡ true = rw e at h in absurd (false≢true k))
    (λ (e : p u ≡ false).
    let k : not (list_any p us) ≡ true = rw e at h in
    ⊎_elim
    (λ (z : q u ≡ true). rw (z, e) (none_kept p q us k))
    (λ (z : q u ≡ false). rw z (none_kept p q us k))
    (cases_Bool (q u)))
    (cases_Bool (p u))

pub parked_left : (ooo : Bool) (q : Unfinished → Bool) (us : List Unfinished) → Every (λ u. q u ≡ false → has_state Placed u ≡ true) us → parked_rightly ooo us ≡ true → parked_rightly ooo (filter q us) ≡ true
parked_left true q us h k = none_kept (has_state Parked) q us k
parked_left false q us h k = first_left q us h ∙ k

-- ==== the whole

sum-filter_le : (f : Unfinished → ℕ) (q : Unfinished → Bool) (us : List Unfinished) → sum_by f (filter q us) ≤ sum_by f us
sum-filter_le f q [] = omega arith
sum-filter_le f q (u ∷ us) =
    ⊎_elim
    (λ (e : q u ≡ true). rw e (omega (arith, sum_by-cons f u us, sum_by-cons f u (filter q us), sum-filter_le f q us)))
    (λ (e : q u ≡ false). rw e (omega (arith, sum_by-cons f u us, sum-filter_le f q us)))
    (cases_Bool (q u))

used_less : (r : RingState) → r.cleared ≤ r.published → used r < r.size → used (record r { cleared = r.published }) < r.size
used_less r l h =
    let e : drop (r.published - r.cleared) (drop r.cleared r.laid) ≡ drop r.published r.laid = drop-drop (r.published - r.cleared) r.cleared r.laid ∙ ap (λ (n : ℕ). drop n r.laid) (omega (arith, l)) in
    let s : lengths (take (r.published - r.cleared) (drop r.cleared r.laid)) + lengths (drop (r.published - r.cleared) (drop r.cleared r.laid)) ≡ used r = sum_by-take-drop (λ (i : Item). i.len) (drop r.cleared r.laid) (r.published - r.cleared) in
    omega (arith, s, ap lengths e, h)

among-longer : (c p : ℕ) (xs : List ℕ) (s : ℕ) → c ≤ p → is_among (take p xs) s ≡ false → is_among (take c xs) s ≡ false
among-longer c p xs s l h = subst (λ (ys : List ℕ). is_among ys s ≡ false) (take-take c p xs l) (among-take c (take p xs) s h)

pub sound_after_clean : (d : DeviceState) → IsSound d → IsSound (after_clean d)
unfolding after_clean
sound_after_clean d h =
    let us = d.unfinished in
    let ps : List ℕ = answered d in
    let c : ℕ = cleared_commands d.ring in
    let p : ℕ = published_commands d.ring in
    let cp : c ≤ p = cleared_published d h.ring in
    let r : Rise 0 (map (λ u. u.serial) us) d.accepted = rows_rise d h.serials in
    let placed = answered_placed d h.answers in
    let vs : List Unfinished = (cleaned_books d).unfinished in
    let e : vs ≡ filter (stays ps) us = finish_left d.settings.flags.read_len (books d) ps d.accepted r placed in
    record {
      settings = h.settings;
      ring = record {
        size = h.ring.size;
        cleared = omega arith;
        published = h.ring.published;
        dispatched = h.ring.dispatched;
        room = used_less d.ring h.ring.cleared h.ring.room;
        items = h.ring.items;
        ends = h.ring.ends;
      };
      serials = record {
        rise = h.serials.rise;
        order = ap (map (λ u. u.serial)) e
            ∙ (map_filter (λ (u : Unfinished). u.serial) (λ k. not (is_among ps k)) us
            ∙ (ap (filter (λ k. not (is_among ps k))) h.serials.order
            ∙ filter_twice (λ k. not (is_among (finished d) k)) (λ k. not (is_among ps k)) (λ k. not (is_among ps k)) (serials_in d.ring.laid)
            (λ k z. gone k z) (λ k z. refl)));
        laid = subst (λ (ws : List Unfinished). Every (λ u. IsLaid d.ring.laid u.serial u.command) ws) (sym e) (every-filter (stays ps) (λ u. IsLaid d.ring.laid u.serial u.command) us h.serials.laid);
        accounted = λ k. omega (arith, all_tally d.settings.flags.read_len (books d) ps d.accepted k r placed, h.serials.accounted k);
      };
      answers = record {
        published = h.answers.published;
        differ = h.answers.differ;
        dispatched = h.answers.dispatched;
        states = subst (λ (ws : List Unfinished). Every (λ u. is_right d u ≡ true) ws) (sym e) (every-filter (stays ps) (λ u. is_right d u ≡ true) us h.answers.states);
        replies = subst (λ (ws : List Unfinished). Every (λ u. IfSome u.reply (ReplyFits u.command)) ws) (sym e) (every-filter (stays ps) (λ u. IfSome u.reply (ReplyFits u.command)) us h.answers.replies);
        in_order = h.answers.in_order;
        parked = ap (parked_rightly d.settings.flags.ooo) e
            ∙ parked_left d.settings.flags.ooo (stays ps) us
            (every-weaker (λ u. is_among ps u.serial ≡ true → (u.state ≡ Placed) × (is_some u.reply ≡ true)) (λ u. stays ps u ≡ false → has_state Placed u ≡ true) us
            (λ u k z. let t : u.state ≡ Placed = (k (back (is_among ps u.serial) z)).0 in rw t refl) placed) h.answers.parked;
      };
      room = record {
        blocks = let b : sum_by (λ u. blocks_in d u.command) vs ≡ sum_by (λ u. blocks_in d u.command) (filter (stays ps) us) = ap (sum_by (λ u. blocks_in d u.command)) e in omega (arith, b, sum-filter_le (λ u. blocks_in d u.command) (stays ps) us, h.room.blocks);
        delayed = h.room.delayed;
        none = h.room.none;
        now = h.room.now;
      };
    }
  where
    back : (b : Bool) → not b ≡ false → b ≡ true
    back true h = refl
    back false h = absurd (true≢false h)

    gone : (k : ℕ) → not (is_among (finished d) k) ≡ false → not (is_among (answered d) k) ≡ false
    gone k z =
        ⊎_elim
        (λ (e : is_among (answered d) k ≡ true). rw e refl)
        (λ (e : is_among (answered d) k ≡ false).
        let f : is_among (finished d) k ≡ false = among-longer (cleared_commands d.ring) (published_commands d.ring) d.placed k (cleared_published d h.ring) e in
        absurd (true≢false (let w : not (is_among (finished d) k) ≡ true = rw f refl in sym w ∙ z)))
        (cases_Bool (is_among (answered d) k))
