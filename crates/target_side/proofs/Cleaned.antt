-- A clean, item by item.
use Rattle.std.proofs.Common.{inl, inr, ◌≡◌, ◌⊎◌, ℕ, ◌+◌, ◌-◌, ◌<◌, ◌≤◌, Bool, true, false, cond, List, [], ◌∷◌, ◌++◌, length, Option, Some, None, refl, sym, ap, ◌∙◌, arith, subst, eq-eqb, length-append}
use Rattle.std.specs.Prelude.{◌==◌, ◌||◌, is_some}
use Rattle.tcmu_types.specs.declared.dump.ItemKind.{ItemKind}
use Rattle.tcmu_types.specs.declared.dump.ItemKind.TheVariants as kind
use Rattle.region_model.specs.declared.entry.Response.{Response}
use Rattle.tcmu_types.specs.Lists.{first_of, without_first}
use Rattle.tcmu_types.specs.Numbers.{above_all}
use Rattle.region_model.specs.Regions.{RegionState, shrunk_to, size_of}
use Rattle.region_model.specs.Represents.{has_id}
use Rattle.region_model.specs.Sides.{PendingRow, Recorded, TargetState}
use Rattle.region_model.specs.UserSteps.{is_cmd}
use Rattle.region_model.specs.TargetSteps.{blocks_held}
use Rattle.region_model.specs.TargetCleans.{CleanAnswer, BadTail, Broken, all_cleaned, answered_by, completions_read, ends_at, emptied_of, logged_or_broken, one_cleaned, past, region_cleaned, region_reset, reset_logs, response_in, tail_fits, tail_read, target_clean_answer, target_cleaned, target_reset, target_reset_answer, unless_broken}
use Rattle.ring_laws.proofs.target_over_any_bytes.AnyCalls.{clean_keeps}
use Rattle.ring_laws.proofs.target_over_any_bytes.AnyCleared.{Passed, Stopped, one_case, stopped_all}
use Rattle.target_side.specs.RingRecord.{begins_with_command}
use Rattle.target_side.specs.Cleaning.{first_cleaned}

-- ==== one item

cmd_kind : (k : ItemKind) (len : ℕ) → is_cmd (record { kind = k; len = len }) ≡ true → k ≡ kind.Cmd
cmd_kind kind.Pad len h = absurd (cc)
cmd_kind kind.Cmd len h = refl
cmd_kind kind.Tmr len h = absurd (cc)

pub cleaned_none : (r : RegionState) (t : TargetState) (xs : List Recorded) (a : Response) → t.items ≡ xs → begins_with_command xs ≡ true → a ≡ response_in r t → first_of (has_id a.id) t.rows ≡ None →
    record t { broken = Some a.id } ≡ first_cleaned r t xs
cleaned_none r t [] a e c q f = absurd (cc)
cleaned_none r t (x ∷ xs) a e c q f =
    let k : x.kind ≡ kind.Cmd = cmd_kind x.kind x.len c in
    let n : first_of (has_id (response_in r t).id) t.rows ≡ None = subst (λ (b : Response). first_of (has_id b.id) t.rows ≡ None) q f in
    rw k (rw n (ap (λ (b : Response). record t { broken = Some b.id }) q))

pub cleaned_some : (r : RegionState) (t : TargetState) (x : Recorded) (xs : List Recorded) (a : Response) (e : PendingRow) → begins_with_command (x ∷ xs) ≡ true → a ≡ response_in r t → first_of (has_id a.id) t.rows ≡ Some e →
    record (past t x xs) { rows = without_first (has_id a.id) t.rows; cleared = t.cleared + 1; log = t.log ++ completions_read (size_of r) r.blocks e.pending a } ≡ first_cleaned r t (x ∷ xs)
cleaned_some r t x xs a e c q f =
    let k : x.kind ≡ kind.Cmd = cmd_kind x.kind x.len c in
    let n : first_of (has_id (response_in r t).id) t.rows ≡ Some e = subst (λ (b : Response). first_of (has_id b.id) t.rows ≡ Some e) q f in
    rw k (rw n (ap (λ (b : Response). record (past t x xs) { rows = without_first (has_id b.id) t.rows; cleared = t.cleared + 1; log = t.log ++ completions_read (size_of r) r.blocks e.pending b }) q))

pub passed_first : (r : RegionState) (t : TargetState) (x : Recorded) (xs : List Recorded) → begins_with_command (x ∷ xs) ≡ false → past t x xs ≡ first_cleaned r t (x ∷ xs)
passed_first r t x xs c = go x.kind refl
  where
    go : (k : ItemKind) → x.kind ≡ k → past t x xs ≡ one_cleaned r t x xs k
    go kind.Pad e = refl
    go kind.Tmr e = refl
    go kind.Cmd e = let h : is_cmd (record x { kind = kind.Cmd }) ≡ false = subst (λ (k : ItemKind). is_cmd (record x { kind = k }) ≡ false) e c in absurd (cc)

-- ==== all items

-- a clean that has come to its end
pub all_done : (r : RegionState) (tail : ℕ) (t : TargetState) (xs : List Recorded) → ((t.cleaned == tail) || is_some t.broken) ≡ true → all_cleaned r tail t xs ≡ t
all_done r tail t [] h = refl
all_done r tail t (x ∷ xs) h = go (t.cleaned == tail) t.broken h
  where
    further : TargetState
    further = all_cleaned r tail (one_cleaned r t x xs x.kind) xs

    go : (b : Bool) (o : Option ℕ) → (b || is_some o) ≡ true → cond b t (unless_broken o t further) ≡ t
    go true o h = refl
    go false (Some id) h = refl
    go false None h = absurd (cc)

-- what one item more leaves
pub record Nearer (r : RegionState) (tail : ℕ) (t k : TargetState) : Type 0 where
  pub same : all_cleaned r tail k k.items ≡ all_cleaned r tail t t.items
  pub count : k.broken ≡ None → length k.items + 1 ≡ length t.items
  pub settings : k.settings ≡ t.settings

not_both : (o : Option ℕ) (id : ℕ) → o ≡ Some id → o ≡ None → ⊥
not_both o id e n = cc

pub nearer : (r : RegionState) (tail : ℕ) (t : TargetState) (xs : List Recorded) → t.items ≡ xs → ((t.cleaned == tail) || is_some t.broken) ≡ false → 0 < length xs → Nearer r tail t (first_cleaned r t xs)
nearer r tail t [] e h l = absurd (omega (arith, l))
nearer r tail t (x ∷ xs) e h l = go (one_case r t x xs x.kind)
  where
    k : TargetState
    k = one_cleaned r t x xs x.kind

    parts : (b : Bool) (o : Option ℕ) → (b || is_some o) ≡ false → (b ≡ false) × (o ≡ None)
    parts true o h = absurd (cc)
    parts false (Some id) h = absurd (cc)
    parts false None h = (refl, refl)

    here : (t.cleaned == tail) ≡ false
    here = (parts (t.cleaned == tail) t.broken h).0

    whole : t.broken ≡ None
    whole = (parts (t.cleaned == tail) t.broken h).1

    on : all_cleaned r tail t (x ∷ xs) ≡ all_cleaned r tail k xs
    on = ap (λ b. cond b t (unless_broken t.broken t (all_cleaned r tail k xs))) here ∙ ap (λ o. unless_broken o t (all_cleaned r tail k xs)) whole

    go : Passed t k x.len xs ⊎ Stopped r t k x.kind → Nearer r tail t k
    go (inl p) =
        record {
          same = ap (all_cleaned r tail k) p.items ∙ sym on ∙ ap (all_cleaned r tail t) (sym e);
          count = λ n. ap (λ ys. length ys + 1) p.items ∙ omega arith ∙ ap length (sym e);
          settings = p.settings;
        }
    go (inr s) =
        record {
          same = stopped_all r tail t k x.kind k.items s ∙ sym (stopped_all r tail t k x.kind xs s) ∙ sym on ∙ ap (all_cleaned r tail t) (sym e);
          count = λ n. absurd (not_both k.broken (response_in r t).id (ap (λ (z : TargetState). z.broken) s.same) n);
          settings = ap (λ (z : TargetState). z.settings) s.same;
        }

-- ==== so many items

pub record Going (r : RegionState) (tail : ℕ) (t k : TargetState) (n : ℕ) : Type 0 where
  pub same : all_cleaned r tail k k.items ≡ all_cleaned r tail t t.items
  pub count : k.broken ≡ None → length k.items + n ≡ length t.items
  pub settings : k.settings ≡ t.settings

pub going_start : (r : RegionState) (tail : ℕ) (t : TargetState) → Going r tail t t 0
going_start r tail t = record { same = refl; count = λ e. omega arith; settings = refl }

none_of : (b : Bool) (o : Option ℕ) → (b || is_some o) ≡ false → o ≡ None
none_of true o h = absurd (cc)
none_of false (Some id) h = absurd (cc)
none_of false None h = refl

pub going_step : (r : RegionState) (tail : ℕ) (t k after : TargetState) (n total : ℕ) → Going r tail t k n → total ≡ length t.items → n < total → ((k.cleaned == tail) || is_some k.broken) ≡ false →
    after ≡ first_cleaned r k k.items → Going r tail t after (n + 1)
going_step r tail t k after n total g e l h a =
    let o : k.broken ≡ None = none_of (k.cleaned == tail) k.broken h in
    let c : length k.items + n ≡ length t.items = g.count o in
    let w : Nearer r tail k (first_cleaned r k k.items) = nearer r tail k k.items refl h (omega (arith, c, e, l)) in
    let z : Nearer r tail k after = subst (λ (x : TargetState). Nearer r tail k x) (sym a) w in
    record {
      same = z.same ∙ g.same;
      count = λ q. let d = z.count q in omega (arith, c, d);
      settings = z.settings ∙ g.settings;
    }

pub going_early : (r : RegionState) (tail : ℕ) (t k : TargetState) (n : ℕ) → Going r tail t k n → ((k.cleaned == tail) || is_some k.broken) ≡ true → k ≡ all_cleaned r tail t t.items
going_early r tail t k n g h = sym (all_done r tail k k.items h) ∙ g.same

pub going_end : (r : RegionState) (tail : ℕ) (t k : TargetState) (n total : ℕ) → Going r tail t k n → total ≡ length t.items → total ≤ n → k ≡ all_cleaned r tail t t.items
going_end r tail t k n total g e l = by_broken k.broken refl ∙ g.same
  where
    nothing : (xs : List Recorded) → length xs ≡ 0 → k ≡ all_cleaned r tail k xs
    nothing [] h = refl
    nothing (x ∷ xs) h = absurd (omega (arith, h))

    right : (b : Bool) → (b || true) ≡ true
    right true = refl
    right false = refl

    by_broken : (o : Option ℕ) → k.broken ≡ o → k ≡ all_cleaned r tail k k.items
    by_broken None q = let c = g.count q in nothing k.items (omega (arith, c, e, l))
    by_broken (Some id) q = sym (all_done r tail k k.items (ap (λ (x : Option ℕ). (k.cleaned == tail) || is_some x) q ∙ right (k.cleaned == tail)))

-- ==== the whole of it

abbrev on_broken : RegionState → TargetState → Option ℕ → TargetState
on_broken r t o = elim o as (λ x. TargetState) [ Some id ↦ t | None ↦ cond (tail_fits r t) (all_cleaned r (tail_read r) t t.items) t ]

cleaned_by : (r : RegionState) (t : TargetState) → target_cleaned r t ≡ on_broken r t t.broken
unfolding target_cleaned
cleaned_by r t = refl

-- a tail that fits, and no id that is kept
pub cleaned_on : (r : RegionState) (t : TargetState) → t.broken ≡ None → tail_fits r t ≡ true → target_cleaned r t ≡ all_cleaned r (tail_read r) t t.items
cleaned_on r t b f = cleaned_by r t ∙ (ap (on_broken r t) b ∙ ap (λ x. cond x (all_cleaned r (tail_read r) t t.items) t) f)

abbrev answer_on : RegionState → TargetState → Option ℕ → CleanAnswer
answer_on r t o = elim o as (λ x. CleanAnswer) [ Some id ↦ Broken id | None ↦ cond (tail_fits r t) (logged_or_broken (length t.log) (target_cleaned r t)) (BadTail (tail_read r)) ]

answered_by_broken : (r : RegionState) (t : TargetState) → target_clean_answer r t ≡ answer_on r t t.broken
unfolding target_clean_answer
answered_by_broken r t = refl

pub answer_kept : (r : RegionState) (t : TargetState) (id : ℕ) → t.broken ≡ Some id → target_clean_answer r t ≡ Broken id
answer_kept r t id b = answered_by_broken r t ∙ ap (answer_on r t) b

pub answer_tail : (r : RegionState) (t : TargetState) → t.broken ≡ None → tail_fits r t ≡ false → target_clean_answer r t ≡ BadTail (tail_read r)
answer_tail r t b f = answered_by_broken r t ∙ (ap (answer_on r t) b ∙ ap (λ x. cond x (logged_or_broken (length t.log) (target_cleaned r t)) (BadTail (tail_read r))) f)

pub answer_fits : (r : RegionState) (t after : TargetState) → t.broken ≡ None → tail_fits r t ≡ true → after ≡ target_cleaned r t → target_clean_answer r t ≡ logged_or_broken (length t.log) after
answer_fits r t after b f e = answered_by_broken r t ∙ (ap (answer_on r t) b ∙ (ap (λ x. cond x (logged_or_broken (length t.log) (target_cleaned r t)) (BadTail (tail_read r))) f ∙ ap (logged_or_broken (length t.log)) (sym e)))

-- the area where no command, and where one was taken out
pub region_same : (r : RegionState) (t after : TargetState) → after ≡ target_cleaned r t → (length after.rows == length t.rows) ≡ true → region_cleaned r t ≡ r
unfolding region_cleaned
region_same r t after e h =
    let b : (length (target_cleaned r t).rows == length t.rows) ≡ true = ap (λ (x : TargetState). length x.rows == length t.rows) (sym e) ∙ h in
    ap (λ x. cond x r (shrunk_to r (above_all (blocks_held (target_cleaned r t).rows)))) b

pub region_less : (r : RegionState) (t after : TargetState) → after ≡ target_cleaned r t → (length after.rows == length t.rows) ≡ false → region_cleaned r t ≡ shrunk_to r (above_all (blocks_held after.rows))
unfolding region_cleaned
region_less r t after e h =
    let b : (length (target_cleaned r t).rows == length t.rows) ≡ false = ap (λ (x : TargetState). length x.rows == length t.rows) (sym e) ∙ h in
    ap (λ x. cond x r (shrunk_to r (above_all (blocks_held (target_cleaned r t).rows)))) b ∙ ap (λ (x : TargetState). shrunk_to r (above_all (blocks_held x.rows))) (sym e)

-- ==== where nothing is cleaned

pub cleaned_kept : (r : RegionState) (t : TargetState) (id : ℕ) → t.broken ≡ Some id → target_cleaned r t ≡ t
cleaned_kept r t id b = cleaned_by r t ∙ ap (on_broken r t) b

pub cleaned_tail : (r : RegionState) (t : TargetState) → t.broken ≡ None → tail_fits r t ≡ false → target_cleaned r t ≡ t
cleaned_tail r t b f = cleaned_by r t ∙ (ap (on_broken r t) b ∙ ap (λ x. cond x (all_cleaned r (tail_read r) t t.items) t) f)

pub region_kept : (r : RegionState) (t : TargetState) → target_cleaned r t ≡ t → region_cleaned r t ≡ r
region_kept r t e = region_same r t t (sym e) (eq-eqb (length t.rows) (length t.rows) refl)

-- a tail that was judged, by the target's record
pub tail_judged : (r : RegionState) (t : TargetState) (tail : ℕ) (b : Bool) → tail ≡ tail_read r → b ≡ ((tail == t.cleaned) || ends_at t.settings.ring t.cleaned t.items tail) → b ≡ tail_fits r t
tail_judged r t tail b e h = h ∙ ap (λ n. (n == t.cleaned) || ends_at t.settings.ring t.cleaned t.items n) e

-- ==== what a clean leaves, known up to equations

pub cleaned_whole : (r : RegionState) (t k : TargetState) (tail : ℕ) → t.broken ≡ None → tail ≡ tail_read r → tail_fits r t ≡ true → k ≡ all_cleaned r tail t t.items → k ≡ target_cleaned r t
cleaned_whole r t k tail b e f h = h ∙ (ap (λ n. all_cleaned r n t t.items) e ∙ sym (cleaned_on r t b f))

pub region_after : (r left : RegionState) (t k : TargetState) (count : ℕ) → k ≡ target_cleaned r t → count ≡ length t.rows →
    left ≡ cond (length k.rows == count) r (shrunk_to r (above_all (blocks_held k.rows))) → left ≡ region_cleaned r t
unfolding region_cleaned
region_after r left t k count e n h =
    h
    ∙ (ap (λ m. cond (length k.rows == m) r (shrunk_to r (above_all (blocks_held k.rows)))) n
    ∙ ap (λ (x : TargetState). cond (length x.rows == length t.rows) r (shrunk_to r (above_all (blocks_held x.rows)))) e)

-- a clean takes no completion back
log_answered : (r : RegionState) (a : Response) (t : TargetState) (x : Recorded) (xs : List Recorded) (o : Option PendingRow) → length t.log ≤ length (answered_by r a t x xs o).log
log_answered r a t x xs None = omega arith
log_answered r a t x xs (Some e) =
    let l : length (t.log ++ completions_read (size_of r) r.blocks e.pending a) ≡ length t.log + length (completions_read (size_of r) r.blocks e.pending a) = length-append t.log (completions_read (size_of r) r.blocks e.pending a) in
    omega (arith, l)

log_one : (r : RegionState) (t : TargetState) (x : Recorded) (xs : List Recorded) (k : ItemKind) → length t.log ≤ length (one_cleaned r t x xs k).log
log_one r t x xs kind.Pad = omega arith
log_one r t x xs kind.Tmr = omega arith
log_one r t x xs kind.Cmd = let a : Response = response_in r t in log_answered r a t x xs (first_of (has_id a.id) t.rows)

pub log_more : (r : RegionState) (t : TargetState) → length t.log ≤ length (target_cleaned r t).log
log_more r t = clean_keeps (λ k. length t.log ≤ length k.log) r t (λ k x ys h. let one : length k.log ≤ length (one_cleaned r k x ys x.kind).log = log_one r k x ys x.kind in omega (arith, h, one)) (omega arith)

-- ==== a reset behind a clean

pub log_emptied : (t : TargetState) (level : ℕ) → length t.log ≤ length (emptied_of t level).log
log_emptied t level = let l = length-append t.log (reset_logs t level) in omega (arith, l)

pub answer_reset : (r : RegionState) (t k : TargetState) (level before after : ℕ) → before ≡ length t.log → k ≡ emptied_of (target_cleaned r t) level → after ≡ length k.log → after - before ≡ target_reset_answer r t level
unfolding target_reset_answer target_reset
answer_reset r t k level before after b e a =
    ap (λ n. n - before) (a ∙ ap (λ (x : TargetState). length x.log) e) ∙ ap (λ n. length (emptied_of (target_cleaned r t) level).log - n) b

-- the area is empty then, whatever the clean has left of it
reset_shrunk : (r : RegionState) (n : ℕ) → region_reset (shrunk_to r n) ≡ region_reset r
unfolding region_reset
reset_shrunk r n = refl

reset_either : (r : RegionState) (n : ℕ) (b : Bool) → region_reset (cond b r (shrunk_to r n)) ≡ region_reset r
reset_either r n true = refl
reset_either r n false = reset_shrunk r n

pub reset_cleaned : (r : RegionState) (t : TargetState) → region_reset (region_cleaned r t) ≡ region_reset r
unfolding region_cleaned
reset_cleaned r t = reset_either r (above_all (blocks_held (target_cleaned r t).rows)) (length (target_cleaned r t).rows == length t.rows)
