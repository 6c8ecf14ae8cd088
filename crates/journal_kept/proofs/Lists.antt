-- The lists of a script, as far as entries make them.
use Rattle.std.proofs.Common.{◌≡◌, ◌≢◌, get_or, ⊎_elim, ℕ, zero, suc, ◌+◌, ◌*◌, ◌<◌, ◌≤◌, Bool, true, false, cond, List, [], ◌∷◌, ◌++◌, length, map, slice_get, slice_set, slice_index, replicate, Option, Some, None, refl, sym, ap, ◌∙◌, subst, arith, append_assoc, length-append}
use mathlib.Core.List.{IsPrefix}
use Rattle.std.specs.List.{AllPairs, All, sum_by}
use Rattle.std.specs.Str.{bytes_eq}
use Rattle.std.proofs.lemmas.Bool.{cases_Bool}
use Rattle.std.proofs.lemmas.List.{append-nil}
use Rattle.std.proofs.lemmas.List.Sums.{sum_by-cons}
use Rattle.std.proofs.lemmas.Option.{none-some, same_Some, slice_get_within, get_or_from_slice_get, slice_get_read}
use Rattle.std.proofs.lemmas.Slice.Eq.{bytes_eq-Decides}
use Rattle.tcmu_types.specs.Data.{CommandData}
use Rattle.tcmu_types.specs.Events.{EventData, EntryData}
use Rattle.tcmu_types.specs.Events as ev
use Rattle.tcmu_types.proofs.Places.{get_append_right}
use Rattle.tcmu_types.proofs.Readings.{same_bytes, other_bytes}
use Rattle.text_model.specs.Schedule.{sent_under, sent, to_send, if_admin, admin_made}
use Rattle.text_model.specs.Script.{InitLineData}
use Rattle.journal_kept.specs.Asked.{sent_count}

-- ==== fronts of lists

pub prefix_self : {X : Type 0} (xs : List X) → IsPrefix xs xs
prefix_self xs = ([], append-nil xs)

pub prefix_none : {X : Type 0} (xs : List X) → IsPrefix [] xs
prefix_none xs = (xs, refl)

pub prefix_then : {X : Type 0} (xs ys zs : List X) → IsPrefix xs ys → IsPrefix ys zs → IsPrefix xs zs
prefix_then xs ys zs p q = (p.0 ++ q.0, sym (append_assoc xs p.0 q.0) ∙ ap (λ l. l ++ q.0) p.1 ∙ q.1)

pub prefix_short : {X : Type 0} (xs ys : List X) → IsPrefix xs ys → length xs ≤ length ys
prefix_short xs ys p = omega (arith, length-append xs p.0, ap (λ (l : List _). length l) p.1)

-- with the next item it still is one
pub prefix_next : {X : Type 0} (xs ys : List X) (x : X) → IsPrefix xs ys → slice_get ys (length xs) ≡ Some x → IsPrefix (xs ++ x ∷ []) ys
prefix_next {X} xs ys x p next = go p.0 p.1
  where
    go : (zs : List X) → xs ++ zs ≡ ys → IsPrefix (xs ++ x ∷ []) ys
    go [] e =
        let there : slice_get (xs ++ []) (length xs) ≡ Some x = ap (λ (l : List X). slice_get l (length xs)) e ∙ next in
        absurd (none-some x (sym (get_append_right xs [] (length xs) 0 (omega arith)) ∙ there))
    go (z ∷ zs) e =
        let there : slice_get (xs ++ z ∷ zs) (length xs) ≡ Some x = ap (λ (l : List X). slice_get l (length xs)) e ∙ next in
        let same : z ≡ x = same_Some z x (sym (get_append_right xs (z ∷ zs) (length xs) 0 (omega arith)) ∙ there) in
        (zs, append_assoc xs (x ∷ []) zs ∙ ap (λ (y : X). xs ++ y ∷ zs) (sym same) ∙ e)

-- a front that is as long is all
pub prefix_all : {X : Type 0} (xs ys : List X) → IsPrefix xs ys → length ys ≤ length xs → xs ≡ ys
prefix_all {X} xs ys p long = go p.0 p.1
  where
    go : (zs : List X) → xs ++ zs ≡ ys → xs ≡ ys
    go [] e = sym (append-nil xs) ∙ e
    go (z ∷ zs) e = absurd (omega (arith, long, length-append xs (z ∷ zs), ap (λ (l : List X). length l) e))

pub past : {X : Type 0} (xs : List X) (n : ℕ) → slice_get xs n ≡ None → length xs ≤ n
past [] n e = omega arith
past (x ∷ xs) zero e = absurd (none-some x (sym e))
past (x ∷ xs) (suc n) e = omega (arith, past xs n e)

pub all_at : {X : Type 0} (P : X → Type 0) (xs : List X) (at : ℕ) (x : X) → All P xs → slice_get xs at ≡ Some x → P x
all_at P xs at x h found = subst P (get_or_from_slice_get xs at x x found) (h at x (slice_get_within xs at x found))

-- ==== names

eq_self : (a : List ℕ) → bytes_eq a a ≡ true
eq_self a = (bytes_eq-Decides a a).1 refl

not_eq : (a b : List ℕ) → a ≢ b → bytes_eq a b ≡ false
not_eq a b differs = ⊎_elim (λ (t : bytes_eq a b ≡ true). absurd (differs (same_bytes a b t))) (λ (f : bytes_eq a b ≡ false). f) (cases_Bool (bytes_eq a b))

abbrev pub Apart : List InitLineData → Type 0
Apart is = AllPairs (λ a b. a.name ≢ b.name) is

apart_first : (x i : InitLineData) (is : List InitLineData) (at : ℕ) → Apart (x ∷ is) → slice_get is at ≡ Some i → x.name ≢ i.name
apart_first x i is at apart found same =
    let within = slice_get_within is at i found in
    let differs = apart 0 (suc at) i (omega (arith, within)) (omega (arith, within)) in
    differs (same ∙ sym (ap (λ (y : InitLineData). y.name) (get_or_from_slice_get is at i i found)))

apart_rest : (x : InitLineData) (is : List InitLineData) → Apart (x ∷ is) → Apart is
apart_rest x is apart a b d less within = apart (suc a) (suc b) d (omega (arith, less)) (omega (arith, within))

-- what is to be sent under an initiator's name is its own list
pub to_send_at : (is : List InitLineData) (at : ℕ) (i : InitLineData) → Apart is → slice_get is at ≡ Some i → to_send is i.name ≡ i.commands
to_send_at [] at i apart found = absurd (none-some i found)
to_send_at (x ∷ is) zero i apart found =
    let here : x ≡ i = same_Some x i found in
    ap (λ (b : Bool). cond b x.commands (to_send is i.name)) (ap (λ (y : InitLineData). bytes_eq y.name i.name) here ∙ eq_self i.name) ∙ ap (λ (y : InitLineData). y.commands) here
to_send_at (x ∷ is) (suc at) i apart found =
    ap (λ (b : Bool). cond b x.commands (to_send is i.name)) (not_eq x.name i.name (apart_first x i is at apart found)) ∙ to_send_at is at i (apart_rest x is apart) found

-- ==== one entry more

pub sent_more : (name : List ℕ) (es : List EntryData) (e : EntryData) → sent name (es ++ e ∷ []) ≡ sent name es ++ sent_under name e.event
sent_more name [] e = append-nil (sent_under name e.event)
sent_more name (x ∷ es) e = ap (λ (l : List CommandData). sent_under name x.event ++ l) (sent_more name es e) ∙ sym (append_assoc (sent_under name x.event) (sent name es) (sent_under name e.event))

pub admin_more : (es : List EntryData) (e : EntryData) → admin_made (es ++ e ∷ []) ≡ admin_made es ++ if_admin e.event
admin_more [] e = append-nil (if_admin e.event)
admin_more (x ∷ es) e = ap (λ (l : List EventData). if_admin x.event ++ l) (admin_more es e) ∙ sym (append_assoc (if_admin x.event) (admin_made es) (if_admin e.event))

-- the next command of an initiator is the next of what is to be sent under its name
pub lines_next : (is : List InitLineData) (es : List EntryData) (at : ℕ) (i : InitLineData) (c : CommandData) (name : List ℕ) → Apart is → slice_get is at ≡ Some i
    → slice_get i.commands (sent_count es i) ≡ Some c → c.init ≡ i.name → ((n : List ℕ) → IsPrefix (sent n es) (to_send is n)) → IsPrefix (sent name es ++ sent_under name (ev.Submit c)) (to_send is name)
lines_next is es at i c name apart found next own fronts = by (bytes_eq c.init name) refl
  where
    by : (b : Bool) → bytes_eq c.init name ≡ b → IsPrefix (sent name es ++ cond b (c ∷ []) []) (to_send is name)
    by true t =
        let here : i.name ≡ name = sym own ∙ same_bytes c.init name t in
        subst (λ (n : List ℕ). IsPrefix (sent n es ++ c ∷ []) (to_send is n)) here
        (prefix_next (sent i.name es) (to_send is i.name) c (fronts i.name) (ap (λ (l : List CommandData). slice_get l (sent_count es i)) (to_send_at is at i apart found) ∙ next))
    by false f = subst (λ (l : List CommandData). IsPrefix l (to_send is name)) (sym (append-nil (sent name es))) (fronts name)

-- ==== counts

count_more : (es : List EntryData) (e : EntryData) (j : InitLineData) → sent_count (es ++ e ∷ []) j ≡ sent_count es j + length (sent_under j.name e.event)
count_more es e j = ap (λ (l : List CommandData). length l) (sent_more j.name es e) ∙ length-append (sent j.name es) (sent_under j.name e.event)

pub count_own : (es : List EntryData) (e : EntryData) (j : InitLineData) (c : CommandData) → e.event ≡ ev.Submit c → c.init ≡ j.name → sent_count (es ++ e ∷ []) j ≡ sent_count es j + 1
count_own es e j c is own =
    count_more es e j ∙ ap (λ (x : EventData). sent_count es j + length (sent_under j.name x)) is
    ∙ ap (λ (n : List ℕ). sent_count es j + length (cond (bytes_eq n j.name) (c ∷ []) [])) own
    ∙ ap (λ (b : Bool). sent_count es j + length (cond b (c ∷ []) [])) (eq_self j.name)

count_other : (es : List EntryData) (e : EntryData) (j : InitLineData) (c : CommandData) → e.event ≡ ev.Submit c → c.init ≢ j.name → sent_count (es ++ e ∷ []) j ≡ sent_count es j
count_other es e j c is other =
    count_more es e j ∙ ap (λ (x : EventData). sent_count es j + length (sent_under j.name x)) is
    ∙ ap (λ (b : Bool). sent_count es j + length (cond b (c ∷ []) [])) (not_eq c.init j.name other)
    ∙ omega arith

-- no initiator here has this command
counts_others : (is : List InitLineData) (es : List EntryData) (e : EntryData) (c : CommandData) → e.event ≡ ev.Submit c → ((k : ℕ) (j : InitLineData) → slice_get is k ≡ Some j → c.init ≢ j.name)
    → map (sent_count es) is ≡ map (sent_count (es ++ e ∷ [])) is
counts_others [] es e c is_event other = refl
counts_others (x ∷ is) es e c is_event other =
    ap (λ (n : ℕ). n ∷ map (sent_count es) is) (sym (count_other es e x c is_event (other 0 x refl)))
    ∙ ap (λ (l : List ℕ). sent_count (es ++ e ∷ []) x ∷ l) (counts_others is es e c is_event (λ k j found. other (suc k) j found))

-- the one count rises by one
pub counts_line : (is : List InitLineData) (es : List EntryData) (e : EntryData) (at : ℕ) (i : InitLineData) (c : CommandData) → Apart is → slice_get is at ≡ Some i → e.event ≡ ev.Submit c → c.init ≡ i.name
    → slice_set (map (sent_count es) is) at (slice_index (map (sent_count es) is) at + 1) ≡ map (sent_count (es ++ e ∷ [])) is
counts_line [] es e at i c apart found is_event own = absurd (none-some i found)
counts_line (x ∷ is) es e zero i c apart found is_event own =
    let mine : c.init ≡ x.name = own ∙ ap (λ (y : InitLineData). y.name) (sym (same_Some x i found)) in
    ap (λ (n : ℕ). n ∷ map (sent_count es) is) (sym (count_own es e x c is_event mine))
    ∙ ap (λ (l : List ℕ). sent_count (es ++ e ∷ []) x ∷ l) (counts_others is es e c is_event (λ k j there. λ (same : c.init ≡ j.name). apart_first x j is k apart there (sym mine ∙ same)))
counts_line (x ∷ is) es e (suc at) i c apart found is_event own =
    ap (λ (n : ℕ). n ∷ slice_set (map (sent_count es) is) at (slice_index (map (sent_count es) is) at + 1)) (sym (count_other es e x c is_event (λ (same : c.init ≡ x.name). apart_first x i is at apart found (sym same ∙ own))))
    ∙ ap (λ (l : List ℕ). sent_count (es ++ e ∷ []) x ∷ l) (counts_line is es e at i c (apart_rest x is apart) found is_event own)

-- an event that sends nothing counts nothing
pub counts_quiet : (is : List InitLineData) (es : List EntryData) (e : EntryData) → ((name : List ℕ) → sent_under name e.event ≡ []) → map (sent_count es) is ≡ map (sent_count (es ++ e ∷ [])) is
counts_quiet [] es e quiet = refl
counts_quiet (x ∷ is) es e quiet =
    ap (λ (n : ℕ). n ∷ map (sent_count es) is) (sym (count_more es e x ∙ ap (λ (l : List CommandData). sent_count es x + length l) (quiet x.name) ∙ omega arith))
    ∙ ap (λ (l : List ℕ). sent_count (es ++ e ∷ []) x ∷ l) (counts_quiet is es e quiet)

-- ==== sums of counts

pub sum_one_more : (ns : List ℕ) (at : ℕ) → at < length ns → sum_by (λ n. n) (slice_set ns at (slice_index ns at + 1)) ≡ sum_by (λ n. n) ns + 1
sum_one_more [] at within = absurd (omega (arith, within))
sum_one_more (n ∷ ns) zero within = omega (arith, sum_by-cons (λ k. k) (n + 1) ns, sum_by-cons (λ k. k) n ns)
sum_one_more (n ∷ ns) (suc at) within =
    omega (arith, sum_one_more ns at (omega (arith, within)), sum_by-cons (λ k. k) n (slice_set ns at (slice_index ns at + 1)), sum_by-cons (λ k. k) n ns)

-- how many commands these initiators have in all
abbrev pub Commands : List InitLineData → ℕ
Commands is = sum_by (λ i. length i.commands) is

pub sum_few : (is : List InitLineData) (es : List EntryData) → ((k : ℕ) (j : InitLineData) → slice_get is k ≡ Some j → sent_count es j ≤ length j.commands) → sum_by (λ n. n) (map (sent_count es) is) ≤ Commands is
sum_few [] es few = omega arith
sum_few (x ∷ is) es few =
    omega (arith, few 0 x refl, sum_few is es (λ k j found. few (suc k) j found), sum_by-cons (λ n. n) (sent_count es x) (map (sent_count es) is), sum_by-cons (λ (i : InitLineData). length i.commands) x is)

-- one initiator has no more commands than all
pub one_few : (is : List InitLineData) (at : ℕ) (i : InitLineData) → slice_get is at ≡ Some i → length i.commands ≤ Commands is
one_few [] at i found = absurd (none-some i found)
one_few (x ∷ is) zero i found = omega (arith, ap (λ (y : InitLineData). length y.commands) (same_Some x i found), sum_by-cons (λ (j : InitLineData). length j.commands) x is)
one_few (x ∷ is) (suc at) i found = omega (arith, one_few is at i found, sum_by-cons (λ (j : InitLineData). length j.commands) x is)

-- at the start nothing is counted
pub counts_none : (is : List InitLineData) → map (sent_count []) is ≡ replicate (length is) 0
counts_none [] = refl
counts_none (i ∷ is) = ap (λ (l : List ℕ). 0 ∷ l) (counts_none is)

pub sum_none : (n : ℕ) → sum_by (λ k. k) (replicate n 0) ≡ 0
sum_none zero = refl
sum_none (suc n) = omega (arith, sum_by-cons (λ k. k) 0 (replicate n 0), sum_none n)

-- what is read at a place is there
pub got_is : {X : Type 0} (xs : List X) (at : ℕ) (x : X) → at < length xs → x ≡ get_or xs at x → slice_get xs at ≡ Some x
got_is xs at x within is = slice_get_read xs (length xs) at x refl within is
