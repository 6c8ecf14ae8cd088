-- The script of a device of a scenario can be played.
use Rattle.std.proofs.Common.{◌≡◌, ◌≢◌, ℕ, suc, ◌<◌, ◌≤◌, Bool, true, false, cond, ◌&&◌, nat_eq, List, [], ◌∷◌, ◌++◌, length, map, Option, Some, None, refl, arith, length-append}
use Rattle.std.specs.List.{All, AllPairs, list_any, flat_map}
use Rattle.std.specs.Str.{bytes_eq}
use Rattle.std.proofs.lemmas.Bool.{and_parts}
use Rattle.std.proofs.lemmas.List.{length-map, get_or-map}
use Rattle.std.proofs.lemmas.List.Elements.{All-nil, All-cons, All-append, All-map}
use Rattle.std.proofs.lemmas.List.Quantifiers.{all_pairs_push}
use Rattle.tcmu_types.specs.Data.{CommandData}
use Rattle.tcmu_types.specs.Rules.{IsCommand}
use Rattle.tcmu_types.specs.Events.{EventData}
use Rattle.tcmu_types.specs.Events as ev
use Rattle.text_model.specs.ScenarioData.{ScenarioData, DeviceLineData, LineData, LineWhat, EventLine, DrainLine, DumpLine, command_of}
use Rattle.text_model.specs.Scenario.{with_name, with_initiator, initiators, initiators_from}
use Rattle.text_model.specs.Script.{sent_by, is_admin, admin_in, admin_of, init_line, script_of}
use Rattle.text_model.specs.ScenarioRules.{IsWhat, IsLine, IsScenario, IsInitLine, IsAdminEvent, IsScript}
use Rattle.tcmu_types.proofs.Readings.{none_any, other_bytes, same_bytes}

abbrev AllDiffer : List (List ℕ) → Type 0
AllDiffer names = AllPairs (λ a b. a ≢ b) names

-- ---- initiators

name_differs : (names : List (List ℕ)) (name : List ℕ) → AllDiffer names → AllDiffer (with_name names name)
name_differs names name k = go (list_any (λ n. bytes_eq n name) names) refl
  where
    go : (b : Bool) → list_any (λ n. bytes_eq n name) names ≡ b → AllDiffer (cond b names (names ++ name ∷ []))
    go true e = k
    go false e = all_pairs_push (λ a b. a ≢ b) names name k (λ i x lt. other_bytes _ _ (none_any (λ n. bytes_eq n name) names e i x lt))

initiator_differs : (d : ℕ) (names : List (List ℕ)) (l : LineData) → AllDiffer names → AllDiffer (with_initiator d names l)
initiator_differs d names l k = go (command_of l)
  where
    own : (b : Bool) (name : List ℕ) → AllDiffer (cond b (with_name names name) names)
    own true name = name_differs names name k
    own false name = k

    go : (o : Option CommandData) → AllDiffer (elim o [ Some c ↦ cond (nat_eq l.device d) (with_name names c.init) names | None ↦ names ])
    go None = k
    go (Some c) = own (nat_eq l.device d) c.init

initiators_differ : (d : ℕ) (names : List (List ℕ)) (ls : List LineData) → AllDiffer names → AllDiffer (initiators_from d names ls)
initiators_differ d names [] k = k
initiators_differ d names (l ∷ ls) k = initiators_differ d (with_initiator d names l) ls (initiator_differs d names l k)

-- ---- lists made of at most one item a line

flat_all : {A B : Type 0} (f : A → List B) (Q : A → Type 0) (P : B → Type 0) (xs : List A) → ((x : A) → Q x → All P (f x)) → All Q xs → All P (flat_map f xs)
flat_all f Q P [] is k = All-nil P
flat_all f Q P (x ∷ xs) is k = All-append P (f x) (flat_map f xs) (is x (k 0 x (omega arith))) (flat_all f Q P xs is (λ i d lt. k (suc i) d (omega (arith, lt))))

flat_short : {A B : Type 0} (f : A → List B) (xs : List A) → ((x : A) → length (f x) ≤ 1) → length (flat_map f xs) ≤ length xs
flat_short f [] one = omega arith
flat_short f (x ∷ xs) one =
    let here = one x in
    let there = flat_short f xs one in
    omega (arith, here, there, length-append (f x) (flat_map f xs))

-- ---- what an initiator sends

sent_one : (d : ℕ) (name : List ℕ) (l : LineData) → length (sent_by d name l) ≤ 1
sent_one d name l = go (command_of l)
  where
    own : (b : Bool) (c : CommandData) → length (cond b (c ∷ []) []) ≤ 1
    own true c = omega arith
    own false c = omega arith

    go : (o : Option CommandData) → length {A = CommandData} (elim o [ Some c ↦ cond (nat_eq l.device d && bytes_eq c.init name) (c ∷ []) [] | None ↦ [] ]) ≤ 1
    go None = omega arith
    go (Some c) = own (nat_eq l.device d && bytes_eq c.init name) c

sent_own : (d : ℕ) (name : List ℕ) (l : LineData) → All (λ c. c.init ≡ name) (sent_by d name l)
sent_own d name l = go (command_of l)
  where
    own : (c : CommandData) (b : Bool) → (nat_eq l.device d && bytes_eq c.init name) ≡ b → All (λ c. c.init ≡ name) (cond b (c ∷ []) [])
    own c true e = All-cons (λ c. c.init ≡ name) c [] (same_bytes c.init name (and_parts (nat_eq l.device d) (bytes_eq c.init name) e).1) (All-nil (λ c. c.init ≡ name))
    own c false e = All-nil (λ c. c.init ≡ name)

    go : (o : Option CommandData) → All (λ c. c.init ≡ name) (elim o [ Some c ↦ cond (nat_eq l.device d && bytes_eq c.init name) (c ∷ []) [] | None ↦ [] ])
    go None = All-nil (λ c. c.init ≡ name)
    go (Some c) = own c (nat_eq l.device d && bytes_eq c.init name) refl

sent_rules : (d : ℕ) (name : List ℕ) (l : LineData) → IsWhat l.what → All IsCommand (sent_by d name l)
sent_rules d name l h = go l.what h
  where
    own : (c : CommandData) (b : Bool) → IsCommand c → All IsCommand (cond b (c ∷ []) [])
    own c true is = All-cons IsCommand c [] is (All-nil IsCommand)
    own c false is = All-nil IsCommand

    told : (e : EventData) → IsWhat (EventLine e) → All IsCommand (sent_by d name (record { device = l.device; what = EventLine e }))
    told (ev.Submit c) is = own c (nat_eq l.device d && bytes_eq c.init name) is
    told e is = All-nil IsCommand

    go : (w : LineWhat) → IsWhat w → All IsCommand (sent_by d name (record { device = l.device; what = w }))
    go (EventLine e) is = told e is
    go DrainLine is = All-nil IsCommand
    go DumpLine is = All-nil IsCommand

init_is : (d : ℕ) (ds : List DeviceLineData) (ls : List LineData) (name : List ℕ) → length ls ≤ 20000 → All (IsLine ds) ls → IsInitLine (init_line d ls name)
init_is d ds ls name few lines = record {
  few = let short = flat_short (sent_by d name) ls (sent_one d name) in omega (arith, short, few);
  own = flat_all (sent_by d name) (λ l. Unit {0}) (λ c. c.init ≡ name) ls (λ l u. sent_own d name l) (λ i x lt. tt);
  commands = flat_all (sent_by d name) (IsLine ds) IsCommand ls (λ l is. sent_rules d name l is.what) lines;
}

-- ---- what the administration does

admin_one : (d : ℕ) (l : LineData) → length (admin_of d l) ≤ 1
admin_one d l = here (nat_eq l.device d)
  where
    one : (b : Bool) (e : EventData) → length (cond b (e ∷ []) []) ≤ 1
    one true e = omega arith
    one false e = omega arith

    what : (w : LineWhat) → length (admin_in w) ≤ 1
    what (EventLine e) = one (is_admin e) e
    what DrainLine = omega arith
    what DumpLine = omega arith

    here : (b : Bool) → length (cond b (admin_in l.what) []) ≤ 1
    here true = what l.what
    here false = omega arith

admin_is : (d : ℕ) (ds : List DeviceLineData) (l : LineData) → IsLine ds l → All IsAdminEvent (admin_of d l)
admin_is d ds l k = here (nat_eq l.device d)
  where
    event : (e : EventData) → IsWhat (EventLine e) → (b : Bool) → is_admin e ≡ b → All IsAdminEvent (cond b (e ∷ []) [])
    event e w true is = All-cons IsAdminEvent e [] (record { kind = is; event = w }) (All-nil IsAdminEvent)
    event e w false is = All-nil IsAdminEvent

    what : (w : LineWhat) → IsWhat w → All IsAdminEvent (admin_in w)
    what (EventLine e) w = event e w (is_admin e) refl
    what DrainLine w = All-nil IsAdminEvent
    what DumpLine w = All-nil IsAdminEvent

    here : (b : Bool) → All IsAdminEvent (cond b (admin_in l.what) [])
    here true = what l.what k.what
    here false = All-nil IsAdminEvent

-- ---- the script

pairs_map : {A B : Type 0} (f : A → B) (R : B → B → Type 0) (xs : List A) → AllPairs (λ a b. R (f a) (f b)) xs → AllPairs R (map f xs)
pairs_map f R [] k i j x lt within = absurd (omega (arith, within))
pairs_map f R (y ∷ ys) k i j x lt within =
    let long = length-map (y ∷ ys) f in
    let here : j < length (y ∷ ys) = omega (arith, within, long) in
    rw (get_or-map f (y ∷ ys) i y x (omega (arith, lt, here)), get_or-map f (y ∷ ys) j y x here) (k i j y lt here)

pub script_is : (s : ScenarioData) (device : ℕ) → IsScenario s → IsScript (script_of s device)
unfolding script_of
script_is s device k =
    let names = initiators device s.lines in
    record {
      few = let same = length-map names (init_line device s.lines) in let fit = k.few_initiators device in omega (arith, same, fit);
      names = pairs_map (init_line device s.lines) (λ i j. i.name ≢ j.name) names (initiators_differ device [] s.lines (λ i j x lt within. absurd (omega (arith, within))));
      inits = All-map IsInitLine (init_line device s.lines) names (λ i x lt. init_is device s.devices s.lines _ k.few_lines k.lines);
      few_admin = let short = flat_short (admin_of device) s.lines (admin_one device) in omega (arith, short, k.few_lines);
      admin = flat_all (admin_of device) (IsLine s.devices) IsAdminEvent s.lines (λ l sound. admin_is device s.devices l sound) k.lines;
    }
