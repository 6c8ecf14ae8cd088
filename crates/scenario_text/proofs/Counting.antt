-- One more line, in what is counted.
use Rattle.std.proofs.Common.{◌≡◌, ◌≢◌, ℕ, zero, suc, ◌+◌, ◌<◌, ◌≤◌, Bool, true, false, cond, ◌&&◌, ◌||◌, not, nat_lt, nat_eq, List, [], ◌∷◌, ◌++◌, length, get_or, set, Option, Some, None, Ok, Err, refl, sym, ap, ◌∙◌, arith, length-append, subst}
use Rattle.std.specs.List.{sum_by, count_by}
use Rattle.std.proofs.lemmas.List.{get_or-set_same, get_or-set_other, length-set}
use Rattle.std.proofs.lemmas.List.Sums.{sum_by_push}
use Rattle.std.proofs.lemmas.Bool.{cond-true, cond-false, ltb-false, eqb-true, eqb-false, eq-eqb, ne_eqb, or_parts}
use Rattle.tcmu_types.specs.Data.{CommandData}
use Rattle.text_model.specs.ScenarioData.{ScenarioData, DeviceLineData, LineData, command_of}
use Rattle.text_model.specs.Scenario.{with_name, with_initiator, initiators, is_dump, is_event, bytes_in, bytes_out, small_at, breaks_dump, breaks_many, with_line}
use Rattle.text_model.specs.declared.faults.Why.TheVariants as why
use Rattle.text_model.specs.declared.limits.Limits.{Limits}
use Rattle.scenario_text.specs.Counts.{Counted, noted, dump_by, many_by}
use Rattle.tcmu_types.specs.Numbers.{bit}
use Rattle.text_model.proofs.ScenarioLaws.{initiators_push}

-- by the command of the line, if it has one
abbrev noted_by : List (List (List ℕ)) → ℕ → Option CommandData → List (List (List ℕ))
noted_by all device o = elim o [ Some c ↦ set all device (with_name (get_or all device []) c.init) | None ↦ all ]

abbrev names_by : ℕ → List (List ℕ) → ℕ → Option CommandData → List (List ℕ)
names_by d names device o = elim o [ Some c ↦ cond (nat_eq device d) (with_name names c.init) names | None ↦ names ]

here : (all : List (List (List ℕ))) (device : ℕ) (o : Option CommandData) → device < length all → get_or (noted_by all device o) device [] ≡ names_by device (get_or all device []) device o
here all device None lt = refl
here all device (Some c) lt = get_or-set_same all device (with_name (get_or all device []) c.init) [] lt ∙ sym (cond-true _ _ _ (eq-eqb device device refl))

there : (all : List (List (List ℕ))) (d device : ℕ) (o : Option CommandData) → d ≢ device → get_or (noted_by all device o) d [] ≡ names_by d (get_or all d []) device o
there all d device None ne = refl
there all d device (Some c) ne = get_or-set_other all device d (with_name (get_or all device []) c.init) [] ne ∙ sym (cond-false _ _ _ (ne_eqb device d (λ e. ne (sym e))))

pub noted_at : (all : List (List (List ℕ))) (l : LineData) (d : ℕ) → l.device < length all → get_or (noted all l) d [] ≡ with_initiator d (get_or all d []) l
noted_at all l d lt = go (nat_eq d l.device) refl
  where
    go : (b : Bool) → nat_eq d l.device ≡ b → get_or (noted all l) d [] ≡ with_initiator d (get_or all d []) l
    go true e =
        let P : ℕ → Type 0 = λ n. get_or (noted all l) n [] ≡ with_initiator n (get_or all n []) l in
        subst P (sym (eqb-true d l.device e)) (here all l.device (command_of l) lt)
    go false e = there all d l.device (command_of l) (eqb-false d l.device e)

noted_length : (all : List (List (List ℕ))) (l : LineData) → length (noted all l) ≡ length all
noted_length all l = go (command_of l)
  where
    go : (o : Option CommandData) → length (noted_by all l.device o) ≡ length all
    go None = refl
    go (Some c) = length-set all l.device (with_name (get_or all l.device []) c.init)

dumps_push : (ls : List LineData) (l : LineData) → count_by is_dump (ls ++ l ∷ []) ≡ count_by is_dump ls + bit (is_dump l)
dumps_push ls l = sum_by_push (λ x. cond (is_dump x) 1 0) ls l

events_push : (ls : List LineData) (l : LineData) → count_by is_event (ls ++ l ∷ []) ≡ count_by is_event ls + bit (is_event l)
events_push ls l = sum_by_push (λ x. cond (is_event x) 1 0) ls l

-- ---- the rules, by the counts

dump_is : (s : ScenarioData) (l : LineData) (all : List (List (List ℕ))) (dumps events ins outs : ℕ) → Counted s.devices s.lines all dumps events ins outs
    → breaks_dump s l ≡ dump_by s.devices (dumps + bit (is_dump l)) l
unfolding breaks_dump
dump_is s l all dumps events ins outs k = ap (λ n. is_dump l && (nat_lt 16 n || not (small_at s.devices l.device))) (dumps_push s.lines l ∙ ap (λ n. n + bit (is_dump l)) (sym k.dumps_are))

many_is : (limits : Limits) (s : ScenarioData) (l : LineData) (all : List (List (List ℕ))) (dumps events ins outs : ℕ) → Counted s.devices s.lines all dumps events ins outs → l.device < length s.devices
    → breaks_many limits (s.lines ++ l ∷ []) l.device ≡ many_by limits (get_or (noted all l) l.device []) (length s.lines + 1) (events + bit (is_event l)) (ins + bytes_in l) (outs + bytes_out l)
unfolding breaks_many
many_is limits s l all dumps events ins outs k lt =
    let a : initiators l.device (s.lines ++ l ∷ []) ≡ get_or (noted all l) l.device [] = initiators_push l.device [] s.lines l ∙ ap (λ ns. with_initiator l.device ns l) (sym (k.names_are l.device)) ∙ sym (noted_at all l l.device (omega (arith, k.names_of_all, lt))) in
    let b : length (s.lines ++ l ∷ []) ≡ length s.lines + 1 = length-append s.lines (l ∷ []) in
    let e : count_by is_event (s.lines ++ l ∷ []) ≡ events + bit (is_event l) = events_push s.lines l ∙ ap (λ n. n + bit (is_event l)) (sym k.events_are) in
    let c : sum_by bytes_in (s.lines ++ l ∷ []) ≡ ins + bytes_in l = sum_by_push bytes_in s.lines l ∙ ap (λ n. n + bytes_in l) (sym k.ins_are) in
    let d : sum_by bytes_out (s.lines ++ l ∷ []) ≡ outs + bytes_out l = sum_by_push bytes_out s.lines l ∙ ap (λ n. n + bytes_out l) (sym k.outs_are) in
    rw (a, b, e, c, d) refl

-- a line that breaks no rule is counted
pub counted_more : (limits : Limits) (s : ScenarioData) (l : LineData) (all : List (List (List ℕ))) (dumps events ins outs : ℕ) → Counted s.devices s.lines all dumps events ins outs → l.device < length s.devices → length s.lines + 1 < 4294967296
    → dump_by s.devices (dumps + bit (is_dump l)) l ≡ false → many_by limits (get_or (noted all l) l.device []) (length s.lines + 1) (events + bit (is_event l)) (ins + bytes_in l) (outs + bytes_out l) ≡ false
    → Counted s.devices (s.lines ++ l ∷ []) (noted all l) (dumps + bit (is_dump l)) (events + bit (is_event l)) (ins + bytes_in l) (outs + bytes_out l)
counted_more limits s l all dumps events ins outs k lt most no_dump few =
    let names : Bool = nat_lt 16 (length (get_or (noted all l) l.device [])) in
    let many : Bool = nat_lt limits.lines (length s.lines + 1) in
    let more : Bool = nat_lt limits.events (events + bit (is_event l)) in
    let h1 : ((names || many || more || nat_lt 67108864 (ins + bytes_in l)) ≡ false) × (nat_lt 67108864 (outs + bytes_out l) ≡ false) = or_parts _ _ few in
    let h2 : ((names || many || more) ≡ false) × (nat_lt 67108864 (ins + bytes_in l) ≡ false) = or_parts _ _ h1.0 in
    let longer : length (s.lines ++ l ∷ []) ≡ length s.lines + 1 = length-append s.lines (l ∷ []) in
    record {
      names_are = λ d. noted_at all l d (omega (arith, k.names_of_all, lt)) ∙ ap (λ ns. with_initiator d ns l) (k.names_are d) ∙ sym (initiators_push d [] s.lines l);
      names_of_all = noted_length all l ∙ k.names_of_all;
      dumps_are = ap (λ n. n + bit (is_dump l)) k.dumps_are ∙ sym (dumps_push s.lines l);
      events_are = ap (λ n. n + bit (is_event l)) k.events_are ∙ sym (events_push s.lines l);
      ins_are = ap (λ n. n + bytes_in l) k.ins_are ∙ sym (sum_by_push bytes_in s.lines l);
      outs_are = ap (λ n. n + bytes_out l) k.outs_are ∙ sym (sum_by_push bytes_out s.lines l);
      few_devices = k.few_devices;
      few_lines = omega (arith, longer, most);
      few_events = omega (arith, longer, k.few_events, at_most (is_event l));
      few_dumps = few_dumps (is_dump l) _ no_dump;
      few_in = ltb-false _ _ h2.1;
      few_out = ltb-false _ _ h1.1;
    }
  where
    at_most : (b : Bool) → bit b ≤ 1
    at_most true = omega arith
    at_most false = omega arith

    few_dumps : (b c : Bool) → (b && (nat_lt 16 (dumps + bit b) || c)) ≡ false → dumps + bit b ≤ 16
    few_dumps true c e = ltb-false _ _ (or_parts _ _ e).0
    few_dumps false c e = omega (arith, k.few_dumps)

-- ---- one more device, before the first line

more_names : (all : List (List (List ℕ))) (k : ℕ) → get_or (all ++ [] ∷ []) k [] ≡ get_or all k []
more_names [] zero = refl
more_names [] (suc k) = refl
more_names (x ∷ all) zero = refl
more_names (x ∷ all) (suc k) = more_names all k

pub counted_device : (ds : List DeviceLineData) (ls : List LineData) (all : List (List (List ℕ))) (d : DeviceLineData) (dumps events ins outs : ℕ) → Counted ds ls all dumps events ins outs → length ds + 1 ≤ 16
    → Counted (ds ++ d ∷ []) ls (all ++ [] ∷ []) dumps events ins outs
counted_device ds ls all d dumps events ins outs k few = record {
  names_are = λ i. more_names all i ∙ k.names_are i;
  names_of_all = omega (arith, length-append all ([] ∷ []), length-append ds (d ∷ []), k.names_of_all);
  few_devices = omega (arith, few, length-append ds (d ∷ []));
  dumps_are = k.dumps_are;
  events_are = k.events_are;
  ins_are = k.ins_are;
  outs_are = k.outs_are;
  few_lines = k.few_lines;
  few_events = k.few_events;
  few_dumps = k.few_dumps;
  few_in = k.few_in;
  few_out = k.few_out;
}

-- ---- what a line gives

pub refused_dump : (limits : Limits) (s : ScenarioData) (l : LineData) → breaks_dump s l ≡ true → with_line limits s l ≡ Err why.Dump
unfolding with_line
refused_dump limits s l e = cond-true _ _ _ e

pub refused_many : (limits : Limits) (s : ScenarioData) (l : LineData) → breaks_dump s l ≡ false → breaks_many limits (s.lines ++ l ∷ []) l.device ≡ true → with_line limits s l ≡ Err why.Many
unfolding with_line
refused_many limits s l e f = cond-false _ _ _ e ∙ cond-true _ _ _ f

taken : (limits : Limits) (s : ScenarioData) (l : LineData) → breaks_dump s l ≡ false → breaks_many limits (s.lines ++ l ∷ []) l.device ≡ false → with_line limits s l ≡ Ok (record s { lines = s.lines ++ l ∷ [] })
unfolding with_line
taken limits s l e f = cond-false _ _ _ e ∙ cond-false _ _ _ f

-- ---- what the tests of the code say

pub dump_found : (s w : ScenarioData) (l : LineData) (all : List (List (List ℕ))) (ds : List DeviceLineData) (dumps events ins outs n : ℕ) (b t : Bool) → w ≡ s → Counted w.devices w.lines all dumps events ins outs
    → ds ≡ w.devices → n ≡ bit t → t ≡ is_dump l → b ≡ dump_by ds (dumps + n) l → (breaks_dump s l ≡ b) × (dump_by w.devices (dumps + bit (is_dump l)) l ≡ b)
dump_found s w l all ds dumps events ins outs n b t v k d o i e =
    let found : dump_by w.devices (dumps + bit (is_dump l)) l ≡ b = rw (← d, ← (o ∙ ap bit i)) (sym e) in
    (ap (λ x. breaks_dump x l) (sym v) ∙ dump_is w l all dumps events ins outs k ∙ found, found)

-- what the code finds of the limits on many: the names of the line's device, how many lines, events and bytes
pub record Found (l : LineData) (all : List (List (List ℕ))) (lines events ins outs : ℕ) (names : List (List ℕ)) (many more sent asked : ℕ) : Type 0 where
  pub names_are : names ≡ get_or (noted all l) l.device []
  pub lines_are : many ≡ lines + 1
  pub events_are : more ≡ events + bit (is_event l)
  pub ins_are : sent ≡ ins + bytes_in l
  pub outs_are : asked ≡ outs + bytes_out l

pub many_found : (limits : Limits) (s w : ScenarioData) (l : LineData) (all : List (List (List ℕ))) (dumps events ins outs : ℕ) (names : List (List ℕ)) (many more sent asked : ℕ) (b : Bool) → w ≡ s → Counted w.devices w.lines all dumps events ins outs
    → l.device < length s.devices → Found l all (length w.lines) events ins outs names many more sent asked → b ≡ many_by limits names many more sent asked
    → (breaks_many limits (s.lines ++ l ∷ []) l.device ≡ b) × (many_by limits (get_or (noted all l) l.device []) (length w.lines + 1) (events + bit (is_event l)) (ins + bytes_in l) (outs + bytes_out l) ≡ b)
many_found limits s w l all dumps events ins outs names many more sent asked b v k lt f e =
    let there : l.device < length w.devices = rw v lt in
    let found : many_by limits (get_or (noted all l) l.device []) (length w.lines + 1) (events + bit (is_event l)) (ins + bytes_in l) (outs + bytes_out l) ≡ b =
    rw (← f.names_are, ← f.lines_are, ← f.events_are, ← f.ins_are, ← f.outs_are) (sym e) in
    (ap (λ x. breaks_many limits (x.lines ++ l ∷ []) l.device) (sym v) ∙ many_is limits w l all dumps events ins outs k there ∙ found, found)

-- the names that the code finds are those of the line's device, behind this line
pub names_found : (l : LineData) (all now lent : List (List (List ℕ))) (names : List (List ℕ)) (device : ℕ) → now ≡ noted all l → names ≡ get_or lent device [] → lent ≡ now → device ≡ l.device
    → names ≡ get_or (noted all l) l.device []
names_found l all now lent names device y z q d = z ∙ ap (λ n. get_or lent n []) d ∙ ap (λ xs. get_or xs l.device []) (q ∙ y)

pub taken_as : (limits : Limits) (s w : ScenarioData) (l : LineData) (ls : List LineData) → w ≡ s → breaks_dump s l ≡ false → breaks_many limits (s.lines ++ l ∷ []) l.device ≡ false → ls ≡ w.lines ++ l ∷ []
    → with_line limits s l ≡ Ok (record { devices = w.devices; lines = ls })
taken_as limits s w l ls v e f is =
    taken limits s l e f ∙ ap (λ (x : ScenarioData). Ok (record { devices = x.devices; lines = x.lines ++ l ∷ [] })) (sym v) ∙ ap (λ (xs : List LineData). Ok (record { devices = w.devices; lines = xs })) (sym is)
