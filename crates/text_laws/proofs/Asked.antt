-- The events of a replay: those that its lines ask for, and those that its drains find to do, which are within the limits of lines.
use Rattle.std.proofs.Common.{◌≡◌, ℕ, suc, ◌+◌, ◌<◌, ◌≤◌, Bool, true, false, cond, List, [], ◌∷◌, ◌++◌, length, map, slice_set, Option, Some, None, refl, sym, ap, ◌∙◌, subst, arith}
use Rattle.std.specs.List.{filter}
use Rattle.std.proofs.lemmas.List.Elements.{filter-append}
use Rattle.std.proofs.lemmas.Option.{slice_get_within}
use Rattle.std.proofs.lemmas.List.{length-set}
use Rattle.tcmu_types.specs.Events.{EventData, EntryData}
use Rattle.tcmu_types.specs.Events as ev
use Rattle.tcmu_types.specs.declared.stat.Todo.{Todo}
use Rattle.tcmu_types.specs.Lists.{first_of, Every}
use Rattle.tcmu_model.specs.declared.state.CommandState.TheVariants.{Out, Handled}
use Rattle.tcmu_model.specs.Device.{Unfinished, DeviceState, Device, has_state}
use Rattle.tcmu_model.specs.Steps.{HandlerRelation, Step, most_accepted}
use Rattle.tcmu_model.specs.Drain.{least_serial, chosen, todo_of, nothing_to_do, drain_event, Drains}
use Rattle.text_model.specs.ScenarioData.{LineWhat, LineData, command_of}
use Rattle.text_model.specs.ScenarioData as line
use Rattle.text_model.specs.ScenarioRules.{IsEvent, IsWhat}
use Rattle.text_model.specs.Replay.{Plays, made, lines_of}
use Rattle.text_model.specs.Several.{DrainsEach, ReplaysEach}
use Rattle.tcmu_model.specs.Sound.{IsSound}
use Rattle.tcmu_types.proofs.Everies.{every-append, every-weaker, every-mapped, every-first, every_at}
use Rattle.tcmu_model.proofs.Basics.{rows_rise}
use Rattle.tcmu_types.proofs.Rises.{rise_within}
use Rattle.tcmu_types.proofs.Readings.{same_some, mapped}
use Rattle.tcmu_model.proofs.Runs.{sound_step}
use Rattle.text_laws.specs.Carried.{IsCarriedWhat}
use Rattle.text_laws.specs.Lines.{CarriesBytes}
use Rattle.text_laws.proofs.Accepted.{accepts_one, makes_accepts}
use Rattle.text_laws.proofs.Sets.{every_set}
use Rattle.tcmu_model.proofs.Draining.{all_todo}

-- ---- lines that send commands

abbrev pub sends : LineData → Bool
sends l = elim (command_of l) [ Some c ↦ true | None ↦ false ]

abbrev pub sent : List LineData → List LineData
sent ls = filter sends ls

-- ---- what a drain finds to do

-- a serial that is served
abbrev IsServed : DeviceState → ℕ → Type 0
IsServed d s = (0 < s) × (s ≤ d.accepted)

least_served : (d : DeviceState) (p : Unfinished → Bool) (s : ℕ) → IsSound d → least_serial p d ≡ Some s → IsServed d s
least_served d p s h e =
    let rows = every-mapped (λ (u : Unfinished). u.serial) (IsServed d) d.unfinished (rise_within 0 (map (λ u. u.serial) d.unfinished) d.accepted (rows_rise d h.serials)) in
    let a = mapped (λ (u : Unfinished). u.serial) (first_of p d.unfinished) s e in
    subst (IsServed d) (sym a.2) (every-first p (λ u. IsServed d u.serial) d.unfinished a.0 rows a.1)

-- within the limits of lines, and no submit
pub record IsQuiet (e : EventData) : Type 0 where
  pub event : IsEvent e
  pub bytes : CarriesBytes e
  pub accepts : most_accepted e ≡ 0
  pub silent : (at : ℕ) → sends (made at e) ≡ false

serial_quiet : (make : ℕ → EventData) (d : DeviceState) (s : ℕ) (e : EventData) → d.accepted ≤ 1000000000 → ((n : ℕ) → 1 ≤ n → n ≤ 1000000000 → IsQuiet (make n)) → IsServed d s → Some (make s) ≡ Some e → IsQuiet e
serial_quiet make d s e few quiet is q = subst IsQuiet (same_some (make s) e q) (quiet s (omega (arith, is.0)) (omega (arith, is.1, few)))

chosen_quiet : (d : DeviceState) (t : Todo) (e : EventData) → d.accepted ≤ 1000000000 → ((s : ℕ) → t.handle ≡ Some s → IsServed d s) → ((s : ℕ) → t.respond ≡ Some s → IsServed d s) → chosen t ≡ Some e → IsQuiet e
chosen_quiet d t e few handles responds q = go t.handle t.respond t.publish t.clean t.enter t.dispatch handles responds q
  where
    plain : (f : EventData) → IsQuiet f → Some f ≡ Some e → IsQuiet e
    plain f is same = subst IsQuiet (same_some f e same) is

    go : (h r : Option ℕ) (p c n x : Bool) → ((s : ℕ) → h ≡ Some s → IsServed d s) → ((s : ℕ) → r ≡ Some s → IsServed d s)
        → ◌≡◌ {A = Option EventData} (elim h [ Some s ↦ Some (ev.Handle s) | None ↦ elim r [ Some s ↦ Some (ev.Respond s) | None ↦ cond p (Some ev.Publish) (cond c (Some ev.Clean) (cond n (Some ev.Enter) (cond x (Some ev.Dispatch) None))) ] ]) (Some e) → IsQuiet e
    go (Some s) r p c n x hs rs q = serial_quiet ev.Handle d s e few (λ k low high. record { event = record { least = low; most = high }; bytes = tt; accepts = refl; silent = λ at. refl }) (hs s refl) q
    go None (Some s) p c n x hs rs q = serial_quiet ev.Respond d s e few (λ k low high. record { event = record { least = low; most = high }; bytes = tt; accepts = refl; silent = λ at. refl }) (rs s refl) q
    go None None true c n x hs rs q = plain ev.Publish (record { event = tt; bytes = tt; accepts = refl; silent = λ at. refl }) q
    go None None false true n x hs rs q = plain ev.Clean (record { event = tt; bytes = tt; accepts = refl; silent = λ at. refl }) q
    go None None false false true x hs rs q = plain ev.Enter (record { event = tt; bytes = tt; accepts = refl; silent = λ at. refl }) q
    go None None false false false true hs rs q = plain ev.Dispatch (record { event = tt; bytes = tt; accepts = refl; silent = λ at. refl }) q
    go None None false false false false hs rs q = absurd (cc)

drain_quiet : (d : DeviceState) (e : EventData) → IsSound d → d.accepted ≤ 1000000000 → drain_event d ≡ Some e → IsQuiet e
unfolding drain_event todo_of
drain_quiet d e h few q = go d.attached q
  where
    go : (b : Bool) → chosen (cond b (all_todo d) nothing_to_do) ≡ Some e → IsQuiet e
    go true q = chosen_quiet d (all_todo d) e few (λ s is. least_served d (has_state Out) s h is) (λ s is. least_served d (has_state Handled) s h is) q
    go false q = absurd (cc)

-- ---- entries

-- an entry of one of so many devices, whose line is within the limits
pub record IsWithinLines (devices : ℕ) (e : EntryData) : Type 0 where
  pub device : e.device < devices
  pub event : IsEvent e.event
  pub bytes : CarriesBytes e.event

-- a sound device that has accepted at most so many commands
pub record HasAccepted (n : ℕ) (d : Device) : Type 0 where
  pub sound : IsSound d.state
  pub few : d.state.accepted ≤ n

pub more_accepted : (n m : ℕ) (d : Device) → n ≤ m → HasAccepted n d → HasAccepted m d
more_accepted n m d le h = record { sound = h.sound; few = omega (arith, le, h.few) }

-- what stands of entries that a device makes: their lines are within the limits, they send these lines, and the device is as so
record MadeOf (devices : ℕ) (n : ℕ) (es : List EntryData) (lines : List LineData) (d' : Device) : Type 0 where
  entries : Every (IsWithinLines devices) es
  sends_these : sent (lines_of es) ≡ sent lines
  after : HasAccepted n d'

pub step_accepts : (R : HandlerRelation) (n : ℕ) (d d' : Device) (e : EntryData) → HasAccepted n d → Step R d e d' → HasAccepted (n + most_accepted e.event) d'
step_accepts R n d d' e h s = record { sound = sound_step R d d' e h.sound s; few = omega (arith, (makes_accepts R d d' e.event e.answer s.makes).most, h.few) }

silent_line : (l : LineData) (ls : List LineData) → sends l ≡ false → sent (l ∷ ls) ≡ sent ls
silent_line l ls e = ap (λ b. cond b (l ∷ sent ls) (sent ls)) e

-- a drain of a device sends nothing, and leaves nothing to do
record Drained (devices : ℕ) (n : ℕ) (es : List EntryData) (d' : Device) : Type 0 where
  made : MadeOf devices n es [] d'
  rest : drain_event d'.state ≡ None

drained : (R : HandlerRelation) (devices at n : ℕ) (d d' : Device) (es : List EntryData) → at < devices → n ≤ 1000000000 → HasAccepted n d → Drains R at d es d' → Drained devices n es d'
drained R devices at n d d' [] lt few h drains = record {
  made = record { entries = tt; sends_these = refl; after = subst (HasAccepted n) (sym drains.1) h };
  rest = subst (λ (x : Device). drain_event x.state ≡ None) (sym drains.1) drains.0;
}
drained R devices at n d d' (e ∷ es) lt few h drains =
    let quiet = drain_quiet d.state e.event h.sound (omega (arith, h.few, few)) drains.1 in
    let step = step_accepts R n d drains.2 e h drains.3 in
    let next = drained R devices at n drains.2 d' es lt few (more_accepted (n + most_accepted e.event) n drains.2 (omega (arith, quiet.accepts)) step) drains.4 in
    record {
      made = record {
        entries = (record { device = omega (arith, drains.0, lt); event = quiet.event; bytes = quiet.bytes }, next.made.entries);
        sends_these = silent_line (made e.device e.event) (lines_of es) (quiet.silent e.device) ∙ next.made.sends_these;
        after = next.made.after;
      };
      rest = next.rest;
    }

-- ---- one line

abbrev pub IsAskable : LineData → Type 0
IsAskable l = IsWhat l.what × IsCarriedWhat l.what

plays : (R : HandlerRelation) (devices n : ℕ) (l : LineData) (what : LineWhat) (d d' : Device) (es : List EntryData) → l.device < devices → n ≤ 1000000000 → HasAccepted n d → IsWhat what → IsCarriedWhat what → Plays R l.device d what es d'
    → MadeOf devices (n + 1) es (record { device = l.device; what = what } ∷ []) d'
plays R devices n l (line.EventLine event) d d' es lt few h is carried p =
    let e = p.0 in
    let line_is : made e.device e.event ≡ made l.device event = ap (λ (k : ℕ). made k e.event) p.1 ∙ ap (made l.device) p.2 in
    let made_one : MadeOf devices (n + 1) (e ∷ []) (made l.device event ∷ []) d' = record {
      entries = (record { device = omega (arith, p.1, lt); event = subst IsEvent (sym p.2) is; bytes = subst CarriesBytes (sym p.2) carried }, tt);
      sends_these = ap (λ (x : LineData). sent (x ∷ [])) line_is;
      after = more_accepted (n + most_accepted e.event) (n + 1) d' (at_most e.event) (step_accepts R n d d' e h p.3);
    } in
    subst (λ (xs : List EntryData). MadeOf devices (n + 1) xs (made l.device event ∷ []) d') (sym p.4) made_one
  where
    at_most : (e : EventData) → n + most_accepted e ≤ n + 1
    at_most e = omega (arith, accepts_one e)
plays R devices n l line.DrainLine d d' es lt few h is carried p =
    let all = drained R devices l.device n d d' es lt few h p in
    record { entries = all.made.entries; sends_these = all.made.sends_these; after = more_accepted n (n + 1) d' (omega arith) all.made.after }
plays R devices n l line.DumpLine d d' es lt few h is carried p =
    let none : MadeOf devices (n + 1) [] (record { device = l.device; what = line.DumpLine } ∷ []) d' = record { entries = tt; sends_these = refl; after = more_accepted n (n + 1) d' (omega arith) (subst (HasAccepted n) (sym p.1) h) } in
    subst (λ (xs : List EntryData). MadeOf devices (n + 1) xs (record { device = l.device; what = line.DumpLine } ∷ []) d') (sym p.0) none

-- ---- all lines

-- what stands of all entries of a replay
pub record IsAsked (devices : ℕ) (es : List EntryData) (lines : List LineData) (ends : List Device) : Type 0 where
  pub entries : Every (IsWithinLines devices) es
  pub sends_these : sent (lines_of es) ≡ sent lines
  pub rest : Every (λ d. drain_event d.state ≡ None) ends
  pub count : length ends ≡ devices

lines_append : (a b : List EntryData) → lines_of (a ++ b) ≡ lines_of a ++ lines_of b
lines_append [] b = refl
lines_append (e ∷ a) b = ap (λ (x : List LineData). made e.device e.event ∷ x) (lines_append a b)

sent_joined : (a b : List EntryData) (ks ls : List LineData) → sent (lines_of a) ≡ sent ks → sent (lines_of b) ≡ sent ls → sent (lines_of (a ++ b)) ≡ sent (ks ++ ls)
sent_joined a b ks ls h k =
    ap sent (lines_append a b) ∙ filter-append sends (lines_of a) (lines_of b)
    ∙ ap (λ (x : List LineData). x ++ sent (lines_of b)) h ∙ ap (λ (x : List LineData). sent ks ++ x) k ∙ sym (filter-append sends ks ls)

drains_each : (R : HandlerRelation) (devices at n : ℕ) (ds ends : List Device) (es : List EntryData) → at + length ds ≤ devices → n ≤ 1000000000 → Every (HasAccepted n) ds → DrainsEach (Plays R) at ds es ends
    → Every (IsWithinLines devices) es × (sent (lines_of es) ≡ []) × Every (λ d. drain_event d.state ≡ None) ends × (length ends ≡ length ds)
drains_each R devices at n [] ends es within few h drains =
    (subst (Every (IsWithinLines devices)) (sym drains.0) tt, ap (λ (xs : List EntryData). sent (lines_of xs)) drains.0, subst (Every (λ d. drain_event d.state ≡ None)) (sym drains.1) tt, ap (λ (xs : List Device). length xs) drains.1)
drains_each R devices at n (d ∷ ds) ends es within few h drains =
    let first = drained R devices at n d drains.2 drains.0 (omega (arith, within)) few h.0 drains.6 in
    let next = drains_each R devices (at + 1) n ds drains.3 drains.1 (omega (arith, within)) few h.1 drains.7 in
    let none : sent (lines_of (drains.0 ++ drains.1)) ≡ [] = sent_joined drains.0 drains.1 [] [] first.made.sends_these next.1 in (
      subst (Every (IsWithinLines devices)) (sym drains.4) (every-append (IsWithinLines devices) drains.0 drains.1 first.made.entries next.0),
      ap (λ (xs : List EntryData). sent (lines_of xs)) drains.4 ∙ none,
      subst (Every (λ x. drain_event x.state ≡ None)) (sym drains.5) (first.rest, next.2),
      ap (λ (xs : List Device). length xs) drains.5 ∙ ap suc next.3,
    )

pub replays_asked : (R : HandlerRelation) (n : ℕ) (ds ends : List Device) (lines : List LineData) (es : List EntryData) → n + length lines ≤ 1000000000 → Every (HasAccepted n) ds → Every IsAskable lines → ReplaysEach (Plays R) ds lines es ends → IsAsked (length ds) es lines ends
replays_asked R n ds ends [] es few h is replays =
    let all = drains_each R (length ds) 0 n ds ends es (omega arith) (omega (arith, few)) h replays in
    record { entries = all.0; sends_these = all.1; rest = all.2; count = all.3 }
replays_asked R n ds ends (l ∷ lines) es few h is replays =
    let lt = slice_get_within ds l.device replays.2 replays.5 in
    let one = plays R (length ds) n l l.what replays.2 replays.3 replays.0 lt (omega (arith, few)) (every_at (HasAccepted n) ds l.device replays.2 h replays.5) is.0.0 is.0.1 replays.6 in
    let later = every_set (HasAccepted (n + 1)) ds l.device replays.3 (every-weaker (HasAccepted n) (HasAccepted (n + 1)) ds (λ d k. more_accepted n (n + 1) d (omega arith) k) h) one.after in
    let rest = replays_asked R (n + 1) (slice_set ds l.device replays.3) ends lines replays.1 (omega (arith, few)) later is.1 replays.7 in
    let same = length-set ds l.device replays.3 in
    let entries = subst (λ (k : ℕ). Every (IsWithinLines k) replays.1) same rest.entries in
    record {
      entries = subst (Every (IsWithinLines (length ds))) (sym replays.4) (every-append (IsWithinLines (length ds)) replays.0 replays.1 one.entries entries);
      sends_these = ap (λ (xs : List EntryData). sent (lines_of xs)) replays.4 ∙ sent_joined replays.0 replays.1 (l ∷ []) lines one.sends_these rest.sends_these;
      rest = rest.rest;
      count = rest.count ∙ same;
    }
