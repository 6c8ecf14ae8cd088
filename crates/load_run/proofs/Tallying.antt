-- Entries that are played, and the sizes that are noted of them, as far as a replay has come.
use Rattle.std.proofs.Common.{◌≡◌, ◌⊎◌, inl, inr, ⊎_elim, ℕ, zero, suc, ◌+◌, ◌<◌, ◌≤◌, Bool, true, false, cond, nat_eq, List, [], ◌∷◌, ◌++◌, length, get_or, drop, Option, Some, None, refl, sym, ap, ◌∙◌, subst, arith, append_assoc, length-append, ◌&&◌, not, nat_lt, ◌*◌, ◌/◌}
use Rattle.std.specs.Prelude.{slice_get, slice_set}
use Rattle.std.proofs.lemmas.List.{append-nil, drop_more, drop_all}
use Rattle.std.proofs.lemmas.List.Concat.{flat_map-append}
use Rattle.std.proofs.lemmas.Bool.{eq-eqb, ne_eqb, cond-true, cond-false}
use Rattle.tcmu_types.specs.Data.{CommandData}
use Rattle.tcmu_types.specs.Events.{EventData, AnswerData, EntryData}
use Rattle.tcmu_types.specs.Events as ev
use Rattle.tcmu_types.specs.declared.answer.Submit.{Submit}
use Rattle.tcmu_types.specs.declared.answer.Submit.TheVariants as submit
use Rattle.tcmu_model.specs.Device.{Device, DeviceState}
use Rattle.tcmu_model.specs.Events.{submit_answer, after_submit, queued_or_full, queued_or_delayed, with_command, with_delayed, entry_length_in, blocks_in, fits_ring, fits_blocks, free_blocks}
use Rattle.tcmu_model.specs.RingState.{need, free}
use Rattle.tcmu_model.specs.Steps.{HandlerRelation, Step, Run, Makes, most_accepted}
use Rattle.tcmu_model.specs.Drain.{Drains, drain_event}
use Rattle.tcmu_model.specs.Sound.{IsSound}
use Rattle.tcmu_model.specs.Work.{DrainGoesOn, work}
use Rattle.text_model.specs.ScenarioData.{LineWhat, LineData}
use Rattle.text_model.specs.ScenarioData as line
use Rattle.text_model.specs.Replay.{Plays}
use Rattle.text_model.specs.Several.{ReplaysEach}
use Rattle.text_model.specs.Load as load
use Rattle.tcmu_model.proofs.Draining.{work_falls}
use Rattle.tcmu_model.proofs.GoesOn.{goes_on_first, goes_on_more}
use Rattle.tcmu_model.proofs.Logs.{makes_grows}
use Rattle.tcmu_model.proofs.Runs.{sound_step, sound_run}
use Rattle.tcmu_path.specs.Calls.{Accepts}
use Rattle.load_run.specs.Tallies.{size_of, size_in, sizes_of, GivesNext, Numbers, RunNumbers, IsOf, Played}

-- ==== one event

record Next (n : ℕ) (c : CommandData) (a : Submit) : Type 0 where
  pub gives : GivesNext n (ev.Submit c) (ev.Submitted a)

next_if : (n : ℕ) (c : CommandData) (b : Bool) (x y : Submit) → Next n c x → Next n c y → Next n c (cond b x y)
next_if n c true x y h k = h
next_if n c false x y h k = k

full_next : (d : DeviceState) (c : CommandData) → Next d.accepted c (queued_or_full d c)
unfolding queued_or_full
full_next d c =
    let queued : Submit = submit.Queued (d.accepted + 1) in
    let full : Submit = submit.FullBlocks (blocks_in d c) (free_blocks d) in
    next_if d.accepted c (not (fits_ring d c)) (submit.FullRing (need d.ring (entry_length_in d c)) (free d.ring)) (cond (not (fits_blocks d c)) full queued) (record { gives = tt })
    (next_if d.accepted c (not (fits_blocks d c)) full queued (record { gives = tt }) (record { gives = refl }))

delayed_next : (d : DeviceState) (c : CommandData) → Next d.accepted c (queued_or_delayed d c)
unfolding queued_or_delayed
delayed_next d c =
    next_if d.accepted c (fits_ring d c && fits_blocks d c && nat_eq (length d.delayed) 0) (submit.Queued (d.accepted + 1)) (submit.Delayed (d.accepted + 1)) (record { gives = refl }) (record { gives = refl })

refused_next : (n : ℕ) (c : CommandData) (a b e f : Bool) (p q r s : ℕ) (x y : Submit) → Next n c x → Next n c y
    → Next n c (cond a submit.Busy (cond b (submit.TooBig p q) (cond e (submit.TooBig r s) (cond f x y))))
refused_next n c true b e f p q r s x y h k = record { gives = tt }
refused_next n c false true e f p q r s x y h k = record { gives = tt }
refused_next n c false false true f p q r s x y h k = record { gives = tt }
refused_next n c false false false true p q r s x y h k = h
refused_next n c false false false false p q r s x y h k = k

-- an accepted command gets the next serial
submit_next : (d : DeviceState) (c : CommandData) → Next d.accepted c (submit_answer d c)
unfolding submit_answer
submit_next d c =
    refused_next d.accepted c d.blocked (nat_lt d.ring.size (2 * entry_length_in d c)) (nat_lt d.settings.blocks (blocks_in d c)) (nat_eq d.settings.qfull 0)
    (entry_length_in d c) (d.ring.size / 2) (blocks_in d c) d.settings.blocks (queued_or_full d c) (queued_or_delayed d c) (full_next d c) (delayed_next d c)

submit_counts : (d : DeviceState) (c : CommandData) (a : Submit) → (after_submit d c a).accepted ≡ d.accepted + length (size_in (ev.Submit c) (ev.Submitted a))
unfolding after_submit with_command with_delayed
submit_counts d c (submit.Queued s) = omega arith
submit_counts d c (submit.Delayed s) = omega arith
submit_counts d c submit.Busy = omega arith
submit_counts d c (submit.TooBig have limit) = omega arith
submit_counts d c (submit.FullRing need free) = omega arith
submit_counts d c (submit.FullBlocks need free) = omega arith

abbrev pub entry_of : EventData → AnswerData → ℕ → EntryData
entry_of event a logged = record { device = 0; event = event; answer = a; logged = logged }

none_more : (d d' : Device) → Accepts 0 d d' → d'.state.accepted ≡ d.state.accepted + 0
none_more d d' k = omega (arith, k.least, k.most)

pub numbered : (R : HandlerRelation) (d d' : Device) (event : EventData) (a : AnswerData) (n : ℕ) → Makes R d event a d' → Accepts (most_accepted event) d d' → Numbers d (entry_of event a n) d'
numbered R d d' (ev.Submit c) (ev.Submitted a) n h k =
    record {
      count = ap (λ (x : Device). x.state.accepted) h.after ∙ submit_counts d.state c a;
      serial = subst (λ (x : Submit). GivesNext d.state.accepted (ev.Submit c) (ev.Submitted x)) (sym h.answer) (submit_next d.state c).gives;
    }
numbered R d d' (ev.Submit c) _ n h k = absurd h
numbered R d d' ev.Dispatch a n h k = record { count = none_more d d' k; serial = tt }
numbered R d d' (ev.Handle s) a n h k = record { count = none_more d d' k; serial = tt }
numbered R d d' (ev.Respond s) a n h k = record { count = none_more d d' k; serial = tt }
numbered R d d' ev.Publish a n h k = record { count = none_more d d' k; serial = tt }
numbered R d d' ev.Clean a n h k = record { count = none_more d d' k; serial = tt }
numbered R d d' (ev.Tick t) a n h k = record { count = none_more d d' k; serial = tt }
numbered R d d' ev.Block a n h k = record { count = none_more d d' k; serial = tt }
numbered R d d' ev.Unblock a n h k = record { count = none_more d d' k; serial = tt }
numbered R d d' (ev.Reset level) a n h k = record { count = none_more d d' k; serial = tt }
numbered R d d' ev.Restart a n h k = record { count = none_more d d' k; serial = tt }
numbered R d d' (ev.Tmr kind ss) a n h k = record { count = none_more d d' k; serial = tt }
numbered R d d' ev.Stat a n h k = record { count = none_more d d' k; serial = tt }
numbered R d d' ev.Enter a n h k = record { count = none_more d d' k; serial = tt }

-- an event was made, and its size noted
pub played_one : (R : HandlerRelation) (d d' : Device) (event : EventData) (a : AnswerData) (old new : List (Option ℕ)) → Makes R d event a d' → Accepts (most_accepted event) d d' → new ≡ old ++ size_in event a
    → Played R (IsOf 0 event) d d' old new
played_one R d d' event a old new h k e =
    let g = makes_grows R d d' event a h in
    let n = length g.0 in
    let step : Step R d (entry_of event a n) d' = record { makes = h; logged = omega (arith, ap length g.1, length-append d.state.log g.0) } in
    record {
      entries = entry_of event a n ∷ [];
      right = (entry_of event a n, refl, refl, refl);
      run = (d', step, numbered R d d' event a n h k, refl);
      noted = e ∙ ap (λ (l : List (Option ℕ)). old ++ l) (sym (append-nil (size_in event a)));
    }

-- ==== runs

pub run_of : (R : HandlerRelation) (d d' : Device) (es : List EntryData) → RunNumbers R d es d' → Run R d es d'
run_of R d d' [] h = h
run_of R d d' (e ∷ es) h = (h.0, h.1, run_of R h.0 d' es h.3)

run_append : (R : HandlerRelation) (d m d' : Device) (xs ys : List EntryData) → RunNumbers R d xs m → RunNumbers R m ys d' → RunNumbers R d (xs ++ ys) d'
run_append R d m d' [] ys h k = subst (λ (x : Device). RunNumbers R x ys d') h k
run_append R d m d' (x ∷ xs) ys h k = (h.0, h.1, h.2, run_append R h.0 m d' xs ys h.3 k)

sizes_append : (xs ys : List EntryData) → sizes_of (xs ++ ys) ≡ sizes_of xs ++ sizes_of ys
sizes_append xs ys = flat_map-append (λ (e : EntryData). size_in e.event e.answer) xs ys

noted_more : (old mid now : List (Option ℕ)) (xs ys : List EntryData) → mid ≡ old ++ sizes_of xs → now ≡ mid ++ sizes_of ys → now ≡ old ++ sizes_of (xs ++ ys)
noted_more old mid now xs ys e f =
    f ∙ ap (λ (l : List (Option ℕ)). l ++ sizes_of ys) e ∙ append_assoc old (sizes_of xs) (sizes_of ys) ∙ ap (λ (l : List (Option ℕ)). old ++ l) (sym (sizes_append xs ys))

noted_none : (old : List (Option ℕ)) → old ≡ old ++ sizes_of []
noted_none old = sym (append-nil old)

-- the one entry of an event, as a step
record One (R : HandlerRelation) (event : EventData) (d d' : Device) (es : List EntryData) : Type 0 where
  pub entry : EntryData
  pub all : es ≡ entry ∷ []
  pub device : entry.device ≡ 0
  pub is : entry.event ≡ event
  pub step : Step R d entry d'

one_of : (R : HandlerRelation) (event : EventData) (d d' : Device) (es : List EntryData) → IsOf 0 event es → RunNumbers R d es d' → One R event d d' es
one_of R event d d' es h run =
    let e = h.0 in
    let r : RunNumbers R d (e ∷ []) d' = subst (λ (xs : List EntryData). RunNumbers R d xs d') h.1 run in
    record { entry = e; all = h.1; device = h.2; is = h.3; step = subst (λ (x : Device). Step R d e x) (sym r.3) r.1 }

-- ==== a drain

pub record Draining (R : HandlerRelation) (start d : Device) (old now : List (Option ℕ)) : Type 0 where
  pub sofar : List EntryData
  pub run : RunNumbers R start sofar d
  pub goes_on : DrainGoesOn R 0 start sofar d
  pub noted : now ≡ old ++ sizes_of sofar
  pub sound : IsSound d.state

pub draining_first : (R : HandlerRelation) (d : Device) (old : List (Option ℕ)) → IsSound d.state → Draining R d d old old
draining_first R d old sound = record { sofar = []; run = refl; goes_on = goes_on_first R 0 d; noted = noted_none old; sound = sound }

pub draining_more : (R : HandlerRelation) (start d d' : Device) (event : EventData) (old mid now : List (Option ℕ))
    → Draining R start d old mid → drain_event d.state ≡ Some event → Played R (IsOf 0 event) d d' mid now → Draining R start d' old now
draining_more R start d d' event old mid now so picked p =
    let one = one_of R event d d' p.entries p.right p.run in
    record {
      sofar = so.sofar ++ p.entries;
      run = run_append R start d d' so.sofar p.entries so.run p.run;
      goes_on = subst (λ (es : List EntryData). DrainGoesOn R 0 start (so.sofar ++ es) d') (sym one.all)
          (goes_on_more R 0 start d d' so.sofar one.entry one.device (picked ∙ ap (λ (x : EventData). Some x) (sym one.is)) one.step so.goes_on);
      noted = noted_more old mid now so.sofar p.entries so.noted p.noted;
      sound = sound_step R d d' one.entry so.sound one.step;
    }

pub draining_done : (R : HandlerRelation) (start d : Device) (old now : List (Option ℕ)) → Draining R start d old now → drain_event d.state ≡ None
    → Played R (λ es. Drains R 0 start es d) start d old now
draining_done R start d old now so none =
    record {
      entries = so.sofar;
      right = subst (λ (es : List EntryData). Drains R 0 start es d) (append-nil so.sofar) (so.goes_on [] d (none, refl));
      run = so.run;
      noted = so.noted;
    }

-- each event of a drain leaves less to do
pub falls_played : (R : HandlerRelation) (d d' : Device) (event : EventData) (old now : List (Option ℕ)) → IsSound d.state → drain_event d.state ≡ Some event → Played R (IsOf 0 event) d d' old now → work d'.state < work d.state
falls_played R d d' event old now sound picked p =
    let one = one_of R event d d' p.entries p.right p.run in
    work_falls R d d' one.entry sound (picked ∙ ap (λ (x : EventData). Some x) (sym one.is)) one.step

-- ==== lines

pub line_played : (R : HandlerRelation) (d d' : Device) (event : EventData) (what : LineWhat) (old now : List (Option ℕ)) → what ≡ line.EventLine event → Played R (IsOf 0 event) d d' old now
    → Played R (λ es. Plays R 0 d what es d') d d' old now
line_played R d d' event what old now is p =
    let one = one_of R event d d' p.entries p.right p.run in
    let makes : Plays R 0 d (line.EventLine event) p.entries d' = (one.entry, one.device, one.is, one.step, one.all) in
    record {
      entries = p.entries;
      right = subst (λ (w : LineWhat). Plays R 0 d w p.entries d') (sym is) makes;
      run = p.run;
      noted = p.noted;
    }

-- what was played so far of the lines of one device
pub record Playing (R : HandlerRelation) (start d : Device) (lines left : List LineData) (old now : List (Option ℕ)) : Type 0 where
  pub sofar : List EntryData
  pub run : RunNumbers R start sofar d
  pub goes_on : (rest : List EntryData) (ends : List Device) → ReplaysEach (Plays R) (d ∷ []) left rest ends → ReplaysEach (Plays R) (start ∷ []) lines (sofar ++ rest) ends
  pub noted : now ≡ old ++ sizes_of sofar
  pub sound : IsSound d.state

pub playing_first : (R : HandlerRelation) (d : Device) (lines : List LineData) (old : List (Option ℕ)) → IsSound d.state → Playing R d d lines lines old old
playing_first R d lines old sound = record { sofar = []; run = refl; goes_on = λ rest ends h. h; noted = noted_none old; sound = sound }

pub playing_more : (R : HandlerRelation) (start d d' : Device) (lines left : List LineData) (l : LineData) (old mid now : List (Option ℕ)) → l.device < 1
    → Playing R start d lines (l ∷ left) old mid → Played R (λ es. Plays R 0 d l.what es d') d d' mid now → Playing R start d' lines left old now
playing_more R start d d' lines left l old mid now lt so p =
    let at : l.device ≡ 0 = omega (arith, lt) in
    record {
      sofar = so.sofar ++ p.entries;
      run = run_append R start d d' so.sofar p.entries so.run p.run;
      goes_on = λ rest ends h.
          let found : slice_get (d ∷ []) l.device ≡ Some d = rw at refl in
          let plays : Plays R l.device d l.what p.entries d' = subst (λ (n : ℕ). Plays R n d l.what p.entries d') (sym at) p.right in
          let others : slice_set (d ∷ []) l.device d' ≡ d' ∷ [] = rw at refl in
          let more : ReplaysEach (Plays R) (slice_set (d ∷ []) l.device d') left rest ends = subst (λ (ds : List Device). ReplaysEach (Plays R) ds left rest ends) (sym others) h in
          subst (λ (es : List EntryData). ReplaysEach (Plays R) (start ∷ []) lines es ends) (sym (append_assoc so.sofar p.entries rest))
          (so.goes_on (p.entries ++ rest) ends (p.entries, rest, d, d', refl, found, plays, more));
      noted = noted_more old mid now so.sofar p.entries so.noted p.noted;
      sound = sound_run R d d' p.entries so.sound (run_of R d d' p.entries p.run);
    }

pub playing_done : (R : HandlerRelation) (start d d' : Device) (lines : List LineData) (old mid now : List (Option ℕ))
    → Playing R start d lines [] old mid → Played R (λ es. Drains R 0 d es d') d d' mid now → Played R (λ es. ReplaysEach (Plays R) (start ∷ []) lines es (d' ∷ [])) start d' old now
playing_done R start d d' lines old mid now so p =
    record {
      entries = so.sofar ++ p.entries;
      right = so.goes_on p.entries (d' ∷ []) (p.entries, [], d', [], sym (append-nil p.entries), refl, p.right, (refl, refl));
      run = run_append R start d d' so.sofar p.entries so.run p.run;
      noted = noted_more old mid now so.sofar p.entries so.noted p.noted;
    }

pub line_at : (ls : List LineData) (i : ℕ) (l : LineData) → i < length ls → l ≡ get_or ls i l → drop i ls ≡ l ∷ drop (i + 1) ls
line_at ls i l lt is = drop_more ls i l lt ∙ ap (λ (x : LineData). x ∷ drop (i + 1) ls) (sym is)

pub none_left : (ls : List LineData) (i : ℕ) → length ls ≤ i → drop i ls ≡ []
none_left ls i le = drop_all i ls le

-- ==== the command of a serial

-- an entry accepts nothing
record Nothing (event : EventData) (a : AnswerData) : Type 0 where
  pub sizes : size_in event a ≡ []
  pub none : (s : ℕ) → load.accepted_under s event a ≡ None

-- it accepts a command as the one behind the first n
record Takes (n : ℕ) (event : EventData) (a : AnswerData) : Type 0 where
  pub command : CommandData
  pub sizes : size_in event a ≡ size_of command ∷ []
  pub by : (s : ℕ) → load.accepted_under s event a ≡ cond (nat_eq (n + 1) s) (Some command) None

kind_of : (n : ℕ) (event : EventData) (a : AnswerData) → GivesNext n event a → Nothing event a ⊎ Takes n event a
kind_of n (ev.Submit c) (ev.Submitted (submit.Queued t)) h = inr (record { command = c; sizes = refl; by = λ s. ap (λ (m : ℕ). cond (nat_eq m s) (Some c) None) h })
kind_of n (ev.Submit c) (ev.Submitted (submit.Delayed t)) h = inr (record { command = c; sizes = refl; by = λ s. ap (λ (m : ℕ). cond (nat_eq m s) (Some c) None) h })
kind_of n _ _ h = inl (record { sizes = refl; none = λ s. refl })

-- the size of a command, where there is one
abbrev pub known : Option CommandData → Option ℕ
known (Some c) = size_of c
known None = None

abbrev or_else : Option CommandData → Option CommandData → Option CommandData
or_else o p = elim o [ Some c ↦ Some c | None ↦ p ]

pub none_before : (R : HandlerRelation) (d d' : Device) (es : List EntryData) → RunNumbers R d es d' → (s : ℕ) → s ≤ d.state.accepted → load.accepted_as s es ≡ None
none_before R d d' [] h s le = refl
none_before R d d' (e ∷ es) h s le =
    let later : load.accepted_as s es ≡ None = none_before R h.0 d' es h.3 s (omega (arith, le, h.2.count)) in
    ⊎_elim
    (λ (k : Nothing e.event e.answer). ap (λ (o : Option CommandData). or_else o (load.accepted_as s es)) (k.none s) ∙ later)
    (λ (k : Takes d.state.accepted e.event e.answer).
    let other : load.accepted_under s e.event e.answer ≡ None = k.by s ∙ cond-false _ _ _ (ne_eqb (d.state.accepted + 1) s (λ x. absurd (omega (arith, x, le)))) in
    ap (λ (o : Option CommandData). or_else o (load.accepted_as s es)) other ∙ later)
    (kind_of d.state.accepted e.event e.answer h.2.serial)

taken : (n m : ℕ) (e : EntryData) (es : List EntryData) (s : ℕ) → Takes n e.event e.answer → m ≡ n + length (size_in e.event e.answer)
    → ((k : ℕ) → known (load.accepted_as (m + suc k) es) ≡ get_or (sizes_of es) k None)
    → known (or_else (load.accepted_under (n + suc s) e.event e.answer) (load.accepted_as (n + suc s) es)) ≡ get_or (size_in e.event e.answer ++ sizes_of es) s None
taken n m e es zero k count later =
    let here : load.accepted_under (n + suc zero) e.event e.answer ≡ Some k.command = k.by (n + suc zero) ∙ cond-true _ _ _ (eq-eqb (n + 1) (n + suc zero) (omega arith)) in
    ap (λ (o : Option CommandData). known (or_else o (load.accepted_as (n + suc zero) es))) here
    ∙ ap (λ (l : List (Option ℕ)). get_or (l ++ sizes_of es) zero None) (sym k.sizes)
taken n m e es (suc s) k count later =
    let t = n + suc (suc s) in
    let other : load.accepted_under t e.event e.answer ≡ None = k.by t ∙ cond-false _ _ _ (ne_eqb (n + 1) t (λ x. absurd (omega (arith, x)))) in
    let more : m + suc s ≡ t = omega (arith, count, ap length k.sizes) in
    ap (λ (o : Option CommandData). known (or_else o (load.accepted_as t es))) other
    ∙ subst (λ (u : ℕ). known (load.accepted_as u es) ≡ get_or (sizes_of es) s None) more (later s)
    ∙ ap (λ (l : List (Option ℕ)). get_or (l ++ sizes_of es) (suc s) None) (sym k.sizes)

not_taken : (n m : ℕ) (e : EntryData) (es : List EntryData) (s : ℕ) → Nothing e.event e.answer → m ≡ n + length (size_in e.event e.answer)
    → ((k : ℕ) → known (load.accepted_as (m + suc k) es) ≡ get_or (sizes_of es) k None)
    → known (or_else (load.accepted_under (n + suc s) e.event e.answer) (load.accepted_as (n + suc s) es)) ≡ get_or (size_in e.event e.answer ++ sizes_of es) s None
not_taken n m e es s k count later =
    let same : m + suc s ≡ n + suc s = omega (arith, count, ap length k.sizes) in
    ap (λ (o : Option CommandData). known (or_else o (load.accepted_as (n + suc s) es))) (k.none (n + suc s))
    ∙ subst (λ (u : ℕ). known (load.accepted_as u es) ≡ get_or (sizes_of es) s None) same (later s)
    ∙ ap (λ (l : List (Option ℕ)). get_or (l ++ sizes_of es) s None) (sym k.sizes)

pub size_at : (R : HandlerRelation) (d d' : Device) (es : List EntryData) → RunNumbers R d es d' → (s : ℕ) → known (load.accepted_as (d.state.accepted + suc s) es) ≡ get_or (sizes_of es) s None
size_at R d d' [] h s = refl
size_at R d d' (e ∷ es) h s =
    ⊎_elim
    (λ (k : Nothing e.event e.answer). not_taken d.state.accepted h.0.state.accepted e es s k h.2.count (λ i. size_at R h.0 d' es h.3 i))
    (λ (k : Takes d.state.accepted e.event e.answer). taken d.state.accepted h.0.state.accepted e es s k h.2.count (λ i. size_at R h.0 d' es h.3 i))
    (kind_of d.state.accepted e.event e.answer h.2.serial)

pub counted : (R : HandlerRelation) (d d' : Device) (es : List EntryData) → RunNumbers R d es d' → d'.state.accepted ≡ d.state.accepted + length (sizes_of es)
counted R d d' [] h = omega (arith, ap (λ (x : Device). x.state.accepted) h)
counted R d d' (e ∷ es) h = omega (arith, h.2.count, counted R h.0 d' es h.3, length-append (size_in e.event e.answer) (sizes_of es))
