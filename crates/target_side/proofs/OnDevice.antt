-- The calls on a region that represents a device.
use Rattle.std.proofs.Common.{◌≡◌, ℕ, ◌<◌, Bool, true, List, [], ◌∷◌, map, Result, Ok, Err, refl, sym, ap, ◌∙◌, subst}
use Rattle.std.specs.Prelude.{IfOk}
use Rattle.tcmu_types.specs.Data.{CommandData}
use Rattle.tcmu_types.specs.Events as event
use Rattle.tcmu_types.specs.declared.answer.Submit.{Submit}
use Rattle.tcmu_types.specs.declared.answer.Submit.TheVariants as submit
use Rattle.tcmu_types.specs.declared.answer.Enter.{Enter}
use Rattle.tcmu_types.specs.declared.answer.Enter.TheVariants as enter
use Rattle.tcmu_types.specs.declared.answer.Tmr.{Tmr}
use Rattle.tcmu_types.specs.declared.answer.Tmr.TheVariants as tmr
use Rattle.tcmu_model.specs.BlockLists.{Taken, kept_lists, lists_after, with_taken}
use Rattle.tcmu_model.specs.Device.{Delayed, DeviceState}
use Rattle.tcmu_model.specs.Events.{after_block, after_clean, after_enter, after_submit, after_tick, after_tmr, enter_answer, entered_or_full, later, submit_answer, tmr_answer}
use Rattle.region_model.specs.Regions.{RegionState}
use Rattle.region_model.specs.Represents.{IdsStand, JobsStand, NotesStand, Represents}
use Rattle.region_model.specs.Sides.{InHand, TargetState, UserState}
use Rattle.region_model.specs.TargetCleans.{region_cleaned, target_clean_answer, target_cleaned, target_reset_answer}
use Rattle.region_model.specs.TargetSteps.{expired_at, region_entered, region_noted, region_submitted, target_block_answer, target_blocked, target_enter_answer, target_entered, target_noted, target_submit_answer, target_submitted, target_tick_answer, target_ticked, target_tmr_answer}
use Rattle.ring_laws.specs.Calls.{IsFreeId}
use Rattle.ring_laws.specs.Cleaned.{CanClean}
use Rattle.ring_laws.specs.Refused.{enters_none, is_refusal, is_unnoted}
use Rattle.ring_laws.specs.Sizes.{IsSized}
use Rattle.ring_laws.proofs.answers.TargetAnswers.{submit_same, enter_same, block_same}
use Rattle.ring_laws.proofs.submitted.Submitted.{ring_submitted, ids_submitted, notes_submitted, blocks_submitted, jobs_submitted, target_submitted_keeps, side_submitted, pages_submitted}
use Rattle.ring_laws.proofs.entered.Entered.{serial_entered, ring_entered, ids_entered, notes_entered, blocks_entered, jobs_entered, target_entered_keeps, side_entered, pages_entered}
use Rattle.ring_laws.proofs.delayed.DelayedKept.{ring_delayed, ids_delayed, notes_delayed, blocks_delayed, jobs_delayed, target_delayed, side_delayed, pages_delayed, region_delayed}
use Rattle.ring_laws.proofs.refused.RefusedSame.{refused_same, entered_none_same}
use Rattle.ring_laws.proofs.lists.KeptLists.{ring_kept, blocks_kept, jobs_kept, target_kept}
use Rattle.ring_laws.proofs.notes.Noted.{tmr_same, ring_noted, ids_noted, notes_noted, blocks_noted, jobs_noted, target_noted_keeps, side_noted, pages_noted, unnoted_same}
use Rattle.ring_laws.proofs.ticked.Ticked.{tick_same, ring_ticked, ids_ticked, notes_ticked, blocks_ticked, jobs_ticked, target_ticked_keeps, side_ticked, pages_ticked, ring_blocked, ids_blocked, notes_blocked, blocks_blocked, jobs_blocked, target_blocked_keeps, side_blocked, pages_blocked}
use Rattle.ring_laws.proofs.cleaned.CleanedAll.{answer_cleaned}
use Rattle.ring_laws.proofs.cleaned.CleanedRecords.{target_cleaned_keeps, side_cleaned, pages_cleaned}
use Rattle.ring_laws.proofs.cleaned.CleanedRing.{ring_cleaned, ids_cleaned, notes_cleaned}
use Rattle.ring_laws.proofs.cleaned.CleanedJobs.{blocks_cleaned, jobs_cleaned}
use Rattle.ring_laws.proofs.emptied.EmptiedKept.{logged_reset}
use Rattle.target_side.specs.declared.fault.TargetFault.{TargetFault}
use Rattle.target_side.specs.Cleaning.{clean_result}
use Rattle.target_side.specs.OnDevice.{CleansDevice, EntersDevice, NotesDevice, RepresentsSound, ResetsDevice, SubmitsDevice, TicksDevice, TurnsDevice}
use Rattle.target_side.specs.Submits.{Entered, Submitted}

-- what is left, known up to equations
stands_as : (r r' : RegionState) (t t' : TargetState) (u : UserState) (hand : List InHand) (d : DeviceState) (lists : List Taken) → r' ≡ r → t' ≡ t → Represents r t u hand d lists → Represents r' t' u hand d lists
stands_as r r' t t' u hand d lists e f h =
    subst (λ (x : RegionState). Represents x t' u hand d lists) (sym e) (subst (λ (x : TargetState). Represents r x u hand d lists) (sym f) h)

-- no point looks at a list that goes
with_kept : (r : RegionState) (t : TargetState) (u : UserState) (hand : List InHand) (d : DeviceState) (lists : List Taken) → Represents r t u hand d lists → Represents r t u hand d (kept_lists d lists)
with_kept r t u hand d lists p =
    record {
      ring = ring_kept r.front t.items d lists p.ring;
      ids = p.ids;
      notes = p.notes;
      blocks = blocks_kept r.blocks d lists p.blocks;
      jobs = jobs_kept u hand t.rows d lists p.jobs;
      target = target_kept t d lists p.target;
      side = p.side;
      pages = p.pages;
    }

-- nothing has changed, but that lists which are kept no more go
unchanged : (r : RegionState) (t : TargetState) (u : UserState) (hand : List InHand) (d d' : DeviceState) (lists : List Taken) → d' ≡ d → Represents r t u hand d lists → Represents r t u hand d' (kept_lists d' lists)
unchanged r t u hand d d' lists e p = subst (λ (x : DeviceState). Represents r t u hand x (kept_lists x lists)) (sym e) (with_kept r t u hand d lists p)

-- ==== submit

queued : (r : RegionState) (t : TargetState) (u : UserState) (hand : List InHand) (d : DeviceState) (lists : List Taken) (c : CommandData) (s id : ℕ) → RepresentsSound r t u hand d lists → IsSized r →
    submit_answer d c ≡ submit.Queued s → IsFreeId t id →
    Represents (region_submitted r t c id (submit.Queued s)) (target_submitted t c id (submit.Queued s)) u hand (after_submit d c (submit.Queued s)) (with_taken d lists s c)
queued r t u hand d lists c s id h z e f =
    let p = h.represents in
    record {
      ring = ring_submitted r t d lists s c id h.sound h.owned p.ring p.target f.range e;
      ids = ids_submitted r t d lists s c id h.sound h.owned p.ring p.ids p.target f.range f.free e;
      notes = notes_submitted r t d lists s c id h.sound h.owned p.ring p.notes p.target f.range e;
      blocks = blocks_submitted r t d lists s c id h.sound h.owned z p.pages p.blocks p.target e;
      jobs = jobs_submitted u hand t d lists s c id h.sound h.owned p.jobs e;
      target = target_submitted_keeps t d lists s c id h.sound h.owned p.target e;
      side = side_submitted u d s c h.sound p.side;
      pages = pages_submitted r t d s c id p.pages;
    }

delayed : (r : RegionState) (t : TargetState) (u : UserState) (hand : List InHand) (d : DeviceState) (lists : List Taken) (c : CommandData) (s id : ℕ) → RepresentsSound r t u hand d lists →
    Represents r (target_submitted t c id (submit.Delayed s)) u hand (after_submit d c (submit.Delayed s)) lists
unfolding target_submitted
delayed r t u hand d lists c s id h =
    let p = h.represents in
    record {
      ring = ring_delayed r.front t.items d lists c s p.ring;
      ids = ids_delayed r.front t.rows d c s p.ids;
      notes = notes_delayed r.front t.rows d c s p.notes;
      blocks = blocks_delayed r.blocks d lists c s p.blocks;
      jobs = jobs_delayed u hand t.rows d lists c s p.jobs;
      target = target_delayed t d lists c s id p.target;
      side = side_delayed u d c s p.side;
      pages = pages_delayed r d c s p.pages;
    }

pub submits : (r left : RegionState) (t after : TargetState) (c : CommandData) (a : Submit) → IsSized r → a ≡ target_submit_answer t c → Submitted r t c a left after → SubmitsDevice r t c a left after
submits r left t after c a z e w u hand d lists h =
    let same : a ≡ submit_answer d c = e ∙ submit_same r.front t d lists c h.sound h.owned h.represents.ring h.represents.target in
    record {
      answer_is = same;
      stands = stands_as (region_submitted r t c w.id a) left (target_submitted t c w.id a) after u hand (after_submit d c a) (lists_after d lists (event.Submit c) (event.Submitted a) (after_submit d c a)) w.region w.target (go a (sym same) w.free);
    }
  where
    refused : (x : Submit) → is_refusal x ≡ true → Represents (region_submitted r t c w.id x) (target_submitted t c w.id x) u hand (after_submit d c x) (kept_lists (after_submit d c x) lists)
    refused x f =
        let q = refused_same r t d c w.id x f in
        stands_as r (region_submitted r t c w.id x) t (target_submitted t c w.id x) u hand (after_submit d c x) (kept_lists (after_submit d c x) lists) q.2 q.1 (unchanged r t u hand d (after_submit d c x) lists q.0 h.represents)

    go : (x : Submit) → submit_answer d c ≡ x → ((s : ℕ) → x ≡ submit.Queued s → IsFreeId t w.id) →
        Represents (region_submitted r t c w.id x) (target_submitted t c w.id x) u hand (after_submit d c x) (lists_after d lists (event.Submit c) (event.Submitted x) (after_submit d c x))
    go (submit.Queued s) q f = queued r t u hand d lists c s w.id h z q (f s refl)
    go (submit.Delayed s) q f =
        let x : Submit = submit.Delayed s in
        stands_as r (region_submitted r t c w.id x) (target_submitted t c w.id x) (target_submitted t c w.id x) u hand (after_submit d c x) (kept_lists (after_submit d c x) lists) (region_delayed r t c w.id s) refl
        (with_kept r (target_submitted t c w.id x) u hand (after_submit d c x) lists (delayed r t u hand d lists c s w.id h))
    go submit.Busy q f = refused submit.Busy refl
    go (submit.TooBig have limit) q f = refused (submit.TooBig have limit) refl
    go (submit.FullRing need free) q f = refused (submit.FullRing need free) refl
    go (submit.FullBlocks need free) q f = refused (submit.FullBlocks need free) refl

-- ==== enter

entered : (r : RegionState) (t : TargetState) (u : UserState) (hand : List InHand) (d : DeviceState) (lists : List Taken) (w : Delayed) (ws : List Delayed) (s id : ℕ) → RepresentsSound r t u hand d lists → IsSized r →
    d.delayed ≡ w ∷ ws → enter_answer d ≡ enter.Entered s → IsFreeId t id →
    Represents (region_entered r t id (enter.Entered s)) (target_entered t id (enter.Entered s)) u hand (after_enter d (enter.Entered s)) (with_taken d lists w.serial w.command)
entered r t u hand d lists w ws s id h z first e f =
    let p = h.represents in
    record {
      ring = ring_entered r t d lists w ws s id h.sound h.owned p.ring p.target f.range first e;
      ids = ids_entered r t d lists w ws s id h.sound h.owned p.ring p.ids p.target f.range f.free first e;
      notes = notes_entered r t d lists w ws s id h.sound h.owned p.ring p.notes p.target f.range first e;
      blocks = blocks_entered r t d lists w ws s id h.sound h.owned z p.pages p.blocks p.target first e;
      jobs = jobs_entered u hand t d lists w ws s id h.sound h.owned p.jobs p.target first e;
      target = target_entered_keeps t d lists w ws s id h.sound h.owned p.target first e;
      side = side_entered u d w ws s h.sound p.side first;
      pages = pages_entered r t d lists w ws s id p.target first p.pages;
    }

-- a device at which none waits lets none enter
empty_not : (s : ℕ) → enter.Empty ≡ enter.Entered s → ⊥
empty_not s h = cc

none_enters : (d : DeviceState) (s : ℕ) → d.delayed ≡ [] → enter_answer d ≡ enter.Entered s → ⊥
unfolding enter_answer
none_enters d s e q = empty_not s (sym (ap (entered_or_full d) e) ∙ q)

pub enters : (r left : RegionState) (t after : TargetState) (a : Enter) → IsSized r → a ≡ target_enter_answer t → Entered r t a left after → EntersDevice r t a left after
enters r left t after a z e w u hand d lists h =
    let same : a ≡ enter_answer d = e ∙ enter_same r.front t d lists h.sound h.owned h.represents.ring h.represents.target in
    record {
      answer_is = same;
      stands = stands_as (region_entered r t w.id a) left (target_entered t w.id a) after u hand (after_enter d a) (lists_after d lists event.Enter (event.Entered a) (after_enter d a)) w.region w.target (go a (sym same) w.free);
    }
  where
    none : (x : Enter) → enters_none x ≡ true → Represents (region_entered r t w.id x) (target_entered t w.id x) u hand (after_enter d x) (kept_lists (after_enter d x) lists)
    none x f =
        let q = entered_none_same r t d w.id x f in
        stands_as r (region_entered r t w.id x) t (target_entered t w.id x) u hand (after_enter d x) (kept_lists (after_enter d x) lists) q.2 q.1 (unchanged r t u hand d (after_enter d x) lists q.0 h.represents)

    by_first : (ds : List Delayed) (s : ℕ) → d.delayed ≡ ds → enter_answer d ≡ enter.Entered s → IsFreeId t w.id →
        Represents (region_entered r t w.id (enter.Entered s)) (target_entered t w.id (enter.Entered s)) u hand (after_enter d (enter.Entered s)) (elim ds as (λ x. List Taken) [ [] ↦ lists | v ∷ vs ↦ with_taken d lists s v.command ])
    by_first [] s q g f = absurd (none_enters d s q g)
    by_first (v ∷ vs) s q g f =
        subst (λ n. Represents (region_entered r t w.id (enter.Entered s)) (target_entered t w.id (enter.Entered s)) u hand (after_enter d (enter.Entered s)) (with_taken d lists n v.command)) (sym (serial_entered d v vs s h.sound q g))
        (entered r t u hand d lists v vs s w.id h z q g f)

    go : (x : Enter) → enter_answer d ≡ x → ((s : ℕ) → x ≡ enter.Entered s → IsFreeId t w.id) →
        Represents (region_entered r t w.id x) (target_entered t w.id x) u hand (after_enter d x) (lists_after d lists event.Enter (event.Entered x) (after_enter d x))
    go (enter.Entered s) q f = by_first d.delayed s refl q (f s refl)
    go enter.Empty q f = none enter.Empty refl
    go (enter.FullRing need free) q f = none (enter.FullRing need free) refl
    go (enter.FullBlocks need free) q f = none (enter.FullBlocks need free) refl

-- ==== notes

pub notes : (r left : RegionState) (t after : TargetState) (type_ : ℕ) (ss : List ℕ) (a : Tmr) → type_ < 256 → a ≡ target_tmr_answer t ss → after ≡ target_noted t ss a → left ≡ region_noted r t type_ ss a →
    NotesDevice r t type_ ss a left after
notes r left t after type_ ss a byte e f g u hand d lists h =
    let same : a ≡ tmr_answer d ss = e ∙ tmr_same r.front t d lists ss h.sound h.owned h.represents.ring h.represents.target in
    record {
      answer_is = same;
      stands = stands_as (region_noted r t type_ ss a) left (target_noted t ss a) after u hand (after_tmr d type_ ss a) (kept_lists (after_tmr d type_ ss a) lists) g f (go a (sym same));
    }
  where
    p : Represents r t u hand d lists
    p = h.represents

    none : (x : Tmr) → is_unnoted x ≡ true → Represents (region_noted r t type_ ss x) (target_noted t ss x) u hand (after_tmr d type_ ss x) (kept_lists (after_tmr d type_ ss x) lists)
    none x k =
        let q = unnoted_same r t d type_ ss x k in
        stands_as r (region_noted r t type_ ss x) t (target_noted t ss x) u hand (after_tmr d type_ ss x) (kept_lists (after_tmr d type_ ss x) lists) q.2 q.1 (unchanged r t u hand d (after_tmr d type_ ss x) lists q.0 p)

    go : (x : Tmr) → tmr_answer d ss ≡ x → Represents (region_noted r t type_ ss x) (target_noted t ss x) u hand (after_tmr d type_ ss x) (kept_lists (after_tmr d type_ ss x) lists)
    go tmr.Noted q =
        with_kept (region_noted r t type_ ss tmr.Noted) (target_noted t ss tmr.Noted) u hand (after_tmr d type_ ss tmr.Noted) lists
        (record {
          ring = ring_noted r t d lists type_ ss h.sound p.ring p.ids p.target q;
          ids = ids_noted r t d lists type_ ss h.sound p.ring p.ids p.target q;
          notes = notes_noted r t d lists type_ ss h.sound p.ring p.ids p.notes p.target byte q;
          blocks = blocks_noted r t d lists type_ ss p.blocks;
          jobs = jobs_noted u hand t d lists type_ ss h.sound p.jobs;
          target = target_noted_keeps t d lists type_ ss h.sound p.target;
          side = side_noted u d type_ ss h.sound p.side;
          pages = pages_noted r t d type_ ss p.pages;
        })
    go tmr.Off q = none tmr.Off refl
    go tmr.Busy q = none tmr.Busy refl
    go (tmr.Unknown s) q = none (tmr.Unknown s) refl
    go (tmr.FullRing need free) q = none (tmr.FullRing need free) refl

-- ==== ticks, block and unblock

represents_ticked : (t : TargetState) (n : ℕ) (r : RegionState) (u : UserState) (hand : List InHand) (d : DeviceState) (lists : List Taken) → Represents r t u hand d lists → Represents r (target_ticked t n) u hand (after_tick d n) lists
unfolding target_ticked
represents_ticked t n r u hand d lists p =
    let now : later d.now n ≡ later t.now n = ap (λ k. later k n) (sym p.target.now) in
    record {
      ring = ring_ticked r.front t.items d lists n p.ring;
      ids = subst (λ k. IdsStand r.front (map (expired_at k) t.rows) (after_tick d n)) now (ids_ticked r.front t.rows d n p.ids);
      notes = subst (λ k. NotesStand r.front (map (expired_at k) t.rows) (after_tick d n)) now (notes_ticked r.front t.rows d n p.notes);
      blocks = blocks_ticked r.blocks d lists n p.blocks;
      jobs = subst (λ k. JobsStand u hand (map (expired_at k) t.rows) (after_tick d n) lists) now (jobs_ticked u hand t.rows d lists n p.jobs);
      target = target_ticked_keeps t d lists n p.target;
      side = side_ticked u d n p.side;
      pages = pages_ticked r d n p.pages;
    }

pub ticks : (t after : TargetState) (n told : ℕ) → told ≡ target_tick_answer t n → after ≡ target_ticked t n → TicksDevice t n told after
ticks t after n told e f r u hand d lists h =
    record {
      answer_is = e ∙ tick_same t d lists n h.represents.target;
      stands = stands_as r r (target_ticked t n) after u hand (after_tick d n) (kept_lists (after_tick d n) lists) refl f (with_kept r (target_ticked t n) u hand (after_tick d n) lists (represents_ticked t n r u hand d lists h.represents));
    }

blocked_same : (t : TargetState) (b : Bool) (r : RegionState) (u : UserState) (hand : List InHand) (d : DeviceState) (lists : List Taken) → Represents r t u hand d lists → Represents r (target_blocked t b) u hand (after_block d b) lists
unfolding target_blocked
blocked_same t b r u hand d lists p =
    record {
      ring = ring_blocked r.front t.items d lists b p.ring;
      ids = ids_blocked r.front t.rows d b p.ids;
      notes = notes_blocked r.front t.rows d b p.notes;
      blocks = blocks_blocked r.blocks d lists b p.blocks;
      jobs = jobs_blocked u hand t.rows d lists b p.jobs;
      target = target_blocked_keeps t d lists b p.target;
      side = side_blocked u d b p.side;
      pages = pages_blocked r d b p.pages;
    }

pub turns : (t after : TargetState) (b told : Bool) → told ≡ target_block_answer t b → after ≡ target_blocked t b → TurnsDevice t b told after
turns t after b told e f r u hand d lists h =
    record {
      answer_is = e ∙ block_same t d lists b h.represents.target;
      stands = stands_as r r (target_blocked t b) after u hand (after_block d b) (kept_lists (after_block d b) lists) refl f (with_kept r (target_blocked t b) u hand (after_block d b) lists (blocked_same t b r u hand d lists h.represents));
    }

-- ==== clean and reset

can_clean : (r : RegionState) (t : TargetState) (u : UserState) (hand : List InHand) (d : DeviceState) (lists : List Taken) → RepresentsSound r t u hand d lists → CanClean r t d lists
can_clean r t u hand d lists h =
    let p = h.represents in
    record { sound = h.sound; owned = h.owned; ring = p.ring; ids = p.ids; blocks = p.blocks; target = p.target; pages = p.pages }

pub cleans : (r left : RegionState) (t after : TargetState) (told : Result ℕ TargetFault) → told ≡ clean_result (target_clean_answer r t) → after ≡ target_cleaned r t → left ≡ region_cleaned r t → CleansDevice r t told left after
cleans r left t after told e f g u hand d lists h =
    let k : CanClean r t d lists = can_clean r t u hand d lists h in
    let p = h.represents in
    record {
      answer_is = e ∙ ap clean_result (answer_cleaned r t d lists k);
      stands = stands_as (region_cleaned r t) left (target_cleaned r t) after u hand (after_clean d) (kept_lists (after_clean d) lists) g f
          (with_kept (region_cleaned r t) (target_cleaned r t) u hand (after_clean d) lists
          (record {
            ring = ring_cleaned r t d lists k;
            ids = ids_cleaned r t d lists k;
            notes = notes_cleaned r t d lists k p.notes;
            blocks = blocks_cleaned r t d lists k;
            jobs = jobs_cleaned r t u hand d lists k p.jobs;
            target = target_cleaned_keeps r t d lists k;
            side = side_cleaned u d p.side;
            pages = pages_cleaned r t d p.pages;
          }));
    }

pub resets : (r : RegionState) (t : TargetState) (level told : ℕ) → told ≡ target_reset_answer r t level → ResetsDevice r t level told
resets r t level told e u hand d lists h n q = e ∙ logged_reset r t d lists level n (can_clean r t u hand d lists h) q

-- ==== answers that may want memory

pub submits_ok : {E : Type 0} (r left : RegionState) (t after : TargetState) (c : CommandData) (res : Result Submit E) → IsSized r → IfOk res (λ a. a ≡ target_submit_answer t c) → IfOk res (λ a. Submitted r t c a left after) →
    IfOk res (λ a. SubmitsDevice r t c a left after)
submits_ok r left t after c (Ok a) z e s = submits r left t after c a z e s
submits_ok r left t after c (Err x) z e s = tt

pub enters_ok : {E : Type 0} (r left : RegionState) (t after : TargetState) (res : Result Enter E) → IsSized r → IfOk res (λ a. a ≡ target_enter_answer t) → IfOk res (λ a. Entered r t a left after) → IfOk res (λ a. EntersDevice r t a left after)
enters_ok r left t after (Ok a) z e s = enters r left t after a z e s
enters_ok r left t after (Err x) z e s = tt

pub notes_ok : {E : Type 0} (r left : RegionState) (t after : TargetState) (type_ : ℕ) (ss : List ℕ) (res : Result Tmr E) → type_ < 256 → IfOk res (λ a. a ≡ target_tmr_answer t ss) → IfOk res (λ a. after ≡ target_noted t ss a) →
    IfOk res (λ a. left ≡ region_noted r t type_ ss a) → IfOk res (λ a. NotesDevice r t type_ ss a left after)
notes_ok r left t after type_ ss (Ok a) b e f g = notes r left t after type_ ss a b e f g
notes_ok r left t after type_ ss (Err x) b e f g = tt
