-- The block lists of a run: there are some, they are sound, and the entries alone tell them.
use Rattle.std.proofs.Common.{◌≡◌, ℕ, ◌≤◌, ◌&&◌, nat_eq, Bool, true, false, cond, List, [], ◌∷◌, ◌++◌, length, append-nil, refl, sym, ap, ◌∙◌, subst}
use Rattle.std.proofs.lemmas.Bool.{false≢true}
use Rattle.tcmu_types.specs.Data.{CommandData, SettingsData}
use Rattle.tcmu_types.specs.Rules.{IsSettings}
use Rattle.tcmu_types.specs.Events.{EventData, AnswerData, EntryData}
use Rattle.tcmu_types.specs.Events as ev
use Rattle.tcmu_types.specs.Lists.{Every}
use Rattle.tcmu_types.specs.Numbers.{is_among}
use Rattle.tcmu_types.specs.declared.answer.Submit.{Submit}
use Rattle.tcmu_types.specs.declared.answer.Submit.TheVariants as submit
use Rattle.tcmu_types.specs.declared.answer.Enter.{Enter}
use Rattle.tcmu_types.specs.declared.answer.Enter.TheVariants as enter
use Rattle.tcmu_types.specs.declared.answer.Tmr.{Tmr as TmrAnswer}
use Rattle.tcmu_types.specs.declared.answer.Tmr.TheVariants as tmr
use Rattle.tcmu_model.specs.Lengths.{blocks_of}
use Rattle.tcmu_model.specs.RingState.{Item, Laid, is_command, serials_in}
use Rattle.tcmu_model.specs.RingState as ring
use Rattle.tcmu_model.specs.MediumState.{MediumState}
use Rattle.tcmu_model.specs.Device.{Delayed, DeviceState, Device, opening}
use Rattle.tcmu_model.specs.Events.{submit_answer, after_submit, entered_or_full, enter_answer, after_enter, after_dispatch, after_handle, after_respond, after_publish, after_clean, after_tick, after_block, emptied, count_in_hand, after_reset, after_restart, tmr_length_of, with_note, after_tmr}
use Rattle.tcmu_model.specs.Steps.{HandlerRelation, Step, Run}
use Rattle.tcmu_model.specs.BlockLists.{Taken, list_of, with_taken, kept_lists, lists_after, HasLists, BlockRun}
use Rattle.tcmu_model.specs.Owned.{ListsSound}
use Rattle.tcmu_model.specs.Sound.{IsSound}
use Rattle.tcmu_model.proofs.KeptByEvents.{KeptByEvents, made, state_after, made_state}
use Rattle.tcmu_model.proofs.Laying.{serials_laid}
use Rattle.tcmu_model.proofs.LaidItems.{laid_with, LaidCase, laid_case, Old, Padding, New}
use Rattle.tcmu_model.proofs.AnsweredRoom.{room_answered}
use Rattle.tcmu_model.proofs.ListsLaid.{lists_submitted, lists_entered}
use Rattle.tcmu_model.proofs.ListsCleaned.{lists_cleaned}
use Rattle.tcmu_model.proofs.ListsKept.{lists_kept, lists_sound_opening, lists_emptied, none_kept}
use Rattle.tcmu_model.proofs.HoldersKept.{lists_delayed, lists_dispatched, lists_handled, lists_responded, lists_published, lists_ticked, lists_blocked, lists_restarted}
use Rattle.tcmu_model.proofs.Runs.{sound_step}
use Rattle.tcmu_model.proofs.SoundEvents.{sound_opening}

-- ==== a note is laid

abbrev pub note_item : ℕ → List ℕ → Item
note_item kind ss = record { len = tmr_length_of ss; laid = ring.Tmr kind ss }

pub lists_noted : (d : DeviceState) (lists : List Taken) (kind : ℕ) (ss : List ℕ) → ListsSound d lists → ListsSound (after_tmr d kind ss tmr.Noted) lists
unfolding after_tmr with_note
lists_noted d lists kind ss h =
    let it : Item = note_item kind ss in
    let e : serials_in (laid_with d.ring it) ≡ serials_in d.ring.laid = serials_laid d.ring it ∙ append-nil (serials_in d.ring.laid) in
    record {
      listed = subst (λ (xs : List ℕ). Every (λ (k : Taken). is_among xs k.serial ≡ true) lists) (sym e) h.listed;
      differ = h.differ;
      below = h.below;
      sizes = h.sizes;
      spans = λ i n s c cl g. by_case i n s c cl (laid_case d.ring it i (record { len = n; laid = ring.Cmd s c }) g);
    }
  where
    by_case : (i n s : ℕ) (c : CommandData) → d.ring.cleared ≤ i → LaidCase d.ring (note_item kind ss) i (record { len = n; laid = ring.Cmd s c }) → length (list_of lists s) ≡ blocks_of d.settings.pages c
    by_case i n s c cl (Old l g) = h.spans i n s c cl g
    by_case i n s c cl (Padding a b e) = absurd (false≢true (ap is_command (sym e)))
    by_case i n s c cl (New a e) = absurd (false≢true (ap is_command (sym e)))

-- ==== each event

-- the lists that an event keeps of those that are sound behind it
abbrev Kept : DeviceState → List Taken → Type 0
Kept after lists = ListsSound after (kept_lists after lists)

of_submit : (d : DeviceState) (lists : List Taken) (c : CommandData) (a : Submit) → IsSound d → ListsSound d lists → a ≡ submit_answer d c →
    ListsSound (after_submit d c a) (lists_after d lists (ev.Submit c) (ev.Submitted a) (after_submit d c a))
unfolding after_submit
of_submit d lists c (submit.Queued s) sound owned e = lists_submitted d lists s c sound owned (sym e)
of_submit d lists c (submit.Delayed s) sound owned e = lists_kept (after_submit d c (submit.Delayed s)) lists (lists_delayed d lists c s owned)
of_submit d lists c submit.Busy sound owned e = lists_kept d lists owned
of_submit d lists c (submit.TooBig have limit) sound owned e = lists_kept d lists owned
of_submit d lists c (submit.FullRing need free) sound owned e = lists_kept d lists owned
of_submit d lists c (submit.FullBlocks need free) sound owned e = lists_kept d lists owned

of_entered : (d : DeviceState) (lists : List Taken) (s : ℕ) (ws : List Delayed) → d.delayed ≡ ws → IsSound d → ListsSound d lists → enter.Entered s ≡ enter_answer d →
    ListsSound (after_enter d (enter.Entered s)) (elim ws as (λ x. List Taken) [ [] ↦ lists | w ∷ rest ↦ with_taken d lists s w.command ])
unfolding enter_answer
of_entered d lists s [] q sound owned e = let k : enter.Entered s ≡ enter.Empty = e ∙ ap (entered_or_full d) q in absurd (cc)
of_entered d lists s (w ∷ ws) q sound owned e =
    let same : s ≡ w.serial = (room_answered d w ws s sound q (sym e)).1 in
    subst (λ (k : ℕ). ListsSound (after_enter d (enter.Entered s)) (with_taken d lists k w.command)) (sym same) (lists_entered d lists w ws s sound owned q (sym e))

of_enter : (d : DeviceState) (lists : List Taken) (a : Enter) → IsSound d → ListsSound d lists → a ≡ enter_answer d →
    ListsSound (after_enter d a) (lists_after d lists ev.Enter (ev.Entered a) (after_enter d a))
unfolding after_enter
of_enter d lists (enter.Entered s) sound owned e = of_entered d lists s d.delayed refl sound owned e
of_enter d lists enter.Empty sound owned e = lists_kept d lists owned
of_enter d lists (enter.FullRing need free) sound owned e = lists_kept d lists owned
of_enter d lists (enter.FullBlocks need free) sound owned e = lists_kept d lists owned

of_reset : (d : DeviceState) (lists : List Taken) (level : ℕ) → ListsSound d lists → Kept (after_reset d level) lists
unfolding after_reset
of_reset d lists level owned = go (d.blocked && nat_eq (count_in_hand d) 0)
  where
    go : (b : Bool) → Kept (cond b (emptied (after_clean d) level) d) lists
    go true = subst (ListsSound (emptied (after_clean d) level)) (sym (none_kept (after_clean d) level lists)) (lists_emptied (after_clean d) level)
    go false = lists_kept d lists owned

of_tmr : (d : DeviceState) (lists : List Taken) (kind : ℕ) (ss : List ℕ) (a : TmrAnswer) → ListsSound d lists → Kept (after_tmr d kind ss a) lists
unfolding after_tmr
of_tmr d lists kind ss tmr.Noted owned = lists_kept (after_tmr d kind ss tmr.Noted) lists (lists_noted d lists kind ss owned)
of_tmr d lists kind ss tmr.Off owned = lists_kept d lists owned
of_tmr d lists kind ss tmr.Busy owned = lists_kept d lists owned
of_tmr d lists kind ss (tmr.Unknown s) owned = lists_kept d lists owned
of_tmr d lists kind ss (tmr.FullRing need free) owned = lists_kept d lists owned

each_event : (d : DeviceState) (lists : List Taken) → IsSound d → ListsSound d lists → KeptByEvents (λ e a after. ListsSound after (lists_after d lists e a after)) d
each_event d lists sound owned =
    record {
      submit = λ c a i e. of_submit d lists c a sound owned e;
      enter = λ a e. of_enter d lists a sound owned e;
      dispatch = λ a. lists_kept (after_dispatch d) lists (lists_dispatched d lists owned);
      replied = λ s u reply f w p. lists_kept (after_handle d s reply) lists (lists_handled d lists s reply owned);
      not_out = λ s t. lists_kept d lists owned;
      respond = λ s a. lists_kept (after_respond d s) lists (lists_responded d lists s owned);
      publish = λ a. lists_kept (after_publish d) lists (lists_published d lists owned);
      clean = λ n. lists_kept (after_clean d) lists (lists_cleaned d lists sound owned);
      tick = λ n count. lists_kept (after_tick d n) lists (lists_ticked d lists n owned);
      block = λ b. lists_kept (after_block d true) lists (lists_blocked d lists true owned);
      unblock = λ b. lists_kept (after_block d false) lists (lists_blocked d lists false owned);
      reset = λ level a e. of_reset d lists level owned;
      restart = λ n. lists_kept (after_restart d) lists (lists_restarted d lists owned);
      tmr = λ kind ss a e. of_tmr d lists kind ss a owned;
      stat = λ a. owned;
    }

-- ==== runs

pub lists_step : (R : HandlerRelation) (d d' : Device) (lists : List Taken) (e : EntryData) → IsSound d.state → ListsSound d.state lists → Step R d e d' → ListsSound d'.state (lists_after d.state lists e.event e.answer d'.state)
lists_step R d d' lists e sound owned s = made R (λ event answer after. ListsSound after (lists_after d.state lists event answer after)) d d' e.event e.answer (each_event d.state lists sound owned) s.makes

lists_run : (R : HandlerRelation) (d d' : Device) (lists lists' : List Taken) (es : List EntryData) → IsSound d.state → ListsSound d.state lists → BlockRun R d lists es d' lists' → ListsSound d'.state lists'
lists_run R d d' lists lists' [] sound owned r = subst (ListsSound d'.state) (sym r.1) (subst (λ (x : Device). ListsSound x.state lists) (sym r.0) owned)
lists_run R d d' lists lists' (e ∷ es) sound owned r = lists_run R r.0 d' _ lists' es (sound_step R d r.0 e sound r.1) (lists_step R d r.0 lists e sound owned r.1) r.2

-- from the opening on
pub opened_lists : (R : HandlerRelation) (s : SettingsData) (name : List ℕ) (medium : MediumState) (es : List EntryData) (d : Device) (lists : List Taken) → IsSettings s → BlockRun R (opening s name medium) [] es d lists → ListsSound d.state lists
opened_lists R s name medium es d lists g r = lists_run R (opening s name medium) d [] lists es (sound_opening s g) (lists_sound_opening s) r

pub has_lists : (R : HandlerRelation) (d d' : Device) (lists : List Taken) (es : List EntryData) → Run R d es d' → HasLists R d lists es d'
has_lists R d d' lists [] r = record { behind = lists; run = (r, refl) }
has_lists R d d' lists (e ∷ es) r =
    let k = has_lists R r.0 d' (lists_after d.state lists e.event e.answer r.0.state) es r.2 in
    record { behind = k.behind; run = (r.0, r.1, k.run) }

pub block_run : (R : HandlerRelation) (d d' : Device) (lists lists' : List Taken) (es : List EntryData) → BlockRun R d lists es d' lists' → Run R d es d'
block_run R d d' lists lists' [] r = r.0
block_run R d d' lists lists' (e ∷ es) r = (r.0, r.1, block_run R r.0 d' _ lists' es r.2)

pub lists_more : (R : HandlerRelation) (d m d' : Device) (lists lists' : List Taken) (es : List EntryData) (e : EntryData) → BlockRun R d lists es m lists' → Step R m e d' →
    BlockRun R d lists (es ++ e ∷ []) d' (lists_after m.state lists' e.event e.answer d'.state)
lists_more R d m d' lists lists' [] e r s =
    (d', subst (λ (x : Device). Step R x e d') r.0 s, (refl, ap (λ (x : Device). lists_after x.state lists' e.event e.answer d'.state) r.0 ∙ ap (λ (ls : List Taken). lists_after d.state ls e.event e.answer d'.state) r.1))
lists_more R d m d' lists lists' (x ∷ es) e r s = (r.0, r.1, lists_more R r.0 m d' _ lists' es e r.2 s)

-- the same entries from the same state
lists_told : (R Q : HandlerRelation) (c d c' d' : Device) (lists ls ms : List Taken) (es : List EntryData) → c.state ≡ d.state → BlockRun R c lists es c' ls → BlockRun Q d lists es d' ms → (c'.state ≡ d'.state) × (ls ≡ ms)
lists_told R Q c d c' d' lists ls ms [] e r q = (ap (λ (x : Device). x.state) r.0 ∙ e ∙ sym (ap (λ (x : Device). x.state) q.0), r.1 ∙ sym q.1)
lists_told R Q c d c' d' lists ls ms (x ∷ es) e r q =
    let mid : r.0.state ≡ q.0.state = made_state R c r.0 x.event x.answer r.1.makes ∙ ap (λ (z : DeviceState). state_after z x.event x.answer) e ∙ sym (made_state Q d q.0 x.event x.answer q.1.makes) in
    let same : lists_after c.state lists x.event x.answer r.0.state ≡ lists_after d.state lists x.event x.answer q.0.state =
    ap (λ (z : DeviceState). lists_after z lists x.event x.answer r.0.state) e ∙ ap (λ (z : DeviceState). lists_after d.state lists x.event x.answer z) mid in
    lists_told R Q r.0 q.0 c' d' _ ls ms es mid (subst (λ (zs : List Taken). BlockRun R r.0 zs es c' ls) same r.2) q.2

pub lists_alone : (R Q : HandlerRelation) (s : SettingsData) (name name' : List ℕ) (medium medium' : MediumState) (es : List EntryData) (d d' : Device) (lists lists' : List Taken) →
    BlockRun R (opening s name medium) [] es d lists → BlockRun Q (opening s name' medium') [] es d' lists' → (d.state ≡ d'.state) × (lists ≡ lists')
lists_alone R Q s name name' medium medium' es d d' lists lists' r q = lists_told R Q (opening s name medium) (opening s name' medium') d d' [] lists lists' es refl r q
