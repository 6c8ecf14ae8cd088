-- Where one relation of a handler settles another over some media, every event has one outcome, so the same lines print the same, and have one
-- text.
use Rattle.std.proofs.Common.{◌≡◌, ℕ, ◌+◌, ◌<◌, List, [], ◌∷◌, ◌++◌, length, slice_get, slice_set, Some, None, refl, sym, ap, ◌∙◌, subst, arith}
use Rattle.std.specs.List.{filter, flat_map}
use Rattle.tcmu_types.specs.Data.{ReplyData}
use Rattle.tcmu_types.specs.Dumps.{DumpData}
use Rattle.tcmu_types.specs.Events.{EventData, AnswerData, EntryData}
use Rattle.tcmu_types.specs.Events as ev
use Rattle.tcmu_types.specs.declared.answer.Handle.{Handle}
use Rattle.tcmu_types.specs.declared.answer.Handle.TheVariants as handle
use Rattle.tcmu_types.specs.Lists.{Every}
use Rattle.tcmu_types.proofs.Everies.{every_at}
use Rattle.tcmu_types.proofs.Places.{get_within}
use Rattle.tcmu_types.proofs.Readings.{same_some}
use Rattle.tcmu_model.specs.BlockLists.{Taken, lists_after}
use Rattle.tcmu_model.specs.MediumState.{MediumState}
use Rattle.tcmu_model.specs.Device.{Unfinished, DeviceState, Device}
use Rattle.tcmu_model.specs.Events.{after_submit, after_enter, after_handle, after_tmr}
use Rattle.tcmu_model.specs.Steps.{HandlerRelation, Asked, Step, Makes, Handles, asked, moved}
use Rattle.tcmu_model.specs.Drain.{Drains}
use Rattle.scsi_model.specs.Scsi.{Serves}
use Rattle.scsi_model.specs.ReadsLost.{ServesKnown}
use Rattle.text_model.specs.Journals.{Journaled, entries_of}
use Rattle.text_model.specs.Printed.{Printed, AnEntry, ADump, OutsideLine, is_about, printed_text, Picture, RunPrints}
use Rattle.text_model.specs.Replay.{LineRelation, Plays, Prints}
use Rattle.text_model.specs.ScenarioData.{LineWhat, LineData, DeviceLineData}
use Rattle.text_model.specs.ScenarioData as line
use Rattle.text_model.specs.Several.{DrainsEach, ReplaysEach, IsReplayOf, ends_text}
use Rattle.text_model.specs.Text.{device_text}
use Rattle.text_model.proofs.PrintedJournals.{undumped}
use Rattle.block_engine.specs.Determined.{IsTold, LosesNothing}
use Rattle.block_engine.proofs.Known.{one_known_reply}
use Rattle.block_engine.proofs.Settling.{one_reply_without_loss}
use Rattle.text_laws.specs.Settled.{IsSameReplay, OneKnownText}
use Rattle.text_laws.proofs.Apart.{behind_same}
use Rattle.text_laws.proofs.Matching.{AllMatch, match_as, match_append, match_undumped, match_filter, rejoined, replays_count, replays_within}
use Rattle.text_laws.proofs.SameEntries.{entry_same, journaled_same}
use Rattle.text_laws.proofs.Sets.{every_set}

-- ==== what settles

-- Over these media what the one relation allows of a request is all that the other allows, and it leaves such a medium.
pub record IsSettling (P : MediumState → Type 0) (R S : HandlerRelation) : Type 0 where
  pub one : (name : List ℕ) (m : MediumState) (r : Asked) (p q : ReplyData) (a b : MediumState) → P m → R name m r p a → S name m r q b → (p ≡ q) × (a ≡ b) × P a

without_loss : IsSettling LosesNothing Serves Serves
without_loss = record { one = λ name m r p q a b l x y. one_reply_without_loss name m r p q a b l x y }

known : IsSettling IsTold ServesKnown Serves
known = record { one = λ name m r p q a b t x y. one_known_reply name m r p q a b t x y }

-- devices that are the same, with such a medium
abbrev pub EndSame : (MediumState → Type 0) → Device → Device → Type 0
EndSame P d1 d2 = (d1 ≡ d2) × P d2.medium

-- ==== one event

moved_same : (P : MediumState → Type 0) (d d1 d2 : Device) (s t : DeviceState) → P d.medium → d1 ≡ moved d s → d2 ≡ moved d t → s ≡ t → EndSame P d1 d2
moved_same P d d1 d2 s t m h k e = (h ∙ ap (moved d) e ∙ sym k, subst (λ (x : Device). P x.medium) (sym k) m)

stays_same : (P : MediumState → Type 0) (d d1 d2 : Device) → P d.medium → d1 ≡ d → d2 ≡ d → EndSame P d1 d2
stays_same P d d1 d2 m h k = (h ∙ sym k, subst (λ (x : Device). P x.medium) (sym k) m)

one_handle : (P : MediumState → Type 0) (R S : HandlerRelation) → IsSettling P R S → (d d1 d2 : Device) (s : ℕ) (a b : Handle) → P d.medium → Handles R d s a d1 → Handles S d s b d2 → (a ≡ b) × EndSame P d1 d2
one_handle P R S z d d1 d2 s (handle.NotOut t) (handle.NotOut u) m h k = (ap handle.NotOut (h.0 ∙ sym k.0), stays_same P d d1 d2 m h.2 k.2)
one_handle P R S z d d1 d2 s (handle.NotOut t) (handle.Done reply) m h k = absurd (no_such k.0 (sym k.1.found ∙ h.1))
  where
    no_such : (u : Unfinished) → Some u ≡ None → ⊥
    no_such u x = cc
one_handle P R S z d d1 d2 s (handle.Done reply) (handle.NotOut t) m h k = absurd (no_such h.0 (sym h.1.found ∙ k.1))
  where
    no_such : (u : Unfinished) → Some u ≡ None → ⊥
    no_such u x = cc
one_handle P R S z d d1 d2 s (handle.Done p) (handle.Done q) m h k =
    let same : h.0 ≡ k.0 = some_same h.0 k.0 (sym h.1.found ∙ k.1.found) in
    let relation : R d.name d.medium (asked k.0.command) p d1.medium = subst (λ (u : Unfinished). R d.name d.medium (asked u.command) p d1.medium) same h.1.relation in
    let one = z.one d.name d.medium (asked k.0.command) p q d1.medium d2.medium m relation k.1.relation in
    let state_is : d1.state ≡ d2.state = h.1.state ∙ ap (after_handle d.state s) one.0 ∙ sym k.1.state in (
      ap handle.Done one.0,
      (
        ap (λ (n : List ℕ). record { name = n; medium = d1.medium; state = d1.state }) (h.1.name ∙ sym k.1.name)
            ∙ ap (λ (x : MediumState). record { name = d2.name; medium = x; state = d1.state }) one.1
            ∙ ap (λ (x : DeviceState). record { name = d2.name; medium = d2.medium; state = x }) state_is,
        subst P one.1 one.2,
      ),
    )
  where
    some_same : (v u : Unfinished) → Some v ≡ Some u → v ≡ u
    some_same v u x = cc

one_event : (P : MediumState → Type 0) (R S : HandlerRelation) → IsSettling P R S → (d d1 d2 : Device) (e : EventData) (a b : AnswerData) → P d.medium → Makes R d e a d1 → Makes S d e b d2 → (a ≡ b) × EndSame P d1 d2
one_event P R S z d d1 d2 (ev.Submit c) (ev.Submitted a) (ev.Submitted b) m h k =
    let same = h.answer ∙ sym k.answer in (ap ev.Submitted same, moved_same P d d1 d2 _ _ m h.after k.after (ap (after_submit d.state c) same))
one_event P R S z d d1 d2 ev.Dispatch (ev.Dispatched a) (ev.Dispatched b) m h k = (ap ev.Dispatched (h.answer ∙ sym k.answer), moved_same P d d1 d2 _ _ m h.after k.after refl)
one_event P R S z d d1 d2 (ev.Handle s) (ev.Answered a) (ev.Answered b) m h k = let x = one_handle P R S z d d1 d2 s a b m h k in (ap ev.Answered x.0, x.1)
one_event P R S z d d1 d2 (ev.Respond s) (ev.Responded a) (ev.Responded b) m h k = (ap ev.Responded (h.answer ∙ sym k.answer), moved_same P d d1 d2 _ _ m h.after k.after refl)
one_event P R S z d d1 d2 ev.Publish (ev.Published a) (ev.Published b) m h k = (ap ev.Published (h.answer ∙ sym k.answer), moved_same P d d1 d2 _ _ m h.after k.after refl)
one_event P R S z d d1 d2 ev.Clean (ev.Logged a) (ev.Logged b) m h k = (ap ev.Logged (h.answer ∙ sym k.answer), moved_same P d d1 d2 _ _ m h.after k.after refl)
one_event P R S z d d1 d2 (ev.Tick n) (ev.Logged a) (ev.Logged b) m h k = (ap ev.Logged (h.answer ∙ sym k.answer), moved_same P d d1 d2 _ _ m h.after k.after refl)
one_event P R S z d d1 d2 ev.Block (ev.Changed a) (ev.Changed b) m h k = (ap ev.Changed (h.answer ∙ sym k.answer), moved_same P d d1 d2 _ _ m h.after k.after refl)
one_event P R S z d d1 d2 ev.Unblock (ev.Changed a) (ev.Changed b) m h k = (ap ev.Changed (h.answer ∙ sym k.answer), moved_same P d d1 d2 _ _ m h.after k.after refl)
one_event P R S z d d1 d2 (ev.Reset level) (ev.WasReset a) (ev.WasReset b) m h k = (ap ev.WasReset (h.answer ∙ sym k.answer), moved_same P d d1 d2 _ _ m h.after k.after refl)
one_event P R S z d d1 d2 ev.Restart (ev.Lost a) (ev.Lost b) m h k = (ap ev.Lost (h.answer ∙ sym k.answer), moved_same P d d1 d2 _ _ m h.after k.after refl)
one_event P R S z d d1 d2 (ev.Tmr kind ss) (ev.Noted a) (ev.Noted b) m h k =
    let same = h.answer ∙ sym k.answer in (ap ev.Noted same, moved_same P d d1 d2 _ _ m h.after k.after (ap (after_tmr d.state kind ss) same))
one_event P R S z d d1 d2 ev.Stat (ev.Told a) (ev.Told b) m h k = (ap ev.Told (h.answer ∙ sym k.answer), stays_same P d d1 d2 m h.after k.after)
one_event P R S z d d1 d2 ev.Enter (ev.Entered a) (ev.Entered b) m h k =
    let same = h.answer ∙ sym k.answer in (ap ev.Entered same, moved_same P d d1 d2 _ _ m h.after k.after (ap (after_enter d.state) same))
one_event P R S z d d1 d2 (ev.Submit c) (ev.Submitted a) _ m h k = absurd k
one_event P R S z d d1 d2 ev.Dispatch (ev.Dispatched a) _ m h k = absurd k
one_event P R S z d d1 d2 (ev.Handle s) (ev.Answered a) _ m h k = absurd k
one_event P R S z d d1 d2 (ev.Respond s) (ev.Responded a) _ m h k = absurd k
one_event P R S z d d1 d2 ev.Publish (ev.Published a) _ m h k = absurd k
one_event P R S z d d1 d2 ev.Clean (ev.Logged a) _ m h k = absurd k
one_event P R S z d d1 d2 (ev.Tick n) (ev.Logged a) _ m h k = absurd k
one_event P R S z d d1 d2 ev.Block (ev.Changed a) _ m h k = absurd k
one_event P R S z d d1 d2 ev.Unblock (ev.Changed a) _ m h k = absurd k
one_event P R S z d d1 d2 (ev.Reset level) (ev.WasReset a) _ m h k = absurd k
one_event P R S z d d1 d2 ev.Restart (ev.Lost a) _ m h k = absurd k
one_event P R S z d d1 d2 (ev.Tmr kind ss) (ev.Noted a) _ m h k = absurd k
one_event P R S z d d1 d2 ev.Stat (ev.Told a) _ m h k = absurd k
one_event P R S z d d1 d2 ev.Enter (ev.Entered a) _ m h k = absurd k
one_event P R S z d d1 d2 _ _ _ m h k = absurd h

-- ==== entries

one_step : (P : MediumState → Type 0) (R S : HandlerRelation) → IsSettling P R S → (d : Device) (e f : EntryData) (d1 d2 : Device) → P d.medium → e.device ≡ f.device → e.event ≡ f.event → Step R d e d1 → Step S d f d2
    → (e ≡ f) × EndSame P d1 d2
one_step P R S z d e f d1 d2 m p q s t =
    let made = subst (λ (x : EventData). Makes R d x e.answer d1) q s.makes in
    let same = one_event P R S z d d1 d2 f.event e.answer f.answer m made t.makes in
    let logged_is : e.logged ≡ f.logged = omega (arith, s.logged, t.logged, ap (λ (x : Device). length x.state.log) same.1.0) in
    (entry_same e f p q same.0 logged_is, same.1)

-- ==== drains and lines

some≢none : (e : EventData) → Some e ≡ None → ⊥
some≢none e x = cc

one_drain : (P : MediumState → Type 0) (R S : HandlerRelation) → IsSettling P R S → (at : ℕ) (d : Device) (es fs : List EntryData) (d1 d2 : Device) → P d.medium → Drains R at d es d1 → Drains S at d fs d2
    → (es ≡ fs) × EndSame P d1 d2
one_drain P R S z at d [] [] d1 d2 m h k = (refl, stays_same P d d1 d2 m h.1 k.1)
one_drain P R S z at d [] (f ∷ fs) d1 d2 m h k = absurd (some≢none f.event (sym k.1 ∙ h.0))
one_drain P R S z at d (e ∷ es) [] d1 d2 m h k = absurd (some≢none e.event (sym h.1 ∙ k.0))
one_drain P R S z at d (e ∷ es) (f ∷ fs) d1 d2 m h k =
    let same = one_step P R S z d e f h.2 k.2 m (h.0 ∙ sym k.0) (same_some e.event f.event (sym h.1 ∙ k.1)) h.3 k.3 in
    let rest = one_drain P R S z at k.2 es fs d1 d2 same.1.1 (subst (λ (x : Device). Drains R at x es d1) same.1.0 h.4) k.4 in
    (ap (λ (x : EntryData). x ∷ es) same.0 ∙ ap (λ (x : List EntryData). f ∷ x) rest.0, rest.1)

one_play : (P : MediumState → Type 0) (R S : HandlerRelation) → IsSettling P R S → (at : ℕ) (d : Device) (what : LineWhat) (es fs : List EntryData) (d1 d2 : Device) → P d.medium → Plays R at d what es d1 → Plays S at d what fs d2
    → (es ≡ fs) × EndSame P d1 d2
one_play P R S z at d (line.EventLine event) es fs d1 d2 m h k =
    let same = one_step P R S z d h.0 k.0 d1 d2 m (h.1 ∙ sym k.1) (h.2 ∙ sym k.2) h.3 k.3 in
    (h.4 ∙ ap (λ (x : EntryData). x ∷ []) same.0 ∙ sym k.4, same.1)
one_play P R S z at d line.DrainLine es fs d1 d2 m h k = one_drain P R S z at d es fs d1 d2 m h k
one_play P R S z at d line.DumpLine es fs d1 d2 m h k = (h.0 ∙ sym k.0, stays_same P d d1 d2 m h.1 k.1)

one_print : (P : MediumState → Type 0) (R S : HandlerRelation) → IsSettling P R S → (at : ℕ) (d : Device) (what : LineWhat) (ps qs : List Printed) (d1 d2 : Device) → P d.medium → Prints R at d what ps d1 → Prints S at d what qs d2
    → AllMatch ps qs × EndSame P d1 d2
one_print P R S z at d (line.EventLine event) ps qs d1 d2 m h k =
    let one = one_play P R S z at d (line.EventLine event) (entries_of h.journal) (entries_of k.journal) d1 d2 m h.plays k.plays in
    (match_as ps qs (undumped h.journal) (undumped k.journal) h.are k.are (match_undumped h.journal k.journal one.0), one.1)
one_print P R S z at d line.DrainLine ps qs d1 d2 m h k =
    let one = one_play P R S z at d line.DrainLine (entries_of h.journal) (entries_of k.journal) d1 d2 m h.plays k.plays in
    (match_as ps qs (undumped h.journal) (undumped k.journal) h.are k.are (match_undumped h.journal k.journal one.0), one.1)
one_print P R S z at d line.DumpLine ps qs d1 d2 m h k =
    (match_as ps qs (ADump at h.dump ∷ []) (ADump at k.dump ∷ []) h.is k.is (refl, tt), stays_same P d d1 d2 m h.same k.same)

-- ==== replays

-- the media of these devices are such
abbrev AllOver : (MediumState → Type 0) → List Device → Type 0
AllOver P ds = Every (λ d. P d.medium) ds

-- what comes of one line is alike, and leads to one end
abbrev IsSettled : {X : Type 0} → (MediumState → Type 0) → LineRelation X → LineRelation X → (List X → List X → Type 0) → Type 0
IsSettled {X} P comes goes Alike = (at : ℕ) (d : Device) (what : LineWhat) (xs ys : List X) (d1 d2 : Device) → P d.medium → comes at d what xs d1 → goes at d what ys d2 → Alike xs ys × EndSame P d1 d2

-- lists that are alike where their parts are
record IsAlikeness {X : Type 0} (Alike : List X → List X → Type 0) : Type 0 where
  none : (xs ys : List X) → xs ≡ [] → ys ≡ [] → Alike xs ys
  both : (xs ys a b c d : List X) → xs ≡ a ++ b → ys ≡ c ++ d → Alike a c → Alike b d → Alike xs ys

-- ends that are the same, with such media
abbrev EndsSame : (MediumState → Type 0) → List Device → List Device → Type 0
EndsSame P ends lasts = (ends ≡ lasts) × AllOver P lasts

one_end : {X : Type 0} (P : MediumState → Type 0) (comes goes : LineRelation X) (Alike : List X → List X → Type 0) → IsSettled P comes goes Alike → IsAlikeness Alike
    → (at : ℕ) (ds : List Device) (xs ys : List X) (ends lasts : List Device) → AllOver P ds → DrainsEach comes at ds xs ends → DrainsEach goes at ds ys lasts → Alike xs ys × EndsSame P ends lasts
one_end P comes goes Alike one alike at [] xs ys ends lasts m h k = (alike.none xs ys h.0 k.0, (h.1 ∙ sym k.1, subst (λ (x : List Device). AllOver P x) (sym k.1) tt))
one_end P comes goes Alike one alike at (d ∷ ds) xs ys ends lasts m h k =
    let first = one at d line.DrainLine h.0 k.0 h.2 k.2 m.0 h.6 k.6 in
    let rest = one_end P comes goes Alike one alike (at + 1) ds h.1 k.1 h.3 k.3 m.1 h.7 k.7 in (
      alike.both xs ys h.0 h.1 k.0 k.1 h.4 k.4 first.0 rest.0,
      (
        h.5 ∙ ap (λ (x : Device). x ∷ h.3) first.1.0 ∙ ap (λ (x : List Device). k.2 ∷ x) rest.1.0 ∙ sym k.5,
        subst (λ (x : List Device). AllOver P x) (sym k.5) (first.1.1, rest.1.1),
      ),
    )

one_each : {X : Type 0} (P : MediumState → Type 0) (comes goes : LineRelation X) (Alike : List X → List X → Type 0) → IsSettled P comes goes Alike → IsAlikeness Alike
    → (ds : List Device) (ls : List LineData) (xs ys : List X) (ends lasts : List Device) → AllOver P ds → ReplaysEach comes ds ls xs ends → ReplaysEach goes ds ls ys lasts → Alike xs ys × EndsSame P ends lasts
one_each P comes goes Alike one alike ds [] xs ys ends lasts m h k = one_end P comes goes Alike one alike 0 ds xs ys ends lasts m h k
one_each {X} P comes goes Alike one alike ds (l ∷ ls) xs ys ends lasts m h k =
    let d = k.2 in
    let from : h.2 ≡ d = same_some h.2 d (sym h.5 ∙ k.5) in
    let plays = subst (λ (x : Device). comes l.device x l.what h.0 h.3) from h.6 in
    let first = one l.device d l.what h.0 k.0 h.3 k.3 (every_at (λ x. P x.medium) ds l.device d m k.5) plays k.6 in
    let later = subst (λ (x : Device). ReplaysEach comes (slice_set ds l.device x) ls h.1 ends) first.1.0 h.7 in
    let rest = one_each P comes goes Alike one alike (slice_set ds l.device k.3) ls h.1 k.1 ends lasts (every_set (λ x. P x.medium) ds l.device k.3 m first.1.1) later k.7 in
    (alike.both xs ys h.0 h.1 k.0 k.1 h.4 k.4 first.0 rest.0, rest.1)

joined : (xs ys a b c d : List EntryData) → xs ≡ a ++ b → ys ≡ c ++ d → a ≡ c → b ≡ d → xs ≡ ys
joined xs ys a b c d e f p q = e ∙ ap (λ (x : List EntryData). x ++ b) p ∙ ap (λ (x : List EntryData). c ++ x) q ∙ sym f

abbrev pub LoseNothing : List Device → Type 0
LoseNothing ds = Every (λ d. LosesNothing d.medium) ds

-- the same lines make the same entries, and lead to the same ends
pub one_replay : (ds : List Device) (ls : List LineData) (es fs : List EntryData) (ends lasts : List Device) → LoseNothing ds → ReplaysEach (Plays Serves) ds ls es ends → ReplaysEach (Plays Serves) ds ls fs lasts
    → (es ≡ fs) × (ends ≡ lasts) × LoseNothing lasts
one_replay ds ls es fs ends lasts m h k =
    let Alike : List EntryData → List EntryData → Type 0 = λ xs ys. xs ≡ ys in
    let all = one_each LosesNothing (Plays Serves) (Plays Serves) Alike (one_play LosesNothing Serves Serves without_loss) (record { none = λ xs ys e f. e ∙ sym f; both = joined }) ds ls es fs ends lasts m h k in
    (all.0, all.1.0, all.1.1)

match_both : (xs ys a b c d : List Printed) → xs ≡ a ++ b → ys ≡ c ++ d → AllMatch a c → AllMatch b d → AllMatch xs ys
match_both xs ys a b c d e f h k = match_as xs ys (a ++ b) (c ++ d) e f (match_append a c b d h k)

all_match : (P : MediumState → Type 0) (R S : HandlerRelation) → IsSettling P R S → (ds : List Device) (ls : List LineData) (ps qs : List Printed) (ends lasts : List Device) → AllOver P ds
    → ReplaysEach (Prints R) ds ls ps ends → ReplaysEach (Prints S) ds ls qs lasts → AllMatch ps qs × EndsSame P ends lasts
all_match P R S z ds ls ps qs ends lasts m h k =
    one_each P (Prints R) (Prints S) AllMatch (one_print P R S z) (record { none = λ xs ys e f. match_as xs ys [] [] e f tt; both = match_both }) ds ls ps qs ends lasts m h k

-- ==== what a device prints

same_run : (P : MediumState → Type 0) (R S : HandlerRelation) → IsSettling P R S → (picture : Picture) (d d1 d2 : Device) (lists l1 l2 : List Taken) (ps qs : List Printed) → P d.medium → AllMatch ps qs
    → RunPrints R picture d lists ps d1 l1 → RunPrints S picture d lists qs d2 l2 → ps ≡ qs
same_run P R S z picture d d1 d2 lists l1 l2 [] [] m a h k = refl
same_run P R S z picture d d1 d2 lists l1 l2 [] (q ∷ qs) m a h k = absurd a
same_run P R S z picture d d1 d2 lists l1 l2 (p ∷ ps) [] m a h k = absurd a
same_run P R S z picture d d1 d2 lists l1 l2 (AnEntry j ∷ ps) (AnEntry f ∷ qs) m a h k =
    let e = a.0 in
    let step = subst (λ (x : EntryData). Step R d x h.0) e h.1 in
    let one = one_step P R S z d f.entry f.entry h.0 k.0 m refl refl step k.1 in
    let logs : d.state.log ++ j.completions ≡ d.state.log ++ f.completions = sym h.2 ∙ ap (λ (x : Device). x.state.log) one.1.0 ∙ k.2 in
    let same : j ≡ f = journaled_same j f e (behind_same d.state.log j.completions f.completions logs) in
    let after : List Taken = lists_after d.state lists f.entry.event f.entry.answer k.0.state in
    let goes : RunPrints R picture k.0 after ps d1 l1 =
    subst (λ (x : Device). RunPrints R picture x (lists_after d.state lists f.entry.event f.entry.answer x.state) ps d1 l1) one.1.0
    (subst (λ (x : EntryData). RunPrints R picture h.0 (lists_after d.state lists x.event x.answer h.0.state) ps d1 l1) e h.3) in
    let rest = same_run P R S z picture k.0 d1 d2 after l1 l2 ps qs one.1.1 a.1 goes k.3 in
    ap (λ (x : Journaled). AnEntry x ∷ ps) same ∙ ap (λ (xs : List Printed). AnEntry f ∷ xs) rest
same_run P R S z picture d d1 d2 lists l1 l2 (ADump at x ∷ ps) (ADump to y ∷ qs) m a h k =
    ap (λ (n : ℕ). ADump n x ∷ ps) a.0 ∙ ap (λ (w : DumpData). ADump to w ∷ ps) (h.0 ∙ sym k.0) ∙ ap (λ (xs : List Printed). ADump to y ∷ xs) (same_run P R S z picture d d1 d2 lists l1 l2 ps qs m a.1 h.1 k.1)
same_run P R S z picture d d1 d2 lists l1 l2 (OutsideLine at t ∷ ps) (OutsideLine to u ∷ qs) m a h k =
    ap (λ (n : ℕ). OutsideLine n t ∷ ps) a.0.0 ∙ ap (λ (w : List ℕ). OutsideLine to w ∷ ps) a.0.1 ∙ ap (λ (xs : List Printed). OutsideLine to u ∷ xs) (same_run P R S z picture d d1 d2 lists l1 l2 ps qs m a.1 h k)
same_run P R S z picture d d1 d2 lists l1 l2 (AnEntry j ∷ ps) (ADump to y ∷ qs) m a h k = absurd a.0
same_run P R S z picture d d1 d2 lists l1 l2 (AnEntry j ∷ ps) (OutsideLine to u ∷ qs) m a h k = absurd a.0
same_run P R S z picture d d1 d2 lists l1 l2 (ADump at x ∷ ps) (AnEntry f ∷ qs) m a h k = absurd a.0
same_run P R S z picture d d1 d2 lists l1 l2 (ADump at x ∷ ps) (OutsideLine to u ∷ qs) m a h k = absurd a.0
same_run P R S z picture d d1 d2 lists l1 l2 (OutsideLine at t ∷ ps) (AnEntry f ∷ qs) m a h k = absurd a.0
same_run P R S z picture d d1 d2 lists l1 l2 (OutsideLine at t ∷ ps) (ADump to y ∷ qs) m a h k = absurd a.0

same_replay : (P : MediumState → Type 0) (R S : HandlerRelation) → IsSettling P R S → (picture : Picture) (ls : List DeviceLineData) (lines : List LineData) (opened : List Device) (t u : List ℕ) → AllOver P opened
    → (is : IsReplayOf R picture ls opened lines t) → (it : IsReplayOf S picture ls opened lines u) → IsSameReplay R S picture ls opened lines t u is it
same_replay P R S z picture ls lines opened t u over h k =
    let all = all_match P R S z opened lines h.printed k.printed h.ends k.ends over h.replays k.replays in
    let count = replays_count (Prints R) opened h.ends lines h.printed h.replays in
    let own : (at : ℕ) → at < length opened → filter (is_about at) h.printed ≡ filter (is_about at) k.printed =
    λ at lt.
    let d = get_within opened at lt in
    let last = get_within h.ends at (omega (arith, lt, count)) in
    let one = h.legal at d.0 last.0 d.1 last.1 in
    let other = k.legal at d.0 last.0 d.1 (ap (λ (x : List Device). slice_get x at) (sym all.1.0) ∙ last.1) in
    same_run P R S z picture d.0 last.0 last.0 [] one.lists other.lists (filter (is_about at) h.printed) (filter (is_about at) k.printed) (every_at (λ x. P x.medium) opened at d.0 over d.1)
    (match_filter at h.printed k.printed all.0) one.run other.run in
    let printed = rejoined (length opened) h.printed k.printed all.0 (replays_within R opened h.ends lines h.printed h.replays) own in
    record {
      printed = printed;
      ends = all.1.0;
      text = h.whole ∙ ap (λ (ps : List Printed). flat_map device_text ls ++ flat_map (printed_text ls) ps ++ ends_text ls h.ends) printed
          ∙ ap (λ (ds : List Device). flat_map device_text ls ++ flat_map (printed_text ls) k.printed ++ ends_text ls ds) all.1.0 ∙ sym k.whole;
    }

-- over media that lose nothing the same lines have one text
pub one_text : (picture : Picture) (ls : List DeviceLineData) (lines : List LineData) (opened : List Device) (t u : List ℕ) → LoseNothing opened
    → (is : IsReplayOf Serves picture ls opened lines t) → (it : IsReplayOf Serves picture ls opened lines u) → IsSameReplay Serves Serves picture ls opened lines t u is it
one_text picture ls lines opened t u lose h k = same_replay LosesNothing Serves Serves without_loss picture ls lines opened t u lose h k

pub one_known_text : OneKnownText
one_known_text picture ls lines opened t u told h k = same_replay IsTold ServesKnown Serves known picture ls lines opened t u told h k
