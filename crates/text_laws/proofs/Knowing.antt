-- Over media where whatever one relation of a handler allows of a request another allows too, the replays of the one are replays of the other.
use Rattle.std.proofs.Common.{◌≡◌, ℕ, ◌+◌, List, [], ◌∷◌, slice_set, sym, subst}
use Rattle.std.specs.List.{filter}
use Rattle.tcmu_types.specs.Data.{ReplyData}
use Rattle.tcmu_types.specs.Events.{EventData, AnswerData, EntryData}
use Rattle.tcmu_types.specs.Events as ev
use Rattle.tcmu_types.specs.declared.answer.Handle.{Handle}
use Rattle.tcmu_types.specs.declared.answer.Handle.TheVariants as handle
use Rattle.tcmu_types.specs.Lists.{Every}
use Rattle.tcmu_types.proofs.Everies.{every_at}
use Rattle.tcmu_model.specs.BlockLists.{Taken, lists_after}
use Rattle.tcmu_model.specs.MediumState.{MediumState}
use Rattle.tcmu_model.specs.Device.{DeviceState, Device}
use Rattle.tcmu_model.specs.Steps.{HandlerRelation, Asked, Step, Makes, Handles, asked, moved}
use Rattle.tcmu_model.specs.Drain.{Drains}
use Rattle.scsi_model.specs.Scsi.{Serves}
use Rattle.scsi_model.specs.ReadsLost.{ServesKnown}
use Rattle.text_model.specs.Journals.{entries_of}
use Rattle.text_model.specs.Printed.{Printed, AnEntry, ADump, OutsideLine, is_about, Picture, RunPrints}
use Rattle.text_model.specs.Replay.{LineRelation, Plays, Prints}
use Rattle.text_model.specs.ScenarioData.{LineWhat, LineData, DeviceLineData}
use Rattle.text_model.specs.ScenarioData as line
use Rattle.text_model.specs.Several.{DrainsEach, ReplaysEach, IsReplayOf}
use Rattle.block_engine.specs.Determined.{LosesNothing}
use Rattle.block_engine.proofs.Known.{knows_without_loss}
use Rattle.text_laws.specs.Settled.{KnownWithoutLoss}
use Rattle.text_laws.proofs.Sets.{every_set}

-- Over these media the second relation allows of a request whatever the first allows, and it leaves such a medium.
record IsServing (P : MediumState → Type 0) (R S : HandlerRelation) : Type 0 where
  one : (name : List ℕ) (m : MediumState) (r : Asked) (p : ReplyData) (a : MediumState) → P m → R name m r p a → S name m r p a × P a

without_loss : IsServing LosesNothing Serves ServesKnown
without_loss = record { one = λ name m r p a l x. knows_without_loss name m r p a l x }

-- ==== one event

moved_over : (P : MediumState → Type 0) (d d' : Device) (s : DeviceState) → P d.medium → d' ≡ moved d s → P d'.medium
moved_over P d d' s m e = subst (λ (x : Device). P x.medium) (sym e) m

stays_over : (P : MediumState → Type 0) (d d' : Device) → P d.medium → d' ≡ d → P d'.medium
stays_over P d d' m e = subst (λ (x : Device). P x.medium) (sym e) m

handle_as : (P : MediumState → Type 0) (R S : HandlerRelation) → IsServing P R S → (d d' : Device) (s : ℕ) (a : Handle) → P d.medium → Handles R d s a d' → Handles S d s a d' × P d'.medium
handle_as P R S z d d' s (handle.NotOut t) m h = (h, stays_over P d d' m h.2)
handle_as P R S z d d' s (handle.Done reply) m h =
    let x = z.one d.name d.medium (asked h.0.command) reply d'.medium m h.1.relation in
    ((h.0, record { found = h.1.found; relation = x.0; whole = h.1.whole; payload = h.1.payload; name = h.1.name; state = h.1.state }), x.1)

event_as : (P : MediumState → Type 0) (R S : HandlerRelation) → IsServing P R S → (d d' : Device) (e : EventData) (a : AnswerData) → P d.medium → Makes R d e a d' → Makes S d e a d' × P d'.medium
event_as P R S z d d' (ev.Submit c) (ev.Submitted a) m h = (h, moved_over P d d' _ m h.after)
event_as P R S z d d' ev.Dispatch (ev.Dispatched a) m h = (h, moved_over P d d' _ m h.after)
event_as P R S z d d' (ev.Handle s) (ev.Answered a) m h = handle_as P R S z d d' s a m h
event_as P R S z d d' (ev.Respond s) (ev.Responded a) m h = (h, moved_over P d d' _ m h.after)
event_as P R S z d d' ev.Publish (ev.Published a) m h = (h, moved_over P d d' _ m h.after)
event_as P R S z d d' ev.Clean (ev.Logged n) m h = (h, moved_over P d d' _ m h.after)
event_as P R S z d d' (ev.Tick n) (ev.Logged count) m h = (h, moved_over P d d' _ m h.after)
event_as P R S z d d' ev.Block (ev.Changed b) m h = (h, moved_over P d d' _ m h.after)
event_as P R S z d d' ev.Unblock (ev.Changed b) m h = (h, moved_over P d d' _ m h.after)
event_as P R S z d d' (ev.Reset level) (ev.WasReset a) m h = (h, moved_over P d d' _ m h.after)
event_as P R S z d d' ev.Restart (ev.Lost n) m h = (h, moved_over P d d' _ m h.after)
event_as P R S z d d' (ev.Tmr kind ss) (ev.Noted a) m h = (h, moved_over P d d' _ m h.after)
event_as P R S z d d' ev.Stat (ev.Told a) m h = (h, stays_over P d d' m h.after)
event_as P R S z d d' ev.Enter (ev.Entered a) m h = (h, moved_over P d d' _ m h.after)
event_as P R S z d d' _ _ m h = absurd h

step_as : (P : MediumState → Type 0) (R S : HandlerRelation) → IsServing P R S → (d d' : Device) (e : EntryData) → P d.medium → Step R d e d' → Step S d e d' × P d'.medium
step_as P R S z d d' e m h =
    let x = event_as P R S z d d' e.event e.answer m h.makes in
    (record { makes = x.0; logged = h.logged }, x.1)

-- ==== lines

drain_as : (P : MediumState → Type 0) (R S : HandlerRelation) → IsServing P R S → (at : ℕ) (d d' : Device) (es : List EntryData) → P d.medium → Drains R at d es d' → Drains S at d es d' × P d'.medium
drain_as P R S z at d d' [] m h = (h, stays_over P d d' m h.1)
drain_as P R S z at d d' (e ∷ es) m h =
    let first = step_as P R S z d h.2 e m h.3 in
    let rest = drain_as P R S z at h.2 d' es first.1 h.4 in
    ((h.0, h.1, h.2, first.0, rest.0), rest.1)

-- what comes of one line by the one relation comes of it by the other
abbrev IsCarried : {X : Type 0} → (MediumState → Type 0) → LineRelation X → LineRelation X → Type 0
IsCarried {X} P comes goes = (at : ℕ) (d : Device) (what : LineWhat) (xs : List X) (d' : Device) → P d.medium → comes at d what xs d' → goes at d what xs d' × P d'.medium

play_as : (P : MediumState → Type 0) (R S : HandlerRelation) → IsServing P R S → IsCarried P (Plays R) (Plays S)
play_as P R S z at d (line.EventLine event) es d' m h =
    let x = step_as P R S z d d' h.0 m h.3 in
    ((h.0, h.1, h.2, x.0, h.4), x.1)
play_as P R S z at d line.DrainLine es d' m h = drain_as P R S z at d d' es m h
play_as P R S z at d line.DumpLine es d' m h = (h, stays_over P d d' m h.1)

print_as : (P : MediumState → Type 0) (R S : HandlerRelation) → IsServing P R S → IsCarried P (Prints R) (Prints S)
print_as P R S z at d (line.EventLine event) ps d' m h =
    let x = play_as P R S z at d (line.EventLine event) (entries_of h.journal) d' m h.plays in
    (record { journal = h.journal; are = h.are; plays = x.0 }, x.1)
print_as P R S z at d line.DrainLine ps d' m h =
    let x = play_as P R S z at d line.DrainLine (entries_of h.journal) d' m h.plays in
    (record { journal = h.journal; are = h.are; plays = x.0 }, x.1)
print_as P R S z at d line.DumpLine ps d' m h = (h, stays_over P d d' m h.same)

-- ==== replays

abbrev AllOver : (MediumState → Type 0) → List Device → Type 0
AllOver P ds = Every (λ d. P d.medium) ds

ends_as : {X : Type 0} (P : MediumState → Type 0) (comes goes : LineRelation X) → IsCarried P comes goes
    → (at : ℕ) (ds : List Device) (xs : List X) (ends : List Device) → AllOver P ds → DrainsEach comes at ds xs ends → DrainsEach goes at ds xs ends
ends_as P comes goes one at [] xs ends m h = h
ends_as P comes goes one at (d ∷ ds) xs ends m h =
    (h.0, h.1, h.2, h.3, h.4, h.5, (one at d line.DrainLine h.0 h.2 m.0 h.6).0, ends_as P comes goes one (at + 1) ds h.1 h.3 m.1 h.7)

each_as : {X : Type 0} (P : MediumState → Type 0) (comes goes : LineRelation X) → IsCarried P comes goes
    → (ds : List Device) (ls : List LineData) (xs : List X) (ends : List Device) → AllOver P ds → ReplaysEach comes ds ls xs ends → ReplaysEach goes ds ls xs ends
each_as P comes goes one ds [] xs ends m h = ends_as P comes goes one 0 ds xs ends m h
each_as P comes goes one ds (l ∷ ls) xs ends m h =
    let first = one l.device h.2 l.what h.0 h.3 (every_at (λ x. P x.medium) ds l.device h.2 m h.5) h.6 in
    (h.0, h.1, h.2, h.3, h.4, h.5, first.0, each_as P comes goes one (slice_set ds l.device h.3) ls h.1 ends (every_set (λ x. P x.medium) ds l.device h.3 m first.1) h.7)

run_as : (P : MediumState → Type 0) (R S : HandlerRelation) → IsServing P R S → (picture : Picture) (d d' : Device) (lists lists' : List Taken) (ps : List Printed) → P d.medium
    → RunPrints R picture d lists ps d' lists' → RunPrints S picture d lists ps d' lists'
run_as P R S z picture d d' lists lists' [] m h = h
run_as P R S z picture d d' lists lists' (AnEntry j ∷ ps) m h =
    let x = step_as P R S z d h.0 j.entry m h.1 in
    (h.0, x.0, h.2, run_as P R S z picture h.0 d' (lists_after d.state lists j.entry.event j.entry.answer h.0.state) lists' ps x.1 h.3)
run_as P R S z picture d d' lists lists' (ADump at dump ∷ ps) m h = (h.0, run_as P R S z picture d d' lists lists' ps m h.1)
run_as P R S z picture d d' lists lists' (OutsideLine at t ∷ ps) m h = run_as P R S z picture d d' lists lists' ps m h

replay_as : (P : MediumState → Type 0) (R S : HandlerRelation) → IsServing P R S → (picture : Picture) (ls : List DeviceLineData) (lines : List LineData) (opened : List Device) (text : List ℕ)
    → AllOver P opened → IsReplayOf R picture ls opened lines text → IsReplayOf S picture ls opened lines text
replay_as P R S z picture ls lines opened text over h =
    record {
      printed = h.printed;
      ends = h.ends;
      replays = each_as P (Prints R) (Prints S) (print_as P R S z) opened lines h.printed h.ends over h.replays;
      legal = λ at d d' e f.
          let x = h.legal at d d' e f in
          record { lists = x.lists; run = run_as P R S z picture d d' [] x.lists (filter (is_about at) h.printed) (every_at (λ x. P x.medium) opened at d over e) x.run };
      whole = h.whole;
    }

pub known_without_loss : KnownWithoutLoss
known_without_loss picture ls lines opened text lose h = replay_as LosesNothing Serves ServesKnown without_loss picture ls lines opened text lose h
