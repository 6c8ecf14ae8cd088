-- The text of a journal: a line for each device, event, completion and end.
use Rattle.std.specs.Prelude.{ℕ, suc, ◌+◌, List, [], ◌∷◌, ◌++◌, length, take, drop, map, Option, Some, None, ◌==◌, if◌then◌else◌, codes}
use Rattle.tcmu_types.specs.Numbers.{bit}
use Rattle.std.specs.List.{flat_map, join_with_byte}
use Rattle.std.specs.Fmt.{decimal}
use Rattle.tcmu_types.specs.Rules.{takes_payload}
use Rattle.tcmu_types.specs.Data.{CommandData, SenseData, DoneData, SettingsData}
use Rattle.tcmu_types.specs.Events.{EventData, DispatchData, AnswerData, EntryData}
use Rattle.tcmu_types.specs.Events as ev
use Rattle.tcmu_types.specs.declared.settings.Flags.{Flags}
use Rattle.tcmu_types.specs.declared.stat.Stat.{Stat}
use Rattle.tcmu_types.specs.declared.answer.Submit.{Submit}
use Rattle.tcmu_types.specs.declared.answer.Submit.TheVariants as submit_answer
use Rattle.tcmu_types.specs.declared.answer.Handle.{Handle}
use Rattle.tcmu_types.specs.declared.answer.Handle.TheVariants as handle_answer
use Rattle.tcmu_types.specs.declared.answer.Respond.{Respond}
use Rattle.tcmu_types.specs.declared.answer.Respond.TheVariants as respond_answer
use Rattle.tcmu_types.specs.declared.answer.Publish.{Publish}
use Rattle.tcmu_types.specs.declared.answer.Publish.TheVariants as publish_answer
use Rattle.tcmu_types.specs.declared.answer.Enter.{Enter}
use Rattle.tcmu_types.specs.declared.answer.Enter.TheVariants as enter_answer
use Rattle.tcmu_types.specs.declared.answer.Reset.{Reset}
use Rattle.tcmu_types.specs.declared.answer.Reset.TheVariants as reset_answer
use Rattle.tcmu_types.specs.declared.answer.Tmr.{Tmr}
use Rattle.tcmu_types.specs.declared.answer.Tmr.TheVariants as tmr_answer
use Rattle.tcmu_types.specs.Dumps.{ItemData, HeldData, DumpData}
use Rattle.text_model.specs.Config.{ConfigData, MediumData, InMemory, InFile}
use Rattle.text_model.specs.ScenarioData.{DeviceLineData}
use Rattle.tcmu_types.specs.declared.dump.ItemKind.{ItemKind}
use Rattle.tcmu_types.specs.declared.dump.ItemKind.TheVariants as kind
use Rattle.tcmu_types.specs.Hex.{hex_byte}

-- ==== bytes

-- maximal runs: each byte with the number of times that it stands there
abbrev pub onto_run : ℕ → List (ℕ × ℕ) → List (ℕ × ℕ)
onto_run b [] = (b, 1) ∷ []
onto_run b (run ∷ runs) = if run.0 == b then (b, suc run.1) ∷ runs else (b, 1) ∷ run ∷ runs

unfoldable pub runs : List ℕ → List (ℕ × ℕ)
runs [] = []
runs (b ∷ bytes) = onto_run b (runs bytes)

unfoldable pub run_text : ℕ × ℕ → List ℕ
run_text run = hex_byte run.0 ++ 42 ∷ decimal run.1

unfoldable pub runs_text : List ℕ → List ℕ
runs_text bytes = join_with_byte 44 (map run_text (runs bytes))

unfoldable pub payload_text : List ℕ → List ℕ
payload_text bytes = if length bytes == 0 then 45 ∷ [] else runs_text bytes

unfoldable pub sense_text : Option SenseData → List ℕ
sense_text None = 45 ∷ []
sense_text (Some s) = hex_byte s.key ++ 47 ∷ hex_byte s.asc ++ 47 ∷ hex_byte s.ascq

-- ==== fields

-- a word, then a space and a text for each of these
abbrev pub spaced : List ℕ → List (List ℕ) → List ℕ
spaced word fields = word ++ flat_map (λ field. 32 ∷ field) fields

abbrev pub line : List ℕ → List ℕ
line text = text ++ 10 ∷ []

unfoldable pub numbers_text : ℕ → List ℕ → List ℕ
numbers_text at ns = join_with_byte at (map decimal ns)

-- `none`, or numbers joined by commas
unfoldable pub serials_text : List ℕ → List ℕ
serials_text ns = if length ns == 0 then codes "none" else numbers_text 44 ns

-- the words that are set, or `none`
unfoldable pub flags_text : Flags → List ℕ
flags_text f =
    if f.ooo then codes "ooo" ++ (if f.read_len then codes ",len" else []) ++ (if f.tmr then codes ",tmr" else [])
    else (if f.read_len then codes "len" ++ (if f.tmr then codes ",tmr" else []) else (if f.tmr then codes "tmr" else codes "none"))

-- ==== device lines

unfoldable pub medium_text : MediumData → List ℕ
medium_text (InMemory n) = codes "mem/" ++ decimal n
medium_text (InFile name) = codes "file/" ++ name

-- what stands in front of a medium
unfoldable pub kind_text : ConfigData → List ℕ
kind_text c = if length c.fails == 0 then (if c.protected then codes "ro/" else []) else codes "fail/" ++ numbers_text 43 c.fails ++ codes "/"

unfoldable pub config_text : ConfigData → List ℕ
config_text c = codes "tcm-user/" ++ decimal c.hba ++ codes "/" ++ c.name ++ codes "/" ++ kind_text c ++ medium_text c.kind

-- the last fields, written where they say something
unfoldable pub last_text : SettingsData → List ℕ
last_text t = (if t.qfull == 0 then [] else codes " qfull=" ++ decimal t.qfull) ++ (if t.pages == 1 then [] else codes " pages=" ++ decimal t.pages)

unfoldable pub settings_text : SettingsData → List ℕ
settings_text t =
    codes " ring=" ++ decimal t.ring ++ codes " blocks=" ++ decimal t.blocks ++ codes " flags=" ++ flags_text t.flags ++ codes " timeout=" ++ decimal t.timeout ++ last_text t

-- the one spelling of a device line
unfoldable pub device_spelling : DeviceLineData → List ℕ
device_spelling d = spaced (codes "device") (d.name ∷ config_text d.config ∷ []) ++ settings_text d.settings

unfoldable pub device_text : DeviceLineData → List ℕ
device_text d = line (device_spelling d ++ codes " # ready")

-- ==== events

unfoldable pub data_fields : CommandData → List (List ℕ)
data_fields c =
    if takes_payload c.cdb then (if length c.sent == 0 then [] else (codes "out=" ++ runs_text c.sent) ∷ [])
    else (if c.in_len == 0 then [] else (codes "in=" ++ decimal c.in_len) ∷ [])

-- the one spelling of a command's fields, each behind a space
unfoldable pub command_text : List ℕ → CommandData → List ℕ
command_text name c = spaced [] (name ∷ c.init ∷ decimal c.tag ∷ flat_map hex_byte c.cdb ∷ data_fields c)

-- the one spelling of an event's line
unfoldable pub event_text : List ℕ → EventData → List ℕ
event_text name (ev.Submit c) = codes "submit" ++ command_text name c
event_text name ev.Dispatch = spaced (codes "dispatch") (name ∷ [])
event_text name (ev.Handle s) = spaced (codes "handle") (name ∷ decimal s ∷ [])
event_text name (ev.Respond s) = spaced (codes "respond") (name ∷ decimal s ∷ [])
event_text name ev.Publish = spaced (codes "publish") (name ∷ [])
event_text name ev.Clean = spaced (codes "clean") (name ∷ [])
event_text name ev.Enter = spaced (codes "enter") (name ∷ [])
event_text name (ev.Tick n) = spaced (codes "tick") (name ∷ decimal n ∷ [])
event_text name ev.Block = spaced (codes "block") (name ∷ [])
event_text name ev.Unblock = spaced (codes "unblock") (name ∷ [])
event_text name (ev.Reset n) = spaced (codes "reset") (name ∷ decimal n ∷ [])
event_text name ev.Restart = spaced (codes "restart") (name ∷ [])
event_text name (ev.Tmr k ss) = spaced (codes "tmr") (name ∷ decimal k ∷ serials_text ss ∷ [])
event_text name ev.Stat = spaced (codes "stat") (name ∷ [])

-- ==== answers

abbrev pub numbered : List ℕ → ℕ → List ℕ
numbered word n = spaced word (decimal n ∷ [])

unfoldable pub full_text : List ℕ → ℕ → ℕ → List ℕ
full_text what need free = codes "full " ++ what ++ codes " need " ++ decimal need ++ codes " free " ++ decimal free

unfoldable pub submit_text : Submit → List ℕ
submit_text (submit_answer.Queued s) = numbered (codes "queued") s
submit_text (submit_answer.Delayed s) = numbered (codes "delayed") s
submit_text submit_answer.Busy = codes "busy"
submit_text (submit_answer.TooBig have limit) = codes "toobig have " ++ decimal have ++ codes " limit " ++ decimal limit
submit_text (submit_answer.FullRing need free) = full_text (codes "ring") need free
submit_text (submit_answer.FullBlocks need free) = full_text (codes "blocks") need free

unfoldable pub dispatch_text : DispatchData → List ℕ
dispatch_text (ev.Job s) = numbered (codes "job") s
dispatch_text (ev.Note kind ss) = spaced (codes "note") (decimal kind ∷ serials_text ss ∷ [])
dispatch_text ev.Nothing = codes "nothing"
dispatch_text ev.Detached = codes "detached"

unfoldable pub handle_text : Handle → List ℕ
handle_text (handle_answer.Done r) = spaced (codes "reply") (hex_byte r.status ∷ sense_text r.sense ∷ payload_text r.payload ∷ [])
handle_text (handle_answer.NotOut s) = numbered (codes "notout") s

unfoldable pub respond_text : Respond → List ℕ
respond_text respond_answer.Placed = codes "placed"
respond_text respond_answer.Parked = codes "parked"
respond_text (respond_answer.NotHandled s) = numbered (codes "nothandled") s

unfoldable pub publish_text : Publish → List ℕ
publish_text (publish_answer.Moved i c) = spaced (codes "moved") (decimal i ∷ decimal c ∷ [])
publish_text publish_answer.Detached = codes "detached"

unfoldable pub enter_text : Enter → List ℕ
enter_text (enter_answer.Entered s) = numbered (codes "entered") s
enter_text enter_answer.Empty = codes "empty"
enter_text (enter_answer.FullRing need free) = full_text (codes "ring") need free
enter_text (enter_answer.FullBlocks need free) = full_text (codes "blocks") need free

unfoldable pub reset_text : Reset → List ℕ
reset_text (reset_answer.Reset n) = numbered (codes "reset") n
reset_text reset_answer.NotBlocked = codes "notblocked"
reset_text (reset_answer.HandlersOut n) = numbered (codes "handlersout") n

unfoldable pub tmr_text : Tmr → List ℕ
tmr_text tmr_answer.Noted = codes "noted"
tmr_text tmr_answer.Off = codes "off"
tmr_text tmr_answer.Busy = codes "busy"
tmr_text (tmr_answer.Unknown s) = numbered (codes "unknown") s
tmr_text (tmr_answer.FullRing need free) = full_text (codes "ring") need free

unfoldable pub place_text : Stat → List ℕ
place_text t = codes "now " ++ decimal t.now ++ codes " blocked " ++ decimal (bit t.blocked) ++ codes " attached " ++ decimal (bit t.attached) ++ codes " head " ++ decimal t.head ++ codes " used " ++ decimal t.used

unfoldable pub states_text : Stat → List ℕ
states_text t =
    codes " waiting " ++ decimal t.waiting ++ codes " out " ++ decimal t.out ++ codes " handled " ++ decimal t.handled
    ++ codes " parked " ++ decimal t.parked ++ codes " placed " ++ decimal t.placed ++ codes " lost " ++ decimal t.lost

-- a device on which submits may wait shows how many do
unfoldable pub delayed_text : ℕ → ℕ → List ℕ
delayed_text qfull n = if qfull == 0 then [] else codes " delayed " ++ decimal n

unfoldable pub stat_text : ℕ → Stat → List ℕ
stat_text qfull t = place_text t ++ states_text t ++ codes " expired " ++ decimal t.expired ++ codes " held " ++ decimal t.held ++ delayed_text qfull t.delayed

-- what a number logged is called
unfoldable pub logged_word : EventData → List ℕ
logged_word (ev.Tick n) = codes "expired"
logged_word _ = codes "cleaned"

unfoldable pub answer_text : ℕ → EventData → AnswerData → List ℕ
answer_text qfull e (ev.Submitted a) = submit_text a
answer_text qfull e (ev.Dispatched a) = dispatch_text a
answer_text qfull e (ev.Answered a) = handle_text a
answer_text qfull e (ev.Responded a) = respond_text a
answer_text qfull e (ev.Published a) = publish_text a
answer_text qfull e (ev.Entered a) = enter_text a
answer_text qfull e (ev.Logged n) = numbered (logged_word e) n
answer_text qfull e (ev.Changed b) = if b then codes "changed" else codes "same"
answer_text qfull e (ev.WasReset a) = reset_text a
answer_text qfull e (ev.Lost n) = numbered (codes "lost") n
answer_text qfull e (ev.Noted a) = tmr_text a
answer_text qfull e (ev.Told t) = stat_text qfull t

-- ==== entries and ends

unfoldable pub completion_text : List ℕ → DoneData → List ℕ
completion_text name c = line (spaced (codes "# done") (name ∷ decimal c.serial ∷ c.init ∷ decimal c.tag ∷ hex_byte c.status ∷ sense_text c.sense ∷ payload_text c.payload ∷ []))

-- the line of an event with its answer
unfoldable pub event_line : List ℕ → ℕ → EventData → AnswerData → List ℕ
event_line name qfull e a = line (event_text name e ++ codes " # " ++ answer_text qfull e a)

-- and a line for each completion that it logged
unfoldable pub entry_text : List ℕ → ℕ → EntryData → List DoneData → List ℕ
entry_text name qfull e logged = event_line name qfull e.event e.answer ++ flat_map (completion_text name) logged

-- the lines of these entries; each entry's completions are the next, as many as it logged
abbrev pub entries_text : List ℕ → ℕ → List EntryData → List DoneData → List ℕ
entries_text name qfull [] done = []
entries_text name qfull (e ∷ es) done = entry_text name qfull e (take e.logged done) ++ entries_text name qfull es (drop e.logged done)

unfoldable pub end_text : List ℕ → ℕ → List ℕ
end_text name n = line (spaced (codes "# open") (name ∷ decimal n ∷ []))

-- ==== dumps

unfoldable pub kind_word : ItemKind → List ℕ
kind_word kind.Pad = codes "pad"
kind_word kind.Cmd = codes "cmd"
kind_word kind.Tmr = codes "tmr"

-- numbers joined by commas, or `-`
unfoldable pub blocks_text : List ℕ → List ℕ
blocks_text ns = if length ns == 0 then codes "-" else numbers_text 44 ns

unfoldable pub item_text : ItemData → List ℕ
item_text i = line (spaced (codes "# item") (decimal i.at ∷ kind_word i.kind ∷ decimal (length i.bytes) ∷ payload_text i.bytes ∷ []))

unfoldable pub held_text : HeldData → List ℕ
held_text h = line (spaced (codes "# held") (decimal h.serial ∷ blocks_text h.blocks ∷ payload_text h.payload ∷ []))

unfoldable pub dump_text : List ℕ → DumpData → List ℕ
dump_text name d =
    line (codes "dump " ++ name ++ codes " # shown " ++ decimal (1 + length d.items + length d.held))
    ++ line (codes "# box " ++ payload_text d.mailbox) ++ flat_map item_text d.items ++ flat_map held_text d.held
