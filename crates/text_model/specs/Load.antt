-- The load: reads and writes that follow from a seed, the scenario of so many of them, and the line that sums its replay up.
use Rattle.std.specs.Prelude.{◌≡◌, ℕ, suc, zero, ◌+◌, ◌*◌, ◌/◌, ◌%◌, ◌^◌, ◌==◌, Bool, true, false, List, [], ◌∷◌, ◌++◌, length, replicate, Option, Some, None, if◌then◌else◌, codes}
use Rattle.std.specs.List.{sum_by, filter}
use Rattle.std.specs.Fmt.{decimal}
use Rattle.byteorder.specs.Endian.{big_bytes}
use Rattle.tcmu_types.specs.Rules.{takes_payload}
use Rattle.tcmu_types.specs.Data.{CommandData, DoneData, SettingsData}
use Rattle.tcmu_types.specs.Events.{EventData, AnswerData, EntryData}
use Rattle.tcmu_types.specs.Events as ev
use Rattle.tcmu_types.specs.declared.answer.Submit.TheVariants as submit
use Rattle.text_model.specs.Config.{ConfigData, InMemory}
use Rattle.text_model.specs.ScenarioData.{DeviceLineData, LineData, ScenarioData}
use Rattle.text_model.specs.ScenarioData as line
use Rattle.tcmu_model.specs.Device.{DeviceState}
use Rattle.tcmu_model.specs.Sound.{open_count}
use Rattle.text_model.specs.Text.{event_text, device_spelling}
use Rattle.text_model.specs.Text as text

-- ==== numbers

-- the number behind a number: a linear congruence modulo 2^64
unfoldable pub next_random : ℕ → ℕ
next_random x = (6364136223846793005 * x + 1442695040888963407) % 2 ^ 64

-- the i-th number behind the seed
unfoldable pub random_of : ℕ → ℕ → ℕ
random_of seed zero = seed
random_of seed (suc i) = next_random (random_of seed i)

-- ==== commands

-- how many logical blocks a number asks for, from which on, of which byte, and whether it writes them
unfoldable pub load_count : ℕ → ℕ
load_count x = 1 + x / 2 ^ 60 % 8

unfoldable pub load_lba : ℕ → ℕ
load_lba x = x / 2 ^ 33 % 4089

unfoldable pub load_fill : ℕ → ℕ
load_fill x = x / 2 ^ 40 % 256

unfoldable pub load_writes : ℕ → Bool
load_writes x = x / 2 ^ 32 % 2 == 0

-- READ(10) or WRITE(10) by its operation code: the place in four bytes and the count in two, the highest first
unfoldable pub load_cdb : ℕ → ℕ → ℕ → List ℕ
load_cdb code place count = (code ∷ 0 ∷ []) ++ big_bytes 4 place ++ (0 ∷ []) ++ big_bytes 2 count ++ (0 ∷ [])

-- initiator `a` writes blocks that are all of one byte, or reads blocks
unfoldable pub load_command : ℕ → ℕ → CommandData
load_command tag x =
    if load_writes x
    then record { init = codes "a"; tag = tag; cdb = load_cdb 0x2a (load_lba x) (load_count x); sent = replicate (load_count x * 512) (load_fill x); in_len = 0 }
    else record { init = codes "a"; tag = tag; cdb = load_cdb 0x28 (load_lba x) (load_count x); sent = []; in_len = load_count x * 512 }

-- ==== the scenario

abbrev pub load_line : line.LineWhat → LineData
load_line what = record { device = 0; what = what }

-- the i-th command, and a drain behind each sixteenth
unfoldable pub load_step : ℕ → ℕ → List LineData
load_step i x = load_line (line.EventLine (ev.Submit (load_command i x))) ∷ (if i % 16 == 0 then load_line line.DrainLine ∷ [] else [])

unfoldable pub load_lines : ℕ → ℕ → List LineData
load_lines seed zero = []
load_lines seed (suc i) = load_lines seed i ++ load_step (suc i) (random_of seed (suc i))

unfoldable pub load_config : ConfigData
load_config = record { hba = 0; name = codes "d0"; kind = InMemory 4096; protected = false; fails = [] }

unfoldable pub load_settings : SettingsData
load_settings = record { ring = 65536; blocks = 1024; flags = record { ooo = true; read_len = true; tmr = false }; timeout = 0; qfull = 0; pages = 1 }

unfoldable pub load_device : DeviceLineData
load_device = record { name = codes "d0"; config = load_config; settings = load_settings }

-- the scenario of so many commands
unfoldable pub load_scenario_data : ℕ → ℕ → ScenarioData
load_scenario_data seed count = record { devices = load_device ∷ []; lines = load_lines seed count }

-- ==== the summary

-- the command of a submit that was accepted under this serial
abbrev pub accepted_under : ℕ → EventData → AnswerData → Option CommandData
accepted_under s (ev.Submit c) (ev.Submitted (submit.Queued t)) = if t == s then Some c else None
accepted_under s (ev.Submit c) (ev.Submitted (submit.Delayed t)) = if t == s then Some c else None
accepted_under s event answer = None

-- the command that these entries accepted under a serial
abbrev pub accepted_as : ℕ → List EntryData → Option CommandData
accepted_as s [] = None
accepted_as s (e ∷ es) = elim (accepted_under s e.event e.answer) [ Some c ↦ Some c | None ↦ accepted_as s es ]

-- the bytes that a completion moved: those that its write sent, or those that its read got
abbrev pub moved_by : Option CommandData → DoneData → ℕ
moved_by None d = length d.payload
moved_by (Some c) d = if takes_payload c.cdb then length c.sent else length d.payload

abbrev pub good_completions : DeviceState → List DoneData
good_completions d = filter (λ e. e.status == 0) d.log

-- the accepted commands, the completions that are GOOD, the bytes that those moved, and the commands without a completion
pub record LoadNumbers : Type 0 where
  pub queued : ℕ
  pub good : ℕ
  pub bytes : ℕ
  pub unanswered : ℕ

-- those of a device that is left by these entries
unfoldable pub load_numbers : List EntryData → DeviceState → LoadNumbers
load_numbers es d =
    record {
      queued = d.accepted;
      good = length (good_completions d);
      bytes = sum_by (λ e. moved_by (accepted_as e.serial es) e) (good_completions d);
      unanswered = open_count d;
    }

-- the line of a seed and a number of commands
unfoldable pub summary_text : ℕ → ℕ → LoadNumbers → List ℕ
summary_text seed count n =
    text.line (codes "load " ++ decimal seed ++ codes " " ++ decimal count ++ codes " queued " ++ decimal n.queued
    ++ codes " good " ++ decimal n.good ++ codes " bytes " ++ decimal n.bytes ++ codes " open " ++ decimal n.unanswered)

-- ==== worked examples

abbrev pub FirstNumber : Type 0
FirstNumber = random_of 0 1 ≡ 0x14057B7EF767814F

-- the first command of seed 0 writes two blocks of 7Bh at block DDh
abbrev pub FirstCommand : Type 0
FirstCommand =
    load_command 1 (random_of 0 1)
    ≡ record { init = codes "a"; tag = 1; cdb = 0x2a ∷ 0 ∷ 0 ∷ 0 ∷ 0 ∷ 0xdd ∷ 0 ∷ 0 ∷ 2 ∷ 0 ∷ []; sent = replicate 1024 0x7b; in_len = 0 }

-- and its line
abbrev pub FirstLine : Type 0
FirstLine = event_text (codes "d0") (ev.Submit (load_command 1 (random_of 0 1))) ≡ codes "submit d0 a 1 2a00000000dd00000200 out=7b*1024"

abbrev pub DeviceLine : Type 0
DeviceLine = device_spelling load_device ≡ codes "device d0 tcm-user/0/d0/mem/4096 ring=65536 blocks=1024 flags=ooo,len timeout=0"

-- no command, and one that was answered
abbrev pub EmptySummary : Type 0
EmptySummary = summary_text 0 0 (record { queued = 0; good = 0; bytes = 0; unanswered = 0 }) ≡ codes "load 0 0 queued 0 good 0 bytes 0 open 0" ++ 10 ∷ []

abbrev pub OneSummary : Type 0
OneSummary = summary_text 0 1 (record { queued = 1; good = 1; bytes = 1024; unanswered = 0 }) ≡ codes "load 0 1 queued 1 good 1 bytes 1024 open 0" ++ 10 ∷ []

-- sixteen commands, and the drain behind them
abbrev pub DrainBehindSixteen : Type 0
DrainBehindSixteen = length (load_lines 0 16) ≡ 17
