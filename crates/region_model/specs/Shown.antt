-- Worked examples: what the definitions give for a dump, and for a command on its whole way through a region.
use Rattle.std.specs.Prelude.{◌≡◌, ℕ, suc, zero, true, false, List, [], ◌∷◌, ◌++◌, map, replicate, Some, None, Ok, Err, Result}
use Rattle.tcmu_types.specs.Overwriting.{zeros}
use Rattle.tcmu_types.specs.Data.{CommandData, ReplyData, SettingsData}
use Rattle.tcmu_types.specs.declared.dump.ItemKind.TheVariants as kind
use Rattle.region_model.specs.declared.mailbox.MailboxFault.{MailboxFault}
use Rattle.tcmu_model.specs.Device.{DeviceState, opening_state}
use Rattle.region_model.specs.Regions.{RegionState, opening_region}
use Rattle.tcmu_model.specs.Examples.{dev, read_of, submits, after, afterwards, drained}
use Rattle.region_model.specs.Picture.{picture_of}
use Rattle.region_model.specs.Sides.{TargetState, Copied, JobState, UserState}
use Rattle.region_model.specs.TargetSteps.{opening_target, target_laid, region_laid}
use Rattle.region_model.specs.TargetCleans.{target_cleaned, target_clean_answer, Logged}
use Rattle.region_model.specs.UserSteps.{user_attached, user_responded, region_published}
use Rattle.region_model.specs.UserNext.{NextAnswer, Job, Note, Nothing, BadMailbox, BadEntry, nexted}

-- ==== dumps

-- a device as it opens shows its mailbox alone
abbrev pub ShowsMailbox : Type 0
ShowsMailbox = picture_of (opening_state dev) [] ≡ record { mailbox = 2 ∷ 0 ∷ 1 ∷ 0 ∷ 0x80 ∷ 0 ∷ 0 ∷ 0 ∷ 0 ∷ 0x10 ∷ zeros 118; items = []; held = [] }

-- READ(10) that asks for 40 logical blocks
unfoldable pub read_forty : CommandData
read_forty = record (read_of 1 20480) { cdb = 0x28 ∷ 0 ∷ 0 ∷ 0 ∷ 0 ∷ 0 ∷ 0 ∷ 0 ∷ 0x28 ∷ 0 ∷ [] }

-- so many of them, one after another to its end
unfoldable pub after_reads : ℕ → DeviceState
after_reads zero = opening_state dev
after_reads (suc n) = afterwards (after (after_reads n) (submits read_forty)) (drained (after (after_reads n) (submits read_forty)))

-- the 29th entry of 144 bytes does not fit before the ring's end: padding, the entry at 0, and its five blocks
abbrev pub ShowsPadding : Type 0
ShowsPadding =
    picture_of (after (after_reads 28) (submits read_forty)) (record { serial = 29; blocks = 0 ∷ 1 ∷ 2 ∷ 3 ∷ 4 ∷ [] } ∷ [])
    ≡ record {
      mailbox = (2 ∷ 0 ∷ 1 ∷ 0 ∷ 0x80 ∷ 0 ∷ 0 ∷ 0 ∷ 0 ∷ 0x10 ∷ 0 ∷ 0 ∷ 0x90 ∷ zeros 51) ++ (0xc0 ∷ 0x0f ∷ zeros 62);
      items =
          record { at = 4032; kind = kind.Pad; bytes = 0x40 ∷ zeros 63 }
          ∷ record { at = 0; kind = kind.Cmd; bytes = (0x91 ∷ zeros 7) ++ (1 ∷ zeros 16) ++ (1 ∷ zeros 23) ++ (0x20 ∷ zeros 7) ++ (0x50 ∷ zeros 70) ++ (0x28 ∷ zeros 7) ++ (0x28 ∷ zeros 7) }
          ∷ [];
      held = record { serial = 29; blocks = 0 ∷ 1 ∷ 2 ∷ 3 ∷ 4 ∷ []; payload = zeros 20480 } ∷ [];
    }

-- READ(10) of 16 logical blocks
unfoldable pub read_sixteen : CommandData
read_sixteen = record (read_of 1 8192) { cdb = 0x28 ∷ 0 ∷ 0 ∷ 0 ∷ 0 ∷ 0 ∷ 0 ∷ 0 ∷ 0x10 ∷ 0 ∷ [] }

-- where a data block has two pages, one block holds its 8192 bytes
abbrev pub ShowsTwoPages : Type 0
ShowsTwoPages =
    picture_of (after (opening_state (record dev { pages = 2 })) (submits read_sixteen)) (record { serial = 1; blocks = 0 ∷ [] } ∷ [])
    ≡ record {
      mailbox = (2 ∷ 0 ∷ 1 ∷ 0 ∷ 0x80 ∷ 0 ∷ 0 ∷ 0 ∷ 0 ∷ 0x10 ∷ 0 ∷ 0 ∷ 0x80 ∷ zeros 115);
      items =
          record { at = 0; kind = kind.Cmd; bytes = (0x81 ∷ zeros 7) ++ (1 ∷ zeros 15) ++ (0xf0 ∷ zeros 24) ++ (0x20 ∷ zeros 7) ++ (0x20 ∷ zeros 54) ++ (0x28 ∷ zeros 7) ++ (0x10 ∷ zeros 7) }
          ∷ [];
      held = record { serial = 1; blocks = 0 ∷ []; payload = zeros 8192 } ∷ [];
    }

-- ==== a command on its way

-- INQUIRY that asks for 64 bytes
unfoldable pub inquiry : CommandData
inquiry = record (read_of 1 64) { cdb = 0x12 ∷ 0 ∷ 0 ∷ 0 ∷ 0x24 ∷ 0 ∷ [] }

-- block 0 is full of what an earlier command left there
unfoldable pub used_region : SettingsData → RegionState
used_region s = record (opening_region s) { blocks = Some (replicate 4096 0xff) ∷ [] }

unfoldable pub laid_region : SettingsData → RegionState
laid_region s = region_laid (used_region s) (opening_target s) inquiry 1

-- the blocks of a command that reads are cleared when it is laid
abbrev pub Clears : Type 0
Clears = (laid_region dev).blocks ≡ Some (zeros 4096) ∷ []

unfoldable pub job_of : NextAnswer → JobState
job_of (Job job) = job
job_of (Note type_ ids) = record { id = 0; cdb = []; iovs = []; carried = Copied []; in_len = 0 }
job_of Nothing = record { id = 0; cdb = []; iovs = []; carried = Copied []; in_len = 0 }
job_of (BadMailbox fault) = record { id = 0; cdb = []; iovs = []; carried = Copied []; in_len = 0 }
job_of (BadEntry at fault) = record { id = 0; cdb = []; iovs = []; carried = Copied []; in_len = 0 }

unfoldable pub reply_of : ReplyData
reply_of = record { status = 0; sense = None; payload = replicate 36 5 }

-- dispatched, responded and published
unfoldable pub served : SettingsData → Result UserState MailboxFault → RegionState
served s (Err fault) = laid_region s
served s (Ok u) =
    let n = nexted (laid_region s) u in
    let k = user_responded n.region n.user (record { job = job_of n.answer; reply = reply_of }) in
    region_published k.region k.user

unfoldable pub served_region : SettingsData → RegionState
served_region s = served s (user_attached (opening_region s))

unfoldable pub laid_target : SettingsData → TargetState
laid_target s = target_laid (opening_target s) 1 inquiry 1

unfoldable pub payloads_of : SettingsData → List (List ℕ)
payloads_of s = map (λ e. e.payload) (target_cleaned (served_region s) (laid_target s)).log

-- a device whose answers carry a length
unfoldable pub dev_len : SettingsData
dev_len = record dev { flags = record { ooo = true; read_len = true; tmr = false } }

-- the completion has the reply's bytes, and zeros behind them where answers carry no length
pub record Serves : Type 0 where
  pub answer : target_clean_answer (served_region dev) (laid_target dev) ≡ Logged 1
  pub payload : payloads_of dev ≡ (replicate 36 5 ++ replicate 28 0) ∷ []
  pub told : payloads_of dev_len ≡ replicate 36 5 ∷ []
