-- What is determined: by a request, and the medium before it.
use Rattle.std.specs.Prelude.{◌≡◌, ◌⊎◌, ℕ, ◌≤◌, length, true, false, List, is_some}
use Rattle.tcmu_types.specs.Data.{ReplyData}
use Rattle.tcmu_types.specs.Rules.{IsReply}
use Rattle.tcmu_model.specs.MediumState.{MediumState, memory}
use Rattle.scsi_model.specs.Medium.{empty_span, memory_state}
use Rattle.scsi_model.specs.Runs.{IsRun, IsLossless}
use Rattle.scsi_model.specs.ReadsLost.{reads_lost, ServesKnown}
use Rattle.tcmu_model.specs.Steps.{Asked}
use Rattle.scsi_model.specs.Scsi.{Serves}

-- the medium tells its bytes, and which of its own calls and of its store's fail
pub record IsTold (m : MediumState) : Type 0 where
  pub own : is_some m.own.fails ≡ true
  pub store : is_some m.below.store.calls.fails ≡ true
  pub bytes : is_some m.below.bytes ≡ true

-- a request of a told medium that reads nothing that is lost has one reply, and leaves one medium, its failing calls included
abbrev pub OneReply : Type 0
OneReply =
    (name : List ℕ) (m : MediumState) (r : Asked) (first second : ReplyData) (one other : MediumState) → IsTold m → reads_lost m r ≡ false
    → Serves name m r first one → Serves name m r second other → (first ≡ second) × (one ≡ other)

-- a told medium stays told
abbrev pub StaysTold : Type 0
StaysTold = (name : List ℕ) (m : MediumState) (r : Asked) (reply : ReplyData) (after : MediumState) → IsTold m → Serves name m r reply after → IsTold after

-- So it is of a request that is known to read nothing lost, and of one that is not: they have one reply, and leave one medium, which is
-- told again.
abbrev pub OneKnownReply : Type 0
OneKnownReply =
    (name : List ℕ) (m : MediumState) (r : Asked) (first second : ReplyData) (one other : MediumState) → IsTold m
    → ServesKnown name m r first one → Serves name m r second other → (first ≡ second) × (one ≡ other) × IsTold one

-- where nothing is lost, no request reads what is
abbrev pub ReadsNothingLost : Type 0
ReadsNothingLost = (m : MediumState) (r : Asked) → m.below.lost ≡ empty_span → reads_lost m r ≡ false

-- a request of a medium in memory has one reply, and leaves one medium
abbrev pub OneReplyInMemory : Type 0
OneReplyInMemory =
    (name : List ℕ) (blocks : ℕ) (bytes : List ℕ) (calls : ℕ) (r : Asked) (first second : ReplyData) (one other : MediumState)
    → Serves name (memory_state blocks bytes calls) r first one → Serves name (memory_state blocks bytes calls) r second other
    → (first ≡ second) × (one ≡ other)

-- a medium in memory that tells its bytes, and of which nothing is lost
pub record IsInMemory (m : MediumState) : Type 0 where
  pub told : IsTold m
  pub layer : m.below.layer ≡ memory
  pub lost : m.below.lost ≡ empty_span

-- a request of such a medium has one reply, and leaves one medium, which is such a medium again
abbrev pub StaysInMemory : Type 0
StaysInMemory =
    (name : List ℕ) (m : MediumState) (r : Asked) (first second : ReplyData) (one other : MediumState) → IsInMemory m
    → Serves name m r first one → Serves name m r second other → (first ≡ second) × (one ≡ other) × IsInMemory one

-- A medium that loses nothing: it tells its bytes, none of them is lost, and none ever will be. It lies in memory, or in a file
-- whose store lists no failing call; which of its own calls fail may be listed.
pub record LosesNothing (m : MediumState) : Type 0 where
  pub told : IsTold m
  pub lossless : IsLossless m

-- a request of such a medium has one reply, and leaves one medium, which is such a medium again
abbrev pub OneReplyWithoutLoss : Type 0
OneReplyWithoutLoss =
    (name : List ℕ) (m : MediumState) (r : Asked) (first second : ReplyData) (one other : MediumState) → LosesNothing m
    → Serves name m r first one → Serves name m r second other → (first ≡ second) × (one ≡ other) × LosesNothing one

-- over such a medium every request reads nothing lost
abbrev pub KnowsWithoutLoss : Type 0
KnowsWithoutLoss =
    (name : List ℕ) (m : MediumState) (r : Asked) (reply : ReplyData) (after : MediumState) → LosesNothing m
    → Serves name m r reply after → ServesKnown name m r reply after × LosesNothing after

-- what a request leaves of a medium is behind a run of the medium's calls
abbrev pub RequestRuns : Type 0
RequestRuns = (name : List ℕ) (m : MediumState) (r : Asked) (reply : ReplyData) (after : MediumState) → Serves name m r reply after → IsRun m after

-- every request has a reply, over every medium
abbrev pub SomeReply : Type 0
SomeReply = (name : List ℕ) (m : MediumState) (r : Asked) → (reply : ReplyData) × (after : MediumState) × Serves name m r reply after

-- whatever a request may have as its reply is a whole one, with no more bytes than may be answered, and GOOD or CHECK CONDITION
abbrev pub WholeReply : Type 0
WholeReply =
    (name : List ℕ) (m : MediumState) (r : Asked) (reply : ReplyData) (after : MediumState) → Serves name m r reply after
    → IsReply reply × (length reply.payload ≤ r.in_len) × ((reply.status ≡ 0) ⊎ (reply.status ≡ 2))
