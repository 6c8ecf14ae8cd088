-- What bytes read as a mailbox say, and what may be wrong with them.
use Rattle.std.specs.Prelude.{◌≡◌, ◌≢◌, ◌⊎◌, ℕ, ◌%◌, ◌^◌, ◌&&◌, ◌≤◌, ◌<◌, ◌==◌, not, nat_lt, nat_le, Bool, List, length, Result, Ok, Err, MatchResult, if◌then◌else◌}
use Rattle.tcmu_types.specs.Rules.{IsRingSize}
use Rattle.region_model.specs.Layout.{mailbox_bytes, ring_start, head_place, tail_place}
use Rattle.tcmu_types.specs.ByteFields.{field, put}
use Rattle.region_model.specs.declared.mailbox.Mailbox.{Mailbox}
use Rattle.region_model.specs.declared.mailbox.MailboxFault.{MailboxFault}
use Rattle.region_model.specs.declared.mailbox.MailboxFault.TheVariants.{Short, Version, Offset, Size, Unaligned, OutOfRing}

-- the six fields
unfoldable pub mailbox_in : List ℕ → Mailbox
mailbox_in xs = record {
  version = field 2 0 xs;
  flags = field 2 2 xs;
  cmdr_off = field 4 4 xs;
  cmdr_size = field 4 8 xs;
  head = field 4 head_place xs;
  tail = field 4 tail_place xs;
}

-- ==== the first fault

abbrev pub is_ring_size : ℕ → Bool
is_ring_size n = nat_le 4096 n && nat_le n 4194304 && (n % 4096 == 0)

-- the first fault of the fields, or the mailbox
unfoldable pub judged : Mailbox → Result Mailbox MailboxFault
judged m =
    if not (m.version == 2) then Err (Version m.version)
    else (if not (m.cmdr_off == ring_start) then Err (Offset m.cmdr_off)
    else (if not (is_ring_size m.cmdr_size) then Err (Size m.cmdr_size)
    else (if not (m.head % 8 == 0) then Err (Unaligned m.head)
    else (if not (m.tail % 8 == 0) then Err (Unaligned m.tail)
    else (if nat_le m.cmdr_size m.head then Err (OutOfRing m.head)
    else (if nat_le m.cmdr_size m.tail then Err (OutOfRing m.tail)
    else Ok m))))))

-- what the bytes read as
unfoldable pub mailbox_read : List ℕ → Result Mailbox MailboxFault
mailbox_read xs = if nat_lt (length xs) 128 then Err (Short (length xs)) else judged (mailbox_in xs)

-- ==== each fault in words

-- n is the head and breaks the rule; or the head keeps it, and n is the tail and breaks it
abbrev pub HeadElseTail : (ℕ → Type 0) → Mailbox → ℕ → Type 0
HeadElseTail Keeps m n = ((n ≡ m.head) × ¬ Keeps m.head) ⊎ (Keeps m.head × (n ≡ m.tail) × ¬ Keeps m.tail)

-- the rule of this fault is broken, by the number that the fault has
abbrev pub BreaksMailbox : List ℕ → MailboxFault → Type 0
BreaksMailbox xs (Short n) = (n ≡ length xs) × (n < 128)
BreaksMailbox xs (Version v) = (v ≡ (mailbox_in xs).version) × (v ≢ 2)
BreaksMailbox xs (Offset o) = (o ≡ (mailbox_in xs).cmdr_off) × (o ≢ ring_start)
BreaksMailbox xs (Size n) = (n ≡ (mailbox_in xs).cmdr_size) × ¬ IsRingSize n
BreaksMailbox xs (Unaligned n) = HeadElseTail (λ k. k % 8 ≡ 0) (mailbox_in xs) n
BreaksMailbox xs (OutOfRing n) = HeadElseTail (λ k. k < (mailbox_in xs).cmdr_size) (mailbox_in xs) n

-- the order of the rules
abbrev pub mailbox_rank : MailboxFault → ℕ
mailbox_rank (Short n) = 0
mailbox_rank (Version v) = 1
mailbox_rank (Offset o) = 2
mailbox_rank (Size n) = 3
mailbox_rank (Unaligned n) = 4
mailbox_rank (OutOfRing n) = 5

-- a rule is broken, and none before it
pub record IsFirstMailboxFault (xs : List ℕ) (fault : MailboxFault) : Type 0 where
  pub broken : BreaksMailbox xs fault
  pub first : (other : MailboxFault) → BreaksMailbox xs other → mailbox_rank fault ≤ mailbox_rank other

-- the mailbox exactly where no rule is broken, else the first fault
abbrev pub ReadsMailbox : List ℕ → Result Mailbox MailboxFault → Type 0
ReadsMailbox xs result =
    MatchResult result (λ m. (m ≡ mailbox_in xs) × ((fault : MailboxFault) → ¬ BreaksMailbox xs fault)) (λ fault. IsFirstMailboxFault xs fault)

-- ==== laws

-- a mailbox whose fields break no rule
pub record IsMailbox (m : Mailbox) : Type 0 where
  pub version : m.version ≡ 2
  pub cmdr_off : m.cmdr_off ≡ ring_start
  pub ring : IsRingSize m.cmdr_size
  pub head_aligned : m.head % 8 ≡ 0
  pub tail_aligned : m.tail % 8 ≡ 0
  pub head_inside : m.head < m.cmdr_size
  pub tail_inside : m.tail < m.cmdr_size

-- fields that have room in their places
pub record Fits (m : Mailbox) : Type 0 where
  pub version : m.version < 2 ^ 16
  pub flags : m.flags < 2 ^ 16
  pub cmdr_off : m.cmdr_off < 2 ^ 32
  pub cmdr_size : m.cmdr_size < 2 ^ 32
  pub head : m.head < 2 ^ 32
  pub tail : m.tail < 2 ^ 32

-- over any bytes: what was written has these fields, and reads as them or as their first fault
abbrev pub MailboxReadsAgain : Type 0
MailboxReadsAgain = (m : Mailbox) (xs : List ℕ) → Fits m → 128 ≤ length xs
    → (mailbox_in (put xs 0 (mailbox_bytes m)) ≡ m) × (mailbox_read (put xs 0 (mailbox_bytes m)) ≡ judged m)
