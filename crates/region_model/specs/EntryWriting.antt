-- Requests that may be written into a ring: no fault holds of them.
use Rattle.std.specs.Prelude.{◌≡◌, ℕ, ◌+◌, ◌^◌, ◌≤◌, ◌<◌, [], ◌∷◌, true, List, length}
use Rattle.tcmu_types.specs.Rules.{IsCdb}
use Rattle.tcmu_types.specs.declared.iovec.Iov.{Iov}
use Rattle.region_model.specs.Layout.{ring_start, data_start, command_length}
use Rattle.region_model.specs.EntryReading.{limit_of, lies_inside}
use Rattle.region_model.specs.declared.mailbox.Mailbox.{Mailbox}

-- iovecs whose numbers have their places, each inside the bytes from low up to high
abbrev pub AreInside : ℕ → ℕ → List Iov → Type 0
AreInside low high [] = Unit {0}
AreInside low high (iov ∷ iovs) = (iov.base < 2 ^ 64) × (iov.len < 2 ^ 64) × (lies_inside low high iov ≡ true) × AreInside low high iovs

-- a request of which no fault holds
pub record IsRequest (m : Mailbox) (area at id slots : ℕ) (iovs : List Iov) (cdb : List ℕ) : Type 0 where
  pub id_fits : id < 2 ^ 16
  pub few : length iovs ≤ slots
  pub cdb_is : IsCdb cdb
  pub inside : AreInside (data_start m.cmdr_size) (data_start m.cmdr_size + area) iovs
  pub limit : command_length slots (length cdb) ≤ limit_of m at
  pub fits : ring_start + at + command_length slots (length cdb) + 8 < 2 ^ 32
