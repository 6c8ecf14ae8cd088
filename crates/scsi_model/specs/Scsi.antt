-- What a request means: its reply, and the medium after it. The checks stand in their order: the operation code, the fields, the
-- length of the data sent, the parameter list, the protected bit, the range, and then the medium (SPC-4, SBC-3).
use Rattle.std.specs.Prelude.{◌≡◌, ℕ, zero, suc, ◌+◌, ◌-◌, ◌*◌, ◌/◌, min, Bool, true, false, not, ◌||◌, ◌==◌, nat_lt, nat_eq, List, [], ◌∷◌, length, take, drop, Option, Some, None, MatchOption, MatchResult, if◌then◌else◌, replicate}
use Rattle.std.specs.Bool.{MatchBool}
use Rattle.std.specs.List.{sum_by, list_any}
use Rattle.std.specs.Cmp.Lexicographic.{pointwise}
use Rattle.byteorder.specs.Endian.{big_from}
use Rattle.tcmu_types.specs.Data.{SenseData, ReplyData}
use Rattle.tcmu_types.specs.SenseBytes.{fixed_sense}
use Rattle.tcmu_model.specs.MediumState.{MediumState}
use Rattle.scsi_model.specs.Medium.{Reads, Writes, Fills, Syncs}
use Rattle.tcmu_model.specs.Steps.{Asked}
use Rattle.scsi_model.specs.Senses.{no_additional_sense_information, unrecovered_read_error, write_error, parameter_list_length_error, invalid_command_operation_code, logical_block_address_out_of_range, invalid_field_in_cdb, invalid_field_in_parameter_list, write_protected, miscompare_during_verify_operation}
use Rattle.scsi_model.specs.Decoding.{decoded}
use Rattle.scsi_model.specs.Pages.{inquiry_data, mode_sense, capacity10, capacity16, report_luns}
use Rattle.scsi_model.specs.declared.op.Op.{Op}
use Rattle.scsi_model.specs.declared.op.Op.TheVariants as op
use Rattle.scsi_model.specs.declared.op.CdbFault.{CdbFault}
use Rattle.scsi_model.specs.declared.op.Extent.{Extent}
use Rattle.scsi_model.specs.declared.op.CdbFault.TheVariants as fault

-- ==== replies

-- whether sense data say that a call of the medium failed
abbrev pub is_medium_error : Option SenseData → Bool
is_medium_error None = false
is_medium_error (Some s) = s.key == 0x3

abbrev pub good : List ℕ → ReplyData
good payload = record { status = 0; sense = None; payload = payload }

-- CHECK CONDITION
abbrev pub refused : SenseData → ReplyData
refused s = record { status = 2; sense = Some s; payload = [] }

-- what may come of a request, or of a part of it: a reply, and the medium after
abbrev pub Outcome : Type 1
Outcome = ReplyData → MediumState → Type 0

-- this reply, and the medium as it was
abbrev pub Answers : MediumState → ReplyData → Outcome
Answers m given reply after = (reply ≡ given) × (after ≡ m)

-- the one where the test holds, and else the other
abbrev pub Either : Bool → Outcome → Outcome → Outcome
Either test First Second reply after = MatchBool test (First reply after) (Second reply after)

-- ==== checks

-- a test that must not hold, and the sense data where it does
pub record Check : Type 0 where
  pub fails : Bool
  pub sense : SenseData

abbrev pub check : Bool → SenseData → Check
check fails sense = record { fails = fails; sense = sense }

abbrev pub first_failed : List Check → Option SenseData
first_failed [] = None
first_failed (c ∷ rest) = if c.fails then Some c.sense else first_failed rest

-- the first check that fails refuses the request and changes nothing; where none fails, the rest decides
abbrev pub Checked : MediumState → List Check → Outcome → Outcome
Checked m checks Rest reply after = MatchOption (first_failed checks) (Rest reply after) (λ s. Answers m (refused s) reply after)

-- the range lies in so many blocks, also where it has none
abbrev pub range_checks : ℕ → ℕ → ℕ → List Check
range_checks blocks lba count = check (nat_lt blocks (lba + count)) logical_block_address_out_of_range ∷ []

-- as many bytes were sent as must be, the medium is not protected, and the range lies in it
abbrev pub write_checks : MediumState → List ℕ → ℕ → ℕ → ℕ → List Check
write_checks m sent bytes lba count =
    check (not (length sent == bytes)) invalid_field_in_cdb ∷ check m.protected write_protected ∷ range_checks m.blocks lba count

-- ==== one call of the medium

-- a good reply with this payload where the call is done, and this sense data where it failed
abbrev pub Calls : (Bool → MediumState → Type 0) → SenseData → List ℕ → Outcome
Calls Call sense payload reply after = (failed : Bool) × Call failed after × (reply ≡ (if failed then refused sense else good payload))

-- READ: some bytes
abbrev pub ReadsSome : MediumState → ℕ → ℕ → Outcome
ReadsSome m at n reply after = (out : List ℕ) × (length out ≡ n) × Calls (Reads at out m) unrecovered_read_error out reply after

-- as many as there are in the range and as may be answered; no call where these are none
abbrev pub ReadsBytes : MediumState → ℕ → ℕ → Outcome
ReadsBytes m at n = Either (n == 0) (Answers m (good [])) (ReadsSome m at n)

abbrev pub ServesRead : MediumState → ℕ → ℕ → ℕ → Outcome
ServesRead m lba count in_len = Checked m (range_checks m.blocks lba count) (ReadsBytes m (512 * lba) (min (512 * count) in_len))

-- WRITE: no call where the range has no blocks
abbrev pub WritesBytes : MediumState → ℕ → List ℕ → Outcome
WritesBytes m at sent = Either (length sent == 0) (Answers m (good [])) (Calls (Writes at sent m) write_error [])

abbrev pub ServesWrite : MediumState → ℕ → ℕ → List ℕ → Outcome
ServesWrite m lba count sent = Checked m (write_checks m sent (512 * count) lba count) (WritesBytes m (512 * lba) sent)

-- SYNCHRONIZE CACHE: all of the medium, whatever the range
abbrev pub ServesSync : MediumState → ℕ → ℕ → Outcome
ServesSync m lba count = Checked m (range_checks m.blocks lba count) (Calls (Syncs m) write_error [])

-- WRITE SAME: the block that was sent, in each block of the range
abbrev pub ServesWriteSame : MediumState → ℕ → ℕ → List ℕ → Outcome
ServesWriteSame m lba count sent =
    Checked m (write_checks m sent 512 lba count) (Calls (Fills (512 * lba) sent count m) write_error [])

-- ==== COMPARE AND WRITE

-- where what was read equals the first n bytes sent, those behind them are written
abbrev pub Compared : MediumState → ℕ → ℕ → List ℕ → List ℕ → Outcome
Compared m at n sent out =
    Either (pointwise nat_eq out (take n sent)) (Calls (Writes at (drop n sent) m) write_error []) (Answers m (refused miscompare_during_verify_operation))

abbrev pub ComparesBytes : MediumState → ℕ → ℕ → List ℕ → Outcome
ComparesBytes m at n sent reply after =
    (out : List ℕ) × (length out ≡ n) × (failed : Bool) × (middle : MediumState) × Reads at out m failed middle
    × Either failed (Answers middle (refused unrecovered_read_error)) (Compared middle at n sent out) reply after

-- no call where the range has no blocks
abbrev pub ComparesBlocks : MediumState → ℕ → ℕ → List ℕ → Outcome
ComparesBlocks m at count sent = Either (count == 0) (Answers m (good [])) (ComparesBytes m at (512 * count) sent)

abbrev pub ServesCompareWrite : MediumState → ℕ → ℕ → List ℕ → Outcome
ServesCompareWrite m lba count sent =
    Checked m (write_checks m sent (2 * (512 * count)) lba count) (ComparesBlocks m (512 * lba) count sent)

-- ==== UNMAP

-- n block descriptors of 16 bytes from a place on: 8 for the address, 4 for the count, 4 reserved
abbrev pub extents_from : ℕ → ℕ → List ℕ → List Extent
extents_from at zero bytes = []
extents_from at (suc n) bytes = record { lba = big_from at 8 bytes; count = big_from (at + 8) 4 bytes } ∷ extents_from (at + 16) n bytes

-- the descriptors behind the header of 8 bytes; an incomplete last one is none
abbrev pub extents_of : List ℕ → List Extent
extents_of sent = extents_from 8 ((length sent - 8) / 16) sent

-- one fill with zeros, where the range has blocks
abbrev pub UnmapsOne : Extent → MediumState → Bool → MediumState → Type 0
UnmapsOne e m failed after = MatchBool (e.count == 0) ((failed ≡ false) × (after ≡ m)) (Fills (512 * e.lba) (replicate 512 0) e.count m failed after)

-- one after the other, up to the first that fails
abbrev pub Unmaps : List Extent → MediumState → Bool → MediumState → Type 0
Unmaps [] m failed after = (failed ≡ false) × (after ≡ m)
Unmaps (e ∷ rest) m failed after =
    (broke : Bool) × (middle : MediumState) × UnmapsOne e m broke middle × MatchBool broke ((failed ≡ true) × (after ≡ middle)) (Unmaps rest middle failed after)

abbrev pub is_beyond : ℕ → Extent → Bool
is_beyond blocks e = nat_lt blocks (e.lba + e.count)

-- the two lengths in the header are not those of what follows them
abbrev pub has_bad_lengths : List ℕ → Bool
has_bad_lengths sent = not (big_from 0 2 sent == length sent - 2) || not (big_from 2 2 sent == length sent - 8)

-- or there are more than 256 descriptors, or more than 32,768 blocks together
abbrev pub is_bad_list : List ℕ → List Extent → Bool
is_bad_list sent es = has_bad_lengths sent || nat_lt 256 (length es) || nat_lt 32768 (sum_by (λ e. e.count) es)

-- every range is checked before one is unmapped
abbrev pub list_checks : MediumState → List ℕ → List Check
list_checks m sent =
    check (nat_lt (length sent) 8) parameter_list_length_error
    ∷ check (is_bad_list sent (extents_of sent)) invalid_field_in_parameter_list
    ∷ check m.protected write_protected
    ∷ check (list_any (is_beyond m.blocks) (extents_of sent)) logical_block_address_out_of_range
    ∷ []

abbrev pub UnmapsList : MediumState → List ℕ → Outcome
UnmapsList m sent = Checked m (list_checks m sent) (Calls (Unmaps (extents_of sent) m) write_error [])

-- no parameter list is no error, also on a protected medium
abbrev pub ServesUnmap : MediumState → ℕ → List ℕ → Outcome
ServesUnmap m bytes sent =
    Checked m (check (not (length sent == bytes)) invalid_field_in_cdb ∷ []) (Either (bytes == 0) (Answers m (good [])) (UnmapsList m sent))

-- ==== the whole

-- bytes cut to the allocation length, and then to what may be answered
abbrev pub cut : ℕ → ℕ → List ℕ → List ℕ
cut limit in_len bytes = take in_len (take limit bytes)

-- the payload of an operation that makes no call of the medium
abbrev pub shown : List ℕ → MediumState → ℕ → Op → List ℕ
shown name m in_len (op.RequestSense limit) = cut limit in_len (fixed_sense no_additional_sense_information)
shown name m in_len (op.Inquiry page limit) = cut limit in_len (inquiry_data name page)
shown name m in_len (op.ModeSense page limit) = cut limit in_len (mode_sense page m.protected)
shown name m in_len op.Capacity10 = take in_len (capacity10 m.blocks)
shown name m in_len (op.Capacity16 limit) = cut limit in_len (capacity16 m.blocks)
shown name m in_len (op.ReportLuns select limit) = cut limit in_len (report_luns select)
shown name m in_len _ = []

-- one case for each operation
abbrev pub ServesOp : List ℕ → MediumState → List ℕ → ℕ → Op → Outcome
ServesOp name m sent in_len (op.Read lba count) = ServesRead m lba count in_len
ServesOp name m sent in_len (op.Write lba count) = ServesWrite m lba count sent
ServesOp name m sent in_len (op.Sync lba count) = ServesSync m lba count
ServesOp name m sent in_len (op.WriteSame lba count) = ServesWriteSame m lba count sent
ServesOp name m sent in_len (op.Unmap bytes) = ServesUnmap m bytes sent
ServesOp name m sent in_len (op.CompareWrite lba count) = ServesCompareWrite m lba count sent
ServesOp name m sent in_len o = Answers m (good (shown name m in_len o))

abbrev pub fault_sense : CdbFault → SenseData
fault_sense (fault.Opcode code) = invalid_command_operation_code
fault_sense (fault.Field at) = invalid_field_in_cdb

-- From the device's name, the medium and the request to the reply and the medium after.
abbrev pub Serves : List ℕ → MediumState → Asked → Outcome
Serves name m r reply after =
    MatchResult (decoded r.cdb) (λ o. ServesOp name m r.sent r.in_len o reply after) (λ f. Answers m (refused (fault_sense f)) reply after)
