-- What a request reads or compares of the medium, and whether some of it is lost.
use Rattle.std.specs.Prelude.{◌≡◌, ℕ, ◌*◌, min, max, Bool, false, nat_lt, List, is_some, Ok, Err, Result, if◌then◌else◌}
use Rattle.tcmu_model.specs.MediumState.{Span, MediumState}
use Rattle.tcmu_model.specs.Steps.{Asked, HandlerRelation}
use Rattle.scsi_model.specs.Decoding.{decoded}
use Rattle.scsi_model.specs.Medium.{span_of, empty_span}
use Rattle.scsi_model.specs.Scsi.{Check, first_failed, range_checks, write_checks, Serves}
use Rattle.scsi_model.specs.declared.op.Op.{Op}
use Rattle.scsi_model.specs.declared.op.Op.TheVariants as op
use Rattle.scsi_model.specs.declared.op.CdbFault.{CdbFault}

-- n bytes from a place on, where no check fails, and none where one does
abbrev pub span_behind : List Check → ℕ → ℕ → Span
span_behind checks at n = if is_some (first_failed checks) then empty_span else span_of at n

-- READ gives as many bytes of its range as may be answered, COMPARE AND WRITE compares all of its range, and no other operation looks
-- at the bytes of the medium
abbrev pub span_looked_at : MediumState → List ℕ → ℕ → Op → Span
span_looked_at m sent in_len (op.Read lba count) = span_behind (range_checks m.blocks lba count) (512 * lba) (min (512 * count) in_len)
span_looked_at m sent in_len (op.CompareWrite lba count) =
    span_behind (write_checks m sent (2 * (512 * count)) lba count) (512 * lba) (512 * count)
span_looked_at m sent in_len _ = empty_span

abbrev pub span_asked_for : MediumState → Asked → Result Op CdbFault → Span
span_asked_for m r (Ok o) = span_looked_at m r.sent r.in_len o
span_asked_for m r (Err f) = empty_span

-- whether two ranges have a place together
abbrev pub overlap : Span → Span → Bool
overlap s t = nat_lt (max s.start t.start) (min s.end t.end)

-- whether a request reads or compares a byte that is lost
abbrev pub reads_lost : MediumState → Asked → Bool
reads_lost m r = overlap (span_asked_for m r (decoded r.cdb)) m.below.lost

-- the meaning of those requests alone that read and compare nothing that is lost
abbrev pub ServesKnown : HandlerRelation
ServesKnown name m r reply after = (reads_lost m r ≡ false) × Serves name m r reply after
