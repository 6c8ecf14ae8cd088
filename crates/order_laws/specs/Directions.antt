-- Which operations send data to the device.
use Rattle.std.specs.Prelude.{Bool, true, false}
use Rattle.scsi_model.specs.declared.op.Op.{Op}
use Rattle.scsi_model.specs.declared.op.Op.TheVariants.{TestUnitReady, RequestSense, Inquiry, ModeSense, Capacity10, Capacity16, ReportLuns, Read, Write, Sync, WriteSame, Unmap, CompareWrite}

-- each one, so that one that is added has to be placed
abbrev pub sends : Op → Bool
sends TestUnitReady = false
sends (RequestSense limit) = false
sends (Inquiry page limit) = false
sends (ModeSense page limit) = false
sends Capacity10 = false
sends (Capacity16 limit) = false
sends (ReportLuns select limit) = false
sends (Read lba count) = false
sends (Write lba count) = true
sends (Sync lba count) = false
sends (WriteSame lba count) = true
sends (Unmap length) = true
sends (CompareWrite lba count) = true
