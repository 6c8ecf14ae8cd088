use Rattle.std.proofs.Common.{◌≡◌, ℕ, ◌∙◌, ap, arith, refl, List, length, false, nat_lt}
use Rattle.std.proofs.lemmas.Bool.{le-ltb}
use Rattle.region_model.specs.Layout.{mailbox_bytes}
use Rattle.tcmu_types.specs.ByteFields.{put}
use Rattle.region_model.specs.MailboxReading.{mailbox_in, mailbox_read, judged}
use Rattle.tcmu_types.proofs.ByteFields.{field-put, length-put}
use Rattle.mailbox_bytes.proofs.laws.mailbox_reads_again.Goals as goal
use Rattle.region_model.proofs.PartLengths.{length-mailbox, mailbox_fields}

-- the mailbox_fields are those of the first 128 bytes
front : (xs text : List ℕ) → length text ≡ 128 → mailbox_in (put xs 0 text) ≡ mailbox_in text
unfolding mailbox_in
front xs text len =
    rw (field-put 2 0 0 0 xs text refl (omega arith) (omega arith), field-put 2 2 2 0 xs text refl (omega arith) (omega arith), field-put 4 4 4 0 xs text refl (omega arith) (omega arith), field-put 4 8 8 0 xs text refl (omega arith) (omega arith), field-put 4 12 12 0 xs text refl (omega arith) (omega arith), field-put 4 64 64 0 xs text refl (omega arith) (omega arith)) refl

pub returns : goal.returns
unfolding mailbox_read
returns c = λ m xs fits room.
    let len : length (mailbox_bytes m) ≡ 128 = length-mailbox m in
    let whole : length (put xs 0 (mailbox_bytes m)) ≡ length xs = length-put xs 0 (mailbox_bytes m) (omega arith) in
    let long : nat_lt (length (put xs 0 (mailbox_bytes m))) 128 ≡ false = le-ltb _ _ (omega arith) in
    let again = front xs (mailbox_bytes m) len ∙ mailbox_fields m fits in
    (again, rw long (ap judged again))
