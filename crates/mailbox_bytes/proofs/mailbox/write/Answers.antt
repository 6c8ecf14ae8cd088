use Rattle.region_model.specs.Layout.{mailbox_bytes}
use Rattle.tcmu_types.proofs.ByteFields.{lengths, then_put}
use Rattle.mailbox_bytes.proofs.mailbox.write.Goals as goal

pub returns : goal.returns
unfolding mailbox_bytes
returns c =
    let w2 = then_put _ _ _ 0 2 _ _ c.put_u16.ensures c.put_u16-2.ensures (omega lengths) (omega lengths) in
    let w3 = then_put _ _ _ 0 4 _ _ w2 c.put_u32.ensures (omega lengths) (omega lengths) in
    let w4 = then_put _ _ _ 0 8 _ _ w3 c.put_u32-2.ensures (omega lengths) (omega lengths) in
    let w5 = then_put _ _ _ 0 12 _ _ w4 c.put_u32-3.ensures (omega lengths) (omega lengths) in
    let w6 = then_put _ _ _ 0 16 _ _ w5 c.put_zeros.ensures (omega lengths) (omega lengths) in
    let w7 = then_put _ _ _ 0 64 _ _ w6 c.put_u32-4.ensures (omega lengths) (omega lengths) in
    then_put _ _ _ 0 68 _ _ w7 c.put_zeros-2.ensures (omega lengths) (omega lengths)
