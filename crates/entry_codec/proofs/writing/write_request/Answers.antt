use Rattle.std.proofs.Common.{◌≡◌, ℕ, ◌+◌, ◌-◌, ◌*◌, ◌∙◌, ap, arith, List, length}
use Rattle.tcmu_model.specs.Lengths.{round_up}
use Rattle.region_model.specs.Layout.{command_head, command_bytes}
use Rattle.tcmu_types.specs.ByteFields.{put, padded}
use Rattle.tcmu_types.specs.Overwriting.{zeros}
use Rattle.entry_codec.proofs.Whole.{request_written}
use Rattle.entry_codec.proofs.writing.write_request.Goals as goal

pub returns : goal.returns
returns c =
    let cdb_is : c.as_bytes-cdb.result.now ≡ c.args.cdb.now = c.as_bytes-cdb.ensures.value in
    let same : length c.as_bytes-cdb.result.now ≡ length c.args.cdb.now = ap length cdb_is in
    let len : c.round_up-cdb_len.result ≡ round_up (length c.as_bytes-cdb.result.now) = c.round_up-cdb_len.ensures in
    let count : c.len-count.result ≡ length c.args.iovs.now.items = c.len-count.ensures in
    request_written c.args.front.now _ _ _ _ c.args.at c.args.id c.args.blocks c.max-place.result c.args.iovs.now.items c.as_bytes-cdb.result.now
    c.max-place.ensures (omega arith) (omega arith)
    (c.put_command_head.ensures
    ∙ ap (λ (n : ℕ). put c.args.front.now (128 + c.args.at) (command_head (c.max-place.result + n) c.args.id c.len-count.result (128 + c.args.at + c.max-place.result))) len
    ∙ ap (λ (n : ℕ). put c.args.front.now (128 + c.args.at) (command_head (c.max-place.result + round_up (length c.as_bytes-cdb.result.now)) c.args.id n (128 + c.args.at + c.max-place.result))) count)
    c.put_iovs.ensures
    (c.put_zeros.ensures ∙ ap (λ (n : ℕ). put c.put_iovs.new.front (128 + c.args.at + (48 + 16 * n)) (zeros (c.max-place.result - (48 + 16 * n)))) count)
    (c.put_padded.ensures ∙ ap (λ (n : ℕ). put c.put_zeros.new.into (128 + c.args.at + c.max-place.result) (padded n c.as_bytes-cdb.result.now)) len)
    ∙ ap (λ (w : List ℕ). put c.args.front.now (128 + c.args.at) (command_bytes c.args.at c.args.id c.args.blocks c.args.iovs.now.items w)) cdb_is
