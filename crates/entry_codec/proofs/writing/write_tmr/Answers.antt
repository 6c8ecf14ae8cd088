use Rattle.std.proofs.Common.{◌≡◌, ℕ, ◌+◌, ◌-◌, ◌*◌, ◌∙◌, ap, arith, length}
use Rattle.tcmu_model.specs.Lengths.{tmr_length}
use Rattle.region_model.specs.Layout.{entry_header}
use Rattle.tcmu_types.specs.ByteFields.{le, put}
use Rattle.tcmu_types.specs.Overwriting.{zeros}
use Rattle.entry_codec.proofs.Whole.{tmr_written}
use Rattle.entry_codec.proofs.writing.write_tmr.Goals as goal

pub returns : goal.returns
returns c =
    let count : c.len-count.result ≡ length c.args.ids.now.items = c.len-count.ensures in
    let len : c.round_up-len.result ≡ tmr_length c.len-count.result = c.round_up-len.ensures in
    let o = 128 + c.args.at in
    tmr_written c.args.front.now _ _ _ _ _ _ _ c.args.at c.args.kind c.args.ids.now.items
    (omega arith)
    (c.put_header.ensures ∙ ap (λ (n : ℕ). put c.args.front.now o (entry_header 2 n 0)) (len ∙ ap tmr_length count))
    c.put_u8.ensures c.put_zeros.ensures
    (c.put_u32.ensures ∙ ap (λ (n : ℕ). put c.put_zeros.new.into (o + 12) (le 4 n)) count)
    c.put_zeros-2.ensures c.put_ids.ensures
    (c.put_zeros-3.ensures ∙ ap (λ (n : ℕ). put c.put_ids.new.front (o + (32 + 2 * c.len-count.result)) (zeros (n - (32 + 2 * c.len-count.result)))) len
    ∙ ap (λ (n : ℕ). put c.put_ids.new.front (o + (32 + 2 * n)) (zeros (tmr_length n - (32 + 2 * n)))) count)
