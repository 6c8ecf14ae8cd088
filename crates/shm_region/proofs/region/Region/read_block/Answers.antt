use Rattle.std.proofs.Common.{◌≡◌, ℕ, ◌+◌, ◌-◌, ◌%◌, ◌≤◌, take, drop, ◌∙◌, ap, sym, arith}
use Rattle.tcmu_types.specs.ByteFields.{put}
use Rattle.tcmu_types.specs.Overwriting.{zeros}
use Rattle.region_model.specs.Regions.{size_of}
use Rattle.shm_region.proofs.Shown.{block_chunk, bytes_same, zeros_same, zero_chunk}
use Rattle.shm_region.proofs.region.Region.read_block.Goals as goal

pub returns-in-Some-clause-value : goal.returns-in-Some-clause-value
returns-in-Some-clause-value c =
    let skip : ℕ = (c.args.at - c.data_off.result) % c.block_len-size.result in
    let whole : skip + c.min-count.result - skip ≡ c.min-count.result = omega arith in
    c.put_bytes.ensures
    ∙ ap (λ (n : ℕ). put c.args.into.now c.args.done (take n (drop skip c.in-Some.bytes.now))) whole
    ∙ ap (put c.args.into.now c.args.done)
    (sym (block_chunk c.args.self.now c.args.at c.min-count.result (c.args.end - c.args.done) c.data_off.result c.block_len-size.result c.in-Some.bytes.now
    c.data_off.ensures.limits c.data_off.ensures.value c.block_len-size.ensures.value c.requires.area c.requires.inside (omega (arith, c.requires.left)) c.min-count.ensures
    (bytes_same c.args.self.now _ c.in-Some.bytes.now c.in-Some.ensures.value)))

pub returns-in-None-clause-value : goal.returns-in-None-clause-value
returns-in-None-clause-value c =
    let skip : ℕ = (c.args.at - c.data_off.result) % c.block_len-size.result in
    let size : c.block_len-size.result ≡ size_of c.args.self.now = c.block_len-size.ensures.value in
    let fits : c.min-count.result ≤ size_of c.args.self.now - skip = omega (arith, size, c.min-count.ensures) in
    c.put_zeros.ensures
    ∙ ap (put c.args.into.now c.args.done)
    (sym (block_chunk c.args.self.now c.args.at c.min-count.result (c.args.end - c.args.done) c.data_off.result c.block_len-size.result (zeros (size_of c.args.self.now))
    c.data_off.ensures.limits c.data_off.ensures.value c.block_len-size.ensures.value c.requires.area c.requires.inside (omega (arith, c.requires.left)) c.min-count.ensures
    (zeros_same c.args.self.now _ c.in-None.ensures.value)
    ∙ zero_chunk (size_of c.args.self.now) skip c.min-count.result fits))
