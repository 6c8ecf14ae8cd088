use Rattle.std.proofs.Common.{◌≡◌, ℕ, ◌+◌, ◌-◌, ◌≤◌, List, length, take, drop, ◌∙◌, ap, sym, arith, refl}
use Rattle.tcmu_types.specs.ByteFields.{put}
use Rattle.region_model.specs.Regions.{bytes_of}
use Rattle.tcmu_types.proofs.ByteFields.{put-nothing}
use Rattle.shm_region.proofs.Shown.{region_small, chunk_step, length-chunk}
use Rattle.shm_region.proofs.region.Region.read_range.Goals as goal

pub overflow_add-place : goal.overflow_add-place
overflow_add-place c =
    let inv = c.loop-done.invariant in
    let small = region_small c.args.self.now c.data_off-start.ensures.limits in
    omega (arith, inv.0, inv.1, c.requires.inside, small)

pub loop-done-init : goal.loop-done-init
loop-done-init c = (
  omega arith,
  c.requires.order,
  refl,
  sym (put-nothing c.args.into.now c.args.from) ∙ ap (λ (n : ℕ). put c.args.into.now c.args.from (take n (drop c.args.at (bytes_of c.args.self.now)))) (none c.args.from),
)
  where
    none : (n : ℕ) → 0 ≡ n - n
    none n = omega arith

pub loop-done-preserved : goal.loop-done-preserved
loop-done-preserved c =
    let inv = c.loop-done.invariant in
    let bytes : List ℕ = bytes_of c.args.self.now in
    let most = c.read_block-done.ensures.most in
    let inside : c.args.at + (c.loop-done.done - c.args.from) + c.read_block-done.result ≤ length bytes = omega (arith, inv.0, most, c.requires.inside) in
    let room : c.loop-done.done + c.read_block-done.result ≤ length c.args.into.now = omega (arith, most, c.requires.room) in (
      omega (arith, inv.0),
      most,
      length-chunk c.loop-done.into c.read_block-done.new.into bytes c.loop-done.done c.read_block-done.result _ (omega (arith, room, inv.2)) c.read_block-done.ensures.value ∙ inv.2,
      chunk_step c.args.into.now c.loop-done.into c.read_block-done.new.into bytes c.args.from c.loop-done.done c.args.at c.read_block-done.result _ inv.0 room refl inside inv.3 c.read_block-done.ensures.value,
    )

pub loop-done-preserved-then-place-start : goal.loop-done-preserved-then-place-start
loop-done-preserved-then-place-start c =
    let inv = c.loop-done.invariant in
    let bytes : List ℕ = bytes_of c.args.self.now in
    let most = c.read_front-done.ensures.most in
    let inside : c.args.at + (c.loop-done.done - c.args.from) + c.read_front-done.result ≤ length bytes = omega (arith, inv.0, most, c.requires.inside) in
    let room : c.loop-done.done + c.read_front-done.result ≤ length c.args.into.now = omega (arith, most, c.requires.room) in (
      omega (arith, inv.0),
      most,
      length-chunk c.loop-done.into c.read_front-done.new.into bytes c.loop-done.done c.read_front-done.result _ (omega (arith, room, inv.2)) c.read_front-done.ensures.value ∙ inv.2,
      chunk_step c.args.into.now c.loop-done.into c.read_front-done.new.into bytes c.args.from c.loop-done.done c.args.at c.read_front-done.result _ inv.0 room refl inside inv.3 c.read_front-done.ensures.value,
    )
