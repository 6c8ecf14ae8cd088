use Rattle.std.proofs.Common.{◌≡◌, ℕ, ◌∙◌, ap, arith, List, ◌+◌, replicate}
use Rattle.std.proofs.lemmas.List.{take_at}
use Rattle.region_model.specs.Layout.{mailbox_bytes}
use Rattle.tcmu_types.specs.ByteFields.{put}
use Rattle.shm_region.proofs.Opening.{put-replicate}
use Rattle.shm_region.proofs.region.new_front.Goals as goal

pub returns : goal.returns
returns c =
    let size : ℕ = 4096 + c.args.ring in
    let items : c.in_ok-front.front.items ≡ replicate size 0 = c.in_ok-front.ensures.items_if_clones_equal (λ y e. e) in
    let old : c.deref_mut.result.now ≡ replicate size 0 = c.deref_mut.ensures.value ∙ items in
    take_at c.write.new.into _ c.in_ok-front.front.len (omega arith)
    ∙ c.write.ensures
    ∙ ap (λ (w : List ℕ). put w 0 (mailbox_bytes (record { version = 2; flags = c.flag_bits.result; cmdr_off = 128; cmdr_size = c.args.ring; head = 0; tail = 0 }))) old
    ∙ ap (λ (f : ℕ). put (replicate size 0) 0 (mailbox_bytes (record { version = 2; flags = f; cmdr_off = 128; cmdr_size = c.args.ring; head = 0; tail = 0 }))) c.flag_bits.ensures
    ∙ put-replicate size _
