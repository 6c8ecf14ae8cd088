use Rattle.std.proofs.Common.{◌≡◌, ℕ, List, IfOk, sym, subst}
use Rattle.tcmu_types.specs.ByteFields.{put}
use Rattle.tcmu_types.specs.declared.dump.ItemKind.{ItemKind}
use Rattle.ring_laws.specs.PictureRead.{without_ids}
use Rattle.ring_path.proofs.Items.{zero_word}
use Rattle.ring_path.proofs.state.showing_items.without_ids.Goals as goal

pub returns-in-Cmd : goal.returns-in-Cmd
returns-in-Cmd c =
    subst (λ (k : ItemKind). IfOk c.with_zeros.result (λ copy. copy.items ≡ without_ids k c.args.entry.now)) (sym c.in-Cmd.is)
    (subst (λ (bs : List ℕ). IfOk c.with_zeros.result (λ copy. copy.items ≡ put c.args.entry.now 4 bs)) (sym zero_word) c.with_zeros.ensures)
