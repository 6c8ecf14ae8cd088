use Rattle.std.proofs.Common.{◌∙◌, List, ℕ, length, take, drop, ap}
use Rattle.media.proofs.InMemory.{reads_here}
use Rattle.media.proofs.memory.MemMediumMedium.read.Goals as goal

pub returns-clause-reads : goal.returns-clause-reads
returns-clause-reads c =
    let out = c.copy_out.new.into in
    reads_here c.args.at c.self.inside.blocks c.self.inside.calls _ c.self.inside.bytes.items out c.args.self.now
    c.self.view_is c.saturating_add-self-inside.ensures
    (c.copy_out.ensures ∙ ap (λ (ys : List ℕ). take (length out) (drop c.args.at ys)) c.as_slice.ensures.value)
