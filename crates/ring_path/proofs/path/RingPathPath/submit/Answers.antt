use Rattle.std.proofs.Common.{ℕ, List, ap, ◌∙◌}
use Rattle.ring_path.specs.Dumped.{with_length}
use Rattle.ring_path.proofs.Lengths.{lengths_accepted}
use Rattle.ring_path.proofs.path.RingPathPath.submit.Goals as goal

pub invariant_of-self-2 : goal.invariant_of-self-2
invariant_of-self-2 g c =
    lengths_accepted c.self.inside.lengths.items c.keep_length.new.lengths.items c.self.inside.state.state c.submit.new.self.state c.args.command.now c.in_ok-answer.answer
    (c.keep_length.ensures ∙ ap (λ (xs : List ℕ). with_length xs c.args.command.now c.in_ok-answer.answer) c.reserve.ensures.items) c.in_ok-answer.ensures.answer c.in_ok-answer.ensures.after c.self.invariant
