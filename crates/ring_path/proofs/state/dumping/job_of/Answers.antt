use Rattle.std.proofs.Common.{Option, sym, ap, ◌∙◌}
use Rattle.tcmu_types.proofs.Firsts.{first_of_none}
use Rattle.region_model.specs.HandSteps.{hand_has}
use Rattle.region_model.specs.Sides.{InHand}
use Rattle.user_lib.specs.Given.{parked_job}
use Rattle.ring_path.specs.Dumped.{job_or}
use Rattle.ring_path.proofs.state.dumping.job_of.Goals as goal

pub returns-in-None : goal.returns-in-None
returns-in-None c =
    c.parked.ensures ∙ sym (ap (λ (o : Option InHand). job_or o (parked_job c.args.id c.args.user.now.jobs)) (first_of_none (hand_has c.args.serial) c.args.hand.now.items c.in-None.ensures))
