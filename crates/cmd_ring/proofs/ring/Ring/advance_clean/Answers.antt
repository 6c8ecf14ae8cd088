use Rattle.std.proofs.Common.{◌≤◌, refl}
use Rattle.cmd_ring.proofs.Rest.{head-stays, advanced-sound}
use Rattle.cmd_ring.proofs.ring.Ring.advance_clean.Goals as goal

pub invariant_of-self : goal.invariant_of-self
invariant_of-self c = advanced-sound _ _ _ _ (rw (← c.self.view_is) at c.requires.most) c.requires.words c.self.invariant

pub returns : goal.returns
returns c =
    let n : c.args.len ≤ c.self.inside.used = rw (← c.self.view_is) at c.requires.most in
    let h = head-stays c.self.inside.size c.self.inside.cleaned c.self.inside.used c.args.len n in
    rw (← c.self.view_is) (rw h refl)
