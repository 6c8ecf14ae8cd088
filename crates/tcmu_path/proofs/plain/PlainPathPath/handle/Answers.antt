use Rattle.tcmu_path.specs.Requests.{IsRequest}
use Rattle.tcmu_path.proofs.Keeping.{keeps_handle}
use Rattle.tcmu_path.proofs.plain.PlainPathPath.handle.Goals as goal

pub invariant_of-self-2 : goal.invariant_of-self-2
invariant_of-self-2 g c =
    let r : IsRequest c.self.inside.state c.args.serial c.in-Some.request = rw c.in-Some.is at c.in_ok-request.ensures in
    keeps_handle c.self.inside.state c.keep.new.self c.args.serial c.in-Some.request c.in_ok-reply.reply c.self.invariant r c.keep.ensures.reply c.in_ok-reply.ensures.fits c.keep.ensures.after
