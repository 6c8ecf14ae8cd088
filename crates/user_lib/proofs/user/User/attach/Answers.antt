use Rattle.ring_laws.proofs.user_over_any_bytes.AnyAttached.{attached_pages, attached_sound}
use Rattle.user_lib.proofs.Kept.{attached_fresh, attached_kept}
use Rattle.user_lib.proofs.OnDevice.{attaches, attaches_none}
use Rattle.user_lib.proofs.user.User.attach.Goals as goal

pub returns-in-Err-clause-no_device : goal.returns-in-Err-clause-no_device
returns-in-Err-clause-no_device c = attaches_none c.args.region.now c.in-Err.fault c.in-Err.ensures.err

pub invariant_of-user : goal.invariant_of-user
invariant_of-user c = attached_kept c.args.region.now c.in-Ok.books c.in-Ok.ensures.ok

pub returns-in-Ok-clause-ring : goal.returns-in-Ok-clause-ring
returns-in-Ok-clause-ring c = (attached_sound c.args.region.now c.in-Ok.books c.in-Ok.ensures.ok).1

pub returns-in-Ok-clause-pages : goal.returns-in-Ok-clause-pages
returns-in-Ok-clause-pages c = attached_pages c.args.region.now c.in-Ok.books c.in-Ok.ensures.ok

pub returns-in-Ok-clause-fresh : goal.returns-in-Ok-clause-fresh
returns-in-Ok-clause-fresh c = attached_fresh c.args.region.now c.in-Ok.books c.in-Ok.ensures.ok

pub returns-in-Ok-clause-device : goal.returns-in-Ok-clause-device
returns-in-Ok-clause-device c = attaches c.args.region.now c.in-Ok.books c.in-Ok.ensures.ok
