use Rattle.std.proofs.Common.{subst}
use Rattle.std.proofs.lemmas.Result.{err_from_is_err_and}
use Rattle.tcmu_model.specs.Device.{Device}
use Rattle.tcmu_top.specs.Opened.{Returns}
use Rattle.tcmu_top.proofs.GivenBack.{unmade, unadded}
use Rattle.tcmu_top.proofs.opening.open_next.Goals as goal

pub returns-in_err-opened-clause-refused : goal.returns-in_err-opened-clause-refused
returns-in_err-opened-clause-refused g c =
    let p = err_from_is_err_and c.from_residual.result c.from_residual.ensures.1 in
    let old = g.F.Files.state c.args.files.now in
    let new = g.F.Files.state c.open_device.new.files in
    rw (p.1, p.2) (unmade _ c.args.device.now old new (g.F.Files.faults c.args.files.now) (g.F.Files.faults c.open_device.new.files) c.in_err-opened.ensures.refused)

pub returns-in-Err-clause-refused : goal.returns-in-Err-clause-refused
returns-in-Err-clause-refused g c =
    let l = c.args.device.now in
    let mid = g.F.Files.state c.open_device.new.files in
    let new = g.F.Files.state c.keep_file.new.files in
    let kept = subst (λ (d : Device). Returns l.config.kind d.medium mid new) c.in-Err.ensures.given_back c.keep_file.ensures.kept in
    unadded l c.in_ok-opened.opened (g.F.Files.state c.args.files.now) mid new c.in_ok-opened.ensures.opened kept
