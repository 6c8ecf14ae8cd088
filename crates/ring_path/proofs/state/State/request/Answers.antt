use Rattle.std.proofs.Common.{◌≡◌, None, sym, ap, ◌∙◌, subst}
use Rattle.region_model.specs.Sides.{JobState}
use Rattle.tcmu_model.specs.Events.{command_out}
use Rattle.tcmu_path.specs.Requests.{IsRequest}
use Rattle.ring_path.specs.Devices.{RingDevice}
use Rattle.ring_path.specs.Requested.{HasData, data_sent}
use Rattle.ring_path.proofs.Handles.{has_data, is_request, none_out}
use Rattle.ring_path.proofs.state.State.request.Goals as goal

pub returns-in_default : goal.returns-in_default
returns-in_default c =
    let a = c.self.inside in
    subst (λ (k : RingDevice). command_out k.state c.args.serial ≡ None) c.self.view_is
    (none_out a.region a.target a.user a.hand.items a.told.state a.told.lists c.args.serial c.self.invariant.stands c.in_default.ensures)

pub data_of-requires : goal.data_of-requires
data_of-requires c =
    let a = c.self.inside in
    subst HasData (sym c.job-job.ensures)
    (has_data a.region a.target a.user a.hand.items a.told.state a.told.lists c.args.serial c.in-Some.asked.now c.self.invariant.stands c.in-Some.ensures)

pub returns : goal.returns
returns c =
    let a = c.self.inside in
    let cdb = c.copy.ensures ∙ ap (λ (j : JobState). j.cdb) c.job.view_is ∙ ap (λ (j : JobState). j.cdb) c.job-job.ensures in
    let sent = c.in_ok-sent.ensures ∙ ap data_sent c.job-job.ensures in
    let in_len = ap (λ (j : JobState). j.in_len) c.job.view_is ∙ ap (λ (j : JobState). j.in_len) c.job-job.ensures in
    subst (λ (k : RingDevice). IsRequest k.state c.args.serial (record { cdb = c.copy.result; sent = c.in_ok-sent.sent.items; in_len = c.job.inside.in_len })) c.self.view_is
    (is_request a.region a.target a.user a.hand.items a.told.state a.told.lists c.args.serial c.in-Some.asked.now c.copy.result c.in_ok-sent.sent.items c.job.inside.in_len c.self.invariant.stands c.in-Some.ensures cdb sent in_len)
