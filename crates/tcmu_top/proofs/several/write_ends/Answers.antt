use Rattle.std.proofs.Common.{◌∙◌, ◌<◌, ◌^◌, suc, length, take, drop, refl, sym, arith}
use Rattle.std.proofs.lemmas.Option.{slice_get_read}
use Rattle.tcmu_model.specs.Device.{Device}
use Rattle.tcmu_model.specs.Sound.{IsSound}
use Rattle.text_model.specs.Several.{ends_text}
use Rattle.tcmu_top.specs.Playing.{states_of}
use Rattle.tcmu_top.proofs.Sets.{states_get}
use Rattle.tcmu_top.proofs.Telling.{on_err, front_more, gained_more, gained_as}
use Rattle.tcmu_top.proofs.Whole.{last_text, ends_more, ends_at}
use Rattle.tcmu_top.proofs.several.write_ends.Goals as goal
use Rattle.tcmu_types.proofs.Everies.{every_at}

pub open_count-count-requires-clause-sound : goal.open_count-count-requires-clause-sound
open_count-count-requires-clause-sound g c =
    every_at (λ (d : Device). IsSound d.state) (states_of g.P.Path.device c.args.set.now) c.loop-at.at (g.P.Path.device c.get.result.now) c.requires.sound
    (states_get g.P.Path.device c.args.set.now c.loop-at.at c.get.result.now c.get.ensures)

pub open_count-count-requires-clause-few : goal.open_count-count-requires-clause-few
open_count-count-requires-clause-few g c =
    every_at (λ (d : Device). d.state.accepted < 2 ^ 63) (states_of g.P.Path.device c.args.set.now) c.loop-at.at (g.P.Path.device c.get.result.now) c.requires.few
    (states_get g.P.Path.device c.args.set.now c.loop-at.at c.get.result.now c.get.ensures)

pub returns-in_err-write_end-clause-err : goal.returns-in_err-write_end-clause-err
returns-in_err-write_end-clause-err g c =
    let ls = c.args.devices.now in
    let i = c.loop-at.at in
    let ds = states_of g.P.Path.device c.args.set.now in
    let l = c.index-devices-at.result in
    let d = g.P.Path.device c.get.result.now in
    let named = slice_get_read ls (length ls) i l refl (omega (arith, c.loop-at-test.true, c.len-at-end.ensures.value, c.requires.lines)) c.index-devices-at.is in
    let found = states_get g.P.Path.device c.args.set.now i c.get.result.now c.get.ensures in
    let last = rw c.open_count-count.ensures at c.in_err-write_end.ensures.err in
    on_err c.from_residual.result (front_more _ _ _ (ends_text (take i ls) (take i ds)) (last_text l d) (ends_text (drop (suc i) ls) (drop (suc i) ds)) _
    (ends_at ls ds i l d named found) c.loop-at.invariant.gained last)

pub loop-at-preserved : goal.loop-at-preserved
loop-at-preserved g c =
    let ls = c.args.devices.now in
    let i = c.loop-at.at in
    let ds = states_of g.P.Path.device c.args.set.now in
    let l = c.index-devices-at.result in
    let d = g.P.Path.device c.get.result.now in
    let named = slice_get_read ls (length ls) i l refl (omega (arith, c.loop-at-test.true, c.len-at-end.ensures.value, c.requires.lines)) c.index-devices-at.is in
    let found = states_get g.P.Path.device c.args.set.now i c.get.result.now c.get.ensures in
    let last = rw c.open_count-count.ensures at c.in_ok-write_end.ensures.ok in
    record {
      gained = gained_as _ _ _ _ (sym (ends_more ls ds i l d named found)) (gained_more _ _ _ (ends_text (take i ls) (take i ds)) (last_text l d) c.loop-at.invariant.gained last);
      calm = c.in_ok-write_end.ensures.faults.calm ∙ c.loop-at.invariant.calm;
    }
