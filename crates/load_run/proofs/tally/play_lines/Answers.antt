use Rattle.std.proofs.Common.{◌+◌, drop, arith}
use Rattle.std.proofs.lemmas.Result.{on_ok_weaker}
use Rattle.load_run.proofs.Tallying.{playing_first, playing_more, playing_done, line_at, none_left}
use Rattle.load_run.proofs.tally.play_lines.Goals as goal

pub loop-line-init : goal.loop-line-init
loop-line-init g c =
    record {
      sofar = playing_first g.P.Path.relation (g.P.Path.device c.args.path.now) c.args.lines.now _ c.requires.sound;
      fit = c.requires.fit;
      accepts = record { least = omega arith; most = omega arith };
    }

pub play_line-requires-clause-few : goal.play_line-requires-clause-few
play_line-requires-clause-few g c = omega (arith, c.requires.few, c.loop-line.invariant.accepts.most, c.loop-line-test.true)

pub play_line-requires-clause-sound : goal.play_line-requires-clause-sound
play_line-requires-clause-sound g c = c.loop-line.invariant.sofar.sound

pub play_line-requires-clause-fit : goal.play_line-requires-clause-fit
play_line-requires-clause-fit g c =
    let at = line_at c.args.lines.now c.loop-line.line-index c.line-item.result c.loop-line-test.true c.line-item.is in
    (rw at at c.loop-line.invariant.fit).0.what

pub loop-line-preserved : goal.loop-line-preserved
loop-line-preserved g c =
    let ls = c.args.lines.now in
    let i = c.loop-line.line-index in
    let at = line_at ls i c.line-item.result c.loop-line-test.true c.line-item.is in
    let so = rw at at c.loop-line.invariant.sofar in
    let fit = rw at at c.loop-line.invariant.fit in
    record {
      sofar = playing_more g.P.Path.relation _ _ _ ls (drop (i + 1) ls) c.line-item.result _ _ _ fit.0.device so c.in_ok-play_line.ensures.made;
      fit = fit.1;
      accepts = record {
        least = omega (arith, c.loop-line.invariant.accepts.least, c.in_ok-play_line.ensures.accepts.least);
        most = omega (arith, c.loop-line.invariant.accepts.most, c.in_ok-play_line.ensures.accepts.most);
      };
    }

pub drain-requires-clause-few : goal.drain-requires-clause-few
drain-requires-clause-few g c = omega (arith, c.requires.few, c.loop-line.invariant.accepts.most, c.loop-line-test.false)

pub drain-requires-clause-sound : goal.drain-requires-clause-sound
drain-requires-clause-sound g c = c.loop-line.invariant.sofar.sound

pub returns-clause-made : goal.returns-clause-made
returns-clause-made g c =
    let none = none_left c.args.lines.now c.loop-line.line-index c.loop-line-test.false in
    let so = rw none at c.loop-line.invariant.sofar in
    on_ok_weaker c.drain.result (λ h. playing_done g.P.Path.relation _ _ _ c.args.lines.now _ _ _ so h) c.drain.ensures.made
