use Rattle.std.proofs.Common.{◌≡◌, length, refl, sym, subst, arith, slice_get, Some}
use Rattle.std.proofs.lemmas.List.{length-map, take_all}
use Rattle.std.proofs.lemmas.Option.{slice_get_read, slice_get_within}
use Rattle.tcmu_top.specs.Playing.{states_of}
use Rattle.tcmu_top.proofs.Keeping.{KeptFrom, kept_first, kept_more, kept_done, popped, popped_none}
use Rattle.tcmu_top.proofs.opening.keep_files.Goals as goal

pub loop-opened-init : goal.loop-opened-init
loop-opened-init g c =
    let set = c.args.set in
    record {
      kept = kept_first c.args.devices.now (states_of (λ d. d) set) (g.F.Files.state c.args.files.now) (length set) (omega (arith, c.requires.count));
      front = sym (take_all (length set) set (omega arith));
      count = c.requires.count;
      same = refl;
    }

pub loop-opened-preserved : goal.loop-opened-preserved
loop-opened-preserved g c =
    let ls = c.args.devices.now in
    let all = c.args.set in
    let ends = states_of (λ d. d) all in
    let rest = c.pop.new.self in
    let l = c.index-devices-len.result in
    let p = popped c.loop-opened.set rest all c.in-Some.opened c.loop-opened.invariant.front c.in-Some.ensures.rest (sym c.in-Some.ensures.last) in
    let within = slice_get_within ends (length rest) c.in-Some.opened p.2 in
    let at = c.len.ensures.value in
    let named = slice_get_read ls (length ls) c.len.result l refl (omega (arith, at, within, length-map all (λ e. e.1), c.loop-opened.invariant.count)) c.index-devices-len.is in
    record {
      kept = kept_more ls ends (g.F.Files.state c.args.files.now) (g.F.Files.state c.loop-opened.files) (g.F.Files.state c.keep_file.new.files) (length rest) l c.in-Some.opened
          (subst (λ n. slice_get ls n ≡ Some l) at named) p.2 (subst (KeptFrom ls ends (g.F.Files.state c.args.files.now) (g.F.Files.state c.loop-opened.files)) p.0 c.loop-opened.invariant.kept) c.keep_file.ensures.kept;
      front = p.1;
      count = c.loop-opened.invariant.count;
      same = omega (arith, c.keep_file.ensures.faults, c.loop-opened.invariant.same);
    }

pub returns-clause-kept : goal.returns-clause-kept
returns-clause-kept g c =
    let ls = c.args.devices.now in
    let ends = states_of (λ d. d) c.args.set in
    let none = popped_none c.loop-opened.set c.in_default.ensures.last in
    kept_done ls ends (g.F.Files.state c.args.files.now) (g.F.Files.state c.loop-opened.files) (subst (KeptFrom ls ends (g.F.Files.state c.args.files.now) (g.F.Files.state c.loop-opened.files)) none c.loop-opened.invariant.kept)
