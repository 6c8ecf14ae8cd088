use Rattle.std.proofs.Common.{◌∙◌, ℕ, List, length, take, sym, refl, ap, subst, arith}
use Rattle.std.proofs.lemmas.List.{length-take-le}
use Rattle.std.proofs.lemmas.Option.{slice_get_read}
use Rattle.tcmu_model.specs.Device.{Device}
use Rattle.device_set.specs.Sets.{names}
use Rattle.tcmu_top.specs.Playing.{states_of}
use Rattle.tcmu_top.specs.Opened.{KeepsEach, Unopened}
use Rattle.tcmu_top.proofs.Fetching.{name_new, opened_more, names_more, names_count}
use Rattle.tcmu_top.proofs.GivenBack.{unopened}
use Rattle.tcmu_top.proofs.opening.open_devices.Goals as goal

pub open_next-requires-clause-new : goal.open_next-requires-clause-new
open_next-requires-clause-new g c =
    let ls = c.args.devices.now in
    let i = c.loop-device.device-index in
    let l = c.device-item.result in
    let found = slice_get_read ls (length ls) i l refl c.loop-device-test.true c.device-item.is in
    λ κs within. name_new ls i l (names c.loop-device.set) found c.requires.names c.loop-device.invariant.named

pub open_next-requires-clause-room : goal.open_next-requires-clause-room
open_next-requires-clause-room g c =
    λ κs within. omega (arith, names_count c.args.devices.now c.loop-device.device-index c.loop-device.set c.loop-device-test.true c.loop-device.invariant.named, c.requires.few, c.loop-device-test.true)

pub slice_bounds-keep_files-end : goal.slice_bounds-keep_files-end
slice_bounds-keep_files-end g c =
    let ls = c.args.devices.now in
    let count = names_count ls c.loop-device.device-index c.loop-device.set c.loop-device-test.true c.loop-device.invariant.named in
    let all = c.len.ensures.value ∙ ap (λ (x : List (List ℕ × Device)). length x) c.in-Err.ensures.same ∙ count in
    sym (length-take-le c.len.result ls (omega (arith, all, c.loop-device-test.true)))

pub keep_files-requires-clause-count : goal.keep_files-requires-clause-count
keep_files-requires-clause-count g c =
    let ls = c.args.devices.now in
    let count = names_count ls c.loop-device.device-index c.loop-device.set c.loop-device-test.true c.loop-device.invariant.named in
    let all = c.len.ensures.value ∙ ap (λ (x : List (List ℕ × Device)). length x) c.in-Err.ensures.same ∙ count in
    λ κs within. length-take-le c.len.result ls (omega (arith, all, c.loop-device-test.true)) ∙ c.len.ensures.value

pub returns-in-Err-clause-refused : goal.returns-in-Err-clause-refused
returns-in-Err-clause-refused g c =
    let ls = c.args.devices.now in
    let i = c.loop-device.device-index in
    let set = c.loop-device.set in
    let files = g.F.Files.state c.args.files.now in
    let new = g.F.Files.state c.open_next.new.files in
    let last = g.F.Files.state c.keep_files.new.files in
    let faults = g.F.Files.faults c.args.files.now in
    let count = names_count ls i set c.loop-device-test.true c.loop-device.invariant.named in
    let all = c.len.ensures.value ∙ ap (λ (x : List (List ℕ × Device)). length x) c.in-Err.ensures.same ∙ count in
    let kept = subst (λ (x : List (List ℕ × Device)). KeepsEach (take c.len.result ls) (states_of (λ d. d) x) new last) c.in-Err.ensures.same c.keep_files.ensures.kept in
    let front = subst (λ (n : ℕ). KeepsEach (take n ls) (states_of (λ d. d) set) new last) all kept in
    subst (λ (n : ℕ). Unopened c.in-Err.fault ls files last faults n) (sym c.keep_files.ensures.faults)
    (unopened c.in-Err.fault files (g.F.Files.state c.loop-device.files) new last faults (g.F.Files.faults c.loop-device.files) (g.F.Files.faults c.open_next.new.files) ls i c.device-item.result (states_of (λ d. d) set)
    c.loop-device-test.true c.device-item.is c.requires.files c.loop-device.invariant.opened (omega (arith, c.loop-device.invariant.calm)) c.in-Err.ensures.faults c.in-Err.ensures.refused front)

pub loop-device-preserved : goal.loop-device-preserved
loop-device-preserved g c =
    let ls = c.args.devices.now in
    let i = c.loop-device.device-index in
    let l = c.device-item.result in
    let set = c.loop-device.set in
    let more = c.in_default.ensures.opened in
    record {
      opened = opened_more (g.F.Files.state c.args.files.now) (g.F.Files.state c.loop-device.files) (g.F.Files.state c.open_next.new.files) ls i l set c.open_next.new.set more.0 c.loop-device-test.true c.device-item.is c.requires.files c.loop-device.invariant.opened more.1 more.2;
      named = names_more ls i l set c.open_next.new.set more.0 c.loop-device-test.true c.device-item.is c.loop-device.invariant.named more.2;
      calm = c.in_default.ensures.calm ∙ c.loop-device.invariant.calm;
    }
