use Rattle.std.proofs.Common.{◌≡◌, map, take}
use Rattle.device_set.specs.Sets.{names}
use Rattle.tcmu_top.specs.Opened.{AreOpen}
use Rattle.tcmu_top.specs.Playing.{states_of}
use Rattle.tcmu_top.proofs.opening.open_devices.Given as goal

abbrev pub invariant-loop-device : goal.invariant-loop-device
invariant-loop-device g l = record {
  opened : AreOpen (g.F.Files.state l.fn.files) (g.F.Files.state l.files) (take l.device-index l.devices) (states_of (λ d. d) l.set);
  named : names l.set ≡ map (λ d. d.name) (take l.device-index l.devices);
  calm : g.F.Files.faults l.files ≡ g.F.Files.faults l.fn.files;
}
