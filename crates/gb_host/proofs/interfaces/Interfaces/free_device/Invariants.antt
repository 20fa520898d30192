-- The device ids that were tried are taken.
use Rattle.std.proofs.Common.{◌≡◌, ◌-◌}
use Rattle.std.specs.List.{list_any}
use Rattle.gb_machine.specs.Host.{has_device_id}
use Rattle.gb_machine.specs.Lists.{first_free}
use Rattle.gb_host.proofs.interfaces.Interfaces.free_device.Given as goal

abbrev pub invariant-loop-device : goal.invariant-loop-device
invariant-loop-device l =
    first_free (λ d. list_any (has_device_id d) l.self) (32 - l.device) l.device
    ≡ first_free (λ d. list_any (has_device_id d) l.self) 30 2
