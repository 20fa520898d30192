-- None of the interfaces that were looked at is to have the device id.
use Rattle.std.proofs.Common.{◌≡◌, drop}
use Rattle.std.specs.List.{list_any}
use Rattle.gb_machine.specs.Host.{has_device_id}
use Rattle.gb_host.proofs.interfaces.Interfaces.has_device.Given as goal

abbrev pub invariant-loop-interface : goal.invariant-loop-interface
invariant-loop-interface l =
    list_any (has_device_id l.device) (drop l.interface-index l.interface-items)
    ≡ list_any (has_device_id l.device) l.interface-items
