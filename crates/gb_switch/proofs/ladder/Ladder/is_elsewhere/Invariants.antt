-- No interface so far, but for the one that is left out, has the device id.
use Rattle.std.proofs.Common.{◌≡◌, ◌≢◌, ◌<◌, ℕ, false}
use Rattle.gb_machine.specs.Host.{is_device}
use Rattle.gb_switch.specs.Climbing.{device_at}
use Rattle.gb_switch.proofs.ladder.Ladder.is_elsewhere.Given as goal

abbrev pub invariant-loop-other : goal.invariant-loop-other
invariant-loop-other l =
    (j : ℕ) → j < l.other → j ≢ l.intf → is_device l.device (device_at j l.self) ≡ false
