-- The first that isn't taken is found.
use Rattle.std.proofs.Common.{◌≡◌, ◌+◌, ◌-◌, suc, true, false, sym, ◌∙◌, arith}
use Rattle.std.specs.List.{list_any}
use Rattle.gb_machine.specs.Host.{has_device_id}
use Rattle.gb_formats.proofs.FirstFree.{free-here, free-next, free-none}
use Rattle.gb_host.proofs.interfaces.Interfaces.free_device.Goals as goal

pub returns-then-not-has_device : goal.returns-then-not-has_device
returns-then-not-has_device c =
    let below = c.loop-device-test.true in
    let u : 32 - c.loop-device.device ≡ suc (32 - (c.loop-device.device + 1)) = omega (
      arith,
      below,
    ) in
    let free : c.has_device.result ≡ false = search in
    sym (free-here (λ d. list_any (has_device_id d) c.args.self.now) (32 - c.loop-device.device)
    (32 - (c.loop-device.device + 1)) c.loop-device.device u (sym c.has_device.ensures ∙ free))
    ∙ c.loop-device.invariant

pub loop-device-preserved : goal.loop-device-preserved
loop-device-preserved c =
    let below = c.loop-device-test.true in
    let u : 32 - c.loop-device.device ≡ suc (32 - (c.loop-device.device + 1)) = omega (
      arith,
      below,
    ) in
    let taken : c.has_device.result ≡ true = search in
    sym (free-next (λ d. list_any (has_device_id d) c.args.self.now) (32 - c.loop-device.device)
    (32 - (c.loop-device.device + 1)) c.loop-device.device u (sym c.has_device.ensures ∙ taken))
    ∙ c.loop-device.invariant

pub returns : goal.returns
returns c =
    let over = c.loop-device-test.false in
    sym (free-none (λ d. list_any (has_device_id d) c.args.self.now) (32 - c.loop-device.device)
    c.loop-device.device (omega (arith, over))) ∙ c.loop-device.invariant
