-- The interface is as it was, where there is one.
use Rattle.std.proofs.Common.{◌≡◌, ap, refl, sym, option_copied, subst}
use Rattle.gb_host.proofs.Restoring.{changed-back, changed-keeps, none-back}
use Rattle.gb_host.specs.Changes.{changed}
use Rattle.gb_host.specs.declared.interfaces.Change.TheVariants as change
use Rattle.gb_host.proofs.interfaces.Interfaces.back.Goals as goal
use Rattle.gb_machine.specs.Host.{is_intf}

pub returns-in_default : goal.returns-in_default
returns-in_default c =
    none-back (is_intf c.args.intf) (changed c.args.change) (changed c.args.change) c.args.self.now
    (option_copied c.at.result)
    (changed-keeps c.args.intf c.args.change) c.at.ensures.found (ap option_copied c.in_default.is)

pub returns-in-Device : goal.returns-in-Device
returns-in-Device c =
    changed-back c.args.intf c.args.change (change.Device c.in-Some.interface.now.device)
    c.args.self.now (option_copied c.at.result) c.in-Some.interface.now
    c.at.ensures.found (ap option_copied c.in-Some.is) (subst (λ k. changed (change.Device
    c.in-Some.interface.now.device) (changed k c.in-Some.interface.now)
    ≡ c.in-Some.interface.now) (sym c.in-Device.is) refl)

pub returns-in-HasDevice : goal.returns-in-HasDevice
returns-in-HasDevice c =
    changed-back c.args.intf c.args.change (change.HasDevice c.in-Some.interface.now.has_device)
    c.args.self.now (option_copied c.at.result) c.in-Some.interface.now
    c.at.ensures.found (ap option_copied c.in-Some.is) (subst (λ k. changed (change.HasDevice
    c.in-Some.interface.now.has_device) (changed k c.in-Some.interface.now)
    ≡ c.in-Some.interface.now) (sym c.in-HasDevice.is) refl)

pub returns-in-Size : goal.returns-in-Size
returns-in-Size c =
    changed-back c.args.intf c.args.change (change.Size c.in-Some.interface.now.size)
    c.args.self.now (option_copied c.at.result) c.in-Some.interface.now
    c.at.ensures.found (ap option_copied c.in-Some.is) (subst (λ k. changed (change.Size
    c.in-Some.interface.now.size) (changed k c.in-Some.interface.now)
    ≡ c.in-Some.interface.now) (sym c.in-Size.is) refl)
