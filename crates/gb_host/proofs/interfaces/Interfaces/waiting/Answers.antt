-- No enumeration waits.
use Rattle.std.proofs.Common.{sym, ap, ◌∙◌}
use Rattle.gb_host.proofs.Known.{none-waits}
use Rattle.gb_machine.specs.Waits.{interface_waits}
use Rattle.gb_host.proofs.interfaces.Interfaces.waiting.Goals as goal

pub returns-then-self : goal.returns-then-self
returns-then-self c =
    sym (none-waits c.args.number c.self.inside.known.items (c.self.invariant.waits c.if-self.true))
    ∙ ap (interface_waits c.args.number) c.self.view_is
