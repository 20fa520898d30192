-- The interface of the far end has the number no more.
use Rattle.std.proofs.Common.{subst, sym}
use Rattle.gb_bus.proofs.Grouping.{leaves}
use Rattle.gb_bus.specs.Index.{Leaves}
use Rattle.gb_bus.proofs.interface_numbers.remove.Goals as goal

pub returns-in-Module : goal.returns-in-Module
returns-in-Module c =
    subst (λ at. Leaves c.args.grouped.now c.remove.new.self at c.args.number)
    (sym c.in-Module.is)
    (leaves c.args.grouped.now c.remove.new.self c.in-Module.intf c.in-Module.cport c.args.number
    c.remove.ensures)
