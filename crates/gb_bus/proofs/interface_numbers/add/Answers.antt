-- The interface of the far end has the number more.
use Rattle.std.proofs.Common.{subst, sym}
use Rattle.std.proofs.lemmas.Result.{on_ok_weaker}
use Rattle.gb_bus.proofs.Grouping.{enters}
use Rattle.gb_bus.specs.Index.{Enters}
use Rattle.gb_bus.proofs.interface_numbers.add.Goals as goal

pub returns-in-Module-clause-added : goal.returns-in-Module-clause-added
returns-in-Module-clause-added c =
    on_ok_weaker c.add.result
    (λ regroups. subst (λ at. Enters c.args.grouped.now c.add.new.self at c.args.number)
    (sym c.in-Module.is)
    (enters c.args.grouped.now c.add.new.self c.in-Module.intf c.in-Module.cport c.args.number
    regroups)) c.add.ensures.added
