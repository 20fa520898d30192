-- The part goes in front of those at greater interfaces.
use Rattle.std.proofs.Common.{ap, ◌∙◌}
use Rattle.gb_machine.specs.State.{Plugged}
use Rattle.gb_system.proofs.Plugged.{plugs}
use Rattle.gb_system.specs.Plugging.{place_behind}
use Rattle.gb_system.proofs.modules.Modules.plug.Goals as goal

pub returns-clause-ok : goal.returns-clause-ok
returns-clause-ok c =
    plugs c.args.part c.args.self.now c.self.inside.plugged.items c.insert.new.self.items
    c.behind-i.result c.self.view_is
    (c.behind-i.ensures.first
    ∙ ap (λ (p : Plugged). place_behind p.intf c.args.self.now) c.part.view_is)
    c.in_ok-insert.ensures.items
