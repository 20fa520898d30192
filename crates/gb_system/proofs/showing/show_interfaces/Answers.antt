-- One more interface is told.
use Rattle.gb_machine.specs.Show.{interface_shown}
use Rattle.gb_system.proofs.Showings.{one-told}
use Rattle.gb_system.proofs.showing.show_interfaces.Goals as goal

pub loop-interface-preserved : goal.loop-interface-preserved
loop-interface-preserved c =
    one-told interface_shown c.args.known.now c.loop-interface.interface-index
    c.interface-item.result c.in_ok-text.text c.loop-interface.told c.push.new.self
    c.loop-interface-test.true c.interface-item.is c.in_ok-text.ensures c.in_ok-push.ensures.ok
    c.loop-interface.invariant
