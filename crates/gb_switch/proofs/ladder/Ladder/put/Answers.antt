-- One slot is written.
use Rattle.std.proofs.Common.{rules, ◌<◌, length}
use Rattle.gb_switch.proofs.Slots.{set_slot}
use Rattle.gb_switch.proofs.ladder.Ladder.put.Goals as goal

pub returns : goal.returns
returns c = λ j.
    let fits : c.from.result < length c.args.self.now.ports = search rules in
    rw (set_slot c.args.self.now.ports c.from.result j c.args.port fits) (cc c.from.ensures)
