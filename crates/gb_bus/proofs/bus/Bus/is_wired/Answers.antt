-- A connection is wired where the machine's is.
use Rattle.std.proofs.Common.{ap, sym, ◌∙◌}
use Rattle.std.specs.List.{find}
use Rattle.gb_bus.proofs.LookedUp.{found-none, found-wired, wired-is}
use Rattle.gb_bus.specs.Parts.{is_wired, numbered}
use Rattle.gb_bus.proofs.bus.Bus.is_wired.Goals as goal

pub returns-in-Some : goal.returns-in-Some
returns-in-Some c = λ around b s.
    let f = found-wired (find (numbered c.args.k) c.args.self.now.connections) c.in-Some.wired
    c.in-Some.ensures in
    f.is ∙ sym (ap is_wired f.looks) ∙ wired-is c.args.self.now b c.args.k s.shows.connections

pub returns-in-None : goal.returns-in-None
returns-in-None c = λ around b s.
    sym (ap is_wired (found-none (find (numbered c.args.k) c.args.self.now.connections)
    c.in-None.ensures))
    ∙ wired-is c.args.self.now b c.args.k s.shows.connections
