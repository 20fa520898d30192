-- Those that stay have other numbers.
use Rattle.gb_host.proofs.Rising.{takes-only}
use Rattle.gb_host.proofs.links.Links.take_numbered.Goals as goal

pub returns-clause-taken : goal.returns-clause-taken
returns-clause-taken c = λ rises.
    takes-only c.args.connection c.take.result c.args.self.now.items c.take.new.self.items
    c.take.ensures.link c.take.ensures.out rises
