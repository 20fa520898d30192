-- The application processor takes by the state of its connection.
use Rattle.gb_system.proofs.Takings.{ap-named, ap-taken}
use Rattle.gb_system.specs.Stands.{around_bus}
use Rattle.gb_system.proofs.parties.Parties.ap_takes.Goals as goal

pub returns-in-Some : goal.returns-in-Some
returns-in-Some c = λ loose s p stand there ap_side.
    ap-taken (around_bus loose s) c.args.at c.named.result c.in-Some.connection c.state.result
    c.takes_in.result c.args.self.now.host c.args.self.now.bus s p stand.bus stand.host
    c.named.ensures c.in-Some.is c.state.ensures.step c.takes_in.ensures there ap_side

pub returns-in-None : goal.returns-in-None
returns-in-None c = λ loose s p stand there ap_side.
    ap-named (around_bus loose s) c.args.at c.named.result _ c.args.self.now.bus s p stand.bus
    c.named.ensures c.in-None.is there
