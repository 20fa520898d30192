-- What the connection waited for isn't waited for any more.
use Rattle.gb_host.proofs.Awaiting.{awaited-leaves, awaited-quiet}
use Rattle.gb_host.proofs.awaited.Awaited.leave.Goals as goal

pub returns-in-Some : goal.returns-in-Some
returns-in-Some c = λ front behind.
    awaited-leaves c.args.self.now (record { connections = c.remove.new.self }) front behind
    c.args.link c.in-Some.request _ c.in-Some.is c.remove.ensures.updates

pub returns-in_default : goal.returns-in_default
returns-in_default c = λ front behind.
    awaited-quiet c.args.self.now front behind c.args.link c.in_default.is
