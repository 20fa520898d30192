-- The connection waits for the new request alone, if any.
use Rattle.std.proofs.Common.{refl}
use Rattle.gb_host.proofs.Awaiting.{awaited-comes-quiet}
use Rattle.gb_host.specs.Changes.{link_awaits}
use Rattle.gb_host.proofs.awaited.Awaited.change.Goals as goal

pub returns-in-Some : goal.returns-in-Some
returns-in-Some c = λ front behind all says.
    c.come.ensures front behind (link_awaits c.args.awaits c.args.link) _ refl c.in-Some.is
    (c.leave.ensures front behind all) says

pub returns-in-None : goal.returns-in-None
returns-in-None c = λ front behind all says.
    awaited-comes-quiet c.leave.new.self front behind (link_awaits c.args.awaits c.args.link)
    c.in-None.is (c.leave.ensures front behind all)
