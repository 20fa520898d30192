-- The request is that of the one connection.
use Rattle.std.proofs.Common.{sym, ◌∙◌}
use Rattle.gb_host.proofs.Awaiting.{awaited-comes}
use Rattle.gb_host.proofs.awaited.Awaited.come.Goals as goal

pub returns-in-Ok-None : goal.returns-in-Ok-None
returns-in-Ok-None c = λ front behind l step number waits all says.
    awaited-comes c.args.self.now (record { connections = c.insert.new.self }) front behind l
    c.args.request c.args.connection step number waits
    (sym c.in-Ok-None.field-0-is ∙ c.in-Ok-None.ensures.old) c.in-Ok-None.ensures.updates all
