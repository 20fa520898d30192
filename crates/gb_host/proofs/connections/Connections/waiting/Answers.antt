-- The purpose is that of the connection that waits.
use Rattle.std.proofs.Common.{sym, ap, ◌∙◌}
use Rattle.gb_host.proofs.Awaiting.{purpose-found, purpose_of}
use Rattle.gb_host.proofs.connections.Connections.waiting.Goals as goal

pub returns-in_err-link : goal.returns-in_err-link
returns-in_err-link c =
    c.from_residual.ensures
    ∙ ap (purpose_of c.args.number) (sym c.in_err-link.was ∙ c.waiting_for.ensures)
    ∙ purpose-found c.args.number c.args.self.now.items

pub returns : goal.returns
returns c =
    c.purpose_in.ensures
    ∙ ap (purpose_of c.args.number) (sym c.in_ok-link.was ∙ c.waiting_for.ensures)
    ∙ purpose-found c.args.number c.args.self.now.items
