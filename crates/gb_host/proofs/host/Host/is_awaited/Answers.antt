-- Where no sequence waits, nothing follows the end.
use Rattle.std.proofs.Common.{sym, ap, ◌∙◌}
use Rattle.std.specs.Option.{is_some}
use Rattle.gb_host.proofs.Unawaited.{unawaited-ended}
use Rattle.gb_host.proofs.host.Host.is_awaited.Goals as goal
use Rattle.gb_machine.specs.Waits.{awaited}

pub returns-clause-quiet : goal.returns-clause-quiet
returns-clause-quiet c = λ h how s idle.
    unawaited-ended c.args.number how h
    (ap (λ g. is_some (awaited c.args.number g)) s
    ∙ sym (c.is_some.ensures ∙ ap (λ o. is_some o) c.awaited.ensures) ∙ idle)
