-- The credits of the line are taken.
use Rattle.std.proofs.Common.{sym, ◌∙◌}
use Rattle.gb_host.proofs.Bridges.{takes-credits, takes-none}
use Rattle.gb_host.proofs.LinksByNumber.{no-link}
use Rattle.gb_host.proofs.host.Host.sent.Goals as goal

pub returns-then-taken-eq0-clause-step : goal.returns-then-taken-eq0-clause-step
returns-then-taken-eq0-clause-step c = λ h l s there.
    takes-none c.args.self.now h c.args.ask.now l s
    (sym c.credits-taken.ensures ∙ c.if-taken-eq0.true)

pub returns-in-Some-clause-step : goal.returns-in-Some-clause-step
returns-in-Some-clause-step c = λ h l s there.
    takes-credits c.args.self.now h c.args.ask.now c.args.connection c.of.result c.in-Some.link l
    c.credits-taken.result c.spend.new.self.items
    s c.of.ensures c.in-Some.is there c.credits-taken.ensures c.spend.ensures

pub returns-in_default-clause-step : goal.returns-in_default-clause-step
returns-in_default-clause-step c = λ h l s there.
    absurd (no-link c.args.self.now h c.args.connection c.of.result l s
    c.of.ensures c.in_default.is there)
