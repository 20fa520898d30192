-- The number is that of the one connection that waits.
use Rattle.std.proofs.Common.{None, sym, ap, ◌∙◌}
use Rattle.std.specs.Option.{option_to_list}
use Rattle.gb_host.proofs.Awaiting.{none-kept}
use Rattle.gb_host.proofs.Numbers.{one-number}
use Rattle.gb_host.specs.Awaited.{waits_for}
use Rattle.gb_host.proofs.awaited.Awaited.of.Goals as goal

pub returns-then-is_empty : goal.returns-then-is_empty
returns-then-is_empty c = λ ls all.
    one-number None (waits_for c.args.request) ls
    (sym (ap option_to_list (none-kept c.args.self.now c.args.request (c.is_empty.ensures.0
    c.if-is_empty.true))) ∙ all c.args.request)

pub returns : goal.returns
returns c = λ ls all.
    one-number c.copied.result (waits_for c.args.request) ls
    (ap option_to_list (c.copied.ensures ∙ c.get.ensures.value) ∙ all c.args.request)
