-- The requests that stay are those of other interfaces.
use Rattle.std.proofs.Common.{rules, ◌==◌, not, ap, ◌∙◌}
use Rattle.std.proofs.lemmas.Fn.{filter_same}
use Rattle.gb_machine.specs.Lists.{without}
use Rattle.gb_machine.specs.State.{Load}
use Rattle.gb_system.proofs.loads.Loads.forget.Goals as goal

pub returns : goal.returns
returns c =
    filter_same _ (λ (l : Load). not (l.intf == c.args.intf)) _ (λ x b f' k. search rules) _ _
    c.retain.ensures.filtered
    ∙ ap (without (λ (l : Load). l.intf == c.args.intf)) c.self.view_is
