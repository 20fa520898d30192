-- The modules that stay are those at other interfaces.
use Rattle.std.proofs.Common.{rules, not, ap, ◌∙◌}
use Rattle.std.proofs.lemmas.Fn.{filter_same}
use Rattle.gb_machine.specs.Lists.{without}
use Rattle.gb_machine.specs.Modules.{is_plugged_at}
use Rattle.gb_system.proofs.modules.Modules.unplug.Goals as goal

pub returns : goal.returns
returns c =
    filter_same _ (λ p. not (is_plugged_at c.args.intf p)) _ (λ x b f' k. search rules) _ _
    c.retain.ensures.filtered
    ∙ ap (without (is_plugged_at c.args.intf)) c.self.view_is
