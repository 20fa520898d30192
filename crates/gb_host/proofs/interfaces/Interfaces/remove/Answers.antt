-- The interfaces that stay are the others.
use Rattle.std.proofs.Common.{not, rules, ap, sym, subst, ◌∙◌}
use Rattle.std.proofs.lemmas.Fn.{filter_same}
use Rattle.gb_host.proofs.Known.{kept-filter}
use Rattle.gb_host.specs.Known.{AreKept}
use Rattle.gb_host.proofs.interfaces.Interfaces.remove.Goals as goal
use Rattle.gb_machine.specs.Host.{is_intf}
use Rattle.gb_machine.specs.Lists.{without}

pub returns : goal.returns
returns c =
    filter_same _ (λ y. not (is_intf c.args.intf y)) _ (λ x b f' k. search rules) _ _
    c.retain.ensures.filtered
    ∙ ap (without (is_intf c.args.intf)) c.self.view_is

pub invariant_of-self : goal.invariant_of-self
invariant_of-self c =
    subst (AreKept _) (sym (filter_same _ (λ y. not (is_intf c.args.intf y)) _
    (λ x b f' k. search rules) _ _ c.retain.ensures.filtered))
    (kept-filter _ (λ y. not (is_intf c.args.intf y)) c.self.inside.known.items c.self.invariant)
