-- The entry is removed.
use Rattle.std.proofs.Common.{◌<◌, ap, sym, subst, ◌∙◌, is_some}
use Rattle.std.specs.List.{All, list_any}
use Rattle.gb_formats.specs.Images.{is_loan}
use Rattle.gb_formats.specs.Lists.{without}
use Rattle.gb_firmware.proofs.InTurn.{any-lent, below-freed, freed, once}
use Rattle.gb_firmware.specs.Numbered.{loans_of}
use Rattle.gb_firmware.proofs.loans.Loans.free.Goals as goal

pub invariant_of-self : goal.invariant_of-self
invariant_of-self c =
    record {
      ordered = c.remove.ensures.ordered;
      below = subst (All (λ e. e.1.number < c.self.inside.count)) (sym c.remove.ensures.entries)
          (below-freed (c.args.connection, c.args.id) c.self.inside.count c.self.inside.lent.entries
          (once c.self.inside.count c.self.inside.lent c.self.invariant) c.self.invariant.below);
    }

pub returns-clause-lent : goal.returns-clause-lent
returns-clause-lent c =
    c.is_some.ensures ∙ ap is_some c.remove.ensures.value
    ∙ sym (any-lent c.args.connection c.args.id c.self.inside.count c.self.inside.lent.entries
    (once c.self.inside.count c.self.inside.lent c.self.invariant) c.self.invariant.below)
    ∙ ap (list_any (is_loan c.args.connection c.args.id)) c.self.view_is

pub returns-clause-freed : goal.returns-clause-freed
returns-clause-freed c =
    ap (loans_of c.self.inside.count) c.remove.ensures.entries
    ∙ freed c.args.connection c.args.id c.self.inside.count c.self.inside.lent.entries
    (once c.self.inside.count c.self.inside.lent c.self.invariant)
    ∙ ap (without (is_loan c.args.connection c.args.id)) c.self.view_is
