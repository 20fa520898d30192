-- The entry has the next number.
use Rattle.std.proofs.Common.{◌<◌, ◌++◌, ◌∷◌, [], ap, sym, subst, ◌∙◌}
use Rattle.std.specs.List.{All, list_any}
use Rattle.gb_formats.specs.Images.{is_loan}
use Rattle.gb_firmware.proofs.InTurn.{below-more, lent-more, unused}
use Rattle.gb_firmware.specs.Numbered.{loans_of}
use Rattle.gb_firmware.proofs.loans.Loans.lend.Goals as goal

pub invariant_of-self-2 : goal.invariant_of-self-2
invariant_of-self-2 c =
    record {
      ordered = c.insert.ensures.ordered;
      below = subst (All (λ e. e.1.number < c.in_ok-count.count))
          (sym c.in_ok-insert.ensures.entries)
          (below-more (c.args.connection, c.args.id)
          (record { number = c.self.inside.count; tag = c.args.tag }) c.in_ok-count.count
          c.self.inside.lent.entries c.in_ok-count.ensures.sum c.self.invariant.below);
    }

pub returns-clause-ok : goal.returns-clause-ok
returns-clause-ok c =
    ap (loans_of c.in_ok-count.count) c.in_ok-insert.ensures.entries
    ∙ lent-more c.args.connection c.args.id c.self.inside.count c.in_ok-count.count c.args.tag
    c.self.inside.lent.entries c.in_ok-count.ensures.sum c.self.invariant.below
    (unused c.args.connection c.args.id c.self.inside.count c.self.inside.lent c.self.invariant
    (ap (list_any (is_loan c.args.connection c.args.id)) c.self.view_is ∙ c.requires))
    ∙ ap (λ ls. ls
    ++ record { connection = c.args.connection; id = c.args.id; tag = c.args.tag } ∷ [])
    c.self.view_is
