-- The place that was the second is now one of the others.
use Rattle.std.proofs.Common.{◌∷◌, true, ap, sym, ◌∙◌, subst}
use Rattle.gb_switch.proofs.WaitingEnds.{marks-before}
use Rattle.gb_switch.specs.WaitingEnds.{Marks, ends_of}
use Rattle.gb_switch.proofs.waiting.Behind.add_first.Goals as goal

pub returns-clause-added : goal.returns-clause-added
returns-clause-added c =
    let old = c.self.inside.others.keys in
    let new = c.insert.new.self.keys in
    let placed = c.in_ok-insert.ensures.updates in
    subst (λ ends. Marks ends (c.args.place ∷ new) c.args.place true)
    (ap (λ second. ends_of second old) (sym c.in-Some.is) ∙ c.self.view_is)
    (marks-before c.in-Some.second c.args.place old new placed.1 placed.2)
