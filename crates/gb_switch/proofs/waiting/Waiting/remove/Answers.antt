-- The least place was removed.
use Rattle.std.proofs.Common.{false, sym, ◌∙◌, subst}
use Rattle.gb_switch.proofs.WaitingEnds.{removes-first}
use Rattle.gb_switch.specs.WaitingEnds.{Marks, ends_of}
use Rattle.gb_switch.proofs.waiting.Waiting.remove.Goals as goal

pub returns-then-eq : goal.returns-then-eq
returns-then-eq c =
    let next = c.pop_first-self-inside in
    subst
    (λ ends. Marks ends (ends_of next.result next.new.self) c.args.place false) c.self.view_is
    (removes-first c.self.inside.first c.args.place c.self.inside.behind
    (ends_of next.result next.new.self) (sym c.eq.ensures ∙ c.if-eq.true) next.ensures.taken
    c.self.invariant)
