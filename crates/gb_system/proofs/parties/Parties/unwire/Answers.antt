-- What the far side of a connection asked ends, and is told.
use Rattle.std.proofs.Common.{[], ◌++◌, List, ℕ, map, ap, ◌∙◌, subst}
use Rattle.gb_base.specs.declared.end.Side.TheVariants as side
use Rattle.gb_bus.specs.Wiring.{EndsAs, elsewhere}
use Rattle.gb_machine.specs.Wires.{disconnected_told}
use Rattle.gb_machine.specs.Wiring.{unwired}
use Rattle.gb_system.proofs.Acts.{unwire-done}
use Rattle.gb_system.specs.Stands.{around_bus}
use Rattle.gb_system.proofs.parties.Parties.unwire.Goals as goal

pub returns-clause-ended : goal.returns-clause-ended
returns-clause-ended c = λ s st.
    (subst (λ (was : List ℕ). EndsAs (elsewhere c.args.connection (around_bus [] s))
    c.unwire.new.self c.args.connection side.Far s.bus (unwired c.args.connection s.bus) was
    c.unwire.new.ended) c.new-ended.ensures
    (c.in_ok-unwire.ensures.step (around_bus [] s) s.bus st.bus)).ended

pub returns-clause-step : goal.returns-clause-step
returns-clause-step c = λ s st.
    unwire-done c.unwire.new.self c.remove.new.self c.forget.new.self c.args.connection
    c.unwire.new.ended st
    (subst (λ (was : List ℕ). EndsAs (elsewhere c.args.connection (around_bus [] s))
    c.unwire.new.self c.args.connection side.Far s.bus (unwired c.args.connection s.bus) was
    c.unwire.new.ended) c.new-ended.ensures
    (c.in_ok-unwire.ensures.step (around_bus [] s) s.bus st.bus))
    c.remove.ensures c.forget.ensures
    (c.in_ok-tell_disconnected.ensures
    ∙ ap (λ (ns : List ℕ). c.args.told.now ++ map disconnected_told ns) c.items.ensures)
