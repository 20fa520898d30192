-- What a connection asked ends, and is told.
use Rattle.std.proofs.Common.{[], ◌++◌, List, ℕ, map, ap, ◌∙◌, subst}
use Rattle.gb_base.specs.declared.end.Side.TheVariants as side
use Rattle.gb_bus.specs.Wiring.{EndsAs}
use Rattle.gb_machine.specs.Wires.{disconnected_told}
use Rattle.gb_machine.specs.Wiring.{shut_down}
use Rattle.gb_system.proofs.Acts.{shut-done}
use Rattle.gb_system.specs.Stands.{around_bus}
use Rattle.gb_system.proofs.parties.Parties.shut.Goals as goal

pub returns-clause-step : goal.returns-clause-step
returns-clause-step c = λ s st.
    shut-done c.shut.new.self c.args.connection c.shut.new.ended st
    (subst (λ (was : List ℕ). EndsAs (around_bus [] s) c.shut.new.self c.args.connection side.Ap
    s.bus (shut_down c.args.connection s.bus) was c.shut.new.ended) c.new-ended.ensures
    (c.in_ok-shut.ensures.step (around_bus [] s) s.bus st.bus))
    (c.in_ok-tell_disconnected.ensures
    ∙ ap (λ (ns : List ℕ). c.args.told.now ++ map disconnected_told ns) c.items.ensures)
