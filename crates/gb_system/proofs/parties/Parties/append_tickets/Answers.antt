-- The lines are those of the state's names.
use Rattle.std.proofs.Common.{[], ◌++◌, ◌∙◌, ap, subst, sym}
use Rattle.std.specs.String.{string_bytes}
use Rattle.gb_machine.specs.Shared.{tickets_text}
use Rattle.gb_system.proofs.NameCounts.{sorted-told}
use Rattle.gb_system.proofs.parties.Parties.append_tickets.Goals as goal
use Rattle.gb_system.specs.Showing.{AreTold}
use Rattle.gb_system.specs.Stands.{around_bus, names_of}

pub returns : goal.returns
returns c = λ s st.
    c.in_ok-append_names.ensures (around_bus [] s) s.bus st.parts.bus
    (subst (λ names. AreTold (names_of s) names s.bus) st.parts.names.listed
    (sorted-told s.names s.bus st.parts.bus.named))
    ∙ ap (λ names. string_bytes c.args.out.now ++ tickets_text s.bus names)
    (sym st.parts.names.listed)
