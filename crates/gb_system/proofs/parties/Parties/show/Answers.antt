-- What is told are the machine's lines.
use Rattle.std.proofs.Common.{[], ◌∙◌, subst}
use Rattle.gb_system.proofs.NameCounts.{sorted-told}
use Rattle.gb_system.proofs.Showings.{shows}
use Rattle.gb_system.proofs.parties.Parties.show.Goals as goal
use Rattle.gb_system.specs.Showing.{AreTold}
use Rattle.gb_system.specs.Stands.{around_bus, names_of}

pub returns : goal.returns
returns c = record {
  step = λ s st.
      shows c.args.self.now s c.args.told.now c.push.new.self c.show_interfaces.new.told
      c.show_connections.new.told c.show_queues.new.told c.show_names.new.told c.in_ok-text.text
      c.interfaces.result.now c.items.result.now c.items-2.result.now
      st.parts c.in_ok-text.ensures c.in_ok-push.ensures.ok
      c.in_ok-show_interfaces.ensures c.in_ok-show_connections.ensures
      c.in_ok-show_queues.ensures
      (c.in_ok-show_names.ensures (around_bus [] s) s.bus st.parts.bus
      (subst (λ names. AreTold (names_of s) names s.bus) st.parts.names.listed
      (sorted-told s.names s.bus st.parts.bus.named)))
      (c.interfaces.ensures.step s.host st.parts.host)
      (c.items.ensures ∙ c.in_ok-known.ensures (around_bus [] s) s.bus st.parts.bus)
      (c.items-2.ensures ∙ c.in_ok-waiting.ensures (around_bus [] s) s.bus st.parts.bus);
}
