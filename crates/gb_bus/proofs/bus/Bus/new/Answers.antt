-- Nothing is kept of any request, and the connection of the supervisory controller is there.
use Rattle.std.proofs.Common.{ap, map, refl, subst, sym, ◌∙◌}
use Rattle.gb_bus.proofs.First.{first-facts, first-sides, first-slots, first-tally}
use Rattle.gb_bus.specs.Shown.{without_ops}
use Rattle.gb_bus.specs.Stands.{KeepSides}
use Rattle.gb_machine.specs.Bus.{first_bus}
use Rattle.gb_bus.proofs.bus.Bus.new.Goals as goal

pub returns : goal.returns
returns c = record {
  shows = record {
    made = refl;
    connections = ap (map without_ops) c.in_ok-new.ensures;
    sides = subst (λ cs. KeepSides cs first_bus) (sym c.in_ok-new.ensures) first-sides;
    slots = λ n. c.new-2.ensures.none n ∙ sym (first-slots n);
    tally = first-tally c.new-2.result.tally c.new-2.ensures.tally;
  };
  named = tt;
  facts = first-facts;
}
