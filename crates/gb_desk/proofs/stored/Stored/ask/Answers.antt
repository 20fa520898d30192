use Rattle.std.proofs.Common.{ap, subst, sym, ◌∙◌}
use Rattle.std.specs.Prelude.{option_map}
use Rattle.gb_desk.specs.Tickets.{ticket}
use Rattle.gb_desk.specs.Turns.{Enters, with_new}
use Rattle.gb_laws.specs.Tickets.{asked_in}
use Rattle.gb_desk.proofs.stored.Stored.ask.Goals as goal

pub returns-in-Ok : goal.returns-in-Ok
returns-in-Ok c =
    let same = sym c.opened.ensures.entries in
    let x = c.args.self.now in
    let y = c.try_add.new.self in
    record {
      asked = record {
        after = y;
        enters = subst (λ es. Enters x c.args.by c.args.e.now es y) same c.in-Ok.ensures.tried;
        ticket = c.opened.ensures.ticket
            ∙ ap (λ es. option_map (ticket c.args.at) (asked_in es)) same;
        left = c.opened.ensures.left ∙ ap (λ es. with_new c.args.at (asked_in es) y) same;
      };
    }
