-- The maps tell whether one of the three is taken.
use Rattle.std.proofs.Common.{ap, is_some, sym, ◌∙◌}
use Rattle.gb_bus.proofs.EndsTaken.{taken-first, taken-last, taken-second}
use Rattle.gb_bus.specs.Index.{number_at}
use Rattle.gb_bus.proofs.connections.Connections.is_taken.Goals as goal

pub returns-then-contains_key : goal.returns-then-contains_key
returns-then-contains_key c =
    taken-first c.self.inside.live.map c.self.inside.ends c.self.inside.waiting c.args.self.now
    c.args.number c.args.ap c.args.peer c.self.invariant.maps c.self.view_is c.requires.far
    (sym c.contains_key.ensures ∙ c.if-contains_key.true)

pub returns-then-contains_key-2 : goal.returns-then-contains_key-2
returns-then-contains_key-2 c =
    taken-second c.self.inside.live.map c.self.inside.ends c.self.inside.waiting c.args.self.now
    c.args.number c.args.ap c.args.peer c.self.invariant.maps c.self.view_is c.requires.far
    (sym c.contains_key.ensures ∙ c.if-contains_key.false)
    (ap (λ e. is_some (number_at c.self.inside.ends e)) (sym c.of.ensures)
    ∙ sym c.contains_key-2.ensures ∙ c.if-contains_key-2.true)

pub returns : goal.returns
returns c =
    c.contains_key-3.ensures
    ∙ ap (λ e. is_some (number_at c.self.inside.ends e)) c.of-2.ensures
    ∙ taken-last c.self.inside.live.map c.self.inside.ends c.self.inside.waiting c.args.self.now
    c.args.number c.args.ap c.args.peer c.self.invariant.maps c.self.view_is c.requires.far
    (sym c.contains_key.ensures ∙ c.if-contains_key.false)
    (ap (λ e. is_some (number_at c.self.inside.ends e)) (sym c.of.ensures)
    ∙ sym c.contains_key-2.ensures ∙ c.if-contains_key-2.false)
