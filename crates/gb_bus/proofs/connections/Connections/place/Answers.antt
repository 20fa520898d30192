-- The connection that has the end, where it is wired.
use Rattle.std.proofs.Common.{ap, option_map, sym, ◌∙◌}
use Rattle.gb_bus.proofs.Ordered.{agree-ordered, get-ordered, ordered, side-ordered}
use Rattle.gb_bus.proofs.Placing.{places, places-counted, places-dead, places-nowhere}
use Rattle.gb_bus.specs.Index.{number_at}
use Rattle.gb_bus.specs.Parts.{place_at}
use Rattle.gb_bus.proofs.connections.Connections.place.Goals as goal

pub returns-in-Some : goal.returns-in-Some
returns-in-Some c =
    places-counted (ordered c.self.inside.live.map) c.self.inside.ends
    c.self.inside.waiting c.args.at
    c.in-Some.found.0 c.in-Some.found.1
    (agree-ordered c.self.invariant.maps)
    (side-ordered c.self.inside.live.map c.in-Some.found.0 c.args.at c.in-Some.found.1
    c.in-Some.ensures)
    ∙ ap (place_at c.args.at) c.self.view_is

pub returns-in_err-number : goal.returns-in_err-number
returns-in_err-number c =
    c.from_residual.ensures
    ∙ sym (places-nowhere (ordered c.self.inside.live.map) c.self.inside.ends
    c.self.inside.waiting c.args.at
    (agree-ordered c.self.invariant.maps)
    (ap (number_at c.self.inside.ends) (sym c.of.ensures) ∙ sym c.in_err-number.ensures.value))
    ∙ ap (place_at c.args.at) c.self.view_is

pub returns-in_err-get : goal.returns-in_err-get
returns-in_err-get c =
    c.from_residual-in_err-get.ensures
    ∙ sym (places-dead (ordered c.self.inside.live.map) c.self.inside.ends
    c.self.inside.waiting c.args.at
    c.in_ok-number.field-0.now (agree-ordered c.self.invariant.maps)
    (ap (number_at c.self.inside.ends) (sym c.of.ensures) ∙ sym c.in_ok-number.ensures.value)
    (get-ordered c.self.inside.live.map c.in_ok-number.field-0.now ∙ sym c.in_err-get.ensures))
    ∙ ap (place_at c.args.at) c.self.view_is

pub returns-in_err-side : goal.returns-in_err-side
returns-in_err-side c =
    c.from_residual-in_err-side.ensures
    ∙ ap (option_map (λ s. (c.in_ok-number.field-0.now, s)))
    (sym c.in_err-side.was ∙ c.side_at.ensures)
    ∙ sym (places (ordered c.self.inside.live.map) c.self.inside.ends
    c.self.inside.waiting c.args.at
    c.in_ok-number.field-0.now c.in_ok-get.field-0.now (agree-ordered c.self.invariant.maps)
    (ap (number_at c.self.inside.ends) (sym c.of.ensures) ∙ sym c.in_ok-number.ensures.value)
    (get-ordered c.self.inside.live.map c.in_ok-number.field-0.now ∙ sym c.in_ok-get.ensures))
    ∙ ap (place_at c.args.at) c.self.view_is

pub returns : goal.returns
returns c =
    ap (option_map (λ s. (c.in_ok-number.field-0.now, s)))
    (sym c.in_ok-side.was ∙ c.side_at.ensures)
    ∙ sym (places (ordered c.self.inside.live.map) c.self.inside.ends
    c.self.inside.waiting c.args.at
    c.in_ok-number.field-0.now c.in_ok-get.field-0.now (agree-ordered c.self.invariant.maps)
    (ap (number_at c.self.inside.ends) (sym c.of.ensures) ∙ sym c.in_ok-number.ensures.value)
    (get-ordered c.self.inside.live.map c.in_ok-number.field-0.now ∙ sym c.in_ok-get.ensures))
    ∙ ap (place_at c.args.at) c.self.view_is
