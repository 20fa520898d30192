-- The first end at which something waits.
use Rattle.std.proofs.Common.{Some, ap, ◌∙◌}
use Rattle.gb_bus.proofs.Earliest.{earliest-is}
use Rattle.gb_bus.proofs.Ordered.{agree-ordered, ordered}
use Rattle.gb_bus.specs.Parts.{earliest_in}
use Rattle.gb_bus.proofs.connections.Connections.first.Goals as goal

pub returns-in_err-place : goal.returns-in_err-place
returns-in_err-place c =
    c.from_residual.ensures
    ∙ earliest-is (ordered c.self.inside.live.map) c.self.inside.ends c.self.inside.waiting _
    (agree-ordered c.self.invariant.maps) c.in_err-place.ensures
    ∙ ap earliest_in c.self.view_is

pub returns : goal.returns
returns c =
    ap Some c.end.ensures
    ∙ earliest-is (ordered c.self.inside.live.map) c.self.inside.ends c.self.inside.waiting
    (Some c.in_ok-place.place) (agree-ordered c.self.invariant.maps) c.in_ok-place.ensures
    ∙ ap earliest_in c.self.view_is
