use Rattle.std.proofs.Common.{ap, arith, length}
use Rattle.std.specs.Arc.{arc_value}
use Rattle.gb_share.proofs.Picking.{picked_length}
use Rattle.gb_share.proofs.lines.Lines.len.Goals as goal

pub returns : goal.returns
returns c =
    let view = ap (λ l. length l) c.self.view_is in
    let is = picked_length (arc_value c.self.inside.script) c.self.inside.places.items
    c.self.invariant in
    let whole = c.self.inside.places.ok.0 in
    let long = c.len.ensures in omega arith
