-- The connection that was looked up stands at its index.
use Rattle.gb_bus.proofs.LivePlaces.{found-at}
use Rattle.gb_bus.proofs.numbered.Numbered.place.Goals as goal

pub returns : goal.returns
returns c =
    let e = c.in_ok-at.ensures in
    found-at c.args.self.now.map c.args.k c.in_ok-at.at c.in_ok-at.field-0-1.now
    c.in_ok-at.field-0-2.now e.key e.value e.entry
