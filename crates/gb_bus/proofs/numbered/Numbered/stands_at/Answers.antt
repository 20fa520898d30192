-- What stands there has the number.
use Rattle.std.proofs.Common.{sym}
use Rattle.gb_bus.proofs.LivePlaces.{stands-at}
use Rattle.gb_bus.proofs.numbered.Numbered.stands_at.Goals as goal

pub returns-in-Some : goal.returns-in-Some
returns-in-Some c = λ same.
    stands-at c.args.self.now.map c.args.k c.args.at c.in-Some.number.now c.in-Some.field-0-1.now
    same (sym c.in-Some.ensures.entry) c.in-Some.ensures.value
