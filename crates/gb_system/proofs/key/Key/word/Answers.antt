-- The number has the bytes of the word as its digits.
use Rattle.std.proofs.Common.{subst}
use Rattle.gb_system.specs.WordNumber.{IsNumberOf}
use Rattle.gb_system.proofs.WordNumbers.{of-places}
use Rattle.gb_system.proofs.key.Key.word.Goals as goal

pub returns-clause-number : goal.returns-clause-number
returns-clause-number c =
    subst (λ name. IsNumberOf c.from_be_bytes.result name.word) c.self.view_is
    (of-places c.self.inside.name.word c.places.result c.from_be_bytes.result
    c.places.ensures.places c.places.ensures.name c.from_be_bytes.ensures)
