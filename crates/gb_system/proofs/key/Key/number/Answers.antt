-- The number has the requester and the bytes as its digits.
use Rattle.std.proofs.Common.{◌∙◌, ◌∷◌, ap}
use Rattle.gb_system.specs.WordNumber.{name_number}
use Rattle.gb_system.proofs.WordNumbers.{of-digits, of-led}
use Rattle.gb_system.proofs.key.Key.number.Goals as goal

pub returns : goal.returns
returns c =
    let name = c.self.inside.name in
    c.from_be_bytes.ensures
    ∙ of-digits c.digits_of.result (name.who ∷ name.word)
    (λ i less. c.digits_of.ensures i less
    ∙ of-led name.who name.word c.places.result i c.places.ensures.places)
    ∙ ap name_number c.self.view_is
