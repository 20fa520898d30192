use Rattle.gb_wire.proofs.Spellings.{spellings-same}
use Rattle.gb_wire.proofs.laws.one_spelling.Goals as goal

pub returns : goal.returns
returns c = λ a b more rest m n s t e.
    let same = spellings-same a b more rest m n s t e in
    (same.0, same.2)
