-- The bytes stand behind the requester.
use Rattle.gb_system.proofs.WordNumbers.{of-front}
use Rattle.gb_system.proofs.key.digits_of.Goals as goal

pub returns : goal.returns
returns c = λ i less.
    of-front c.args.who c.args.word c.copy_from_slice.new.self i c.copy_from_slice.ensures.after less
