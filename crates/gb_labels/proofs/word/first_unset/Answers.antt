-- What is set below the place and what is set in the word leave the least that isn't.
use Rattle.std.proofs.Common.{refl}
use Rattle.gb_labels.proofs.Bits.{all_set, first_found}
use Rattle.gb_labels.proofs.word.first_unset.Goals as goal

pub returns-then-taken : goal.returns-then-taken
returns-then-taken c = all_set c.args.word c.args.from c.requires c.if-taken.true

pub returns : goal.returns
returns c =
    first_found c.args.word c.args.from _ _ c.requires c.ranges.word.fits refl c.if-taken.false
    c.trailing_ones.ensures
