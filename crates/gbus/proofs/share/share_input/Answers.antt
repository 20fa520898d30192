use Rattle.std.proofs.Common.{◌≤◌, length, sym, subst}
use Rattle.gbus.proofs.Sharing.{ended-within}
use Rattle.gbus.proofs.share.share_input.Goals as goal
use Rattle.gbus.specs.Reading.{kept_of}
use Rattle.gbus.specs.declared.input.Input.{Input}

pub share-requires-in-TooLong-clause-short : goal.share-requires-in-TooLong-clause-short
share-requires-in-TooLong-clause-short g c κs within =
    ended-within 1048576 c.as_slice-in-TooLong.result.now c.lines_that_end.result.now
    c.lines_that_end.ensures
    (subst (λ l. length l ≤ 1048576) (sym c.as_slice-in-TooLong.ensures.value)
    (subst (λ (i : Input). length (kept_of i) ≤ 1048576) c.in-TooLong.is c.requires.short))
