-- Behind the fields so far `out` is as it was.
use Rattle.std.proofs.Common.{drop}
use Rattle.gb_payload.specs.Fields.{spelled}
use Rattle.gb_payload.proofs.writing.put.Given as goal
use Rattle.gb_payload.proofs.Written.{Written}

abbrev pub invariant-loop-field : goal.invariant-loop-field
invariant-loop-field l =
    Written (spelled l.fields) (spelled (drop l.field-index l.fields)) l.at l.initial.out l.out
