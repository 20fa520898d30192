-- What has been read is what the words before the rest mean.
use Rattle.std.proofs.Common.{length}
use Rattle.gb_script.proofs.Operations.{HasRead}
use Rattle.gb_script.proofs.ops.operations.Given as goal

abbrev pub invariant-loop-word : goal.invariant-loop-word
invariant-loop-word g l = HasRead g.T.OpWord.meaning l.initial.rest l.operations l.rest

abbrev pub decreases-loop-word : goal.decreases-loop-word
decreases-loop-word g l = length l.rest.1
