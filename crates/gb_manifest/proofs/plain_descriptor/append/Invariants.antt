-- A front of the piece was appended.
use Rattle.std.proofs.Common.{◌≡◌, ◌++◌, take}
use Rattle.gb_manifest.proofs.plain_descriptor.append.Given as goal

abbrev pub invariant-loop-byte : goal.invariant-loop-byte
invariant-loop-byte l = l.out ≡ l.initial.out ++ take l.byte-index l.piece
