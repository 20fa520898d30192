-- The bytes that came are the front of the line.
use Rattle.std.proofs.Common.{◌≡◌, ◌≤◌, ◌+◌, List, ℕ, length}
use Rattle.std.specs.Io.KnownBytes.{Consumes}
use Rattle.gb_script.specs.Pieces.{HasNoLf}
use Rattle.gb_script.specs.Reading.{Gathers, to_come}
use Rattle.gb_script.proofs.held.Held.gather.Given as goal

abbrev pub invariant-loop-self : goal.invariant-loop-self
invariant-loop-self g l = record {
  raw : List ℕ;
  plain : HasNoLf raw;
  taken : Consumes (to_come l.initial.self (g.S.Source.left l.initial.source))
      (to_come l.self (g.S.Source.left l.source)) raw;
  gathers : Gathers l.self raw;
  room : length raw + l.self.room ≡ l.initial.self.room;
  within : l.initial.self.room ≤ 1048576;
  few : length l.self.piece.left ≤ 4096;
  later : g.S.Source.faults l.initial.source ≤ g.S.Source.faults l.source;
}

abbrev pub decreases-loop-self : goal.decreases-loop-self
decreases-loop-self g l = l.self.room
