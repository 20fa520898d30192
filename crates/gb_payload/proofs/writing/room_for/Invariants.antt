-- What is left is the room less the fields so far.
use Rattle.std.proofs.Common.{◌≡◌, ◌≤◌, ◌+◌, length, drop}
use Rattle.gb_payload.specs.Fields.{spelled}
use Rattle.gb_payload.proofs.writing.room_for.Given as goal

abbrev pub invariant-loop-field : goal.invariant-loop-field
invariant-loop-field l =
    (l.left ≤ l.room)
    × (l.room + length (spelled (drop l.field-index l.fields)) ≡ l.left + length (spelled l.fields))
