-- What a read line of a capture holds.
use Rattle.std.specs.Prelude.{Bool, Option, Some, None, Result, Ok, Err, List, ℕ}
use Rattle.std.specs.Borrow.{Bor}
use Rattle.gb_base.specs.declared.reasons.LineReason.{LineReason}
use Rattle.gb_formats.specs.Captures.{Holds}

-- what is held, with the bytes by themselves
abbrev pub held_of : Result (Option (Bool × Bor (List ℕ))) LineReason → Holds
held_of (Ok None) = Ok None
held_of (Ok (Some held)) = Ok (Some (held.0, held.1.now))
held_of (Err why) = Err why
