use Rattle.std.proofs.Common.{◌≡◌, drop}
use Rattle.gb_laws.specs.Tickets.{asked_in}
use Rattle.gb_desk.proofs.slots.first_asked.Given as goal

-- what was gone over tells of none
abbrev pub invariant-loop-entry : goal.invariant-loop-entry
invariant-loop-entry l = asked_in (drop l.entry-index l.entries) ≡ asked_in l.entries
