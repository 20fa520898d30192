use Rattle.std.proofs.Common.{◌≡◌, drop}
use Rattle.gb_laws.specs.Tickets.{end_in}
use Rattle.gb_desk.proofs.slots.end_told.Given as goal

-- what was gone over tells nothing of it
abbrev pub invariant-loop-entry : goal.invariant-loop-entry
invariant-loop-entry l =
    end_in l.number (drop l.entry-index l.entries) ≡ end_in l.number l.entries
