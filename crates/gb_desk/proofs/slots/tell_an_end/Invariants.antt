use Rattle.std.proofs.Common.{◌≡◌, ℕ, drop}
use Rattle.gb_laws.specs.Tickets.{end_in}
use Rattle.gb_desk.proofs.slots.tell_an_end.Given as goal

-- what was gone over tells of none
abbrev pub invariant-loop-entry : goal.invariant-loop-entry
invariant-loop-entry l =
    (n : ℕ) → end_in n (drop l.entry-index l.entries) ≡ end_in n l.entries
