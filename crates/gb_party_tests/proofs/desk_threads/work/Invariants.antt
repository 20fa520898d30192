use Rattle.gb_desk.specs.Passes.{IsAsBefore, IsOf, known}
use Rattle.gb_party_tests.proofs.desk_threads.work.Given as goal

abbrev pub invariant-loop-at : goal.invariant-loop-at
invariant-loop-at l = IsOf l.desk l.pass × IsAsBefore (known l.initial.pass) (known l.pass)
