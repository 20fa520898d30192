use Rattle.gb_desk.specs.Passes.{IsAsBefore, IsOf, known}
use Rattle.gb_party_tests.proofs.desk_threads.tried.Given as goal

abbrev pub invariant-loop : goal.invariant-loop
invariant-loop l = IsOf l.desk l.pass × IsAsBefore (known l.initial.pass) (known l.pass)
