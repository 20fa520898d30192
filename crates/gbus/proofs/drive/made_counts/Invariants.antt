-- What the events so far and those that are left come to is the whole.
use Rattle.std.proofs.Common.{◌≡◌, ◌≤◌, ◌+◌, ◌-◌}
use Rattle.gb_machine.specs.State.{State}
use Rattle.gb_system.specs.Stands.{taken_of}
use Rattle.gbus.proofs.Driving.{Stage}
use Rattle.gbus.proofs.drive.made_counts.Given as goal

abbrev pub invariant-loop : goal.invariant-loop
invariant-loop l = record {
  seed : l.maker.seed ≡ l.seed;
  given : l.maker.given ≡ l.counter;
  state : State;
  stage : Stage l.driven l.seed (l.counter + 1) (20024 - l.counter) state;
  taken : taken_of l.driven.system ≡ l.counter;
  few : l.driven.refused ≤ l.counter;
}
