-- The states that runs lead to.
use Rattle.std.specs.Prelude.{◌≡◌, List}
use Rattle.gb_base.specs.declared.event.Event.{Event}
use Rattle.gb_machine.specs.Runs.{AreValid, state_by}
use Rattle.gb_machine.specs.State.{State}

-- Some run of valid events leads to this state.
pub record OfARun (s : State) : Type 0 where
  pub events : List Event
  pub valid : AreValid events
  pub is : state_by events ≡ s
