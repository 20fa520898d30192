-- The action of settling: deliveries in a fixed order.
use Rattle.std.specs.Prelude.{ℕ, zero, suc, ◌+◌, Option, Some, None}
use Rattle.gb_base.specs.declared.end.End.{End}
use Rattle.gb_base.specs.declared.entry.Entry.TheVariants as entry
use Rattle.gb_machine.specs.Actions.{Action, by_state, tell, ◌▸◌}
use Rattle.gb_machine.specs.Arriving.{delivers}
use Rattle.gb_machine.specs.Waiting.{first_waiting}

-- what is settled next, after so many deliveries: the first end at which something waits, and then
-- what is left; nothing where nothing waits
unfoldable pub settles_at : Option End → ℕ → Action → Action
settles_at None done later = tell (entry.Settled done)
settles_at (Some at) done later = delivers at ▸ later

-- At most so many more deliveries are made, after so many.
unfoldable pub settles_from : ℕ → ℕ → Action
settles_from zero done = tell (entry.Settled done)
settles_from (suc left) done = by_state (λ s.
    settles_at (first_waiting s.bus) done (settles_from left (done + 1)))

-- Messages are delivered, each from the first end at which something waits, at most so many.
unfoldable pub settles : ℕ → Action
settles most = settles_from most 0
