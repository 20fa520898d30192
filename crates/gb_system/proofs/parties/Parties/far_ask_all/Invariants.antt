-- The requests that were made so far, and those that are left, are all.
use Rattle.std.proofs.Common.{[], drop}
use Rattle.gb_machine.specs.OwnAsking.{far_asks_all}
use Rattle.gb_machine.specs.State.{State}
use Rattle.gb_system.proofs.Midways.{Midway}
use Rattle.gb_system.specs.Acting.{AreAskable}
use Rattle.gb_system.specs.Stands.{PartsStand}
use Rattle.gb_system.proofs.parties.Parties.far_ask_all.Given as goal

abbrev pub invariant-loop-ask : goal.invariant-loop-ask
invariant-loop-ask l = (s : State) → PartsStand [] l.fn.self s → AreAskable l.own
    → Midway l.self (far_asks_all l.connection l.own)
    (far_asks_all l.connection (drop l.ask-index l.own)) s l.fn.told l.told
    × AreAskable (drop l.ask-index l.own)
