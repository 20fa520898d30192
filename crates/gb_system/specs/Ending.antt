-- What is done where a request ended.
use Rattle.std.specs.Prelude.{◌≡◌, ℕ, true, Some, List, []}
use Rattle.gb_base.specs.declared.bridge.Reading.{Reading}
use Rattle.gb_base.specs.declared.entry.Entry.{Entry}
use Rattle.gb_base.specs.declared.entry.Entry.TheVariants as entry
use Rattle.gb_base.specs.declared.outcome.Outcome.{Outcome}
use Rattle.gb_laws.specs.Possible.{MayFollow}
use Rattle.gb_machine.specs.Actions.{tell, ◌▸◌}
use Rattle.gb_machine.specs.Bus.{Request, request_of}
use Rattle.gb_machine.specs.HostActs.{follows}
use Rattle.gb_machine.specs.LawsBus.{is_awaited}
use Rattle.gb_machine.specs.State.{State}
use Rattle.gb_system.specs.Doing.{Does}
use Rattle.gb_system.specs.Stands.{PartsStand}
use Rattle.gb_system.specs.declared.ending.Over.{Over}
use Rattle.gb_system.specs.declared.parties.Parties.{Parties}

-- a request was made where it is said
pub record IsOver (over : Over) (s : State) : Type 0 where
  pub request : Request
  pub made : request_of over.number s.bus ≡ Some request
  pub on : request.connection ≡ over.connection
  pub side : request.side ≡ over.side

-- From each state in which the request was made, its end is told, and what follows it is done.
abbrev pub TellsEnd : Parties → Parties → Over → Outcome → Reading → List Entry → List Entry
    → Type 0
TellsEnd old new over outcome reading before after =
    (s : State) → PartsStand [] old s → IsOver over s → MayFollow over.number outcome s
    → Does new (tell (entry.Ended over.number outcome reading) ▸ follows over.number outcome) s
    before after

-- request n was made, and is open or was given up
pub record IsAwaited (n : ℕ) (s : State) : Type 0 where
  pub request : Request
  pub made : request_of n s.bus ≡ Some request
  pub awaited : is_awaited n s.bus ≡ true
