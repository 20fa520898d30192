-- A live connection with what waits on it.
use Rattle.std.specs.Prelude.{ℕ, Bool, List}
use Rattle.gb_base.specs.declared.end.End.{End}
use Rattle.gb_bus.specs.declared.queue.Item.{Item}
use Rattle.gb_ops.specs.Operations.{Operations}

-- Its number, the CPort of the application processor, the far end, its protocol, whether it is
-- wired, whether no raw bytes were injected, whether the side of the application processor is
-- closed, the requests of each side whose identifiers are in use, and the messages
-- toward each side.
pub record Connection : Type 0 where
  pub number : ℕ
  pub ap : ℕ
  pub peer : End
  pub protocol : ℕ
  pub wired : Bool
  pub clean : Bool
  pub shut : Bool
  pub ap_ops : Operations
  pub far_ops : Operations
  pub to_ap : List Item
  pub to_far : List Item
