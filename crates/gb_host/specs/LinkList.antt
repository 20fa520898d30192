-- What contracts see of the connections.
use Rattle.std.specs.Prelude.{Bool, List}
use Rattle.gb_base.specs.declared.interface.Link.{Link}

-- the connections in the order in which they were made, and whether one more takes no memory
pub record LinkList : Type 0 where
  pub items : List Link
  pub room : Bool
