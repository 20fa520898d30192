-- When a connection may be made.
use Rattle.std.specs.Prelude.{◌≡◌, ◌≢◌, ℕ, false}
use Rattle.gb_base.specs.declared.end.End.TheVariants as end
use Rattle.gb_machine.specs.Bus.{Bus, Connection, same_end}
use Rattle.gb_machine.specs.Members.{Each}

-- a connection has another CPort of the application processor, and another far end
pub record IsOther (a i c : ℕ) (x : Connection) : Type 0 where
  pub ap : x.ap ≢ a
  pub peer : same_end x.peer (end.Module i c) ≡ false

-- No live connection has the CPort of the application processor, and none that of the module.
abbrev pub MayAttach : ℕ → ℕ → ℕ → Bus → Type 0
MayAttach a i c b = Each (IsOther a i c) b.connections
