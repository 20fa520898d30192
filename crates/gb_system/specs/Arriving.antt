-- How an answer that arrives is read.
use Rattle.std.specs.Prelude.{◌≡◌, ℕ, List}
use Rattle.gb_formats.specs.Bridges.{reading_of}
use Rattle.gb_host.specs.Bridging.{reading_on}
use Rattle.gb_machine.specs.Bus.{Connection}
use Rattle.gb_machine.specs.Host.{link_of}
use Rattle.gb_machine.specs.State.{State}

-- The application processor reads an answer on a connection by the protocol of that.
pub record ReadsOn (k : ℕ) (s : State) (c : Connection) : Type 0 where
  pub reads : (kind : ℕ) (payload : List ℕ)
      → reading_on (link_of k s.host) kind payload ≡ reading_of c.protocol kind payload
