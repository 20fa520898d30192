-- What an answer says is read by the protocol of its connection, as the application processor reads
-- it by what it knows of that.
use Rattle.std.proofs.Common.{◌≡◌, ℕ, Option, Some, None, List, sym, ap}
use Rattle.gb_base.specs.declared.interface.Link.{Link}
use Rattle.gb_formats.specs.Bridges.{reading_of}
use Rattle.gb_host.specs.Bridging.{reading_on}
use Rattle.gb_laws.proofs.runs.Reached.{reached-read}
use Rattle.gb_laws.specs.Readings.{IsReadBy}
use Rattle.gb_machine.specs.Bus.{Connection}
use Rattle.gb_machine.specs.Host.{link_of}
use Rattle.gb_machine.specs.{Members.IsIn, Reached.OfARun, State.State}

pub reads-as : (s : State) (c : Connection) (kind : ℕ) (payload : List ℕ) → OfARun s
    → IsIn c s.bus.connections
    → reading_on (link_of c.number s.host) kind payload ≡ reading_of c.protocol kind payload
reads-as s c kind payload run live = by (link_of c.number s.host) (reached-read s c run live)
  where
    by : (o : Option Link) → IsReadBy o c.protocol
        → reading_on o kind payload ≡ reading_of c.protocol kind payload
    by None nothing = sym (nothing kind payload)
    by (Some l) same = ap (λ p. reading_of p kind payload) (sym same)
