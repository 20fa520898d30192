-- What contracts see of the live connections.
use Rattle.std.specs.Prelude.{ℕ, nat_le, Bool, List, [], ◌∷◌}
use Rattle.gb_bus.specs.Connection.{Connection}
use Rattle.gb_bus.specs.declared.connection.Connection as code
use Rattle.gb_machine.specs.Lists.{sorted}

-- a connection by its number
abbrev pub seen : ℕ → code.Connection → Connection
seen k x = record {
  number = k;
  ap = x.ap;
  peer = x.peer;
  protocol = x.protocol;
  wired = x.wired;
  clean = x.clean;
  shut = x.shut;
  ap_ops = x.ap_ops;
  far_ops = x.far_ops;
  to_ap = x.to_ap;
  to_far = x.to_far;
}

-- all of these
abbrev pub all_seen : List (ℕ × code.Connection) → List Connection
all_seen [] = []
all_seen (e ∷ es) = seen e.0 e.1 ∷ all_seen es

-- an entry comes before those whose numbers aren't less
abbrev pub number_before : {X : Type 0} → ℕ × X → ℕ × X → Bool
number_before e f = nat_le e.0 f.0

-- entries in order of number
abbrev pub by_number : {X : Type 0} → List (ℕ × X) → List (ℕ × X)
by_number es = sorted number_before es

-- all connections of a map, in order of number
abbrev pub seen_in_order : List (ℕ × code.Connection) → List Connection
seen_in_order es = all_seen (by_number es)

-- a connection comes before those whose numbers aren't less
abbrev pub connection_before : Connection → Connection → Bool
connection_before c d = nat_le c.number d.number
