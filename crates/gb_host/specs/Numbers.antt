-- The numbers of connections.
use Rattle.std.specs.Prelude.{ℕ, Bool, List, map}
use Rattle.std.specs.List.{filter}
use Rattle.gb_base.specs.declared.interface.Link.{Link}

-- the numbers of the connections that pass a test, in order
abbrev pub numbers_where : (Link → Bool) → List Link → List ℕ
numbers_where test links = map (λ l. l.connection) (filter test links)
