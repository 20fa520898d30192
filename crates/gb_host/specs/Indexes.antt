-- What is kept to look connections up.
use Rattle.std.specs.Prelude.{◌≡◌, ◌==◌, ◌<◌, ℕ, Bool, true, List}
use Rattle.std.specs.List.{AllPairs}
use Rattle.gb_base.specs.declared.interface.Link.{Link}
use Rattle.gb_groups.specs.Groups.{numbers_in}
use Rattle.gb_host.specs.Awaited.{AreAwaited}
use Rattle.gb_host.specs.Counts.{AreCounted}
use Rattle.gb_host.specs.Named.{AreNamed}
use Rattle.gb_host.specs.Numbers.{numbers_where}
use Rattle.gb_host.specs.declared.awaited.Awaited.{Awaited}
use Rattle.gb_host.specs.declared.cports.Cports.{Cports}
use Rattle.gb_host.specs.declared.ends.Ends.{Ends}

-- The numbers of connections rise.
abbrev pub Rises : List Link → Type 0
Rises links = AllPairs (λ l m. l.connection < m.connection) links

-- The numbers of the connections of each interface are in its group, in order.
abbrev pub AreGrouped : List (List ℕ) → List Link → Type 0
AreGrouped groups links = (i : ℕ) → numbers_in groups i ≡ numbers_where (λ l. l.intf == i) links

-- The CPorts of connections are counted. Where it is said so, their numbers rise, and those at each
-- far end, of each interface and that wait for each request are known.
pub record AreIndexed (cports : Cports) (ends : Ends) (groups : List (List ℕ)) (awaited : Awaited)
    (known : Bool) (links : List Link) : Type 0 where
  pub counted : AreCounted cports links
  pub rises : known ≡ true → Rises links
  pub named : known ≡ true → AreNamed ends links
  pub grouped : known ≡ true → AreGrouped groups links
  pub waiting : known ≡ true → AreAwaited awaited links
