-- The connections with the numbers so far are found.
use Rattle.std.proofs.Common.{◌≡◌, Bool, take}
use Rattle.std.specs.List.{filter}
use Rattle.gb_base.specs.declared.interface.Link.{Link}
use Rattle.gb_host.specs.Indexes.{Rises}
use Rattle.gb_host.specs.Numbers.{numbers_where}
use Rattle.gb_host.proofs.connections.numbered.Given as goal

abbrev pub invariant-loop-number : goal.invariant-loop-number
invariant-loop-number l =
    (test : Link → Bool) → Rises l.links.items → l.numbers ≡ numbers_where test l.links.items
    → l.found ≡ take l.number-index (filter test l.links.items)
