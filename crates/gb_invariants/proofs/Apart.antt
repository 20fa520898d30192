-- Live connections have ends of their own, whatever becomes of the bus.
use Rattle.std.proofs.Common.{ap, not, sym, ℕ, ◌∙◌, ◌≡◌}
use Rattle.gb_base.specs.declared.end.End.TheVariants as end
use Rattle.gb_machine.specs.Bus.{Bus, Connection, has_number, same_end}
use Rattle.gb_machine.specs.Wiring.{attached, detached, new_connection, next_connection}
use Rattle.gb_machine.specs.Wiring.{with_connection}
use Rattle.gb_machine.specs.{LawsBus.AreApart, Members.Each, Members.EachTwo}
use Rattle.gb_invariants.proofs.Lists.{two-at_first, two-filter, two-pushed}

-- a connection that changes keeps its number and its ends
pub record SameEnds (c d : Connection) : Type 0 where
  pub number : d.number ≡ c.number
  pub ap : d.ap ≡ c.ap
  pub peer : d.peer ≡ c.peer

-- where a connection changes and keeps its ends
pub apart-changed : (b : Bus) (k : ℕ) (change : Connection → Connection)
    → ((c : Connection) → SameEnds c (change c))
    → EachTwo AreApart b.connections → EachTwo AreApart (with_connection k change b).connections
apart-changed b k change same h =
    two-at_first AreApart (has_number k) change b.connections (λ c d r. record {
      numbers = λ e. r.numbers (sym (same c).number ∙ e);
      aps = λ e. r.aps (sym (same c).ap ∙ e);
      peers = ap (λ p. same_end p d.peer) (same c).peer ∙ r.peers;
    }) (λ c d r. record {
      numbers = λ e. r.numbers (e ∙ (same d).number);
      aps = λ e. r.aps (e ∙ (same d).ap);
      peers = ap (same_end c.peer) (same d).peer ∙ r.peers;
    }) h

-- where a connection is made whose ends no other has
pub apart-attached : (b : Bus) (a i c protocol : ℕ)
    → Each (λ x. AreApart x (new_connection (next_connection b) a (end.Module i c) protocol))
    b.connections
    → EachTwo AreApart b.connections → EachTwo AreApart (attached a i c protocol b).connections
apart-attached b a i c protocol own h =
    two-pushed AreApart b.connections (new_connection (next_connection b) a (end.Module i c)
    protocol) h own

-- where a connection is there no more
pub apart-detached : (b : Bus) (k : ℕ) → EachTwo AreApart b.connections
    → EachTwo AreApart (detached k b).connections
apart-detached b k h = two-filter AreApart (λ c. not (has_number k c)) b.connections h
