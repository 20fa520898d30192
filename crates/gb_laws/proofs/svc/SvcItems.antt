-- What waits on the supervisory controller's connection, where a connection changes.
use Rattle.std.proofs.Common.{List, Some, ap, ℕ, ◌∙◌, ◌≡◌}
use Rattle.std.specs.List.{find}
use Rattle.std.specs.Prelude.{option_map, ◌==◌}
use Rattle.gb_base.specs.declared.end.Side.{Side}
use Rattle.gb_machine.specs.Bus.{Bus, Connection, connection_of, has_number, queue}
use Rattle.gb_machine.specs.{Lists.at_first, Members.IsIn, SvcQueues.items_in}
use Rattle.gb_invariants.proofs.Found.{find-changed, found-first}

-- where a connection changes that isn't the supervisory controller's, or keeps the queue
pub items-first : (at : Side) (k : ℕ) (f : Connection → Connection) (cs : List Connection)
    → ((c : Connection) → (f c).number ≡ c.number)
    → ((c : Connection) → IsIn c cs → c.number ≡ k → c.number ≡ 1 → queue at (f c) ≡ queue at c)
    → items_in at (find (has_number 1) (at_first (has_number k) f cs))
    ≡ items_in at (find (has_number 1) cs)
items-first at k f cs same keeps = found-first 1 (items_in at) k f cs same keeps

-- where the supervisory controller's changes
pub items-one : (at : Side) (f : Connection → Connection) (b : Bus) (c : Connection)
    → connection_of 1 b ≡ Some c → ((x : Connection) → (f x).number ≡ x.number)
    → items_in at (find (has_number 1) (at_first (has_number 1) f b.connections)) ≡ queue at (f c)
items-one at f b c found same =
    ap (items_in at) (find-changed (has_number 1) f b.connections (λ x. ap (λ n. n == 1) (same x))
    ∙ ap (option_map f) found)
