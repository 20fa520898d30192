-- What is seen of the live connections where one is added, or removed.
use Rattle.std.proofs.Common.{◌≡◌, ℕ, Some, None, List, ap, ◌∙◌}
use Rattle.std.specs.Prelude.{nat_eq}
use Rattle.indexmap.specs.IndexMap.{IsUnique, get}
use Rattle.gb_base.specs.declared.end.End.{End}
use Rattle.gb_bus.proofs.InOrder.{more-sorted, without-sorted}
use Rattle.gb_bus.proofs.KeepingLive.{Changed}
use Rattle.gb_bus.proofs.Ordered.{seen-in, seen-without}
use Rattle.gb_bus.proofs.SeeingChanges.{filled}
use Rattle.gb_bus.specs.Connection.{Connection}
use Rattle.gb_bus.specs.Index.{Live}
use Rattle.gb_bus.specs.Parts.{new_connection, numbered}
use Rattle.gb_bus.specs.Seen.{all_seen, by_number, connection_before, seen, seen_in_order}
use Rattle.gb_bus.specs.declared.connection.Connection as code
use Rattle.gb_machine.specs.Lists.{in_order, without}

pub removes : (live live' : Live) (xs : List Connection) (k : ℕ) → IsUnique nat_eq live
    → IsUnique nat_eq live' → Changed live live' k None → seen_in_order live.entries ≡ xs
    → seen_in_order live'.entries ≡ without (numbered k) xs
removes live live' xs k unique unique' gone view =
    ap all_seen (without-sorted k live.entries live'.entries unique unique' gone)
    ∙ seen-without k (by_number live.entries)
    ∙ ap (without (numbered k)) view

pub adds : (live live' : Live) (xs : List Connection) (n a : ℕ) (peer : End) (protocol : ℕ)
    (x : code.Connection) → IsUnique nat_eq live → IsUnique nat_eq live'
    → seen_in_order live.entries ≡ xs → get nat_eq live n ≡ None → Changed live live' n (Some x)
    → seen 0 x ≡ new_connection 0 a peer protocol
    → seen_in_order live'.entries
    ≡ in_order connection_before (new_connection n a peer protocol) xs
adds live live' xs n a peer protocol x unique unique' view free more is =
    ap all_seen (more-sorted n x live.entries live'.entries unique unique' free more)
    ∙ seen-in (n, x) (by_number live.entries)
    ∙ ap (λ c. in_order connection_before c (seen_in_order live.entries)) (ap (filled n) is)
    ∙ ap (in_order connection_before (new_connection n a peer protocol)) view
