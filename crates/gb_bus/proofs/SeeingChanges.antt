-- What is seen of the live connections where one of them changes.
use Rattle.std.proofs.Common.{◌≡◌, ℕ, Option, Some, None, option_map, List, refl, sym, ap, ◌∙◌}
use Rattle.std.proofs.Common.{subst}
use Rattle.std.specs.List.{find}
use Rattle.std.specs.Map.{set_value}
use Rattle.std.specs.Prelude.{nat_eq}
use Rattle.indexmap.specs.IndexMap.{get}
use Rattle.gb_base.specs.declared.end.End.{End}
use Rattle.gb_base.specs.declared.end.Side.{Side}
use Rattle.gb_base.specs.declared.end.Side.TheVariants as side
use Rattle.gb_bus.proofs.Entries.{changes, find-seen, first-nowhere, nowhere}
use Rattle.gb_bus.proofs.InOrder.{lookup-sorted, set-sorted, unique-sorted}
use Rattle.gb_bus.specs.Connection.{Connection}
use Rattle.gb_bus.specs.Index.{Ends, MapsAgree, Live}
use Rattle.gb_bus.specs.Parts.{closed, next_of, numbered, ops_of, queue_of, soiled}
use Rattle.gb_bus.specs.Seen.{by_number, seen, seen_in_order}
use Rattle.gb_bus.specs.Sides.{HasEndsOf}
use Rattle.gb_bus.specs.declared.connection.Connection as code
use Rattle.gb_machine.specs.Lists.{at_first}

-- ---- what is found

-- the connection with a number
pub finds : (live : Live) (xs : List Connection) (k : ℕ) (o : Option code.Connection)
    → seen_in_order live.entries ≡ xs → get nat_eq live k ≡ o
    → find (numbered k) xs ≡ option_map (seen k) o
finds live xs k o view is =
    ap (find (numbered k)) (sym view) ∙ find-seen (by_number live.entries) k
    ∙ ap (option_map (seen k)) (lookup-sorted k live.entries ∙ is)

pub queue-number : (j k : ℕ) (x : code.Connection) (s : Side)
    → queue_of s (seen j x) ≡ queue_of s (seen k x)
queue-number j k x side.Ap = refl
queue-number j k x side.Far = refl

pub ops-seen : (k : ℕ) (x : code.Connection) (s : Side)
    → ops_of s (seen 0 x) ≡ ops_of s (seen k x)
ops-seen k x side.Ap = refl
ops-seen k x side.Far = refl

pub next-seen : (k : ℕ) (x : code.Connection) (s : Side)
    → next_of s (seen 0 x) ≡ next_of s (seen k x)
next-seen k x side.Ap = refl
next-seen k x side.Far = refl

-- ---- one connection changes

-- the same by its number
abbrev pub filled : ℕ → Connection → Connection
filled k c = record c { number = k }

-- what is seen, where one changes
pub changes-one : (live live' : Live) (ends : Ends) (q : List End) (k : ℕ) (x y : code.Connection)
    (f : Connection → Connection) → MapsAgree live ends q → get nat_eq live k ≡ Some x
    → live'.entries ≡ set_value (nat_eq k) live.entries y
    → seen k y ≡ f (seen k x)
    → seen_in_order live'.entries ≡ at_first (numbered k) f (seen_in_order live.entries)
changes-one live live' ends q k x y f kept found now one =
    changes (by_number live.entries) (by_number live'.entries) k x y f
    (unique-sorted live.entries kept.unique) (lookup-sorted k live.entries ∙ found)
    (ap by_number now ∙ set-sorted k live.entries x y kept.unique found) one

-- and where none does
pub nothing-changes : (live : Live) (xs : List Connection) (k : ℕ)
    (f : Connection → Connection) → seen_in_order live.entries ≡ xs → get nat_eq live k ≡ None
    → xs ≡ at_first (numbered k) f xs
nothing-changes live xs k f view none =
    subst (λ ys. ys ≡ at_first (numbered k) f ys) view
    (sym (first-nowhere (by_number live.entries) k f
    (nowhere k (by_number live.entries) (lookup-sorted k live.entries ∙ none))))

-- ---- something else changes than ends and what waits there

pub marked-ends : (f : Connection → Connection) → ((x : Connection) → HasEndsOf x (f x))
    → (x y : Connection) → y ≡ f x → HasEndsOf x y
marked-ends f same x y e = subst (HasEndsOf x) (sym e) (same x)

pub closed-ends : (x : Connection) → HasEndsOf x (closed x)
closed-ends x = record {
  near = refl;
  far = refl;
  wire = refl;
  near_waits = refl;
  far_waits = refl;
}

pub soiled-ends : (x : Connection) → HasEndsOf x (soiled x)
soiled-ends x = record {
  near = refl;
  far = refl;
  wire = refl;
  near_waits = refl;
  far_waits = refl;
}
