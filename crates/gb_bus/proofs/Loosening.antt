-- Items that are in no queue: one is let go, comes first, or comes between others.
use Rattle.std.proofs.Common.{ℕ, List, ◌∷◌, ◌++◌, inl, inr, ⊎_elim, arith}
use Rattle.gb_bus.specs.Delivering.{with_item}
use Rattle.gb_bus.specs.Stands.{Around, Stands, around_of}
use Rattle.gb_bus.specs.declared.bus.Bus.{Bus}
use Rattle.gb_invariants.proofs.Changes.{loose-keeps}
use Rattle.gb_invariants.proofs.Counts.{times-append, times-cons}
use Rattle.gb_invariants.proofs.Lists.{in-append, in-behind, in-front}
use Rattle.gb_invariants.specs.Facts.{BusFits, Loose}
use Rattle.gb_machine.specs.Bus as machine
use Rattle.gb_machine.specs.LawsBus.{is_item_of}
use Rattle.gb_machine.specs.Members.{IsIn}

-- without the first item the facts hold still
pub fits-without : (l : Loose) (loose : List Loose) (b : machine.Bus)
    → BusFits (l ∷ loose) b → BusFits loose b
fits-without l loose b h =
    loose-keeps (l ∷ loose) loose b (λ m i. inr i) (λ n.
    let t = times-cons (λ (m : Loose). is_item_of n m.item) l loose in omega (arith, t)) h

-- A bus stands still where an item that is in no queue is let go, as a request that gets no reply.
pub let-go : (l : Loose) (around : Around) (x : Bus) (b : machine.Bus)
    → Stands (with_item l around) x b → Stands around x b
let-go l around x b s = record {
  shows = s.shows;
  named = s.named;
  facts = record { fits = fits-without l around.items b s.facts.fits; apart = s.facts.apart };
}

-- an item between others is among those that there are with it in front
in-between : (before : List Loose) (l : Loose) (after : List Loose) (m : Loose)
    → IsIn m (l ∷ before ++ after) → IsIn m (before ++ l ∷ after)
in-between before l after m (inl e) = in-behind m before (l ∷ after) (inl e)
in-between before l after m (inr i) =
    ⊎_elim (λ j. in-front m before (l ∷ after) j) (λ j. in-behind m before (l ∷ after) (inr j))
    (in-append m before after i)

-- so the facts hold with it in front
pub fits-first : (before : List Loose) (l : Loose) (after : List Loose) (b : machine.Bus)
    → BusFits (before ++ l ∷ after) b → BusFits (l ∷ before ++ after) b
fits-first before l after b h =
    loose-keeps (before ++ l ∷ after) (l ∷ before ++ after) b (in-between before l after) (λ n.
    let has = λ (m : Loose). is_item_of n m.item in
    let whole = times-append has before (l ∷ after) in
    let rest = times-append has before after in
    let here = times-cons has l after in
    let first = times-cons has l (before ++ after) in
    omega (arith, whole, rest, here, first)) h

-- an item in front is among those that there are with it between others
in-front-of : (before : List Loose) (l : Loose) (after : List Loose) (m : Loose)
    → IsIn m (before ++ l ∷ after) → IsIn m (l ∷ before ++ after)
in-front-of before l after m i =
    ⊎_elim (λ j. inr (in-front m before after j))
    (λ j. ⊎_elim (λ e. inl e) (λ k. inr (in-behind m before after k)) j)
    (in-append m before (l ∷ after) i)

-- so the facts hold with it there
fits-between : (before : List Loose) (l : Loose) (after : List Loose) (b : machine.Bus)
    → BusFits (l ∷ before ++ after) b → BusFits (before ++ l ∷ after) b
fits-between before l after b h =
    loose-keeps (l ∷ before ++ after) (before ++ l ∷ after) b (in-front-of before l after) (λ n.
    let has = λ (m : Loose). is_item_of n m.item in
    let whole = times-append has before (l ∷ after) in
    let rest = times-append has before after in
    let here = times-cons has l after in
    let first = times-cons has l (before ++ after) in
    omega (arith, whole, rest, here, first)) h

-- A bus stands still where an item that is in no queue comes first,
pub stands-first : (names : List ℕ) (before : List Loose) (l : Loose) (after : List Loose) (x : Bus)
    (b : machine.Bus) → Stands (around_of (before ++ l ∷ after) names) x b
    → Stands (around_of (l ∷ before ++ after) names) x b
stands-first names before l after x b s = record {
  shows = s.shows;
  named = s.named;
  facts = record {
    fits = fits-first before l after b s.facts.fits;
    apart = s.facts.apart;
  };
}

-- or the first comes between others.
pub stands-between : (names : List ℕ) (before : List Loose) (l : Loose) (after : List Loose)
    (x : Bus) (b : machine.Bus) → Stands (around_of (l ∷ before ++ after) names) x b
    → Stands (around_of (before ++ l ∷ after) names) x b
stands-between names before l after x b s = record {
  shows = s.shows;
  named = s.named;
  facts = record {
    fits = fits-between before l after b s.facts.fits;
    apart = s.facts.apart;
  };
}
