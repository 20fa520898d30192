-- Identifiers differ, each number is in one item, names name requests, and the counts add up.
use Rattle.std.proofs.Common.{Bool, List, None, Option, Some, arith, cond, false, length, map, refl}
use Rattle.std.proofs.Common.{true, ℕ, [], ◌++◌, ◌+◌, ◌∷◌, ◌≡◌, ◌≤◌}
use Rattle.gb_base.specs.declared.outcome.Outcome.{Outcome}
use Rattle.gb_base.specs.declared.outcome.Outcome.TheVariants as outcome
use Rattle.gb_machine.specs.Bus.{Bus, Item, Request, outcome_of}
use Rattle.gb_machine.specs.LawsBus.{HaveNamed, HaveOneItem, HaveOwnLabels, is_item_of}
use Rattle.gb_machine.specs.Summary.{CountsAddUp, is_answered, is_cancelled, is_disconnected}
use Rattle.gb_machine.specs.Summary.{is_sent, is_timed_out, is_unended, standing_from}
use Rattle.gb_machine.specs.{Events.last_state, Events.trace, Holding.held_on, Holding.is_held_on}
use Rattle.gb_machine.specs.{Members.times, State.Held, State.first_state}
use Rattle.gb_invariants.proofs.Counts.{times-append, times-cons, total-some}
use Rattle.gb_invariants.proofs.Lists.{each-from}
use Rattle.gb_invariants.specs.Facts.{Loose, times_on}
use Rattle.gb_laws.proofs.{basis.Basics.Based, basis.Basics.basis-throughout}
use Rattle.gb_laws.proofs.{points.PointParts.loose_held}
use Rattle.gb_laws.proofs.{runs.Runs.HoldsByMoments, runs.Runs.weaker}

-- Identifiers that are in use differ.
pub labels-by_moments : HoldsByMoments HaveOwnLabels
labels-by_moments = weaker Based HaveOwnLabels (λ told s h. h.bus.labels) basis-throughout

-- A name names a request that was made.
pub names-by_moments : HoldsByMoments HaveNamed
names-by_moments = weaker Based HaveNamed (λ told s h. h.names) basis-throughout

-- what is held on a connection is among what is loose
held-counted : (test : Item → Bool) (k : ℕ) (hs : List Held)
    → times test (map (λ (h : Held). h.item) (held_on k hs)) ≤ times (λ (l : Loose). test l.item)
    (map loose_held hs)
held-counted test k [] = omega arith
held-counted test k (h ∷ hs) = by (is_held_on k h) (held-counted test k hs)
  where
    by : (t : Bool) → times test (map (λ (h : Held). h.item) (held_on k hs)) ≤ times
        (λ (l : Loose). test l.item) (map loose_held hs)
        → times test (map (λ (h : Held). h.item) (cond t (h ∷ held_on k hs) (held_on k hs))) ≤ times
        (λ (l : Loose). test l.item) (loose_held h ∷ map loose_held hs)
    by true r = omega (
      arith,
      r,
      times-cons test h.item (map (λ (h : Held). h.item) (held_on k hs)),
      times-cons (λ (l : Loose). test l.item) (loose_held h) (map loose_held hs),
    )
    by false r = omega (
      arith,
      r,
      times-cons (λ (l : Loose). test l.item) (loose_held h) (map loose_held hs),
    )

-- On a clean connection each number is in one item at most; so it is on others.
pub one-item_by_moments : HoldsByMoments HaveOneItem
one-item_by_moments =
    weaker Based HaveOneItem (λ told s h. each-from _ s.bus.connections (λ c live clean n.
    let most = h.bus.ones n in
    let here = total-some (times_on (is_item_of n)) s.bus.connections c live in
    let held = held-counted (is_item_of n) c.number s.held in
    omega (
      arith,
      most,
      here,
      held,
      times-append (is_item_of n) c.to_ap
          (c.to_far ++ map (λ (x : Held). x.item) (held_on c.number s.held)),
      times-append (is_item_of n) c.to_far (map (λ (x : Held). x.item) (held_on c.number s.held)),
    ))) basis-throughout

-- ---- counts

-- how a request stands is one of six
adds-up : (n : ℕ) (b : Bus) (rs : List Request)
    → length rs ≡ standing_from n is_answered b rs + standing_from n is_cancelled b rs +
    standing_from n is_timed_out b rs
    + standing_from n is_disconnected b rs + standing_from n is_sent b rs + standing_from n
    is_unended b rs
adds-up n b [] = refl
adds-up n b (r ∷ rs) = by (outcome_of n b) (adds-up (n + 1) b rs)
  where
    by : (o : Option Outcome)
        → length rs ≡ standing_from (n + 1) is_answered b rs + standing_from (n + 1) is_cancelled b
        rs + standing_from (n + 1) is_timed_out b rs
        + standing_from (n + 1) is_disconnected b rs + standing_from (n + 1) is_sent b rs +
        standing_from (n + 1) is_unended b rs
        → length (r ∷ rs) ≡ cond (is_answered o) (standing_from (n + 1) is_answered b rs + 1)
        (standing_from (n + 1) is_answered b rs)
        + cond (is_cancelled o) (standing_from (n + 1) is_cancelled b rs + 1)
        (standing_from (n + 1) is_cancelled b rs)
        + cond (is_timed_out o) (standing_from (n + 1) is_timed_out b rs + 1)
        (standing_from (n + 1) is_timed_out b rs)
        + cond (is_disconnected o) (standing_from (n + 1) is_disconnected b rs + 1)
        (standing_from (n + 1) is_disconnected b rs)
        + cond (is_sent o) (standing_from (n + 1) is_sent b rs + 1)
        (standing_from (n + 1) is_sent b rs)
        + cond (is_unended o) (standing_from (n + 1) is_unended b rs + 1)
        (standing_from (n + 1) is_unended b rs)
    by None h = omega (arith, h)
    by (Some outcome.Cancelled) h = omega (arith, h)
    by (Some outcome.Timeout) h = omega (arith, h)
    by (Some outcome.Disconnected) h = omega (arith, h)
    by (Some outcome.Sent) h = omega (arith, h)
    by (Some (outcome.Answered result payload)) h = omega (arith, h)

-- In every run each request is counted once.
pub counts-add-up : CountsAddUp
counts-add-up es = let b = (last_state first_state (trace es)).bus in adds-up 1 b b.requests
