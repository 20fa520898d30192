-- A request that waits and has a number was made.
use Rattle.std.proofs.Common.{None, Option, Some, refl, true, ℕ, ◌≡◌}
use Rattle.std.specs.Prelude.{option_map}
use Rattle.gb_machine.specs.Bus.{Ask, Bus, Item, Request, request_of}
use Rattle.gb_machine.specs.Incoming.{Incoming, incoming, request_in}
use Rattle.gb_invariants.proofs.Awaiting.{same-some}
use Rattle.gb_invariants.specs.Facts.{is_numbered}

pub numbered-ask : (item : Item) (b : Bus) (q : Incoming) → is_numbered item ≡ true
    → request_in item b ≡ Some q
    → (n : ℕ) × (r : Request) × (item ≡ Ask n) × (request_of n b ≡ Some r) × (incoming n r ≡ q)
numbered-ask (Ask n) b q numbered made = by (request_of n b) refl made
  where
    by : (o : Option Request) → request_of n b ≡ o → option_map (incoming n) o ≡ Some q
        → (k : ℕ) × (r : Request) × (Ask n ≡ Ask k) × (request_of k b ≡ Some r) × (incoming k r ≡ q)
    by None e f = absurd cc
    by (Some r) e f = (n, r, refl, e, same-some (incoming n r) q f)
numbered-ask _ b q numbered made = absurd cc
