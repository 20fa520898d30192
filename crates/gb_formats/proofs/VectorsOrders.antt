-- Lines of a script with requesters in orders of theirs.
use Rattle.std.proofs.Common.{◌≡◌, true, false, [], ◌∷◌, refl, arith}
use Rattle.std.specs.Prelude.{ℕ, List, codes}
use Rattle.hex.specs.Hex.{decode_pairs}
use Rattle.gb_base.specs.declared.event.Event.{Event}
use Rattle.gb_base.specs.declared.event.Event.TheVariants as event
use Rattle.gb_base.specs.declared.parts.Asked.{Asked}
use Rattle.gb_formats.specs.Orders.{IsFair, merge}
use Rattle.gb_formats.specs.Parts.{parts}
use Rattle.gb_formats.proofs.Samples.{text_of}

-- a line of a requester
abbrev by : ℕ → ℕ → Event → Asked
by who line e = record { line = line; who = who; event = e }

-- two requesters behind a line of requester 0
abbrev script : List ℕ
script =
    text_of (codes "boot" ∷ codes "requester 1" ∷ codes "pull 2" ∷ codes "pull 3"
    ∷ codes "requester 2" ∷ codes "show" ∷ [])

-- the lines of the second requester between those of the first
pub merge-between : merge (parts script).asked
    ((0, false) ∷ (1, false) ∷ (2, false) ∷ (1, false) ∷ [])
    ≡ (by 0 1 event.Boot, false) ∷ (by 1 3 (event.Pull 2), false) ∷ (by 2 6 event.Show, false)
    ∷ (by 1 4 (event.Pull 3), false) ∷ []
unfolding decode_pairs
merge-between = refl

-- a line that is full
pub merge-full : merge (parts script).asked
    ((0, false) ∷ (1, true) ∷ (2, false) ∷ (1, false) ∷ [])
    ≡ (by 0 1 event.Boot, false) ∷ (by 1 3 (event.Pull 2), true) ∷ (by 2 6 event.Show, false)
    ∷ (by 1 4 (event.Pull 3), false) ∷ []
unfolding decode_pairs
merge-full = refl

-- an order in which a requester's first line is full
pub fair-leading : IsFair (by 0 1 event.Boot ∷ by 1 3 (event.Pull 2) ∷ by 1 4 (event.Pull 3) ∷ [])
    ((0, false) ∷ (1, true) ∷ (1, false) ∷ [])
fair-leading = record {
  opening = (0, false) ∷ [];
  leading = (1, true) ∷ [];
  threads = (1, false) ∷ [];
  order_is = refl;
  opens = (refl, tt);
  leads = (refl, omega arith, tt);
  follow = (omega arith, (λ f. absurd cc), tt);
  each = λ who. refl;
}

-- an order in which a requester's second line is full
pub fair-behind : IsFair (by 1 2 (event.Pull 2) ∷ by 1 3 (event.Pull 3) ∷ [])
    ((1, false) ∷ (1, true) ∷ [])
fair-behind = record {
  opening = [];
  leading = [];
  threads = (1, false) ∷ (1, true) ∷ [];
  order_is = refl;
  opens = tt;
  leads = tt;
  follow = (omega arith, (λ f. absurd cc), (omega arith, (λ f. refl), tt));
  each = λ who. refl;
}
