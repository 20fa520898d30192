-- Lists in order that have the same members are the same.
use Rattle.std.proofs.Common.{◌≡◌, ◌<◌, ℕ, Bool, true, List, [], ◌∷◌, refl, sym, ap, ◌∙◌, inl, inr}
use Rattle.std.proofs.Common.{arith}
use Rattle.gb_bus.specs.Listing.{AreThose, Rises}
use Rattle.gb_invariants.proofs.Outcomes.{any-in, in-any}
use Rattle.gb_machine.specs.Members.{Each, IsIn}

-- a member is above what all are above
pub above : (n m : ℕ) (ns : List ℕ) → Each (λ k. n < k) ns → IsIn m ns → n < m
above n m [] all i = absurd i
above n m (k ∷ ns) all (inl e) = let low = all.0 in omega (arith, low, e)
above n m (k ∷ ns) all (inr i) = above n m ns all.1 i

-- Lists that rise and have the same members are the same.
pub same-list : (ns ms : List ℕ) → Rises ns → Rises ms → ((n : ℕ) → IsIn n ns → IsIn n ms)
    → ((n : ℕ) → IsIn n ms → IsIn n ns) → ns ≡ ms
same-list [] [] r s f g = refl
same-list [] (m ∷ ms) r s f g = absurd (g m (inl refl))
same-list (n ∷ ns) [] r s f g = absurd (f n (inl refl))
same-list (n ∷ ns) (m ∷ ms) r s f g =
    ap (λ k. k ∷ ns) head
    ∙ ap (λ l. m ∷ l) (same-list ns ms r.1 s.1 down up)
  where
    low : IsIn n (m ∷ ms) → IsIn m (n ∷ ns) → n ≡ m
    low (inl e) j = e
    low (inr i) (inl e) = sym e
    low (inr i) (inr j) =
        let a = above m n ms s.0 i in let b = above n m ns r.0 j in absurd (omega (arith, a, b))

    head : n ≡ m
    head = low (f n (inl refl)) (g m (inl refl))

    down : (k : ℕ) → IsIn k ns → IsIn k ms
    down k i = by (f k (inr i))
      where
        by : IsIn k (m ∷ ms) → IsIn k ms
        by (inl e) = let a = above n k ns r.0 i in absurd (omega (arith, a, e, head))
        by (inr j) = j

    up : (k : ℕ) → IsIn k ms → IsIn k ns
    up k i = by (g k (inr i))
      where
        by : IsIn k (n ∷ ns) → IsIn k ns
        by (inl e) = let a = above m k ms s.0 i in absurd (omega (arith, a, e, head))
        by (inr j) = j

-- The numbers that pass a test, in order, are a list that rises and has those members.
pub those-are : (test : ℕ → Bool) (ns ms : List ℕ) → AreThose test ns → Rises ms
    → ((n : ℕ) → test n ≡ true → IsIn n ms) → ((n : ℕ) → IsIn n ms → test n ≡ true) → ns ≡ ms
those-are test ns ms h rises all only =
    same-list ns ms h.rises rises (λ n i. all n (sym (h.each n) ∙ in-any n ns i))
    (λ n i. any-in n ns (h.each n ∙ only n i))
