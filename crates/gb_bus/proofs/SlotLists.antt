-- The numbers that a map of places lists.
use Rattle.std.proofs.Common.{◌≡◌, ◌≢◌, ℕ, Bool, true, false, cond, ◌||◌, ◌⊎◌, inl, inr, Option}
use Rattle.std.proofs.Common.{Some, None, option_and_then, List, [], ◌∷◌, eqb, refl, sym, ap, ◌∙◌}
use Rattle.std.proofs.lemmas.Bool.{cases_eq}
use Rattle.std.proofs.lemmas.Map.{lookup-none}
use Rattle.std.proofs.lemmas.Map.Entries.{none_past_head}
use Rattle.std.proofs.lemmas.Map.Keys.{IsDistinct-tail}
use Rattle.std.specs.BTreeSet.{insert_key}
use Rattle.std.specs.Cmp.{nat_eq_equiv}
use Rattle.std.specs.List.{IsDistinct}
use Rattle.std.specs.List.Sorted.{IsStrictlySortedBy}
use Rattle.std.specs.Map.{keys_of}
use Rattle.std.specs.Ordering.{nat_cmp}
use Rattle.gb_bus.proofs.SlotDues.{stands-put}
use Rattle.gb_bus.proofs.SlotMaps.{other-number, same-number}
use Rattle.gb_bus.specs.Keeping.{numbers_where, put_where}
use Rattle.gb_bus.specs.Listing.{AreThose, stands_in}
use Rattle.gb_bus.specs.Slots.{SlotsKept, slot_at, under}
use Rattle.gb_bus.specs.declared.slots.Slot.{Slot}
use Rattle.gb_ops.proofs.Listing.{rising}
use Rattle.gb_table.specs.Table.{item_at}

-- what is found passes a test
abbrev pub passes : {X : Type 0} → (X → Bool) → Option X → Bool
passes test None = false
passes test (Some x) = test x

-- past the entry of a number there is no other of it
none-past : {X : Type 0} (n : ℕ) (e : ℕ × X) (es : List (ℕ × X)) → IsDistinct eqb (keys_of (e ∷ es))
    → n ≡ e.0 → item_at es n ≡ None
none-past n e es d is =
    lookup-none (eqb n) es (none_past_head nat_eq_equiv n e es d (same-number n e.0 is))

-- those that are listed are those that were there and those that pass
pub stands-where : {X : Type 0} (test : X → Bool) (n : ℕ) (ns : List ℕ) (es : List (ℕ × X))
    → IsDistinct eqb (keys_of es)
    → stands_in n (numbers_where test ns es) ≡ (stands_in n ns || passes test (item_at es n))
stands-where test n ns [] d = last (stands_in n ns)
  where
    last : (a : Bool) → a ≡ (a || false)
    last true = refl
    last false = refl
stands-where test n ns (e ∷ es) d =
    stands-where test n (put_where test ns e) es (IsDistinct-tail eqb e.0 (keys_of es) d)
    ∙ by (cases_eq n e.0)
  where
    second : (a : Bool) → true ≡ (a || true)
    second true = refl
    second false = refl

    here : (t : Bool) → n ≡ e.0
        → (stands_in n (cond t (insert_key nat_cmp ns e.0) ns) || false) ≡ (stands_in n ns || t)
    here true is =
        ap (λ b. b || false)
        (stands-put n e.0 ns ∙ ap (λ b. b || stands_in n ns) (same-number e.0 n (sym is)))
        ∙ second (stands_in n ns)
    here false is = refl

    there : (t : Bool) → n ≢ e.0
        → stands_in n (cond t (insert_key nat_cmp ns e.0) ns) ≡ stands_in n ns
    there true ne =
        stands-put n e.0 ns
        ∙ ap (λ b. b || stands_in n ns) (other-number e.0 n (λ is. ne (sym is)))
    there false ne = refl

    by : (n ≡ e.0) ⊎ (n ≡ e.0 → ⊥)
        → (stands_in n (put_where test ns e) || passes test (item_at es n))
        ≡ (stands_in n ns || passes test (item_at (e ∷ es) n))
    by (inl is) =
        ap (λ o. stands_in n (put_where test ns e) || passes test o) (none-past n e es d is)
        ∙ here (test e.1) is
        ∙ sym (ap (λ t. stands_in n ns || passes test (cond t (Some e.1) (item_at es n)))
        (same-number n e.0 is))
    by (inr ne) =
        ap (λ b. b || passes test (item_at es n)) (there (test e.1) ne)
        ∙ sym (ap (λ t. stands_in n ns || passes test (cond t (Some e.1) (item_at es n)))
        (other-number n e.0 ne))

-- a test of the slot under what is found
under-found : (f : Option Slot → Bool) (u : ℕ → Option Slot) (o : Option ℕ) → f None ≡ false
    → f (option_and_then u o) ≡ passes (λ key. f (u key)) o
under-found f u None none = none
under-found f u (Some key) none = refl

-- The numbers whose slots pass a test, in order.
pub slots-listed : (x : SlotsKept) (f : Option Slot → Bool) (ns : List ℕ) → f None ≡ false
    → IsDistinct eqb (keys_of x.places) → IsStrictlySortedBy nat_cmp ns
    → ns ≡ numbers_where (λ key. f (under x.slots key)) [] x.places
    → AreThose (λ n. f (slot_at x n)) ns
slots-listed x f ns none unique sorted is = record {
  rises = rising ns sorted;
  each = λ n. ap (stands_in n) is
      ∙ stands-where (λ key. f (under x.slots key)) n [] x.places unique
      ∙ sym (under-found f (under x.slots) (item_at x.places n) none);
}
