-- Numbers in order, and whose they are.
use Rattle.std.proofs.Common.{◌≡◌, ◌<◌, ℕ, Bool, true, false, cond, ◌⊎◌, inl, inr, ⊎_elim, Some}
use Rattle.std.proofs.Common.{List, [], ◌∷◌, Less, Equal, Greater, refl, sym, ap, subst, ◌∙◌}
use Rattle.std.proofs.Common.{arith}
use Rattle.std.proofs.lemmas.Bool.{eq-eqb}
use Rattle.std.proofs.lemmas.Bool.Decides.{nat_tests}
use Rattle.std.proofs.lemmas.Map.Keys.{IsDistinct-head, IsDistinct-tail, sorted_head, sorted_tail}
use Rattle.std.specs.Prelude.{IsSome, nat_eq}
use Rattle.std.specs.BTreeMap.{is_at}
use Rattle.std.specs.BTreeSet.{insert_key}
use Rattle.std.specs.List.{AllByRecursion, IsDistinct}
use Rattle.std.specs.List.Sorted.{IsStrictlySortedBy}
use Rattle.std.specs.Map.{keys_of, lookup}
use Rattle.std.specs.Ordering.{is_eq, match_ordering, nat_cmp}
use Rattle.std.specs.declared.cmp.Ordering.{Ordering}
use Rattle.gb_machine.specs.Members.{Each, EachTwo, IsIn}
use Rattle.gb_ops.proofs.Maps.{key_same, same_some}
use Rattle.gb_ops.specs.Listed.{IsLate, IsOpen, Lists, late_among, put_late}
use Rattle.gb_ops.specs.Operations.{Operations}
use Rattle.gb_ops.specs.declared.entries.Holder.{Holder}
use Rattle.gb_ops.specs.declared.entries.Pending.{Pending}

-- ---- in order

all-above : (k : ℕ) (ks : List ℕ) → AllByRecursion (λ y. nat_cmp k y ≡ Less) ks
    → Each (λ m. k < m) ks
all-above k [] all = tt
all-above k (m ∷ ks) all =
    (let e = all.0 in let low : k < m = grind (arith, nat_tests) in low, all-above k ks all.1)

-- Sorted numbers rise.
pub rising : (ks : List ℕ) → IsStrictlySortedBy nat_cmp ks → EachTwo (λ n m. n < m) ks
rising [] s = tt
rising (k ∷ ks) s =
    (all-above k ks (sorted_head nat_cmp k ks s), rising ks (sorted_tail nat_cmp k ks s))

-- ---- what stands at a key

pub equal-key : (m x : ℕ) → is_eq (nat_cmp m x) ≡ true → m ≡ x
equal-key m x e = grind (arith, nat_tests)

pub same-key : (m x : ℕ) → nat_cmp m x ≡ Equal → m ≡ x
same-key m x e = grind (arith, nat_tests)

key-in : {X : Type 0} (n : ℕ) (es : List (ℕ × X)) → IsSome (lookup (is_at (nat_cmp n)) es)
    → IsIn n (keys_of es)
key-in n [] some = absurd (cc some)
key-in n (e ∷ es) some = by (is_eq (nat_cmp n e.0)) refl some (key-in n es)
  where
    by : (t : Bool) → is_eq (nat_cmp n e.0) ≡ t
        → IsSome (cond t (Some e.1) (lookup (is_at (nat_cmp n)) es))
        → (IsSome (lookup (is_at (nat_cmp n)) es) → IsIn n (keys_of es))
        → IsIn n (keys_of (e ∷ es))
    by true is some later = inl (equal-key n e.0 is)
    by false is some later = inr (later some)

in-key : {X : Type 0} (n : ℕ) (es : List (ℕ × X)) → IsIn n (keys_of es)
    → IsSome (lookup (is_at (nat_cmp n)) es)
in-key n [] i = absurd i
in-key n (e ∷ es) i = by (is_eq (nat_cmp n e.0)) refl i (in-key n es)
  where
    by : (t : Bool) → is_eq (nat_cmp n e.0) ≡ t → IsIn n (keys_of (e ∷ es))
        → (IsIn n (keys_of es) → IsSome (lookup (is_at (nat_cmp n)) es))
        → IsSome (cond t (Some e.1) (lookup (is_at (nat_cmp n)) es))
    by true is i later = refl
    by false is (inl e) later = absurd (cc (is, key_same n _ e))
    by false is (inr j) later = later j

-- an entry with this key
record Stands {X : Type 0} (n : ℕ) (x : X) (es : List (ℕ × X)) : Type 0 where
  entry : ℕ × X
  there : IsIn entry es
  is : entry.1 ≡ x

stands-at : {X : Type 0} (n : ℕ) (x : X) (es : List (ℕ × X))
    → lookup (nat_eq n) es ≡ Some x → Stands n x es
stands-at n x [] h = absurd cc
stands-at n x (e ∷ es) h = by (nat_eq n e.0) h (stands-at n x es)
  where
    by : (t : Bool) → cond t (Some e.1) (lookup (nat_eq n) es) ≡ Some x
        → (lookup (nat_eq n) es ≡ Some x → Stands n x es) → Stands n x (e ∷ es)
    by true f later = record { entry = e; there = inl refl; is = same_some e.1 x f }
    by false f later =
        let s = later f in record { entry = s.entry; there = inr s.there; is = s.is }

apart : {X : Type 0} (k : ℕ) (e : ℕ × X) (es : List (ℕ × X))
    → AllByRecursion (λ y. nat_eq k y ≡ false) (keys_of es) → IsIn e es → nat_eq e.0 k ≡ false
apart k e [] all i = absurd i
apart k e (f ∷ es) all (inl is) =
    let not_k = all.0 in
    ap (λ x. nat_eq x.0 k) is ∙ (let ne : nat_eq f.0 k ≡ false = grind (arith, nat_tests) in ne)
apart k e (f ∷ es) all (inr i) = apart k e es all.1 i

at-stands : {X : Type 0} (e : ℕ × X) (es : List (ℕ × X)) → IsDistinct nat_eq (keys_of es)
    → IsIn e es → lookup (nat_eq e.0) es ≡ Some e.1
at-stands e [] s i = absurd i
at-stands e (f ∷ es) s (inl is) =
    ap (λ t. cond t (Some f.1) (lookup (nat_eq e.0) es)) (eq-eqb e.0 f.0 (ap (λ x. x.0) is))
    ∙ ap (λ x. Some x.1) (sym is)
at-stands e (f ∷ es) s (inr i) =
    ap (λ t. cond t (Some f.1) (lookup (nat_eq e.0) es))
    (apart f.0 e es (IsDistinct-head nat_eq f.0 (keys_of es) s) i)
    ∙ at-stands e es (IsDistinct-tail nat_eq f.0 (keys_of es) s) i

-- ---- the open ones

-- The numbers of the open requests are those of the keys.
pub unended-are : (x : Operations) (es : List (ℕ × Pending)) (ns : List ℕ) → es ≡ x.pending
    → ns ≡ keys_of es → IsStrictlySortedBy nat_cmp (keys_of es) → Lists (IsOpen x) ns
unended-are x es ns same is s = record {
  rise = subst (EachTwo (λ n m. n < m)) (sym is) (rising (keys_of es) s);
  all = λ n some. subst (IsIn n) (sym is) (key-in n es
      (subst (λ (l : List (ℕ × Pending)). IsSome (lookup (is_at (nat_cmp n)) l)) (sym same) some));
  only = λ n i. subst (λ (l : List (ℕ × Pending)). IsSome (lookup (is_at (nat_cmp n)) l)) same
      (in-key n es (subst (IsIn n) is i));
}

-- ---- those that were given up

put-here : (k : ℕ) (ns : List ℕ) → IsIn k (insert_key nat_cmp ns k)
put-here k [] = inl refl
put-here k (x ∷ ns) = by (nat_cmp k x) refl (put-here k ns)
  where
    by : (o : Ordering) → nat_cmp k x ≡ o → IsIn k (insert_key nat_cmp ns k)
        → IsIn k (match_ordering o (k ∷ x ∷ ns) (x ∷ ns) (x ∷ insert_key nat_cmp ns k))
    by Less is later = inl refl
    by Equal is later = inl (same-key k x is)
    by Greater is later = inr later

put-stays : (n k : ℕ) (ns : List ℕ) → IsIn n ns → IsIn n (insert_key nat_cmp ns k)
put-stays n k [] i = absurd i
put-stays n k (x ∷ ns) i = by (nat_cmp k x) i (put-stays n k ns)
  where
    by : (o : Ordering) → IsIn n (x ∷ ns) → (IsIn n ns → IsIn n (insert_key nat_cmp ns k))
        → IsIn n (match_ordering o (k ∷ x ∷ ns) (x ∷ ns) (x ∷ insert_key nat_cmp ns k))
    by Less j later = inr j
    by Equal j later = j
    by Greater (inl is) later = inl is
    by Greater (inr j) later = inr (later j)

put-only : (n k : ℕ) (ns : List ℕ) → IsIn n (insert_key nat_cmp ns k) → (n ≡ k) ⊎ IsIn n ns
put-only n k [] (inl is) = inl is
put-only n k [] (inr i) = absurd i
put-only n k (x ∷ ns) i = by (nat_cmp k x) i (put-only n k ns)
  where
    by : (o : Ordering)
        → IsIn n (match_ordering o (k ∷ x ∷ ns) (x ∷ ns) (x ∷ insert_key nat_cmp ns k))
        → (IsIn n (insert_key nat_cmp ns k) → (n ≡ k) ⊎ IsIn n ns) → (n ≡ k) ⊎ IsIn n (x ∷ ns)
    by Less (inl is) later = inl is
    by Less (inr j) later = inr j
    by Equal j later = inr j
    by Greater (inl is) later = inr (inl is)
    by Greater (inr j) later = ⊎_elim (λ is. inl is) (λ old. inr (inr old)) (later j)

-- a number that was there stays, and that of a request that was given up is put there
late-stays : (n : ℕ) (h : Holder) (ns : List ℕ) → IsIn n ns → IsIn n (put_late ns h)
late-stays n h ns i = by h.given_up
  where
    by : (t : Bool) → IsIn n (cond t (insert_key nat_cmp ns h.number) ns)
    by true = put-stays n h.number ns i
    by false = i

late-here : (n : ℕ) (h : Holder) (ns : List ℕ) → h ≡ record { number = n; given_up = true }
    → IsIn n (put_late ns h)
late-here n h ns is = subst (λ g. IsIn n (put_late ns g)) (sym is) (put-here n ns)

late-only : (n : ℕ) (h : Holder) (ns : List ℕ) → IsIn n (put_late ns h)
    → (h ≡ record { number = n; given_up = true }) ⊎ IsIn n ns
late-only n h ns i = by h.given_up refl i
  where
    by : (t : Bool) → h.given_up ≡ t → IsIn n (cond t (insert_key nat_cmp ns h.number) ns)
        → (h ≡ record { number = n; given_up = true }) ⊎ IsIn n ns
    by true is j = ⊎_elim
        (λ same. inl (ap (λ m. record { number = m; given_up = h.given_up }) (sym same)
        ∙ ap (λ t. record { number = n; given_up = t }) is))
        (λ old. inr old) (put-only n h.number ns j)
    by false is j = inr j

among-stays : (n : ℕ) (ns : List ℕ) (es : List (ℕ × Holder)) → IsIn n ns
    → IsIn n (late_among ns es)
among-stays n ns [] i = i
among-stays n ns (e ∷ es) i = among-stays n (put_late ns e.1) es (late-stays n e.1 ns i)

among-all : (n : ℕ) (ns : List ℕ) (e : ℕ × Holder) (es : List (ℕ × Holder)) → IsIn e es
    → e.1 ≡ record { number = n; given_up = true } → IsIn n (late_among ns es)
among-all n ns e [] i is = absurd i
among-all n ns e (f ∷ es) (inl same) is =
    among-stays n (put_late ns f.1) es
    (late-here n f.1 ns (ap (λ x. x.1) (sym same) ∙ is))
among-all n ns e (f ∷ es) (inr i) is = among-all n (put_late ns f.1) e es i is

-- an entry is of a request that was given up
abbrev IsAmong : ℕ → List (ℕ × Holder) → Type 0
IsAmong n es = Stands n (record { number = n; given_up = true }) es

among-only : (n : ℕ) (ns : List ℕ) (es : List (ℕ × Holder)) → IsIn n (late_among ns es)
    → IsIn n ns ⊎ IsAmong n es
among-only n ns [] i = inl i
among-only n ns (e ∷ es) i = ⊎_elim
    (λ j. ⊎_elim (λ is. inr (record { entry = e; there = inl refl; is = is })) (λ old. inl old)
    (late-only n e.1 ns j))
    (λ s. inr (record { entry = s.entry; there = inr s.there; is = s.is }))
    (among-only n (put_late ns e.1) es i)

-- The numbers of the requests that were given up are those that the identifiers have.
pub late-are : (x : Operations) (es : List (ℕ × Holder)) (ns : List ℕ) → es ≡ x.holders
    → ns ≡ late_among [] es → IsStrictlySortedBy nat_cmp ns
    → IsDistinct nat_eq (keys_of es) → Lists (IsLate x) ns
late-are x es ns same is sorted distinct = record {
  rise = rising ns sorted;
  all = λ n late.
      let w = stands-at late.label (record { number = n; given_up = true }) es
      (ap (lookup (nat_eq late.label)) same ∙ late.held) in
      subst (IsIn n) (sym is) (among-all n [] w.entry es w.there w.is);
  only = λ n i. ⊎_elim (λ none. absurd none)
      (λ w. record {
        label = w.entry.0;
        held = ap (lookup (nat_eq w.entry.0)) (sym same)
            ∙ at-stands w.entry es distinct w.there ∙ ap Some w.is;
      })
      (among-only n [] es (subst (IsIn n) is i));
}
