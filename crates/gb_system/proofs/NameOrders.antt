-- The order of names, and where an ordered map puts one.
use Rattle.std.proofs.Common.{◌≡◌, ℕ, Bool, true, false, cond, ◌&&◌, ◌||◌, ltb, eqb, Some, None}
use Rattle.std.proofs.Common.{List, [], ◌∷◌, Equal, Greater, Less, refl, sym, ap, ◌∙◌}
use Rattle.std.specs.BTreeMap.{insert_entry}
use Rattle.std.specs.Cmp.Lexicographic.{slice_cmp}
use Rattle.std.specs.Ordering.{is_eq, is_lt, match_ordering, nat_cmp, ordering_then}
use Rattle.std.specs.declared.cmp.Ordering.{Ordering}
use Rattle.gb_base.specs.declared.name.Name.{Name}
use Rattle.gb_machine.specs.Lists.{in_order}
use Rattle.gb_machine.specs.Names.{name_before, named, same_name, word_before}
use Rattle.gb_system.specs.NameOrder.{name_cmp, name_equiv, name_ties}
use Rattle.gb_system.specs.Showing.{pair_before}

-- ---- one order

-- two parts, of which the first decides
both : (a b : ℕ) (t : Bool) (o : Ordering) → t ≡ is_lt o
    → ltb a b || eqb a b && t ≡ is_lt (ordering_then (nat_cmp a b) o)
both a b t o e = by (ltb a b) (eqb a b)
  where
    by : (less same : Bool)
        → less || same && t ≡ is_lt (ordering_then (cond less Less (cond same Equal Greater)) o)
    by true same = refl
    by false true = e
    by false false = refl

-- the order of words is that of lists of bytes
word-less : (xs ys : List ℕ) → word_before xs ys ≡ is_lt (slice_cmp nat_cmp xs ys)
word-less [] [] = refl
word-less [] (y ∷ ys) = refl
word-less (x ∷ xs) [] = refl
word-less (x ∷ xs) (y ∷ ys) =
    both x y (word_before xs ys) (slice_cmp nat_cmp xs ys) (word-less xs ys)

-- the order of names is that of the map
pub name-less : (a b : Name) → name_before a b ≡ is_lt (name_cmp a b)
name-less a b =
    both a.who b.who (word_before a.word b.word) (slice_cmp nat_cmp a.word b.word)
    (word-less a.word b.word)

-- ---- what a map has

-- a name that isn't there goes to its place
pub placed-name : (name : Name) (n : ℕ) (ps : List (Name × ℕ)) → named name ps ≡ None
    → insert_entry name_cmp ps name n ≡ in_order pair_before (name, n) ps
placed-name name n [] free = refl
placed-name name n (p ∷ ps) free =
    by (name_cmp name p.0) (name-less name p.0) (name_equiv.symm p.0 name ∙ name_ties name p.0)
    free (placed-name name n ps)
  where
    by : (o : Ordering) → name_before name p.0 ≡ is_lt o → same_name p.0 name ≡ is_eq o
        → cond (same_name p.0 name) (Some p.1) (named name ps) ≡ None
        → (named name ps ≡ None
        → insert_entry name_cmp ps name n ≡ in_order pair_before (name, n) ps)
        → match_ordering o ((name, n) ∷ p ∷ ps) ((p.0, n) ∷ ps)
        (p ∷ insert_entry name_cmp ps name n)
        ≡ cond (name_before name p.0) ((name, n) ∷ p ∷ ps) (p ∷ in_order pair_before (name, n) ps)
    by Less before same e rec =
        ap (λ t. cond t ((name, n) ∷ p ∷ ps) (p ∷ in_order pair_before (name, n) ps)) (sym before)
    by Equal before same e rec = absurd (cc (ap (λ t. cond t (Some p.1) (named name ps)) same, e))
    by Greater before same e rec =
        ap (λ qs. p ∷ qs) (rec (sym (ap (λ t. cond t (Some p.1) (named name ps)) same) ∙ e))
        ∙ ap (λ t. cond t ((name, n) ∷ p ∷ ps) (p ∷ in_order pair_before (name, n) ps)) (sym before)
