-- The order of names, and when two are one.
use Rattle.std.proofs.Common.{ap, eqb-true, ◌∙◌}
use Rattle.std.specs.Prelude.{◌≡◌, ◌==◌, ⊤, ℕ, true, None, Some, List, [], ◌∷◌, refl}
use Rattle.std.specs.Cmp.{IsEquivalence, IsPartialOrder, IsTotalOrder, and_equiv, both_tied}
use Rattle.std.specs.Cmp.{first_so, second_so}
use Rattle.std.specs.Cmp.{nat_cmp_total, nat_eq_equiv, on_equiv, on_total}
use Rattle.std.specs.Cmp.{partial_order_from_agreeing_total, then_total, unsigned_ties}
use Rattle.std.specs.Cmp.Lexicographic.{bytes_decides, nat_list_cmp_total, nat_list_eq_equiv}
use Rattle.std.specs.Cmp.Lexicographic.{slice_cmp, texts_ties}
use Rattle.std.specs.Ordering.{eq_by_cmp, nat_cmp, ordering_then}
use Rattle.std.specs.Str.{bytes_eq}
use Rattle.std.specs.declared.cmp.Ordering.{Ordering}
use Rattle.gb_base.specs.declared.name.Name.{Name}
use Rattle.gb_machine.specs.Names.{named, same_name}

-- by requester, then by word
abbrev pub name_cmp : Name → Name → Ordering
name_cmp a b = ordering_then (nat_cmp a.who b.who) (slice_cmp nat_cmp a.word b.word)

-- that is a total order
pub name_total : IsTotalOrder name_cmp
name_total =
    then_total (on_total (λ n. n.who) nat_cmp_total) (on_total (λ n. n.word) nat_list_cmp_total)

-- in which two names are equal exactly where they are one
pub name_ties : (a b : Name) → same_name a b ≡ eq_by_cmp name_cmp a b
name_ties a b =
    both_tied _ _ (nat_cmp a.who b.who) (slice_cmp nat_cmp a.word b.word)
    (unsigned_ties a.who b.who) (texts_ties a.word b.word)

-- so that it is a partial order too
pub name_order : IsPartialOrder same_name (λ a b. Some (name_cmp a b))
name_order = partial_order_from_agreeing_total name_cmp name_total (λ a b. refl) name_ties

-- names that are one are alike
pub name_equiv : IsEquivalence same_name
name_equiv =
    and_equiv (on_equiv (λ n. n.who) nat_eq_equiv) (on_equiv (λ n. n.word) nat_list_eq_equiv)

-- a name by its requester and its word
abbrev name_of : ℕ → List ℕ → Name
name_of who word = record { who = who; word = word }

-- names that are one are equal
pub one_name : (a b : Name) → same_name a b ≡ true → a ≡ b
one_name a b same =
    ap (λ who. name_of who a.word)
    (eqb-true a.who b.who (first_so (a.who == b.who) (bytes_eq a.word b.word) same))
    ∙ ap (name_of b.who)
    ((bytes_decides a.word b.word).0 (second_so (a.who == b.who) (bytes_eq a.word b.word) same))

-- the names of pairs differ
abbrev pub AreApart : List (Name × ℕ) → Type 0
AreApart [] = ⊤
AreApart (p ∷ ps) = (named p.0 ps ≡ None) × AreApart ps
