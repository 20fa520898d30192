-- The first that passes a test is changed.
use Rattle.std.proofs.Common.{◌≡◌, ℕ, Bool, Option, Some, None, List, get_or, set, sym, ap, ◌∙◌}
use Rattle.std.specs.List.{position_from}
use Rattle.gb_machine.proofs.Positions.{none-stands, standing}
use Rattle.gb_machine.specs.Lists.{at_first}

-- where none passes
pub none-changes : {A : Type 0} (test : A → Bool) (xs : List A) (o : Option ℕ) (f : A → A)
    → o ≡ position_from test 0 xs → o ≡ None
    → xs ≡ at_first test f xs
none-changes test xs o f e h = sym ((none-stands test xs (sym e ∙ h)).1 f)

-- where one passes
pub one-changes : {A : Type 0} (test : A → Bool) (xs : List A) (o : Option ℕ) (i : ℕ) (x y : A) (f
    : A → A) (zs : List A)
    → o ≡ position_from test 0 xs → o ≡ Some i → zs ≡ xs → x ≡ get_or zs i x → y ≡ f x
    → set zs i y ≡ at_first test f xs
one-changes test xs o i x y f zs e h view is after =
    ap (λ l. set l i y) view ∙ ap (set xs i) (after ∙ ap f (is ∙ ap (λ l. get_or l i x) view))
    ∙ sym ((standing test xs i (sym e ∙ h)).changed f x)
