-- What was changed first is put back.
use Rattle.std.proofs.Common.{◌≡◌, ℕ, Bool, true, false, cond, Option, Some, None, List, [], ◌∷◌}
use Rattle.std.proofs.Common.{refl, sym, ap, ◌∙◌}
use Rattle.std.specs.List.{find}
use Rattle.gb_base.specs.declared.interface.Interface.{Interface}
use Rattle.gb_host.specs.Changes.{changed}
use Rattle.gb_host.specs.declared.interfaces.Change.{Change}
use Rattle.gb_host.specs.declared.interfaces.Change.TheVariants as change
use Rattle.gb_machine.specs.Host.{is_intf}
use Rattle.gb_machine.specs.Lists.{at_first}

-- the first that passes a test is changed, and then changed to what it was
pub restored : {A : Type 0} (test : A → Bool) (f g : A → A) (xs : List A)
    → ((x : A) → test (f x) ≡ test x) → ((x : A) → find test xs ≡ Some x → g (f x) ≡ x)
    → at_first test g (at_first test f xs) ≡ xs
restored test f g [] same back = refl
restored {A} test f g (x ∷ xs) same back = by (test x) refl (restored test f g xs same)
  where
    by : (b : Bool) → test x ≡ b → (((y : A) → find test xs ≡ Some y → g (f y) ≡ y)
        → at_first test g (at_first test f xs) ≡ xs)
        → at_first test g (at_first test f (x ∷ xs)) ≡ x ∷ xs
    by true e later =
        ap (λ b. at_first test g (cond b (f x ∷ xs) (x ∷ at_first test f xs))) e
        ∙ ap (λ b. cond b (g (f x) ∷ xs) (f x ∷ at_first test g xs)) (same x ∙ e)
        ∙ ap (λ y. y ∷ xs) (back x (ap (λ b. cond b (Some x) (find test xs)) e))
    by false e later =
        ap (λ b. at_first test g (cond b (f x ∷ xs) (x ∷ at_first test f xs))) e
        ∙ ap (λ b. cond b (g x ∷ at_first test f xs) (x ∷ at_first test g (at_first test f xs))) e
        ∙ ap (λ ys. x ∷ ys) (later (λ y h. back y (ap (λ b. cond b (Some x) (find test xs)) e ∙ h)))

-- where none passes
pub none-back : {A : Type 0} (test : A → Bool) (f g : A → A) (xs : List A) (o : Option A)
    → ((x : A) → test (f x) ≡ test x)
    → o ≡ find test xs → o ≡ None → at_first test g (at_first test f xs) ≡ xs
none-back test f g xs o same e is =
    restored test f g xs same (λ x h. let both : Some x ≡ None = sym h ∙ sym e ∙ is in absurd cc)

-- where one passes
pub one-back : {A : Type 0} (test : A → Bool) (f g : A → A) (xs : List A) (o : Option A) (d : A)
    → ((x : A) → test (f x) ≡ test x) → o ≡ find test xs → o ≡ Some d → g (f d) ≡ d
    → at_first test g (at_first test f xs) ≡ xs
one-back test f g xs o d same e is back =
    restored test f g xs same (λ x h.
    let both : Some d ≡ Some x = sym is ∙ e ∙ h in
    let one : d ≡ x = cc in sym (ap (λ y. g (f y)) one) ∙ back ∙ one)

-- a changed interface has its number
pub changed-keeps : (i : ℕ) (c : Change) (x : Interface) → is_intf i (changed c x) ≡ is_intf i x
changed-keeps i (change.Device d) x = refl
changed-keeps i (change.HasDevice b) x = refl
changed-keeps i (change.Size n) x = refl

-- an interface is put back, where there is one
pub changed-back : (i : ℕ) (c b : Change) (xs : List Interface) (o : Option Interface)
    (d : Interface)
    → o ≡ find (is_intf i) xs → o ≡ Some d → changed b (changed c d) ≡ d
    → at_first (is_intf i) (changed b) (at_first (is_intf i) (changed c) xs) ≡ xs
changed-back i c b xs o d e is back =
    one-back (is_intf i) (changed c) (changed b) xs o d (changed-keeps i c) e is back
