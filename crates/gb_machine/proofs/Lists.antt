-- Laws of the words on lists.
use Rattle.std.proofs.Common.{◌≡◌, ℕ, zero, suc, ◌<◌, ◌≤◌, Some, None, List, [], ◌∷◌, ◌++◌}
use Rattle.std.proofs.Common.{length, refl, ◌∙◌, arith}
use Rattle.std.proofs.lemmas.Option.{slice_get_past, slice_get_within}
use Rattle.std.specs.List.{slice_get}
use Rattle.gb_machine.specs.Lists.{nth}

slice_get-push-below : {A : Type 0} → (xs : List A) (y : A) (k : ℕ) → k < length xs
    → slice_get (xs ++ y ∷ []) k ≡ slice_get xs k
slice_get-push-below [] y k h = absurd (omega arith)
slice_get-push-below (x ∷ xs) y zero h = refl
slice_get-push-below (x ∷ xs) y (suc k) h = slice_get-push-below xs y k (omega arith)

slice_get-push : {A : Type 0} → (xs : List A) (y : A)
    → slice_get (xs ++ y ∷ []) (length xs) ≡ Some y
slice_get-push [] y = refl
slice_get-push (x ∷ xs) y = slice_get-push xs y

-- the new member has the next number
pub nth-push : {A : Type 0} → (xs : List A) (y : A) → nth (suc (length xs)) (xs ++ y ∷ []) ≡ Some y
nth-push xs y = slice_get-push xs y

-- no member has a number past the length
pub nth-past : {A : Type 0} → (n : ℕ) (xs : List A) → length xs < n → nth n xs ≡ None
nth-past zero xs h = refl
nth-past (suc k) xs h = slice_get_past xs k (omega arith)

-- a member's number is at most the length
pub nth-within : {A : Type 0} → (n : ℕ) (xs : List A) (x : A) → nth n xs ≡ Some x → n ≤ length xs
nth-within zero xs x h = omega arith
nth-within (suc k) xs x h = omega (arith, slice_get_within xs k x h)

-- the members from before stay
pub nth-push-below : {A : Type 0} → (n : ℕ) (xs : List A) (y : A) → n ≤ length xs
    → nth n (xs ++ y ∷ []) ≡ nth n xs
nth-push-below zero xs y h = refl
nth-push-below (suc k) xs y h = slice_get-push-below xs y k (omega arith)

pub nth-more : {A : Type 0} → (n : ℕ) (xs : List A) (y x : A) → nth n xs ≡ Some x
    → nth n (xs ++ y ∷ []) ≡ Some x
nth-more n xs y x h = nth-push-below n xs y (nth-within n xs x h) ∙ h
