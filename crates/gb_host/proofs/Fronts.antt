-- Acts in front of those of a turn.
use Rattle.std.proofs.Common.{◌≡◌, List, [], ◌∷◌, ◌++◌, refl, sym, ap, ◌∙◌, append_assoc}
use Rattle.gb_host.specs.Turning.{spelled, spelled_act}
use Rattle.gb_host.specs.declared.acts.Act.{Act}
use Rattle.gb_machine.specs.Turns as turns

-- the acts of two lists
pub spelled-both : (xs ys : List turns.Act) → spelled (xs ++ ys) ≡ spelled xs ++ spelled ys
spelled-both [] ys = refl
spelled-both (x ∷ xs) ys = ap (λ zs. spelled_act x ++ zs) (spelled-both xs ys)
    ∙ sym (append_assoc (spelled_act x) (spelled xs) (spelled ys))

-- acts that are done after others
pub spelled-after : (xs ys : List turns.Act) (front before all : List Act)
    → before ≡ front ++ spelled xs → all ≡ before ++ spelled ys → all ≡ front ++ spelled (xs ++ ys)
spelled-after xs ys front before all e f =
    f ∙ ap (λ zs. zs ++ spelled ys) e ∙ append_assoc front (spelled xs) (spelled ys)
    ∙ ap (λ zs. front ++ zs) (sym (spelled-both xs ys))
