-- First breaches and declarations of a list, with one descriptor more.
use Rattle.std.proofs.Common.{◌≡◌, ℕ, Bool, true, false, List, [], ◌∷◌, ◌++◌, Option, Some, None}
use Rattle.std.proofs.Common.{refl, sym, ap, ◌∙◌, append_assoc, append-nil}
use Rattle.std.specs.Prelude.{◌||◌, if◌then◌else◌}
use Rattle.std.proofs.lemmas.List.Folds.{list_any-append}
use Rattle.gb_formats.specs.Descriptors.{Descriptor}
use Rattle.gb_formats.specs.ManifestRules.{Placed, first_breach, has}
use Rattle.gb_manifest.specs.Declarations.{first_place, place}

pub or-false : (b : Bool) → (b || false) ≡ b
or-false true = refl
or-false false = refl

pub or-swap : (a b : Bool) → (a || b) ≡ (b || a)
or-swap true true = refl
or-swap true false = refl
or-swap false true = refl
or-swap false false = refl

-- where no rule is broken, the earlier breach is the first
pub first_place-kept : (p : Option ℕ) (at : ℕ) → first_place p false at ≡ p
first_place-kept None at = refl
first_place-kept (Some x) at = refl

-- the first breach of a list whose first descriptor breaks the rule or not
turn : (b : Bool) (at here : ℕ) (later earlier : Option ℕ) (broken : Bool)
    → later ≡ first_place earlier broken here
    → (if b then Some at else later) ≡ first_place (if b then Some at else earlier) broken here
turn true at here later earlier broken e = refl
turn false at here later earlier broken e = e

-- the first breach, with one descriptor more
pub first_breach-more : (breaks : List Placed → Descriptor → Bool) (before ds : List Placed)
    (d : Placed)
    → first_breach breaks before (ds ++ d ∷ [])
    ≡ first_place (first_breach breaks before ds) (breaks (before ++ ds) d.descriptor) d.at
first_breach-more breaks before [] d =
    ap (λ (b : List Placed). if breaks b d.descriptor then Some d.at else None)
    (sym (append-nil before))
first_breach-more breaks before (e ∷ ds) d =
    turn (breaks before e.descriptor) e.at d.at _ _ (breaks (before ++ (e ∷ ds)) d.descriptor)
    (first_breach-more breaks (before ++ e ∷ []) ds d
    ∙ ap (λ (b : List Placed).
    first_place (first_breach breaks (before ++ e ∷ []) ds) (breaks b d.descriptor) d.at)
    (append_assoc before (e ∷ []) ds))

-- the same, where the one descriptor more is told by its place
pub first_breach-last : (breaks : List Placed → Descriptor → Bool) (before : List Placed) (at : ℕ)
    (d : Descriptor)
    → first_breach breaks [] (before ++ place at d ∷ [])
    ≡ first_place (first_breach breaks [] before) (breaks before d) at
first_breach-last breaks before at d = first_breach-more breaks [] before (place at d)

pub has-last : (test : Descriptor → Bool) (before : List Placed) (at : ℕ) (d : Descriptor)
    → has test (before ++ place at d ∷ []) ≡ (has test before || test d)
has-last test before at d =
    list_any-append (λ (p : Placed). test p.descriptor) before (place at d ∷ [])
    ∙ ap (λ b. has test before || b) (or-false (test d))

-- a descriptor that breaks no such rule
pub first_breach-kept : (breaks : List Placed → Descriptor → Bool) (before : List Placed) (at : ℕ)
    (d : Descriptor)
    → breaks before d ≡ false
    → first_breach breaks [] (before ++ place at d ∷ []) ≡ first_breach breaks [] before
first_breach-kept breaks before at d e =
    first_breach-last breaks before at d
    ∙ ap (λ b. first_place (first_breach breaks [] before) b at) e
    ∙ first_place-kept _ at

-- a descriptor that isn't of the kind
pub has-kept : (test : Descriptor → Bool) (before : List Placed) (at : ℕ) (d : Descriptor)
    → test d ≡ false → has test (before ++ place at d ∷ []) ≡ has test before
has-kept test before at d e =
    has-last test before at d ∙ ap (λ b. has test before || b) e ∙ or-false (has test before)
