-- What a rule gives of each message, where one message comes more.
use Rattle.std.proofs.Common.{◌≡◌, ◌+◌, Option, Some, None, List, [], ◌∷◌}
use Rattle.std.proofs.Common.{◌++◌, length, length-append, append_assoc, append-nil, reverse}
use Rattle.std.proofs.Common.{is_some, refl, sym, ap, ◌∙◌}
use Rattle.std.proofs.lemmas.List.{reverse-append, reverse-reverse}
use Rattle.std.specs.List.{cons_option}
use Rattle.gb_capture.specs.Audits.{one_if}
use Rattle.gb_formats.specs.Audit.{each_after}
use Rattle.gb_formats.specs.Captures.{Heard}

cons-append : {A : Type 0} (o : Option A) (xs ys : List A)
    → cons_option o (xs ++ ys) ≡ cons_option o xs ++ ys
cons-append None xs ys = refl
cons-append (Some x) xs ys = refl

-- the last of several comes first behind those that came before
pub turned : {A : Type 0} (x : A) (xs ys : List A) → reverse xs ++ x ∷ ys ≡ reverse (x ∷ xs) ++ ys
turned x xs ys =
    sym (append_assoc (reverse xs) (x ∷ []) ys)
    ∙ ap (λ s. s ++ ys) (sym (reverse-append (x ∷ []) xs))

-- messages behind others
pub each-append : {A : Type 0} (rule : List Heard → Heard → Option A) (front xs ys : List Heard)
    → each_after rule front (xs ++ ys)
    ≡ each_after rule front xs ++ each_after rule (reverse xs ++ front) ys
each-append rule front [] ys = refl
each-append rule front (x ∷ xs) ys =
    ap (cons_option (rule front x)) (each-append rule (x ∷ front) xs ys)
    ∙ cons-append (rule front x) (each_after rule (x ∷ front) xs)
    (each_after rule (reverse xs ++ x ∷ front) ys)
    ∙ ap (λ past. cons_option (rule front x) (each_after rule (x ∷ front) xs)
    ++ each_after rule past ys)
    (turned x xs front)

-- of messages, the last of them first
pub each-last : {A : Type 0} (rule : List Heard → Heard → Option A) (past : List Heard) (m : Heard)
    → each_after rule [] (reverse (m ∷ past))
    ≡ each_after rule [] (reverse past) ++ cons_option (rule past m) []
each-last rule past m =
    ap (each_after rule []) (reverse-append (m ∷ []) past)
    ∙ each-append rule [] (reverse past) (m ∷ [])
    ∙ ap (λ before. each_after rule [] (reverse past) ++ cons_option (rule before m) [])
    (append-nil (reverse (reverse past)) ∙ reverse-reverse past)

length-one : {A : Type 0} (o : Option A) → length (cons_option o []) ≡ one_if (is_some o)
length-one None = refl
length-one (Some x) = refl

pub count-last : {A : Type 0} (rule : List Heard → Heard → Option A) (past : List Heard) (m : Heard)
    → length (each_after rule [] (reverse (m ∷ past)))
    ≡ length (each_after rule [] (reverse past)) + one_if (is_some (rule past m))
count-last rule past m =
    ap length (each-last rule past m)
    ∙ length-append (each_after rule [] (reverse past)) (cons_option (rule past m) [])
    ∙ ap (λ n. length (each_after rule [] (reverse past)) + n) (length-one (rule past m))
