-- What holds where a call answers Ok.
use Rattle.std.proofs.Common.{◌≡◌, ◌∙◌, Result, Ok, Err, ap, sym}
use Rattle.std.specs.Prelude.{IfOk, IsErrAnd, IsErrOf, OnOk}

pub on_ok : {A E : Type 0} {P : Type 0} (r : Result A E) → P → OnOk r P
on_ok (Ok x) p = p
on_ok (Err e) p = tt

pub on_ok_then : {A E : Type 0} {P Q : Type 0} (r : Result A E) → (P → Q) → OnOk r P → OnOk r Q
on_ok_then (Ok x) f p = f p
on_ok_then (Err e) f p = tt

pub if_ok_then : {A E : Type 0} {P Q : A → Type 0} (r : Result A E) → ((x : A) → P x → Q x)
    → IfOk r P → IfOk r Q
if_ok_then (Ok x) f p = f x p
if_ok_then (Err e) f p = tt

-- an error that is handed on as it is
pub err_same : {A B E : Type 0} (r : Result B E) (e x : E) → IsErrAnd r (λ f. f ≡ e) → IsErrOf r x
    → IsErrOf {T = A} (Err e) x
err_same (Ok y) e x same is = absurd cc
err_same (Err f) e x same is = let one : f ≡ x = cc in ap (λ y. Err y) (sym same ∙ one)
