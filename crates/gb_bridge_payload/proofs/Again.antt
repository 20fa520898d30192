-- What is written is read again.
use Rattle.std.proofs.Common.{◌≡◌, ℕ, Result, Ok, Err, IfOk, List, length, take, drop, rules, refl}
use Rattle.std.proofs.Common.{ap, ◌∙◌}
use Rattle.std.proofs.lemmas.List.{take_at}
use Rattle.gb_base.specs.declared.errors.NoRoom.{NoRoom}
use Rattle.gb_payload.specs.Fields.{Puts}
use Rattle.gb_payload.specs.Meaning.{Format, IsRead}

-- so many bytes as were written are the payload, which is read as the record
pub is_read : {A : Type 0} (format : Format A) (made : A) (old new : List ℕ)
    (result : Result ℕ NoRoom)
    → format.read (format.kind made) (format.payload made) ≡ Ok made
    → Puts (format.payload made) old new result → IfOk result (λ n. IsRead format made (take n new))
is_read format made old new (Ok n) again puts =
    let bytes = format.payload made in
    ap (format.read (format.kind made))
    (ap (λ (m : ℕ). take m new) puts.0
    ∙ ap (take (length bytes)) puts.2
    ∙ take_at bytes (drop (length bytes) old) (length bytes) refl)
    ∙ again
is_read format made old new (Err refused) again puts = search rules
