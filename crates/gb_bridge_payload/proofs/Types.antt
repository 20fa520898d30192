-- What reading means, by the types of records.
use Rattle.std.proofs.Common.{◌≡◌, ◌≢◌, ℕ, Bool, true, false, cond, eqb, None, Result, Ok, Err}
use Rattle.std.proofs.Common.{List, refl, arith, sym, ap, subst, ◌∙◌}
use Rattle.std.proofs.lemmas.Bool.Decides.{nat_tests}
use Rattle.gb_base.specs.Bytes.{AreBytes}
use Rattle.gb_formats.specs.Records.{PayloadFault, Row, read_table, row_of}
use Rattle.gb_payload.specs.Answers.{Answers}
use Rattle.gb_payload.specs.Meaning.{Format, Means}
use Rattle.gb_payload.specs.declared.payload_fault.PayloadFault as code
use Rattle.gb_payload.proofs.Places.{same_record}
use Rattle.gb_payload.proofs.Tables.{AreSpelt, means_by_table}

-- what reading a payload of a type means, where it is read so
abbrev pub MeansBy : {A B : Type 0}
    → Format A → (B → A) → ℕ → List ℕ → (List ℕ → Result A PayloadFault) → Type 0
MeansBy {A} {B} format view kind payload reads =
    ((bytes : List ℕ) → format.read kind bytes ≡ reads bytes)
    → (answer : Result B code.PayloadFault) → Answers view (reads payload) answer
    → Means format view kind payload answer

-- where one type is read in its own way
pub by_type : {A B : Type 0} (format : Format A) (view : B → A) (kind : ℕ) (payload : List ℕ)
    (special : ℕ) (own other : List ℕ → Result A PayloadFault)
    → (kind ≡ special → MeansBy format view kind payload own)
    → (kind ≢ special → MeansBy format view kind payload other)
    → MeansBy format view kind payload (λ bytes. cond (eqb kind special) (own bytes) (other bytes))
by_type {A} {B} format view kind payload special own other at_special at_other reads answer e =
    by_test (eqb kind special) refl
  where
    by_test : (test : Bool) → eqb kind special ≡ test → Means format view kind payload answer
    by_test true t =
        at_special (grind (arith, nat_tests))
        (λ bytes. reads bytes ∙ ap (λ (test : Bool). cond test (own bytes) (other bytes)) t) answer
        (subst (λ (test : Bool). Answers view (cond test (own payload) (other payload)) answer) t e)
    by_test false t =
        at_other (λ is. grind (arith, nat_tests))
        (λ bytes. reads bytes ∙ ap (λ (test : Bool). cond test (own bytes) (other bytes)) t) answer
        (subst (λ (test : Bool). Answers view (cond test (own payload) (other payload)) answer) t e)

-- where a table has the records of a type
pub by_table : {A B : Type 0} (format : Format A) (rows : List (Row A)) (view : B → A) (kind : ℕ)
    (payload : List ℕ)
    → AreSpelt format.kind format.payload rows
    → ((made : A) → format.kind made ≡ kind → row_of rows (format.kind made) ≢ None)
    → AreBytes payload → MeansBy format view kind payload (read_table rows kind)
by_table format rows view kind payload spelt listed b reads answer e =
    means_by_table format rows view kind payload reads spelt listed b answer
    (subst (λ r. Answers view r answer) (sym (reads payload)) e)

-- where each payload is a record
pub means_all : {A B : Type 0} (format : Format A) (view : B → A) (kind : ℕ) (payload : List ℕ)
    (made : List ℕ → A)
    → format.kind (made payload) ≡ kind → format.payload (made payload) ≡ payload
    → MeansBy format view kind payload (λ bytes. Ok (made bytes))
means_all format view kind payload made kind_is spelt reads (Ok value) e =
    let got = same_record (made payload) (view value) e in
    (ap format.kind (sym got) ∙ kind_is, ap format.payload (sym got) ∙ spelt)
means_all format view kind payload made kind_is spelt reads (Err why) e = cc
