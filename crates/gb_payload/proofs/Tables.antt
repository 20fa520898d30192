-- What reading by a table means.
use Rattle.std.proofs.Common.{◌≡◌, ◌≢◌, ℕ, Bool, true, false, cond, eqb, Option, Some, None, Result}
use Rattle.std.proofs.Common.{Ok, Err, List, [], ◌∷◌, length, sum, refl, arith, sym, ap, ◌∙◌, subst}
use Rattle.std.proofs.Common.{◌⊎◌, inl, inr, ⊎_elim}
use Rattle.std.proofs.lemmas.Bool.Decides.{nat_tests}
use Rattle.gb_base.specs.Bytes.{AreBytes}
use Rattle.gb_formats.specs.Records.{Row, fields_of, read_row, read_table, row_of, whole}
use Rattle.gb_payload.specs.Answers.{Answers}
use Rattle.gb_payload.specs.Meaning.{Format, Means}
use Rattle.gb_payload.specs.declared.payload_fault.PayloadFault.{PayloadFault}
use Rattle.gb_payload.specs.declared.payload_fault.PayloadFault.TheVariants as fault
use Rattle.gb_payload.proofs.Spelt.{are_widths, fields_spelt, spelt_fields}
use Rattle.gb_payload.proofs.Places.{IsSize, ReadsBy, is_place, one_size, whole_known, whole_made}
use Rattle.gb_payload.proofs.Places.{whole_parts, whole_size}

-- the record that a row makes of bytes
abbrev pub made_by : {A : Type 0} → Row A → List ℕ → A
made_by row bytes = row.made (fields_of row.widths bytes)

-- The records of a row have its type, and their payloads are their fields in a row.
pub record IsSpelt {A : Type 0} (kind_of : A → ℕ) (payload_of : A → List ℕ) (row : Row A)
    : Type 0 where
  pub widths : are_widths row.widths ≡ true
  pub kind : (bytes : List ℕ) → kind_of (made_by row bytes) ≡ row.kind
  pub payload : (bytes : List ℕ)
      → payload_of (made_by row bytes) ≡ spelt_fields row.widths (fields_of row.widths bytes)

-- each row of a table is so
abbrev pub AreSpelt : {A : Type 0} → (A → ℕ) → (A → List ℕ) → List (Row A) → Type 0
AreSpelt kind_of payload_of [] = Unit {0}
AreSpelt kind_of payload_of (row ∷ rows) =
    IsSpelt kind_of payload_of row × AreSpelt kind_of payload_of rows

-- what holds of a row, and then of the rows behind it
infixr 5 ◌&◌
pub ◌&◌ : {X Y : Type 0} → X → Y → X × Y
x & y = (x, y)

-- a row is there
pub is_row : {A : Type 0} (row : Row A) → Some row ≢ None
is_row row e = cc

-- a row that is found is one of the table, and has the type
pub record Found {A : Type 0} (kind_of : A → ℕ) (payload_of : A → List ℕ) (kind : ℕ) (row : Row A)
    : Type 0 where
  pub spelt : IsSpelt kind_of payload_of row
  pub kind_is : row.kind ≡ kind

here : {A : Type 0} (kind : ℕ) (row found : Row A) (more : Option (Row A)) (b : Bool)
    → b ≡ eqb row.kind kind → cond b (Some row) more ≡ Some found
    → ((row.kind ≡ kind) × (row ≡ found)) ⊎ (more ≡ Some found)
here kind row found more true t e = inl (grind (arith, nat_tests), cc)
here kind row found more false t e = inr e

pub row_found : {A : Type 0} (kind_of : A → ℕ) (payload_of : A → List ℕ) (rows : List (Row A))
    (kind : ℕ) (row : Row A)
    → AreSpelt kind_of payload_of rows → row_of rows kind ≡ Some row
    → Found kind_of payload_of kind row
row_found kind_of payload_of [] kind row s e = cc
row_found kind_of payload_of (first ∷ rows) kind row s e = ⊎_elim
    (λ h. subst (Found kind_of payload_of kind) h.1 (record { spelt = s.0; kind_is = h.0 }))
    (λ h. row_found kind_of payload_of rows kind row s.1 h)
    (here kind first row (row_of rows kind) _ refl e)

-- ---- what is answered

-- where a record of a type has the size that its first bytes tell
pub means_whole : {A B : Type 0} (format : Format A) (view : B → A) (kind : ℕ) (size : List ℕ → ℕ)
    (made : List ℕ → A) (payload : List ℕ)
    → IsSize size → ReadsBy format kind size made
    → ((bytes : List ℕ) → format.kind (made bytes) ≡ kind)
    → (length payload ≡ size payload → format.payload (made payload) ≡ payload)
    → (answer : Result B PayloadFault)
    → Answers view (whole (size payload) payload (made payload)) answer
    → Means format view kind payload answer
means_whole format view kind size made payload s reads kind_is spelt (Ok value) e =
    let is = whole_made (size payload) payload (made payload) (view value) e in (
      ap format.kind (sym is) ∙ kind_is payload,
      ap format.payload (sym is)
          ∙ spelt (whole_size (size payload) payload (made payload) (view value) e),
    )
means_whole format view kind size made payload s reads kind_is spelt (Err fault.UnknownKind) e =
    absurd (whole_known (size payload) payload (made payload) e)
means_whole format view kind size made payload s reads kind_is spelt (Err (fault.Mismatch at)) e =
    is_place format kind size made s reads kind_is payload at
    (whole_parts (size payload) payload (made payload) at e)

-- where a table has the records of a type
pub means_by_table : {A B : Type 0} (format : Format A) (rows : List (Row A)) (view : B → A)
    (kind : ℕ) (payload : List ℕ)
    → ((bytes : List ℕ) → format.read kind bytes ≡ read_table rows kind bytes)
    → AreSpelt format.kind format.payload rows
    → ((made : A) → format.kind made ≡ kind → row_of rows (format.kind made) ≢ None)
    → AreBytes payload → (answer : Result B PayloadFault)
    → Answers view (format.read kind payload) answer → Means format view kind payload answer
means_by_table {A} {B} format rows view kind payload reads spelt listed b answer e =
    by_row (row_of rows kind) refl answer
    (subst (λ r. Answers view r answer) (reads payload) e)
  where
    by_row : (row : Option (Row A)) → row_of rows kind ≡ row → (answer : Result B PayloadFault)
        → Answers view (read_row row payload) answer → Means format view kind payload answer
    by_row None n (Ok value) e = cc
    by_row None n (Err fault.UnknownKind) e = λ made h. listed made h (ap (row_of rows) h ∙ n)
    by_row None n (Err (fault.Mismatch at)) e = cc
    by_row (Some row) n answer e =
        let f = row_found format.kind format.payload rows kind row spelt n in
        means_whole format view kind (λ bytes. sum row.widths) (made_by row) payload
        (one_size (sum row.widths)) (λ bytes. reads bytes ∙ ap (λ found. read_row found bytes) n)
        (λ bytes. f.spelt.kind bytes ∙ f.kind_is)
        (λ h. f.spelt.payload payload ∙ fields_spelt row.widths payload f.spelt.widths b h) answer e
