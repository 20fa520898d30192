-- The descriptors of a spec, some of which were taken.
use Rattle.std.proofs.Common.{◌≡◌, ◌<◌, ℕ, ◌+◌, List, [], ◌∷◌, ◌++◌, length, Option, Some, None}
use Rattle.std.proofs.Common.{refl, sym, ap, ◌∙◌, arith, append_assoc, length-append, option_map}
use Rattle.std.proofs.lemmas.List.{map-append}
use Rattle.gb_formats.specs.Descriptors.{Descriptor, least_size, plain_descriptor}
use Rattle.gb_manifest.specs.Declarations.{place}
use Rattle.gb_manifest.specs.Values.{refused_of}
use Rattle.gb_manifest.specs.Writes.{unplaced}
use Rattle.gb_manifest.specs.declared.refusal.Refused.{Refused}
use Rattle.gb_manifest.proofs.PlainBytes.{plain_all, plain_all-append, plain_descriptor-length}

-- one more was taken
pub taken : (all before old new : List Descriptor) (d : Descriptor)
    → all ≡ before ++ old → old ≡ d ∷ new → all ≡ (before ++ d ∷ []) ++ new
taken all before old new d e f =
    e ∙ ap (λ (l : List Descriptor). before ++ l) f ∙ sym (append_assoc before (d ∷ []) new)

pub unplaced-more : (before : List Descriptor) (d : Descriptor)
    → unplaced before ++ place 0 d ∷ [] ≡ unplaced (before ++ d ∷ [])
unplaced-more before d = sym (map-append (place 0) before (d ∷ []))

-- the reason of a refusal
pub reason_of : (r : Option Refused)
    → option_map (λ w. w.reason) r ≡ option_map (λ w. w.reason) (option_map refused_of r)
reason_of None = refl
reason_of (Some r) = refl

-- where the front is longer than n, all are
pub longer : (all before new : List Descriptor) (d : Descriptor) (n size : ℕ)
    → all ≡ before ++ d ∷ new → size ≡ 4 + length (plain_all before) → n < size + least_size d
    → n < 4 + length (plain_all all)
longer all before new d n size e s over =
    let parts : length (plain_all all)
    ≡ length (plain_all before ++ (plain_descriptor d ++ plain_all new)) =
    ap (λ l. length (plain_all l)) e ∙ ap length (plain_all-append before (d ∷ new)) in
    omega (
      arith,
      parts,
      length-append (plain_all before) (plain_descriptor d ++ plain_all new),
      length-append (plain_descriptor d) (plain_all new),
      plain_descriptor-length d,
    )
