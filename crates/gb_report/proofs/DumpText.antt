-- The text of a string, with one byte more.
use Rattle.std.proofs.Common.{◌≡◌, ℕ, ◌+◌, ◌<◌, List, [], ◌∷◌, ◌++◌, length, take, map, ap, ◌∙◌}
use Rattle.std.proofs.Common.{append-nil}
use Rattle.std.specs.Prelude.{slice_index}
use Rattle.std.specs.List.{concat}
use Rattle.std.proofs.lemmas.List.{map-append}
use Rattle.std.proofs.lemmas.List.Folds.{concat-append}
use Rattle.std.proofs.lemmas.List.{take_more}
use Rattle.gb_formats.specs.Dump.{string_byte_text, string_text}

pub string_text-more : (bytes : List ℕ) (i : ℕ) → i < length bytes
    → string_text (take (i + 1) bytes)
    ≡ string_text (take i bytes) ++ string_byte_text (slice_index bytes i)
string_text-more bytes i h =
    ap string_text (take_more bytes i 0 h)
    ∙ ap concat (map-append string_byte_text (take i bytes) (slice_index bytes i ∷ []))
    ∙ concat-append (map string_byte_text (take i bytes))
    (string_byte_text (slice_index bytes i) ∷ [])
    ∙ ap (λ (l : List ℕ). string_text (take i bytes) ++ l)
    (append-nil (string_byte_text (slice_index bytes i)))
