-- The entries in bytes, the first one and those behind it.
use Rattle.std.proofs.Common.{◌≡◌, ◌≤◌, ◌-◌, ◌/◌, ℕ, suc, List, ◌∷◌, length, drop, arith, sym, ap}
use Rattle.std.proofs.Common.{ap₂, ◌∙◌, length-drop}
use Rattle.gb_formats.specs.SpiRecords.{TransferEntry, entries_at, entry_at, entry_size}
use Rattle.gb_spi.specs.Sizes.{entries_in}

-- bytes with room for one entry have one more than those behind it
one_more : (size rest : ℕ) → 13 ≤ size → rest ≡ size - 13 → size / 13 ≡ suc (rest / 13)
one_more size rest h e = omega arith

pub entries_more : (bytes later : List ℕ) (entry : TransferEntry) → entry_size ≤ length bytes
    → entry ≡ entry_at bytes → later ≡ drop entry_size bytes
    → entries_in bytes ≡ entry ∷ entries_in later
entries_more bytes later entry h is_first is_rest =
    ap (λ (n : ℕ). entries_at n bytes)
    (one_more (length bytes) (length (drop entry_size bytes)) h (length-drop entry_size bytes))
    ∙ ap₂ (λ (first : TransferEntry) (rest : List ℕ). first ∷ entries_in rest) (sym is_first)
    (sym is_rest)
