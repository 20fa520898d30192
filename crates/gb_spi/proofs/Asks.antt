-- The transfer that a payload is has the data that its entries write.
use Rattle.std.proofs.Common.{◌≡◌, ◌+◌, ◌*◌, ◌/◌, ℕ, Ok, List, length, take, drop, slice_index}
use Rattle.std.proofs.Common.{sum_by, arith, sym, ap, subst, ◌∙◌, length-drop, length-take-le}
use Rattle.gb_formats.specs.SpiRecords.{SpiAsk, entries_at, entry_size, entry_written_size}
use Rattle.gb_formats.specs.SpiRecords.{read_spi_ask, read_spi_transfer, spi_transfer_size}
use Rattle.gb_payload.proofs.Places.{whole_made, whole_size}
use Rattle.gb_bridge_payload.proofs.Numbers.{agree_take}
use Rattle.gb_bridge_payload.proofs.SpiLaws.{are_entries, divided, entry_weight, entries_weight}
use Rattle.gb_bridge_payload.proofs.Transfers.{items_same}
use Rattle.gb_spi.specs.Sizes.{entries_in}

-- of a payload of the size of a transfer
sized : (count : ℕ) (payload entries bytes : List ℕ)
    → length payload ≡ spi_transfer_size count (entries_at count (drop 4 payload))
    → take (entry_size * count) (drop 4 payload) ≡ entries
    → drop (4 + entry_size * count) payload ≡ bytes
    → length bytes ≡ sum_by entry_written_size (entries_in entries)
sized count payload entries bytes long are_first are_rest =
    let behind = length-drop 4 payload in
    let first = ap (λ (xs : List ℕ). length xs) (sym are_first)
    ∙ length-take-le (entry_size * count) (drop 4 payload) (omega (arith, behind, long)) in
    let rest =
    ap (λ (xs : List ℕ). length xs) (sym are_rest) ∙ length-drop (4 + entry_size * count) payload in
    let same = items_same entry_size entry_weight entries_weight are_entries count
    (take (entry_size * count) (drop 4 payload)) (drop 4 payload)
    (agree_take (entry_size * count) (drop 4 payload)) in
    let written : entries_weight (length entries / 13) entries
    ≡ entries_weight count (drop 4 payload) =
    ap (λ (n : ℕ). entries_weight n entries) (divided count (length entries) first)
    ∙ ap (entries_weight count) (sym are_first)
    ∙ same in
    omega (arith, rest, long, written)

-- of a payload that is a transfer
taken : (count select mode : ℕ) (payload entries bytes : List ℕ)
    → read_spi_transfer count payload ≡ Ok (SpiAsk.Transfer select mode entries bytes)
    → length bytes ≡ sum_by entry_written_size (entries_in entries)
taken count select mode payload entries bytes reads =
    let made = SpiAsk.Transfer (slice_index payload 0) (slice_index payload 1)
    (take (entry_size * count) (drop 4 payload)) (drop (4 + entry_size * count) payload) in
    let size : ℕ = spi_transfer_size count (entries_at count (drop 4 payload)) in
    let found = whole_made size payload made (SpiAsk.Transfer select mode entries bytes) reads in
    sized count payload entries bytes
    (whole_size size payload made (SpiAsk.Transfer select mode entries bytes) reads) (cc) (cc)

pub is_written : (kind select mode : ℕ) (payload entries bytes : List ℕ) → 4 ≡ kind
    → read_spi_ask kind payload ≡ Ok (SpiAsk.Transfer select mode entries bytes)
    → length bytes ≡ sum_by entry_written_size (entries_in entries)
is_written kind select mode payload entries bytes is reads =
    taken _ select mode payload entries bytes
    (subst (λ (k : ℕ). read_spi_ask k payload ≡ Ok (SpiAsk.Transfer select mode entries bytes))
    (sym is) reads)
