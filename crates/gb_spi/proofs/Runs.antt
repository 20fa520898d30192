-- Doing the entries of a transfer in order.
use Rattle.std.proofs.Common.{◌≡◌, ◌≤◌, ◌+◌, ℕ, Bool, false, List, [], ◌∷◌, ◌++◌, length}
use Rattle.std.proofs.Common.{take, drop, replicate, sum_by, if◌then◌else◌, arith, ap, sym, ◌∙◌}
use Rattle.std.proofs.Common.{length-append}
use Rattle.std.proofs.lemmas.List.{take-replicate}
use Rattle.gb_base.specs.Bytes.{AreFew}
use Rattle.gb_formats.specs.Results.{Step, most_payload}
use Rattle.gb_formats.specs.SpiDevice.{entries_run, entry_read_bytes, entry_written_bytes, last_of}
use Rattle.gb_formats.specs.SpiRecords.{TransferEntry, entry_read_size, entry_writes}
use Rattle.gb_formats.specs.SpiRecords.{entry_written_size}

-- Some of the entries are done: `last` is the last byte written, `bytes` the data that is left, and
-- `front` what was read. What they and the entries that are left do is what all do.
pub record Running (all : Step ℕ) (last : ℕ) (bytes front : List ℕ) (left : List TransferEntry)
    : Type 0 where
  pub same : all ≡ entries_run last bytes front left
  pub room : length front + sum_by entry_read_size left ≤ most_payload
  pub written : length bytes ≡ sum_by entry_written_size left

-- entries only add to what was read
reads_more : (last : ℕ) (bytes front : List ℕ) (entries : List TransferEntry)
    → length front ≤ length (entries_run last bytes front entries).served.payload
reads_more last bytes front [] = omega arith
reads_more last bytes front (entry ∷ entries) =
    let next = reads_more (last_of last (entry_written_bytes entry bytes))
    (drop (entry_written_size entry) bytes) (front ++ entry_read_bytes last entry bytes) entries in
    let added = length-append front (entry_read_bytes last entry bytes) in
    omega (arith, next, added)

-- where all entries read few bytes, there are few behind the next one
pub next_few : (all : Step ℕ) (last : ℕ) (bytes front : List ℕ) (left later : List TransferEntry)
    (entry : TransferEntry)
    → left ≡ entry ∷ later → Running all last bytes front left → AreFew all.served.payload
    → AreFew (front ++ entry_read_bytes last entry bytes)
next_few all last bytes front left later entry is_first r few =
    let more = reads_more (last_of last (entry_written_bytes entry bytes))
    (drop (entry_written_size entry) bytes) (front ++ entry_read_bytes last entry bytes) later in
    let long = ap (λ (s : Step ℕ). length s.served.payload)
    (r.same ∙ ap (entries_run last bytes front) is_first) in
    omega (arith, more, long, few)

-- an entry that doesn't write reads the last byte, repeated
pub repeated : (last size most : ℕ) (writes : Bool) (entry : TransferEntry) (bytes : List ℕ)
    → writes ≡ entry_writes entry → writes ≡ false → size ≡ entry_read_size entry → size ≤ most
    → take size (replicate most last) ≡ entry_read_bytes last entry bytes
repeated last size most writes entry bytes is reads long h =
    take-replicate size most last h
    ∙ ap (λ (n : ℕ). replicate n last) long
    ∙ ap (λ (test : Bool). if test then take (entry_read_size entry) bytes
    else replicate (entry_read_size entry) last) (sym reads ∙ is)
