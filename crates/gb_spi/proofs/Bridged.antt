-- The payload of a bridge line's transfer.
use Rattle.std.proofs.Common.{◌≡◌, ◌<◌, ◌≤◌, ◌+◌, ◌/◌, ℕ, suc, Bool, nat_le, nat_lt, true, false}
use Rattle.std.proofs.Common.{if◌then◌else◌, ◌||◌, Ok, Err, List, [], ◌∷◌, ◌++◌, length, drop}
use Rattle.std.proofs.Common.{get_or, map, sum_by, refl, arith, sym, ap, ap₂, ◌∙◌, length-append}
use Rattle.std.proofs.Common.{drop-cons}
use Rattle.std.specs.List.{concat}
use Rattle.gb_base.specs.declared.bridge.BridgeAsk.TheVariants as ask
use Rattle.gb_base.specs.declared.bridge.SpiOp.{SpiOp}
use Rattle.gb_base.specs.declared.bridge.SpiOp.TheVariants as spi
use Rattle.gb_bridge_payload.proofs.Putting.{heads_long, piece_within, room_of, rooms, rooms_count}
use Rattle.gb_bridge_payload.specs.Serving.{WritesBridged}
use Rattle.gb_formats.specs.Bridges.{TooLarge, bridge_answer, spi_op_bytes, spi_read_size}
use Rattle.gb_formats.specs.Bridges.{spi_transfer, spi_written}
use Rattle.gb_formats.specs.Protocols.{spi_protocol}
use Rattle.gb_formats.specs.SpiRecords.{entry_size, spi_ask_payload}
use Rattle.gb_formats.specs.Results.{most_payload}
use Rattle.gb_spi.specs.Sizes.{bridged_size}
use Rattle.gb_spi.proofs.Weights.{Weighed, is_beyond, is_not_beyond, is_within, weighed_all, within}
use Rattle.gb_spi.proofs.Weights.{weighed_out}

-- how many bytes an entry has in a payload, with what it writes
abbrev pub op_size : SpiOp → ℕ
op_size op = room_of entry_size spi_written op

-- an entry has 13 bytes
op_bytes_size : (op : SpiOp) → length (spi_op_bytes op) ≡ 13
op_bytes_size (spi.Get len) = refl
op_bytes_size (spi.Put bytes) = refl
op_bytes_size (spi.Both bytes) = refl

-- as many entries are counted in the payload
pub entries_counted : (ops : List SpiOp)
    → length (concat (map spi_op_bytes ops)) / entry_size ≡ length ops
entries_counted ops =
    let heads = heads_long entry_size spi_op_bytes op_bytes_size ops in omega (arith, heads)

-- the size of the payload
pub size_is : (ops : List SpiOp) → bridged_size ops ≡ 4 + sum_by op_size ops
size_is ops =
    let behind = rooms entry_size spi_op_bytes spi_written op_bytes_size ops in
    omega (arith, behind)

-- ---- whether it fits

-- an entry from which on it doesn't
pub is_too_long : (ops : List SpiOp) (op : SpiOp) (room i : ℕ) → i < length ops
    → op ≡ get_or ops i op → room < op_size op → Weighed op_size 2036 room ops (drop i ops)
    → false ≡ nat_le (bridged_size ops) most_payload
is_too_long ops op room i h at short w =
    let next : drop i ops ≡ op ∷ drop (suc i) ops =
    drop-cons ops i op h ∙ ap (λ first. first ∷ drop (suc i) ops) (sym at) in
    let beyond =
    weighed_out op_size 2036 room ops (drop i ops) (drop (suc i) ops) op next short w in
    let size = size_is ops in
    is_beyond (bridged_size ops) most_payload (omega (arith, beyond, size))

-- all entries are there
pub is_fitting : (ops rest : List SpiOp) (room : ℕ)
    → rest ≡ [] → Weighed op_size 2036 room ops rest → true ≡ nat_le (bridged_size ops) most_payload
is_fitting ops rest room e w =
    let within = weighed_all op_size 2036 room ops rest e w in
    let size = size_is ops in
    is_within (bridged_size ops) most_payload (omega (arith, within, size))

-- as many entries as fit can be counted
pub counted : (ops : List SpiOp) → true ≡ nat_le (bridged_size ops) most_payload → length ops ≤ 156
counted ops fits =
    let size = size_is ops in
    let all = rooms_count entry_size spi_written ops in
    let bound = within (bridged_size ops) most_payload fits in
    omega (arith, size, all, bound)

-- ---- its sizes

-- the payload is as long as it was found to be
pub payload_size : (select mode : ℕ) (ops : List SpiOp)
    → length (spi_ask_payload (spi_transfer select mode ops)) ≡ bridged_size ops
payload_size select mode ops =
    let behind = length-append (concat (map spi_op_bytes ops)) (concat (map spi_written ops)) in
    omega (arith, behind)

-- what an entry of one that fits writes can be counted
pub written_fits : (ops : List SpiOp) (op : SpiOp) (i : ℕ) → i < length ops → op ≡ get_or ops i op
    → true ≡ nat_le (bridged_size ops) most_payload → length (spi_written op) ≤ most_payload
written_fits ops op i h at fits =
    let bound = within (bridged_size ops) most_payload fits in
    let part = piece_within spi_written ops op i h at in
    omega (arith, bound, part)

-- ---- the request

-- one that fits is the request, where all of it is written
pub bridged : (select mode at : ℕ) (ops : List SpiOp) (old new : List ℕ)
    → true ≡ nat_le (bridged_size ops) most_payload
    → true ≡ nat_le (sum_by spi_read_size ops) most_payload
    → (at ≡ length (spi_ask_payload (spi_transfer select mode ops)))
    × (new ≡ spi_ask_payload (spi_transfer select mode ops)
    ++ drop (length (spi_ask_payload (spi_transfer select mode ops))) old)
    → (request : ℕ × List ℕ)
    × (bridge_answer spi_protocol (ask.SpiTransfer select mode ops) ≡ Ok request)
    × WritesBridged request old new (record { kind = 4; len = at })
bridged select mode at ops old new fits reads written =
    let size = ap (λ (n : ℕ). nat_lt most_payload n) (payload_size select mode ops)
    ∙ is_not_beyond (bridged_size ops) most_payload fits in (
      (4, spi_ask_payload (spi_transfer select mode ops)),
      ap₂ (λ (x y : Bool).
          if x || y then Err TooLarge else Ok (4, spi_ask_payload (spi_transfer select mode ops)))
          size (is_not_beyond (sum_by spi_read_size ops) most_payload reads),
      record { kind = refl; len = written.0; bytes = written.1 },
    )

-- the payload has room in a buffer of the greatest size
pub payload_fits_in : (select mode : ℕ) (ops : List SpiOp) (out : List ℕ)
    → length out ≡ most_payload → true ≡ nat_le (bridged_size ops) most_payload
    → length (spi_ask_payload (spi_transfer select mode ops)) ≤ length out
payload_fits_in select mode ops out long fits =
    let size = payload_size select mode ops in
    let bound = within (bridged_size ops) most_payload fits in
    omega (arith, size, bound, long)
