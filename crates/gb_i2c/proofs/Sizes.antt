-- The sizes of a transfer's payload and of its reads.
use Rattle.std.proofs.Common.{◌≡◌, ◌<◌, ◌⊎◌, ⊎_elim, ◌≤◌, ◌+◌, ◌/◌, not, ℕ, Bool, true, false, List}
use Rattle.std.proofs.Common.{[], ◌∷◌, length, drop, drop_of_length-le, get_or, map, sum_by, refl}
use Rattle.std.proofs.Common.{arith, ap, sym, ◌∙◌, length-append, drop-cons, add-one}
use Rattle.std.proofs.lemmas.Bool.Decides.{nat_tests}
use Rattle.std.proofs.lemmas.List.Sums.{sum_by-cons}
use Rattle.std.specs.List.{concat}
use Rattle.gb_base.specs.declared.bridge.BridgeAsk.TheVariants as ask
use Rattle.gb_base.specs.declared.bridge.I2cOp.{I2cOp}
use Rattle.gb_base.specs.declared.bridge.I2cOp.TheVariants as i2c
use Rattle.gb_bridge_payload.proofs.Putting.{heads_long, piece_within, room_of, rooms, rooms_count}
use Rattle.gb_formats.specs.Bridges.{i2c_op_bytes, i2c_read_size, i2c_transfer, i2c_written}
use Rattle.gb_formats.specs.Bridges.{is_too_large}
use Rattle.gb_formats.specs.I2cRecords.{i2c_ask_payload, op_size}
use Rattle.gb_formats.specs.Results.{most_payload}

-- how many bytes an op has in a payload, with what it writes
abbrev pub op_room : I2cOp → ℕ
op_room op = room_of op_size i2c_written op

-- an op has six bytes
pub op_long : (op : I2cOp) → length (i2c_op_bytes op) ≡ 6
op_long (i2c.Get addr len) = refl
op_long (i2c.Put addr bytes) = refl

-- as many ops are counted in a payload
pub ops_counted : (ops : List I2cOp) → length (concat (map i2c_op_bytes ops)) / op_size ≡ length ops
ops_counted ops = let heads = heads_long op_size i2c_op_bytes op_long ops in omega (arith, heads)

-- the size of a payload
pub payload_long : (ops : List I2cOp)
    → length (i2c_ask_payload (i2c_transfer ops)) ≡ 2 + sum_by op_room ops
payload_long ops =
    let behind = length-append (concat (map i2c_op_bytes ops)) (concat (map i2c_written ops)) in
    let all = rooms op_size i2c_op_bytes i2c_written op_long ops in
    omega (arith, behind, all)

-- ---- what is too large

-- the payload, or the reads
large_by_size : (ops : List I2cOp)
    → 2040 < 2 + sum_by op_room ops → is_too_large (ask.I2cTransfer ops) ≡ true
large_by_size ops h = let long = payload_long ops in grind (arith, nat_tests, long, h)

large_by_reads : (ops : List I2cOp)
    → 2040 < sum_by i2c_read_size ops → is_too_large (ask.I2cTransfer ops) ≡ true
large_by_reads ops h = grind (arith, nat_tests, h)

-- neither
small_by : (ops : List I2cOp) → 2 + sum_by op_room ops ≤ 2040 → sum_by i2c_read_size ops ≤ 2040
    → is_too_large (ask.I2cTransfer ops) ≡ false
small_by ops h few = let long = payload_long ops in grind (arith, nat_tests, long, h, few)

-- one more op
sum_next : (f : I2cOp → ℕ) (ops : List I2cOp) (i : ℕ) (op : I2cOp) → i < length ops
    → op ≡ get_or ops i op → sum_by f (drop i ops) ≡ f op + sum_by f (drop (i + 1) ops)
sum_next f ops i op h is =
    let next : drop i ops ≡ get_or ops i op ∷ drop (i + 1) ops =
    drop-cons ops i op h ∙ ap (λ (n : ℕ). get_or ops i op ∷ drop n ops) (sym (add-one i)) in
    ap (sum_by f) next ∙ sum_by-cons f (get_or ops i op) (drop (i + 1) ops)
    ∙ ap (λ (x : I2cOp). f x + sum_by f (drop (i + 1) ops)) (sym is)

-- What the first ops have, and what the others have.
pub record Measured (size read : ℕ) (ops rest : List I2cOp) : Type 0 where
  pub sizes : size + sum_by op_room rest ≡ 2 + sum_by op_room ops
  pub reads : read + sum_by i2c_read_size rest ≡ sum_by i2c_read_size ops
  pub small : size ≤ 2040
  pub few : read ≤ 2040

-- one more op is measured
pub measured_more : (size read got i : ℕ) (ops : List I2cOp) (op : I2cOp) (bytes : List ℕ)
    → i < length ops → op ≡ get_or ops i op → bytes ≡ i2c_written op → got ≡ i2c_read_size op
    → size + (6 + length bytes) ≤ 2040 → read + got ≤ 2040 → Measured size read ops (drop i ops)
    → Measured (size + (6 + length bytes)) (read + got) ops (drop (i + 1) ops)
measured_more size read got i ops op bytes h is is_written is_read small few m =
    let room = sum_next op_room ops i op h is in
    let reads = sum_next i2c_read_size ops i op h is in
    let long = ap (λ (xs : List ℕ). length xs) is_written in
    let was_size = m.sizes in
    let was_read = m.reads in
    record {
      sizes = omega (arith, room, long, was_size);
      reads = omega (arith, reads, is_read, was_read);
      small = small;
      few = few;
    }

-- one more op is too much
pub measured_large : (size read got i : ℕ) (ops : List I2cOp) (op : I2cOp) (bytes : List ℕ)
    → i < length ops → op ≡ get_or ops i op → bytes ≡ i2c_written op → got ≡ i2c_read_size op
    → (2040 < size + (6 + length bytes)) ⊎ (size + (6 + length bytes) ≤ 2040) × (2040 < read + got)
    → Measured size read ops (drop i ops) → false ≡ not (is_too_large (ask.I2cTransfer ops))
measured_large size read got i ops op bytes h is is_written is_read over m =
    let room = sum_next op_room ops i op h is in
    let reads = sum_next i2c_read_size ops i op h is in
    let long = ap (λ (xs : List ℕ). length xs) is_written in
    let was_size = m.sizes in
    let was_read = m.reads in
    let large : is_too_large (ask.I2cTransfer ops) ≡ true =
    ⊎_elim
    (λ h'. large_by_size ops (omega (arith, room, long, was_size, h')))
    (λ h'. large_by_reads ops (omega (arith, reads, is_read, was_read, h'.1)))
    over in
    sym (ap not large)

-- all were measured
pub measured_small : (size read i : ℕ) (ops : List I2cOp) → length ops ≤ i
    → Measured size read ops (drop i ops) → true ≡ not (is_too_large (ask.I2cTransfer ops))
measured_small size read i ops h m =
    let none : drop i ops ≡ [] = drop_of_length-le ops h in
    let room = ap (sum_by op_room) none in
    let reads = ap (sum_by i2c_read_size) none in
    let was_size = m.sizes in
    let was_read = m.reads in
    let small = m.small in
    let few = m.few in
    sym (ap not
    (small_by ops (omega (arith, room, was_size, small)) (omega (arith, reads, was_read, few))))

-- ---- what fits

-- What is known of a transfer that isn't too large.
pub record IsSmall (ops : List I2cOp) : Type 0 where
  pub large : is_too_large (ask.I2cTransfer ops) ≡ false
  pub size : length (i2c_ask_payload (i2c_transfer ops)) ≤ most_payload
  pub count : length ops < 65536

pub is_small : (ops : List I2cOp) → true ≡ not (is_too_large (ask.I2cTransfer ops)) → IsSmall ops
is_small ops h = by (is_too_large (ask.I2cTransfer ops)) refl h where
  by : (large : Bool) → is_too_large (ask.I2cTransfer ops) ≡ large → true ≡ not large → IsSmall ops
  by true is h' = cc
  by false is h' =
      let long = payload_long ops in
      let heads = rooms_count op_size i2c_written ops in
      let size : length (i2c_ask_payload (i2c_transfer ops)) ≤ most_payload =
      grind (arith, nat_tests, is) in
      record {
        large = is;
        size = size;
        count = omega (arith, long, heads, size);
      }

-- what an op of it writes can be counted
pub written_fits : (ops : List I2cOp) (op : I2cOp) (i : ℕ)
    → i < length ops → op ≡ get_or ops i op → IsSmall ops → length (i2c_written op) ≤ most_payload
written_fits ops op i h at small =
    let part = piece_within i2c_written ops op i h at in
    let behind = length-append (concat (map i2c_op_bytes ops)) (concat (map i2c_written ops)) in
    let size = small.size in
    omega (arith, part, behind, size)
