-- Ops, one after the other.
use Rattle.std.proofs.Common.{◌≡◌, ◌<◌, ◌≤◌, ◌+◌, ◌-◌, ℕ, Bool, true, false, List, ◌∷◌, ◌++◌}
use Rattle.std.proofs.Common.{[], length, take, drop, sum_by, refl, arith, ap, ap₂, sym, ◌∙◌}
use Rattle.std.proofs.Common.{length-append, length-drop, length-take, take_all, if◌then◌else◌}
use Rattle.std.proofs.lemmas.List.Sums.{sum_by-cons}
use Rattle.gb_base.specs.Bytes.{AreFew}
use Rattle.gb_formats.specs.I2cDevice.{I2cDevice, after_op, after_read, after_write, op_read_bytes}
use Rattle.gb_formats.specs.I2cDevice.{ops_run}
use Rattle.gb_formats.specs.I2cRecords.{TransferOp, op_at, op_reads, op_size, op_written_size}
use Rattle.gb_formats.specs.I2cRecords.{ops_at}
use Rattle.gb_formats.specs.Results.{Step, tells}
use Rattle.gb_i2c.proofs.Surveys.{ops_next, ops_left}
use Rattle.gb_i2c.specs.Counted.{AreCounted}

-- The ops that are left do the rest of what all do.
pub record Runs (count counter : ℕ) (device : I2cDevice) (ops data_bytes old : List ℕ)
    (now : I2cDevice) (rest left new : List ℕ)
    : Type 0 where
  pub counted : AreCounted (count - counter) rest left
  pub runs : ops_run now left new (ops_at (count - counter) rest)
      ≡ ops_run device data_bytes old (ops_at count ops)

-- an op does the same with its own bytes alone
own_by : (device : I2cDevice) (bytes : List ℕ) (size : ℕ) (reads : Bool)
    → (if reads
    then after_read device size
    else after_write device (take size (take (if reads then 0 else size) bytes)))
    ≡ (if reads then after_read device size else after_write device (take size bytes))
own_by device bytes size true = refl
own_by device bytes size false =
    let most = length-take size bytes in
    ap (after_write device) (take_all size (take size bytes) (omega (arith, most)))

own : (device : I2cDevice) (bytes : List ℕ) (op : TransferOp)
    → after_op device (take (op_written_size op) bytes) op ≡ after_op device bytes op
own device bytes op = own_by device bytes op.size (op_reads op)

-- what the op at the front writes is there
pub enough : (count counter : ℕ) (rest left : List ℕ) (op : TransferOp) → counter < count
    → op ≡ op_at rest → AreCounted (count - counter) rest left
    → length left ≡ op_written_size op
    + sum_by op_written_size (ops_at (count - (counter + 1)) (drop op_size rest))
enough count counter rest left op h is_op counted =
    let n : ℕ = count - (counter + 1) in
    counted.written
    ∙ ap (sum_by op_written_size) (ops_next count counter rest h)
    ∙ sum_by-cons op_written_size (op_at rest) (ops_at n (drop op_size rest))
    ∙ ap (λ (o : TransferOp).
    op_written_size o + sum_by op_written_size (ops_at n (drop op_size rest))) (sym is_op)

-- one more op is done
pub runs_more : (count counter : ℕ) (device now later : I2cDevice)
    (ops data_bytes old rest left new rest' left' new' written : List ℕ) (op : TransferOp)
    → counter < count → op ≡ op_at rest → rest' ≡ drop op_size rest
    → written ≡ take (op_written_size op) left → left' ≡ drop (op_written_size op) left
    → later ≡ after_op now written op → new' ≡ new ++ op_read_bytes now op
    → Runs count counter device ops data_bytes old now rest left new
    → Runs count (counter + 1) device ops data_bytes old later rest' left' new'
runs_more count counter device now later ops data_bytes old rest left new rest' left' new' =
    λ written op h is_op is_rest is_written is_left is_later is_new r.
    let n : ℕ = count - (counter + 1) in
    let room = enough count counter rest left op h is_op r.counted in
    let gone = length-drop (op_written_size op) left in
    let after : later ≡ after_op now left op =
    is_later ∙ ap (λ (w : List ℕ). after_op now w op) is_written ∙ own now left op in
    let done : ops_run later left' new' (ops_at n rest')
    ≡ ops_run (after_op now left op) (drop (op_written_size op) left) (new ++ op_read_bytes now op)
    (ops_at n (drop op_size rest)) =
    ap₂ (λ (d : I2cDevice) (xs : List ℕ). ops_run d xs new' (ops_at n rest')) after is_left
    ∙ ap₂ (λ (xs ys : List ℕ).
    ops_run (after_op now left op) (drop (op_written_size op) left) xs (ops_at n ys)) is_new
    is_rest in
    record {
      counted = record {
        whole = ops_left count counter rest rest' h is_rest r.counted.whole;
        written = ap (λ (xs : List ℕ). length xs) is_left ∙ omega (arith, room, gone)
            ∙ ap (λ (xs : List ℕ). sum_by op_written_size (ops_at n xs)) (sym is_rest);
      };
      runs = done
          ∙ ap (λ (o : TransferOp). ops_run now left new (o ∷ ops_at n (drop op_size rest))) is_op
          ∙ ap (ops_run now left new) (sym (ops_next count counter rest h))
          ∙ r.runs;
    }

-- no op is left
pub runs_all : (count counter : ℕ) (device now : I2cDevice)
    (ops data_bytes old rest left new : List ℕ) → count ≤ counter
    → Runs count counter device ops data_bytes old now rest left new
    → ops_run device data_bytes old (ops_at count ops) ≡ tells now new
runs_all count counter device now ops data_bytes old rest left new done r =
    let none : count - counter ≡ 0 = omega (arith, done) in
    sym r.runs ∙ ap (λ (n : ℕ). ops_run now left new (ops_at n rest)) none

-- ops only add to what was read
reads_more : (device : I2cDevice) (bytes front : List ℕ) (ops : List TransferOp)
    → length front ≤ length (ops_run device bytes front ops).served.payload
reads_more device bytes front [] = omega arith
reads_more device bytes front (op ∷ ops) =
    let next = reads_more (after_op device bytes op) (drop (op_written_size op) bytes)
    (front ++ op_read_bytes device op) ops in
    let added = length-append front (op_read_bytes device op) in
    omega (arith, next, added)

-- where all ops read few bytes, there are few behind the next one
pub next_few : (count counter : ℕ) (device now : I2cDevice)
    (ops data_bytes old rest left new : List ℕ) (op : TransferOp)
    → counter < count → op ≡ op_at rest
    → Runs count counter device ops data_bytes old now rest left new
    → AreFew (ops_run device data_bytes old (ops_at count ops)).served.payload
    → AreFew (new ++ op_read_bytes now op)
next_few count counter device now ops data_bytes old rest left new op h is_op r few =
    let later : List TransferOp = ops_at (count - (counter + 1)) (drop op_size rest) in
    let more = reads_more (after_op now left op) (drop (op_written_size op) left)
    (new ++ op_read_bytes now op) later in
    let same : ops_run now left new (op ∷ later)
    ≡ ops_run device data_bytes old (ops_at count ops) =
    ap (λ (o : TransferOp). ops_run now left new (o ∷ later)) is_op
    ∙ ap (ops_run now left new) (sym (ops_next count counter rest h))
    ∙ r.runs in
    let long = ap (λ (s : Step I2cDevice). length s.served.payload) same in
    omega (arith, more, long, few)
