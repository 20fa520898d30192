-- What reading and writing records of the I2C protocol means.
use Rattle.std.proofs.Common.{◌≡◌, ◌≢◌, ◌<◌, ◌≤◌, ◌+◌, ◌-◌, ◌*◌, ◌/◌, min, ℕ, cond, Ok, Err, None}
use Rattle.std.proofs.Common.{List, [], ◌∷◌, ◌++◌, length, take, drop, sum_by, rules, refl, arith}
use Rattle.std.proofs.Common.{sym, ap, ap₂, ◌∙◌, length-append, length-drop, length-take-le}
use Rattle.std.proofs.Common.{take-append-drop, drop-drop}
use Rattle.std.proofs.lemmas.List.{take_at, drop_at}
use Rattle.std.proofs.lemmas.List.Sums.{sum_by-cons}
use Rattle.byteorder.specs.Endian.{little_number}
use Rattle.gb_base.specs.Bytes.{AreBytes}
use Rattle.gb_base.proofs.LittleEndian.{little_bytes-number2}
use Rattle.gb_formats.specs.Bytes.{le16}
use Rattle.gb_formats.specs.I2cRecords.{I2cAsk, i2c_asks, i2c_ask_kind, i2c_ask_payload}
use Rattle.gb_formats.specs.I2cRecords.{read_i2c_ask, read_i2c_transfer, i2c_transfer_size}
use Rattle.gb_formats.specs.I2cRecords.{I2cReply, i2c_replies, i2c_reply_kind, i2c_reply_payload}
use Rattle.gb_formats.specs.I2cRecords.{read_i2c_reply, op_at, op_size, op_written_size, ops_at}
use Rattle.gb_formats.specs.Records.{PayloadFault, has_read_flag, read_table, row_of}
use Rattle.gb_payload.specs.Answers.{HasSize, fault_of}
use Rattle.gb_payload.specs.declared.payload_fault.PayloadFault as code
use Rattle.gb_payload.proofs.Places.{whole_is, whole_is_not}
use Rattle.gb_payload.proofs.Tables.{AreSpelt, means_whole}
use Rattle.gb_bridge_payload.specs.Conditions.{AreOps, IsI2cAsk}
use Rattle.gb_bridge_payload.specs.Protocols as formats
use Rattle.gb_bridge_payload.proofs.Numbers.{Agree, agree_front, agree_less, number_in_front}
use Rattle.gb_bridge_payload.proofs.Numbers.{number_same_at, two_bytes}
use Rattle.gb_bridge_payload.proofs.Transfers.{AreItems, behind, items_same, size_told}
use Rattle.gb_bridge_payload.proofs.Transfers.{transfer_is_size, transfer_size, what_follows}
use Rattle.gb_bridge_payload.proofs.Types.{MeansBy, by_table, by_type, means_all}

-- ---- ops

-- what the op at the front writes
abbrev pub op_weight : List ℕ → ℕ
op_weight bytes = op_written_size (op_at bytes)

-- what so many ops write
abbrev pub ops_weight : ℕ → List ℕ → ℕ
ops_weight n bytes = sum_by op_written_size (ops_at n bytes)

op_same : (xs ys : List ℕ) → Agree op_size xs ys → op_weight xs ≡ op_weight ys
op_same xs ys a =
    let flags = number_same_at 2 2 xs ys (agree_less 4 6 xs ys (omega arith) a) in
    let size = number_same_at 4 2 xs ys a in
    ap₂ (λ (f n : ℕ). cond (has_read_flag f) 0 n) flags size

pub are_ops : AreItems op_size op_weight ops_weight
are_ops = record {
  none = λ bytes. refl;
  more = λ n bytes. sum_by-cons op_written_size (op_at bytes) (ops_at n (drop op_size bytes));
  same = op_same;
}

-- ---- transfers

-- the record that a payload is
abbrev transfer_made : List ℕ → I2cAsk
transfer_made payload =
    I2cAsk.Transfer (take (op_size * little_number 2 payload) (drop 2 payload))
    (drop (2 + op_size * little_number 2 payload) payload)

abbrev transfer_length : List ℕ → ℕ
transfer_length payload = transfer_size 0 2 op_size ops_weight payload

divided : (n size : ℕ) → size ≡ 6 * n → size / 6 ≡ n
divided n size h = omega arith

transfer_spelt : (payload : List ℕ) → AreBytes payload → length payload ≡ transfer_length payload
    → i2c_ask_payload (transfer_made payload) ≡ payload
transfer_spelt [] b h = absurd (omega arith)
transfer_spelt (x ∷ []) b h = absurd (omega arith)
transfer_spelt (x ∷ y ∷ rest) b h =
    let n : ℕ = little_number 2 (x ∷ y ∷ rest) in
    let long : length (take (6 * n) rest) ≡ 6 * n = length-take-le (6 * n) rest (omega arith) in
    ap₂ (λ (xs ys : List ℕ). xs ++ ys)
    (ap le16 (divided n (length (take (6 * n) rest)) long) ∙ little_bytes-number2 x y (b 0) (b 1))
    (ap (λ (ys : List ℕ). take (6 * n) rest ++ ys) (sym (drop-drop (6 * n) 2 (x ∷ y ∷ rest)))
    ∙ take-append-drop (6 * n) rest)

-- ---- requests

-- the rows but for TRANSFER
pub i2c_asks_spelt : AreSpelt i2c_ask_kind i2c_ask_payload i2c_asks
i2c_asks_spelt = search rules

pub i2c_asks_listed : (made : I2cAsk)
    → i2c_ask_kind made ≢ 5 → row_of i2c_asks (i2c_ask_kind made) ≢ None
i2c_asks_listed I2cAsk.Functionality other = λ e. cc
i2c_asks_listed (I2cAsk.Transfer ops data_bytes) other = absurd (other refl)

-- what reading a request means
pub i2c_ask_means : {B : Type 0} (view : B → I2cAsk) (kind : ℕ) (payload : List ℕ)
    → AreBytes payload → MeansBy formats.i2c_asks view kind payload (read_i2c_ask kind)
i2c_ask_means {B} view kind payload b =
    by_type formats.i2c_asks view kind payload 5
    (λ bytes. read_i2c_transfer (little_number 2 bytes) bytes) (read_table i2c_asks kind)
    (λ is reads. means_whole formats.i2c_asks view kind transfer_length transfer_made payload
    (transfer_is_size 0 2 op_size op_weight ops_weight (omega arith) are_ops) reads
    (λ bytes. sym is) (transfer_spelt payload b))
    (λ other. by_table formats.i2c_asks i2c_asks view kind payload i2c_asks_spelt
    (λ made h. i2c_asks_listed made (λ is. other (sym h ∙ is))) b)

-- ---- responses

-- the rows but for TRANSFER
pub i2c_replies_spelt : AreSpelt i2c_reply_kind i2c_reply_payload i2c_replies
i2c_replies_spelt = search rules

pub i2c_replies_listed : (made : I2cReply)
    → i2c_reply_kind made ≢ 5 → row_of i2c_replies (i2c_reply_kind made) ≢ None
i2c_replies_listed (I2cReply.Functionality flags) other = λ e. cc
i2c_replies_listed (I2cReply.Transfer data_bytes) other = absurd (other refl)

-- what reading a response means
pub i2c_reply_means : {B : Type 0} (view : B → I2cReply) (kind : ℕ) (payload : List ℕ)
    → AreBytes payload → MeansBy formats.i2c_replies view kind payload (read_i2c_reply kind)
i2c_reply_means {B} view kind payload b =
    by_type formats.i2c_replies view kind payload 5 (λ bytes. Ok (I2cReply.Transfer bytes))
    (read_table i2c_replies kind)
    (λ is. means_all formats.i2c_replies view kind payload (λ bytes. I2cReply.Transfer bytes)
    (sym is) refl)
    (λ other. by_table formats.i2c_replies i2c_replies view kind payload i2c_replies_spelt
    (λ made h. i2c_replies_listed made (λ is. other (sym h ∙ is))) b)

-- ---- reading a transfer

-- What was read of a payload tells its size: the count, and what the ops behind it write.
pub record HasOps (payload front : List ℕ) (count written : ℕ) : Type 0 where
  pub counted : count ≡ little_number 2 payload
  pub ops : take (length front - 2) (drop 2 front) ≡ take (op_size * count) (drop 2 payload)
  pub size : transfer_length payload ≡ 2 + op_size * count + written

pub has_ops : (payload first front : List ℕ) (count written : ℕ) → first ≡ take 2 payload
    → count ≡ little_number 2 first → 2 + op_size * count ≤ length payload
    → front ≡ take (2 + op_size * count) payload
    → written ≡ ops_weight count (take (length front - 2) (drop 2 front))
    → HasOps payload front count written
has_ops payload first front count written is_first counted room is_front weighed =
    let count_is : count ≡ little_number 2 payload =
    counted ∙ number_in_front 0 2 payload first is_first in
    let ops_are = behind 2 (op_size * count) payload front room is_front in
    record {
      counted = count_is;
      ops = ops_are;
      size =
          size_told 0 2 op_size op_weight ops_weight payload
          (take (length front - 2) (drop 2 front)) count written are_ops count_is ops_are weighed;
    }

-- a payload of another size is no transfer
pub transfer_refused : (payload front : List ℕ) (count written : ℕ) (why : code.PayloadFault)
    → HasOps payload front count written → HasSize (2 + op_size * count + written) payload (Err why)
    → read_i2c_transfer (little_number 2 payload) payload ≡ Err (fault_of why)
transfer_refused payload front count written why t has =
    let size = t.size in
    whole_is_not (transfer_length payload) payload (transfer_made payload) (λ e. has.0 (e ∙ size))
    ∙ ap (λ (n : ℕ). Err (PayloadFault.Mismatch (min (length payload) (n + 1)))) size
    ∙ sym (ap (λ (fault : PayloadFault). Err fault) has.1)

-- a payload of the size is one
pub transfer_taken : (payload front : List ℕ) (count written : ℕ)
    → HasOps payload front count written
    → length payload ≡ 2 + op_size * count + written
    → read_i2c_transfer (little_number 2 payload) payload
    ≡ Ok (I2cAsk.Transfer (take (length front - 2) (drop 2 front))
    (take (length payload - (2 + op_size * count)) (drop (2 + op_size * count) payload)))
transfer_taken payload front count written t long =
    whole_is (transfer_length payload) payload (transfer_made payload) (long ∙ sym t.size)
    ∙ ap (λ (n : ℕ).
    Ok (I2cAsk.Transfer (take (op_size * n) (drop 2 payload)) (drop (2 + op_size * n) payload)))
    (sym t.counted)
    ∙ ap₂ (λ (xs ys : List ℕ). Ok (I2cAsk.Transfer xs ys)) (sym t.ops)
    (sym (what_follows (2 + op_size * count) payload))

-- it has whole ops and as much data as they write
pub transfer_has_form : (payload front : List ℕ) (count written : ℕ) → count < 65536
    → 2 + op_size * count ≤ length payload → front ≡ take (2 + op_size * count) payload
    → written ≡ ops_weight count (take (length front - 2) (drop 2 front))
    → length payload ≡ 2 + op_size * count + written
    → AreOps (take (length front - 2) (drop 2 front))
    (take (length payload - (2 + op_size * count)) (drop (2 + op_size * count) payload))
transfer_has_form payload front count written few room is_front weighed long =
    let ops = take (length front - 2) (drop 2 front) in
    let behind_count = length-drop 2 payload in
    let ops_long : length ops ≡ op_size * count =
    ap (λ (xs : List ℕ). length xs) (behind 2 (op_size * count) payload front room is_front)
    ∙ length-take-le (op_size * count) (drop 2 payload) (omega (arith, behind_count, room)) in
    let n : length ops / op_size ≡ count = divided count (length ops) ops_long in
    let rest = length-drop (2 + op_size * count) payload in
    record {
      whole = ops_long ∙ ap (λ (k : ℕ). op_size * k) (sym n);
      count = omega (arith, n, few);
      written =
          ap (λ (xs : List ℕ). length xs) (what_follows (2 + op_size * count) payload)
          ∙ omega (arith, rest, long)
          ∙ weighed
          ∙ ap (λ (k : ℕ). ops_weight k ops) (sym n);
    }

-- ---- writing

-- a transfer of as many ops as it says
transfer_read : (m n : ℕ) (x y : ℕ) (ops data_bytes : List ℕ) → m ≡ n → length ops ≡ op_size * n
    → length data_bytes ≡ ops_weight n ops
    → read_i2c_transfer m (x ∷ y ∷ (ops ++ data_bytes)) ≡ Ok (I2cAsk.Transfer ops data_bytes)
transfer_read m n x y ops data_bytes e long written =
    let payload = x ∷ y ∷ (ops ++ data_bytes) in
    let weight : ops_weight n (ops ++ data_bytes) ≡ ops_weight n ops =
    items_same op_size op_weight ops_weight are_ops n (ops ++ data_bytes) ops
    (agree_less (op_size * n) (length ops) (ops ++ data_bytes) ops (omega arith)
    (agree_front ops data_bytes)) in
    let total = length-append ops data_bytes in
    ap (λ (k : ℕ). read_i2c_transfer k payload) e
    ∙ whole_is (i2c_transfer_size n (ops_at n (ops ++ data_bytes))) payload _
    (omega (arith, total, long, written, weight))
    ∙ ap₂ (λ (xs ys : List ℕ). Ok (I2cAsk.Transfer xs ys))
    (take_at ops data_bytes (op_size * n) long)
    (sym (drop-drop (op_size * n) 2 payload) ∙ drop_at ops data_bytes (op_size * n) long)

-- a request is read again
pub i2c_ask_again : (made : I2cAsk)
    → IsI2cAsk made → read_i2c_ask (i2c_ask_kind made) (i2c_ask_payload made) ≡ Ok made
i2c_ask_again I2cAsk.Functionality h = refl
i2c_ask_again (I2cAsk.Transfer ops data_bytes) h =
    transfer_read _ (length ops / op_size) _ _ ops data_bytes
    (two_bytes (length ops / op_size) h.count) h.whole h.written
