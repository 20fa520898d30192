-- What reading and writing records of the UART protocol means.
use Rattle.std.proofs.Common.{◌≡◌, ◌≢◌, ◌≤◌, ◌+◌, ℕ, cond, eqb, inl, inr, ⊎_elim, None, List, []}
use Rattle.std.proofs.Common.{◌∷◌, ◌++◌, length, drop, slice_index, refl, arith, sym, ap}
use Rattle.std.proofs.Common.{◌∙◌}
use Rattle.std.proofs.lemmas.Bool.{cases_lt}
use Rattle.byteorder.specs.Endian.{little_number}
use Rattle.gb_base.specs.Bytes.{AreBytes}
use Rattle.gb_base.proofs.LittleEndian.{little_bytes-number2}
use Rattle.gb_formats.specs.Bytes.{le16}
use Rattle.gb_formats.specs.Records.{read_table, row_of}
use Rattle.gb_formats.specs.UartRecords.{UartAsk, uart_asks, uart_ask_kind, uart_ask_payload}
use Rattle.gb_formats.specs.UartRecords.{read_uart_ask, read_send, read_receive, UartReply}
use Rattle.gb_formats.specs.UartRecords.{uart_replies, uart_reply_kind, uart_reply_payload}
use Rattle.gb_payload.proofs.Places.{IsSize}
use Rattle.gb_payload.proofs.Tables.{AreSpelt, is_row, means_whole}
use Rattle.gb_bridge_payload.specs.Protocols as formats
use Rattle.gb_bridge_payload.proofs.Numbers.{agree_front, agree_less, agree_zeros, number_same}
use Rattle.gb_bridge_payload.proofs.Types.{MeansBy, by_table, by_type}

-- ---- data of a size that the first two bytes tell

-- a record of that many bytes and some more
abbrev data_size : ℕ → List ℕ → ℕ
data_size base bytes = base + little_number 2 bytes

data_is_size : (base : ℕ) → 2 ≤ base → IsSize (data_size base)
data_is_size base room = record {
  pads = λ bytes n. ap (λ (k : ℕ). base + k) (number_same 2 _ bytes (agree_zeros bytes n 2));
  front = λ bytes rest. ⊎_elim
      (λ short. inr (omega arith, omega arith))
      (λ long. inl (ap (λ (k : ℕ). base + k)
      (number_same 2 _ bytes (agree_less 2 (length bytes) _ bytes long (agree_front bytes rest)))))
      (cases_lt (length bytes) 2);
}

abbrev send_made : List ℕ → UartAsk
send_made payload = UartAsk.SendData (drop 2 payload)

send_spelt : (payload : List ℕ) → AreBytes payload → length payload ≡ data_size 2 payload
    → uart_ask_payload (send_made payload) ≡ payload
send_spelt [] b h = absurd (omega arith)
send_spelt (x ∷ []) b h = absurd (omega arith)
send_spelt (x ∷ y ∷ rest) b h =
    let long : length rest ≡ little_number 2 (x ∷ y ∷ rest) = omega arith in
    ap (λ (xs : List ℕ). xs ++ rest) (ap le16 long ∙ little_bytes-number2 x y (b 0) (b 1))

abbrev receive_made : List ℕ → UartAsk
receive_made payload = UartAsk.ReceiveData (slice_index payload 2) (drop 3 payload)

receive_spelt : (payload : List ℕ) → AreBytes payload → length payload ≡ data_size 3 payload
    → uart_ask_payload (receive_made payload) ≡ payload
receive_spelt [] b h = absurd (omega arith)
receive_spelt (x ∷ []) b h = absurd (omega arith)
receive_spelt (x ∷ y ∷ []) b h = absurd (omega arith)
receive_spelt (x ∷ y ∷ flags ∷ rest) b h =
    let long : length rest ≡ little_number 2 (x ∷ y ∷ flags ∷ rest) = omega arith in
    ap (λ (xs : List ℕ). xs ++ (flags ∷ rest)) (ap le16 long ∙ little_bytes-number2 x y (b 0) (b 1))

-- ---- requests

-- the rows but for SEND_DATA and RECEIVE_DATA
pub uart_asks_spelt : AreSpelt uart_ask_kind uart_ask_payload uart_asks
uart_asks_spelt = search parts 40

pub uart_asks_listed : (made : UartAsk)
    → uart_ask_kind made ≢ 2 → uart_ask_kind made ≢ 3 → row_of uart_asks (uart_ask_kind made) ≢ None
uart_asks_listed (UartAsk.SendData bytes) other more = absurd (other refl)
uart_asks_listed (UartAsk.ReceiveData flags bytes) other more = absurd (more refl)
uart_asks_listed _ other more = is_row _

-- what reading a request means
pub uart_ask_means : {B : Type 0} (view : B → UartAsk) (kind : ℕ) (payload : List ℕ)
    → AreBytes payload → MeansBy formats.uart_asks view kind payload (read_uart_ask kind)
uart_ask_means {B} view kind payload b =
    by_type formats.uart_asks view kind payload 2 read_send
    (λ bytes. cond (eqb kind 3) (read_receive bytes) (read_table uart_asks kind bytes))
    (λ is reads. means_whole formats.uart_asks view kind (data_size 2) send_made payload
    (data_is_size 2 (omega arith)) reads (λ bytes. sym is) (send_spelt payload b))
    (λ other. by_type formats.uart_asks view kind payload 3 read_receive (read_table uart_asks kind)
    (λ is reads. means_whole formats.uart_asks view kind (data_size 3) receive_made payload
    (data_is_size 3 (omega arith)) reads (λ bytes. sym is) (receive_spelt payload b))
    (λ more. by_table formats.uart_asks uart_asks view kind payload uart_asks_spelt
    (λ made h. uart_asks_listed made (λ is. other (sym h ∙ is)) (λ is. more (sym h ∙ is))) b))

-- ---- responses

-- the rows of responses
pub uart_replies_spelt : AreSpelt uart_reply_kind uart_reply_payload uart_replies
uart_replies_spelt = search parts 40

-- each of them has a row
pub uart_replies_listed : (made : UartReply) → row_of uart_replies (uart_reply_kind made) ≢ None
uart_replies_listed UartReply.SendData = is_row _
uart_replies_listed _ = is_row _
