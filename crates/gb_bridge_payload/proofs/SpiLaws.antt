-- What reading and writing records of the SPI protocol means.
use Rattle.std.proofs.Common.{◌≡◌, ◌≢◌, ◌<◌, ◌≤◌, ◌+◌, ◌-◌, ◌*◌, ◌/◌, ◌%◌, eqb, min, ℕ, cond, Ok}
use Rattle.std.proofs.Common.{Err, None, List, [], ◌∷◌, ◌++◌, length, take, drop, slice_index}
use Rattle.std.proofs.Common.{sum_by, rules, refl, arith, sym, ap, ap₂, ◌∙◌, length-append}
use Rattle.std.proofs.Common.{length-take-le, take-append-drop, drop-drop}
use Rattle.std.proofs.lemmas.List.{take_at, drop_at}
use Rattle.std.proofs.lemmas.List.Sums.{sum_by-cons}
use Rattle.byteorder.specs.Endian.{little_number}
use Rattle.gb_base.specs.Bytes.{AreBytes}
use Rattle.gb_base.proofs.LittleEndian.{little_bytes-number2, little_bytes-number4}
use Rattle.gb_formats.specs.Bytes.{le16}
use Rattle.gb_formats.specs.Records.{PayloadFault, le32, read_table, row_of}
use Rattle.gb_formats.specs.SpiRecords.{SpiAsk, spi_asks, spi_ask_kind, spi_ask_payload}
use Rattle.gb_formats.specs.SpiRecords.{read_spi_ask, read_spi_transfer, spi_transfer_size}
use Rattle.gb_formats.specs.SpiRecords.{SpiReply, spi_replies, spi_reply_kind, spi_reply_payload}
use Rattle.gb_formats.specs.SpiRecords.{read_spi_reply, read_device, name_size, entry_at}
use Rattle.gb_formats.specs.SpiRecords.{entry_size, entry_written_size, entries_at}
use Rattle.gb_payload.specs.Answers.{HasSize, fault_of}
use Rattle.gb_payload.specs.declared.payload_fault.PayloadFault as code
use Rattle.gb_payload.proofs.Places.{one_size, whole_is, whole_is_not}
use Rattle.gb_payload.proofs.Tables.{AreSpelt, means_whole}
use Rattle.gb_bridge_payload.specs.Conditions.{IsSpiAsk}
use Rattle.gb_bridge_payload.specs.Protocols as formats
use Rattle.gb_bridge_payload.proofs.Numbers.{Agree, agree_front, agree_less, four_bytes}
use Rattle.gb_bridge_payload.proofs.Numbers.{number_in_front, number_same_at, one_byte, two_bytes}
use Rattle.gb_bridge_payload.proofs.Transfers.{AreItems, behind, items_same, size_told}
use Rattle.gb_bridge_payload.proofs.Transfers.{transfer_is_size, transfer_size, what_follows}
use Rattle.gb_bridge_payload.proofs.Types.{MeansBy, by_table, by_type, means_all}

-- ---- entries

-- what the entry at the front writes
abbrev pub entry_weight : List ℕ → ℕ
entry_weight bytes = entry_written_size (entry_at bytes)

-- what so many entries write
abbrev pub entries_weight : ℕ → List ℕ → ℕ
entries_weight n bytes = sum_by entry_written_size (entries_at n bytes)

entry_same : (xs ys : List ℕ) → Agree entry_size xs ys → entry_weight xs ≡ entry_weight ys
entry_same xs ys a =
    let len = number_same_at 4 4 xs ys (agree_less 8 13 xs ys (omega arith) a) in
    let flags = a 12 (omega arith) in
    ap₂ (λ (f n : ℕ). cond (eqb (f / 2 % 2) 1) n 0) flags len

pub are_entries : AreItems entry_size entry_weight entries_weight
are_entries = record {
  none = λ bytes. refl;
  more = λ n bytes.
      sum_by-cons entry_written_size (entry_at bytes) (entries_at n (drop entry_size bytes));
  same = entry_same;
}

-- ---- transfers

-- how many entries a payload says
abbrev count_in : List ℕ → ℕ
count_in payload = little_number 2 (drop 2 payload)

-- the record that a payload is
abbrev transfer_made : List ℕ → SpiAsk
transfer_made payload =
    SpiAsk.Transfer (slice_index payload 0) (slice_index payload 1)
    (take (entry_size * count_in payload) (drop 4 payload))
    (drop (4 + entry_size * count_in payload) payload)

abbrev transfer_length : List ℕ → ℕ
transfer_length payload = transfer_size 2 4 entry_size entries_weight payload

-- how many entries so many bytes are
pub divided : (n size : ℕ) → size ≡ 13 * n → size / 13 ≡ n
divided n size h = omega arith

transfer_spelt : (payload : List ℕ) → AreBytes payload → length payload ≡ transfer_length payload
    → spi_ask_payload (transfer_made payload) ≡ payload
transfer_spelt [] b h = absurd (omega arith)
transfer_spelt (s ∷ []) b h = absurd (omega arith)
transfer_spelt (s ∷ m ∷ []) b h = absurd (omega arith)
transfer_spelt (s ∷ m ∷ x ∷ []) b h = absurd (omega arith)
transfer_spelt (s ∷ m ∷ x ∷ y ∷ rest) b h =
    let n : ℕ = little_number 2 (x ∷ y ∷ rest) in
    let long : length (take (13 * n) rest) ≡ 13 * n = length-take-le (13 * n) rest (omega arith) in
    ap₂ (λ (xs ys : List ℕ). s ∷ m ∷ (xs ++ ys))
    (ap le16 (divided n (length (take (13 * n) rest)) long) ∙ little_bytes-number2 x y (b 2) (b 3))
    (ap (λ (ys : List ℕ). take (13 * n) rest ++ ys)
    (sym (drop-drop (13 * n) 4 (s ∷ m ∷ x ∷ y ∷ rest)))
    ∙ take-append-drop (13 * n) rest)

-- ---- requests

-- the rows but for TRANSFER
pub spi_asks_spelt : AreSpelt spi_ask_kind spi_ask_payload spi_asks
spi_asks_spelt = search rules

pub spi_asks_listed : (made : SpiAsk)
    → spi_ask_kind made ≢ 4 → row_of spi_asks (spi_ask_kind made) ≢ None
spi_asks_listed SpiAsk.MasterConfig other = λ e. cc
spi_asks_listed (SpiAsk.DeviceConfig select) other = λ e. cc
spi_asks_listed (SpiAsk.Transfer select mode entries data_bytes) other = absurd (other refl)

-- what reading a request means
pub spi_ask_means : {B : Type 0} (view : B → SpiAsk) (kind : ℕ) (payload : List ℕ)
    → AreBytes payload → MeansBy formats.spi_asks view kind payload (read_spi_ask kind)
spi_ask_means {B} view kind payload b =
    by_type formats.spi_asks view kind payload 4 (λ bytes. read_spi_transfer (count_in bytes) bytes)
    (read_table spi_asks kind)
    (λ is reads. means_whole formats.spi_asks view kind transfer_length transfer_made payload
    (transfer_is_size 2 4 entry_size entry_weight entries_weight (omega arith) are_entries) reads
    (λ bytes. sym is) (transfer_spelt payload b))
    (λ other. by_table formats.spi_asks spi_asks view kind payload spi_asks_spelt
    (λ made h. spi_asks_listed made (λ is. other (sym h ∙ is))) b)

-- ---- responses

abbrev device_made : List ℕ → SpiReply
device_made payload =
    SpiReply.DeviceConfig (little_number 2 payload) (slice_index payload 2)
    (little_number 4 (drop 3 payload)) (slice_index payload 7) (drop 8 payload)

device_spelt : (payload : List ℕ) → AreBytes payload → length payload ≡ 8 + name_size
    → spi_reply_payload (device_made payload) ≡ payload
device_spelt [] b h = absurd (omega arith)
device_spelt (x ∷ []) b h = absurd (omega arith)
device_spelt (x ∷ y ∷ []) b h = absurd (omega arith)
device_spelt (x ∷ y ∷ bits ∷ []) b h = absurd (omega arith)
device_spelt (x ∷ y ∷ bits ∷ p ∷ []) b h = absurd (omega arith)
device_spelt (x ∷ y ∷ bits ∷ p ∷ q ∷ []) b h = absurd (omega arith)
device_spelt (x ∷ y ∷ bits ∷ p ∷ q ∷ r ∷ []) b h = absurd (omega arith)
device_spelt (x ∷ y ∷ bits ∷ p ∷ q ∷ r ∷ s ∷ []) b h = absurd (omega arith)
device_spelt (x ∷ y ∷ bits ∷ p ∷ q ∷ r ∷ s ∷ device ∷ name) b h =
    ap₂ (λ (mode speed : List ℕ). mode ++ (bits ∷ (speed ++ (device ∷ name))))
    (little_bytes-number2 x y (b 0) (b 1)) (little_bytes-number4 p q r s (b 3) (b 4) (b 5) (b 6))

-- the rows but for DEVICE_CONFIG and TRANSFER
pub spi_replies_spelt : AreSpelt spi_reply_kind spi_reply_payload spi_replies
spi_replies_spelt = search rules

pub spi_replies_listed : (made : SpiReply) → spi_reply_kind made ≢ 3 → spi_reply_kind made ≢ 4
    → row_of spi_replies (spi_reply_kind made) ≢ None
spi_replies_listed (SpiReply.MasterConfig mask least greatest mode flags selects) other more = λ e.
    cc
spi_replies_listed (SpiReply.DeviceConfig mode bits speed device name) other more =
    absurd (other refl)
spi_replies_listed (SpiReply.Transfer data_bytes) other more = absurd (more refl)

-- what reading a response means
pub spi_reply_means : {B : Type 0} (view : B → SpiReply) (kind : ℕ) (payload : List ℕ)
    → AreBytes payload → MeansBy formats.spi_replies view kind payload (read_spi_reply kind)
spi_reply_means {B} view kind payload b =
    by_type formats.spi_replies view kind payload 3 read_device
    (λ bytes. cond (eqb kind 4) (Ok (SpiReply.Transfer bytes)) (read_table spi_replies kind bytes))
    (λ is reads. means_whole formats.spi_replies view kind (λ bytes. 8 + name_size) device_made
    payload (one_size (8 + name_size)) reads (λ bytes. sym is) (device_spelt payload b))
    (λ other. by_type formats.spi_replies view kind payload 4
    (λ bytes. Ok (SpiReply.Transfer bytes)) (read_table spi_replies kind)
    (λ is. means_all formats.spi_replies view kind payload (λ bytes. SpiReply.Transfer bytes)
    (sym is) refl)
    (λ more. by_table formats.spi_replies spi_replies view kind payload spi_replies_spelt
    (λ made h. spi_replies_listed made (λ is. other (sym h ∙ is)) (λ is. more (sym h ∙ is))) b))

-- ---- reading a transfer

-- What was read of a payload tells its size: the count, and what the entries behind it write.
pub record HasEntries (payload front : List ℕ) (count written : ℕ) : Type 0 where
  pub counted : count ≡ count_in payload
  pub entries : take (length front - 4) (drop 4 front) ≡ take (entry_size * count) (drop 4 payload)
  pub size : transfer_length payload ≡ 4 + entry_size * count + written

pub has_entries : (payload first front : List ℕ) (count written : ℕ) → first ≡ take 4 payload
    → count ≡ little_number 2 (take (length first - 2) (drop 2 first))
    → 4 + entry_size * count ≤ length payload → front ≡ take (4 + entry_size * count) payload
    → written ≡ entries_weight count (take (length front - 4) (drop 4 front))
    → HasEntries payload front count written
has_entries payload first front count written is_first counted room is_front weighed =
    let count_is : count ≡ count_in payload =
    counted ∙ ap (little_number 2) (what_follows 2 first)
    ∙ number_in_front 2 2 payload first is_first in
    let entries_are = behind 4 (entry_size * count) payload front room is_front in
    record {
      counted = count_is;
      entries = entries_are;
      size =
          size_told 2 4 entry_size entry_weight entries_weight payload
          (take (length front - 4) (drop 4 front)) count written are_entries count_is entries_are
          weighed;
    }

-- a payload of another size is no transfer
pub transfer_refused : (payload front : List ℕ) (count written : ℕ) (why : code.PayloadFault)
    → HasEntries payload front count written
    → HasSize (4 + entry_size * count + written) payload (Err why)
    → read_spi_transfer (count_in payload) payload ≡ Err (fault_of why)
transfer_refused payload front count written why t has =
    let size = t.size in
    whole_is_not (transfer_length payload) payload (transfer_made payload) (λ e. has.0 (e ∙ size))
    ∙ ap (λ (n : ℕ). Err (PayloadFault.Mismatch (min (length payload) (n + 1)))) size
    ∙ sym (ap (λ (fault : PayloadFault). Err fault) has.1)

-- a payload of the size is one
pub transfer_taken : (payload front : List ℕ) (count written : ℕ)
    → HasEntries payload front count written
    → length payload ≡ 4 + entry_size * count + written
    → read_spi_transfer (count_in payload) payload
    ≡ Ok (SpiAsk.Transfer (slice_index payload 0) (slice_index payload 1)
    (take (length front - 4) (drop 4 front))
    (take (length payload - (4 + entry_size * count)) (drop (4 + entry_size * count) payload)))
transfer_taken payload front count written t long =
    whole_is (transfer_length payload) payload (transfer_made payload) (long ∙ sym t.size)
    ∙ ap (λ (n : ℕ). Ok (SpiAsk.Transfer (slice_index payload 0) (slice_index payload 1)
    (take (entry_size * n) (drop 4 payload)) (drop (4 + entry_size * n) payload))) (sym t.counted)
    ∙ ap₂ (λ (xs ys : List ℕ).
    Ok (SpiAsk.Transfer (slice_index payload 0) (slice_index payload 1) xs ys)) (sym t.entries)
    (sym (what_follows (4 + entry_size * count) payload))

-- ---- writing

-- a transfer of as many entries as it says
transfer_read : (m n select mode x y : ℕ) (entries data_bytes : List ℕ) → m ≡ n
    → length entries ≡ entry_size * n → length data_bytes ≡ entries_weight n entries
    → read_spi_transfer m (select ∷ mode ∷ x ∷ y ∷ (entries ++ data_bytes))
    ≡ Ok (SpiAsk.Transfer select mode entries data_bytes)
transfer_read m n select mode x y entries data_bytes e long written =
    let payload = select ∷ mode ∷ x ∷ y ∷ (entries ++ data_bytes) in
    let weight : entries_weight n (entries ++ data_bytes) ≡ entries_weight n entries =
    items_same entry_size entry_weight entries_weight are_entries n (entries ++ data_bytes) entries
    (agree_less (entry_size * n) (length entries) (entries ++ data_bytes) entries (omega arith)
    (agree_front entries data_bytes)) in
    let total = length-append entries data_bytes in
    ap (λ (k : ℕ). read_spi_transfer k payload) e
    ∙ whole_is (spi_transfer_size n (entries_at n (entries ++ data_bytes))) payload _
    (omega (arith, total, long, written, weight))
    ∙ ap₂ (λ (xs ys : List ℕ). Ok (SpiAsk.Transfer select mode xs ys))
    (take_at entries data_bytes (entry_size * n) long)
    (sym (drop-drop (entry_size * n) 4 payload) ∙ drop_at entries data_bytes (entry_size * n) long)

-- a request is read again
pub spi_ask_again : (made : SpiAsk)
    → IsSpiAsk made → read_spi_ask (spi_ask_kind made) (spi_ask_payload made) ≡ Ok made
spi_ask_again SpiAsk.MasterConfig h = refl
spi_ask_again (SpiAsk.DeviceConfig select) h =
    ap (λ (n : ℕ). Ok (SpiAsk.DeviceConfig n)) (one_byte select)
spi_ask_again (SpiAsk.Transfer select mode entries data_bytes) h =
    transfer_read _ (length entries / entry_size) select mode _ _ entries data_bytes
    (two_bytes (length entries / entry_size) h.count) h.whole h.written

-- what the controller can do is read again
pub master_again : (mask least greatest mode flags selects : ℕ) → mask < 4294967296
    → least < 4294967296 → greatest < 4294967296 → mode < 65536 → flags < 65536
    → read_spi_reply 2
    (spi_reply_payload (SpiReply.MasterConfig mask least greatest mode flags selects))
    ≡ Ok (SpiReply.MasterConfig mask least greatest mode flags selects)
master_again mask least greatest mode flags selects h1 h2 h3 h4 h5 =
    ap₂ (λ (x y : ℕ). Ok (SpiReply.MasterConfig x y (little_number 4 (le32 greatest))
    (little_number 2 (le16 mode)) (little_number 2 (le16 flags)) (selects + 256 * 0)))
    (four_bytes mask h1) (four_bytes least h2)
    ∙ ap₂ (λ (x y : ℕ).
    Ok (SpiReply.MasterConfig mask least x y (little_number 2 (le16 flags)) (selects + 256 * 0)))
    (four_bytes greatest h3) (two_bytes mode h4)
    ∙ ap₂ (λ (x y : ℕ). Ok (SpiReply.MasterConfig mask least greatest mode x y))
    (two_bytes flags h5) (one_byte selects)
