-- What reading and writing records of the Firmware Download protocol means.
use Rattle.std.proofs.Common.{◌≢◌, ℕ, None, List, Ok, refl, sym, ◌∙◌}
use Rattle.gb_base.specs.Bytes.{AreBytes}
use Rattle.gb_formats.specs.FirmwareRecords.{FirmwareAsk, FirmwareReply, firmware_ask_kind}
use Rattle.gb_formats.specs.FirmwareRecords.{firmware_ask_payload, firmware_asks}
use Rattle.gb_formats.specs.FirmwareRecords.{firmware_replies, firmware_reply_kind}
use Rattle.gb_formats.specs.FirmwareRecords.{firmware_reply_payload, read_firmware_ask}
use Rattle.gb_formats.specs.FirmwareRecords.{read_firmware_reply, tag_field}
use Rattle.gb_formats.specs.Records.{read_table, row_of, whole}
use Rattle.gb_payload.proofs.Places.{one_size}
use Rattle.gb_payload.proofs.Tables.{AreSpelt, is_row, means_whole}
use Rattle.gb_bridge_payload.specs.Protocols as formats
use Rattle.gb_bridge_payload.proofs.Types.{MeansBy, by_table, by_type, means_all}

-- ---- requests

-- the rows but for FIND
firmware_asks_spelt : AreSpelt firmware_ask_kind firmware_ask_payload firmware_asks
firmware_asks_spelt = search parts 40

firmware_asks_listed : (made : FirmwareAsk) → firmware_ask_kind made ≢ 1
    → row_of firmware_asks (firmware_ask_kind made) ≢ None
firmware_asks_listed (FirmwareAsk.Find tag) other = absurd (other refl)
firmware_asks_listed (FirmwareAsk.Fetch id offset size) other = is_row _
firmware_asks_listed (FirmwareAsk.Release id) other = is_row _

-- what reading a request means
pub firmware_ask_means : {B : Type 0} (view : B → FirmwareAsk) (kind : ℕ) (payload : List ℕ)
    → AreBytes payload → MeansBy formats.firmware_asks view kind payload (read_firmware_ask kind)
firmware_ask_means {B} view kind payload b =
    by_type formats.firmware_asks view kind payload 1
    (λ bytes. whole tag_field bytes (FirmwareAsk.Find bytes)) (read_table firmware_asks kind)
    (λ is reads. means_whole formats.firmware_asks view kind (λ bytes. tag_field)
    (λ bytes. FirmwareAsk.Find bytes) payload (one_size tag_field) reads (λ bytes. sym is)
    (λ long. refl))
    (λ other. by_table formats.firmware_asks firmware_asks view kind payload firmware_asks_spelt
    (λ made h. firmware_asks_listed made (λ is. other (sym h ∙ is))) b)

-- ---- responses

-- the rows but for FETCH
firmware_replies_spelt : AreSpelt firmware_reply_kind firmware_reply_payload firmware_replies
firmware_replies_spelt = search parts 40

firmware_replies_listed : (made : FirmwareReply) → firmware_reply_kind made ≢ 2
    → row_of firmware_replies (firmware_reply_kind made) ≢ None
firmware_replies_listed (FirmwareReply.Find id size) other = is_row _
firmware_replies_listed (FirmwareReply.Fetch bytes) other = absurd (other refl)
firmware_replies_listed FirmwareReply.Release other = is_row _

-- what reading a response means
pub firmware_reply_means : {B : Type 0} (view : B → FirmwareReply) (kind : ℕ) (payload : List ℕ)
    → AreBytes payload
    → MeansBy formats.firmware_replies view kind payload (read_firmware_reply kind)
firmware_reply_means {B} view kind payload b =
    by_type formats.firmware_replies view kind payload 2
    (λ bytes. Ok (FirmwareReply.Fetch bytes)) (read_table firmware_replies kind)
    (λ is. means_all formats.firmware_replies view kind payload
    (λ bytes. FirmwareReply.Fetch bytes) (sym is) refl)
    (λ other. by_table formats.firmware_replies firmware_replies view kind payload
    firmware_replies_spelt
    (λ made h. firmware_replies_listed made (λ is. other (sym h ∙ is))) b)
