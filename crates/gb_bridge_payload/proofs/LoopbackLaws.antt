-- What reading and writing records of the Loopback protocol means.
use Rattle.std.proofs.Common.{◌≡◌, ◌≢◌, ◌<◌, ◌+◌, ℕ, Bool, true, false, cond, eqb, inl, inr}
use Rattle.std.proofs.Common.{⊎_elim, None, Result, Ok, Err, List, [], ◌∷◌, ◌++◌, length, drop}
use Rattle.std.proofs.Common.{refl, arith, sym, ap, ap₂, ◌∙◌}
use Rattle.std.proofs.lemmas.Bool.{cases_lt}
use Rattle.byteorder.specs.Endian.{little_number}
use Rattle.gb_base.specs.Bytes.{AreBytes}
use Rattle.gb_base.proofs.LittleEndian.{little_bytes-number4}
use Rattle.gb_formats.specs.LoopbackRecords.{LoopbackAsk, LoopbackReply, carried}
use Rattle.gb_formats.specs.LoopbackRecords.{loopback_ask_kind, loopback_ask_payload, loopback_asks}
use Rattle.gb_formats.specs.LoopbackRecords.{loopback_replies, loopback_reply_kind}
use Rattle.gb_formats.specs.LoopbackRecords.{loopback_reply_payload, read_carried}
use Rattle.gb_formats.specs.LoopbackRecords.{read_loopback_ask, read_loopback_reply}
use Rattle.gb_formats.specs.Records.{PayloadFault, le32, read_table, row_of}
use Rattle.gb_payload.specs.Meaning.{Format}
use Rattle.gb_payload.proofs.Places.{IsSize, whole_is}
use Rattle.gb_payload.proofs.Tables.{AreSpelt, is_row, means_whole}
use Rattle.gb_bridge_payload.specs.Protocols as formats
use Rattle.gb_bridge_payload.specs.Views.{Pieces, pieces}
use Rattle.gb_bridge_payload.proofs.Numbers.{agree_front, agree_less, agree_zeros, four_bytes}
use Rattle.gb_bridge_payload.proofs.Numbers.{number_same}
use Rattle.gb_bridge_payload.proofs.Types.{MeansBy, by_table, by_type}

-- ---- a size that the first four bytes tell

abbrev carried_size : List ℕ → ℕ
carried_size bytes = 12 + little_number 4 bytes

carried_is_size : IsSize carried_size
carried_is_size = record {
  pads = λ bytes n. ap (λ (k : ℕ). 12 + k) (number_same 4 _ bytes (agree_zeros bytes n 4));
  front = λ bytes rest. ⊎_elim
      (λ short. inr (omega arith, omega arith))
      (λ long. inl (ap (λ (k : ℕ). 12 + k)
      (number_same 4 _ bytes (agree_less 4 (length bytes) _ bytes long (agree_front bytes rest)))))
      (cases_lt (length bytes) 4);
}

-- the record of a payload
abbrev made_of : {A : Type 0} → (ℕ → ℕ → List ℕ → A) → List ℕ → A
made_of made payload =
    made (little_number 4 (drop 4 payload)) (little_number 4 (drop 8 payload)) (drop 12 payload)

carried_spelt : (payload : List ℕ) → AreBytes payload → length payload ≡ carried_size payload
    → made_of carried payload ≡ payload
carried_spelt [] b h = absurd (omega arith)
carried_spelt (a ∷ []) b h = absurd (omega arith)
carried_spelt (a ∷ c ∷ []) b h = absurd (omega arith)
carried_spelt (a ∷ c ∷ d ∷ []) b h = absurd (omega arith)
carried_spelt (a ∷ c ∷ d ∷ e ∷ []) b h = absurd (omega arith)
carried_spelt (a ∷ c ∷ d ∷ e ∷ f ∷ []) b h = absurd (omega arith)
carried_spelt (a ∷ c ∷ d ∷ e ∷ f ∷ g ∷ []) b h = absurd (omega arith)
carried_spelt (a ∷ c ∷ d ∷ e ∷ f ∷ g ∷ i ∷ []) b h = absurd (omega arith)
carried_spelt (a ∷ c ∷ d ∷ e ∷ f ∷ g ∷ i ∷ j ∷ []) b h = absurd (omega arith)
carried_spelt (a ∷ c ∷ d ∷ e ∷ f ∷ g ∷ i ∷ j ∷ k ∷ []) b h = absurd (omega arith)
carried_spelt (a ∷ c ∷ d ∷ e ∷ f ∷ g ∷ i ∷ j ∷ k ∷ l ∷ []) b h = absurd (omega arith)
carried_spelt (a ∷ c ∷ d ∷ e ∷ f ∷ g ∷ i ∷ j ∷ k ∷ l ∷ m ∷ []) b h = absurd (omega arith)
carried_spelt (a ∷ c ∷ d ∷ e ∷ f ∷ g ∷ i ∷ j ∷ k ∷ l ∷ m ∷ n ∷ rest) b h =
    let size = little_number 4 (a ∷ c ∷ d ∷ e ∷ []) in
    let long : length rest ≡ size = omega arith in
    ap₂ (λ (xs ys : List ℕ). xs ++ (ys ++ (le32 (little_number 4 (k ∷ l ∷ m ∷ n ∷ [])) ++ rest)))
    (ap le32 long ∙ little_bytes-number4 a c d e (b 0) (b 1) (b 2) (b 3))
    (little_bytes-number4 f g i j (b 4) (b 5) (b 6) (b 7))
    ∙ ap (λ (xs : List ℕ). a ∷ c ∷ d ∷ e ∷ f ∷ g ∷ i ∷ j ∷ (xs ++ rest))
    (little_bytes-number4 k l m n (b 8) (b 9) (b 10) (b 11))

-- ---- requests

-- the row of PING
loopback_asks_spelt : AreSpelt loopback_ask_kind loopback_ask_payload loopback_asks
loopback_asks_spelt = search parts 40

loopback_asks_listed : (made : LoopbackAsk)
    → loopback_ask_kind made ≢ 3 → loopback_ask_kind made ≢ 4
    → row_of loopback_asks (loopback_ask_kind made) ≢ None
loopback_asks_listed LoopbackAsk.Ping other more = is_row _
loopback_asks_listed (LoopbackAsk.Transfer first second bytes) other more = absurd (other refl)
loopback_asks_listed (LoopbackAsk.Sink first second bytes) other more = absurd (more refl)

-- what reading a request means
pub loopback_ask_means : {B : Type 0} (view : B → LoopbackAsk) (kind : ℕ) (payload : List ℕ)
    → AreBytes payload
    → MeansBy formats.loopback_asks view kind payload (read_loopback_ask kind)
loopback_ask_means {B} view kind payload b =
    by_type formats.loopback_asks view kind payload 3 (read_carried LoopbackAsk.Transfer)
    (λ bytes. cond (eqb kind 4) (read_carried LoopbackAsk.Sink bytes)
    (read_table loopback_asks kind bytes))
    (λ is reads. means_whole formats.loopback_asks view kind carried_size
    (made_of LoopbackAsk.Transfer) payload carried_is_size reads (λ bytes. sym is)
    (carried_spelt payload b))
    (λ other. by_type formats.loopback_asks view kind payload 4 (read_carried LoopbackAsk.Sink)
    (read_table loopback_asks kind)
    (λ is reads. means_whole formats.loopback_asks view kind carried_size
    (made_of LoopbackAsk.Sink) payload carried_is_size reads (λ bytes. sym is)
    (carried_spelt payload b))
    (λ more. by_table formats.loopback_asks loopback_asks view kind payload loopback_asks_spelt
    (λ made h. loopback_asks_listed made (λ is. other (sym h ∙ is)) (λ is. more (sym h ∙ is))) b))

-- ---- responses

-- the rows but for TRANSFER
loopback_replies_spelt : AreSpelt loopback_reply_kind loopback_reply_payload loopback_replies
loopback_replies_spelt = search parts 40

loopback_replies_listed : (made : LoopbackReply) → loopback_reply_kind made ≢ 3
    → row_of loopback_replies (loopback_reply_kind made) ≢ None
loopback_replies_listed LoopbackReply.Ping other = is_row _
loopback_replies_listed (LoopbackReply.Transfer first second bytes) other = absurd (other refl)
loopback_replies_listed LoopbackReply.Sink other = is_row _

-- what reading a response means
pub loopback_reply_means : {B : Type 0} (view : B → LoopbackReply) (kind : ℕ) (payload : List ℕ)
    → AreBytes payload
    → MeansBy formats.loopback_replies view kind payload (read_loopback_reply kind)
loopback_reply_means {B} view kind payload b =
    by_type formats.loopback_replies view kind payload 3 (read_carried LoopbackReply.Transfer)
    (read_table loopback_replies kind)
    (λ is reads. means_whole formats.loopback_replies view kind carried_size
    (made_of LoopbackReply.Transfer) payload carried_is_size reads (λ bytes. sym is)
    (carried_spelt payload b))
    (λ other. by_table formats.loopback_replies loopback_replies view kind payload
    loopback_replies_spelt
    (λ made h. loopback_replies_listed made (λ is. other (sym h ∙ is))) b)

-- ---- writing

-- the format of the pieces alone
abbrev pub carried_pieces : Format Pieces
carried_pieces = record {
  read = λ kind. read_carried pieces;
  kind = λ p. 0;
  payload = λ p. carried p.0 p.1 p.2;
}

-- pieces are read again
pub carried_again : (first second : ℕ) (bytes : List ℕ)
    → first < 4294967296 → second < 4294967296 → length bytes < 4294967296
    → read_carried pieces (carried first second bytes) ≡ Ok (pieces first second bytes)
carried_again first second bytes h1 h2 h =
    let long : length (carried first second bytes) ≡ 12 + length bytes = omega arith in
    whole_is (12 + little_number 4 (le32 (length bytes))) (carried first second bytes)
    (pieces (little_number 4 (le32 first)) (little_number 4 (le32 second)) bytes)
    (long ∙ ap (λ (n : ℕ). 12 + n) (sym (four_bytes (length bytes) h)))
    ∙ ap₂ (λ (x y : ℕ). Ok (pieces x y bytes)) (four_bytes first h1) (four_bytes second h2)

-- one record of the pieces or another
made_ok : {A : Type 0} (made : ℕ → ℕ → List ℕ → A) (test : Bool) (p found : Pieces)
    (why : PayloadFault)
    → ◌≡◌ {A = Result Pieces PayloadFault} (cond test (Ok p) (Err why)) (Ok found)
    → ◌≡◌ {A = Result A PayloadFault} (cond test (Ok (made p.0 p.1 p.2)) (Err why))
    (Ok (made found.0 found.1 found.2))
made_ok made true p found why e = cc
made_ok made false p found why e = cc

-- pieces that are read are a record of them
pub carried_read : {A : Type 0} (made : ℕ → ℕ → List ℕ → A) (bytes : List ℕ) (found : Pieces)
    → read_carried pieces bytes ≡ Ok found
    → read_carried made bytes ≡ Ok (made found.0 found.1 found.2)
carried_read made bytes found e =
    made_ok made (eqb (length bytes) (12 + little_number 4 bytes))
    (pieces (little_number 4 (drop 4 bytes)) (little_number 4 (drop 8 bytes)) (drop 12 bytes))
    found _ e
