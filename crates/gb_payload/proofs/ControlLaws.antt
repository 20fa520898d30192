-- The tables of the Control protocol have its records.
use Rattle.std.proofs.Common.{◌≡◌, ◌≢◌, ℕ, Bool, true, false, cond, eqb, Result, Ok, Err, None}
use Rattle.std.proofs.Common.{List, refl, rules, arith, sym, ap, subst, ◌∙◌}
use Rattle.std.proofs.lemmas.Bool.Decides.{nat_tests}
use Rattle.gb_base.specs.Bytes.{AreBytes}
use Rattle.gb_formats.specs.ControlRecords.{ControlAsk, control_asks, control_ask_kind}
use Rattle.gb_formats.specs.ControlRecords.{control_ask_payload, ControlReply, control_replies}
use Rattle.gb_formats.specs.ControlRecords.{control_reply_kind, control_reply_payload}
use Rattle.gb_formats.specs.ControlRecords.{read_control_reply}
use Rattle.gb_formats.specs.Records.{read_table, row_of}
use Rattle.gb_payload.specs.Answers.{Answers}
use Rattle.gb_payload.specs.Meaning.{Means}
use Rattle.gb_payload.specs.Protocols as formats
use Rattle.gb_payload.specs.declared.payload_fault.PayloadFault.{PayloadFault}
use Rattle.gb_payload.proofs.Places.{same_record}
use Rattle.gb_payload.proofs.Tables.{AreSpelt, is_row, means_by_table}

-- the rows of requests
pub control_asks_spelt : AreSpelt control_ask_kind control_ask_payload control_asks
control_asks_spelt = search parts 40

-- each of them has a row
pub control_asks_listed : (made : ControlAsk) → row_of control_asks (control_ask_kind made) ≢ None
control_asks_listed (ControlAsk.Version major minor) = is_row _
control_asks_listed _ = is_row _

-- the rows of responses
pub control_replies_spelt : AreSpelt control_reply_kind control_reply_payload control_replies
control_replies_spelt = search rules

-- each of them has a row
pub control_replies_listed : (made : ControlReply)
    → control_reply_kind made ≢ 4 → row_of control_replies (control_reply_kind made) ≢ None
control_replies_listed (ControlReply.GetManifest bytes) other = absurd (other refl)
control_replies_listed _ other = is_row _

-- what reading a response means: that of GET_MANIFEST is the manifest
pub control_reply_means : {B : Type 0} (view : B → ControlReply) (kind : ℕ) (payload : List ℕ)
    → AreBytes payload → (answer : Result B PayloadFault)
    → Answers view (read_control_reply kind payload) answer
    → Means formats.control_replies view kind payload answer
control_reply_means {B} view kind payload b answer e = by_kind (eqb kind 4) refl where
  manifest : kind ≡ 4 → (answer : Result B PayloadFault)
      → Answers view (Ok (ControlReply.GetManifest payload)) answer
      → Means formats.control_replies view kind payload answer
  manifest is (Ok value) e =
      let got = same_record (ControlReply.GetManifest payload) (view value) e in
      (ap control_reply_kind (sym got) ∙ sym is, ap control_reply_payload (sym got))
  manifest is (Err why) e = cc

  by_kind : (test : Bool)
      → eqb kind 4 ≡ test → Means formats.control_replies view kind payload answer
  by_kind true t =
      manifest (grind (arith, nat_tests)) answer
      (subst (λ (test : Bool). Answers view
      (cond test (Ok (ControlReply.GetManifest payload)) (read_table control_replies kind payload))
      answer) t e)
  by_kind false t =
      means_by_table formats.control_replies control_replies view kind payload
      (λ bytes. ap (λ (test : Bool).
      cond test (Ok (ControlReply.GetManifest bytes)) (read_table control_replies kind bytes)) t)
      control_replies_spelt
      (λ made h.
      control_replies_listed made (λ is. let other = t in let same = h in grind (arith, nat_tests)))
      b answer e
