-- A message changes one slot, as it changes what is kept of the last requests.
use Rattle.std.proofs.Common.{◌≡◌, ℕ, ◌<◌, ◌==◌, ◌&&◌, Bool, true, false, not, cond, Option, Some}
use Rattle.std.proofs.Common.{None, List, [], ◌∷◌, ◌||◌, refl, sym, ap, ◌∙◌, option_map, arith}
use Rattle.std.specs.Bool.{beq}
use Rattle.std.specs.List.{find, list_any}
use Rattle.std.proofs.lemmas.Bool.Decides.{nat_tests}
use Rattle.std.proofs.Math.Bool.{or_comm}
use Rattle.gb_capture.specs.Audits.{asked_of, last_of}
use Rattle.gb_capture.specs.Tables.{Changes, answered_by, is_slot}
use Rattle.gb_capture.specs.declared.table.Asked.{Asked}
use Rattle.gb_formats.specs.Audit.{answered_type, is_answer_to, is_request_of}
use Rattle.gb_formats.specs.Audit.{is_response, since}
use Rattle.gb_formats.specs.Captures.{Heard}
use Rattle.gb_capture.proofs.Last.{answers, both, heard_by, id-is, last-more, last-same}
use Rattle.gb_capture.proofs.Last.{same-id, same-way, way-is}

-- ---- tests

other-id : (m n : ℕ) → (m == n) ≡ false → (n == m) ≡ false
other-id m n e = grind (arith, nat_tests)

not-zero : (m n : ℕ) → m ≡ 0 → (n == 0) ≡ false → (m == n) ≡ false
not-zero m n z e = grind (arith, nat_tests)

no-last : (a b : Bool) → (a && false && b) ≡ false
no-last true b = refl
no-last false b = refl

no-end : (a : Bool) → (a && false) ≡ false
no-end true = refl
no-end false = refl

-- a response answers none but the request of the other direction with its identifier
answers-other : (f way : Bool) (id v : ℕ) (r t : Bool) → (beq way (not f) && v == id) ≡ false
    → (beq f (not way) && r && id == v && t) ≡ false
answers-other true true id v r t e = refl
answers-other true false id v r t e = ap (λ b. r && b && t) (other-id v id e) ∙ no-last r t
answers-other false true id v r t e = ap (λ b. r && b && t) (other-id v id e) ∙ no-last r t
answers-other false false id v r t e = refl

request-other : (f way : Bool) (id v : ℕ) (r : Bool) → (beq way f && v == id) ≡ false
    → (beq f way && r && id == v) ≡ false
request-other true true id v r e = ap (λ b. r && b) (other-id v id e) ∙ no-end r
request-other true false id v r e = refl
request-other false true id v r e = refl
request-other false false id v r e = ap (λ b. r && b) (other-id v id e) ∙ no-end r

-- a response is no request
no-request : (m : Heard) (way : Bool) (id : ℕ) → is_response m.message ≡ true
    → is_request_of way id m ≡ false
no-request m way id is =
    ap (λ r. beq m.from_ap way && not r && m.message.id == id) is
    ∙ no-last (beq m.from_ap way) (m.message.id == id)

-- and a request no response
no-answer : (m : Heard) (way : Bool) (id : ℕ) → is_response m.message ≡ false → (kind : ℕ)
    → answers m way id kind ≡ false
no-answer m way id is kind =
    ap (λ r. beq m.from_ap (not way) && r && m.message.id == id && answered_type m.message == kind)
    is
    ∙ ap (λ b. b && answered_type m.message == kind)
    (no-last (beq m.from_ap (not way)) (m.message.id == id))

-- ---- one slot

twice : (f : Bool) → beq f (not (not f)) ≡ true
twice true = refl
twice false = refl

-- a response answers the request of the other direction with its identifier, if the types are one
own-answer : (m : Heard) → is_response m.message ≡ true → (kind : ℕ)
    → answers m (not m.from_ap) m.message.id kind ≡ (answered_type m.message == kind)
own-answer m is kind =
    ap (λ b. b && is_response m.message && m.message.id == m.message.id
    && answered_type m.message == kind)
    (twice m.from_ap)
    ∙ ap (λ b. b && m.message.id == m.message.id && answered_type m.message == kind) is
    ∙ ap (λ b. b && answered_type m.message == kind) (id-is m.message.id)

own-slot : (m : Heard) → is_response m.message ≡ true → (o : Option Asked)
    → option_map (heard_by m (not m.from_ap) m.message.id) o
    ≡ answered_by (answered_type m.message) o
own-slot m is None = refl
own-slot m is (Some a) =
    ap (λ b. Some (record { line = a.line; kind = a.kind; answered = b }))
    (ap (λ b. b || a.answered) (own-answer m is a.kind)
    ∙ or_comm (answered_type m.message == a.kind) a.answered)

pub response-changes : (m : Heard) (past : List Heard) → is_response m.message ≡ true
    → Changes (last_of past) (last_of (m ∷ past)) (not m.from_ap) m.message.id
    (answered_by (answered_type m.message) (last_of past (not m.from_ap) m.message.id))
response-changes m past is = record {
  here =
      last-more m past (not m.from_ap) m.message.id
      (no-request m (not m.from_ap) m.message.id is)
      ∙ own-slot m is (last_of past (not m.from_ap) m.message.id);
  others = λ way v other.
      last-same m past way v (no-request m way v is)
      (λ kind. answers-other m.from_ap way m.message.id v (is_response m.message)
      (answered_type m.message == kind) other);
}

-- the request itself
own-request : (m : Heard) → is_response m.message ≡ false
    → is_request_of m.from_ap m.message.id m ≡ true
own-request m is =
    ap (λ b. b && not (is_response m.message) && m.message.id == m.message.id) (way-is m.from_ap)
    ∙ ap (λ r. not r && m.message.id == m.message.id) is ∙ id-is m.message.id

request-here : (m : Heard) (past : List Heard) → is_response m.message ≡ false
    → (m.message.id == 0) ≡ false
    → last_of (m ∷ past) m.from_ap m.message.id
    ≡ Some (record { line = m.line; kind = m.message.kind; answered = false })
request-here m past is some =
    ap (λ b. cond b None
    (option_map (asked_of (m ∷ past))
    (find (is_request_of m.from_ap m.message.id) (m ∷ past))))
    some
    ∙ ap (λ b. option_map (asked_of (m ∷ past))
    (cond b (Some m) (find (is_request_of m.from_ap m.message.id) past))) (own-request m is)
    ∙ ap (λ b. Some (record {
      line = m.line;
      kind = m.message.kind;
      answered = list_any (is_answer_to m)
          (cond b [] (m ∷ since (is_request_of m.from_ap m.message.id) past));
    })) (own-request m is)

pub request-changes : (m : Heard) (past : List Heard) → is_response m.message ≡ false
    → (m.message.id == 0) ≡ false
    → Changes (last_of past) (last_of (m ∷ past)) m.from_ap m.message.id
    (Some (record { line = m.line; kind = m.message.kind; answered = false }))
request-changes m past is some = record {
  here = request-here m past is some;
  others = λ way v other.
      last-same m past way v
      (request-other m.from_ap way m.message.id v (not (is_response m.message)) other)
      (no-answer m way v is);
}

-- a request with identifier 0 changes nothing
pub nothing-changes : (m : Heard) (past : List Heard) → is_response m.message ≡ false
    → m.message.id ≡ 0 → (way : Bool) (v : ℕ) → last_of (m ∷ past) way v ≡ last_of past way v
nothing-changes m past is zero way v = by (v == 0) refl
  where
    by : (b : Bool) → (v == 0) ≡ b → last_of (m ∷ past) way v ≡ last_of past way v
    by true none =
        ap (λ b. cond b None
        (option_map (asked_of (m ∷ past)) (find (is_request_of way v) (m ∷ past))))
        none
        ∙ sym (ap (λ b. cond b None
        (option_map (asked_of past) (find (is_request_of way v) past))) none)
    by false some =
        last-same m past way v
        (ap (λ b. beq m.from_ap way && not (is_response m.message) && b)
        (not-zero m.message.id v zero some)
        ∙ no-end (beq m.from_ap way && not (is_response m.message)))
        (no-answer m way v is)

-- ---- the slots of the code

-- slots that change in the same way stay the same
pub changes-agree : (old new before after : Bool → ℕ → Option Asked) (f : Bool) (id : ℕ)
    (slot kept : Option Asked) → Changes old new f id slot → Changes before after f id kept
    → slot ≡ kept → ((way : Bool) (v : ℕ) → v < 65536 → old way v ≡ before way v)
    → (way : Bool) (v : ℕ) → v < 65536 → new way v ≡ after way v
changes-agree old new before after f id slot kept code spec same agree way v less =
    by (is_slot f id way v) refl
  where
    by : (b : Bool) → is_slot f id way v ≡ b → new way v ≡ after way v
    by true is =
        let h = both (beq way f) (v == id) is in
        let w = same-way way f h.0 in
        let i = same-id v id h.1 in
        ap (λ x. new x v) w ∙ ap (new f) i ∙ code.here ∙ same ∙ sym spec.here
        ∙ sym (ap (after f) i) ∙ sym (ap (λ x. after x v) w)
    by false other =
        code.others way v other ∙ agree way v less ∙ sym (spec.others way v other)
