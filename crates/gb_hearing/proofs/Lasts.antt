-- The last request of each way with each identifier, and what is found of a message by that.
use Rattle.std.proofs.Common.{◌≡◌, ℕ, ◌==◌, ◌&&◌, ◌||◌, Bool, true, false, not, cond}
use Rattle.std.proofs.Common.{Option, Some, None, List, [], ◌∷◌, refl, ap, ◌∙◌, option_map}
use Rattle.std.proofs.Common.{map}
use Rattle.std.specs.Bool.{beq}
use Rattle.std.specs.List.{find, list_any}
use Rattle.gb_formats.specs.Audit.{answered_type, is_answer_to}
use Rattle.gb_formats.specs.Audit.{is_answered, is_request_of, is_response}
use Rattle.gb_formats.specs.Audit.{since}
use Rattle.gb_formats.specs.Captures.{Heard}
use Rattle.gb_hearing.specs.Hearing.{Spoken}
use Rattle.gb_invariants.proofs.Lists.{found-in}
use Rattle.gb_invariants.proofs.Outcomes.{both-true, same-number}

-- ---- the last requests

-- what is kept of a request: its type, and whether it is answered
abbrev pub Last : Type 0
Last = ℕ × Bool

-- a message is a request of this way with this identifier
abbrev pub asks : Bool → ℕ → Spoken → Bool
asks way v x = beq x.0 way && not (is_response x.1) && x.1.id == v

-- a message is a response to a request of this way with this identifier and type
abbrev pub answers : Bool → ℕ → ℕ → Spoken → Bool
answers way v kind x =
    beq x.0 (not way) && is_response x.1 && x.1.id == v && answered_type x.1 == kind

-- what is kept of an earlier request, where a message comes
abbrev pub answered_more : Bool → ℕ → Spoken → Last → Last
answered_more way v x l = (l.0, answers way v l.0 x || l.1)

abbrev pub more : Bool → ℕ → Spoken → Option Last → Option Last
more way v x o =
    cond (asks way v x) (Some (x.1.kind, false)) (option_map (answered_more way v x) o)

-- The last request of a way with an identifier, the messages that came standing with
-- the newest first.
abbrev pub last : Bool → ℕ → List Spoken → Option Last
last way v [] = None
last way v (x ∷ past) = more way v x (last way v past)

-- a message of a capture without its line
abbrev pub spoken : Heard → Spoken
spoken m = (m.from_ap, m.message)

-- ---- tests

same-way : (a b : Bool) → beq a b ≡ true → a ≡ b
same-way true true e = refl
same-way true false e = absurd (cc e)
same-way false true e = absurd (cc e)
same-way false false e = refl

-- what a request of this way with this identifier shows
record Shows (way : Bool) (v : ℕ) (q : Heard) : Type 0 where
  from_ap : q.from_ap ≡ way
  id : q.message.id ≡ v

shows : (way : Bool) (v : ℕ) (q : Heard) → is_request_of way v q ≡ true → Shows way v q
shows way v q e =
    let outer = both-true (beq q.from_ap way && not (is_response q.message)) (q.message.id == v)
    e in
    let inner = both-true (beq q.from_ap way) (not (is_response q.message)) outer.0 in
    record {
      from_ap = same-way q.from_ap way inner.0;
      id = same-number q.message.id v outer.1;
    }

-- ---- what is kept is what stands in the whole list

-- what is kept of a request
abbrev pub last_of : List Heard → Heard → Last
last_of past q = (q.message.kind, is_answered past q)

answered-more : (m q : Heard) (past : List Heard) (way : Bool) (v : ℕ) → Shows way v q
    → is_request_of way v m ≡ false
    → is_answered (m ∷ past) q ≡ (answers way v q.message.kind (spoken m) || is_answered past q)
answered-more m q past way v h isnt =
    ap (λ b. list_any (is_answer_to q)
    (cond b [] (m ∷ since (is_request_of q.from_ap q.message.id) past)))
    (ap (λ w. is_request_of w q.message.id m) h.from_ap ∙ ap (λ i. is_request_of way i m) h.id
    ∙ isnt)
    ∙ ap (λ w. (beq m.from_ap (not w) && is_response m.message && m.message.id == q.message.id
    && answered_type m.message == q.message.kind) || is_answered past q) h.from_ap
    ∙ ap (λ i. (beq m.from_ap (not way) && is_response m.message && m.message.id == i
    && answered_type m.message == q.message.kind) || is_answered past q) h.id

-- the newest request of the way and the identifier isn't answered yet
newest : (m : Heard) (past : List Heard) (way : Bool) (v : ℕ) → is_request_of way v m ≡ true
    → is_answered (m ∷ past) m ≡ false
newest m past way v is =
    let h = shows way v m is in
    ap (λ b. list_any (is_answer_to m)
    (cond b [] (m ∷ since (is_request_of m.from_ap m.message.id) past)))
    (ap (λ w. is_request_of w m.message.id m) h.from_ap ∙ ap (λ i. is_request_of way i m) h.id ∙ is)

pub last-is : (way : Bool) (v : ℕ) (past : List Heard)
    → option_map (last_of past) (find (is_request_of way v) past) ≡ last way v (map spoken past)
last-is way v [] = refl
last-is way v (m ∷ past) = by (is_request_of way v m) refl (last-is way v past)
  where
    kept : (o : Option Heard) → ((q : Heard) → o ≡ Some q → is_request_of way v q ≡ true)
        → is_request_of way v m ≡ false
        → option_map (last_of (m ∷ past)) o
        ≡ option_map (answered_more way v (spoken m)) (option_map (last_of past) o)
    kept None is isnt = refl
    kept (Some q) is isnt =
        ap (λ b. Some (q.message.kind, b))
        (answered-more m q past way v (shows way v q (is q refl)) isnt)

    by : (b : Bool) → is_request_of way v m ≡ b
        → option_map (last_of past) (find (is_request_of way v) past) ≡ last way v (map spoken past)
        → option_map (last_of (m ∷ past)) (cond b (Some m) (find (is_request_of way v) past))
        ≡ cond b (Some (m.message.kind, false))
        (option_map (answered_more way v (spoken m)) (last way v (map spoken past)))
    by true e later = ap (λ b. Some (m.message.kind, b)) (newest m past way v e)
    by false e later =
        kept (find (is_request_of way v) past)
        (λ q f. (found-in (is_request_of way v) past q f).1) e
        ∙ ap (option_map (answered_more way v (spoken m))) later
