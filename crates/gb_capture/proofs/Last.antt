-- What is kept of the last requests, where one message comes more.
use Rattle.std.proofs.Common.{◌≡◌, ℕ, ◌==◌, ◌&&◌, ◌||◌, Bool, true, false, not, cond, Option}
use Rattle.std.proofs.Common.{Some, None, List, [], ◌∷◌, refl, ap, ◌∙◌, option_map, arith}
use Rattle.std.specs.Bool.{beq}
use Rattle.std.specs.List.{find, list_any}
use Rattle.std.proofs.lemmas.Bool.Decides.{nat_tests}
use Rattle.gb_base.specs.declared.audit.Finding.{Finding}
use Rattle.gb_capture.specs.Audits.{asked_of, last_of}
use Rattle.gb_capture.specs.Tables.{request_by, response_by}
use Rattle.gb_capture.specs.declared.table.Asked.{Asked}
use Rattle.gb_formats.specs.Audit.{answered_type, finding_of, has_id}
use Rattle.gb_formats.specs.Audit.{is_answer_to, is_answered, is_request_of, is_response}
use Rattle.gb_formats.specs.Audit.{request_finding, response_finding, since}
use Rattle.gb_formats.specs.Captures.{Heard}

-- ---- tests

pub same-way : (a b : Bool) → beq a b ≡ true → a ≡ b
same-way true true e = refl
same-way true false e = absurd (cc e)
same-way false true e = absurd (cc e)
same-way false false e = refl

pub way-is : (a : Bool) → beq a a ≡ true
way-is true = refl
way-is false = refl

pub same-id : (m n : ℕ) → (m == n) ≡ true → m ≡ n
same-id m n e = grind (arith, nat_tests)

pub id-is : (n : ℕ) → (n == n) ≡ true
id-is n = grind (arith, nat_tests)

-- both of two tests
pub both : (a b : Bool) → (a && b) ≡ true → (a ≡ true) × (b ≡ true)
both true b e = (refl, e)
both false b e = absurd (cc e)

-- ---- what is found of a message, by what is kept

response-kept : (past : List Heard) (m : Heard) (none : Bool) (o : Option Heard)
    → response_finding past m (cond (not none) o None)
    ≡ response_by (answered_type m.message) (cond none None (option_map (asked_of past) o))
response-kept past m true o = refl
response-kept past m false None = refl
response-kept past m false (Some q) = refl

request-kept : (past : List Heard) (none : Bool) (o : Option Heard)
    → request_finding past (cond (not none) o None)
    ≡ request_by (cond none None (option_map (asked_of past) o))
request-kept past true o = refl
request-kept past false None = refl
request-kept past false (Some q) = refl

-- what is found, where it is known whether a message is a response
abbrev finding_if : Bool → List Heard → Heard → Option Finding
finding_if response past m =
    let way = cond response (not m.from_ap) m.from_ap in
    let q = cond (has_id m.message) (find (is_request_of way m.message.id) past) None in
    cond response (response_finding past m q) (request_finding past q)

pub response-found : (past : List Heard) (m : Heard) → is_response m.message ≡ true
    → finding_of past m
    ≡ response_by (answered_type m.message) (last_of past (not m.from_ap) m.message.id)
response-found past m is =
    ap (λ response. finding_if response past m) is
    ∙ response-kept past m (m.message.id == 0)
    (find (is_request_of (not m.from_ap) m.message.id) past)

pub request-found : (past : List Heard) (m : Heard) → is_response m.message ≡ false
    → finding_of past m ≡ request_by (last_of past m.from_ap m.message.id)
request-found past m is =
    ap (λ response. finding_if response past m) is
    ∙ request-kept past (m.message.id == 0) (find (is_request_of m.from_ap m.message.id) past)

-- ---- what is kept, where one message comes more

pub find-passes : (test : Heard → Bool) (past : List Heard) (q : Heard) → find test past ≡ Some q
    → test q ≡ true
find-passes test [] q e = absurd (cc e)
find-passes test (x ∷ past) q e = by (test x) refl e (find-passes test past q)
  where
    by : (b : Bool) → test x ≡ b → cond b (Some x) (find test past) ≡ Some q
        → (find test past ≡ Some q → test q ≡ true) → test q ≡ true
    by true h e later = cc (h, e)
    by false h e later = later e

-- what a request of this direction with this identifier shows
pub shows : (from_ap : Bool) (id : ℕ) (q : Heard) → is_request_of from_ap id q ≡ true
    → (q.from_ap ≡ from_ap) × (is_response q.message ≡ false) × (q.message.id ≡ id)
shows from_ap id q e =
    let outer = both (beq q.from_ap from_ap && not (is_response q.message)) (q.message.id == id) e
    in
    let inner = both (beq q.from_ap from_ap) (not (is_response q.message)) outer.0 in (
      same-way q.from_ap from_ap inner.0,
      by (is_response q.message) inner.1,
      same-id q.message.id id outer.1,
    )
  where
    by : (b : Bool) → not b ≡ true → b ≡ false
    by true e = absurd (cc e)
    by false e = refl

-- a response answers the request of this direction with this identifier and type
abbrev pub answers : Heard → Bool → ℕ → ℕ → Bool
answers m from_ap id kind =
    beq m.from_ap (not from_ap) && is_response m.message && m.message.id == id
    && answered_type m.message == kind

-- what is kept of an earlier request, where a message comes that is no request like it
abbrev pub heard_by : Heard → Bool → ℕ → Asked → Asked
heard_by m from_ap id a = record {
  line = a.line;
  kind = a.kind;
  answered = answers m from_ap id a.kind || a.answered;
}

answered-more : (m q : Heard) (past : List Heard) (from_ap : Bool) (id : ℕ)
    → q.from_ap ≡ from_ap → q.message.id ≡ id → is_request_of from_ap id m ≡ false
    → is_answered (m ∷ past) q ≡ (answers m from_ap id q.message.kind || is_answered past q)
answered-more m q past from_ap id way same isnt =
    ap (λ b. list_any (is_answer_to q)
    (cond b [] (m ∷ since (is_request_of q.from_ap q.message.id) past)))
    (ap (λ w. is_request_of w q.message.id m) way ∙ ap (λ i. is_request_of from_ap i m) same ∙ isnt)
    ∙ ap (λ w. (beq m.from_ap (not w) && is_response m.message && m.message.id == q.message.id
    && answered_type m.message == q.message.kind) || is_answered past q) way
    ∙ ap (λ i. (beq m.from_ap (not from_ap) && is_response m.message && m.message.id == i
    && answered_type m.message == q.message.kind) || is_answered past q) same

kept-more : (m : Heard) (past : List Heard) (from_ap : Bool) (id : ℕ)
    → is_request_of from_ap id m ≡ false → (o : Option Heard)
    → ((q : Heard) → o ≡ Some q → is_request_of from_ap id q ≡ true)
    → option_map (asked_of (m ∷ past)) o
    ≡ option_map (heard_by m from_ap id) (option_map (asked_of past) o)
kept-more m past from_ap id isnt None is = refl
kept-more m past from_ap id isnt (Some q) is =
    let h = shows from_ap id q (is q refl) in
    ap (λ b. Some (record { line = q.line; kind = q.message.kind; answered = b }))
    (answered-more m q past from_ap id h.0 h.2 isnt)

unless-none : (none : Bool) (f : Asked → Asked) (o : Option Asked)
    → cond none None (option_map f o) ≡ option_map f (cond none None o)
unless-none true f o = refl
unless-none false f o = refl

-- a message that is no request of this direction with this identifier
pub last-more : (m : Heard) (past : List Heard) (from_ap : Bool) (id : ℕ)
    → is_request_of from_ap id m ≡ false
    → last_of (m ∷ past) from_ap id ≡ option_map (heard_by m from_ap id) (last_of past from_ap id)
last-more m past from_ap id isnt =
    ap (λ b. cond (id == 0) None
    (option_map (asked_of (m ∷ past)) (cond b (Some m) (find (is_request_of from_ap id) past))))
    isnt
    ∙ ap (cond (id == 0) None)
    (kept-more m past from_ap id isnt (find (is_request_of from_ap id) past)
    (λ q e. find-passes (is_request_of from_ap id) past q e))
    ∙ unless-none (id == 0) (heard_by m from_ap id)
    (option_map (asked_of past) (find (is_request_of from_ap id) past))

unanswered : (m : Heard) (from_ap : Bool) (id : ℕ)
    → ((kind : ℕ) → answers m from_ap id kind ≡ false) → (o : Option Asked)
    → option_map (heard_by m from_ap id) o ≡ o
unanswered m from_ap id isnt None = refl
unanswered m from_ap id isnt (Some a) =
    ap (λ b. Some (record { line = a.line; kind = a.kind; answered = b || a.answered }))
    (isnt a.kind)

-- and no response to one either
pub last-same : (m : Heard) (past : List Heard) (from_ap : Bool) (id : ℕ)
    → is_request_of from_ap id m ≡ false → ((kind : ℕ) → answers m from_ap id kind ≡ false)
    → last_of (m ∷ past) from_ap id ≡ last_of past from_ap id
last-same m past from_ap id isnt none =
    last-more m past from_ap id isnt ∙ unanswered m from_ap id none (last_of past from_ap id)
