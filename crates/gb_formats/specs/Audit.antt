-- The audit of a capture: which messages break the pairing of requests and responses.
use Rattle.std.specs.Prelude.{ℕ, ◌%◌, ◌==◌, nat_le, Bool, not, ◌&&◌, if◌then◌else◌}
use Rattle.std.specs.Prelude.{Option, Some, None, List, [], ◌∷◌, length}
use Rattle.std.specs.Bool.{beq}
use Rattle.std.specs.List.{cons_option, filter, find, list_any}
use Rattle.gb_base.specs.declared.audit.Finding.{Finding}
use Rattle.gb_base.specs.declared.audit.Finding.TheVariants as finding
use Rattle.gb_base.specs.declared.audit.Verdict.{Verdict}
use Rattle.gb_formats.specs.Captures.{Heard}
use Rattle.gb_formats.specs.Message.{Message}

-- In all of these `past` are the messages before one, the last of them first.

-- ---- single messages

-- a type from 80 on is that of a response
abbrev pub is_response : Message → Bool
is_response m = nat_le 128 m.kind

-- the type of the request that a response answers: its low seven bits
abbrev pub answered_type : Message → ℕ
answered_type m = m.kind % 128

-- identifier 0 is that of a request that gets no response
abbrev pub has_id : Message → Bool
has_id m = not (m.id == 0)

-- a request of this way with this identifier
abbrev pub is_request_of : Bool → ℕ → Heard → Bool
is_request_of from_ap id m =
    beq m.from_ap from_ap && not (is_response m.message) && m.message.id == id

-- a response to this request, whose type it repeats: it goes the other way and has its identifier
abbrev pub is_answer_to : Heard → Heard → Bool
is_answer_to q m =
    beq m.from_ap (not q.from_ap) && is_response m.message && m.message.id == q.message.id
    && answered_type m.message == q.message.kind

-- ---- a message and those before it

-- the way of the request that a message speaks of: that of a response went the other way
abbrev pub asking_way : Heard → Bool
asking_way m = if is_response m.message then not m.from_ap else m.from_ap

-- The request that a message speaks of: the last one before it of that way with its identifier.
-- No message speaks of a request with identifier 0.
abbrev pub asked : List Heard → Heard → Option Heard
asked past m =
    if has_id m.message then find (is_request_of (asking_way m) m.message.id) past else None

-- the messages behind the last one that passes the test
abbrev pub since : (Heard → Bool) → List Heard → List Heard
since test [] = []
since test (m ∷ past) = let later = since test past in if test m then [] else m ∷ later

-- A request is answered where a response to it stands behind it. It is the last of its way
-- with its identifier.
abbrev pub is_answered : List Heard → Heard → Bool
is_answered past q =
    list_any (is_answer_to q) (since (is_request_of q.from_ap q.message.id) past)

-- what is found of a response, by the request that it speaks of
abbrev pub response_finding : List Heard → Heard → Option Heard → Option Finding
response_finding past m None = Some finding.Orphan
response_finding past m (Some q) =
    if is_answered past q then Some (finding.Double q.line)
    else if answered_type m.message == q.message.kind then None
    else Some (finding.OtherType q.line)

-- what is found of a request, by the earlier one that it speaks of
abbrev pub request_finding : List Heard → Option Heard → Option Finding
request_finding past None = None
request_finding past (Some q) = if is_answered past q then None else Some (finding.Reused q.line)

-- What is found of a message.
abbrev pub finding_of : List Heard → Heard → Option Finding
finding_of past m =
    if is_response m.message then response_finding past m (asked past m)
    else request_finding past (asked past m)

-- a request and its response
abbrev pub Pair : Type 0
Pair = Heard × Heard

-- a response and the request that it speaks of
abbrev pub with_asked : Heard → Option Heard → Option Pair
with_asked m None = None
with_asked m (Some q) = Some (q, m)

-- a message that nothing is found of
abbrev pub unless_found : Option Finding → Option Pair → Option Pair
unless_found None pair = pair
unless_found (Some found) pair = None

-- A response of which nothing is found is a pair with the request that it speaks of.
abbrev pub pair_of : List Heard → Heard → Option Pair
pair_of past m =
    if is_response m.message
    then unless_found (finding_of past m) (with_asked m (asked past m))
    else None

-- ---- all messages

-- what a rule gives of each message by those before it, in order
abbrev pub each_after : {A : Type 0} → (List Heard → Heard → Option A) → List Heard → List Heard
    → List A
each_after rule past [] = []
each_after rule past (m ∷ ms) = cons_option (rule past m) (each_after rule (m ∷ past) ms)

-- a finding and the line of its message
abbrev pub Found : Type 0
Found = ℕ × Finding

-- a finding at a line
abbrev pub at_line : ℕ → Option Finding → Option Found
at_line line None = None
at_line line (Some found) = Some (line, found)

-- what is found of a message, with its line
abbrev pub found_of : List Heard → Heard → Option Found
found_of past m = at_line m.line (finding_of past m)

-- The findings of a capture, in order.
abbrev pub findings : List Heard → List Found
findings ms = each_after found_of [] ms

-- The pairs of a capture, in the order of their responses.
abbrev pub pairs : List Heard → List Pair
pairs ms = each_after pair_of [] ms

-- the request of a pair stands on this line
abbrev pub asks_at : ℕ → Pair → Bool
asks_at line pair = pair.0.line == line

-- a request with an identifier that is in no pair
abbrev pub is_unpaired : List Pair → Heard → Bool
is_unpaired ps m =
    not (is_response m.message) && has_id m.message && not (list_any (asks_at m.line) ps)

-- The requests with an identifier that are in no pair.
abbrev pub unpaired : List Heard → List Heard
unpaired ms = filter (is_unpaired (pairs ms)) ms

-- How many messages break the pairing, how many pairs there are, and how many requests with an
-- identifier are in none.
abbrev pub verdict : List Heard → Verdict
verdict ms = record {
  faults = length (findings ms);
  pairs = length (pairs ms);
  unpaired = length (unpaired ms);
}
