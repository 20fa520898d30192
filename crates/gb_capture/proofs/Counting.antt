-- What is counted of messages, where one message comes more.
use Rattle.std.proofs.Common.{◌≡◌, ℕ, ◌+◌, ◌&&◌, Bool, true, false, not, cond}
use Rattle.std.proofs.Common.{Option, Some, None, List, ◌∷◌, length, reverse, is_some}
use Rattle.std.proofs.Common.{refl, sym, ap, ◌∙◌, arith}
use Rattle.std.specs.Prelude.{is_none}
use Rattle.std.specs.List.{filter}
use Rattle.gb_base.specs.declared.audit.Finding.{Finding}
use Rattle.gb_capture.specs.Audits.{is_asking, one_if}
use Rattle.gb_formats.specs.Audit.{asked, at_line, finding_of, found_of}
use Rattle.gb_formats.specs.Audit.{findings, is_response, Pair, pair_of, pairs}
use Rattle.gb_formats.specs.Audit.{request_finding, response_finding, unless_found, with_asked}
use Rattle.gb_formats.specs.Captures.{Heard}
use Rattle.gb_capture.proofs.Rules.{count-last}

-- ---- one message more

found-some : (line : ℕ) (o : Option Finding) → is_some (at_line line o) ≡ is_some o
found-some line None = refl
found-some line (Some found) = refl

pub counts-finding : (past : List Heard) (m : Heard)
    → is_some (found_of past m) ≡ is_some (finding_of past m)
counts-finding past m = found-some m.line (finding_of past m)

unless-some : (found : Option Finding) (pair : Pair)
    → is_some (unless_found found (Some pair)) ≡ is_none found
unless-some None pair = refl
unless-some (Some found) pair = refl

response-pair : (past : List Heard) (m : Heard) (q : Option Heard)
    → is_some (unless_found (response_finding past m q) (with_asked m q))
    ≡ is_none (response_finding past m q)
response-pair past m None = refl
response-pair past m (Some q) = unless-some (response_finding past m (Some q)) (q, m)

-- a message that is a response or not makes a pair, or none
pair-if : (past : List Heard) (m : Heard) (q : Option Heard) (response : Bool)
    → is_some (cond response
    (unless_found (cond response (response_finding past m q) (request_finding past q))
    (with_asked m q)) None)
    ≡ (response && is_none (cond response (response_finding past m q) (request_finding past q)))
pair-if past m q true = response-pair past m q
pair-if past m q false = refl

pub counts-pair : (past : List Heard) (m : Heard)
    → is_some (pair_of past m) ≡ (is_response m.message && is_none (finding_of past m))
counts-pair past m = pair-if past m (asked past m) (is_response m.message)

pub counts-asking : (past : List Heard) (m : Heard)
    → length (filter is_asking (m ∷ past)) ≡ length (filter is_asking past) + one_if (is_asking m)
counts-asking past m = by (is_asking m)
  where
    by : (b : Bool) → length (cond b (m ∷ filter is_asking past) (filter is_asking past))
        ≡ length (filter is_asking past) + one_if b
    by true = omega arith
    by false = omega arith

-- ---- the counts of an audit

pub findings-more : (past : List Heard) (m : Heard) (count add : ℕ) (found : Option Finding)
    (b : Bool)
    → count ≡ length (findings (reverse past)) → found ≡ finding_of past m → b ≡ is_some found
    → add ≡ one_if b → count + add ≡ length (findings (reverse (m ∷ past)))
findings-more past m count add found b so_far is some one =
    ap (λ n. n + add) so_far
    ∙ ap (λ n. length (findings (reverse past)) + n)
    (one ∙ ap one_if (some ∙ ap is_some is ∙ sym (counts-finding past m)))
    ∙ sym (count-last found_of past m)

none-is : (o : Option Finding) (b : Bool) → is_some o ≡ not b → b ≡ is_none o
none-is None true e = refl
none-is None false e = absurd (cc e)
none-is (Some x) true e = absurd (cc e)
none-is (Some x) false e = refl

pub pairs-more : (past : List Heard) (m : Heard) (count add : ℕ) (found : Option Finding)
    (response none : Bool) → count ≡ length (pairs (reverse past)) → found ≡ finding_of past m
    → response ≡ is_response m.message → is_some found ≡ not none → add ≡ one_if (response && none)
    → count + add ≡ length (pairs (reverse (m ∷ past)))
pairs-more past m count add found response none so_far is resp isnt one =
    ap (λ n. n + add) so_far
    ∙ ap (λ n. length (pairs (reverse past)) + n)
    (one ∙ ap (λ b. one_if (b && none)) resp
    ∙ ap (λ b. one_if (is_response m.message && b)) (none-is found none isnt ∙ ap is_none is)
    ∙ ap one_if (sym (counts-pair past m)))
    ∙ sym (count-last pair_of past m)

pub asking-more : (past : List Heard) (m : Heard) (count add : ℕ) (b : Bool)
    → count ≡ length (filter is_asking past) → b ≡ is_asking m → add ≡ one_if b
    → count + add ≡ length (filter is_asking (m ∷ past))
asking-more past m count add b so_far is one =
    ap (λ n. n + add) so_far
    ∙ ap (λ n. length (filter is_asking past) + n) (one ∙ ap one_if is)
    ∙ sym (counts-asking past m)
