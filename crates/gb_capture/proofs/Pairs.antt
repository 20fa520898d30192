-- Pairs: what each one shows, and that no request is in two.
use Rattle.std.proofs.Common.{◌≡◌, ℕ, ◌<◌, ◌≤◌, ◌==◌, ◌||◌, Bool, true, false, not, cond}
use Rattle.std.proofs.Common.{Option, Some, None, List, [], ◌∷◌, reverse}
use Rattle.std.proofs.Common.{refl, sym, ap, subst, ◌∙◌, arith}
use Rattle.std.specs.List.{cons_option, find, list_any}
use Rattle.std.proofs.lemmas.Bool.Decides.{nat_tests}
use Rattle.std.proofs.lemmas.List.Folds.{list_any-append}
use Rattle.gb_base.specs.declared.audit.Finding.TheVariants as finding
use Rattle.gb_capture.specs.Audits.{AreBelow}
use Rattle.gb_formats.specs.Audit.{answered_type, asks_at, has_id}
use Rattle.gb_formats.specs.Audit.{is_answered, is_request_of, is_response, Pair}
use Rattle.gb_formats.specs.Audit.{pair_of, pairs, request_finding, response_finding}
use Rattle.gb_formats.specs.Audit.{unless_found, with_asked}
use Rattle.gb_formats.specs.Captures.{Heard}
use Rattle.gb_capture.proofs.Rules.{each-last}

-- what a pair shows that a message makes with one before it
pub record Shows (past : List Heard) (m : Heard) (pair : Pair) : Type 0 where
  pub response : is_response m.message ≡ true
  pub has : has_id m.message ≡ true
  pub request : find (is_request_of (not m.from_ap) m.message.id) past ≡ Some pair.0
  pub last : pair.1 ≡ m
  pub first : is_answered past pair.0 ≡ false
  pub type_is : (answered_type m.message == pair.0.message.kind) ≡ true

-- the pair of a response, by what is known of it
abbrev pair_if : Bool → List Heard → Heard → Option Pair
pair_if response past m =
    let way = cond response (not m.from_ap) m.from_ap in
    let q = cond (has_id m.message) (find (is_request_of way m.message.id) past) None in
    cond response
    (unless_found (cond response (response_finding past m q) (request_finding past q))
    (with_asked m q))
    None

by-tests : (past : List Heard) (m q : Heard) (pair : Pair) → is_response m.message ≡ true
    → has_id m.message ≡ true → find (is_request_of (not m.from_ap) m.message.id) past ≡ Some q
    → (answered same : Bool) → is_answered past q ≡ answered
    → (answered_type m.message == q.message.kind) ≡ same
    → unless_found (cond answered (Some (finding.Double q.line))
    (cond same None (Some (finding.OtherType q.line)))) (Some (q, m))
    ≡ Some pair
    → Shows past m pair
by-tests past m q pair response has request true same a s e = absurd (cc e)
by-tests past m q pair response has request false false a s e = absurd (cc e)
by-tests past m q pair response has request false true a s e =
    subst (Shows past m) (some-is (q, m) pair e) (record {
      response = response;
      has = has;
      request = request;
      last = refl;
      first = a;
      type_is = s;
    })
  where
    some-is : (p r : Pair) → Some p ≡ Some r → p ≡ r
    some-is p r e = cc e

by-asked : (past : List Heard) (m : Heard) (pair : Pair) → is_response m.message ≡ true
    → (has : Bool) → has_id m.message ≡ has → (o : Option Heard)
    → find (is_request_of (not m.from_ap) m.message.id) past ≡ o
    → unless_found (response_finding past m (cond has o None)) (with_asked m (cond has o None))
    ≡ Some pair
    → Shows past m pair
by-asked past m pair response false h o f e = absurd (cc e)
by-asked past m pair response true h None f e = absurd (cc e)
by-asked past m pair response true h (Some q) f e =
    by-tests past m q pair response h f (is_answered past q)
    (answered_type m.message == q.message.kind) refl refl e

by-response : (past : List Heard) (m : Heard) (pair : Pair) (response : Bool)
    → is_response m.message ≡ response → pair_if response past m ≡ Some pair → Shows past m pair
by-response past m pair false is e = absurd (cc e)
by-response past m pair true is e =
    by-asked past m pair is (has_id m.message) refl
    (find (is_request_of (not m.from_ap) m.message.id) past) refl e

pub pair-shows : (past : List Heard) (m : Heard) (pair : Pair) → pair_of past m ≡ Some pair
    → Shows past m pair
pair-shows past m pair e =
    by-response past m pair (is_response m.message) refl
    (sym (ap (λ response. pair_if response past m) refl) ∙ e)

-- ---- lines

not-same : (m n : ℕ) → m < n → (m == n) ≡ false
not-same m n h = grind (arith, nat_tests)

-- what is found stands on an earlier line
pub found-below : (test : Heard → Bool) (past : List Heard) (line : ℕ) (q : Heard)
    → AreBelow line past → find test past ≡ Some q → q.line < line
found-below test [] line q below e = absurd (cc e)
found-below test (m ∷ past) line q below e =
    by (test m) e (λ e'. found-below test past m.line q below.1 e')
  where
    by : (b : Bool) → cond b (Some m) (find test past) ≡ Some q
        → (find test past ≡ Some q → q.line < m.line) → q.line < line
    by true e' later = subst (λ x. x.line < line) (some-is m q e') below.0
      where
        some-is : (a b : Heard) → Some a ≡ Some b → a ≡ b
        some-is a b h = cc h
    by false e' later = let h = later e' in omega (arith, h, below.0)

-- the pairs of messages, the last of them first
abbrev pub pairs_of : List Heard → List Pair
pairs_of past = pairs (reverse past)

one-any : (line : ℕ) (o : Option Pair)
    → ((p : Pair) → o ≡ Some p → asks_at line p ≡ false)
    → list_any (asks_at line) (cons_option o []) ≡ false
one-any line None isnt = refl
one-any line (Some p) isnt = ap (λ b. b || false) (isnt p refl)

-- a line asks in no pair, where it does in none so far, and not in that of the message that came
pub any-more : (line : ℕ) (past : List Heard) (m : Heard)
    → list_any (asks_at line) (pairs_of past) ≡ false
    → ((p : Pair) → pair_of past m ≡ Some p → asks_at line p ≡ false)
    → list_any (asks_at line) (pairs_of (m ∷ past)) ≡ false
any-more line past m none isnt =
    ap (list_any (asks_at line)) (each-last pair_of past m)
    ∙ list_any-append (asks_at line) (pairs_of past) (cons_option (pair_of past m) [])
    ∙ ap (λ b. b || list_any (asks_at line) (cons_option (pair_of past m) [])) none
    ∙ one-any line (pair_of past m) isnt

-- all requests of pairs stand on earlier lines
pub pairs-below : (past : List Heard) (line : ℕ) → AreBelow line past
    → (at : ℕ) → line ≤ at → list_any (asks_at at) (pairs_of past) ≡ false
pairs-below [] line below at least = refl
pairs-below (m ∷ past) line below at least =
    any-more at past m (pairs-below past m.line below.1 at (omega (arith, below.0, least)))
    (λ p e. let h = pair-shows past m p e in
    let less = found-below _ past m.line p.0 below.1 h.request in
    not-same p.0.line at (omega (arith, less, below.0, least)))
