-- The requests that are in no pair are those with an identifier but for one a pair.
use Rattle.std.proofs.Common.{◌≡◌, ℕ, suc, ◌+◌, ◌-◌, ◌<◌, ◌≤◌, ◌==◌, ◌&&◌, ◌||◌, Bool, true, false}
use Rattle.std.proofs.Common.{not, cond}
use Rattle.std.proofs.Common.{Option, Some, None, List, [], ◌∷◌, ◌++◌, length, reverse}
use Rattle.std.proofs.Common.{refl, sym, ap, subst, ◌∙◌, arith, length-append}
use Rattle.std.specs.Bool.{beq}
use Rattle.std.specs.List.{cons_option, filter, find, list_any}
use Rattle.std.proofs.lemmas.Bool.Decides.{nat_tests}
use Rattle.std.proofs.lemmas.List.{append-nil, reverse-append}
use Rattle.std.proofs.lemmas.List.Folds.{list_any-append}
use Rattle.gb_capture.specs.Audits.{AreBelow, is_asking}
use Rattle.gb_formats.specs.Audit.{answered_type, asks_at, has_id, is_answer_to, is_answered}
use Rattle.gb_formats.specs.Audit.{is_request_of, is_response, is_unpaired, Pair, pair_of}
use Rattle.gb_formats.specs.Audit.{since, unpaired}
use Rattle.gb_formats.specs.Captures.{Heard}
use Rattle.gb_capture.proofs.Last.{find-passes, id-is, same-id, shows}
use Rattle.gb_capture.proofs.Pairs.{any-more, found-below, pair-shows, pairs-below, pairs_of}
use Rattle.gb_capture.proofs.Rules.{each-last}

some-is : {A : Type 0} (a b : A) → Some a ≡ Some b → a ≡ b
some-is a b e = cc e

other-line : (m n : ℕ) → n < m → (m == n) ≡ false
other-line m n h = grind (arith, nat_tests)

-- ---- requests of one line are one

one-line : (test other : Heard → Bool) (past : List Heard) (line : ℕ) (q r : Heard)
    → AreBelow line past → find test past ≡ Some q → find other past ≡ Some r
    → q.line ≡ r.line → q ≡ r
one-line test other [] line q r below e f same = absurd (cc e)
one-line test other (m ∷ past) line q r below e f same =
    by (test m) (other m) e f (λ e' f'. one-line test other past m.line q r below.1 e' f' same)
    (found-below test past m.line q below.1) (found-below other past m.line r below.1)
  where
    by : (a b : Bool) → cond a (Some m) (find test past) ≡ Some q
        → cond b (Some m) (find other past) ≡ Some r
        → (find test past ≡ Some q → find other past ≡ Some r → q ≡ r)
        → (find test past ≡ Some q → q.line < m.line)
        → (find other past ≡ Some r → r.line < m.line) → q ≡ r
    by true true e' f' later first second = cc (e', f')
    by true false e' f' later first second =
        let less = second f' in
        let is = ap (λ x. x.line) (some-is m q e') in
        absurd (omega (arith, less, is, same))
    by false true e' f' later first second =
        let less = first e' in
        let is = ap (λ x. x.line) (some-is m r f') in
        absurd (omega (arith, less, is, same))
    by false false e' f' later first second = later e' f'

-- ---- a request that isn't answered is in no pair

-- a message that is the answer to a request
pub answer-is : (m q : Heard) → q.from_ap ≡ not m.from_ap → q.message.id ≡ m.message.id
    → is_response m.message ≡ true → (answered_type m.message == q.message.kind) ≡ true
    → is_answer_to q m ≡ true
answer-is m q way id response type =
    ap (λ w. beq m.from_ap (not w) && is_response m.message && m.message.id == q.message.id
    && answered_type m.message == q.message.kind) way
    ∙ ap (λ b. b && is_response m.message && m.message.id == q.message.id
    && answered_type m.message == q.message.kind) (twice m.from_ap)
    ∙ ap (λ b. b && m.message.id == q.message.id && answered_type m.message == q.message.kind)
    response
    ∙ ap (λ i. m.message.id == i && answered_type m.message == q.message.kind) id
    ∙ ap (λ b. b && answered_type m.message == q.message.kind) (id-is m.message.id) ∙ type
  where
    twice : (f : Bool) → beq f (not (not f)) ≡ true
    twice true = refl
    twice false = refl

-- neither of two tests
neither : (a b : Bool) → (a || b) ≡ false → (a ≡ false) × (b ≡ false)
neither true b e = absurd (cc e)
neither false b e = (refl, e)

-- the last request of its way with its identifier stands behind m, and m is no answer to it
answered-before : (m q : Heard) (past : List Heard) (from_ap : Bool) (id : ℕ)
    → is_request_of from_ap id m ≡ false → is_request_of from_ap id q ≡ true
    → is_answered (m ∷ past) q ≡ false
    → (is_answer_to q m ≡ false) × (is_answered past q ≡ false)
answered-before m q past from_ap id isnt is e =
    let h = shows from_ap id q is in
    neither (is_answer_to q m) (is_answered past q)
    (sym (ap (λ b. list_any (is_answer_to q)
    (cond b [] (m ∷ since (is_request_of q.from_ap q.message.id) past)))
    (ap (λ w. is_request_of w q.message.id m) h.0 ∙ ap (λ i. is_request_of from_ap i m) h.2 ∙ isnt))
    ∙ e)

-- no response makes a pair with a request that it isn't an answer to
other-pair : (past : List Heard) (m q : Heard) (from_ap : Bool) (id line : ℕ) → AreBelow line past
    → find (is_request_of from_ap id) past ≡ Some q → is_answer_to q m ≡ false
    → (p : Pair) → pair_of past m ≡ Some p → asks_at q.line p ≡ false
other-pair past m q from_ap id line below found isnt p e = by (p.0.line == q.line) refl
  where
    by : (b : Bool) → (p.0.line == q.line) ≡ b → b ≡ false
    by false h = refl
    by true h =
        let s = pair-shows past m p e in
        let way = not m.from_ap in
        let one = one-line (is_request_of way m.message.id) (is_request_of from_ap id) past line
        p.0 q
        below s.request found (same-id p.0.line q.line h) in
        let k = shows way m.message.id p.0
        (find-passes (is_request_of way m.message.id) past p.0 s.request) in
        absurd (cc (sym isnt ∙ ap (λ x. is_answer_to x m) (sym one)
        ∙ answer-is m p.0 k.0 k.2 s.response s.type_is))

no-request : (m : Heard) (way : Bool) (id : ℕ) → is_request_of way id m ≡ true
    → is_response m.message ≡ true → ⊥
no-request m way id is response = cc (sym (shows way id m is).1 ∙ response)

pub in-no-pair : (past : List Heard) (line : ℕ) (from_ap : Bool) (id : ℕ) (q : Heard)
    → AreBelow line past → find (is_request_of from_ap id) past ≡ Some q
    → is_answered past q ≡ false → list_any (asks_at q.line) (pairs_of past) ≡ false
in-no-pair [] line from_ap id q below found e = refl
in-no-pair (m ∷ past) line from_ap id q below found e =
    by (is_request_of from_ap id m) refl found
    (λ f a. in-no-pair past m.line from_ap id q below.1 f a)
  where
    by : (b : Bool) → is_request_of from_ap id m ≡ b
        → cond b (Some m) (find (is_request_of from_ap id) past) ≡ Some q
        → (find (is_request_of from_ap id) past ≡ Some q → is_answered past q ≡ false
        → list_any (asks_at q.line) (pairs_of past) ≡ false)
        → list_any (asks_at q.line) (pairs_of (m ∷ past)) ≡ false
    by true is f later =
        subst (λ x. list_any (asks_at x.line) (pairs_of (m ∷ past)) ≡ false) (some-is m q f)
        (any-more m.line past m (pairs-below past m.line below.1 m.line (omega arith))
        (λ p h. absurd (no-request m from_ap id is (pair-shows past m p h).response)))
    by false isnt f later =
        let h = answered-before m q past from_ap id isnt
        (find-passes (is_request_of from_ap id) past q f) e in
        any-more q.line past m (later f h.1)
        (other-pair past m q from_ap id m.line below.1 f h.0)

-- ---- how many are in no pair

abbrev how_many : (Heard → Bool) → List Heard → ℕ
how_many test xs = length (filter test xs)

step-same : (a b : Bool) (x : Heard) (xs ys : List Heard) → a ≡ b → length xs ≡ length ys
    → length (cond a (x ∷ xs) xs) ≡ length (cond b (x ∷ ys) ys)
step-same true true x xs ys e same = omega (arith, same)
step-same true false x xs ys e same = absurd (cc e)
step-same false true x xs ys e same = absurd (cc e)
step-same false false x xs ys e same = same

-- two tests that differ at one line alone tell as many of earlier lines
same-before : (old new : Heard → Bool) (at : ℕ) (xs : List Heard) (line : ℕ) → AreBelow line xs
    → line ≤ at → ((x : Heard) → (x.line == at) ≡ false → new x ≡ old x)
    → how_many new xs ≡ how_many old xs
same-before old new at [] line below least same = refl
same-before old new at (x ∷ xs) line below least same =
    step-same (new x) (old x) x (filter new xs) (filter old xs)
    (same x (before (omega (arith, below.0, least))))
    (same-before old new at xs x.line below.1 (omega (arith, below.0, least)) same)
  where
    before : x.line < at → (x.line == at) ≡ false
    before h = grind (arith, nat_tests, h)

-- and one less in all, where one of that line is told no more
one-less : (old new test : Heard → Bool) (xs : List Heard) (line : ℕ) (q : Heard)
    → AreBelow line xs → find test xs ≡ Some q → old q ≡ true → new q ≡ false
    → ((x : Heard) → (x.line == q.line) ≡ false → new x ≡ old x)
    → how_many new xs + 1 ≡ how_many old xs
one-less old new test [] line q below found was is same = absurd (cc found)
one-less old new test (x ∷ xs) line q below found was is same =
    by (test x) found (λ f. one-less old new test xs x.line q below.1 f was is same)
    (found-below test xs x.line q below.1)
    (λ least. same-before old new q.line xs x.line below.1 least same)
  where
    by : (b : Bool) → cond b (Some x) (find test xs) ≡ Some q
        → (find test xs ≡ Some q → how_many new xs + 1 ≡ how_many old xs)
        → (find test xs ≡ Some q → q.line < x.line)
        → (x.line ≤ q.line → how_many new xs ≡ how_many old xs)
        → how_many new (x ∷ xs) + 1 ≡ how_many old (x ∷ xs)
    by true f later less rest =
        let e = some-is x q f in
        let same-rest = rest (omega (arith, ap (λ y. y.line) e)) in
        ap (λ b. length (cond b (x ∷ filter new xs) (filter new xs)) + 1) (ap new e ∙ is)
        ∙ (let h : how_many new xs + 1 ≡ suc (how_many old xs) = omega (arith, same-rest) in h)
        ∙ sym (ap (λ b. length (cond b (x ∷ filter old xs) (filter old xs))) (ap old e ∙ was))
    by false f later less rest =
        let before = less f in
        let at-x = same x (other-line x.line q.line before) in
        one-more (new x) (old x) at-x (later f)
      where
        one-more : (a b : Bool) → a ≡ b → how_many new xs + 1 ≡ how_many old xs
            → length (cond a (x ∷ filter new xs) (filter new xs)) + 1
            ≡ length (cond b (x ∷ filter old xs) (filter old xs))
        one-more true true e h = omega (arith, h)
        one-more true false e h = absurd (cc e)
        one-more false true e h = absurd (cc e)
        one-more false false e h = h

-- a message whose line asks in no pair so far
unpaired-is : (ps : List Pair) (m : Heard) (isnt : list_any (asks_at m.line) ps ≡ false)
    → is_unpaired ps m ≡ is_asking m
unpaired-is ps m isnt =
    ap (λ b. not (is_response m.message) && has_id m.message && not b) isnt
    ∙ and-true (not (is_response m.message) && has_id m.message)
  where
    and-true : (b : Bool) → (b && true) ≡ b
    and-true true = refl
    and-true false = refl

-- a request of this direction with an identifier
asking-is : (m q : Heard) (from_ap : Bool) → has_id m.message ≡ true
    → is_request_of from_ap m.message.id q ≡ true → is_asking q ≡ true
asking-is m q from_ap has is =
    let h = shows from_ap m.message.id q is in
    ap (λ b. not b && has_id q.message) h.1 ∙ ap (λ i. not (i == 0)) h.2 ∙ has

-- a line asks in a pair more
any-with : (line : ℕ) (past : List Heard) (m : Heard) (p : Pair) → pair_of past m ≡ Some p
    → list_any (asks_at line) (pairs_of (m ∷ past))
    ≡ (list_any (asks_at line) (pairs_of past) || (p.0.line == line))
any-with line past m p e =
    ap (list_any (asks_at line)) (each-last pair_of past m)
    ∙ ap (λ o. list_any (asks_at line) (pairs_of past ++ cons_option o [])) e
    ∙ list_any-append (asks_at line) (pairs_of past) (p ∷ [])
    ∙ ap (λ b. list_any (asks_at line) (pairs_of past) || b) (or-false (p.0.line == line))
  where
    or-false : (b : Bool) → (b || false) ≡ b
    or-false true = refl
    or-false false = refl

abbrev unpaired_in : List Pair → List Heard → ℕ
unpaired_in ps xs = how_many (is_unpaired ps) xs

-- a message that makes no pair
without-pair : (past : List Heard) (m : Heard) (line : ℕ) → AreBelow line (m ∷ past)
    → pair_of past m ≡ None
    → unpaired_in (pairs_of past) past + length (pairs_of past) ≡ how_many is_asking past
    → unpaired_in (pairs_of (m ∷ past)) (m ∷ past) + length (pairs_of (m ∷ past))
    ≡ how_many is_asking (m ∷ past)
without-pair past m line below none later =
    let same : pairs_of (m ∷ past) ≡ pairs_of past =
    each-last pair_of past m ∙ ap (λ o. pairs_of past ++ cons_option o []) none
    ∙ append-nil (pairs_of past) in
    ap (λ ps. unpaired_in ps (m ∷ past) + length ps) same
    ∙ ap (λ b. length (cond b (m ∷ filter (is_unpaired (pairs_of past)) past)
    (filter (is_unpaired (pairs_of past)) past)) + length (pairs_of past))
    (unpaired-is (pairs_of past) m (pairs-below past m.line below.1 m.line (omega arith)))
    ∙ by (is_asking m)
  where
    by : (b : Bool) → length (cond b (m ∷ filter (is_unpaired (pairs_of past)) past)
        (filter (is_unpaired (pairs_of past)) past)) + length (pairs_of past)
        ≡ length (cond b (m ∷ filter is_asking past) (filter is_asking past))
    by true = omega (arith, later)
    by false = later

-- a message that makes a pair
with-pair : (past : List Heard) (m : Heard) (line : ℕ) (p : Pair) → AreBelow line (m ∷ past)
    → pair_of past m ≡ Some p
    → unpaired_in (pairs_of past) past + length (pairs_of past) ≡ how_many is_asking past
    → unpaired_in (pairs_of (m ∷ past)) (m ∷ past) + length (pairs_of (m ∷ past))
    ≡ how_many is_asking (m ∷ past)
with-pair past m line p below e later =
    let s = pair-shows past m p e in
    let way = not m.from_ap in
    let test = is_request_of way m.message.id in
    let q = p.0 in
    let asks = asking-is m q way s.has (find-passes test past q s.request) in
    let was = unpaired-is (pairs_of past) q
    (in-no-pair past m.line way m.message.id q below.1 s.request s.first) ∙ asks in
    let is = ap (λ b. not (is_response q.message) && has_id q.message && not b)
    (any-with q.line past m p e ∙ ap (λ b. list_any (asks_at q.line) (pairs_of past) || b)
    (id-is q.line) ∙ or-true (list_any (asks_at q.line) (pairs_of past)))
    ∙ and-false (not (is_response q.message) && has_id q.message) in
    let less = one-less (is_unpaired (pairs_of past)) (is_unpaired (pairs_of (m ∷ past))) test past
    m.line q below.1 s.request was is
    (λ x differs. ap (λ b. not (is_response x.message) && has_id x.message && not b)
    (any-with x.line past m p e
    ∙ ap (λ b. list_any (asks_at x.line) (pairs_of past) || b) (turned x.line q.line differs)
    ∙ or-false (list_any (asks_at x.line) (pairs_of past)))) in
    let long : length (pairs_of (m ∷ past)) ≡ length (pairs_of past) + 1 =
    ap length (each-last pair_of past m ∙ ap (λ o. pairs_of past ++ cons_option o []) e)
    ∙ length-append (pairs_of past) (p ∷ []) in
    ap (λ b. length (cond (not b && has_id m.message && not (list_any (asks_at m.line)
    (pairs_of (m ∷ past)))) (m ∷ filter (is_unpaired (pairs_of (m ∷ past))) past)
    (filter (is_unpaired (pairs_of (m ∷ past))) past)) + length (pairs_of (m ∷ past))) s.response
    ∙ (let h : unpaired_in (pairs_of (m ∷ past)) past + length (pairs_of (m ∷ past))
    ≡ how_many is_asking past = omega (arith, less, long, later) in h)
    ∙ sym (ap (λ b. length (cond (not b && has_id m.message) (m ∷ filter is_asking past)
    (filter is_asking past))) s.response)
  where
    or-true : (b : Bool) → (b || true) ≡ true
    or-true true = refl
    or-true false = refl

    or-false : (b : Bool) → (b || false) ≡ b
    or-false true = refl
    or-false false = refl

    and-false : (b : Bool) → (b && false) ≡ false
    and-false true = refl
    and-false false = refl

    turned : (m n : ℕ) → (m == n) ≡ false → (n == m) ≡ false
    turned m n e = grind (arith, nat_tests)

-- The requests in no pair and the pairs are as many as the requests with an identifier.
unpaired-counted : (past : List Heard) (line : ℕ) → AreBelow line past
    → unpaired_in (pairs_of past) past + length (pairs_of past) ≡ how_many is_asking past
unpaired-counted [] line below = refl
unpaired-counted (m ∷ past) line below =
    by (pair_of past m) refl (unpaired-counted past m.line below.1)
  where
    by : (o : Option Pair) → pair_of past m ≡ o
        → unpaired_in (pairs_of past) past + length (pairs_of past) ≡ how_many is_asking past
        → unpaired_in (pairs_of (m ∷ past)) (m ∷ past) + length (pairs_of (m ∷ past))
        ≡ how_many is_asking (m ∷ past)
    by None e later = without-pair past m line below e later
    by (Some p) e later = with-pair past m line p below e later

filter-append : (test : Heard → Bool) (xs ys : List Heard)
    → filter test (xs ++ ys) ≡ filter test xs ++ filter test ys
filter-append test [] ys = refl
filter-append test (x ∷ xs) ys = by (test x) (filter-append test xs ys)
  where
    by : (b : Bool) → filter test (xs ++ ys) ≡ filter test xs ++ filter test ys
        → cond b (x ∷ filter test (xs ++ ys)) (filter test (xs ++ ys))
        ≡ cond b (x ∷ filter test xs) (filter test xs) ++ filter test ys
    by true e = ap (λ zs. x ∷ zs) e
    by false e = e

filter-turned : (test : Heard → Bool) (xs : List Heard)
    → how_many test (reverse xs) ≡ how_many test xs
filter-turned test [] = refl
filter-turned test (x ∷ xs) =
    ap (how_many test) (reverse-append (x ∷ []) xs)
    ∙ ap length (filter-append test (reverse xs) (x ∷ []))
    ∙ length-append (filter test (reverse xs)) (filter test (x ∷ []))
    ∙ ap (λ n. n + how_many test (x ∷ [])) (filter-turned test xs)
    ∙ by (test x)
  where
    by : (b : Bool) → length (filter test xs) + length (cond b (x ∷ []) [])
        ≡ length (cond b (x ∷ filter test xs) (filter test xs))
    by true = omega arith
    by false = omega arith

-- what is left of the requests with an identifier without the pairs
pub unpaired-left : (past : List Heard) (line asked count left : ℕ) → AreBelow line past
    → asked ≡ how_many is_asking past → count ≡ length (pairs_of past) → left ≡ asked - count
    → left ≡ length (unpaired (reverse past))
unpaired-left past line asked count left below all pairs-are is =
    let counted = unpaired-counted past line below in
    let same = filter-turned (is_unpaired (pairs_of past)) past in
    omega (arith, counted, same, all, pairs-are, is)
