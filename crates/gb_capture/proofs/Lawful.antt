-- The laws of pairs.
use Rattle.std.proofs.Common.{◌≡◌, ◌≢◌, ℕ, ◌<◌, ◌==◌, ◌&&◌, ◌||◌, Bool, true, false, not, cond}
use Rattle.std.proofs.Common.{Option, Some, None, List, [], ◌∷◌, ◌++◌, reverse, is_some, option_map}
use Rattle.std.proofs.Common.{refl, sym, ap, subst, ◌∙◌, arith, append_assoc, append-nil}
use Rattle.std.specs.Prelude.{is_none}
use Rattle.std.specs.List.{find, list_any}
use Rattle.std.proofs.lemmas.List.{reverse-append, reverse-reverse}
use Rattle.std.proofs.lemmas.List.Folds.{list_any-append}
use Rattle.gb_base.specs.declared.audit.Finding.{Finding}
use Rattle.gb_base.specs.declared.audit.Finding.TheVariants as finding
use Rattle.gb_capture.specs.Audits.{AreBelow, asked_of}
use Rattle.gb_capture.specs.Tables.{request_by}
use Rattle.gb_capture.specs.Pairing.{AreAnsweredBefore, AreApart, AreRising, IsAnswering, IsClean}
use Rattle.gb_capture.specs.Pairing.{IsIn, IsPaired, is_like}
use Rattle.gb_capture.proofs.Counting.{counts-finding, counts-pair}
use Rattle.gb_capture.proofs.Last.{id-is, request-found, shows}
use Rattle.gb_capture.proofs.Pairs.{pair-shows}
use Rattle.gb_capture.proofs.Splits.{FoundAt, comes-from, finds, found-at, gives-nothing}
use Rattle.gb_capture.proofs.Splits.{is-given, rising-below}
use Rattle.gb_capture.proofs.Unpaired.{answer-is, in-no-pair}
use Rattle.gb_formats.specs.Audit.{Pair, asks_at, finding_of, found_of}
use Rattle.gb_formats.specs.Audit.{has_id, is_answer_to, is_answered, is_request_of, is_response}
use Rattle.gb_formats.specs.Audit.{pair_of, pairs, since}
use Rattle.gb_formats.specs.Captures.{Heard}

-- ---- lists

-- a list whose end is known, the other way round
turned-round : (xs later earlier : List Heard) (q : Heard) → reverse xs ≡ later ++ q ∷ earlier
    → xs ≡ reverse earlier ++ q ∷ reverse later
turned-round xs later earlier q e =
    sym (reverse-reverse xs) ∙ ap reverse e ∙ reverse-append later (q ∷ earlier)
    ∙ ap (λ s. s ++ reverse later) (reverse-append (q ∷ []) earlier)
    ∙ append_assoc (reverse earlier) (q ∷ []) (reverse later)

-- a front and one behind it
split-again : (xs earlier later back : List Heard) (q m : Heard) → xs ≡ earlier ++ q ∷ later
    → xs ++ m ∷ back ≡ earlier ++ q ∷ later ++ m ∷ back
split-again xs earlier later back q m e = ap (λ s. s ++ m ∷ back) e

any-turned : (test : Heard → Bool) (xs : List Heard) → list_any test (reverse xs) ≡ list_any test xs
any-turned test [] = refl
any-turned test (x ∷ xs) =
    ap (list_any test) (reverse-append (x ∷ []) xs)
    ∙ list_any-append test (reverse xs) (x ∷ [])
    ∙ ap (λ b. b || list_any test (x ∷ [])) (any-turned test xs) ∙ by (list_any test xs) (test x)
  where
    by : (a b : Bool) → (a || (b || false)) ≡ (b || a)
    by true true = refl
    by true false = refl
    by false true = refl
    by false false = refl

-- the messages behind the last one that passes
since-is : (test : Heard → Bool) (later earlier : List Heard) (q : Heard)
    → list_any test later ≡ false → test q ≡ true → since test (later ++ q ∷ earlier) ≡ later
since-is test [] earlier q none is = ap (λ b. cond b [] (q ∷ since test earlier)) is
since-is test (m ∷ later) earlier q none is = by (test m) none (since-is test later earlier q)
  where
    by : (b : Bool) → (b || list_any test later) ≡ false
        → (list_any test later ≡ false → test q ≡ true → since test (later ++ q ∷ earlier) ≡ later)
        → cond b [] (m ∷ since test (later ++ q ∷ earlier)) ≡ m ∷ later
    by true e next = absurd (cc e)
    by false e next = ap (λ s. m ∷ s) (next e is)

-- a request that was found is answered where a response to it stands behind it
answered-is : (from_ap : Bool) (id : ℕ) (past : List Heard) (q : Heard)
    → (f : FoundAt (is_request_of from_ap id) past q)
    → is_answered past q ≡ list_any (is_answer_to q) f.later
answered-is from_ap id past q f =
    let h = shows from_ap id q f.passes in
    ap (λ w. list_any (is_answer_to q) (since (is_request_of w q.message.id) past)) h.0
    ∙ ap (λ i. list_any (is_answer_to q) (since (is_request_of from_ap i) past)) h.2
    ∙ ap (λ p. list_any (is_answer_to q) (since (is_request_of from_ap id) p)) f.whole
    ∙ ap (list_any (is_answer_to q))
    (since-is (is_request_of from_ap id) f.later f.earlier q f.others f.passes)

-- ---- each pair

pub pair-relates : (ms : List Heard) (pair : Pair) → IsIn pair (pairs ms) → IsPaired ms pair
pair-relates ms pair within =
    let c = comes-from pair_of [] ms within.before within.behind pair within.whole in
    let past = reverse c.before in
    let s = pair-shows past c.at pair (ap (λ p. pair_of p c.at) (sym (append-nil past)) ∙ c.gave) in
    let way = not c.at.from_ap in
    let f = found-at (is_request_of way c.at.message.id) past pair.0 s.request in
    let h = shows way c.at.message.id pair.0 f.passes in record {
      before = reverse f.earlier;
      between = reverse f.later;
      behind = c.behind;
      whole =
          c.whole
          ∙ split-again c.before (reverse f.earlier) (reverse f.later) c.behind pair.0 c.at
          (turned-round c.before f.later f.earlier pair.0 f.whole)
          ∙ ap (λ r. reverse f.earlier ++ pair.0 ∷ reverse f.later ++ r ∷ c.behind) (sym s.last);
      has = ap (λ i. not (i == 0)) h.2 ∙ s.has;
      asks = h.1;
      answers =
          ap (is_answer_to pair.0) s.last
          ∙ answer-is c.at pair.0 h.0 h.2 s.response s.type_is;
      first =
          any-turned (is_answer_to pair.0) f.later
          ∙ sym (answered-is way c.at.message.id past pair.0 f) ∙ s.first;
      last =
          any-turned (is_like pair.0) f.later
          ∙ ap (λ w. list_any (is_request_of w pair.0.message.id) f.later) h.0
          ∙ ap (λ i. list_any (is_request_of way i) f.later) h.2 ∙ f.others;
    }

-- ---- two pairs

none-is : (line : ℕ) (before behind : List Pair) (a : Pair)
    → list_any (asks_at line) (before ++ a ∷ behind) ≡ false → a.0.line ≢ line
none-is line before behind a e same =
    let isnt = sym (list_any-append (asks_at line) before (a ∷ behind)) ∙ e in
    let is = ap (λ b. list_any (asks_at line) before || (b || list_any (asks_at line) behind))
    (ap (λ l. l == line) same ∙ id-is line)
    ∙ or-true (list_any (asks_at line) before) in
    absurd (cc (sym isnt ∙ is))
  where
    or-true : (b : Bool) → (b || true) ≡ true
    or-true true = refl
    or-true false = refl

pub pairs-apart : (ms : List Heard) (line : ℕ) → AreRising line ms → AreApart (pairs ms)
pairs-apart ms line rises before between behind a b whole =
    let c = comes-from pair_of [] ms (before ++ a ∷ between) behind b whole in
    let past = reverse c.before in
    let rising = subst (AreRising line) c.whole rises in
    let below = subst (AreBelow c.at.line) (append-nil past)
    (rising-below [] c.before c.behind c.at line rising (λ at less. tt)) in
    let s = pair-shows past c.at b (ap (λ p. pair_of p c.at) (sym (append-nil past)) ∙ c.gave) in
    let none = in-no-pair past c.at.line (not c.at.from_ap) c.at.message.id b.0 below s.request
    s.first in
    let earlier : pairs (reverse past) ≡ before ++ a ∷ between =
    ap pairs (reverse-reverse c.before) ∙ c.earlier in
    let d = comes-from pair_of [] c.before before between a c.earlier in
    let first = pair-shows (reverse d.before) d.at a
    (ap (λ p. pair_of p d.at) (sym (append-nil (reverse d.before))) ∙ d.gave) in
    let less : d.at.line < c.at.line =
    stands-below d.before d.behind d.at c.at.line
    (subst (λ xs. AreBelow c.at.line (reverse xs)) d.whole below) in (
      none-is b.0.line before between a
          (ap (list_any (asks_at b.0.line)) (sym earlier) ∙ none),
      subst (λ x. x.line < b.1.line) (sym first.last)
          (subst (λ x. d.at.line < x.line) (sym s.last) less),
    )
  where
    -- each message of a list stands below its bound
    below-bound : (xs ys : List Heard) (m : Heard) (bound : ℕ) → AreBelow bound (xs ++ m ∷ ys)
        → m.line < bound
    below-bound [] ys m bound h = h.0
    below-bound (x ∷ xs) ys m bound h =
        let e = below-bound xs ys m x.line h.1 in omega (arith, e, h.0)

    stands-below : (xs ys : List Heard) (m : Heard) (bound : ℕ)
        → AreBelow bound (reverse (xs ++ m ∷ ys)) → m.line < bound
    stands-below xs ys m bound h =
        below-bound (reverse ys) (reverse xs) m bound
        (subst (AreBelow bound) (reverse-append xs (m ∷ ys)
        ∙ ap (λ s. s ++ reverse xs) (reverse-append (m ∷ []) ys)
        ∙ append_assoc (reverse ys) (m ∷ []) (reverse xs)) h)

-- ---- clean captures

-- nothing is found of any message
nothing-found : (before behind : List Heard) (m : Heard)
    → IsClean (before ++ m ∷ behind) → finding_of (reverse before) m ≡ None
nothing-found before behind m clean =
    by (finding_of (reverse before) m)
    (sym (counts-finding (reverse before) m)
    ∙ ap is_some (ap (λ p. found_of p m) (sym (append-nil (reverse before)))
    ∙ gives-nothing found_of [] before behind m clean))
  where
    by : (o : Option Finding) → is_some o ≡ false → o ≡ None
    by None e = refl
    by (Some x) e = absurd (cc e)

pub response-paired : (ms : List Heard) (m : Heard) → IsClean ms → IsIn m ms
    → is_response m.message ≡ true → IsAnswering ms m
response-paired ms m clean within response =
    let past = reverse within.before in
    let none = nothing-found within.before within.behind m (subst IsClean within.whole clean) in
    let some = counts-pair past m ∙ ap (λ b. b && is_none (finding_of past m)) response
    ∙ ap is_none none in
    by (pair_of past m) refl some
  where
    by : (o : Option Pair) → pair_of (reverse within.before) m ≡ o → is_some o ≡ true
        → IsAnswering ms m
    by None e some = absurd (cc some)
    by (Some p) e some =
        let s = pair-shows (reverse within.before) m p e in (
          p.0,
          subst (IsIn (p.0, m)) (ap pairs (sym within.whole))
              (is-given pair_of [] within.before within.behind m (p.0, m)
              (ap (λ x. pair_of x m) (append-nil (reverse within.before)) ∙ e
              ∙ ap (λ r. Some (p.0, r)) s.last)),
        )

-- the first of a list that passes
record FirstOf (test : Heard → Bool) (xs : List Heard) : Type 0 where
  front : List Heard
  at : Heard
  back : List Heard
  whole : xs ≡ front ++ at ∷ back
  passes : test at ≡ true
  none : list_any test front ≡ false

first-of : (test : Heard → Bool) (xs : List Heard) → list_any test xs ≡ true → FirstOf test xs
first-of test [] e = absurd (cc e)
first-of test (x ∷ xs) e = by (test x) refl e (first-of test xs)
  where
    by : (b : Bool) → test x ≡ b → (b || list_any test xs) ≡ true
        → (list_any test xs ≡ true → FirstOf test xs) → FirstOf test (x ∷ xs)
    by true is e' next =
        record { front = []; at = x; back = xs; whole = refl; passes = is; none = refl }
    by false is e' next =
        let f = next e' in record {
          front = x ∷ f.front;
          at = f.at;
          back = f.back;
          whole = ap (λ s. x ∷ s) f.whole;
          passes = f.passes;
          none = ap (λ b. b || list_any test f.front) is ∙ f.none;
        }

-- a request of which nothing is found comes behind one that is answered
asked-answered : (past : List Heard) (m q : Heard) → is_response m.message ≡ false
    → has_id m.message ≡ true → find (is_request_of m.from_ap m.message.id) past ≡ Some q
    → finding_of past m ≡ None → is_answered past q ≡ true
asked-answered past m q request has found none =
    by (is_answered past q)
    (sym (request-found past m request
    ∙ ap (λ b. request_by (cond b None
    (option_map (asked_of past) (find (is_request_of m.from_ap m.message.id) past))))
    (isnt (m.message.id == 0) has)
    ∙ ap (λ o. request_by (option_map (asked_of past) o)) found)
    ∙ none)
  where
    isnt : (b : Bool) → not b ≡ true → b ≡ false
    isnt true e = absurd (cc e)
    isnt false e = refl

    by : (b : Bool) → cond b None (Some (finding.Reused q.line)) ≡ None → b ≡ true
    by true e = refl
    by false e = absurd (cc e)

-- the messages before one, the last of them first
past-is : (before between : List Heard) (q : Heard)
    → reverse (before ++ q ∷ between) ≡ reverse between ++ q ∷ reverse before
past-is before between q =
    reverse-append before (q ∷ between)
    ∙ ap (λ s. s ++ reverse before) (reverse-append (q ∷ []) between)
    ∙ append_assoc (reverse between) (q ∷ []) (reverse before)

-- no request like it stands between
next-answered : (before between behind : List Heard) (q m : Heard)
    → IsClean (before ++ q ∷ between ++ m ∷ behind) → has_id m.message ≡ true
    → is_like m m ≡ true → is_like m q ≡ true → list_any (is_like m) between ≡ false
    → list_any (is_answer_to q) between ≡ true
next-answered before between behind q m clean has request like none =
    let past = reverse (before ++ q ∷ between) in
    let whole = past-is before between q in
    let others = any-turned (is_like m) between ∙ none in
    let found = ap (find (is_like m)) whole
    ∙ finds (is_like m) (reverse between) (reverse before) q others like in
    let answered = asked-answered past m q (shows m.from_ap m.message.id m request).1 has found
    (nothing-found (before ++ q ∷ between) behind m clean) in
    sym (any-turned (is_answer_to q) between)
    ∙ sym (answered-is m.from_ap m.message.id past q (record {
      later = reverse between;
      earlier = reverse before;
      whole = whole;
      passes = like;
      others = others;
    }))
    ∙ answered

-- a request that is like another one shows the same ones
same-like : (q m : Heard) → is_like m q ≡ true → (x : Heard) → is_like q x ≡ is_like m x
same-like q m like x =
    let h = shows m.from_ap m.message.id q like in
    ap (λ w. is_request_of w q.message.id x) h.0 ∙ ap (λ i. is_request_of m.from_ap i x) h.2

any-same : (test other : Heard → Bool) → ((x : Heard) → test x ≡ other x) → (xs : List Heard)
    → list_any test xs ≡ list_any other xs
any-same test other same [] = refl
any-same test other same (x ∷ xs) =
    ap (λ b. b || list_any test xs) (same x) ∙ ap (λ b. other x || b) (any-same test other same xs)

pub answered-before : (ms : List Heard) → IsClean ms → AreAnsweredBefore ms
answered-before ms clean before between behind q m whole has request like =
    by (list_any (is_like m) between) refl
  where
    by : (b : Bool) → list_any (is_like m) between ≡ b → list_any (is_answer_to q) between ≡ true
    by false none =
        next-answered before between behind q m (subst IsClean whole clean) has request like none
    by true some =
        let f = first-of (is_like m) between some in
        let same = same-like f.at m f.passes in
        let h = shows m.from_ap m.message.id f.at f.passes in
        let all : ms ≡ before ++ q ∷ f.front ++ f.at ∷ f.back ++ m ∷ behind =
        whole ∙ ap (λ s. before ++ q ∷ s ++ m ∷ behind) f.whole
        ∙ ap (λ s. s ++ m ∷ behind) (sym (append_assoc before (q ∷ f.front) (f.at ∷ f.back))) in
        let one = next-answered before f.front (f.back ++ m ∷ behind) q f.at
        (subst IsClean (all ∙ append_assoc (before ++ q ∷ f.front) (f.at ∷ f.back) (m ∷ behind))
        clean)
        (ap (λ i. not (i == 0)) h.2 ∙ has) (same f.at ∙ f.passes) (same q ∙ like)
        (any-same (is_like f.at) (is_like m) same f.front ∙ f.none) in
        ap (list_any (is_answer_to q)) f.whole
        ∙ list_any-append (is_answer_to q) f.front (f.at ∷ f.back)
        ∙ ap (λ b. b || list_any (is_answer_to q) (f.at ∷ f.back)) one
