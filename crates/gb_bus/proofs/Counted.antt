-- The counts are those of the machine's requests, and stay so.
use Rattle.std.proofs.Common.{◌≡◌, ◌≢◌, ◌≤◌, ◌<◌, ℕ, zero, suc, ◌+◌, ◌-◌, Bool, true, false, cond}
use Rattle.std.proofs.Common.{Option, Some, None, List, [], ◌∷◌, ◌++◌, length, refl, sym, ap, ◌∙◌}
use Rattle.std.proofs.Common.{◌⊎◌, inl, inr, arith, length-append, subst}
use Rattle.std.proofs.lemmas.Bool.{cases_eq}
use Rattle.std.specs.List.{slice_get}
use Rattle.gb_base.specs.declared.outcome.Outcome.{Outcome}
use Rattle.gb_base.specs.declared.outcome.Outcome.TheVariants as outcome
use Rattle.gb_bus.specs.Counting.{Tells, one_ended, with_counted, with_one}
use Rattle.gb_bus.specs.declared.tally.Tally.{Tally}
use Rattle.gb_invariants.proofs.Awaiting.{opened}
use Rattle.gb_machine.specs.Bus as machine
use Rattle.gb_machine.specs.Bus.{Request, is_open, outcome_of, request_of}
use Rattle.gb_machine.specs.Summary.{is_answered, is_cancelled, is_disconnected, is_sent}
use Rattle.gb_machine.specs.Summary.{is_timed_out, is_unended, standing, standing_from}

-- ---- how many stand so

-- so many where a request stands so, or one less
abbrev add : Bool → ℕ → ℕ
add t k = cond t (k + 1) k

swap : (s t : Bool) (j : ℕ) → add s (add t j) ≡ add t (add s j)
swap true true j = refl
swap true false j = refl
swap false true j = refl
swap false false j = refl

-- where each of them stands as it stood, as many stand so
same-standing : (n : ℕ) (test : Option Outcome → Bool) (b c : machine.Bus) (rs : List Request)
    → ((m : ℕ) → n ≤ m → m < n + length rs → outcome_of m c ≡ outcome_of m b)
    → standing_from n test c rs ≡ standing_from n test b rs
same-standing n test b c [] same = refl
same-standing n test b c (r ∷ rs) same =
    ap (λ o. add (test o) (standing_from (n + 1) test c rs))
    (same n (omega arith) (omega arith))
    ∙ ap (add (test (outcome_of n b)))
    (same-standing (n + 1) test b c rs
    (λ m low high. same m (omega (arith, low)) (omega (arith, high))))

-- where one of them stands otherwise, the number changes by that one
one-standing : (n : ℕ) (test : Option Outcome → Bool) (b c : machine.Bus) (rs : List Request)
    (k : ℕ) → n ≤ k → k < n + length rs
    → ((m : ℕ) → m ≢ k → outcome_of m c ≡ outcome_of m b)
    → add (test (outcome_of k b)) (standing_from n test c rs)
    ≡ add (test (outcome_of k c)) (standing_from n test b rs)
one-standing n test b c [] k low high same = absurd (omega (arith, low, high))
one-standing n test b c (r ∷ rs) k low high same =
    by (cases_eq n k)
    (λ l. one-standing (n + 1) test b c rs k l (omega (arith, high)) same)
  where
    later-b : ℕ
    later-b = standing_from (n + 1) test b rs

    later-c : ℕ
    later-c = standing_from (n + 1) test c rs

    by : (n ≡ k) ⊎ (n ≡ k → ⊥)
        → (n + 1 ≤ k → add (test (outcome_of k b)) later-c ≡ add (test (outcome_of k c)) later-b)
        → add (test (outcome_of k b)) (add (test (outcome_of n c)) later-c)
        ≡ add (test (outcome_of k c)) (add (test (outcome_of n b)) later-b)
    by (inl e) behind =
        let rest : later-c ≡ later-b =
        same-standing (n + 1) test b c rs
        (λ m l h. same m (λ is. omega (arith, l, is, e))) in
        ap (λ j. add (test (outcome_of k b)) (add (test (outcome_of n c)) j)) rest
        ∙ ap (λ j. add (test (outcome_of k b)) (add (test (outcome_of j c)) later-b)) e
        ∙ swap (test (outcome_of k b)) (test (outcome_of k c)) later-b
        ∙ ap (λ j. add (test (outcome_of k c)) (add (test (outcome_of j b)) later-b)) (sym e)
    by (inr ne) behind =
        let rest = behind (let l : n + 1 ≤ k = omega (arith, low, ne) in l) in
        ap (λ o. add (test (outcome_of k b)) (add (test o) later-c)) (same n ne)
        ∙ swap (test (outcome_of k b)) (test (outcome_of n b)) later-c
        ∙ ap (add (test (outcome_of n b))) rest
        ∙ swap (test (outcome_of n b)) (test (outcome_of k c)) later-b

-- Where requests and how they ended are the same, the counts are.
pub tells-same : (s : Tally) (b c : machine.Bus) → c.requests ≡ b.requests
    → ((m : ℕ) → outcome_of m c ≡ outcome_of m b) → Tells s b → Tells s c
tells-same s b c reqs same tells = record {
  requests = tells.requests ∙ ap length (sym reqs);
  answered = tells.answered ∙ sym (stand is_answered);
  cancelled = tells.cancelled ∙ sym (stand is_cancelled);
  timeout = tells.timeout ∙ sym (stand is_timed_out);
  disconnected = tells.disconnected ∙ sym (stand is_disconnected);
  sent = tells.sent ∙ sym (stand is_sent);
  left_open = tells.left_open ∙ sym (stand is_unended);
}
  where
    stand : (test : Option Outcome → Bool) → standing test c ≡ standing test b
    stand test =
        ap (standing_from 1 test c) reqs
        ∙ same-standing 1 test b c b.requests (λ m low high. same m)

-- a request that was made is one of them
within : (b : machine.Bus) (n : ℕ) (r : Request) → request_of n b ≡ Some r
    → (1 ≤ n) × (n < 1 + length b.requests)
within b zero r e = absurd cc
within b (suc k) r e = (omega arith, let l = inside k b.requests e in omega (arith, l))
  where
    inside : (i : ℕ) (rs : List Request) → slice_get rs i ≡ Some r → i < length rs
    inside i [] h = absurd cc
    inside zero (q ∷ rs) h = omega arith
    inside (suc i) (q ∷ rs) h = let l = inside i rs h in omega (arith, l)

-- ---- one more is counted

-- one more counts where it stands so
abbrev CountsSo : (Tally → ℕ) → (Option Outcome → Bool) → Type 0
CountsSo f test = (o : Option Outcome) (s : Tally) → f (with_counted o s) ≡ add (test o) (f s)

answered-so : CountsSo (λ s. s.answered) is_answered
answered-so None s = refl
answered-so (Some (outcome.Answered result payload)) s = refl
answered-so (Some outcome.Cancelled) s = refl
answered-so (Some outcome.Timeout) s = refl
answered-so (Some outcome.Disconnected) s = refl
answered-so (Some outcome.Sent) s = refl

cancelled-so : CountsSo (λ s. s.cancelled) is_cancelled
cancelled-so None s = refl
cancelled-so (Some (outcome.Answered result payload)) s = refl
cancelled-so (Some outcome.Cancelled) s = refl
cancelled-so (Some outcome.Timeout) s = refl
cancelled-so (Some outcome.Disconnected) s = refl
cancelled-so (Some outcome.Sent) s = refl

timeout-so : CountsSo (λ s. s.timeout) is_timed_out
timeout-so None s = refl
timeout-so (Some (outcome.Answered result payload)) s = refl
timeout-so (Some outcome.Cancelled) s = refl
timeout-so (Some outcome.Timeout) s = refl
timeout-so (Some outcome.Disconnected) s = refl
timeout-so (Some outcome.Sent) s = refl

disconnected-so : CountsSo (λ s. s.disconnected) is_disconnected
disconnected-so None s = refl
disconnected-so (Some (outcome.Answered result payload)) s = refl
disconnected-so (Some outcome.Cancelled) s = refl
disconnected-so (Some outcome.Timeout) s = refl
disconnected-so (Some outcome.Disconnected) s = refl
disconnected-so (Some outcome.Sent) s = refl

sent-so : CountsSo (λ s. s.sent) is_sent
sent-so None s = refl
sent-so (Some (outcome.Answered result payload)) s = refl
sent-so (Some outcome.Cancelled) s = refl
sent-so (Some outcome.Timeout) s = refl
sent-so (Some outcome.Disconnected) s = refl
sent-so (Some outcome.Sent) s = refl

left_open-so : CountsSo (λ s. s.left_open) is_unended
left_open-so None s = refl
left_open-so (Some (outcome.Answered result payload)) s = refl
left_open-so (Some outcome.Cancelled) s = refl
left_open-so (Some outcome.Timeout) s = refl
left_open-so (Some outcome.Disconnected) s = refl
left_open-so (Some outcome.Sent) s = refl

requests-stay : (o : Option Outcome) (s : Tally) → (with_counted o s).requests ≡ s.requests
requests-stay None s = refl
requests-stay (Some (outcome.Answered result payload)) s = refl
requests-stay (Some outcome.Cancelled) s = refl
requests-stay (Some outcome.Timeout) s = refl
requests-stay (Some outcome.Disconnected) s = refl
requests-stay (Some outcome.Sent) s = refl

-- ---- an open request ends

-- An open request ended, and the others are as they were.
pub tells-ended : (s t : Tally) (b c : machine.Bus) (n : ℕ) (how : Outcome) → is_open n b ≡ true
    → c.requests ≡ b.requests → outcome_of n c ≡ Some how
    → ((m : ℕ) → m ≢ n → outcome_of m c ≡ outcome_of m b)
    → t ≡ one_ended how s → Tells s b → Tells t c
tells-ended s t b c n how unended reqs is same counts tells =
    subst (λ v. Tells v c) (sym counts) (record {
      requests = requests-stay (Some how) less ∙ tells.requests ∙ ap length (sym reqs);
      answered = answered-so (Some how) less ∙ stand is_answered s.answered refl tells.answered;
      cancelled = cancelled-so (Some how) less
          ∙ stand is_cancelled s.cancelled refl tells.cancelled;
      timeout = timeout-so (Some how) less ∙ stand is_timed_out s.timeout refl tells.timeout;
      disconnected = disconnected-so (Some how) less
          ∙ stand is_disconnected s.disconnected refl tells.disconnected;
      sent = sent-so (Some how) less ∙ stand is_sent s.sent refl tells.sent;
      left_open = left_open-so (Some how) less ∙ fewer;
    })
  where
    less : Tally
    less = record s { left_open = s.left_open - 1 }

    moved : (test : Option Outcome → Bool)
        → add (test None) (standing test c) ≡ add (test (Some how)) (standing test b)
    moved test =
        let made = opened n b unended in
        let place = within b n made.0 made.1 in
        sym (ap (λ o. add (test o) (standing test c)) made.2)
        ∙ ap (λ rs. add (test (outcome_of n b)) (standing_from 1 test c rs)) reqs
        ∙ one-standing 1 test b c b.requests n place.0 place.1 same
        ∙ ap (λ o. add (test o) (standing test b)) is

    stand : (test : Option Outcome → Bool) (x : ℕ) → test None ≡ false → x ≡ standing test b
        → add (test (Some how)) x ≡ standing test c
    stand test x none h =
        ap (add (test (Some how))) h ∙ sym (moved test) ∙ ap (λ t. add t (standing test c)) none

    fewer : s.left_open - 1 ≡ standing is_unended c
    fewer = let e = moved is_unended in omega (arith, tells.left_open, e)

-- ---- one more request

standing-more : (n : ℕ) (test : Option Outcome → Bool) (b c : machine.Bus) (rs : List Request)
    (r : Request) → ((m : ℕ) → n ≤ m → m < n + length rs → outcome_of m c ≡ outcome_of m b)
    → standing_from n test c (rs ++ r ∷ [])
    ≡ add (test (outcome_of (n + length rs) c)) (standing_from n test b rs)
standing-more n test b c [] r same = ap (λ m. add (test (outcome_of m c)) 0) (omega arith)
standing-more n test b c (q ∷ rs) r same =
    ap (λ o. add (test o) (standing_from (n + 1) test c (rs ++ r ∷ [])))
    (same n (omega arith) (omega arith))
    ∙ ap (add (test (outcome_of n b)))
    (standing-more (n + 1) test b c rs r
    (λ m low high. same m (omega (arith, low)) (omega (arith, high)))
    ∙ ap (λ m. add (test (outcome_of m c)) (standing_from (n + 1) test b rs)) place)
    ∙ swap (test (outcome_of n b)) (test (outcome_of (n + length (q ∷ rs)) c))
    (standing_from (n + 1) test b rs)
  where
    place : n + 1 + length rs ≡ n + length (q ∷ rs)
    place = omega arith

-- One more request was made, and the others are as they were.
pub tells-made : (s t : Tally) (b c : machine.Bus) (r : Request) (how : Option Outcome)
    → c.requests ≡ b.requests ++ r ∷ [] → outcome_of (length b.requests + 1) c ≡ how
    → ((m : ℕ) → m ≤ length b.requests → outcome_of m c ≡ outcome_of m b)
    → t ≡ with_one how s → Tells s b → Tells t c
tells-made s t b c r how reqs is same counts tells =
    subst (λ v. Tells v c) (sym counts) (record {
      requests = requests-stay how more ∙ made;
      answered = answered-so how more ∙ stand is_answered s.answered tells.answered;
      cancelled = cancelled-so how more ∙ stand is_cancelled s.cancelled tells.cancelled;
      timeout = timeout-so how more ∙ stand is_timed_out s.timeout tells.timeout;
      disconnected = disconnected-so how more
          ∙ stand is_disconnected s.disconnected tells.disconnected;
      sent = sent-so how more ∙ stand is_sent s.sent tells.sent;
      left_open = left_open-so how more ∙ stand is_unended s.left_open tells.left_open;
    })
  where
    more : Tally
    more = record s { requests = s.requests + 1 }

    stand : (test : Option Outcome → Bool) (x : ℕ) → x ≡ standing test b
        → add (test how) x ≡ standing test c
    stand test x h =
        ap (add (test how)) h
        ∙ ap (λ o. add (test o) (standing test b))
        (sym is ∙ ap (λ m. outcome_of m c)
        (let p : length b.requests + 1 ≡ 1 + length b.requests = omega arith in p))
        ∙ sym (standing-more 1 test b c b.requests r
        (λ m low high. same m (omega (arith, high))))
        ∙ ap (standing_from 1 test c) (sym reqs)

    made : s.requests + 1 ≡ length c.requests
    made =
        ap (λ k. k + 1) tells.requests ∙ sym (length-append b.requests (r ∷ []))
        ∙ ap length (sym reqs)
