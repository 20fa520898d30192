-- What the last requests are, once a request or a response comes.
use Rattle.std.proofs.Common.{◌≡◌, ◌≢◌, ◌<◌, ℕ, ◌==◌, ◌&&◌, ◌||◌, Bool, true, false, not}
use Rattle.std.proofs.Common.{cond, Option, Some, None, List, ◌∷◌, refl, ap, ◌∙◌, option_map}
use Rattle.std.proofs.Common.{arith}
use Rattle.std.proofs.lemmas.Bool.Decides.{nat_tests}
use Rattle.gb_formats.specs.Audit.{answered_type, is_response}
use Rattle.gb_formats.specs.Message.{request, response}
use Rattle.gb_hearing.specs.Hearing.{Spoken}
use Rattle.gb_invariants.proofs.Outcomes.{is-same}
use Rattle.gb_hearing.proofs.Lasts.{Last, answered_more, answers, asks, last, more}

-- ---- types

pub asks-low : (label kind : ℕ) (payload : List ℕ) → kind < 128
    → is_response (request label kind payload) ≡ false
asks-low label kind payload low = grind (arith, nat_tests)

pub responds-high : (label kind result : ℕ) (payload : List ℕ)
    → is_response (response label kind result payload) ≡ true
responds-high label kind result payload = grind (arith, nat_tests)

pub answers-type : (label kind result : ℕ) (payload : List ℕ) → kind < 128
    → answered_type (response label kind result payload) ≡ kind
answers-type label kind result payload low = omega (arith, low)

pub is-zero : (n : ℕ) → n ≡ 0 → (n == 0) ≡ true
is-zero n e = grind (arith, nat_tests)

other-id : (m n : ℕ) → m ≢ n → (m == n) ≡ false
other-id m n other = grind (arith, nat_tests)

-- ---- what doesn't change

no-last : (a b : Bool) → (a && false && b) ≡ false
no-last true b = refl
no-last false b = refl

no-more : (a : Bool) → (a && false) ≡ false
no-more true = refl
no-more false = refl

-- a message that is no request of this way with this identifier, and no response to one
unmoved : (way : Bool) (v : ℕ) (x : Spoken) (past : List Spoken) → asks way v x ≡ false
    → ((kind : ℕ) → answers way v kind x ≡ false) → last way v (x ∷ past) ≡ last way v past
unmoved way v x past asks_none none =
    ap (λ b. cond b (Some (x.1.kind, false)) (option_map (answered_more way v x) (last way v past)))
    asks_none ∙ same (last way v past)
  where
    same : (o : Option Last) → option_map (answered_more way v x) o ≡ o
    same None = refl
    same (Some l) = ap (λ b. Some (l.0, b || l.1)) (none l.0)

-- ---- a request comes

pub asked-here : (way : Bool) (label kind : ℕ) (payload : List ℕ) (past : List Spoken) → kind < 128
    → last way label ((way, request label kind payload) ∷ past) ≡ Some (kind, false)
asked-here way label kind payload past low = by way
  where
    low_is : is_response (request label kind payload) ≡ false
    low_is = asks-low label kind payload low

    here : (o : Option Last) → cond (not (is_response (request label kind payload))
        && label == label) (Some (kind, false)) o ≡ Some (kind, false)
    here o = ap (λ b. cond (not b && label == label) (Some (kind, false)) o) low_is
        ∙ ap (λ b. cond b (Some (kind, false)) o) (is-same label)

    by : (w : Bool) → last w label ((w, request label kind payload) ∷ past) ≡ Some (kind, false)
    by true = here _
    by false = here _

pub asked-other : (way : Bool) (label kind : ℕ) (payload : List ℕ) (past : List Spoken) → kind < 128
    → (v : ℕ) → label ≢ v → last way v ((way, request label kind payload) ∷ past) ≡ last way v past
asked-other way label kind payload past low v other = by way
  where
    x : Spoken
    x = (way, request label kind payload)

    differs : not (is_response (request label kind payload)) && label == v ≡ false
    differs = ap (λ b. not (is_response (request label kind payload)) && b) (other-id label v other)
        ∙ no-more (not (is_response (request label kind payload)))

    by : (w : Bool) → last w v ((w, request label kind payload) ∷ past) ≡ last w v past
    by true = unmoved true v (true, request label kind payload) past differs (λ k. refl)
    by false = unmoved false v (false, request label kind payload) past differs (λ k. refl)

pub asked-way : (way : Bool) (label kind : ℕ) (payload : List ℕ) (past : List Spoken) → kind < 128
    → (v : ℕ) → last (not way) v ((way, request label kind payload) ∷ past) ≡ last (not way) v past
asked-way way label kind payload past low v = by way
  where
    low_is : is_response (request label kind payload) ≡ false
    low_is = asks-low label kind payload low

    none : (k : ℕ) → is_response (request label kind payload) && label == v
        && answered_type (request label kind payload) == k ≡ false
    none k = ap (λ b. b && label == v && answered_type (request label kind payload) == k) low_is

    by : (w : Bool) → last (not w) v ((w, request label kind payload) ∷ past) ≡ last (not w) v past
    by true = unmoved false v (true, request label kind payload) past refl none
    by false = unmoved true v (false, request label kind payload) past refl none

-- ---- a response comes

pub answered-here : (way : Bool) (label kind result : ℕ) (payload : List ℕ) (past : List Spoken)
    → kind < 128 → last (not way) label past ≡ Some (kind, false)
    → last (not way) label ((way, response label kind result payload) ∷ past) ≡ Some (kind, true)
answered-here way label kind result payload past low is = by way is
  where
    high : is_response (response label kind result payload) ≡ true
    high = responds-high label kind result payload

    fits : is_response (response label kind result payload) && label == label
        && answered_type (response label kind result payload) == kind ≡ true
    fits = ap (λ b. b && label == label
        && answered_type (response label kind result payload) == kind) high
        ∙ ap (λ b. b && answered_type (response label kind result payload) == kind) (is-same label)
        ∙ ap (λ k. k == kind) (answers-type label kind result payload low) ∙ is-same kind

    by : (w : Bool) → last (not w) label past ≡ Some (kind, false)
        → last (not w) label ((w, response label kind result payload) ∷ past) ≡ Some (kind, true)
    by true e =
        ap (λ o. more false label (true, response label kind result payload) o) e
        ∙ ap (λ b. Some (kind, b || false)) fits
    by false e =
        ap (λ o. more true label (false, response label kind result payload) o) e
        ∙ ap (λ b. Some (kind, b || false)) fits

pub answered-other : (way : Bool) (label kind result : ℕ) (payload : List ℕ) (past : List Spoken)
    → (v : ℕ) → label ≢ v
    → last (not way) v ((way, response label kind result payload) ∷ past) ≡ last (not way) v past
answered-other way label kind result payload past v other = by way
  where
    high : is_response (response label kind result payload) ≡ true
    high = responds-high label kind result payload

    none : (k : ℕ) → is_response (response label kind result payload) && label == v
        && answered_type (response label kind result payload) == k ≡ false
    none k =
        ap (λ b. is_response (response label kind result payload) && b
        && answered_type (response label kind result payload) == k) (other-id label v other)
        ∙ no-last (is_response (response label kind result payload))
        (answered_type (response label kind result payload) == k)

    by : (w : Bool) → last (not w) v ((w, response label kind result payload) ∷ past)
        ≡ last (not w) v past
    by true = unmoved false v (true, response label kind result payload) past refl none
    by false = unmoved true v (false, response label kind result payload) past refl none

pub answered-way : (way : Bool) (label kind result : ℕ) (payload : List ℕ) (past : List Spoken)
    → (v : ℕ) → last way v ((way, response label kind result payload) ∷ past) ≡ last way v past
answered-way way label kind result payload past v = by way
  where
    high : is_response (response label kind result payload) ≡ true
    high = responds-high label kind result payload

    none : not (is_response (response label kind result payload)) && label == v ≡ false
    none = ap (λ b. not b && label == v) high

    by : (w : Bool) → last w v ((w, response label kind result payload) ∷ past) ≡ last w v past
    by true = unmoved true v (true, response label kind result payload) past none (λ k. refl)
    by false = unmoved false v (false, response label kind result payload) past none (λ k. refl)
