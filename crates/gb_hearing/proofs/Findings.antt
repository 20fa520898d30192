-- Messages of which nothing is found, by the last requests before them.
use Rattle.std.proofs.Common.{◌≡◌, ℕ, ◌+◌, ◌==◌, Bool, true, false, not, cond, Option, Some}
use Rattle.std.proofs.Common.{None, List, [], ◌∷◌, ◌++◌, refl, sym, ap, ◌∙◌, option_map, map}
use Rattle.std.specs.List.{cons_option, find}
use Rattle.gb_base.specs.declared.audit.Finding.{Finding}
use Rattle.gb_formats.specs.Audit.{answered_type, each_after, finding_of, found_of, is_answered}
use Rattle.gb_formats.specs.Audit.{is_request_of, is_response, request_finding, response_finding}
use Rattle.gb_formats.specs.Audit.{at_line}
use Rattle.gb_formats.specs.Captures.{Heard}
use Rattle.gb_hearing.specs.Hearing.{Spoken, in_lines}
use Rattle.gb_invariants.proofs.Outcomes.{is-same}
use Rattle.gb_hearing.proofs.Lasts.{Last, last, last-is, last_of, spoken}

-- Nothing is found of a message: it is a request that gets no response, or one whose identifier is
-- free, or the response to the last request of its identifier.
pub data Fits (past : List Spoken) (x : Spoken) : Type 0 where
  plain : is_response x.1 ≡ false → (x.1.id == 0) ≡ true → Fits past x
  anew : is_response x.1 ≡ false
      → ((kind : ℕ) → last x.0 x.1.id past ≡ Some (kind, false) → ⊥) → Fits past x
  responds : is_response x.1 ≡ true → (x.1.id == 0) ≡ false
      → last (not x.0) x.1.id past ≡ Some (answered_type x.1, false) → Fits past x

-- Nothing is found of any message.
abbrev pub AllFit : List Spoken → Type 0
AllFit [] = Unit {0}
AllFit (x ∷ past) = Fits past x × AllFit past

-- messages behind others
abbrev pub onto : List Spoken → List Spoken → List Spoken
onto past [] = past
onto past (x ∷ xs) = onto (x ∷ past) xs

pub onto-append : (past xs ys : List Spoken) → onto past (xs ++ ys) ≡ onto (onto past xs) ys
onto-append past [] ys = refl
onto-append past (x ∷ xs) ys = onto-append (x ∷ past) xs ys

pub onto-start : (past xs : List Spoken) → AllFit (onto past xs) → AllFit past
onto-start past [] h = h
onto-start past (x ∷ xs) h = (onto-start (x ∷ past) xs h).1

-- ---- one message

-- what is found, where it is known whether a message is a response, and whether it
-- has an identifier
abbrev finding_if : Bool → Bool → List Heard → Heard → Option Finding
finding_if response none past m =
    let way = cond response (not m.from_ap) m.from_ap in
    let q = cond (not none) (find (is_request_of way m.message.id) past) None in
    cond response (response_finding past m q) (request_finding past q)

-- of a request, by the last one
free-none : (past : List Heard) (o : Option Heard)
    → ((kind : ℕ) → option_map (last_of past) o ≡ Some (kind, false) → ⊥)
    → request_finding past o ≡ None
free-none past None free = refl
free-none past (Some q) free = by (is_answered past q) refl
  where
    by : (b : Bool) → is_answered past q ≡ b → request_finding past (Some q) ≡ None
    by true e = ap (λ b. cond b None (Some (Finding.Reused q.line))) e
    by false e = absurd (free q.message.kind (ap (λ b. Some (q.message.kind, b)) e))

-- of a response, by the last one
pair-none : (past : List Heard) (m : Heard) (o : Option Heard)
    → option_map (last_of past) o ≡ Some (answered_type m.message, false)
    → response_finding past m o ≡ None
pair-none past m None e = absurd cc
pair-none past m (Some q) e =
    let is = same-last (last_of past q) (answered_type m.message, false) e in
    ap (λ b. cond b (Some (Finding.Double q.line)) (cond (answered_type m.message == q.message.kind)
    None (Some (Finding.OtherType q.line)))) (ap (λ (l : Last). l.1) is)
    ∙ ap (λ b. cond b None (Some (Finding.OtherType q.line)))
    (ap (λ k. answered_type m.message == k) (ap (λ (l : Last). l.0) is)
    ∙ is-same (answered_type m.message))
  where
    same-last : (x y : Last) → Some x ≡ Some y → x ≡ y
    same-last x y e = cc

pub fits-none : (past : List Heard) (m : Heard) → Fits (map spoken past) (spoken m)
    → finding_of past m ≡ None
fits-none past m (plain asks none) =
    ap (λ b. finding_if b (m.message.id == 0) past m) asks
    ∙ ap (λ b. finding_if false b past m) none
fits-none past m (anew asks free) =
    ap (λ b. finding_if b (m.message.id == 0) past m) asks ∙ by (m.message.id == 0)
  where
    by : (b : Bool) → finding_if false b past m ≡ None
    by true = refl
    by false = free-none past (find (is_request_of m.from_ap m.message.id) past)
        (λ kind e. free kind (sym (last-is m.from_ap m.message.id past) ∙ e))
fits-none past m (responds is some own) =
    ap (λ b. finding_if b (m.message.id == 0) past m) is
    ∙ ap (λ b. finding_if true b past m) some
    ∙ pair-none past m (find (is_request_of (not m.from_ap) m.message.id) past)
    (last-is (not m.from_ap) m.message.id past ∙ own)

-- ---- all messages

-- Where nothing is found of any message, a capture of them has no finding.
pub all-none : (past : List Heard) (n : ℕ) (xs : List Spoken) → AllFit (onto (map spoken past) xs)
    → each_after found_of past (in_lines n xs) ≡ []
all-none past n [] h = refl
all-none past n (x ∷ xs) h =
    let m : Heard = record { line = n; from_ap = x.0; message = x.1 } in
    ap (λ o. cons_option (at_line n o) (each_after found_of (m ∷ past) (in_lines (n + 1) xs)))
    (fits-none past m (onto-start (x ∷ map spoken past) xs h).0)
    ∙ all-none (m ∷ past) (n + 1) xs h
