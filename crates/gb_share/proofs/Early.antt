-- What comes late in a history, by what was asked at its beginning.
use Rattle.std.proofs.Common.{◌≡◌, ℕ, zero, suc, ◌+◌, ◌<◌, ◌≤◌, ⊎_elim, Bool, true, false}
use Rattle.std.proofs.Common.{Some, List, [], ◌∷◌, ◌++◌, append_assoc, length, refl, sym}
use Rattle.std.proofs.Common.{ap, ◌∙◌, arith, subst}
use Rattle.std.proofs.lemmas.Bool.{cases_lt}
use Rattle.std.proofs.lemmas.List.{length-append}
use Rattle.std.specs.List.{slice_get}
use Rattle.std.specs.Prelude.{◌==◌, option_map}
use mathlib.Core.List.{IsPrefix}
use Rattle.gb_base.specs.declared.event.Event.{Event}
use Rattle.gb_base.specs.declared.journal.JournalEntry.{JournalEntry}
use Rattle.gb_base.specs.declared.parts.Asked.{Asked}
use Rattle.gb_formats.specs.Orders.{Merged}
use Rattle.gb_machine.specs.AskingEvents.{asks}
use Rattle.gb_machine.specs.Events.{step}
use Rattle.gb_machine.specs.Journal.{after, events_of}
use Rattle.gb_machine.specs.Shared.{done_in, request_by, requests_from}
use Rattle.gb_machine.specs.State.{State, first_state}
use Rattle.gb_share.specs.Doing.{events_by, one_if}
use Rattle.gb_share.specs.Fulls.{AskMost, ComeLate, DoAsk}
use Rattle.gb_share.specs.Lines.{before_full}
use Rattle.gb_share.specs.Placing.{marked}
use Rattle.gb_share.proofs.FullLines.{one_more}

-- ---- beginnings

-- of two beginnings of a list the shorter one is one of the longer one
pub shorter_first : {A : Type 0} (xs ys p q : List A) → xs ++ p ≡ ys ++ q → length xs ≤ length ys
    → IsPrefix xs ys
shorter_first [] ys p q is less = (ys, refl)
shorter_first (x ∷ xs) [] p q is less = absurd (omega arith)
shorter_first (x ∷ xs) (y ∷ ys) p q is less =
    let head : x ≡ y = cc in
    let tail : xs ++ p ≡ ys ++ q = cc in
    let later = shorter_first xs ys p q tail (omega arith) in
    (later.0, ap (λ z. z ∷ (xs ++ later.0)) head ∙ ap (λ l. y ∷ l) later.1)

pub events_both : (xs ys : List JournalEntry) → events_of (xs ++ ys) ≡ events_of xs ++ events_of ys
events_both [] ys = refl
events_both (x ∷ xs) ys = ap (λ l. x.event ∷ l) (events_both xs ys)

pub requests_both : (s : State) (es fs : List Event)
    → requests_from s (es ++ fs) ≡ requests_from s es ++ requests_from (after s es) fs
requests_both s [] fs = refl
requests_both s (e ∷ es) fs =
    ap (λ l. request_by s e ++ l) (requests_both (step s e).state es fs)
    ∙ sym (append_assoc (request_by s e) (requests_from (step s e).state es)
    (requests_from (after (step s e).state es) fs))

pub most_more : (es fs : List Event) → AskMost es → AskMost (es ++ fs)
most_more es fs most =
    let long = ap (λ (l : List ℕ). length l) (requests_both first_state es fs) in
    omega (
      arith,
      length-append (requests_from first_state es)
          (requests_from (after first_state es) fs),
    )

pub most_longer : (xs ys : List JournalEntry) → IsPrefix xs ys → AskMost (events_of xs)
    → AskMost (events_of ys)
most_longer xs ys p most =
    subst (λ (l : List Event). AskMost l) (sym (events_both xs p.0) ∙ ap (λ l. events_of l) p.1)
    (most_more (events_of xs) (events_of p.0) most)

-- ---- what comes late

fewer_first : (r : ℕ) (xs ys : List JournalEntry) → IsPrefix xs ys
    → length (events_by r xs) ≤ length (events_by r ys)
fewer_first r xs ys p =
    let long = ap (λ (l : List JournalEntry). length (events_by r l)) p.1 in
    let more = go xs p.0 in omega arith
  where
    go : (vs ws : List JournalEntry) → length (events_by r vs) ≤ length (events_by r (vs ++ ws))
    go [] ws = omega arith
    go (v ∷ vs) ws = one (v.by == r) (go vs ws)
      where
        one : (b : Bool) → length (events_by r vs) ≤ length (events_by r (vs ++ ws))
            → length (one_if b v.event ++ events_by r vs)
            ≤ length (one_if b v.event ++ events_by r (vs ++ ws))
        one true later = omega arith
        one false later = later

last_own : (front : List JournalEntry) (e : JournalEntry)
    → length (events_by e.by (front ++ e ∷ [])) ≡ suc (length (events_by e.by front))
last_own [] e = one_more e []
last_own (d ∷ ds) e = go (d.by == e.by) (last_own ds e)
  where
    go : (b : Bool) → length (events_by e.by (ds ++ e ∷ [])) ≡ suc (length (events_by e.by ds))
        → length (one_if b d.event ++ events_by e.by (ds ++ e ∷ []))
        ≡ suc (length (one_if b d.event ++ events_by e.by ds))
    go true later = ap suc later
    go false later = later

-- A beginning has asked that many requests, and has at most k events of a requester: the later
-- ones come late.
pub comes_late : (r k j : ℕ) (early journal : List JournalEntry) → IsPrefix early journal
    → AskMost (events_of early) → length (events_by r early) ≤ k → k ≤ j
    → ComeLate r j [] journal
comes_late r k j early journal p most few le front back e is by more =
    ⊎_elim
    (λ (short : length front < length early). absurd (
    let whole : (front ++ e ∷ []) ++ back ≡ early ++ p.0 =
    append_assoc front (e ∷ []) back ∙ (sym is ∙ sym p.1) in
    let begins = shorter_first (front ++ e ∷ []) early back p.0 whole
    (omega (arith, length-append front (e ∷ []))) in
    let fewer = fewer_first r (front ++ e ∷ []) early begins in
    let own = subst (λ n. length (events_by n (front ++ e ∷ [])) ≡ suc (length (events_by n front)))
    by (last_own front e) in omega arith))
    (λ (long : length early ≤ length front).
    most_longer early front (shorter_first early front p.0 (e ∷ back) (p.1 ∙ is) long) most)
    (cases_lt (length front) (length early))

-- ---- lines with their marks

-- a full line, and how many lines were done before the first of these
pub record IsBehind (fs : List Bool) (done : ℕ) : Type 0 where
  pub count : ℕ
  pub is : before_full fs ≡ Some count
  pub less : count ≤ done

behind_done : (fs : List Bool) (n : ℕ) → IsBehind fs n → IsBehind (false ∷ fs) (suc n)
behind_done fs n b = record {
  count = b.count + 1;
  is = ap (λ o. option_map (λ m. m + 1) o) b.is;
  less = (let less = b.less in omega arith);
}

pub full_at : (ls : List Asked) (fs : List Bool) (front back : List Merged) (a : Asked)
    → marked ls fs ≡ front ++ (a, true) ∷ back → IsBehind fs (length (done_in front))
full_at [] fs [] back a is = absurd cc
full_at [] fs (m ∷ front) back a is = absurd cc
full_at (l ∷ ls) [] [] back a is = absurd cc
full_at (l ∷ ls) [] (m ∷ front) back a is = absurd cc
full_at (l ∷ ls) (true ∷ fs) front back a is = record {
  count = 0;
  is = refl;
  less = omega arith;
}
full_at (l ∷ ls) (false ∷ fs) [] back a is =
    let head = ap (λ (ms : List Merged). first ms) is in absurd cc
  where
    first : List Merged → Bool
    first [] = false
    first (m ∷ ms) = m.1
full_at (l ∷ ls) (false ∷ fs) (m ∷ front) back a is =
    let head : m ≡ (l, false) = cc in
    let tail : marked ls fs ≡ front ++ (a, true) ∷ back = cc in
    subst (λ (x : Merged). IsBehind (false ∷ fs) (length (done_in (x ∷ front)))) (sym head)
    (behind_done fs (length (done_in front)) (full_at ls fs front back a tail))

pub asks_all : (all : List Event) (ls : List Asked) (fs : List Bool)
    → ((n : ℕ) (l : Asked) → slice_get ls n ≡ Some l → slice_get fs n ≡ Some true
    → asks l.event ≡ true)
    → ((k : ℕ) → before_full fs ≡ Some k → AskMost all) → DoAsk all (marked ls fs)
asks_all all [] fs asking most = tt
asks_all all (x ∷ xs) [] asking most = tt
asks_all all (x ∷ xs) (f ∷ fs) asking most = (
  (λ full. (
    asking zero x refl (ap (λ b. Some b) full),
    most 0 (ap (λ b. before_full (b ∷ fs)) full),
  )),
  asks_all all xs fs (λ n l line mark. asking (suc n) l line mark) (later f most),
)
  where
    later : (g : Bool) → ((k : ℕ) → before_full (g ∷ fs) ≡ Some k → AskMost all) → (k : ℕ)
        → before_full fs ≡ Some k → AskMost all
    later true all_most k is = all_most 0 refl
    later false all_most k is = all_most (k + 1) (ap (λ o. option_map (λ m. m + 1) o) is)
