-- Whether there is room for a further request, by the tickets of a pass.
use Rattle.std.proofs.Common.{◌≡◌, ◌⊎◌, ℕ, ◌≤◌, inl, inr, ⊎_elim, Bool, true, false, Option, Some}
use Rattle.std.proofs.Common.{None, List, [], ◌∷◌, refl, sym, ap, ◌∙◌, subst, arith}
use Rattle.std.proofs.lemmas.Bool.Decides.{nat_tests}
use Rattle.std.specs.List.{filter, list_any}
use Rattle.std.specs.Prelude.{◌==◌, ◌||◌, is_none, nat_le}
use Rattle.gb_base.specs.declared.journal.JournalEntry.{JournalEntry}
use Rattle.gb_base.specs.declared.name.Name.{Name}
use Rattle.gb_base.specs.declared.outcome.Outcome.{Outcome}
use Rattle.gb_desk.specs.Calls.{AreTaken}
use Rattle.gb_desk.specs.Slots.{requests_in}
use Rattle.gb_desk.specs.Slots as slots
use Rattle.gb_desk.specs.Tickets.{HasTicket}
use Rattle.gb_desk.specs.declared.ticket.Ticket.{Ticket}
use Rattle.gb_machine.specs.Bus.{outcome_of}
use Rattle.gb_machine.specs.Members.{IsIn, times}
use Rattle.gb_machine.specs.Shared.{is_in_use}
use Rattle.gb_machine.specs.State.{State}
use Rattle.gb_share.proofs.HandNames.{named_ticket, ticket_named}
use Rattle.gb_share.proofs.Requests.{few_pass, filter_in, filter_long, filter_times}
use Rattle.gb_share.specs.Names.{AreNames}
use Rattle.gb_share.specs.Tickets.{AreHeld}
use Rattle.gb_share.specs.declared.hand.Held.{Held}

-- ---- what is in use

either : (a b : Bool) → (a || b) ≡ true → (a ≡ true) ⊎ (b ≡ true)
either true b is = inl refl
either false b is = inr is

is_open : (o : Option Outcome) → is_none o ≡ true → o ≡ None
is_open None is = refl
is_open (Some how) is = absurd cc

-- a number among names
any_named : (n : ℕ) (ps : List (Name × ℕ)) → list_any (λ p. p.1 == n) ps ≡ true
    → (p : Name × ℕ) × IsIn p ps × (p.1 ≡ n)
any_named n [] is = absurd cc
any_named n (p ∷ ps) is = ⊎_elim
    (λ (here : (p.1 == n) ≡ true).
    (p, inl refl, (let same : p.1 ≡ n = grind (arith, nat_tests) in same)))
    (λ (later : list_any (λ q. q.1 == n) ps ≡ true).
    (let rec = any_named n ps later in (rec.0, inr rec.1, rec.2)))
    (either (p.1 == n) (list_any (λ q. q.1 == n) ps) is)

named_any : (p : Name × ℕ) (ps : List (Name × ℕ)) → IsIn p ps
    → list_any (λ q. q.1 == p.1) ps ≡ true
named_any p [] i = absurd i
named_any p (q ∷ qs) (inl is) =
    let here : (q.1 == p.1) ≡ true =
    (let same = ap (λ (x : Name × ℕ). x.1) is in grind (arith, nat_tests)) in
    ap (λ b. b || list_any (λ (x : Name × ℕ). x.1 == p.1) qs) here
named_any p (q ∷ qs) (inr i) =
    ap (λ b. (q.1 == p.1) || b) (named_any p qs i) ∙ or_true (q.1 == p.1)
  where
    or_true : (b : Bool) → (b || true) ≡ true
    or_true true = refl
    or_true false = refl

-- a request in use is open, or has a ticket
used_why : (t : State) (hs : List Held) (ts : List Ticket) (n : ℕ) → AreNames t hs
    → AreHeld hs ts → is_in_use t n ≡ true → (outcome_of n t.bus ≡ None) ⊎ HasTicket ts n
used_why t hs ts n names held is = ⊎_elim
    (λ (o : is_none (outcome_of n t.bus) ≡ true). inl (is_open (outcome_of n t.bus) o))
    (λ (k : list_any (λ p. p.1 == n) t.names ≡ true).
    (let some = any_named n t.names k in
    inr (subst (HasTicket ts) some.2
    (named_ticket hs ts some.0 held (subst (IsIn some.0) names.names some.1)))))
    (either (is_none (outcome_of n t.bus)) (list_any (λ p. p.1 == n) t.names) is)

-- and the other way round
why_used : (t : State) (hs : List Held) (ts : List Ticket) (n : ℕ) → AreNames t hs
    → AreHeld hs ts → (outcome_of n t.bus ≡ None) ⊎ HasTicket ts n → is_in_use t n ≡ true
why_used t hs ts n names held why = ⊎_elim
    (λ (o : outcome_of n t.bus ≡ None).
    ap (λ p. is_none p || list_any (λ q. q.1 == n) t.names) o)
    (λ (k : HasTicket ts n).
    (let some = ticket_named hs ts n held k in
    ap (λ b. is_none (outcome_of n t.bus) || b)
    (named_any (some.0, n) t.names (subst (IsIn (some.0, n)) (sym names.names) some.1))
    ∙ or_true (is_none (outcome_of n t.bus))))
    why
  where
    or_true : (b : Bool) → (b || true) ≡ true
    or_true true = refl
    or_true false = refl

-- ---- room

-- Where there is no room, 256 requests are open or have a ticket.
pub none_taken : (t : State) (h : List JournalEntry) (made : List ℕ) (hs : List Held)
    (ts : List Ticket) → requests_in h ≡ made → ((n : ℕ) → slots.times n made ≤ 1)
    → AreNames t hs → AreHeld hs ts → nat_le 256 (times (is_in_use t) made) ≡ true
    → AreTaken t h (HasTicket ts)
none_taken t h made hs ts same once names held full = record {
  numbers = filter (is_in_use t) made;
  enough = (
      let long = filter_long (is_in_use t) made in
      let most : 256 ≤ times (is_in_use t) made = grind (arith, nat_tests) in omega arith);
  once = λ n. (
      let fewer = filter_times (is_in_use t) n made in let one = once n in omega arith);
  each = λ n i. (
      let e = filter_in (is_in_use t) n made i in
      (subst (IsIn n) (sym same) e.0, used_why t hs ts n names held e.1));
}

-- Where 256 requests are open or have a ticket, there is none.
pub taken_none : (t : State) (h : List JournalEntry) (made : List ℕ) (hs : List Held)
    (ts : List Ticket) (so : ℕ → Type 0) → requests_in h ≡ made → AreNames t hs → AreHeld hs ts
    → ((n : ℕ) → so n → HasTicket ts n) → AreTaken t h so
    → nat_le 256 (times (is_in_use t) made) ≡ true
taken_none t h made hs ts so same names held has taken =
    let most = few_pass (is_in_use t) taken.numbers made taken.once
    (λ n i. (let e = taken.each n i in (
      subst (IsIn n) same e.0,
      why_used t hs ts n names held (⊎_elim (λ o. inl o) (λ k. inr (has n k)) e.1),
    ))) in
    let enough = taken.enough in
    let all : 256 ≤ times (is_in_use t) made = omega arith in
    grind (arith, nat_tests)
