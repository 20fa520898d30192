-- Names that tickets have, one by one.
use Rattle.std.proofs.Common.{◌≡◌, ℕ, zero, suc, ◌+◌, ◌<◌, Bool, true, false, Option, Some, None}
use Rattle.std.proofs.Common.{List, [], ◌∷◌, ◌++◌, length, refl, sym, ap, ◌∙◌, arith, take, drop}
use Rattle.std.proofs.Common.{inl, inr, subst}
use Rattle.std.proofs.Math.ListN.{get_or}
use Rattle.std.specs.List.{AllWithin, HoldsAt}
use Rattle.std.specs.Prelude.{if◌then◌else◌, not, MatchOption, option_map}
use Rattle.gb_base.specs.declared.name.Name.{Name}
use Rattle.gb_desk.specs.Tickets.{HasTicket}
use Rattle.gb_desk.specs.declared.ticket.Ticket.{Ticket}
use Rattle.gb_invariants.proofs.Counts.{one, times-cons, times-some}
use Rattle.gb_machine.specs.Lists.{without}
use Rattle.gb_machine.specs.Members.{IsIn, times}
use Rattle.gb_machine.specs.Names.{named, same_name}
use Rattle.gb_share.proofs.HeldTickets.{is_same, same_ticket, some_in}
use Rattle.gb_share.proofs.NameSteps.{named_too}
use Rattle.gb_share.specs.Names.{names_of, place_of, ticket_by, without_name}
use Rattle.gb_share.specs.Tickets.{with_held, AreHeld, is_held, is_ticket}
use Rattle.gb_share.specs.declared.hand.Held.{Held}
use Rattle.gb_system.specs.NameOrder.{AreApart, name_equiv}

-- the number of a ticket
abbrev pub number_of : Ticket → ℕ
number_of t = t.number

-- ---- one name

-- what a name names is the request of its ticket
pub named_by : (name : Name) (hs : List Held)
    → named name (names_of hs) ≡ option_map number_of (ticket_by name hs)
named_by name [] = refl
named_by name (h ∷ hs) = by (same_name h.name name) (named_by name hs)
  where
    by : (b : Bool) → named name (names_of hs) ≡ option_map number_of (ticket_by name hs)
        → (if b then Some h.ticket.number else named name (names_of hs))
        ≡ option_map number_of (if b then Some h.ticket else ticket_by name hs)
    by true rec = refl
    by false rec = rec

-- a name more
pub names_with : (name : Name) (o : Option Ticket) (hs : List Held)
    → names_of (with_held name o hs) ≡ named_too name (option_map number_of o) (names_of hs)
names_with name None hs = refl
names_with name (Some t) [] = refl
names_with name (Some t) (h ∷ hs) =
    ap (λ ps. (h.name, h.ticket.number) ∷ ps) (names_with name (Some t) hs)

-- nothing goes where no name is this one
without_none : (name : Name) (ps : List (Name × ℕ)) → named name ps ≡ None
    → without (λ p. same_name p.0 name) ps ≡ ps
without_none name [] none = refl
without_none name (p ∷ ps) none =
    by (same_name p.0 name) none (without_none name ps)
  where
    by : (b : Bool) → (if b then Some p.1 else named name ps) ≡ None
        → (named name ps ≡ None → without (λ q. same_name q.0 name) ps ≡ ps)
        → (if not b then p ∷ without (λ q. same_name q.0 name) ps
        else without (λ q. same_name q.0 name) ps) ≡ p ∷ ps
    by true e rec = absurd cc
    by false e rec = ap (λ qs. p ∷ qs) (rec e)

-- names that are one name the same
named_same : (a b : Name) (ps : List (Name × ℕ)) → same_name a b ≡ true
    → named a ps ≡ None → named b ps ≡ None
named_same a b [] same none = refl
named_same a b (p ∷ ps) same none =
    by (same_name p.0 a) refl (same_name p.0 b) refl none (named_same a b ps same)
  where
    by : (s : Bool) → same_name p.0 a ≡ s → (t : Bool) → same_name p.0 b ≡ t
        → (if s then Some p.1 else named a ps) ≡ None → (named a ps ≡ None → named b ps ≡ None)
        → (if t then Some p.1 else named b ps) ≡ None
    by true is t it e rec = absurd cc
    by false is false it e rec = rec e
    by false is true it e rec =
        let one = name_equiv.congr p.0 b a it in
        let back = name_equiv.symm a b in
        absurd (cc (is, one, same, back))

-- a name less
pub names_without : (name : Name) (hs : List Held) → AreApart (names_of hs)
    → without (λ p. same_name p.0 name) (names_of hs) ≡ names_of (without_name name hs)
names_without name [] apart = refl
names_without name (h ∷ hs) apart =
    by (same_name h.name name) refl (names_without name hs apart.1)
  where
    p : Name × ℕ
    p = (h.name, h.ticket.number)

    by : (b : Bool) → same_name h.name name ≡ b
        → without (λ q. same_name q.0 name) (names_of hs) ≡ names_of (without_name name hs)
        → (if not b
        then (h.name, h.ticket.number) ∷ without (λ q. same_name q.0 name) (names_of hs)
        else without (λ q. same_name q.0 name) (names_of hs))
        ≡ names_of (if b then hs else h ∷ without_name name hs)
    by true is rec =
        without_none name (names_of hs) (named_same h.name name (names_of hs) is apart.0)
    by false is rec = ap (λ ps. (h.name, h.ticket.number) ∷ ps) rec

-- ---- the place of a name

none_before : (o : Option ℕ) → option_map suc o ≡ None → o ≡ None
none_before None e = refl
none_before (Some k) e = absurd cc

-- the first place at which the name stands
pub place_is : (hs : List Held) (name : Name) (r : Option ℕ)
    → MatchOption r (AllWithin (λ (h : Held). same_name h.name name ≡ false) hs 0 (length hs))
    (λ i. (i < length hs) × HoldsAt (λ (h : Held). same_name h.name name ≡ true) hs i
    × AllWithin (λ (h : Held). same_name h.name name ≡ false) hs 0 i)
    → r ≡ place_of name hs
place_is [] name None m = refl
place_is [] name (Some i) m = absurd (let low = m.0 in omega arith)
place_is (h ∷ hs) name None m =
    let rec = place_is hs name None (λ k d low high. m (suc k) d (omega arith) (omega arith)) in
    sym (ap (λ b. if b then Some 0 else option_map suc (place_of name hs))
    (m 0 h (omega arith) (omega arith)) ∙ ap (option_map suc) (sym rec))
place_is (h ∷ hs) name (Some zero) m =
    sym (ap (λ b. if b then Some 0 else option_map suc (place_of name hs)) (m.1 h))
place_is (h ∷ hs) name (Some (suc i)) m =
    let low = m.0 in
    let rec = place_is hs name (Some i) (
      (let here : i < length hs = omega arith in here),
      (λ d. m.1 d),
      (λ k d least high. m.2 (suc k) d (omega arith) (omega arith)),
    ) in
    sym (ap (λ b. if b then Some 0 else option_map suc (place_of name hs))
    (m.2 0 h (omega arith) (omega arith)) ∙ ap (option_map suc) (sym rec))

-- a name that has no place has no ticket
pub ticket_none : (name : Name) (hs : List Held) → place_of name hs ≡ None
    → ticket_by name hs ≡ None
ticket_none name [] none = refl
ticket_none name (h ∷ hs) none = by (same_name h.name name) none (ticket_none name hs)
  where
    by : (b : Bool) → (if b then Some 0 else option_map suc (place_of name hs)) ≡ None
        → (place_of name hs ≡ None → ticket_by name hs ≡ None)
        → (if b then Some h.ticket else ticket_by name hs) ≡ None
    by true e rec = absurd cc
    by false e rec = rec (none_before (place_of name hs) e)

-- and isn't taken away
pub without_same : (name : Name) (hs : List Held) → place_of name hs ≡ None
    → without_name name hs ≡ hs
without_same name [] none = refl
without_same name (h ∷ hs) none = by (same_name h.name name) none (without_same name hs)
  where
    by : (b : Bool) → (if b then Some 0 else option_map suc (place_of name hs)) ≡ None
        → (place_of name hs ≡ None → without_name name hs ≡ hs)
        → (if b then hs else h ∷ without_name name hs) ≡ h ∷ hs
    by true e rec = absurd cc
    by false e rec = ap (λ ks. h ∷ ks) (rec (none_before (place_of name hs) e))

-- what stands at the place of a name
pub record IsPlace (name : Name) (hs : List Held) (k : ℕ) : Type 0 where
  pub within : k < length hs
  pub ticket : (h : Held) → h ≡ get_or hs k h → ticket_by name hs ≡ Some h.ticket
  pub without : take k hs ++ drop (suc k) hs ≡ without_name name hs

pub at_place : (name : Name) (hs : List Held) (k : ℕ) → place_of name hs ≡ Some k
    → IsPlace name hs k
at_place name [] k is = absurd cc
at_place name (h ∷ hs) k is = by (same_name h.name name) refl k is (at_place name hs)
  where
    first : same_name h.name name ≡ true → IsPlace name (h ∷ hs) 0
    first same = record {
      within = omega arith;
      ticket = λ g here. ap (λ b. if b then Some h.ticket else ticket_by name hs) same
          ∙ ap (λ (x : Held). Some x.ticket) (sym here);
      without = sym (ap (λ b. if b then hs else h ∷ without_name name hs) same);
    }

    later : same_name h.name name ≡ false → (j : ℕ) → IsPlace name hs j
        → IsPlace name (h ∷ hs) (suc j)
    later other j p = let low = p.within in record {
      within = omega arith;
      ticket = λ g here. ap (λ b. if b then Some h.ticket else ticket_by name hs) other
          ∙ p.ticket g here;
      without = ap (λ ks. h ∷ ks) p.without
          ∙ sym (ap (λ b. if b then hs else h ∷ without_name name hs) other);
    }

    by : (b : Bool) → same_name h.name name ≡ b → (k : ℕ)
        → (if b then Some 0 else option_map suc (place_of name hs)) ≡ Some k
        → ((j : ℕ) → place_of name hs ≡ Some j → IsPlace name hs j) → IsPlace name (h ∷ hs) k
    by true same k e rec =
        subst (IsPlace name (h ∷ hs)) (let at : 0 ≡ k = cc in at) (first same)
    by false other k e rec = behind (place_of name hs) refl k e
      where
        behind : (o : Option ℕ) → place_of name hs ≡ o → (k : ℕ) → option_map suc o ≡ Some k
            → IsPlace name (h ∷ hs) k
        behind None there k e = absurd cc
        behind (Some j) there k e =
            subst (IsPlace name (h ∷ hs)) (let at : suc j ≡ k = cc in at)
            (later other j (rec j there))

-- ---- tickets

-- a ticket that names have is of a request that one of them names
held_named : (t : Ticket) (hs : List Held) → 0 < times (is_held t) hs
    → (name : Name) × IsIn (name, t.number) (names_of hs)
held_named t [] some = absurd (omega arith)
held_named t (h ∷ hs) some = by (is_held t h) refl some (held_named t hs)
  where
    by : (b : Bool) → is_held t h ≡ b
        → 0 < (if b then times (is_held t) hs + 1 else times (is_held t) hs)
        → (0 < times (is_held t) hs → (name : Name) × IsIn (name, t.number) (names_of hs))
        → (name : Name) × IsIn (name, t.number) (names_of (h ∷ hs))
    by true is some later =
        (h.name, inl (ap (λ (u : Ticket). (h.name, u.number)) (sym (is_same t h.ticket is))))
    by false is some later = let rec = later some in (rec.0, inr rec.1)

-- Where a request has a ticket of a pass, it has a name.
pub ticket_named : (hs : List Held) (ts : List Ticket) (n : ℕ) → AreHeld hs ts → HasTicket ts n
    → (name : Name) × IsIn (name, n) (names_of hs)
ticket_named hs ts n held t =
    let some = times-some (is_ticket t.0) ts t.0 t.1 (same_ticket t.0) in
    let all = held t.0 in
    let rec = held_named t.0 hs (omega arith) in
    (rec.0, subst (λ m. IsIn (rec.0, m) (names_of hs)) t.2 rec.1)

-- the ticket of a name that stands there
named_held : (hs : List Held) (p : Name × ℕ) → IsIn p (names_of hs)
    → (t : Ticket) × (0 < times (is_held t) hs) × (t.number ≡ p.1)
named_held [] p i = absurd i
named_held (h ∷ hs) p (inl is) = (
  h.ticket,
  (let head = times-cons (is_held h.ticket) h hs in
      let mine : one (is_held h.ticket) h ≡ 1 =
      ap (λ (b : Bool). if b then 1 else 0) (same_ticket h.ticket) in omega arith),
  ap (λ q. q.1) (sym is),
)
named_held (h ∷ hs) p (inr i) =
    let rec = named_held hs p i in (
      rec.0,
      (let head = times-cons (is_held rec.0) h hs in let some = rec.1 in omega arith),
      rec.2,
    )

-- Where it has a name, it has a ticket.
pub named_ticket : (hs : List Held) (ts : List Ticket) (p : Name × ℕ) → AreHeld hs ts
    → IsIn p (names_of hs) → HasTicket ts p.1
named_ticket hs ts p held i =
    let rec = named_held hs p i in
    let all = held rec.0 in
    let some = rec.1 in (rec.0, some_in rec.0 ts (omega arith), rec.2)
