-- The tickets that a pass holds.
use Rattle.std.proofs.Common.{◌≡◌, ◌≢◌, ◌⊎◌, ℕ, ◌+◌, ◌<◌, ◌≤◌, inl, inr, ⊎_elim, Bool, true}
use Rattle.std.proofs.Common.{false, ◌∙◌}
use Rattle.std.proofs.Common.{List, [], ◌∷◌, ◌++◌, length, refl, sym, ap, arith}
use Rattle.std.proofs.lemmas.Bool.Decides.{nat_tests}
use Rattle.std.specs.Prelude.{◌==◌, ◌&&◌, if◌then◌else◌}
use Rattle.gb_desk.specs.Slots.{hit}
use Rattle.gb_desk.specs.Tickets.{fewer, held}
use Rattle.gb_desk.specs.declared.ticket.Ticket.{Ticket}
use Rattle.gb_machine.specs.Members.{IsIn}

pub hit_same : (n : ℕ) → hit n n ≡ 1
hit_same n = grind (arith, nat_tests)

pub hit_other : (n m : ℕ) → m ≢ n → hit n m ≡ 0
hit_other n m apart = grind (arith, nat_tests)

pub hit_least : (n m : ℕ) → hit n m ≤ 1
hit_least n m = grind (arith, nat_tests)

-- no slot has more tickets than there are
pub held_most : (i : ℕ) (ts : List Ticket) → held i ts ≤ length ts
held_most i [] = omega arith
held_most i (t ∷ ts) =
    let here = hit_least i t.slot in let later = held_most i ts in omega arith

pub held_append : (i : ℕ) (ts us : List Ticket) → held i (ts ++ us) ≡ held i ts + held i us
held_append i [] us = omega arith
held_append i (t ∷ ts) us = let later = held_append i ts us in omega arith

-- a ticket is one of its slot
pub held_one : (t : Ticket) (ts : List Ticket) → IsIn t ts → 0 < held t.slot ts
held_one t [] i = absurd i
held_one t (u ∷ us) (inl is) =
    let same : hit t.slot u.slot ≡ 1 =
    ap (λ (k : Ticket). hit t.slot k.slot) (sym is) ∙ hit_same t.slot in omega arith
held_one t (u ∷ us) (inr i) = let later = held_one t us i in omega arith

-- where a slot has one, it is there
pub held_some : (i : ℕ) (ts : List Ticket) → 0 < held i ts
    → (t : Ticket) × IsIn t ts × (t.slot ≡ i)
held_some i [] some = absurd (omega arith)
held_some i (t ∷ ts) some = by (t.slot == i) refl (held_some i ts)
  where
    by : (b : Bool) → (t.slot == i) ≡ b
        → (0 < held i ts → (u : Ticket) × IsIn u ts × (u.slot ≡ i))
        → (u : Ticket) × IsIn u (t ∷ ts) × (u.slot ≡ i)
    by true is rec = (t, inl refl, grind (arith, nat_tests))
    by false is rec =
        let none : hit i t.slot ≡ 0 = ap (λ b. if b then 1 else 0) is in
        let r = rec (omega arith) in (r.0, inr r.1, r.2)

pub in_append : (t : Ticket) (ts us : List Ticket) → IsIn t (ts ++ us)
    → IsIn t ts ⊎ IsIn t us
in_append t [] us i = inr i
in_append t (u ∷ ts) us (inl is) = inl (inl is)
in_append t (u ∷ ts) us (inr i) =
    ⊎_elim (λ a. inl (inr a)) (λ b. inr b) (in_append t ts us i)

-- ---- one less

same_ticket : (t u : Ticket) → (u.slot == t.slot && u.number == t.number) ≡ true → t ≡ u
same_ticket t u is =
    let slot : t.slot ≡ u.slot = grind (arith, nat_tests) in
    let number : t.number ≡ u.number = grind (arith, nat_tests) in
    λ i. record { slot = slot i; number = number i }

is_same : (t : Ticket) → (t.slot == t.slot && t.number == t.number) ≡ true
is_same t = grind (arith, nat_tests)

pub fewer_first : (t : Ticket) (ts : List Ticket) → fewer t (t ∷ ts) ≡ ts
fewer_first t ts = ap (λ b. if b then ts else t ∷ fewer t ts) (is_same t)

pub fewer_second : (t u : Ticket) (ts : List Ticket) → fewer t (u ∷ t ∷ ts) ≡ u ∷ ts
fewer_second t u ts = by (u.slot == t.slot && u.number == t.number) refl
  where
    by : (b : Bool) → (u.slot == t.slot && u.number == t.number) ≡ b
        → (if b then t ∷ ts else u ∷ fewer t (t ∷ ts)) ≡ u ∷ ts
    by true is = ap (λ (k : Ticket). k ∷ ts) (same_ticket t u is)
    by false is = ap (λ ks. u ∷ ks) (fewer_first t ts)

pub fewer_in : (t u : Ticket) (ts : List Ticket) → IsIn u (fewer t ts) → IsIn u ts
fewer_in t u [] i = i
fewer_in t u (k ∷ ks) i = by (k.slot == t.slot && k.number == t.number) i (fewer_in t u ks)
  where
    by : (b : Bool) → IsIn u (if b then ks else k ∷ fewer t ks)
        → (IsIn u (fewer t ks) → IsIn u ks) → IsIn u (k ∷ ks)
    by true j rec = inr j
    by false (inl is) rec = inl is
    by false (inr j) rec = inr (rec j)

-- what is counted, once one is taken away
pub fewer_held : (i : ℕ) (t : Ticket) (ts : List Ticket) → IsIn t ts
    → held i (fewer t ts) + hit i t.slot ≡ held i ts
fewer_held i t [] j = absurd j
fewer_held i t (k ∷ ks) j =
    by (k.slot == t.slot && k.number == t.number) refl j (fewer_held i t ks)
  where
    by : (b : Bool) → (k.slot == t.slot && k.number == t.number) ≡ b → IsIn t (k ∷ ks)
        → (IsIn t ks → held i (fewer t ks) + hit i t.slot ≡ held i ks)
        → held i (if b then ks else k ∷ fewer t ks) + hit i t.slot ≡ hit i k.slot + held i ks
    by true is a rec =
        let same : hit i k.slot ≡ hit i t.slot =
        sym (ap (λ (u : Ticket). hit i u.slot) (same_ticket t k is)) in omega arith
    by false is (inl e) rec =
        absurd (let one = ap (λ (u : Ticket). u.slot == t.slot && u.number == t.number) (sym e)
        ∙ is_same t in cc (one, is))
    by false is (inr a) rec = let later = rec a in omega arith

pub fewer_long : (t : Ticket) (ts : List Ticket) → IsIn t ts
    → length (fewer t ts) + 1 ≡ length ts
fewer_long t [] j = absurd j
fewer_long t (k ∷ ks) j =
    by (k.slot == t.slot && k.number == t.number) refl j (fewer_long t ks)
  where
    by : (b : Bool) → (k.slot == t.slot && k.number == t.number) ≡ b → IsIn t (k ∷ ks)
        → (IsIn t ks → length (fewer t ks) + 1 ≡ length ks)
        → length (if b then ks else k ∷ fewer t ks) + 1 ≡ length (k ∷ ks)
    by true is a rec = omega arith
    by false is (inl e) rec =
        absurd (let one = ap (λ (u : Ticket). u.slot == t.slot && u.number == t.number) (sym e)
        ∙ is_same t in cc (one, is))
    by false is (inr a) rec = let later = rec a in omega arith
