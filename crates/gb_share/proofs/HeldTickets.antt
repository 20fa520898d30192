-- The tickets that names have.
use Rattle.std.proofs.Common.{◌≡◌, ℕ, ◌+◌, ◌<◌, inl, inr, Bool, true, false, suc}
use Rattle.std.proofs.Common.{List, [], ◌∷◌, ◌++◌, length, refl, sym, ap, ◌∙◌, arith, take, drop}
use Rattle.std.proofs.Common.{drop-cons, add-one}
use Rattle.std.proofs.Math.ListN.{get_or}
use Rattle.std.proofs.lemmas.Bool.Decides.{nat_tests}
use Rattle.std.proofs.lemmas.List.{take-append-drop}
use Rattle.std.specs.Prelude.{◌==◌, ◌&&◌, if◌then◌else◌}
use Rattle.gb_desk.specs.Tickets.{fewer}
use Rattle.gb_desk.specs.declared.ticket.Ticket.{Ticket}
use Rattle.gb_invariants.proofs.Counts.{one, times-append, times-cons}
use Rattle.gb_machine.specs.Members.{IsIn, times}
use Rattle.gb_share.specs.Tickets.{AreHeld, is_held, is_ticket}
use Rattle.gb_share.specs.declared.hand.Held.{Held}

-- ---- tickets

pub same_ticket : (t : Ticket) → is_ticket t t ≡ true
same_ticket t =
    let slots : (t.slot == t.slot) ≡ true = grind (arith, nat_tests) in
    let numbers : (t.number == t.number) ≡ true = grind (arith, nat_tests) in
    rw slots numbers

both_true : (a b : Bool) → (a && b) ≡ true → (a ≡ true) × (b ≡ true)
both_true true b is = (refl, is)
both_true false b is = absurd cc

pub is_same : (t u : Ticket) → is_ticket t u ≡ true → u ≡ t
is_same t u is =
    let two = both_true (u.slot == t.slot) (u.number == t.number) is in
    let slots : u.slot ≡ t.slot = (let s = two.0 in grind (arith, nat_tests)) in
    let numbers : u.number ≡ t.number = (let n = two.1 in grind (arith, nat_tests)) in
    λ i. record { slot = slots i; number = numbers i }

-- a ticket that is counted is there
pub some_in : (u : Ticket) (ts : List Ticket) → 0 < times (is_ticket u) ts → IsIn u ts
some_in u [] some = absurd (omega arith)
some_in u (v ∷ vs) some = by (is_ticket u v) refl some (some_in u vs)
  where
    by : (b : Bool) → is_ticket u v ≡ b
        → 0 < (if b then times (is_ticket u) vs + 1 else times (is_ticket u) vs)
        → (0 < times (is_ticket u) vs → IsIn u vs) → IsIn u (v ∷ vs)
    by true is some later = inl (sym (is_same u v is))
    by false is some later = inr (later some)

-- one ticket less
less : (t u : Ticket) (ts : List Ticket) → IsIn u ts
    → times (is_ticket t) (fewer u ts) + one (is_ticket t) u ≡ times (is_ticket t) ts
less t u [] i = absurd i
less t u (v ∷ vs) i = by (is_ticket u v) refl i (less t u vs)
  where
    by : (b : Bool) → is_ticket u v ≡ b → IsIn u (v ∷ vs)
        → (IsIn u vs → times (is_ticket t) (fewer u vs) + one (is_ticket t) u
        ≡ times (is_ticket t) vs)
        → times (is_ticket t) (if b then vs else v ∷ fewer u vs) + one (is_ticket t) u
        ≡ times (is_ticket t) (v ∷ vs)
    by true is i rec =
        let same : one (is_ticket t) u ≡ one (is_ticket t) v =
        ap (λ w. one (is_ticket t) w) (sym (is_same u v is)) in
        let head = times-cons (is_ticket t) v vs in omega arith
    by false is (inl at) rec = absurd (let other : is_ticket u u ≡ false =
        ap (λ w. is_ticket u w) at ∙ is in let same = same_ticket u in cc)
    by false is (inr later) rec =
        let rest = rec later in
        let head = times-cons (is_ticket t) v vs in
        let front = times-cons (is_ticket t) v (fewer u vs) in omega arith

-- ---- names

-- a member of a list, between those before it and those behind it
pub parted : {A : Type 0} (xs : List A) (k : ℕ) (x : A) → k < length xs → x ≡ get_or xs k x
    → xs ≡ take k xs ++ x ∷ drop (k + 1) xs
parted xs k x within is =
    sym (take-append-drop k xs)
    ∙ ap (λ ys. take k xs ++ ys)
    (drop-cons xs k x within
    ∙ (ap (λ y. y ∷ drop (suc k) xs) (sym is)
    ∙ ap (λ n. x ∷ drop n xs) (sym (add-one k))))

-- a name and its ticket more
pub held_more : (hs : List Held) (ts : List Ticket) (h : Held) → AreHeld hs ts
    → AreHeld (hs ++ h ∷ []) (h.ticket ∷ ts)
held_more hs ts h held t =
    let old = held t in
    let names = times-append (is_held t) hs (h ∷ []) in
    let tickets = times-cons (is_ticket t) h.ticket ts in omega arith

-- the same, of what a name and its ticket were added to
pub held_grown : (hs hs' : List Held) (ts ts' : List Ticket) (h : Held) (t : Ticket)
    → AreHeld hs ts → hs' ≡ hs ++ h ∷ [] → h.ticket ≡ t → ts' ≡ t ∷ ts → AreHeld hs' ts'
held_grown hs hs' ts ts' h t held names same tickets u =
    ap (λ xs. times (is_held u) xs) names
    ∙ (held_more hs ts h held u
    ∙ ap (λ us. times (is_ticket u) us) (ap (λ v. v ∷ ts) same ∙ sym tickets))

-- the ticket of a name is there
pub held_in : (hs front back : List Held) (ts : List Ticket) (h : Held) → AreHeld hs ts
    → hs ≡ front ++ h ∷ back → IsIn h.ticket ts
held_in hs front back ts h held is =
    some_in h.ticket ts (
    let all = held h.ticket in
    let split = ap (λ xs. times (is_held h.ticket) xs) is in
    let names = times-append (is_held h.ticket) front (h ∷ back) in
    let here = times-cons (is_held h.ticket) h back in
    let mine : one (is_held h.ticket) h ≡ 1 =
    ap (λ (b : Bool). if b then 1 else 0) (same_ticket h.ticket) in omega arith)

-- a name and its ticket less
pub held_less : (hs front back : List Held) (ts : List Ticket) (h : Held) → AreHeld hs ts
    → hs ≡ front ++ h ∷ back → AreHeld (front ++ back) (fewer h.ticket ts)
held_less hs front back ts h held is t =
    let all = held t in
    let split = ap (λ xs. times (is_held t) xs) is in
    let names = times-append (is_held t) front (h ∷ back) in
    let here = times-cons (is_held t) h back in
    let left = times-append (is_held t) front back in
    let fewer_one = less t h.ticket ts (held_in hs front back ts h held is) in omega arith

-- the same, of what they were taken from
pub held_shrunk : (hs hs' : List Held) (ts ts' : List Ticket) (k : ℕ) (h : Held) → AreHeld hs ts
    → k < length hs → h ≡ get_or hs k h → hs' ≡ take k hs ++ drop (k + 1) hs
    → ts' ≡ fewer h.ticket ts → AreHeld hs' ts'
held_shrunk hs hs' ts ts' k h held within is names tickets u =
    ap (λ xs. times (is_held u) xs) names
    ∙ (held_less hs (take k hs) (drop (k + 1) hs) ts h held (parted hs k h within is) u
    ∙ ap (λ us. times (is_ticket u) us) (sym tickets))

-- two passes together
pub held_both : (hs ks : List Held) (ts us : List Ticket) → AreHeld hs ts → AreHeld ks us
    → AreHeld (hs ++ ks) (ts ++ us)
held_both hs ks ts us one_held two_held t =
    let a = one_held t in
    let b = two_held t in
    let names = times-append (is_held t) hs ks in
    let tickets = times-append (is_ticket t) ts us in omega arith

-- the same, of what they were put together to
pub held_joined : (hs ks hs' : List Held) (ts us ts' : List Ticket) → AreHeld hs ts
    → AreHeld ks us → hs' ≡ hs ++ ks → ts' ≡ ts ++ us → AreHeld hs' ts'
held_joined hs ks hs' ts us ts' one_held two_held names tickets u =
    ap (λ xs. times (is_held u) xs) names
    ∙ (held_both hs ks ts us one_held two_held u
    ∙ ap (λ xs. times (is_ticket u) xs) (sym tickets))

-- where there is no name there is no ticket
pub held_none : (ts : List Ticket) → AreHeld [] ts → ts ≡ []
held_none [] held = refl
held_none (t ∷ ts) held = absurd (
    let here = held t in
    let head = times-cons (is_ticket t) t ts in
    let mine : one (is_ticket t) t ≡ 1 =
    ap (λ (b : Bool). if b then 1 else 0) (same_ticket t) in omega arith)
