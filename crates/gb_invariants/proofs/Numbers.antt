-- Connections have numbers of their own, whatever becomes of the bus.
use Rattle.std.proofs.Common.{Bool, List, Some, ap, arith, cond, false, inl, inr, not, refl, sym}
use Rattle.std.proofs.Common.{true, ℕ, ⊎_elim, [], ◌<◌, ◌==◌, ◌∙◌, ◌∷◌, ◌≡◌, ◌⊎◌}
use Rattle.std.proofs.lemmas.Bool.Decides.{nat_tests}
use Rattle.std.specs.List.{find}
use Rattle.gb_base.specs.declared.end.End.TheVariants as end
use Rattle.gb_machine.specs.Bus.{Bus, Connection, Request, connection_of, has_number}
use Rattle.gb_machine.specs.Wiring.{attached, detached, new_connection, next_connection}
use Rattle.gb_machine.specs.Wiring.{with_connection}
use Rattle.gb_machine.specs.{Lists.at_first, Members.EachTwo, Members.IsIn, Sending.Draft}
use Rattle.gb_machine.specs.{Sending.sent}
use Rattle.gb_invariants.proofs.Lists.{each-append, each-at_first, each-filter, each-in}
use Rattle.gb_invariants.proofs.Lists.{each-weaker, found-in, two-at_first, two-filter, two-pushed}
use Rattle.gb_invariants.proofs.{Awaiting.sent-made, Outcomes.is-same, Outcomes.same-number}
use Rattle.gb_invariants.specs.Facts.{IsBefore, IsMade, NumbersRise}

-- ---- one connection for a number

-- connections that rise and have one number are one
pub same-connection : (cs : List Connection) (c d : Connection) → EachTwo IsBefore cs → IsIn c cs
    → IsIn d cs → c.number ≡ d.number → c ≡ d
same-connection [] c d rise i j e = absurd i
same-connection (x ∷ xs) c d rise (inl i) (inl j) e = i ∙ sym j
same-connection (x ∷ xs) c d rise (inl i) (inr j) e =
    let low : x.number < d.number = each-in (IsBefore x) xs d rise.0 j in
    absurd (omega (arith, low, e, ap (λ (y : Connection). y.number) i))
same-connection (x ∷ xs) c d rise (inr i) (inl j) e =
    let low : x.number < c.number = each-in (IsBefore x) xs c rise.0 i in
    absurd (omega (arith, low, e, ap (λ (y : Connection). y.number) j))
same-connection (x ∷ xs) c d rise (inr i) (inr j) e = same-connection xs c d rise.1 i j e

-- a live connection is found by its number
pub found-by_number : (cs : List Connection) (c : Connection) → EachTwo IsBefore cs → IsIn c cs
    → find (has_number c.number) cs ≡ Some c
found-by_number [] c rise i = absurd i
found-by_number (x ∷ xs) c rise (inl i) =
    ap (λ b. cond b (Some x) (find (has_number c.number) xs))
    (ap (λ (y : Connection). x.number == y.number) i ∙ is-same x.number) ∙ ap Some (sym i)
found-by_number (x ∷ xs) c rise (inr i) =
    let low : x.number < c.number = each-in (IsBefore x) xs c rise.0 i in
    let other : (x.number == c.number) ≡ false = grind (arith, nat_tests) in
    ap (λ b. cond b (Some x) (find (has_number c.number) xs)) other ∙ found-by_number xs c rise.1 i

-- what is found by a number is a live connection that has it
pub found-number : (k : ℕ) (b : Bus) (c : Connection) → connection_of k b ≡ Some c
    → IsIn c b.connections × (c.number ≡ k)
found-number k b c h =
    let f = found-in (has_number k) b.connections c h in (f.0, same-number c.number k f.1)

-- A member of connections of which one is changed is another one, or the changed one.
pub in-changed : (cs : List Connection) (k : ℕ) (change : Connection → Connection) (c : Connection)
    → EachTwo IsBefore cs → IsIn c (at_first (has_number k) change cs)
    → (IsIn c cs × (c.number ≡ k → ⊥))
    ⊎ ((d : Connection) × IsIn d cs × (d.number ≡ k) × (c ≡ change d))
in-changed [] k change c rise i = absurd i
in-changed (x ∷ xs) k change c rise i = by (x.number == k) refl i (in-changed xs k change c rise.1)
  where
    Was : List Connection → Type 0
    Was cs = (IsIn c cs × (c.number ≡ k → ⊥))
        ⊎ ((d : Connection) × IsIn d cs × (d.number ≡ k) × (c ≡ change d))

    above : x.number ≡ k → IsIn c xs → c.number ≡ k → ⊥
    above e j f = let low : x.number < c.number = each-in (IsBefore x) xs c rise.0 j in absurd
        (omega (arith, low, e, f))

    apart : (x.number == k) ≡ false → c ≡ x → c.number ≡ k → ⊥
    apart e is f = let g : x.number ≡ k = sym (ap (λ (y : Connection). y.number) is) ∙ f in grind
        (arith, nat_tests)

    by : (b : Bool) → (x.number == k) ≡ b
        → IsIn c (cond b (change x ∷ xs) (x ∷ at_first (has_number k) change xs))
        → (IsIn c (at_first (has_number k) change xs) → Was xs) → Was (x ∷ xs)
    by true e (inl is) rec = inr (x, inl refl, same-number x.number k e, is)
    by true e (inr j) rec = inl (inr j, above (same-number x.number k e) j)
    by false e (inl is) rec = inl (inl is, apart e is)
    by false e (inr j) rec =
        ⊎_elim (λ a. inl (inr a.0, a.1)) (λ h. inr (h.0, inr h.1, h.2, h.3)) (rec j)

-- ---- numbers rise, whatever changes

-- where a connection changes and its number stays
pub rise-changed : (b : Bus) (k : ℕ) (change : Connection → Connection)
    → ((c : Connection) → (change c).number ≡ c.number) → NumbersRise b
    → NumbersRise (with_connection k change b)
rise-changed b k change same h = record {
  rise = two-at_first IsBefore (has_number k) change b.connections
      (λ c d low. omega (arith, low, same c)) (λ c d low. omega (arith, low, same d)) h.rise;
  range = each-at_first (IsMade b) (has_number k) change b.connections
      (λ c r. (omega (arith, r.0, same c), omega (arith, r.1, same c))) h.range;
  on = h.on;
}

-- where a request is made on a live connection
pub rise-sent : (b : Bus) (d : Draft) (label : ℕ) (change : Connection
    → Connection) (c : Connection)
    → ((x : Connection) → (change x).number ≡ x.number) → IsIn c b.connections
    → c.number ≡ d.connection → NumbersRise b
    → NumbersRise (record (sent d label b) {
      connections = at_first (has_number d.connection) change
          b.connections;
    })
rise-sent b d label change c same live is h =
    let rest = rise-changed b d.connection change same h in record {
      rise = rest.rise;
      range = rest.range;
      on = λ n r made. ⊎_elim (λ old. h.on n r old)
          (λ new. let m = each-in (IsMade b) b.connections c h.range live in
          omega (arith, m.1, is, ap (λ (q : Request). q.connection) new.1))
          (sent-made d label b n r made);
    }

-- where a connection is made
pub rise-attached : (b : Bus) (ap i c protocol : ℕ) → NumbersRise b
    → NumbersRise (attached ap i c protocol b)
rise-attached b a i c protocol h = record {
  rise = two-pushed IsBefore b.connections (new_connection (next_connection b) a (end.Module i c)
      protocol) h.rise (each-weaker (IsMade b) (λ x. x.number < next_connection b) b.connections
      (λ x r. omega (arith, r.1)) h.range);
  range = each-append (IsMade (attached a i c protocol b)) b.connections
      (new_connection (next_connection b) a (end.Module i c) protocol ∷ [])
      (each-weaker (IsMade b) (IsMade (attached a i c protocol b)) b.connections
      (λ x r. (r.0, omega (arith, r.1))) h.range) ((omega arith, omega arith), tt);
  on = λ n r made. let low = h.on n r made in omega (arith, low);
}

-- where a connection is there no more
pub rise-detached : (b : Bus) (k : ℕ) → NumbersRise b → NumbersRise (detached k b)
rise-detached b k h = record {
  rise = two-filter IsBefore (λ c. not (has_number k c)) b.connections h.rise;
  range = each-filter (IsMade b) (λ c. not (has_number k c)) b.connections h.range;
  on = h.on;
}
