-- The CPort with a number, by its place.
use Rattle.std.proofs.Common.{◌≡◌, ℕ, zero, suc, ◌+◌, ◌<◌, ◌==◌, Bool, true, false, cond, Option}
use Rattle.std.proofs.Common.{Some, None, List, [], ◌∷◌, length, get_or, set, refl, sym, ap, ◌∙◌}
use Rattle.std.proofs.Common.{arith, subst, BTreeMap}
use Rattle.std.proofs.lemmas.Bool.Decides.{nat_tests}
use Rattle.std.proofs.lemmas.List.{get_or-set_same, set-get_or}
use Rattle.std.specs.List.{find, position_from}
use Rattle.std.specs.Option.{IfSome}
use Rattle.gb_formats.specs.Module.{ModulePort, is_port, with_port}
use Rattle.gb_module.specs.Places.{AreFirst}

-- what the first CPort with a number is, and what changing it does
pub record Standing (number : ℕ) (ports : List ModulePort) (i : ℕ) : Type 0 where
  pub within : i < length ports
  pub named : (d : ModulePort) → (get_or ports i d).number ≡ number
  pub found : (d : ModulePort) → find (is_port number) ports ≡ Some (get_or ports i d)
  pub changed : (new : ModulePort) → new.number ≡ number → with_port new ports ≡ set ports i new

-- a number that equals another
equals : (a b : ℕ) → (a == b) ≡ true → a ≡ b
equals a b h = grind (arith, nat_tests)

standing-here : (number : ℕ) (x : ModulePort) (xs : List ModulePort) → is_port number x ≡ true
    → Standing number (x ∷ xs) zero
standing-here number x xs h = record {
  within = omega arith;
  named = λ d. equals x.number number h;
  found = λ d. ap (λ b. cond b (Some x) (find (is_port number) xs)) h;
  changed = λ new e. ap (λ n. cond (x.number == n) (new ∷ xs) (x ∷ with_port new xs)) e
      ∙ ap (λ b. cond b (new ∷ xs) (x ∷ with_port new xs)) h;
}

standing-later : (number : ℕ) (x : ModulePort) (xs : List ModulePort) (i : ℕ)
    → is_port number x ≡ false → Standing number xs i → Standing number (x ∷ xs) (suc i)
standing-later number x xs i h s = record {
  within = let w = s.within in omega (arith, w);
  named = s.named;
  found = λ d. ap (λ b. cond b (Some x) (find (is_port number) xs)) h ∙ s.found d;
  changed = λ new e. ap (λ n. cond (x.number == n) (new ∷ xs) (x ∷ with_port new xs)) e
      ∙ ap (λ b. cond b (new ∷ xs) (x ∷ with_port new xs)) h ∙ ap (λ ys. x ∷ ys) (s.changed new e);
}

-- counted from n, the place is after so many
standing-from : (number : ℕ) (ports : List ModulePort) (n i : ℕ)
    → position_from (is_port number) n ports ≡ Some i
    → (j : ℕ) × (i ≡ n + j) × Standing number ports j
standing-from number [] n i h = absurd cc
standing-from number (x ∷ xs) n i h =
    by (is_port number x) refl h (λ k. standing-from number xs (n + 1) i k)
  where
    by : (b : Bool) → is_port number x ≡ b
        → cond b (Some n) (position_from (is_port number) (n + 1) xs) ≡ Some i
        → (position_from (is_port number) (n + 1) xs ≡ Some i
        → (j : ℕ) × (i ≡ (n + 1) + j) × Standing number xs j)
        → (j : ℕ) × (i ≡ n + j) × Standing number (x ∷ xs) j
    by true e h later =
        let s : n ≡ i = cc in (zero, omega (arith, s), standing-here number x xs e)
    by false e h later =
        let r = later h in
        let s = r.1 in (suc r.0, omega (arith, s), standing-later number x xs r.0 e r.2)

pub standing : (number : ℕ) (ports : List ModulePort) (i : ℕ)
    → position_from (is_port number) 0 ports ≡ Some i → Standing number ports i
standing number ports i h =
    let r = standing-from number ports 0 i h in
    let s = r.1 in
    let e : r.0 ≡ i = omega (arith, s) in subst (Standing number ports) e r.2

-- where there is none
none-from : (number : ℕ) (ports : List ModulePort) (n : ℕ)
    → position_from (is_port number) n ports ≡ None → find (is_port number) ports ≡ None
none-from number [] n h = refl
none-from number (x ∷ xs) n h =
    by (is_port number x) refl h (λ k. none-from number xs (n + 1) k)
  where
    by : (b : Bool) → is_port number x ≡ b
        → cond b (Some n) (position_from (is_port number) (n + 1) xs) ≡ None
        → (position_from (is_port number) (n + 1) xs ≡ None → find (is_port number) xs ≡ None)
        → find (is_port number) (x ∷ xs) ≡ None
    by true e h later = absurd cc
    by false e h later =
        ap (λ b. cond b (Some x) (find (is_port number) xs)) e ∙ later h

pub none-stands : (number : ℕ) (ports : List ModulePort) {o : Option ℕ}
    → o ≡ position_from (is_port number) 0 ports → o ≡ None → find (is_port number) ports ≡ None
none-stands number ports {o} first e = none-from number ports 0 (sym first ∙ e)

-- the places stay where a CPort is changed and keeps its number
same-from : (number : ℕ) (ports : List ModulePort) (n i : ℕ) (new : ModulePort)
    → new.number ≡ (get_or ports i new).number
    → position_from (is_port number) n (set ports i new) ≡ position_from (is_port number) n ports
same-from number [] n i new e = refl
same-from number (x ∷ xs) n zero new e =
    ap (λ m. cond (m == number) (Some n) (position_from (is_port number) (n + 1) xs)) e
same-from number (x ∷ xs) n (suc i) new e =
    ap (λ o. cond (is_port number x) (Some n) o) (same-from number xs (n + 1) i new e)

-- ---- the CPort that code has found

-- a CPort of some, at its place, whose number is asked for
pub record Found (number : ℕ) (ports items : List ModulePort) (i : ℕ)
    (x : ModulePort) : Type 0 where
  pub found : find (is_port number) ports ≡ Some x
  pub named : x.number ≡ number
  pub same : set items i x ≡ ports
  pub changed : (new : ModulePort) → new.number ≡ number → with_port new ports ≡ set items i new
  pub placed : (new : ModulePort) → new.number ≡ number
      → find (is_port number) (set items i new) ≡ Some new
  pub stay : (counted : ℕ) (places : BTreeMap ℕ ℕ) → AreFirst counted places items
      → (new : ModulePort) → new.number ≡ x.number → AreFirst counted places (set items i new)

-- a member does not depend on what stands for none
same_member : (xs : List ModulePort) (j : ℕ) (d e : ModulePort) → j < length xs
    → get_or xs j d ≡ get_or xs j e
same_member [] j d e h = absurd (omega (arith, h))
same_member (x ∷ xs) zero d e h = refl
same_member (x ∷ xs) (suc j) d e h = same_member xs j d e (omega (arith, h))

found-in : (number : ℕ) (ports : List ModulePort) (i : ℕ) (x : ModulePort)
    → position_from (is_port number) 0 ports ≡ Some i → x ≡ get_or ports i x
    → Found number ports ports i x
found-in number ports i x first is =
    let s = standing number ports i first in record {
      found = s.found x ∙ ap Some (sym is);
      named = ap (λ (p : ModulePort). p.number) is ∙ s.named x;
      same = ap (set ports i) is ∙ set-get_or ports i x;
      changed = s.changed;
      placed = λ new e.
          let renamed : new.number ≡ (get_or ports i new).number = e ∙ sym (s.named new) in
          (standing number (set ports i new) i
          (same-from number ports 0 i new renamed ∙ first)).found new
          ∙ ap Some (get_or-set_same ports i new new s.within);
      stay = λ counted places known new e number.
          known number
          ∙ sym (same-from number ports 0 i new
          (e ∙ ap (λ (p : ModulePort). p.number) (is ∙ same_member ports i x new s.within)));
    }

pub found-at : {number : ℕ} {ports items : List ModulePort} {o : Option ℕ} {i : ℕ} {x : ModulePort}
    → o ≡ position_from (is_port number) 0 ports → o ≡ Some i → items ≡ ports
    → x ≡ get_or items i x → Found number ports items i x
found-at {number} {ports} {items} {o} {i} {x} first e view is =
    subst (λ (xs : List ModulePort). Found number xs items i x) view
    (found-in number items i x
    (ap (λ (xs : List ModulePort). position_from (is_port number) 0 xs) view ∙ sym first ∙ e) is)

-- a place that was found is one of so many
pub place-within : (number : ℕ) (ports : List ModulePort) (o : Option ℕ)
    → o ≡ position_from (is_port number) 0 ports → IfSome o (λ i. i < length ports)
place-within number ports None first = tt
place-within number ports (Some i) first = (standing number ports i (sym first)).within
