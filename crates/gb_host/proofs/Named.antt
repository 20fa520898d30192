-- Connections by their far ends.
use Rattle.std.proofs.Common.{◌≡◌, ◌==◌, ◌+◌, ◌<◌, ℕ, zero, suc, Bool, true, false, ◌&&◌, cond}
use Rattle.std.proofs.Common.{nat_eq, Option, Some, None, List, [], ◌∷◌, length, get_or, refl}
use Rattle.std.proofs.Common.{◌*◌, sym, ap, ◌∙◌, arith}
use Rattle.std.proofs.lemmas.Bool.Decides.{nat_tests}
use Rattle.std.specs.List.{find, position_from}
use Rattle.std.specs.Option.{option_map}
use Rattle.gb_base.specs.declared.interface.Link.{Link}
use Rattle.gb_host.specs.Indexes.{Rises}
use Rattle.gb_machine.proofs.Positions.{none-stands, standing}
use Rattle.gb_machine.specs.Lists.{at_first}
use Rattle.gb_host.specs.Named.{end_number}

-- a number that equals another
pub equals : (a b : ℕ) → (a == b) ≡ true → a ≡ b
equals a b h = grind (arith, nat_tests)

pub alike : (a b : ℕ) → a ≡ b → (a == b) ≡ true
alike a b h = grind (arith, nat_tests)

-- the number of a connection, where there is one
abbrev pub number_of : Option Link → Option ℕ
number_of o = option_map (λ l. l.connection) o

-- ---- far ends

-- far ends are the same number where both numbers are
pub same-end : (a b i c : ℕ) → b < 65536 → c < 65536
    → nat_eq (end_number a b) (end_number i c) ≡ (a == i && b == c)
same-end a b i c low least =
    by (nat_eq (end_number a b) (end_number i c)) (a == i) (b == c) refl refl refl
  where
    by : (t u v : Bool) → nat_eq (end_number a b) (end_number i c) ≡ t → (a == i) ≡ u
        → (b == c) ≡ v → t ≡ (u && v)
    by true true v e f g =
        let one : a * 65536 + b ≡ i * 65536 + c = equals (end_number a b) (end_number i c) e in
        let two : a ≡ i = equals a i f in
        let is : b ≡ c = omega (arith, one, two) in sym (sym g ∙ alike b c is)
    by true false v e f g =
        let one : a * 65536 + b ≡ i * 65536 + c = equals (end_number a b) (end_number i c) e in
        let is : a ≡ i = omega (arith, one, low, least) in sym (alike a i is) ∙ f
    by false true true e f g =
        let two : a ≡ i = equals a i f in
        let three : b ≡ c = equals b c g in
        let is : end_number a b ≡ end_number i c = omega (arith, two, three) in
        sym e ∙ alike (end_number a b) (end_number i c) is
    by false true false e f g = refl
    by false false v e f g = refl

-- ---- the first at a far end, by its number

-- the first is a member
member : (q : Link → Bool) (ls : List Link) (k : ℕ) → number_of (find q ls) ≡ Some k
    → (j : ℕ) × (j < length ls) × ((d : Link) → (get_or ls j d).connection ≡ k)
member q [] k h = absurd cc
member q (l ∷ ls) k h = by (q l) h (member q ls k)
  where
    by : (b : Bool) → number_of (cond b (Some l) (find q ls)) ≡ Some k
        → (number_of (find q ls) ≡ Some k
        → (j : ℕ) × (j < length ls) × ((d : Link) → (get_or ls j d).connection ≡ k))
        → (j : ℕ) × (j < length (l ∷ ls)) × ((d : Link) → (get_or (l ∷ ls) j d).connection ≡ k)
    by true h later = (zero, omega arith, λ d. cc)
    by false h later =
        let r = later h in let w = r.1 in (suc r.0, omega (arith, w), r.2)

-- where numbers rise, it is the place of its number
same-place : (q : Link → Bool) (ls : List Link) (n k : ℕ) → Rises ls
    → number_of (find q ls) ≡ Some k
    → position_from (λ l. l.connection == k) n ls ≡ position_from q n ls
same-place q [] n k rises h = absurd cc
same-place q (l ∷ ls) n k rises h =
    by (q l) refl h (same-place q ls (n + 1) k (λ i j d less within. rises (suc i) (suc j) d
    (omega (arith, less)) (omega (arith, within))))
  where
    by : (b : Bool) → q l ≡ b → number_of (cond b (Some l) (find q ls)) ≡ Some k
        → (number_of (find q ls) ≡ Some k
        → position_from (λ m. m.connection == k) (n + 1) ls ≡ position_from q (n + 1) ls)
        → position_from (λ m. m.connection == k) n (l ∷ ls)
        ≡ cond b (Some n) (position_from q (n + 1) ls)
    by true e h later =
        let is : l.connection ≡ k = cc in
        let test : (l.connection == k) ≡ true = grind (arith, nat_tests) in
        ap (λ t. cond t (Some n) (position_from (λ (m : Link). m.connection == k) (n + 1) ls)) test
    by false e h later =
        let r = member q ls k h in
        let w = r.1 in
        let is = r.2 l in
        let less : l.connection < (get_or ls r.0 l).connection =
        rises zero (suc r.0) l (omega arith) (omega (arith, w)) in
        let below : l.connection < k = omega (arith, less, is) in
        let test : (l.connection == k) ≡ false = grind (arith, nat_tests) in
        ap (λ t. cond t (Some n) (position_from (λ (m : Link). m.connection == k) (n + 1) ls)) test
        ∙ later h

-- what two tests find at one place
same-first : (p q : Link → Bool) (ls : List Link) → position_from p 0 ls ≡ position_from q 0 ls
    → (find p ls ≡ find q ls) × ((f : Link → Link) → at_first p f ls ≡ at_first q f ls)
same-first p q [] same = (refl, λ f. refl)
same-first p q (l ∷ ls) same = by (position_from q 0 (l ∷ ls)) refl
  where
    by : (o : Option ℕ) → position_from q 0 (l ∷ ls) ≡ o
        → (find p (l ∷ ls) ≡ find q (l ∷ ls))
        × ((f : Link → Link) → at_first p f (l ∷ ls) ≡ at_first q f (l ∷ ls))
    by None e =
        let one = none-stands p (l ∷ ls) (same ∙ e) in
        let two = none-stands q (l ∷ ls) e in
        (one.0 ∙ sym two.0, λ f. one.1 f ∙ sym (two.1 f))
    by (Some i) e =
        let one = standing p (l ∷ ls) i (same ∙ e) in
        let two = standing q (l ∷ ls) i e in
        (one.found l ∙ sym (two.found l), λ f. one.changed f l ∙ sym (two.changed f l))

-- where numbers rise, it is found by its number
pub found-numbered : (q : Link → Bool) (ls : List Link) (o : Option ℕ) (k : ℕ) → Rises ls
    → o ≡ number_of (find q ls) → o ≡ Some k → find (λ l. l.connection == k) ls ≡ find q ls
found-numbered q ls o k rises is was =
    (same-first (λ (l : Link). l.connection == k) q ls (same-place q ls 0 k rises (sym is ∙ was))).0

-- and changed by its number
pub changed-numbered : (q : Link → Bool) (f : Link → Link) (ls : List Link) (o : Option ℕ) (k : ℕ)
    → Rises ls → o ≡ number_of (find q ls) → o ≡ Some k
    → at_first (λ l. l.connection == k) f ls ≡ at_first q f ls
changed-numbered q f ls o k rises is was =
    (same-first (λ (l : Link). l.connection == k) q ls (same-place q ls 0 k rises (sym is
    ∙ was))).1 f

-- there is none to be changed
pub changed-nowhere : (q : Link → Bool) (f : Link → Link) (ls : List Link) (o : Option ℕ)
    → o ≡ number_of (find q ls) → o ≡ None → ls ≡ at_first q f ls
changed-nowhere q f [] o is was = refl
changed-nowhere q f (l ∷ ls) o is was =
    by (q l) (sym is ∙ was) (λ none. changed-nowhere q f ls None (sym none) refl)
  where
    by : (b : Bool) → number_of (cond b (Some l) (find q ls)) ≡ None
        → (number_of (find q ls) ≡ None → ls ≡ at_first q f ls)
        → l ∷ ls ≡ cond b (f l ∷ ls) (l ∷ at_first q f ls)
    by true none later = absurd cc
    by false none later = ap (λ ms. l ∷ ms) (later none)
