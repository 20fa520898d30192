-- The places of CPorts of which the first have the numbers 1, 2, 3 and so on.
use Rattle.std.proofs.Common.{◌≡◌, ℕ, zero, suc, ◌+◌, ◌-◌, ◌<◌, ◌≤◌, ◌==◌, Bool, true, false, cond}
use Rattle.std.proofs.Common.{nat_lt, nat_le, ◌&&◌, Some, List, [], ◌∷◌, length, get_or, drop, refl}
use Rattle.std.proofs.Common.{sym, ap, ◌∙◌, arith, subst, BTreeMap}
use Rattle.std.proofs.lemmas.Bool.Decides.{nat_tests}
use Rattle.std.proofs.lemmas.List.{get_or_default}
use Rattle.std.specs.BTreeMap.{get}
use Rattle.std.specs.List.{position_from}
use Rattle.std.specs.Ordering.{nat_cmp}
use Rattle.gb_formats.specs.Module.{ModulePort, is_port}
use Rattle.gb_module.specs.Places.{AreCounted, AreFirst}

-- each number has the place of the first CPort with it, where the places are counted from this one
abbrev pub AreKept : BTreeMap ℕ ℕ → ℕ → List ModulePort → Type 0
AreKept places from_place ports =
    (number : ℕ) → get nat_cmp places number ≡ position_from (is_port number) from_place ports

-- none is counted at first
pub none-counted : (ports : List ModulePort) → AreCounted 0 ports
none-counted ports i d h = absurd (omega (arith, h))

-- the next has the next number
pub counted-next : (ports : List ModulePort) (x : ModulePort) (n : ℕ) → x ≡ get_or ports n x
    → x.number ≡ n + 1 → n < length ports → AreCounted n ports → AreCounted (n + 1) ports
counted-next ports x n is next within counted i d h = by (i == n) refl
  where
    by : (b : Bool) → (i == n) ≡ b → (get_or ports i d).number ≡ i + 1
    by true e =
        let same : n ≡ i = grind (arith, nat_tests) in
        subst (λ m. (get_or ports m d).number ≡ m + 1) same
        (ap (λ (p : ModulePort). p.number) (get_or_default ports n d x within ∙ sym is) ∙ next)
    by false e =
        let before : i < n = grind (arith, nat_tests) in counted i d before

-- the first with a number, where those before it have smaller ones
first-of : (number : ℕ) (ports : List ModulePort) (n i : ℕ) → i < length ports
    → ((j : ℕ) (d : ModulePort) → j < i → (get_or ports j d).number < number)
    → ((d : ModulePort) → (get_or ports i d).number ≡ number)
    → position_from (is_port number) n ports ≡ Some (n + i)
first-of number [] n i within before is = absurd (omega (arith, within))
first-of number (x ∷ xs) n zero within before is =
    let same = is x in
    let test : (x.number == number) ≡ true = grind (arith, nat_tests) in
    ap (λ b. cond b (Some n) (position_from (is_port number) (n + 1) xs)) test
    ∙ ap Some (omega arith)
first-of number (x ∷ xs) n (suc i) within before is =
    let least : x.number < number = before zero x (omega arith) in
    let test : (x.number == number) ≡ false = grind (arith, nat_tests) in
    ap (λ b. cond b (Some n) (position_from (is_port number) (n + 1) xs)) test
    ∙ first-of number xs (n + 1) i (omega (arith, within))
    (λ j d h. before (suc j) d (omega (arith, h))) is ∙ ap Some (omega arith)

-- the first with a number stands behind those that haven't it
behind : (number : ℕ) (ports : List ModulePort) (n k : ℕ) → k ≤ length ports
    → ((i : ℕ) (d : ModulePort) → i < k → is_port number (get_or ports i d) ≡ false)
    → position_from (is_port number) n ports ≡ position_from (is_port number) (n + k) (drop k ports)
behind number ports n zero within other =
    ap (λ m. position_from (is_port number) m ports) (omega arith)
behind number [] n (suc k) within other = absurd (omega (arith, within))
behind number (x ∷ xs) n (suc k) within other =
    ap (λ b. cond b (Some n) (position_from (is_port number) (n + 1) xs))
    (other zero x (omega arith))
    ∙ behind number xs (n + 1) k (omega (arith, within))
    (λ i d h. other (suc i) d (omega (arith, h)))
    ∙ ap (λ m. position_from (is_port number) m (drop k xs)) (omega arith)

-- so many are counted, and the places of the others are kept
pub all-told : (counted left : ℕ) (places : BTreeMap ℕ ℕ) (ports : List ModulePort)
    → left ≡ counted → AreCounted counted ports
    → (left ≤ length ports) × AreKept places left (drop left ports)
    → AreFirst counted places ports
all-told counted left places ports same numbers kept number =
    by (nat_lt 0 number && nat_le number counted) refl
  where
    within : left ≤ length ports
    within = kept.0

    by : (b : Bool) → (nat_lt 0 number && nat_le number counted) ≡ b
        → cond b (Some (number - 1)) (get nat_cmp places number)
        ≡ position_from (is_port number) 0 ports
    by true e =
        let some : 0 < number = grind (arith, nat_tests) in
        let most : number ≤ counted = grind (arith, nat_tests) in
        let less : number - 1 < counted = omega (arith, some, most) in
        sym (first-of number ports 0 (number - 1) (omega (arith, less, same, within))
        (λ j d h. let named = numbers j d (omega (arith, h, less)) in omega (arith, named, h))
        (λ d. let named = numbers (number - 1) d less in omega (arith, named, some))
        ∙ ap Some (omega arith))
    by false e =
        kept.1 number
        ∙ ap (λ m. position_from (is_port number) m (drop left ports)) (omega arith)
        ∙ sym (behind number ports 0 left within (λ i d h.
        let named = numbers i d (omega (arith, h, same)) in
        let other : ((get_or ports i d).number == number) ≡ false = grind (arith, nat_tests) in
        other))
