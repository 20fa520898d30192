-- How many connections have each CPort, as connections come and go.
use Rattle.std.proofs.Common.{◌≡◌, ◌≢◌, ◌==◌, ◌<◌, ◌≤◌, ◌+◌, ◌-◌, ◌/◌, ◌||◌, ◌⊎◌, inl, inr, ℕ}
use Rattle.std.proofs.Common.{suc, Bool, true, false}
use Rattle.std.proofs.Common.{cond, not, List, [], ◌∷◌, ◌++◌, Some, None, get_or, refl, sym, ap}
use Rattle.std.proofs.Common.{◌∙◌, ◌^◌, arith, length, min, nat_lt, replicate, set, subst}
use Rattle.std.proofs.lemmas.Bool.{true≢false}
use Rattle.std.proofs.lemmas.Bool.Decides.{nat_tests}
use Rattle.std.proofs.lemmas.List.{append-nil, get_or_default, get_or_past}
use Rattle.std.proofs.lemmas.List.{get_or-replicate, get_or-set_other, get_or-set_same, length-set}
use Rattle.std.proofs.lemmas.List.{length-replicate}
use Rattle.std.specs.List.{list_any}
use Rattle.gb_base.specs.declared.interface.Link.{Link}
use Rattle.gb_formats.proofs.FirstFree.{free-here, free-none}
use Rattle.gb_host.proofs.Free.{free-past}
use Rattle.gb_host.specs.Counts.{AreCounted, AreTaken, IsLeast, count_at}
use Rattle.gb_host.specs.declared.cports.Cports.{Cports}
use Rattle.gb_machine.specs.Lists.{at_first, first_free}

-- ---- counts

-- some connection has a CPort exactly where the count isn't 0
has-some : (a : ℕ) (ls : List Link) → list_any (λ l. l.ap == a) ls ≡ not (count_at a ls == 0)
has-some a [] = refl
has-some a (l ∷ ls) = by (l.ap == a) (has-some a ls)
  where
    by : (b : Bool) → list_any (λ l. l.ap == a) ls ≡ not (count_at a ls == 0)
        → (b || list_any (λ l. l.ap == a) ls)
        ≡ not (cond b (count_at a ls + 1) (count_at a ls) == 0)
    by true later =
        let more : (count_at a ls + 1 == 0) ≡ false = grind (arith, nat_tests) in
        sym (ap not more)
    by false later = later

-- where the count is 0 no connection has it, and else one has
none-has : (a : ℕ) (ls : List Link) → count_at a ls ≡ 0 → list_any (λ l. l.ap == a) ls ≡ false
none-has a ls none =
    let test : (count_at a ls == 0) ≡ true = grind (arith, nat_tests) in
    has-some a ls ∙ ap not test

one-has : (a : ℕ) (ls : List Link) → 0 < count_at a ls → list_any (λ l. l.ap == a) ls ≡ true
one-has a ls some =
    let test : (count_at a ls == 0) ≡ false = grind (arith, nat_tests) in
    has-some a ls ∙ ap not test

-- those of two lists are added up
count-append : (a : ℕ) (ls ms : List Link) → count_at a (ls ++ ms) ≡ count_at a ls + count_at a ms
count-append a [] ms = omega arith
count-append a (l ∷ ls) ms = by (l.ap == a) (count-append a ls ms)
  where
    by : (b : Bool) → count_at a (ls ++ ms) ≡ count_at a ls + count_at a ms
        → cond b (count_at a (ls ++ ms) + 1) (count_at a (ls ++ ms))
        ≡ cond b (count_at a ls + 1) (count_at a ls) + count_at a ms
    by true later = omega (arith, later)
    by false later = later

-- there are no more than connections
count-most : (a : ℕ) (ls : List Link) → count_at a ls ≤ length ls
count-most a [] = omega arith
count-most a (l ∷ ls) = by (l.ap == a) (count-most a ls)
  where
    by : (b : Bool) → count_at a ls ≤ length ls
        → cond b (count_at a ls + 1) (count_at a ls) ≤ length (l ∷ ls)
    by true later = omega (arith, later)
    by false later = omega (arith, later)

-- one connection counts where it has the CPort
count-same : (a : ℕ) (l : Link) (ls : List Link) → l.ap ≡ a → count_at a (l ∷ ls)
    ≡ count_at a ls + 1
count-same a l ls e =
    let test : (l.ap == a) ≡ true = grind (arith, nat_tests) in
    ap (λ b. cond b (count_at a ls + 1) (count_at a ls)) test

count-other : (a : ℕ) (l : Link) (ls : List Link) → l.ap ≢ a → count_at a (l ∷ ls) ≡ count_at a ls
count-other a l ls e =
    let test : (l.ap == a) ≡ false = grind (arith, nat_tests) in
    ap (λ b. cond b (count_at a ls + 1) (count_at a ls)) test

-- a changed connection that keeps its CPort counts as before
count-kept : (a : ℕ) (test : Link → Bool) (f : Link → Link) → ((l : Link) → (f l).ap ≡ l.ap)
    → (ls : List Link) → count_at a (at_first test f ls) ≡ count_at a ls
count-kept a test f same [] = refl
count-kept a test f same (l ∷ ls) = by (test l) (count-kept a test f same ls)
  where
    by : (b : Bool) → count_at a (at_first test f ls) ≡ count_at a ls
        → count_at a (cond b (f l ∷ ls) (l ∷ at_first test f ls)) ≡ count_at a (l ∷ ls)
    by true later = ap (λ n. cond (n == a) (count_at a ls + 1) (count_at a ls)) (same l)
    by false later = ap (λ n. cond (l.ap == a) (n + 1) n) later

-- ---- CPorts that are taken

-- a count that isn't 0 is written, or that of CPort 0
some-set : (xs : List ℕ) (i count a : ℕ) → i < length xs → (count ≡ 0 → i < 1) → 1 ≤ a
    → 0 < get_or xs a 0 → 0 < get_or (set xs i count) a 0
some-set xs i count a within some one was = by (a == i) refl
  where
    by : (b : Bool) → (a == i) ≡ b → 0 < get_or (set xs i count) a 0
    by true e =
        let same : a ≡ i = grind (arith, nat_tests) in
        subst (λ n. 0 < n) (sym (ap (λ n. get_or (set xs i count) n 0) same
        ∙ get_or-set_same xs i count 0 within)) (more (count == 0) refl same)
      where
        more : (b : Bool) → (count == 0) ≡ b → a ≡ i → 0 < count
        more true z same =
            let none : count ≡ 0 = grind (arith, nat_tests) in
            let low = some none in absurd (omega (arith, low, same, one))
        more false z same = grind (arith, nat_tests)
    by false e =
        let other : a ≢ i = λ same. absurd (grind (arith, nat_tests)) in
        subst (λ n. 0 < n) (sym (get_or-set_other xs i a count 0 other)) was

-- and so all that are taken stay so
taken-set : (xs : List ℕ) (full : List Bool) (i count next : ℕ) → i < length xs
    → (count ≡ 0 → i < 1) → AreTaken xs full next → AreTaken (set xs i count) full next
taken-set xs full i count next within some taken = record {
  before = λ a one below. some-set xs i count a within some one (taken.before a one below);
  blocks = λ a one marked. some-set xs i count a within some one (taken.blocks a one marked);
}

-- the mark of a block is taken away
unmarked : (full : List Bool) (block : ℕ) → get_or (set full block false) block false ≡ false
unmarked full block = by (nat_lt block (length full)) refl
  where
    by : (b : Bool) → nat_lt block (length full) ≡ b
        → get_or (set full block false) block false ≡ false
    by true e =
        let within : block < length full = grind (arith, nat_tests) in
        get_or-set_same full block false false within
    by false e =
        let over : length full ≤ block = grind (arith, nat_tests) in
        get_or_past (set full block false) block false
        (subst (λ n. n ≤ block) (sym (length-set full block false)) over)

-- a count falls to 0, and its block isn't known to be full
taken-falls : (xs : List ℕ) (full : List Bool) (i block least new : ℕ) → block ≡ i / 64
    → new ≤ least → new ≤ i
    → AreTaken xs full least → AreTaken (set xs i 0) (set full block false) new
taken-falls xs full i block least new at under most taken = record {
  before = λ a one below.
      let less : a < least = omega (arith, below, under) in
      stays a (λ e. absurd (omega (arith, e, below, most))) (taken.before a one less);
  blocks = λ a one marked. blocks a one marked (a / 64 == block) refl;
}
  where
    stays : (a : ℕ) → a ≢ i → 0 < get_or xs a 0 → 0 < get_or (set xs i 0) a 0
    stays a other some = subst (λ n. 0 < n) (sym (get_or-set_other xs i a 0 0 other)) some

    blocks : (a : ℕ) → 1 ≤ a → get_or (set full block false) (a / 64) false ≡ true
        → (b : Bool) → (a / 64 == block) ≡ b → 0 < get_or (set xs i 0) a 0
    blocks a one marked true e =
        let same : a / 64 ≡ block = grind (arith, nat_tests) in
        absurd (true≢false (sym marked
        ∙ ap (λ n. get_or (set full block false) n false) same ∙ unmarked full block))
    blocks a one marked false e =
        let other : a / 64 ≢ block = λ same. absurd (grind (arith, nat_tests)) in
        stays a (λ same. other (ap (λ n. n / 64) same ∙ sym at)) (taken.blocks a one
        (sym (get_or-set_other full block (a / 64) false false other) ∙ marked))

-- ---- the least, as a count changes

-- where a count rises
pub least-rises : (xs ys : List ℕ) (full marks : List Bool) (i count least new : ℕ)
    → i < length xs → 0 < count → new ≤ 4096
    → (AreTaken (set xs i count) full least → AreTaken ys marks new)
    → (new < 4096 → get_or ys new 0 ≡ 0) → (least ≤ 4096 → least ≤ new)
    → IsLeast xs full least → IsLeast ys marks new
least-rises xs ys full marks i count least new within some most passes here up was = record {
  from-1 =
      let one = was.from-1 in
      let over = up was.within in omega (arith, one, over);
  within = most;
  taken = passes (taken-set xs full i count least within
      (λ none. absurd (omega (arith, none, some))) was.taken);
  here = here;
}

-- where a count falls to 0
pub least-falls : (xs : List ℕ) (full : List Bool) (i block least new : ℕ) → i < length xs → 1 ≤ i
    → block ≡ i / 64 → new ≤ least
    → new ≤ i → (i < least → new ≡ i) → (least ≤ i → new ≡ least)
    → IsLeast xs full least → IsLeast (set xs i 0) (set full block false) new
least-falls xs full i block least new within one at under most falls stays was = record {
  from-1 =
      let from = was.from-1 in by-1 (nat_lt i least) refl from;
  within =
      let top = was.within in omega (arith, under, top);
  taken = taken-falls xs full i block least new at under most was.taken;
  here = λ below. here below (new == i) refl;
}
  where
    by-1 : (b : Bool) → nat_lt i least ≡ b → 1 ≤ least → 1 ≤ new
    by-1 true e from =
        let less : i < least = grind (arith, nat_tests) in
        let is = falls less in omega (arith, is, one)
    by-1 false e from =
        let over : least ≤ i = grind (arith, nat_tests) in
        let is = stays over in omega (arith, is, from)

    past : (b : Bool) → nat_lt i least ≡ b → new ≢ i → least ≤ i
    past true e other =
        let less : i < least = grind (arith, nat_tests) in absurd (other (falls less))
    past false e other = grind (arith, nat_tests)

    here : new < 4096 → (b : Bool) → (new == i) ≡ b → get_or (set xs i 0) new 0 ≡ 0
    here below true e =
        let same : new ≡ i = grind (arith, nat_tests) in
        ap (λ n. get_or (set xs i 0) n 0) same ∙ get_or-set_same xs i 0 0 within
    here below false e =
        let other : new ≢ i = λ same. absurd (grind (arith, nat_tests)) in
        let over : least ≤ i = past (nat_lt i least) refl other in
        let is = stays over in
        get_or-set_other xs i new 0 0 other
        ∙ ap (λ n. get_or xs n 0) is ∙ was.here (omega (arith, below, is))

-- where it doesn't
pub least-stays : (xs : List ℕ) (full : List Bool) (i count least : ℕ) → i < length xs
    → count ≡ get_or xs i 0 - 1 → (count ≡ 0 → i < 1)
    → IsLeast xs full least → IsLeast (set xs i count) full least
least-stays xs full i count least within is some was = record {
  from-1 = was.from-1;
  within = was.within;
  taken = taken-set xs full i count least within some was.taken;
  here = λ below. here below (least == i) refl;
}
  where
    here : least < 4096 → (b : Bool) → (least == i) ≡ b → get_or (set xs i count) least 0 ≡ 0
    here below true e =
        let same : least ≡ i = grind (arith, nat_tests) in
        let none : get_or xs i 0 ≡ 0 = ap (λ n. get_or xs n 0) (sym same) ∙ was.here below in
        ap (λ n. get_or (set xs i count) n 0) same
        ∙ get_or-set_same xs i count 0 within ∙ omega (arith, is, none)
    here below false e =
        let other : least ≢ i = λ same. absurd (grind (arith, nat_tests)) in
        get_or-set_other xs i least count 0 other ∙ was.here below

-- ---- what is kept

-- a change of a connection keeps the counts
pub counts-kept : (x : Cports) (test : Link → Bool) (f : Link → Link) (ls ms : List Link)
    → ((l : Link) → (f l).ap ≡ l.ap)
    → AreCounted x ls → ms ≡ at_first test f ls → AreCounted x ms
counts-kept x test f ls ms same counted e = record {
  long = counted.long;
  least = counted.least;
  each = λ a within.
      counted.each a within ∙ sym (count-kept a test f same ls) ∙ ap (count_at a) (sym e);
}

-- a CPort above 4,095 isn't counted
counts-outside : (a : ℕ) (front behind : List Link) (l : Link) → a < 4096 → 4096 ≤ l.ap
    → count_at a (front ++ l ∷ behind) ≡ count_at a (front ++ behind)
counts-outside a front behind l below over =
    count-append a front (l ∷ behind)
    ∙ ap (λ n. count_at a front + n) (count-other a l behind (λ e. absurd (omega (
      arith,
      below,
      over,
      e,
    ))))
    ∙ sym (count-append a front behind)

pub outside-comes : (x : Cports) (ls : List Link) (l : Link) → length x.counts.items ≤ l.ap
    → AreCounted x ls → AreCounted x (ls ++ l ∷ [])
outside-comes x ls l over counted = record {
  long = counted.long;
  least = counted.least;
  each = λ a below.
      let long = counted.long in
      counted.each a below
      ∙ ap (count_at a) (sym (append-nil ls))
      ∙ sym (counts-outside a ls [] l below (omega (arith, long, over)));
}

pub outside-leaves : (x : Cports) (front behind : List Link) (l : Link)
    → length x.counts.items ≤ l.ap
    → AreCounted x (front ++ l ∷ behind) → AreCounted x (front ++ behind)
outside-leaves x front behind l over counted = record {
  long = counted.long;
  least = counted.least;
  each = λ a below.
      let long = counted.long in
      counted.each a below ∙ counts-outside a front behind l below (omega (arith, long, over));
}

-- a connection comes whose CPort is counted
comes-at : (x y : Cports) (ls : List Link) (l : Link) (count : ℕ)
    → l.ap < length x.counts.items → length ls < 2 ^ 63
    → (get_or x.counts.items l.ap 0 < 2 ^ 63 → count ≡ get_or x.counts.items l.ap 0 + 1)
    → y.counts.items ≡ set x.counts.items l.ap count
    → IsLeast y.counts.items y.full.items y.least
    → AreCounted x ls → AreCounted y (ls ++ l ∷ [])
comes-at x y ls l count within few sum is least counted = record {
  long = ap length is ∙ length-set x.counts.items l.ap count ∙ counted.long;
  each = each;
  least = least;
}
  where
    each : (a : ℕ) → a < 4096 → get_or y.counts.items a 0 ≡ count_at a (ls ++ l ∷ [])
    each a below = by (l.ap == a) refl
      where
        by : (b : Bool) → (l.ap == a) ≡ b
            → get_or y.counts.items a 0 ≡ count_at a (ls ++ l ∷ [])
        by true e =
            let same : l.ap ≡ a = grind (arith, nat_tests) in
            let before : get_or x.counts.items l.ap 0 ≡ count_at a ls =
            ap (λ n. get_or x.counts.items n 0) same ∙ counted.each a below in
            let fits = count-most a ls in
            let more = sum (omega (arith, before, fits, few)) in
            let one = count-same a l [] same in
            let all = count-append a ls (l ∷ []) in
            ap (λ ns. get_or ns a 0) is
            ∙ ap (λ n. get_or (set x.counts.items l.ap count) n 0) (sym same)
            ∙ get_or-set_same x.counts.items l.ap count 0 within
            ∙ omega (arith, before, more, one, all)
        by false e =
            let other : a ≢ l.ap = λ same. absurd (grind (arith, nat_tests)) in
            let apart : l.ap ≢ a = λ same. other (sym same) in
            ap (λ ns. get_or ns a 0) is
            ∙ get_or-set_other x.counts.items l.ap a count 0 other
            ∙ counted.each a below
            ∙ ap (count_at a) (sym (append-nil ls))
            ∙ count-append a ls []
            ∙ ap (λ n. count_at a ls + n) (sym (count-other a l [] apart))
            ∙ sym (count-append a ls (l ∷ []))

pub counted-comes : (x y : Cports) (ls : List Link) (l : Link) (i v count : ℕ) → i ≡ l.ap
    → i < length x.counts.items → length ls < 2 ^ 63 → v ≡ get_or x.counts.items i v
    → count ≡ min (v + 1) (2 ^ 64 - 1)
    → y.counts.items ≡ set x.counts.items i count
    → (IsLeast x.counts.items x.full.items x.least → 0 < count
    → IsLeast y.counts.items y.full.items y.least)
    → AreCounted x ls → AreCounted y (ls ++ l ∷ [])
counted-comes x y ls l i v count at within few read sum is least counted =
    let same : v ≡ get_or x.counts.items l.ap 0 =
    read ∙ get_or_default x.counts.items i v 0 within
    ∙ ap (λ j. get_or x.counts.items j 0) at in
    comes-at x y ls l count (subst (λ j. j < length x.counts.items) at within) few
    (λ low. let below : v < 2 ^ 63 = omega (arith, same, low) in
    omega (arith, same, sum, below))
    (is ∙ ap (λ j. set x.counts.items j count) at)
    (least counted.least (omega (arith, sum))) counted

-- a count falls to 0 at CPort 0 alone
pub either-some : (count ap i : ℕ) → i ≡ ap → ((count ≡ 0) × (ap < 1)) ⊎ (count ≢ 0)
    → count ≡ 0 → i < 1
either-some count ap i at (inl both) none = let low = both.1 in omega (arith, at, low)
either-some count ap i at (inr some) none = absurd (some none)

-- a connection leaves whose CPort is counted
leaves-at : (x y : Cports) (front behind : List Link) (l : Link) (count : ℕ)
    → l.ap < length x.counts.items → count ≡ get_or x.counts.items l.ap 0 - 1
    → y.counts.items ≡ set x.counts.items l.ap count
    → IsLeast (set x.counts.items l.ap count) y.full.items y.least
    → AreCounted x (front ++ l ∷ behind) → AreCounted y (front ++ behind)
leaves-at x y front behind l count within less is least counted = record {
  long = ap length is ∙ length-set x.counts.items l.ap count ∙ counted.long;
  each = each;
  least = subst (λ ns. IsLeast ns y.full.items y.least) (sym is) least;
}
  where
    each : (a : ℕ) → a < 4096 → get_or y.counts.items a 0 ≡ count_at a (front ++ behind)
    each a below = by (l.ap == a) refl
      where
        by : (b : Bool) → (l.ap == a) ≡ b
            → get_or y.counts.items a 0 ≡ count_at a (front ++ behind)
        by true e =
            let same : l.ap ≡ a = grind (arith, nat_tests) in
            let was : get_or x.counts.items l.ap 0 ≡ count_at a (front ++ l ∷ behind) =
            ap (λ n. get_or x.counts.items n 0) same ∙ counted.each a below in
            let one = count-same a l behind same in
            let all = count-append a front (l ∷ behind) in
            let rest = count-append a front behind in
            ap (λ ns. get_or ns a 0) is
            ∙ ap (λ n. get_or (set x.counts.items l.ap count) n 0) (sym same)
            ∙ get_or-set_same x.counts.items l.ap count 0 within
            ∙ omega (arith, was, less, one, all, rest)
        by false e =
            let other : a ≢ l.ap = λ same. absurd (grind (arith, nat_tests)) in
            let apart : l.ap ≢ a = λ same. other (sym same) in
            ap (λ ns. get_or ns a 0) is
            ∙ get_or-set_other x.counts.items l.ap a count 0 other
            ∙ counted.each a below
            ∙ count-append a front (l ∷ behind)
            ∙ ap (λ n. count_at a front + n) (count-other a l behind apart)
            ∙ sym (count-append a front behind)

pub counted-leaves : (x y : Cports) (front behind : List Link) (l : Link) (i v count : ℕ)
    → i ≡ l.ap → i < length x.counts.items → v ≡ get_or x.counts.items i v → count ≡ v - 1
    → y.counts.items ≡ set x.counts.items i count
    → (IsLeast x.counts.items x.full.items x.least → count ≡ get_or x.counts.items i 0 - 1
    → IsLeast (set x.counts.items i count) y.full.items y.least)
    → AreCounted x (front ++ l ∷ behind) → AreCounted y (front ++ behind)
counted-leaves x y front behind l i v count at within read less is least counted =
    let zero : v ≡ get_or x.counts.items i 0 =
    read ∙ get_or_default x.counts.items i v 0 within in
    let here : count ≡ get_or x.counts.items i 0 - 1 = less ∙ ap (λ n. n - 1) zero in
    leaves-at x y front behind l count (subst (λ j. j < length x.counts.items) at within)
    (here ∙ ap (λ j. get_or x.counts.items j 0 - 1) at)
    (is ∙ ap (λ j. set x.counts.items j count) at)
    (subst (λ j. IsLeast (set x.counts.items j count) y.full.items y.least) at
    (least counted.least here))
    counted

-- ---- the least

-- those before the least that none has are passed over
least-past : (x : Cports) (ls : List Link) (u : ℕ) → AreCounted x ls → u ≡ 4096 - x.least
    → first_free (λ a. list_any (λ l. l.ap == a) ls) 4095 1
    ≡ first_free (λ a. list_any (λ l. l.ap == a) ls) u x.least
least-past x ls u counted e =
    let least = counted.least in
    let from = least.from-1 in
    let within = least.within in
    free-past (λ a. list_any (λ l. l.ap == a) ls) (x.least - 1) 4095 u 1 x.least (omega (
      arith,
      e,
      from,
      within,
    )) (omega (arith, from)) (λ a h below. one-has a ls (subst (λ n. 0 < n)
    (counted.each a (omega (arith, below, within))) (least.taken.before a h below)))

-- the least that none has is the first that no connection has
pub least-free : (x : Cports) (ls : List Link) → AreCounted x ls → x.least < 4096
    → Some x.least ≡ first_free (λ a. list_any (λ l. l.ap == a) ls) 4095 1
least-free x ls counted below =
    let u : 4096 - x.least ≡ suc (4096 - (x.least + 1)) = omega (arith, below) in
    sym (least-past x ls (4096 - x.least) counted refl
    ∙ free-here (λ a. list_any (λ l. l.ap == a) ls) (4096 - x.least) (4096 - (x.least + 1)) x.least
    u (none-has x.least ls (sym (counted.each x.least below) ∙ counted.least.here below)))

-- connections have all
pub least-none : (x : Cports) (ls : List Link) → AreCounted x ls → 4096 ≤ x.least
    → None ≡ first_free (λ a. list_any (λ l. l.ap == a) ls) 4095 1
least-none x ls counted over =
    sym (least-past x ls (4096 - x.least) counted refl
    ∙ free-none (λ a. list_any (λ l. l.ap == a) ls) (4096 - x.least) x.least (omega (arith, over)))

-- no block is known to be full at first
none-marked : (m i : ℕ) → get_or (replicate m false) i false ≡ false
none-marked m i = by (nat_lt i m) refl
  where
    by : (b : Bool) → nat_lt i m ≡ b → get_or (replicate m false) i false ≡ false
    by true e =
        let within : i < m = grind (arith, nat_tests) in get_or-replicate m i false false within
    by false e =
        let over : m ≤ i = grind (arith, nat_tests) in
        get_or_past (replicate m false) i false
        (subst (λ n. n ≤ i) (sym (length-replicate m false)) over)

-- where no count was made, no connection has a CPort
pub none-counted : (x : Cports) (n m : ℕ) → n ≡ 4096 → x.counts.items ≡ replicate n 0
    → x.full.items ≡ replicate m false → x.least ≡ 1 → AreCounted x []
none-counted x n m all none marks least = record {
  long = ap length none ∙ length-replicate n 0 ∙ all;
  each = λ a below. unused a below;
  least = record {
    from-1 = omega (arith, least);
    within = omega (arith, least);
    taken = record {
      before = λ a from below. absurd (omega (arith, from, below, least));
      blocks = λ a from marked. absurd (true≢false (sym marked
          ∙ ap (λ (bs : List Bool). get_or bs (a / 64) false) marks
          ∙ none-marked m (a / 64)));
    };
    here = λ below. unused x.least below;
  };
}
  where
    unused : (a : ℕ) → a < 4096 → get_or x.counts.items a 0 ≡ 0
    unused a below =
        ap (λ (ns : List ℕ). get_or ns a 0) none
        ∙ get_or-replicate n a 0 0 (omega (arith, below, all))
