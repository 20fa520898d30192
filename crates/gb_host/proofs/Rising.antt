-- Connections whose numbers rise.
use Rattle.std.proofs.Common.{◌≡◌, ◌==◌, ◌<◌, ◌+◌, ℕ, zero, suc, Bool, true, false, ◌&&◌, cond, not}
use Rattle.std.proofs.Common.{Option, Some, None, List, [], ◌∷◌, ◌++◌, length, get_or}
use Rattle.std.proofs.Common.{refl, sym, ap, ◌∙◌, arith, subst, length-append}
use Rattle.std.proofs.Math.Seq.{get_or-append_seam}
use Rattle.std.proofs.lemmas.Bool.Decides.{nat_tests}
use Rattle.std.proofs.lemmas.List.Kept.{AllPairs-filter}
use Rattle.std.specs.List.{filter, find}
use Rattle.gb_base.specs.declared.interface.Link.{Link}
use Rattle.gb_host.proofs.Numbers.{AreAbove, above-first, none-numbered}
use Rattle.gb_host.specs.Changes.{IsTaken, Takes}
use Rattle.gb_host.specs.Indexes.{Rises}
use Rattle.gb_machine.specs.Lists.{at_first, without}

-- a change keeps how many there are
length-kept : (test : Link → Bool) (f : Link → Link) (ls : List Link)
    → length (at_first test f ls) ≡ length ls
length-kept test f [] = refl
length-kept test f (l ∷ ls) = by (test l) (length-kept test f ls)
  where
    by : (b : Bool) → length (at_first test f ls) ≡ length ls
        → length (cond b (f l ∷ ls) (l ∷ at_first test f ls)) ≡ length (l ∷ ls)
    by true later = refl
    by false later = ap suc later

-- and the number at each place
number-kept : (test : Link → Bool) (f : Link → Link) → ((l : Link)
    → (f l).connection ≡ l.connection) → (ls : List Link) (i : ℕ) (d : Link)
    → (get_or (at_first test f ls) i d).connection ≡ (get_or ls i d).connection
number-kept test f same [] i d = refl
number-kept test f same (l ∷ ls) i d = by (test l) i (λ n. number-kept test f same ls n d)
  where
    by : (b : Bool) (i : ℕ) → ((n : ℕ) → (get_or (at_first test f ls) n d).connection
        ≡ (get_or ls n d).connection)
        → (get_or (cond b (f l ∷ ls) (l ∷ at_first test f ls)) i d).connection
        ≡ (get_or (l ∷ ls) i d).connection
    by true zero later = same l
    by true (suc n) later = refl
    by false zero later = refl
    by false (suc n) later = later n

-- a change that keeps numbers keeps their order
pub rises-kept : (test : Link → Bool) (f : Link → Link) (ls ms : List Link) → ((l : Link)
    → (f l).connection ≡ l.connection)
    → ms ≡ at_first test f ls → Rises ls → Rises ms
rises-kept test f ls ms same e rises = subst Rises (sym e) (λ i j d less within.
    let inside : j < length ls = subst (λ n. j < n) (length-kept test f ls) within in
    let a = number-kept test f same ls i d in
    let b = number-kept test f same ls j d in
    subst (λ n. n < (get_or (at_first test f ls) j d).connection) (sym a)
    (subst (λ n. (get_or ls i d).connection < n) (sym b) (rises i j d less inside)))

-- the connections that stay rise
pub rises-without : (test : Link → Bool) (ls ms : List Link) → ms ≡ without test ls → Rises ls
    → Rises ms
rises-without test ls ms e rises = subst Rises (sym e) (AllPairs-filter (λ (l m : Link).
    l.connection < m.connection) _ ls rises)

-- two tests that both hold
pub and-both : (a b : Bool) → (a && b) ≡ true → (a ≡ true) × (b ≡ true)
and-both true true h = (refl, refl)
and-both true false h = absurd cc
and-both false b h = absurd cc

-- where none passes a test, all stay
pub none-stays : (test : Link → Bool) (ls : List Link) → find test ls ≡ None
    → (without test ls ≡ ls) × (filter test ls ≡ [])
none-stays test [] e = (refl, refl)
none-stays test (l ∷ ls) e = by (test l) e (none-stays test ls)
  where
    by : (b : Bool) → cond b (Some l) (find test ls) ≡ None
        → (find test ls ≡ None → (without test ls ≡ ls) × (filter test ls ≡ []))
        → (cond (not b) (l ∷ without test ls) (without test ls) ≡ l ∷ ls)
        × (cond b (l ∷ filter test ls) (filter test ls) ≡ [])
    by true h later = absurd cc
    by false h later = let all = later h in (ap (λ ks. l ∷ ks) all.0, all.1)

-- where numbers rise, those behind and before one have other numbers
rises-taken : (k : ℕ) (front behind : List Link) (l : Link) → l.connection ≡ k
    → Rises (front ++ l ∷ behind)
    → without (λ m. m.connection == k) (front ++ l ∷ behind) ≡ front ++ behind
rises-taken k [] behind l is rises =
    let test : (l.connection == k) ≡ true = grind (arith, nat_tests) in
    ap (λ b. cond (not b) (l ∷ without (λ (m : Link). m.connection == k) behind) (without (λ (m :
    Link). m.connection == k) behind)) test
    ∙ none-numbered k behind (subst (λ n. AreAbove n behind) is (above-first l behind rises))
rises-taken k (m ∷ front) behind l is rises =
    let count : length (front ++ l ∷ behind) ≡ length front + length (l ∷ behind) =
    length-append front (l ∷ behind) in
    let up = rises zero (suc (length front)) l (omega arith) (omega (arith, count)) in
    let less : m.connection < l.connection = subst (λ (n : Link). m.connection < n.connection)
    (get_or-append_seam front l behind l) up in
    let test : (m.connection == k) ≡ false = grind (arith, nat_tests) in
    let all = front ++ l ∷ behind in
    ap (λ b. cond (not b) (m ∷ without (λ (n : Link). n.connection == k) all) (without (λ (n :
    Link). n.connection == k) all)) test
    ∙ ap (λ ms. m ∷ ms) (rises-taken k front behind l is (λ i j d low high. rises (suc i) (suc j) d
    (omega (arith, low)) (omega (arith, high))))

-- the one that passes a test passes it
pub found-passes : {A : Type 0} (test : A → Bool) (ls : List A) (l : A) → find test ls ≡ Some l
    → test l ≡ true
found-passes test [] l h = absurd cc
found-passes test (m ∷ ls) l h = by (test m) refl h (found-passes test ls l)
  where
    by : (b : Bool) → test m ≡ b → cond b (Some m) (find test ls) ≡ Some l
        → (find test ls ≡ Some l → test l ≡ true) → test l ≡ true
    by true e h later = let one : m ≡ l = cc in subst (λ n. test n ≡ true) one e
    by false e h later = later h

-- where numbers rise and one is taken, those that stay have other numbers
taken-only : (k : ℕ) (old new : List Link) (l : Link) → IsTaken l old new → Rises old
    → find (λ m. m.connection == k) old ≡ Some l → new ≡ without (λ m. m.connection == k) old
taken-only k old new l taken rises found =
    let test : (l.connection == k) ≡ true = found-passes (λ m. m.connection == k) old l found in
    let is : l.connection ≡ k = grind (arith, nat_tests) in
    taken.new_is
    ∙ sym (rises-taken k taken.front taken.behind l is (subst Rises taken.old_is rises))
    ∙ sym (ap (without (λ m. m.connection == k)) taken.old_is)

-- where numbers rise and one is taken, if there is one, those that stay have other numbers
pub takes-only : (k : ℕ) (o : Option Link) (old new : List Link)
    → o ≡ find (λ m. m.connection == k) old → Takes o old new → Rises old
    → new ≡ without (λ m. m.connection == k) old
takes-only k None old new found same rises =
    same ∙ sym (none-stays (λ m. m.connection == k) old (sym found)).0
takes-only k (Some l) old new found taken rises = taken-only k old new l taken rises (sym found)
