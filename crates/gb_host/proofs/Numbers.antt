-- Connections that pass a test, by their numbers, where numbers rise.
use Rattle.std.proofs.Common.{◌≡◌, ◌==◌, ◌<◌, ℕ, zero, suc, Bool, true, false, cond, not}
use Rattle.std.proofs.Common.{Option, Some, None, List, [], ◌∷◌, ◌++◌, length, get_or, map, refl}
use Rattle.std.proofs.Common.{sym, ap, ◌∙◌, arith, subst}
use Rattle.std.proofs.lemmas.Bool.Decides.{nat_tests}
use Rattle.std.proofs.lemmas.List.{append-nil, map-append}
use Rattle.std.proofs.lemmas.List.Elements.{filter-append, recursion_from_All}
use Rattle.std.specs.List.{AllByRecursion, filter, find}
use Rattle.std.specs.Option.{option_to_list}
use Rattle.gb_base.specs.declared.interface.Link.{Link}
use Rattle.gb_host.proofs.Known.{all-find}
use Rattle.gb_host.proofs.Named.{alike, number_of}
use Rattle.gb_host.specs.Indexes.{Rises}
use Rattle.gb_host.specs.Numbers.{numbers_where}
use Rattle.gb_machine.specs.Lists.{at_first, without}

-- a connection has a number
abbrev pub has_number : ℕ → Link → Bool
has_number k l = l.connection == k

-- all have greater numbers
abbrev pub AreAbove : ℕ → List Link → Type 0
AreAbove k ls = AllByRecursion (λ l. k < l.connection) ls

-- those behind one have greater numbers
pub above-first : (l : Link) (ls : List Link) → Rises (l ∷ ls) → AreAbove l.connection ls
above-first l ls rises =
    recursion_from_All (λ (m : Link). l.connection < m.connection) ls (λ i d within.
    rises zero (suc i) d (omega arith) (omega (arith, within)))

rises-behind : (l : Link) (ls : List Link) → Rises (l ∷ ls) → Rises ls
rises-behind l ls rises i j d less within =
    rises (suc i) (suc j) d (omega (arith, less)) (omega (arith, within))

-- where all have greater numbers, none has this one
pub none-numbered : (k : ℕ) (ls : List Link) → AreAbove k ls → without (has_number k) ls ≡ ls
none-numbered k [] above = refl
none-numbered k (l ∷ ls) above =
    let more = above.0 in
    let test : (l.connection == k) ≡ false = grind (arith, nat_tests) in
    ap (λ b. cond (not b) (l ∷ without (has_number k) ls) (without (has_number k) ls)) test
    ∙ ap (λ ks. l ∷ ks) (none-numbered k ls above.1)

-- and the first that passes a test has a greater one
first-above : (p : Link → Bool) (k n : ℕ) (ls : List Link) (rest : List ℕ) → AreAbove k ls
    → numbers_where p ls ≡ n ∷ rest → k < n
first-above p k n [] rest above e = absurd cc
first-above p k n (l ∷ ls) rest above e = by (p l) e (first-above p k n ls rest above.1)
  where
    by : (b : Bool) → map (λ (m : Link). m.connection) (cond b (l ∷ filter p ls) (filter p ls))
        ≡ n ∷ rest → (numbers_where p ls ≡ n ∷ rest → k < n) → k < n
    by true e later =
        let same : l.connection ≡ n = cc in subst (λ m. k < m) same above.0
    by false e later = later e

-- ---- those that pass a test

-- where none passes it, all stay
pub none-numbers : (p : Link → Bool) (ls : List Link) → numbers_where p ls ≡ []
    → without p ls ≡ ls
none-numbers p [] e = refl
none-numbers p (l ∷ ls) e = by (p l) e (none-numbers p ls)
  where
    by : (b : Bool) → map (λ (m : Link). m.connection) (cond b (l ∷ filter p ls) (filter p ls))
        ≡ [] → (numbers_where p ls ≡ [] → without p ls ≡ ls)
        → cond (not b) (l ∷ without p ls) (without p ls) ≡ l ∷ ls
    by true e later = absurd cc
    by false e later = ap (λ ks. l ∷ ks) (later e)

-- one that passes it has a number there
some-numbers : (p : Link → Bool) (front behind : List Link) (l : Link) → p l ≡ true
    → numbers_where p (front ++ l ∷ behind) ≡ [] → ⊥
some-numbers p [] behind l passes e =
    let one : l.connection ∷ numbers_where p behind ≡ [] =
    sym (ap (λ b. map (λ (m : Link). m.connection) (cond b (l ∷ filter p behind) (filter p behind)))
    passes) ∙ e in absurd cc
some-numbers p (m ∷ front) behind l passes e =
    by (p m) e (some-numbers p front behind l passes)
  where
    by : (b : Bool) → map (λ (o : Link). o.connection)
        (cond b (m ∷ filter p (front ++ l ∷ behind)) (filter p (front ++ l ∷ behind))) ≡ []
        → (numbers_where p (front ++ l ∷ behind) ≡ [] → ⊥) → ⊥
    by true e later = absurd cc
    by false e later = later e

-- where one number at most is there, nothing else passes the test
rest-none : (o : Option ℕ) (k : ℕ) (ks : List ℕ) → option_to_list o ≡ k ∷ ks → ks ≡ []
rest-none None k ks e = absurd cc
rest-none (Some n) k ks e = cc

pub alone : (o : Option ℕ) (p : Link → Bool) (front behind : List Link) (l : Link) → p l ≡ true
    → option_to_list o ≡ numbers_where p (front ++ l ∷ behind)
    → without p (front ++ l ∷ behind) ≡ front ++ behind
alone o p [] behind l passes e =
    let one : option_to_list o ≡ l.connection ∷ numbers_where p behind =
    e ∙ ap (λ b. map (λ (m : Link). m.connection) (cond b (l ∷ filter p behind) (filter p behind)))
    passes in
    ap (λ b. cond (not b) (l ∷ without p behind) (without p behind)) passes
    ∙ none-numbers p behind (rest-none o l.connection (numbers_where p behind) one)
alone o p (m ∷ front) behind l passes e =
    by (p m) e (alone o p front behind l passes)
  where
    whole : List Link
    whole = front ++ l ∷ behind

    by : (b : Bool) → option_to_list o
        ≡ map (λ (n : Link). n.connection) (cond b (m ∷ filter p whole) (filter p whole))
        → (option_to_list o ≡ numbers_where p whole → without p whole ≡ front ++ behind)
        → cond (not b) (m ∷ without p whole) (without p whole) ≡ m ∷ front ++ behind
    by true e later =
        absurd (some-numbers p front behind l passes
        (rest-none o m.connection (numbers_where p whole) e))
    by false e later = ap (λ ks. m ∷ ks) (later e)

-- the one number is that of the first
pub one-number : (o : Option ℕ) (p : Link → Bool) (ls : List Link)
    → option_to_list o ≡ numbers_where p ls → o ≡ number_of (find p ls)
one-number o p [] e = none o e
  where
    none : (o : Option ℕ) → option_to_list o ≡ [] → o ≡ None
    none None e = refl
    none (Some k) e = absurd cc
one-number o p (l ∷ ls) e = by (p l) e (one-number o p ls)
  where
    some : (o : Option ℕ) → option_to_list o ≡ l.connection ∷ numbers_where p ls
        → o ≡ Some l.connection
    some None e = absurd cc
    some (Some k) e = cc

    by : (b : Bool) → option_to_list o
        ≡ map (λ (m : Link). m.connection) (cond b (l ∷ filter p ls) (filter p ls))
        → (option_to_list o ≡ numbers_where p ls → o ≡ number_of (find p ls))
        → o ≡ number_of (cond b (Some l) (find p ls))
    by true e later = some o e
    by false e later = later e

-- without a number there is that number no more
pub numbers-left : (p : Link → Bool) (n : ℕ) (ls : List Link)
    → numbers_where p (without (has_number n) ls) ≡ without (λ m. m == n) (numbers_where p ls)
numbers-left p n [] = refl
numbers-left p n (l ∷ ls) = by (l.connection == n) (p l) refl refl (numbers-left p n ls)
  where
    rest : List Link
    rest = without (has_number n) ls

    less : List ℕ
    less = without (λ m. m == n) (numbers_where p ls)

    by : (b c : Bool) → (l.connection == n) ≡ b → p l ≡ c → numbers_where p rest ≡ less
        → numbers_where p (cond (not b) (l ∷ rest) rest)
        ≡ without (λ m. m == n)
        (map (λ (m : Link). m.connection) (cond c (l ∷ filter p ls) (filter p ls)))
    by true true e f later =
        later ∙ sym (ap (λ b. cond (not b) (l.connection ∷ less) less) e)
    by true false e f later = later
    by false true e f later =
        ap (λ c. map (λ (m : Link). m.connection) (cond c (l ∷ filter p rest) (filter p rest))) f
        ∙ ap (λ ns. l.connection ∷ ns) later
        ∙ sym (ap (λ b. cond (not b) (l.connection ∷ less) less) e)
    by false false e f later =
        ap (λ c. map (λ (m : Link). m.connection) (cond c (l ∷ filter p rest) (filter p rest))) f
        ∙ later

-- the first of them leaves, and those that don't pass the test stay
pub first-leaves : (p : Link → Bool) (n : ℕ) (ls : List Link) (rest : List ℕ) → Rises ls
    → numbers_where p ls ≡ n ∷ rest
    → (numbers_where p (without (has_number n) ls) ≡ rest)
    × (without p (without (has_number n) ls) ≡ without p ls)
first-leaves p n [] rest rises e = absurd cc
first-leaves p n (l ∷ ls) rest rises e =
    by (p l) refl e (first-leaves p n ls rest (rises-behind l ls rises))
  where
    fewer : List Link
    fewer = without (has_number n) ls

    by : (b : Bool) → p l ≡ b
        → map (λ (m : Link). m.connection) (cond b (l ∷ filter p ls) (filter p ls)) ≡ n ∷ rest
        → (numbers_where p ls ≡ n ∷ rest
        → (numbers_where p fewer ≡ rest) × (without p fewer ≡ without p ls))
        → (numbers_where p (without (has_number n) (l ∷ ls)) ≡ rest)
        × (without p (without (has_number n) (l ∷ ls))
        ≡ cond (not b) (l ∷ without p ls) (without p ls))
    by true f e later =
        let is : l.connection ≡ n = cc in
        let same : numbers_where p ls ≡ rest = cc in
        let others : without (has_number n) (l ∷ ls) ≡ ls =
        ap (λ b. cond (not b) (l ∷ fewer) fewer) (alike l.connection n is)
        ∙ none-numbered n ls (subst (λ m. AreAbove m ls) is (above-first l ls rises)) in
        (ap (numbers_where p) others ∙ same, ap (without p) others)
    by false f e later =
        let below : l.connection < n =
        first-above p l.connection n ls rest (above-first l ls rises) e in
        let test : (l.connection == n) ≡ false = grind (arith, nat_tests) in
        let others : without (has_number n) (l ∷ ls) ≡ l ∷ fewer =
        ap (λ b. cond (not b) (l ∷ fewer) fewer) test in
        let left = later e in (
          ap (numbers_where p) others
              ∙ ap (λ c. map (λ (m : Link). m.connection) (cond c (l ∷ filter p fewer) (filter p
              fewer))) f
              ∙ left.0,
          ap (without p) others
              ∙ ap (λ c. cond (not c) (l ∷ without p fewer) (without p fewer)) f
              ∙ ap (λ ks. l ∷ ks) left.1,
        )

-- each of them is found by its number
pub found-at : (p : Link → Bool) (ls : List Link) (k : ℕ) (d : Link) → Rises ls
    → k < length (filter p ls)
    → find (has_number (get_or (filter p ls) k d).connection) ls ≡ Some (get_or (filter p ls) k d)
found-at p [] k d rises within = absurd (omega (arith, within))
found-at p (l ∷ ls) k d rises within =
    by (p l) k within (λ j. found-at p ls j d (rises-behind l ls rises))
  where
    behind : (m : Link) → find (has_number m.connection) ls ≡ Some m
        → find (has_number m.connection) (l ∷ ls) ≡ Some m
    behind m e =
        let less : l.connection < m.connection =
        all-find (λ (o : Link). l.connection < o.connection) (has_number m.connection) ls m
        (above-first l ls rises) e in
        let test : (l.connection == m.connection) ≡ false = grind (arith, nat_tests) in
        ap (λ b. cond b (Some l) (find (has_number m.connection) ls)) test ∙ e

    by : (b : Bool) (k : ℕ) → k < length (cond b (l ∷ filter p ls) (filter p ls))
        → ((j : ℕ) → j < length (filter p ls)
        → find (has_number (get_or (filter p ls) j d).connection) ls
        ≡ Some (get_or (filter p ls) j d))
        → find (has_number (get_or (cond b (l ∷ filter p ls) (filter p ls)) k d).connection)
        (l ∷ ls) ≡ Some (get_or (cond b (l ∷ filter p ls) (filter p ls)) k d)
    by true zero within later =
        ap (λ b. cond b (Some l) (find (has_number l.connection) ls))
        (alike l.connection l.connection refl)
    by true (suc j) within later = behind _ (later j (omega (arith, within)))
    by false k within later = behind _ (later k within)

-- where it is the only one, those that don't pass the test are left
pub only-leaves : (p : Link → Bool) (n : ℕ) (ls : List Link) → Rises ls
    → numbers_where p ls ≡ n ∷ [] → without (has_number n) ls ≡ without p ls
only-leaves p n ls rises e =
    let left = first-leaves p n ls [] rises e in
    sym (none-numbers p (without (has_number n) ls) left.0) ∙ left.1

-- ---- one comes, or is changed

-- one more at the end that passes a test
numbers-added : (p : Link → Bool) (ls : List Link) (l : Link)
    → numbers_where p (ls ++ l ∷ []) ≡ numbers_where p ls ++ numbers_where p (l ∷ [])
numbers-added p ls l =
    ap (map (λ (m : Link). m.connection)) (filter-append p ls (l ∷ []))
    ∙ map-append (λ (m : Link). m.connection) (filter p ls) (filter p (l ∷ []))

pub numbers-more : (p : Link → Bool) (ls : List Link) (l : Link) → p l ≡ true
    → numbers_where p (ls ++ l ∷ []) ≡ numbers_where p ls ++ l.connection ∷ []
numbers-more p ls l passes =
    numbers-added p ls l
    ∙ ap (λ b. numbers_where p ls ++ map (λ (m : Link). m.connection) (cond b (l ∷ []) [])) passes

-- or that doesn't
pub numbers-same : (p : Link → Bool) (ls : List Link) (l : Link) → p l ≡ false
    → numbers_where p (ls ++ l ∷ []) ≡ numbers_where p ls
numbers-same p ls l fails =
    numbers-added p ls l
    ∙ ap (λ b. numbers_where p ls ++ map (λ (m : Link). m.connection) (cond b (l ∷ []) [])) fails
    ∙ append-nil (numbers_where p ls)

-- one is changed that keeps its number, and passes the test where it did
pub numbers-kept : (test p : Link → Bool) (f : Link → Link) → ((l : Link) → p (f l) ≡ p l)
    → ((l : Link) → (f l).connection ≡ l.connection) → (ls : List Link)
    → numbers_where p (at_first test f ls) ≡ numbers_where p ls
numbers-kept test p f same number [] = refl
numbers-kept test p f same number (l ∷ ls) =
    by (test l) (p l) refl (numbers-kept test p f same number ls)
  where
    changed : List Link
    changed = at_first test f ls

    by : (t u : Bool) → p l ≡ u → numbers_where p changed ≡ numbers_where p ls
        → numbers_where p (cond t (f l ∷ ls) (l ∷ changed))
        ≡ map (λ (m : Link). m.connection) (cond u (l ∷ filter p ls) (filter p ls))
    by true true e later =
        ap (λ c. map (λ (m : Link). m.connection) (cond c (f l ∷ filter p ls) (filter p ls)))
        (same l ∙ e) ∙ ap (λ k. k ∷ numbers_where p ls) (number l)
    by true false e later =
        ap (λ c. map (λ (m : Link). m.connection) (cond c (f l ∷ filter p ls) (filter p ls)))
        (same l ∙ e)
    by false true e later =
        ap (λ c. map (λ (m : Link). m.connection) (cond c (l ∷ filter p changed) (filter p
        changed))) e ∙ ap (λ ns. l.connection ∷ ns) later
    by false false e later =
        ap (λ c. map (λ (m : Link). m.connection) (cond c (l ∷ filter p changed) (filter p
        changed))) e ∙ later

-- ---- some leave

-- what passes the one test passes the other, or doesn't
pub filter-same : {A : Type 0} (p q : A → Bool) (b : Bool) → ((x : A) → q x ≡ true → p x ≡ b)
    → (xs : List A) → filter q (filter p xs) ≡ cond b (filter q xs) []
filter-same p q true same [] = refl
filter-same p q false same [] = refl
filter-same {A} p q b same (x ∷ xs) =
    by (p x) (q x) b refl refl (same x) (filter-same p q b same xs)
  where
    by : (r s t : Bool) → p x ≡ r → q x ≡ s → (q x ≡ true → p x ≡ t)
        → filter q (filter p xs) ≡ cond t (filter q xs) []
        → filter q (cond r (x ∷ filter p xs) (filter p xs))
        ≡ cond t (cond s (x ∷ filter q xs) (filter q xs)) []
    by true true true e f h later =
        ap (λ c. cond c (x ∷ filter q (filter p xs)) (filter q (filter p xs))) f
        ∙ ap (λ ys. x ∷ ys) later
    by true true false e f h later = absurd (let no = h f in cc)
    by true false true e f h later =
        ap (λ c. cond c (x ∷ filter q (filter p xs)) (filter q (filter p xs))) f ∙ later
    by true false false e f h later =
        ap (λ c. cond c (x ∷ filter q (filter p xs)) (filter q (filter p xs))) f ∙ later
    by false true true e f h later = absurd (let no = h f in cc)
    by false true false e f h later = later
    by false false true e f h later = later
    by false false false e f h later = later
