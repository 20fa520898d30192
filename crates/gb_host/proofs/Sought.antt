-- Connections that leave as they are looked for one by one.
use Rattle.std.proofs.Common.{◌≡◌, ◌==◌, ◌<◌, ◌+◌, Bool, true, false, cond, not, Option, Some, None}
use Rattle.std.proofs.Common.{List, [], ◌∷◌, ◌++◌, length, refl, sym, ap, ◌∙◌, arith, subst}
use Rattle.std.proofs.Common.{length-append}
use Rattle.std.proofs.lemmas.List.Elements.{filter-append}
use Rattle.std.specs.List.{filter, find}
use Rattle.gb_base.specs.declared.interface.Link.{Link}
use Rattle.gb_formats.specs.Images.{Images, forgotten}
use Rattle.gb_host.proofs.Leaving.{kept-left}
use Rattle.gb_host.proofs.Rising.{found-passes, none-stays}
use Rattle.gb_host.specs.Changes.{IsTaken}
use Rattle.gb_host.specs.Counts.{AreCounted}
use Rattle.gb_host.specs.declared.cports.Cports.{Cports}
use Rattle.gb_machine.specs.Host.{all_forgotten}
use Rattle.gb_machine.specs.Lists.{without}

-- those that don't pass the test stay, and CPorts are counted
pub record AreSought (test : Link → Bool) (x y : Cports) (ls ms : List Link) : Type 0 where
  pub left : without test ms ≡ without test ls
  pub counted : AreCounted x ls → AreCounted y ms

-- at first all are there
pub sought-all : (test : Link → Bool) (x : Cports) (ls : List Link) → AreSought test x x ls ls
sought-all test x ls = record { left = refl; counted = λ counted. counted }

-- one that passes the test is taken
pub sought-next : (test : Link → Bool) (x y z : Cports) (ls ms ks : List Link) (o : Option Link)
    (l : Link) → o ≡ find test ms → o ≡ Some l → IsTaken l ms ks
    → ((front behind : List Link) → AreCounted y (front ++ l ∷ behind)
    → AreCounted z (front ++ behind))
    → AreSought test x y ls ms → AreSought test x z ls ks
sought-next test x y z ls ms ks o l e some taken leaves sought = record {
  left = ap (without test) taken.new_is
      ∙ filter-append (λ k. not (test k)) taken.front taken.behind
      ∙ ap (λ b. without test taken.front
      ++ cond (not b) (l ∷ without test taken.behind) (without test taken.behind))
      (sym (found-passes test ms l (sym e ∙ some)))
      ∙ sym (filter-append (λ k. not (test k)) taken.front (l ∷ taken.behind))
      ∙ ap (without test) (sym taken.old_is) ∙ sought.left;
  counted = λ counted.
      kept-left (AreCounted y) (AreCounted z) ms ks l taken leaves (sought.counted counted);
}

-- at last none is there
pub sought-over : (test : Link → Bool) (x y : Cports) (ls ms ks : List Link) (o : Option Link)
    → o ≡ find test ms → o ≡ None → ks ≡ ms → AreSought test x y ls ms
    → AreSought test x y ls ks × (ks ≡ without test ls)
sought-over test x y ls ms ks o e none same sought = (
  subst (λ ns. AreSought test x y ls ns) (sym same) sought,
  same ∙ sym (none-stays test ms (sym e ∙ none)).0 ∙ sought.left,
)

-- ---- ids that are free

-- tests one after the other
filter-swap : {A : Type 0} (p q : A → Bool) (xs : List A)
    → filter p (filter q xs) ≡ filter q (filter p xs)
filter-swap p q [] = refl
filter-swap {A} p q (x ∷ xs) = by (p x) (q x) refl refl (filter-swap p q xs)
  where
    ps : List A
    ps = filter p xs

    qs : List A
    qs = filter q xs

    by : (b c : Bool) → p x ≡ b → q x ≡ c → filter p qs ≡ filter q ps
        → filter p (cond c (x ∷ qs) qs) ≡ filter q (cond b (x ∷ ps) ps)
    by true true e f later =
        ap (λ b. cond b (x ∷ filter p qs) (filter p qs)) e ∙ ap (λ ys. x ∷ ys) later
        ∙ sym (ap (λ c. cond c (x ∷ filter q ps) (filter q ps)) f)
    by true false e f later =
        later ∙ sym (ap (λ c. cond c (x ∷ filter q ps) (filter q ps)) f)
    by false true e f later =
        ap (λ b. cond b (x ∷ filter p qs) (filter p qs)) e ∙ later
    by false false e f later = later

-- the ids of one connection are free before those of others
forgotten-first : (front behind : List Link) (l : Link) (x : Images)
    → all_forgotten (front ++ behind) (forgotten l.connection x)
    ≡ all_forgotten (front ++ l ∷ behind) x
forgotten-first [] behind l x = refl
forgotten-first (m ∷ front) behind l x =
    ap (λ ns. all_forgotten (front ++ behind) (record x { loans = ns }))
    (filter-swap (λ n. not (n.connection == m.connection))
    (λ n. not (n.connection == l.connection)) x.loans)
    ∙ forgotten-first front behind l (forgotten m.connection x)

-- the ids of one that is taken are free
pub taken-forgotten : (test : Link → Bool) (ms ks : List Link) (o : Option Link) (l : Link)
    (x y all : Images) → o ≡ find test ms → o ≡ Some l → IsTaken l ms ks
    → y ≡ forgotten l.connection x → all_forgotten (filter test ms) x ≡ all
    → all_forgotten (filter test ks) y ≡ all
taken-forgotten test ms ks o l x y all e some taken is rest =
    ap (all_forgotten (filter test ks)) is
    ∙ ap (λ ns. all_forgotten ns (forgotten l.connection x)) (ap (filter test) taken.new_is
    ∙ filter-append test taken.front taken.behind)
    ∙ forgotten-first (filter test taken.front) (filter test taken.behind) l x
    ∙ ap (λ b. all_forgotten (filter test taken.front
    ++ cond b (l ∷ filter test taken.behind) (filter test taken.behind)) x)
    (sym (found-passes test ms l (sym e ∙ some)))
    ∙ ap (λ ns. all_forgotten ns x)
    (sym (ap (filter test) taken.old_is ∙ filter-append test taken.front (l ∷ taken.behind)))
    ∙ rest

-- at last all are free
pub none-forgotten : (test : Link → Bool) (ms : List Link) (o : Option Link) (x all : Images)
    → o ≡ find test ms → o ≡ None → all_forgotten (filter test ms) x ≡ all → x ≡ all
none-forgotten test ms o x all e none rest =
    ap (λ ns. all_forgotten ns x) (sym (none-stays test ms (sym e ∙ none)).1) ∙ rest

-- a connection fewer is there
pub fewer-left : (l : Link) (ms ks : List Link) → IsTaken l ms ks → length ks < length ms
fewer-left l ms ks taken =
    let whole : length ms ≡ length taken.front + length (l ∷ taken.behind) =
    ap length taken.old_is ∙ length-append taken.front (l ∷ taken.behind) in
    let rest : length ks ≡ length taken.front + length taken.behind =
    ap length taken.new_is ∙ length-append taken.front taken.behind in
    omega (arith, whole, rest)
