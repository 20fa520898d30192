-- Which connections wait, as they come and go and wait for something else.
use Rattle.std.proofs.Common.{◌≡◌, ◌==◌, ℕ, Bool, true, false, cond, not, nat_eq, Option, None}
use Rattle.std.proofs.Common.{Some, List, [], ◌∷◌, ◌++◌, length, map, refl, sym, ap, ◌∙◌, subst}
use Rattle.std.proofs.lemmas.List.{append-nil}
use Rattle.std.proofs.lemmas.List.Elements.{filter-append}
use Rattle.std.specs.HashMap.{Updates, UpdatesBy, get}
use Rattle.std.specs.Map.{lookup}
use Rattle.std.specs.List.{filter, find}
use Rattle.std.specs.Option.{option_to_list}
use Rattle.gb_base.specs.declared.interface.Link.{Link}
use Rattle.gb_base.specs.declared.steps.Purpose.{Purpose}
use Rattle.gb_base.specs.declared.steps.SequenceStep.{SequenceStep}
use Rattle.gb_host.proofs.Named.{equals}
use Rattle.gb_host.proofs.Numbers.{alone, filter-same}
use Rattle.gb_host.specs.Awaited.{AreAwaited, is_request, waits_for}
use Rattle.gb_host.specs.Changes.{link_awaits}
use Rattle.gb_host.specs.Numbers.{numbers_where}
use Rattle.gb_host.specs.declared.awaited.Awaited.{Awaited}
use Rattle.gb_machine.specs.Bus.{or_else}
use Rattle.gb_machine.specs.Lists.{at_first}
use Rattle.gb_machine.specs.SequenceSteps.{purpose}
use Rattle.gb_machine.specs.Waits.{link_waits, purpose_in}

-- ---- one between others

-- one that doesn't pass a test adds no number
numbers-without : (p : Link → Bool) (front behind : List Link) (l : Link) → p l ≡ false
    → numbers_where p (front ++ l ∷ behind) ≡ numbers_where p (front ++ behind)
numbers-without p front behind l fails =
    ap (map (λ (m : Link). m.connection)) (filter-append p front (l ∷ behind)
    ∙ ap (λ b. filter p front ++ cond b (l ∷ filter p behind) (filter p behind)) fails
    ∙ sym (filter-append p front behind))

-- one that passes it alone gives the one number
numbers-with : (p : Link → Bool) (front behind : List Link) (l : Link) → p l ≡ true
    → numbers_where p (front ++ behind) ≡ []
    → numbers_where p (front ++ l ∷ behind) ≡ l.connection ∷ []
numbers-with p [] behind l passes none =
    ap (λ b. map (λ (m : Link). m.connection) (cond b (l ∷ filter p behind) (filter p behind)))
    passes ∙ ap (λ ns. l.connection ∷ ns) none
numbers-with p (m ∷ front) behind l passes none =
    by (p m) none (numbers-with p front behind l passes)
  where
    rest : List Link
    rest = filter p (front ++ behind)

    all : List Link
    all = filter p (front ++ l ∷ behind)

    by : (b : Bool) → map (λ (o : Link). o.connection) (cond b (m ∷ rest) rest) ≡ []
        → (numbers_where p (front ++ behind) ≡ []
        → numbers_where p (front ++ l ∷ behind) ≡ l.connection ∷ [])
        → map (λ (o : Link). o.connection) (cond b (m ∷ all) all) ≡ l.connection ∷ []
    by true e later = absurd cc
    by false e later = later e

-- where one number at most is there, without the one that passes it there is none
numbers-gone : (o : Option ℕ) (p : Link → Bool) (front behind : List Link) (l : Link)
    → p l ≡ true → option_to_list o ≡ numbers_where p (front ++ l ∷ behind)
    → numbers_where p (front ++ behind) ≡ []
numbers-gone o p front behind l passes e =
    ap (numbers_where p) (sym (alone o p front behind l passes e))
    ∙ ap (map (λ (m : Link). m.connection)) (filter-same (λ m. not (p m)) p false (λ m h. ap not h)
    (front ++ l ∷ behind))

-- ---- those that wait

-- where no request is kept, none is waited for
pub none-kept : (x : Awaited) (r : ℕ) → length x.connections.entries ≡ 0
    → get nat_eq x.connections r ≡ None
none-kept x r empty = by x.connections.entries empty
  where
    by : (es : List (ℕ × ℕ)) → length es ≡ 0 → lookup (nat_eq r) es ≡ None
    by [] e = refl
    by (p ∷ es) e = absurd cc

-- one that waits for nothing is there no more
pub awaited-quiet : (x : Awaited) (front behind : List Link) (l : Link) → l.awaits ≡ None
    → AreAwaited x (front ++ l ∷ behind) → AreAwaited x (front ++ behind)
awaited-quiet x front behind l quiet all n =
    all n ∙ numbers-without (waits_for n) front behind l (ap (is_request n) quiet)

-- or comes
pub awaited-comes-quiet : (x : Awaited) (front behind : List Link) (l : Link) → l.awaits ≡ None
    → AreAwaited x (front ++ behind) → AreAwaited x (front ++ l ∷ behind)
awaited-comes-quiet x front behind l quiet all n =
    all n ∙ sym (numbers-without (waits_for n) front behind l (ap (is_request n) quiet))

-- one that waits is there no more
pub awaited-leaves : (x y : Awaited) (front behind : List Link) (l : Link) (r : ℕ)
    (s : SequenceStep) → l.awaits ≡ Some (r, s)
    → UpdatesBy nat_eq (nat_eq r) x.connections y.connections None
    → AreAwaited x (front ++ l ∷ behind) → AreAwaited y (front ++ behind)
awaited-leaves x y front behind l r s waits up all n =
    ap option_to_list (up.0 n) ∙ by (r == n) refl
  where
    by : (b : Bool) → (r == n) ≡ b
        → option_to_list (cond b None (get nat_eq x.connections n))
        ≡ numbers_where (waits_for n) (front ++ behind)
    by true e =
        sym (numbers-gone (get nat_eq x.connections n) (waits_for n) front behind l
        (ap (is_request n) waits ∙ e) (all n))
    by false e =
        all n ∙ numbers-without (waits_for n) front behind l (ap (is_request n) waits ∙ e)

-- one that waits for what no other does comes
pub awaited-comes : (x y : Awaited) (front behind : List Link) (l : Link) (r k : ℕ)
    (s : SequenceStep) → l.connection ≡ k → l.awaits ≡ Some (r, s)
    → None ≡ get nat_eq x.connections r → Updates nat_eq x.connections y.connections r (Some k)
    → AreAwaited x (front ++ behind) → AreAwaited y (front ++ l ∷ behind)
awaited-comes x y front behind l r k s number waits none up all n =
    ap option_to_list (up.0 n) ∙ by (r == n) refl
  where
    by : (b : Bool) → (r == n) ≡ b
        → option_to_list (cond b (Some k) (get nat_eq x.connections n))
        ≡ numbers_where (waits_for n) (front ++ l ∷ behind)
    by true e =
        let before : numbers_where (waits_for n) (front ++ behind) ≡ [] =
        sym (all n) ∙ ap option_to_list (ap (get nat_eq x.connections) (sym (equals r n e))
        ∙ sym none) in
        sym (numbers-with (waits_for n) front behind l (ap (is_request n) waits ∙ e) before
        ∙ ap (λ m. m ∷ []) number)
    by false e =
        all n ∙ sym (numbers-without (waits_for n) front behind l (ap (is_request n) waits ∙ e))

-- one that waits for nothing goes to the end
pub awaited-added : (x : Awaited) (ls : List Link) (l : Link) → l.awaits ≡ None → AreAwaited x ls
    → AreAwaited x (ls ++ l ∷ [])
awaited-added x ls l quiet all =
    awaited-comes-quiet x ls [] l quiet (subst (AreAwaited x) (sym (append-nil ls)) all)

-- ---- the first that passes a test waits for something else

-- where it stands
record StandsIn (test : Link → Bool) (l : Link) (ls : List Link) : Type 0 where
  front : List Link
  behind : List Link
  is : ls ≡ front ++ l ∷ behind
  changed : (f : Link → Link) → at_first test f ls ≡ front ++ f l ∷ behind

stands : (test : Link → Bool) (ls : List Link) (l : Link) → find test ls ≡ Some l
    → StandsIn test l ls
stands test [] l found = absurd cc
stands test (m ∷ ls) l found = by (test m) refl found (stands test ls l)
  where
    by : (b : Bool) → test m ≡ b → cond b (Some m) (find test ls) ≡ Some l
        → (find test ls ≡ Some l → StandsIn test l ls) → StandsIn test l (m ∷ ls)
    by true e found later =
        let same : m ≡ l = cc in
        record {
          front = [];
          behind = ls;
          is = ap (λ (k : Link). k ∷ ls) same;
          changed = λ f.
              ap (λ b. cond b (f m ∷ ls) (m ∷ at_first test f ls)) e
              ∙ ap (λ (k : Link). f k ∷ ls) same;
        }
    by false e found later =
        let rest = later found in
        record {
          front = m ∷ rest.front;
          behind = rest.behind;
          is = ap (λ ks. m ∷ ks) rest.is;
          changed = λ f.
              ap (λ b. cond b (f m ∷ ls) (m ∷ at_first test f ls)) e
              ∙ ap (λ ks. m ∷ ks) (rest.changed f);
        }

pub awaited-changed : (x y : Awaited) (test : Link → Bool) (ls ms : List Link) (o : Option Link)
    (l : Link) (w : Option (ℕ × SequenceStep)) → o ≡ find test ls → o ≡ Some l
    → ms ≡ at_first test (link_awaits w) ls
    → ((front behind : List Link) → AreAwaited x (front ++ l ∷ behind)
    → AreAwaited y (front ++ link_awaits w l ∷ behind))
    → AreAwaited x ls → AreAwaited y ms
awaited-changed x y test ls ms o l w was some new changes all =
    let at = stands test ls l (sym was ∙ some) in
    subst (AreAwaited y) (sym (new ∙ at.changed (link_awaits w)))
    (changes at.front at.behind (subst (AreAwaited x) at.is all))

-- ---- what a request is for

-- what is waited for is this request
purpose-here : (n i c : ℕ) (w : Option (ℕ × SequenceStep)) (o : Option Purpose)
    → is_request n w ≡ true → or_else (purpose_in n i c w) o ≡ purpose_in n i c w
purpose-here n i c None o e = absurd cc
purpose-here n i c (Some w) o e = by (w.0 == n) e
  where
    by : (b : Bool) → b ≡ true → or_else (cond b (Some (purpose i c w.1)) None) o
        ≡ cond b (Some (purpose i c w.1)) None
    by true e = refl
    by false e = absurd cc

-- or it isn't
purpose-none : (n i c : ℕ) (w : Option (ℕ × SequenceStep)) → is_request n w ≡ false
    → purpose_in n i c w ≡ None
purpose-none n i c None e = refl
purpose-none n i c (Some w) e = ap (λ b. cond b (Some (purpose i c w.1)) None) e

-- the purpose of a request, where a connection waits for it
abbrev pub purpose_of : ℕ → Option Link → Option Purpose
purpose_of n None = None
purpose_of n (Some l) = purpose_in n l.intf l.cport l.awaits

-- that of the first one that waits
pub purpose-found : (n : ℕ) (ls : List Link)
    → purpose_of n (find (waits_for n) ls) ≡ link_waits n ls
purpose-found n [] = refl
purpose-found n (l ∷ ls) = by (waits_for n l) refl (purpose-found n ls)
  where
    by : (b : Bool) → waits_for n l ≡ b → purpose_of n (find (waits_for n) ls) ≡ link_waits n ls
        → purpose_of n (cond b (Some l) (find (waits_for n) ls))
        ≡ or_else (purpose_in n l.intf l.cport l.awaits) (link_waits n ls)
    by true e later = sym (purpose-here n l.intf l.cport l.awaits (link_waits n ls) e)
    by false e later =
        later ∙ sym (ap (λ o. or_else o (link_waits n ls)) (purpose-none n l.intf l.cport l.awaits
        e))
