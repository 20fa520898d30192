-- The numbers at far ends, as connections come and go.
use Rattle.std.proofs.Common.{◌≡◌, ◌==◌, ◌&&◌, ℕ, Bool, true, false, cond, not, None, Some, Result}
use Rattle.std.proofs.Common.{Ok, Err, List, [], ◌∷◌, ◌++◌, ◌<◌, nat_eq, refl, sym, ap}
use Rattle.std.proofs.Common.{◌∙◌, map, arith}
use Rattle.std.proofs.lemmas.Bool.Decides.{nat_tests}
use Rattle.std.specs.HashMap.{Updates, UpdatesBy, get}
use Rattle.std.specs.List.{filter}
use Rattle.std.specs.Option.{is_some, option_to_list}
use Rattle.std.specs.Result.{OnOk, is_ok}
use Rattle.gb_base.specs.declared.interface.Link.{Link}
use Rattle.gb_host.proofs.Named.{equals, same-end}
use Rattle.gb_host.proofs.Numbers.{filter-same, numbers-more, numbers-same}
use Rattle.gb_host.proofs.Rising.{and-both}
use Rattle.gb_host.proofs.Unawaited.{none-awaited}
use Rattle.gb_host.specs.Named.{AreNamed, end_number}
use Rattle.gb_host.specs.Numbers.{numbers_where}
use Rattle.gb_host.specs.declared.ends.Ends.{Ends}
use Rattle.gb_machine.specs.Host.{is_link}
use Rattle.gb_machine.specs.Lists.{without}

swapped : (a b : ℕ) → (a == b) ≡ (b == a)
swapped a b = by (a == b) (b == a) refl refl
  where
    by : (t u : Bool) → (a == b) ≡ t → (b == a) ≡ u → t ≡ u
    by true true h k = refl
    by true false h k = absurd (grind (arith, nat_tests))
    by false true h k = absurd (grind (arith, nat_tests))
    by false false h k = refl

-- what holds of a call that was done
pub on-ok : {A E P : Type 0} (r : Result A E) → OnOk r P → is_ok r ≡ true → P
on-ok (Ok x) p h = p
on-ok (Err e) p h = absurd cc

-- a connection comes, where there is none at its far end
pub ends-new : (x y : Ends) (ls : List Link) (l : Link) (k : ℕ) → l.cport < 65536
    → k ≡ end_number l.intf l.cport → is_some (get nat_eq x.numbers k) ≡ false
    → Updates nat_eq x.numbers y.numbers k (Some l.connection)
    → AreNamed x ls → AreNamed y (ls ++ l ∷ [])
ends-new x y ls l k low is none up named i c fits =
    ap option_to_list (up.0 (end_number i c)
    ∙ ap (λ n. cond (nat_eq n (end_number i c)) (Some l.connection)
    (get nat_eq x.numbers (end_number i c))) is
    ∙ ap (λ b. cond b (Some l.connection) (get nat_eq x.numbers (end_number i c)))
    (same-end l.intf l.cport i c low fits)) ∙ by (is_link i c l) refl
  where
    by : (b : Bool) → is_link i c l ≡ b
        → option_to_list (cond b (Some l.connection) (get nat_eq x.numbers (end_number i c)))
        ≡ numbers_where (is_link i c) (ls ++ l ∷ [])
    by true e =
        let both = and-both (l.intf == i) (l.cport == c) e in
        let same : end_number l.intf l.cport ≡ end_number i c =
        ap (λ n. end_number n l.cport) (equals l.intf i both.0)
        ∙ ap (end_number i) (equals l.cport c both.1) in
        let absent : get nat_eq x.numbers (end_number i c) ≡ None =
        ap (get nat_eq x.numbers) (sym (is ∙ same)) ∙ none-awaited (get nat_eq x.numbers k) none in
        let before : numbers_where (is_link i c) ls ≡ [] =
        sym (named i c fits) ∙ ap option_to_list absent in
        sym (numbers-more (is_link i c) ls l e ∙ ap (λ ns. ns ++ l.connection ∷ []) before)
    by false e = named i c fits ∙ sym (numbers-same (is_link i c) ls l e)

-- those at a far end leave
pub ends-left : (x y : Ends) (i c k : ℕ) (ls : List Link) → c < 65536 → k ≡ end_number i c
    → UpdatesBy nat_eq (nat_eq k) x.numbers y.numbers None → AreNamed x ls
    → AreNamed y (without (is_link i c) ls)
ends-left x y i c k ls low is up named j d fits =
    ap option_to_list (up.0 (end_number j d)
    ∙ ap (λ n. cond (nat_eq n (end_number j d)) None (get nat_eq x.numbers (end_number j d))) is
    ∙ ap (λ b. cond b None (get nat_eq x.numbers (end_number j d))) (same-end i c j d low fits))
    ∙ by (i == j && c == d)
    ∙ sym (ap (map (λ (l : Link). l.connection)) (filter-same (λ l. not (is_link i c l))
    (is_link j d) (not (i == j && c == d)) (λ l h. ap not (stays l h)) ls))
  where
    by : (b : Bool) → option_to_list (cond b None (get nat_eq x.numbers (end_number j d)))
        ≡ map (λ (l : Link). l.connection) (cond (not b) (filter (is_link j d) ls) [])
    by true = refl
    by false = named j d fits

    stays : (l : Link) → is_link j d l ≡ true → is_link i c l ≡ (i == j && c == d)
    stays l h =
        let both = and-both (l.intf == j) (l.cport == d) h in
        ap (λ n. n == i && l.cport == c) (equals l.intf j both.0)
        ∙ ap (λ n. j == i && n == c) (equals l.cport d both.1)
        ∙ ap (λ b. b && d == c) (swapped j i) ∙ ap (λ b. i == j && b) (swapped d c)
