-- Connections and their ids, by the numbers of connections.
use Rattle.std.proofs.Common.{◌≡◌, ◌<◌, ◌≤◌, ◌+◌, ℕ, Bool}
use Rattle.std.proofs.Common.{List, [], ◌∷◌, ◌++◌, length, get_or, drop, take, map, refl, sym, ap}
use Rattle.std.proofs.Common.{◌∙◌}
use Rattle.std.proofs.Common.{arith}
use Rattle.std.proofs.lemmas.List.{drop_all, drop_more, get_or-map, length-map, take_more}
use Rattle.std.specs.List.{filter, find}
use Rattle.std.specs.Option.{option_to_list}
use Rattle.gb_base.specs.declared.interface.Link.{Link}
use Rattle.gb_formats.specs.Images.{Images, forgotten}
use Rattle.gb_host.proofs.Numbers.{found-at, has_number}
use Rattle.gb_host.specs.Indexes.{Rises}
use Rattle.gb_host.specs.Numbers.{numbers_where}
use Rattle.gb_machine.specs.Host.{all_forgotten}

-- ---- ids

-- the ids of connections are free, by their numbers
abbrev pub numbers_forgotten : List ℕ → Images → Images
numbers_forgotten [] x = x
numbers_forgotten (n ∷ ns) x = numbers_forgotten ns (forgotten n x)

forgotten-links : (ls : List Link) (x : Images)
    → numbers_forgotten (map (λ l. l.connection) ls) x ≡ all_forgotten ls x
forgotten-links [] x = refl
forgotten-links (l ∷ ls) x = forgotten-links ls (forgotten l.connection x)

-- the next is
pub next-forgotten : (ns : List ℕ) (n : ℕ) (x y all : Images) → n < length ns
    → y ≡ forgotten (get_or ns n 0) x → numbers_forgotten (drop n ns) x ≡ all
    → numbers_forgotten (drop (n + 1) ns) y ≡ all
next-forgotten ns n x y all within e rest =
    ap (numbers_forgotten (drop (n + 1) ns)) e
    ∙ ap (λ ms. numbers_forgotten ms x) (sym (drop_more ns n 0 within)) ∙ rest

-- at last all are
pub all-forgotten : (ls : List Link) (ns : List ℕ) (n : ℕ) (old new : Images)
    → ns ≡ map (λ l. l.connection) ls → length ns ≤ n
    → numbers_forgotten (drop n ns) new ≡ numbers_forgotten ns old → new ≡ all_forgotten ls old
all-forgotten ls ns n old new e over rest =
    ap (λ ms. numbers_forgotten ms new) (sym (drop_all n ns over)) ∙ rest
    ∙ ap (λ ms. numbers_forgotten ms old) e ∙ forgotten-links ls old

-- ---- connections

-- there is a connection where there are some
some-of : (ls : List Link) (n : ℕ) → n < length ls → Link
some-of [] n within = absurd (omega (arith, within))
some-of (l ∷ ls) n within = l

-- the next that passes a test is found by its number
pub next-found : (test : Link → Bool) (ls : List Link) (ns : List ℕ) (n : ℕ)
    (front all : List Link) → Rises ls → ns ≡ numbers_where test ls → n < length ns
    → front ≡ take n (filter test ls)
    → all ≡ front ++ option_to_list (find (has_number (get_or ns n 0)) ls)
    → all ≡ take (n + 1) (filter test ls)
next-found test ls ns n front all rises e inside before next =
    next
    ∙ ap (λ o. front ++ option_to_list o) (ap (λ k. find (has_number k) ls)
    (ap (λ ms. get_or ms n 0) e
    ∙ get_or-map (λ (l : Link). l.connection) (filter test ls) n d 0 within)
    ∙ found-at test ls n d rises within)
    ∙ ap (λ ms. ms ++ get_or (filter test ls) n d ∷ []) before
    ∙ sym (take_more (filter test ls) n d within)
  where
    within : n < length (filter test ls)
    within =
        let count = length-map (filter test ls) (λ (m : Link). m.connection) in
        let same : length ns ≡ length (numbers_where test ls) = ap length e in
        omega (arith, count, same, inside)

    d : Link
    d = some-of (filter test ls) n within
