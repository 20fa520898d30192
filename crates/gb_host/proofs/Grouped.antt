-- The numbers of each interface, as connections come and go.
use Rattle.std.proofs.Common.{◌≡◌, ◌==◌, ◌<◌, ◌+◌, ℕ, Bool, true, false, not, List, [], ◌∷◌}
use Rattle.std.proofs.Common.{◌++◌, length, get_or, map, refl, sym, ap, ◌∙◌, arith, subst}
use Rattle.std.proofs.Common.{length-append}
use Rattle.std.proofs.Math.ListN.{get_or-append}
use Rattle.std.proofs.Math.Seq.{get_or-append_seam}
use Rattle.std.proofs.lemmas.List.Elements.{All-filter, All-map}
use Rattle.std.specs.BTreeSet.{insert_key}
use Rattle.std.specs.List.{All, filter}
use Rattle.std.specs.Ordering.{nat_cmp}
use Rattle.gb_base.specs.declared.interface.Link.{Link}
use Rattle.gb_groups.proofs.Rising.{inserted-last}
use Rattle.gb_groups.specs.Groups.{Regroups, left_out, numbers_in}
use Rattle.gb_host.proofs.Named.{alike, equals}
use Rattle.gb_host.proofs.Numbers.{filter-same, has_number, numbers-left, numbers-more}
use Rattle.gb_host.proofs.Numbers.{numbers-same}
use Rattle.gb_host.proofs.Rising.{and-both}
use Rattle.gb_host.specs.Indexes.{AreGrouped, Rises}
use Rattle.gb_host.specs.Numbers.{numbers_where}
use Rattle.gb_machine.specs.Host.{is_link}
use Rattle.gb_machine.specs.Lists.{without}

-- those that leave are of one interface
groups-left : (p : Link → Bool) (i : ℕ) (ns : List ℕ) (old new : List (List ℕ))
    (ls ms : List Link) → ((l : Link) → p l ≡ true → l.intf ≡ i) → ms ≡ without p ls
    → ns ≡ numbers_where (λ l. l.intf == i) ms → Regroups old new i ns → AreGrouped old ls
    → AreGrouped new ms
groups-left p i ns old new ls ms one e here groups grouped g = by (g == i) refl
  where
    by : (b : Bool) → (g == i) ≡ b
        → numbers_in new g ≡ numbers_where (λ (l : Link). l.intf == g) ms
    by true same =
        let is : g ≡ i = equals g i same in
        ap (numbers_in new) is ∙ groups.here ∙ here
        ∙ ap (λ j. numbers_where (λ (l : Link). l.intf == j) ms) (sym is)
    by false apart =
        groups.others g (λ is. absurd (let same = alike g i is in cc)) ∙ grouped g
        ∙ sym (ap (map (λ (l : Link). l.connection))
        (filter-same (λ (l : Link). not (p l)) (λ l. l.intf == g) true stays ls))
        ∙ ap (numbers_where (λ (l : Link). l.intf == g)) (sym e)
      where
        stays : (l : Link) → (l.intf == g) ≡ true → not (p l) ≡ true
        stays l at = other (p l) refl
          where
            other : (b : Bool) → p l ≡ b → not b ≡ true
            other true passes =
                let is : l.intf ≡ i = one l passes in
                let here : l.intf ≡ g = equals l.intf g at in
                let same : (g == i) ≡ true = alike g i (sym here ∙ is) in absurd cc
            other false fails = refl

-- the one at a far end leaves
pub groups-one : (i c k : ℕ) (old new : List (List ℕ)) (ls ms : List Link)
    → ms ≡ without (has_number k) ls → ms ≡ without (is_link i c) ls
    → Regroups old new i (left_out k (numbers_in old i)) → AreGrouped old ls → AreGrouped new ms
groups-one i c k old new ls ms left e groups grouped =
    groups-left (is_link i c) i (left_out k (numbers_in old i)) old new ls ms
    (λ l at. equals l.intf i (and-both (l.intf == i) (l.cport == c) at).0) e
    (ap (left_out k) (grouped i) ∙ sym (numbers-left (λ l. l.intf == i) k ls)
    ∙ ap (numbers_where (λ l. l.intf == i)) (sym left)) groups grouped

-- all of an interface leave
pub groups-all : (i : ℕ) (old new : List (List ℕ)) (ls ms : List Link)
    → ms ≡ without (λ l. l.intf == i) ls → Regroups old new i [] → AreGrouped old ls
    → AreGrouped new ms
groups-all i old new ls ms e =
    groups-left (λ l. l.intf == i) i [] old new ls ms (λ l at. equals l.intf i at) e
    (sym (ap (numbers_where (λ (l : Link). l.intf == i)) e
    ∙ ap (map (λ (l : Link). l.connection)) (filter-same (λ (l : Link). not (l.intf == i))
    (λ l. l.intf == i) false (λ l at. ap not at) ls)))

-- ---- one comes

-- the numbers of all are smaller than that of one that goes to the end
all-below : (p : Link → Bool) (ls : List Link) (l : Link) → Rises (ls ++ l ∷ [])
    → All (λ n. n < l.connection) (numbers_where p ls)
all-below p ls l rises =
    All-map (λ n. n < l.connection) (λ (m : Link). m.connection) (filter p ls)
    (All-filter p (λ m. m.connection < l.connection) ls (λ k d within.
    let count : length (ls ++ l ∷ []) ≡ length ls + 1 = length-append ls (l ∷ []) in
    subst (λ (m : Link). m.connection < l.connection) (get_or-append ls (l ∷ []) d k within)
    (subst (λ (m : Link). (get_or (ls ++ l ∷ []) k d).connection < m.connection)
    (get_or-append_seam ls l [] d)
    (rises k (length ls) d within (omega (arith, count))))))

-- the new number goes to the end of those of its interface
pub groups-added : (old new : List (List ℕ)) (ls : List Link) (l : Link)
    → Rises (ls ++ l ∷ []) → AreGrouped old ls
    → Regroups old new l.intf (insert_key nat_cmp (numbers_in old l.intf) l.connection)
    → AreGrouped new (ls ++ l ∷ [])
groups-added old new ls l rises grouped groups g = by (l.intf == g) refl
  where
    by : (b : Bool) → (l.intf == g) ≡ b
        → numbers_in new g ≡ numbers_where (λ (m : Link). m.intf == g) (ls ++ l ∷ [])
    by true same =
        let is : l.intf ≡ g = equals l.intf g same in
        let below : All (λ n. n < l.connection) (numbers_in old l.intf) =
        subst (All (λ n. n < l.connection)) (sym (grouped l.intf))
        (all-below (λ m. m.intf == l.intf) ls l rises) in
        ap (numbers_in new) (sym is) ∙ groups.here
        ∙ inserted-last (numbers_in old l.intf) l.connection below
        ∙ ap (λ ns. ns ++ l.connection ∷ []) (ap (numbers_in old) is ∙ grouped g)
        ∙ sym (numbers-more (λ m. m.intf == g) ls l same)
    by false other =
        groups.others g (λ is. absurd (let same = alike l.intf g (sym is) in cc)) ∙ grouped g
        ∙ sym (numbers-same (λ m. m.intf == g) ls l other)
