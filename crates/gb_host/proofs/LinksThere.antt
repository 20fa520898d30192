-- The connections at places.
use Rattle.std.proofs.Common.{◌≡◌, ◌≢◌, ◌==◌, ◌<◌, ◌≤◌, ◌+◌, ◌-◌, ◌&&◌, ℕ, zero, suc, Bool, true}
use Rattle.std.proofs.Common.{false}
use Rattle.std.proofs.Common.{cond, if◌then◌else◌, Option, None, Some, List, [], ◌∷◌, ◌++◌, length}
use Rattle.std.proofs.Common.{take}
use Rattle.std.proofs.Common.{get_or, set, refl, sym, ap, ◌∙◌, arith, subst}
use Rattle.std.proofs.lemmas.Bool.Decides.{nat_tests}
use Rattle.std.proofs.lemmas.List.{append-nil, get_or-set_other, get_or-set_same}
use Rattle.std.proofs.lemmas.List.{get_or_default, length-set, take_more}
use Rattle.std.proofs.lemmas.List.Kept.{AllPairs-filter}
use Rattle.std.specs.List.{filter, find, position_from}
use Rattle.std.specs.Option.{option_map}
use Rattle.gb_base.specs.declared.interface.Link.{Link}
use Rattle.gb_host.proofs.Rising.{and-both, found-passes}
use Rattle.gb_host.specs.Changes.{IsTaken}
use Rattle.gb_host.specs.Indexes.{Rises}
use Rattle.gb_host.specs.Places.{AllRise, has, there_in}
use Rattle.gb_host.specs.declared.places.Place.{Place}
use Rattle.gb_machine.proofs.Positions.{none-stands, standing}
use Rattle.gb_machine.specs.Lists.{at_first}

-- ---- the list of those that are there

-- places behind others
pub there-append : (hs gs : List Place) → there_in (hs ++ gs) ≡ there_in hs ++ there_in gs
there-append [] gs = refl
there-append (h ∷ hs) gs = by h.there (there-append hs gs)
  where
    by : (b : Bool) → there_in (hs ++ gs) ≡ there_in hs ++ there_in gs
        → cond b (h.link ∷ there_in (hs ++ gs)) (there_in (hs ++ gs))
        ≡ cond b (h.link ∷ there_in hs) (there_in hs) ++ there_in gs
    by true later = ap (λ ls. h.link ∷ ls) later
    by false later = later

-- there are no more than places
pub there-few : (hs : List Place) → length (there_in hs) ≤ length hs
there-few [] = omega arith
there-few (h ∷ hs) = by h.there (there-few hs)
  where
    by : (b : Bool) → length (there_in hs) ≤ length hs
        → length (cond b (h.link ∷ there_in hs) (there_in hs)) ≤ suc (length hs)
    by true later = omega (arith, later)
    by false later = omega (arith, later)

-- the last place is one of a gone connection
pub there-last : (hs : List Place) (end : ℕ) (d : Place) → 0 < end → end ≤ length hs
    → (get_or hs (end - 1) d).there ≡ false → there_in (take (end - 1) hs) ≡ there_in (take end hs)
there-last hs end d some here gone =
    let less : end - 1 < length hs = omega (arith, some, here) in
    let next : end - 1 + 1 ≡ end = omega (arith, some) in
    let last = get_or hs (end - 1) d in
    sym (sym (ap (λ n. there_in (take n hs)) next)
    ∙ ap there_in (take_more hs (end - 1) d less)
    ∙ there-append (take (end - 1) hs) (last ∷ [])
    ∙ ap (λ b. there_in (take (end - 1) hs) ++ cond b (last.link ∷ []) []) gone
    ∙ append-nil (there_in (take (end - 1) hs)))

-- the places that are left behind are given up
pub there-swept : (hs : List Place) → there_in (filter (λ h. h.there) hs) ≡ there_in hs
there-swept [] = refl
there-swept (h ∷ hs) = by h.there refl (there-swept hs)
  where
    by : (b : Bool) → h.there ≡ b → there_in (filter (λ (g : Place). g.there) hs) ≡ there_in hs
        → there_in (cond b (h ∷ filter (λ (g : Place). g.there) hs) (filter (λ (g : Place). g.there)
        hs)) ≡ cond b (h.link ∷ there_in hs) (there_in hs)
    by true e later =
        let kept = there_in (filter (λ (g : Place). g.there) hs) in
        ap (λ b. cond b (h.link ∷ kept) kept) e ∙ ap (λ ls. h.link ∷ ls) later
    by false e later = later

-- ---- what is looked for

-- the first that is there and passes a test
find-there : (test : Link → Bool) (hs : List Place)
    → find test (there_in hs) ≡ option_map (λ h. h.link) (find (has test) hs)
find-there test [] = refl
find-there test (h ∷ hs) = by h.there (test h.link) refl (find-there test hs)
  where
    by : (b t : Bool) → test h.link ≡ t
        → find test (there_in hs) ≡ option_map (λ (g : Place). g.link) (find (has test) hs)
        → find test (cond b (h.link ∷ there_in hs) (there_in hs))
        ≡ option_map (λ (g : Place). g.link) (cond (b && t) (Some h) (find (has test) hs))
    by true true e later = ap (λ t. cond t (Some h.link) (find test (there_in hs))) e
    by true false e later = ap (λ t. cond t (Some h.link) (find test (there_in hs))) e ∙ later
    by false true e later = later
    by false false e later = later

-- it has no place
pub found-none : (test : Link → Bool) (hs gs : List Place) (ls : List Link) (o : Option ℕ)
    (r : Option Link) → hs ≡ gs → there_in gs ≡ ls → o ≡ position_from (has test) 0 hs → o ≡ None
    → r ≡ None → r ≡ find test ls
found-none test hs gs ls o r same are first was is =
    is
    ∙ sym (ap (option_map (λ (h : Place). h.link)) (none-stands (has test) hs (sym first ∙ was)).0)
    ∙ sym (find-there test hs) ∙ ap (λ ks. find test (there_in ks)) same ∙ ap (find test) are

-- it has a place
pub found-one : (test : Link → Bool) (hs gs : List Place) (ls : List Link) (o : Option ℕ) (i : ℕ)
    (d : Place) (l : Link) → hs ≡ gs → there_in gs ≡ ls → o ≡ position_from (has test) 0 hs
    → o ≡ Some i → l ≡ (get_or gs i d).link → Some l ≡ find test ls
found-one test hs gs ls o i d l same are first was is =
    ap Some (is ∙ ap (λ ks. (get_or ks i d).link) (sym same))
    ∙ sym (ap (option_map (λ (h : Place). h.link)) ((standing (has test) hs i (sym first
    ∙ was)).found d))
    ∙ sym (find-there test hs) ∙ ap (λ ks. find test (there_in ks)) same ∙ ap (find test) are

-- the first that is there and passes a test is changed
change-there : (test : Link → Bool) (f : Link → Link) (hs : List Place)
    → at_first test f (there_in hs)
    ≡ there_in (at_first (has test) (λ h. record { link = f h.link; there = true }) hs)
change-there test f [] = refl
change-there test f (h ∷ hs) = by h.there (test h.link) refl refl (change-there test f hs)
  where
    rest : List Place
    rest = at_first (has test) (λ (g : Place). record { link = f g.link; there = true }) hs

    by : (b t : Bool) → h.there ≡ b → test h.link ≡ t
        → at_first test f (there_in hs) ≡ there_in rest
        → at_first test f (cond b (h.link ∷ there_in hs) (there_in hs))
        ≡ there_in (cond (b && t) (record { link = f h.link; there = true } ∷ hs) (h ∷ rest))
    by true true k e later =
        ap (λ t. cond t (f h.link ∷ there_in hs) (h.link ∷ at_first test f (there_in hs))) e
    by true false k e later =
        ap (λ t. cond t (f h.link ∷ there_in hs) (h.link ∷ at_first test f (there_in hs))) e
        ∙ ap (λ ls. h.link ∷ ls) later
        ∙ sym (ap (λ b. cond b (h.link ∷ there_in rest) (there_in rest)) k)
    by false true k e later =
        later ∙ sym (ap (λ b. cond b (h.link ∷ there_in rest) (there_in rest)) k)
    by false false k e later =
        later ∙ sym (ap (λ b. cond b (h.link ∷ there_in rest) (there_in rest)) k)

-- it has no place
pub changed-none : (test : Link → Bool) (f : Link → Link) (hs gs : List Place) (ls : List Link)
    (o : Option ℕ) → hs ≡ gs → there_in gs ≡ ls → o ≡ position_from (has test) 0 hs → o ≡ None
    → ls ≡ at_first test f ls
changed-none test f hs gs ls o same are first was =
    let none = (none-stands (has test) hs (sym first ∙ was)).1 (λ (h : Place). record {
      link = f h.link;
      there = true;
    }) in
    let all = ap there_in same ∙ are in
    sym all ∙ sym (ap there_in none) ∙ sym (change-there test f hs) ∙ ap (at_first test f) all

-- it has a place
pub changed-one : (test : Link → Bool) (f : Link → Link) (hs gs ks : List Place) (ls : List Link)
    (o : Option ℕ) (i : ℕ) (d : Place) (l : Link) → hs ≡ gs → there_in gs ≡ ls
    → o ≡ position_from (has test) 0 hs → o ≡ Some i → l ≡ f (get_or gs i d).link
    → ks ≡ set gs i (record { link = l; there = true }) → there_in ks ≡ at_first test f ls
changed-one test f hs gs ks ls o i d l same are first was is new =
    let all = ap there_in same ∙ are in
    ap there_in (new
    ∙ ap (λ (m : Link). set gs i (record { link = m; there = true })) is
    ∙ sym (ap (λ ns. set ns i (record { link = f (get_or ns i d).link; there = true })) same)
    ∙ sym ((standing (has test) hs i (sym first ∙ was)).changed (λ (h : Place). record {
      link = f h.link;
      there = true;
    }) d))
    ∙ sym (change-there test f hs) ∙ ap (at_first test f) all

-- one leaves its place behind
left-one : (hs : List Place) (i : ℕ) (d h : Place) → i < length hs → (get_or hs i d).there ≡ true
    → h.there ≡ false → IsTaken (get_or hs i d).link (there_in hs) (there_in (set hs i h))
left-one [] i d h within here gone = absurd (omega (arith, within))
left-one (g ∷ hs) zero d h within here gone = record {
  front = [];
  behind = there_in hs;
  old_is = ap (λ b. cond b (g.link ∷ there_in hs) (there_in hs)) here;
  new_is = ap (λ b. cond b (h.link ∷ there_in hs) (there_in hs)) gone;
}
left-one (g ∷ hs) (suc i) d h within here gone =
    by g.there (left-one hs i d h (omega (arith, within)) here gone)
  where
    by : (b : Bool) → IsTaken (get_or hs i d).link (there_in hs) (there_in (set hs i h))
        → IsTaken (get_or hs i d).link (cond b (g.link ∷ there_in hs) (there_in hs)) (cond b (g.link
        ∷ there_in (set hs i h)) (there_in (set hs i h)))
    by true later = record {
      front = g.link ∷ later.front;
      behind = later.behind;
      old_is = ap (λ ls. g.link ∷ ls) later.old_is;
      new_is = ap (λ ls. g.link ∷ ls) later.new_is;
    }
    by false later = later

-- the first that passes a test leaves its place behind
pub taken-one : (test : Link → Bool) (hs gs ks : List Place) (ls : List Link) (o : Option ℕ) (i : ℕ)
    (d h : Place) (l : Link) → hs ≡ gs → there_in gs ≡ ls → o ≡ position_from (has test) 0 hs
    → o ≡ Some i → l ≡ (get_or gs i d).link → ks ≡ set gs i h → h.there ≡ false
    → IsTaken l ls (there_in ks)
taken-one test hs gs ks ls o i d h l same are first was is new gone =
    let stands = standing (has test) hs i (sym first ∙ was) in
    let holds : has test (get_or hs i d) ≡ true = found-passes (has test) hs (get_or hs i d)
    (stands.found d) in
    let there : (get_or hs i d).there ≡ true =
    (and-both (get_or hs i d).there (test (get_or hs i d).link) holds).0 in
    let taken = left-one hs i d h stands.within there gone in
    subst (λ (m : Link). IsTaken m ls (there_in ks)) (ap (λ ns. (get_or ns i d).link) same ∙ sym is)
    (subst (λ ms. IsTaken (get_or hs i d).link ms (there_in ks)) (ap there_in same ∙ are)
    (subst (λ ns. IsTaken (get_or hs i d).link (there_in hs) (there_in ns)) (ap (λ ns. set ns i h)
    same ∙ sym new) taken))

-- ---- where numbers rise

-- what is found, where it is there
abbrev only_there : Option Place → Option ℕ → Option ℕ
only_there None o = None
only_there (Some h) o = if h.there then o else None

-- none of greater numbers is there with a number
none-greater : (k : ℕ) (hs : List Place) (n : ℕ)
    → ((i : ℕ) (d : Place) → i < length hs → k < (get_or hs i d).link.connection)
    → position_from (has (λ l. l.connection == k)) n hs ≡ None
none-greater k [] n more = refl
none-greater k (h ∷ hs) n more =
    let first : k < h.link.connection = more zero h (omega arith) in
    let test : (h.link.connection == k) ≡ false = grind (arith, nat_tests) in
    by h.there (h.link.connection == k) test
    ∙ none-greater k hs (n + 1) (λ i d here. more (suc i) d (omega (arith, here)))
  where
    by : (b t : Bool) → t ≡ false
        → cond (b && t) (Some n) (position_from (has (λ (l : Link). l.connection == k)) (n + 1) hs)
        ≡ position_from (has (λ (l : Link). l.connection == k)) (n + 1) hs
    by true true e = absurd cc
    by true false e = refl
    by false true e = refl
    by false false e = refl

-- the place with a number, where its connection is there
known-place : (k : ℕ) (hs : List Place) (n : ℕ) → AllRise hs
    → position_from (has (λ l. l.connection == k)) n hs
    ≡ only_there (find (λ h. h.link.connection == k) hs) (position_from (λ h. h.link.connection
    == k) n hs)
known-place k [] n rises = refl
known-place k (h ∷ hs) n rises =
    by h.there (h.link.connection == k) refl refl (known-place k hs (n + 1) (λ i j d less within.
    rises (suc i) (suc j) d (omega (arith, less)) (omega (arith, within))))
  where
    by : (b t : Bool) → h.there ≡ b → (h.link.connection == k) ≡ t
        → position_from (has (λ (l : Link). l.connection == k)) (n + 1) hs
        ≡ only_there (find (λ (g : Place). g.link.connection == k) hs)
        (position_from (λ (g : Place). g.link.connection == k) (n + 1) hs)
        → cond (b && t) (Some n) (position_from (has (λ (l : Link). l.connection == k)) (n + 1) hs)
        ≡ only_there (cond t (Some h) (find (λ (g : Place). g.link.connection == k) hs))
        (cond t (Some n) (position_from (λ (g : Place). g.link.connection == k) (n + 1) hs))
    by true true e is later = sym (ap (λ b. cond b (Some n) None) e)
    by true false e is later = later
    by false true e is later =
        let same : h.link.connection ≡ k = grind (arith, nat_tests) in
        none-greater k hs (n + 1) (λ i d here.
        let up : h.link.connection < (get_or hs i d).link.connection = rises zero (suc i) d (omega
        arith) (omega (arith, here)) in omega (arith, up, same))
        ∙ sym (ap (λ b. cond b (Some n) None) e)
    by false false e is later = later

pub place-none : (k : ℕ) (hs : List Place) (o : Option ℕ) → AllRise hs
    → o ≡ position_from (λ h. h.link.connection == k) 0 hs → o ≡ None
    → position_from (has (λ l. l.connection == k)) 0 hs ≡ None
place-none k hs o rises first was =
    known-place k hs 0 rises
    ∙ ap (λ f. only_there f (position_from (λ (h : Place). h.link.connection == k) 0 hs))
    (none-stands (λ (h : Place). h.link.connection == k) hs (sym first ∙ was)).0

pub place-gone : (k : ℕ) (hs : List Place) (o : Option ℕ) (i : ℕ) (d : Place) → AllRise hs
    → o ≡ position_from (λ h. h.link.connection == k) 0 hs → o ≡ Some i
    → (get_or hs i d).there ≡ false → position_from (has (λ l. l.connection == k)) 0 hs ≡ None
place-gone k hs o i d rises first was gone =
    let p = position_from (λ (h : Place). h.link.connection == k) 0 hs in
    known-place k hs 0 rises
    ∙ ap (λ f. only_there f p) ((standing (λ (h : Place). h.link.connection == k) hs i (sym first
    ∙ was)).found d)
    ∙ ap (λ b. cond b p None) gone

pub place-there : (k : ℕ) (hs : List Place) (o : Option ℕ) (i : ℕ) (d : Place) → AllRise hs
    → o ≡ position_from (λ h. h.link.connection == k) 0 hs → o ≡ Some i
    → (get_or hs i d).there ≡ true → position_from (has (λ l. l.connection == k)) 0 hs ≡ Some i
place-there k hs o i d rises first was there =
    let p = position_from (λ (h : Place). h.link.connection == k) 0 hs in
    known-place k hs 0 rises
    ∙ ap (λ f. only_there f p) ((standing (λ (h : Place). h.link.connection == k) hs i (sym first
    ∙ was)).found d)
    ∙ ap (λ b. cond b p None) there ∙ sym first ∙ was

-- those that are there have greater numbers than one, where all have
above-there : (k : ℕ) (hs : List Place)
    → ((i : ℕ) (d : Place) → i < length hs → k < (get_or hs i d).link.connection)
    → (i : ℕ) (d : Link) → i < length (there_in hs) → k < (get_or (there_in hs) i d).connection
above-there k [] more i d within = absurd (omega (arith, within))
above-there k (h ∷ hs) more i d within =
    by h.there i within (above-there k hs (λ j e here. more (suc j) e (omega (arith, here))))
  where
    by : (b : Bool) (i : ℕ) → i < length (cond b (h.link ∷ there_in hs) (there_in hs))
        → ((j : ℕ) (e : Link) → j < length (there_in hs) → k
        < (get_or (there_in hs) j e).connection)
        → k < (get_or (cond b (h.link ∷ there_in hs) (there_in hs)) i d).connection
    by true zero here later = more zero h (omega arith)
    by true (suc j) here later = later j d (omega (arith, here))
    by false j here later = later j d here

-- the numbers of those that are there rise
rises-there : (hs : List Place) → AllRise hs → Rises (there_in hs)
rises-there [] rises i j d less within = absurd (omega (arith, within))
rises-there (h ∷ hs) rises i j d less within =
    by h.there i j less within (rises-there hs (λ m n e low high. rises (suc m) (suc n) e (omega (
      arith,
      low,
    )) (omega (arith, high))))
  where
    by : (b : Bool) (i j : ℕ) → i < j → j < length (cond b (h.link ∷ there_in hs) (there_in hs))
        → Rises (there_in hs)
        → (get_or (cond b (h.link ∷ there_in hs) (there_in hs)) i d).connection
        < (get_or (cond b (h.link ∷ there_in hs) (there_in hs)) j d).connection
    by true i zero low high later = absurd (omega (arith, low))
    by true zero (suc n) low high later =
        above-there h.link.connection hs (λ m e here. rises zero (suc m) e (omega arith) (omega (
          arith,
          here,
        ))) n d (omega (arith, high))
    by true (suc m) (suc n) low high later =
        later m n d (omega (arith, low)) (omega (arith, high))
    by false i j low high later = later i j d low high

-- another at a place with its number
number-put : (hs : List Place) (i : ℕ) (d h : Place) → i < length hs
    → h.link.connection ≡ (get_or hs i d).link.connection → (m : ℕ) (e : Place)
    → (get_or (set hs i h) m e).link.connection ≡ (get_or hs m e).link.connection
number-put hs i d h within same m e = by (m == i) refl
  where
    by : (b : Bool) → (m == i) ≡ b
        → (get_or (set hs i h) m e).link.connection ≡ (get_or hs m e).link.connection
    by true k =
        let one : i ≡ m = grind (arith, nat_tests) in
        subst (λ p. (get_or (set hs i h) p e).link.connection ≡ (get_or hs p e).link.connection) one
        (ap (λ (g : Place). g.link.connection) (get_or-set_same hs i h e within) ∙ same
        ∙ ap (λ (g : Place). g.link.connection) (get_or_default hs i d e within))
    by false k =
        let other : m ≢ i = grind (arith, nat_tests) in
        ap (λ (g : Place). g.link.connection) (get_or-set_other hs i m h e other)

-- a place keeps its number
pub rises-put : (hs ks : List Place) (i : ℕ) (d h : Place) → i < length hs → ks ≡ set hs i h
    → h.link.connection ≡ (get_or hs i d).link.connection → AllRise hs → AllRise ks
rises-put hs ks i d h within new same rises =
    subst AllRise (sym new) (λ m n e low high.
    subst (λ a. a < (get_or (set hs i h) n e).link.connection) (sym (number-put hs i d h within same
    m e))
    (subst (λ a. (get_or hs m e).link.connection < a) (sym (number-put hs i d h within same n e))
    (rises m n e low (subst (λ a. n < a) (length-set hs i h) high))))

-- some places are given up
pub rises-filter : (p : Place → Bool) (hs ks : List Place) → ks ≡ filter p hs → AllRise hs
    → AllRise ks
rises-filter p hs ks e rises = subst AllRise (sym e) (AllPairs-filter (λ (h g : Place).
    h.link.connection < g.link.connection) p hs rises)

-- the numbers of those that are there rise to that of one more
pub rises-more : (hs gs : List Place) (ls : List Link) (l : Link) → hs ≡ gs → there_in gs ≡ ls
    → AllRise (hs ++ record { link = l; there = true } ∷ []) → Rises (ls ++ l ∷ [])
rises-more hs gs ls l same are rises =
    subst Rises (there-append hs (record { link = l; there = true } ∷ [])
    ∙ ap (λ ms. ms ++ l ∷ []) (ap there_in same ∙ are)) (rises-there _ rises)

-- where numbers rise to that of one more, they rise with it, if memory is found
pub rises-added : (rising rises : Bool) (hs ks : List Place) (h : Place) (done : Bool)
    → (rising ≡ true → AllRise hs) → (rises ≡ true → AllRise hs → AllRise (hs ++ h ∷ []))
    → (done ≡ true → ks ≡ hs ++ h ∷ []) → (done ≡ false → ks ≡ hs)
    → (rising && rises) ≡ true → AllRise ks
rises-added rising rises hs ks h true before up added same says =
    let both = and-both rising rises says in
    subst AllRise (sym (added refl)) (up both.1 (before both.0))
rises-added rising rises hs ks h false before up added same says =
    subst AllRise (sym (same refl)) (before (and-both rising rises says).0)
