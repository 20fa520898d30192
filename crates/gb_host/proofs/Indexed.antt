-- What is kept to look connections up stays right.
use Rattle.std.proofs.Common.{◌≡◌, ◌==◌, ◌&&◌, ℕ, Bool, true, false, List, [], ◌∷◌, ◌++◌, refl}
use Rattle.std.proofs.Common.{sym, ap, ◌∙◌}
use Rattle.std.proofs.Common.{subst}
use Rattle.gb_base.specs.declared.interface.Link.{Link}
use Rattle.gb_host.proofs.Counts.{counts-kept}
use Rattle.gb_host.proofs.Numbers.{numbers-kept}
use Rattle.gb_host.proofs.Rising.{and-both, rises-kept, rises-without}
use Rattle.gb_host.specs.Awaited.{AreAwaited, is_request, waits_for}
use Rattle.gb_host.specs.Changes.{link_changed}
use Rattle.gb_host.specs.Counts.{AreCounted}
use Rattle.gb_host.specs.Indexes.{AreGrouped, AreIndexed, Rises}
use Rattle.gb_host.specs.Named.{AreNamed}
use Rattle.gb_host.specs.Numbers.{numbers_where}
use Rattle.gb_host.specs.declared.awaited.Awaited.{Awaited}
use Rattle.gb_host.specs.declared.cports.Cports.{Cports}
use Rattle.gb_host.specs.declared.ends.Ends.{Ends}
use Rattle.gb_host.specs.declared.links.LinkChange.{LinkChange}
use Rattle.gb_host.specs.declared.links.LinkChange.TheVariants as link
use Rattle.gb_machine.specs.Host.{is_link}
use Rattle.gb_machine.specs.Lists.{at_first, without}

-- a changed connection has its CPort of the application processor, its number and its far end
ap-stays : (c : LinkChange) (l : Link) → (link_changed c l).ap ≡ l.ap
ap-stays (link.State to) l = refl
ap-stays (link.Credits total) l = refl
ap-stays (link.Fewer taken) l = refl
ap-stays (link.Awaits w) l = refl

pub number-stays : (c : LinkChange) (l : Link) → (link_changed c l).connection ≡ l.connection
number-stays (link.State to) l = refl
number-stays (link.Credits total) l = refl
number-stays (link.Fewer taken) l = refl
number-stays (link.Awaits w) l = refl

end-stays : (i p : ℕ) (c : LinkChange) (l : Link) → is_link i p (link_changed c l) ≡ is_link i p l
end-stays i p (link.State to) l = refl
end-stays i p (link.Credits total) l = refl
end-stays i p (link.Fewer taken) l = refl
end-stays i p (link.Awaits w) l = refl

intf-stays : (i : ℕ) (c : LinkChange) (l : Link) → ((link_changed c l).intf == i) ≡ (l.intf == i)
intf-stays i (link.State to) l = refl
intf-stays i (link.Credits total) l = refl
intf-stays i (link.Fewer taken) l = refl
intf-stays i (link.Awaits w) l = refl

-- a connection is changed, and it is known what waits where it is said so
pub indexed-changed : (cports : Cports) (ends : Ends) (groups : List (List ℕ))
    (awaited awaited' : Awaited) (known known' : Bool) (test : Link → Bool) (c : LinkChange)
    (ls ms : List Link) → ms ≡ at_first test (link_changed c) ls
    → (known' ≡ true → known ≡ true) → (known' ≡ true → AreAwaited awaited' ms)
    → AreIndexed cports ends groups awaited known ls
    → AreIndexed cports ends groups awaited' known' ms
indexed-changed cports ends groups awaited awaited' known known' test c ls ms e before waits indexed
    = record {
      counted = counts-kept cports test (link_changed c) ls ms (ap-stays c) indexed.counted e;
      rises = λ says.
          rises-kept test (link_changed c) ls ms (number-stays c) e (indexed.rises (before says));
      named = λ says i p fits.
          indexed.named (before says) i p fits ∙ same (is_link i p) (end-stays i p c);
      grouped = λ says i.
          indexed.grouped (before says) i ∙ same (λ l. l.intf == i) (intf-stays i c);
      waiting = waits;
    }
  where
    same : (q : Link → Bool) → ((l : Link) → q (link_changed c l) ≡ q l)
        → numbers_where q ls ≡ numbers_where q ms
    same q stays =
        sym (numbers-kept test q (link_changed c) stays (number-stays c) ls)
        ∙ ap (numbers_where q) (sym e)

-- but not what it waits for
pub indexed-kept : (cports : Cports) (ends : Ends) (groups : List (List ℕ)) (awaited : Awaited)
    (known : Bool) (test : Link → Bool) (c : LinkChange) (ls ms : List Link)
    → ((l : Link) → (link_changed c l).awaits ≡ l.awaits) → ms ≡ at_first test (link_changed c) ls
    → AreIndexed cports ends groups awaited known ls
    → AreIndexed cports ends groups awaited known ms
indexed-kept cports ends groups awaited known test c ls ms stays e indexed =
    indexed-changed cports ends groups awaited awaited known known test c ls ms e (λ says. says)
    (λ says n. indexed.waiting says n
    ∙ sym (ap (numbers_where (waits_for n)) e
    ∙ numbers-kept test (waits_for n) (link_changed c) (λ l. ap (is_request n) (stays l))
    (number-stays c) ls)) indexed

-- five tests that all hold
all-five : (a b c d e : Bool) → (a && (((b && c) && d) && e)) ≡ true
    → (a ≡ true) × (b ≡ true) × (c ≡ true) × (d ≡ true) × (e ≡ true)
all-five a b c d e says =
    let first = and-both a (((b && c) && d) && e) says in
    let second = and-both ((b && c) && d) e first.1 in
    let third = and-both (b && c) d second.0 in
    let fourth = and-both b c third.0 in (first.0, fourth.0, fourth.1, third.1, second.1)

-- a connection goes to the end
pub indexed-added : (cports cports' : Cports) (ends ends' : Ends) (groups groups' : List (List ℕ))
    (awaited : Awaited) (known rises named there quiet : Bool) (ls ms : List Link) (l : Link)
    → ms ≡ ls ++ l ∷ [] → AreIndexed cports ends groups awaited known ls
    → (AreCounted cports ls → AreCounted cports' (ls ++ l ∷ []))
    → (rises ≡ true → Rises ls → Rises (ls ++ l ∷ []))
    → (AreNamed ends ls → named ≡ true → AreNamed ends' (ls ++ l ∷ []))
    → (there ≡ true → Rises (ls ++ l ∷ []) → AreGrouped groups ls
    → AreGrouped groups' (ls ++ l ∷ []))
    → (quiet ≡ true → AreAwaited awaited ls → AreAwaited awaited (ls ++ l ∷ []))
    → AreIndexed cports' ends' groups' awaited (known && (((rises && named) && there) && quiet)) ms
indexed-added cports cports' ends ends' groups groups' awaited known rises named there quiet ls ms l
    e indexed comes risen known' grouped' waits =
    subst (AreIndexed cports' ends' groups' awaited
    (known && (((rises && named) && there) && quiet))) (sym e)
    (record {
      counted = comes indexed.counted;
      rises = λ says. let all = every says in risen all.1 (indexed.rises all.0);
      named = λ says. let all = every says in known' (indexed.named all.0) all.2;
      grouped = λ says.
          let all = every says in
          grouped' all.3 (risen all.1 (indexed.rises all.0)) (indexed.grouped all.0);
      waiting = λ says. let all = every says in waits all.4 (indexed.waiting all.0);
    })
  where
    every : (known && (((rises && named) && there) && quiet)) ≡ true
        → (known ≡ true) × (rises ≡ true) × (named ≡ true) × (there ≡ true) × (quiet ≡ true)
    every = all-five known rises named there quiet

-- where it isn't said so, CPorts alone are known
pub indexed-unknown : (cports : Cports) (ends : Ends) (groups : List (List ℕ)) (awaited : Awaited)
    (known : Bool) (ls : List Link) → known ≡ false → AreCounted cports ls
    → AreIndexed cports ends groups awaited known ls
indexed-unknown cports ends groups awaited known ls unknown counted = record {
  counted = counted;
  rises = λ says. absurd cc;
  named = λ says. absurd cc;
  grouped = λ says. absurd cc;
  waiting = λ says. absurd cc;
}

-- some connections leave
pub indexed-left : (cports : Cports) (ends : Ends) (groups : List (List ℕ)) (awaited : Awaited)
    (known : Bool) (test : Link → Bool) (ls ms : List Link) → ms ≡ without test ls → Rises ls
    → AreCounted cports ms → AreNamed ends ms → AreGrouped groups ms → AreAwaited awaited ms
    → AreIndexed cports ends groups awaited known ms
indexed-left cports ends groups awaited known test ls ms e rises counted named grouped waiting =
    record {
      counted = counted;
      rises = λ says. rises-without test ls ms e rises;
      named = λ says. named;
      grouped = λ says. grouped;
      waiting = λ says. waiting;
    }
