-- What is kept of connections, as one with a number leaves.
use Rattle.std.proofs.Common.{◌≡◌, ◌==◌, ◌&&◌, ◌<◌, ◌≤◌, ◌+◌, ℕ, Bool, true, nat_eq, Option, Some}
use Rattle.std.proofs.Common.{None, List, ◌∷◌, ◌++◌, length, get_or, drop, refl, sym, ap, ◌∙◌}
use Rattle.std.proofs.Common.{subst}
use Rattle.std.proofs.lemmas.List.{drop_all, drop_more}
use Rattle.std.specs.HashMap.{get}
use Rattle.std.specs.List.{find}
use Rattle.std.specs.Option.{option_to_list}
use Rattle.gb_base.specs.declared.interface.Link.{Link}
use Rattle.gb_host.proofs.Named.{alike, number_of}
use Rattle.gb_host.proofs.Numbers.{alone, has_number, none-numbers, one-number}
use Rattle.gb_host.proofs.Numbers.{first-leaves, only-leaves}
use Rattle.gb_host.proofs.Rising.{rises-without}
use Rattle.gb_host.specs.Awaited.{AreAwaited}
use Rattle.gb_host.specs.Changes.{IsTaken}
use Rattle.gb_host.specs.Counts.{AreCounted}
use Rattle.gb_host.specs.Indexes.{Rises}
use Rattle.gb_host.specs.Named.{AreNamed, end_number}
use Rattle.gb_host.specs.Numbers.{numbers_where}
use Rattle.gb_host.specs.declared.awaited.Awaited.{Awaited}
use Rattle.gb_host.specs.declared.cports.Cports.{Cports}
use Rattle.gb_host.specs.declared.ends.Ends.{Ends}
use Rattle.gb_machine.specs.Host.{is_link}
use Rattle.gb_machine.specs.Lists.{without}

-- what is kept of those with it becomes what is kept of those without it
pub kept-left : (Kept Left : List Link → Type 0) (ls ms : List Link) (l : Link) → IsTaken l ls ms
    → ((front behind : List Link) → Kept (front ++ l ∷ behind) → Left (front ++ behind))
    → Kept ls → Left ms
kept-left Kept Left ls ms l taken leaves kept =
    subst Left (sym taken.new_is)
    (leaves taken.front taken.behind (subst Kept taken.old_is kept))

-- its far end has none any more
pub named-left : (x y : Ends) (ls ms : List Link) (l : Link) → l.cport < 65536 → IsTaken l ls ms
    → ((ks : List Link) → AreNamed x ks → AreNamed y (without (is_link l.intf l.cport) ks))
    → AreNamed x ls → AreNamed y ms
named-left x y ls ms l low taken leaves named =
    let at = is_link l.intf l.cport in
    let here : at l ≡ true =
    ap (λ b. b && l.cport == l.cport) (alike l.intf l.intf refl) ∙ alike l.cport l.cport refl in
    let one : without at (taken.front ++ l ∷ taken.behind) ≡ taken.front ++ taken.behind =
    alone (get nat_eq x.numbers (end_number l.intf l.cport)) at taken.front taken.behind l here
    (named l.intf l.cport low ∙ ap (numbers_where at) taken.old_is) in
    subst (AreNamed y) (ap (without at) taken.old_is ∙ one ∙ sym taken.new_is) (leaves ls named)

-- ---- the one at a far end

-- its number is the only one there
only-number : (x : Ends) (i c : ℕ) (ls : List Link) (o : Option ℕ) → c < 65536 → AreNamed x ls
    → o ≡ number_of (find (is_link i c) ls) → option_to_list o ≡ numbers_where (is_link i c) ls
only-number x i c ls o low named e =
    ap option_to_list (e ∙ sym (one-number (get nat_eq x.numbers (end_number i c)) (is_link i c) ls
    (named i c low))) ∙ named i c low

-- without it, none is there
pub end-leaves : (x : Ends) (i c k : ℕ) (ls : List Link) (o : Option ℕ) → c < 65536 → Rises ls
    → AreNamed x ls → o ≡ number_of (find (is_link i c) ls) → o ≡ Some k
    → without (has_number k) ls ≡ without (is_link i c) ls
end-leaves x i c k ls o low rises named e some =
    only-leaves (is_link i c) k ls rises
    (sym (only-number x i c ls o low named e) ∙ ap option_to_list some)

-- where none is there, all stay
pub end-stays : (x : Ends) (i c : ℕ) (ls : List Link) (o : Option ℕ) → c < 65536
    → AreNamed x ls → o ≡ number_of (find (is_link i c) ls) → o ≡ None
    → without (is_link i c) ls ≡ ls
end-stays x i c ls o low named e none =
    none-numbers (is_link i c) ls
    (sym (only-number x i c ls o low named e) ∙ ap option_to_list none)

-- ---- those with some numbers, one after another

-- the first ones are gone
pub record AreGoing (cports cports' : Cports) (ends ends' : Ends) (awaited awaited' : Awaited)
    (numbers rest : List ℕ) (ls ms : List Link) : Type 0 where
  pub rises : Rises ms
  pub left : (test : Link → Bool) → numbers ≡ numbers_where test ls
      → (numbers_where test ms ≡ rest) × (without test ms ≡ without test ls)
  pub counted : AreCounted cports ls → AreCounted cports' ms
  pub named : AreNamed ends ls → AreNamed ends' ms
  pub waiting : AreAwaited awaited ls → AreAwaited awaited' ms

-- at first none is
pub going-all : (cports : Cports) (ends : Ends) (awaited : Awaited) (numbers : List ℕ)
    (ls : List Link) → Rises ls
    → AreGoing cports cports ends ends awaited awaited numbers numbers ls ls
going-all cports ends awaited numbers ls rises = record {
  rises = rises;
  left = λ test e. (sym e, refl);
  counted = λ counted. counted;
  named = λ named. named;
  waiting = λ waiting. waiting;
}

-- the next leaves
pub going-next : (w x y : Cports) (s t u : Ends) (e f g : Awaited) (ns : List ℕ) (n : ℕ)
    (ls ms ks : List Link)
    → n < length ns → (Rises ms → ks ≡ without (has_number (get_or ns n 0)) ms)
    → (AreCounted x ms → AreCounted y ks) → (AreNamed t ms → AreNamed u ks)
    → (AreAwaited f ms → AreAwaited g ks) → AreGoing w x s t e f ns (drop n ns) ls ms
    → AreGoing w y s u e g ns (drop (n + 1) ns) ls ks
going-next w x y s t u e f g ns n ls ms ks within left counted named waiting going = record {
  rises = rises-without (has_number k) ms ks (left going.rises) going.rises;
  left = λ test are.
      let before = going.left test are in
      let gone = first-leaves test k ms (drop (n + 1) ns) going.rises (before.0
      ∙ drop_more ns n 0 within) in (
        ap (numbers_where test) (left going.rises) ∙ gone.0,
        ap (without test) (left going.rises) ∙ gone.1 ∙ before.1,
      );
  counted = λ before. counted (going.counted before);
  named = λ before. named (going.named before);
  waiting = λ before. waiting (going.waiting before);
}
  where
    k : ℕ
    k = get_or ns n 0

-- at last all are
pub going-over : (w x : Cports) (s t : Ends) (e f : Awaited) (ns : List ℕ) (n : ℕ)
    (ls ms : List Link) → length ns ≤ n → AreGoing w x s t e f ns (drop n ns) ls ms
    → (test : Link → Bool) → ns ≡ numbers_where test ls → ms ≡ without test ls
going-over w x s t e f ns n ls ms over going test are =
    let left = going.left test are in
    sym (none-numbers test ms (left.0 ∙ drop_all n ns over)) ∙ left.1
