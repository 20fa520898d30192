-- The ends where an item waits are in order, and what becomes of them when the least is removed.
use Rattle.std.proofs.Common.{◌≡◌, Bool, true, false, Option, Some, None, IfSome, List}
use Rattle.std.proofs.Common.{[], ◌∷◌}
use Rattle.std.proofs.Common.{◌||◌, Equal, Less, refl, sym, ap, ◌∙◌, subst}
use Rattle.std.proofs.lemmas.Bool.{true≢false}
use Rattle.std.proofs.lemmas.Cmp.{tied_itself}
use Rattle.std.specs.List.{AllByRecursion}
use Rattle.std.specs.List.Sorted.{IsStrictlySortedBy}
use Rattle.std.specs.Option.{option_eq}
use Rattle.std.specs.Ordering.{eq_by_cmp, is_eq}
use Rattle.gb_base.specs.declared.end.End.{End}
use Rattle.gb_switch.proofs.Places.{by-false, cmp-other, cmp-own, cmp-same}
use Rattle.gb_switch.specs.Places.{end_cmp, end_total}
use Rattle.gb_switch.specs.WaitingEnds.{ComesBefore, IsBelow, Marks, ends_of, is_in}

is-first : (o : Option End) (p : End) → option_eq (eq_by_cmp end_cmp) o (Some p) ≡ true
    → o ≡ Some p
is-first None p e = absurd (true≢false (sym e))
is-first (Some first) p e = ap Some (cmp-same first p e)

-- the others alone are left
leaves-others : (p : End) (others : List End) → IsBelow p others
    → Marks (p ∷ others) others p false
leaves-others p others below = record {
  here =
      by-false (is_in others p)
      (λ there.
      let less = below p there in
      let tied : end_cmp p p ≡ Equal = tied_itself end_total p in
      absurd (cc (less, tied)));
  others = λ q ne. sym (ap (λ b. b || is_in others q) (cmp-other q p ne));
}

pub removes-first : (o : Option End) (p : End) (old new : List End)
    → option_eq (eq_by_cmp end_cmp) o (Some p) ≡ true
    → new ≡ old → ComesBefore o old → Marks (ends_of o old) new p false
removes-first o p old new same rest below =
    let is = is-first o p same in
    subst (λ x. Marks (ends_of x old) new p false) (sym is)
    (subst (λ ends. Marks (p ∷ old) ends p false) (sym rest)
    (leaves-others p old (subst (λ x. ComesBefore x old) is below)))

-- an end takes the place of the least, which is now one of the others
pub marks-before : (second p : End) (old new : List End) → is_in new second ≡ true
    → ((q : End) → is_eq (end_cmp second q) ≡ false → is_in new q ≡ is_in old q)
    → Marks (second ∷ old) (p ∷ new) p true
marks-before second p old new here same = record {
  here = ap (λ b. b || is_in new p) (cmp-own p);
  others = λ q ne.
      ap (λ b. b || is_in new q) (cmp-other q p ne) ∙ there q (is_eq (end_cmp q second)) refl;
}
  where
    there : (q : End) (b : Bool) → is_eq (end_cmp q second) ≡ b
        → is_in new q ≡ (b || is_in old q)
    there q true e = ap (is_in new) (cmp-same q second e) ∙ here
    there q false e =
        same q
        (cmp-other second q
        (λ is. true≢false
        (sym (cmp-own q) ∙ ap (λ at. is_eq (end_cmp q at)) (sym is) ∙ e)))

-- no end is one of them, so there is none
pub none-in : (ends : List End) → ((at : End) → is_in ends at ≡ false) → ends ≡ []
none-in [] none = refl
none-in (e ∷ ends) none =
    absurd (true≢false (sym (ap (λ b. b || is_in ends e) (cmp-own e)) ∙ none e))

-- ---- they are in order

-- an end that is below those of a list by being in it is below each
below-each : (p : End) (others : List End) → IsBelow p others
    → AllByRecursion (λ q. end_cmp p q ≡ Less) others
below-each p [] below = tt
below-each p (q ∷ others) below = (
  below q (ap (λ b. b || is_in others q) (cmp-own q)),
  below-each p others (λ r there. below r (later r (is_eq (end_cmp r q)) there)),
)
  where
    later : (r : End) (b : Bool) → is_in others r ≡ true → (b || is_in others r) ≡ true
    later r true there = refl
    later r false there = there

-- the first, where it is there, comes before the others
pub is-below : (o : Option End) (others : List End) → ComesBefore o others
    → IfSome o (λ first. IsBelow first others)
is-below None others none = tt
is-below (Some first) others below = below

pub in-order : (o : Option End) (others : List End) → IfSome o (λ first. IsBelow first others)
    → IsStrictlySortedBy end_cmp others → IsStrictlySortedBy end_cmp (ends_of o others)
unfolding IsStrictlySortedBy
in-order None others below sorted = sorted
in-order (Some p) others below sorted = (below-each p others below, sorted)
