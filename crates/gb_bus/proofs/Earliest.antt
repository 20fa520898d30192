-- The first end at which something waits is the least that is marked.
use Rattle.std.proofs.Common.{◌≡◌, ℕ, Bool, true, false, cond, nat_lt, ◌&&◌, ◌||◌, eqb, ◌⊎◌, inl}
use Rattle.std.proofs.Common.{inr, ⊎_elim, Option, Some, None, List, [], ◌∷◌, refl, sym, ap, ◌∙◌}
use Rattle.std.proofs.Common.{subst, arith, rules, IsSome}
use Rattle.std.proofs.lemmas.Bool.{true≢false}
use Rattle.std.proofs.lemmas.Bool.Decides.{nat_tests}
use Rattle.std.specs.Map.{lookup}
use Rattle.std.specs.Prelude.{nat_eq}
use Rattle.gb_base.specs.declared.end.End.{End}
use Rattle.gb_base.specs.declared.end.End.TheVariants as end
use Rattle.gb_bus.proofs.Entries.{EachEntry, each-entry, same-some, some-none}
use Rattle.gb_bus.specs.Connection.{Connection}
use Rattle.gb_bus.specs.Ends.{earlier}
use Rattle.gb_bus.specs.Index.{Ends, IsEndOf, IsMarked, MapsAgree, Live, number_at}
use Rattle.gb_bus.specs.Parts.{earliest_in, earliest_of, is_none_left}
use Rattle.gb_bus.specs.Seen.{all_seen, seen}
use Rattle.gb_bus.specs.declared.connection.Connection as code
use Rattle.gb_bus.specs.declared.queue.Item.{Item}
use Rattle.gb_machine.specs.Waiting.{end_before}
use Rattle.gb_switch.proofs.Places.{settled-before}
use Rattle.gb_switch.specs.Queue.{has_items}
use Rattle.gb_switch.specs.WaitingEnds.{IsLeast, is_in}

-- ---- the order of ends

pub not-before-self : (a : End) → end_before a a ≡ false
not-before-self end.Svc = refl
not-before-self (end.Ap a) = number a
  where
    number : (n : ℕ) → nat_lt n n ≡ false
    number n = grind (arith, nat_tests)
not-before-self (end.Module i c) = pair i c
  where
    pair : (n m : ℕ) → (nat_lt n n || eqb n n && nat_lt m m) ≡ false
    pair n m = grind (arith, nat_tests, rules)

number-through : (a b c : ℕ) → nat_lt a b ≡ true → nat_lt b c ≡ true → nat_lt a c ≡ true
number-through a b c e f = grind (arith, nat_tests)

pair-through : (i c j d k e : ℕ) → (nat_lt i j || eqb i j && nat_lt c d) ≡ true
    → (nat_lt j k || eqb j k && nat_lt d e) ≡ true
    → (nat_lt i k || eqb i k && nat_lt c e) ≡ true
pair-through i c j d k e f g = grind (arith, nat_tests, rules)

pub before-through : (a b c : End) → end_before a b ≡ true → end_before b c ≡ true
    → end_before a c ≡ true
before-through end.Svc end.Svc c e f = absurd (cc e)
before-through end.Svc (end.Ap b) end.Svc e f = absurd (cc f)
before-through end.Svc (end.Ap b) (end.Ap c) e f = refl
before-through end.Svc (end.Ap b) (end.Module k m) e f = refl
before-through end.Svc (end.Module j d) end.Svc e f = absurd (cc f)
before-through end.Svc (end.Module j d) (end.Ap c) e f = absurd (cc f)
before-through end.Svc (end.Module j d) (end.Module k m) e f = refl
before-through (end.Ap a) end.Svc c e f = absurd (cc e)
before-through (end.Ap a) (end.Ap b) end.Svc e f = absurd (cc f)
before-through (end.Ap a) (end.Ap b) (end.Ap c) e f = number-through a b c e f
before-through (end.Ap a) (end.Ap b) (end.Module k m) e f = refl
before-through (end.Ap a) (end.Module j d) end.Svc e f = absurd (cc f)
before-through (end.Ap a) (end.Module j d) (end.Ap c) e f = absurd (cc f)
before-through (end.Ap a) (end.Module j d) (end.Module k m) e f = refl
before-through (end.Module i n) end.Svc c e f = absurd (cc e)
before-through (end.Module i n) (end.Ap b) c e f = absurd (cc e)
before-through (end.Module i n) (end.Module j d) end.Svc e f = absurd (cc f)
before-through (end.Module i n) (end.Module j d) (end.Ap c) e f = absurd (cc f)
before-through (end.Module i n) (end.Module j d) (end.Module k m) e f =
    pair-through i n j d k m e f

number-one : (a b : ℕ) → nat_lt a b ≡ false → nat_lt b a ≡ false → a ≡ b
number-one a b e f = grind (arith, nat_tests)

pair-one : (i c j d : ℕ) → (nat_lt i j || eqb i j && nat_lt c d) ≡ false
    → (nat_lt j i || eqb j i && nat_lt d c) ≡ false → (i ≡ j) × (c ≡ d)
pair-one i c j d e f = (left i c j d e f, right i c j d e f)
  where
    left : (i c j d : ℕ) → (nat_lt i j || eqb i j && nat_lt c d) ≡ false
        → (nat_lt j i || eqb j i && nat_lt d c) ≡ false → i ≡ j
    left i c j d e f = grind (arith, nat_tests, rules)

    right : (i c j d : ℕ) → (nat_lt i j || eqb i j && nat_lt c d) ≡ false
        → (nat_lt j i || eqb j i && nat_lt d c) ≡ false → c ≡ d
    right i c j d e f = grind (arith, nat_tests, rules)

-- ends of which none comes first are one
pub one-end : (a b : End) → end_before a b ≡ false → end_before b a ≡ false → a ≡ b
one-end end.Svc end.Svc e f = refl
one-end end.Svc (end.Ap b) e f = absurd (cc e)
one-end end.Svc (end.Module j d) e f = absurd (cc e)
one-end (end.Ap a) end.Svc e f = absurd (cc f)
one-end (end.Ap a) (end.Ap b) e f = ap end.Ap (number-one a b e f)
one-end (end.Ap a) (end.Module j d) e f = absurd (cc e)
one-end (end.Module i c) end.Svc e f = absurd (cc f)
one-end (end.Module i c) (end.Ap b) e f = absurd (cc f)
one-end (end.Module i c) (end.Module j d) e f =
    let p = pair-one i c j d e f in
    ap (λ n. end.Module n c) p.0 ∙ ap (λ n. end.Module j n) p.1

-- ---- the earliest of those that wait

-- the first of some ends, None where there is none
abbrev IsBest : (End → Type 0) → Option End → Type 0
IsBest W None = (a : End) → W a → ⊥
IsBest W (Some e) = W e × ((a : End) → W a → end_before a e ≡ false)

-- one more end, unless it is empty
abbrev pub OneMore : (End → Type 0) → Bool → End → End → Type 0
OneMore W empty at a = ((empty ≡ false) × (a ≡ at)) ⊎ W a

best-more : (W : End → Type 0) (empty : Bool) (at : End) (r : Option End) → IsBest W r
    → IsBest (OneMore W empty at) (earlier empty at r)
best-more W true at None h = λ a w. ⊎_elim (λ p. absurd (true≢false p.0)) (λ v. h a v) w
best-more W true at (Some e) h = (
  inr h.0,
  λ a w. ⊎_elim (λ p. absurd (true≢false p.0)) (λ v. h.1 a v) w,
)
best-more W false at None h = (
  inl (refl, refl),
  λ a w. ⊎_elim (λ p. ap (λ b. end_before b at) p.1 ∙ not-before-self at) (λ v. absurd (h a v)) w,
)
best-more W false at (Some e) h = by (end_before at e) refl
  where
    through : (a : End) → W a → end_before at e ≡ true → (b : Bool) → end_before a at ≡ b
        → end_before a at ≡ false
    through a w t false is = is
    through a w t true is =
        absurd (true≢false (sym (before-through a at e is t) ∙ h.1 a w))

    by : (b : Bool) → end_before at e ≡ b → IsBest (OneMore W false at) (cond b (Some at) (Some e))
    by true t = (
      inl (refl, refl),
      λ a w. ⊎_elim (λ p. ap (λ b. end_before b at) p.1 ∙ not-before-self at)
          (λ v. through a v t (end_before a at) refl) w,
    )
    by false t = (
      inr h.0,
      λ a w. ⊎_elim (λ p. ap (λ b. end_before b e) p.1 ∙ t) (λ v. h.1 a v) w,
    )

-- something waits at an end of a connection
abbrev pub WaitsOn : Connection → End → Type 0
WaitsOn c a =
    (c.wired ≡ true) × (((is_none_left c.to_ap ≡ false) × (a ≡ end.Ap c.ap))
    ⊎ ((is_none_left c.to_far ≡ false) × (a ≡ c.peer)))

-- or of one of them
abbrev pub WaitsIn : List Connection → End → Type 0
WaitsIn [] a = ⊥
WaitsIn (c ∷ cs) a = WaitsOn c a ⊎ WaitsIn cs a

-- the same ends in other words
best-same : (V W : End → Type 0) (r : Option End) → ((a : End) → V a → W a)
    → ((a : End) → W a → V a) → IsBest V r → IsBest W r
best-same V W None to from h = λ a w. h a (from a w)
best-same V W (Some e) to from h = (to e h.0, λ a w. h.1 a (from a w))

best-on : (c : Connection) (W : End → Type 0) (r : Option End) → IsBest W r
    → IsBest (λ a. WaitsOn c a ⊎ W a) (earliest_of c r)
best-on c W r h = by c.wired refl
  where
    by : (w : Bool) → c.wired ≡ w
        → IsBest (λ a. WaitsOn c a ⊎ W a)
        (cond w (earlier (is_none_left c.to_ap) (end.Ap c.ap)
        (earlier (is_none_left c.to_far) c.peer r)) r)
    by true t =
        best-same
        (OneMore (OneMore W (is_none_left c.to_far) c.peer) (is_none_left c.to_ap) (end.Ap c.ap))
        (λ a. WaitsOn c a ⊎ W a)
        (earlier (is_none_left c.to_ap) (end.Ap c.ap)
        (earlier (is_none_left c.to_far) c.peer r))
        (λ a v. ⊎_elim (λ p. inl (t, inl p)) (λ u. ⊎_elim (λ p. inl (t, inr p)) (λ w. inr w) u) v)
        (λ a v. ⊎_elim (λ p. ⊎_elim (λ m. inl m) (λ m. inr (inl m)) p.1) (λ w. inr (inr w)) v)
        (best-more (OneMore W (is_none_left c.to_far) c.peer) (is_none_left c.to_ap) (end.Ap c.ap)
        (earlier (is_none_left c.to_far) c.peer r)
        (best-more W (is_none_left c.to_far) c.peer r h))
    by false t =
        best-same W (λ a. WaitsOn c a ⊎ W a) r (λ a w. inr w)
        (λ a v. ⊎_elim (λ p. absurd (true≢false (sym p.0 ∙ t))) (λ w. w) v) h

best-in : (cs : List Connection) → IsBest (WaitsIn cs) (earliest_in cs)
best-in [] = λ a w. w
best-in (c ∷ cs) = best-on c (WaitsIn cs) (earliest_in cs) (best-in cs)

-- ---- what is marked

left-has : (items : List Item) → is_none_left items ≡ false → has_items items ≡ true
left-has [] e = absurd (true≢false e)
left-has (i ∷ is) e = refl

has-left : (items : List Item) → has_items items ≡ true → is_none_left items ≡ false
has-left [] e = absurd (true≢false (sym e))
has-left (i ∷ is) e = refl

-- an end is marked where something waits on its connection
on-in : (q : List End) (k : ℕ) (x : code.Connection) (a : End) → IsMarked q x
    → WaitsOn (seen k x) a → is_in q a ≡ true
on-in q k x a m w =
    ⊎_elim
    (λ p. ap (is_in q) p.1 ∙ m.near ∙ left-has x.to_ap p.0)
    (λ p. ap (is_in q) p.1 ∙ m.far ∙ left-has x.to_far p.0)
    w.1

marked-in : (q : List End) (es : List (ℕ × code.Connection)) (a : End)
    → EachEntry (λ k x. IsMarked q x) es → WaitsIn (all_seen es) a → is_in q a ≡ true
marked-in q [] a each w = absurd w
marked-in q (e ∷ es) a each w =
    ⊎_elim (λ v. on-in q e.0 e.1 a each.0 v) (λ v. marked-in q es a each.1 v) w

pub in-marked : (live : Live) (ends : Ends) (q : List End) (a : End) → MapsAgree live ends q
    → WaitsIn (all_seen live.entries) a → is_in q a ≡ true
in-marked live ends q a k w =
    marked-in q live.entries a
    (each-entry (λ n x. IsMarked q x) live.entries k.unique k.marked) w

-- something waits on the connection of an end that is marked
in-on : (q : List End) (k : ℕ) (x : code.Connection) (a : End) → IsMarked q x → IsEndOf a x
    → is_in q a ≡ true → WaitsOn (seen k x) a
in-on q k x a m own has = by x.wired refl
  where
    near : a ≡ end.Ap x.ap → has_items x.to_ap ≡ true
    near e = sym m.near ∙ ap (is_in q) (sym e) ∙ has

    far : a ≡ x.peer → has_items x.to_far ≡ true
    far e = sym m.far ∙ ap (is_in q) (sym e) ∙ has

    by : (w : Bool) → x.wired ≡ w → WaitsOn (seen k x) a
    by true wired = (
      wired,
      ⊎_elim (λ e. inl (has-left x.to_ap (near e), e)) (λ e. inr (has-left x.to_far (far e), e))
          own,
    )
    by false loose =
        let i = m.idle loose in
        absurd (⊎_elim (λ e. true≢false (sym (near e) ∙ ap has_items i.0))
        (λ e. true≢false (sym (far e) ∙ ap has_items i.1)) own)

among : (es : List (ℕ × code.Connection)) (n : ℕ) (x : code.Connection) (a : End)
    → lookup (nat_eq n) es ≡ Some x → ((k : ℕ) → WaitsOn (seen k x) a) → WaitsIn (all_seen es) a
among [] n x a l w = absurd (some-none x (sym l))
among (e ∷ es) n x a l w = by (nat_eq n e.0) l (among es n x a)
  where
    by : (b : Bool) → cond b (Some e.1) (lookup (nat_eq n) es) ≡ Some x
        → (lookup (nat_eq n) es ≡ Some x → ((k : ℕ) → WaitsOn (seen k x) a)
        → WaitsIn (all_seen es) a)
        → WaitsIn (all_seen (e ∷ es)) a
    by true m later = inl (subst (λ c. WaitsOn (seen e.0 c) a) (sym (same-some e.1 x m)) (w e.0))
    by false m later = inr (later m w)

pub has-in : (live : Live) (ends : Ends) (q : List End) (a : End) → MapsAgree live ends q
    → is_in q a ≡ true → WaitsIn (all_seen live.entries) a
has-in live ends q a k has = by (number_at ends a) refl (k.owned a has)
  where
    by : (o : Option ℕ) → number_at ends a ≡ o → IsSome o → WaitsIn (all_seen live.entries) a
    by None e some = absurd (cc some)
    by (Some n) e some =
        let h = k.numbered a n e in
        among live.entries n h.connection a h.there
        (λ j. in-on q j h.connection a (k.marked n h.connection h.there) h.own has)

-- the first of the ends where something waits
pub earliest-is : (live : Live) (ends : Ends) (q : List End) (r : Option End)
    → MapsAgree live ends q → IsLeast q r → r ≡ earliest_in (all_seen live.entries)
earliest-is live ends q r k h =
    by r (earliest_in (all_seen live.entries)) h (best-in (all_seen live.entries))
  where
    by : (s t : Option End) → IsLeast q s → IsBest (WaitsIn (all_seen live.entries)) t → s ≡ t
    by None None f b = refl
    by None (Some e) f b = absurd (true≢false (sym (in-marked live ends q e k b.0) ∙ f e))
    by (Some e) None f b = absurd (b e (has-in live ends q e k f.0))
    by (Some e) (Some d) f b =
        ap Some (one-end e d (b.1 e (has-in live ends q e k f.0))
        (later e d f (in-marked live ends q d k b.0) (end_before d e) refl))
      where
        later : (e d : End) → IsLeast q (Some e) → is_in q d ≡ true → (t : Bool)
            → end_before d e ≡ t → end_before d e ≡ false
        later e d f w false is = is
        later e d f w true is =
            absurd (true≢false (sym (settled-before d e is) ∙ f.1 d w))
