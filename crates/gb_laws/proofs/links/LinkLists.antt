-- Laws of lists of the application processor's connections.
use Rattle.std.proofs.Common.{Bool, List, None, Option, Some, ap, arith, cond, false, inl, inr}
use Rattle.std.proofs.Common.{refl, sym, true, ℕ, ⊎_elim, [], ◌<◌, ◌∙◌, ◌∷◌, ◌≡◌}
use Rattle.std.proofs.lemmas.Bool.Decides.{nat_tests}
use Rattle.std.specs.List.{find}
use Rattle.std.specs.Prelude.{option_map, ◌==◌}
use Rattle.gb_base.specs.declared.interface.{Interface.Interface, Link.Link}
use Rattle.gb_base.specs.declared.steps.{Purpose.Purpose, SequenceStep.SequenceStep}
use Rattle.gb_machine.specs.Host.{Host, control_of, is_intf, is_link, link_at}
use Rattle.gb_machine.specs.{Lists.at_first, Lists.in_order, Members.EachTwo, Members.IsIn}
use Rattle.gb_machine.specs.{SequenceSteps.asks_control, Sequences.way_of}
use Rattle.gb_machine.specs.{SequenceSteps.is_enumeration, Waits.waiting}
use Rattle.gb_invariants.proofs.HostChanges.{link_awaits, waiting-by}
use Rattle.gb_invariants.proofs.Lists.{each-from, each-in, found-in}
use Rattle.gb_invariants.proofs.Outcomes.{both-true, is-same, same-number}
use Rattle.gb_invariants.proofs.{Awaiting.not-both, Awaiting.same-some, Found.in-ordered}
pub use Rattle.gb_invariants.proofs.Found.{find-changed}
use Rattle.gb_laws.proofs.links.Links.{AreOther, IsLinkBefore}

-- ---- connections

-- a connection is the one of a CPort
pub link-is : (i c : ℕ) (l : Link) → is_link i c l ≡ true → (l.intf ≡ i) × (l.cport ≡ c)
link-is i c l h = let p = both-true (l.intf == i) (l.cport == c) h in
    (same-number l.intf i p.0, same-number l.cport c p.1)

-- so is one that is found there
pub found-its : (i c : ℕ) (ls : List Link) (l : Link) → find (is_link i c) ls ≡ Some l
    → IsIn l ls × (l.intf ≡ i) × (l.cport ≡ c)
found-its i c ls l e =
    let f = found-in (is_link i c) ls l e in let at = link-is i c l f.1 in (f.0, at.0, at.1)

pub is-link : (i c : ℕ) (l : Link) → l.intf ≡ i → l.cport ≡ c → is_link i c l ≡ true
is-link i c l e f = grind (arith, nat_tests)

-- connections with one number are one
pub one-link : (ls : List Link) (l k : Link) → EachTwo IsLinkBefore ls → IsIn l ls → IsIn k ls
    → l.connection ≡ k.connection → l ≡ k
one-link [] l k rise i j e = absurd i
one-link (x ∷ xs) l k rise (inl i) (inl j) e = i ∙ sym j
one-link (x ∷ xs) l k rise (inl i) (inr j) e =
    let low = (each-in (IsLinkBefore x) xs k rise.0 j).number in
    absurd (omega (arith, low, e, ap (λ (y : Link). y.connection) i))
one-link (x ∷ xs) l k rise (inr i) (inl j) e =
    let low = (each-in (IsLinkBefore x) xs l rise.0 i).number in
    absurd (omega (arith, low, e, ap (λ (y : Link). y.connection) j))
one-link (x ∷ xs) l k rise (inr i) (inr j) e = one-link xs l k rise.1 i j e

-- a connection is found by its number
pub found-link : (ls : List Link) (l : Link) → EachTwo IsLinkBefore ls → IsIn l ls
    → find (λ k. k.connection == l.connection) ls ≡ Some l
found-link [] l rise i = absurd i
found-link (x ∷ xs) l rise (inl i) =
    ap (λ b. cond b (Some x) (find (λ k. k.connection == l.connection) xs))
    (ap (λ (y : Link). x.connection == y.connection) i ∙ is-same x.connection) ∙ ap Some (sym i)
found-link (x ∷ xs) l rise (inr i) =
    let low : x.connection < l.connection = (each-in (IsLinkBefore x) xs l rise.0 i).number in
    let other : (x.connection == l.connection) ≡ false = grind (arith, nat_tests) in
    ap (λ b. cond b (Some x) (find (λ k. k.connection == l.connection) xs)) other
    ∙ found-link xs l rise.1 i

-- a connection is found by its CPort
pub found-at : (ls : List Link) (l : Link) → EachTwo IsLinkBefore ls → IsIn l ls
    → find (is_link l.intf l.cport) ls ≡ Some l
found-at [] l rise i = absurd i
found-at (x ∷ xs) l rise (inl i) =
    ap (λ b. cond b (Some x) (find (is_link l.intf l.cport) xs))
    (is-link l.intf l.cport x (sym (ap (λ (y : Link). y.intf) i))
    (sym (ap (λ (y : Link). y.cport) i))) ∙ ap Some (sym i)
found-at (x ∷ xs) l rise (inr i) =
    ap (λ b. cond b (Some x) (find (is_link l.intf l.cport) xs))
    (by (is_link l.intf l.cport x) refl) ∙ found-at xs l rise.1 i
  where
    by : (b : Bool) → is_link l.intf l.cport x ≡ b → b ≡ false
    by false e = refl
    by true e =
        let p = link-is l.intf l.cport x e in
        let is = is-link x.intf x.cport l (sym p.0) (sym p.1) in
        absurd (not-both (is_link x.intf x.cport l) is
        (each-in (IsLinkBefore x) xs l rise.0 i).apart)

-- from where it is
pub found-there : (ls : List Link) (l : Link) {i c : ℕ} → EachTwo IsLinkBefore ls → IsIn l ls
    → l.intf ≡ i → l.cport ≡ c → find (is_link i c) ls ≡ Some l
found-there ls l {i} rise known intf cport = sym (ap (λ n. find (is_link n l.cport) ls) intf
    ∙ ap (λ n. find (is_link i n) ls) cport) ∙ found-at ls l rise known

-- and so is the one that a sequence waits at
pub found-waiting : (w : Option (ℕ × SequenceStep)) (p : Purpose) (h : Host) (l : Link)
    → is_enumeration p.step ≡ false → link_at p.intf p.cport h ≡ Some l
    → link_at p.intf p.cport (waiting w p h) ≡ Some (link_awaits w l)
found-waiting w p h l other found =
    waiting-by (λ g. link_at p.intf p.cport g ≡ Some (link_awaits w l)) w p h
    (λ e. absurd (not-both (is_enumeration p.step) e other))
    (λ e. find-changed (is_link p.intf p.cport) (link_awaits w) h.links (λ x. refl)
    ∙ ap (option_map (link_awaits w)) found)

-- The request of a step to a module's Control goes on its Control connection.
pub on-control : (p : Purpose) (h : Host) (k : ℕ) → way_of p h ≡ Some k → asks_control p.step ≡ true
    → (l : Link) × IsIn l h.links × (l.connection ≡ k) × (l.cport ≡ 0)
on-control p h k way own = at (link_at p.intf 0 h) refl
    (sym (ap (λ c. cond c (control_of p.intf h) (Some 1)) own) ∙ way)
  where
    at : (o : Option Link) → link_at p.intf 0 h ≡ o
        → option_map (λ (l : Link). l.connection) o ≡ Some k
        → (l : Link) × IsIn l h.links × (l.connection ≡ k) × (l.cport ≡ 0)
    at None e f = absurd cc
    at (Some l) e f =
        let i = found-its p.intf 0 h.links l e in (l, i.0, same-some l.connection k f, i.2)

-- ---- interfaces

-- what is changed of an interface is all that there is of it
pub in-only : (i : ℕ) (f : Interface → Interface) (xs : List Interface) (x : Interface)
    → EachTwo AreOther xs
    → IsIn x (at_first (is_intf i) f xs) → x.intf ≡ i → (y : Interface) × IsIn y xs × (x ≡ f y)
in-only i f [] x differ j e = absurd j
in-only i f (y ∷ ys) x differ j e = by (is_intf i y) refl j (in-only i f ys x differ.1)
  where
    by : (t : Bool) → is_intf i y ≡ t → IsIn x (cond t (f y ∷ ys) (y ∷ at_first (is_intf i) f ys))
        → (IsIn x (at_first (is_intf i) f ys) → x.intf ≡ i → (z : Interface) × IsIn z ys
        × (x ≡ f z)) → (z : Interface) × IsIn z (y ∷ ys) × (x ≡ f z)
    by true is (inl k) rec = (y, inl refl, k)
    by true is (inr k) rec =
        absurd (each-in (AreOther y) ys x differ.0 k (same-number y.intf i is ∙ sym e))
    by false is (inl k) rec =
        absurd (not-both (y.intf == i) (ap (λ n. n == i)
        (sym (ap (λ (z : Interface). z.intf) k) ∙ e) ∙ is-same i) is)
    by false is (inr k) rec = let r = rec k e in (r.0, inr r.1, r.2)

-- a member more, in its order
pub ordered-in : {A : Type 0} (before : A → A → Bool) (y : A) (ys : List A)
    → IsIn y (in_order before y ys)
ordered-in before y [] = inl refl
ordered-in before y (z ∷ zs) = by (before y z) (ordered-in before y zs)
  where
    by : (t : Bool) → IsIn y (in_order before y zs)
        → IsIn y (cond t (y ∷ z ∷ zs) (z ∷ in_order before y zs))
    by true j = inl refl
    by false j = inr j

pub ordered-stays : {A : Type 0} (before : A → A → Bool) (x y : A) (ys : List A)
    → IsIn x ys → IsIn x (in_order before y ys)
ordered-stays before x y [] i = absurd i
ordered-stays before x y (z ∷ zs) i = by (before y z) i (ordered-stays before x y zs)
  where
    by : (t : Bool) → IsIn x (z ∷ zs) → (IsIn x zs → IsIn x (in_order before y zs))
        → IsIn x (cond t (y ∷ z ∷ zs) (z ∷ in_order before y zs))
    by true j rec = inr j
    by false (inl e) rec = inl e
    by false (inr j) rec = inr (rec j)

pub ordered-differ : (before : Interface → Interface → Bool) (y : Interface) (ys : List Interface)
    → ((x : Interface) → IsIn x ys → AreOther y x)
    → EachTwo AreOther ys → EachTwo AreOther (in_order before y ys)
ordered-differ before y [] other differ = (tt, tt)
ordered-differ before y (z ∷ zs) other differ =
    by (before y z) (ordered-differ before y zs (λ x i. other x (inr i)) differ.1)
  where
    by : (t : Bool) → EachTwo AreOther (in_order before y zs)
        → EachTwo AreOther (cond t (y ∷ z ∷ zs) (z ∷ in_order before y zs))
    by true rec = (each-from (AreOther y) (z ∷ zs) other, differ)
    by false rec = (
      each-from (AreOther z) (in_order before y zs)
          (λ x i. ⊎_elim (λ e k. other z (inl refl) (sym (k ∙ ap (λ (v : Interface). v.intf) e)))
          (λ j. each-in (AreOther z) zs x differ.0 j) (in-ordered before x y zs i)),
      rec,
    )
