-- The facts of the application processor's connections where one of them changes, or an interface.
use Rattle.std.proofs.Common.{Bool, List, Option, Some, ap, arith, refl, subst, sym, true, ℕ}
use Rattle.std.proofs.Common.{⊎_elim, ◌∙◌, ◌≡◌}
use Rattle.std.specs.List.{find}
use Rattle.std.specs.Prelude.{Option, not, ◌&&◌, ◌==◌}
use Rattle.gb_base.specs.declared.entry.ConnState.{ConnState}
use Rattle.gb_base.specs.declared.interface.{Interface.Interface, Link.Link}
use Rattle.gb_base.specs.declared.steps.{Purpose.Purpose, SequenceStep.SequenceStep}
use Rattle.gb_formats.specs.Images.{Images}
use Rattle.gb_machine.specs.Host.{Host, in_state, is_intf, is_link, with_interface, with_link}
use Rattle.gb_machine.specs.{Bus.Bus, Lists.at_first, Lists.without, Members.IsIn}
use Rattle.gb_invariants.proofs.Lists.{at_first-back, found-in, in-without, two-at_first}
use Rattle.gb_invariants.proofs.Lists.{two-filter}
use Rattle.gb_invariants.proofs.Found.{in-first}
use Rattle.gb_laws.proofs.links.Links.{AreOther, DrainsPlain, HasNoControl, HostFits, IsDeaf}
use Rattle.gb_laws.proofs.links.Links.{IsEnumerating, IsLinkBefore, IsNext, IsNumbered, IsPresent}
use Rattle.gb_laws.proofs.links.Links.{IsResting, IsWaiting, LinksFit, SameLink}

pub same-link : (l : Link) → SameLink l l
same-link l = record { connection = refl; ap = refl; intf = refl; cport = refl; protocol = refl }

pub awaits-link : (w : Option (ℕ × SequenceStep)) (l : Link) → SameLink l (record l { awaits = w })
awaits-link w l =
    record { connection = refl; ap = refl; intf = refl; cport = refl; protocol = refl }

pub credits-link : (n : ℕ) (l : Link) → SameLink l (record l { credits = n })
credits-link n l =
    record { connection = refl; ap = refl; intf = refl; cport = refl; protocol = refl }

pub state-link : (to : ConnState) (l : Link) → SameLink l (in_state to l)
state-link to l = record {
  connection = refl;
  ap = refl;
  intf = refl;
  cport = refl;
  protocol = refl;
}

pub then-same : {l k : Link} (j : Link) → SameLink l k → SameLink k j → SameLink l j
then-same j a b = record {
  connection = b.connection ∙ a.connection;
  ap = b.ap ∙ a.ap;
  intf = b.intf ∙ a.intf;
  cport = b.cport ∙ a.cport;
  protocol = b.protocol ∙ a.protocol;
}

-- ---- one connection changes

-- a connection is at the same CPort
same-at : (i c : ℕ) (l k : Link) → SameLink l k → is_link i c k ≡ is_link i c l
same-at i c l k same =
    ap (λ n. (n == i) && (k.cport == c)) same.intf ∙ ap (λ n. (l.intf == i) && (n == c)) same.cport

before-left : (l k x : Link) → SameLink l x → IsLinkBefore l k → IsLinkBefore x k
before-left l k x same h = record {
  number = omega (arith, h.number, same.connection);
  ap = λ e. h.ap (sym same.ap ∙ e);
  apart = ap (λ i. is_link i x.cport k) same.intf ∙ ap (λ c. is_link l.intf c k) same.cport
      ∙ h.apart;
}

before-right : (l k x : Link) → SameLink k x → IsLinkBefore l k → IsLinkBefore l x
before-right l k x same h = record {
  number = omega (arith, h.number, same.connection);
  ap = λ e. h.ap (e ∙ same.ap);
  apart = same-at l.intf l.cport k x same ∙ h.apart;
}

-- What a change keeps of a connection.
pub record KeepsLink (f : Link → Link) (l : Link) : Type 0 where
  pub waiting : IsWaiting l → IsWaiting (f l)
  pub deaf : IsDeaf l → IsDeaf (f l)
  pub draining : DrainsPlain l → DrainsPlain (f l)

-- it keeps that of the connection of a CPort
abbrev pub KeepsAt : ℕ → ℕ → (Link → Link) → List Link → Type 0
KeepsAt i c f ls = (l : Link) → find (is_link i c) ls ≡ Some l → KeepsLink f l

-- the connection of a CPort changes, and is what it was in what never changes
links-changed : (b : Bus) (ls : List Link) (i c : ℕ) (f : Link → Link)
    → ((l : Link) → SameLink l (f l)) → KeepsAt i c f ls → LinksFit b ls
    → LinksFit b (at_first (is_link i c) f ls)
links-changed b ls i c f same keeps h = record {
  rise = two-at_first IsLinkBefore (is_link i c) f ls (λ l k r. before-left l k (f l) (same l) r)
      (λ l k r. before-right l k (f k) (same k) r) h.rise;
  numbered = λ l j. ⊎_elim (λ o. h.numbered l o)
      (λ w. let n = h.numbered w.0 w.1 in let s = same w.0 in subst (IsNumbered b.made) (sym w.3)
      (record {
        from_two = omega (arith, n.from_two, s.connection);
        given = omega (arith, n.given, s.connection);
        from_one = omega (arith, n.from_one, s.ap);
        within = omega (arith, n.within, s.ap);
        cport = omega (arith, n.cport, s.cport);
      })) (in-first (is_link i c) f ls l j);
  waiting = λ l j. ⊎_elim (λ o. h.waiting l o)
      (λ w. subst IsWaiting (sym w.3) ((keeps w.0 w.2).waiting (h.waiting w.0 w.1)))
      (in-first (is_link i c) f ls l j);
  deaf = λ l x j live on shut. ⊎_elim (λ o. h.deaf l x o live on shut)
      (λ w. subst IsDeaf (sym w.3) ((keeps w.0 w.2).deaf
      (h.deaf w.0 x w.1 live (on ∙ ap (λ (y : Link). y.connection) w.3 ∙ (same w.0).connection)
      shut))) (in-first (is_link i c) f ls l j);
  draining = λ l j. ⊎_elim (λ o. h.draining l o)
      (λ w. subst DrainsPlain (sym w.3) ((keeps w.0 w.2).draining (h.draining w.0 w.1)))
      (in-first (is_link i c) f ls l j);
}

-- what of connections stays where one changes
abbrev pub Stay : List Link → List Link → Type 0
Stay ls after = (l : Link) → IsIn l ls → (k : Link) × IsIn k after × SameLink l k

pub stay-same : (ls : List Link) → Stay ls ls
stay-same ls l i = (l, i, same-link l)

pub stay-changed : (ls : List Link) (i c : ℕ) (f : Link → Link) → ((l : Link) → SameLink l (f l))
    → Stay ls (at_first (is_link i c) f ls)
stay-changed ls i c f same l j =
    ⊎_elim (λ o. (l, o, same-link l)) (λ w. (f l, w, same l)) (at_first-back (is_link i c) f ls l j)

-- each connection comes from one of these, and takes nothing where that doesn't
abbrev pub ComeFrom : List Link → List Link → Type 0
ComeFrom ls after = (l : Link) → IsIn l after
    → (k : Link) × IsIn k ls × SameLink k l × (IsDeaf k → IsDeaf l)

pub come-same : (ls : List Link) → ComeFrom ls ls
come-same ls l i = (l, i, same-link l, λ d. d)

pub come-then : (ls ks js : List Link) → ComeFrom ls ks → ComeFrom ks js → ComeFrom ls js
come-then ls ks js a b l i =
    let k = b l i in
    let j = a k.0 k.1 in (j.0, j.1, then-same l j.2 k.2, λ d. k.3 (j.3 d))

pub come-changed : (ls : List Link) (i c : ℕ) (f : Link → Link) → ((l : Link) → SameLink l (f l))
    → KeepsAt i c f ls → ComeFrom ls (at_first (is_link i c) f ls)
come-changed ls i c f same keeps l j = ⊎_elim (λ o. (l, o, same-link l, λ d. d)) (λ w. (
  w.0,
  w.1,
  subst (SameLink w.0) (sym w.3) (same w.0),
  λ d. subst IsDeaf (sym w.3) ((keeps w.0 w.2).deaf d),
)) (in-first (is_link i c) f ls l j)

none-changed : (j : ℕ) (ls : List Link) (i c : ℕ) (f : Link → Link)
    → ((l : Link) → SameLink l (f l)) → HasNoControl j ls
    → HasNoControl j (at_first (is_link i c) f ls)
none-changed j ls i c f same none l k =
    ⊎_elim (λ o. none l o) (λ w. ap (is_link j 0) w.3 ∙ same-at j 0 w.0 (f w.0) (same w.0)
    ∙ none w.0 w.1) (in-first (is_link i c) f ls l k)

pub host-link : {b : Bus} {h : Host} (i c : ℕ) (f : Link → Link) → ((l : Link) → SameLink l (f l))
    → KeepsAt i c f h.links → HostFits b h → HostFits b (with_link i c f h)
host-link {b} {h} i c f same keeps fits = record {
  links = links-changed b h.links i c f same keeps fits.links;
  interfaces = λ x j w e. let old = fits.interfaces x j w e in
      (old.0, λ early. none-changed x.intf h.links i c f same (old.1 early));
  differ = fits.differ;
  present = λ l j. ⊎_elim (λ o. fits.present l o) (λ w. subst (λ n. IsPresent n h.interfaces)
      (sym (ap (λ (x : Link). x.intf) w.3 ∙ (same w.0).intf)) (fits.present w.0 w.1))
      (in-first (is_link i c) f h.links l j);
}

-- ---- images change

pub host-images : {b : Bus} {h : Host} (x : Images) → HostFits b h
    → HostFits b (record h { images = x })
host-images x fits = record {
  links = fits.links;
  interfaces = fits.interfaces;
  differ = fits.differ;
  present = fits.present;
}

-- ---- one interface changes

pub present-changed : {i : ℕ} (j : ℕ) (f : Interface → Interface) {xs : List Interface}
    → ((x : Interface) → (f x).intf ≡ x.intf)
    → IsPresent i xs → IsPresent i (at_first (is_intf j) f xs)
present-changed j f {xs} same p =
    ⊎_elim (λ o. record { interface = p.interface; known = o; is = p.is })
    (λ w. record { interface = f p.interface; known = w; is = same p.interface ∙ p.is })
    (at_first-back (is_intf j) f xs p.interface p.known)

pub resting-changed : (i j : ℕ) (f : Interface → Interface) (xs : List Interface)
    → ((x : Interface) → (f x).intf ≡ x.intf)
    → ((x : Interface) → (f x).awaits ≡ x.awaits) → IsResting i xs
    → IsResting i (at_first (is_intf j) f xs)
resting-changed i j f xs same waits h x k e =
    ⊎_elim (λ o. h x o e) (λ w. ap (λ (y : Interface). y.awaits) w.3 ∙ waits w.0
    ∙ h w.0 w.1 (sym (same w.0) ∙ sym (ap (λ (y : Interface). y.intf) w.3) ∙ e))
    (in-first (is_intf j) f xs x k)

pub host-interface : {b : Bus} (i : ℕ) (f : Interface → Interface) {h : Host}
    → ((x : Interface) → (f x).intf ≡ x.intf)
    → ((x : Interface) → IsIn x h.interfaces → is_intf i x ≡ true → IsEnumerating h.links x
    → IsEnumerating h.links (f x)) → HostFits b h → HostFits b (with_interface i f h)
host-interface i f {h} same enumerating fits = record {
  links = fits.links;
  interfaces = λ x j. ⊎_elim (λ o. fits.interfaces x o)
      (λ w. subst (IsEnumerating h.links) (sym w.3)
      (enumerating w.0 w.1 (found-in (is_intf i) h.interfaces w.0 w.2).1 (fits.interfaces w.0 w.1)))
      (in-first (is_intf i) f h.interfaces x j);
  differ = two-at_first AreOther (is_intf i) f h.interfaces (λ x y r e. r (sym (same x) ∙ e))
      (λ x y r e. r (e ∙ same y)) fits.differ;
  present = λ l j. present-changed i f same (fits.present l j);
}

-- ---- steps of an enumeration that are due

pub next-interface : {step : SequenceStep} {p : Purpose} (h : Host) (j : ℕ)
    (f : Interface → Interface) → ((x : Interface) → (f x).intf ≡ x.intf)
    → ((x : Interface) → (f x).awaits ≡ x.awaits) → IsNext step p h
    → IsNext step p (with_interface j f h)
next-interface {p} h j f same waits n = record {
  cport = n.cport;
  none = n.none;
  idle = resting-changed p.intf j f h.interfaces same waits n.idle;
  present = present-changed j f same n.present;
}

-- ---- connections without some

links-without : (b : Bus) (test : Link → Bool) {ls : List Link} → LinksFit b ls
    → LinksFit b (without test ls)
links-without b test {ls} h = record {
  rise = two-filter IsLinkBefore (λ l. not (test l)) ls h.rise;
  numbered = λ l i. h.numbered l (in-without test ls l i).0;
  waiting = λ l i. h.waiting l (in-without test ls l i).0;
  deaf = λ l c i. h.deaf l c (in-without test ls l i).0;
  draining = λ l i. h.draining l (in-without test ls l i).0;
}

none-without : (i : ℕ) (test : Link → Bool) (ls : List Link) → HasNoControl i ls
    → HasNoControl i (without test ls)
none-without i test ls none l j = none l (in-without test ls l j).0

pub come-without : (test : Link → Bool) (ls : List Link) → ComeFrom ls (without test ls)
come-without test ls l j = (l, (in-without test ls l j).0, same-link l, λ d. d)

pub host-without : {b : Bus} {h : Host} (test : Link → Bool) → HostFits b h
    → HostFits b (record h { links = without test h.links })
host-without {b} {h} test fits = record {
  links = links-without b test fits.links;
  interfaces = λ x i w e. let old = fits.interfaces x i w e in
      (old.0, λ early. none-without x.intf test h.links (old.1 early));
  differ = fits.differ;
  present = λ l i. fits.present l (in-without test h.links l i).0;
}
