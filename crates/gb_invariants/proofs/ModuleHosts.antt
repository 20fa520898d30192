-- What the application processor knows once a module was inserted or removed.
use Rattle.std.proofs.Common.{List, None, Option, Some, ap, false, inl, inr, map, refl, sym, true}
use Rattle.std.proofs.Common.{ℕ}
use Rattle.std.proofs.Common.{arith, [], ◌∙◌, ◌∷◌, ◌≡◌, ◌≢◌}
use Rattle.std.proofs.lemmas.Bool.Decides.{nat_tests}
use Rattle.std.specs.List.{filter}
use Rattle.std.specs.Prelude.{not, ◌==◌}
use Rattle.gb_base.specs.declared.host_event.HostEvent.TheVariants as host_event
use Rattle.gb_base.specs.declared.interface.{Interface.Interface}
use Rattle.gb_machine.proofs.Opened.{machine_opened}
use Rattle.gb_machine.specs.Actions.{Told, each}
use Rattle.gb_machine.specs.Host.{Host, has_primary, interface_of, interfaces_of, intf_before}
use Rattle.gb_machine.specs.Host.{is_intf}
use Rattle.gb_machine.specs.Host.{new_interface, with_new_interface}
use Rattle.gb_machine.specs.HostActs.{notices}
use Rattle.gb_machine.specs.HostTurns.{host_removed, one_by_one, without_interface}
use Rattle.gb_machine.specs.Members.{Each, EachTwo, IsIn}
use Rattle.gb_machine.specs.State.{State}
use Rattle.gb_invariants.proofs.Found.{find-aside, find-filter, find-none, find-ordered, none-of}
use Rattle.gb_invariants.proofs.HostChanges.{AsksNone, acts_by, at_insertion, at_removal}
use Rattle.gb_invariants.proofs.HostChanges.{changes-ask, departs}
use Rattle.gb_invariants.proofs.Lists.{each-append, filter-in, found-in, in-filter, one-by}
use Rattle.gb_invariants.proofs.ModuleTurns.{inserted-host, removed-each, removed-host}
use Rattle.gb_invariants.proofs.ModuleTurns.{takes_notice}
use Rattle.gb_invariants.proofs.{Awaiting.not-both, Outcomes.is-same, Outcomes.same-number}

-- ---- an insertion

-- What is known of other interfaces stays.
pub inserted-others : (p i j : ℕ) (s : State) → (i == j) ≡ false
    → interface_of j (takes_notice (at_insertion p i) s).state.host ≡ interface_of j s.host
inserted-others p i j s other =
    let r = inserted-host p i s in
    ap (interface_of j) r.3
    ∙ find-aside (is_intf j) (is_intf i) r.0 (with_new_interface p i s.host).interfaces
    (λ x e. let of = apart x.intf e in (of, ap (λ n. n == j) (r.1 x) ∙ of))
    ∙ find-ordered (is_intf j) intf_before (new_interface p i) s.host.interfaces other
  where
    apart : (n : ℕ) → (n == i) ≡ true → (n == j) ≡ false
    apart n e = grind (arith, nat_tests, e, other)

-- ---- a removal

-- the application processor without these interfaces and their connections
abbrev pub without_all : List ℕ → Host → Host
without_all [] h = h
without_all (i ∷ is) h = without_all is (without_interface i h)

removed-all : (is : List ℕ) (s : State)
    → (each is (λ i. takes_notice (at_removal i)) s).state.host ≡ without_all is s.host
unfolding machine_opened
removed-all [] s = refl
removed-all (i ∷ is) s =
    removed-all is (takes_notice (at_removal i) s).state ∙ ap (without_all is) (removed-host i s)

-- Once a module is removed, the application processor is without its interfaces.
pub module-removed : (p : ℕ) (s : State) → (notices (host_event.Removed p) s).state.host
    ≡ without_all (interfaces_of p s.host) s.host
module-removed p s = ap (λ (r : Told). r.state.host) (removed-each p s)
    ∙ removed-all (interfaces_of p s.host) s

absent-still : (i : ℕ) (is : List ℕ) (h : Host) → interface_of i h ≡ None
    → interface_of i (without_all is h) ≡ None
absent-still i [] h none = none
absent-still i (j ∷ js) h none = absent-still i js (without_interface j h)
    (find-filter (is_intf i) (λ x. not (is_intf j x)) h.interfaces none)

-- Each of them is absent.
pub all-absent : (i : ℕ) (is : List ℕ) (h : Host) → IsIn i is
    → interface_of i (without_all is h) ≡ None
all-absent i [] h k = absurd k
all-absent i (j ∷ js) h (inl e) = absent-still i js (without_interface j h)
    (ap (λ n. interface_of i (without_interface n h)) (sym e)
    ∙ none-of (is_intf i) h.interfaces)
all-absent i (j ∷ js) h (inr k) = all-absent i js (without_interface j h) k

-- A removal asks for nothing.
pub removed-acts : (is : List ℕ) (h : Host)
    → Each AsksNone (one_by_one host_removed is h).acts
removed-acts [] h = tt
removed-acts (i ∷ is) h = each-append AsksNone (host_removed i h).acts
    (one_by_one host_removed is (without_interface i h)).acts
    (each-append AsksNone (acts_by (departs i) h) (_ ∷ []) (changes-ask (departs i) h) (tt, tt))
    (removed-acts is (without_interface i h))

-- ---- the interfaces of a module

-- two interfaces differ
abbrev Differ : Interface → Interface → Type 0
Differ x y = x.intf ≢ y.intf

-- one of them is known with the module's primary interface
pub of-module : (p i : ℕ) (h : Host) → EachTwo Differ h.interfaces → IsIn i (interfaces_of p h)
    → (x : Interface) × (interface_of i h ≡ Some x) × (x.primary ≡ p)
of-module p i h differ k = by (interface_of i h) refl
  where
    found : (xs : List Interface) → IsIn i (map (λ (x : Interface). x.intf) xs)
        → (x : Interface) × IsIn x xs × (x.intf ≡ i)
    found [] j = absurd j
    found (x ∷ xs) (inl e) = (x, inl refl, sym e)
    found (x ∷ xs) (inr j) = let r = found xs j in (r.0, inr r.1, r.2)

    w : (x : Interface) × IsIn x (filter (has_primary p) h.interfaces) × (x.intf ≡ i)
    w = found (filter (has_primary p) h.interfaces) k

    of : IsIn w.0 h.interfaces × (has_primary p w.0 ≡ true)
    of = in-filter (has_primary p) h.interfaces w.0 w.1

    by : (o : Option Interface) → interface_of i h ≡ o
        → (x : Interface) × (o ≡ Some x) × (x.primary ≡ p)
    by None e = absurd (not-both (w.0.intf == i) (ap (λ n. n == i) w.2 ∙ is-same i)
        (find-none (is_intf i) h.interfaces w.0 e of.0))
    by (Some x) e =
        let f = found-in (is_intf i) h.interfaces x e in
        let same = one-by (λ (y : Interface). y.intf) h.interfaces x w.0 differ f.0 of.0
        (same-number x.intf i f.1 ∙ sym w.2) in
        (x, refl, ap (λ (y : Interface). y.primary) same ∙ same-number w.0.primary p of.1)

-- and one that is known so is one of them
pub in-module : (p i : ℕ) (h : Host) (x : Interface) → interface_of i h ≡ Some x → x.primary ≡ p
    → IsIn i (interfaces_of p h)
in-module p i h x e of =
    let f = found-in (is_intf i) h.interfaces x e in
    mapped (filter (has_primary p) h.interfaces)
    (filter-in (has_primary p) h.interfaces x f.0 (ap (λ n. n == p) of ∙ is-same p))
    (same-number x.intf i f.1)
  where
    mapped : (xs : List Interface) → IsIn x xs → x.intf ≡ i
        → IsIn i (map (λ (y : Interface). y.intf) xs)
    mapped [] j at = absurd j
    mapped (y ∷ ys) (inl g) at = inl (sym at ∙ ap (λ (z : Interface). z.intf) g)
    mapped (y ∷ ys) (inr j) at = inr (mapped ys j at)
