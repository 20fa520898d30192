-- Which interfaces are known, each with its module, where the application processor does something.
use Rattle.std.proofs.Common.{Bool, List, None, Option, Some, ap, cond, false, inl, inr, refl}
use Rattle.std.proofs.Common.{subst, sym, true, ℕ, ⊎_elim, ◌∙◌, ◌≡◌, ◌⊎◌}
use Rattle.gb_base.specs.declared.interface.Interface.{Interface}
use Rattle.gb_base.specs.declared.interface.Link.{Link}
use Rattle.gb_base.specs.declared.steps.Purpose.{Purpose}
use Rattle.gb_base.specs.declared.steps.SequenceStep.{SequenceStep}
use Rattle.gb_base.specs.declared.entry.IntfStage.TheVariants as stage
use Rattle.gb_machine.specs.Host.{Host, intf_before, is_intf, new_interface, staged, with_interface}
use Rattle.gb_machine.specs.Sequences.{enumerated}
use Rattle.gb_machine.specs.{HostActs.made_for, HostActs.with_awaited, Host.link_at, Members.IsIn}
use Rattle.gb_machine.specs.{Failures.unsent, HostServing.host_serves}
use Rattle.gb_machine.specs.{SequenceSteps.is_for_connection, State.State, Waits.awaits}
use Rattle.gb_machine.specs.{Waits.waiting}
use Rattle.gb_invariants.proofs.HostChanges.{interface_awaits, waiting-by}
use Rattle.gb_invariants.proofs.HostChanges.{Finds, HostChange, HostEnd, IsFor, IsLast, Notice}
use Rattle.gb_invariants.proofs.HostChanges.{Occasion, TurnLaw, at_insertion, at_notice, at_unsent}
use Rattle.gb_invariants.proofs.HostChanges.{end_of, host_after, turn_of}
use Rattle.gb_invariants.proofs.Lists.{in-at_first, in-without}
use Rattle.gb_invariants.proofs.{Found.in-ordered, OverTurns.over-turn, OverFailures.over-unsent}
use Rattle.gb_laws.proofs.links.LinkActs.{ServedHost, as_before, host-served, with_images}
use Rattle.gb_laws.proofs.links.LinkActs.{with_more}

-- an interface of a module is known
pub record IsNamed (i p : ℕ) (h : Host) : Type 0 where
  pub interface : Interface
  pub known : IsIn interface h.interfaces
  pub intf : interface.intf ≡ i
  pub primary : interface.primary ≡ p

pub named-one : (h : Host) (x : Interface) → IsIn x h.interfaces → IsNamed x.intf x.primary h
named-one h x i = record { interface = x; known = i; intf = refl; primary = refl }

-- no more interfaces are known than before, each of the same module
abbrev pub NamesFewer : Host → Host → Type 0
NamesFewer h g = (x : Interface) → IsIn x g.interfaces → IsNamed x.intf x.primary h

-- ---- single changes

pub fewer-with : (i : ℕ) (f : Interface → Interface) (h : Host)
    → ((x : Interface) → (f x).intf ≡ x.intf) → ((x : Interface) → (f x).primary ≡ x.primary)
    → NamesFewer h (with_interface i f h)
fewer-with i f h intf primary x k = ⊎_elim (λ o. named-one h x o)
    (λ w. record {
      interface = w.0;
      known = w.1;
      intf = sym (ap (λ (y : Interface). y.intf) w.3 ∙ intf w.0);
      primary = sym (ap (λ (y : Interface). y.primary) w.3 ∙ primary w.0);
    }) (in-at_first (is_intf i) f h.interfaces x k)

fewer-waiting : (w : Option (ℕ × SequenceStep)) (p : Purpose) (h : Host)
    → NamesFewer h (waiting w p h)
fewer-waiting w p h = waiting-by (NamesFewer h) w p h
    (λ e. fewer-with p.intf (interface_awaits w) h (λ x. refl) (λ x. refl)) (λ e. named-one h)

-- what an occasion makes known
abbrev pub IsNew : Occasion → ℕ → ℕ → Type 0
IsNew (at_notice x before) i p = x ≡ at_insertion p i
IsNew (at_unsent q before) i p = ⊥

-- an interface was known, or is inserted on this occasion
abbrev pub WasNamed : Occasion → ℕ → ℕ → Host → Type 0
WasNamed o i p h = IsNamed i p h ⊎ IsNew o i p

-- ---- turns

module _ (o : Occasion) where
  change-named : (x : HostChange) (h : Host) → Finds h x → IsFor o h x → (y : Interface)
      → IsIn y (host_after x h).interfaces → WasNamed o y.intf y.primary h
  change-named (HostChange.arrives p i) h finds why y k = ⊎_elim
      (λ e. inr (new o why e)) (λ old. inl (named-one h y old))
      (in-ordered intf_before y (new_interface p i) h.interfaces k)
    where
      new : (o : Occasion) → IsFor o h (HostChange.arrives p i) → y ≡ new_interface p i
          → IsNew o y.intf y.primary
      new (at_notice x before) why e = why.0
          ∙ ap (λ (z : Interface). at_insertion z.primary z.intf) (sym e)
      new (at_unsent q before) why e = why
  change-named (HostChange.departs i) h finds why y k =
      inl (named-one h y (in-without (is_intf i) h.interfaces y k).0)
  change-named (HostChange.resumes p) h finds why y k = inl (fewer-waiting None p h y k)
  change-named (HostChange.updates i f) h finds why y k =
      inl (fewer-with i f h finds.intf finds.primary y k)
  change-named (HostChange.fails i) h finds why y k =
      inl (fewer-with i (staged stage.Failed) h (λ x. refl) (λ x. refl) y k)
  change-named _ h finds why y k = inl (named-one h y k)

  abbrev named_law : TurnLaw o
  named_law = record {
    says = λ h t. (y : Interface) → IsIn y t.host.interfaces → WasNamed o y.intf y.primary h;
    ends = ends;
    over = λ x h t finds why says y k. ⊎_elim
        (λ n. back x h finds why y n) (λ n. inr n) (says y k);
  }
    where
      ends : (x : HostEnd) (h : Host) → IsLast o h x → (y : Interface)
          → IsIn y (end_of x h).host.interfaces → WasNamed o y.intf y.primary h
      ends (HostEnd.enumerates p bytes) h last y k =
          inl (fewer-with p.intf (enumerated bytes) h (λ x. refl) (λ x. refl) y k)
      ends _ h last y k = inl (named-one h y k)

      back : (x : HostChange) (h : Host) → Finds h x → IsFor o h x → (y : Interface)
          → IsNamed y.intf y.primary (host_after x h) → WasNamed o y.intf y.primary h
      back x h finds why y n = subst (λ p. WasNamed o y.intf p h) n.primary
          (subst (λ i. WasNamed o i n.interface.primary h) n.intf
          (change-named x h finds why n.interface n.known))

-- What is known behind a turn was known, or is inserted in it.
pub turn-named : (x : Notice) (h : Host) (y : Interface)
    → IsIn y (turn_of x h).host.interfaces
    → IsNamed y.intf y.primary h ⊎ (x ≡ at_insertion y.primary y.intf)
turn-named x h = over-turn x h (named_law (at_notice x h))

-- ---- what else the application processor does

-- where a request can't be made
pub unsent-named : (p : Purpose) (h : Host) → NamesFewer h (unsent p h).host
unsent-named p h y k =
    ⊎_elim (λ n. n) (λ n. absurd n) (over-unsent p h (named_law (at_unsent p h)) y k)

-- where a sequence waits for a request
pub awaited-named : (p : Purpose) (n : ℕ) (s : State) → NamesFewer s.host (with_awaited p n s).host
awaited-named p n s = by (is_for_connection p.step) (link_at p.intf p.cport (awaits p n s.host))
  where
    by : (t : Bool) (o : Option Link) → NamesFewer s.host
        (cond t (made_for n o (record s { host = awaits p n s.host }))
        (record s { host = awaits p n s.host })).host
    by true None = fewer-waiting (Some (n, p.step)) p s.host
    by true (Some l) = fewer-waiting (Some (n, p.step)) p s.host
    by false o = fewer-waiting (Some (n, p.step)) p s.host

-- where it serves a request
pub served-named : (k kind : ℕ) (payload : List ℕ) (h : Host)
    → NamesFewer h (host_serves k kind payload h).host
served-named k kind payload h = by (host-served k kind payload)
  where
    by : ServedHost h (host_serves k kind payload h)
        → NamesFewer h (host_serves k kind payload h).host
    by (as_before e) = subst (NamesFewer h) (sym e) (named-one h)
    by (with_more i c total e) = subst (NamesFewer h) (sym e) (named-one h)
    by (with_images x e) = subst (NamesFewer h) (sym e) (named-one h)
