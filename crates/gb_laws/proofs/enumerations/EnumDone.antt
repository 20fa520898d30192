-- An interface is enumerated, and where it stays so.
use Rattle.std.proofs.Common.{List, None, ap, refl, sym, ℕ, ⊎_elim, ◌∙◌}
use Rattle.std.proofs.Common.{◌≡◌}
use Rattle.gb_base.specs.declared.interface.Interface.{Interface}
use Rattle.gb_base.specs.declared.steps.Purpose.{Purpose}
use Rattle.gb_base.specs.declared.entry.IntfStage.TheVariants as stage
use Rattle.gb_machine.specs.Host.{Host, intf_before, is_intf, new_interface, staged, with_interface}
use Rattle.gb_machine.specs.{Failures.unsent, Members.IsIn}
use Rattle.gb_machine.specs.{Waits.awaits_nothing}
use Rattle.gb_invariants.proofs.HostChanges.{interface_awaits, waiting-by}
use Rattle.gb_invariants.proofs.HostChanges.{Finds, HostChange, HostEnd, IsLast, at_unsent, end_of}
use Rattle.gb_invariants.proofs.HostChanges.{host_after}
use Rattle.gb_invariants.proofs.{Found.in-ordered, Lists.in-at_first, Lists.in-without}
use Rattle.gb_invariants.proofs.{OverFailures.over-unsent}

-- an interface is enumerated
pub record IsDone (i : ℕ) (xs : List Interface) : Type 0 where
  pub interface : Interface
  pub known : IsIn interface xs
  pub intf : interface.intf ≡ i
  pub done : interface.stage ≡ stage.Enumerated

module _ (i : ℕ) where
  -- no interface is enumerated that wasn't
  abbrev pub FewerDone : Host → Host → Type 0
  FewerDone h g = IsDone i g.interfaces → IsDone i h.interfaces

  pub done-interface : (h : Host) (j : ℕ) (f : Interface → Interface)
      → ((x : Interface) → (f x).intf ≡ x.intf)
      → ((x : Interface) → (f x).stage ≡ stage.Enumerated → x.stage ≡ stage.Enumerated)
      → FewerDone h (with_interface j f h)
  done-interface h j f intf back d = ⊎_elim
      (λ o. record { interface = d.interface; known = o; intf = d.intf; done = d.done })
      (λ v. record {
        interface = v.0;
        known = v.1;
        intf = sym (intf v.0) ∙ ap (λ (x : Interface). x.intf) (sym v.3) ∙ d.intf;
        done = back v.0 (ap (λ (x : Interface). x.stage) (sym v.3) ∙ d.done);
      }) (in-at_first (is_intf j) f h.interfaces d.interface d.known)

  pub failed-none : stage.Failed ≡ stage.Enumerated → ⊥
  failed-none e = absurd cc

  pub done-nothing : (p : Purpose) (h : Host) → FewerDone h (awaits_nothing p h)
  done-nothing p h = waiting-by (FewerDone h) None p h
      (λ e. done-interface h p.intf (interface_awaits None) (λ x. refl) (λ x e. e)) (λ e d. d)

  -- no change enumerates an interface
  pub change-done : (x : HostChange) (h : Host) → Finds h x → FewerDone h (host_after x h)
  change-done (HostChange.arrives p j) h finds d =
      ⊎_elim (λ e. absurd (other (sym (ap (λ (x : Interface). x.stage) e) ∙ d.done)))
      (λ o. record { interface = d.interface; known = o; intf = d.intf; done = d.done })
      (in-ordered intf_before d.interface (new_interface p j) h.interfaces d.known)
    where
      other : stage.Enumerating ≡ stage.Enumerated → ⊥
      other e = absurd cc
  change-done (HostChange.departs j) h finds d = record {
    interface = d.interface;
    known = (in-without (is_intf j) h.interfaces d.interface d.known).0;
    intf = d.intf;
    done = d.done;
  }
  change-done (HostChange.resumes p) h finds d = done-nothing p h d
  change-done (HostChange.updates j f) h keeps d =
      done-interface h j f keeps.intf (λ x e. sym (keeps.stage x) ∙ e) d
  change-done (HostChange.fails j) h finds d = done-interface h j (staged stage.Failed)
      (λ x. refl) (λ x e. absurd (failed-none e)) d
  change-done _ h finds d = d

  end-done : (p : Purpose) (before : Host) (x : HostEnd) (h : Host)
      → IsLast (at_unsent p before) h x → FewerDone h (end_of x h).host
  end-done p before (HostEnd.enumerates q bytes) h last = absurd last
  end-done p before _ h last = λ d. d

  -- no identifier is left
  pub done-unsent : (p : Purpose) (h : Host) → FewerDone h (unsent p h).host
  done-unsent p h = over-unsent p h (record {
    says = λ g t. FewerDone g t.host;
    ends = λ x g last. end-done p h x g last;
    over = λ x g t finds why s d. change-done x g finds (s d);
  })
