-- An interface that is enumerated stays so at what the application processor does, but where its
-- removal is handled.
use Rattle.std.proofs.Common.{None, ap, arith, false, refl, sym, true, ℕ, ⊎_elim, ◌∙◌, ◌≡◌}
use Rattle.std.proofs.lemmas.Bool.Decides.{nat_tests}
use Rattle.std.specs.Prelude.{not, ◌==◌}
use Rattle.gb_base.specs.declared.interface.Interface.{Interface}
use Rattle.gb_base.specs.declared.steps.Purpose.{Purpose}
use Rattle.gb_base.specs.declared.entry.IntfStage.TheVariants as stage
use Rattle.gb_machine.specs.Host.{Host, intf_before, is_intf, new_interface}
use Rattle.gb_machine.specs.{Failures.unsent, SequenceSteps.is_enumeration, Sequences.enumerated}
use Rattle.gb_invariants.proofs.HostChanges.{FailsAt, Finds, HostChange, HostEnd, IsFor, Occasion}
use Rattle.gb_invariants.proofs.HostChanges.{TurnLaw, at_unsent, end_of, host_after}
use Rattle.gb_invariants.proofs.Lists.{filter-in, in-at_first, in-without}
use Rattle.gb_invariants.proofs.{Found.in-ordered, OverFailures.over-unsent}
use Rattle.gb_laws.proofs.enumerations.DoneStays.{KeepsDone, first-then, keeps-changed}
use Rattle.gb_laws.proofs.enumerations.DoneStays.{keeps-failed, keeps-same}
use Rattle.gb_laws.proofs.enumerations.DoneStays.{keeps-then, keeps-waiting}
use Rattle.gb_laws.proofs.{enumerations.EnumDone.IsDone, enumerations.EnumDone.change-done}
use Rattle.gb_laws.proofs.{links.LinkLists.ordered-stays}

module _ (i : ℕ) where
  pub end-keeps : (x : HostEnd) (h : Host) → KeepsDone i h (end_of x h).host
  end-keeps (HostEnd.enumerates p bytes) h = record {
    done = λ d. ⊎_elim
        (λ o. record { interface = d.interface; known = o; intf = d.intf; done = d.done })
        (λ o. record {
          interface = enumerated bytes d.interface;
          known = o.0;
          intf = d.intf;
          done = refl;
        }) (first-then (is_intf p.intf) (enumerated bytes) h.interfaces d.interface d.known);
    stages = λ none x k e. ⊎_elim (λ o. none x o e)
        (λ u. apart (sym (ap (λ (y : Interface). y.stage) u.3) ∙ e))
        (in-at_first (is_intf p.intf) (enumerated bytes) h.interfaces x k);
  }
    where
      apart : stage.Enumerated ≡ stage.Removed → ⊥
      apart e = absurd cc
  end-keeps _ h = keeps-same i h h refl

  -- where no enumeration fails of an interface that was enumerated before, and its
  -- removal isn't handled
  module _ (o : Occasion) (before : Host)
      (undone : (j : ℕ) → FailsAt o j → j ≡ i → IsDone i before.interfaces → ⊥)
      (other : (j : ℕ) (h : Host) → IsFor o h (HostChange.departs j) → (j == i) ≡ false) where
    pub change-keeps : (x : HostChange) (h : Host) → Finds h x → IsFor o h x
        → (IsDone i h.interfaces → IsDone i before.interfaces) → KeepsDone i h (host_after x h)
    change-keeps (HostChange.arrives p j) h finds why back = record {
      done = λ d. record {
        interface = d.interface;
        known = ordered-stays intf_before d.interface (new_interface p j) h.interfaces d.known;
        intf = d.intf;
        done = d.done;
      };
      stages = λ none x k e. ⊎_elim
          (λ f. apart (sym (ap (λ (y : Interface). y.stage) f) ∙ e)) (λ o. none x o e)
          (in-ordered intf_before x (new_interface p j) h.interfaces k);
    }
      where
        apart : stage.Enumerating ≡ stage.Removed → ⊥
        apart e = absurd cc
    change-keeps (HostChange.departs j) h finds why back = record {
      done = λ d. record {
        interface = d.interface;
        known = filter-in (λ x. not (is_intf j x)) h.interfaces d.interface d.known
            (ap not (apart d.interface.intf d.intf (other j h why)));
        intf = d.intf;
        done = d.done;
      };
      stages = λ none x k. none x (in-without (is_intf j) h.interfaces x k).0;
    }
      where
        apart : (n : ℕ) → n ≡ i → (j == i) ≡ false → (n == j) ≡ false
        apart n at far = grind (arith, nat_tests, at, far)
    change-keeps (HostChange.resumes p) h finds why back = keeps-waiting i None p
    change-keeps (HostChange.updates j f) h keeps why back =
        keeps-changed i h j f keeps.intf keeps.stage
    change-keeps (HostChange.fails j) h finds why back =
        keeps-failed i j h (λ at d. undone j why at (back d))
    change-keeps x h finds why back = keeps-same i h (host_after x h) refl

    abbrev pub keeps_law : TurnLaw o
    keeps_law = record {
      says = λ h t. (IsDone i h.interfaces → IsDone i before.interfaces) → KeepsDone i h t.host;
      ends = λ x h last back. end-keeps x h;
      over = λ x h t finds why s back. keeps-then i h (change-keeps x h finds why back)
          (s (λ d. back (change-done i x h finds d)));
    }

  -- where no identifier is left
  pub keeps-unsent : (p : Purpose) {h : Host}
      → (is_enumeration p.step ≡ true → p.intf ≡ i → IsDone i h.interfaces → ⊥)
      → KeepsDone i h (unsent p h).host
  keeps-unsent p {h} undone = over-unsent p h (keeps_law (at_unsent p h) h
      (λ j f at. undone f.0 (f.1 ∙ at)) (λ j g f. absurd f)) (λ d. d)
