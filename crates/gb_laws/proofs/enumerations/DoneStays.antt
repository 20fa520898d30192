-- An interface that is enumerated stays so, and none is said to be removed, at each change of the
-- application processor but the removal.
use Rattle.std.proofs.Common.{Bool, List, Option, ap, cond, false, inl, inr, refl, subst, sym, true}
use Rattle.std.proofs.Common.{ℕ, ⊎_elim, [], ◌∙◌, ◌∷◌, ◌≡◌, ◌⊎◌}
use Rattle.gb_base.specs.declared.entry.IntfStage.TheVariants as stage
use Rattle.gb_base.specs.declared.interface.Interface.{Interface}
use Rattle.gb_base.specs.declared.steps.{Purpose.Purpose, SequenceStep.SequenceStep}
use Rattle.gb_machine.specs.Host.{Host, is_intf, staged, with_interface, with_link}
use Rattle.gb_machine.specs.{Lists.at_first, Members.IsIn}
use Rattle.gb_machine.specs.{Waits.waiting}
use Rattle.gb_invariants.proofs.HostChanges.{interface_awaits, link_awaits, waiting-by}
use Rattle.gb_invariants.proofs.{Lists.in-at_first, Outcomes.same-number}
use Rattle.gb_laws.proofs.enumerations.EnumDone.{IsDone}

-- no interface that is known is said to be removed
abbrev pub NoneRemoved : List Interface → Type 0
NoneRemoved xs = (x : Interface) → IsIn x xs → x.stage ≡ stage.Removed → ⊥

-- an interface stays enumerated, and none is said to be removed
pub record KeepsDone (i : ℕ) (h g : Host) : Type 0 where
  pub done : IsDone i h.interfaces → IsDone i g.interfaces
  pub stages : NoneRemoved h.interfaces → NoneRemoved g.interfaces

-- a member is there still, or is what it became
pub first-then : {A : Type 0} (test : A → Bool) (change : A → A) (xs : List A) (x : A) → IsIn x xs
    → IsIn x (at_first test change xs)
    ⊎ (IsIn (change x) (at_first test change xs) × (test x ≡ true))
first-then test change [] x i = absurd i
first-then test change (y ∷ ys) x (inl e) = by (test y) refl
  where
    by : (t : Bool) → test y ≡ t → IsIn x (cond t (change y ∷ ys) (y ∷ at_first test change ys))
        ⊎ (IsIn (change x) (cond t (change y ∷ ys) (y ∷ at_first test change ys)) × (test x ≡ true))
    by true f = inr (inl (ap change e), ap test e ∙ f)
    by false f = inl (inl e)
first-then test change (y ∷ ys) x (inr j) = by (test y) (first-then test change ys x j)
  where
    by : (t : Bool) → IsIn x (at_first test change ys)
        ⊎ (IsIn (change x) (at_first test change ys) × (test x ≡ true))
        → IsIn x (cond t (change y ∷ ys) (y ∷ at_first test change ys))
        ⊎ (IsIn (change x) (cond t (change y ∷ ys) (y ∷ at_first test change ys)) × (test x ≡ true))
    by true h = inl (inr j)
    by false h = ⊎_elim (λ a. inl (inr a)) (λ b. inr (inr b.0, b.1)) h

module _ (i : ℕ) where
  pub keeps-same : (h g : Host) → g.interfaces ≡ h.interfaces → KeepsDone i h g
  keeps-same h g e = record {
    done = λ d. record {
      interface = d.interface;
      known = subst (λ xs. IsIn d.interface xs) (sym e) d.known;
      intf = d.intf;
      done = d.done;
    };
    stages = λ none x j. none x (subst (λ xs. IsIn x xs) e j);
  }

  pub keeps-then : (h : Host) {g k : Host} → KeepsDone i h g → KeepsDone i g k → KeepsDone i h k
  keeps-then h a b =
      record { done = λ d. b.done (a.done d); stages = λ n. b.stages (a.stages n) }

  -- an interface changes, and keeps its stage
  pub keeps-changed : (h : Host) (j : ℕ) (f : Interface → Interface)
      → ((x : Interface) → (f x).intf ≡ x.intf) → ((x : Interface) → (f x).stage ≡ x.stage)
      → KeepsDone i h (with_interface j f h)
  keeps-changed h j f intf same = record {
    done = λ d. ⊎_elim
        (λ o. record { interface = d.interface; known = o; intf = d.intf; done = d.done })
        (λ v. record {
          interface = f d.interface;
          known = v.0;
          intf = intf d.interface ∙ d.intf;
          done = same d.interface ∙ d.done;
        }) (first-then (is_intf j) f h.interfaces d.interface d.known);
    stages = λ none x k e. ⊎_elim (λ o. none x o e)
        (λ v. none v.0 v.1 (sym (same v.0) ∙ sym (ap (λ (y : Interface). y.stage) v.3) ∙ e))
        (in-at_first (is_intf j) f h.interfaces x k);
  }

  -- one that isn't enumerated fails
  pub keeps-failed : (j : ℕ) (h : Host) → (j ≡ i → IsDone i h.interfaces → ⊥)
      → KeepsDone i h (with_interface j (staged stage.Failed) h)
  keeps-failed j h undone = record {
    done = λ d. ⊎_elim
        (λ o. record { interface = d.interface; known = o; intf = d.intf; done = d.done })
        (λ v. absurd (undone (sym (same-number d.interface.intf j v.1) ∙ d.intf) d))
        (first-then (is_intf j) (staged stage.Failed) h.interfaces d.interface d.known);
    stages = λ none x k e. ⊎_elim (λ o. none x o e)
        (λ v. apart (sym (ap (λ (y : Interface). y.stage) v.3) ∙ e))
        (in-at_first (is_intf j) (staged stage.Failed) h.interfaces x k);
  }
    where
      apart : stage.Failed ≡ stage.Removed → ⊥
      apart e = absurd cc

  -- a sequence waits for something, or for nothing
  pub keeps-waiting : (w : Option (ℕ × SequenceStep)) (p : Purpose) {h : Host}
      → KeepsDone i h (waiting w p h)
  keeps-waiting w p {h} = waiting-by (KeepsDone i h) w p h
      (λ e. keeps-changed h p.intf (interface_awaits w) (λ x. refl) (λ x. refl))
      (λ e. keeps-same h (with_link p.intf p.cport (link_awaits w) h) refl)
