-- What waits for a request that is awaited.
use Rattle.std.proofs.Common.{Bool, List, None, Option, Some, ap, cond, false, inl, inr, refl}
use Rattle.std.proofs.Common.{true, ℕ, ⊎_elim, [], ◌∙◌, ◌∷◌, ◌≡◌, ◌⊎◌}
use Rattle.std.specs.Prelude.{◌==◌}
use Rattle.gb_base.specs.declared.entry.ConnState.{ConnState}
use Rattle.gb_base.specs.declared.interface.{Interface.Interface, Link.Link}
use Rattle.gb_base.specs.declared.steps.{Purpose.Purpose, SequenceStep.SequenceStep}
use Rattle.gb_base.specs.declared.steps.SequenceStep.TheVariants as steps
use Rattle.gb_machine.specs.Waits.{awaited, interface_waits, link_waits, purpose_in}
use Rattle.gb_machine.specs.{Bus.Bus, Bus.or_else, Host.Host, Members.IsIn}
use Rattle.gb_machine.specs.SequenceSteps.{is_enumeration, purpose}
use Rattle.gb_invariants.proofs.{Awaiting.not-both, Awaiting.same-some, Outcomes.same-number}
use Rattle.gb_laws.proofs.links.Links.{HostFits, IsAtStep}

-- An interface or a connection waits for a request.
pub data WaitsFor (h : Host) (n : ℕ) (p : Purpose) : Type 0 where
  enumerating : (x : Interface) → IsIn x h.interfaces → x.intf ≡ p.intf → 0 ≡ p.cport
      → x.awaits ≡ Some (n, p.step) → WaitsFor h n p
  connecting : (l : Link) → IsIn l h.links → l.intf ≡ p.intf → l.cport ≡ p.cport
      → l.awaits ≡ Some (n, p.step) → WaitsFor h n p

waited-is : (n i c : ℕ) (o : Option (ℕ × SequenceStep)) (p : Purpose)
    → purpose_in n i c o ≡ Some p → (i ≡ p.intf) × (c ≡ p.cport) × (o ≡ Some (n, p.step))
waited-is n i c None p h = absurd cc
waited-is n i c (Some w) p h = by (w.0 == n) refl h
  where
    by : (t : Bool) → (w.0 == n) ≡ t → cond t (Some (purpose i c w.1)) None ≡ Some p
        → (i ≡ p.intf) × (c ≡ p.cport) × (Some w ≡ Some (n, p.step))
    by true e h = let is = same-some (purpose i c w.1) p h in (
      ap (λ (q : Purpose). q.intf) is,
      ap (λ (q : Purpose). q.cport) is,
      ap (λ k. Some (k, w.1)) (same-number w.0 n e) ∙ ap (λ (q : Purpose). Some (n, q.step)) is,
    )
    by false e h = absurd cc

either : {A : Type 0} {x : A} (o r : Option A) → or_else o r ≡ Some x
    → (o ≡ Some x) ⊎ (r ≡ Some x)
either None r e = inr e
either (Some y) r e = inl e

waited-interface : (n : ℕ) (xs : List Interface) (p : Purpose) → interface_waits n xs ≡ Some p
    → (x : Interface) × IsIn x xs × (x.intf ≡ p.intf) × (0 ≡ p.cport)
    × (x.awaits ≡ Some (n, p.step))
waited-interface n [] p h = absurd cc
waited-interface n (x ∷ xs) p h =
    ⊎_elim (λ e. let w = waited-is n x.intf 0 x.awaits p e in (x, inl refl, w.0, w.1, w.2))
    (λ e. let r = waited-interface n xs p e in (r.0, inr r.1, r.2, r.3, r.4))
    (either (purpose_in n x.intf 0 x.awaits) (interface_waits n xs) h)

waited-link : (n : ℕ) (ls : List Link) (p : Purpose) → link_waits n ls ≡ Some p
    → (l : Link) × IsIn l ls × (l.intf ≡ p.intf) × (l.cport ≡ p.cport)
    × (l.awaits ≡ Some (n, p.step))
waited-link n [] p h = absurd cc
waited-link n (l ∷ ls) p h =
    ⊎_elim
    (λ e. let w = waited-is n l.intf l.cport l.awaits p e in (l, inl refl, w.0, w.1, w.2))
    (λ e. let r = waited-link n ls p e in (r.0, inr r.1, r.2, r.3, r.4))
    (either (purpose_in n l.intf l.cport l.awaits) (link_waits n ls) h)

pub waits-for : (n : ℕ) (h : Host) (p : Purpose) → awaited n h ≡ Some p → WaitsFor h n p
waits-for n h p e = ⊎_elim
    (λ f. let w = waited-interface n h.interfaces p f in enumerating w.0 w.1 w.2 w.3 w.4)
    (λ f. let w = waited-link n h.links p f in connecting w.0 w.1 w.2 w.3 w.4)
    (either (interface_waits n h.interfaces) (link_waits n h.links) e)

-- the step of a connect or close isn't one of an enumeration
pub step-connects : (step : SequenceStep) (s : ConnState) → IsAtStep step s
    → is_enumeration step ≡ false
step-connects steps.CreateConnection s h = refl
step-connects steps.TellConnected s h = refl
step-connects steps.TellDisconnecting s h = refl
step-connects steps.TellDisconnected s h = refl
step-connects steps.DestroyConnection s h = refl
step-connects _ s h = absurd h

-- An interface waits for a step of its enumeration.
pub record IsWaitedBy (h : Host) (n : ℕ) (p : Purpose) : Type 0 where
  pub interface : Interface
  pub known : IsIn interface h.interfaces
  pub intf : interface.intf ≡ p.intf
  pub awaits : interface.awaits ≡ Some (n, p.step)

pub waited-enum : {b : Bus} (n : ℕ) {h : Host} (p : Purpose) → HostFits b h → awaited n h ≡ Some p
    → is_enumeration p.step ≡ true → IsWaitedBy h n p
waited-enum n {h} p fits e s = by (waits-for n h p e)
  where
    by : WaitsFor h n p → IsWaitedBy h n p
    by (enumerating x i intf cport awaits) =
        record { interface = x; known = i; intf = intf; awaits = awaits }
    by (connecting l i intf cport awaits) = absurd (not-both (is_enumeration p.step) s
        (step-connects p.step l.state (fits.links.waiting l i (n, p.step) awaits).1))
