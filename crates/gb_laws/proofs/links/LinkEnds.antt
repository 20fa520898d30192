-- What is known once a sequence waits no more for a request that ended.
use Rattle.std.proofs.Common.{None, Some, ap, refl, subst, sym, true, ℕ, []}
use Rattle.std.proofs.Common.{◌∙◌, ◌≡◌, ◌≢◌}
use Rattle.std.specs.Prelude.{option_map}
use Rattle.gb_base.specs.declared.interface.{Interface.Interface, Link.Link}
use Rattle.gb_base.specs.declared.steps.{Purpose.Purpose}
use Rattle.gb_machine.specs.Host.{Host, is_link, link_at, with_interface, with_link}
use Rattle.gb_machine.specs.{Bus.Bus, Members.IsIn, SequenceSteps.is_enumeration}
use Rattle.gb_machine.specs.{Turns.turn, Waits.awaited, Waits.awaits_nothing}
use Rattle.gb_invariants.proofs.HostChanges.{interface_awaits, link_awaits}
use Rattle.gb_invariants.proofs.{Awaiting.none-some, Awaiting.not-both, Awaiting.same-some}
use Rattle.gb_invariants.proofs.{Found.find-changed, HostChanges.waiting-by}
use Rattle.gb_laws.proofs.links.LinkFits.{TurnFits, fits-link, fits-same, waits-not}
use Rattle.gb_laws.proofs.links.LinkHosts.{awaits-link, host-interface, present-changed}
use Rattle.gb_laws.proofs.links.LinkLists.{found-there, in-only}
use Rattle.gb_laws.proofs.links.Links.{HasNoControl, HostFits, IsAtStep, IsDue, IsDueBy, is_early}
use Rattle.gb_laws.proofs.links.Waited.{WaitsFor, connecting, enumerating, step-connects}
use Rattle.gb_laws.proofs.links.Waited.{waits-for}

-- It waits no more: its step is due.
pub record Resumed (b : Bus) (p : Purpose) (h g : Host) : Type 0 where
  pub fits : TurnFits b h (turn g [])
  pub due : IsDue p.step p g

resumed-interface : (b : Bus) (p : Purpose) (h : Host) → HostFits b h → (x : Interface)
    → IsIn x h.interfaces → x.intf ≡ p.intf → 0 ≡ p.cport
    → is_enumeration p.step ≡ true → (is_early p.step ≡ true → HasNoControl x.intf h.links)
    → Resumed b p h (with_interface p.intf (interface_awaits None) h)
resumed-interface b p h fits x i at zero_cport is none = record {
  fits = fits-same [] refl (host-interface p.intf (interface_awaits None) (λ y. refl)
      (λ y j e old w f. absurd (none-some f)) fits);
  due = subst (λ t. IsDueBy t p.step p (with_interface p.intf (interface_awaits None) h))
      (sym is) (record {
        cport = sym zero_cport;
        none = λ early. subst (λ n. HasNoControl n h.links) at (none early);
        idle = λ y j e. ap (λ (z : Interface). z.awaits)
            (in-only p.intf (interface_awaits None) h.interfaces y fits.differ j e).2;
        present =
            present-changed p.intf (interface_awaits None) (λ y. refl)
            (record { interface = x; known = i; is = at });
      });
}

resumed-link : (b : Bus) (p : Purpose) (h : Host) → HostFits b h → (l : Link) → IsIn l h.links
    → l.intf ≡ p.intf → l.cport ≡ p.cport → (l.cport ≢ 0) → IsAtStep p.step l.state
    → Resumed b p h (with_link p.intf p.cport (link_awaits None) h)
resumed-link b p h fits l i intf cport other at = record {
  fits = fits-link p.intf p.cport (link_awaits None) [] (awaits-link None)
      (λ k f. record {
        waiting = λ v. waits-not (link_awaits None k) refl;
        deaf = λ d. record { cport = d.cport; takes = d.takes };
        draining = λ d. d;
      }) fits;
  due = subst (λ t. IsDueBy t p.step p (with_link p.intf p.cport (link_awaits None) h))
      (sym (step-connects p.step l.state at)) (record {
        cport = λ z. other (cport ∙ z);
        idle = λ y f. ap (λ (x : Link). x.awaits) (sym (is-it y f));
        state = λ y f. subst (λ (x : Link). IsAtStep p.step x.state) (is-it y f) at;
      });
}
  where
    is-it : (y : Link)
        → link_at p.intf p.cport (with_link p.intf p.cport (link_awaits None) h) ≡ Some y
        → link_awaits None l ≡ y
    is-it y f = same-some (link_awaits None l) y
        (sym (find-changed (is_link p.intf p.cport) (link_awaits None) h.links (λ x. refl)
        ∙ ap (option_map (link_awaits None))
        (found-there h.links l fits.links.rise i intf cport)) ∙ f)

pub resumed : {b : Bus} (n : ℕ) (p : Purpose) (h : Host) → HostFits b h → WaitsFor h n p
    → Resumed b p h (awaits_nothing p h)
resumed {b} n p h fits (enumerating x i at zero_cport awaits) =
    let is = fits.interfaces x i (n, p.step) awaits in
    waiting-by (Resumed b p h) None p h
    (λ e. resumed-interface b p h fits x i at zero_cport is.0 is.1)
    (λ e. absurd (not-both (is_enumeration p.step) is.0 e))
resumed {b} n p h fits (connecting l i intf cport awaits) =
    let waits = fits.links.waiting l i (n, p.step) awaits in
    waiting-by (Resumed b p h) None p h
    (λ e. absurd (not-both (is_enumeration p.step) e (step-connects p.step l.state waits.1)))
    (λ e. resumed-link b p h fits l i intf cport waits.0 waits.1)

-- What was awaited is due.
pub waited-due : {b : Bus} (n : ℕ) {h : Host} (p : Purpose) → HostFits b h → awaited n h ≡ Some p
    → IsDue p.step p (awaits_nothing p h)
waited-due n {h} p fits e = (resumed n p h fits (waits-for n h p e)).due
