-- The application processor's connections behind a turn come from those before it, and
-- keep their credits.
use Rattle.std.proofs.Common.{None, Option, ap, inl, inr, refl, subst, sym}
use Rattle.std.proofs.Common.{ℕ, ⊎_elim, ◌∙◌, ◌≡◌, ◌⊎◌}
use Rattle.std.specs.Prelude.{◌==◌}
use Rattle.gb_base.specs.declared.entry.ConnState.{ConnState}
use Rattle.gb_base.specs.declared.interface.Link.{Link}
use Rattle.gb_base.specs.declared.steps.{Purpose.Purpose, SequenceStep.SequenceStep}
use Rattle.gb_base.specs.declared.entry.ConnState.TheVariants as state
use Rattle.gb_machine.specs.Host.{Host, in_state, is_link, with_interface, with_link, without_link}
use Rattle.gb_machine.specs.{Failures.unsent, HostTurns.without_interface}
use Rattle.gb_machine.specs.{Members.IsIn}
use Rattle.gb_machine.specs.{Waits.waiting}
use Rattle.gb_invariants.proofs.HostChanges.{interface_awaits, link_awaits, waiting-by}
use Rattle.gb_invariants.proofs.HostChanges.{HostChange, HostEnd, Occasion, TurnLaw, at_notice}
use Rattle.gb_invariants.proofs.HostChanges.{at_unsent, end_of, host_after}
use Rattle.gb_invariants.proofs.{Found.in-first, Lists.in-without, OverTurns.over-turn}
use Rattle.gb_invariants.proofs.{OverFailures.over-unsent}
use Rattle.gb_invariants.proofs.HostChanges.{Notice, turn_of}
use Rattle.gb_laws.proofs.links.LinkHosts.{awaits-link, same-link, state-link, then-same}
use Rattle.gb_laws.proofs.links.Links.{SameLink}

-- a connection comes from one that was known
pub record CameFrom (l : Link) (h : Host) : Type 0 where
  pub link : Link
  pub live : IsIn link h.links
  pub same : SameLink link l
  pub credits : l.credits ≡ link.credits

-- and waits for what that waited for, or for something that is given
pub record WaitsFrom (w : Option (ℕ × SequenceStep)) (l : Link) (h : Host) : Type 0 where
  pub from : CameFrom l h
  pub awaits : (l.awaits ≡ from.link.awaits) ⊎ (l.awaits ≡ w)

-- each does
abbrev pub LinksFrom : Option (ℕ × SequenceStep) → Host → Host → Type 0
LinksFrom w h g = (l : Link) → IsIn l g.links → WaitsFrom w l h

-- ---- hosts

pub from-links : {w : Option (ℕ × SequenceStep)} (h g : Host) → g.links ≡ h.links → LinksFrom w h g
from-links h g same l i = record {
  from = record {
    link = l;
    live = subst (λ ls. IsIn l ls) same i;
    same = same-link l;
    credits = refl;
  };
  awaits = inl refl;
}

pub from-then : {w : Option (ℕ × SequenceStep)} (h g k : Host) → LinksFrom w h g
    → LinksFrom w g k → LinksFrom w h k
from-then h g k a b l i =
    let y = b l i in
    let x = a y.from.link y.from.live in record {
      from = record {
        link = x.from.link;
        live = x.from.live;
        same = then-same l x.from.same y.from.same;
        credits = y.from.credits ∙ x.from.credits;
      };
      awaits = ⊎_elim (λ e. ⊎_elim (λ f. inl (e ∙ f)) (λ f. inr (e ∙ f)) x.awaits) (λ e. inr e)
          y.awaits;
    }

pub from-kept : {w : Option (ℕ × SequenceStep)} (i c : ℕ) (f : Link → Link) (h : Host)
    → ((l : Link) → SameLink l (f l)) → ((l : Link) → (f l).credits ≡ l.credits)
    → ((l : Link) → ((f l).awaits ≡ l.awaits) ⊎ ((f l).awaits ≡ w))
    → LinksFrom w h (with_link i c f h)
from-kept i c f h same kept waits l j = ⊎_elim (λ o. record {
  from = record { link = l; live = o; same = same-link l; credits = refl };
  awaits = inl refl;
}) (λ v. record {
  from = record {
    link = v.0;
    live = v.1;
    same = subst (SameLink v.0) (sym v.3) (same v.0);
    credits = ap (λ (k : Link). k.credits) v.3 ∙ kept v.0;
  };
  awaits = ⊎_elim (λ e. inl (ap (λ (k : Link). k.awaits) v.3 ∙ e))
      (λ e. inr (ap (λ (k : Link). k.awaits) v.3 ∙ e)) (waits v.0);
}) (in-first (is_link i c) f h.links l j)

pub from-state : (to : ConnState) (i c : ℕ) (h : Host)
    → LinksFrom None h (with_link i c (in_state to) h)
from-state to i c h = from-kept i c (in_state to) h (state-link to) (λ l. refl) (λ l. inl refl)

from-without : (h g : Host) → ((l : Link) → IsIn l g.links → IsIn l h.links) → LinksFrom None h g
from-without h g in_h l i =
    record {
      from = record { link = l; live = in_h l i; same = same-link l; credits = refl };
      awaits = inl refl;
    }

-- where a sequence waits for something, or for nothing
pub from-waiting : (w : Option (ℕ × SequenceStep)) (p : Purpose) (h : Host)
    → LinksFrom w h (waiting w p h)
from-waiting w p h = waiting-by (LinksFrom w h) w p h
    (λ e. from-links h (with_interface p.intf (interface_awaits w) h) refl)
    (λ e. from-kept p.intf p.cport (link_awaits w) h (awaits-link w) (λ l. refl) (λ l. inr refl))

-- ---- changes and turns

pub change-from : (x : HostChange) (h : Host) → LinksFrom None h (host_after x h)
change-from (HostChange.departs i) h = from-without h (without_interface i h)
    (λ l j. (in-without (λ (k : Link). k.intf == i) h.links l j).0)
change-from (HostChange.resumes p) h = from-waiting None p h
change-from (HostChange.turns_to i c to o) h = from-state to i c h
change-from (HostChange.closes i c l) h = from-state state.Closing i c h
change-from (HostChange.leaves p o) h = from-without h (without_link p.intf p.cport h)
    (λ l i. (in-without (is_link p.intf p.cport) h.links l i).0)
change-from x h = from-links h (host_after x h) refl

end-from : (x : HostEnd) (h : Host) → LinksFrom None h (end_of x h).host
end-from HostEnd.rests h = from-links h h refl
end-from x h = from-links h (end_of x h).host refl

abbrev from_law : (o : Occasion) → TurnLaw o
from_law o = record {
  says = λ h t. LinksFrom None h t.host;
  ends = λ x h last. end-from x h;
  over = λ x h t finds why s. from-then h (host_after x h) t.host (change-from x h) s;
}

-- Each turn keeps credits.
pub from-turn : (e : Notice) (h : Host) → LinksFrom None h (turn_of e h).host
from-turn e h = over-turn e h (from_law (at_notice e h))

-- So does what fails where a request can't be made.
pub from-unsent : (p : Purpose) (h : Host) → LinksFrom None h (unsent p h).host
from-unsent p h = over-unsent p h (from_law (at_unsent p h))
