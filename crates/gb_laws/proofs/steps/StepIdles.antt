-- A law of points goes over what follows the end of a request, and over a drain: a connection that
-- drains closes where nothing is open on it.
use Rattle.std.proofs.Common.{List, None, Option, Some, refl, true, ℕ, [], ◌∷◌, ◌≡◌}
use Rattle.std.specs.Prelude.{is_none}
use Rattle.gb_base.specs.declared.event.Event.TheVariants as event
use Rattle.gb_base.specs.declared.end.Side.TheVariants as side
use Rattle.gb_base.specs.declared.host_event.HostEvent.TheVariants as host_event
use Rattle.gb_base.specs.declared.outcome.Outcome.{Outcome}
use Rattle.gb_base.specs.declared.interface.Link.{Link}
use Rattle.gb_machine.proofs.Opened.{machine_opened}
use Rattle.gb_machine.specs.Actions.{Action, by_state, given}
use Rattle.gb_machine.specs.Bus.{Request, request_of}
use Rattle.gb_machine.specs.HostActs.{drains, host_follows, idles, idles_behind, notices}
use Rattle.gb_machine.specs.Requests.{is_idle, same_side}
use Rattle.gb_machine.specs.{Host.link_at, Lists.first, Refusals.refusal, Runs.Moment, State.State}
use Rattle.gb_invariants.proofs.HostChanges.{at_event}
use Rattle.gb_laws.proofs.steps.StepActions.{Stays, goes-nothing, goes-when, goes-▸}
use Rattle.gb_laws.proofs.{links.DrainingKept.FirstDrainsAt, points.PointParts.Point}
use Rattle.gb_laws.proofs.{points.PointParts.Untouched, points.Points.IsOver}
use Rattle.gb_laws.proofs.{steps.StepActLaws.ActLaw, steps.StepActs.goes-notice}

none-first : (ns : List ℕ) → is_none (first ns) ≡ true → ns ≡ []
none-first [] e = refl
none-first (n ∷ ns) e = absurd cc

-- for a law that says that only the first connection to a CPort drains
module _ (m : Moment) (law : ActLaw m) (drain : (a : Point) → law.holds a → FirstDrainsAt a) where
  -- from rest to rest
  abbrev Idly : Action → State → Type 0
  Idly f s = Stays m law None [] Untouched f s

  goes-idles : (k : ℕ) (s : State) → Idly (idles k) s
  unfolding machine_opened
  goes-idles k s told at =
      goes-when m law None [] Untouched (is_idle k s.bus) (notices (host_event.Idle k)) s
      (λ idle. goes-notice m law (at_event (host_event.Idle k)) s (none-first _ idle) (drain _ at))
      told at

  goes-idles_behind : (o : Option Request) (s : State) → Idly (given o idles_behind) s
  unfolding machine_opened
  goes-idles_behind None s = goes-nothing m law None [] Untouched s
  goes-idles_behind (Some r) s =
      goes-when m law None [] Untouched (same_side side.Ap r.side) (idles r.connection) s
      (λ e. goes-idles r.connection s)

  -- a request ended: what the application processor does
  pub goes-host_follows : (n : ℕ) (how : Outcome) (s : State)
      → IsOver m (at_event (host_event.Ended n how)) s.bus → Idly (host_follows n how) s
  unfolding machine_opened
  goes-host_follows n how s over =
      goes-▸ m law (notices (host_event.Ended n how)) (given (request_of n s.bus) idles_behind)
      (goes-notice m law (at_event (host_event.Ended n how)) s over tt)
      (goes-idles_behind (request_of n s.bus) (notices (host_event.Ended n how) s).state)

  -- a connection drains
  pub goes-drains : (i c : ℕ) → m.event ≡ event.Drain i c
      → refusal m.before (event.Drain i c) ≡ None → Idly (drains i c) m.before
  unfolding machine_opened
  goes-drains i c is free =
      goes-▸ m law (notices (host_event.Drain i c))
      (by_state (λ t. given (link_at i c t.host) (λ l. idles l.connection)))
      (goes-notice m law (at_event (host_event.Drain i c)) m.before refl (refl, is, free))
      (by (link_at i c after.host) after)
    where
      after : State
      after = (notices (host_event.Drain i c) m.before).state

      by : (o : Option Link) (s : State) → Idly (given o (λ l. idles l.connection)) s
      by None s = goes-nothing m law None [] Untouched s
      by (Some l) s = goes-idles l.connection s
