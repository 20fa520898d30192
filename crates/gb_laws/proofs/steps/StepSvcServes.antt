-- A law of points goes over what the supervisory controller serves.
use Rattle.std.proofs.Common.{Bool, List, None, Option, Some, ap, append_assoc, cond, false, inl}
use Rattle.std.proofs.Common.{refl, subst, sym, true, ℕ, [], ◌++◌, ◌∙◌, ◌≡◌}
use Rattle.std.specs.List.{list_any}
use Rattle.std.specs.Prelude.{◌&&◌}
use Rattle.gb_base.specs.declared.end.Side.TheVariants as side
use Rattle.gb_base.specs.declared.entry.Entry.{Entry}
use Rattle.gb_base.specs.declared.outcome.Outcome.TheVariants as outcome
use Rattle.gb_machine.proofs.Opened.{machine_opened}
use Rattle.gb_machine.specs.Responding.{Response, creates, destroys, disconnects, responds_plainly}
use Rattle.gb_machine.specs.Responding.{responds_with, svc_decided, with_ports}
use Rattle.gb_machine.specs.Serving.{invalid, nonexistent, plainly as plainly_answers, success}
use Rattle.gb_machine.specs.SvcTable.{Answered, Create, Destroy, SvcServed, Unroute}
use Rattle.gb_machine.specs.Wiring.{is_at, is_wired_to, joining}
use Rattle.gb_machine.specs.{Actions.Action, Actions.each, Actions.nothing, Bus.Connection}
use Rattle.gb_machine.specs.{Loading.load_follows, Ports.is_powered, Ports.unrouted}
use Rattle.gb_machine.specs.{Requests.open_on, Runs.Moment, State.Port, State.State}
use Rattle.gb_machine.specs.Wires as wiring
use Rattle.gb_invariants.proofs.Found.{none-any}
use Rattle.gb_laws.proofs.points.PointParts.{Hand, Untouched, Unwired, Wired, Wires}
use Rattle.gb_laws.proofs.points.Points.{IsCreated, IsLive, Law, PortsFrom, others, unwires, wires}
use Rattle.gb_laws.proofs.svc.Powering.{IsReady, IsRouted, port-powered}
use Rattle.gb_laws.proofs.steps.LoadersPlugged.{same-loaders}
use Rattle.gb_laws.proofs.steps.StepActions.{At, Goes, goes-nothing}
use Rattle.gb_laws.proofs.{points.Places.ComesFrom, points.Places.LivesOn, steps.ServedOn.Comes}
use Rattle.gb_laws.proofs.{steps.ServedOn.joining-live, steps.StepActLaws.acting}
use Rattle.gb_laws.proofs.{steps.StepLoads.rests-loads_fail}

module _ (m : Moment) (law : Law m) where
  -- an action ends a step, whatever becomes of wires
  abbrev pub Ends : Option Hand → Action → State → Type 0
  Ends hand f s =
      (told : List Entry) → At m (acting m law) hand [] Untouched told s
      → (w : Wires) × At m (acting m law) None [] w (told ++ (f s).entries) (f s).state

  -- one that stays with the wires
  pub ends-going : {hand : Option Hand} (f : Action) {s : State}
      → Goes m (acting m law) hand [] Untouched None [] Untouched f s → Ends hand f s
  ends-going f h told at = (Untouched, h told at)

  -- ---- the supervisory controller

  ends-ports : {ports : List Port} (s : State) → PortsFrom m s ports
      → ((i : ℕ) → is_powered i ports ≡ true → is_powered i s.ports ≡ true)
      → Ends None (with_ports ports) s
  unfolding machine_opened
  ends-ports {ports} s from powered told at = (
    Untouched,
    law.kept _ (others s.booted s.holds ports s.modules (
      inl (
        record {
          started = refl;
          plugged = λ i. refl;
          powered = powered;
          differ = λ h. h;
          whole = λ h. h;
        },
        from,
        record { hand = refl; pending = refl; asked = refl },
        λ k i. inl i,
      ),
      same-loaders s.modules,
    )) at,
  )

  pub ends-nothing : {s : State} → Ends None nothing s
  ends-nothing {s} = ends-going nothing (goes-nothing m (acting m law) None [] Untouched s)

  ends-wires : (k : ℕ) (s : State) (live : IsLive k false s.bus)
      → IsRouted live.intf s.ports → IsCreated m s live.connection live.intf live.cport
      → Ends None (wiring.wires k) s
  unfolding machine_opened
  ends-wires k s live ready made told at =
      (Wired, law.kept _ (wires k refl refl live (ready.0, ready.1, made)) at)

  -- a connection is unwired, and downloads fail whose requests ended so
  ends-disconnects : (k : ℕ) (s : State) → IsLive k true s.bus → Ends None (disconnects k) s
  unfolding machine_opened
  ends-disconnects k s live told at = (
    Unwired,
    subst (λ es. At m (acting m law) None [] Unwired es (disconnects k s).state)
        (append_assoc told (wiring.unwires k s).entries (fail (wiring.unwires k s).state).entries)
        (rests-loads_fail m law Unwired ended (wiring.unwires k s).state
        (told ++ (wiring.unwires k s).entries)
        (law.kept _ (unwires k refl (λ e. absurd cc) live) at)),
  )
    where
      ended : List ℕ
      ended = open_on k side.Far s.bus

      fail : Action
      fail = each ended (λ n. load_follows n outcome.Disconnected)

  -- one of two responses
  ends-either : (b : Bool) (x y : Response) (s : State) → (b ≡ true → Ends None x.behind s)
      → (b ≡ false → Ends None y.behind s) → Ends None (cond b x y).behind s
  ends-either true x y s h k = h refl
  ends-either false x y s h k = k refl

  -- the connection that was found is live still
  abbrev IsLiveFound : Option Connection → State → Type 0
  IsLiveFound o s = (x : Connection) (t : Bool) → o ≡ Some x → x.wired ≡ t → IsLive x.number t s.bus

  ends-creates : (o : Option Connection) (s : State)
      → ((x : Connection) → o ≡ Some x → x.wired ≡ false
      → (l : IsLive x.number false s.bus) × IsRouted l.intf s.ports
      × IsCreated m s l.connection l.intf l.cport) → Ends None (creates o).behind s
  ends-creates None s live = ends-nothing
  ends-creates (Some c) s live =
      ends-either c.wired (responds_plainly invalid)
      (responds_with (plainly_answers success) (wiring.wires c.number)) s
      (λ e. ends-nothing) (λ e. let l = live c refl e in ends-wires c.number s l.0 l.1 l.2)

  ends-destroys : (o : Option Connection) (s : State) → IsLiveFound o s
      → Ends None (destroys o).behind s
  ends-destroys None s live = ends-nothing
  ends-destroys (Some c) s live =
      ends-either c.wired (responds_with (plainly_answers success) (disconnects c.number))
      (responds_plainly nonexistent) s
      (λ e. ends-disconnects c.number s (live c true refl e)) (λ e. ends-nothing)

  pub ends-decided : (d : SvcServed) (ports : List Port) (s u : State) → LivesOn s.bus u.bus
      → ComesFrom s.bus u.bus → Comes m u d ports
      → ((i : ℕ) → is_powered i ports ≡ true → is_powered i u.ports ≡ true)
      → IsReady d u.ports → Ends None (svc_decided d ports s).behind u
  ends-decided (Answered result payload) ports s u on came from powered ready =
      ends-ports u from powered
  ends-decided (Create a i c) ports s u on came from powered ready =
      ends-creates (joining a i c s.bus) u (λ x e w.
      let j = joining-live a i c s.bus x false e w in
      let l = on x.number false j.0 in (
        l.0,
        subst (λ n. IsRouted n u.ports) (sym (l.1 ∙ j.1)) ready,
        record {
          incoming = from.0;
          serving = from.1;
          decides = from.2 ∙ ap (λ n. Create n i c) (sym (l.3 ∙ j.3))
              ∙ ap (λ n. Create l.0.connection.ap n c) (sym (l.1 ∙ j.1))
              ∙ ap (Create l.0.connection.ap l.0.intf) (sym (l.2 ∙ j.2));
        },
      ))
  ends-decided (Destroy a i c) ports s u on came from powered ready =
      ends-destroys (joining a i c s.bus) u
      (λ x t e w. (on x.number t (joining-live a i c s.bus x t e w).0).0)
  ends-decided (Unroute i) ports s u on came from powered ready =
      ends-either (list_any (is_wired_to i) s.bus.connections) (responds_plainly invalid)
      (responds_with (plainly_answers success) (with_ports (unrouted i ports))) u
      (λ e. ends-nothing) (λ e. ends-ports u (from (λ c live. let w = came c live in
      ap (λ t. t && is_at i c.peer) (sym w.2) ∙ ap (λ p. w.0.wired && is_at i p) (sym w.3)
      ∙ none-any (is_wired_to i) s.bus.connections w.0 e w.1))
      (λ j f. powered j (port-powered j i (λ p. record p { level = 5 }) ports (λ p. refl) f)))
