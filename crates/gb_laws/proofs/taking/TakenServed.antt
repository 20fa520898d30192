-- What is served of a message that was taken: what it tells and what stands in front then.
use Rattle.std.proofs.Common.{Bool, List, None, Option, Some, cond, false, refl, true, ℕ, ◌≡◌}
use Rattle.std.specs.List.{list_any}
use Rattle.gb_base.specs.declared.entry.Entry.{Entry}
use Rattle.gb_base.specs.declared.end.Side.TheVariants as side
use Rattle.gb_base.specs.declared.host_event.HostEvent.{HostEvent}
use Rattle.gb_base.specs.declared.outcome.Outcome.TheVariants as outcome
use Rattle.gb_formats.specs.{Module.Module, ModuleSteps.module_serve}
use Rattle.gb_machine.proofs.{Opened.machine_opened}
use Rattle.gb_machine.specs.Actions.{change, each, given, on_host, tell, ◌▸◌}
use Rattle.gb_machine.specs.Loading.{load_follows}
use Rattle.gb_machine.specs.Responding.{Response, creates, destroys, disconnects, module_response}
use Rattle.gb_machine.specs.Responding.{responds_plainly, responds_with, svc_decided, with_ports}
use Rattle.gb_machine.specs.Serving.{invalid, nonexistent, plainly, success}
use Rattle.gb_machine.specs.SvcTable.{Answered, Create, Destroy, SvcServed, Unroute}
use Rattle.gb_machine.specs.{Bus.Connection, Host.Host, HostActs.notices}
use Rattle.gb_machine.specs.{Incoming.Incoming, Modules.with_module}
use Rattle.gb_machine.specs.{OwnAsking.far_asks_all, Ports.unrouted, Requests.open_on, State.Port}
use Rattle.gb_machine.specs.{State.State, Wires.unwires, Wires.wires}
use Rattle.gb_machine.specs.{Wiring.is_wired_to, Wiring.joining}
use Rattle.gb_invariants.proofs.{Awaiting.none-some, Awaiting.same-some, BusChanges.BusChange}
use Rattle.gb_laws.proofs.taking.TakenActs.{Follows, Taking, ends-follow, follows-change}
use Rattle.gb_laws.proofs.taking.TakenActs.{follows-far_asks_all, follows-loads, follows-nothing}
use Rattle.gb_laws.proofs.taking.TakenActs.{follows-tell, follows-▸, left-by, tells-follow}

module _ (aim : Taking) where
  -- ---- the application processor

  -- what it is then, what it tells and what it takes notice of
  pub follows-host : (g : Host) (o : Option Entry) (n : Option HostEvent) (u : State)
      → ((x : Entry) → o ≡ Some x → aim.tells x)
      → ((e : HostEvent) → n ≡ Some e → Follows aim (notices e) (record u { host = g }))
      → Follows aim (on_host (λ old. g) ▸ given o tell ▸ given n notices) u
  unfolding machine_opened
  follows-host g o n u of noticed =
      follows-▸ aim (on_host (λ old. g) ▸ given o tell) (given n notices) {s = u}
      (follows-▸ aim (on_host (λ old. g)) (given o tell) {s = u} (tt, λ l. l) (says o of))
      (takes_notice o n noticed)
    where
      says : (o : Option Entry) → ((x : Entry) → o ≡ Some x → aim.tells x)
          → Follows aim (given o tell) (record u { host = g })
      says None f = follows-nothing aim (record u { host = g })
      says (Some x) f = follows-tell aim x (record u { host = g }) (f x refl)

      takes_notice : (o : Option Entry) (n : Option HostEvent)
          → ((e : HostEvent) → n ≡ Some e → Follows aim (notices e) (record u { host = g }))
          → Follows aim (given n notices) ((on_host (λ old. g) ▸ given o tell) u).state
      takes_notice None None f = follows-nothing aim (record u { host = g })
      takes_notice None (Some e) f = f e refl
      takes_notice (Some x) None f = follows-nothing aim (record u { host = g })
      takes_notice (Some x) (Some e) f = f e refl

  -- ---- modules

  pub follows-module : (k i c : ℕ) (q : Incoming) (o : Option Module) (u : State)
      → Follows aim (module_response k i c q o).behind u
  unfolding machine_opened
  follows-module k i c q None u = follows-nothing aim u
  follows-module k i c q (Some x) u =
      let step = module_serve x c q.kind q.payload in
      follows-▸ aim (change (λ s. record s { modules = with_module i step.after s.modules }))
      (far_asks_all k step.served.asks) {s = u}
      (follows-change aim (λ s. record s { modules = with_module i step.after s.modules }) u refl)
      (follows-far_asks_all aim k step.served.asks
      (record u { modules = with_module i step.after u.modules }))

  -- ---- the supervisory controller

  -- one of two responses
  either : (t : Bool) (x y : Response) (u : State) → (t ≡ true → Follows aim x.behind u)
      → (t ≡ false → Follows aim y.behind u) → Follows aim (cond t x y).behind u
  either true x y u f g = f refl
  either false x y u f g = g refl

  follows-ports : (ports : List Port) (u : State) → Follows aim (with_ports ports) u
  unfolding machine_opened
  follows-ports ports u = follows-change aim (λ s. record s { ports = ports }) u refl

  follows-wires : (k : ℕ) (u : State) → Follows aim (wires k) u
  unfolding machine_opened
  follows-wires k u =
      (tt, λ l. left-by aim (BusChange.wires k) u.bus tt (λ e. none-some e) l)

  follows-unwires : (k : ℕ) (u : State) → (k ≡ aim.number → ⊥) → Follows aim (unwires k) u
  unfolding machine_opened
  follows-unwires k u other = (
    tells-follow aim _ (ends-follow (open_on k side.Far u.bus)),
    λ l. left-by aim (BusChange.unwires k) u.bus tt
        (λ e. other (same-some k aim.number e)) l,
  )

  follows-disconnects : (k : ℕ) (u : State) → (k ≡ aim.number → ⊥) → Follows aim (disconnects k) u
  unfolding machine_opened
  follows-disconnects k u other =
      follows-▸ aim (unwires k)
      (each (open_on k side.Far u.bus) (λ n. load_follows n outcome.Disconnected)) {s = u}
      (follows-unwires k u other)
      (follows-loads aim outcome.Disconnected (open_on k side.Far u.bus) (unwires k u).state)

  follows-creates : (o : Option Connection) (u : State) → Follows aim (creates o).behind u
  follows-creates None u = follows-nothing aim u
  follows-creates (Some x) u = either x.wired (responds_plainly invalid)
      (responds_with (plainly success) (wires x.number)) u (λ e. follows-nothing aim u)
      (λ e. follows-wires x.number u)

  follows-destroys : (o : Option Connection) (u : State)
      → ((x : Connection) → o ≡ Some x → x.wired ≡ true → x.number ≡ aim.number → ⊥)
      → Follows aim (destroys o).behind u
  follows-destroys None u other = follows-nothing aim u
  follows-destroys (Some x) u other =
      either x.wired (responds_with (plainly success) (disconnects x.number))
      (responds_plainly nonexistent) u (λ e. follows-disconnects x.number u (other x refl e))
      (λ e. follows-nothing aim u)

  -- where no connection of a module that it unwires is the one
  pub follows-decided : (d : SvcServed) (ports : List Port) (s u : State)
      → ((a i c : ℕ) (x : Connection) → joining a i c s.bus ≡ Some x → x.wired ≡ true
      → x.number ≡ aim.number → ⊥) → Follows aim (svc_decided d ports s).behind u
  follows-decided (Answered result payload) ports s u other = follows-ports ports u
  follows-decided (Create a i c) ports s u other = follows-creates (joining a i c s.bus) u
  follows-decided (Destroy a i c) ports s u other =
      follows-destroys (joining a i c s.bus) u (other a i c)
  follows-decided (Unroute i) ports s u other =
      either (list_any (is_wired_to i) s.bus.connections) (responds_plainly invalid)
      (responds_with (plainly success) (with_ports (unrouted i ports))) u
      (λ e. follows-nothing aim u) (λ e. follows-ports (unrouted i ports) u)
