-- A law of points goes over what a served request brings about.
use Rattle.std.proofs.Common.{List, None, Option, Some, ap, inl, inr, refl, subst, sym, ℕ, ⊎_elim}
use Rattle.std.proofs.Common.{[], ◌++◌, ◌∙◌, ◌≡◌}
use Rattle.std.specs.Prelude.{option_and_then}
use Rattle.gb_base.specs.declared.end.{End.End, Side.Side}
use Rattle.gb_base.specs.declared.end.End.TheVariants as end
use Rattle.gb_base.specs.declared.end.Side.TheVariants as side
use Rattle.gb_base.specs.declared.entry.Entry.{Entry}
use Rattle.gb_base.specs.declared.host_event.HostEvent.TheVariants as host_event
use Rattle.gb_base.specs.declared.host_event.HostEvent.{HostEvent}
use Rattle.gb_formats.specs.{Module.Module, ModuleLoads.loader_at, ModuleSteps.module_serve}
use Rattle.gb_formats.specs.{Results.Step}
use Rattle.gb_machine.proofs.Opened.{machine_opened}
use Rattle.gb_machine.specs.Actions.{change, given, on_host, tell, ◌▸◌}
use Rattle.gb_machine.specs.Responding.{far_response, host_behind, module_response, module_stepped}
use Rattle.gb_machine.specs.Responding.{response_at}
use Rattle.gb_machine.specs.SvcTable.{Answered, Create, Destroy, SvcServed, Unroute, svc_step}
use Rattle.gb_machine.specs.{Bus.Bus, Bus.Connection, Host.Host, HostActs.notices}
use Rattle.gb_machine.specs.{HostServing.HostServed, HostServing.host_serves, Incoming.Incoming}
use Rattle.gb_machine.specs.{Lists.first, Modules.module_at, Modules.with_module}
use Rattle.gb_machine.specs.{OwnAsking.far_asks_all, Ports.is_powered, Ports.unrouted, Runs.Moment}
use Rattle.gb_machine.specs.{State.State}
use Rattle.gb_invariants.proofs.Awaiting.{none-some, same-some}
use Rattle.gb_laws.proofs.steps.Delivered.{IsTaken, noticed, served-at, serving-of}
use Rattle.gb_laws.proofs.points.Places.{ComesFrom, LivesOn, comes-after, lives-after}
use Rattle.gb_laws.proofs.points.LowTypes.{AreLow, module-low}
use Rattle.gb_laws.proofs.points.PointParts.{IsNoticed, IsServed, Untouched}
use Rattle.gb_laws.proofs.steps.LoaderStays.{AsksUnloaded, KeepsEach, serve-asks, serve-keeps}
use Rattle.gb_laws.proofs.steps.LoadersPlugged.{keeps-module, module-there}
use Rattle.gb_laws.proofs.points.Points.{IsAfterReply, IsServing, Law, as_before, loses_route}
use Rattle.gb_laws.proofs.points.Points.{others, replied_to, served, serves, unreplied}
use Rattle.gb_laws.proofs.svc.Powering.{IsReady, step-powered, step-ready}
use Rattle.gb_laws.proofs.steps.Served.{IsQuietly, ServedAs, inserting, plainly, removing}
use Rattle.gb_laws.proofs.steps.Served.{served as served_as}
use Rattle.gb_laws.proofs.steps.ServedOn.{Comes, HasPeer, IsAsBefore}
use Rattle.gb_laws.proofs.steps.StepActions.{At, Goes, goes-far_asks_all, goes-nothing, goes-tell}
use Rattle.gb_laws.proofs.steps.StepActions.{goes-▸}
use Rattle.gb_laws.proofs.steps.StepSvcServes.{Ends, ends-decided, ends-going, ends-nothing}
use Rattle.gb_laws.proofs.{steps.StepActLaws.acting, steps.StepActs.Acts}
use Rattle.gb_laws.proofs.{steps.StepModules.goes-inserted, steps.StepModules.goes-removed}
use Rattle.gb_laws.proofs.{svc.StayPlugged.module-plugs}

module _ (m : Moment) (law : Law m) where
  -- ---- modules

  ends-module : (k i c : ℕ) (x : Module) (step : Step Module) (s : State)
      → module_at i s.modules ≡ Some x → HasPeer k (end.Module i c) s.bus
      → AreLow step.served.asks → KeepsEach x step.after
      → AsksUnloaded step.served.asks (loader_at step.after c)
      → Ends m law None (module_stepped k i step).behind s
  unfolding machine_opened
  ends-module k i c x step s there to low keeps unloaded =
      ends-going m law (module_stepped k i step).behind (goes-▸ m (acting m law)
      (change (λ t. record t { modules = with_module i step.after t.modules }))
      (far_asks_all k step.served.asks)
      (λ told at. law.kept _ (others s.booted s.holds s.ports (with_module i step.after s.modules) (
        inl (
          module-plugs s i step.after,
          as_before refl,
          record { hand = refl; pending = refl; asked = refl },
          λ k i. inl i,
        ),
        keeps-module i step.after x s.modules there keeps,
      )) at)
      (goes-far_asks_all m (acting m law) [] Untouched i c k step.served.asks
      (record s { modules = with_module i step.after s.modules }) to low
      (⊎_elim (λ e. inl e) (λ e. inr (ap (option_and_then (λ y. loader_at y c))
      (module-there i step.after x s.modules there) ∙ e)) unloaded)))

  ends-at_module : (k i c : ℕ) (q : Incoming) (o : Option Module) (s : State)
      → module_at i s.modules ≡ o → HasPeer k (end.Module i c) s.bus
      → Ends m law None (module_response k i c q o).behind s
  ends-at_module k i c q None s e to = ends-nothing m law
  ends-at_module k i c q (Some x) s e to =
      ends-module k i c x (module_serve x c q.kind q.payload) s e to
      (module-low x c q.kind q.payload) (serve-keeps x c q.kind q.payload)
      (serve-asks x c q.kind q.payload)

  -- ---- the far side

  ends-far : (e : End) (k : ℕ) (q : Incoming) (s u : State) → LivesOn s.bus u.bus
      → ComesFrom s.bus u.bus → u.ports ≡ s.ports → u.modules ≡ s.modules → HasPeer k e u.bus
      → (e ≡ end.Svc → IsServing m u q) → Ends m law None (far_response e k q s).behind u
  ends-far (end.Module i c) k q s u on came ports modules peer serving =
      ends-at_module k i c q (module_at i s.modules) u (ap (module_at i) modules) peer
  ends-far end.Svc k q s u on came ports modules peer serving =
      let step = svc_step s.ports q.kind q.payload in
      ends-decided m law step.served step.ports s u on came (comes step.served refl)
      (λ i e. ap (is_powered i) ports ∙ step-powered s.ports q.kind q.payload i e)
      (subst (IsReady step.served) (sym ports) (step-ready s.ports q.kind q.payload))
    where
      same : s.ports ≡ m.before.ports
      same = sym ports ∙ (serving refl).ports

      comes : (d : SvcServed) → (svc_step s.ports q.kind q.payload).served ≡ d
          → Comes m u d (svc_step s.ports q.kind q.payload).ports
      comes (Answered result payload) e = served q (serving refl)
          (ap (λ ps. (svc_step ps q.kind q.payload).ports) (sym ports ∙ (serving refl).ports))
      comes (Create a i c) e = (
        q,
        serving refl,
        ap (λ ps. (svc_step ps q.kind q.payload).served) (sym same) ∙ e,
      )
      comes (Destroy a i c) e = tt
      comes (Unroute i) e = loses_route q i (serving refl)
          (ap (λ ps. (svc_step ps q.kind q.payload).served) (sym same) ∙ e)
          (ap (λ ps. unrouted i (svc_step ps q.kind q.payload).ports) same)
  ends-far (end.Ap a) k q s u on came ports modules peer serving = ends-nothing m law

  -- ---- the application processor

  -- what it is then, what it tells and what it takes notice of
  goes-behind : (host : Host) (o : Option Entry) (n : Option HostEvent) (u : State)
      → Goes m (acting m law) None [] Untouched None [] Untouched (on_host (λ old. host)) u
      → IsQuietly o → ((e : HostEvent) → n ≡ Some e
      → Acts m (acting m law) [] [] (notices e) (record u { host = host }))
      → Goes m (acting m law) None [] Untouched None [] Untouched
      (on_host (λ old. host) ▸ given o tell ▸ given n notices) u
  unfolding machine_opened
  goes-behind host o n u first quiet cause =
      goes-▸ m (acting m law) (on_host (λ old. host) ▸ given o tell) (given n notices)
      (goes-▸ m (acting m law)
      (on_host (λ old. host)) (given o tell) first (says o (record u { host = host }) quiet))
      (takes_notice o n cause)
    where
      says : (o : Option Entry) (s : State) → IsQuietly o
          → Goes m (acting m law) None [] Untouched None [] Untouched (given o tell) s
      says None s q = goes-nothing m (acting m law) None [] Untouched s
      says (Some e) s q = goes-tell m (acting m law) None [] Untouched e s q

      takes_notice : (o : Option Entry) (n : Option HostEvent)
          → ((e : HostEvent) → n ≡ Some e
          → Acts m (acting m law) [] [] (notices e) (record u { host = host }))
          → Goes m (acting m law) None [] Untouched None [] Untouched (given n notices)
          ((on_host (λ old. host) ▸ given o tell) u).state
      takes_notice None None c =
          goes-nothing m (acting m law) None [] Untouched (record u { host = host })
      takes_notice None (Some e) c = c e refl
      takes_notice (Some x) None c =
          goes-nothing m (acting m law) None [] Untouched (record u { host = host })
      takes_notice (Some x) (Some e) c = c e refl

  ends-served : (k kind : ℕ) (payload : List ℕ) (u : State) → IsServed m k kind payload
      → u.host ≡ m.before.host → u.bus.requests ≡ m.before.bus.requests
      → ((e : HostEvent) → (host_serves k kind payload m.before.host).notices ≡ Some e
      → IsNoticed m e) → Ends m law None (host_behind (host_serves k kind payload m.before.host)) u
  unfolding machine_opened
  ends-served k kind payload u at_ap host made notice =
      ends-going m law (host_behind r)
      (goes-behind r.host r.told r.notices u first (quiet (served_as k kind payload m.before.host))
      (λ e n. noticing (served_as k kind payload m.before.host) e n (notice e n)))
    where
      r : HostServed
      r = host_serves k kind payload m.before.host

      first : Goes m (acting m law) None [] Untouched None [] Untouched
          (on_host (λ old. (host_serves k kind payload m.before.host).host)) u
      first told at =
          subst (λ h. At m (acting m law) None [] Untouched (told ++ [])
          (record u { host = (host_serves k kind payload h).host })) host
          (law.kept _ (serves k kind payload (refl, at_ap, host)) at)

      quiet : ServedAs m.before.host (host_serves k kind payload m.before.host)
          → IsQuietly (host_serves k kind payload m.before.host).told
      quiet (plainly q n) = q
      quiet (inserting i count h q n) = subst IsQuietly (sym q) tt
      quiet (removing i h q n) = subst IsQuietly (sym q) tt

      noticing : ServedAs m.before.host (host_serves k kind payload m.before.host) → (e : HostEvent)
          → (host_serves k kind payload m.before.host).notices ≡ Some e → IsNoticed m e
          → Acts m (acting m law) [] [] (notices e)
          (record u { host = (host_serves k kind payload m.before.host).host })
      noticing (plainly q n) e is said = absurd (none-some (sym n ∙ is))
      noticing (inserting p count h q n) e is said =
          let same = same-some (host_event.Inserted p count) e (sym n ∙ is) in
          subst (λ x. Acts m (acting m law) [] [] (notices x)
          (record u { host = (host_serves k kind payload m.before.host).host })) same
          (goes-inserted m (acting m law) p count (subst (IsNoticed m) (sym same) said)
          (record u { host = (host_serves k kind payload m.before.host).host }) h)
      noticing (removing p h q n) e is said =
          let same = same-some (host_event.Removed p) e (sym n ∙ is) in
          subst (λ x. Acts m (acting m law) [] [] (notices x)
          (record u { host = (host_serves k kind payload m.before.host).host })) same
          (goes-removed m (acting m law) p (subst (IsNoticed m) (sym same) said)
          (record u { host = (host_serves k kind payload m.before.host).host }) h made)

  same-after : {k : ℕ} {at : Side} {q : Incoming} {b after : Bus} → IsAfterReply k at q b after
      → after.requests ≡ b.requests
  same-after (unreplied e) = ap (λ (x : Bus). x.requests) e
  same-after (replied_to r e) = ap (λ (x : Bus). x.requests) e

  -- what the party at a side answers has an end
  pub ends-response : (c : Connection) (at : Side) (q : Incoming) (s : State) {u : State}
      → IsTaken m s c at q → IsAfterReply c.number at q s.bus u.bus → u.ports ≡ s.ports
      → u.modules ≡ s.modules → HasPeer c.number c.peer u.bus
      → IsAsBefore m s → u.host ≡ s.host → u.past ≡ s.past
      → Ends m law None (response_at at c q s).behind u
  unfolding machine_opened
  ends-response c side.Ap q s {u} taken way ports modules peer before same past =
      subst (λ h. Ends m law None (host_behind (host_serves c.number q.kind q.payload h)) u)
      (sym before.0) (ends-served c.number q.kind q.payload u (served-at m s c side.Ap q taken refl)
      (same ∙ before.0) (same-after way ∙ before.1) (λ e n. noticed m s c side.Ap q e taken refl n))
  ends-response c side.Far q s {u} taken way ports modules peer before same past =
      ends-far c.peer c.number q s u (lives-after way) (comes-after way) ports modules peer
      (λ is. serving-of m s u c side.Far q taken refl is way same ports past)
