-- A law of points goes over downloads of firmware devices: one begins, and behind the end of the
-- request that it waits for it goes on, is done or fails.
use Rattle.std.proofs.Common.{Bool, List, None, Option, Some, ap, arith, cond, false, inl, refl}
use Rattle.std.proofs.Common.{subst, sym, true, ℕ, [], ◌++◌, ◌+◌, ◌<◌, ◌∙◌, ◌∷◌, ◌≡◌}
use Rattle.std.specs.Prelude.{is_none, option_and_then, ◌==◌}
use Rattle.gb_base.specs.declared.download.Next.{Next}
use Rattle.gb_base.specs.declared.download.Next.TheVariants as next
use Rattle.gb_base.specs.declared.bridge.Reading.TheVariants as reading
use Rattle.gb_base.specs.declared.end.End.TheVariants as end
use Rattle.gb_base.specs.declared.end.Side.TheVariants as side
use Rattle.gb_base.specs.declared.entry.Entry.TheVariants as entry
use Rattle.gb_base.specs.declared.event.Event.TheVariants as event
use Rattle.gb_base.specs.declared.host_event.HostEvent.TheVariants as host_event
use Rattle.gb_base.specs.declared.outcome.Outcome.{Outcome}
use Rattle.gb_base.specs.declared.outcome.Outcome.TheVariants as outcome
use Rattle.gb_base.specs.declared.served.OwnAsk.{OwnAsk}
use Rattle.gb_formats.specs.Grammar.{default_timeout}
use Rattle.gb_formats.specs.Loader.{find_ask, is_running}
use Rattle.gb_formats.specs.Module.{Module}
use Rattle.gb_formats.specs.ModuleLoads.{ModuleLoaded, loader_at, module_ended, module_fail}
use Rattle.gb_formats.specs.ModuleLoads.{module_load, tag_at}
use Rattle.gb_formats.specs.Results.{success}
use Rattle.gb_machine.proofs.{Conditions.AreUnmet, Conditions.free, Opened.machine_opened}
use Rattle.gb_machine.proofs.{Options.some-of}
use Rattle.gb_machine.specs.Actions.{Action, Told, change, each, given, nothing, tell, when, ◌▸◌}
use Rattle.gb_machine.specs.Asking.{asked, asks as asking, asks_with}
use Rattle.gb_machine.specs.Bus.{Connection, Place, connection_of, end_of, next_number}
use Rattle.gb_machine.specs.HostActs.{follows, host_follows}
use Rattle.gb_machine.specs.Labels.{next_label}
use Rattle.gb_machine.specs.Lists.{holds_of}
use Rattle.gb_machine.specs.Loading.{asks_at, asks_next, begins as beginning, goes_on, load_ended}
use Rattle.gb_machine.specs.Loading.{load_follows, load_of, loads as loading, with_begun, with_done}
use Rattle.gb_machine.specs.Loading.{with_failed, with_next}
use Rattle.gb_machine.specs.OwnAsking.{far_asks}
use Rattle.gb_machine.specs.Refusals.{has_no_label, load_conditions, module_place, refusal}
use Rattle.gb_machine.specs.Sending.{Draft, draft, is_wired, label_for, sent}
use Rattle.gb_machine.specs.{Modules.module_at, Modules.with_module, Runs.Moment, State.Load}
use Rattle.gb_machine.specs.{State.Plugged, State.State}
use Rattle.gb_invariants.proofs.HostChanges.{at_event}
use Rattle.gb_invariants.proofs.Lists.{found-in}
use Rattle.gb_invariants.proofs.Numbers.{found-by_number}
use Rattle.gb_invariants.proofs.Outcomes.{same-number}
use Rattle.gb_laws.proofs.links.Draining.{FirstDrains}
use Rattle.gb_laws.proofs.links.DrainingKept.{FirstDrainsAt, draining-kept}
use Rattle.gb_laws.proofs.points.Awaited.{awaited-rest}
use Rattle.gb_laws.proofs.points.PointParts.{Point, Untouched, Wires, sent_told}
use Rattle.gb_laws.proofs.points.Places.{module-far, place-is}
use Rattle.gb_laws.proofs.points.Points.{Change, Going, HearsBack, IsFarAsking, IsGoing, IsHeard}
use Rattle.gb_laws.proofs.points.Points.{IsOver, Law, acts_asked, acts_failed, acts_left}
use Rattle.gb_laws.proofs.points.Points.{acts_made, acts_shut, acts_told, as_before, asks, begins}
use Rattle.gb_laws.proofs.points.Points.{by_far, by_host, by_loader, by_module, changed, continues}
use Rattle.gb_laws.proofs.points.Points.{finishes, loads_gone, modules_gone, others, tells}
use Rattle.gb_laws.proofs.points.Points.{trails_gone, turns}
use Rattle.gb_laws.proofs.steps.LoaderEnds.{IsSuccess, ModuleFollows, asks as follows_asks, done}
use Rattle.gb_laws.proofs.steps.LoaderEnds.{failed, module-follows}
use Rattle.gb_laws.proofs.steps.LoaderStays.{KeepsEach}
use Rattle.gb_laws.proofs.steps.LoadersPlugged.{keeps-module}
use Rattle.gb_laws.proofs.steps.StepActLaws.{ActLaw, IsActing, acting}
use Rattle.gb_laws.proofs.steps.StepActions.{At, Stays, goes-nothing, goes-tell, goes-▸}
use Rattle.gb_laws.proofs.steps.StepIdles.{goes-host_follows}
use Rattle.gb_laws.proofs.{svc.StayPlugged.module-plugs}

-- ---- what the application processor leaves

-- modules and their last requests are these
abbrev AreStill : List Plugged → List Load → State → Type 0
AreStill modules loads s = (s.modules ≡ modules) × (s.loads ≡ loads)

still-kept : (m : Moment) (modules : List Plugged) (loads : List Load) (a : Point) (x : Change m a)
    → IsActing m a x → AreStill modules loads a.state → AreStill modules loads (changed m a x).state
still-kept m modules loads a (tells e quiet) is h = h
still-kept m modules loads a (asks d c label free live drawn (by_host q rest at same none)) is h = h
still-kept m modules loads a (asks d c label free live drawn (by_far who on unloaded)) is h = h
still-kept m modules loads a (asks d c label free live drawn (by_loader x going who on)) is h =
    absurd is
still-kept m modules loads a (turns e free untouched none cause) is h = h
still-kept m modules loads a (acts_told e rest at quiet) is h = h
still-kept m modules loads a (acts_shut j rest free at cause) is h = h
still-kept m modules loads a (acts_left j rest free untouched at) is h = h
still-kept m modules loads a (acts_made w q rest free at) is h = h
still-kept m modules loads a (acts_asked q n rest at) is h =
    let r = awaited-rest q.purpose n in (r.modules ∙ h.0, r.loads ∙ h.1)
still-kept m modules loads a (acts_failed q rest at quiet) is h = h
still-kept m modules loads a _ is h = absurd is

-- they are where it has done what follows the end of a request
still-followed : (m : Moment) (n : ℕ) (how : Outcome) (s : State) → FirstDrains s.host.links
    → IsOver m (at_event (host_event.Ended n how)) s.bus
    → AreStill s.modules s.loads (host_follows n how s).state
still-followed m n how s first over =
    (goes-host_follows m still (λ a h. h.0) n how s over [] (first, (refl, refl))).1
  where
    still : ActLaw m
    still = record {
      holds = λ a. FirstDrainsAt a × AreStill s.modules s.loads a.state;
      kept = λ a x is h. (draining-kept a x h.0, still-kept m s.modules s.loads a x is h.1);
    }

module _ (m : Moment) (law : Law m) where
  -- an action that leads from rest to rest, whatever became of wires
  abbrev Rests : Wires → Action → State → Type 0
  Rests wires f s = Stays m (acting m law) None [] wires f s

  nothing-follows : (wires : Wires) (s : State) → Rests wires nothing s
  nothing-follows wires s = goes-nothing m (acting m law) None [] wires s

  -- a download fails
  rests-failed : (wires : Wires) (i c : ℕ) (x y : Module) (tag : List ℕ) (s : State)
      → module_at i s.modules ≡ Some x → KeepsEach x y
      → Rests wires (change (with_failed i y) ▸ tell (entry.Download i c tag None)) s
  unfolding machine_opened
  rests-failed wires i c x y tag s there keeps =
      goes-▸ m (acting m law) (change (with_failed i y)) (tell (entry.Download i c tag None))
      (λ told at. law.kept _ (others s.booted s.holds s.ports (with_module i y s.modules) (
        inl (
          module-plugs s i y,
          as_before refl,
          record { hand = refl; pending = refl; asked = refl },
          λ k n. inl n,
        ),
        keeps-module i y x s.modules there keeps,
      )) at)
      (goes-tell m (acting m law) None [] wires (entry.Download i c tag None)
      (with_failed i y s) refl)

  -- ---- a request

  -- what a firmware device asks on a connection
  abbrev own_draft : ℕ → OwnAsk → State → Draft
  own_draft k own s =
      draft k side.Far own.kind own.payload (s.now + default_timeout) own.oneway

  -- the state where it is asked, and so the firmware device is
  abbrev gone : Going → ℕ → OwnAsk → ℕ → State → State
  gone x k own label s = record s {
    bus = sent (own_draft k own s) label s.bus;
    modules = modules_gone x s.modules;
    loads = loads_gone x (next_number s.bus) s.loads;
    past = record s.past {
      loading = trails_gone x k (next_number s.bus) s.past.loading;
    };
  }

  -- it is asked, where an identifier is left
  rests-asked : (wires : Wires) (x : Going) (g : State → State) (own : OwnAsk) (k : ℕ)
      (c : Connection) (label : ℕ) (s : State) → connection_of k s.bus ≡ Some c → c.wired ≡ true
      → next_label k side.Far s.bus ≡ Some label → (own.kind < 128) × (own.oneway ≡ false)
      → IsGoing m s c (own_draft k own s) x → IsFarAsking m c (own_draft k own s)
      → g (record s { bus = sent (own_draft k own s) label s.bus }) ≡ gone x k own label s
      → Rests wires (far_asks k own ▸ change g) s
  unfolding machine_opened
  rests-asked wires x g own k c label s found wired left low going who same told at =
      subst (λ w. After (when w (asking d) s)) (sym (ap is_wired found ∙ wired))
      (subst (λ l. After (given (connection_of k s.bus) (λ e. given l (λ n. asks_with d e n)) s))
      (sym drawn)
      (subst (λ o. After (given o (λ e. asks_with d e label) s)) (sym found)
      (subst (λ t. After (asked_so t)) (sym low.1)
      (subst (λ w. At m (acting m law) None [] wires (told ++ asked d c label s.bus ∷ []) w)
      (sym same) (subst (λ t. At m (acting m law) None [] wires
      (told ++ asked d c label s.bus ∷ sent_told t (next_number s.bus)) (gone x k own label s))
      low.1 (law.kept _
      (asks d c label refl found drawn (by_loader x going who (wired, low.0))) at))))))
    where
      d : Draft
      d = own_draft k own s

      drawn : label_for d s.bus ≡ Some label
      drawn = ap (λ t. cond t (Some 0) (next_label k side.Far s.bus)) low.1 ∙ left

      After : Told → Type 0
      After r = At m (acting m law) None [] wires (told ++ (r.entries ++ [])) (g r.state)

      -- what is asked, where it is unidirectional or not
      asked_so : Bool → Told
      asked_so t =
          let behind = when t (tell (entry.Ended (next_number s.bus) outcome.Sent reading.Nothing))
          (record s { bus = sent d label s.bus }) in
          record { state = behind.state; entries = asked d c label s.bus ∷ behind.entries }

  -- ---- a download begins

  pub rests-loads : (i c : ℕ) (tag : List ℕ) → m.event ≡ event.Load i c tag
      → refusal m.before (event.Load i c tag) ≡ None → Rests Untouched (loading i c tag) m.before
  unfolding machine_opened
  rests-loads i c tag is allowed = at_place (module_place i c m.before) refl
    where
      met : AreUnmet (load_conditions m.before i c)
      met = free m.before (event.Load i c tag) allowed

      begins_at : (p : Place) → module_place i c m.before ≡ Some p → (y : Module)
          → module_at i m.before.modules ≡ Some y
          → Rests Untouched (beginning i c tag p.connection.number y) m.before
      begins_at p e y f told at =
          let loader = some-of (loader_at y c)
          (sym (ap (λ o. is_none (option_and_then (λ x. loader_at x c) o)) f) ∙ met.1.0) in
          let idle = sym (ap (holds_of is_running)
          (ap (option_and_then (λ x. loader_at x c)) f ∙ loader.1)) ∙ met.1.1.1.0 in
          let label = some-of (next_label p.connection.number side.Far m.before.bus)
          (sym (ap (holds_of (λ q. has_no_label q.connection.number side.Far m.before)) e)
          ∙ met.1.1.1.1.0) in
          let place = place-is (end.Module i c) m.before.bus.connections p e in
          let peer = sym (ap (λ t. end_of t p.connection)
          (module-far i c p.side p.connection place.is)) ∙ place.is in
          let x = begins i c (module_load y c tag) in
          rests-asked Untouched x
          (with_begun i c p.connection.number (next_number m.before.bus) (module_load y c tag))
          (find_ask tag) p.connection.number p.connection label.0 m.before
          (found-by_number m.before.bus.connections p.connection
          (law.basis _ at).bus.numbers.rise place.live) place.wired label.1 (omega arith, refl)
          (tag, y, is, refl, peer, f, refl, loader.0, loader.1, idle, (refl, refl, refl))
          (by_module i c peer refl) refl told at

      at_module : (p : Place) → module_place i c m.before ≡ Some p → (o : Option Module)
          → module_at i m.before.modules ≡ o
          → Rests Untouched (given o (beginning i c tag p.connection.number)) m.before
      at_module p e None f = nothing-follows Untouched m.before
      at_module p e (Some y) f = begins_at p e y f

      at_place : (o : Option Place) → module_place i c m.before ≡ o
          → Rests Untouched (given o (λ p. given (module_at i m.before.modules)
          (beginning i c tag p.connection.number))) m.before
      at_place None e = nothing-follows Untouched m.before
      at_place (Some p) e = at_module p e (module_at i m.before.modules) refl

  -- ---- a download goes on

  -- Why a firmware device hears of an end: where it is an answer of success it is delivered at this
  -- moment, and firmware devices are as before it.
  abbrev pub Hears : ℕ → Outcome → State → Type 0
  Hears n how s = (payload : List ℕ) → how ≡ outcome.Answered success payload
      → IsHeard m n payload × AreStill m.before.modules m.before.loads s

  -- the next request, or a failure
  rests-asks_at : (wires : Wires) (i c : ℕ) (own : OwnAsk) (x y : Module) (o : Option Place)
      (s : State) → module_place i c s ≡ o → module_at i s.modules ≡ Some x
      → HearsBack m s i c y (next.Ask own) → (own.kind < 128) × (own.oneway ≡ false)
      → KeepsEach x (module_fail y c) → Rests wires (asks_at o i c own y) s
  unfolding machine_opened
  rests-asks_at wires i c own x y None s e there heard low keeps told at =
      rests-failed wires i c x (module_fail y c) (tag_at y c) s there keeps told at
  rests-asks_at wires i c own x y (Some p) s e there heard low keeps told at =
      by (next_label p.connection.number side.Far s.bus) refl told at
    where
      by : (l : Option ℕ) → next_label p.connection.number side.Far s.bus ≡ l
          → Rests wires (asks_next l p.connection.number i c own y) s
      by None f told at =
          rests-failed wires i c x (module_fail y c) (tag_at y c) s there keeps told at
      by (Some label) f told at =
          let place = place-is (end.Module i c) s.bus.connections p e in
          let peer = sym (ap (λ t. end_of t p.connection)
          (module-far i c p.side p.connection place.is)) ∙ place.is in
          rests-asked wires (continues i c y) (with_next i c (next_number s.bus) y) own
          p.connection.number p.connection label s
          (found-by_number s.bus.connections p.connection (law.basis _ at).bus.numbers.rise
          place.live) place.wired f low (own, peer, heard, (refl, refl, refl))
          (by_module i c peer refl) refl told at

  -- behind the end of a request
  pub rests-load_follows : (wires : Wires) (n : ℕ) (how : Outcome) (s : State) → Hears n how s
      → Rests wires (load_follows n how) s
  unfolding machine_opened
  rests-load_follows wires n how s hears = by (load_of n s.loads) refl
    where
      -- what is heard back
      back : (l : Load) → load_of n s.loads ≡ Some l → (x : Module)
          → module_at l.intf s.modules ≡ Some x → (t : ModuleLoaded)
          → module_ended x l.cport how ≡ Some t → (what : Next) → t.next ≡ what → IsSuccess how
          → HearsBack m s l.intf l.cport t.after what
      back l load x there t ends what is won =
          let same : l.request ≡ n =
          same-number l.request n (found-in (λ (k : Load). k.request == n) s.loads l load).1 in
          let h = hears won.0 won.1 in record {
            last = l;
            payload = won.0;
            body = x;
            load = ap (λ k. load_of k s.loads) same ∙ load;
            intf = refl;
            cport = refl;
            heard = subst (λ k. IsHeard m k won.0) (sym same) h.0;
            plugged = there;
            ends = ap (module_ended x l.cport) (sym won.1) ∙ ends
                ∙ ap (λ w. Some (record { after = t.after; next = w })) is;
            modules = h.1.0;
            loads = h.1.1;
          }

      next_is : (l : Load) → load_of n s.loads ≡ Some l → (x : Module)
          → module_at l.intf s.modules ≡ Some x → (t : ModuleLoaded)
          → module_ended x l.cport how ≡ Some t → ModuleFollows x l.cport how t
          → Rests wires (goes_on l.intf l.cport t.next t.after) s
      next_is l load x there t ends (follows_asks own is won low keeps) =
          subst (λ w. Rests wires (goes_on l.intf l.cport w t.after) s) (sym is)
          (rests-asks_at wires l.intf l.cport own x t.after (module_place l.intf l.cport s) s refl
          there (back l load x there t ends (next.Ask own) is won) low keeps)
      next_is l load x there t ends (done tag size is won) =
          subst (λ w. Rests wires (goes_on l.intf l.cport w t.after) s) (sym is)
          (goes-▸ m (acting m law) (change (with_done l.intf l.cport t.after))
          (tell (entry.Download l.intf l.cport tag (Some size)))
          (λ told at. law.kept _ (finishes l.intf l.cport t.after tag size
          (record { hand = refl; pending = refl; asked = refl })
          (back l load x there t ends (next.Done tag size) is won)) at)
          (goes-tell m (acting m law) None [] wires
          (entry.Download l.intf l.cport tag (Some size))
          (with_done l.intf l.cport t.after s) refl))
      next_is l load x there t ends (failed tag is keeps) =
          subst (λ w. Rests wires (goes_on l.intf l.cport w t.after) s) (sym is)
          (rests-failed wires l.intf l.cport x t.after tag s there keeps)

      ended_as : (l : Load) → load_of n s.loads ≡ Some l → (x : Module)
          → module_at l.intf s.modules ≡ Some x → (o : Option ModuleLoaded)
          → module_ended x l.cport how ≡ o
          → Rests wires (given o (λ t. goes_on l.intf l.cport t.next t.after)) s
      ended_as l load x there None ends = nothing-follows wires s
      ended_as l load x there (Some t) ends =
          next_is l load x there t ends (module-follows x l.cport how t ends)

      at_module : (l : Load) → load_of n s.loads ≡ Some l → (o : Option Module)
          → module_at l.intf s.modules ≡ o → Rests wires (given o (λ x.
          given (module_ended x l.cport how) (λ t. goes_on l.intf l.cport t.next t.after))) s
      at_module l load None e = nothing-follows wires s
      at_module l load (Some x) e = ended_as l load x e (module_ended x l.cport how) refl

      by : (o : Option Load) → load_of n s.loads ≡ o → Rests wires (given o (load_ended how)) s
      by None e = nothing-follows wires s
      by (Some l) e = at_module l e (module_at l.intf s.modules) refl

  -- a request ended
  pub goes-follows : (n : ℕ) (how : Outcome) (s : State)
      → IsOver m (at_event (host_event.Ended n how)) s.bus → Hears n how s
      → Rests Untouched (follows n how) s
  unfolding machine_opened
  goes-follows n how s over hears told at =
      let still = still-followed m n how s (law.basis _ at).drains over in
      goes-▸ m (acting m law) (host_follows n how) (load_follows n how)
      (goes-host_follows m (acting m law) (λ a h. (law.basis a h).drains) n how s over)
      (rests-load_follows Untouched n how (host_follows n how s).state (λ payload is.
      let h = hears payload is in (h.0, (still.0 ∙ h.1.0, still.1 ∙ h.1.1)))) told at

  -- requests were disconnected
  pub rests-loads_fail : (wires : Wires) (ns : List ℕ) (s : State)
      → Rests wires (each ns (λ n. load_follows n outcome.Disconnected)) s
  unfolding machine_opened
  rests-loads_fail wires [] s = nothing-follows wires s
  rests-loads_fail wires (n ∷ ns) s =
      goes-▸ m (acting m law) (load_follows n outcome.Disconnected)
      (each ns (λ k. load_follows k outcome.Disconnected))
      (rests-load_follows wires n outcome.Disconnected s (λ payload is. absurd cc))
      (rests-loads_fail wires ns (load_follows n outcome.Disconnected s).state)
