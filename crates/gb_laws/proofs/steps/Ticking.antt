-- A law of points goes over ticks and pulls.
use Rattle.std.proofs.Common.{Bool, List, None, Option, Some, ap, append-nil, append_assoc, arith}
use Rattle.std.proofs.Common.{cond, false, inl, inr, map, refl, subst, sym, true, ℕ, ⊎_elim, []}
use Rattle.std.proofs.Common.{◌++◌, ◌+◌, ◌<◌, ◌∙◌, ◌∷◌, ◌≡◌, ◌≢◌, ◌⊎◌}
use Rattle.std.proofs.lemmas.Bool.Decides.{nat_tests}
use Rattle.std.specs.List.{filter}
use Rattle.std.specs.Prelude.{is_some, ◌==◌}
use Rattle.gb_base.specs.declared.end.End.{End}
use Rattle.gb_base.specs.declared.end.End.TheVariants as end
use Rattle.gb_base.specs.declared.end.Side.TheVariants as side
use Rattle.gb_base.specs.declared.entry.Entry.{Entry}
use Rattle.gb_base.specs.declared.event.Event.TheVariants as event
use Rattle.gb_base.specs.declared.outcome.Outcome.TheVariants as outcome
use Rattle.gb_formats.specs.SvcRecords.{SvcAsk, svc_ask_kind, svc_ask_payload}
use Rattle.gb_formats.specs.Grammar.{default_timeout}
use Rattle.gb_machine.proofs.Opened.{machine_opened}
use Rattle.gb_machine.specs.Actions.{Action, change, each, given, nothing, when, ◌▸◌}
use Rattle.gb_machine.specs.Asking.{asks, asks_with}
use Rattle.gb_machine.specs.Sending.{Draft, draft, is_wired, label_for}
use Rattle.gb_machine.specs.Bus.{Bus, Connection, connection_of, has_number, next_number}
use Rattle.gb_machine.specs.Bus.{request_of}
use Rattle.gb_machine.specs.GivingUp.{gives_up, later_by, ticks, times_out}
use Rattle.gb_machine.specs.Members.{Each, EachTwo, IsIn}
use Rattle.gb_machine.specs.Plugging.{pulls, pulls_module, pulls_one, recalled, tells_removed}
use Rattle.gb_machine.specs.Plugging.{wired_numbers, with_pulled, with_told}
use Rattle.gb_machine.specs.Ports.{is_port, level_in, level_of, unpowered}
use Rattle.gb_machine.specs.Wiring.{is_at, is_wired_to, unwired}
use Rattle.gb_machine.specs.{OwnAsking.svc_asks, OwnAsking.svc_own, Requests.is_due}
use Rattle.gb_machine.specs.{Requests.open_on, Runs.Moment, State.Port, State.State}
use Rattle.gb_machine.specs.Wires as wiring
use Rattle.gb_machine.specs.State.{Plugged}
use Rattle.gb_machine.specs.Modules.{interfaces_of, part_at}
use Rattle.gb_invariants.proofs.Lists.{at_first-stays, two-filter}
use Rattle.gb_invariants.proofs.Outcomes.{Rise, both-true, open_requests-rise, same-number}
use Rattle.gb_invariants.proofs.Found.{find-left, none-of}
use Rattle.gb_invariants.specs.Facts.{IsBefore}
use Rattle.gb_laws.proofs.points.Overdue.{IsOverdue, overdue-first, overdue-others}
use Rattle.gb_laws.proofs.points.PointParts.{Untouched, Unwired, Wired, Wires}
use Rattle.gb_laws.proofs.points.Points.{IsLive, IsOfSvc, Law, by_svc, others, passes, recalls}
use Rattle.gb_laws.proofs.points.Points.{unloads, unwires as unwiring}
use Rattle.gb_laws.proofs.steps.LoadersPlugged.{keeps-unplugged, none-unplugged}
use Rattle.gb_laws.proofs.steps.StepActions.{At, goes-far_asks}
use Rattle.gb_laws.proofs.steps.StepPlugs.{Rests, rests-nothing, rests-▸}
use Rattle.gb_laws.proofs.{steps.StepActLaws.acting, steps.StepEvents.rests-gives_up}
use Rattle.gb_laws.proofs.{steps.StepSvcServes.Ends}
pub use Rattle.gb_laws.proofs.points.Overdue.{due_by}

-- ---- a connection that isn't unwired stays live

live-unwired : (n k : ℕ) (t : Bool) (b : Bus) → n < k → IsLive k t b → IsLive k t (unwired n b)
live-unwired n k t b less h = record {
  connection = h.connection;
  live = at_first-stays (has_number n) _ b.connections h.connection h.live
      (let e = h.number in grind (arith, nat_tests));
  number = h.number;
  wired = h.wired;
  intf = h.intf;
  cport = h.cport;
  peer = h.peer;
}

-- where a module is pulled, its interface has no power, and others stay
pulled-off : (i : ℕ) (ports : List Port) → level_of i (unpowered i ports) ≡ 0
pulled-off i ports = ap level_in (none-of (is_port i) ports)

unpowered-off : (i j : ℕ) (ports : List Port) (t : Bool) → (j == i) ≡ t
    → (level_of j (unpowered i ports) ≡ level_of j ports) ⊎ (level_of j (unpowered i ports) ≡ 0)
unpowered-off i j ports true e =
    inr (ap (λ n. level_of n (unpowered i ports)) (same-number j i e) ∙ pulled-off i ports)
unpowered-off i j ports false e =
    inl (ap level_in (find-left (is_port j) (is_port i) ports (λ p h. other p.intf h)))
  where
    other : (n : ℕ) → (n == j) ≡ true → (n == i) ≡ false
    other n h = grind (arith, nat_tests, e, h)

-- what is plugged and power levels stay where connections are unwired
pub unwired-plugs : (ns : List ℕ) (s : State)
    → ((each ns wiring.unwires s).state.modules ≡ s.modules)
    × ((each ns wiring.unwires s).state.ports ≡ s.ports)
unfolding machine_opened
unwired-plugs [] s = (refl, refl)
unwired-plugs (n ∷ ns) s = unwired-plugs ns (wiring.with_unwired n s)

-- the power of an interface that is pulled is off, and stays so while others are
one-off : (i : ℕ) (s : State) → level_of i (pulls_one i s).state.ports ≡ 0
unfolding machine_opened
one-off i s = pulled-off i (each (wired_numbers i s.bus) wiring.unwires s).state.ports

off-stays : (j i : ℕ) (s : State) → level_of j s.ports ≡ 0
    → level_of j (pulls_one i s).state.ports ≡ 0
unfolding machine_opened
off-stays j i s off = ⊎_elim (λ e. e ∙ ap (level_of j) (unwired-plugs (wired_numbers i s.bus) s).1
    ∙ off) (λ e. e)
    (unpowered-off i j (each (wired_numbers i s.bus) wiring.unwires s).state.ports (j == i) refl)

all-off : (j : ℕ) (is : List ℕ) (s : State) → level_of j s.ports ≡ 0
    → level_of j (each is pulls_one s).state.ports ≡ 0
unfolding machine_opened
all-off j [] s off = off
all-off j (i ∷ is) s off = all-off j is (pulls_one i s).state (off-stays j i s off)

each-off : (is : List ℕ) (s : State)
    → Each (λ j. level_of j (each is pulls_one s).state.ports ≡ 0) is
unfolding machine_opened
each-off [] s = tt
each-off (i ∷ is) s = (
  all-off i is (pulls_one i s).state (one-off i s),
  each-off is (pulls_one i s).state,
)

-- power levels stay where the supervisory controller asks
asked-ports : (ask : SvcAsk) (s : State) → (svc_asks ask s).state.ports ≡ s.ports
unfolding machine_opened
asked-ports ask s = wired (is_wired (connection_of 1 s.bus))
  where
    d : Draft
    d = draft 1 side.Far (svc_ask_kind ask) (svc_ask_payload ask) (s.now + default_timeout) false

    by : (o : Option Connection) (l : Option ℕ)
        → (given o (λ c. given l (λ label. asks_with d c label)) s).state.ports ≡ s.ports
    by None l = refl
    by (Some c) None = refl
    by (Some c) (Some label) = refl

    wired : (t : Bool) → (when t (asks d) s).state.ports ≡ s.ports
    wired true = by (connection_of 1 s.bus) (label_for d s.bus)
    wired false = refl

-- what is wired to an interface is wired to a module
is_at-module : (i : ℕ) (e : End) → is_at i e ≡ true → (c : ℕ) × (e ≡ end.Module i c)
is_at-module i (end.Module j c) h = (c, ap (λ k. end.Module k c) (same-number j i h))
is_at-module i (end.Ap a) h = absurd cc
is_at-module i end.Svc h = absurd cc

pub wired-live : (i : ℕ) (b : Bus) (cs : List Connection)
    → ((c : Connection) → IsIn c cs → IsIn c b.connections)
    → Each (λ n. IsLive n true b) (map (λ (c : Connection). c.number) (filter (is_wired_to i) cs))
wired-live i b [] within = tt
wired-live i b (c ∷ cs) within =
    by (is_wired_to i c) refl (wired-live i b cs (λ d j. within d (inr j)))
  where
    by : (t : Bool) → is_wired_to i c ≡ t
        → Each (λ n. IsLive n true b) (map (λ (c : Connection). c.number)
        (filter (is_wired_to i) cs))
        → Each (λ n. IsLive n true b) (map (λ (c : Connection). c.number)
        (cond t (c ∷ filter (is_wired_to i) cs) (filter (is_wired_to i) cs)))
    by false e rest = rest
    by true e rest =
        let p = both-true c.wired (is_at i c.peer) e in
        let at = is_at-module i c.peer p.1 in (
          record {
            connection = c;
            live = within c (inl refl);
            number = refl;
            wired = p.0;
            intf = i;
            cport = at.0;
            peer = at.1;
          },
          rest,
        )

wired-rise : (cs : List Connection) → EachTwo IsBefore cs
    → Rise (map (λ (c : Connection). c.number) cs)
wired-rise [] h = tt
wired-rise (c ∷ cs) h = (above cs h.0, wired-rise cs h.1)
  where
    above : (ds : List Connection) → Each (IsBefore c) ds
        → Each (λ n. c.number < n) (map (λ (d : Connection). d.number) ds)
    above [] k = tt
    above (d ∷ ds) k = (k.0, above ds k.1)

-- ---- ticks and pulls

module _ (m : Moment) (law : Law m) where
  -- Midway through a tick: these requests are to be given up yet.
  pub record Ticks (ns : List ℕ) (told : List Entry) (s : State) : Type 0 where
    pub rise : Rise ns
    pub late : Each (λ n. IsOverdue m n s) ns
    pub holds : At m (acting m law) None [] Untouched told s

  -- one more is given up
  pub ticks-next : (n : ℕ) (ns : List ℕ) (told : List Entry) (s : State) → Ticks (n ∷ ns) told s
      → Ticks ns (told ++ (gives_up outcome.Timeout n s).entries)
      (gives_up outcome.Timeout n s).state
  ticks-next n ns told s h = record {
    rise = h.rise.1;
    late = overdue-others m n ns s (law.basis _ h.holds).drains h.rise.0 h.late.1;
    holds = rests-gives_up m law n outcome.Timeout s h.late.0.unended h.late.0.late told h.holds;
  }

  rests-overdue : (ns : List ℕ) (s : State) → Rise ns → Each (λ n. IsOverdue m n s) ns
      → Rests m law (each ns (gives_up outcome.Timeout)) s
  unfolding machine_opened
  rests-overdue [] s rise late told at = rests-nothing m law s told at
  rests-overdue (n ∷ ns) s rise late told at =
      rests-▸ m law (gives_up outcome.Timeout n) (each ns (gives_up outcome.Timeout)) s
      (rests-gives_up m law n outcome.Timeout s late.0.unended late.0.late)
      (rests-overdue ns (gives_up outcome.Timeout n s).state rise.1
      (overdue-others m n ns s (law.basis _ at).drains rise.0 late.1)) told at

  -- time has passed, and nothing is given up yet
  pub ticks-first : (millis : ℕ) (told : List Entry) → m.event ≡ event.Tick millis
      → At m (acting m law) None [] Untouched told m.before
      → Ticks (due_by (m.before.now + millis) m.before) (told ++ []) (later_by millis m.before)
  ticks-first millis told is at = record {
    rise = open_requests-rise (is_due (m.before.now + millis)) m.before.bus;
    late = overdue-first m millis is;
    holds = law.kept _ (passes millis) at;
  }

  pub rests-ticks : (millis : ℕ) → m.event ≡ event.Tick millis → Rests m law (ticks millis) m.before
  unfolding machine_opened
  rests-ticks millis is =
      rests-▸ m law (change (later_by millis)) times_out m.before
      (λ told at. law.kept _ (passes millis) at)
      (rests-overdue (due_by (m.before.now + millis) m.before) (later_by millis m.before)
      (open_requests-rise (is_due (m.before.now + millis)) m.before.bus)
      (overdue-first m millis is))

  -- what was unwired leaves the law, with what became of wires
  record Unwires (told : List Entry) (s : State) : Type 0 where
    wires : Wires
    is : wires ≢ Wired
    holds : At m (acting m law) None [] wires told s

  -- an action keeps the law, and what became of wires
  abbrev Cuts : Action → State → Type 0
  Cuts f s = (told : List Entry) → Unwires told s → Unwires (told ++ (f s).entries) (f s).state

  cuts-▸ : (f g : Action) (s : State) → Cuts f s → Cuts g (f s).state → Cuts (f ▸ g) s
  unfolding machine_opened
  cuts-▸ f g s h k told u =
      subst (λ es. Unwires es (g (f s).state).state)
      (append_assoc told (f s).entries (g (f s).state).entries)
      (k (told ++ (f s).entries) (h told u))

  unwires-each : (ns : List ℕ) (s : State) → Rise ns → Each (λ n. IsLive n true s.bus) ns
      → Cuts (each ns wiring.unwires) s
  unfolding machine_opened
  unwires-each [] s rise live told h =
      record {
        wires = h.wires;
        is = h.is;
        holds = subst
            (λ es. At m (acting m law) None [] h.wires es s) (sym (append-nil told)) h.holds;
      }
  unwires-each (n ∷ ns) s rise live told h =
      let ends = map wiring.disconnected_told (open_on n side.Far s.bus) in
      let rest = unwires-each ns (wiring.with_unwired n s) rise.1 (later ns rise.0 live.1)
      (told ++ ends) (record {
        wires = Unwired;
        is = λ e. absurd cc;
        holds = law.kept _ (unwiring n refl h.is live.0) h.holds;
      }) in
      subst (λ es. Unwires es (each ns wiring.unwires (wiring.with_unwired n s)).state)
      (append_assoc told ends (each ns wiring.unwires (wiring.with_unwired n s)).entries) rest
    where
      later : (ks : List ℕ) → Each (λ k. n < k) ks → Each (λ k. IsLive k true s.bus) ks
          → Each (λ k. IsLive k true (wiring.with_unwired n s).bus) ks
      later [] a b = tt
      later (k ∷ ks) a b = (live-unwired n k true s.bus a.0 b.0, later ks a.1 b.1)

  -- one interface is pulled
  cuts-one : IsOfSvc m.event → (i : ℕ) (s : State) → Cuts (pulls_one i) s
  unfolding machine_opened
  cuts-one of i s told u =
      let rise = wired-rise (filter (is_wired_to i) s.bus.connections)
      (two-filter IsBefore (is_wired_to i) s.bus.connections
      (law.basis _ u.holds).bus.numbers.rise) in
      cuts-▸ (each (wired_numbers i s.bus) wiring.unwires) (change (with_pulled i)) s
      (unwires-each (wired_numbers i s.bus) s rise
      (wired-live i s.bus s.bus.connections (λ c j. j)))
      (gone (each (wired_numbers i s.bus) wiring.unwires s).state) told u
    where
      gone : (w : State) → Cuts (change (with_pulled i)) w
      gone w told u = record {
        wires = u.wires;
        is = u.is;
        holds = subst
            (λ es. At m (acting m law) None [] u.wires es (with_pulled i w))
            (append-nil (told ++ []))
            (law.kept _ (unloads i of (none-unplugged i w.modules))
            (law.kept _ (others w.booted w.holds (with_pulled i w).ports
            (with_pulled i w).modules (
              inr (
                of,
                λ j. unpowered-off i j w.ports (j == i) refl,
                λ k n. inl n,
              ),
              keeps-unplugged i w.modules,
            )) u.holds));
      }

  cuts-nothing : (s : State) → Cuts nothing s
  unfolding machine_opened
  cuts-nothing s told u = record {
    wires = u.wires;
    is = u.is;
    holds = subst (λ es. At m (acting m law) None [] u.wires es s) (sym (append-nil told)) u.holds;
  }

  cuts-each : IsOfSvc m.event → (is : List ℕ) (s : State) → Cuts (each is pulls_one) s
  unfolding machine_opened
  cuts-each of [] s = cuts-nothing s
  cuts-each of (i ∷ is) s = cuts-▸ (pulls_one i) (each is pulls_one) s (cuts-one of i s)
      (cuts-each of is (pulls_one i s).state)

  -- what was asked is remembered, one interface after another
  remembers : IsOfSvc m.event → (n : ℕ) (is : List ℕ) (t : State) (w : Wires) (told : List Entry)
      → is_some (request_of n t.bus) ≡ true → Each (λ i. level_of i t.ports ≡ 0) is
      → At m (acting m law) None [] w told t
      → At m (acting m law) None [] w told (with_told n is t)
  remembers of n [] t w told made off at =
      subst (λ ps. At m (acting m law) None [] w told (record t {
        past = record t.past { pulled = ps };
      })) (sym (append-nil t.past.pulled)) at
  remembers of n (i ∷ is) t w told made off at =
      subst (λ ps. At m (acting m law) None [] w told (record t {
        past = record t.past { pulled = ps };
      })) (append_assoc t.past.pulled ((n, i) ∷ []) (map (λ j. (n, j)) is))
      (subst (λ es. At m (acting m law) None [] w es (with_told n is (with_told n (i ∷ []) t)))
      (append-nil told) (remembers of n is (with_told n (i ∷ []) t) w (told ++ []) made off.1
      (law.kept _ (recalls n i of (made, off.0)) at)))

  recall : IsOfSvc m.event → (n : ℕ) (is : List ℕ) (t : State)
      → Each (λ i. level_of i t.ports ≡ 0) is → Cuts (change (recalled n is)) t
  unfolding machine_opened
  recall of n is t off told u = record {
    wires = u.wires;
    is = u.is;
    holds = subst (λ es. At m (acting m law) None [] u.wires es (recalled n is t))
        (sym (append-nil told)) (by (is_some (request_of n t.bus)) refl);
  }
    where
      by : (b : Bool) → is_some (request_of n t.bus) ≡ b
          → At m (acting m law) None [] u.wires told (cond b (with_told n is t) t)
      by true e = remembers of n is t u.wires told e off u.holds
      by false e = u.holds

  asks-removed : IsOfSvc m.event → (i : ℕ) (w : State) → Cuts (svc_asks (SvcAsk.ModuleRemoved i)) w
  unfolding machine_opened
  asks-removed of i w told u = record {
    wires = u.wires;
    is = u.is;
    holds = goes-far_asks m (acting m law) [] u.wires 1 (svc_own (SvcAsk.ModuleRemoved i)) w
        (λ c e. (by_svc of refl, inl refl)) (omega arith) told u.holds;
  }

  cuts-module : IsOfSvc m.event → (p : Plugged) (s : State) → Cuts (pulls_module p) s
  unfolding machine_opened
  cuts-module of p s =
      cuts-▸ (each (interfaces_of p) pulls_one)
      (when s.booted (tells_removed p.primary (interfaces_of p))) s
      (cuts-each of (interfaces_of p) s)
      (tells s.booted (each (interfaces_of p) pulls_one s).state (each-off (interfaces_of p) s))
    where
      tells : (b : Bool) (w : State) → Each (λ i. level_of i w.ports ≡ 0) (interfaces_of p)
          → Cuts (when b (tells_removed p.primary (interfaces_of p))) w
      tells true w off = cuts-▸ (svc_asks (SvcAsk.ModuleRemoved p.primary))
          (change (recalled (next_number w.bus) (interfaces_of p))) w
          (asks-removed of p.primary w)
          (recall of (next_number w.bus) (interfaces_of p)
          (svc_asks (SvcAsk.ModuleRemoved p.primary) w).state
          (subst (λ ps. Each (λ i. level_of i ps ≡ 0) (interfaces_of p))
          (sym (asked-ports (SvcAsk.ModuleRemoved p.primary) w)) off))
      tells false w off = cuts-nothing w

  pub ends-pulls : IsOfSvc m.event → (i : ℕ) → Ends m law None (pulls i) m.before
  unfolding machine_opened
  ends-pulls of i told at =
      let r = by (part_at i m.before.modules) told
      (record { wires = Untouched; is = λ e. absurd cc; holds = at }) in (r.wires, r.holds)
    where
      by : (o : Option Plugged) → Cuts (given o pulls_module) m.before
      by None = cuts-nothing m.before
      by (Some p) = cuts-module of p m.before
