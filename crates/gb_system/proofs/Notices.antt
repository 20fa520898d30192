-- The acts of a turn are done one after another, as the machine does them.
use Rattle.std.proofs.Common.{◌≡◌, ℕ, Bool, true, false, Option, Some, None, IsSome, List, [], ◌∷◌}
use Rattle.std.proofs.Common.{append-nil, append_assoc, arith, refl, sym, ap, ◌∙◌, subst}
use Rattle.gb_base.specs.declared.end.Side.TheVariants as side
use Rattle.gb_base.specs.declared.entry.Entry.{Entry}
use Rattle.gb_base.specs.declared.host_event.HostEvent.{HostEvent}
use Rattle.gb_base.specs.declared.host_event.HostEvent.TheVariants as host_event
use Rattle.gb_host.specs.Turning.{HasInterfaces, Pends, Turns, asks, spelled}
use Rattle.gb_host.specs.declared.acts.Act as code
use Rattle.gb_host.specs.declared.acts.Act.TheVariants as act
use Rattle.gb_host.specs.declared.host.Host.{Host}
use Rattle.gb_machine.proofs.Opened.{machine_opened}
use Rattle.gb_machine.specs.Actions.{Action, Told, each, nothing, on_bus, tell, ◌▸◌}
use Rattle.gb_machine.specs.Bus.{Bus}
use Rattle.gb_machine.specs.Failures.{unsent}
use Rattle.gb_machine.specs.HostActs.{acts, fails, host_asks, notices, made_with}
use Rattle.gb_machine.specs.HostTurns.{host_turn}
use Rattle.gb_machine.specs.Labels.{next_label}
use Rattle.gb_machine.specs.State.{State}
use Rattle.gb_machine.specs.Turns.{Act, Asking, Making}
use Rattle.gb_machine.specs.Wires.{shuts}
use Rattle.gb_machine.specs.Wiring.{detached, shut_down}
use Rattle.gb_system.proofs.Midways.{Midway, midway-as, midway-end, midway-here, midway-more}
use Rattle.gb_system.proofs.Standing.{rehosted}
use Rattle.gb_system.specs.Acting.{ActsAs, makes}
use Rattle.gb_laws.specs.Possible.{AreAsks, AreInterfaces, ArePossible, MayTurn}
use Rattle.gb_system.specs.Doing.{Does}
use Rattle.gb_system.specs.Stands.{PartsStand}
use Rattle.gb_system.specs.declared.parties.Parties.{Parties}

-- ---- the machine's acts

each-acts : (a : Act) (more : List Act) → each (a ∷ more) acts ≡ acts a ▸ each more acts
unfolding machine_opened
each-acts a more = refl

no-acts : each [] acts ≡ nothing
unfolding machine_opened
no-acts = refl

-- a connection is opened where an identifier is left: it is made, and then its request
opens-some : (m : Making) (q : Asking) (more : List Act) (s : State) (label : ℕ)
    → next_label q.on side.Ap s.bus ≡ Some label
    → (acts (Act.Make m q) ▸ each more acts) s ≡ (makes m ▸ each (Act.Ask q ∷ more) acts) s
unfolding machine_opened makes
opens-some m q more s label left =
    ap (λ o. (made_with o m q ▸ each more acts) s) left
    ∙ ap (λ es. record { state = last.state; entries = es })
    (append_assoc (makes m s).entries (host_asks q mid).entries last.entries)
  where
    mid : State
    mid = (makes m s).state

    last : Told
    last = each more acts (host_asks q mid).state

-- its request fails where none is left
opens-none : (m : Making) (q : Asking) (more : List Act) (s : State)
    → next_label q.on side.Ap s.bus ≡ None
    → (acts (Act.Make m q) ▸ each more acts) s ≡ (fails (unsent q.purpose) ▸ each more acts) s
unfolding machine_opened
opens-none m q more s none = ap (λ o. (made_with o m q ▸ each more acts) s) none

acts-ask : (q : Asking) → acts (Act.Ask q) ≡ host_asks q
unfolding machine_opened
acts-ask q = refl

acts-shut : (k : ℕ) → acts (Act.Shut k) ≡ shuts k
unfolding machine_opened
acts-shut k = refl

acts-leave : (k : ℕ) → acts (Act.Leave k) ≡ on_bus (detached k)
unfolding machine_opened
acts-leave k = refl

acts-tell : (e : Entry) → acts (Act.Tell e) ≡ tell e
unfolding machine_opened
acts-tell e = refl

-- the bus after each
shut-bus : (k : ℕ) (s : State) → (shuts k s).state.bus ≡ shut_down k s.bus
unfolding machine_opened
shut-bus k s = refl

left-bus : (k : ℕ) (s : State) → (on_bus (detached k) s).state.bus ≡ detached k s.bus
unfolding machine_opened
left-bus k s = refl

told-bus : (e : Entry) (s : State) → (tell e s).state.bus ≡ s.bus
unfolding machine_opened
told-bus e s = refl

-- ---- midway through the acts

-- what is left of the code's acts are those of the machine's, after one that is left out or not
abbrev pub IsLeft : Bool → List code.Act → List Act → Type 0
IsLeft false left rest = left ≡ spelled rest
IsLeft true left rest = (a : code.Act) × (left ≡ a ∷ spelled rest)

pub record Acting (x : Parties) (whole : Action) (skips : Bool) (left : List code.Act) (s : State)
    (before told : List Entry) : Type 0 where
  pub rest : List Act
  pub is_left : IsLeft skips left rest
  pub midway : Midway x whole (each rest acts) s before told
  pub possible : ArePossible rest midway.state.bus
  pub pends : Pends rest x.host

notices-is : (e : HostEvent) (s : State) → notices e s
    ≡ each (host_turn e s.host).acts acts (record s { host = (host_turn e s.host).host })
unfolding machine_opened
notices-is e s = refl

-- the interfaces of a module that was inserted are interfaces
pub interfaces-fit : (e : HostEvent) → AreInterfaces e → HasInterfaces e
interfaces-fit (host_event.Inserted p count) most = omega (arith, most)
interfaces-fit _ most = tt

-- the turn is known, and nothing was done
pub acting-first : {x : Parties} {s : State} {a : List Entry} (e : HostEvent) (y : Host)
    (all : List code.Act) → PartsStand [] x s → Turns (host_turn e s.host) [] y all → MayTurn e s
    → Acting (record x { host = y }) (notices e) false all s a a
acting-first {x} {s} {a} e y all st turns may = record {
  rest = (host_turn e s.host).acts;
  is_left = turns.acts;
  midway = record {
    state = record s { host = (host_turn e s.host).host };
    entries = [];
    is = notices-is e s;
    told_is = sym (append-nil a);
    stand = rehosted y (host_turn e s.host).host st turns.host;
  };
  possible = may.1;
  pends = turns.pending;
}

-- one is left out
pub acting-skip : {x : Parties} {whole : Action} {s : State} {a b : List Entry}
    (left later : List code.Act) (first : code.Act) → left ≡ first ∷ later
    → Acting x whole true left s a b → Acting x whole false later s a b
acting-skip left later first is g = record {
  rest = g.rest;
  is_left = let same : first ∷ later ≡ g.is_left.0 ∷ spelled g.rest = sym is ∙ g.is_left.1 in cc;
  midway = g.midway;
  possible = g.possible;
  pends = g.pends;
}

-- nothing is left
pub acting-end : {x : Parties} {whole : Action} {s : State} {a b : List Entry} (skips : Bool)
    (left : List code.Act) → left ≡ [] → Acting x whole skips left s a b → Does x whole s a b
acting-end {x} {whole} {s} {a} {b} true left none g =
    absurd (let f : [] ≡ g.is_left.0 ∷ spelled g.rest = sym none ∙ g.is_left.1 in cc)
acting-end {x} {whole} {s} {a} {b} false left none g =
    midway-end (midway-as _ (ap (λ (xs : List Act). each xs acts)
    (is-none g.rest (sym g.is_left ∙ none)) ∙ no-acts) g.midway)
  where
    is-none : (rest : List Act) → spelled rest ≡ [] → rest ≡ []
    is-none [] e = refl
    is-none (Act.Ask q ∷ more) e = absurd cc
    is-none (Act.Make m q ∷ more) e = absurd cc
    is-none (Act.Shut k ∷ more) e = absurd cc
    is-none (Act.Leave k ∷ more) e = absurd cc
    is-none (Act.Tell f ∷ more) e = absurd cc

-- ---- requests behind a request

-- they are possible at each bus
asks-possible : (acts : List Act) (b : Bus) → AreAsks acts → ArePossible acts b
asks-possible [] b m = tt
asks-possible (Act.Ask q ∷ rest) b m = m
asks-possible (Act.Make w q ∷ rest) b m = absurd m
asks-possible (Act.Shut k ∷ rest) b m = absurd m
asks-possible (Act.Leave k ∷ rest) b m = absurd m
asks-possible (Act.Tell e ∷ rest) b m = asks-possible rest b m

-- they make no connection
asks-pend : (acts : List Act) (x : Host) → AreAsks acts → Pends acts x
asks-pend [] x m = tt
asks-pend (Act.Ask q ∷ rest) x m = asks-pend rest x m.1
asks-pend (Act.Make w q ∷ rest) x m = absurd m
asks-pend (Act.Shut k ∷ rest) x m = absurd m
asks-pend (Act.Leave k ∷ rest) x m = absurd m
asks-pend (Act.Tell e ∷ rest) x m = asks-pend rest x m

-- ---- one more act

record Left (o : Option ℕ) : Type 0 where
  label : ℕ
  is : o ≡ Some label

left-of : (o : Option ℕ) → IsSome o → Left o
left-of None h = absurd cc
left-of (Some l) h = record { label = l; is = refl }

-- a request is made, and others at most are left
asked-more : {x y : Parties} {whole : Action} {s : State} {a b c : List Entry} (skips : Bool)
    (later : List code.Act) (q : Asking) (more : List Act)
    → (m : Midway x whole (each (Act.Ask q ∷ more) acts) s a b)
    → ArePossible (Act.Ask q ∷ more) m.state.bus → later ≡ spelled more
    → ActsAs x.host y (asks q) m.state skips b c → Acting y whole skips later s a c
asked-more {x} {y} {whole} {s} {a} {b} {c} skips later q more m may rest done = record {
  rest = more;
  is_left = subst (λ t. IsLeft t later more) (sym done.0) rest;
  midway = midway-more (host_asks q) (each more acts) (midway-as (host_asks q ▸ each more acts)
      (each-acts (Act.Ask q) more ∙ ap (λ f. f ▸ each more acts) (acts-ask q)) m) (done.1 may.0);
  possible = asks-possible more (host_asks q m.state).state.bus may.1;
  pends = asks-pend more y.host may.1;
}

-- a connection is made, or its request fails and is left out
made-more : {x y : Parties} {whole : Action} {s : State} {a b c : List Entry} (skips : Bool)
    (later : List code.Act) (w : Making) (q : Asking) (more : List Act)
    → (m : Midway x whole (each (Act.Make w q ∷ more) acts) s a b)
    → ArePossible (Act.Make w q ∷ more) m.state.bus → Pends (Act.Make w q ∷ more) x.host
    → later ≡ asks q ∷ spelled more
    → ActsAs x.host y (act.Make w.ap w.intf w.cport w.protocol q.purpose) m.state skips b c
    → Acting y whole skips later s a c
made-more {x} {y} {whole} {s} {a} {b} {c} true later w q more m may pends rest done = record {
  rest = more;
  is_left = (asks q, rest);
  midway = midway-more (fails (unsent q.purpose)) (each more acts)
      (midway-here (fails (unsent q.purpose) ▸ each more acts)
      (midway-as (acts (Act.Make w q) ▸ each more acts) (each-acts (Act.Make w q) more) m)
      (opens-none w q more m.state
      (ap (λ k. next_label k side.Ap m.state.bus) may.0.on ∙ done.0))) done.1;
  possible = subst (λ (ms : List Act). ArePossible ms (fails (unsent q.purpose) m.state).state.bus)
      (sym may.1) tt;
  pends = subst (λ (ms : List Act). Pends ms y.host) (sym may.1) tt;
}
made-more {x} {y} {whole} {s} {a} {b} {c} false later w q more m may pends rest done =
    let left = left-of (next_label 1 side.Ap m.state.bus) done.0 in record {
      rest = Act.Ask q ∷ more;
      is_left = rest;
      midway = midway-more (makes w) (each (Act.Ask q ∷ more) acts)
          (midway-here (makes w ▸ each (Act.Ask q ∷ more) acts)
          (midway-as (acts (Act.Make w q) ▸ each more acts) (each-acts (Act.Make w q) more) m)
          (opens-some w q more m.state left.label
          (ap (λ k. next_label k side.Ap m.state.bus) may.0.on ∙ left.is)))
          (done.1 pends.0 may.0.attach may.0.intf may.0.cport);
      possible = (may.0.ask, subst AreAsks (sym may.1) tt);
      pends = subst (λ (ms : List Act). Pends ms y.host) (sym may.1) tt;
    }

-- an act that leaves the application processor
other-more : {x y : Parties} {whole : Action} {s : State} {a b c : List Entry} (skips : Bool)
    (later : List code.Act) (z : Act) (f : Action) (more : List Act)
    → (m : Midway x whole (each (z ∷ more) acts) s a b)
    → acts z ≡ f → ArePossible more (f m.state).state.bus → Pends more x.host
    → later ≡ spelled more → skips ≡ false → Does y f m.state b c → y.host ≡ x.host
    → Acting y whole skips later s a c
other-more {x} {y} {whole} {s} {a} {b} {c} skips later z f more m is may pends rest none done host =
    record {
      rest = more;
      is_left = subst (λ t. IsLeft t later more) (sym none) rest;
      midway = midway-more f (each more acts) (midway-as (f ▸ each more acts)
          (each-acts z more ∙ ap (λ g. g ▸ each more acts) is) m) done;
      possible = may;
      pends = subst (Pends more) (sym host) pends;
    }

-- an act is done, and the rest is left
pub acting-more : {x y : Parties} {whole : Action} {s : State} {a b c : List Entry}
    (left later : List code.Act) (now : code.Act) (skips : Bool) → left ≡ now ∷ later
    → (g : Acting x whole false left s a b)
    → ActsAs x.host y now g.midway.state skips b c → Acting y whole skips later s a c
acting-more {x} {y} {whole} {s} {a} {b} {c} left later now skips is g done =
    by g.rest (sym is ∙ g.is_left) g.midway g.possible g.pends done
  where
    by : (rest : List Act) → now ∷ later ≡ spelled rest
        → (m : Midway x whole (each rest acts) s a b) → ArePossible rest m.state.bus
        → Pends rest x.host → ActsAs x.host y now m.state skips b c
        → Acting y whole skips later s a c
    by [] e m may pends d = absurd cc
    by (Act.Ask q ∷ more) e m may pends d =
        let first : now ≡ asks q = cc in
        let others : later ≡ spelled more = cc in
        asked-more skips later q more m may others
        (subst (λ (z : code.Act). ActsAs x.host y z m.state skips b c) first d)
    by (Act.Make w q ∷ more) e m may pends d =
        let first : now ≡ act.Make w.ap w.intf w.cport w.protocol q.purpose = cc in
        let others : later ≡ asks q ∷ spelled more = cc in
        made-more skips later w q more m may pends others
        (subst (λ (z : code.Act). ActsAs x.host y z m.state skips b c) first d)
    by (Act.Shut k ∷ more) e m may pends d =
        let first : now ≡ act.Shut k = cc in
        let others : later ≡ spelled more = cc in
        let own = subst (λ (z : code.Act). ActsAs x.host y z m.state skips b c) first d in
        other-more skips later (Act.Shut k) (shuts k) more m (acts-shut k)
        (subst (ArePossible more) (sym (shut-bus k m.state)) may) pends others own.0 own.1 own.2
    by (Act.Leave k ∷ more) e m may pends d =
        let first : now ≡ act.Leave k = cc in
        let others : later ≡ spelled more = cc in
        let own = subst (λ (z : code.Act). ActsAs x.host y z m.state skips b c) first d in
        other-more skips later (Act.Leave k) (on_bus (detached k)) more m (acts-leave k)
        (subst (ArePossible more) (sym (left-bus k m.state)) may) pends others own.0 own.1 own.2
    by (Act.Tell f ∷ more) e m may pends d =
        let first : now ≡ act.Tell f = cc in
        let others : later ≡ spelled more = cc in
        let own = subst (λ (z : code.Act). ActsAs x.host y z m.state skips b c) first d in
        other-more skips later (Act.Tell f) (tell f) more m (acts-tell f)
        (subst (ArePossible more) (sym (told-bus f m.state)) may) pends others own.0 own.1 own.2
