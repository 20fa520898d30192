-- What the supervisory controller decides is what the machine's does.
use Rattle.std.proofs.Common.{◌≡◌, ℕ, true, false, if◌then◌else◌, Option, Some, None, option_map}
use Rattle.std.proofs.Common.{Bool, List, [], refl, sym, ap, ◌∙◌, subst}
use Rattle.std.specs.List.{list_any}
use Rattle.gb_invariants.proofs.Lists.{found-in}
use Rattle.gb_invariants.proofs.Numbers.{found-by_number}
use Rattle.gb_bus.specs.Stands.{Around}
use Rattle.gb_machine.proofs.Opened.{machine_opened}
use Rattle.gb_machine.specs.Actions.{nothing}
use Rattle.gb_machine.specs.Bus.{Connection, connection_of}
use Rattle.gb_machine.specs.Ports.{unrouted}
use Rattle.gb_machine.specs.Responding.{creates, destroys, disconnects, responds_plainly}
use Rattle.gb_machine.specs.Responding.{responds_with, svc_decided, svc_stepped, unroutes}
use Rattle.gb_machine.specs.Responding.{with_ports}
use Rattle.gb_machine.specs.Sending.{is_wired}
use Rattle.gb_machine.specs.Serving.{answer, invalid, nonexistent, plainly, success}
use Rattle.gb_machine.specs.State.{Port, State}
use Rattle.gb_machine.specs.SvcTable.{SvcServed, SvcStep}
use Rattle.gb_machine.specs.Wires.{wires}
use Rattle.gb_machine.specs.Wiring.{is_wired_to, joining, joins}
use Rattle.gb_switch.specs.Climbing.{Follows}
use Rattle.gb_switch.specs.Stands as switch
use Rattle.gb_switch.specs.declared.ladder.Ladder.{Ladder}
use Rattle.gb_bus.specs.declared.bus.Bus.{Bus}
use Rattle.gb_system.specs.Deciding.{BusAndPorts, Decides, DoesBehind, answer_of}
use Rattle.gb_system.specs.declared.deciding.Behind.TheVariants as behind
use Rattle.gb_system.specs.declared.deciding.Decision.{Decision}

-- ---- one decision

-- the interfaces are these after a reply
ports_set : (ports : List Port) (t : State) → with_ports ports t
    ≡ record { state = record t { ports = ports }; entries = [] }
unfolding machine_opened
ports_set ports t = refl

nothing_is : (t : State) → nothing t ≡ record { state = t; entries = [] }
unfolding machine_opened
nothing_is t = refl

-- a refusal
pub refuses_with : (y : Ladder) (s : State) (code : ℕ) (d : Decision) → switch.Stands y s.ports
    → answer_of d ≡ plainly code → d.behind ≡ behind.Nothing → Decides y s (responds_plainly code) d
refuses_with y s code d st says none = record {
  answer = sym says;
  behind = subst (DoesBehind y s nothing) (sym none) (record {
    ports = s.ports;
    stands = st;
    is = λ t e. nothing_is t ∙ ap (λ ps. record { state = record t { ports = ps }; entries = [] })
        e;
  });
}

-- an answer that changes the interfaces
pub answers_with : (y : Ladder) (s : State) (ports : List Port) (result : ℕ) (payload : List ℕ)
    (d : Decision) → switch.Stands y ports
    → answer_of d ≡ answer result payload → d.behind ≡ behind.Nothing
    → Decides y s (responds_with (answer result payload) (with_ports ports)) d
answers_with y s ports result payload d st says none = record {
  answer = sym says;
  behind = subst (DoesBehind y s (with_ports ports)) (sym none)
      (record { ports = ports; stands = st; is = λ t e. ports_set ports t });
}

-- a connection is wired after the reply
pub wires_behind : (y : Ladder) (s : State) (k n : ℕ) (d : Decision) → switch.Stands y s.ports → n
    ≡ k
    → answer_of d ≡ plainly success → d.behind ≡ behind.Wire k
    → Decides y s (responds_with (plainly success) (wires n)) d
wires_behind y s k n d st same says does = record {
  answer = sym says;
  behind = subst (DoesBehind y s (wires n)) (sym does) (record { stands = st; is = ap wires same });
}

-- or unwired
pub disconnects_behind : (y : Ladder) (s : State) (k n : ℕ) (d : Decision)
    → switch.Stands y s.ports → n ≡ k
    → answer_of d ≡ plainly success → d.behind ≡ behind.Unwire k
    → Decides y s (responds_with (plainly success) (disconnects n)) d
disconnects_behind y s k n d st same says does = record {
  answer = sym says;
  behind = subst (DoesBehind y s (disconnects n)) (sym does)
      (record { stands = st; is = ap disconnects same });
}

-- ---- what connections decide

-- a connection that joins two ends, by its number
record Joined (s : State) (a i c k : ℕ) : Type 0 where
  pub connection : Connection
  pub joins : joining a i c s.bus ≡ Some connection
  pub number : connection.number ≡ k
  pub live : connection_of k s.bus ≡ Some connection

-- its number
abbrev joining_number : ℕ → ℕ → ℕ → State → Option ℕ
joining_number a i c s = option_map (λ (z : Connection). z.number) (joining a i c s.bus)

none_of : (o : Option Connection) → None ≡ option_map (λ (z : Connection). z.number) o → o ≡ None
none_of None h = refl
none_of (Some z) h = absurd cc

module _ (around : Around) (x : Bus) (y : Ladder) (s : State) (a i c : ℕ) (d : Decision)
    (st : BusAndPorts around x y s) where
  -- no connection joins the two ends
  pub creates_nowhere : None ≡ joining_number a i c s → answer_of d ≡ plainly nonexistent
      → d.behind ≡ behind.Nothing → Decides y s (creates (joining a i c s.bus)) d
  creates_nowhere h says none =
      subst (λ o. Decides y s (creates o) d) (sym (none_of (joining a i c s.bus) h))
      (refuses_with y s nonexistent d st.ports says none)

  pub destroys_nowhere : None ≡ joining_number a i c s → answer_of d ≡ plainly nonexistent
      → d.behind ≡ behind.Nothing → Decides y s (destroys (joining a i c s.bus)) d
  destroys_nowhere h says none =
      subst (λ o. Decides y s (destroys o) d) (sym (none_of (joining a i c s.bus) h))
      (refuses_with y s nonexistent d st.ports says none)

  module _ (k : ℕ) (h : Some k ≡ joining_number a i c s) where
    joined : Joined s a i c k
    joined = by (joining a i c s.bus) refl h
      where
        by : (o : Option Connection) → joining a i c s.bus ≡ o → Some k
            ≡ option_map (λ (z : Connection). z.number) o → Joined s a i c k
        by None e n = absurd cc
        by (Some z) e n =
            let same : z.number ≡ k = cc (n) in
            record {
              connection = z;
              joins = e;
              number = same;
              live = ap (λ j. connection_of j s.bus) (sym same)
                  ∙ found-by_number s.bus.connections z st.bus.facts.fits.numbers.rise
                  (found-in (joins a i c) s.bus.connections z e).0;
            }

    -- whether it is wired decides
    creates_by : (wired : Bool) → is_wired (connection_of k s.bus) ≡ wired
        → Decides y s (if wired then responds_plainly invalid else responds_with (plainly success)
        (wires joined.connection.number)) d
        → Decides y s (creates (joining a i c s.bus)) d
    creates_by wired is decides =
        subst (λ o. Decides y s (creates o) d) (sym joined.joins)
        (subst (λ b. Decides y s (if b then responds_plainly invalid else responds_with
        (plainly success) (wires joined.connection.number)) d)
        (sym is ∙ ap is_wired joined.live) decides)

    destroys_by : (wired : Bool) → is_wired (connection_of k s.bus) ≡ wired
        → Decides y s (if wired then responds_with (plainly success)
        (disconnects joined.connection.number) else responds_plainly nonexistent) d
        → Decides y s (destroys (joining a i c s.bus)) d
    destroys_by wired is decides =
        subst (λ o. Decides y s (destroys o) d) (sym joined.joins)
        (subst (λ b. Decides y s (if b then responds_with (plainly success)
        (disconnects joined.connection.number) else responds_plainly nonexistent) d)
        (sym is ∙ ap is_wired joined.live) decides)

    -- it is wired already
    pub creates_wired : is_wired (connection_of k s.bus) ≡ true → answer_of d ≡ plainly invalid
        → d.behind ≡ behind.Nothing → Decides y s (creates (joining a i c s.bus)) d
    creates_wired wired says none =
        creates_by true wired (refuses_with y s invalid d st.ports says none)

    -- it is wired
    pub creates_one : is_wired (connection_of k s.bus) ≡ false → answer_of d ≡ plainly success
        → d.behind ≡ behind.Wire k → Decides y s (creates (joining a i c s.bus)) d
    creates_one unwired says does =
        creates_by false unwired
        (wires_behind y s k joined.connection.number d st.ports joined.number says does)

    -- it isn't wired
    pub destroys_unwired : is_wired (connection_of k s.bus) ≡ false
        → answer_of d ≡ plainly nonexistent → d.behind ≡ behind.Nothing
        → Decides y s (destroys (joining a i c s.bus)) d
    destroys_unwired unwired says none =
        destroys_by false unwired (refuses_with y s nonexistent d st.ports says none)

    -- it is unwired
    pub destroys_one : is_wired (connection_of k s.bus) ≡ true → answer_of d ≡ plainly success
        → d.behind ≡ behind.Unwire k → Decides y s (destroys (joining a i c s.bus)) d
    destroys_one wired says does =
        destroys_by true wired
        (disconnects_behind y s k joined.connection.number d st.ports joined.number says does)

-- a connection is wired to an interface that is to lose its route
pub unroutes_wired : (around : Around) (x : Bus) (y : Ladder) (s : State) (i : ℕ) (d : Decision)
    → BusAndPorts around x y s
    → list_any (is_wired_to i) s.bus.connections ≡ true
    → answer_of d ≡ plainly invalid → d.behind ≡ behind.Nothing
    → Decides y s (unroutes (list_any (is_wired_to i) s.bus.connections) i s.ports) d
unroutes_wired around x y s i d st wired says none =
    subst (λ b. Decides y s (unroutes b i s.ports) d) (sym wired)
    (refuses_with y s invalid d st.ports says none)

-- none is
pub unroutes_one : (y : Ladder) (s : State) (i : ℕ) (d : Decision)
    → switch.Stands y (unrouted i s.ports)
    → list_any (is_wired_to i) s.bus.connections ≡ false
    → answer_of d ≡ plainly success → d.behind ≡ behind.Nothing
    → Decides y s (unroutes (list_any (is_wired_to i) s.bus.connections) i s.ports) d
unroutes_one y s i d st unwired says none =
    subst (λ b. Decides y s (unroutes b i s.ports) d) (sym unwired)
    (answers_with y s (unrouted i s.ports) success [] d st says none)

-- ---- what the table decides

-- the table answers
pub decided_answer : (y : Ladder) (s : State) (step : SvcStep) (result : ℕ) (payload : List ℕ)
    (d : Decision)
    → Follows y step (SvcServed.Answered result payload)
    → answer_of d ≡ answer result payload → d.behind ≡ behind.Nothing
    → Decides y s (svc_stepped step s) d
decided_answer y s step result payload d f says none =
    subst (λ v. Decides y s (svc_decided v step.ports s) d) (sym f.answer)
    (answers_with y s step.ports result payload d f.stands says none)

-- the parts stand still where the table leaves it to connections
pub stand_still : (around : Around) (x : Bus) (y z : Ladder) (s : State) (step : SvcStep)
    (v : SvcServed) → BusAndPorts around x z s → Follows y step v
    → step.ports ≡ s.ports → BusAndPorts around x y s
stand_still around x y z s step v st f same =
    record { bus = st.bus; ports = subst (switch.Stands y) same f.stands }

-- connections decide on a creation or a destruction
pub decided_by : (y : Ladder) (s : State) (step : SvcStep) (v : SvcServed) (d : Decision)
    → Follows y step v → step.ports ≡ s.ports
    → Decides y s (svc_decided v s.ports s) d → Decides y s (svc_stepped step s) d
decided_by y s step v d f same decides =
    subst (λ w. Decides y s (svc_decided w step.ports s) d) (sym f.answer)
    (subst (λ ps. Decides y s (svc_decided v ps s) d) (sym same) decides)

-- they decide where the table leaves it to them, and changes no interface
pub decided_there : {around : Around} {x : Bus} {z : Ladder} (y : Ladder) (s : State)
    (step : SvcStep) (v : SvcServed) (d : Decision) → BusAndPorts around x z s → Follows y step v
    → step.ports ≡ s.ports
    → (BusAndPorts around x y s → Decides y s (svc_decided v s.ports s) d)
    → Decides y s (svc_stepped step s) d
decided_there {around} {x} {z} y s step v d st f same decides =
    decided_by y s step v d f same (decides (stand_still around x y z s step v st f same))

-- they decide on an interface's route, with another ladder afterwards
pub decided_unroute : (y z : Ladder) (s : State) (step : SvcStep) (i : ℕ) (d : Decision)
    → Follows y step (SvcServed.Unroute i)
    → step.ports ≡ s.ports → Decides z s
    (unroutes (list_any (is_wired_to i) s.bus.connections) i s.ports) d
    → Decides z s (svc_stepped step s) d
decided_unroute y z s step i d f same decides =
    subst (λ w. Decides z s (svc_decided w step.ports s) d) (sym f.answer)
    (subst (λ ps. Decides z s (svc_decided (SvcServed.Unroute i) ps s) d) (sym same) decides)
