-- What the application processor does of its own, as it is done.
use Rattle.std.specs.Prelude.{◌≡◌, ℕ, Bool, true, false, None, IsSome, List, [], ◌∷◌}
use Rattle.gb_base.specs.declared.end.Side.TheVariants as side
use Rattle.gb_base.specs.declared.entry.ConnState.TheVariants as state
use Rattle.gb_base.specs.declared.entry.Entry.{Entry}
use Rattle.gb_base.specs.declared.entry.Entry.TheVariants as entry
use Rattle.gb_base.specs.declared.served.OwnAsk.{OwnAsk}
use Rattle.gb_base.specs.declared.steps.Purpose.{Purpose}
use Rattle.gb_host.specs.Stands.{IsPending}
use Rattle.gb_host.specs.declared.acts.Act as code
use Rattle.gb_host.specs.declared.acts.Act.TheVariants as act
use Rattle.gb_host.specs.declared.host.Host.{Host}
use Rattle.gb_invariants.specs.Attaching.{MayAttach}
use Rattle.gb_laws.specs.Possible.{IsAskable}
use Rattle.gb_machine.specs.Actions.{Action, by_state, change, on_bus, tell, ◌▸◌}
use Rattle.gb_machine.specs.Failures.{unsent}
use Rattle.gb_machine.specs.HostActs.{fails, host_asks, with_made}
use Rattle.gb_machine.specs.Labels.{next_label}
use Rattle.gb_machine.specs.Members.{Each}
use Rattle.gb_machine.specs.State.{State}
use Rattle.gb_machine.specs.Turns.{Asking, Making}
use Rattle.gb_machine.specs.Wires.{shuts}
use Rattle.gb_machine.specs.Wiring.{detached, next_connection}
use Rattle.gb_system.specs.Doing.{Does}
use Rattle.gb_system.specs.declared.parties.Parties.{Parties}

-- requests of a far side are such
abbrev pub AreAskable : List OwnAsk → Type 0
AreAskable own = Each (λ q. IsAskable q.kind q.payload) own

-- a request of the application processor, by its parts
abbrev pub asking_of : ℕ → ℕ → List ℕ → Purpose → Asking
asking_of on kind payload purpose =
    record { on = on; kind = kind; payload = payload; purpose = purpose }

-- a connection that is to be made, by its parts
abbrev pub making_of : ℕ → ℕ → ℕ → ℕ → Making
making_of ap intf cport protocol =
    record { ap = ap; intf = intf; cport = cport; protocol = protocol }

-- what acts tell
abbrev pub tells_of : List code.Act → List Entry
tells_of [] = []
tells_of (act.Tell e ∷ acts) = e ∷ tells_of acts
tells_of (_ ∷ acts) = tells_of acts

-- a connection is made and told
unfoldable pub makes : Making → Action
makes m = by_state (λ s.
    change (with_made m)
    ▸ tell (entry.Connection (next_connection s.bus) m.ap m.intf m.cport state.Opening))

-- A connection is made, or its request fails for want of an identifier, and is left out.
abbrev pub MakesAs : Host → Parties → Making → Purpose → State → Bool → List Entry → List Entry
    → Type 0
MakesAs old new m purpose s true before told =
    (next_label 1 side.Ap s.bus ≡ None) × Does new (fails (unsent purpose)) s before told
MakesAs old new m purpose s false before told =
    IsSome (next_label 1 side.Ap s.bus)
    × (IsPending m.ap m.protocol old → MayAttach m.ap m.intf m.cport s.bus
    → purpose.intf ≡ m.intf → purpose.cport ≡ m.cport
    → Does new (makes m) s before told)

-- An act is done. The next one is left out after a connection that isn't made, and after no other.
abbrev pub ActsAs : Host → Parties → code.Act → State → Bool → List Entry → List Entry → Type 0
ActsAs old new (act.Make ap intf cport protocol purpose) s skips before told =
    MakesAs old new (making_of ap intf cport protocol) purpose s skips before told
ActsAs old new (act.Ask on kind payload purpose) s skips before told =
    (skips ≡ false) × (IsAskable kind payload
    → Does new (host_asks (asking_of on kind payload purpose)) s before told)
ActsAs old new (act.Shut k) s skips before told =
    (skips ≡ false) × Does new (shuts k) s before told × (new.host ≡ old)
ActsAs old new (act.Leave k) s skips before told =
    (skips ≡ false) × Does new (on_bus (detached k)) s before told × (new.host ≡ old)
ActsAs old new (act.Tell e) s skips before told =
    (skips ≡ false) × Does new (tell e) s before told × (new.host ≡ old)
