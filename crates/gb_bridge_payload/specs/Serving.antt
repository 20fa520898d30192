-- What a device answers, and what it writes of a bridge line.
use Rattle.std.specs.Prelude.{◌≡◌, ℕ, Result, Ok, Err, List, ◌++◌, length, drop}
use Rattle.gb_base.specs.declared.bridge.Bridged.{Bridged}
use Rattle.gb_base.specs.declared.errors.OutOfMemory.{OutOfMemory}
use Rattle.gb_base.specs.declared.served.Served.{Served}
use Rattle.gb_bridge_payload.specs.declared.bridge_fault.BridgeFault.{BridgeFault}
use Rattle.gb_bridge_payload.specs.declared.bridge_fault.BridgeFault.TheVariants as fault
use Rattle.gb_formats.specs.Bridges as formats
use Rattle.gb_formats.specs.Results.{Step}

-- A device answers a request as its step says, and is then the device after it. After want of
-- memory it is as before.
abbrev pub ServesAs : {D : Type 0} → Step D → D → D → Result Served OutOfMemory → Type 0
ServesAs step old new (Ok served) = (served ≡ step.served) × (new ≡ step.after)
ServesAs step old new (Err refused) = new ≡ old

-- the fault that a value of the code stands for
abbrev pub bridge_fault_of : BridgeFault → formats.BridgeFault
bridge_fault_of fault.TooLarge = formats.TooLarge
bridge_fault_of fault.Unsupported = formats.Unsupported

-- The request that a bridge line becomes is written: its payload stands at the front of `old`,
-- which keeps its rest.
pub record WritesBridged (request : ℕ × List ℕ) (old new : List ℕ) (b : Bridged) : Type 0 where
  pub kind : b.kind ≡ request.0
  pub len : b.len ≡ length request.1
  pub bytes : new ≡ request.1 ++ drop (length request.1) old

-- There is none, and nothing is written.
pub record IsNotBridged (answer : Result (ℕ × List ℕ) formats.BridgeFault) (old new : List ℕ)
    (why : BridgeFault) : Type 0 where
  pub fault : answer ≡ Err (bridge_fault_of why)
  pub unchanged : new ≡ old

-- A bridge line becomes the request that the definition says, or none with its reason.
abbrev pub BridgesAs : Result (ℕ × List ℕ) formats.BridgeFault → List ℕ → List ℕ
    → Result Bridged BridgeFault → Type 0
BridgesAs answer old new (Ok b) =
    (request : ℕ × List ℕ) × (answer ≡ Ok request) × WritesBridged request old new b
BridgesAs answer old new (Err why) = IsNotBridged answer old new why
