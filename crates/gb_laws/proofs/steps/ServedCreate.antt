-- What the supervisory controller is to wire is what the record of a request to create
-- a connection says.
use Rattle.std.proofs.Common.{Bool, List, ap, cond, false, refl, true, ℕ, [], ◌∙◌, ◌≡◌}
use Rattle.std.specs.Prelude.{Err, Ok, Result, nat_lt, not, ◌==◌, ◌||◌}
use Rattle.gb_formats.specs.SvcRecords.{SvcAsk, read_svc_ask, read_svc_ask_of_ap, svc_asks}
use Rattle.gb_formats.specs.Records.{PayloadFault, row_of}
use Rattle.gb_machine.specs.Serving.{invalid, nonexistent, success}
use Rattle.gb_machine.specs.SvcTable.{Answered, Create, Destroy, Unroute, climbs, is_no_device}
use Rattle.gb_machine.specs.SvcTable.{svc_asked, svc_read, svc_refuses, svc_stays, svc_step}
use Rattle.gb_machine.specs.{Ports.level_of, Ports.with_device, State.Port}
use Rattle.gb_invariants.proofs.Outcomes.{same-number}
use Rattle.gb_laws.proofs.svc.Levels.{ap-reads}

climbs-creates : (ports : List Port) (ready : Bool) (i level : ℕ) (payload : List ℕ) (a j c : ℕ)
    → (climbs ready i level payload ports).served ≡ Create a j c → ⊥
climbs-creates ports true i level payload a j c h = absurd cc
climbs-creates ports false i level payload a j c h = absurd cc

-- a record is one that creates a connection
record IsCreate (ask : SvcAsk) (a j c : ℕ) : Type 0 where
  tc : ℕ
  flags : ℕ
  is : ask ≡ SvcAsk.ConnCreate 1 a j c tc flags

asked-creates : (ports : List Port) (ask : SvcAsk) (a j c : ℕ)
    → (svc_asked ports ask).served ≡ Create a j c → IsCreate ask a j c
asked-creates ports (SvcAsk.VsysEnable i) a j c h = absurd (climbs-creates ports _ i 1 _ a j c h)
asked-creates ports (SvcAsk.RefclkEnable i) a j c h = absurd (climbs-creates ports _ i 2 _ a j c h)
asked-creates ports (SvcAsk.UniproEnable i) a j c h = absurd (climbs-creates ports _ i 3 _ a j c h)
asked-creates ports (SvcAsk.IntfActivate i) a j c h = absurd (climbs-creates ports _ i 4 _ a j c h)
asked-creates ports (SvcAsk.RouteCreate x y i d) a j c h =
    absurd (climbs-creates ports _ i 6 _ a j c h)
asked-creates ports (SvcAsk.IntfDeviceId i d) a j c h =
    absurd (by (nat_lt (level_of i ports) 4) (is_no_device i d ports) h)
  where
    by : (t u : Bool) → (cond t (svc_refuses ports nonexistent) (cond u (svc_refuses ports invalid)
        (record { ports = with_device i d ports; served = Answered success [] }))).served
        ≡ Create a j c → ⊥
    by true u f = absurd cc
    by false true f = absurd cc
    by false false f = absurd cc
asked-creates ports (SvcAsk.ConnCreate x b i d tc flags) a j c h =
    by (x == 1) (nat_lt (level_of i ports) 6) refl h
  where
    first-same : (x y z x' y' z' : ℕ) → Create x y z ≡ Create x' y' z' → x ≡ x'
    first-same x y z x' y' z' e = cc

    second-same : (x y z x' y' z' : ℕ) → Create x y z ≡ Create x' y' z' → y ≡ y'
    second-same x y z x' y' z' e = cc

    third-same : (x y z x' y' z' : ℕ) → Create x y z ≡ Create x' y' z' → z ≡ z'
    third-same x y z x' y' z' e = cc

    by : (t u : Bool) → (x == 1) ≡ t → (cond (not t || u) (svc_refuses ports nonexistent)
        (svc_stays ports (Create b i d))).served ≡ Create a j c
        → IsCreate (SvcAsk.ConnCreate x b i d tc flags) a j c
    by true false e f = record {
      tc = tc;
      flags = flags;
      is = ap (λ n. SvcAsk.ConnCreate n b i d tc flags) (same-number x 1 e)
          ∙ ap (λ n. SvcAsk.ConnCreate 1 n i d tc flags) (first-same b i d a j c f)
          ∙ ap (λ n. SvcAsk.ConnCreate 1 a n d tc flags) (second-same b i d a j c f)
          ∙ ap (λ n. SvcAsk.ConnCreate 1 a j n tc flags) (third-same b i d a j c f);
    }
    by true true e f = absurd cc
    by false u e f = absurd cc
asked-creates ports (SvcAsk.ConnDestroy x b i d) a j c h = absurd (by (x == 1) h)
  where
    by : (t : Bool)
        → (cond t (svc_stays ports (Destroy b i d)) (svc_refuses ports nonexistent)).served
        ≡ Create a j c → ⊥
    by true g = absurd cc
    by false g = absurd cc
asked-creates ports (SvcAsk.RouteDestroy x i) a j c h =
    absurd (by (not (x == 1) || not (level_of i ports == 6)) h)
  where
    by : (t : Bool) → (cond t (svc_refuses ports nonexistent) (svc_stays ports (Unroute i))).served
        ≡ Create a j c → ⊥
    by true g = absurd cc
    by false g = absurd cc
asked-creates ports _ a j c h = absurd cc

-- What is to be wired is what the record of the request says.
pub create-read : (ports : List Port) (kind : ℕ) (payload : List ℕ) (a j c : ℕ)
    → (svc_step ports kind payload).served ≡ Create a j c → (tc : ℕ) × (flags : ℕ)
    × (read_svc_ask kind payload ≡ Ok (SvcAsk.ConnCreate 1 a j c tc flags))
create-read ports kind payload a j c = by (read_svc_ask_of_ap kind payload) refl
  where
    by : (r : Result SvcAsk PayloadFault) → read_svc_ask_of_ap kind payload ≡ r
        → (svc_read ports r).served ≡ Create a j c → (tc : ℕ) × (flags : ℕ)
        × (read_svc_ask kind payload ≡ Ok (SvcAsk.ConnCreate 1 a j c tc flags))
    by (Ok ask) e h =
        let x = asked-creates ports ask a j c h in (
          x.tc,
          x.flags,
          ap-reads (row_of svc_asks kind) payload ask e ∙ ap Ok x.is,
        )
    by (Err fault) e h = absurd cc
