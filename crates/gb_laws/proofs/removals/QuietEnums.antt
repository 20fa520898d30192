-- What the supervisory controller makes of power where it serves a request of an enumeration.
use Rattle.std.proofs.Common.{Bool, List, ap, arith, cond, false, inl, inr, refl, sym, true, ℕ, []}
use Rattle.std.proofs.Common.{◌∙◌, ◌≡◌, ◌≤◌, ◌⊎◌}
use Rattle.std.proofs.lemmas.Bool.Decides.{nat_tests}
use Rattle.std.specs.Prelude.{Err, Ok, Result, nat_lt, not, ◌==◌, ◌||◌}
use Rattle.gb_formats.specs.SvcRecords.{SvcAsk, read_svc_ask, read_svc_ask_of_ap, svc_ask_kind}
use Rattle.gb_formats.specs.Records.{PayloadFault}
use Rattle.gb_machine.specs.Serving.{invalid, nonexistent, success}
use Rattle.gb_machine.specs.SvcTable.{Answered, Create, Destroy, Unroute, climbs, is_no_device}
use Rattle.gb_machine.specs.SvcTable.{svc_asked, svc_read, svc_refuses, svc_stays, svc_step}
use Rattle.gb_machine.specs.Ports.{level_in, level_of, unrouted, with_device}
use Rattle.gb_machine.specs.{State.Port, SvcQueues.enumerates}
use Rattle.gb_invariants.proofs.{Awaiting.not-both, Outcomes.is-same, Outcomes.same-number}
use Rattle.gb_laws.proofs.{svc.Levels.other-port, svc.Levels.starts, svc.SvcKinds.svc-kind}

-- ---- an enumeration's request is served

-- a request of an enumeration that isn't a start has another type
differ : (a b : ℕ) → (a == b) ≡ false → a ≡ b → ⊥
differ a b other e = not-both (a == b) (ap (λ n. n == b) e ∙ is-same b) other

start-of : (i : ℕ) (x : SvcAsk) → enumerates i (Ok x) ≡ true → svc_ask_kind x ≡ 0x21
    → starts i x ≡ true
start-of i (SvcAsk.VsysEnable j) is k = is
start-of i (SvcAsk.RefclkEnable j) is k = absurd (differ 0x23 0x21 refl k)
start-of i (SvcAsk.UniproEnable j) is k = absurd (differ 0x25 0x21 refl k)
start-of i (SvcAsk.IntfActivate j) is k = absurd (differ 0x27 0x21 refl k)
start-of i (SvcAsk.IntfDeviceId j d) is k = absurd (differ 0x03 0x21 refl k)
start-of i (SvcAsk.RouteCreate a b c d) is k = absurd (differ 0x0b 0x21 refl k)
start-of i (SvcAsk.ConnCreate a b c d f g) is k = absurd (differ 0x07 0x21 refl k)
start-of i (SvcAsk.ConnDestroy a b c d) is k = absurd (differ 0x08 0x21 refl k)
start-of i (SvcAsk.RouteDestroy a b) is k = absurd (differ 0x0c 0x21 refl k)
start-of i SvcAsk.Ping is k = absurd (differ 0x13 0x21 refl k)
start-of i (SvcAsk.ProtocolVersion a b) is k = absurd (differ 0x01 0x21 refl k)
start-of i (SvcAsk.Hello a b) is k = absurd (differ 0x02 0x21 refl k)
start-of i (SvcAsk.ModuleInserted a b c) is k = absurd (differ 0x1f 0x21 refl k)
start-of i (SvcAsk.ModuleRemoved a) is k = absurd (differ 0x20 0x21 refl k)

pub start-kind : (i kind : ℕ) (payload : List ℕ) (ask : SvcAsk) → read_svc_ask kind payload ≡ Ok ask
    → enumerates i (Ok ask) ≡ true → kind ≡ 0x21 → starts i ask ≡ true
start-kind i kind payload ask e is start =
    start-of i ask is (svc-kind kind payload ask e ∙ start)

climbs-answers : (ports : List Port) (ready : Bool) (i level : ℕ) (payload : List ℕ) (j : ℕ)
    → (climbs ready i level payload ports).served ≡ Unroute j → ⊥
climbs-answers ports true i level payload j h = absurd cc
climbs-answers ports false i level payload j h = absurd cc

-- an interface that is to lose its route has the highest level, and the levels stay until then
asked-six : (ports : List Port) (ask : SvcAsk) (j : ℕ) → (svc_asked ports ask).served ≡ Unroute j
    → (level_of j ports ≡ 6) × ((svc_asked ports ask).ports ≡ ports)
asked-six ports (SvcAsk.VsysEnable i) j h = absurd (climbs-answers ports _ i 1 _ j h)
asked-six ports (SvcAsk.RefclkEnable i) j h = absurd (climbs-answers ports _ i 2 _ j h)
asked-six ports (SvcAsk.UniproEnable i) j h = absurd (climbs-answers ports _ i 3 _ j h)
asked-six ports (SvcAsk.IntfActivate i) j h = absurd (climbs-answers ports _ i 4 _ j h)
asked-six ports (SvcAsk.RouteCreate a b i d) j h = absurd (climbs-answers ports _ i 6 _ j h)
asked-six ports (SvcAsk.IntfDeviceId i d) j h =
    absurd (by (nat_lt (level_of i ports) 4) (is_no_device i d ports) h)
  where
    by : (t u : Bool) → (cond t (svc_refuses ports nonexistent) (cond u (svc_refuses ports invalid)
        (record { ports = with_device i d ports; served = Answered success [] }))).served
        ≡ Unroute j → ⊥
    by true u f = absurd cc
    by false true f = absurd cc
    by false false f = absurd cc
asked-six ports (SvcAsk.ConnCreate a b c d e f) j h =
    absurd (by (not (a == 1) || nat_lt (level_of c ports) 6) h)
  where
    by : (t : Bool)
        → (cond t (svc_refuses ports nonexistent) (svc_stays ports (Create b c d))).served
        ≡ Unroute j → ⊥
    by true g = absurd cc
    by false g = absurd cc
asked-six ports (SvcAsk.ConnDestroy a b c d) j h = absurd (by (a == 1) h)
  where
    by : (t : Bool)
        → (cond t (svc_stays ports (Destroy b c d)) (svc_refuses ports nonexistent)).served
        ≡ Unroute j → ⊥
    by true g = absurd cc
    by false g = absurd cc
asked-six ports (SvcAsk.RouteDestroy a i) j h = by (a == 1) (level_of i ports == 6) refl h
  where
    same : (x y : ℕ) → Unroute x ≡ Unroute y → x ≡ y
    same x y e = cc

    by : (t u : Bool) → (level_of i ports == 6) ≡ u
        → (cond (not t || not u) (svc_refuses ports nonexistent)
        (svc_stays ports (Unroute i))).served ≡ Unroute j
        → (level_of j ports ≡ 6) × ((cond (not t || not u) (svc_refuses ports nonexistent)
        (svc_stays ports (Unroute i))).ports ≡ ports)
    by true true e f = (
      ap (λ n. level_of n ports) (sym (same i j f)) ∙ same-number (level_of i ports) 6 e,
      refl,
    )
    by true false e f = absurd cc
    by false u e f = absurd cc
asked-six ports SvcAsk.Ping j h = absurd cc
asked-six ports (SvcAsk.ProtocolVersion a b) j h = absurd cc
asked-six ports (SvcAsk.Hello a b) j h = absurd cc
asked-six ports (SvcAsk.ModuleInserted a b c) j h = absurd cc
asked-six ports (SvcAsk.ModuleRemoved a) j h = absurd cc

pub unrouted-six : (ports : List Port) (kind : ℕ) (payload : List ℕ) (j : ℕ)
    → (svc_step ports kind payload).served ≡ Unroute j
    → (level_of j ports ≡ 6) × ((svc_step ports kind payload).ports ≡ ports)
unrouted-six ports kind payload j = by (read_svc_ask_of_ap kind payload)
  where
    by : (r : Result SvcAsk PayloadFault) → (svc_read ports r).served ≡ Unroute j
        → (level_of j ports ≡ 6) × ((svc_read ports r).ports ≡ ports)
    by (Ok ask) h = asked-six ports ask j h
    by (Err fault) h = absurd cc

-- the loss of a route leaves the levels of other interfaces
pub unrouted-other : (ports : List Port) (kind : ℕ) (payload : List ℕ) (i j : ℕ)
    → (svc_step ports kind payload).served ≡ Unroute j → (i == j) ≡ false
    → level_of i (unrouted j (svc_step ports kind payload).ports) ≡ level_of i ports
unrouted-other ports kind payload i j is other =
    ap level_in (other-port i j (λ (p : Port). record p { level = 5 })
    (svc_step ports kind payload).ports (λ p. refl) other)
    ∙ ap (level_of i) (unrouted-six ports kind payload j is).1

-- an interface of a low level has no route that could go
pub unrouted-low : (ports : List Port) (kind : ℕ) (payload : List ℕ) (i j : ℕ)
    → (svc_step ports kind payload).served ≡ Unroute j → (i == j) ≡ true
    → level_of i ports ≤ 1 → ⊥
unrouted-low ports kind payload i j is same = six (level_of i ports)
    (ap (λ n. level_of n ports) (same-number i j same) ∙ (unrouted-six ports kind payload j is).0)
  where
    six : (n : ℕ) → n ≡ 6 → n ≤ 1 → ⊥
    six n e low = omega (arith, low, e)

pub at-most_one : (n : ℕ) → n ≤ 1 → (n ≡ 0) ⊎ (n ≡ 1)
at-most_one n h = by (n == 0) refl
  where
    by : (t : Bool) → (n == 0) ≡ t → (n ≡ 0) ⊎ (n ≡ 1)
    by true e = inl (same-number n 0 e)
    by false e = inr (grind (arith, nat_tests, e, h))
