-- Which requests are those of an enumeration, by the step that asks them.
use Rattle.std.proofs.Common.{List, ap, arith, false, refl, subst, sym, true, ℕ, [], ◌++◌, ◌+◌, ◌∙◌}
use Rattle.std.proofs.Common.{◌∷◌, ◌≡◌, ◌≢◌, ◌≤◌}
use Rattle.std.proofs.lemmas.Bool.Decides.{nat_tests}
use Rattle.std.specs.Prelude.{Err, Ok, Result, ◌&&◌, ◌==◌}
use Rattle.gb_base.specs.declared.steps.SequenceStep.{SequenceStep}
use Rattle.gb_base.specs.declared.steps.SequenceStep.TheVariants as steps
use Rattle.gb_formats.specs.{Bytes.le16, Records.PayloadFault, SvcRecords.SvcAsk}
use Rattle.gb_formats.specs.{SvcRecords.read_svc_ask}
use Rattle.gb_machine.specs.SequenceSteps.{Target, asks_control, kind_of, payload_of}
use Rattle.gb_machine.specs.{Refusals.is_reserved, SvcQueues.enumerates, Turns.Asking}
use Rattle.gb_invariants.proofs.Outcomes.{both-true, same-number}
use Rattle.gb_laws.proofs.{enumerations.AskedWaits.is_power_step, links.Links.IsFormed}
use Rattle.gb_laws.proofs.{svc.SvcKinds.svc-kind}
use Rattle.byteorder.specs.{Endian.little_number, Numbers.little_number-reads_back}

-- the CPort of a CONN_CREATE reads back
cport-back : (c : ℕ) → c ≤ 4095 → little_number 2 (le16 c ++ 0 ∷ 0 ∷ []) ≡ c
cport-back c low = little_number-reads_back 2 c (0 ∷ 0 ∷ []) (omega (arith, low))

same-plus : (n k : ℕ) → n ≡ k → (n + 0 == k) ≡ true
same-plus n k e = grind (arith, nat_tests, e)

-- what a step asks is a request of the enumeration of its interface alone
of-step : (i : ℕ) (step : SequenceStep) (t : Target)
    → (step ≡ steps.CreateConnection → (t.cport ≢ 0) × (t.cport ≤ 4095)) → asks_control step ≡ false
    → enumerates i (read_svc_ask (kind_of step) (payload_of step t)) ≡ true
    → (is_power_step step ≡ true) × (t.intf ≡ i)
of-step i steps.EnableVsys t c on h = (refl, omega (arith, same-number (t.intf + 0) i h))
of-step i steps.EnableRefclk t c on h = (refl, omega (arith, same-number (t.intf + 0) i h))
of-step i steps.EnableUnipro t c on h = (refl, omega (arith, same-number (t.intf + 0) i h))
of-step i steps.Activate t c on h = (refl, omega (arith, same-number (t.intf + 0) i h))
of-step i steps.GiveDevice t c on h = (refl, omega (arith, same-number (t.intf + 0) i h))
of-step i steps.CreateRoute t c on h = (refl, omega (arith, same-number (t.intf + 0) i h))
of-step i steps.CreateControl t c on h =
    (refl, omega (arith, same-number (t.intf + 0) i (both-true _ _ h).0))
of-step i steps.CreateConnection t c on h =
    absurd ((c refl).0 (sym (cport-back t.cport (c refl).1) ∙ same-number _ 0 (both-true _ _ h).1))
of-step i _ t c on h = absurd cc

-- A formed request to the supervisory controller is one of the enumeration of its own interface
-- alone, and of a step that asks for power.
pub formed-enumerates : (i : ℕ) (q : Asking) → IsFormed q → asks_control q.purpose.step ≡ false
    → enumerates i (read_svc_ask q.kind q.payload) ≡ true
    → (is_power_step q.purpose.step ≡ true) × (q.purpose.intf ≡ i)
formed-enumerates i q f on h =
    let r = of-step i q.purpose.step f.target f.created on
    (subst (λ k. enumerates i (read_svc_ask k (payload_of q.purpose.step f.target)) ≡ true)
    f.kind (subst (λ p. enumerates i (read_svc_ask q.kind p) ≡ true) f.payload h)) in
    (r.0, sym f.intf ∙ r.1)

-- what a step that asks for power asks is a request of the enumeration of its interface
step-own : (i : ℕ) (step : SequenceStep) (t : Target) → is_power_step step ≡ true
    → (step ≡ steps.CreateControl → t.cport ≡ 0) → t.intf ≡ i
    → enumerates i (read_svc_ask (kind_of step) (payload_of step t)) ≡ true
step-own i steps.EnableVsys t s c at = same-plus t.intf i at
step-own i steps.EnableRefclk t s c at = same-plus t.intf i at
step-own i steps.EnableUnipro t s c at = same-plus t.intf i at
step-own i steps.Activate t s c at = same-plus t.intf i at
step-own i steps.GiveDevice t s c at = same-plus t.intf i at
step-own i steps.CreateRoute t s c at = same-plus t.intf i at
step-own i steps.CreateControl t s c at =
    let none = c refl in
    ap (λ u. u && little_number 2 (le16 t.cport ++ 0 ∷ 0 ∷ []) == 0) (same-plus t.intf i at)
    ∙ ap (λ n. n == 0) (cport-back t.cport (omega (arith, none)) ∙ none)
step-own i _ t s c at = absurd cc

-- A formed request of a step that asks for power is one of the enumeration of its interface.
pub power-enumerates : (i : ℕ) (q : Asking) → IsFormed q → is_power_step q.purpose.step ≡ true
    → (q.purpose.step ≡ steps.CreateControl → q.purpose.cport ≡ 0) → q.purpose.intf ≡ i
    → enumerates i (read_svc_ask q.kind q.payload) ≡ true
power-enumerates i q f s c at =
    subst (λ k. enumerates i (read_svc_ask k q.payload) ≡ true) (sym f.kind)
    (subst (λ p. enumerates i (read_svc_ask (kind_of q.purpose.step) p) ≡ true) (sym f.payload)
    (step-own i q.purpose.step f.target s (λ e. f.cport ∙ c e) (f.intf ∙ at)))

-- A request of an enumeration has a type that lines can't send.
pub enumeration-reserved : (i kind : ℕ) (payload : List ℕ)
    → enumerates i (read_svc_ask kind payload) ≡ true → is_reserved kind ≡ true
enumeration-reserved i kind payload h = by (read_svc_ask kind payload) refl h
  where
    by : (r : Result SvcAsk PayloadFault) → read_svc_ask kind payload ≡ r
        → enumerates i r ≡ true → is_reserved kind ≡ true
    by (Ok (SvcAsk.VsysEnable j)) e f = ap is_reserved (sym (svc-kind kind payload _ e))
    by (Ok (SvcAsk.RefclkEnable j)) e f = ap is_reserved (sym (svc-kind kind payload _ e))
    by (Ok (SvcAsk.UniproEnable j)) e f = ap is_reserved (sym (svc-kind kind payload _ e))
    by (Ok (SvcAsk.IntfActivate j)) e f = ap is_reserved (sym (svc-kind kind payload _ e))
    by (Ok (SvcAsk.IntfDeviceId j d)) e f = ap is_reserved (sym (svc-kind kind payload _ e))
    by (Ok (SvcAsk.RouteCreate a b c d)) e f = ap is_reserved (sym (svc-kind kind payload _ e))
    by (Ok (SvcAsk.ConnCreate a b c d g k)) e f = ap is_reserved (sym (svc-kind kind payload _ e))
    by (Ok (SvcAsk.ConnDestroy a b c d)) e f = absurd cc
    by (Ok (SvcAsk.RouteDestroy a b)) e f = absurd cc
    by (Ok SvcAsk.Ping) e f = absurd cc
    by (Ok (SvcAsk.ProtocolVersion a b)) e f = absurd cc
    by (Ok (SvcAsk.Hello a b)) e f = absurd cc
    by (Ok (SvcAsk.ModuleInserted a b c)) e f = absurd cc
    by (Ok (SvcAsk.ModuleRemoved a)) e f = absurd cc
    by (Err fault) e f = absurd cc
