-- Requests that create or destroy connections: by their records, and by the steps that ask them.
use Rattle.std.proofs.Common.{Bool, List, ap, arith, false, refl, subst, sym, true, ℕ, [], ◌++◌}
use Rattle.std.proofs.Common.{◌∷◌, ◌≡◌, ◌≤◌}
use Rattle.std.specs.Prelude.{Err, Ok, Result}
use Rattle.gb_base.specs.declared.steps.SequenceStep.{SequenceStep}
use Rattle.gb_base.specs.declared.steps.SequenceStep.TheVariants as steps
use Rattle.gb_formats.specs.{Bytes.le16, Records.PayloadFault, SvcRecords.SvcAsk}
use Rattle.gb_formats.specs.{SvcRecords.read_svc_ask}
use Rattle.gb_machine.specs.SequenceSteps.{Target, is_for_connection, kind_of, payload_of}
use Rattle.gb_machine.specs.{Bus.Request, Refusals.is_reserved, Turns.Asking, Turns.Making}
use Rattle.gb_laws.proofs.svc.SvcKinds.{svc-kind}
use Rattle.byteorder.specs.{Endian.little_number, Numbers.little_number-reads_back}
use Rattle.gb_invariants.proofs.HostChanges.{is_creating}

-- a record that creates a connection
abbrev pub is_create : Result SvcAsk PayloadFault → Bool
is_create (Ok (SvcAsk.ConnCreate i1 c1 i c tc flags)) = true
is_create _ = false

-- a request that creates a connection
abbrev pub creates_one : Request → Bool
creates_one r = is_create (read_svc_ask r.kind r.payload)

-- a record that destroys a connection
abbrev pub is_destroy : Result SvcAsk PayloadFault → Bool
is_destroy (Ok (SvcAsk.ConnDestroy i1 c1 i c)) = true
is_destroy _ = false

-- a request that destroys a connection
abbrev pub destroys_one : Request → Bool
destroys_one r = is_destroy (read_svc_ask r.kind r.payload)

-- what a record creates or destroys is a connection from CPort a of the application processor to
-- CPort c of interface i
abbrev pub IsBetween : ℕ → ℕ → ℕ → Result SvcAsk PayloadFault → Type 0
IsBetween a i c (Ok (SvcAsk.ConnCreate i1 c1 j d tc flags)) =
    (i1 ≡ 1) × (c1 ≡ a) × (j ≡ i) × (d ≡ c)
IsBetween a i c (Ok (SvcAsk.ConnDestroy i1 c1 j d)) = (i1 ≡ 1) × (c1 ≡ a) × (j ≡ i) × (d ≡ c)
IsBetween a i c _ = Unit {0}

-- A request for a connection that is to be made speaks of that.
pub record IsMade (w : Making) (q : Asking) : Type 0 where
  pub target : Target
  pub kind : q.kind ≡ kind_of q.purpose.step
  pub payload : q.payload ≡ payload_of q.purpose.step target
  pub ap : target.ap ≡ w.ap
  pub intf : target.intf ≡ w.intf
  pub cport : target.cport ≡ w.cport

-- ---- records

-- A request that creates a connection has a type that lines can't send.
pub create-reserved : (kind : ℕ) (payload : List ℕ)
    → is_create (read_svc_ask kind payload) ≡ true → is_reserved kind ≡ true
create-reserved kind payload h = by (read_svc_ask kind payload) refl h
  where
    by : (r : Result SvcAsk PayloadFault) → read_svc_ask kind payload ≡ r
        → is_create r ≡ true → is_reserved kind ≡ true
    by (Ok (SvcAsk.ConnCreate a b c d g k)) e f = ap is_reserved (sym (svc-kind kind payload _ e))
    by (Ok _) e f = absurd cc
    by (Err fault) e f = absurd cc

-- ---- steps

-- a step that asks for a connection to be created is one of the two that do
pub step-creating : (step : SequenceStep) (t : Target)
    → is_create (read_svc_ask (kind_of step) (payload_of step t)) ≡ true → is_creating step ≡ true
step-creating steps.CreateControl t h = refl
step-creating steps.CreateConnection t h = refl
step-creating _ t h = absurd cc

pub creating-for : (step : SequenceStep) → is_creating step ≡ true → is_for_connection step ≡ true
creating-for steps.CreateControl h = refl
creating-for steps.CreateConnection h = refl
creating-for steps.DestroyConnection h = refl
creating-for _ h = absurd cc

-- a number of two bytes reads back, with what is behind it
reads-back : (c : ℕ) (rest : List ℕ) → c ≤ 4095 → little_number 2 (le16 c ++ rest) ≡ c
reads-back c rest low = little_number-reads_back 2 c rest (omega (arith, low))

-- what it asks for is the connection of its target
pub step-between : (step : SequenceStep) (t : Target) → t.ap ≤ 4095 → t.cport ≤ 4095
    → IsBetween t.ap t.intf t.cport (read_svc_ask (kind_of step) (payload_of step t))
step-between steps.CreateControl t low small = (
  refl,
  reads-back t.ap (t.intf ∷ le16 t.cport ++ 0 ∷ 0 ∷ []) low,
  omega arith,
  reads-back t.cport (0 ∷ 0 ∷ []) small,
)
step-between steps.CreateConnection t low small = (
  refl,
  reads-back t.ap (t.intf ∷ le16 t.cport ++ 0 ∷ 0 ∷ []) low,
  omega arith,
  reads-back t.cport (0 ∷ 0 ∷ []) small,
)
step-between steps.DestroyConnection t low small = (
  refl,
  reads-back t.ap (t.intf ∷ le16 t.cport ++ []) low,
  omega arith,
  reads-back t.cport [] small,
)
step-between _ t low small = tt

-- so is what is asked for a connection that is to be made
pub made-creates : (w : Making) (q : Asking) → IsMade w q → w.ap ≤ 4095 → w.cport ≤ 4095
    → IsBetween w.ap w.intf w.cport (read_svc_ask q.kind q.payload)
made-creates w q f low small =
    let ap_low = f.ap in
    let cport_low = f.cport in
    subst (λ k. IsBetween w.ap w.intf w.cport (read_svc_ask k q.payload)) (sym f.kind)
    (subst (λ p. IsBetween w.ap w.intf w.cport (read_svc_ask (kind_of q.purpose.step) p))
    (sym f.payload) (subst (λ a. IsBetween a w.intf w.cport (read_svc_ask (kind_of q.purpose.step)
    (payload_of q.purpose.step f.target))) f.ap
    (subst (λ i. IsBetween f.target.ap i w.cport (read_svc_ask (kind_of q.purpose.step)
    (payload_of q.purpose.step f.target))) f.intf
    (subst (λ c. IsBetween f.target.ap f.target.intf c (read_svc_ask (kind_of q.purpose.step)
    (payload_of q.purpose.step f.target))) f.cport
    (step-between q.purpose.step f.target (omega (arith, low, ap_low))
    (omega (arith, small, cport_low)))))))
