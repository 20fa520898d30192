-- What is known of the downloads that run is kept where one begins.
use Rattle.std.proofs.Common.{Bool, List, None, Some, ap, cond, false, length, refl, subst, sym}
use Rattle.std.proofs.Common.{true, ℕ, ⊎_elim, [], ◌+◌, ◌<◌, ◌∙◌, ◌∷◌, ◌≡◌, ◌≢◌, ◌≤◌}
use Rattle.std.specs.Prelude.{Err, Ok, min, ◌==◌}
use Rattle.gb_formats.specs.FirmwareRecords.{FirmwareAsk, read_firmware_ask}
use Rattle.gb_formats.specs.Loader.{Awaits, Download, Loader, loader_begun}
use Rattle.gb_formats.specs.Module.{Module}
use Rattle.gb_formats.specs.Records.{PayloadFault}
use Rattle.gb_machine.specs.Bus.{Connection, connection_of, next_number}
use Rattle.gb_machine.specs.LawsFirmware.{Follow, range_in}
use Rattle.gb_machine.specs.Members.{IsIn}
use Rattle.gb_machine.specs.Modules.{with_module}
use Rattle.gb_machine.specs.Runs.{IsMoment, Moment}
use Rattle.gb_machine.specs.Sending.{Draft, label_for}
use Rattle.gb_machine.specs.State.{Load, State}
use Rattle.gb_invariants.proofs.Awaiting.{same-some}
use Rattle.gb_invariants.proofs.Lists.{each-in}
use Rattle.gb_invariants.proofs.Numbers.{found-number}
use Rattle.gb_invariants.proofs.Selves.{svc-no-module}
use Rattle.gb_invariants.specs.Facts.{BusFits, IsMade, Loose}
use Rattle.gb_laws.proofs.firmware.MomentToPoint.{FromBefore}
use Rattle.gb_laws.proofs.firmware.LoaderSteps.{ChangesIn}
use Rattle.gb_laws.proofs.firmware.Running.{FitsAt, RunIn, Running}
use Rattle.gb_laws.proofs.firmware.RunningAsks.{asked-now, begins-changes, other-load, run-other}
use Rattle.gb_laws.proofs.firmware.RunningNew.{Apart, first-aside, first-found, run-new}
use Rattle.gb_laws.proofs.links.LinkFrom.{Linked}
use Rattle.gb_laws.proofs.opened.OpeningTold.{told-stays}
use Rattle.gb_laws.proofs.points.PointParts.{Basis, Point, loose}
use Rattle.gb_laws.proofs.points.Points.{IsAskedBy, IsFarAsking, IsGoing, asks, begins, by_loader}
use Rattle.gb_laws.proofs.points.Points.{changed, loader_in}

-- FIND has no range
find-range : (payload : List ℕ) → range_in (read_firmware_ask 0x01 payload) ≡ []
find-range payload = by (length payload == 10)
  where
    by : (t : Bool) → range_in (cond t (Ok (FirmwareAsk.Find payload))
        (Err (PayloadFault.Mismatch (min (length payload) (10 + 1))))) ≡ []
    by true = refl
    by false = refl

pub begins-kept : (m : Moment) (a : Point) → IsMoment m.event → Linked m.before.bus m.before.host []
    → (before : List Loose) → BusFits before m.before.bus → Basis a → FromBefore m a → RunIn m a
    → (d : Draft) (c : Connection) (label : ℕ) (free : a.hand ≡ None)
    (live : connection_of d.connection a.state.bus ≡ Some c)
    (drawn : label_for d a.state.bus ≡ Some label) (i p : ℕ) (x : Module)
    (going : IsGoing m a.state c d (begins i p x)) (far : IsFarAsking m c d)
    (wired : (c.wired ≡ true) × (d.kind < 128))
    → RunIn m (changed m a (asks d c label free live drawn (by_loader (begins i p x) going far
    wired)))
begins-kept m a one links before was basis on runs d c label free live drawn i p x going far wired l
    j r at e ran = ⊎_elim old new (other-load i p (next_number a.state.bus) a.state.loads l j)
  where
    who : IsAskedBy m a c d
    who = by_loader (begins i p x) going far wired

    Runs : Load → Download → Type 0
    Runs l e = Running (FitsAt m) m.before.bus.connections
        (changed m a (asks d c label free live drawn who)).hand
        (changed m a (asks d c label free live drawn who)).told
        (changed m a (asks d c label free live drawn who)).state l e

    tag : List ℕ
    tag = going.0

    loader : Loader
    loader = going.7

    changes : ChangesIn i p loader (loader_begun tag loader) a.state.modules
        (with_module i x a.state.modules)
    changes = begins-changes m a.state c d i p x going

    old : IsIn l a.state.loads × Apart l.intf l.cport i p → Runs l e
    old o = run-other m a basis on runs d c label free live drawn who i p l e
        (runs l o.0 r (sym (changes.others l.intf l.cport o.1) ∙ at) e ran) going.4 o.1
        (first-aside i p d.connection (next_number a.state.bus) l.intf l.cport
        a.state.past.loading (λ s t. o.1 (sym s) (sym t)))

    c_live : IsIn c a.state.bus.connections × (c.number ≡ d.connection)
    c_live = found-number d.connection a.state.bus c live

    other : d.connection ≢ 1
    other s = svc-no-module (sym (links.svc c
        (subst (λ (t : State). IsIn c t.bus.connections) going.3 c_live.0) (c_live.1 ∙ s)).peer
        ∙ going.4)

    first : Download
    first = record { tag = tag; awaits = Awaits.Find; bytes = [] }

    fresh : Runs (record { intf = i; cport = p; request = next_number a.state.bus }) first
    fresh = subst (λ h. Running (FitsAt m) m.before.bus.connections h
        (changed m a (asks d c label free live drawn who)).told
        (changed m a (asks d c label free live drawn who)).state
        (record { intf = i; cport = p; request = next_number a.state.bus }) first) (sym free)
        (run-new a.state (changed m a (asks d c label free live drawn who)).state d label refl
        (loose a) basis.bus before m.before was on.requests going.10.0
        (subst (λ n. n ≤ a.state.bus.made) c_live.1 (each-in (IsMade a.state.bus)
        a.state.bus.connections c basis.bus.numbers.range c_live.0).1) a.told
        (changed m a (asks d c label free live drawn who)).told
        (told-stays m a (asks d c label free live drawn who)) (FitsAt m)
        (record { intf = i; cport = p; request = next_number a.state.bus }) first c
        (record {
          intf = i;
          cport = p;
          connection = d.connection;
          requests = next_number a.state.bus ∷ [];
        }) [] 0 refl c_live.0 c_live.1 going.4 refl refl
        (first-found i p d.connection (next_number a.state.bus) a.state.past.loading) tt other
        (subst IsMoment going.2 one).2 refl (going.10.1, going.10.2)
        (asked-now m a basis on runs d c label free live drawn who i p going.10.0 going.4)
        (λ w. (
          refl,
          subst (λ rs. Follow 0 rs 0) (sym (ap (λ k. range_in (read_firmware_ask k
              d.payload)) going.10.1 ∙ find-range d.payload)) refl,
          tt,
        )))

    new : l ≡ record { intf = i; cport = p; request = next_number a.state.bus } → Runs l e
    new s = subst (λ k. Runs k e) (sym s) (subst (Runs _) (same-some first e
        (ap (λ (k : Loader). k.running) (same-some (loader_begun tag loader) r
        (sym changes.is ∙ subst (λ (k : Load). loader_in k.intf k.cport
        (with_module i x a.state.modules) ≡ Some r) s at)) ∙ ran)) fresh)
