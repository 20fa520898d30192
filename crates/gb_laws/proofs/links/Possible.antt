-- What the application processor does of its own is possible, since its connections go
-- with the bus.
use Rattle.std.proofs.Common.{◌≤◌, ◌<◌, ℕ, List}
use Rattle.std.proofs.Common.{[], ◌∷◌, length, refl, sym, ap, ◌∙◌, inl, inr, subst, arith, ◌++◌}
use Rattle.gb_base.specs.declared.end.End.TheVariants as end
use Rattle.gb_base.specs.declared.entry.Entry.{Entry}
use Rattle.gb_base.specs.declared.entry.Entry.TheVariants as entry
use Rattle.gb_base.specs.declared.entry.IntfStage.TheVariants as stage
use Rattle.gb_base.specs.declared.interface.Link.{Link}
use Rattle.gb_base.specs.declared.steps.SequenceStep.{SequenceStep}
use Rattle.gb_base.specs.declared.steps.SequenceStep.TheVariants as steps
use Rattle.gb_formats.specs.Results.{most_payload}
use Rattle.gb_machine.specs.Bus.{Bus, Connection, same_end}
use Rattle.gb_machine.specs.Host.{Host, with_new_interface}
use Rattle.gb_machine.specs.HostTurns.{host_inserted, host_removed, links_left, links_of}
use Rattle.gb_machine.specs.HostTurns.{one_by_one, without_interface}
use Rattle.gb_machine.specs.Members.{IsIn}
use Rattle.gb_machine.specs.SequenceSteps.{Target, kind_of, payload_of}
use Rattle.gb_machine.specs.Turns.{Act, Asking, Making}
use Rattle.gb_machine.specs.Wiring.{detached, shut_down}
use Rattle.gb_invariants.proofs.Lists.{each-from}
use Rattle.gb_invariants.specs.Attaching.{IsOther}
use Rattle.gb_laws.proofs.links.LinkDue.{making-asks}
use Rattle.gb_laws.proofs.links.LinkBuses.{Linked, linked-left, linked-rest, linked-shut}
use Rattle.gb_laws.proofs.links.Links.{IsFormed, IsFree, IsKnown}
use Rattle.gb_laws.proofs.links.Links.{leaving, linked, supervisory}
use Rattle.gb_laws.specs.Possible.{AreAsks, ArePossible, IsAskable}

-- ---- requests of steps

-- the request of a step can be made
steps-askable : (step : SequenceStep) (t : Target) → IsAskable (kind_of step) (payload_of step t)
steps-askable steps.EnableVsys t = (omega arith, omega arith)
steps-askable steps.EnableRefclk t = (omega arith, omega arith)
steps-askable steps.EnableUnipro t = (omega arith, omega arith)
steps-askable steps.Activate t = (omega arith, omega arith)
steps-askable steps.GiveDevice t = (omega arith, omega arith)
steps-askable steps.CreateRoute t = (omega arith, omega arith)
steps-askable steps.CreateControl t = (omega arith, omega arith)
steps-askable steps.AskVersion t = (omega arith, omega arith)
steps-askable steps.AskSize t = (omega arith, omega arith)
steps-askable steps.AskManifest t = (omega arith, omega arith)
steps-askable steps.CreateConnection t = (omega arith, omega arith)
steps-askable steps.TellConnected t = (omega arith, omega arith)
steps-askable steps.TellDisconnecting t = (omega arith, omega arith)
steps-askable steps.TellDisconnected t = (omega arith, omega arith)
steps-askable steps.DestroyConnection t = (omega arith, omega arith)

askable : (q : Asking) → IsFormed q → IsAskable q.kind q.payload
askable q f =
    let own = steps-askable q.purpose.step f.target in (
      subst (λ k. k < 128) (sym f.kind) own.0,
      subst (λ p. length p ≤ most_payload) (sym f.payload) own.1,
    )

-- ---- acts

-- a connection that is live has other ends than one that is to be made
apart : {b : Bus} {h : Host} (w : Making) (q : Asking) (rest : List Act)
    → Linked b h (Act.Make w q ∷ rest) → (c : Connection) → IsIn c b.connections
    → IsOther w.ap w.intf w.cport c
apart {b} {h} w q rest f c live =
    by (subst (λ r. IsKnown c h.links (Act.Make w q ∷ r)) f.pending.0.1 (f.known c live))
  where
    to : IsFree w q h
    to = f.pending.0.0

    by : IsKnown c h.links (Act.Make w q ∷ []) → IsOther w.ap w.intf w.cport c
    by (supervisory one) =
        let svc = f.svc c live one in record {
          ap = λ e. let low = to.from_one in absurd (omega (arith, low, svc.ap, e));
          peer = ap (λ e. same_end e (end.Module w.intf w.cport)) svc.peer;
        }
    by (linked l i of) = record {
      ap = λ e. to.ap l i (sym of.ap ∙ e);
      peer = ap (λ e. same_end e (end.Module w.intf w.cport)) of.peer ∙ to.at l i;
    }
    by (leaving (inl e)) = absurd cc
    by (leaving (inr i)) = absurd i

-- Acts that are pending are possible.
pub possible : (acts : List Act) {b : Bus} {h : Host} → Linked b h acts → ArePossible acts b
possible [] f = tt
possible (Act.Ask q ∷ rest) f =
    (askable q f.pending.0.2, subst AreAsks (sym f.pending.0.1) tt)
possible (Act.Make w q ∷ rest) {b} f = (
  record {
    attach = each-from (IsOther w.ap w.intf w.cport) b.connections (apart w q rest f);
    ask = askable q f.pending.0.0.formed;
    on = f.pending.0.0.formed.on (making-asks f.pending.0.0.step);
    intf = f.pending.0.0.intf;
    cport = f.pending.0.0.cport;
  },
  f.pending.0.1,
)
possible (Act.Shut k ∷ rest) {b} {h} f =
    possible rest (linked-shut b (shut_down k b) h k rest refl refl f)
possible (Act.Leave k ∷ rest) {b} {h} f = possible rest (linked-left b h k rest f)
possible (Act.Tell e ∷ rest) {b} {h} f =
    possible rest (linked-rest b h (Act.Tell e) rest (λ k g. absurd cc) f)

-- ---- modules that come and go

-- the enumerations of interfaces begin: it is told and asked alone
begun-asks : (p : ℕ) (is : List ℕ) (h : Host) → AreAsks (one_by_one (host_inserted p) is h).acts
begun-asks p [] h = tt
begun-asks p (i ∷ is) h =
    ((omega arith, omega arith), begun-asks p is (with_new_interface p i h))

pub begun-possible : (p : ℕ) (is : List ℕ) (h : Host) (b : Bus)
    → ArePossible (one_by_one (host_inserted p) is h).acts b
begun-possible p [] h b = tt
begun-possible p (i ∷ is) h b =
    ((omega arith, omega arith), begun-asks p is (with_new_interface p i h))

-- connections are given up: nothing is asked
left-possible : (ls : List Link) (e : Entry) (later : List Act) (b : Bus)
    → ((c : Bus) → ArePossible later c)
    → ArePossible ((links_left ls ++ Act.Tell e ∷ []) ++ later) b
left-possible [] e later b possible = possible b
left-possible (l ∷ ls) e later b possible =
    left-possible ls e later (detached l.connection (shut_down l.connection b)) possible

pub gone-possible : (is : List ℕ) (h : Host) (b : Bus)
    → ArePossible (one_by_one host_removed is h).acts b
gone-possible [] h b = tt
gone-possible (i ∷ is) h b =
    left-possible (links_of i h) (entry.Interface i stage.Removed) _ b
    (gone-possible is (without_interface i h))
