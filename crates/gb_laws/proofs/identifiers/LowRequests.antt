-- A request that was made has a type below 128, and identifier 0 where it is unidirectional.
use Rattle.std.proofs.Common.{Bool, List, Some, ap, false, subst, sym, true, ℕ, ⊎_elim}
use Rattle.std.proofs.Common.{[], cond, ◌<◌, ◌∙◌, ◌≡◌}
use Rattle.gb_base.specs.declared.entry.Entry.{Entry}
use Rattle.gb_machine.specs.Bus.{Bus, Connection, Request, request_of}
use Rattle.gb_machine.specs.Labels.{next_label}
use Rattle.gb_machine.specs.Sending.{Draft, label_for, requested}
use Rattle.gb_machine.specs.{Reached.OfARun, Runs.Moment, State.State}
use Rattle.gb_invariants.proofs.Awaiting.{same-some, sent-made}
use Rattle.gb_invariants.proofs.BusChanges.{BusChange, bus_after}
use Rattle.gb_laws.proofs.points.ChangeBuses.{bus_change, by-bus}
use Rattle.gb_laws.proofs.links.LinkRuns.{LinkedTo, linked-over, linked-throughout, start-absent}
use Rattle.gb_laws.proofs.points.Points.{Change, IsAskedBy, Law, asks, by_far, by_host, by_loader}
use Rattle.gb_laws.proofs.points.Points.{changed}
use Rattle.gb_laws.proofs.points.Points.{names}
use Rattle.gb_laws.proofs.points.Points.{upon}
use Rattle.gb_laws.proofs.runs.Runs.{HoldsByMoments, throughout, weaker}
use Rattle.gb_laws.proofs.{basis.Basics.none-made, links.LinkKept.InsertsAbsent}
use Rattle.gb_laws.proofs.{links.LinkKept.LinkedAt}
use Rattle.gb_laws.proofs.{links.LinkLaw.link_law, links.Links.ArePending, points.LowTypes.step-low}
use Rattle.gb_laws.proofs.{points.PointParts.Point}
use Rattle.gb_laws.proofs.{runs.OfStates.reached-has, steps.Steps.over-step}

pub record IsLow (r : Request) : Type 0 where
  pub kind : r.kind < 128
  pub label : r.oneway ≡ true → r.label ≡ 0

-- each request that was made is so
abbrev pub AllLow : Bus → Type 0
AllLow b = (n : ℕ) (r : Request) → request_of n b ≡ Some r → IsLow r

-- what is asked has such a type
abbrev AsksLow : BusChange → Bus → Type 0
AsksLow (BusChange.sends d label) b = (d.kind < 128) × (label_for d b ≡ Some label)
AsksLow _ b = Unit {0}

draft-low : (d : Draft) (label : ℕ) (b : Bus) → d.kind < 128 → label_for d b ≡ Some label
    → IsLow (requested d label)
draft-low d label b low drawn = record { kind = low; label = λ e. by d.oneway e drawn }
  where
    by : (t : Bool) → t ≡ true → cond t (Some 0) (next_label d.connection d.side b) ≡ Some label
        → label ≡ 0
    by true e f = sym (same-some 0 label f)
    by false e f = absurd cc

low-after : (x : BusChange) (b : Bus) → AsksLow x b → AllLow b → AllLow (bus_after x b)
low-after (BusChange.sends d label) b low h n r made =
    ⊎_elim (λ old. h n r old)
    (λ new. subst IsLow (sym new.1) (draft-low d label b low.0 low.1))
    (sent-made d label b n r made)
low-after BusChange.rests b low h n r made = h n r made
low-after _ b low h n r made = h n r made

-- what the application processor asks has a type of its steps, and what others ask has one
pub asked-low : (m : Moment) (a : Point) (d : Draft) (c : Connection) → LinkedAt a
    → IsAskedBy m a c d → d.kind < 128
asked-low m a d c links (by_host q rest is draft none) =
    let pending = subst (ArePending a.state.host) is links.pending in
    subst (λ k. k < 128) (sym (ap (λ (x : Draft). x.kind) draft ∙ pending.0.2.kind))
    (step-low q.purpose.step)
asked-low m a d c links (by_far who on unloaded) = on.1
asked-low m a d c links (by_loader x going who on) = on.1

low-kept : (m : Moment) (a : Point) (x : Change m a) → LinkedAt a → AllLow a.state.bus
    → AllLow (changed m a x).state.bus
low-kept m a x links h =
    by-bus AllLow x (low-after (bus_change x) a.state.bus (by x) h)
  where
    by : (x : Change m a) → AsksLow (bus_change x) a.state.bus
    by (asks d c label free live drawn who) = (asked-low m a d c links who, drawn)
    by (names name d c label free live drawn host) = (host.3, drawn)
    by _ = tt

abbrev low_law : (m : Moment) → InsertsAbsent m → Law m
low_law m absent = upon (link_law m absent)
    (λ a. AllLow a.state.bus) (λ a x g h. low-kept m a x g.1 h)

record LowTo (told : List Entry) (s : State) : Type 0 where
  links : LinkedTo told s
  low : AllLow s.bus

low-throughout : HoldsByMoments LowTo
low-throughout = throughout LowTo (record {
  links = linked-throughout [] tt;
  low = λ n r made. absurd (none-made n r made);
}) (λ m one h. record {
  links = linked-over m one h.links;
  low = (over-step m (low_law m (start-absent m h.links)) one
      ((h.links.0, h.links.1), h.low)).1.1;
})

-- It is so in each state of a run.
pub reached-low : (s : State) → OfARun s → AllLow s.bus
reached-low = reached-has (λ s. AllLow s.bus)
    (weaker LowTo (λ told s. AllLow s.bus) (λ told s h. h.low) low-throughout)
