-- The facts of the application processor's connections go over what becomes of the bus, where no
-- side is closed, and no connection goes or is made.
use Rattle.std.proofs.Common.{Bool, List, Some, refl, sym, ℕ, ◌∙◌, ◌≡◌, ◌≢◌}
use Rattle.gb_base.specs.declared.end.Side.{Side}
use Rattle.gb_base.specs.declared.outcome.Outcome.{Outcome}
use Rattle.gb_machine.specs.Bus.{Bus, Connection}
use Rattle.gb_machine.specs.Delivery.{ended, popped}
use Rattle.gb_machine.specs.{Host.Host, Members.IsIn, Requests.gave_up}
use Rattle.gb_machine.specs.{Turns.Act}
use Rattle.gb_invariants.proofs.BusChanges.{BusChange, Was, bus_after, came, clean_by, ends}
use Rattle.gb_invariants.proofs.BusChanges.{gives_up, injects, leaves, made_by, number_of, opens}
use Rattle.gb_invariants.proofs.BusChanges.{sends, shut_by, shuts, stayed, takes, was, went}
use Rattle.gb_invariants.proofs.Awaiting.{none-some}
use Rattle.gb_laws.proofs.links.LinkFrom.{IsFrom, Linked, from-same, linked-from}

-- no side is closed, no connection goes or is made, and the supervisory controller's stays clean
abbrev pub IsLinkWell : BusChange → Type 0
IsLinkWell (shuts k) = ⊥
IsLinkWell (leaves k) = ⊥
IsLinkWell (opens a i c protocol) = ⊥
IsLinkWell (injects k bytes) = k ≢ 1
IsLinkWell _ = Unit {0}

shut-stays : (x : BusChange) → IsLinkWell x → (t : Bool) → shut_by x t ≡ t
shut-stays (shuts k) well t = absurd well
shut-stays _ well t = refl

clean-stays : (x : BusChange) → IsLinkWell x → number_of x ≡ 1 → (t : Bool) → clean_by x t ≡ t
clean-stays (injects k bytes) well one t = absurd (well one)
clean-stays _ well one t = refl

made-stays : (x : BusChange) (b : Bus) → IsLinkWell x → (bus_after x b).made ≡ b.made
made-stays (opens a i c protocol) b well = absurd well
made-stays (sends d label) b well = refl
made-stays _ b well = refl

none-made : (x : BusChange) (b : Bus) (c : Connection) → IsLinkWell x → made_by x b ≡ Some c → ⊥
none-made (opens a i p protocol) b c well e = absurd well
none-made _ b c well e = none-some e

pub linked-after : {b : Bus} {h : Host} {acts : List Act} (x : BusChange) → IsLinkWell x
    → Linked b h acts → Linked (bus_after x b) h acts
linked-after {b} {h} {acts} x well f =
    linked-from b h acts (made-stays x b well) (λ c live. by c (was x b c live)) f
  where
    by : (c : Connection) → Was x b c → (d : Connection) × IsIn d b.connections × IsFrom d c
    by c (stayed o) = (c, o, from-same c)
    by c (went d o at is g) = (
      d,
      o,
      record {
        number = g.ends.number;
        shut = g.shut ∙ shut-stays x well d.shut;
        ap = g.ends.ap;
        peer = g.ends.peer;
        protocol = g.protocol;
        clean = λ one. g.clean ∙ clean-stays x well (sym at ∙ sym g.ends.number ∙ one) d.clean;
      },
    )
    by c (came e) = absurd (none-made x b c well e)

-- an item is taken
pub linked-popped : {b : Bus} {h : Host} {acts : List Act} (k : ℕ) (at : Side) → Linked b h acts
    → Linked (popped k at b) h acts
linked-popped k at f = linked-after (takes k at) tt f

-- a request ends
pub linked-ended : {b : Bus} {h : Host} {acts : List Act} (n : ℕ) (how : Outcome) → Linked b h acts
    → Linked (ended n how b) h acts
linked-ended n how f = linked-after (ends n how) tt f

-- a request is given up
pub linked-gave_up : {b : Bus} {h : Host} {acts : List Act} (n : ℕ) (how : Outcome)
    → Linked b h acts → Linked (gave_up n how b) h acts
linked-gave_up n how f = linked-after (gives_up n how) tt f
