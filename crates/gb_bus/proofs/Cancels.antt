-- A request that is given up is so in the machine's state.
use Rattle.std.proofs.Common.{◌≡◌, ℕ, true, cond, ◌&&◌, inl, inr, Some, None, List, refl, sym, ap}
use Rattle.std.proofs.Common.{◌∙◌, subst}
use Rattle.gb_base.specs.declared.end.Side.{Side}
use Rattle.gb_base.specs.declared.end.Side.TheVariants as side
use Rattle.gb_base.specs.declared.outcome.Outcome.{Outcome}
use Rattle.gb_bus.proofs.Endings.{Said, over, said, shows-gave_up, still}
use Rattle.gb_bus.proofs.Finding.{twin}
use Rattle.gb_bus.proofs.ConnectionChanges.{ops-seen}
use Rattle.gb_bus.proofs.Sides.{sides-gave_up, sides-gave_up_elsewhere}
use Rattle.gb_bus.proofs.Standing.{AreShown, stays-for}
use Rattle.gb_bus.specs.Cancelling.{GivesUp}
use Rattle.gb_bus.specs.Parts.{ops_of}
use Rattle.gb_bus.specs.Sides.{GivesUpIn, GivesUpWhere}
use Rattle.gb_bus.specs.Slots.{SlotsKept, MovesAt, ended_at, gives_up_so, open_place, slot_at}
use Rattle.gb_bus.specs.Stands.{Around, KeepSides, Stands, pending_by, pending_of}
use Rattle.gb_bus.specs.declared.bus.Bus.{Bus}
use Rattle.gb_bus.specs.Connection.{Connection}
use Rattle.gb_invariants.proofs.Awaiting.{same-some}
use Rattle.gb_invariants.proofs.Changes.{gave_up-keeps}
use Rattle.gb_invariants.proofs.Outcomes.{is-same}
use Rattle.gb_machine.specs.Bus as machine
use Rattle.gb_machine.specs.Bus.{Request, is_open, request_of}
use Rattle.gb_machine.specs.Requests.{gave_up, is_of, same_side}

-- a request is of its own connection and side
pub is-own : (r : Request) → is_of r.connection r.side r ≡ true
is-own r = ap (λ t. t && same_side r.side r.side) (is-same r.connection) ∙ by r.side
  where
    by : (s : Side) → same_side s s ≡ true
    by side.Ap = refl
    by side.Far = refl

-- what its side has of an open request
is-pending : (b : machine.Bus) (n : ℕ) (r : Request) → request_of n b ≡ Some r
    → is_open n b ≡ true → pending_of r.connection r.side n b ≡ None → ⊥
is-pending b n r made unended none =
    clash (sym (ap (pending_by r.connection r.side (is_open n b)) made
    ∙ ap (λ t. cond (t && is_of r.connection r.side r)
    (Some (record { label = r.label; deadline = r.deadline })) None) unended
    ∙ ap (λ t. cond t (Some (record { label = r.label; deadline = r.deadline })) None)
    (is-own r)) ∙ none)
  where
    clash : {A : Type 0} {v : A} → Some v ≡ None → ⊥
    clash e = absurd cc

-- the connections once an open request is given up
record After (xs : List Connection) (b : machine.Bus) (n : ℕ) (how : Outcome) : Type 0 where
  shown : AreShown b.requests xs b.connections
  sides : KeepSides xs (gave_up n how b)

after : (around : Around) (x : Bus) (b : machine.Bus) (cs : List Connection) (n : ℕ)
    (how : Outcome) (r : Request)
    → Stands around x b → request_of n b ≡ Some r → is_open n b ≡ true
    → GivesUpIn x.connections cs r.connection r.side n → After cs b n how
after around x b cs n how r s made unended (inl d) = by d.did
  where
    shown : AreShown b.requests cs b.connections
    shown = subst (λ (ys : List Connection). AreShown b.requests ys b.connections) (sym d.rest)
        (stays-for b.requests r.connection _ x.connections b.connections
        (ops-seen r.side d.after) s.shows.connections)

    by : GivesUpWhere (ops_of r.side d.connection) d.after n → After cs b n how
    by (inl g) = record {
      shown = shown;
      sides = sides-gave_up around.items x.connections cs b r.connection r.side n how
          s.shows.connections s.facts.fits (record {
            connection = d.connection;
            after = d.after;
            found = d.found;
            did = g;
            rest = d.rest;
          }) s.shows.sides;
    }
    by (inr g) =
        let t = twin b.requests r.connection x.connections b.connections d.connection
        s.shows.connections d.found in
        let keeps = s.shows.sides r.connection r.side d.connection t.connection d.found t.live in
        absurd (is-pending b n r made unended (sym (keeps.pending n) ∙ g.0))
after around x b cs n how r s made unended (inr e) = record {
  shown = subst (λ (ys : List Connection). AreShown b.requests ys b.connections) (sym e.1)
      s.shows.connections;
  sides = subst (λ (ys : List Connection). KeepSides ys (gave_up n how b)) (sym e.1)
      (sides-gave_up_elsewhere x.connections b n how r made unended e.0 s.shows.sides);
}

-- an open request is given up
pub gives_up : (around : Around) (x : Bus) (b : machine.Bus) (n : ℕ) (how : Outcome) (k : ℕ)
    (at : Side) (cs : List Connection) (y : SlotsKept)
    → Stands around x b → open_place (slot_at x.slots n) ≡ Some (k, at)
    → GivesUpIn x.connections cs k at n
    → MovesAt n (gives_up_so how) (ended_at n how x.slots) x.slots y
    → GivesUp around (record x { connections = cs; slots = y }) how n b
gives_up around x b n how k at cs y s is changes moves = by (said around.names b n)
  where
    Goal : Type 0
    Goal = GivesUp around (record x { connections = cs; slots = y }) how n b

    by : Said around.names b n → Goal
    by (over closed unkind nowhere) =
        absurd (clash (sym (ap open_place (s.shows.slots n) ∙ nowhere) ∙ is))
      where
        clash : {A : Type 0} {v : A} → None ≡ Some v → ⊥
        clash e = absurd cc
    by (still r made unended kind_is place_is) =
        let same = same-some (k, at) (r.connection, r.side)
        (sym is ∙ ap open_place (s.shows.slots n) ∙ place_is) in
        let a = after around x b cs n how r s made unended
        (subst (λ (p : ℕ × Side). GivesUpIn x.connections cs p.0 p.1 n) same changes) in
        record {
          unended = unended;
          stands = record {
            shows = shows-gave_up around.names x b n how cs y unended a.shown a.sides moves
                s.shows;
            named = s.named;
            facts = record {
              fits = gave_up-keeps around.items n how b unended s.facts.fits;
              apart = s.facts.apart;
            };
          };
        }
