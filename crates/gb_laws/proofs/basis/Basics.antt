-- The basis of all laws is kept by each single change.
use Rattle.std.proofs.Common.{List, None, Option, Some, ap, arith, inl, inr, map, refl, subst, suc}
use Rattle.std.proofs.Common.{sym, true, zero, ℕ, [], ◌∷◌, ◌≡◌}
use Rattle.std.specs.Prelude.{is_some, ◌==◌}
use Rattle.gb_base.specs.declared.end.Side.{Side}
use Rattle.gb_base.specs.declared.end.End.TheVariants as end
use Rattle.gb_base.specs.declared.end.Side.TheVariants as side
use Rattle.gb_base.specs.declared.entry.Entry.{Entry}
use Rattle.gb_base.specs.declared.name.Name.{Name}
use Rattle.gb_machine.specs.Bus.{Connection, Item, Request, first_bus, next_number, queue}
use Rattle.gb_machine.specs.Bus.{request_of, svc_connection}
use Rattle.gb_machine.specs.{Delivery.answered, Delivery.popped, Holding.held_on}
use Rattle.gb_machine.specs.{LawsBus.is_item_of, Lists.nth, Lists.without, Members.IsIn}
use Rattle.gb_machine.specs.{Names.named, Runs.Moment, Sending.sent, State.State, State.first_state}
use Rattle.gb_invariants.proofs.Changes.{attached-keeps, detached-keeps, ended-keeps}
use Rattle.gb_invariants.proofs.Changes.{forgotten-keeps, gave_up-keeps, injected-keeps}
use Rattle.gb_invariants.proofs.Changes.{popped-keeps, sent-keeps, shut-keeps, unwired-keeps}
use Rattle.gb_invariants.proofs.Changes.{wired-keeps}
use Rattle.gb_invariants.proofs.{Awaiting.same-some, Awaiting.sent-new, Lists.each-append}
use Rattle.gb_invariants.proofs.{Lists.each-filter}
use Rattle.gb_invariants.specs.Facts.{BusFits}
use Rattle.gb_laws.proofs.basis.BasisParts.{answers-none, basis-same, forgets-none, free-basis}
use Rattle.gb_laws.proofs.basis.BasisParts.{free-bus}
use Rattle.gb_laws.proofs.basis.BasisParts.{held-bus, keeps-fewer, loose_of, names-remain}
use Rattle.gb_laws.proofs.basis.BasisParts.{replied-fits}
use Rattle.gb_laws.proofs.basis.BasisParts.{sent-remains, still-popped, taken-is}
use Rattle.gb_laws.proofs.basis.Loosening.{fewer-held, fewer-tail, fewer-taken, fewer-without}
use Rattle.gb_laws.proofs.basis.Loosening.{held-at}
use Rattle.gb_laws.proofs.basis.Loosening.{without-none}
use Rattle.gb_laws.proofs.points.PointParts.{Basis, Hand, IsStill, Point, Wires, loose_held}
use Rattle.gb_laws.proofs.points.PointParts.{resting}
use Rattle.gb_laws.proofs.points.Points.{Change, Law, acts_asked, acts_left, acts_made, acts_shut}
use Rattle.gb_laws.proofs.points.Points.{answers, asks, binds, changed, drops, forgets, frees}
use Rattle.gb_laws.proofs.points.Points.{gives_up}
use Rattle.gb_laws.proofs.points.Points.{holds, injects, names, replies, takes, takes_held, unwires}
use Rattle.gb_laws.proofs.points.Points.{wires}
use Rattle.gb_laws.proofs.{points.Awaited.awaited-rest, steps.DeliveredHands.answers-open}
use Rattle.gb_laws.proofs.{points.Naming.made-named}
use Rattle.gb_laws.proofs.{points.Places.module-far, points.Places.place-is}
use Rattle.gb_laws.proofs.{runs.Runs.HoldsByMoments, runs.Runs.throughout}
use Rattle.gb_laws.proofs.{steps.Steps.over-step}
use Rattle.gb_laws.proofs.links.DrainingKept.{draining-kept}

-- ---- each change

pub basis-kept : {m : Moment} (a : Point) (x : Change m a) → Basis a → Basis (changed m a x)
basis-kept a (asks d c label free live drawn who) h =
    free-basis free (sent-keeps (map loose_held a.state.held) d label c a.state.bus live drawn
    (free-bus free h)) (names-remain a.state.names a.state.bus (sent d label a.state.bus)
    (sent-remains d label a.state.bus) h.names) h.drains
basis-kept a (names name d c label free live drawn host) h =
    free-basis free (sent-keeps (map loose_held a.state.held) d label c a.state.bus live drawn
    (free-bus free h))
    (each-append (λ (p : Name × ℕ). is_some (request_of p.1 (sent d label a.state.bus)) ≡ true)
    a.state.names ((name, next_number a.state.bus) ∷ [])
    (names-remain a.state.names a.state.bus (sent d label a.state.bus)
    (sent-remains d label a.state.bus) h.names) (ap is_some (sent-new d label a.state.bus), tt))
    h.drains
basis-kept a (binds x y n is) h = record {
  bus = h.bus;
  names = each-append (λ (p : Name × ℕ). is_some (request_of p.1 a.state.bus) ≡ true) a.state.names
      ((y, n) ∷ []) h.names (made-named x a.state.names n a.state.bus h.names is, tt);
  drains = h.drains;
  hand = h.hand;
}
basis-kept a (frees name) h = record {
  bus = h.bus;
  names = each-filter (λ (p : Name × ℕ). is_some (request_of p.1 a.state.bus) ≡ true) _
      a.state.names h.names;
  drains = h.drains;
  hand = h.hand;
}
basis-kept {m} a (takes at p item free start is named front) h =
    let live = subst (λ s. IsIn p.connection s.bus.connections) (sym start)
    (place-is at m.before.bus.connections p named).live in record {
      bus = popped-keeps (map loose_held a.state.held) p.side item p.connection a.state.bus live
          front (free-bus free h);
      names = h.names;
      drains = h.drains;
      hand = λ x e. subst (λ (y : Hand). IsStill y.connection
          (popped p.connection.number p.side a.state.bus))
          (same-some (record { connection = p.connection; side = p.side; item = item }) x e)
          (still-popped p.side a.state.bus live);
    }
basis-kept {m} a (takes_held i c place_number p x free start is at held) h =
    let place = place-is (end.Module i c) m.before.bus.connections p at in
    let live = subst (λ s. IsIn p.connection s.bus.connections) (sym start) place.live in
    let there = subst (λ s. nth place_number (held_on p.connection.number s.held) ≡ Some x)
    (sym start) held in
    let on = (held-at p.connection.number place_number a.state.held x there).1 in
    let far = module-far i c p.side p.connection place.is in
    record {
      bus = keeps-fewer _ (fewer-taken p.connection.number place_number a.state.held x
          (record { connection = p.connection.number; side = p.side; item = x.item }) there
          (same on far)) (free-bus free h);
      names = h.names;
      drains = h.drains;
      hand = λ y e. subst (λ (z : Hand). IsStill z.connection a.state.bus)
          (same-some (record { connection = p.connection; side = p.side; item = x.item }) y e)
          (record {
            now = p.connection;
            live = live;
            self = record { number = refl; clean = refl; shut = refl; ap = refl; peer = refl };
          });
    }
  where
    same : x.connection ≡ p.connection.number → p.side ≡ side.Far
        → record { connection = p.connection.number; side = p.side; item = x.item } ≡ loose_held x
    same on far = taken-is p.connection.number x.connection p.side x.item on far
basis-kept a drops h = by a.hand refl
  where
    by : (o : Option Hand) → a.hand ≡ o → Basis (record a { hand = None })
    by None e = free-basis refl (free-bus e h) h.names h.drains
    by (Some x) e =
        free-basis refl (keeps-fewer _ (fewer-tail _) (held-bus a x e h)) h.names h.drains
basis-kept a (holds x is far) h =
    free-basis refl (keeps-fewer _
    (fewer-held (record { connection = x.connection.number; side = x.side; item = x.item })
    (record { connection = x.connection.number; item = x.item }) a.state.held
    (taken-is x.connection.number x.connection.number x.side x.item refl far)) (held-bus a x is h))
    h.names h.drains
basis-kept a (replies x q r is made twoway) h =
    free-basis refl (replied-fits x.connection.number
    x.side x.item q r (held-bus a x is h) made twoway.0) h.names h.drains
basis-kept a (answers x n result payload is says which) h =
    let fits = held-bus a x is h in
    let f = fewer-tail (loose_of x) in
    free-basis refl (ended-keeps (loose_of x ∷ map loose_held a.state.held)
    (map loose_held a.state.held) n
    (answered result payload) a.state.bus (answers-open x n which) f.within
    (λ k. let less = f.counts (is_item_of k) in omega (arith, less))
    (answers-none (map loose_held a.state.held) x n fits (h.hand x is) which) fits) h.names h.drains
basis-kept a (forgets x n is which) h =
    let fits = held-bus a x is h in
    let f = fewer-tail (loose_of x) in
    free-basis refl (forgotten-keeps (loose_of x ∷ map loose_held a.state.held)
    (map loose_held a.state.held) n
    a.state.bus f.within (λ k. let less = f.counts (is_item_of k) in omega (arith, less))
    (forgets-none (map loose_held a.state.held) x n fits (h.hand x is) which) fits) h.names h.drains
basis-kept a (gives_up n how free unended cause) h =
    free-basis free (gave_up-keeps (map loose_held a.state.held) n how a.state.bus unended
    (free-bus free h)) h.names h.drains
basis-kept a (wires k free untouched live powered) h =
    free-basis free (wired-keeps (map loose_held a.state.held) k a.state.bus (free-bus free h))
    h.names h.drains
basis-kept a (unwires k free before live) h =
    let f = fewer-without k a.state.held in
    free-basis free (unwired-keeps (map loose_held a.state.held)
    (map loose_held (without (λ x. x.connection == k) a.state.held)) k
    a.state.bus f.within (without-none k a.state.held)
    (λ n. let less = f.counts (is_item_of n) in omega (arith, less)) (free-bus free h)) h.names
    h.drains
basis-kept a (injects i c p bytes free named) h =
    free-basis free (injected-keeps (map loose_held a.state.held) p.connection.number bytes
    a.state.bus (free-bus free h)) h.names h.drains
basis-kept a (acts_shut k rest free is cause) h =
    free-basis free (shut-keeps (map loose_held a.state.held) k a.state.bus (free-bus free h))
    h.names h.drains
basis-kept a (acts_left k rest free untouched is) h =
    free-basis free (detached-keeps (map loose_held a.state.held) k a.state.bus
    (free-bus free h)) h.names h.drains
basis-kept {m} a (acts_made w q rest free is) h =
    free-basis free (attached-keeps (map loose_held a.state.held) a.state.bus w.ap w.intf w.cport
    w.protocol (free-bus free h)) h.names
    (draining-kept {m = m} a (acts_made w q rest free is) h.drains)
basis-kept {m} a (acts_asked q n rest is) h =
    let r = awaited-rest q.purpose n in basis-same a _ refl r.bus r.held r.names
    (draining-kept {m = m} a (acts_asked q n rest is) h.drains) h
basis-kept a x h =
    basis-same a _ refl refl refl refl (draining-kept a x h.drains) h

-- The basis as a law of points.
abbrev pub basis : (m : Moment) → Law m
basis m = record { holds = Basis; basis = λ a h. h; kept = basis-kept }

-- what is told and the state of a point at rest
abbrev pub Based : List Entry → State → Type 0
Based told s = Basis (resting told s)

-- it doesn't matter what became of wires
pub rested : (told : List Entry) (s : State) (w : Wires)
    → Basis (record (resting told s) { wires = w }) → Based told s
rested told s w h =
    record { bus = h.bus; names = h.names; drains = h.drains; hand = h.hand }

-- nothing was made yet
pub none-made : (n : ℕ) (r : Request) → nth n [] ≡ Some r → ⊥
none-made zero r h = absurd cc
none-made (suc n) r h = absurd cc

-- nothing waits at first
pub none-waits : (c : Connection) (at : Side) (item : Item) → IsIn c first_bus.connections
    → IsIn item (queue at c) → ⊥
none-waits c at item (inl e) i = empty at (subst (λ x. IsIn item (queue at x)) e i)
  where
    empty : (s : Side) → IsIn item (queue s svc_connection) → ⊥
    empty side.Ap j = j
    empty side.Far j = j
none-waits c at item (inr j) i = absurd j

bus-first : BusFits [] first_bus
bus-first = record {
  numbers = record {
    rise = (tt, tt);
    range = ((omega arith, omega arith), tt);
    on = λ n r made. absurd (none-made n r made);
  };
  outcomes = record {
    once = λ n. omega arith;
    made = λ n h. absurd cc;
    given = λ n h. absurd cc;
    oneway = λ n r made h. absurd (none-made n r made);
  };
  labels = record {
    differ = λ n k r q made other w v on at same. absurd (none-made n r made);
    range = λ n r made w. absurd (none-made n r made);
  };
  items = record {
    own = λ c at item live i. absurd (none-waits c at item live i);
    own_loose = λ l i. absurd i;
    made_loose = λ l i. absurd i;
    answerable = λ c at item live i. absurd (none-waits c at item live i);
    answerable_loose = λ c l live i. absurd i;
  };
  ones = λ n. omega arith;
}

-- The basis holds first.
pub basis-first : Based [] first_state
basis-first = record { bus = bus-first; names = tt; drains = tt; hand = λ h e. absurd cc }

-- The basis holds throughout.
pub basis-throughout : HoldsByMoments Based
basis-throughout = throughout Based basis-first
    (λ m one h. let r = over-step m (basis m) one h in rested _ _ r.0 r.1)
