-- What is delivered at an end is handled as the machine does.
use Rattle.std.proofs.Common.{◌≡◌, ℕ, ◌==◌, ◌⊎◌, inl, inr, Bool, true, false, Option, Some, None}
use Rattle.std.proofs.Common.{is_none, if◌then◌else◌, List, [], ◌∷◌, ◌++◌, refl, sym, ap, ◌∙◌}
use Rattle.std.proofs.Common.{subst}
use Rattle.gb_base.specs.declared.bridge.Reading.{Reading}
use Rattle.gb_base.specs.declared.bridge.Reading.TheVariants as reading
use Rattle.gb_base.specs.declared.end.End.{End}
use Rattle.gb_base.specs.declared.end.End.TheVariants as end
use Rattle.gb_base.specs.declared.end.Side.{Side}
use Rattle.gb_base.specs.declared.end.Side.TheVariants as side
use Rattle.gb_base.specs.declared.entry.Entry.{Entry}
use Rattle.gb_base.specs.declared.entry.Entry.TheVariants as entry
use Rattle.gb_base.specs.declared.event.Event.TheVariants as event
use Rattle.gb_base.specs.declared.reasons.RawFault.{RawFault}
use Rattle.gb_base.specs.declared.outcome.Outcome.{Outcome}
use Rattle.gb_base.specs.declared.outcome.Outcome.TheVariants as outcome
use Rattle.gb_base.specs.declared.refusal.Refusal.TheVariants as why
use Rattle.gb_bus.specs.Delivering.{ArrivesAnswer, ArrivesLabelled, Brings, Delivers}
use Rattle.gb_bus.specs.Delivering.{DeliversNothing, DeliversNowhere}
use Rattle.gb_bus.specs.Stands as bus
use Rattle.gb_bus.specs.declared.answers.Arrival.{Arrival}
use Rattle.gb_bus.specs.declared.answers.Arrival.TheVariants as arrival
use Rattle.gb_bus.specs.declared.answers.Arrived.{Arrived}
use Rattle.gb_bus.specs.declared.bus.Bus.{Bus}
use Rattle.gb_invariants.proofs.Numbers.{found-by_number}
use Rattle.gb_invariants.proofs.Awaiting.{is_of-is, same-some}
use Rattle.gb_invariants.proofs.Drawing.{open_with-in_use}
use Rattle.gb_invariants.proofs.ItemChanges.{first-in}
use Rattle.gb_invariants.proofs.Outcomes.{both-true}
use Rattle.gb_invariants.proofs.Places.{place-is}
use Rattle.gb_invariants.specs.Facts.{Loose}
use Rattle.gb_laws.proofs.runs.Reached.{reached-ended, reached-far}
use Rattle.gb_machine.proofs.Opened.{machine_opened}
use Rattle.gb_machine.proofs.Steps.{deliver-allowed, delivers-by_number, delivers-drops}
use Rattle.gb_machine.proofs.Steps.{delivers-late, with_bus}
use Rattle.gb_machine.specs.Actions.{tell, ◌▸◌}
use Rattle.gb_machine.specs.Arriving.{delivers, dropped, reading_at, reading_for, takes, ends}
use Rattle.gb_machine.specs.Arriving.{ends_answered, forgets}
use Rattle.gb_machine.specs.Bus as machine
use Rattle.gb_machine.specs.Bus.{Connection, Place, Reply, Request, connection_of, end_of}
use Rattle.gb_machine.specs.Bus.{is_open, place_of, queue, request_of}
use Rattle.gb_machine.specs.Delivery.{answered, ended, forgotten, popped}
use Rattle.gb_machine.specs.Events.{does}
use Rattle.gb_machine.specs.HostActs.{follows}
use Rattle.gb_machine.specs.Lists.{first, first_met, holds_of, Condition}
use Rattle.gb_machine.specs.Members.{IsIn}
use Rattle.gb_machine.specs.Refusals.{has_nothing, is_end_unplugged, refusal}
use Rattle.gb_machine.specs.State.{State}
use Rattle.gb_formats.specs.Bridges.{reading_of}
use Rattle.gb_machine.specs.Requests.{is_of}
use Rattle.gb_system.specs.Ending.{IsOver}
use Rattle.gb_laws.specs.Possible.{MayFollow}
use Rattle.gb_system.specs.declared.ending.Over.{Over}
use Rattle.gb_host.specs.Bridging.{reading_on}
use Rattle.gb_machine.specs.Host.{Host, link_of}
use Rattle.gb_system.proofs.AnswerReadings.{reads-as}
use Rattle.gb_system.proofs.RawArrivals.{by_label-late, by_label-opens, by_label-unknown}
use Rattle.gb_system.proofs.RawArrivals.{delivers-bad, taken_state}
use Rattle.gb_system.proofs.Doings.{does-as, does-is}
use Rattle.gb_system.proofs.Standing.{rebussed}
use Rattle.gb_system.specs.Arriving.{ReadsOn}
use Rattle.gb_system.specs.Doing.{Does, IsDone, IsRefused}
use Rattle.gb_system.specs.Serving.{side_of}
use Rattle.gb_system.specs.Stands.{PartiesStand, PartsStand, around_bus}
use Rattle.gb_system.specs.declared.parties.Parties.{Parties}

-- ---- where an end is

-- what is known of the place of an end
pub record IsThere (s : State) (at : End) (p : Place) : Type 0 where
  pub live : IsIn p.connection s.bus.connections
  pub side : side_of at ≡ p.side
  pub is : end_of p.side p.connection ≡ at
  pub found : connection_of p.connection.number s.bus ≡ Some p.connection

-- far ends are the supervisory controller and modules
far-side : (at : End) → ((a : ℕ) → at ≡ end.Ap a → ⊥) → side_of at ≡ side.Far
far-side (end.Ap a) other = absurd (other a refl)
far-side end.Svc other = refl
far-side (end.Module i c) other = refl

pub is-there : (x : Parties) (s : State) (at : End) (p : Place) → PartiesStand x s
    → place_of at s.bus.connections ≡ Some p → IsThere s at p
is-there x s at p st named =
    let w = place-is at s.bus.connections p named in
    record {
      live = w.live;
      side = ap side_of (sym w.is) ∙ by p.side w.live;
      is = w.is;
      found = found-by_number s.bus.connections p.connection st.parts.bus.facts.fits.numbers.rise
          w.live;
    }
  where
    by : (t : Side) → IsIn p.connection s.bus.connections → side_of (end_of t p.connection) ≡ t
    by side.Ap live = refl
    by side.Far live = far-side p.connection.peer (reached-far s p.connection st.run live)

-- ---- nothing is delivered

-- the conditions where a module is plugged, by the place
abbrev place_conditions : Option Place → List Condition
place_conditions o =
    (is_none o, why.NoConnection) ∷ (holds_of has_nothing o, why.QueueEmpty) ∷ []

refused-by : (s : State) (at : End) (t : Bool) (o : Option Place) → is_end_unplugged at s ≡ t
    → place_of at s.bus.connections ≡ o
    → refusal s (event.Deliver at) ≡ first_met ((t, why.NoInterface) ∷ place_conditions o)
refused-by s at t o plugged named =
    ap (λ u. first_met ((u, why.NoInterface)
    ∷ place_conditions (place_of at s.bus.connections))) plugged
    ∙ ap (λ p. first_met ((t, why.NoInterface) ∷ place_conditions p)) named

pub unplugged-here : {x : Parties} (s : State) (at : End) → PartsStand [] x s
    → true ≡ is_end_unplugged at s → IsRefused x s (event.Deliver at) why.NoInterface
unplugged-here s at st there = record {
  refused = refused-by s at true (place_of at s.bus.connections) (sym there) refl;
  stand = st;
}

pub nowhere-here : {x : Parties} (s : State) (at : End) (y : Bus) → PartsStand [] x s
    → false ≡ is_end_unplugged at s → DeliversNowhere (around_bus [] s) y at s.bus
    → IsRefused (record x { bus = y }) s (event.Deliver at) why.NoConnection
nowhere-here s at y st there h = record {
  refused = refused-by s at false None (sym there) h.named;
  stand = rebussed [] y s.bus st h.stands refl;
}

pub nothing-here : {x : Parties} (s : State) (at : End) (y : Bus) → PartsStand [] x s
    → false ≡ is_end_unplugged at s → DeliversNothing (around_bus [] s) y at s.bus
    → IsRefused (record x { bus = y }) s (event.Deliver at) why.QueueEmpty
nothing-here s at y st there h = record {
  refused = refused-by s at false (Some h.place) (sym there) h.named
      ∙ ap (λ is. first_met ((is_none (first is), why.QueueEmpty) ∷ [])) h.empty;
  stand = rebussed [] y s.bus st h.stands refl;
}

-- what a delivery does as an event
pub does-deliver : (at : End) (s : State) → does (event.Deliver at) s ≡ delivers at s
unfolding machine_opened
does-deliver at s = refl

-- ---- an answer to an open request

reading-same : (at : Side) (c : Connection) (kind result : ℕ) (bytes payload : List ℕ)
    → payload ≡ (if result == 0 then bytes else [])
    → reading_at at c kind result payload ≡ reading_at at c kind result bytes
reading-same side.Far c kind result bytes payload same = refl
reading-same side.Ap c kind result bytes payload same =
    ap (λ p. if result == 0 then reading_of c.protocol kind p else reading.Nothing) same
    ∙ by (result == 0)
  where
    by : (t : Bool) → (if t then reading_of c.protocol kind (if t then bytes else [])
        else reading.Nothing)
        ≡ (if t then reading_of c.protocol kind bytes else reading.Nothing)
    by true = refl
    by false = refl

-- An answer with a result and a payload ended request n, as the machine's delivery does.
record IsEnded (s : State) (at : End) (y : Bus) (p : Place) (n kind result : ℕ) (payload : List ℕ)
    : Type 0 where
  code : ℕ
  bytes : List ℕ
  request : Request
  made : request_of n s.bus ≡ Some request
  own : (request.connection ≡ p.connection.number) × (p.side ≡ request.side)
  kind_is : kind ≡ request.kind
  outcome_is : answered code bytes ≡ outcome.Answered result payload
  stands : bus.Stands (around_bus [] s) y
      (ended n (answered code bytes) (popped p.connection.number p.side s.bus))
  is : delivers at s ≡ ends_answered p.side p.connection n code bytes (taken_state s p)

ends-is : (s : State) (p : Place) (n code : ℕ) (bytes : List ℕ) (r : Request)
    → request_of n s.bus ≡ Some r
    → ends_answered p.side p.connection n code bytes (taken_state s p)
    ≡ (tell (entry.Ended n (answered code bytes)
    (reading_at p.side p.connection r.kind code bytes)) ▸ follows n (answered code bytes))
    (with_bus (ended n (answered code bytes) (popped p.connection.number p.side s.bus)) s)
unfolding machine_opened
ends-is s p n code bytes r made =
    ap (λ o. ends n (answered code bytes) (reading_for p.side p.connection code bytes o)
    (taken_state s p)) made

-- What comes of it is told, and what waited for it goes on or fails.
abbrev pub EndsThere : State → End → Bus → Place → Parties → Parties → Over → ℕ → ℕ → List ℕ
    → Reading → List Entry → List Entry → Type 0
EndsThere s at y p x z over kind result payload read a b =
    (over.connection ≡ p.connection.number) → (over.side ≡ side_of at)
    → ((t : State) → PartsStand [] (record x { bus = y }) t
    → t.host ≡ s.host → read ≡ reading_at (side_of at) p.connection kind result payload)
    → ((t : State) → PartsStand [] (record x { bus = y }) t → IsOver over t
    → MayFollow over.number (outcome.Answered result payload) t
    → Does z (tell (entry.Ended over.number (outcome.Answered result payload) read)
    ▸ follows over.number (outcome.Answered result payload)) t a b)
    → IsDone z s (event.Deliver at) a b

-- ---- what comes of the front message

-- whether an end takes what comes there, as the code tells it
abbrev pub TakesAt : Parties → End → Bool → Type 0
TakesAt x at takes_it = (loose : List Loose) (s : State) (p : Place) → PartsStand loose x s
    → place_of at s.bus.connections ≡ Some p → side_of at ≡ p.side
    → takes_it ≡ takes p.side p.connection s

module _ {x : Parties} {s : State} (st : PartiesStand x s) {at : End}
    (there : false ≡ is_end_unplugged at s) {y : Bus} {takes_it : Bool} {arrived : Arrived}
    (m : Delivers (around_bus [] s) y at takes_it s.bus arrived)
    (told_so : TakesAt x at takes_it) where
  abbrev place : Place
  place = m.place

  pub found-there : IsThere s at m.place
  found-there = is-there x s at place st m.named

  -- the end takes it or doesn't, as the code found
  pub takes-as : (t : Bool) → takes_it ≡ t → takes m.place.side m.place.connection s ≡ t
  takes-as t is = sym (told_so [] s place st.parts m.named found-there.side) ∙ is

  -- what it brings
  pub brought : (w : Arrival) → arrived.item ≡ w
      → Brings (around_bus [] s) y takes_it m.place s.bus m.item w
  brought w is = subst (Brings (around_bus [] s) y takes_it place s.bus m.item) is m.brings

  -- the bus once it is taken from its queue
  abbrev emptied : machine.Bus
  emptied = popped place.connection.number place.side s.bus

  -- its delivery isn't refused
  pub delivered-here : {z : Parties} {a b : List Entry} → Does z (delivers at) s a b
      → IsDone z s (event.Deliver at) a b
  delivered-here d = record {
    allowed = deliver-allowed s at place m.item (sym there) m.named m.front;
    done = does-as (sym (does-deliver at s)) d;
  }

  -- what is told of it is known, and the bus after it
  told-here : {a b : List Entry} (after : machine.Bus) (e : Entry)
      → delivers at s ≡ record { state = with_bus after s; entries = e ∷ [] }
      → bus.Stands (around_bus [] s) y after → after.requests ≡ s.bus.requests
      → b ≡ a ++ e ∷ [] → IsDone (record x { bus = y }) s (event.Deliver at) a b
  told-here after e is stands same pushed =
      delivered-here
      (does-is (with_bus after s) (e ∷ []) is pushed (rebussed [] y after st.parts stands same))

  -- an answer by its number, on a clean connection
  answer-is : takes place.side place.connection s ≡ true → (n result : ℕ) (bytes : List ℕ)
      → m.item ≡ Reply n result bytes → place.connection.clean ≡ true → is_open n s.bus ≡ true
      → delivers at s ≡ ends_answered place.side place.connection n result bytes
      (taken_state s place)
  unfolding machine_opened
  answer-is taken n result bytes is clean unanswered =
      delivers-by_number s at place n result bytes m.named (m.front ∙ ap Some is) taken clean
      ∙ ap (λ b. (if b then ends_answered place.side place.connection n result bytes
      else forgets n (entry.Late n)) (taken_state s place)) unanswered

  -- it ended a request
  ended-here : {z : Parties} {a b : List Entry} (over : Over) (kind result : ℕ)
      (payload : List ℕ) (read : Reading) → IsEnded s at y place over.number kind result payload
      → EndsThere s at y place x z over kind result payload read a b
  ended-here over kind result payload read h on side reads ends =
      let n = over.number in
      let how = answered h.code h.bytes in
      let t = with_bus (ended n how emptied) s in
      let stand = rebussed [] y t.bus st.parts h.stands refl in
      let may : MayFollow n how t =
      reached-ended s n how place.connection.number place.side st.run in
      let is : IsOver over t = record {
        request = h.request;
        made = h.made;
        on = h.own.0 ∙ sym on;
        side = sym h.own.1 ∙ sym found-there.side ∙ sym side;
      } in
      let both : outcome.Answered h.code (if h.code == 0 then h.bytes else [])
      ≡ outcome.Answered result payload = h.outcome_is in
      let code_is : result ≡ h.code = cc in
      let same : payload ≡ (if h.code == 0 then h.bytes else []) = cc in
      let says : read ≡ reading_at place.side place.connection h.request.kind h.code h.bytes =
      reads t stand refl
      ∙ ap (λ d. reading_at d place.connection kind result payload) found-there.side
      ∙ ap (λ k. reading_at place.side place.connection k result payload) h.kind_is
      ∙ ap (λ r. reading_at place.side place.connection h.request.kind r payload) code_is
      ∙ reading-same place.side place.connection h.request.kind h.code h.bytes payload same in
      let done = ends t stand is (subst (λ (o : Outcome). MayFollow n o t) h.outcome_is may) in
      delivered-here
      (does-as (ap (λ (o : Outcome). (tell (entry.Ended n o read) ▸ follows n o) t)
      (sym h.outcome_is)
      ∙ ap (λ v. (tell (entry.Ended n how v) ▸ follows n how) t) says
      ∙ sym (h.is ∙ ends-is s place n h.code h.bytes h.request h.made)) done)

  -- an answer ends it by its number, or by its identifier
  answer-ends : {z : Parties} {a b : List Entry} (over : Over) (kind result : ℕ)
      (payload : List ℕ) (read : Reading) → takes place.side place.connection s ≡ true
      → ArrivesAnswer (around_bus [] s) y place s.bus m.item over.number kind result payload
      ⊎ ArrivesLabelled (around_bus [] s) y place s.bus m.item over.number kind result payload
      → EndsThere s at y place x z over kind result payload read a b
  answer-ends over kind result payload read taken (inl h) =
      ended-here over kind result payload read (record {
        code = result;
        bytes = h.bytes;
        request = h.request;
        made = h.made;
        own =
            let waits = subst (λ i. IsIn i (queue place.side place.connection)) h.item_is
            (first-in (queue place.side place.connection) m.item m.front) in
            let o = st.parts.bus.facts.fits.items.own place.connection place.side
            (Reply over.number result h.bytes) found-there.live waits in
            let same = same-some h.request o.0 (sym h.made ∙ o.1) in (
              ap (λ (r : Request). r.connection) same ∙ o.2,
              sym (ap (λ (r : Request). r.side) same ∙ o.3),
            );
        kind_is = h.kind_is;
        outcome_is = h.outcome_is;
        stands = h.stands;
        is = answer-is taken over.number result h.bytes h.item_is h.clean h.still_open;
      })
  answer-ends over kind result payload read taken (inr h) =
      let k = place.connection.number in
      let o = open_with-in_use k place.side h.came.label emptied over.number h.found in
      let same = same-some h.request o.0 (sym h.made ∙ o.1) in
      let of = is_of-is k place.side o.0
      (both-true (is_of k place.side o.0) (o.0.label == h.came.label) o.2).0 in
      ended-here over kind result payload read (record {
        code = h.came.result;
        bytes = h.came.payload;
        request = h.request;
        made = h.made;
        own = (
          ap (λ (r : Request). r.connection) same ∙ of.0,
          of.1 ∙ sym (ap (λ (r : Request). r.side) same),
        );
        kind_is = h.kind_is;
        outcome_is = h.outcome_is;
        stands = h.stands;
        is = by_label-opens s at place m.item h.came over.number m.named m.front taken h.is h.found;
      })

  pub answer-here : {z : Parties} {a b : List Entry} (over : Over) (kind result : ℕ)
      (payload : List ℕ) (read : Reading)
      → arrived.item ≡ arrival.Ended over.number kind result payload
      → EndsThere s at y m.place x z over kind result payload read a b
  answer-here over kind result payload read is =
      let h = brought (arrival.Ended over.number kind result payload) is in
      answer-ends over kind result payload read (takes-as true h.0) h.1

  -- ---- it is dropped, late or unknown, or bytes are bad

  pub dropped-here : {a b : List Entry} (number : Option ℕ) (reply : Bool)
      → arrived.item ≡ arrival.Dropped number reply → b ≡ a ++ entry.Dropped number reply ∷ []
      → IsDone (record x { bus = y }) s (event.Deliver at) a b
  dropped-here {a} number reply is pushed =
      let h = brought (arrival.Dropped number reply) is in
      told-here emptied (dropped m.item)
      (delivers-drops s at place m.item m.named m.front (takes-as false h.0)) h.1.stands refl
      (pushed ∙ ap (λ e. a ++ e ∷ []) h.1.told)

  pub late-here : {a b : List Entry} (n : ℕ) → arrived.item ≡ arrival.Late n
      → b ≡ a ++ entry.Late n ∷ [] → IsDone (record x { bus = y }) s (event.Deliver at) a b
  late-here n is =
      let h = brought (arrival.Late n) is in
      told-here (forgotten n emptied) (entry.Late n)
      (delivers-late s at place n h.1.result h.1.bytes m.named (m.front ∙ ap Some h.1.item_is)
      (takes-as true h.0) h.1.clean h.1.closed) h.1.stands refl

  pub late_label-here : {a b : List Entry} (label : ℕ) → arrived.item ≡ arrival.LateLabel label
      → b ≡ a ++ entry.LateLabel label ∷ []
      → IsDone (record x { bus = y }) s (event.Deliver at) a b
  late_label-here label is =
      let h = brought (arrival.LateLabel label) is in
      told-here (forgotten h.1.number emptied) (entry.LateLabel label)
      (by_label-late s at place m.item h.1.came label h.1.number m.named m.front
      (takes-as true h.0) h.1.is h.1.label_is h.1.unopened h.1.found) h.1.stands refl

  pub unknown-here : {a b : List Entry} (label : ℕ) → arrived.item ≡ arrival.UnknownLabel label
      → b ≡ a ++ entry.UnknownLabel label ∷ []
      → IsDone (record x { bus = y }) s (event.Deliver at) a b
  unknown-here label is =
      let h = brought (arrival.UnknownLabel label) is in
      told-here emptied (entry.UnknownLabel label)
      (by_label-unknown s at place m.item h.1.came label m.named m.front (takes-as true h.0) h.1.is
      h.1.label_is h.1.unopened h.1.kept) h.1.stands refl

  pub bad-here : {a b : List Entry} (fault : RawFault) → arrived.item ≡ arrival.BadRaw fault
      → b ≡ a ++ entry.BadRaw fault ∷ [] → IsDone (record x { bus = y }) s (event.Deliver at) a b
  bad-here fault is =
      let h = brought (arrival.BadRaw fault) is in
      told-here emptied (entry.BadRaw fault)
      (delivers-bad s at place h.1.bytes fault m.named (m.front ∙ ap Some h.1.item_is)
      (takes-as true h.0) h.1.fault_is) h.1.stands refl

-- ---- what answers say

pub reads-on : {x : Parties} (s t : State) (at : End) (p : Place) (k : ℕ) → PartiesStand x s
    → place_of at s.bus.connections ≡ Some p → k ≡ p.connection.number → t.host ≡ s.host
    → ReadsOn k t p.connection
reads-on {x} s t at p k st named number same = record {
  reads = λ kind payload.
      ap (λ (h : Host). reading_on (link_of k h) kind payload) same
      ∙ ap (λ j. reading_on (link_of j s.host) kind payload) number
      ∙ reads-as s p.connection kind payload st.run (is-there x s at p st named).live;
}
