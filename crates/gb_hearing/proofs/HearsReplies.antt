-- What is known of the messages that are heard of a connection, where a response to the application
-- processor is delivered there.
use Rattle.std.proofs.Common.{Bool, List, Some, ap, arith, false, if◌then◌else◌, not, refl, subst}
use Rattle.std.proofs.Common.{sym, true, ℕ, ◌==◌, ◌∙◌, ◌∷◌, ◌≡◌}
use Rattle.gb_base.specs.declared.bridge.Reading.{Reading}
use Rattle.gb_base.specs.declared.end.End.{End}
use Rattle.gb_base.specs.declared.end.Side.TheVariants as side
use Rattle.gb_base.specs.declared.entry.Entry.{Entry}
use Rattle.gb_base.specs.declared.entry.Entry.TheVariants as entry
use Rattle.gb_base.specs.declared.event.Event.TheVariants as event
use Rattle.gb_base.specs.declared.outcome.Outcome.TheVariants as outcome
use Rattle.gb_formats.specs.Message.{response}
use Rattle.gb_formats.specs.Results.{success}
use Rattle.gb_hearing.specs.Hearing.{Spoken, heard_asked}
use Rattle.gb_hearing.proofs.Findings.{onto}
use Rattle.gb_hearing.proofs.Hears.{Hears, IsAsked, Steady, hears-steady, over-same, steady-by}
use Rattle.gb_hearing.proofs.HearsSteps.{behind_law, hears-first, hears-then, none-hand}
use Rattle.gb_hearing.proofs.HearsTaken.{IsReplied, hears-reply}
use Rattle.gb_invariants.proofs.Awaiting.{Awaits, awaits, ended-after, ended-before}
use Rattle.gb_invariants.proofs.Awaiting.{forgotten-after, forgotten-before, is-open, late}
use Rattle.gb_invariants.proofs.Awaiting.{not-both, still}
use Rattle.gb_invariants.proofs.BusChanges.{BusChange}
use Rattle.gb_invariants.proofs.Lists.{in-filter}
use Rattle.gb_invariants.proofs.Outcomes.{is-same}
use Rattle.gb_invariants.specs.Facts.{OutcomesFit}
use Rattle.gb_laws.proofs.steps.DeliveredHands.{over-ended}
use Rattle.gb_laws.proofs.identifiers.LowRequests.{reached-low}
use Rattle.gb_laws.proofs.runs.Midway.{KnownAt, known-held, known-resting, known_law}
use Rattle.gb_laws.proofs.points.Places.{place-is}
use Rattle.gb_laws.proofs.points.PointParts.{Hand, Point, Untouched, resting}
use Rattle.gb_laws.proofs.points.Points.{Answers, Change, IsHeard, answers, by_number, changed}
use Rattle.gb_laws.proofs.points.Points.{numbered, takes}
use Rattle.gb_machine.proofs.Opened.{machine_opened}
use Rattle.gb_machine.proofs.Steps.{deliver-allowed, delivers-by_number, delivers-drops}
use Rattle.gb_machine.proofs.Steps.{delivers-late, step-deliver, with_bus}
use Rattle.gb_machine.specs.Actions.{Told}
use Rattle.gb_machine.specs.Arriving.{delivers, ends, ends_answered, forgets, reading_for}
use Rattle.gb_machine.specs.Arriving as arriving
use Rattle.gb_machine.specs.Bus.{Bus, Item, Place, Reply, Request, end_of, is_open, place_of, queue}
use Rattle.gb_machine.specs.Bus.{request_of}
use Rattle.gb_machine.specs.Delivery.{answered, ended, forgotten, popped}
use Rattle.gb_machine.specs.Events.{step}
use Rattle.gb_machine.specs.HostActs.{follows}
use Rattle.gb_machine.specs.LawsBus.{is_awaited}
use Rattle.gb_machine.specs.Lists.{first}
use Rattle.gb_machine.specs.Reached.{OfARun}
use Rattle.gb_machine.specs.Refusals.{is_end_unplugged}
use Rattle.gb_machine.specs.Runs.{Moment, after}
use Rattle.gb_machine.specs.State.{State}
use Rattle.gb_laws.proofs.steps.Heard.{heard}
use Rattle.gb_laws.proofs.steps.StepLoads.{goes-follows}

-- a request that was forgotten, and isn't open, isn't awaited
forgotten-over : (n : ℕ) (b : Bus) → is_open n b ≡ false → is_awaited n (forgotten n b) ≡ false
forgotten-over n b closed = by (is_awaited n (forgotten n b)) refl
  where
    out : Awaits n (forgotten n b) → ⊥
    out (still r made free) = not-both (is_open n b) (is-open n b r made free) closed
    out (late i) =
        let kept = (in-filter (λ j. not (j == n)) b.given_up n i).1 in
        not-both (not (n == n)) kept (ap not (is-same n))

    by : (t : Bool) → is_awaited n (forgotten n b) ≡ t → t ≡ false
    by true e = absurd (out (awaits n (forgotten n b) e))
    by false e = refl

-- a delivery at the application processor
module _ (m : Moment) (run : OfARun m.before) (k : ℕ) (at : End) (is : m.event ≡ event.Deliver at)
    (p : Place) (named : place_of at m.before.bus.connections ≡ Some p) (ap_side : p.side ≡ side.Ap)
  where
    known : KnownAt (resting m.told m.before)
    known = known-held m run (resting m.told m.before) (known-resting m run)

    -- the bus without the item
    taken-steady : Steady k m.before.bus (popped p.connection.number p.side m.before.bus)
    taken-steady = steady-by k (BusChange.takes p.connection.number p.side) m.before.bus tt
        known.basis.bus.numbers.on

    after-is : (item : Item) → first (queue p.side p.connection) ≡ Some item → (t : Told)
        → delivers at m.before ≡ t → after m ≡ t.state
    after-is item front t does =
        ap (λ e. (step m.before e).state) is
        ∙ ap (λ (t : Told). t.state) (step-deliver m.before at
        (deliver-allowed m.before at p item there named front)) ∙ ap (λ (t : Told). t.state) does
      where
        there : is_end_unplugged at m.before ≡ false
        there = ap (λ e. is_end_unplugged e m.before)
            (sym (place-is at m.before.bus.connections p named).is
            ∙ ap (λ s. end_of s p.connection) ap_side)

    -- what is heard, where the bus behind the delivery is known
    behind : (start : List Spoken) (b : Bus) → (after m).bus ≡ b
        → b.requests ≡ m.before.bus.requests → Hears k b start
        → Hears k (after m).bus (onto start (heard_asked k m.before.bus (after m).bus))
    behind start b same requests h =
        subst (λ b. Hears k b (onto start (heard_asked k m.before.bus b))) (sym same)
        (hears-then m run k start b (hears-first m run k start b requests h))

    -- what is delivered is dropped
    pub hears-dropped : (item : Item) → first (queue p.side p.connection) ≡ Some item
        → arriving.takes p.side p.connection m.before ≡ false → {past : List Spoken}
        → Hears k m.before.bus past
        → Hears k (after m).bus (onto past (heard_asked k m.before.bus (after m).bus))
    hears-dropped item front deaf {past} h =
        behind past (popped p.connection.number p.side m.before.bus)
        (ap (λ (s : State). s.bus) (after-is item front _
        (delivers-drops m.before at p item named front deaf))) refl
        (hears-steady taken-steady h)

    -- a response to a request of the application processor on connection k is taken
    module _ (n result : ℕ) (payload : List ℕ) (r : Request) (asked : IsAsked k n r m.before.bus)
        (waits : is_awaited n m.before.bus ≡ true)
        (front : first (queue p.side p.connection) ≡ Some (Reply n result payload))
        (hears : arriving.takes p.side p.connection m.before ≡ true)
        (clean : p.connection.clean ≡ true) where
      -- what is known once nothing is awaited of it
      now : {past : List Spoken} (b : Bus) → IsReplied k n m.before.bus b
          → Hears k m.before.bus past
          → Hears k b ((false, response r.label r.kind result payload) ∷ past)
      now b replied h = hears-reply n r result payload asked waits
          (reached-low m.before run n r asked.made).kind known.basis.bus.labels replied h

      -- it comes late
      hears-late : is_open n m.before.bus ≡ false → {past : List Spoken} → Hears k m.before.bus past
          → Hears k (after m).bus
          (onto ((false, response r.label r.kind result payload) ∷ past)
          (heard_asked k m.before.bus (after m).bus))
      hears-late closed {past} h =
          let b = forgotten n (popped p.connection.number p.side m.before.bus) in
          behind ((false, response r.label r.kind result payload) ∷ past) b
          (ap (λ (s : State). s.bus) (after-is (Reply n result payload) front _
          (delivers-late m.before at p n result payload named front hears clean closed))) refl
          (now b (record {
            fewer = let f = forgotten-before n (popped p.connection.number p.side m.before.bus) in
                record { same = f.same; before = f.before };
            ended = forgotten-over n (popped p.connection.number p.side m.before.bus) closed;
            stays = λ j other w. forgotten-after n
                (popped p.connection.number p.side m.before.bus) j other w;
            over = λ o. over-same refl (omega arith) (taken-steady.over o);
          }) h)

      -- it ends the request
      abbrev then_bus : Bus
      then_bus = ended n (answered result payload)
          (popped p.connection.number p.side m.before.bus)

      abbrev then_state : State
      then_state = record m.before { bus = then_bus }

      read : Reading
      read = reading_for p.side p.connection result payload
          (request_of n (popped p.connection.number p.side m.before.bus))

      -- and then what the application processor does
      ends-then : is_open n m.before.bus ≡ true
          → after m ≡ (follows n (answered result payload) then_state).state
      unfolding machine_opened
      ends-then open_ =
          after-is (Reply n result payload) front _
          (delivers-by_number m.before at p n result payload named front hears clean
          ∙ ap (λ t. (if t then ends_answered p.side p.connection n result payload
          else forgets n (entry.Late n)) (with_bus (popped p.connection.number p.side m.before.bus)
          m.before)) open_)

      -- the request isn't awaited any more
      replied : is_open n m.before.bus ≡ true → IsReplied k n m.before.bus then_bus
      replied open_ = record {
        fewer = let f = ended-before n (answered result payload)
            (popped p.connection.number p.side m.before.bus) in
            record { same = f.same; before = f.before };
        ended = over-ended n (answered result payload)
            (popped p.connection.number p.side m.before.bus) outcomes open_;
        stays = λ j other w. ended-after n (answered result payload)
            (popped p.connection.number p.side m.before.bus) j other w;
        over = λ o. over-same refl (omega arith) (taken-steady.over o);
      }
        where
          outcomes : OutcomesFit (popped p.connection.number p.side m.before.bus)
          outcomes = let o = known.basis.bus.outcomes in
              record { once = o.once; made = o.made; given = o.given; oneway = o.oneway }

      -- the response is taken
      abbrev its_hand : Hand
      its_hand = record {
        connection = p.connection;
        side = p.side;
        item = Reply n result payload;
      }

      abbrev taking : Change m (resting m.told m.before)
      taking = takes at p (Reply n result payload) refl refl is named front

      abbrev mid_point : Point
      mid_point = changed m (resting m.told m.before) taking

      mid_known : (known_law m run).holds mid_point
      mid_known = (known_law m run).kept (resting m.told m.before) taking (known-resting m run)

      its_answer : is_open n m.before.bus ≡ true → Answers its_hand n mid_point.state.bus
      its_answer open_ = by_number result payload refl clean open_

      -- what is known holds where it ended the request
      mid : (open_ : is_open n m.before.bus ≡ true) → (es : List Entry) × (known_law m run).holds
          (record (resting es then_state) { wires = Untouched })
      mid open_ =
          let second : Change m mid_point =
          answers its_hand n result payload refl (numbered refl) (its_answer open_) in
          ((changed m mid_point second).told, (known_law m run).kept mid_point second mid_known)

      -- where it is an answer of success, it is heard so
      heard_so : is_open n m.before.bus ≡ true → (bytes : List ℕ)
          → answered result payload ≡ outcome.Answered success bytes → IsHeard m n bytes
      heard_so open_ bytes won =
          heard m mid_point.state its_hand n result payload bytes _
          (record { at = at; event = is; named = named; front = front; from = refl })
          (known-held m run mid_point mid_known).basis.bus (numbered refl) (its_answer open_) won

      hears-ended : is_open n m.before.bus ≡ true → {past : List Spoken} → Hears k m.before.bus past
          → Hears k (after m).bus
          (onto ((false, response r.label r.kind result payload) ∷ past)
          (heard_asked k m.before.bus (after m).bus))
      unfolding machine_opened
      hears-ended open_ {past} h =
          let start : List Spoken = (false, response r.label r.kind result payload) ∷ past in
          let then_ = mid open_ in
          let end_ = goes-follows m (behind_law m run k start n waits) n (answered result payload)
          then_state (λ c bytes e. ((replied open_).ended, refl))
          (λ bytes won. (heard_so open_ bytes won, (refl, refl))) then_.0 (
            then_.1,
            (
              λ x e. absurd (none-hand x e),
              hears-first m run k start then_bus refl (now then_bus (replied open_) h),
              record { request = r; made = asked.made; ended = (replied open_).ended },
            ),
          ) in
          subst (λ s. Hears k s.bus (onto start (heard_asked k m.before.bus s.bus)))
          (sym (ends-then open_))
          (hears-then m run k start
          (follows n (answered result payload) then_state).state.bus end_.1.1)

      pub hears-replied : {past : List Spoken} → Hears k m.before.bus past
          → Hears k (after m).bus
          (onto ((false, response r.label r.kind result payload) ∷ past)
          (heard_asked k m.before.bus (after m).bus))
      hears-replied {past} h = by (is_open n m.before.bus) refl
        where
          by : (t : Bool) → is_open n m.before.bus ≡ t → Hears k (after m).bus
              (onto ((false, response r.label r.kind result payload) ∷ past)
              (heard_asked k m.before.bus (after m).bus))
          by true e = hears-ended e h
          by false e = hears-late e h
