-- Lines that answer requests that are held do what the machine does.
use Rattle.std.proofs.Common.{◌≡◌, ◌≤◌, ◌<◌, ◌-◌, ℕ, zero, suc, nat_lt, Bool, true, false, Some}
use Rattle.std.proofs.Common.{Ok, Err, option_map, List, [], ◌∷◌, length, map, refl, sym, ap, ◌∙◌}
use Rattle.std.proofs.Common.{subst, arith}
use Rattle.std.proofs.lemmas.Bool.Decides.{nat_tests}
use Rattle.std.proofs.lemmas.List.{map-append}
use Rattle.std.specs.List.{remove}
use Rattle.gb_base.specs.declared.end.End.TheVariants as end
use Rattle.gb_base.specs.declared.end.Side.TheVariants as side
use Rattle.gb_base.specs.declared.entry.Entry.{Entry}
use Rattle.gb_base.specs.declared.event.Event.TheVariants as event
use Rattle.gb_base.specs.declared.refusal.Refusal.{Refusal}
use Rattle.gb_base.specs.declared.refusal.Refusal.TheVariants as why
use Rattle.gb_bus.proofs.Loosening.{stands-first}
use Rattle.gb_bus.specs.Delivering.{taken_from}
use Rattle.gb_bus.specs.Stands as bus
use Rattle.gb_bus.specs.Wiring.{ends_of}
use Rattle.gb_machine.proofs.Lists.{nth-within}
use Rattle.gb_machine.proofs.Opened.{machine_opened}
use Rattle.gb_machine.specs.Actions.{given}
use Rattle.gb_invariants.specs.Facts.{is_numbered}
use Rattle.gb_machine.specs.Bus.{connection_of, end_of}
use Rattle.gb_machine.specs.Events.{does}
use Rattle.gb_machine.specs.Holding.{held_on, held_without}
use Rattle.gb_machine.specs.Incoming.{incoming, request_in}
use Rattle.gb_machine.specs.LineActions.{answers_at, answers_held, serves_held, with_fewer}
use Rattle.gb_machine.specs.Lists.{Condition, first_met, holds_of, nth}
use Rattle.gb_machine.specs.Refusals.{holds_fewer, module_place, refusal, wired_conditions}
use Rattle.gb_machine.specs.State.{Held, State}
use Rattle.gb_system.proofs.Arrivals.{is-there}
use Rattle.gb_system.proofs.Doings.{does-by_state, does-given}
use Rattle.gb_system.proofs.Holdings.{IsTaken, stand-fewer, stand-taken}
use Rattle.gb_system.proofs.Standing.{reheld}
use Rattle.gb_system.proofs.Ways.{met-early, met-late}
use Rattle.gb_system.specs.Doing.{Does, IsDone, IsRefused}
use Rattle.gb_system.specs.Held.{HoldsAs, Takes, TakesNone, held_at}
use Rattle.gb_system.specs.Holding.{ServesHeldAt, WiredAs}
use Rattle.gb_system.specs.Serving.{IsDelivered}
use Rattle.gb_system.specs.Stands.{PartiesStand, PartsStand, StandForHeld, held_item, names_of}
use Rattle.gb_system.specs.declared.held.HeldRequest.{HeldRequest}
use Rattle.gb_system.specs.declared.held.HeldRequests.{HeldRequests}
use Rattle.gb_system.specs.declared.parties.Parties.{Parties}
use Rattle.gb_system.proofs.HeldAsks.{IsAt, is-at}

-- why it is refused, by what is held
abbrev answer_conditions : State → ℕ → ℕ → ℕ → List Condition
answer_conditions s i c place =
    (holds_of (holds_fewer s place) (module_place i c s), why.NotHeld) ∷ []

-- the parties stand for the rest of what is held, and this one is in no queue
fewer-stand : {x : Parties} {s : State} (held : HeldRequests) (k i : ℕ) (h : HeldRequest)
    → PartsStand [] x s → (t : IsTaken s.bus.requests k i h held s.held)
    → PartsStand (taken_from k side.Far t.one.item ∷ []) (record x { held = held })
    (with_fewer k (suc i) s)
fewer-stand {x} {s} held k i h st t =
    let f = t.around in
    subst (λ j. PartsStand (taken_from j side.Far t.one.item ∷ []) (record x { held = held })
    (with_fewer k (suc i) s)) t.on
    (reheld (held_item t.one ∷ []) x.bus s.bus held (held_without k (suc i) s.held) st
    (subst (λ ls. bus.Stands (bus.around_of (held_item t.one ∷ ls) (names_of s)) x.bus s.bus)
    (sym (ap (map held_item) f.left ∙ map-append held_item f.before f.after))
    (stands-first (names_of s) (map held_item f.before) (held_item t.one)
    (map held_item f.after) x.bus s.bus
    (subst (λ ls. bus.Stands (bus.around_of ls (names_of s)) x.bus s.bus)
    (ap (map held_item) f.whole ∙ map-append held_item f.before (t.one ∷ f.after)) st.bus)))
    refl t.rest)

module _ {x : Parties} (s : State) (st : PartiesStand x s) (i c : ℕ) where
  -- where no wired connection is there
  pub answer-refused : (place : ℕ) (reason : Refusal) → WiredAs s i c (Err reason)
      → IsRefused x s (event.Answer i c place) reason
  answer-refused place reason wired = record {
    refused = met-early (wired_conditions s i c) (answer_conditions s i c place) reason wired;
    stand = st.parts;
  }

  module _ (k : ℕ) (wired : WiredAs s i c (Ok k)) where
    -- the place where it is wired
    at_place : IsAt s i c k
    at_place = is-at s i c k wired.1

    -- what is held decides
    refusal-is : (place : ℕ) (fewer : Bool) → nat_lt (length (held_on k s.held)) place ≡ fewer
        → refusal s (event.Answer i c place) ≡ first_met ((fewer, why.NotHeld) ∷ [])
    refusal-is place fewer is =
        met-late (wired_conditions s i c) (answer_conditions s i c place) wired.0
        ∙ ap (λ b. first_met ((b, why.NotHeld) ∷ [])) (ap (holds_of (holds_fewer s place))
        at_place.named ∙ ap (λ j. nat_lt (length (held_on j s.held)) place) at_place.number ∙ is)

    -- where fewer are held
    pub answer-unheld : (held : HeldRequests) (place : ℕ) → TakesNone x.held held k place
        → IsRefused (record x { held = held }) s (event.Answer i c place) why.NotHeld
    answer-unheld held place none =
        let kept = st.parts.requests.held in
        let few = stand-fewer s.bus.requests x.held s.held k place kept none.fewer in record {
          refused = refusal-is place true (is-less (length (held_on k s.held)) place few);
          stand = reheld [] x.bus s.bus held s.held st.parts st.parts.bus refl (λ j.
              subst (λ xs. StandForHeld s.bus.requests xs (held_on j s.held)) (sym (none.same j))
              (kept j));
        }
      where
        is-less : (a b : ℕ) → a < b → nat_lt a b ≡ true
        is-less a b less = grind (arith, nat_tests, less)

    does-answers : {y : Parties} (place : ℕ) (h : Held) {a b : List Entry}
        → nth place (held_on k s.held) ≡ Some h
        → Does y (serves_held at_place.place h.item) (with_fewer k place s) a b
        → Does y (does (event.Answer i c place)) s a b
    unfolding machine_opened
    does-answers {y} place h {a} {b} there d =
        let p = at_place.place in
        let e = subst (λ j. Does y (serves_held p h.item) (with_fewer j place s) a b)
        (sym at_place.number) d in
        does-by_state (λ t. given (module_place i c t) (answers_at place))
        (does-given (answers_at place) p at_place.named
        (does-by_state (λ t. given (nth place (held_on p.connection.number t.held))
        (answers_held p place))
        (does-given (answers_held p place) h
        (ap (λ j. nth place (held_on j s.held)) at_place.number ∙ there)
        (record { told_is = e.told_is; stand = e.stand }))))

    -- it is answered
    pub answer-done : (z : Parties) (held : HeldRequests) (place : ℕ) (h : HeldRequest)
        (before es : List Entry) → 1 ≤ place → Takes x.held held k place h
        → ServesHeldAt (end.Module i c) (record x { held = held }) z k h before es
        → IsDone z s (event.Answer i c place) before es
    answer-done z held zero h before es one t serve = absurd (omega (arith, one))
    answer-done z held (suc m) h before es one t serve =
        let p = at_place.place in
        let f = stand-taken {rs = s.bus.requests} s.held k m h st.parts.requests.held t.there
        (subst (λ j. HoldsAs x.held held k (remove (held_at x.held k) j)) (one-less m) t.rest) in
        let there = is-there x s (end.Module i c) p st at_place.named in
        let is = f.stands in
        let u = with_fewer k (suc m) s in
        let delivered : IsDelivered (end.Module i c) k h.asked h.payload u p.connection f.one.item =
        record {
          request = incoming is.number is.request;
          is = ap (λ it. request_in it s.bus) is.item_is
              ∙ ap (option_map (incoming is.number)) is.made;
          names = is.names;
          payload_is = is.payload_is;
          upon = record {
            number = at_place.number;
            ends = ap (λ j. option_map ends_of (connection_of j s.bus)) (sym at_place.number)
                ∙ ap (option_map ends_of) there.found;
          };
          there = ap (λ d. end_of d p.connection) there.side ∙ there.is;
          numbered = λ far. ap is_numbered is.item_is;
        } in record {
          allowed = refusal-is (suc m) false (not-less (length (held_on k s.held)) (suc m)
              (nth-within (suc m) (held_on k s.held) f.one f.there));
          done =
              does-answers (suc m) f.one f.there
              (serve u p f.one.item delivered (fewer-stand held k m h st.parts f) at_place.named
              there.side (sym there.side));
        }
      where
        one-less : (n : ℕ) → suc n - 1 ≡ n
        one-less n = omega arith

        not-less : (a b : ℕ) → b ≤ a → nat_lt a b ≡ false
        not-less a b most = grind (arith, nat_tests, most)
