-- What a moment makes of the queues at which the supervisory controller serves a request.
use Rattle.std.proofs.Common.{List, Some, ap, refl, subst, sym, ℕ, [], ◌++◌, ◌∙◌, ◌∷◌, ◌≡◌}
use Rattle.std.specs.Prelude.{option_map}
use Rattle.gb_base.specs.declared.end.End.TheVariants as end
use Rattle.gb_base.specs.declared.end.Side.TheVariants as side
use Rattle.gb_machine.specs.Bus.{Ask, Connection, Item, Request, connection_of, has_number, queue}
use Rattle.gb_machine.specs.Bus.{request_of}
use Rattle.gb_machine.specs.Delivery.{popped, replied, without_front}
use Rattle.gb_machine.specs.Incoming.{Incoming, incoming, reply_item}
use Rattle.gb_machine.specs.{LawsBus.is_awaited, Lists.behind_first, Lists.first, Members.IsIn}
use Rattle.gb_machine.specs.{Runs.Moment, Sending.put as put_item, Serving.Answer}
use Rattle.gb_machine.specs.{State.Past, SvcQueues.items_in, SvcQueues.svc_items}
use Rattle.gb_invariants.proofs.{Awaiting.same-some, Found.find-changed, ItemChanges.first-in}
use Rattle.gb_invariants.proofs.{Numbers.found-by_number, Selves.module-no-svc, Selves.put-self}
use Rattle.gb_laws.proofs.enumerations.Enums.{IsClean, clean-unasked, enums, enums_of}
use Rattle.gb_laws.proofs.enumerations.Enums.{removed-unasked}
use Rattle.gb_laws.proofs.enumerations.Enums.{removed_in}
use Rattle.gb_laws.proofs.links.Links.{IsKnown, leaving, linked, supervisory}
use Rattle.gb_laws.proofs.points.PointParts.{Basis, Point, resting}
use Rattle.gb_laws.proofs.points.Points.{IsAfterReply, IsServing, replied_to, unreplied}
use Rattle.gb_laws.proofs.removals.QuietBuses.{IsPut, popped-far, put-queues, put-svc}
use Rattle.gb_invariants.proofs.Requests.{numbered-ask}
use Rattle.gb_laws.proofs.{links.LinkFrom.Linked}
use Rattle.gb_laws.proofs.{points.Places.place-is}
use Rattle.gb_laws.proofs.{removals.Quiet.is_removed, removals.QuietReplies.reply-no-removal}
use Rattle.gb_laws.proofs.{svc.SvcThere.There}

-- ---- what is served

-- What is known of a moment at which the supervisory controller serves a request, at a point that
-- is as before but for that.
pub record IsServed (m : Moment) (a : Point) (q : Incoming) : Type 0 where
  pub number : ℕ
  pub request : Request
  pub made : request_of number m.before.bus ≡ Some request
  pub kind : request.kind ≡ q.kind
  pub payload : request.payload ≡ q.payload
  pub front : svc_items side.Far m.before.bus
      ≡ Ask number ∷ behind_first (svc_items side.Far m.before.bus)
  pub far : svc_items side.Far a.state.bus ≡ behind_first (svc_items side.Far m.before.bus)
  pub rest : (i : ℕ) → enums i a.state.bus
      ≡ enums_of i m.before.bus (behind_first (svc_items side.Far m.before.bus))
  pub removed : (i : ℕ) → is_removed i a.state ≡ is_removed i m.before
  pub clean : (n i : ℕ) → IsClean n i m.before.past.pulled (svc_items side.Ap m.before.bus)
      → IsClean n i a.state.past.pulled (svc_items side.Ap a.state.bus)
  pub awaited : (n : ℕ) → is_awaited n a.state.bus ≡ is_awaited n m.before.bus
  pub requests : (n : ℕ) → request_of n a.state.bus ≡ request_of n m.before.bus

module _ (m : Moment) (basis : Basis (resting m.told m.before))
    (links : Linked m.before.bus m.before.host []) (there : There m.before.bus) where
  -- the connection whose far end is the supervisory controller has number 1
  svc-number : (c : Connection) → IsIn c m.before.bus.connections → c.peer ≡ end.Svc → c.number ≡ 1
  svc-number c live peer = by (links.known c live)
    where
      by : IsKnown c m.before.host.links [] → c.number ≡ 1
      by (supervisory one) = one
      by (linked l i of) = absurd (module-no-svc (sym of.peer ∙ peer))
      by (leaving i) = absurd i

  pub serving : (a : Point) (q : Incoming) → IsServing m a.state q → IsServed m a q
  serving a q w = record {
    number = ask.0;
    request = ask.1;
    made = ask.3;
    kind = ap (λ (x : Incoming). x.kind) ask.4;
    payload = ap (λ (x : Incoming). x.payload) ask.4;
    front = front-of (svc_items side.Far m.before.bus)
        (ap (λ o. first (items_in side.Far o)) found ∙ front ∙ ap Some ask.2);
    far = far w.bus;
    rest = λ i. rest i w.bus;
    removed = λ i. ap (λ ps. removed_in i ps (svc_items side.Ap a.state.bus)) pulled
        ∙ removed i w.bus;
    clean = λ n i h. subst (λ ps. IsClean n i ps (svc_items side.Ap a.state.bus)) (sym pulled)
        (clean n i h w.bus);
    awaited = λ n. awaited n w.bus;
    requests = λ n. requests n w.bus;
  }
    where
      one : w.place.connection.number ≡ 1
      one = svc-number w.place.connection
          (place-is w.at m.before.bus.connections w.place w.named).live w.svc

      found : connection_of 1 m.before.bus ≡ Some w.place.connection
      found = subst (λ k. connection_of k m.before.bus ≡ Some w.place.connection) one
          (found-by_number m.before.bus.connections w.place.connection basis.bus.numbers.rise
          (place-is w.at m.before.bus.connections w.place w.named).live)

      front : first (queue side.Far w.place.connection) ≡ Some w.item
      front = ap (λ s. first (queue s w.place.connection)) (sym w.far) ∙ w.front

      ask : (n : ℕ) × (r : Request) × (w.item ≡ Ask n) × (request_of n m.before.bus ≡ Some r)
          × (incoming n r ≡ q)
      ask = numbered-ask w.item m.before.bus q
          ((basis.bus.items.answerable w.place.connection side.Far w.item
          (place-is w.at m.before.bus.connections w.place w.named).live
          (first-in (queue side.Far w.place.connection) w.item front)).numbered
          (links.svc w.place.connection
          (place-is w.at m.before.bus.connections w.place w.named).live one).clean) w.made

      front-of : (xs : List Item) → first xs ≡ Some (Ask ask.0) → xs ≡ Ask ask.0 ∷ behind_first xs
      front-of [] e = absurd cc
      front-of (y ∷ ys) e = ap (λ z. z ∷ ys) (same-some y (Ask ask.0) e)

      pulled : a.state.past.pulled ≡ m.before.past.pulled
      pulled = ap (λ (p : Past). p.pulled) w.past

      -- once it is taken
      taken : (svc_items side.Far (popped w.place.connection.number side.Far m.before.bus)
          ≡ behind_first (svc_items side.Far m.before.bus))
          × (svc_items side.Ap (popped w.place.connection.number side.Far m.before.bus)
          ≡ svc_items side.Ap m.before.bus)
      taken = popped-far (resting m.told m.before) w.place.connection.number basis there one

      found_then : connection_of 1 (popped w.place.connection.number side.Far m.before.bus)
          ≡ Some (without_front side.Far w.place.connection)
      found_then =
          ap (λ k. connection_of 1 (popped k side.Far m.before.bus)) one
          ∙ find-changed (has_number 1) (without_front side.Far) m.before.bus.connections
          (λ x. refl) ∙ ap (option_map (without_front side.Far)) found

      -- the reply is put behind
      put : (r : Answer) → IsPut side.Ap (reply_item q r)
          (popped w.place.connection.number side.Far m.before.bus)
          (replied w.place.connection.number side.Ap (reply_item q r)
          (popped w.place.connection.number side.Far m.before.bus))
      put r = put-svc side.Ap (reply_item q r)
          (popped w.place.connection.number side.Far m.before.bus)
          (replied w.place.connection.number side.Ap (reply_item q r)
          (popped w.place.connection.number side.Far m.before.bus))
          (without_front side.Far w.place.connection) w.place.connection.number
          (put_item side.Ap (reply_item q r)) found_then one refl
          (λ y. (put-self side.Ap (reply_item q r) y).number)
          (put-queues side.Ap side.Ap (reply_item q r) (without_front side.Far w.place.connection)
          (place-is w.at m.before.bus.connections w.place w.named).wired)

      far : IsAfterReply w.place.connection.number side.Far q
          (popped w.place.connection.number side.Far m.before.bus) a.state.bus
          → svc_items side.Far a.state.bus ≡ behind_first (svc_items side.Far m.before.bus)
      far (unreplied e) = ap (svc_items side.Far) e ∙ taken.0
      far (replied_to r e) = ap (svc_items side.Far) e ∙ (put r).from ∙ taken.0

      rest : (i : ℕ) → IsAfterReply w.place.connection.number side.Far q
          (popped w.place.connection.number side.Far m.before.bus) a.state.bus → enums i a.state.bus
          ≡ enums_of i m.before.bus (behind_first (svc_items side.Far m.before.bus))
      rest i (unreplied e) = ap (enums i) e ∙ ap (enums_of i m.before.bus) taken.0
      rest i (replied_to r e) = ap (enums i) e
          ∙ ap (enums_of i m.before.bus) ((put r).from ∙ taken.0)

      removed : (i : ℕ) → IsAfterReply w.place.connection.number side.Far q
          (popped w.place.connection.number side.Far m.before.bus) a.state.bus
          → removed_in i m.before.past.pulled (svc_items side.Ap a.state.bus)
          ≡ is_removed i m.before
      removed i (unreplied e) =
          ap (λ b. removed_in i m.before.past.pulled (svc_items side.Ap b)) e
          ∙ ap (removed_in i m.before.past.pulled) taken.1
      removed i (replied_to r e) =
          ap (λ b. removed_in i m.before.past.pulled (svc_items side.Ap b)) e
          ∙ ap (removed_in i m.before.past.pulled)
          ((put r).toward ∙ ap (λ is. is ++ reply_item q r ∷ []) taken.1)
          ∙ removed-unasked i m.before.past.pulled (svc_items side.Ap m.before.bus)
          (reply_item q r) (reply-no-removal i m.before.past.pulled q r)

      clean : (n i : ℕ) → IsClean n i m.before.past.pulled (svc_items side.Ap m.before.bus)
          → IsAfterReply w.place.connection.number side.Far q
          (popped w.place.connection.number side.Far m.before.bus) a.state.bus
          → IsClean n i m.before.past.pulled (svc_items side.Ap a.state.bus)
      clean n i h (unreplied e) =
          subst (λ b. IsClean n i m.before.past.pulled (svc_items side.Ap b)) (sym e)
          (subst (IsClean n i m.before.past.pulled) (sym taken.1) h)
      clean n i h (replied_to r e) =
          subst (λ b. IsClean n i m.before.past.pulled (svc_items side.Ap b)) (sym e)
          (subst (IsClean n i m.before.past.pulled)
          (sym ((put r).toward ∙ ap (λ is. is ++ reply_item q r ∷ []) taken.1))
          (clean-unasked n i m.before.past.pulled (svc_items side.Ap m.before.bus)
          (reply_item q r) (reply-no-removal i m.before.past.pulled q r) h))

      awaited : (n : ℕ) → IsAfterReply w.place.connection.number side.Far q
          (popped w.place.connection.number side.Far m.before.bus) a.state.bus
          → is_awaited n a.state.bus ≡ is_awaited n m.before.bus
      awaited n (unreplied e) = ap (is_awaited n) e
      awaited n (replied_to r e) = ap (is_awaited n) e

      requests : (n : ℕ) → IsAfterReply w.place.connection.number side.Far q
          (popped w.place.connection.number side.Far m.before.bus) a.state.bus
          → request_of n a.state.bus ≡ request_of n m.before.bus
      requests n (unreplied e) = ap (request_of n) e
      requests n (replied_to r e) = ap (request_of n) e
