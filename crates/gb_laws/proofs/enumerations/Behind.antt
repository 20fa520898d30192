-- No request for a connection waits behind one of the enumeration of its interface, after a change
-- that asks for none or asks while no request of the enumeration waits.
use Rattle.std.proofs.Common.{Bool, List, None, Option, Some, ap, false, inl, inr, refl, subst, sym}
use Rattle.std.proofs.Common.{true, ℕ, [], ◌++◌, ◌∙◌, ◌∷◌, ◌≡◌}
use Rattle.std.specs.Prelude.{Err, Ok, Result, not, ◌&&◌}
use Rattle.gb_base.specs.declared.end.Side.TheVariants as side
use Rattle.gb_base.specs.declared.steps.SequenceStep.{SequenceStep}
use Rattle.gb_base.specs.declared.steps.SequenceStep.TheVariants as steps
use Rattle.gb_formats.specs.{Records.PayloadFault, SvcRecords.SvcAsk, SvcRecords.read_svc_ask}
use Rattle.gb_machine.specs.Bus.{Ask, Bus, Item, Raw, RawReply, Reply, Request, next_number}
use Rattle.gb_machine.specs.Bus.{request_of}
use Rattle.gb_machine.specs.SequenceSteps.{Target, asks_control, is_enumeration, is_for_connection}
use Rattle.gb_machine.specs.SequenceSteps.{kind_of, payload_of}
use Rattle.gb_machine.specs.SvcQueues.{is_connection_request, is_enumeration_request, request_onto}
use Rattle.gb_machine.specs.SvcQueues.{requests_among, speaks_of_connection, svc_items}
use Rattle.gb_machine.specs.SvcQueues.{svc_requests}
use Rattle.gb_machine.specs.{LawsSvc.HasNoEnumeration, LawsSvc.NoneBehind, Lists.behind_first}
use Rattle.gb_machine.specs.{Members.Each, Refusals.is_reserved, Sending.requested, Turns.Asking}
use Rattle.gb_invariants.proofs.{Awaiting.not-both, Awaiting.sent-new, BusChanges.KeepsRequests}
use Rattle.gb_invariants.proofs.{Lists.each-append, Outcomes.both-true}
use Rattle.gb_laws.proofs.svc.SvcMoves.{FarMoves, asked, elsewhere, puts, stays, taken}
use Rattle.gb_laws.proofs.{enumerations.EnumRequests.power-enumerates, links.Links.IsFormed}
use Rattle.gb_laws.proofs.{marks.MarkFrame.asked-toward}
use Rattle.gb_laws.proofs.{marks.Marks.AreAsked, creations.Pairs.speaks-of, points.PointParts.Basis}
use Rattle.gb_laws.proofs.{points.PointParts.Point}
use Rattle.gb_laws.proofs.{creations.Stale.behind-in, svc.SvcKinds.svc-kind}

-- ---- the requests among items

-- one more that is no request
requests-unasked : (b : Bus) (xs : List Item) (y : Item) → ((n : ℕ) → y ≡ Ask n → ⊥)
    → requests_among b (xs ++ y ∷ []) ≡ requests_among b xs
requests-unasked b [] (Ask n) never = absurd (never n refl)
requests-unasked b [] (Reply n result payload) never = refl
requests-unasked b [] (Raw bytes) never = refl
requests-unasked b [] (RawReply label kind result payload) never = refl
requests-unasked b (x ∷ xs) y never = by x (requests-unasked b xs y never)
  where
    by : (x : Item) → requests_among b (xs ++ y ∷ []) ≡ requests_among b xs
        → requests_among b (x ∷ (xs ++ y ∷ [])) ≡ requests_among b (x ∷ xs)
    by (Ask n) e = ap (request_onto (request_of n b)) e
    by (Reply n result payload) e = e
    by (Raw bytes) e = e
    by (RawReply label kind result payload) e = e

-- one more that was made
requests-asked : (b : Bus) (xs : List Item) (n : ℕ) (r : Request) → request_of n b ≡ Some r
    → requests_among b (xs ++ Ask n ∷ []) ≡ requests_among b xs ++ r ∷ []
requests-asked b [] n r made = ap (λ o. request_onto o []) made
requests-asked b (x ∷ xs) n r made = by x (requests-asked b xs n r made)
  where
    onto : (o : Option Request) (rs : List Request)
        → request_onto o (rs ++ r ∷ []) ≡ request_onto o rs ++ r ∷ []
    onto None rs = refl
    onto (Some q) rs = refl

    by : (x : Item) → requests_among b (xs ++ Ask n ∷ []) ≡ requests_among b xs ++ r ∷ []
        → requests_among b (x ∷ (xs ++ Ask n ∷ [])) ≡ requests_among b (x ∷ xs) ++ r ∷ []
    by (Ask k) e = ap (request_onto (request_of k b)) e
        ∙ onto (request_of k b) (requests_among b xs)
    by _ e = e

-- where more requests were made
requests-more : (b after : Bus) (xs : List Item) → KeepsRequests b after → AreAsked b xs
    → requests_among after xs ≡ requests_among b xs
requests-more b after [] keeps made = refl
requests-more b after (x ∷ xs) keeps made =
    by x (λ n e. made n (inl (sym e))) (requests-more b after xs keeps (λ n j. made n (inr j)))
  where
    by : (x : Item) → ((n : ℕ) → x ≡ Ask n → (r : Request) × (request_of n b ≡ Some r))
        → requests_among after xs ≡ requests_among b xs
        → requests_among after (x ∷ xs) ≡ requests_among b (x ∷ xs)
    by (Ask n) made e =
        let r = made n refl in
        ap (λ o. request_onto o (requests_among after xs)) (keeps n r.0 r.1 ∙ sym r.1)
        ∙ ap (request_onto (request_of n b)) e
    by (Reply n result payload) made e = e
    by (Raw bytes) made e = e
    by (RawReply label kind result payload) made e = e

-- ---- what stands behind

behind-taken : (i : ℕ) (b : Bus) (xs : List Item) → NoneBehind i (requests_among b xs)
    → NoneBehind i (requests_among b (behind_first xs))
behind-taken i b [] h = tt
behind-taken i b (Ask n ∷ xs) h = by (request_of n b) h
  where
    by : (o : Option Request) → NoneBehind i (request_onto o (requests_among b xs))
        → NoneBehind i (requests_among b xs)
    by None h = h
    by (Some r) h = h.1
behind-taken i b _ h = h

behind-pushed : (i : ℕ) (rs : List Request) (r : Request)
    → (is_connection_request i r ≡ true → Each (λ q. is_enumeration_request i q ≡ false) rs)
    → NoneBehind i rs → NoneBehind i (rs ++ r ∷ [])
behind-pushed i [] r none h = (λ e. tt, tt)
behind-pushed i (q ∷ rs) r none h = (
  λ e. each-append (λ p. is_connection_request i p ≡ false) rs (r ∷ []) (h.0 e)
      (by e (is_connection_request i r) refl, tt),
  behind-pushed i rs r (λ e. (none e).1) h.1,
)
  where
    by : is_enumeration_request i q ≡ true → (t : Bool) → is_connection_request i r ≡ t → t ≡ false
    by e false f = refl
    by e true f = absurd (not-both (is_enumeration_request i q) e (none f).0)

-- ---- the queue moves

-- None stands behind where what is asked for a connection is asked while none enumerates.
pub behind-on : (i : ℕ) (a : Point) {after : Bus} → Basis a → FarMoves a.state.bus after
    → KeepsRequests a.state.bus after
    → ((r : Request) → request_of (next_number a.state.bus) after ≡ Some r → r.connection ≡ 1
    → r.side ≡ side.Ap → is_connection_request i r ≡ true → HasNoEnumeration i a.state.bus)
    → NoneBehind i (svc_requests side.Far a.state.bus) → NoneBehind i (svc_requests side.Far after)
behind-on i a {after} basis moves keeps new h = by moves
  where
    xs : List Item
    xs = svc_items side.Far a.state.bus

    same : requests_among after xs ≡ svc_requests side.Far a.state.bus
    same = requests-more a.state.bus after xs keeps (asked-toward side.Far a basis)

    by : FarMoves a.state.bus after → NoneBehind i (svc_requests side.Far after)
    by (stays requests far) =
        subst (NoneBehind i) (sym (ap (requests_among after) far ∙ same)) h
    by (taken requests far) = subst (NoneBehind i) (sym (ap (requests_among after) far
        ∙ requests-more a.state.bus after (behind_first xs) keeps
        (λ n j. asked-toward side.Far a basis n (behind-in xs (Ask n) j))))
        (behind-taken i a.state.bus xs h)
    by (puts x unasked requests far) = subst (NoneBehind i)
        (sym (ap (requests_among after) far ∙ requests-unasked after xs x unasked ∙ same)) h
    by (asked d label e one own far) =
        let made = ap (request_of (next_number a.state.bus)) e ∙ sent-new d label a.state.bus in
        subst (NoneBehind i) (sym (ap (requests_among after) far
        ∙ requests-asked after xs (next_number a.state.bus) (requested d label) made
        ∙ ap (λ rs. rs ++ requested d label ∷ []) same))
        (behind-pushed i (svc_requests side.Far a.state.bus) (requested d label)
        (new (requested d label) made one own) h)
    by (elsewhere d label e other far) =
        subst (NoneBehind i) (sym (ap (requests_among after) far ∙ same)) h

-- ---- what asks for connections

-- a request that creates or destroys a connection has a type that lines can't send
pub connection-reserved : (i kind : ℕ) (payload : List ℕ)
    → speaks_of_connection i (read_svc_ask kind payload) ≡ true → is_reserved kind ≡ true
connection-reserved i kind payload h = by (read_svc_ask kind payload) refl h
  where
    by : (r : Result SvcAsk PayloadFault) → read_svc_ask kind payload ≡ r
        → speaks_of_connection i r ≡ true → is_reserved kind ≡ true
    by (Ok (SvcAsk.ConnCreate a b c d g k)) e f = ap is_reserved (sym (svc-kind kind payload _ e))
    by (Ok (SvcAsk.ConnDestroy a b c d)) e f = ap is_reserved (sym (svc-kind kind payload _ e))
    by (Ok _) e f = absurd cc
    by (Err fault) e f = absurd cc

-- a step whose request speaks of a connection is one for connections
for-connection : (i : ℕ) (step : SequenceStep) (t : Target) → asks_control step ≡ false
    → speaks_of_connection i (read_svc_ask (kind_of step) (payload_of step t)) ≡ true
    → is_for_connection step ≡ true
for-connection i steps.CreateControl t s h = refl
for-connection i steps.CreateConnection t s h = refl
for-connection i steps.DestroyConnection t s h = refl
for-connection i _ t s h = absurd cc

-- A formed request for a connection is one of a connect or close of its own interface.
pub formed-connects : (i : ℕ) (q : Asking) → IsFormed q → asks_control q.purpose.step ≡ false
    → (is_enumeration q.purpose.step ≡ true → q.purpose.cport ≡ 0)
    → (r : Request) → r.kind ≡ q.kind → r.payload ≡ q.payload → is_connection_request i r ≡ true
    → (is_enumeration q.purpose.step ≡ false) × (q.purpose.intf ≡ i)
formed-connects i q f on zero r kind payload h =
    (by (is_enumeration q.purpose.step) refl, at)
  where
    both : (speaks_of_connection i (read_svc_ask r.kind r.payload) ≡ true)
        × (not (is_enumeration_request i r) ≡ true)
    both = both-true _ _ h

    speaks : speaks_of_connection i
        (read_svc_ask (kind_of q.purpose.step) (payload_of q.purpose.step f.target)) ≡ true
    speaks = subst (λ k. speaks_of_connection i
        (read_svc_ask k (payload_of q.purpose.step f.target)) ≡ true) (kind ∙ f.kind)
        (subst (λ p. speaks_of_connection i (read_svc_ask r.kind p) ≡ true)
        (payload ∙ f.payload) both.0)

    at : q.purpose.intf ≡ i
    at = sym f.intf ∙ speaks-of i q.purpose.step f.target
        (for-connection i q.purpose.step f.target on speaks) speaks

    apart : (t : Bool) → t ≡ true → not t ≡ true → ⊥
    apart true e g = absurd cc
    apart false e g = absurd cc

    by : (t : Bool) → is_enumeration q.purpose.step ≡ t → t ≡ false
    by false e = refl
    by true e = absurd (apart (is_enumeration_request i r)
        (subst (λ k. is_enumeration_request i (record r { kind = k }) ≡ true) (sym kind)
        (subst (λ p. is_enumeration_request i (record r { kind = q.kind; payload = p }) ≡ true)
        (sym payload) (power-enumerates i q f (ap (λ t. t && not (asks_control q.purpose.step)) e
        ∙ ap not on) (λ s. zero e) at))) both.1)
