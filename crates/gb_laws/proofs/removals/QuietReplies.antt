-- What is said of an enumeration while a removal waits stays where a reply is made, a request is
-- answered, and a side ends.
use Rattle.std.proofs.Common.{Bool, List, None, Option, Some, ap, false, inl, refl, subst, sym}
use Rattle.std.proofs.Common.{true, ℕ, [], ◌∙◌, ◌≡◌, ◌≢◌}
use Rattle.std.specs.Prelude.{◌&&◌, ◌==◌}
use Rattle.gb_base.specs.declared.end.Side.{Side}
use Rattle.gb_base.specs.declared.end.Side.TheVariants as side
use Rattle.gb_base.specs.declared.outcome.Outcome.{Outcome}
use Rattle.gb_machine.specs.Bus.{Bus, Reply, Request, request_of}
use Rattle.gb_machine.specs.Delivery.{ended, forgotten, replied}
use Rattle.gb_machine.specs.Requests.{has_label, is_of, same_side}
use Rattle.gb_machine.specs.{Incoming.Incoming, Incoming.reply_item, LawsBus.is_awaited}
use Rattle.gb_machine.specs.{Ports.level_of, Sending.put, Serving.Answer, SvcQueues.is_reply_to}
use Rattle.gb_machine.specs.{SvcQueues.is_removal_in, SvcQueues.svc_items, Wiring.side_ended}
use Rattle.gb_invariants.proofs.Awaiting.{ended-after, forgotten-after, is_of-is, not-both}
use Rattle.gb_invariants.proofs.Awaiting.{same-some, side_ended-after}
use Rattle.gb_invariants.proofs.Outcomes.{both-true, is-same, same-number}
use Rattle.gb_invariants.proofs.{BusChanges.KeepsRequests, Drawing.given_up_with-is}
use Rattle.gb_invariants.proofs.{Drawing.open_with-in_use, Selves.put-self}
use Rattle.gb_laws.proofs.enumerations.Enums.{enums, enums-unasked, enums_of, item_enum}
use Rattle.gb_laws.proofs.points.PointParts.{Basis, Hand, Point}
use Rattle.gb_laws.proofs.points.Points.{Answers, Forgets, by_label, by_number}
use Rattle.gb_laws.proofs.removals.Quiet.{IsUnanswered, SameQueues, SameView, removed-same, stays}
use Rattle.gb_laws.proofs.removals.Quiet.{unanswered-same, view-same}
use Rattle.gb_laws.proofs.{links.LinkKept.LinkedAt, removals.QuietBuses.queues-other}
use Rattle.gb_laws.proofs.{removals.QuietBuses.replied-put}
use Rattle.gb_laws.proofs.{removals.QuietKept.none-hand, removals.QuietKept.view-put_ap}
use Rattle.gb_laws.proofs.{svc.SvcThere.There}

-- ---- replies

reply-no-enum : (i : ℕ) (b : Bus) (q : Incoming) (r : Answer) → item_enum i b (reply_item q r) ≡ []
reply-no-enum i b q r = by q.number
  where
    by : (o : Option ℕ) → item_enum i b (reply_item (record q { number = o }) r) ≡ []
    by None = refl
    by (Some n) = refl

pub reply-no-removal : (i : ℕ) (ps : List (ℕ × ℕ)) (q : Incoming) (r : Answer)
    → is_removal_in i ps (reply_item q r) ≡ false
reply-no-removal i ps q r = by q.number
  where
    by : (o : Option ℕ) → is_removal_in i ps (reply_item (record q { number = o }) r) ≡ false
    by None = refl
    by (Some n) = refl

pub view-replied : (i : ℕ) (a : Point) {b : Point} (k : ℕ) (s : Side) (q : Incoming) (r : Answer) →
    Basis a → There a.state.bus → b.state.bus ≡ replied k s (reply_item q r) a.state.bus
    → level_of i b.state.ports ≡ level_of i a.state.ports
    → b.state.past.pulled ≡ a.state.past.pulled → b.hand ≡ None → SameView i a b
view-replied i a {b} k s q r basis there bus level pulled free = by (k == 1) refl s refl
  where
    keeps : KeepsRequests a.state.bus b.state.bus
    keeps n x made = ap (request_of n) bus ∙ made

    hand : (n : ℕ) → IsUnanswered i n a → (h : Hand) → b.hand ≡ Some h
        → is_reply_to n h.item ≡ false
    hand n u h e = none-hand b free (λ x. is_reply_to n x.item ≡ false) h e

    awaited : (n : ℕ) → IsUnanswered i n a → is_awaited n b.state.bus ≡ true
    awaited n u = subst (λ y. is_awaited n y ≡ true) (sym bus) u.awaited

    by : (t : Bool) → (k == 1) ≡ t → (z : Side) → s ≡ z → SameView i a b
    by false e z is =
        view-same basis (subst (SameQueues a.state.bus) (sym bus)
        (queues-other a.state.bus (replied k s (reply_item q r) a.state.bus) k
        (put s (reply_item q r)) refl (λ n x made. made)
        (λ y. (put-self s (reply_item q r) y).number)
        (λ one. not-both (k == 1) (ap (λ n. n == 1) one) e))) level pulled hand awaited
    by true e side.Ap is =
        let p = replied-put a side.Ap (reply_item q r) k basis there (same-number k 1 e) in
        let now : b.state.bus ≡ replied k side.Ap (reply_item q r) a.state.bus =
        bus ∙ ap (λ z. replied k z (reply_item q r) a.state.bus) is in
        view-put_ap i a b (reply_item q r) basis keeps (ap (svc_items side.Ap) now ∙ p.toward)
        (ap (svc_items side.Far) now ∙ p.from) (reply-no-removal i b.state.past.pulled q r) level
        pulled hand awaited
    by true e side.Far is =
        let p = replied-put a side.Far (reply_item q r) k basis there (same-number k 1 e) in
        let now : b.state.bus ≡ replied k side.Far (reply_item q r) a.state.bus =
        bus ∙ ap (λ z. replied k z (reply_item q r) a.state.bus) is in
        let same = ap (svc_items side.Ap) now ∙ p.from in record {
          enums = inl (ap (enums i) now ∙ ap (enums_of i a.state.bus) p.toward
              ∙ enums-unasked i a.state.bus (svc_items side.Far a.state.bus) (reply_item q r)
              (reply-no-enum i a.state.bus q r));
          power = stays level (λ t. sym (removed-same i a b same pulled) ∙ t)
              (λ n t u. unanswered-same i n a b keeps same pulled (hand n u) (awaited n u) u);
        }

-- ---- answers

-- what is handled answers another request than one that isn't answered
other-number : (i n q : ℕ) (a : Point) (x : Hand) (payload : List ℕ) (result : ℕ)
    → IsUnanswered i n a → a.hand ≡ Some x → x.item ≡ Reply q result payload → q ≡ n → ⊥
other-number i n q a x payload result u is says same =
    not-both (is_reply_to n x.item)
    (ap (is_reply_to n) says ∙ ap (λ k. k == n) same ∙ is-same n) (u.hand x is)

-- a request that has an identifier of a connection is on it
on-connection : (r : Request) (x : Hand) (label : ℕ)
    → has_label x.connection.number x.side label r ≡ true → r.connection ≡ x.connection.number
on-connection r x label h =
    (is_of-is x.connection.number x.side r
    (both-true (is_of x.connection.number x.side r) (r.label == label) h).0).0

-- nor does one on an unclean connection
other-label : (i n q : ℕ) (a : Point) (x : Hand) (r : Request) → Basis a → LinkedAt a
    → IsUnanswered i n a → a.hand ≡ Some x → x.connection.clean ≡ false
    → request_of q a.state.bus ≡ Some r → r.connection ≡ x.connection.number → q ≡ n → ⊥
other-label i n q a x r basis links u is dirty made on same =
    let still = basis.hand x is in
    let one = sym on ∙ ap (λ (y : Request). y.connection) (same-some r u.request
    (sym made ∙ ap (λ k. request_of k a.state.bus) same ∙ u.made)) ∙ u.on in
    not-both x.connection.clean
    (sym still.self.clean ∙ (links.svc still.now still.live (still.self.number ∙ one)).clean) dirty

pub view-answers : (i : ℕ) (a : Point) {b : Point} (x : Hand) (q : ℕ) (how : Outcome) → Basis a →
    LinkedAt a → a.hand ≡ Some x → Answers x q a.state.bus → b.state.bus ≡ ended q how a.state.bus
    → level_of i b.state.ports ≡ level_of i a.state.ports
    → b.state.past.pulled ≡ a.state.past.pulled → b.hand ≡ None → SameView i a b
view-answers i a {b} x q how basis links is which bus level pulled free =
    view-same basis (subst (SameQueues a.state.bus) (sym bus)
    (record { keeps = λ n r made. made; far = refl; ap = refl })) level pulled
    (λ n u h e. none-hand b free (λ y. is_reply_to n y.item ≡ false) h e)
    (λ n u. subst (λ y. is_awaited n y ≡ true) (sym bus)
    (ended-after q how a.state.bus n (other n u which) u.awaited))
  where
    other : (n : ℕ) → IsUnanswered i n a → Answers x q a.state.bus → q ≡ n → ⊥
    other n u (by_number result payload says clean unended) same =
        other-number i n q a x payload result u is says same
    other n u (by_label label dirty found) same =
        let o = open_with-in_use x.connection.number x.side label a.state.bus q found in
        other-label i n q a x o.0 basis links u is dirty o.1 (on-connection o.0 x label o.2) same

pub view-forgets : (i : ℕ) (a : Point) {b : Point} (x : Hand) (q : ℕ) → Basis a → LinkedAt a
    → a.hand ≡ Some x → Forgets x q a.state.bus → b.state.bus ≡ forgotten q a.state.bus
    → level_of i b.state.ports ≡ level_of i a.state.ports
    → b.state.past.pulled ≡ a.state.past.pulled → b.hand ≡ None → SameView i a b
view-forgets i a {b} x q basis links is which bus level pulled free =
    view-same basis (subst (SameQueues a.state.bus) (sym bus)
    (record { keeps = λ n r made. made; far = refl; ap = refl })) level pulled
    (λ n u h e. none-hand b free (λ y. is_reply_to n y.item ≡ false) h e)
    (λ n u. subst (λ y. is_awaited n y ≡ true) (sym bus)
    (forgotten-after q a.state.bus n (other n u which) u.awaited))
  where
    other : (n : ℕ) → IsUnanswered i n a → Forgets x q a.state.bus → q ≡ n → ⊥
    other n u (by_number result payload says clean) same =
        other-number i n q a x payload result u is says same
    other n u (by_label label dirty found) same =
        let g = given_up_with-is x.connection.number x.side label a.state.bus q found in
        other-label i n q a x g.1.0 basis links u is dirty g.1.1
        (on-connection g.1.0 x label g.1.2) same

-- ---- a side ends

-- on another connection
pub view-side : (i : ℕ) (a : Point) {b : Point} (k : ℕ) (at : Side) (mid : Bus) → Basis a
    → SameQueues a.state.bus b.state.bus
    → ((n : ℕ) → is_awaited n a.state.bus ≡ true → is_awaited n mid ≡ true)
    → ((n : ℕ) (r : Request) → request_of n a.state.bus ≡ Some r → request_of n mid ≡ Some r)
    → b.state.bus ≡ side_ended k at mid → k ≢ 1
    → level_of i b.state.ports ≡ level_of i a.state.ports
    → b.state.past.pulled ≡ a.state.past.pulled → b.hand ≡ a.hand → SameView i a b
view-side i a k at mid basis queues to made bus other level pulled hand =
    view-same basis queues level pulled (λ n u h e. u.hand h (sym hand ∙ e))
    (λ n u. subst (λ y. is_awaited n y ≡ true) (sym bus)
    (side_ended-after k at mid n u.request (made n u.request u.made)
    (apart n u (u.request.connection == k) refl) (to n u.awaited)))
  where
    apart : (n : ℕ) (u : IsUnanswered i n a) (t : Bool) → (u.request.connection == k) ≡ t
        → (t && same_side at u.request.side) ≡ false
    apart n u false e = refl
    apart n u true e = absurd (other (sym (same-number u.request.connection k e) ∙ u.on))
