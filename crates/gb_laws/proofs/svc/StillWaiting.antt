-- What the application processor asked of the supervisory controller waits there until it is taken
-- at a moment: at each point of a step it waits, or didn't before, or is what is taken then.
use Rattle.std.proofs.Common.{Bool, List, Some, ap, false, inl, inr, refl, subst, sym, true, ℕ}
use Rattle.std.proofs.Common.{⊎_elim, [], ◌++◌, ◌∙◌, ◌∷◌, ◌≡◌, ◌⊎◌}
use Rattle.std.specs.List.{list_any}
use Rattle.std.specs.Prelude.{◌==◌}
use Rattle.gb_base.specs.declared.end.{End.End, Side.Side}
use Rattle.gb_base.specs.declared.end.Side.TheVariants as side
use Rattle.gb_base.specs.declared.event.Event.TheVariants as event
use Rattle.gb_machine.specs.Bus.{Ask, Bus, Item, Place, Request}
use Rattle.gb_machine.specs.Bus.{connection_of, next_number, other_side, place_of, queue}
use Rattle.gb_machine.specs.Bus.{request_of}
use Rattle.gb_machine.specs.Delivery.{popped, replied, without_front}
use Rattle.gb_machine.specs.Sending.{Draft, put, requested, sent}
use Rattle.gb_machine.specs.SvcQueues.{is_ask, items_in, svc_items}
use Rattle.gb_machine.specs.{Incoming.Incoming, Incoming.reply_item, Lists.behind_first}
use Rattle.gb_machine.specs.{Lists.first, Members.IsIn, Runs.Moment, Serving.Answer, State.State}
use Rattle.gb_invariants.proofs.{Awaiting.not-both, Awaiting.sent-made, Found.any-in}
use Rattle.gb_invariants.proofs.{Found.none-any, Lists.in-behind, Lists.in-front}
use Rattle.gb_invariants.proofs.{Numbers.found-by_number, Outcomes.is-same, Outcomes.same-number}
use Rattle.gb_invariants.proofs.{Selves.front-self, Selves.put-self}
use Rattle.gb_laws.proofs.points.Points.{Change, acts_asked, asks, changed, names, replies, takes}
use Rattle.gb_laws.proofs.removals.QuietBuses.{popped-ap, popped-far, queues-other, replied-put}
use Rattle.gb_laws.proofs.svc.SvcMoves.{FarMoves, asked, elsewhere, far-same, far-sent, puts, stays}
use Rattle.gb_laws.proofs.svc.SvcMoves.{taken}
use Rattle.gb_laws.proofs.{points.Awaited.awaited-rest, links.LinkKept.LinkedAt}
use Rattle.gb_laws.proofs.{points.Places.place-is}
use Rattle.gb_laws.proofs.{points.PointParts.Basis, points.PointParts.Point}
use Rattle.gb_laws.proofs.{creations.Stale.no-sent, svc.SvcThere.There}

-- At a moment request n is taken toward the supervisory controller.
pub record IsFront (m : Moment) (n : ℕ) : Type 0 where
  pub at : End
  pub place : Place
  pub event : m.event ≡ event.Deliver at
  pub named : place_of at m.before.bus.connections ≡ Some place
  pub far : place.side ≡ side.Far
  pub one : place.connection.number ≡ 1
  pub front : first (queue place.side place.connection) ≡ Some (Ask n)
  pub waits : first (svc_items side.Far m.before.bus) ≡ Some (Ask n)

-- it waits, or didn't before the moment, or is taken then
abbrev pub WaitsStill : Moment → Point → Type 0
WaitsStill m a =
    (n : ℕ) (r : Request) → request_of n a.state.bus ≡ Some r → r.connection ≡ 1
    → r.side ≡ side.Ap → IsIn (Ask n) (svc_items side.Far a.state.bus)
    ⊎ ((request_of n m.before.bus ≡ Some r)
    × ((IsIn (Ask n) (svc_items side.Far m.before.bus) → ⊥) ⊎ IsFront m n))

-- what waits goes on to wait
abbrev FarKeeps : Bus → Bus → Type 0
FarKeeps b after =
    (n : ℕ) → IsIn (Ask n) (svc_items side.Far b) → IsIn (Ask n) (svc_items side.Far after)

keeps-same : (b after : Bus) → svc_items side.Far after ≡ svc_items side.Far b → FarKeeps b after
keeps-same b after same n i = subst (λ xs. IsIn (Ask n) xs) (sym same) i

keeps-put : (b after : Bus) (x : Item)
    → svc_items side.Far after ≡ svc_items side.Far b ++ x ∷ [] → FarKeeps b after
keeps-put b after x more n i = subst (λ xs. IsIn (Ask n) xs) (sym more)
    (in-front (Ask n) (svc_items side.Far b) (x ∷ []) i)

keeps-sent : {b : Bus} (d : Draft) (label : ℕ) → FarMoves b (sent d label b)
    → FarKeeps b (sent d label b)
keeps-sent {b} d label (stays requests far) = keeps-same b (sent d label b) far
keeps-sent {b} d label (taken requests far) =
    absurd (no-sent b (sent d label b) d label requests refl)
keeps-sent {b} d label (puts x unasked requests far) = keeps-put b (sent d label b) x far
keeps-sent {b} d label (asked e label' is one own far) =
    keeps-put b (sent d label b) (Ask (next_number b)) far
keeps-sent {b} d label (elsewhere e label' is other far) = keeps-same b (sent d label b) far

keeps-replied : (a : Point) (k : ℕ) (s : Side) (q : Incoming) (r : Answer) → Basis a
    → There a.state.bus → FarKeeps a.state.bus (replied k s (reply_item q r) a.state.bus)
keeps-replied a k s q r basis there = by (k == 1) refl s
  where
    by : (t : Bool) → (k == 1) ≡ t → (s : Side)
        → FarKeeps a.state.bus (replied k s (reply_item q r) a.state.bus)
    by true e side.Far = keeps-put a.state.bus
        (replied k side.Far (reply_item q r) a.state.bus) (reply_item q r)
        (replied-put a side.Far (reply_item q r) k basis there (same-number k 1 e)).toward
    by true e side.Ap = keeps-same a.state.bus (replied k side.Ap (reply_item q r) a.state.bus)
        (replied-put a side.Ap (reply_item q r) k basis there (same-number k 1 e)).from
    by false e s = keeps-same a.state.bus (replied k s (reply_item q r) a.state.bus)
        (queues-other a.state.bus (replied k s (reply_item q r) a.state.bus)
        k (put s (reply_item q r)) refl (λ n x made. made)
        (λ y. (put-self s (reply_item q r) y).number)
        (λ one. not-both (k == 1) (ap (λ n. n == 1) one) e)).far

-- ---- points

still-on : (m : Moment) (a b : Point) → b.state.bus.requests ≡ a.state.bus.requests
    → FarKeeps a.state.bus b.state.bus → WaitsStill m a → WaitsStill m b
still-on m a b same keeps h n r made on own = ⊎_elim (λ i. inl (keeps n i)) (λ w. inr w)
    (h n r (ap (λ rs. request_of n (record a.state.bus { requests = rs })) (sym same) ∙ made) on
    own)

-- a request is made, and waits
still-sent : (m : Moment) (a b : Point) (d : Draft) (label : ℕ)
    → b.state.bus ≡ sent d label a.state.bus
    → FarMoves a.state.bus (sent d label a.state.bus) → WaitsStill m a → WaitsStill m b
still-sent m a b d label is moves h n r made on own = ⊎_elim (λ old. ⊎_elim
    (λ i. inl (onto (keeps-sent d label moves n i))) (λ w. inr w) (h n r old on own))
    (λ new. inl (onto (subst (λ k. IsIn (Ask k) (svc_items side.Far (sent d label a.state.bus)))
    (sym new.0) (waits (ap (λ (q : Request). q.connection) (sym new.1) ∙ on)
    (ap (λ (q : Request). q.side) (sym new.1) ∙ own) moves))))
    (sent-made d label a.state.bus n r (ap (request_of n) (sym is) ∙ made))
  where
    onto : IsIn (Ask n) (svc_items side.Far (sent d label a.state.bus))
        → IsIn (Ask n) (svc_items side.Far b.state.bus)
    onto i = subst (λ (x : Bus). IsIn (Ask n) (svc_items side.Far x)) (sym is) i

    waits : d.connection ≡ 1 → d.side ≡ side.Ap → FarMoves a.state.bus (sent d label a.state.bus)
        → IsIn (Ask (next_number a.state.bus)) (svc_items side.Far (sent d label a.state.bus))
    waits one by_ap (stays requests far) =
        absurd (no-sent a.state.bus (sent d label a.state.bus) d label requests refl)
    waits one by_ap (taken requests far) =
        absurd (no-sent a.state.bus (sent d label a.state.bus) d label requests refl)
    waits one by_ap (puts x unasked requests far) =
        absurd (no-sent a.state.bus (sent d label a.state.bus) d label requests refl)
    waits one by_ap (asked e label' same f g far) =
        subst (λ xs. IsIn (Ask (next_number a.state.bus)) xs) (sym far)
        (in-behind (Ask (next_number a.state.bus)) (svc_items side.Far a.state.bus)
        (Ask (next_number a.state.bus) ∷ []) (inl refl))
    waits one by_ap (elsewhere e label' same other far) = absurd (other (same-draft e label' same).0
        (same-draft e label' same).1)
      where
        last : (rs : List Request) (x y : Request) → rs ++ x ∷ [] ≡ rs ++ y ∷ [] → x ≡ y
        last [] x y g = cc
        last (q ∷ rs) x y g = last rs x y (tail g)
          where
            tail : q ∷ (rs ++ x ∷ []) ≡ q ∷ (rs ++ y ∷ []) → rs ++ x ∷ [] ≡ rs ++ y ∷ []
            tail g = cc

        same-draft : (e : Draft) (label' : ℕ) → sent d label a.state.bus ≡ sent e label' a.state.bus
            → (e.connection ≡ 1) × (e.side ≡ side.Ap)
        same-draft e label' g =
            let same = last a.state.bus.requests (requested d label) (requested e label')
            (ap (λ (x : Bus). x.requests) g) in (
              ap (λ (q : Request). q.connection) (sym same) ∙ one,
              ap (λ (q : Request). q.side) (sym same) ∙ by_ap,
            )

-- an item is taken
still-taken : (m : Moment) (a b : Point) (at : End) (p : Place) (item : Item) → Basis a
    → There a.state.bus → a.state ≡ m.before → m.event ≡ event.Deliver at
    → place_of at m.before.bus.connections ≡ Some p → first (queue p.side p.connection) ≡ Some item
    → b.state.bus ≡ popped p.connection.number p.side a.state.bus → WaitsStill m a → WaitsStill m b
still-taken m a b at p item basis there start event named front is h n r made on own =
    ⊎_elim (λ i. waits i (p.connection.number == 1) refl p.side refl) (λ w. inr w)
    (h n r (ap (request_of n) (sym is) ∙ made) on own)
  where
    before : request_of n m.before.bus ≡ Some r
    before = ap (λ (s : State). request_of n s.bus) (sym start) ∙ ap (request_of n) (sym is) ∙ made

    Waits : Type 0
    Waits = IsIn (Ask n) (svc_items side.Far b.state.bus) ⊎ ((request_of n m.before.bus ≡ Some r)
        × ((IsIn (Ask n) (svc_items side.Far m.before.bus) → ⊥) ⊎ IsFront m n))

    onto : (xs : List Item)
        → svc_items side.Far (popped p.connection.number p.side a.state.bus) ≡ xs
        → IsIn (Ask n) xs → IsIn (Ask n) (svc_items side.Far b.state.bus)
    onto xs e i = subst (λ (x : Bus). IsIn (Ask n) (svc_items side.Far x)) (sym is)
        (subst (λ ys. IsIn (Ask n) ys) (sym e) i)

    -- the queue of the connection is that toward the supervisory controller
    same-queue : p.connection.number ≡ 1 → p.side ≡ side.Far
        → svc_items side.Far a.state.bus ≡ queue p.side p.connection
    same-queue one far =
        ap (items_in side.Far) (subst (λ k. connection_of k a.state.bus ≡ Some p.connection) one
        (found-by_number a.state.bus.connections p.connection basis.bus.numbers.rise
        (subst (λ (s : State). IsIn p.connection s.bus.connections) (sym start)
        (place-is at m.before.bus.connections p named).live)))
        ∙ ap (λ s. queue s p.connection) (sym far)

    waits : IsIn (Ask n) (svc_items side.Far a.state.bus) → (t : Bool)
        → (p.connection.number == 1) ≡ t → (s : Side) → p.side ≡ s → Waits
    waits i true e side.Far f =
        by (svc_items side.Far a.state.bus) refl i
      where
        one : p.connection.number ≡ 1
        one = same-number p.connection.number 1 e

        popped-is : svc_items side.Far (popped p.connection.number p.side a.state.bus)
            ≡ behind_first (svc_items side.Far a.state.bus)
        popped-is = ap (λ s. svc_items side.Far (popped p.connection.number s a.state.bus)) f
            ∙ (popped-far a p.connection.number basis there one).0

        by : (xs : List Item) → svc_items side.Far a.state.bus ≡ xs → IsIn (Ask n) xs → Waits
        by [] g j = absurd j
        by (x ∷ xs) g (inr j) = inl (onto xs (popped-is ∙ ap behind_first g) j)
        by (x ∷ xs) g (inl j) = inr (
          before,
          inr (record {
            at = at;
            place = p;
            event = event;
            named = named;
            far = f;
            one = one;
            front = ap first (sym (same-queue one f) ∙ g) ∙ ap Some (sym j);
            waits = ap (λ (s : State). first (svc_items side.Far s.bus)) (sym start)
                ∙ ap first g ∙ ap Some (sym j);
          }),
        )
    waits i true e side.Ap f = inl (onto (svc_items side.Far a.state.bus)
        (ap (λ s. svc_items side.Far (popped p.connection.number s a.state.bus)) f
        ∙ (popped-ap a p.connection.number basis there (same-number p.connection.number 1 e)).1) i)
    waits i false e s f = inl (onto (svc_items side.Far a.state.bus)
        (queues-other a.state.bus (popped p.connection.number p.side a.state.bus)
        p.connection.number (without_front p.side) refl (λ k q made. made)
        (λ y. (front-self p.side y).number)
        (λ one. not-both (p.connection.number == 1) (ap (λ k. k == 1) one) e)).far i)

-- ---- each single change

pub still-kept : (m : Moment) (a : Point) (x : Change m a) → Basis a → LinkedAt a
    → There a.state.bus → WaitsStill m a → WaitsStill m (changed m a x)
still-kept m a (asks d c label free live drawn who) basis links there h =
    still-sent m a (changed m a (asks d c label free live drawn who)) d label refl
    (far-sent d label basis there) h
still-kept m a (names name d c label free live drawn host) basis links there h =
    still-sent m a (changed m a (names name d c label free live drawn host)) d label refl
    (far-sent d label basis there) h
still-kept m a (takes at p item free start is named front) basis links there h =
    still-taken m a (changed m a (takes at p item free start is named front)) at p item basis there
    start is named front refl h
still-kept m a (replies x q r is made twoway) basis links there h =
    still-on m a (changed m a (replies x q r is made twoway)) refl
    (keeps-replied a x.connection.number (other_side x.side) q r basis there) h
still-kept m a (acts_asked q n rest is) basis links there h =
    still-on m a (changed m a (acts_asked q n rest is))
    (ap (λ (b : Bus). b.requests) (awaited-rest q.purpose n).bus)
    (keeps-same a.state.bus (changed m a (acts_asked q n rest is)).state.bus
    (far-same m a (acts_asked q n rest is) tt links)) h
still-kept m a x basis links there h = still-on m a (changed m a x) refl
    (keeps-same a.state.bus (changed m a x).state.bus (far-same m a x tt links)) h

is-ask : (n : ℕ) (y : Item) → is_ask n y ≡ true → y ≡ Ask n
is-ask n (Ask k) f = ap Ask (same-number k n f)
is-ask n _ f = absurd cc

-- it holds before the moment
pub still-start : (m : Moment) → (n : ℕ) (r : Request) → request_of n m.before.bus ≡ Some r
    → IsIn (Ask n) (svc_items side.Far m.before.bus) ⊎ ((request_of n m.before.bus ≡ Some r)
    × ((IsIn (Ask n) (svc_items side.Far m.before.bus) → ⊥) ⊎ IsFront m n))
still-start m n r made = by (list_any (is_ask n) (svc_items side.Far m.before.bus)) refl
  where
    by : (t : Bool) → list_any (is_ask n) (svc_items side.Far m.before.bus) ≡ t
        → IsIn (Ask n) (svc_items side.Far m.before.bus) ⊎ ((request_of n m.before.bus ≡ Some r)
        × ((IsIn (Ask n) (svc_items side.Far m.before.bus) → ⊥) ⊎ IsFront m n))
    by true e = let w = any-in (is_ask n) (svc_items side.Far m.before.bus) e in
        inl (subst (λ x. IsIn x (svc_items side.Far m.before.bus)) (is-ask n w.0 w.2) w.1)
    by false e = inr (
      made,
      inl (λ i. not-both (n == n) (is-same n)
          (none-any (is_ask n) (svc_items side.Far m.before.bus) (Ask n) e i)),
    )
