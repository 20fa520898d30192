-- What laws alone speak of is never forgotten, and each request is remembered for one connection.
use Rattle.std.proofs.Common.{Bool, List, None, Option, Some, ap, arith, cond, false, length}
use Rattle.std.proofs.Common.{length-append, refl, subst, sym, true, ℕ, ⊎_elim, [], ◌++◌, ◌+◌, ◌∙◌}
use Rattle.std.proofs.Common.{◌∷◌, ◌≡◌, ◌≤◌}
use Rattle.gb_base.specs.declared.entry.Entry.{Entry}
use Rattle.gb_base.specs.declared.interface.Link.{Link}
use Rattle.gb_base.specs.declared.steps.Purpose.{Purpose}
use Rattle.gb_machine.specs.{Bus.Request, Host.link_at, HostActs.made_for, HostActs.with_awaited}
use Rattle.gb_machine.specs.{LawsHotPlug.NoneForgotten, LawsHotPlug.RememberedForOne, Members.IsIn}
use Rattle.gb_machine.specs.{Runs.Moment, Runs.after, Sending.requested}
use Rattle.gb_machine.specs.{SequenceSteps.is_for_connection, State.State, State.first_state}
use Rattle.gb_machine.specs.{Turns.Asking, Waits.awaits}
use Rattle.gb_invariants.proofs.Lists.{each-from, in-front, in-pushed}
use Rattle.gb_invariants.proofs.Awaiting.{none-some, same-some}
use Rattle.gb_laws.proofs.basis.Basics.{Based, basis, basis-first, basis-throughout, rested}
use Rattle.gb_laws.proofs.points.Points.{Change, IsAskedBy, Law, acts_asked, asks, awaited_by}
use Rattle.gb_laws.proofs.points.Points.{by_far, by_loader}
use Rattle.gb_laws.proofs.points.Points.{by_host, changed, names, upon, wires}
use Rattle.gb_laws.proofs.runs.Runs.{HoldsAtMoments, HoldsByMoments, Keeps, at_each, throughout}
use Rattle.gb_laws.proofs.runs.Runs.{weaker}
use Rattle.gb_laws.proofs.{points.PointParts.Point, steps.Steps.over-step}

-- ---- what was wired

-- what was wired before a moment is remembered
abbrev pub StaysWired : Moment → State → Type 0
StaysWired m s = (k : ℕ) → IsIn k m.before.past.wired → IsIn k s.past.wired

-- a sequence that waits for a request leaves what was wired
pub waiting-wired : (p : Purpose) (n : ℕ) (s : State)
    → (with_awaited p n s).past.wired ≡ s.past.wired
waiting-wired p n s = by (is_for_connection p.step) (link_at p.intf p.cport (awaits p n s.host))
  where
    by : (t : Bool) (o : Option Link) → (cond t (made_for n o
        (record s { host = awaits p n s.host }))
        (record s { host = awaits p n s.host })).past.wired ≡ s.past.wired
    by true None = refl
    by true (Some l) = refl
    by false o = refl

pub wired-stays : (m : Moment) (a : Point) (x : Change m a) → StaysWired m a.state
    → StaysWired m (changed m a x).state
wired-stays m a (wires k free untouched live powered) h =
    λ j i. in-front j a.state.past.wired (k ∷ []) (h j i)
wired-stays m a (acts_asked q n rest is) h =
    λ j i. subst (λ ks. IsIn j ks) (sym (waiting-wired q.purpose n a.state)) (h j i)
wired-stays m a _ h = h

abbrev pub stays_law : (m : Moment) → Law m
stays_law m =
    upon (basis m) (λ a. StaysWired m a.state) (λ a x g h. wired-stays m a x h)

-- Which connections were ever wired is never forgotten.
pub none-forgotten_at : HoldsAtMoments NoneForgotten
none-forgotten_at = at_each Based NoneForgotten basis-throughout (λ m one h.
    each-from (λ k. IsIn k (after m).past.wired) m.before.past.wired
    (over-step m (stays_law m) one (h, λ k i. i)).1.1)

-- ---- for which connection

-- Each request that is remembered was made, and is remembered for one connection. The one for which
-- a sequence is to wait was made, and isn't remembered yet.
pub record Remembers (count : ℕ) (pairs : List (ℕ × ℕ)) (asked : Option (Asking × ℕ)) : Type 0 where
  pub below : (n k : ℕ) → IsIn (n, k) pairs → n ≤ count
  pub one : (n k j : ℕ) → IsIn (n, k) pairs → IsIn (n, j) pairs → k ≡ j
  pub fresh : (q : Asking) (n : ℕ) → asked ≡ Some (q, n)
      → (n ≤ count) × ((k : ℕ) → IsIn (n, k) pairs → ⊥)

abbrev pub RemembersAt : Point → Type 0
RemembersAt a = Remembers (length a.state.bus.requests) a.state.past.made_for a.asked

-- a request more
remembers-more : {count : ℕ} {pairs : List (ℕ × ℕ)} {asked : Option (Asking × ℕ)}
    → Remembers count pairs asked → Remembers (count + 1) pairs asked
remembers-more h = record {
  below = λ n k i. let low = h.below n k i in omega (arith, low);
  one = h.one;
  fresh = λ q n e. let f = h.fresh q n e in (let low = f.0 in omega (arith, low), f.1);
}

-- for which a sequence is to wait
remembers-asked : {count : ℕ} {pairs : List (ℕ × ℕ)} (asked : Option (Asking × ℕ)) (q : Asking)
    → Remembers count pairs asked → Remembers (count + 1) pairs (Some (q, count + 1))
remembers-asked {count} asked q h = record {
  below = λ n k i. let low = h.below n k i in omega (arith, low);
  one = h.one;
  fresh = λ x n e.
      let is : count + 1 ≡ n = ap (λ (w : Asking × ℕ). w.1) (same-some (q, count + 1) (x, n) e) in
      (omega (arith, is), λ k i. let low = h.below n k i in absurd (omega (arith, low, is)));
}

-- none is waited for any more
remembers-rest : {count : ℕ} {pairs : List (ℕ × ℕ)} {asked : Option (Asking × ℕ)}
    → Remembers count pairs asked → Remembers count pairs None
remembers-rest h = record {
  below = h.below;
  one = h.one;
  fresh = λ q n e. absurd (none-some e);
}

-- a request is remembered
remembers-pair : {count : ℕ} {pairs : List (ℕ × ℕ)} (asked : Option (Asking × ℕ)) (q : Asking)
    (n k : ℕ) → asked ≡ Some (q, n) → Remembers count pairs asked
    → Remembers count (pairs ++ (n, k) ∷ []) None
remembers-pair {pairs} asked q n k is h = record {
  below = λ m j i. ⊎_elim (λ o. h.below m j o)
      (λ e. let low = (h.fresh q n is).0 in omega (arith, low, ap (λ (w : ℕ × ℕ). w.0) e))
      (in-pushed (m, j) pairs (n, k) i);
  one = λ m j i a b. ⊎_elim (λ o. ⊎_elim (λ o'. h.one m j i o o') (λ e. absurd ((h.fresh q n is).1 j
      (subst (λ x. IsIn (x, j) pairs) (ap (λ (w : ℕ × ℕ). w.0) e) o)))
      (in-pushed (m, i) pairs (n, k) b)) (λ e. ⊎_elim (λ o'. absurd ((h.fresh q n is).1 i
      (subst (λ x. IsIn (x, i) pairs) (ap (λ (w : ℕ × ℕ). w.0) e) o')))
      (λ e'. ap (λ (w : ℕ × ℕ). w.1) e ∙ sym (ap (λ (w : ℕ × ℕ). w.1) e'))
      (in-pushed (m, i) pairs (n, k) b)) (in-pushed (m, j) pairs (n, k) a);
  fresh = λ x j e. absurd (none-some e);
}

-- ---- each single change

remembers-sent : {asked : Option (Asking × ℕ)} {pairs : List (ℕ × ℕ)} (rs : List Request)
    (r : Request) → Remembers (length rs + 1) pairs asked
    → Remembers (length (rs ++ r ∷ [])) pairs asked
remembers-sent {asked} {pairs} rs r h =
    subst (λ n. Remembers n pairs asked) (sym (length-append rs (r ∷ []))) h

pub remembers-kept : (m : Moment) (a : Point) (x : Change m a) → RemembersAt a
    → RemembersAt (changed m a x)
remembers-kept m a (asks d c label free live drawn who) h =
    remembers-sent a.state.bus.requests (requested d label) (by who)
  where
    by : (w : IsAskedBy m a c d)
        → Remembers (length a.state.bus.requests + 1) a.state.past.made_for (awaited_by m a c d w)
    by (by_host q rest is draft none) =
        remembers-asked a.asked q h
    by (by_far far on unloaded) =
        remembers-more h
    by (by_loader x going far on) =
        remembers-more h
remembers-kept m a (names name d c label free live drawn host) h =
    remembers-sent a.state.bus.requests (requested d label) (remembers-more h)
remembers-kept m a (acts_asked q n rest is) h =
    by (is_for_connection q.purpose.step)
    (link_at q.purpose.intf q.purpose.cport (awaits q.purpose n a.state.host))
  where
    StillRemembers : State → Type 0
    StillRemembers s = Remembers (length s.bus.requests) s.past.made_for None

    by : (t : Bool) (o : Option Link) → StillRemembers (cond t
        (made_for n o (record a.state { host = awaits q.purpose n a.state.host }))
        (record a.state { host = awaits q.purpose n a.state.host }))
    by true None = remembers-rest h
    by true (Some l) =
        remembers-pair a.asked q n l.connection is.1 h
    by false o = remembers-rest h
remembers-kept m a _ h = h

abbrev pub remembers_law : (m : Moment) → Law m
remembers_law m = upon (basis m) RemembersAt (λ a x g h. remembers-kept m a x h)

abbrev pub RemembersTo : List Entry → State → Type 0
RemembersTo told s =
    Based told s × Remembers (length s.bus.requests) s.past.made_for None

pub remembers-first : RemembersTo [] first_state
remembers-first = (
  basis-first,
  record {
    below = λ n k i. absurd i;
    one = λ n k j i. absurd i;
    fresh = λ q n e. absurd (none-some e);
  },
)

pub remembers-over : Keeps RemembersTo
remembers-over m one h =
    let r = over-step m (remembers_law m) one h in (rested _ _ r.0 r.1.0, r.1.1)

-- A request is remembered for one connection.
pub remembered-for_one : HoldsByMoments RememberedForOne
remembered-for_one = weaker RemembersTo RememberedForOne (λ told s h. h.1.one)
    (throughout RemembersTo remembers-first remembers-over)
