-- Requests that wait toward the supervisory controller for a connection that is known no more.
use Rattle.std.proofs.Common.{Bool, List, None, Some, ap, append-nil, arith, cond, false, inl, inr}
use Rattle.std.proofs.Common.{length, length-append, refl, subst, sym, true, ℕ, ⊎_elim, [], ◌++◌}
use Rattle.std.proofs.Common.{◌<◌, ◌∙◌, ◌∷◌, ◌≡◌, ◌≤◌, ◌⊎◌}
use Rattle.std.specs.Prelude.{◌==◌}
use Rattle.gb_base.specs.declared.end.Side.{Side}
use Rattle.gb_base.specs.declared.end.Side.TheVariants as side
use Rattle.gb_base.specs.declared.interface.{Interface.Interface, Link.Link}
use Rattle.gb_base.specs.declared.steps.SequenceStep.{SequenceStep}
use Rattle.gb_base.specs.declared.steps.SequenceStep.TheVariants as steps
use Rattle.gb_machine.specs.Bus.{Ask, Bus, Item, Request, next_number}
use Rattle.gb_machine.specs.Bus.{request_of}
use Rattle.gb_machine.specs.Sending.{Draft, requested, sent}
use Rattle.gb_machine.specs.SvcQueues.{is_enumeration_request, is_for_link, svc_items}
use Rattle.gb_machine.specs.{Host.Host, Lists.behind_first, Members.IsIn, Ports.level_of}
use Rattle.gb_machine.specs.{Turns.Asking}
use Rattle.gb_invariants.proofs.{Awaiting.not-both, Awaiting.same-some, BusChanges.KeepsRequests}
use Rattle.gb_invariants.proofs.{Lists.each-append, Lists.in-pushed, Outcomes.same-number}
use Rattle.gb_invariants.proofs.{Selves.far-no-ap}
use Rattle.gb_laws.proofs.enumerations.AskedWaits.{AsksIn, WaitsFewer, is_power_step}
use Rattle.gb_laws.proofs.enumerations.Enums.{AreStarts, enums, enums-more, enums-taken}
use Rattle.gb_laws.proofs.enumerations.Enums.{enums-unasked, enums_of}
use Rattle.gb_laws.proofs.enumerations.Enums.{item_enum}
use Rattle.gb_laws.proofs.svc.SvcMoves.{FarMoves, asked, elsewhere, puts, stays, taken}
use Rattle.gb_laws.proofs.{links.LinkHosts.Stay, marks.MarkFrame.asked-toward}
use Rattle.gb_laws.proofs.{creations.Pairs.PairsFit, points.PointParts.Basis}
use Rattle.gb_laws.proofs.{points.PointParts.Point, removals.Quiet.enums-same}
use Rattle.gb_laws.proofs.{removals.Quiet.starts-behind}
use Rattle.gb_laws.proofs.{removals.QuietBuses.enums-asked, creations.Remembering.RemembersAt}
use Rattle.gb_laws.proofs.{svc.SvcThere.There}

-- Request n waits, creates or destroys a connection of an interface, and was made for one that the
-- application processor knows no more.
pub record IsStale (i n : ℕ) (b : Bus) (h : Host) (pairs : List (ℕ × ℕ)) : Type 0 where
  pub connection : ℕ
  pub pair : IsIn (n, connection) pairs
  pub waits : IsIn (Ask n) (svc_items side.Far b)
  pub unknown : (l : Link) → IsIn l h.links → l.connection ≡ connection → ⊥
  pub request : Request
  pub made : request_of n b ≡ Some request
  pub speaks : is_for_link i request ≡ true

abbrev pub StaleAt : ℕ → ℕ → Point → Type 0
StaleAt i n a = IsStale i n a.state.bus a.state.host a.state.past.made_for

-- none is
abbrev pub HasNoStale : ℕ → Point → Type 0
HasNoStale i a = (n : ℕ) → StaleAt i n a → ⊥

-- While one waits, the power level of its interface is at most 1, and only starts of its
-- enumeration wait where it is 1. What the enumeration waits for was asked later, and only its
-- start is to be asked.
pub record IsCool (i : ℕ) (a : Point) : Type 0 where
  pub low : (n : ℕ) → StaleAt i n a → level_of i a.state.ports ≤ 1
  pub starts : (n : ℕ) → StaleAt i n a → level_of i a.state.ports ≡ 1
      → AreStarts (enums i a.state.bus)
  pub waits : (x : Interface) → IsIn x a.state.host.interfaces → x.intf ≡ i
      → (w : ℕ × SequenceStep) → x.awaits ≡ Some w → is_power_step w.1 ≡ true → (n : ℕ)
      → StaleAt i n a → n < w.0
  pub due : a.asked ≡ None → (q : Asking) → AsksIn q a.pending → q.purpose.intf ≡ i
      → is_power_step q.purpose.step ≡ true → (q.purpose.step ≡ steps.EnableVsys) ⊎ HasNoStale i a

-- ---- the queue moves

pub behind-in : (xs : List Item) (x : Item) → IsIn x (behind_first xs) → IsIn x xs
behind-in [] x i = absurd i
behind-in (y ∷ ys) x i = inr i

-- what was made before and waits waited before
pub waited : {b after : Bus} (n : ℕ) → FarMoves b after → n ≤ length b.requests
    → IsIn (Ask n) (svc_items side.Far after) → IsIn (Ask n) (svc_items side.Far b)
waited n (stays requests far) low i = subst (λ xs. IsIn (Ask n) xs) far i
waited {b} n (taken requests far) low i =
    behind-in (svc_items side.Far b) (Ask n) (subst (λ xs. IsIn (Ask n) xs) far i)
waited {b} n (puts x unasked requests far) low i = ⊎_elim (λ o. o) (λ e. absurd (unasked n (sym e)))
    (in-pushed (Ask n) (svc_items side.Far b) x (subst (λ xs. IsIn (Ask n) xs) far i))
waited {b} n (asked d label is one own far) low i = ⊎_elim (λ o. o) (λ e. absurd (above e))
    (in-pushed (Ask n) (svc_items side.Far b) (Ask (next_number b))
    (subst (λ xs. IsIn (Ask n) xs) far i))
  where
    same : (k j : ℕ) → Ask k ≡ Ask j → k ≡ j
    same k j e = cc

    above : Ask n ≡ Ask (next_number b) → ⊥
    above e = omega (arith, low, same n (next_number b) e)
waited n (elsewhere d label is other far) low i = subst (λ xs. IsIn (Ask n) xs) far i

-- what is stale was, where the application processor knows no fewer connections
pub stale-back : (i n : ℕ) (a b : Point) → FarMoves a.state.bus b.state.bus → RemembersAt a
    → PairsFit a.state.bus a.state.host a.state.past.made_for a.asked
    → KeepsRequests a.state.bus b.state.bus
    → ((k : ℕ) → IsIn (n, k) b.state.past.made_for → ((l : Link) → IsIn l b.state.host.links
    → l.connection ≡ k → ⊥) → IsIn (n, k) a.state.past.made_for)
    → Stay a.state.host.links b.state.host.links → StaleAt i n b → StaleAt i n a
stale-back i n a b moves r f keeps pairs stay s =
    let pair = pairs s.connection s.pair s.unknown in
    let was = f.made n s.connection pair in record {
      connection = s.connection;
      pair = pair;
      waits = waited n moves (r.below n s.connection pair) s.waits;
      unknown = λ l live e. let y = stay l live in s.unknown y.0 y.1 (y.2.connection ∙ e);
      request = s.request;
      made = was.made ∙ ap Some (same-some was.request s.request
          (sym (keeps n was.request was.made) ∙ s.made));
      speaks = s.speaks;
    }

-- ---- starts

pub no-sent : (b after : Bus) (d : Draft) (label : ℕ) → after.requests ≡ b.requests
    → after ≡ sent d label b → ⊥
no-sent b after d label same is =
    let count = length-append b.requests (requested d label ∷ []) in
    let grown = ap length (sym same ∙ ap (λ (x : Bus). x.requests) is) in
    omega (arith, count, grown)

unasked-enum : (i : ℕ) (b : Bus) (x : Item) → ((n : ℕ) → x ≡ Ask n → ⊥) → item_enum i b x ≡ []
unasked-enum i b (Ask n) never = absurd (never n refl)
unasked-enum i b _ never = refl

-- only starts wait still, where no request is made
pub starts-moved : (i : ℕ) (a : Point) {after : Bus} → Basis a → FarMoves a.state.bus after
    → KeepsRequests a.state.bus after → after.requests ≡ a.state.bus.requests
    → AreStarts (enums i a.state.bus) → AreStarts (enums i after)
starts-moved i a {after} basis (stays requests far) keeps same h =
    subst AreStarts (sym (enums-same i a after basis keeps far)) h
starts-moved i a {after} basis (taken requests far) keeps same h =
    subst AreStarts (sym (ap (enums_of i after) far ∙ more))
    (⊎_elim (λ e. subst AreStarts (sym e) h)
    (λ e. subst AreStarts (sym e) (starts-behind (enums i a.state.bus) h))
    (enums-taken i a.state.bus (svc_items side.Far a.state.bus)))
  where
    more : enums_of i after (behind_first (svc_items side.Far a.state.bus))
        ≡ enums_of i a.state.bus (behind_first (svc_items side.Far a.state.bus))
    more = enums-more i a.state.bus after (behind_first (svc_items side.Far a.state.bus)) keeps
        (λ n j. asked-toward side.Far a basis n
        (behind-in (svc_items side.Far a.state.bus) (Ask n) j))
starts-moved i a {after} basis (puts x unasked requests far) keeps same h =
    subst AreStarts (sym (ap (enums_of i after) far
    ∙ enums-unasked i after (svc_items side.Far a.state.bus) x (unasked-enum i after x unasked)
    ∙ enums-more i a.state.bus after (svc_items side.Far a.state.bus) keeps
    (asked-toward side.Far a basis))) h
starts-moved i a {after} basis (asked d label is one own far) keeps same h =
    absurd (no-sent a.state.bus after d label same is)
starts-moved i a {after} basis (elsewhere d label is other far) keeps same h =
    absurd (no-sent a.state.bus after d label same is)

-- or where one is made that is no other request of the enumeration
pub starts-sent : (i : ℕ) (a : Point) (d : Draft) (label : ℕ) → Basis a → There a.state.bus
    → FarMoves a.state.bus (sent d label a.state.bus)
    → KeepsRequests a.state.bus (sent d label a.state.bus) → (d.connection ≡ 1 → d.side ≡ side.Ap
    → is_enumeration_request i (requested d label) ≡ true → d.kind ≡ 0x21)
    → AreStarts (enums i a.state.bus) → AreStarts (enums i (sent d label a.state.bus))
starts-sent i a d label basis there moves keeps start h =
    by (d.connection == 1) refl d.side refl
  where
    pushed : d.connection ≡ 1 → d.side ≡ side.Ap → (t : Bool)
        → is_enumeration_request i (requested d label) ≡ t → AreStarts (enums i a.state.bus
        ++ (cond t ((next_number a.state.bus, requested d label) ∷ []) [] ++ []))
    pushed one own true e = each-append (λ (x : ℕ × Request). x.1.kind ≡ 0x21)
        (enums i a.state.bus) ((next_number a.state.bus, requested d label) ∷ []) h
        (start one own e, tt)
    pushed one own false e = subst AreStarts (sym (append-nil (enums i a.state.bus))) h

    still : (d.connection ≡ 1 → d.side ≡ side.Ap → ⊥)
        → FarMoves a.state.bus (sent d label a.state.bus)
        → AreStarts (enums i (sent d label a.state.bus))
    still other (stays requests far) =
        absurd (no-sent a.state.bus (sent d label a.state.bus) d label requests refl)
    still other (taken requests far) =
        absurd (no-sent a.state.bus (sent d label a.state.bus) d label requests refl)
    still other (puts x unasked requests far) =
        absurd (no-sent a.state.bus (sent d label a.state.bus) d label requests refl)
    still other (elsewhere e label' is away far) = subst AreStarts
        (sym (enums-same i a (sent d label a.state.bus) basis keeps far)) h
    still other (asked e label' is one own far) =
        let same = last a.state.bus.requests (requested d label) (requested e label')
        (ap (λ (x : Bus). x.requests) is) in
        absurd (other (ap (λ (r : Request). r.connection) same ∙ one)
        (ap (λ (r : Request). r.side) same ∙ own))
      where
        last : (rs : List Request) (x y : Request) → rs ++ x ∷ [] ≡ rs ++ y ∷ [] → x ≡ y
        last [] x y e = cc
        last (r ∷ rs) x y e = last rs x y (tail e)
          where
            tail : r ∷ (rs ++ x ∷ []) ≡ r ∷ (rs ++ y ∷ []) → rs ++ x ∷ [] ≡ rs ++ y ∷ []
            tail e = cc

    by : (t : Bool) → (d.connection == 1) ≡ t → (s : Side) → d.side ≡ s
        → AreStarts (enums i (sent d label a.state.bus))
    by true e side.Ap f = subst AreStarts
        (sym (enums-asked i a d label basis there (same-number d.connection 1 e) f))
        (pushed (same-number d.connection 1 e) f (is_enumeration_request i (requested d label))
        refl)
    by true e side.Far f = still (λ one own. far-no-ap (sym f ∙ own)) moves
    by false e s f =
        still (λ one own. not-both (d.connection == 1) (ap (λ n. n == 1) one) e) moves

-- ---- what stays

-- Where nothing becomes stale, levels stay, starts stay where only they wait, and the application
-- processor waits for no more and has no more to ask.
pub cool-still : (i : ℕ) (a : Point) {b : Point} → ((n : ℕ) → StaleAt i n b → StaleAt i n a)
    → level_of i b.state.ports ≡ level_of i a.state.ports
    → ((n : ℕ) → StaleAt i n a → AreStarts (enums i a.state.bus) → AreStarts (enums i b.state.bus))
    → WaitsFewer a.state.host b.state.host
    → (b.asked ≡ None → (q : Asking) → AsksIn q b.pending → q.purpose.intf ≡ i
    → is_power_step q.purpose.step ≡ true
    → (q.purpose.step ≡ steps.EnableVsys) ⊎ HasNoStale i b) → IsCool i a → IsCool i b
cool-still i a back level starts fewer due h = record {
  low = λ n s. subst (λ k. k ≤ 1) (sym level) (h.low n (back n s));
  starts = λ n s one. starts n (back n s) (h.starts n (back n s) (sym level ∙ one));
  waits = λ x j at w e p n s. let was = fewer x j w e in
      h.waits was.was was.known (was.intf ∙ at) w (was.awaits ∙ e) p n (back n s);
  due = due;
}

-- and what was due still is
pub due-still : (i : ℕ) (a b : Point) → ((n : ℕ) → StaleAt i n b → StaleAt i n a)
    → b.asked ≡ a.asked → ((q : Asking) → AsksIn q b.pending → AsksIn q a.pending) → IsCool i a
    → b.asked ≡ None → (q : Asking) → AsksIn q b.pending → q.purpose.intf ≡ i
    → is_power_step q.purpose.step ≡ true → (q.purpose.step ≡ steps.EnableVsys) ⊎ HasNoStale i b
due-still i a b back awaits pending h e q j at p = ⊎_elim (λ start. inl start)
    (λ none. inr (λ n s. none n (back n s))) (h.due (sym awaits ∙ e) q (pending q j) at p)
