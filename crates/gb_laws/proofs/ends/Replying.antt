-- Each request is replied to once at most: it is asked in one item, or its reply was told.
use Rattle.std.proofs.Common.{List, None, Option, Some, ap, append-nil, arith, false, map, refl}
use Rattle.std.proofs.Common.{subst, sym, true, ℕ, [], ◌∙◌, ◌∷◌, ◌≡◌, ◌≤◌}
use Rattle.std.specs.Prelude.{◌==◌}
use Rattle.gb_base.specs.declared.end.End.TheVariants as end
use Rattle.gb_base.specs.declared.end.Side.TheVariants as side
use Rattle.gb_base.specs.declared.entry.Entry.{Entry}
use Rattle.gb_machine.specs.{Bus.request_of, Holding.held_on, HostActs.with_awaited}
use Rattle.gb_machine.specs.{LawsEnds.EndOnce, Lists.nth, Lists.without, Members.Each, Members.IsIn}
use Rattle.gb_machine.specs.{Requests.open_on, Runs.Moment, State.State, SvcQueues.is_ask}
use Rattle.gb_machine.specs.{Wires.disconnected_told, Wiring.unwired}
use Rattle.gb_invariants.proofs.Counts.{attached-counts, changed-counts, detached-counts}
use Rattle.gb_invariants.proofs.Counts.{injected-counts, popped-counts, times-cons}
use Rattle.gb_invariants.proofs.Numbers.{found-by_number}
use Rattle.gb_invariants.specs.Facts.{Loose, times_in}
use Rattle.gb_laws.proofs.basis.Basics.{basis, basis-first, rested}
use Rattle.gb_laws.proofs.basis.Loosening.{Fewer, fewer-held, fewer-tail, fewer-taken}
use Rattle.gb_laws.proofs.basis.Loosening.{fewer-without}
use Rattle.gb_laws.proofs.basis.Loosening.{held-at}
use Rattle.gb_laws.proofs.points.PointParts.{Basis, Hand, Point, loose, loose_hand, loose_held}
use Rattle.gb_laws.proofs.points.PointParts.{resting}
use Rattle.gb_laws.proofs.points.Points.{Change, Law, acts_asked, acts_failed, acts_left}
use Rattle.gb_laws.proofs.points.Points.{acts_made}
use Rattle.gb_laws.proofs.points.Points.{acts_shut, acts_told, answers, asks, changed, drops}
use Rattle.gb_laws.proofs.points.Points.{forgets}
use Rattle.gb_laws.proofs.points.Points.{gives_up, holds, injects, names, replies, takes}
use Rattle.gb_laws.proofs.points.Points.{takes_held}
use Rattle.gb_laws.proofs.points.Points.{tells, unwires, upon, wires}
use Rattle.gb_laws.proofs.ends.ReplyHands.{IsNoReply, RepliesOnce, asked_times, once-asked}
use Rattle.gb_laws.proofs.ends.ReplyHands.{once-fewer}
use Rattle.gb_laws.proofs.ends.ReplyHands.{once-replied, quiet-no-replies, quiet-no-reply}
use Rattle.gb_laws.proofs.{points.Awaited.awaited-rest, basis.BasisParts.loose_of}
use Rattle.gb_laws.proofs.{basis.BasisParts.taken-is}
use Rattle.gb_laws.proofs.{ends.Ended.ends-throughout, points.Places.module-far}
use Rattle.gb_laws.proofs.{points.Places.place-is}
use Rattle.gb_laws.proofs.{runs.Runs.HoldsByMoments, runs.Runs.throughout}
use Rattle.gb_laws.proofs.{points.Silent.silent-quiet}
use Rattle.gb_laws.proofs.{steps.Steps.over-step}

-- ---- the law of points

-- fewer items ask, where loose items are fewer and the bus is the same
fewer-asked : (n : ℕ) (a after : Point) → after.state.bus ≡ a.state.bus
    → Fewer (loose after) (loose a) → asked_times n after ≤ asked_times n a
fewer-asked n a after same f =
    let less = f.counts (is_ask n) in
    omega (arith, less, ap (λ b. times_in (is_ask n) (loose after) b) same)

fewer-same : (ls : List Loose) → Fewer ls ls
fewer-same ls = record { within = λ l i. i; counts = λ test. omega arith }

-- what is in hand, and is let go
fewer-hand : (a : Point) (x : Hand) → a.hand ≡ Some x
    → Fewer (map loose_held a.state.held) (loose a)
fewer-hand a x is =
    subst (λ o. Fewer (map loose_held a.state.held) (loose_hand o (map loose_held a.state.held)))
    (sym is) (fewer-tail (loose_of x))

fewer-dropped : (a : Point) → Fewer (map loose_held a.state.held) (loose a)
fewer-dropped a = by a.hand refl
  where
    by : (o : Option Hand) → a.hand ≡ o → Fewer (map loose_held a.state.held) (loose a)
    by None e = subst (λ o. Fewer (map loose_held a.state.held)
        (loose_hand o (map loose_held a.state.held))) (sym e) (fewer-same _)
    by (Some x) e = fewer-hand a x e

ended-no-replies : (ns : List ℕ) → Each IsNoReply (map disconnected_told ns)
ended-no-replies [] = tt
ended-no-replies (n ∷ ns) = ((λ k. refl), ended-no-replies ns)

once-kept : (m : Moment) (a : Point) (x : Change m a) → Basis a → RepliesOnce a
    → RepliesOnce (changed m a x)
once-kept m a (tells e quiet) basis h = once-fewer a _ (e ∷ []) refl
    (quiet-no-reply e (silent-quiet e quiet), tt) (λ n r made. made) (λ n. omega arith) h
once-kept m a (asks d c label free live drawn who) basis h =
    once-asked a _ d c label basis refl refl refl refl h
once-kept m a (names name d c label free live drawn host) basis h =
    once-asked a _ d c label basis refl refl refl refl h
once-kept m a (takes at p item free start is named front) basis h =
    once-fewer a _ [] refl tt (λ n r made. made) (λ n.
    let live = subst (λ s. IsIn p.connection s.bus.connections) (sym start)
    (place-is at m.before.bus.connections p named).live in
    let popped = popped-counts (is_ask n) (map loose_held a.state.held) p.connection.number p.side
    item p.connection a.state.bus
    (found-by_number a.state.bus.connections p.connection basis.bus.numbers.rise live) front in
    let hand = times-cons (λ (l : Loose). is_ask n l.item)
    (record { connection = p.connection.number; side = p.side; item = item })
    (map loose_held a.state.held) in
    let free_is = ap (λ o. times_in (is_ask n) (loose_hand o (map loose_held a.state.held))
    a.state.bus) free in
    omega (arith, popped, hand, free_is)) h
once-kept m a (takes_held i c place p x free start is at held) basis h =
    once-fewer a _ [] refl tt (λ n r made. made) (λ n.
    let there = subst (λ s. nth place (held_on p.connection.number s.held) ≡ Some x) (sym start)
    held in
    let far = module-far i c p.side p.connection
    (place-is (end.Module i c) m.before.bus.connections p at).is in
    let on = (held-at p.connection.number place a.state.held x there).1 in
    let less = (fewer-taken p.connection.number place a.state.held x
    (record { connection = p.connection.number; side = p.side; item = x.item }) there
    (taken-is p.connection.number x.connection p.side x.item on far)).counts (is_ask n) in
    let free_is = ap (λ o. times_in (is_ask n) (loose_hand o (map loose_held a.state.held))
    a.state.bus) free in
    omega (arith, less, free_is)) h
once-kept m a drops basis h = once-fewer a _ [] (sym (append-nil a.told)) tt (λ n r made. made)
    (λ n. fewer-asked n a (record a { hand = None }) refl (fewer-dropped a)) h
once-kept m a (holds x is far) basis h =
    once-fewer a _ [] refl tt (λ n r made. made) (λ n.
    let less = (fewer-held (loose_of x) (record { connection = x.connection.number; item = x.item })
    a.state.held
    (taken-is x.connection.number x.connection.number x.side x.item refl far)).counts (is_ask n) in
    let hand = ap (λ o. times_in (is_ask n) (loose_hand o (map loose_held a.state.held))
    a.state.bus) is in
    omega (arith, less, hand)) h
once-kept m a (replies x q r is made twoway) basis h = once-replied m a x q r is made twoway h
once-kept m a (answers x n result payload is says which) basis h =
    once-fewer a _ (_ ∷ []) refl ((λ k. refl), tt) (λ k r made. made) (λ k.
    let less = (fewer-hand a x is).counts (is_ask k) in omega (arith, less)) h
once-kept m a (forgets x n is which) basis h =
    once-fewer a _ [] refl tt (λ k r made. made)
    (λ k. let less = (fewer-hand a x is).counts (is_ask k) in omega (arith, less)) h
once-kept m a (gives_up n how free unended cause) basis h =
    once-fewer a _ (_ ∷ []) refl ((λ k. refl), tt) (λ k r made. made) (λ k. omega arith) h
once-kept m a (wires k free untouched live powered) basis h =
    once-fewer a _ [] refl tt (λ n r made. made)
    (λ n. changed-counts (is_ask n) (loose a) k _ a.state.bus (λ c. omega arith)) h
once-kept m a (unwires k free before live) basis h =
    once-fewer a _ _ refl (ended-no-replies (open_on k side.Far a.state.bus)) (λ n r made. made)
    (λ n.
    let later = map loose_held (without (λ y. y.connection == k) a.state.held) in
    let fewer = (fewer-without k a.state.held).counts (is_ask n) in
    let cleared = changed-counts (is_ask n) later k
    (λ c. record c { wired = false; to_ap = []; to_far = [] }) a.state.bus (λ c. omega arith) in
    let free_is = ap (λ o. times_in (is_ask n) (loose_hand o (map loose_held a.state.held))
    a.state.bus) free in
    let free_after = ap (λ o. times_in (is_ask n)
    (loose_hand o (map loose_held (without (λ y. y.connection == k) a.state.held)))
    (unwired k a.state.bus)) free in
    omega (arith, fewer, cleared, free_is, free_after)) h
once-kept m a (injects i c p bytes free named) basis h =
    once-fewer a _ (_ ∷ []) refl ((λ k. refl), tt) (λ n r made. made)
    (λ n. injected-counts (is_ask n) (loose a) p.connection.number bytes a.state.bus refl) h
once-kept m a (acts_told e rest is quiet) basis h = once-fewer a _ (e ∷ []) refl
    (quiet-no-reply e quiet, tt) (λ n r made. made) (λ n. omega arith) h
once-kept m a (acts_shut k rest free is cause) basis h =
    once-fewer a _ _ refl (ended-no-replies (open_on k side.Ap a.state.bus)) (λ n r made. made)
    (λ n. changed-counts (is_ask n) (loose a) k (λ c. record c { shut = true }) a.state.bus
    (λ c. omega arith)) h
once-kept m a (acts_left k rest free untouched is) basis h =
    once-fewer a _ [] refl tt (λ n r made. made)
    (λ n. detached-counts (is_ask n) (loose a) a.state.bus k) h
once-kept m a (acts_made w q rest free is) basis h =
    once-fewer a _ (_ ∷ []) refl ((λ k. refl), tt) (λ n r made. made)
    (λ n. let same = attached-counts (is_ask n) (loose a) a.state.bus w.ap w.intf w.cport w.protocol
    in omega (arith, same)) h
once-kept m a (acts_asked q k rest is) basis h =
    let r = awaited-rest q.purpose k in
    once-fewer a _ [] refl tt (λ n x made. ap (request_of n) r.bus ∙ made)
    (λ n. let same = ap (λ b. times_in (is_ask n)
    (loose_hand a.hand (map loose_held (with_awaited q.purpose k a.state).held)) b) r.bus in
    let held = ap (λ hs. times_in (is_ask n) (loose_hand a.hand (map loose_held hs)) a.state.bus)
    r.held in
    omega (arith, same, held)) h
once-kept m a (acts_failed q rest is quiet) basis h =
    once-fewer a _ _ refl (quiet-no-replies _ quiet) (λ n r made. made) (λ n. omega arith) h
once-kept m a _ basis h =
    once-fewer a _ [] refl tt (λ n r made. made) (λ n. omega arith) h

-- ---- the law

abbrev once_law : (m : Moment) → Law m
once_law m = upon (basis m) RepliesOnce (λ a x g h. once-kept m a x g h)

-- the basis, and that each request is replied to once
abbrev pub OnceAt : List Entry → State → Type 0
OnceAt told s = Basis (resting told s) × RepliesOnce (resting told s)

pub replies-throughout : HoldsByMoments OnceAt
replies-throughout =
    throughout OnceAt (basis-first, record { once = λ n. omega arith; made = λ n none. refl })
    (λ m one h. let r = over-step m (once_law m) one h in
    (rested _ _ r.0 r.1.0, record { once = r.1.1.once; made = r.1.1.made }))

-- Each request ends once at most and is replied to once at most.
pub ends-once_by_moments : HoldsByMoments EndOnce
ends-once_by_moments es are =
    let ends = ends-throughout es are in
    let replies = replies-throughout es are in record {
      outcomes = ends.0.bus.outcomes.once;
      ends = λ n. let c =
          ends.1.count n in let o = ends.0.bus.outcomes.once n in omega (arith, c, o);
      replies = λ n. let c = replies.1.once n in omega (arith, c);
    }
