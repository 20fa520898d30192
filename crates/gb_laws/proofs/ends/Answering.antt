-- A request is answered by what its own responder replied.
use Rattle.std.proofs.Common.{Bool, List, Some, ap, append-nil, append_assoc, cond, false, map}
use Rattle.std.proofs.Common.{inl, inr, refl, subst, sym, true, ℕ, [], ◌++◌, ◌∙◌, ◌∷◌, ◌≡◌}
use Rattle.std.specs.Prelude.{◌==◌}
use Rattle.gb_base.specs.declared.bridge.Reading.TheVariants as reading
use Rattle.gb_base.specs.declared.end.End.TheVariants as end
use Rattle.gb_base.specs.declared.end.Side.{Side}
use Rattle.gb_base.specs.declared.end.Side.TheVariants as side
use Rattle.gb_base.specs.declared.entry.Entry.{Entry}
use Rattle.gb_base.specs.declared.entry.Entry.TheVariants as entry
use Rattle.gb_base.specs.declared.outcome.Outcome.{Outcome}
use Rattle.gb_base.specs.declared.outcome.Outcome.TheVariants as outcome
use Rattle.gb_formats.specs.Message.{message_size, response, spelling}
use Rattle.gb_machine.specs.Bus.{Bus, Connection, Item, Reply, Request, connection_of, end_of}
use Rattle.gb_machine.specs.Bus.{next_number, other_side, queue, request_of}
use Rattle.gb_machine.specs.Runs.{IsMoment, Moment, after, told_at}
use Rattle.gb_machine.specs.{LawsBus.items_of, LawsEnds.HadItsReply, LawsEnds.IsAnsweredByNumber}
use Rattle.gb_machine.specs.{Holding.held_on, LawsHotPlug.IsOwnItem, State.Held}
use Rattle.gb_machine.specs.{Members.Each, Members.IsIn, Requests.is_of, Requests.open_on}
use Rattle.gb_machine.specs.{Sending.Draft, State.State, Wires.disconnected_told}
use Rattle.gb_invariants.proofs.Awaiting.{is_of-is, none-some, not-both, same-some}
use Rattle.gb_invariants.proofs.Lists.{each-append, each-in, each-weaker, in-behind, in-front}
use Rattle.gb_invariants.proofs.{BusChanges.KeepsRequests, Drawing.open_with-in_use}
use Rattle.gb_invariants.proofs.{ItemChanges.first-in, Numbers.found-by_number, Outcomes.both-true}
use Rattle.gb_laws.proofs.points.PointParts.{AreQuiet, Hand, IsGivenUpFor, Point, asked_told}
use Rattle.gb_laws.proofs.points.PointParts.{is_quiet}
use Rattle.gb_laws.proofs.points.PointParts.{loose_held, sent_told}
use Rattle.gb_laws.proofs.points.Points.{Answers, Change, Law, Says, acts_failed, acts_made}
use Rattle.gb_laws.proofs.points.Points.{acts_shut}
use Rattle.gb_laws.proofs.points.Points.{acts_told, answers, asks, by_label, by_number, changed}
use Rattle.gb_laws.proofs.points.Points.{drops}
use Rattle.gb_laws.proofs.points.Points.{forgets, gives_up, holds, injects, names, numbered}
use Rattle.gb_laws.proofs.points.Points.{replies}
use Rattle.gb_laws.proofs.points.Points.{takes, takes_held, tells, unclean, unwires, upon}
use Rattle.gb_laws.proofs.{basis.Basics.basis, points.ChangeBuses.keeps-requests}
use Rattle.gb_laws.proofs.{taking.Foreign.OwnAt}
use Rattle.gb_laws.proofs.{taking.Foreign.own-throughout, basis.Loosening.held-at}
use Rattle.gb_laws.proofs.{basis.Loosening.in-nth}
use Rattle.gb_laws.proofs.{basis.Loosening.map-held-in}
use Rattle.gb_laws.proofs.{points.Places.module-far, points.Places.place-is}
use Rattle.gb_laws.proofs.{runs.Runs.HoldsAtMoments, runs.Runs.at_each}
use Rattle.gb_laws.proofs.{points.Silent.silent-quiet, steps.Steps.over-step}

-- A request that ends as answered does so on its live connection, and where that is clean its reply
-- was told before.
pub record WasAnswered (m : Moment) (b : Bus) (n result : ℕ) (payload : List ℕ) : Type 0 where
  pub request : Request
  pub made : request_of n b ≡ Some request
  pub connection : Connection
  pub live : connection_of request.connection m.before.bus ≡ Some connection
  pub replied : connection.clean ≡ true
      → IsAnsweredByNumber m connection n request result payload

-- an entry tells an answer that had its reply, or none
abbrev IsFine : Moment → Bus → Entry → Type 0
IsFine m b (entry.Ended n (outcome.Answered result payload) read) = WasAnswered m b n result payload
IsFine m b _ = Unit {0}

fine-more : (m : Moment) (b after : Bus) (e : Entry) → KeepsRequests b after → IsFine m b e
    → IsFine m after e
fine-more m b after (entry.Ended n (outcome.Answered result payload) read) keeps h = record {
  request = h.request;
  made = keeps n h.request h.made;
  connection = h.connection;
  live = h.live;
  replied = h.replied;
}
fine-more m b after (entry.Ended n outcome.Cancelled read) keeps h = tt
fine-more m b after (entry.Ended n outcome.Timeout read) keeps h = tt
fine-more m b after (entry.Ended n outcome.Disconnected read) keeps h = tt
fine-more m b after (entry.Ended n outcome.Sent read) keeps h = tt
fine-more m b after entry.Done keeps h = tt
fine-more m b after _ keeps h = tt

quiet-fine : (m : Moment) (b : Bus) (e : Entry) → is_quiet e ≡ true → IsFine m b e
quiet-fine m b (entry.Ended n how read) quiet = absurd cc
quiet-fine m b entry.Done quiet = tt
quiet-fine m b _ quiet = tt

quiet-all-fine : (m : Moment) (b : Bus) (es : List Entry) → AreQuiet es → Each (IsFine m b) es
quiet-all-fine m b [] h = tt
quiet-all-fine m b (e ∷ es) h = (quiet-fine m b e h.0, quiet-all-fine m b es h.1)

ended-fine : (m : Moment) (b : Bus) (ns : List ℕ) → Each (IsFine m b) (map disconnected_told ns)
ended-fine m b [] = tt
ended-fine m b (n ∷ ns) = (tt, ended-fine m b ns)

-- what waits toward a side of a connection, and what is held there
in-queue : (s : State) (c : Connection) (at : Side) (item : Item) → IsIn item (queue at c)
    → IsIn item (items_of c s)
in-queue s c side.Ap item i = in-front item c.to_ap _ i
in-queue s c side.Far item i = in-behind item c.to_ap _ (in-front item c.to_far _ i)

in-map-items : (h : Held) (hs : List Held) → IsIn h hs
    → IsIn h.item (map (λ (x : Held). x.item) hs)
in-map-items h (k ∷ ks) (inl e) = inl (ap (λ (x : Held). x.item) e)
in-map-items h (k ∷ ks) (inr i) = inr (in-map-items h ks i)
in-map-items h [] i = absurd i

in-held : (s : State) (c : Connection) (h : Held) → IsIn h (held_on c.number s.held)
    → IsIn h.item (items_of c s)
in-held s c h i =
    in-behind h.item c.to_ap _ (in-behind h.item c.to_far _
    (in-map-items h (held_on c.number s.held) i))

-- What is being handled was taken at this moment from its connection.
record IsFresh (m : Moment) (x : Hand) : Type 0 where
  live : connection_of x.connection.number m.before.bus ≡ Some x.connection
  own : IsOwnItem m.told m.before.bus x.connection x.side x.item
  waits : IsIn x.item (items_of x.connection m.before)

-- what was told at the moment so far is fine
record IsSoFar (m : Moment) (a : Point) : Type 0 where
  new : List Entry
  told : a.told ≡ m.told ++ new
  fine : Each (IsFine m a.state.bus) new
  hand : (x : Hand) → a.hand ≡ Some x → IsFresh m x
  grown : KeepsRequests m.before.bus a.state.bus

-- more is told, and it is fine
so-far : {m : Moment} {a : Point} (x : Change m a) (es : List Entry)
    → (changed m a x).told ≡ a.told ++ es → Each (IsFine m (changed m a x).state.bus) es
    → ((y : Hand) → (changed m a x).hand ≡ Some y → IsFresh m y)
    → IsSoFar m a → IsSoFar m (changed m a x)
so-far {m} {a} x es told fine hand h = record {
  new = h.new ++ es;
  told = told ∙ ap (λ l. l ++ es) h.told ∙ append_assoc m.told h.new es;
  fine = each-append (IsFine m (changed m a x).state.bus) h.new es
      (each-weaker (IsFine m a.state.bus) (IsFine m (changed m a x).state.bus) h.new
      (λ e. fine-more m a.state.bus (changed m a x).state.bus e (keeps-requests m a x)) h.fine)
      fine;
  hand = hand;
  grown = λ n r made. keeps-requests m a x n r (h.grown n r made);
}

-- an answer is its responder's
answered-fine : (m : Moment) {b : Bus} (after : Bus) (x : Hand) (n result : ℕ) (payload : List ℕ)
    → IsFresh m x → KeepsRequests m.before.bus after
    → ((k : ℕ) (r : Request) → request_of k b ≡ Some r → request_of k after ≡ Some r)
    → Says x n result payload → Answers x n b
    → WasAnswered m after n result (cond (result == 0) payload [])
answered-fine m {b} after x n result payload fresh grown keeps says (by_label label dirty is) =
    let o = open_with-in_use x.connection.number x.side label b n is in
    let p = both-true (is_of x.connection.number x.side o.0) (o.0.label == label) o.2 in
    let q = is_of-is x.connection.number x.side o.0 p.0 in record {
      request = o.0;
      made = keeps n o.0 o.1;
      connection = x.connection;
      live = ap (λ k. connection_of k m.before.bus) q.0 ∙ fresh.live;
      replied = λ clean. absurd (not-both x.connection.clean clean dirty);
    }
answered-fine m after x n result payload fresh grown keeps (unclean dirty)
    (by_number r p is clean open_) =
    absurd (not-both x.connection.clean clean dirty)
answered-fine m after x n result payload fresh grown keeps (numbered says)
    (by_number r p is clean open_) =
    by (subst (λ i. IsOwnItem m.told m.before.bus x.connection x.side i) says fresh.own)
    (subst (λ i. IsIn i (items_of x.connection m.before)) says fresh.waits)
  where
    by : IsOwnItem m.told m.before.bus x.connection x.side (Reply n result payload)
        → IsIn (Reply n result payload) (items_of x.connection m.before)
        → WasAnswered m after n result (cond (result == 0) payload [])
    by own waits = record {
      request = own.0;
      made = grown n own.0 own.1;
      connection = x.connection;
      live = ap (λ k. connection_of k m.before.bus) own.2 ∙ fresh.live;
      replied = λ clean. record {
        replied = record {
          sent = payload;
          said = subst (λ s. IsIn (entry.Replied (Some n) (end_of (other_side s) x.connection)
              (end_of s x.connection) result
              (message_size payload) (spelling (response own.0.label own.0.kind result payload)))
              m.told) (sym own.3) own.4;
          same = λ zero_result. sym (ap (λ k. cond (k == 0) payload []) zero_result);
        };
        waited = waits;
      };
    }

sent-fine : (m : Moment) (b : Bus) (d : Draft) (c : Connection) (label : ℕ) (old : Bus)
    → Each (IsFine m b) (asked_told d c label old)
sent-fine m b d c label old = (tt, by d.oneway)
  where
    by : (t : Bool) → Each (IsFine m b) (sent_told t (next_number old))
    by true = (tt, tt)
    by false = tt

given_up-fine : (m : Moment) (s : State) (b : Bus) (n : ℕ) (how : Outcome) → IsGivenUpFor m s how n
    → IsFine m b (entry.Ended n how reading.Nothing)
given_up-fine m s b n (outcome.Answered result payload) cause = absurd cause
given_up-fine m s b n _ cause = tt

so-far-kept : (m : Moment) (start : OwnAt m.told m.before) (a : Point) (x : Change m a)
    → IsSoFar m a → IsSoFar m (changed m a x)
so-far-kept m start a (tells e quiet) h = so-far (tells e quiet) (e ∷ []) refl
    (quiet-fine m a.state.bus e (silent-quiet e quiet), tt) h.hand h
so-far-kept m start a (asks d c label free live drawn who) h =
    so-far (asks d c label free live drawn who) (asked_told d c label a.state.bus) refl
    (sent-fine m _ d c label a.state.bus) h.hand h
so-far-kept m start a (names name d c label free live drawn host) h =
    so-far (names name d c label free live drawn host) (asked_told d c label a.state.bus) refl
    (sent-fine m _ d c label a.state.bus) h.hand h
so-far-kept m start a (takes at p item free is event_is named front) h =
    so-far (takes at p item free is event_is named front) [] refl tt
    (λ y e. subst (IsFresh m) (same-some
    (record { connection = p.connection; side = p.side; item = item }) y e) fresh) h
  where
    fresh : IsFresh m (record { connection = p.connection; side = p.side; item = item })
    fresh = let place = place-is at m.before.bus.connections p named in record {
      live = found-by_number m.before.bus.connections p.connection start.0.bus.numbers.rise
          place.live;
      own = start.1.waiting p.connection p.side item place.live
          (first-in (queue p.side p.connection) item front);
      waits = in-queue m.before p.connection p.side item
          (first-in (queue p.side p.connection) item front);
    }
so-far-kept m start a (takes_held i c place p x free is event_is at held) h =
    so-far (takes_held i c place p x free is event_is at held) [] refl tt
    (λ y e. subst (IsFresh m) (same-some
    (record { connection = p.connection; side = p.side; item = x.item }) y e) fresh) h
  where
    fresh : IsFresh m (record { connection = p.connection; side = p.side; item = x.item })
    fresh =
        let q = place-is (end.Module i c) m.before.bus.connections p at in
        let on = held-at p.connection.number place m.before.held x held in record {
          live = found-by_number m.before.bus.connections p.connection start.0.bus.numbers.rise
              q.live;
          own = subst (λ s. IsOwnItem m.told m.before.bus p.connection s x.item)
              (sym (module-far i c p.side p.connection q.is))
              (start.1.hanging p.connection (loose_held x) q.live (map-held-in x m.before.held on.0)
              (sym on.1));
          waits = in-held m.before p.connection x
              (in-nth place (held_on p.connection.number m.before.held) x held);
        }
so-far-kept m start a drops h =
    so-far drops [] (sym (append-nil a.told)) tt (λ y e. absurd (none-some e)) h
so-far-kept m start a (holds x is far) h =
    so-far (holds x is far) [] refl tt (λ y e. absurd (none-some e)) h
so-far-kept m start a (replies x q r is made twoway) h =
    so-far (replies x q r is made twoway) (_ ∷ []) refl (tt, tt) (λ y e. absurd (none-some e)) h
so-far-kept m start a (answers x n result payload is says which) h =
    so-far (answers x n result payload is says which) (_ ∷ []) refl (
      answered-fine m _ x n result payload (h.hand x is) h.grown (λ k r made. made) says which,
      tt,
    ) (λ y e. absurd (none-some e)) h
so-far-kept m start a (forgets x n is which) h =
    so-far (forgets x n is which) [] refl tt (λ y e. absurd (none-some e)) h
so-far-kept m start a (gives_up n how free open_ cause) h =
    so-far (gives_up n how free open_ cause) (_ ∷ []) refl
    (given_up-fine m a.state _ n how cause, tt) h.hand h
so-far-kept m start a (unwires k free before live) h =
    so-far (unwires k free before live) _ refl (ended-fine m _ (open_on k side.Far a.state.bus))
    h.hand h
so-far-kept m start a (injects i c p bytes free named) h =
    so-far (injects i c p bytes free named) (_ ∷ []) refl (tt, tt) h.hand h
so-far-kept m start a (acts_told e rest is quiet) h =
    so-far (acts_told e rest is quiet) (e ∷ []) refl (quiet-fine m a.state.bus e quiet, tt) h.hand h
so-far-kept m start a (acts_shut k rest free is cause) h =
    so-far (acts_shut k rest free is cause) _ refl
    (ended-fine m _ (open_on k side.Ap a.state.bus)) h.hand h
so-far-kept m start a (acts_made w q rest free is) h =
    so-far (acts_made w q rest free is) (_ ∷ []) refl (tt, tt) h.hand h
so-far-kept m start a (acts_failed q rest is quiet) h =
    so-far (acts_failed q rest is quiet) _ refl (quiet-all-fine m _ _ quiet) h.hand h
so-far-kept m start a x h =
    so-far x [] refl tt h.hand h

-- ---- the law

abbrev answered_law : (m : Moment) → OwnAt m.told m.before → Law m
answered_law m start = upon (basis m) (IsSoFar m) (λ a x g h. so-far-kept m start a x h)

pub same-rest : (front xs ys : List Entry) → front ++ xs ≡ front ++ ys → xs ≡ ys
same-rest [] xs ys e = e
same-rest (f ∷ fs) xs ys e = same-rest fs xs ys (same-tail f (fs ++ xs) (fs ++ ys) e)
  where
    same-tail : (x : Entry) (ys zs : List Entry) → x ∷ ys ≡ x ∷ zs → ys ≡ zs
    same-tail x ys zs e = cc

had-reply : (m : Moment) → IsMoment m.event → OwnAt m.told m.before → HadItsReply m
had-reply m one start n result payload read r i made =
    let end_law = over-step m (answered_law m start) one (
      start.0,
      record {
        new = [];
        told = sym (append-nil m.told);
        fine = tt;
        hand = λ x e. absurd (none-some e);
        grown = λ k q h. h;
      },
    ) in
    let h = end_law.1.1 in
    let fine : WasAnswered m (after m).bus n result payload =
    each-in (IsFine m (after m).bus) h.new (entry.Ended n (outcome.Answered result payload) read)
    h.fine (subst (IsIn (entry.Ended n (outcome.Answered result payload) read))
    (same-rest m.told (told_at m) h.new h.told) i) in
    by fine
  where
    by : WasAnswered m (after m).bus n result payload
        → (c : Connection) × (connection_of r.connection m.before.bus ≡ Some c)
        × (c.clean ≡ true → IsAnsweredByNumber m c n r result payload)
    by fine =
        let same = same-some fine.request r (sym fine.made ∙ made) in (
          fine.connection,
          ap (λ (q : Request). connection_of q.connection m.before.bus) (sym same) ∙ fine.live,
          λ clean. subst (λ q. IsAnsweredByNumber m fine.connection n q result payload) same
              (fine.replied clean),
        )

-- On a clean connection a request is answered by what its own responder replied.
pub answered-at_moments : HoldsAtMoments HadItsReply
answered-at_moments = at_each OwnAt HadItsReply own-throughout had-reply
