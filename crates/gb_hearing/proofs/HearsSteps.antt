-- What is known of the messages that are heard of a connection goes over the step of an event,
-- where no response to the application processor is taken there, and over what follows one.
use Rattle.std.proofs.Common.{◌≡◌, ℕ, true, false, Some, None, List, [], inl, refl}
use Rattle.std.proofs.Common.{sym, ap, ◌∙◌, append-nil, drop, length, map, subst, ◌==◌}
use Rattle.std.proofs.Math.Seq.{drop-append_seam}
use Rattle.gb_base.specs.declared.end.End.{End}
use Rattle.gb_base.specs.declared.end.End.TheVariants as end
use Rattle.gb_base.specs.declared.end.Side.TheVariants as side
use Rattle.gb_base.specs.declared.event.Event.TheVariants as event
use Rattle.gb_hearing.specs.Hearing.{Spoken, asked, heard_asked}
use Rattle.gb_hearing.proofs.Findings.{onto}
use Rattle.gb_hearing.proofs.Hears.{Hears, IsAsked}
use Rattle.gb_hearing.proofs.HearsPoints.{HearsIn, IsAway, IsEnded, ended-kept, hears-kept}
use Rattle.gb_invariants.proofs.Awaiting.{is_of-is, not-both, same-some}
use Rattle.gb_invariants.proofs.Drawing.{given_up_with-is, open_with-in_use}
use Rattle.gb_invariants.proofs.Outcomes.{both-true}
use Rattle.gb_invariants.proofs.Selves.{ap-no-far}
use Rattle.gb_invariants.specs.Facts.{IsOwn, Loose}
use Rattle.gb_laws.proofs.runs.Midway.{known-held, known-resting, known_law}
use Rattle.gb_laws.proofs.points.Places.{module-far, place-is}
use Rattle.gb_laws.proofs.points.PointParts.{Basis, Hand, Point, loose_hand, loose_held}
use Rattle.gb_laws.proofs.points.Points.{Answers, Change, Forgets, Law, answers, by_label}
use Rattle.gb_laws.proofs.points.Points.{by_number}
use Rattle.gb_laws.proofs.points.Points.{changed, drops, forgets, holds, replies, takes, takes_held}
use Rattle.gb_laws.proofs.points.Points.{upon}
use Rattle.gb_laws.proofs.steps.Steps.{over-step}
use Rattle.gb_machine.specs.Bus.{Bus, Item, Place, Reply, Request, place_of, queue, request_of}
use Rattle.gb_machine.specs.LawsBus.{is_awaited}
use Rattle.gb_machine.specs.Lists.{first}
use Rattle.gb_machine.specs.Members.{IsIn}
use Rattle.gb_machine.specs.Reached.{OfARun}
use Rattle.gb_machine.specs.Requests.{has_label, is_of}
use Rattle.gb_machine.specs.Runs.{IsMoment, Moment, after}
use Rattle.gb_machine.specs.State.{State}

-- What is in hand is no response to the application processor on connection k, and where it came to
-- that, the connection was clean.
pub record IsApart (k : ℕ) (h : Hand) : Type 0 where
  pub unanswered : h.side ≡ side.Ap → h.connection.number ≡ k → (n result : ℕ) (payload : List ℕ)
      → h.item ≡ Reply n result payload → ⊥
  pub clean : h.side ≡ side.Ap → h.connection.number ≡ k → h.connection.clean ≡ true

-- what is delivered at a moment is so
abbrev pub TakesApart : ℕ → Moment → Type 0
TakesApart k m =
    (at : End) (p : Place) (item : Item) → m.event ≡ event.Deliver at
    → place_of at m.before.bus.connections ≡ Some p
    → first (queue p.side p.connection) ≡ Some item
    → IsApart k (record { connection = p.connection; side = p.side; item = item })

-- what is in hand at a point is so
abbrev pub IsApartAt : ℕ → Point → Type 0
IsApartAt k a = (h : Hand) → a.hand ≡ Some h → IsApart k h

-- ---- hands

pub none-hand : (h : Hand) → None ≡ Some h → ⊥
none-hand h e = absurd cc

pub apart-kept : (m : Moment) (k : ℕ) (a : Point) → (a.state ≡ m.before → TakesApart k m)
    → (x : Change m a) → IsApartAt k a → IsApartAt k (changed m a x)
apart-kept m k a apart (takes at p item free start is named front) h x e =
    subst (IsApart k)
    (same-some (record { connection = p.connection; side = p.side; item = item }) x e)
    (apart start at p item is named front)
apart-kept m k a apart (takes_held i c place p held free start is named there) h x e =
    subst (IsApart k) (same-some (record {
      connection = p.connection;
      side = p.side;
      item = held.item;
    }) x e) (record {
      unanswered = λ ap_side on n result payload f. far ap_side;
      clean = λ ap_side on. absurd (far ap_side);
    })
  where
    far : p.side ≡ side.Ap → ⊥
    far ap_side =
        let named_is = place-is (end.Module i c) m.before.bus.connections p named in
        ap-no-far (sym ap_side ∙ module-far i c p.side p.connection named_is.is)
apart-kept m k a apart drops h x e = absurd (none-hand x e)
apart-kept m k a apart (holds y is far) h x e = absurd (none-hand x e)
apart-kept m k a apart (replies y q r is made twoway) h x e = absurd (none-hand x e)
apart-kept m k a apart (answers y n result payload is says which) h x e = absurd (none-hand x e)
apart-kept m k a apart (forgets y n is which) h x e = absurd (none-hand x e)
apart-kept m k a apart _ h x e = h x e

-- a response in hand answers a request of its own side
own-reply : (a : Point) (h : Hand) (n result : ℕ) (payload : List ℕ) (r : Request) → Basis a
    → a.hand ≡ Some h → h.item ≡ Reply n result payload → request_of n a.state.bus ≡ Some r
    → (r.connection ≡ h.connection.number) × (r.side ≡ h.side)
own-reply a h n result payload r basis is item made =
    let l : Loose = record { connection = h.connection.number; side = h.side; item = h.item } in
    let own = subst (λ i. IsOwn a.state.bus h.connection.number h.side i) item
    (basis.bus.items.own_loose l
    (subst (λ o. IsIn l (loose_hand o (map loose_held a.state.held))) (sym is) (inl refl))) in
    let same = same-some own.0 r (sym own.1 ∙ made) in (
      ap (λ (q : Request). q.connection) (sym same) ∙ own.2,
      ap (λ (q : Request). q.side) (sym same) ∙ own.3,
    )

-- a request with an identifier of a side is of that side
labelled : (k : ℕ) (at : _) (label : ℕ) (q : Request) → has_label k at label q ≡ true
    → (q.connection ≡ k) × (at ≡ q.side)
labelled k at label q h = is_of-is k at q (both-true (is_of k at q) (q.label == label) h).0

answers-away : (k : ℕ) (a : Point) (h : Hand) (n : ℕ) → Basis a → IsApart k h → a.hand ≡ Some h
    → Answers h n a.state.bus → (r : Request) → IsAsked k n r a.state.bus → ⊥
answers-away k a h n basis apart is (by_number result payload item clean unended) r asked_is =
    let own = own-reply a h n result payload r basis is item asked_is.made in
    apart.unanswered (sym own.1 ∙ asked_is.by) (sym own.0 ∙ asked_is.on) n result payload item
answers-away k a h n basis apart is (by_label label dirty found) r asked_is =
    let w = open_with-in_use h.connection.number h.side label a.state.bus n found in
    let q = labelled h.connection.number h.side label w.0 w.2 in
    let same = same-some w.0 r (sym w.1 ∙ asked_is.made) in
    not-both h.connection.clean
    (apart.clean (q.1 ∙ ap (λ (x : Request). x.side) same ∙ asked_is.by)
    (sym q.0 ∙ ap (λ (x : Request). x.connection) same ∙ asked_is.on)) dirty

forgets-away : (k : ℕ) (a : Point) (h : Hand) (n : ℕ) → Basis a → IsApart k h → a.hand ≡ Some h
    → Forgets h n a.state.bus → (r : Request) → IsAsked k n r a.state.bus → ⊥
forgets-away k a h n basis apart is (by_number result payload item clean) r asked_is =
    let own = own-reply a h n result payload r basis is item asked_is.made in
    apart.unanswered (sym own.1 ∙ asked_is.by) (sym own.0 ∙ asked_is.on) n result payload item
forgets-away k a h n basis apart is (by_label label dirty found) r asked_is =
    let w = (given_up_with-is h.connection.number h.side label a.state.bus n found).1 in
    let q = labelled h.connection.number h.side label w.0 w.2 in
    let same = same-some w.0 r (sym w.1 ∙ asked_is.made) in
    not-both h.connection.clean
    (apart.clean (q.1 ∙ ap (λ (x : Request). x.side) same ∙ asked_is.by)
    (sym q.0 ∙ ap (λ (x : Request). x.connection) same ∙ asked_is.on)) dirty

pub away : (m : Moment) (k : ℕ) (a : Point) (x : Change m a) → Basis a → IsApartAt k a
    → IsAway m k a x
away m k a (answers h n result payload is says which) basis apart =
    answers-away k a h n basis (apart h is) is which
away m k a (forgets h n is which) basis apart = forgets-away k a h n basis (apart h is) is which
away m k a _ basis apart = tt

-- ---- over a step

module _ (m : Moment) (run : OfARun m.before) (k : ℕ) (start : List Spoken) where
  abbrev hears_law : TakesApart k m → Law m
  hears_law apart = upon (known_law m run)
      (λ a. IsApartAt k a × HearsIn m.before.bus.requests k start a.state.bus)
      (λ a x g h. (
        apart-kept m k a (λ start. apart) x h.0,
        hears-kept m k start a x (known-held m run a g)
            (away m k a x (known-held m run a g).basis h.0) h.1,
      ))

  -- behind the end of a request that was awaited before, where nothing is taken any more
  abbrev pub behind_law : (n : ℕ) → is_awaited n m.before.bus ≡ true → Law m
  behind_law n waits = upon (known_law m run)
      (λ a. IsApartAt k a × HearsIn m.before.bus.requests k start a.state.bus
      × IsEnded n a.state.bus) (λ a x g h. (
        apart-kept m k a (λ same. absurd (not-both (is_awaited n m.before.bus) waits
            (subst (λ (s : State). is_awaited n s.bus ≡ false) same h.2.ended))) x h.0,
        hears-kept m k start a x (known-held m run a g)
            (away m k a x (known-held m run a g).basis h.0) h.1,
        ended-kept m n a x (known-held m run a g) h.2,
      ))

  -- what was heard first, where no more was asked
  pub hears-first : (b : Bus) → b.requests ≡ m.before.bus.requests → Hears k b start
      → HearsIn m.before.bus.requests k start b
  hears-first b same h =
      record { news = []; grown = same ∙ sym (append-nil m.before.bus.requests); hears = h }

  -- and with what was asked
  pub hears-then : (b : Bus) → HearsIn m.before.bus.requests k start b
      → Hears k b (onto start (heard_asked k m.before.bus b))
  hears-then b h = subst (λ rs. Hears k b (onto start (asked k rs)))
      (sym (ap (drop (length m.before.bus.requests)) h.grown
      ∙ drop-append_seam m.before.bus.requests h.news)) h.hears

  -- Where no response to the application processor is taken on connection k.
  pub hears-over : IsMoment m.event → TakesApart k m → Hears k m.before.bus start
      → Hears k (after m).bus (onto start (heard_asked k m.before.bus (after m).bus))
  hears-over one apart h = hears-then (after m).bus (over-step m (hears_law apart) one (
    known-resting m run,
    (λ x e. absurd (none-hand x e), hears-first m.before.bus refl h),
  )).1.1.1
