-- What is known of the messages that are heard of a connection is kept by each moment before which
-- it is clean.
use Rattle.std.proofs.Common.{◌≡◌, ℕ, ◌==◌, ◌&&◌, Bool, true, false, Option, Some, None, List, []}
use Rattle.std.proofs.Common.{◌∷◌, ◌++◌, refl, sym, ap, ◌∙◌, subst, cond, option_map, arith}
use Rattle.std.proofs.lemmas.Bool.Decides.{nat_tests}
use Rattle.gb_base.specs.declared.end.End.{End}
use Rattle.gb_base.specs.declared.end.Side.TheVariants as side
use Rattle.gb_base.specs.declared.event.Event.{Event}
use Rattle.gb_base.specs.declared.event.Event.TheVariants as event
use Rattle.gb_hearing.specs.Hearing.{IsClean, IsCleanAs, Spoken, answer_message, answers}
use Rattle.gb_hearing.specs.Hearing.{heard_asked}
use Rattle.gb_hearing.specs.Hearing.{heard_at, heard_at_place, heard_of, heard_of_first}
use Rattle.gb_hearing.specs.Hearing.{heard_taken, request_message}
use Rattle.gb_hearing.specs.Hearing.{response_message, taken}
use Rattle.gb_hearing.proofs.Findings.{onto, onto-append}
use Rattle.gb_hearing.proofs.Hears.{Hears}
use Rattle.gb_hearing.proofs.HearsReplies.{hears-dropped, hears-replied}
use Rattle.gb_hearing.proofs.HearsSteps.{IsApart, TakesApart, hears-over}
use Rattle.gb_hearing.proofs.HearsTaken.{hears-pair, hears-plain}
use Rattle.gb_invariants.proofs.Awaiting.{none-some, not-both, same-some, side-is}
use Rattle.gb_invariants.proofs.ItemChanges.{first-in}
use Rattle.gb_invariants.proofs.Lists.{each-in}
use Rattle.gb_invariants.proofs.Outcomes.{both-true, is-same, same-number}
use Rattle.gb_invariants.proofs.Selves.{far-no-ap}
use Rattle.gb_invariants.specs.Facts.{IsAnswerable, IsOwn, is_numbered}
use Rattle.gb_laws.proofs.identifiers.LowRequests.{IsLow, reached-low}
use Rattle.gb_laws.proofs.runs.Midway.{KnownAt, known-held, known-resting}
use Rattle.gb_laws.proofs.points.Places.{place-is}
use Rattle.gb_laws.proofs.points.PointParts.{resting}
use Rattle.gb_laws.proofs.runs.OfStates.{reached-has}
use Rattle.gb_laws.proofs.ends.Replies.{replies-by_moments}
use Rattle.gb_machine.specs.Arriving.{takes}
use Rattle.gb_machine.specs.Bus.{Ask, Item, Place, Raw, RawReply, Reply, Request}
use Rattle.gb_machine.specs.Bus.{other_side, place_of, queue, request_of}
use Rattle.gb_machine.specs.Incoming.{incoming}
use Rattle.gb_machine.specs.LawsBus.{AreAwaited}
use Rattle.gb_machine.specs.Lists.{first}
use Rattle.gb_machine.specs.Members.{Each, IsIn}
use Rattle.gb_machine.specs.Reached.{OfARun}
use Rattle.gb_machine.specs.Requests.{same_side}
use Rattle.gb_machine.specs.Runs.{IsMoment, Moment, after}

same-end : (a b : End) → event.Deliver a ≡ event.Deliver b → a ≡ b
same-end a b e = cc

no-item : {item : Item} → None ≡ Some item → ⊥
no-item e = absurd cc

module _ (m : Moment) (run : OfARun m.before) (one : IsMoment m.event) (k : ℕ)
    (clean : IsClean k m.before) (past : List Spoken) (h : Hears k m.before.bus past) where
  -- what is to be shown, where this was taken
  abbrev Then : List Spoken → Type 0
  Then xs =
      Hears k (after m).bus (onto (onto past xs) (heard_asked k m.before.bus (after m).bus))

  known : KnownAt (resting m.told m.before)
  known = known-held m run (resting m.told m.before) (known-resting m run)

  -- nothing is delivered
  elsewhere : ((at : End) → m.event ≡ event.Deliver at → ⊥) → Then []
  elsewhere other = hears-over m run k past one (λ at p item is named front. absurd (other at is)) h

  module _ (at : End) (is : m.event ≡ event.Deliver at) where
    -- no place is there
    nowhere : place_of at m.before.bus.connections ≡ None → Then []
    nowhere none = hears-over m run k past one (λ to p item e named front. absurd (none-some
        (sym none ∙ ap (λ x. place_of x m.before.bus.connections) (same-end at to (sym is ∙ e))
        ∙ named))) h

    module _ (p : Place) (named : place_of at m.before.bus.connections ≡ Some p) where
      -- what is delivered at a moment is the first item at this place
      only : (to : End) (q : Place) → m.event ≡ event.Deliver to
          → place_of to m.before.bus.connections ≡ Some q → p ≡ q
      only to q e f = same-some p q (sym named
          ∙ ap (λ x. place_of x m.before.bus.connections) (same-end at to (sym is ∙ e)) ∙ f)

      apart-by : ((item : Item) → first (queue p.side p.connection) ≡ Some item
          → IsApart k (record { connection = p.connection; side = p.side; item = item }))
          → TakesApart k m
      apart-by f to q item e g front = subst
          (λ x. first (queue x.side x.connection) ≡ Some item
          → IsApart k (record { connection = x.connection; side = x.side; item = item }))
          (only to q e g) (f item) front

      -- the queue is empty
      empty : first (queue p.side p.connection) ≡ None → (start : List Spoken)
          → Hears k m.before.bus start
          → Hears k (after m).bus (onto start (heard_asked k m.before.bus (after m).bus))
      empty none start g = hears-over m run k start one
          (apart-by (λ item front. absurd (no-item (sym none ∙ front)))) g

      -- the place is another
      other : (same_side p.side side.Ap && p.connection.number == k) ≡ false → Then []
      other out = hears-over m run k past one (apart-by (λ item front. record {
        unanswered = λ ap_side on n result payload f. out-of ap_side on;
        clean = λ ap_side on. absurd (out-of ap_side on);
      })) h
        where
          out-of : p.side ≡ side.Ap → p.connection.number ≡ k → ⊥
          out-of ap_side on =
              not-both (same_side p.side side.Ap && p.connection.number == k)
              (ap (λ s. same_side s side.Ap && p.connection.number == k) ap_side
              ∙ ap (λ n. n == k) on ∙ is-same k) out

      -- the application processor's on connection k
      module _ (ap_side : p.side ≡ side.Ap) (on : p.connection.number ≡ k) where
        live : IsIn p.connection m.before.bus.connections
        live = (place-is at m.before.bus.connections p named).live

        is-clean : p.connection.clean ≡ true
        is-clean = each-in (IsCleanAs k) m.before.bus.connections p.connection clean live on

        waiting : (item : Item) → first (queue p.side p.connection) ≡ Some item
            → IsIn item (queue p.side p.connection)
        waiting item front = first-in (queue p.side p.connection) item front

        own : (item : Item) → first (queue p.side p.connection) ≡ Some item
            → IsOwn m.before.bus p.connection.number p.side item
        own item front =
            known.basis.bus.items.own p.connection p.side item live (waiting item front)

        answerable : (item : Item) → first (queue p.side p.connection) ≡ Some item
            → IsAnswerable m.before.bus p.connection p.side item
        answerable item front =
            known.basis.bus.items.answerable p.connection p.side item live (waiting item front)

        -- raw bytes are on unclean connections alone
        unraw : (item : Item) → first (queue p.side p.connection) ≡ Some item
            → is_numbered item ≡ false → ⊥
        unraw item front raw =
            not-both (is_numbered item) ((answerable item front).numbered is-clean) raw

        -- a request is taken
        over-ask : (n : ℕ) → first (queue p.side p.connection) ≡ Some (Ask n)
            → (start : List Spoken) → Hears k m.before.bus start
            → Hears k (after m).bus (onto start (heard_asked k m.before.bus (after m).bus))
        over-ask n front start g = hears-over m run k start one (apart-by (λ item f. record {
          unanswered = λ a b j result payload e. apart n j result payload
              (same-some (Ask n) item (sym front ∙ f) ∙ e);
          clean = λ a b. is-clean;
        })) g
          where
            apart : (n j result : ℕ) (payload : List ℕ) → Ask n ≡ Reply j result payload → ⊥
            apart n j result payload e = absurd cc

        asks : (n : ℕ) → first (queue p.side p.connection) ≡ Some (Ask n)
            → Then (heard_of k m.before (Ask n))
        asks n front =
            let made = own (Ask n) front in
            let r = made.0 in
            subst (λ o. Then (taken (option_map request_message o)
            ++ answers k m.before.host (option_map (incoming n) o))) (sym made.1)
            (by r made.1 (reached-low m.before run n r made.1) r.oneway refl)
          where
            label : (r : Request) → request_of n m.before.bus ≡ Some r → r.oneway ≡ false
                → (r.label == 0) ≡ false
            label r made twoway =
                let awaited = (answerable (Ask n) front).due is-clean
                (λ e. absurd (far-no-ap (ap other_side (sym ap_side) ∙ e))) r made twoway in
                let least = (known.basis.bus.labels.range n r made awaited).0 in
                grind (arith, nat_tests, least)

            by : (r : Request) → request_of n m.before.bus ≡ Some r → IsLow r → (t : Bool)
                → r.oneway ≡ t
                → Then ((false, request_message r)
                ∷ cond t [] ((true, answer_message k m.before.host (incoming n r)) ∷ []))
            by r made low true e = over-ask n front ((false, request_message r) ∷ past)
                (hears-plain r.label r.kind r.payload low.kind (low.label e) h)
            by r made low false e =
                over-ask n front ((true, answer_message k m.before.host (incoming n r))
                ∷ (false, request_message r) ∷ past)
                (hears-pair r.label r.kind r.payload _ _ low.kind (label r made e) h)

        -- a response is taken
        replies : (n result : ℕ) (payload : List ℕ)
            → first (queue p.side p.connection) ≡ Some (Reply n result payload)
            → takes p.side p.connection m.before ≡ true
            → Then (heard_of k m.before (Reply n result payload))
        replies n result payload front hears_ =
            let made = own (Reply n result payload) front in
            let r = made.0 in
            subst (λ o. Then (taken (option_map (response_message result payload) o) ++ []))
            (sym made.1)
            (hears-replied m run k at is p named ap_side n result payload r
            (record { made = made.1; on = made.2 ∙ on; by = made.3 ∙ ap_side })
            ((answerable (Reply n result payload) front).due is-clean (λ e. open_)) front hears_
            is-clean h)
          where
            awaited : AreAwaited m.before p.connection
            awaited = each-in (AreAwaited m.before) m.before.bus.connections p.connection
                (reached-has (λ s. Each (AreAwaited s) s.bus.connections) replies-by_moments
                m.before run) live

            open_ : p.connection.shut ≡ false
            open_ = by p.connection.shut refl
              where
                by : (t : Bool) → p.connection.shut ≡ t → t ≡ false
                by false e = refl
                by true e = absurd (not-both (takes side.Ap p.connection m.before)
                    (ap (λ s. takes s p.connection m.before) (sym ap_side) ∙ hears_)
                    (awaited.shut e))

        item-taken : (item : Item) → first (queue p.side p.connection) ≡ Some item
            → takes p.side p.connection m.before ≡ true → Then (heard_of k m.before item)
        item-taken (Ask n) front hears_ = asks n front
        item-taken (Reply n result payload) front hears_ = replies n result payload front hears_
        item-taken (Raw bytes) front hears_ = absurd (unraw (Raw bytes) front refl)
        item-taken (RawReply label kind result payload) front hears_ =
            absurd (unraw (RawReply label kind result payload) front refl)

        here : (t : Bool) → takes p.side p.connection m.before ≡ t
            → (o : Option Item) → first (queue p.side p.connection) ≡ o
            → Then (cond t (heard_of_first k m.before o) [])
        here true e None f = empty f past h
        here true e (Some item) f = item-taken item f e
        here false e None f = empty f past h
        here false e (Some item) f = hears-dropped m run k at is p named ap_side item f e h

      at-place : (u : Bool) → (same_side p.side side.Ap && p.connection.number == k) ≡ u
          → Then (cond (u && takes p.side p.connection m.before)
          (heard_of_first k m.before (first (queue p.side p.connection))) [])
      at-place false e = other e
      at-place true e =
          let b = both-true (same_side p.side side.Ap) (p.connection.number == k) e in
          here (side-is p.side side.Ap b.0) (same-number p.connection.number k b.1)
          (takes p.side p.connection m.before) refl (first (queue p.side p.connection)) refl

    placed : (o : Option Place) → place_of at m.before.bus.connections ≡ o
        → Then (heard_at_place k m.before o)
    placed None e = nowhere e
    placed (Some p) e =
        at-place p e (same_side p.side side.Ap && p.connection.number == k) refl

  event-heard : (e : Event) → m.event ≡ e → Then (heard_taken k m.before e)
  event-heard (event.Deliver at) is = placed at is (place_of at m.before.bus.connections) refl
  event-heard e is = elsewhere (λ at f. absurd (let g = sym is ∙ f in cc))

  -- Over a moment.
  pub hears-moment : Hears k (after m).bus (onto past (heard_at k m))
  hears-moment = subst (Hears k (after m).bus)
      (sym (onto-append past (heard_taken k m.before m.event)
      (heard_asked k m.before.bus (after m).bus))) (event-heard m.event refl)
