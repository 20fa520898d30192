-- A law of points goes over deliveries, and over held requests that are answered.
use Rattle.std.proofs.Common.{Bool, List, None, Option, Some, ap, append_assoc, cond, false, inl}
use Rattle.std.proofs.Common.{refl, subst, sym, true, ℕ, [], ◌++◌, ◌∙◌, ◌≡◌}
use Rattle.std.specs.Prelude.{Err, Ok, Result, option_map}
use Rattle.gb_base.specs.declared.end.{End.End, Side.Side}
use Rattle.gb_base.specs.declared.end.End.TheVariants as end
use Rattle.gb_base.specs.declared.end.Side.TheVariants as side
use Rattle.gb_base.specs.declared.entry.Entry.{Entry}
use Rattle.gb_base.specs.declared.entry.Entry.TheVariants as entry
use Rattle.gb_base.specs.declared.event.Event.TheVariants as event
use Rattle.gb_base.specs.declared.reasons.RawFault.{RawFault}
use Rattle.gb_formats.specs.{Message.Message, Wire.raw_message}
use Rattle.gb_machine.proofs.Opened.{machine_opened}
use Rattle.gb_machine.specs.Actions.{given, nothing, on_bus, tell, ◌▸◌}
use Rattle.gb_machine.specs.Arriving.{arrives, asked_at, delivers, delivers_at, dropped, handles}
use Rattle.gb_machine.specs.Arriving.{raw_taken}
use Rattle.gb_machine.specs.Bus.{Ask, Connection, Item, Place, Raw, RawReply, Reply, Request}
use Rattle.gb_machine.specs.Bus.{end_of, place_of, queue, request_of}
use Rattle.gb_machine.specs.Incoming.{Incoming, incoming, incoming_raw, is_request, raw_request}
use Rattle.gb_machine.specs.Incoming.{request_in}
use Rattle.gb_machine.specs.LineActions.{answers as answering, answers_at, answers_held}
use Rattle.gb_machine.specs.LineActions.{serves_held, with_fewer}
use Rattle.gb_machine.specs.{Delivery.popped, Holding.held_on, Lists.first, Lists.nth}
use Rattle.gb_machine.specs.{Refusals.module_place, Responding.serves as serving, Runs.Moment}
use Rattle.gb_machine.specs.{State.Held, State.State}
use Rattle.gb_machine.specs.Arriving as arriving
use Rattle.gb_invariants.proofs.Awaiting.{not-both}
use Rattle.gb_invariants.specs.Facts.{is_numbered}
use Rattle.gb_laws.proofs.steps.Delivered.{IsTaken, answered, delivered}
use Rattle.gb_laws.proofs.points.PointParts.{Hand, Untouched, is_silent}
use Rattle.gb_laws.proofs.points.Points.{Law, takes, takes_held}
use Rattle.gb_laws.proofs.steps.Heard.{IsDelivered}
use Rattle.gb_laws.proofs.steps.StepMessages.{ends-asked, ends-by_label, ends-reply, ends-responds}
use Rattle.gb_laws.proofs.steps.StepMessages.{ends-told, ends-untold, hand_of}
use Rattle.gb_laws.proofs.{points.Places.module-far, points.Places.place-is}
use Rattle.gb_laws.proofs.{steps.DeliveredHands.request-popped, steps.ServedOn.IsAsBefore}
use Rattle.gb_laws.proofs.{steps.StepActLaws.acting, steps.StepActions.At}
use Rattle.gb_laws.proofs.{steps.StepActions.goes-nothing, steps.StepSvcServes.Ends}
use Rattle.gb_laws.proofs.{steps.StepSvcServes.ends-going}

module _ (m : Moment) (law : Law m) where
  -- ---- items

  -- raw bytes and the replies to them are on unclean connections alone
  unclean-hand : (h : Hand) (told : List Entry) (s : State)
      → At m (acting m law) (Some h) [] Untouched told s
      → is_numbered h.item ≡ false → h.connection.clean ≡ false
  unclean-hand h told s now raw = by h.connection.clean refl
    where
      by : (t : Bool) → h.connection.clean ≡ t → h.connection.clean ≡ false
      by false e = e
      by true e =
          let basis = law.basis _ now in
          let still = basis.hand h refl in
          let a = basis.bus.items.answerable_loose still.now
          (record { connection = h.connection.number; side = h.side; item = h.item })
          still.live (inl refl) still.self.number in
          absurd (not-both (is_numbered h.item) (a.numbered (still.self.clean ∙ e)) raw)

  ends-raw : (c : Connection) (at : Side) (bytes : List ℕ) (s : State) → IsAsBefore m s
      → IsDelivered m s (hand_of m law c at (Raw bytes))
      → ((q : Incoming) → request_in (Raw bytes) s.bus ≡ Some q → IsTaken m s c at q)
      → c.clean ≡ false → Ends m law (Some (hand_of m law c at (Raw bytes)))
      (raw_taken at c (Raw bytes) (raw_message bytes)) s
  unfolding machine_opened
  ends-raw c at bytes s same is taken dirty = by (raw_message bytes) refl
    where
      message : (x : Message) → raw_message bytes ≡ Ok x → (t : Bool) → is_request x ≡ t
          → Ends m law (Some (hand_of m law c at (Raw bytes)))
          (cond t (asked_at at c (Raw bytes) (incoming_raw x))
          (arriving.by_label at c x.id x.result x.payload)) s
      message x e false f =
          ends-by_label m law c at (Raw bytes) x.id x.result x.payload s is dirty
      message x e true f =
          let made : request_in (Raw bytes) s.bus ≡ Some (incoming_raw x) =
          ap raw_request e ∙ ap (λ t. cond t (Some (incoming_raw x)) None) f in
          ends-asked m law c at (Raw bytes) s same made (taken (incoming_raw x) made)

      by : (r : Result Message RawFault) → raw_message bytes ≡ r
          → Ends m law (Some (hand_of m law c at (Raw bytes))) (raw_taken at c (Raw bytes) r) s
      by (Err fault) e =
          ends-told m law (hand_of m law c at (Raw bytes)) (entry.BadRaw fault) s refl
      by (Ok x) e = message x e (is_request x) refl

  ends-arrives : (c : Connection) (at : Side) (item : Item) (s : State) → IsAsBefore m s
      → IsDelivered m s (hand_of m law c at item)
      → ((q : Incoming) → request_in item s.bus ≡ Some q → IsTaken m s c at q)
      → Ends m law (Some (hand_of m law c at item)) (arrives at c item) s
  unfolding machine_opened
  ends-arrives c at (Ask n) s same is taken = λ told now. by (request_of n s.bus) refl told now
    where
      by : (o : Option Request) → request_of n s.bus ≡ o
          → Ends m law (Some (hand_of m law c at (Ask n)))
          (given o (λ r. asked_at at c (Ask n) (incoming n r))) s
      by None e = ends-untold m law (hand_of m law c at (Ask n)) s
      by (Some r) e =
          let made : request_in (Ask n) s.bus ≡ Some (incoming n r) = ap (option_map (incoming n)) e
          in
          ends-asked m law c at (Ask n) s same made (taken (incoming n r) made)
  ends-arrives c at (Reply n result payload) s same is taken =
      ends-reply m law c at n result payload s is
  ends-arrives c at (Raw bytes) s same is taken = λ told now. ends-raw c at bytes s same is taken
      (unclean-hand (hand_of m law c at (Raw bytes)) told s now refl) told now
  ends-arrives c at (RawReply label kind result payload) s same is taken = λ told now.
      ends-by_label m law c at (RawReply label kind result payload) label result payload s is
      (unclean-hand (hand_of m law c at (RawReply label kind result payload)) told s now refl) told
      now

  quiet-dropped : (item : Item) → is_silent (dropped item) ≡ true
  quiet-dropped (Ask n) = refl
  quiet-dropped (Reply n result payload) = refl
  quiet-dropped (Raw bytes) = refl
  quiet-dropped (RawReply label kind result payload) = refl

  ends-handles : (c : Connection) (at : Side) (item : Item) {s : State} → IsAsBefore m s
      → IsDelivered m s (hand_of m law c at item)
      → ((q : Incoming) → request_in item s.bus ≡ Some q → IsTaken m s c at q)
      → Ends m law (Some (hand_of m law c at item)) (handles at c item) s
  unfolding machine_opened
  ends-handles c at item {s} same is taken = by (arriving.takes at c s)
    where
      by : (t : Bool) → Ends m law (Some (hand_of m law c at item))
          (cond t (arrives at c item) (tell (dropped item))) s
      by true = ends-arrives c at item s same is taken
      by false = ends-told m law (hand_of m law c at item) (dropped item) s (quiet-dropped item)

  -- ---- deliveries

  -- nothing is done
  pub ends-idle : {s : State} → Ends m law None nothing s
  ends-idle {s} = ends-going m law nothing (goes-nothing m (acting m law) None [] Untouched s)

  -- once the front item is taken
  pub ends-taken : (at : End) (p : Place) (item : Item) → m.event ≡ event.Deliver at
      → place_of at m.before.bus.connections ≡ Some p
      → first (queue p.side p.connection) ≡ Some item
      → Ends m law (Some (hand_of m law p.connection p.side item))
      (handles p.side p.connection item)
      (record m.before { bus = popped p.connection.number p.side m.before.bus })
  ends-taken at p item is e f =
      ends-handles p.connection p.side item (refl, refl)
      (record { at = at; event = is; named = e; front = f; from = refl })
      (λ q made. delivered at p item q is e f refl
      (sym (request-popped item p.connection.number p.side m.before.bus) ∙ made) refl)

  pub ends-delivers : (at : End) → m.event ≡ event.Deliver at
      → Ends m law None (delivers at) m.before
  unfolding machine_opened
  ends-delivers at is = by (place_of at m.before.bus.connections) refl
    where
      front : (p : Place) → place_of at m.before.bus.connections ≡ Some p → (o : Option Item)
          → first (queue p.side p.connection) ≡ o
          → Ends m law None (given o (λ item. on_bus (popped p.connection.number p.side) ▸ handles
          p.side p.connection item)) m.before
      front p e None f = ends-idle
      front p e (Some item) f = λ told now.
          let after = record m.before { bus = popped p.connection.number p.side m.before.bus } in
          let r = ends-taken at p item is e f (told ++ [])
          (law.kept _ (takes at p item refl refl is e f) now) in (
            r.0,
            subst (λ es. At m (acting m law) None [] r.0 es
                (handles p.side p.connection item after).state)
                (append_assoc told [] (handles p.side p.connection item after).entries) r.1,
          )

      by : (o : Option Place) → place_of at m.before.bus.connections ≡ o
          → Ends m law None (given o delivers_at) m.before
      by None e = ends-idle
      by (Some p) e = front p e (first (queue p.side p.connection)) refl

  -- ---- held requests

  pub ends-answers : (i c place : ℕ) → m.event ≡ event.Answer i c place
      → Ends m law None (answering i c place) m.before
  unfolding machine_opened
  ends-answers i c place is = by (module_place i c m.before) refl
    where
      serves : (p : Place) (item : Item) (s : State) → p.side ≡ side.Far
          → p.connection.peer ≡ end.Module i c → IsAsBefore m s
          → (o : Option Incoming) → request_in item s.bus ≡ o
          → Ends m law (Some (hand_of m law p.connection p.side item))
          (given o (serving p.side p.connection)) s
      serves p item s far peer same None e =
          ends-untold m law (hand_of m law p.connection p.side item) s
      serves p item s far peer same (Some q) e =
          ends-responds m law p.side item q s same e
          (subst (λ t. IsTaken m s p.connection t q) (sym far) (answered i c q peer))

      held : (p : Place) (item : Item) (s : State) → p.side ≡ side.Far
          → p.connection.peer ≡ end.Module i c → IsAsBefore m s → (t : Bool)
          → Ends m law (Some (hand_of m law p.connection p.side item))
          (cond t (given (request_in item s.bus) (serving p.side p.connection))
          (tell (dropped item))) s
      held p item s far peer same true = serves p item s far peer same (request_in item s.bus) refl
      held p item s far peer same false = ends-told m law (hand_of m law p.connection p.side item)
          (dropped item) s (quiet-dropped item)

      at_place : (p : Place) → module_place i c m.before ≡ Some p → (o : Option Held)
          → nth place (held_on p.connection.number m.before.held) ≡ o
          → Ends m law None (given o (answers_held p place)) m.before
      at_place p e None f = ends-idle
      at_place p e (Some h) f = λ told now.
          let after = with_fewer p.connection.number place m.before in
          let named = place-is (end.Module i c) m.before.bus.connections p e in
          let far = module-far i c p.side p.connection named.is in
          let peer = sym (ap (λ t. end_of t p.connection) far) ∙ named.is in
          let r = held p h.item after far peer (refl, refl)
          (arriving.takes p.side p.connection after) (told ++ [])
          (law.kept _ (takes_held i c place p h refl refl is e f) now) in (
            r.0,
            subst (λ es. At m (acting m law) None [] r.0 es (serves_held p h.item after).state)
                (append_assoc told [] (serves_held p h.item after).entries) r.1,
          )

      by : (o : Option Place) → module_place i c m.before ≡ o
          → Ends m law None (given o (answers_at place)) m.before
      by None e = ends-idle
      by (Some p) e = at_place p e (nth place (held_on p.connection.number m.before.held)) refl
