-- A law of points goes over a request and a response that are taken.
use Rattle.std.proofs.Common.{Bool, List, None, Option, Some, ap, append-nil, append_assoc, cond}
use Rattle.std.proofs.Common.{false, refl, subst, sym, true, ℕ, [], ◌++◌, ◌∙◌, ◌∷◌, ◌≡◌}
use Rattle.std.specs.Prelude.{◌==◌}
use Rattle.gb_base.specs.declared.end.Side.{Side}
use Rattle.gb_base.specs.declared.end.Side.TheVariants as side
use Rattle.gb_base.specs.declared.entry.Entry.{Entry}
use Rattle.gb_base.specs.declared.entry.Entry.TheVariants as entry
use Rattle.gb_machine.proofs.Opened.{machine_opened}
use Rattle.gb_machine.specs.Actions.{Action, by_state, given, nothing, on_bus, tell, ◌▸◌}
use Rattle.gb_machine.specs.Arriving.{asked_at, ends_answered, is_held, keeps, reading_for}
use Rattle.gb_machine.specs.Arriving.{reply_taken, with_held}
use Rattle.gb_machine.specs.Bus.{Connection, Item, Reply, Request, is_open, other_side, request_of}
use Rattle.gb_machine.specs.Incoming.{Incoming, reply_item, request_in}
use Rattle.gb_machine.specs.Responding.{Response, replies as replying, response_at}
use Rattle.gb_machine.specs.Responding.{serves as serving, serves_oneway}
use Rattle.gb_machine.specs.{Delivery.ended, Delivery.forgotten, HostActs.follows}
use Rattle.gb_machine.specs.{HostServing.host_serves, Requests.given_up_with, Requests.open_with}
use Rattle.gb_machine.specs.{Runs.Moment, Serving.success, State.State}
use Rattle.gb_machine.specs.Arriving as arriving
use Rattle.gb_machine.specs.Delivery as delivery
use Rattle.gb_invariants.proofs.{Awaiting.not-both, Numbers.found-number, Numbers.same-connection}
use Rattle.gb_laws.proofs.steps.DeliveredHands.{answers-open, over-ended, peer-replied}
use Rattle.gb_laws.proofs.points.PointParts.{Basis, Hand, Untouched, is_silent}
use Rattle.gb_laws.proofs.points.Points.{Answers, Forgets, Law, Says, answers, by_label, by_number}
use Rattle.gb_laws.proofs.points.Points.{drops, forgets, holds, numbered, replied_to, replies}
use Rattle.gb_laws.proofs.points.Points.{tells, unclean, unreplied}
use Rattle.gb_laws.proofs.steps.StepActions.{At, Goes, goes-nothing, goes-tell}
use Rattle.gb_laws.proofs.{steps.Delivered.IsTaken, steps.ServedOn.HasPeer}
use Rattle.gb_laws.proofs.{steps.ServedOn.IsAsBefore, steps.StepActLaws.acting}
use Rattle.gb_laws.proofs.{steps.StepServes.ends-response, steps.StepSvcServes.Ends}
use Rattle.gb_laws.proofs.{steps.StepSvcServes.ends-going}
use Rattle.gb_laws.proofs.steps.Heard.{IsDelivered, heard}
use Rattle.gb_laws.proofs.steps.StepLoads.{goes-follows}

module _ (m : Moment) (law : Law m) where
  -- one action after another ends a step
  pub then-ends : {hand : Option Hand} (f g : Action) (s : State)
      → Goes m (acting m law) hand [] Untouched None [] Untouched f s
      → Ends m law None g (f s).state → Ends m law hand (f ▸ g) s
  unfolding machine_opened
  then-ends f g s h k told at =
      let r = k (told ++ (f s).entries) (h told at) in (
        r.0,
        subst (λ es. At m (acting m law) None [] r.0 es (g (f s).state).state)
            (append_assoc told (f s).entries (g (f s).state).entries) r.1,
      )

  -- what is being handled is let go first
  dropped-first : (h : Hand) (f : Action) (s : State) → Ends m law None f s
      → Ends m law (Some h) f s
  dropped-first h f s k told at = k told (law.kept _ drops at)

  pub ends-told : (h : Hand) (e : Entry) (s : State) → is_silent e ≡ true
      → Ends m law (Some h) (tell e) s
  unfolding machine_opened
  ends-told h e s quiet = dropped-first h (tell e) s
      (ends-going m law (tell e) (goes-tell m (acting m law) None [] Untouched e s quiet))

  pub ends-untold : (h : Hand) (s : State) → Ends m law (Some h) nothing s
  ends-untold h s = dropped-first h nothing s
      (ends-going m law nothing (goes-nothing m (acting m law) None [] Untouched s))

  -- ---- requests

  -- what is being handled, as a hand
  abbrev pub hand_of : Connection → Side → Item → Hand
  hand_of c at item = record { connection = c; side = at; item = item }

  pub ends-responds : {c : Connection} (at : Side) (item : Item) (q : Incoming) (s : State)
      → IsAsBefore m s → request_in item s.bus ≡ Some q → IsTaken m s c at q
      → Ends m law (Some (hand_of c at item)) (serving at c q) s
  unfolding machine_opened
  ends-responds {c} at item q s same made taken =
      λ told now. by (still told (law.basis _ now)) q.oneway refl told now
    where
      r : Response
      r = response_at at c q s

      -- what has the connection's number is that connection still
      still : (told : List Entry) → Basis (record {
        told = told;
        state = s;
        hand = Some (hand_of c at item);
        pending = [];
        wires = Untouched;
        asked = None;
      }) → HasPeer c.number c.peer s.bus
      still told basis x e =
          let k = basis.hand (hand_of c at item) refl in
          let n = found-number c.number s.bus x e in
          ap (λ (y : Connection). y.peer)
          (same-connection s.bus.connections x k.now basis.bus.numbers.rise n.0 k.live
          (n.1 ∙ sym k.self.number)) ∙ k.self.peer

      -- the application processor answers as it serves
      serves-so : (t : Side) → t ≡ side.Ap → (s.host ≡ m.before.host)
          × ((response_at t c q s).answer
          ≡ (host_serves c.number q.kind q.payload m.before.host).answer)
      serves-so side.Ap is = (
        same.0,
        ap (λ h. (host_serves c.number q.kind q.payload h).answer) same.0,
      )
      serves-so side.Far is = absurd cc

      oneway : HasPeer c.number c.peer s.bus → (t : Bool) → Ends m law (Some (hand_of c at item))
          (cond t (response_at at c q s).behind (tell (entry.Ignored q.kind))) s
      oneway peer true = dropped-first (hand_of c at item) (response_at at c q s).behind s
          (ends-response m law c at q s taken (unreplied refl) refl refl peer same refl refl)
      oneway peer false = ends-told (hand_of c at item) (entry.Ignored q.kind) s refl

      by : HasPeer c.number c.peer s.bus → (t : Bool) → q.oneway ≡ t
          → Ends m law (Some (hand_of c at item)) (cond t (serves_oneway q (response_at at c q s))
          (replying at c q (response_at at c q s).answer ▸ (response_at at c q s).behind)) s
      by peer true e = oneway peer ((response_at at c q s).answer.result == success)
      by peer false e =
          then-ends (replying at c q (response_at at c q s).answer) (response_at at c q s).behind s
          (λ told now. law.kept _ (replies (hand_of c at item) q (response_at at c q s).answer refl
          made (e, serves-so at)) now) (ends-response m law c at q s
          taken (replied_to (response_at at c q s).answer refl)
          refl refl (peer-replied c.number (other_side at)
          (reply_item q (response_at at c q s).answer) c.peer s.bus peer) same refl refl)

  pub ends-asked : (c : Connection) (at : Side) (item : Item) {q : Incoming} (s : State)
      → IsAsBefore m s → request_in item s.bus ≡ Some q → IsTaken m s c at q
      → Ends m law (Some (hand_of c at item)) (asked_at at c item q) s
  unfolding machine_opened
  ends-asked c at item {q} s same made taken =
      by at (is_held at c s) refl (ends-responds at item q s same made taken)
    where
      by : (t : Side) (b : Bool) → is_held t c s ≡ b
          → Ends m law (Some (hand_of c t item)) (serving t c q) s
          → Ends m law (Some (hand_of c t item)) (cond b (keeps c item q) (serving t c q)) s
      by t false e h = h
      by side.Ap true e h = absurd (not-both false e refl)
      by side.Far true e h = λ told now. (
        Untouched,
        subst (λ es. At m (acting m law) None [] Untouched es (with_held c.number item s))
            (ap (λ es. es ++ entry.Held q.number ∷ []) (append-nil told))
            (law.kept _ (tells (entry.Held q.number) refl)
            (law.kept _ (holds (hand_of c side.Far item) refl refl) now)),
      )

  -- ---- responses

  ends-answered : {h : Hand} (n : ℕ) {result : ℕ} {payload : List ℕ} (s : State)
      → IsDelivered m s h → Says h n result payload → Answers h n s.bus
      → Ends m law (Some h) (ends_answered h.side h.connection n result payload) s
  unfolding machine_opened
  ends-answered {h} n {result} {payload} s is says which = λ told now.
      then-ends (on_bus (ended n (delivery.answered result payload)) ▸ tell
      (entry.Ended n (delivery.answered result payload)
      (reading_for h.side h.connection result payload (request_of n s.bus))))
      (follows n (delivery.answered result payload)) s
      (λ told now. law.kept _ (answers h n result payload refl says which) now)
      (ends-going m law (follows n (delivery.answered result payload))
      (goes-follows m law n (delivery.answered result payload) _
      (λ r p e. (
        over-ended n (delivery.answered result payload) s.bus (law.basis _ now).bus.outcomes
            (answers-open h n which),
        ap (λ (t : State). t.bus.requests) is.from,
      ))
      (λ bytes won. (
        heard m s h n result payload bytes _ is (law.basis _ now).bus says which won,
        (ap (λ (t : State). t.modules) is.from, ap (λ (t : State). t.loads) is.from),
      )))) told now

  ends-forgotten : {h : Hand} (n : ℕ) (e : Entry) (s : State) → is_silent e ≡ true
      → Forgets h n s.bus → Ends m law (Some h) (arriving.forgets n e) s
  unfolding machine_opened
  ends-forgotten {h} n e s quiet which told now = (
    Untouched,
    subst (λ es. At m (acting m law) None [] Untouched es (record s { bus = forgotten n s.bus }))
        (ap (λ es. es ++ e ∷ []) (append-nil told))
        (law.kept _ (tells e quiet) (law.kept _ (forgets h n refl which) now)),
  )

  ends-by_number : (c : Connection) (at : Side) (n result : ℕ) (payload : List ℕ) (s : State)
      → IsDelivered m s (hand_of c at (Reply n result payload)) → c.clean ≡ true
      → Ends m law (Some (hand_of c at (Reply n result payload)))
      (arriving.by_number at c n result payload) s
  unfolding machine_opened
  ends-by_number c at n result payload s is clean = by (is_open n s.bus) refl
    where
      by : (t : Bool) → is_open n s.bus ≡ t
          → Ends m law (Some (hand_of c at (Reply n result payload)))
          (cond t (ends_answered at c n result payload) (arriving.forgets n (entry.Late n))) s
      by true e = ends-answered n s is (numbered refl) (by_number result payload refl clean e)
      by false e = ends-forgotten n (entry.Late n) s refl (by_number result payload refl clean)

  pub ends-by_label : (c : Connection) (at : Side) (item : Item) (label result : ℕ)
      (payload : List ℕ) (s : State) → IsDelivered m s (hand_of c at item) → c.clean ≡ false
      → Ends m law (Some (hand_of c at item)) (arriving.by_label at c label result payload) s
  unfolding machine_opened
  ends-by_label c at item label result payload s is dirty =
      by (open_with c.number at label s.bus) refl (given_up_with c.number at label s.bus) refl
    where
      by : (o : Option ℕ) → open_with c.number at label s.bus ≡ o → (g : Option ℕ)
          → given_up_with c.number at label s.bus ≡ g → Ends m law (Some (hand_of c at item))
          (arriving.answers_by o g at c label result payload) s
      by (Some n) e g f = ends-answered n s is (unclean dirty) (by_label label dirty e)
      by None e (Some n) f = ends-forgotten n (entry.LateLabel label) s refl
          (by_label label dirty f)
      by None e None f = ends-told (hand_of c at item) (entry.UnknownLabel label) s refl

  pub ends-reply : (c : Connection) (at : Side) (n result : ℕ) (payload : List ℕ) (s : State)
      → IsDelivered m s (hand_of c at (Reply n result payload))
      → Ends m law (Some (hand_of c at (Reply n result payload)))
      (reply_taken at c n result payload) s
  unfolding machine_opened
  ends-reply c at n result payload s is = by c.clean refl
    where
      unsaid : (o : Option Request) → c.clean ≡ false
          → Ends m law (Some (hand_of c at (Reply n result payload)))
          (given o (λ r. arriving.by_label at c r.label result payload)) s
      unsaid None dirty = ends-untold (hand_of c at (Reply n result payload)) s
      unsaid (Some r) dirty =
          ends-by_label c at (Reply n result payload) r.label result payload s is dirty

      by : (t : Bool) → c.clean ≡ t → Ends m law (Some (hand_of c at (Reply n result payload)))
          (cond t (arriving.by_number at c n result payload)
          (by_state (λ u. given (request_of n u.bus)
          (λ r. arriving.by_label at c r.label result payload)))) s
      by true e = ends-by_number c at n result payload s is e
      by false e = unsaid (request_of n s.bus) e
