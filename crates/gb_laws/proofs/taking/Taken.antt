-- A delivery takes the front item toward its end: what is told of a message that was taken is told
-- of that item, and it is gone then.
use Rattle.std.proofs.Common.{Bool, List, None, Option, Some, ap, cond, false, inl, inr, refl}
use Rattle.std.proofs.Common.{subst, sym, true, ℕ, ◌∙◌, ◌≡◌, ◌⊎◌}
use Rattle.std.specs.Prelude.{Err, Ok, Result, option_map, ◌==◌}
use Rattle.gb_base.specs.declared.end.{End.End, Side.Side}
use Rattle.gb_base.specs.declared.entry.Entry.{Entry}
use Rattle.gb_base.specs.declared.reasons.RawFault.{RawFault}
use Rattle.gb_base.specs.declared.interface.Link.{Link}
use Rattle.gb_base.specs.declared.end.End.TheVariants as end
use Rattle.gb_base.specs.declared.end.Side.TheVariants as side
use Rattle.gb_base.specs.declared.entry.Entry.TheVariants as entry
use Rattle.gb_base.specs.declared.event.Event.TheVariants as event
use Rattle.gb_formats.specs.{Message.Message, Wire.raw_message}
use Rattle.gb_machine.proofs.Steps.{behind_done, delivers-handles, step-deliver}
use Rattle.gb_machine.proofs.{Conditions.Waits, Conditions.waits, Opened.machine_opened}
use Rattle.gb_machine.specs.Actions.{Action, Told, by_state, given, on_bus, tell, ◌▸◌}
use Rattle.gb_machine.specs.Arriving.{answers_by, arrives, asked_at, by_label, by_number, dropped}
use Rattle.gb_machine.specs.Arriving.{ends_answered, forgets, handles, is_held, keeps, raw_taken}
use Rattle.gb_machine.specs.Arriving.{reading_for, reply_taken, takes}
use Rattle.gb_machine.specs.Bus.{Ask, Item, Place, Raw, RawReply, Reply, Request, connection_of}
use Rattle.gb_machine.specs.Bus.{is_open, other_side, place_of, queue, request_of}
use Rattle.gb_machine.specs.Delivery.{answered, ended, replied}
use Rattle.gb_machine.specs.Incoming.{Incoming, incoming, incoming_raw, is_request, raw_request}
use Rattle.gb_machine.specs.Incoming.{reply_entry, reply_item, request_in}
use Rattle.gb_machine.specs.LawsHotPlug.{IsAnswerTo, IsOneway, IsToldOf, TakesFromItsConnection}
use Rattle.gb_machine.specs.LawsHotPlug.{TakesItem, is_consequence, label_in, raw_label}
use Rattle.gb_machine.specs.Responding.{Response, far_response, host_behind, replies, response_at}
use Rattle.gb_machine.specs.Responding.{serves, serves_oneway}
use Rattle.gb_machine.specs.Runs.{IsMoment, Moment, after}
use Rattle.gb_machine.specs.{Events.step, Host.link_of, HostActs.follows, HostServing.HostServed}
use Rattle.gb_machine.specs.{HostServing.host_serves, Lists.behind_first}
use Rattle.gb_machine.specs.{Lists.first, Members.EachTwo, Members.IsIn, Modules.module_at}
use Rattle.gb_machine.specs.{Refusals.refusal, Requests.given_up_with, Requests.open_with}
use Rattle.gb_machine.specs.{Serving.success, State.State, SvcTable.svc_step}
use Rattle.gb_invariants.proofs.{Awaiting.none-some, Awaiting.same-some, BusChanges.BusChange}
use Rattle.gb_invariants.proofs.{Numbers.found-by_number}
use Rattle.gb_invariants.specs.{Facts.IsBefore, Facts.is_numbered}
use Rattle.gb_laws.proofs.taking.TakenActs.{Follows, Taking, follows-ended, follows-nothing}
use Rattle.gb_laws.proofs.taking.TakenActs.{follows-tell}
use Rattle.gb_laws.proofs.taking.TakenActs.{follows-▸, left-by}
use Rattle.gb_laws.proofs.taking.TakenKnown.{asked-made, labelled-answer, link-peer}
use Rattle.gb_laws.proofs.taking.TakenKnown.{numbered-answer}
use Rattle.gb_laws.proofs.taking.TakenKnown.{other-unwired, stays-answered, taken, unlinked}
use Rattle.gb_laws.proofs.taking.TakenKnown.{unclean}
use Rattle.gb_laws.proofs.taking.TakenModules.{Unlinked, follows-notices}
use Rattle.gb_laws.proofs.links.Links.{HostFits}
use Rattle.gb_laws.proofs.taking.TakenServed.{follows-decided, follows-host, follows-module}
use Rattle.gb_laws.proofs.taking.TakenTells.{HeardBy, HeardOf, heard, names-told}
use Rattle.gb_laws.proofs.{basis.Basics.basis, points.Places.IsPlace, points.Places.place-is}
use Rattle.gb_laws.proofs.{runs.Runs.HoldsAtMoments}
use Rattle.gb_laws.proofs.{runs.Runs.at_each, creations.StaleRuns.StaleTo}
use Rattle.gb_laws.proofs.{creations.StaleRuns.stale-throughout}
use Rattle.gb_laws.proofs.{steps.Steps.over-step, taking.TakenQueues.IsLeft}
use Rattle.gb_laws.proofs.{taking.TakenQueues.popped-left}

module _ (m : Moment) (h : StaleTo m.told m.before) (to : End) (p : Place) (item : Item)
    (named : place_of to m.before.bus.connections ≡ Some p)
    (front : first (queue p.side p.connection) ≡ Some item) where
  -- the state then
  abbrev now : State
  now = taken m h to p item named front

  -- what is told is told of the item or is what it brings about, and what stood behind the item
  -- stays in front
  abbrev aim : Taking
  aim = record {
    tells = λ e. IsToldOf p item m.before.bus e ⊎ is_consequence e ≡ true;
    follows = λ e h. inr h;
    number = p.connection.number;
    at = p.side;
    front = behind_first (queue p.side p.connection);
  }

  -- something is told of the item, unless it is a unidirectional request
  abbrev Says : Action → Type 0
  Says f = IsOneway item m.before.bus
      ⊎ ((e : Entry) × IsIn e (f now).entries × IsToldOf p item m.before.bus e)

  -- what an action that handles the item does
  abbrev Handles : Action → Type 0
  Handles f = Follows aim f now × Says f

  handled-tell : (e : Entry) → IsToldOf p item m.before.bus e → Handles (tell e)
  unfolding machine_opened
  handled-tell e of = (follows-tell aim e now (inl of), inr (e, inl refl, of))

  -- ---- responses

  handled-answered : (n result : ℕ) (payload : List ℕ) → IsAnswerTo p item m.before.bus n
      → Handles (ends_answered p.side p.connection n result payload)
  unfolding machine_opened
  handled-answered n result payload x =
      let how = answered result payload in
      let e = entry.Ended n how
      (reading_for p.side p.connection result payload (request_of n now.bus)) in
      let after = record now { bus = ended n how now.bus } in (
        follows-▸ aim (on_bus (ended n how) ▸ tell e) (follows n how) {s = now} (
          (inl x, tt),
          λ l. left-by aim (BusChange.ends n how) now.bus tt (λ e. none-some e) l,
        ) (follows-ended aim n how after
            (stays-answered m h to p item named front n how x)),
        inr (e, inl refl, x),
      )

  handled-forgets : (n : ℕ) (e : Entry) → IsToldOf p item m.before.bus e
      → Handles (forgets n e)
  unfolding machine_opened
  handled-forgets n e of = (
    ((inl of, tt), λ l. left-by aim (BusChange.forgets n) now.bus tt (λ f. none-some f) l),
    inr (e, inl refl, of),
  )

  handled-by_number : (n result : ℕ) (payload : List ℕ) → item ≡ Reply n result payload
      → Handles (by_number p.side p.connection n result payload)
  unfolding machine_opened
  handled-by_number n result payload is = by (is_open n now.bus)
    where
      by : (t : Bool) → Handles (cond t (ends_answered p.side p.connection n result payload)
          (forgets n (entry.Late n)))
      by true = handled-answered n result payload
          (numbered-answer m h to p item named front n result payload is)
      by false = handled-forgets n (entry.Late n)
          (numbered-answer m h to p item named front n result payload is)

  handled-by_label : (label result : ℕ) (payload : List ℕ)
      → label_in item m.before.bus ≡ Some label → p.connection.clean ≡ false
      → Handles (by_label p.side p.connection label result payload)
  unfolding machine_opened
  handled-by_label label result payload is dirty =
      by (open_with p.connection.number p.side label now.bus) refl
      (given_up_with p.connection.number p.side label now.bus)
    where
      by : (o : Option ℕ) → open_with p.connection.number p.side label now.bus ≡ o
          → (g : Option ℕ)
          → Handles (answers_by o g p.side p.connection label result payload)
      by (Some n) e g = handled-answered n result payload
          (labelled-answer m h to p item named front label n is dirty e)
      by None e (Some n) = handled-forgets n (entry.LateLabel label) is
      by None e None = handled-tell (entry.UnknownLabel label) is

  handled-reply : (n result : ℕ) (payload : List ℕ) → item ≡ Reply n result payload
      → Handles (reply_taken p.side p.connection n result payload)
  unfolding machine_opened
  handled-reply n result payload is = by p.connection.clean refl
    where
      unsaid : (o : Option Request) → request_of n now.bus ≡ o → p.connection.clean ≡ false
          → Handles (given o (λ r. by_label p.side p.connection r.label result payload))
      unsaid None e dirty = absurd (none-some (sym e
          ∙ (numbered-answer m h to p item named front n result payload is).made))
      unsaid (Some r) e dirty = handled-by_label r.label result payload
          (ap (λ x. label_in x m.before.bus) is ∙ ap (option_map (λ (q : Request). q.label)) e)
          dirty

      by : (t : Bool) → p.connection.clean ≡ t
          → Handles (cond t (by_number p.side p.connection n result payload)
          (by_state (λ s. given (request_of n s.bus)
          (λ r. by_label p.side p.connection r.label result payload))))
      by true e = handled-by_number n result payload is
      by false e = unsaid (request_of n now.bus) refl e

  -- ---- what is served at the application processor

  handled-at_host : (kind : ℕ) (payload : List ℕ) (u : State)
      → Follows aim (host_behind (host_serves p.connection.number kind payload m.before.host)) u
  unfolding machine_opened
  handled-at_host kind payload u =
      by (link_of p.connection.number m.before.host) refl
      (heard (link_of p.connection.number m.before.host) kind payload m.before.host)
    where
      r : HostServed
      r = host_serves p.connection.number kind payload m.before.host

      names-all : (l : Link) (o : Option Entry) → link_of p.connection.number m.before.host ≡ Some l
          → HeardOf l o → (x : Entry) → o ≡ Some x → aim.tells x
      names-all l None e w x f = absurd (none-some f)
      names-all l (Some y) e w x f = subst (λ z. aim.tells z) (same-some y x f)
          (inl (names-told p item m.before.bus l y (link-peer m h to p item named front l e) w))

      by : (o : Option Link) → link_of p.connection.number m.before.host ≡ o
          → HeardBy o m.before.host (host_serves p.connection.number kind payload m.before.host)
          → Follows aim (host_behind (host_serves p.connection.number kind payload m.before.host)) u
      by None e w = follows-host aim r.host r.told r.notices u
          (λ x f. absurd (none-some (sym w.0 ∙ f)))
          (λ x f. follows-notices aim x (record u { host = r.host })
          (subst (HostFits m.before.bus) (sym w.1) h.since.links.1.host)
          (subst (Unlinked aim) (sym w.1) (unlinked m h to p item named front e)))
      by (Some l) e w = follows-host aim r.host r.told r.notices u (names-all l r.told e w.0)
          (λ x f. absurd (none-some (sym w.1 ∙ f)))

  -- ---- what is served at a far end

  handled-far : (e : End) (q : Incoming) (u : State) → p.connection.peer ≡ e
      → Follows aim (far_response e p.connection.number q now).behind u
  handled-far (end.Module i c) q u peer =
      follows-module aim p.connection.number i c q (module_at i now.modules) u
  handled-far end.Svc q u peer =
      follows-decided aim (svc_step now.ports q.kind q.payload).served
      (svc_step now.ports q.kind q.payload).ports now u
      (other-unwired m h to p item named front peer)
  handled-far (end.Ap a) q u peer = follows-nothing aim u

  -- what the party at the place answers
  handled-response : (t : Side) (q : Incoming) (u : State)
      → Follows aim (response_at t p.connection q now).behind u
  handled-response side.Ap q u = handled-at_host q.kind q.payload u
  handled-response side.Far q u = handled-far p.connection.peer q u refl

  -- ---- requests

  handled-serves : (q : Incoming) → request_in item m.before.bus ≡ Some q
      → Handles (serves p.side p.connection q)
  unfolding machine_opened
  handled-serves q made = by q.oneway refl
    where
      r : Response
      r = response_at p.side p.connection q now

      oneway : (t : Bool) → q.oneway ≡ true
          → Handles (cond t r.behind (tell (entry.Ignored q.kind)))
      oneway true e = (handled-response p.side q now, inl (q, made, e))
      oneway false e = handled-tell (entry.Ignored q.kind) (q, made, refl)

      by : (t : Bool) → q.oneway ≡ t → Handles (cond t (serves_oneway q r)
          (replies p.side p.connection q r.answer ▸ r.behind))
      by true e = oneway (r.answer.result == success) e
      by false e =
          let back = reply_item q r.answer in
          let told : IsToldOf p item m.before.bus
          (reply_entry p.side p.connection q r.answer) = ((q, made, refl), refl, refl) in (
            follows-▸ aim (replies p.side p.connection q r.answer) r.behind {s = now} (
              (inl told, tt),
              λ l. left-by aim (BusChange.puts p.connection.number (other_side p.side) back)
                  now.bus tt (λ f. none-some f) l,
            ) (handled-response p.side q (record now {
              bus = replied p.connection.number (other_side p.side) back now.bus;
            })),
            inr (reply_entry p.side p.connection q r.answer, inl refl, told),
          )

  handled-asked : (x : Item) (q : Incoming) → request_in item m.before.bus ≡ Some q
      → Handles (asked_at p.side p.connection x q)
  unfolding machine_opened
  handled-asked x q made = by (is_held p.side p.connection now)
    where
      by : (t : Bool) → Handles (cond t (keeps p.connection x q) (serves p.side p.connection q))
      by true = (
        ((inl (q, made, refl), tt), λ l. l),
        inr (entry.Held q.number, inl refl, (q, made, refl)),
      )
      by false = handled-serves q made

  -- ---- items

  handled-raw : (bytes : List ℕ) → item ≡ Raw bytes
      → Handles (raw_taken p.side p.connection (Raw bytes) (raw_message bytes))
  unfolding machine_opened
  handled-raw bytes is = by (raw_message bytes) refl
    where
      dirty : p.connection.clean ≡ false
      dirty = unclean m h to p item named front (ap is_numbered is)

      message : (x : Message) → raw_message bytes ≡ Ok x → (t : Bool) → is_request x ≡ t
          → Handles (cond t (asked_at p.side p.connection (Raw bytes) (incoming_raw x))
          (by_label p.side p.connection x.id x.result x.payload))
      message x e true f = handled-asked (Raw bytes) (incoming_raw x)
          (ap (λ y. request_in y m.before.bus) is ∙ ap raw_request e
          ∙ ap (λ t. cond t (Some (incoming_raw x)) None) f)
      message x e false f = handled-by_label x.id x.result x.payload
          (ap (λ y. label_in y m.before.bus) is ∙ ap raw_label e) dirty

      by : (r : Result Message RawFault) → raw_message bytes ≡ r
          → Handles (raw_taken p.side p.connection (Raw bytes) r)
      by (Err fault) e = handled-tell (entry.BadRaw fault) (bytes, is, e)
      by (Ok x) e = message x e (is_request x) refl

  handled-arrives : (x : Item) → item ≡ x → Handles (arrives p.side p.connection x)
  unfolding machine_opened
  handled-arrives (Ask n) is = by (request_of n now.bus) refl
    where
      by : (o : Option Request) → request_of n now.bus ≡ o
          → Handles (given o (λ r. asked_at p.side p.connection (Ask n) (incoming n r)))
      by None e = absurd (none-some (sym e ∙ (asked-made m h to p item named front n is).1))
      by (Some r) e = handled-asked (Ask n) (incoming n r)
          (ap (λ y. request_in y m.before.bus) is ∙ ap (option_map (incoming n)) e)
  handled-arrives (Reply n result payload) is = handled-reply n result payload is
  handled-arrives (Raw bytes) is = handled-raw bytes is
  handled-arrives (RawReply label kind result payload) is =
      handled-by_label label result payload (ap (λ y. label_in y m.before.bus) is)
      (unclean m h to p item named front (ap is_numbered is))

  dropped-told : (x : Item) → item ≡ x → IsToldOf p item m.before.bus (dropped x)
  dropped-told (Ask n) is = ap dropped (sym is)
  dropped-told (Reply n result payload) is = ap dropped (sym is)
  dropped-told (Raw bytes) is = ap dropped (sym is)
  dropped-told (RawReply label kind result payload) is = ap dropped (sym is)

  abbrev pub Handling : Type 0
  Handling = Handles (handles p.side p.connection item)

  pub handled-item : Handling
  unfolding machine_opened
  handled-item = by (takes p.side p.connection now)
    where
      by : (t : Bool)
          → Handles (cond t (arrives p.side p.connection item) (tell (dropped item)))
      by true = handled-arrives item refl
      by false = handled-tell (dropped item) (dropped-told item refl)

-- ---- deliveries

takes-item : (m : Moment) → IsMoment m.event → StaleTo m.told m.before → TakesFromItsConnection m
takes-item m one h to is allowed = by (waits m.before to free)
  where
    free : refusal m.before (event.Deliver to) ≡ None
    free = ap (refusal m.before) (sym is) ∙ allowed

    rise : EachTwo IsBefore (after m).bus.connections
    rise = (over-step m (basis m) one h.since.links.0).1.bus.numbers.rise

    by : Waits m.before to → TakesItem m to
    by w = record {
      place = w.place;
      item = w.item;
      named = w.named;
      live = place.live;
      wired = place.wired;
      is = place.is;
      front = w.front;
      entries = (handles w.place.side w.place.connection w.item s).entries;
      done = ap (λ (t : Told). t.entries) same;
      told = x.0.0;
      says = x.1;
      gone = record {
        connection = left.connection;
        more = left.more;
        live = subst (λ k. connection_of k (after m).bus ≡ Some left.connection) left.number
            (found-by_number (after m).bus.connections left.connection rise left.live);
        wired = left.wired;
        left = left.left;
      };
    }
      where
        place : IsPlace to m.before.bus.connections w.place
        place = place-is to m.before.bus.connections w.place w.named

        s : State
        s = taken m h to w.place w.item w.named w.front

        x : Handling m h to w.place w.item w.named w.front
        x = handled-item m h to w.place w.item w.named w.front

        same : step m.before m.event
            ≡ behind_done (handles w.place.side w.place.connection w.item s)
        same = ap (step m.before) is ∙ step-deliver m.before to free
            ∙ ap behind_done (delivers-handles m.before to w.place w.item w.named w.front)

        left : IsLeft w.place.connection.number w.place.side
            (behind_first (queue w.place.side w.place.connection)) (after m).bus
        left = subst (λ (t : Told). IsLeft w.place.connection.number w.place.side
            (behind_first (queue w.place.side w.place.connection)) t.state.bus) (sym same)
            (x.0.1 (popped-left w.place.side w.place.connection m.before.bus
            h.since.links.0.bus.numbers.rise place.live place.wired))

-- Each delivery takes its item so.
pub takes-at_moments : HoldsAtMoments TakesFromItsConnection
takes-at_moments = at_each StaleTo TakesFromItsConnection stale-throughout takes-item
