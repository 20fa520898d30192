-- What follows a message that was taken: what it tells is of that message, or of none, and what
-- stood behind that stays in front.
use Rattle.std.proofs.Common.{Bool, List, None, Option, Some, ap, false, inl, inr, map, refl, subst}
use Rattle.std.proofs.Common.{sym, true, ℕ, [], ◌+◌, ◌∷◌, ◌≡◌}
use Rattle.gb_base.specs.declared.end.Side.{Side}
use Rattle.gb_base.specs.declared.entry.Entry.{Entry}
use Rattle.gb_base.specs.declared.host_event.HostEvent.TheVariants as host_event
use Rattle.gb_base.specs.declared.served.OwnAsk.{OwnAsk}
use Rattle.gb_base.specs.declared.bridge.Reading.TheVariants as reading
use Rattle.gb_base.specs.declared.end.Side.TheVariants as side
use Rattle.gb_base.specs.declared.entry.ConnState.TheVariants as state
use Rattle.gb_base.specs.declared.entry.Entry.TheVariants as entry
use Rattle.gb_base.specs.declared.outcome.Outcome.TheVariants as outcome
use Rattle.gb_base.specs.declared.outcome.Outcome.{Outcome}
use Rattle.gb_base.specs.declared.download.Next.{Next}
use Rattle.gb_base.specs.declared.download.Next.TheVariants as next
use Rattle.gb_formats.specs.Module.{Module}
use Rattle.gb_formats.specs.ModuleLoads.{ModuleLoaded, module_ended, module_fail, tag_at}
use Rattle.gb_formats.specs.{Grammar.default_timeout}
use Rattle.gb_machine.proofs.{Opened.machine_opened}
use Rattle.gb_machine.specs.Actions.{Action, change, each, given, nothing, on_host, tell, when, ◌▸◌}
use Rattle.gb_machine.specs.Asking.{asked, asks, asks_with}
use Rattle.gb_machine.specs.Bus.{Bus, Connection, Item, Place, Request, connection_of, next_number}
use Rattle.gb_machine.specs.Bus.{request_of}
use Rattle.gb_machine.specs.HostActs.{acts, asked_with, fails, host_asks, host_draft, host_makes}
use Rattle.gb_machine.specs.HostActs.{host_follows, idles, idles_behind, notices, made_with}
use Rattle.gb_machine.specs.HostActs.{with_awaited, with_made}
use Rattle.gb_machine.specs.HostActs as acting
use Rattle.gb_machine.specs.Loading.{asks_at, asks_next, goes_on, load_ended, load_follows, load_of}
use Rattle.gb_machine.specs.Loading.{with_done, with_failed, with_next}
use Rattle.gb_machine.specs.Modules.{module_at}
use Rattle.gb_machine.specs.Refusals.{module_place}
use Rattle.gb_machine.specs.Sending.{Draft, draft, is_wired, label_for, sent}
use Rattle.gb_machine.specs.Turns.{Act, Asking, Making}
use Rattle.gb_machine.specs.{Failures.unsent, HostTurns.host_turn, Labels.next_label}
use Rattle.gb_machine.specs.{LawsHotPlug.is_consequence, Members.Each, Members.IsIn}
use Rattle.gb_machine.specs.{OwnAsking.far_asks, OwnAsking.far_asks_all, Requests.open_on}
use Rattle.gb_machine.specs.{State.Load, State.State, Wires.disconnected_told}
use Rattle.gb_machine.specs.{Wiring.next_connection}
use Rattle.gb_machine.specs.Requests.{is_idle, same_side}
use Rattle.gb_invariants.proofs.{Awaiting.none-some, Awaiting.same-some, BusChanges.BusChange}
use Rattle.gb_invariants.proofs.{BusChanges.bus_after, Lists.each-append, Lists.each-weaker}
use Rattle.gb_invariants.proofs.{Wires.cuts_of}
use Rattle.gb_invariants.proofs.HostChanges.{Notice, at_event, turn_of}
use Rattle.gb_invariants.proofs.ModuleTurns.{takes_notice}
use Rattle.gb_laws.proofs.taking.TakenQueues.{IsLeft, IsUntaken, left-after}
use Rattle.gb_laws.proofs.taking.TakenTells.{AreConsequences, TellsConsequence, turn-follows}
use Rattle.gb_laws.proofs.taking.TakenTells.{unsent-follows}
use Rattle.gb_laws.proofs.{points.Awaited.awaited-rest}
use Rattle.gb_laws.proofs.links.LinkLeaves.{idle-leaves}

pub ends-follow : (ns : List ℕ) → AreConsequences (map disconnected_told ns)
ends-follow [] = tt
ends-follow (n ∷ ns) = (refl, ends-follow ns)

-- What may be told once a message was taken, and what stands in front there: toward a side
-- of a connection.
pub record Taking : Type 1 where
  pub tells : Entry → Type 0
  pub follows : (e : Entry) → is_consequence e ≡ true → tells e
  pub number : ℕ
  pub at : Side
  pub front : List Item

module _ (aim : Taking) where
  abbrev pub Left : Bus → Type 0
  Left b = IsLeft aim.number aim.at aim.front b

  -- an action tells what may be told, and leaves what is in front
  abbrev pub Follows : Action → State → Type 0
  Follows f s = Each aim.tells (f s).entries × (Left s.bus → Left (f s).state.bus)

  -- it does something to the bus, and doesn't cut the connection
  pub left-by : (x : BusChange) (b : Bus) → IsUntaken x → (cuts_of x ≡ Some aim.number → ⊥)
      → Left b → Left (bus_after x b)
  left-by x b untaken uncut h = left-after x aim.number aim.at aim.front {b = b} untaken uncut h

  -- what a message brings about may be told
  pub tells-follow : (es : List Entry) → AreConsequences es → Each aim.tells es
  tells-follow es h = each-weaker (λ e. is_consequence e ≡ true) aim.tells es aim.follows h

  -- ---- combinators

  pub follows-▸ : (f g : Action) {s : State} → Follows f s → Follows g (f s).state
      → Follows (f ▸ g) s
  unfolding machine_opened
  follows-▸ f g {s} x y = (
    each-append aim.tells (f s).entries (g (f s).state).entries x.0 y.0,
    λ h. y.1 (x.1 h),
  )

  pub follows-nothing : (s : State) → Follows nothing s
  unfolding machine_opened
  follows-nothing s = (tt, λ h. h)

  pub follows-tell : (e : Entry) (s : State) → aim.tells e → Follows (tell e) s
  unfolding machine_opened
  follows-tell e s of = ((of, tt), λ h. h)

  -- what doesn't change the bus
  pub follows-change : (f : State → State) (s : State) → (f s).bus ≡ s.bus → Follows (change f) s
  unfolding machine_opened
  follows-change f s same =
      (tt, λ h. subst Left (sym same) h)

  follows-when : (t : Bool) (f : Action) (s : State) → Follows f s → Follows (when t f) s
  unfolding machine_opened
  follows-when true f s x = x
  follows-when false f s x = follows-nothing s

  -- ---- asking

  follows-asks : (d : Draft) (s : State) → Follows (asks d) s
  unfolding machine_opened
  follows-asks d s = by (connection_of d.connection s.bus) (label_for d s.bus)
    where
      oneway : (t : Bool) (e : Entry) (n : ℕ) (w : State) → is_consequence e ≡ true → Each aim.tells
          (e ∷ (when t (tell (entry.Ended n outcome.Sent reading.Nothing)) w).entries)
      oneway true e n w none = (aim.follows e none, (aim.follows _ refl, tt))
      oneway false e n w none = (aim.follows e none, tt)

      after : (t : Bool) (n : ℕ) (w : State) → Left w.bus
          → Left (when t (tell (entry.Ended n outcome.Sent reading.Nothing)) w).state.bus
      after true n w h = h
      after false n w h = h

      by : (o : Option Connection) (l : Option ℕ)
          → Follows (given o (λ c. given l (λ label. asks_with d c label))) s
      by None l = follows-nothing s
      by (Some c) None = follows-nothing s
      by (Some c) (Some label) = (
        oneway d.oneway (asked d c label s.bus) (next_number s.bus)
            (record s { bus = sent d label s.bus }) refl,
        λ h. after d.oneway (next_number s.bus) (record s { bus = sent d label s.bus })
            (left-by (BusChange.sends d label) s.bus tt (λ e. none-some e) h),
      )

  -- a module's request
  follows-far_asks : (n : ℕ) (x : OwnAsk) (s : State) → Follows (far_asks n x) s
  unfolding machine_opened
  follows-far_asks n x s =
      let d = draft n side.Far x.kind x.payload (s.now + default_timeout) x.oneway in
      follows-when (is_wired (connection_of n s.bus)) (asks d) s (follows-asks d s)

  -- its requests, one after another
  pub follows-far_asks_all : (n : ℕ) (own : List OwnAsk) (s : State)
      → Follows (far_asks_all n own) s
  unfolding machine_opened
  follows-far_asks_all n [] s = follows-nothing s
  follows-far_asks_all n (x ∷ xs) s =
      follows-▸ (far_asks n x) (each xs (far_asks n)) (follows-far_asks n x s)
      (follows-far_asks_all n xs (far_asks n x s).state)

  -- ---- downloads

  -- modules change, and the end of a download is told
  follows-download : (f : State → State) (i c : ℕ) (tag : List ℕ) (size : Option ℕ) (s : State)
      → (f s).bus ≡ s.bus → Follows (change f ▸ tell (entry.Download i c tag size)) s
  follows-download f i c tag size s same =
      follows-▸ (change f) (tell (entry.Download i c tag size)) {s = s} (follows-change f s same)
      (follows-tell (entry.Download i c tag size) (change f s).state (aim.follows _ refl))

  follows-next : (o : Option ℕ) (k i c : ℕ) (own : OwnAsk) (x : Module) (s : State)
      → Follows (asks_next o k i c own x) s
  unfolding machine_opened
  follows-next None k i c own x s =
      follows-download (with_failed i (module_fail x c)) i c (tag_at x c) None s refl
  follows-next (Some label) k i c own x s =
      follows-▸ (far_asks k own) (change (with_next i c (next_number s.bus) x)) {s = s}
      (follows-far_asks k own s)
      (follows-change (with_next i c (next_number s.bus) x) (far_asks k own s).state refl)

  follows-goes_on : (i c : ℕ) (what : Next) (x : Module) (s : State)
      → Follows (goes_on i c what x) s
  unfolding machine_opened
  follows-goes_on i c (next.Ask own) x s = by (module_place i c s)
    where
      by : (o : Option Place) → Follows (asks_at o i c own x) s
      by None = follows-download (with_failed i (module_fail x c)) i c (tag_at x c) None s refl
      by (Some p) = follows-next (next_label p.connection.number side.Far s.bus)
          p.connection.number i c own x s
  follows-goes_on i c (next.Done tag size) x s =
      follows-download (with_done i c x) i c tag (Some size) s refl
  follows-goes_on i c (next.Failed tag) x s =
      follows-download (with_failed i x) i c tag None s refl

  -- A request ended, for which a download may wait.
  follows-load : (n : ℕ) (how : Outcome) (s : State) → Follows (load_follows n how) s
  unfolding machine_opened
  follows-load n how s = by (load_of n s.loads)
    where
      goes : (l : Load) (o : Option ModuleLoaded)
          → Follows (given o (λ t. goes_on l.intf l.cport t.next t.after)) s
      goes l None = follows-nothing s
      goes l (Some t) = follows-goes_on l.intf l.cport t.next t.after s

      ended : (l : Load) (o : Option Module) → Follows (given o (λ m. given
          (module_ended m l.cport how) (λ t. goes_on l.intf l.cport t.next t.after))) s
      ended l None = follows-nothing s
      ended l (Some m) = goes l (module_ended m l.cport how)

      by : (o : Option Load) → Follows (given o (load_ended how)) s
      by None = follows-nothing s
      by (Some l) = ended l (module_at l.intf s.modules)

  pub follows-loads : (how : Outcome) (ns : List ℕ) (s : State)
      → Follows (each ns (λ n. load_follows n how)) s
  unfolding machine_opened
  follows-loads how [] s = follows-nothing s
  follows-loads how (n ∷ ns) s =
      follows-▸ (load_follows n how) (each ns (λ k. load_follows k how)) {s = s}
      (follows-load n how s) (follows-loads how ns (load_follows n how s).state)

  -- ---- acts

  follows-fails : (q : Asking) (s : State) → Follows (fails (unsent q.purpose)) s
  unfolding machine_opened
  follows-fails q s =
      (tells-follow (unsent q.purpose s.host).told (unsent-follows q.purpose s.host), λ h. h)

  follows-host_asks : (q : Asking) (s : State) → Follows (host_asks q) s
  unfolding machine_opened
  follows-host_asks q s = by (next_label q.on side.Ap s.bus)
    where
      by : (o : Option ℕ) → Follows (asked_with o q) s
      by None = follows-fails q s
      by (Some label) =
          follows-▸ (asks (host_draft q s.now))
          (change (with_awaited q.purpose (next_number s.bus)))
          (follows-asks (host_draft q s.now) s)
          (follows-change (with_awaited q.purpose (next_number s.bus))
          (asks (host_draft q s.now) s).state (awaited-rest q.purpose (next_number s.bus)).bus)

  follows-host_makes : (w : Making) (q : Asking) (s : State) → Follows (host_makes w q) s
  unfolding machine_opened
  follows-host_makes w q s = by (next_label q.on side.Ap s.bus)
    where
      by : (o : Option ℕ) → Follows (made_with o w q) s
      by None = follows-fails q s
      by (Some label) =
          follows-▸ (change (with_made w) ▸ tell (entry.Connection (next_connection s.bus) w.ap
          w.intf w.cport state.Opening)) (host_asks q) (
            (aim.follows _ refl, tt),
            λ h. left-by (BusChange.opens w.ap w.intf w.cport w.protocol) s.bus tt
                (λ e. none-some e) h,
          ) (follows-host_asks q (with_made w s))

  follows-act : (x : Act) (s : State) → TellsConsequence x → (Act.Leave aim.number ≡ x → ⊥)
      → Follows (acts x) s
  unfolding machine_opened
  follows-act (Act.Ask q) s none stays = follows-host_asks q s
  follows-act (Act.Make w q) s none stays = follows-host_makes w q s
  follows-act (Act.Shut j) s none stays = (
    tells-follow _ (ends-follow (open_on j side.Ap s.bus)),
    λ h. left-by (BusChange.shuts j) s.bus tt (λ e. none-some e) h,
  )
  follows-act (Act.Leave j) s none stays = (
    tt,
    λ h. left-by (BusChange.leaves j) s.bus tt
        (λ e. stays (ap Act.Leave (sym (same-some j aim.number e)))) h,
  )
  follows-act (Act.Tell e) s none stays = ((aim.follows e none, tt), λ h. h)

  follows-acts : (xs : List Act) (s : State) → Each TellsConsequence xs
      → (IsIn (Act.Leave aim.number) xs → ⊥) → Follows (each xs acts) s
  unfolding machine_opened
  follows-acts [] s none stays = follows-nothing s
  follows-acts (x ∷ xs) s none stays =
      follows-▸ (acts x) (each xs acts) (follows-act x s none.0 (λ e. stays (inl e)))
      (follows-acts xs (acts x s).state none.1 (λ i. stays (inr i)))

  -- The application processor takes notice of something, and doesn't give up the connection.
  pub follows-notice : (x : Notice) (s : State)
      → (IsIn (Act.Leave aim.number) (turn_of x s.host).acts → ⊥) → Follows (takes_notice x) s
  unfolding machine_opened
  follows-notice x s stays =
      let after = record s { host = (turn_of x s.host).host } in
      follows-▸ (on_host (λ h. (turn_of x s.host).host)) (each (turn_of x s.host).acts acts)
      {s = s} (tt, λ h. h)
      (follows-acts (turn_of x s.host).acts after (turn-follows x s.host) stays)

  -- A connection that drains closes where it is idle.
  follows-idles : (k : ℕ) (s : State) → Follows (idles k) s
  unfolding machine_opened
  follows-idles k s = follows-when (is_idle k s.bus) (notices (host_event.Idle k)) s
      (follows-notice (at_event (host_event.Idle k)) s (idle-leaves k s.host aim.number))

  follows-idles_behind : (o : Option Request) (s : State) → Follows (given o idles_behind) s
  unfolding machine_opened
  follows-idles_behind None s = follows-nothing s
  follows-idles_behind (Some r) s =
      follows-when (same_side side.Ap r.side) (idles r.connection) s (follows-idles r.connection s)

  -- A request ended, and the application processor doesn't give up the connection at that.
  pub follows-ended : (n : ℕ) (how : Outcome) (s : State)
      → (IsIn (Act.Leave aim.number) (host_turn (host_event.Ended n how) s.host).acts → ⊥)
      → Follows (acting.follows n how) s
  unfolding machine_opened
  follows-ended n how s stays =
      follows-▸ (host_follows n how) (load_follows n how) {s = s}
      (follows-▸ (notices (host_event.Ended n how)) (given (request_of n s.bus) idles_behind)
      {s = s} (follows-notice (at_event (host_event.Ended n how)) s stays)
      (follows-idles_behind (request_of n s.bus) (notices (host_event.Ended n how) s).state))
      (follows-load n how (host_follows n how s).state)
