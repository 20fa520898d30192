-- What becomes of the marks of an interface where the supervisory controller asks.
use Rattle.std.proofs.Common.{Bool, List, None, Option, Some, ap, append-nil, arith, cond, false}
use Rattle.std.proofs.Common.{inl, inr, refl, subst, sym, true, ℕ, ⊎_elim, [], ◌++◌, ◌+◌, ◌∙◌, ◌∷◌}
use Rattle.std.proofs.Common.{◌≡◌, ◌⊎◌}
use Rattle.std.specs.Prelude.{option_map, ◌==◌}
use Rattle.gb_base.specs.declared.end.Side.TheVariants as side
use Rattle.gb_base.specs.declared.host_event.HostEvent.TheVariants as host_event
use Rattle.gb_base.specs.declared.host_event.HostEvent.{HostEvent}
use Rattle.gb_formats.specs.SvcRecords.{SvcAsk, svc_ask_kind, svc_ask_payload}
use Rattle.gb_formats.specs.Grammar.{default_timeout}
use Rattle.gb_machine.proofs.Opened.{machine_opened}
use Rattle.gb_machine.specs.Bus.{Ask, Bus, Connection, Request, connection_of, has_number}
use Rattle.gb_machine.specs.Bus.{next_number, request_of}
use Rattle.gb_machine.specs.Sending.{Draft, draft, is_wired, label_for, requested, sent}
use Rattle.gb_machine.specs.{Actions.given, Actions.when, Asking.asks, Asking.asks_with}
use Rattle.gb_machine.specs.{Labels.next_label, Members.IsIn, OwnAsking.svc_asks, State.State}
use Rattle.gb_machine.specs.{SvcQueues.is_told, SvcQueues.items_in, SvcQueues.svc_items}
use Rattle.gb_invariants.proofs.BusChanges.{BusChange, KeepsRequests}
use Rattle.gb_invariants.proofs.{Awaiting.sent-new, Awaiting.sent-request}
use Rattle.gb_invariants.proofs.{Found.find-changed, Labels.asked_on, Labels.asked_on-number}
use Rattle.gb_invariants.proofs.{Lists.in-pushed, Wires.WasWired, Wires.was-wired}
use Rattle.gb_invariants.proofs.Awaiting.{sent-made}
use Rattle.gb_laws.proofs.marks.Marks.{AreAsked, item_mark, mark_in, marks, marks-append}
use Rattle.gb_laws.proofs.marks.Marks.{marks-more, marks_of, notice_of, request_mark}

-- the requests that wait toward the application processor were made
abbrev pub QueueIsAsked : Bus → Type 0
QueueIsAsked b = AreAsked b (svc_items side.Ap b)

-- the marks stay, or one comes behind them
pub data MarksAfter (b after : Bus) (o : Option HostEvent) : Type 0 where
  untold : ((j : ℕ) (ps : List (ℕ × ℕ)) → marks j ps after ≡ marks j ps b) → MarksAfter b after o
  told : ((j : ℕ) (ps : List (ℕ × ℕ)) → marks j ps after
      ≡ marks j ps b ++ mark_in j (is_told (next_number b) j ps) o) → MarksAfter b after o

-- what stays where the supervisory controller asks
pub record AfterAsk (s t : State) (o : Option HostEvent) : Type 0 where
  pub host : t.host ≡ s.host
  pub modules : t.modules ≡ s.modules
  pub started : t.booted ≡ s.booted
  pub ports : t.ports ≡ s.ports
  pub wired : WasWired s.bus t.bus
  pub asked : QueueIsAsked t.bus
  pub past : t.past ≡ s.past
  pub keeps : KeepsRequests s.bus t.bus
  pub fresh : (n : ℕ) (r : Request) → request_of n t.bus ≡ Some r
      → (request_of n s.bus ≡ Some r) ⊎ (notice_of r.kind r.payload ≡ o)
  pub marks_after : MarksAfter s.bus t.bus o

-- a draft of the supervisory controller
abbrev pub svc_draft : SvcAsk → State → Draft
svc_draft ask s =
    draft 1 side.Far (svc_ask_kind ask) (svc_ask_payload ask) (s.now + default_timeout) false

-- the connection once it was asked on
now-asked : (d : Draft) (label : ℕ) (b : Bus) (c : Connection) → d.connection ≡ 1
    → connection_of 1 b ≡ Some c → connection_of 1 (sent d label b) ≡ Some (asked_on d label b c)
now-asked d label b c one found =
    subst (λ k. connection_of k (sent d label b) ≡ Some (asked_on d label b c)) one
    (find-changed (has_number d.connection) (asked_on d label b) b.connections
    (λ x. ap (λ n. n == d.connection) (asked_on-number d label b x))
    ∙ ap (option_map (asked_on d label b)) (ap (λ k. connection_of k b) one ∙ found))

-- the queue toward the application processor, before the request
items-asked : (b : Bus) (c : Connection) → connection_of 1 b ≡ Some c → QueueIsAsked b
    → AreAsked b c.to_ap
items-asked b c found asked n i =
    asked n (subst (λ o. IsIn (Ask n) (items_in side.Ap o)) (sym found) i)

-- a request of the supervisory controller
asked-on : (ask : SvcAsk) (label : ℕ) (s : State) (c : Connection) → connection_of 1 s.bus ≡ Some c
    → QueueIsAsked s.bus → (t : Bool) → c.wired ≡ t
    → QueueIsAsked (sent (svc_draft ask s) label s.bus)
    × ((j : ℕ) (ps : List (ℕ × ℕ)) → marks j ps (sent (svc_draft ask s) label s.bus)
    ≡ marks j ps s.bus ++ cond t (mark_in j (is_told (next_number s.bus) j ps)
    (notice_of (svc_ask_kind ask) (svc_ask_payload ask))) [])
asked-on ask label s c found asked t wired = (made, λ j ps. whole j ps)
  where
    d : Draft
    d = svc_draft ask s

    after : Bus
    after = sent (svc_draft ask s) label s.bus

    items : (t : Bool) → c.wired ≡ t
        → svc_items side.Ap (sent (svc_draft ask s) label s.bus) ≡ cond t
        (c.to_ap ++ Ask (next_number s.bus) ∷ []) c.to_ap
    items true e = ap (items_in side.Ap) (now-asked (svc_draft ask s) label s.bus c refl found)
        ∙ ap (λ u. (cond u (record c {
          far_last = label;
          to_ap = c.to_ap ++ Ask (next_number s.bus) ∷ [];
        }) (record c { far_last = label })).to_ap) e
    items false e = ap (items_in side.Ap) (now-asked (svc_draft ask s) label s.bus c refl found)
        ∙ ap (λ u. (cond u (record c {
          far_last = label;
          to_ap = c.to_ap ++ Ask (next_number s.bus) ∷ [];
        }) (record c { far_last = label })).to_ap) e

    old : (j : ℕ) (ps : List (ℕ × ℕ))
        → marks_of j ps (sent (svc_draft ask s) label s.bus) c.to_ap ≡ marks j ps s.bus
    old j ps = marks-more j ps s.bus (sent (svc_draft ask s) label s.bus) c.to_ap
        (sent-request (svc_draft ask s) label s.bus) (items-asked s.bus c found asked)
        ∙ ap (λ o. marks_of j ps s.bus (items_in side.Ap o)) (sym found)

    by : (j : ℕ) (ps : List (ℕ × ℕ)) (t : Bool)
        → marks_of j ps (sent (svc_draft ask s) label s.bus)
        (cond t (c.to_ap ++ Ask (next_number s.bus) ∷ []) c.to_ap)
        ≡ marks j ps s.bus ++ cond t (mark_in j (is_told (next_number s.bus) j ps)
        (notice_of (svc_ask_kind ask) (svc_ask_payload ask))) []
    by j ps true =
        marks-append j ps (sent (svc_draft ask s) label s.bus) c.to_ap
        (Ask (next_number s.bus) ∷ [])
        ∙ ap (λ ms. ms ++ (item_mark j ps (sent (svc_draft ask s) label s.bus)
        (Ask (next_number s.bus)) ++ [])) (old j ps) ∙ ap (λ ms. marks j ps s.bus ++ ms)
        (append-nil _ ∙ ap (request_mark j (is_told (next_number s.bus) j ps))
        (sent-new (svc_draft ask s) label s.bus))
    by j ps false = old j ps ∙ sym (append-nil (marks j ps s.bus))

    whole : (j : ℕ) (ps : List (ℕ × ℕ)) → marks j ps (sent (svc_draft ask s) label s.bus)
        ≡ marks j ps s.bus ++ cond t (mark_in j (is_told (next_number s.bus) j ps)
        (notice_of (svc_ask_kind ask) (svc_ask_payload ask))) []
    whole j ps = ap (marks_of j ps (sent (svc_draft ask s) label s.bus)) (items t wired)
        ∙ by j ps t

    member : (n : ℕ) (t : Bool) → IsIn (Ask n)
        (cond t (c.to_ap ++ Ask (next_number s.bus) ∷ []) c.to_ap)
        → (r : Request) × (request_of n (sent (svc_draft ask s) label s.bus) ≡ Some r)
    member n true i = ⊎_elim (λ o. let w = items-asked s.bus c found asked n o in
        (w.0, sent-request (svc_draft ask s) label s.bus n w.0 w.1)) (λ e. (
          requested (svc_draft ask s) label,
          ap (λ k. request_of k (sent (svc_draft ask s) label s.bus)) (same n (next_number s.bus) e)
              ∙ sent-new (svc_draft ask s) label s.bus,
        )) (in-pushed (Ask n) c.to_ap (Ask (next_number s.bus)) i)
      where
        same : (x y : ℕ) → Ask x ≡ Ask y → x ≡ y
        same x y e = cc
    member n false i = let w = items-asked s.bus c found asked n i in
        (w.0, sent-request (svc_draft ask s) label s.bus n w.0 w.1)

    made : QueueIsAsked (sent (svc_draft ask s) label s.bus)
    made n i = member n t (subst (λ is. IsIn (Ask n) is) (items t wired) i)

-- The supervisory controller asks: what it tells comes behind, or nothing does.
pub after-ask : (ask : SvcAsk) {s : State} → QueueIsAsked s.bus
    → AfterAsk s (svc_asks ask s).state (notice_of (svc_ask_kind ask) (svc_ask_payload ask))
unfolding machine_opened
after-ask ask {s} asked = wired (is_wired (connection_of 1 s.bus))
  where
    same : AfterAsk s s (notice_of (svc_ask_kind ask) (svc_ask_payload ask))
    same = record {
      host = refl;
      modules = refl;
      started = refl;
      asked = asked;
      past = refl;
      keeps = λ n r made. made;
      fresh = λ n r made. inl made;
      ports = refl;
      wired = was-wired BusChange.rests s.bus refl;
      marks_after = untold (λ j ps. refl);
    }

    fresh : (label n : ℕ) (r : Request) → request_of n (sent (svc_draft ask s) label s.bus) ≡ Some r
        → (request_of n s.bus ≡ Some r)
        ⊎ (notice_of r.kind r.payload ≡ notice_of (svc_ask_kind ask) (svc_ask_payload ask))
    fresh label n r made = ⊎_elim (λ old. inl old)
        (λ new. inr (ap (λ (q : Request). notice_of q.kind q.payload) new.1))
        (sent-made (svc_draft ask s) label s.bus n r made)

    sent-by : (c : Connection) (label : ℕ) → connection_of 1 s.bus ≡ Some c → (t : Bool)
        → c.wired ≡ t → AfterAsk s (record s { bus = sent (svc_draft ask s) label s.bus })
        (notice_of (svc_ask_kind ask) (svc_ask_payload ask))
    sent-by c label found true e = let a = asked-on ask label s c found asked true e in
        record {
          host = refl;
          modules = refl;
          started = refl;
          asked = a.0;
          past = refl;
          keeps = sent-request (svc_draft ask s) label s.bus;
          fresh = fresh label;
          ports = refl;
          wired = was-wired (BusChange.sends (svc_draft ask s) label) s.bus refl;
          marks_after = told a.1;
        }
    sent-by c label found false e = let a = asked-on ask label s c found asked false e in
        record {
          host = refl;
          modules = refl;
          started = refl;
          asked = a.0;
          past = refl;
          keeps = sent-request (svc_draft ask s) label s.bus;
          fresh = fresh label;
          ports = refl;
          wired = was-wired (BusChange.sends (svc_draft ask s) label) s.bus refl;
          marks_after = untold (λ j ps. a.1 j ps ∙ append-nil (marks j ps s.bus));
        }

    by : (o : Option Connection) → connection_of 1 s.bus ≡ o → (l : Option ℕ)
        → AfterAsk s (given o (λ c. given l (λ label. asks_with (svc_draft ask s) c label)) s).state
        (notice_of (svc_ask_kind ask) (svc_ask_payload ask))
    by None e l = same
    by (Some c) e None = same
    by (Some c) e (Some label) = sent-by c label e c.wired refl

    wired : (t : Bool) → AfterAsk s (when t (asks (svc_draft ask s)) s).state
        (notice_of (svc_ask_kind ask) (svc_ask_payload ask))
    wired true = by (connection_of 1 s.bus) refl (label_for (svc_draft ask s) s.bus)
    wired false = same

-- It is told, by a request that is made, where the connection is wired and an identifier is left.
pub record IsToldThen (ask : SvcAsk) (s t : State) : Type 0 where
  pub marks_after : (j : ℕ) (ps : List (ℕ × ℕ)) → marks j ps t.bus ≡ marks j ps s.bus
      ++ mark_in j (is_told (next_number s.bus) j ps)
      (notice_of (svc_ask_kind ask) (svc_ask_payload ask))
  pub request : Request
  pub made : request_of (next_number s.bus) t.bus ≡ Some request
  pub kind : request.kind ≡ svc_ask_kind ask
  pub payload : request.payload ≡ svc_ask_payload ask

pub ask-told : (ask : SvcAsk) (s : State) (c : Connection) (label : ℕ) → QueueIsAsked s.bus
    → connection_of 1 s.bus ≡ Some c → c.wired ≡ true
    → next_label 1 side.Far s.bus ≡ Some label → IsToldThen ask s (svc_asks ask s).state
unfolding machine_opened
ask-told ask s c label asked found wired free = subst (IsToldThen ask s) (sym sends) (record {
  marks_after = (asked-on ask label s c found asked true wired).1;
  request = requested (svc_draft ask s) label;
  made = sent-new (svc_draft ask s) label s.bus;
  kind = refl;
  payload = refl;
})
  where
    sends : (svc_asks ask s).state ≡ record s { bus = sent (svc_draft ask s) label s.bus }
    sends =
        ap (λ t. (when t (asks (svc_draft ask s)) s).state) (ap is_wired found ∙ wired)
        ∙ ap (λ o. (given o (λ c. given (label_for (svc_draft ask s) s.bus)
        (λ label. asks_with (svc_draft ask s) c label)) s).state) found
        ∙ ap (λ l. (given l (λ label. asks_with (svc_draft ask s) c label) s).state) free

-- ---- what is told

plus-zero : (i : ℕ) → i + 0 ≡ i
plus-zero i = omega arith

pub tells-inserted : (p count : ℕ) → notice_of (svc_ask_kind (SvcAsk.ModuleInserted p count 0))
    (svc_ask_payload (SvcAsk.ModuleInserted p count 0)) ≡ Some (host_event.Inserted p count)
tells-inserted p count = ap (λ k. Some (host_event.Inserted k (count + 0))) (plus-zero p)
    ∙ ap (λ n. Some (host_event.Inserted p n)) (plus-zero count)

pub tells-removed : (i : ℕ) → notice_of (svc_ask_kind (SvcAsk.ModuleRemoved i))
    (svc_ask_payload (SvcAsk.ModuleRemoved i)) ≡ Some (host_event.Removed i)
tells-removed i = ap (λ k. Some (host_event.Removed k)) (plus-zero i)

pub tells-version : notice_of (svc_ask_kind (SvcAsk.ProtocolVersion 0 1))
    (svc_ask_payload (SvcAsk.ProtocolVersion 0 1)) ≡ None
tells-version = refl

pub tells-hello : notice_of (svc_ask_kind (SvcAsk.Hello 1 1))
    (svc_ask_payload (SvcAsk.Hello 1 1)) ≡ None
tells-hello = refl
