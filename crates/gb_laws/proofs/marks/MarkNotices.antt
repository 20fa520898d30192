-- What the application processor takes notice of comes on the supervisory controller's connection.
use Rattle.std.proofs.Common.{Bool, List, None, Option, Some, ap, cond, false, inl, inr, refl}
use Rattle.std.proofs.Common.{subst, sym, true, ℕ, [], ◌++◌, ◌∙◌, ◌∷◌, ◌≡◌, ◌⊎◌}
use Rattle.std.specs.Prelude.{Err, Ok, Result, ◌==◌}
use Rattle.gb_base.specs.declared.end.End.TheVariants as end
use Rattle.gb_base.specs.declared.end.Side.TheVariants as side
use Rattle.gb_base.specs.declared.event.Event.TheVariants as event
use Rattle.gb_base.specs.declared.host_event.HostEvent.TheVariants as host_event
use Rattle.gb_base.specs.declared.host_event.HostEvent.{HostEvent}
use Rattle.gb_base.specs.declared.interface.Link.{Link}
use Rattle.gb_formats.specs.Records.{PayloadFault, Row, if_own, read_row, row_of}
use Rattle.gb_formats.specs.SvcRecords.{SvcAsk, read_svc_ask, read_svc_ask_of_svc, svc_asks}
use Rattle.gb_formats.specs.{GpioRecords.GpioAsk, GpioRecords.read_gpio_ask_of_module}
use Rattle.gb_formats.specs.{UartDevice.credits_added, UartRecords.UartAsk}
use Rattle.gb_formats.specs.{UartRecords.read_uart_ask_of_module}
use Rattle.gb_machine.specs.Bus.{Ask, Bus, Connection, Item, Request, connection_of, end_of, queue}
use Rattle.gb_machine.specs.Bus.{request_of}
use Rattle.gb_machine.specs.Host.{Host, first_host, link_of}
use Rattle.gb_machine.specs.HostServing.{HostServed, credited, host_refuses, interrupted}
use Rattle.gb_machine.specs.HostServing.{notified_by, served_on, serves_firmware, serves_gpio}
use Rattle.gb_machine.specs.HostServing.{serves_svc, serves_uart, uart_notified_by}
use Rattle.gb_machine.specs.Incoming.{Incoming}
use Rattle.gb_machine.specs.SvcQueues.{HandlesRemoval, is_told, items_in, svc_items}
use Rattle.gb_machine.specs.{Lists.behind_first, Lists.first, Runs.Moment, State.State}
use Rattle.gb_invariants.proofs.Awaiting.{none-some, not-both, same-some}
use Rattle.gb_invariants.proofs.{Found.find-none, ItemChanges.first-in, Numbers.found-by_number}
use Rattle.gb_invariants.proofs.{Outcomes.is-same}
use Rattle.gb_invariants.proofs.Requests.{numbered-ask}
use Rattle.gb_laws.proofs.links.Links.{IsKnown, leaving, linked, supervisory}
use Rattle.gb_laws.proofs.points.PointParts.{Basis, IsNoticed, resting}
use Rattle.gb_laws.proofs.marks.Marks.{MarksFit, Reads, known_at, mark_in, marks_of, notice_of}
use Rattle.gb_laws.proofs.marks.Marks.{request_mark}
use Rattle.gb_laws.proofs.{links.LinkFrom.Linked, points.Places.place-is}
use Rattle.gb_laws.proofs.marks.Wholes.{plugged_at}

-- ---- nothing is noticed on the connection of a module

unnoticed-if : (t : Bool) (x y : HostServed) → x.notices ≡ None → y.notices ≡ None
    → (cond t x y).notices ≡ None
unnoticed-if true x y p q = p
unnoticed-if false x y p q = q

unnoticed-gpio : (h : Host) (l : Link) (r : Result GpioAsk PayloadFault)
    → (interrupted l r h).notices ≡ None
unnoticed-gpio h l (Err fault) = refl
unnoticed-gpio h l (Ok (GpioAsk.IrqEvent which)) = refl
unnoticed-gpio h l (Ok _) = refl

unnoticed-credits : (h : Host) (l : Link) (o : Option ℕ) → (credited l o h).notices ≡ None
unnoticed-credits h l None = refl
unnoticed-credits h l (Some total) = refl

unnoticed-uart : (h : Host) (l : Link) (r : Result UartAsk PayloadFault)
    → (uart_notified_by l r h).notices ≡ None
unnoticed-uart h l (Ok (UartAsk.ReceiveCredits count)) =
    unnoticed-credits h l (credits_added l.credits count)
unnoticed-uart h l _ = refl

pub unnoticed : (l : Link) (kind : ℕ) (payload : List ℕ) (h : Host)
    → (served_on (Some l) kind payload h).notices ≡ None
unnoticed l kind payload h =
    unnoticed-if (l.protocol == 0x02) (serves_gpio l kind payload h) _
    (unnoticed-gpio h l (read_gpio_ask_of_module kind payload))
    (unnoticed-if (l.protocol == 0x04) (serves_uart l kind payload h) _
    (unnoticed-uart h l (read_uart_ask_of_module kind payload))
    (unnoticed-if (l.protocol == 0x17) (serves_firmware l kind payload h) (host_refuses _ h)
    refl refl))

-- ---- what is noticed is what the supervisory controller tells

-- the record that says so
abbrev pub Tells : HostEvent → Result SvcAsk PayloadFault → Type 0
Tells (host_event.Inserted p count) r = (flags : ℕ) × (r ≡ Ok (SvcAsk.ModuleInserted p count flags))
Tells (host_event.Removed i) r = r ≡ Ok (SvcAsk.ModuleRemoved i)
Tells _ r = ⊥

told-by : (e : HostEvent) (r : Result SvcAsk PayloadFault) (h : Host)
    → (notified_by r h).notices ≡ Some e → Tells e r
told-by e (Ok (SvcAsk.ModuleInserted j count flags)) h f =
    subst (λ x. Tells x (Ok (SvcAsk.ModuleInserted j count flags)))
    (same-some (host_event.Inserted j count) e f) (flags, refl)
told-by e (Ok (SvcAsk.ModuleRemoved j)) h f =
    subst (λ x. Tells x (Ok (SvcAsk.ModuleRemoved j))) (same-some (host_event.Removed j) e f) refl
told-by e _ h f = absurd cc

-- a request of the far side is read as any other is, or is none of its
pub far-reads : {A : Type 0} (row : Option (Row A)) (payload : List ℕ)
    → (read_row (if_own row) payload ≡ read_row row payload)
    ⊎ (read_row (if_own row) payload ≡ Err PayloadFault.UnknownKind)
far-reads None payload = inl refl
far-reads (Some row) payload = by row.own
  where
    by : (own : Bool) → (read_row (cond own (Some row) None) payload ≡ read_row (Some row) payload)
        ⊎ (read_row (cond own (Some row) None) payload ≡ Err PayloadFault.UnknownKind)
    by true = inl refl
    by false = inr refl

pub told-svc : (e : HostEvent) (kind : ℕ) (payload : List ℕ) (h : Host)
    → (serves_svc kind payload h).notices ≡ Some e → Tells e (read_svc_ask kind payload)
told-svc e kind payload h f = by (far-reads (row_of svc_asks kind) payload)
    (told-by e (read_svc_ask_of_svc kind payload) h f)
  where
    none : (e : HostEvent) → Tells e (Err PayloadFault.UnknownKind)
        → Tells e (read_svc_ask kind payload)
    none (host_event.Inserted p count) t = let e = t.1 in absurd cc
    none (host_event.Removed p) t = absurd cc
    none _ t = absurd t

    by : (read_svc_ask_of_svc kind payload ≡ read_svc_ask kind payload)
        ⊎ (read_svc_ask_of_svc kind payload ≡ Err PayloadFault.UnknownKind)
        → Tells e (read_svc_ask_of_svc kind payload) → Tells e (read_svc_ask kind payload)
    by (inl same) t = subst (Tells e) same t
    by (inr other) t = none e (subst (Tells e) other t)

-- What is noticed at a moment: the front request on the supervisory controller's
-- connection tells it.
pub record IsToldBySvc (m : Moment) (e : HostEvent) : Type 0 where
  pub number : ℕ
  pub request : Request
  pub is : m.event ≡ event.Deliver (end.Ap 0)
  pub front : first (svc_items side.Ap m.before.bus) ≡ Some (Ask number)
  pub made : request_of number m.before.bus ≡ Some request
  pub notice : notice_of request.kind request.payload ≡ Some e
  pub tells : Tells e (read_svc_ask request.kind request.payload)

-- the connection without a link is the supervisory controller's
number-one : (b : Bus) (h : Host) (c : Connection) → IsKnown c h.links []
    → link_of c.number h ≡ None → c.number ≡ 1
number-one b h c (supervisory e) none = e
number-one b h c (leaving i) none = absurd i
number-one b h c (linked l i of) none =
    absurd (not-both (l.connection == c.number)
    (ap (λ n. l.connection == n) of.number ∙ is-same l.connection)
    (find-none (λ k. k.connection == c.number) h.links l none i))

-- what is noticed doesn't depend on the application processor
pub notice-any : (kind : ℕ) (payload : List ℕ) (h g : Host)
    → (serves_svc kind payload h).notices ≡ (serves_svc kind payload g).notices
notice-any kind payload h g = read (read_svc_ask_of_svc kind payload)
  where
    read : (r : Result SvcAsk PayloadFault) → (notified_by r h).notices ≡ (notified_by r g).notices
    read (Err fault) = refl
    read (Ok (SvcAsk.ModuleInserted j count flags)) = refl
    read (Ok (SvcAsk.ModuleRemoved j)) = refl
    read (Ok (SvcAsk.ProtocolVersion major minor)) = refl
    read (Ok (SvcAsk.Hello endo intf)) = refl
    read (Ok _) = refl

-- What is noticed at a moment stands in front on the supervisory controller's connection.
pub record SvcFront (m : Moment) (e : HostEvent) (n : IsNoticed m e) : Type 0 where
  pub one : n.place.connection.number ≡ 1
  pub number : ℕ
  pub request : Request
  pub item : n.item ≡ Ask number
  pub made : request_of number m.before.bus ≡ Some request
  pub notice : notice_of request.kind request.payload ≡ Some e

pub svc-front : (m : Moment) (e : HostEvent) (n : IsNoticed m e) → Basis (resting m.told m.before)
    → Linked m.before.bus m.before.host [] → SvcFront m e n
svc-front m e n basis links = by (link_of n.place.connection.number m.before.host) refl n.notices
  where
    by : (o : Option Link) → link_of n.place.connection.number m.before.host ≡ o
        → (served_on o n.request.kind n.request.payload m.before.host).notices ≡ Some e
        → SvcFront m e n
    by (Some l) f g = absurd (none-some
        (sym (unnoticed l n.request.kind n.request.payload m.before.host) ∙ g))
    by None f g =
        let place = place-is n.at m.before.bus.connections n.place n.named in
        let c = n.place.connection in
        let one = number-one m.before.bus m.before.host c (links.known c place.live) f in
        let svc = links.svc c place.live one in
        let waits = first-in (queue n.place.side c) n.item n.front in
        let numbered = (basis.bus.items.answerable c n.place.side n.item place.live waits).numbered
        svc.clean in
        let ask = numbered-ask n.item m.before.bus n.request numbered n.made in record {
          one = one;
          number = ask.0;
          request = ask.1;
          item = ask.2;
          made = ask.3;
          notice = subst (λ (q : Incoming). notice_of q.kind q.payload ≡ Some e) (sym ask.4)
              (notice-any n.request.kind n.request.payload first_host m.before.host ∙ g);
        }

-- the request that says so
pub told-by_svc : (m : Moment) (e : HostEvent) → Basis (resting m.told m.before)
    → Linked m.before.bus m.before.host [] → IsNoticed m e → IsToldBySvc m e
told-by_svc m e basis links n =
    let f = svc-front m e n basis links in
    let place = place-is n.at m.before.bus.connections n.place n.named in
    let c = n.place.connection in
    let svc = links.svc c place.live f.one in
    let found : connection_of 1 m.before.bus ≡ Some c =
    subst (λ k. connection_of k m.before.bus ≡ Some c) f.one
    (found-by_number m.before.bus.connections c basis.bus.numbers.rise place.live) in record {
      number = f.number;
      request = f.request;
      is = n.event ∙ ap event.Deliver
          (sym place.is ∙ ap (λ s. end_of s c) n.side ∙ ap end.Ap svc.ap);
      front = ap (λ o. first (items_in side.Ap o)) found ∙ ap (λ s. first (queue s c)) (sym n.side)
          ∙ n.front ∙ ap Some f.item;
      made = f.made;
      notice = f.notice;
      tells = told-svc e f.request.kind f.request.payload first_host f.notice;
    }

-- ---- removals

pub first-behind : (xs : List Item) (x : Item) → first xs ≡ Some x → xs ≡ x ∷ behind_first xs
first-behind [] x e = absurd cc
first-behind (y ∷ ys) x e = ap (λ z. z ∷ ys) (same-some y x e)

-- the front request is read first
pub reads-front : (i n : ℕ) (s : State) (r : Request) (e : HostEvent) → MarksFit s
    → first (svc_items side.Ap s.bus) ≡ Some (Ask n) → request_of n s.bus ≡ Some r
    → notice_of r.kind r.payload ≡ Some e → (t : Bool) → is_told n i s.past.pulled ≡ t
    → Reads (known_at i s.host) (mark_in i t (Some e) ++ marks_of i s.past.pulled s.bus
    (behind_first (svc_items side.Ap s.bus))) (plugged_at i s.modules)
reads-front i n s r e start front made notice t told =
    subst (λ ms. Reads (known_at i s.host) ms (plugged_at i s.modules))
    (ap (marks_of i s.past.pulled s.bus) (first-behind (svc_items side.Ap s.bus) (Ask n) front)
    ∙ ap (λ ms. ms ++ marks_of i s.past.pulled s.bus (behind_first (svc_items side.Ap s.bus)))
    (ap (request_mark i (is_told n i s.past.pulled)) made
    ∙ ap (mark_in i (is_told n i s.past.pulled)) notice
    ∙ ap (λ u. mark_in i u (Some e)) told)) (start.reads i)

-- The removal of the module that is known at an interface is the removal of that interface: where
-- the one is noticed, the other is handled at that moment.
pub removal-handled : (i p : ℕ) (m : Moment) → Basis (resting m.told m.before)
    → Linked m.before.bus m.before.host [] → MarksFit m.before → known_at i m.before.host ≡ Some p
    → IsNoticed m (host_event.Removed p) → HandlesRemoval i m
removal-handled i p m basis links start known n = record {
  number = t.number;
  is = t.is;
  front = t.front;
  told = by (is_told t.number i m.before.past.pulled) refl;
}
  where
    t : IsToldBySvc m (host_event.Removed p)
    t = told-by_svc m (host_event.Removed p) basis links n

    by : (own : Bool) → is_told t.number i m.before.past.pulled ≡ own → own ≡ true
    by true e = refl
    by false e = absurd ((reads-front i t.number m.before t.request (host_event.Removed p) start
        t.front t.made t.notice false e).0 known)
