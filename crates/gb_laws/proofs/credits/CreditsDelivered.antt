-- What a delivery makes of the credits of connections: those that come back are told.
use Rattle.std.proofs.Common.{Bool, List, None, Option, Some, ap, arith, cond, false, inl, inr}
use Rattle.std.proofs.Common.{refl, subst, sym, true, ℕ, [], ◌+◌, ◌∙◌, ◌∷◌, ◌≡◌, ◌≤◌, ◌⊎◌}
use Rattle.std.specs.List.{find, list_any}
use Rattle.std.specs.Prelude.{◌==◌}
use Rattle.gb_base.specs.declared.end.{End.End, Side.Side}
use Rattle.gb_base.specs.declared.end.End.TheVariants as end
use Rattle.gb_base.specs.declared.end.Side.TheVariants as side
use Rattle.gb_base.specs.declared.entry.Entry.TheVariants as entry
use Rattle.gb_base.specs.declared.event.Event.TheVariants as event
use Rattle.gb_base.specs.declared.interface.Link.{Link}
use Rattle.gb_formats.specs.{SvcRecords.read_svc_ask_of_svc, UartDevice.most_credits}
use Rattle.gb_formats.specs.{UartRecords.read_uart_ask, UartRecords.read_uart_ask_of_module}
use Rattle.gb_machine.proofs.Opened.{machine_opened}
use Rattle.gb_machine.specs.Actions.{given, on_bus, ◌▸◌}
use Rattle.gb_machine.specs.Bus.{Item, Place, end_of, place_of, queue}
use Rattle.gb_machine.specs.Host.{Host, is_link, link_of, with_link}
use Rattle.gb_machine.specs.HostServing.{host_serves, served_on, with_credits}
use Rattle.gb_machine.specs.LawsCredits.{bytes_sent, count_at, count_in, count_of, count_on}
use Rattle.gb_machine.specs.LawsCredits.{credits_back, is_credits}
use Rattle.gb_machine.specs.Runs.{IsMoment, Moment, after, told_at}
use Rattle.gb_machine.specs.{Arriving.delivers_at, Arriving.handles, Delivery.popped}
use Rattle.gb_machine.specs.{Events.decided, Events.step, Incoming.Incoming, Incoming.request_in}
use Rattle.gb_machine.specs.{Lists.first, Members.IsIn, Refusals.refusal, State.State}
use Rattle.gb_invariants.proofs.Awaiting.{none-some, not-both, same-some}
use Rattle.gb_invariants.proofs.{Lists.found-in, Outcomes.is-same, Outcomes.same-number}
use Rattle.gb_invariants.proofs.{Selves.ap-no-far}
use Rattle.gb_laws.proofs.credits.CreditsLines.{Moved, in-linked, old, other-number}
use Rattle.gb_laws.proofs.credits.CreditsMoved.{back-far, back-untold, count-read, if-zero}
use Rattle.gb_laws.proofs.credits.CreditsMoved.{plain-links}
use Rattle.gb_laws.proofs.credits.CreditsMoved.{sent-other, stayed}
use Rattle.gb_laws.proofs.credits.CreditsServed.{DoesAs, HandlesAs, IsPlainly, UartServed}
use Rattle.gb_laws.proofs.credits.CreditsServed.{comes_back}
use Rattle.gb_laws.proofs.credits.CreditsServed.{drops_it, handles-does, nothing_back, takes_it}
use Rattle.gb_laws.proofs.credits.CreditsServed.{uart-served}
use Rattle.gb_laws.proofs.{together.Absent.far-end, links.LinkFrom.Linked}
use Rattle.gb_laws.proofs.{links.LinkHosts.same-link, links.LinkLists.found-at}
use Rattle.gb_laws.proofs.{links.LinkLists.found-link, links.LinkRuns.LinkedTo}
use Rattle.gb_laws.proofs.{links.Links.SameLink, points.Places.place-is}
use Rattle.gb_laws.proofs.{points.PointParts.IsServed, points.Points.IsBridge}
use Rattle.gb_laws.proofs.{links.Removing.delivered-state}
use Rattle.gb_laws.proofs.{runs.SettleQueues.IsFarEnd, links.LinkActs.svc-host}
use Rattle.gb_laws.proofs.{steps.DeliveredHands.request-popped}

-- the front item at a place was taken
abbrev with_taken : Place → State → State
with_taken p s = record s { bus = popped p.connection.number p.side s.bus }

-- a connection has the number of a place
abbrev has_place : Place → Link → Bool
has_place p l = l.connection == p.connection.number

module _ (m : Moment) (one : IsMoment m.event) (start : LinkedTo m.told m.before) (at : End)
    (is : m.event ≡ event.Deliver at) (allowed : refusal m.before m.event ≡ None) (p : Place)
    (item : Item) (named : place_of at m.before.bus.connections ≡ Some p)
    (front : first (queue p.side p.connection) ≡ Some item) where
  links : Linked m.before.bus m.before.host []
  links = start.1

  no-line : IsBridge m.event → ⊥
  no-line b = subst IsBridge is b

  -- what is served then is at this place
  same-place : {k kind : ℕ} {payload : List ℕ} → (x : IsServed m k kind payload) → x.place ≡ p
  same-place x = same-some x.place p (sym x.named
      ∙ ap (λ e. place_of e m.before.bus.connections) (same-at x.at at (sym x.event ∙ is)) ∙ named)
    where
      same-at : (a b : End) → event.Deliver a ≡ event.Deliver b → a ≡ b
      same-at a b e = cc

  same-number-at : {k kind : ℕ} {payload : List ℕ} → IsServed m k kind payload
      → p.connection.number ≡ k
  same-number-at x = sym (ap (λ (q : Place). q.connection.number) (same-place x)) ∙ x.on

  -- nothing changes, and no credits are told
  unchanged : (after m).host ≡ m.before.host → list_any is_credits (told_at m) ≡ false
      → (l : Link) → IsIn l (after m).host.links → Moved m l
  unchanged host untold l i =
      let sent = sent-other l.connection m m.event no-line in
      let back = back-untold l.connection m m.event untold in
      old l (subst (λ (h : Host). IsIn l h.links) host i) (same-link l)
      (λ q. record { sum = omega (arith, sent, back); bound = λ h. h })

  -- ---- at a far end

  moved-far : p.side ≡ side.Far → (l : Link) → IsIn l (after m).host.links → Moved m l
  moved-far far = stayed m one start (record {
    line = no-line;
    served = λ k kind payload x. absurd (ap-no-far
        (sym x.side ∙ ap (λ (q : Place). q.side) (same-place x) ∙ far));
  }) (λ l i q. (
    sent-other l.connection m m.event no-line,
    ap (credits_back l.connection m) is ∙ back-far l.connection m at far_end,
  ))
    where
      far_end : IsFarEnd at
      far_end =
          let place = place-is at m.before.bus.connections p named in
          subst IsFarEnd (ap (λ s. end_of s p.connection) (sym far) ∙ place.is)
          (far-end m.before links p.connection place.live)

  -- ---- at the application processor

  module _ (ap_side : p.side ≡ side.Ap) where
    at-ap : at ≡ end.Ap p.connection.ap
    at-ap = sym (place-is at m.before.bus.connections p named).is
        ∙ ap (λ s. end_of s p.connection) ap_side

    -- what comes back is what the item counts, where credits are told
    counts : (k : ℕ) (t : Bool) → list_any is_credits (told_at m) ≡ t
        → credits_back k m m.event ≡ cond t (cond (p.connection.number == k)
        (count_of (request_in item m.before.bus)) 0) 0
    counts k t told =
        ap (credits_back k m) (is ∙ ap event.Deliver at-ap)
        ∙ ap (λ u. cond u (count_on k m.before.bus
        (place_of (end.Ap p.connection.ap) m.before.bus.connections)) 0) told
        ∙ ap (λ o. cond t (count_on k m.before.bus o) 0)
        (ap (λ e. place_of e m.before.bus.connections) (sym at-ap) ∙ named)
        ∙ ap (λ o. cond t (cond (p.connection.number == k) (count_at m.before.bus o) 0) 0) front

    -- nothing does on other connections
    elsewhere : (k : ℕ) → (p.connection.number == k) ≡ false → credits_back k m m.event ≡ 0
    elsewhere k other = counts k (list_any is_credits (told_at m)) refl
        ∙ ap (λ u. cond (list_any is_credits (told_at m))
        (cond u (count_of (request_in item m.before.bus)) 0) 0) other
        ∙ if-zero (list_any is_credits (told_at m)) 0 refl

    -- a connection with this number is found
    found : (l : Link) → IsIn l m.before.host.links → (p.connection.number == l.connection) ≡ true
        → link_of p.connection.number m.before.host ≡ Some l
    found l i e = ap (λ k. link_of k m.before.host) (same-number p.connection.number l.connection e)
        ∙ found-link m.before.host.links l links.host.links.rise i

    -- on the supervisory controller's connection
    moved-svc : link_of p.connection.number m.before.host ≡ None
        → (l : Link) → IsIn l (after m).host.links → Moved m l
    moved-svc none = stayed m one start (record {
      line = no-line;
      served = λ k kind payload x. ap (λ o. (served_on o kind payload m.before.host).host.links)
          (ap (λ n. link_of n m.before.host) (sym (same-number-at x)) ∙ none)
          ∙ ap (λ (g : Host). g.links)
          (svc-host m.before.host (read_svc_ask_of_svc kind payload));
    }) (λ l i q. (
      sent-other l.connection m m.event no-line,
      elsewhere l.connection (by l i (p.connection.number == l.connection) refl),
    ))
      where
        by : (l : Link) → IsIn l m.before.host.links → (t : Bool)
            → (p.connection.number == l.connection) ≡ t → t ≡ false
        by l i false e = refl
        by l i true e = absurd (none-some (sym none ∙ found l i e))

    -- on a connection of another protocol
    moved-plain : (k : Link) → link_of p.connection.number m.before.host ≡ Some k
        → (k.protocol == 0x04) ≡ false → (l : Link) → IsIn l (after m).host.links → Moved m l
    moved-plain k at_k other = stayed m one start (record {
      line = no-line;
      served = λ n kind payload x. ap (λ o. (served_on o kind payload m.before.host).host.links)
          (ap (λ j. link_of j m.before.host) (sym (same-number-at x)) ∙ at_k)
          ∙ plain-links k kind payload m.before.host other;
    }) (λ l i q. (
      sent-other l.connection m m.event no-line,
      elsewhere l.connection (by l i q (p.connection.number == l.connection) refl),
    ))
      where
        by : (l : Link) → IsIn l m.before.host.links → l.protocol ≡ 0x04 → (t : Bool)
            → (p.connection.number == l.connection) ≡ t → t ≡ false
        by l i q false e = refl
        by l i q true e = absurd (not-both (k.protocol == 0x04)
            (ap (λ (y : Link). y.protocol == 0x04) (same-some k l (sym at_k ∙ found l i e))
            ∙ ap (λ n. n == 0x04) q) other)

    -- an item that is no request
    moved-answer : request_in item m.before.bus ≡ None
        → (l : Link) → IsIn l (after m).host.links → Moved m l
    moved-answer none = stayed m one start (record {
      line = no-line;
      served = λ k kind payload x. absurd (none-some (sym none
          ∙ ap (λ y. request_in y m.before.bus) (sym (same-some x.item item (sym x.front
          ∙ ap (λ (q : Place). first (queue q.side q.connection)) (same-place x) ∙ front)))
          ∙ x.made));
    }) (λ l i q. (
      sent-other l.connection m m.event no-line,
      counts l.connection (list_any is_credits (told_at m)) refl
          ∙ ap (λ o. cond (list_any is_credits (told_at m))
          (cond (p.connection.number == l.connection) (count_of o) 0) 0) none
          ∙ if-zero (list_any is_credits (told_at m)) _
          (if-zero (p.connection.number == l.connection) 0 refl),
    ))

    -- a request of a UART
    module _ (k : Link) (q : Incoming) (at_k : link_of p.connection.number m.before.host ≡ Some k)
        (uart : k.protocol ≡ 0x04) (made : request_in item m.before.bus ≡ Some q) where
      free_at : refusal m.before (event.Deliver at) ≡ None
      free_at = ap (refusal m.before) (sym is) ∙ allowed

      host-is : (after m).host ≡ (handles side.Ap p.connection item
          (with_taken p m.before)).state.host
      host-is = ap (λ (s : State). s.host) (delivered-state m at p item is named front free_at)
          ∙ ap (λ s. (handles s p.connection item (with_taken p m.before)).state.host) ap_side

      told-is : list_any is_credits (told_at m)
          ≡ list_any is_credits (handles side.Ap p.connection item (with_taken p m.before)).entries
      unfolding machine_opened
      told-is = ap (λ e. list_any is_credits (step m.before e).entries) is
          ∙ ap (λ o. list_any is_credits (decided o (event.Deliver at) m.before).entries) free_at
          ∙ ap (λ o. list_any is_credits (entry.Done ∷
          (given o delivers_at m.before).entries)) named
          ∙ ap (λ o. list_any is_credits (entry.Done ∷ (given o
          (λ x. on_bus (popped p.connection.number p.side) ▸ handles p.side p.connection x)
          m.before).entries)) front ∙ ap (λ s. list_any is_credits (handles s p.connection item
          (with_taken p m.before)).entries) ap_side

      live : IsIn k m.before.host.links
      live = (found-in (has_place p) m.before.host.links k at_k).0

      on : p.connection.number ≡ k.connection
      on = sym (same-number k.connection p.connection.number
          (found-in (has_place p) m.before.host.links k at_k).1)

      -- credits come back
      back : (count : ℕ) → count_in (read_uart_ask q.kind q.payload) ≡ count
          → k.credits + count ≤ most_credits → (after m).host ≡ with_link k.intf k.cport
          (with_credits (k.credits + count)) m.before.host → list_any is_credits (told_at m) ≡ true
          → (l : Link) → IsIn l (after m).host.links → Moved m l
      back count read fits host told l i =
          by (in-linked k.intf k.cport (with_credits (k.credits + count)) m.before.host.links l
          links.host.links.rise (subst (λ (h : Host). IsIn l h.links) host i))
        where
          sent : bytes_sent l.connection m m.event ≡ 0
          sent = sent-other l.connection m m.event no-line

          by : (IsIn l m.before.host.links × (is_link k.intf k.cport l ≡ false))
              ⊎ ((y : Link) × IsIn y m.before.host.links
              × (find (is_link k.intf k.cport) m.before.host.links ≡ Some y)
              × (l ≡ with_credits (k.credits + count) y)) → Moved m l
          by (inl o) =
              let none = elsewhere l.connection (ap (λ n. n == l.connection) on
              ∙ other-number m.before.host.links k l links.host.links.rise live o.0 o.1) in
              old l o.0 (same-link l)
              (λ u. record { sum = omega (arith, sent, none); bound = λ h. h })
          by (inr w) =
              let same : k ≡ w.0 = same-some k w.0
              (sym (found-at m.before.host.links k links.host.links.rise live) ∙ w.2) in
              let number : p.connection.number ≡ l.connection = on
              ∙ ap (λ (y : Link). y.connection) same ∙ sym (ap (λ (y : Link). y.connection) w.3) in
              let came : credits_back l.connection m m.event ≡ count =
              counts l.connection true told
              ∙ ap (λ u. cond u (count_of (request_in item m.before.bus)) 0)
              (ap (λ n. n == l.connection) number ∙ is-same l.connection)
              ∙ ap count_of made ∙ read in
              let more : l.credits ≡ k.credits + count = ap (λ (y : Link). y.credits) w.3 in
              let was_it : k.credits ≡ w.0.credits = ap (λ (y : Link). y.credits) same in
              old w.0 w.1 (subst (SameLink w.0) (sym w.3)
              (record { connection = refl; ap = refl; intf = refl; cport = refl; protocol = refl }))
              (λ u. record {
                sum = omega (arith, sent, came, more, was_it);
                bound = λ h. omega (arith, more, fits);
              })

      moved-uart : (l : Link) → IsIn l (after m).host.links → Moved m l
      moved-uart = by (handles-does p.connection item q (with_taken p m.before)
          (request-popped item p.connection.number p.side m.before.bus ∙ made) serve.1)
        where
          serve : UartServed k m.before.host (read_uart_ask_of_module q.kind q.payload)
              (host_serves p.connection.number q.kind q.payload m.before.host)
              × IsPlainly m.before.host
              (host_serves p.connection.number q.kind q.payload m.before.host)
          serve = uart-served p.connection.number q.kind q.payload k at_k uart

          took : UartServed k m.before.host (read_uart_ask_of_module q.kind q.payload)
              (host_serves p.connection.number q.kind q.payload m.before.host)
              → DoesAs (host_serves p.connection.number q.kind q.payload m.before.host)
              (handles side.Ap p.connection item (with_taken p m.before))
              → (l : Link) → IsIn l (after m).host.links → Moved m l
          took (nothing_back same untold) d =
              unchanged (host-is ∙ d.host ∙ same) (told-is ∙ d.told ∙ untold)
          took (comes_back count read fits host told) d =
              back count (count-read q.kind q.payload count read) fits (host-is ∙ d.host ∙ host)
              (told-is ∙ d.told ∙ told)

          by : HandlesAs m.before.host
              (host_serves p.connection.number q.kind q.payload m.before.host)
              (handles side.Ap p.connection item (with_taken p m.before))
              → (l : Link) → IsIn l (after m).host.links → Moved m l
          by (takes_it d) = took serve.0 d
          by (drops_it same untold) = unchanged (host-is ∙ same) (told-is ∙ untold)

    moved-ap : (l : Link) → IsIn l (after m).host.links → Moved m l
    moved-ap = by (link_of p.connection.number m.before.host) refl
      where
        by_item : (k : Link) → link_of p.connection.number m.before.host ≡ Some k
            → k.protocol ≡ 0x04 → (o : Option Incoming) → request_in item m.before.bus ≡ o
            → (l : Link) → IsIn l (after m).host.links → Moved m l
        by_item k e uart None f = moved-answer f
        by_item k e uart (Some q) f = moved-uart k q e uart f

        by_protocol : (k : Link) → link_of p.connection.number m.before.host ≡ Some k → (t : Bool)
            → (k.protocol == 0x04) ≡ t → (l : Link) → IsIn l (after m).host.links → Moved m l
        by_protocol k e false f = moved-plain k e f
        by_protocol k e true f = by_item k e (same-number k.protocol 0x04 f)
            (request_in item m.before.bus) refl

        by : (o : Option Link) → link_of p.connection.number m.before.host ≡ o
            → (l : Link) → IsIn l (after m).host.links → Moved m l
        by None e = moved-svc e
        by (Some k) e = by_protocol k e (k.protocol == 0x04) refl

  pub moved-delivery : (l : Link) → IsIn l (after m).host.links → Moved m l
  moved-delivery = by p.side refl
    where
      by : (s : Side) → p.side ≡ s → (l : Link) → IsIn l (after m).host.links → Moved m l
      by side.Far e = moved-far e
      by side.Ap e = moved-ap e
