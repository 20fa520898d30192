-- What is known of the front item toward an end and of its connection, before and once it is taken.
use Rattle.std.proofs.Common.{Bool, List, None, Some, ap, arith, false, refl, subst, sym, true, ℕ}
use Rattle.std.proofs.Common.{[], ◌∙◌, ◌≡◌}
use Rattle.std.specs.Prelude.{option_map, ◌==◌}
use Rattle.gb_base.specs.declared.end.End.{End}
use Rattle.gb_base.specs.declared.host_event.HostEvent.TheVariants as host_event
use Rattle.gb_base.specs.declared.outcome.Outcome.{Outcome}
use Rattle.gb_base.specs.declared.interface.Link.{Link}
use Rattle.gb_base.specs.declared.end.End.TheVariants as end
use Rattle.gb_machine.proofs.{Conditions.waits}
use Rattle.gb_machine.specs.Bus.{Ask, Connection, Item, Place, Reply, Request, other_side, place_of}
use Rattle.gb_machine.specs.Bus.{queue, request_of}
use Rattle.gb_machine.specs.{Delivery.popped, Host.link_of, HostTurns.host_turn}
use Rattle.gb_machine.specs.{LawsHotPlug.IsAnswerTo, LawsHotPlug.label_in, Lists.first}
use Rattle.gb_machine.specs.{Members.IsIn, Requests.open_with, Runs.Moment, State.State}
use Rattle.gb_machine.specs.{SvcQueues.is_reply_to, Turns.Act, Wiring.joining}
use Rattle.gb_invariants.proofs.Awaiting.{is_of-is, none-some, not-both, same-some}
use Rattle.gb_invariants.proofs.BusChanges.{BusChange, Was, came, stayed, was, went}
use Rattle.gb_invariants.proofs.Outcomes.{both-true, is-same, same-number}
use Rattle.gb_invariants.proofs.{Drawing.open_with-in_use, ItemChanges.first-in, Lists.found-in}
use Rattle.gb_invariants.proofs.{Numbers.same-connection, Selves.module-no-svc}
use Rattle.gb_invariants.specs.Facts.{IsMadeOn, IsOwn, is_numbered}
use Rattle.gb_invariants.proofs.HostChanges.{at_event}
use Rattle.gb_laws.proofs.links.LinkLeaves.{WhyLeft, closed, removed, why-left}
use Rattle.gb_laws.proofs.links.Links.{IsKnown, leaving, linked, supervisory}
use Rattle.gb_laws.proofs.{links.LinkFrom.Linked, links.LinkLists.found-link}
use Rattle.gb_laws.proofs.{links.LinkLists.one-link}
use Rattle.gb_laws.proofs.{points.Places.IsPlace, points.Places.place-is}
use Rattle.gb_laws.proofs.{steps.ServedOn.joining-live}
use Rattle.gb_laws.proofs.{creations.StaleRuns.StaleTo}

module _ (m : Moment) (h : StaleTo m.told m.before) (to : End) (p : Place) (item : Item)
    (named : place_of to m.before.bus.connections ≡ Some p)
    (front : first (queue p.side p.connection) ≡ Some item) where
  -- ---- what is known before

  links : Linked m.before.bus m.before.host []
  links = h.since.links.1

  place : IsPlace to m.before.bus.connections p
  place = place-is to m.before.bus.connections p named

  waiting : IsIn item (queue p.side p.connection)
  waiting = first-in (queue p.side p.connection) item front

  -- the state once the item was taken
  abbrev pub taken : State
  taken = record m.before { bus = popped p.connection.number p.side m.before.bus }

  -- raw bytes and the replies to them are on unclean connections alone
  pub unclean : is_numbered item ≡ false → p.connection.clean ≡ false
  unclean raw = by p.connection.clean refl
    where
      by : (t : Bool) → p.connection.clean ≡ t → t ≡ false
      by false e = refl
      by true e = absurd (not-both (is_numbered item) ((h.since.links.0.bus.items.answerable
          p.connection p.side item place.live waiting).numbered e) raw)

  -- what has the connection's number has its far end
  popped-peer : (c : Connection) → IsIn c taken.bus.connections → c.number ≡ p.connection.number
      → c.peer ≡ p.connection.peer
  popped-peer c live on =
      by (was (BusChange.takes p.connection.number p.side) m.before.bus c live)
    where
      same : (d : Connection) → IsIn d m.before.bus.connections
          → d.number ≡ p.connection.number → d.peer ≡ p.connection.peer
      same d i e = ap (λ (x : Connection). x.peer) (same-connection m.before.bus.connections d
          p.connection h.since.links.0.bus.numbers.rise i place.live e)

      by : Was (BusChange.takes p.connection.number p.side) m.before.bus c
          → c.peer ≡ p.connection.peer
      by (stayed o) = same c o on
      by (went d o of is g) = g.ends.peer ∙ same d o of
      by (came e) = absurd (none-some e)

  -- a request that waits was made
  pub asked-made : (n : ℕ) → item ≡ Ask n
      → IsMadeOn p.connection.number (other_side p.side) n m.before.bus
  asked-made n is = subst (IsOwn m.before.bus p.connection.number p.side) is
      (h.since.links.0.bus.items.own p.connection p.side item place.live waiting)

  -- ---- responses

  -- an item with the number of a request answers that
  pub numbered-answer : (n result : ℕ) (payload : List ℕ) → item ≡ Reply n result payload
      → IsAnswerTo p item m.before.bus n
  numbered-answer n result payload is =
      let own : IsMadeOn p.connection.number p.side n m.before.bus =
      subst (IsOwn m.before.bus p.connection.number p.side) is
      (h.since.links.0.bus.items.own p.connection p.side item place.live waiting) in
      record {
        request = own.0;
        made = own.1;
        connection = own.2;
        side = own.3;
        label = ap (λ x. label_in x m.before.bus) is
            ∙ ap (option_map (λ (r : Request). r.label)) own.1;
        number = λ clean. ap (is_reply_to n) is ∙ is-same n;
      }

  -- on an unclean connection one with the identifier of an open request does
  pub labelled-answer : (label n : ℕ) → label_in item m.before.bus ≡ Some label
      → p.connection.clean ≡ false
      → open_with p.connection.number p.side label taken.bus ≡ Some n
      → IsAnswerTo p item m.before.bus n
  labelled-answer label n is dirty e =
      let w = open_with-in_use p.connection.number p.side label taken.bus n e in
      let has = both-true _ (w.0.label == label) w.2 in
      let of = is_of-is p.connection.number p.side w.0 has.0 in
      record {
        request = w.0;
        made = w.1;
        connection = of.0;
        side = sym of.1;
        label = is ∙ ap Some (sym (same-number w.0.label label has.1));
        number = λ clean. absurd (not-both p.connection.clean clean dirty);
      }

  -- a request that is answered is none that closes this connection
  pub stays-answered : (n : ℕ) (how : Outcome) → IsAnswerTo p item m.before.bus n
      → IsIn (Act.Leave p.connection.number) (host_turn (host_event.Ended n how) m.before.host).acts
      → ⊥
  stays-answered n how x i = by (why-left m.before.bus (at_event (host_event.Ended n how))
      m.before.host p.connection.number links.host i)
    where
      same-ended : (j k : ℕ) (a b : Outcome) → at_event (host_event.Ended j a)
          ≡ at_event (host_event.Ended k b) → j ≡ k
      same-ended j k a b e = cc

      by : WhyLeft m.before.host (at_event (host_event.Ended n how)) p.connection.number → ⊥
      by (removed j l is known at number) = absurd cc
      by (closed k result payload l is known waits number) =
          let pair = (h.pairs.bound l known (k, _) waits).own refl in
          let q = h.pairs.made k l.connection pair in
          let same = same-some q.request x.request (sym q.made
          ∙ ap (λ j. request_of j m.before.bus) (sym (same-ended n k how _ is)) ∙ x.made) in
          let on = sym x.connection ∙ ap (λ (r : Request). r.connection) (sym same) ∙ q.on in
          let two = (links.host.links.numbered l known).from_two in
          omega (arith, two, number, on)

  -- ---- the connection of a module

  -- the connection of a link is to its module
  pub link-peer : (l : Link) → link_of p.connection.number m.before.host ≡ Some l
      → p.connection.peer ≡ end.Module l.intf l.cport
  link-peer l e = by (links.known p.connection place.live)
    where
      f : IsIn l m.before.host.links × ((l.connection == p.connection.number) ≡ true)
      f = found-in (λ (x : Link). x.connection == p.connection.number) m.before.host.links l e

      by : IsKnown p.connection m.before.host.links []
          → p.connection.peer ≡ end.Module l.intf l.cport
      by (supervisory one) =
          let two = (links.host.links.numbered l f.0).from_two in
          let on = same-number l.connection p.connection.number f.1 in
          absurd (omega (arith, two, on, one))
      by (leaving i) = absurd i
      by (linked x i of) = of.peer ∙ ap (λ (y : Link). end.Module y.intf y.cport)
          (one-link m.before.host.links x l links.host.links.rise i f.0
          (sym of.number ∙ sym (same-number l.connection p.connection.number f.1)))

  -- where it has no link
  pub unlinked : link_of p.connection.number m.before.host ≡ None → (l : Link)
      → IsIn l m.before.host.links → l.connection ≡ p.connection.number → ⊥
  unlinked none l j number = none-some (sym none
      ∙ subst (λ k. link_of k m.before.host ≡ Some l) number
      (found-link m.before.host.links l links.host.links.rise j))

  -- ---- the supervisory controller

  -- where the supervisory controller serves, a connection that it unwires is another
  pub other-unwired : p.connection.peer ≡ end.Svc → (a i c : ℕ) (x : Connection)
      → joining a i c taken.bus ≡ Some x → x.wired ≡ true → x.number ≡ p.connection.number → ⊥
  other-unwired svc a i c x e w on =
      let l = (joining-live a i c taken.bus x true e w).0 in
      module-no-svc (sym l.peer ∙ popped-peer l.connection l.live (l.number ∙ on) ∙ svc)
