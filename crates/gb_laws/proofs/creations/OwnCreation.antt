-- A connection is wired by the request that was made for it, while a module is plugged at its
-- interface, which is routed.
use Rattle.std.proofs.Common.{List, None, Option, Some, ap, arith, false, inl, refl, subst, sym}
use Rattle.std.proofs.Common.{true, ℕ, ⊎_elim, [], ◌∙◌, ◌∷◌, ◌≡◌}
use Rattle.std.specs.List.{find}
use Rattle.std.specs.Prelude.{Ok, nat_lt, ◌==◌}
use Rattle.gb_base.specs.declared.end.End.TheVariants as end
use Rattle.gb_base.specs.declared.end.Side.TheVariants as side
use Rattle.gb_base.specs.declared.event.Event.TheVariants as event
use Rattle.gb_base.specs.declared.interface.Link.{Link}
use Rattle.gb_formats.specs.SvcRecords.{SvcAsk, read_svc_ask}
use Rattle.gb_machine.specs.Bus.{Ask, Bus, Connection, Request, connection_of, end_of, has_number}
use Rattle.gb_machine.specs.Bus.{request_of}
use Rattle.gb_machine.specs.SvcQueues.{items_in, speaks_of_connection, svc_items}
use Rattle.gb_machine.specs.{Delivery.popped, Delivery.without_front, Host.is_link}
use Rattle.gb_machine.specs.{Incoming.reply_item, Lists.at_first, Lists.behind_first, Members.IsIn}
use Rattle.gb_machine.specs.{Modules.is_plugged, Ports.is_powered, Ports.level_of, Runs.Moment}
use Rattle.gb_machine.specs.{Sending.put}
use Rattle.gb_invariants.proofs.Awaiting.{none-some, not-both, same-some}
use Rattle.gb_invariants.proofs.Selves.{SameSelf, front-self, put-self, svc-no-module}
use Rattle.gb_invariants.proofs.{Found.find-none, Lists.found-in, Lists.in-at_first}
use Rattle.gb_invariants.proofs.{Numbers.found-by_number, Outcomes.is-same, Outcomes.same-number}
use Rattle.gb_laws.proofs.links.Links.{IsKnown, leaving, linked, supervisory}
use Rattle.gb_laws.proofs.points.Points.{IsAfterReply, IsCreated, IsLive, replied_to, unreplied}
use Rattle.gb_laws.proofs.{creations.Creating.IsBetween, creations.Creating.is_create}
use Rattle.gb_laws.proofs.{creations.CreatingFacts.CreatesFit}
use Rattle.gb_laws.proofs.{links.LinkLists.found-at, points.Places.place-is}
use Rattle.gb_laws.proofs.{points.PointParts.Point}
use Rattle.gb_laws.proofs.{removals.QuietBuses.svc-found, removals.QuietServed.IsServed}
use Rattle.gb_laws.proofs.{removals.QuietServed.serving}
use Rattle.gb_laws.proofs.{steps.ServedCreate.create-read, creations.StaleRuns.StaleTo}
use Rattle.gb_laws.proofs.{svc.WiredWell.at-most}

-- At a moment the supervisory controller serves the request that was made to create connection k,
-- which is live, to an interface that is routed and where a module is plugged.
pub record IsCreation (m : Moment) (k : ℕ) : Type 0 where
  pub number : ℕ
  pub request : Request
  pub connection : Connection
  pub intf : ℕ
  pub cport : ℕ
  pub is : m.event ≡ event.Deliver end.Svc
  pub front : svc_items side.Far m.before.bus
      ≡ Ask number ∷ behind_first (svc_items side.Far m.before.bus)
  pub made : request_of number m.before.bus ≡ Some request
  pub tc : ℕ
  pub flags : ℕ
  pub creates : read_svc_ask request.kind request.payload
      ≡ Ok (SvcAsk.ConnCreate 1 connection.ap intf cport tc flags)
  pub own : IsIn (number, k) m.before.past.made_for
  pub live : connection_of k m.before.bus ≡ Some connection
  pub peer : connection.peer ≡ end.Module intf cport
  pub plugged : is_plugged intf m.before.modules ≡ true
  pub routed : level_of intf m.before.ports ≡ 6

-- ---- where a connection comes from

-- a connection is one that was there, but for its queues
abbrev WasThere : Connection → List Connection → Type 0
WasThere c cs = (x : Connection) × IsIn x cs × SameSelf x c

there-first : (k : ℕ) (f : Connection → Connection) (cs : List Connection) (c : Connection)
    → ((x : Connection) → SameSelf x (f x)) → IsIn c (at_first (has_number k) f cs) → WasThere c cs
there-first k f cs c same i = ⊎_elim
    (λ o. (c, o, record { number = refl; clean = refl; shut = refl; ap = refl; peer = refl }))
    (λ w. (w.0, w.1, subst (SameSelf w.0) (sym w.3) (same w.0)))
    (in-at_first (has_number k) f cs c i)

there-then : (c : Connection) (cs ds : List Connection)
    → ((x : Connection) → IsIn x ds → WasThere x cs) → WasThere c ds → WasThere c cs
there-then c cs ds back w =
    let v = back w.0 w.1 in (
      v.0,
      v.1,
      record {
        number = w.2.number ∙ v.2.number;
        clean = w.2.clean ∙ v.2.clean;
        shut = w.2.shut ∙ v.2.shut;
        ap = w.2.ap ∙ v.2.ap;
        peer = w.2.peer ∙ v.2.peer;
      },
    )

-- ---- what is served

module _ (m : Moment) (start : StaleTo m.told m.before)
    (fit : CreatesFit m.before.bus.requests m.before.host.links m.before.past.made_for None) where
  module _ (a : Point) (k : ℕ) (live : IsLive k false a.state.bus)
      (made : IsCreated m a.state live.connection live.intf live.cport) where
    served : IsServed m a made.incoming
    served = serving m start.since.links.0 start.since.links.1 start.since.links.3 a made.incoming
        made.serving

    -- the record of the request that is served
    record Reads : Type 0 where
      tc : ℕ
      flags : ℕ
      is : read_svc_ask served.request.kind served.request.payload
          ≡ Ok (SvcAsk.ConnCreate 1 live.connection.ap live.intf live.cport tc flags)

    reads : Reads
    reads =
        let r = create-read m.before.ports made.incoming.kind made.incoming.payload
        live.connection.ap live.intf live.cport made.decides in record {
          tc = r.0;
          flags = r.1;
          is = ap (λ x. read_svc_ask x served.request.payload) served.kind
              ∙ ap (read_svc_ask made.incoming.kind) served.payload ∙ r.2;
        }

    -- the connection was there before
    was : WasThere live.connection m.before.bus.connections
    was = by made.serving.bus
      where
        n : ℕ
        n = made.serving.place.connection.number

        popped-there : (x : Connection) → IsIn x (popped n side.Far m.before.bus).connections
            → WasThere x m.before.bus.connections
        popped-there x i = there-first n (without_front side.Far) m.before.bus.connections x
            (front-self side.Far) i

        by : IsAfterReply n side.Far made.incoming (popped n side.Far m.before.bus) a.state.bus
            → WasThere live.connection m.before.bus.connections
        by (unreplied e) = popped-there live.connection
            (subst (λ (b : Bus). IsIn live.connection b.connections) e live.live)
        by (replied_to r e) = there-then live.connection m.before.bus.connections
            (popped n side.Far m.before.bus).connections popped-there
            (there-first n (put side.Ap (reply_item made.incoming r))
            (popped n side.Far m.before.bus).connections live.connection
            (put-self side.Ap (reply_item made.incoming r))
            (subst (λ (b : Bus). IsIn live.connection b.connections) e live.live))

    -- the request was made by the application processor, of the supervisory controller
    asked : (request_of served.number m.before.bus ≡ Some served.request)
        × (served.request.connection ≡ 1) × (served.request.side ≡ side.Ap)
    asked =
        let c = svc-found start.since.links.0 start.since.links.3 in
        let o = start.since.links.0.bus.items.own c.0 side.Far (Ask served.number) c.3
        (subst (λ o. IsIn (Ask served.number) (items_in side.Far o)) c.1
        (subst (λ xs. IsIn (Ask served.number) xs) (sym served.front) (inl refl))) in
        let same = same-some o.0 served.request (sym o.1 ∙ served.made) in (
          served.made,
          ap (λ (r : Request). r.connection) (sym same) ∙ o.2 ∙ c.4,
          ap (λ (r : Request). r.side) (sym same) ∙ o.3,
        )

    -- it is remembered
    remembered : (j : ℕ) × IsIn (served.number, j) m.before.past.made_for
    remembered = ⊎_elim (λ none. absurd (none-some none.1)) (λ p. p)
        (fit.own served.number served.request asked.0 asked.1 asked.2 (ap is_create reads.is))

    module _ (high : nat_lt (level_of live.intf a.state.ports) 6 ≡ false) where
      routed : level_of live.intf m.before.ports ≡ 6
      routed = at-most (level_of live.intf m.before.ports) (start.quiet.wired.wired.bound live.intf)
          (ap (λ ps. nat_lt (level_of live.intf ps) 6) (sym made.serving.ports) ∙ high)

      -- for a connection that is known, since its interface is routed
      known : (l : Link) × IsIn l m.before.host.links × (l.connection ≡ remembered.0)
      known = by (find (λ (l : Link). l.connection == remembered.0) m.before.host.links) refl
        where
          by : (o : Option Link)
              → find (λ (l : Link). l.connection == remembered.0) m.before.host.links ≡ o
              → (l : Link) × IsIn l m.before.host.links × (l.connection ≡ remembered.0)
          by (Some l) g =
              let i = found-in (λ (y : Link). y.connection == remembered.0) m.before.host.links l g
              in (l, i.0, same-number l.connection remembered.0 i.1)
          by None g =
              let low = (start.cool live.intf).low served.number (record {
                connection = remembered.0;
                pair = remembered.1;
                waits = subst (λ xs. IsIn (Ask served.number) xs) (sym served.front) (inl refl);
                unknown = λ l here on. not-both (l.connection == remembered.0)
                    (ap (λ n. n == remembered.0) on ∙ is-same remembered.0)
                    (find-none (λ (y : Link). y.connection == remembered.0) m.before.host.links l
                    g here);
                request = served.request;
                made = served.made;
                speaks = ap (speaks_of_connection live.intf) reads.is ∙ is-same live.intf;
              }) in
              let top = routed in
              absurd (omega (arith, low, top))

      -- which is the one that is wired
      same-connection : remembered.0 ≡ k
      same-connection = by (start.since.links.1.known was.0 was.1)
        where
          ends : IsBetween known.0.ap known.0.intf known.0.cport
              (Ok (SvcAsk.ConnCreate 1 live.connection.ap live.intf live.cport reads.tc
              reads.flags))
          ends = subst (IsBetween known.0.ap known.0.intf known.0.cport) reads.is
              (fit.ends served.number known.0 served.request known.1
              (subst (λ j. IsIn (served.number, j) m.before.past.made_for) (sym known.2)
              remembered.1) served.made)

          peer : was.0.peer ≡ end.Module live.intf live.cport
          peer = sym was.2.peer ∙ live.peer

          intf-same : (i j x y : ℕ) → end.Module i x ≡ end.Module j y → i ≡ j
          intf-same i j x y e = cc

          cport-same : (i j x y : ℕ) → end.Module i x ≡ end.Module j y → x ≡ y
          cport-same i j x y e = cc

          by : IsKnown was.0 m.before.host.links [] → remembered.0 ≡ k
          by (supervisory one) = absurd (svc-no-module (sym (start.since.links.1.svc was.0 was.1
              one).peer ∙ peer))
          by (leaving i) = absurd i
          by (linked l i of) =
              let intf = intf-same l.intf live.intf l.cport live.cport (sym of.peer ∙ peer) in
              let cport = cport-same l.intf live.intf l.cport live.cport (sym of.peer ∙ peer) in
              let rise = start.since.links.1.host.links.rise in
              let first = found-at m.before.host.links known.0 rise known.1 in
              let second = found-at m.before.host.links l rise i in
              let one = same-some known.0 l (sym first
              ∙ ap (λ n. find (is_link n known.0.cport) m.before.host.links) (sym ends.2 ∙ sym intf)
              ∙ ap (λ n. find (is_link l.intf n) m.before.host.links) (sym ends.3 ∙ sym cport)
              ∙ second) in
              sym known.2 ∙ ap (λ (y : Link). y.connection) one ∙ sym of.number
              ∙ sym was.2.number ∙ live.number

      creation : is_powered live.intf a.state.ports ≡ true → IsCreation m k
      creation powered = record {
        number = served.number;
        request = served.request;
        connection = was.0;
        intf = live.intf;
        cport = live.cport;
        is = made.serving.event ∙ ap event.Deliver (sym (place-is made.serving.at
            m.before.bus.connections made.serving.place made.serving.named).is
            ∙ ap (λ s. end_of s made.serving.place.connection) made.serving.far ∙ made.serving.svc);
        front = served.front;
        made = served.made;
        tc = reads.tc;
        flags = reads.flags;
        creates = reads.is ∙ ap (λ n. Ok (SvcAsk.ConnCreate 1 n live.intf live.cport reads.tc
            reads.flags)) was.2.ap;
        own = subst (λ j. IsIn (served.number, j) m.before.past.made_for) same-connection
            remembered.1;
        live = subst (λ n. connection_of n m.before.bus ≡ Some was.0)
            (sym was.2.number ∙ live.number)
            (found-by_number m.before.bus.connections was.0 start.since.links.0.bus.numbers.rise
            was.1);
        peer = sym was.2.peer ∙ live.peer;
        plugged = start.quiet.wired.wired.powered live.intf
            (ap (is_powered live.intf) (sym made.serving.ports) ∙ powered);
        routed = routed;
      }

-- What is wired at a point is wired by its own request.
pub creation-at : (m : Moment) → StaleTo m.told m.before
    → CreatesFit m.before.bus.requests m.before.host.links m.before.past.made_for None
    → (a : Point) (k : ℕ) (live : IsLive k false a.state.bus)
    → is_powered live.intf a.state.ports ≡ true
    → nat_lt (level_of live.intf a.state.ports) 6 ≡ false
    → IsCreated m a.state live.connection live.intf live.cport → IsCreation m k
creation-at m start fit a k live powered high made = creation m start fit a k live made high powered
