-- While a request waits for a connection that is known no more, the power level of its interface is
-- at most 1: where requests are made, and where a sequence waits for one.
use Rattle.std.proofs.Common.{Bool, List, None, Option, Some, ap, arith, cond, false, inl, refl}
use Rattle.std.proofs.Common.{subst, sym, true, ℕ, ⊎_elim, ◌∙◌, ◌∷◌, ◌≡◌, ◌≤◌}
use Rattle.gb_base.specs.declared.end.Side.TheVariants as side
use Rattle.gb_base.specs.declared.interface.{Link.Link}
use Rattle.gb_base.specs.declared.steps.SequenceStep.{SequenceStep}
use Rattle.gb_machine.specs.Host.{Host, is_link, link_at}
use Rattle.gb_machine.specs.Sending.{Draft, requested, sent}
use Rattle.gb_machine.specs.SequenceSteps.{asks_control, is_for_connection, kind_of}
use Rattle.gb_machine.specs.{Bus.next_number, Bus.request_of, HostActs.host_draft}
use Rattle.gb_machine.specs.{HostActs.made_for, Members.IsIn, Ports.level_of, Runs.Moment}
use Rattle.gb_machine.specs.{State.State, SvcQueues.is_enumeration_request, Turns.Act}
use Rattle.gb_machine.specs.{Turns.Asking, Waits.awaits}
use Rattle.gb_invariants.proofs.Lists.{found-in, in-pushed}
use Rattle.gb_invariants.proofs.{Awaiting.sent-request}
use Rattle.gb_invariants.proofs.{BusChanges.KeepsRequests}
use Rattle.gb_laws.proofs.enumerations.AskedWaits.{AsksIn, WaitsFewer, asks_in, no-asks}
use Rattle.gb_laws.proofs.enumerations.AskedWaits.{same-waits}
use Rattle.gb_laws.proofs.creations.Stale.{IsCool, IsStale, StaleAt, cool-still, due-still}
use Rattle.gb_laws.proofs.creations.Stale.{stale-back}
use Rattle.gb_laws.proofs.creations.Stale.{starts-moved, starts-sent}
use Rattle.gb_laws.proofs.svc.SvcMoves.{FarMoves, far-moves, far-sent}
use Rattle.gb_laws.proofs.{points.Awaited.awaited-rest, points.ChangeBuses.keeps-requests}
use Rattle.gb_laws.proofs.{enumerations.EnumRequests.formed-enumerates}
use Rattle.gb_laws.proofs.{enumerations.Enums.AreStarts, enumerations.Enums.enums}
use Rattle.gb_laws.proofs.links.LinkActs.{awaited-host, awaited-interface, awaits-fits}
use Rattle.gb_laws.proofs.links.LinkHosts.{Stay}
use Rattle.gb_laws.proofs.{links.LinkHosts.stay-same, links.Links.ArePending, links.Links.IsFormed}
use Rattle.gb_laws.proofs.{points.PointParts.Point}
use Rattle.gb_laws.proofs.{points.Points.acts_asked, points.Points.changed}
use Rattle.gb_laws.proofs.{creations.StaleBase.StaleBase}

-- where a change makes no request and the application processor waits for no more

pub cool-on : (m : Moment) (i : ℕ) (a : Point) {b : Point} → StaleBase m a → FarMoves a.state.bus
    b.state.bus
    → KeepsRequests a.state.bus b.state.bus → b.state.bus.requests ≡ a.state.bus.requests
    → b.state.past.made_for ≡ a.state.past.made_for → b.state.ports ≡ a.state.ports
    → Stay a.state.host.links b.state.host.links → WaitsFewer a.state.host b.state.host
    → b.asked ≡ a.asked → ((q : Asking) → AsksIn q b.pending → AsksIn q a.pending)
    → IsCool i a → IsCool i b
cool-on m i a {b} f moves keeps same past ports stay fewer asked pending h =
    cool-still i a back (ap (level_of i) ports)
    (λ n s. starts-moved i a f.basis moves keeps same) fewer
    (due-still i a b back asked pending h) h
  where
    back : (n : ℕ) → StaleAt i n b → StaleAt i n a
    back n = stale-back i n a b moves f.remembers f.pairs keeps
        (λ k j u. subst (λ ps. IsIn (n, k) ps) past j) stay

module _ (m : Moment) (i : ℕ) where
  -- ---- requests

  some-none : (w : Asking × ℕ) → Some w ≡ None → ⊥
  some-none w e = absurd cc

  -- the request of a pending act is made
  pub cool-asked : (a b : Point) (q : Asking) (rest : List Act) (label : ℕ) → StaleBase m a
      → a.pending ≡ Act.Ask q ∷ rest → a.asked ≡ None
      → b.state ≡ record a.state { bus = sent (host_draft q a.state.now) label a.state.bus }
      → b.asked ≡ Some (q, next_number a.state.bus) → IsCool i a → IsCool i b
  cool-asked a b q rest label f pending none state asked h = record {
    low = λ n s. subst (λ (t : State). level_of i t.ports ≤ 1) (sym state) (h.low n (back n s));
    starts = λ n s one. subst (λ (t : State). AreStarts (enums i t.bus)) (sym state)
        (starts-sent i a (host_draft q a.state.now) label f.basis f.there moves
        (sent-request (host_draft q a.state.now) label a.state.bus) (start-of n (back n s))
        (h.starts n (back n s) (sym (ap (λ (t : State). level_of i t.ports) state) ∙ one)));
    waits = λ x j at w e p n s. h.waits x
        (subst (λ (t : State). IsIn x t.host.interfaces) state j) at w e p n (back n s);
    due = λ e. absurd (some-none (q, next_number a.state.bus) (sym asked ∙ e));
  }
    where
      after : State
      after = record a.state { bus = sent (host_draft q a.state.now) label a.state.bus }

      moves : FarMoves a.state.bus (sent (host_draft q a.state.now) label a.state.bus)
      moves = far-sent {a = a} (host_draft q a.state.now) label f.basis f.there

      back : (n : ℕ) → StaleAt i n b → StaleAt i n a
      back n s = stale-back i n a (record a {
        state = record a.state {
          bus = sent (host_draft q a.state.now) label a.state.bus;
        };
      }) moves f.remembers f.pairs
          (sent-request (host_draft q a.state.now) label a.state.bus) (λ k j u. j)
          (stay-same a.state.host.links)
          (subst (λ (t : State). IsStale i n t.bus t.host t.past.made_for) state s)

      formed : IsFormed q
      formed = (subst (ArePending a.state.host) pending f.links.pending).0.2

      start-of : (n : ℕ) → StaleAt i n a → q.on ≡ 1 → side.Ap ≡ side.Ap
          → is_enumeration_request i (requested (host_draft q a.state.now) label) ≡ true
          → q.kind ≡ 0x21
      start-of n s one own is = by (asks_control q.purpose.step) refl
        where
          by : (t : Bool) → asks_control q.purpose.step ≡ t → q.kind ≡ 0x21
          by true e = let low = formed.control e in absurd (omega (arith, low, one))
          by false e =
              let p = formed-enumerates i q formed e is in
              ⊎_elim (λ vsys. formed.kind ∙ ap kind_of vsys) (λ no_stale. absurd (no_stale n s))
              (h.due none q (subst (AsksIn q) (sym pending) (asks_in (inl refl))) p.1 p.0)

  -- some other request is made
  pub cool-sent : (a : Point) {b : Point} (d : Draft) (label : ℕ) → StaleBase m a
      → b.state.bus ≡ sent d label a.state.bus → b.state.host ≡ a.state.host
      → b.state.past.made_for ≡ a.state.past.made_for → b.state.ports ≡ a.state.ports
      → b.asked ≡ a.asked → b.pending ≡ a.pending → (d.connection ≡ 1 → d.side ≡ side.Ap
      → is_enumeration_request i (requested d label) ≡ true → d.kind ≡ 0x21)
      → IsCool i a → IsCool i b
  cool-sent a {b} d label f bus host pairs ports asked pending other h =
      cool-still i a back (ap (level_of i) ports)
      (λ n s all. subst (λ x. AreStarts (enums i x)) (sym bus)
      (starts-sent i a d label f.basis f.there (far-sent d label f.basis f.there)
      (sent-request d label a.state.bus) other all))
      (subst (WaitsFewer a.state.host) (sym host) (same-waits a.state.host))
      (due-still i a b back asked (λ q j. subst (AsksIn q) pending j) h) h
    where
      back : (n : ℕ) → StaleAt i n b → StaleAt i n a
      back n = stale-back i n a b
          (subst (FarMoves a.state.bus) (sym bus) (far-sent d label f.basis f.there))
          f.remembers f.pairs
          (λ k r made. ap (request_of k) bus ∙ sent-request d label a.state.bus k r made)
          (λ k j u. subst (λ (ps : List (ℕ × ℕ)). IsIn (n, k) ps) pairs j)
          (subst (λ (g : Host). Stay a.state.host.links g.links) (sym host)
          (stay-same a.state.host.links))

  -- ---- a sequence waits

  pub cool-awaited : (a : Point) (q : Asking) (n : ℕ) (rest : List Act)
      (is : (a.pending ≡ Act.Ask q ∷ rest) × (a.asked ≡ Some (q, n))) → StaleBase m a
      → IsCool i a → IsCool i (changed m a (acts_asked q n rest is))
  cool-awaited a q n rest is f h = record {
    low = λ k s. subst (λ ps. level_of i ps ≤ 1)
        (sym (awaited-rest q.purpose n).ports) (h.low k (back k s));
    starts = λ k s one. subst (λ x. AreStarts (enums i x))
        (sym (awaited-rest q.purpose n).bus) (h.starts k (back k s)
        (sym (ap (level_of i) (awaited-rest q.purpose n).ports) ∙ one));
    waits = λ x j at w e p k s. ⊎_elim (λ o. h.waits x o at w e p k (back k s)) (λ u.
        let older = back k s in
        let less = (f.pairs.asks q n is.1).behind k older.connection older.pair in
        omega (arith, less, ap (λ (y : ℕ × SequenceStep). y.0) u.1))
        (awaited-interface q.purpose n a.state x w j e);
    due = λ e r j. absurd (no-asks (subst (AsksIn r)
        (subst (ArePending a.state.host) is.0 f.links.pending).0.1 j));
  }
    where
      stay : Stay a.state.host.links (awaits q.purpose n a.state.host).links
      stay = (awaits-fits {b = a.state.bus} q.purpose n {h = a.state.host} f.links.host
          (subst (ArePending a.state.host) is.0 f.links.pending).0.0).1

      Unknown : ℕ → Type 0
      Unknown c = (l : Link) → IsIn l (awaits q.purpose n a.state.host).links → l.connection ≡ c → ⊥

      old : (k c : ℕ) (t : Bool) (o : Option Link)
          → link_at q.purpose.intf q.purpose.cport (awaits q.purpose n a.state.host) ≡ o
          → IsIn (k, c) (cond t
          (made_for n o (record a.state { host = awaits q.purpose n a.state.host }))
          (record a.state { host = awaits q.purpose n a.state.host })).past.made_for
          → Unknown c → IsIn (k, c) a.state.past.made_for
      old k c false o e j u = j
      old k c true None e j u = j
      old k c true (Some l) e j u = ⊎_elim (λ x. x)
          (λ g. absurd (u l (found-in (is_link q.purpose.intf q.purpose.cport)
          (awaits q.purpose n a.state.host).links l e).0 (sym (ap (λ (p : ℕ × ℕ). p.1) g))))
          (in-pushed (k, c) a.state.past.made_for (n, l.connection) j)

      back : (k : ℕ) → StaleAt i k (changed m a (acts_asked q n rest is)) → StaleAt i k a
      back k = stale-back i k a (changed m a (acts_asked q n rest is))
          (far-moves m {a = a} (acts_asked q n rest is) f.basis f.links f.there) f.remembers f.pairs
          (keeps-requests m a (acts_asked q n rest is))
          (λ c j u. old k c (is_for_connection q.purpose.step)
          (link_at q.purpose.intf q.purpose.cport (awaits q.purpose n a.state.host)) refl j
          (subst (λ (g : Host). (l : Link) → IsIn l g.links → l.connection ≡ c → ⊥)
          (awaited-host q.purpose n a.state) u))
          (subst (λ (g : Host). Stay a.state.host.links g.links)
          (sym (awaited-host q.purpose n a.state)) stay)
