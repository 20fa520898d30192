-- Where the enumeration of an interface waits for its module, or is done, none of its requests
-- waits toward the supervisory controller, in each state of a run.
use Rattle.std.proofs.Common.{List, Some, ap, inl, map, refl, subst, sym}
use Rattle.std.proofs.Common.{ℕ, ⊎_elim, [], ◌++◌, ◌∙◌, ◌∷◌, ◌≡◌}
use Rattle.gb_base.specs.declared.end.Side.TheVariants as side
use Rattle.gb_base.specs.declared.entry.Entry.{Entry}
use Rattle.gb_base.specs.declared.interface.Interface.{Interface}
use Rattle.gb_base.specs.declared.steps.SequenceStep.{SequenceStep}
use Rattle.gb_machine.specs.Host.{Host, is_intf, with_interface}
use Rattle.gb_machine.specs.Runs.{IsMoment, Moment, after, told_at}
use Rattle.gb_machine.specs.SvcQueues.{is_enumeration_request, svc_items, svc_requests}
use Rattle.gb_machine.specs.{Bus.Bus, HostActs.host_draft, HostActs.with_awaited}
use Rattle.gb_machine.specs.{HostServing.host_serves, LawsSvc.HasNoEnumeration, Members.IsIn}
use Rattle.gb_machine.specs.{Sending.Draft, Sending.sent, State.State}
use Rattle.gb_invariants.proofs.HostChanges.{interface_awaits, waiting-by}
use Rattle.gb_invariants.proofs.{Lists.found-in, Lists.in-at_first}
use Rattle.gb_invariants.proofs.{Outcomes.same-number}
use Rattle.gb_laws.proofs.enumerations.AskedWaits.{AsksIn, asks_in, no-asks, same-waits}
use Rattle.gb_laws.proofs.enumerations.EnumNone.{IsNone, none-same, none-sent}
use Rattle.gb_laws.proofs.enumerations.EnumSettled.{IsSettled, May, settled-asked, settled-still}
use Rattle.gb_laws.proofs.enumerations.EnumSettled.{settled-turned}
use Rattle.gb_laws.proofs.enumerations.Enums.{enum-waits, enums, enums-requests}
use Rattle.gb_laws.proofs.links.LinkActs.{ServedHost, as_before, awaited-host, awaited-interface}
use Rattle.gb_laws.proofs.links.LinkActs.{host-served, with_images, with_more}
use Rattle.gb_laws.proofs.points.PointParts.{Basis, Point, Wires, resting}
use Rattle.gb_laws.proofs.points.Points.{Change, IsAskedBy, Law, acts_asked, acts_failed, asks}
use Rattle.gb_laws.proofs.points.Points.{by_far, by_loader}
use Rattle.gb_laws.proofs.points.Points.{by_host, changed, names, serves, turns, upon}
use Rattle.gb_laws.proofs.removals.QuietRuns.{QuietTo, quiet-moment, quiet-start, quiet-throughout}
use Rattle.gb_laws.proofs.removals.QuietRuns.{quiet_law}
use Rattle.gb_laws.proofs.runs.Runs.{HoldsByMoments, throughout, weaker}
use Rattle.gb_laws.proofs.{points.Awaited.awaited-rest, enumerations.AwaitsNewest.plain-none}
use Rattle.gb_laws.proofs.{enumerations.AwaitsOwn.waiting-interface}
use Rattle.gb_laws.proofs.{points.ChangeBuses.keeps-requests}
use Rattle.gb_laws.proofs.{points.ChangeHosts.asks-kept, points.ChangeHosts.waits-kept}
use Rattle.gb_laws.proofs.{creations.CreatingKept.far-side}
use Rattle.gb_laws.proofs.{enumerations.EnumDone.IsDone, enumerations.EnumDone.done-unsent}
use Rattle.gb_laws.proofs.{enumerations.EnumRuns.none-left}
use Rattle.gb_laws.proofs.{links.LinkKept.InsertsAbsent, links.LinkKept.LinkedAt}
use Rattle.gb_laws.proofs.{links.LinkRuns.start-absent}
use Rattle.gb_laws.proofs.{links.Links.ArePending, removals.Quiet.IsQuiet}
use Rattle.gb_laws.proofs.{steps.Steps.over-step, svc.SvcMoves.far-moves, svc.SvcMoves.far-sent}
use Rattle.gb_laws.proofs.{svc.SvcThere.There}
use Rattle.gb_laws.specs.OwnWaits.{AskedLeavesNone, DoneLeavesNone}

-- ---- each single change

pub settled-kept : (m : Moment) → InsertsAbsent m → (i : ℕ) (a : Point) (x : Change m a) → Basis a
    → LinkedAt a → There a.state.bus → IsQuiet i a → IsSettled i a → IsSettled i (changed m a x)
settled-kept m absent i a (asks d c label free live is who) basis links there quiet h = by who
  where
    by : (w : IsAskedBy m a c d) → IsSettled i (changed m a (asks d c label free live is w))
    by (by_far far on unloaded) =
        settled-still (none-sent i a d label basis (far-sent d label basis there)
        (λ one own e. far-side m a d c far own)) (λ k. k) (same-waits a.state.host) (λ q j. j) h
    by (by_loader x going far on) =
        settled-still (none-sent i a d label basis (far-sent d label basis there)
        (λ one own e. far-side m a d c far own)) (λ k. k) (same-waits a.state.host) (λ q j. j) h
    by (by_host q rest pending draft none) =
        settled-asked i a q rest label
        basis links there (far-sent (host_draft q a.state.now) label basis there) pending
        (ap (λ (x : Draft). record a.state { bus = sent x label a.state.bus }) draft) refl h
settled-kept m absent i a (names name d c label free live is host) basis links there quiet h =
    settled-still (none-sent i a d label basis (far-sent d label basis there)
    (λ one own e. plain-none a d label links host.1 i
    (record { connection = one; side = own; enumerates = e })))
    (λ k. k) (same-waits a.state.host) (λ q j. j) h
settled-kept m absent i a (turns e free untouched none cause) basis links there quiet h =
    settled-turned m absent i e a (changed m a (turns e free untouched none cause)) basis links
    there untouched.1 cause quiet refl refl h
settled-kept m absent i a (acts_asked q n rest is) basis links there quiet h = record {
  done = λ d. onto (h.done (back d));
  waits = λ x j at w e. then w.1 (⊎_elim (λ o. h.waits x o at w e)
      (λ u. subst (λ (y : ℕ × SequenceStep). May i a.state.host.interfaces a.state.bus y.1) u.1
      (h.due q (subst (AsksIn q) (sym is.0) (asks_in (inl refl))) (u.0 ∙ at) u.2))
      (awaited-interface q.purpose n a.state x w j e));
  due = λ r j. absurd (no-asks (subst (AsksIn r)
      (subst (ArePending a.state.host) is.0 links.pending).0.1 j));
}
  where
    onto : IsNone i a.state.bus → IsNone i (with_awaited q.purpose n a.state).bus
    onto k = subst (IsNone i) (sym (awaited-rest q.purpose n).bus) k

    back-at : IsDone i (with_interface q.purpose.intf
        (interface_awaits (Some (n, q.purpose.step))) a.state.host).interfaces
        → IsDone i a.state.host.interfaces
    back-at d = ⊎_elim
        (λ o. record { interface = d.interface; known = o; intf = d.intf; done = d.done })
        (λ v. record {
          interface = v.0;
          known = v.1;
          intf = ap (λ (y : Interface). y.intf) (sym v.3) ∙ d.intf;
          done = ap (λ (y : Interface). y.stage) (sym v.3) ∙ d.done;
        }) (in-at_first (is_intf q.purpose.intf)
        (interface_awaits (Some (n, q.purpose.step))) a.state.host.interfaces d.interface d.known)

    back : IsDone i (with_awaited q.purpose n a.state).host.interfaces
        → IsDone i a.state.host.interfaces
    back d = waiting-by (λ g. IsDone i g.interfaces → IsDone i a.state.host.interfaces)
        (Some (n, q.purpose.step)) q.purpose a.state.host (λ e. back-at) (λ e k. k)
        (subst (λ (g : Host). IsDone i g.interfaces) (awaited-host q.purpose n a.state) d)

    then : (step : SequenceStep) → May i a.state.host.interfaces a.state.bus step
        → May i (with_awaited q.purpose n a.state).host.interfaces
        (with_awaited q.purpose n a.state).bus step
    then step may = (λ d. may.0 (back d), λ c. onto (may.1 c))
settled-kept m absent i a (acts_failed q rest is still) basis links there quiet h =
    settled-still (λ k. k) (done-unsent i q.purpose a.state.host)
    (waits-kept m a (acts_failed q rest is still) tt)
    (asks-kept m a (acts_failed q rest is still) tt) h
settled-kept m absent i a (serves k kind payload none) basis links there quiet h =
    settled-still (λ j. j) (back (host-served k kind payload))
    (waits-kept m a (serves k kind payload none) tt) (λ q j. j) h
  where
    back : ServedHost a.state.host (host_serves k kind payload a.state.host)
        → IsDone i (host_serves k kind payload a.state.host).host.interfaces
        → IsDone i a.state.host.interfaces
    back (as_before e) d = subst (λ (g : Host). IsDone i g.interfaces) e d
    back (with_more j c total e) d = subst (λ (g : Host). IsDone i g.interfaces) e d
    back (with_images x e) d = subst (λ (g : Host). IsDone i g.interfaces) e d
settled-kept m absent i a x basis links there quiet h =
    settled-still (none-same i a basis (far-moves m x basis links there)
    (keeps-requests m a x) refl) (λ j. j) (same-waits a.state.host) (asks-kept m a x tt) h

-- ---- throughout

pub record SettledTo (told : List Entry) (s : State) : Type 0 where
  pub quiet : QuietTo told s
  pub settled : (i : ℕ) → IsSettled i (resting told s)

module _ (m : Moment) (start : SettledTo m.told m.before) where
  abbrev pub settled_law : ℕ → Law m
  settled_law i = upon (quiet_law m start.quiet i) (IsSettled i)
      (λ a x g h. settled-kept m (start-absent m start.quiet.wired.links) i a x g.0.0.0.0
      g.0.0.0.1 g.0.0.1 g.1 h)

  pub settled-over : IsMoment m.event → SettledTo (m.told ++ told_at m) (after m)
  settled-over one = record {
    quiet = quiet-moment m one start.quiet;
    settled = λ i. let r = (over i).1.1 in
        record { done = r.done; waits = r.waits; due = r.due };
  }
    where
      over : (i : ℕ) → (w : Wires) × (settled_law i).holds
          (record (resting (m.told ++ told_at m) (after m)) { wires = w })
      over i = over-step m (settled_law i) one (quiet-start m start.quiet i, start.settled i)

pub settled-throughout : HoldsByMoments SettledTo
settled-throughout = throughout SettledTo (record {
  quiet = quiet-throughout [] tt;
  settled = λ i. record {
    done = λ d. absurd d.known;
    waits = λ x j. absurd j;
    due = λ q j. absurd (no-asks j);
  };
}) (λ m one h. settled-over m h one)

-- ---- the laws

pub none-waits : (i : ℕ) (b : Bus) → IsNone i b → HasNoEnumeration i b
none-waits i b none = by (enums i b) refl
  where
    by : (es : List (ℕ × _)) → enums i b ≡ es → HasNoEnumeration i b
    by [] e = none-left (is_enumeration_request i) (svc_requests side.Far b)
        (enums-requests i b (svc_items side.Far b) ∙ ap (map (λ (z : ℕ × _). z.1)) e)
    by (z ∷ es) e =
        let w = enum-waits i b (svc_items side.Far b) z
        (subst (λ y. IsIn z y) (sym e) (inl refl)) in
        absurd (none z.0 z.1 w.0 w.1 w.2)

pub asked-none_by_moments : HoldsByMoments AskedLeavesNone
asked-none_by_moments = weaker SettledTo AskedLeavesNone (λ told s h i n step e asks.
    let x = waiting-interface i s.host (n, step) e in
    none-waits i s.bus (((h.settled i).waits x.0 x.1 x.2 (n, step) x.3).1 asks)) settled-throughout

pub done-none_by_moments : HoldsByMoments DoneLeavesNone
done-none_by_moments = weaker SettledTo DoneLeavesNone (λ told s h i x e done.
    let found = found-in (is_intf i) s.host.interfaces x e in
    none-waits i s.bus ((h.settled i).done (record {
      interface = x;
      known = found.0;
      intf = same-number x.intf i found.1;
      done = done;
    }))) settled-throughout
