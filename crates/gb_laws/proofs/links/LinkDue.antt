-- What is known of the connection and the interface of a purpose where a turn asks for it, goes on
-- from it, or fails.
use Rattle.std.proofs.Common.{Bool, None, Option, Some, ap, arith, false, inl, inr, refl, subst}
use Rattle.std.proofs.Common.{sym, true, ℕ, ⊎_elim, ◌∙◌, ◌≡◌, ◌≢◌, ◌≤◌}
use Rattle.std.specs.Prelude.{IfSome, option_and_then, option_map, ◌==◌}
use Rattle.gb_base.specs.declared.entry.ConnState.{ConnState}
use Rattle.gb_base.specs.declared.entry.ConnState.TheVariants as state
use Rattle.gb_base.specs.declared.host_event.HostEvent.TheVariants as host_event
use Rattle.gb_base.specs.declared.interface.{Interface.Interface, Link.Link}
use Rattle.gb_base.specs.declared.steps.{Purpose.Purpose, SequenceStep.SequenceStep}
use Rattle.gb_base.specs.declared.steps.SequenceStep.TheVariants as steps
use Rattle.gb_machine.proofs.{Conditions.AreUnmet, Options.none-of, Options.some-of}
use Rattle.gb_machine.specs.Host.{Host, cport_of, in_state, interface_of, intf_before, is_draining}
use Rattle.gb_machine.specs.Host.{is_intf, is_link, link_at, new_interface, with_interface}
use Rattle.gb_machine.specs.Host.{with_new_interface}
use Rattle.gb_machine.specs.HostRefusals.{connect_conditions, disconnect_conditions}
use Rattle.gb_machine.specs.HostRefusals.{drain_conditions, is_closing, is_unopened}
use Rattle.gb_machine.specs.HostRefusals.{link_conditions}
use Rattle.gb_machine.specs.SequenceSteps.{asks_control, at_step, is_enumeration, purpose}
use Rattle.gb_machine.specs.{Bus.Bus, Members.IsIn, Sequences.opened}
use Rattle.gb_machine.specs.Waits.{awaited, awaits_nothing}
use Rattle.gb_invariants.proofs.HostChanges.{AsksAt, Closes, Completes, Ends, FailsFor, IsAskedAt}
use Rattle.gb_invariants.proofs.HostChanges.{IsBehind, IsClosingFor, Notice, Notices, Occasion}
use Rattle.gb_invariants.proofs.HostChanges.{as_answered}
use Rattle.gb_invariants.proofs.HostChanges.{at_event, at_insertion, at_notice, at_unsent}
use Rattle.gb_invariants.proofs.HostChanges.{by_disconnect, by_idle, closes, host_after}
use Rattle.gb_invariants.proofs.HostChanges.{is_creating, step_behind, to_close, to_connect}
use Rattle.gb_invariants.proofs.HostChanges.{to_enumerate, to_go_on, with_control, with_update}
use Rattle.gb_invariants.proofs.Lists.{found-in}
use Rattle.gb_invariants.proofs.{Awaiting.none-some, Awaiting.not-both, Awaiting.same-some}
use Rattle.gb_invariants.proofs.{Found.find-none, Found.in-ordered, Outcomes.is-same}
use Rattle.gb_invariants.proofs.{Outcomes.same-number}
use Rattle.gb_laws.proofs.links.LinkEnds.{Resumed, resumed, waited-due}
use Rattle.gb_laws.proofs.links.LinkHosts.{next-interface}
use Rattle.gb_laws.proofs.links.LinkLists.{find-changed, found-its, found-there, link-is}
use Rattle.gb_laws.proofs.links.LinkLists.{ordered-in}
use Rattle.gb_laws.proofs.links.Links.{HasNoControl, HostFits, IsAtStep, IsDue, IsDueBy, IsPresent}
use Rattle.gb_laws.proofs.links.Links.{IsMaking, IsResting, IsWaiting, connection, control}
use Rattle.gb_laws.proofs.{links.Controls.control-none, links.Waited.waits-for}

-- ---- what is noticed

-- What is noticed may be: an interface is absent that is inserted, and nothing is refused.
abbrev pub IsAllowed : Notice → Host → Type 0
IsAllowed (at_insertion p i) h = interface_of i h ≡ None
IsAllowed (at_event (host_event.Connect i c)) h = AreUnmet (connect_conditions i c h) × (c ≤ 4095)
IsAllowed (at_event (host_event.Disconnect i c)) h = AreUnmet (disconnect_conditions i c h)
IsAllowed (at_event (host_event.Drain i c)) h = AreUnmet (drain_conditions i c h)
IsAllowed x h = Unit {0}

-- an interface that is absent has no connection
absent-none : (b : Bus) (i : ℕ) (h : Host) → HostFits b h → interface_of i h ≡ None
    → HasNoControl i h.links
absent-none b i h fits absent l j = by (is_link i 0 l) refl
  where
    by : (t : Bool) → is_link i 0 l ≡ t → t ≡ false
    by false e = refl
    by true e =
        let at = link-is i 0 l e in
        let p = fits.present l j in
        absurd (not-both (is_intf i p.interface) (ap (λ n. n == i) (p.is ∙ at.0) ∙ is-same i)
        (find-none (is_intf i) h.interfaces p.interface absent p.known))

-- and none that is known is it
pub absent-other : (i : ℕ) (h : Host) → interface_of i h ≡ None → (x : Interface)
    → IsIn x h.interfaces → x.intf ≢ i
absent-other i h absent x j e = not-both (is_intf i x) (ap (λ n. n == i) e ∙ is-same i)
    (find-none (is_intf i) h.interfaces x absent j)

inserted-due : {b : Bus} (p i : ℕ) (h : Host) → HostFits b h → interface_of i h ≡ None
    → IsDue steps.EnableVsys (purpose i 0 steps.EnableVsys) (with_new_interface p i h)
inserted-due {b} p i h fits absent = record {
  cport = refl;
  none = λ e. absent-none b i h fits absent;
  idle = λ x j e. ⊎_elim (λ f. ap (λ (y : Interface). y.awaits) f)
      (λ o. absurd (absent-other i h absent x o e))
      (in-ordered intf_before x (new_interface p i) h.interfaces j);
  present = record {
    interface = new_interface p i;
    known = ordered-in intf_before (new_interface p i) h.interfaces;
    is = refl;
  };
}

-- ---- connect

-- What is known where a connect isn't refused.
record MayConnect (i c : ℕ) (h : Host) : Type 0 where
  none : link_at i c h ≡ None
  other : c ≢ 0
  present : IsPresent i h.interfaces

may-connect : (i c : ℕ) (h : Host) → AreUnmet (connect_conditions i c h) → MayConnect i c h
may-connect i c h met = record {
  none = none-of (link_at i c h) met.1.1.1.1.1.0;
  other = λ z.
      let view = some-of (option_and_then (cport_of c) (interface_of i h)) met.1.1.1.0 in
      none-some (sym (undeclared (interface_of i h))
      ∙ ap (λ k. option_and_then (cport_of k) (interface_of i h)) (sym z) ∙ view.1);
  present =
      let there = some-of (interface_of i h) met.0 in
      let k = found-in (is_intf i) h.interfaces there.0 there.1 in
      record { interface = there.0; known = k.0; is = same-number there.0.intf i k.1 };
}
  where
    undeclared : (o : Option Interface) → option_and_then (cport_of 0) o ≡ None
    undeclared None = refl
    undeclared (Some x) = control-none x

connect-due : (i c : ℕ) (h : Host) → MayConnect i c h
    → IsDue steps.CreateConnection (purpose i c steps.CreateConnection) h
connect-due i c h may = record {
  cport = may.other;
  idle = λ l f. absurd (none-some (sym may.none ∙ f));
  state = λ l f. absurd (none-some (sym may.none ∙ f));
}

-- ---- closing

-- no step of a connect or close goes on but while a connection opens or closes
none-at : (step : SequenceStep) (s : ConnState) → (s ≡ state.Opening → ⊥) → (s ≡ state.Closing → ⊥)
    → IsAtStep step s → ⊥
none-at steps.CreateConnection s unopened unclosed at = unopened at
none-at steps.TellConnected s unopened unclosed at = unopened at
none-at steps.TellDisconnecting s unopened unclosed at = unclosed at
none-at steps.TellDisconnected s unopened unclosed at = unclosed at
none-at steps.DestroyConnection s unopened unclosed at = unclosed at
none-at _ s unopened unclosed at = at

-- so another connection waits for nothing
pub still-idle : (l : Link) → IsWaiting l → (l.state ≡ state.Opening → ⊥)
    → (l.state ≡ state.Closing → ⊥) → l.awaits ≡ None
still-idle l waits unopened unclosed = by l.awaits refl
  where
    by : (o : Option (ℕ × SequenceStep)) → l.awaits ≡ o → o ≡ None
    by None e = refl
    by (Some w) e = absurd (none-at w.1 l.state unopened unclosed (waits w e).1)

-- Control waits for nothing
pub control-idle : {b : Bus} {h : Host} (i c : ℕ) (l : Link) → HostFits b h → c ≡ 0
    → link_at i c h ≡ Some l → l.awaits ≡ None
control-idle {h} i c l fits zero_cport found = by l.awaits refl
  where
    by : (o : Option (ℕ × SequenceStep)) → l.awaits ≡ o → o ≡ None
    by None f = refl
    by (Some w) f =
        let k = found-its i c h.links l found in
        absurd ((fits.links.waiting l k.0 w f).0 (k.2 ∙ zero_cport))

-- A connection that is closing isn't Control, and waits for nothing.
pub closes-idle : {b : Bus} {x : Notice} {h : Host} (i c : ℕ) (l : Link) → HostFits b h
    → IsAllowed x h → IsClosingFor x h i c → link_at i c h ≡ Some l
    → (c ≢ 0) × (l.awaits ≡ None)
closes-idle {h} i c l fits allowed (by_disconnect is) found =
    let met = subst (λ y. IsAllowed y h) is allowed in
    let may = subst (λ o. AreUnmet (link_conditions is_closing o)) found met.1.1 in (
      λ z. not-both (c == 0) (ap (λ n. n == 0) z) met.1.0,
      still-idle l (fits.links.waiting l (found-its i c h.links l found).0)
          (λ f. not-both (is_unopened l.state) (ap is_unopened f) may.0)
          (λ f. not-both (is_closing l.state) (ap is_closing f) may.1.0),
    )
closes-idle {h} i c l fits allowed (by_idle d why intf cport) found =
    let live = (found-in (λ y. y.connection == why.number) h.links d why.found).0 in
    let there = found-there h.links d fits.links.rise live intf cport in (
      λ z. fits.links.draining d live why.drains (cport ∙ z),
      ap (λ (y : Link). y.awaits) (same-some l d (sym found ∙ there))
          ∙ still-idle d (fits.links.waiting d live)
          (λ f. not-both (is_draining d.state) why.drains (ap is_draining f))
          (λ f. not-both (is_draining d.state) why.drains (ap is_draining f)),
    )

closing-due : (i c : ℕ) (l : Link) (h : Host) → (c ≢ 0) × (l.awaits ≡ None)
    → link_at i c h ≡ Some l
    → IsDue steps.TellDisconnecting (purpose i c steps.TellDisconnecting)
    (host_after (closes i c l) h)
closing-due i c l h idle e = record {
  cport = idle.0;
  idle = λ y f. ap (λ (x : Link). x.awaits) (sym (is-it y f)) ∙ idle.1;
  state = λ y f. ap (λ (x : Link). x.state) (sym (is-it y f));
}
  where
    is-it : (y : Link) → link_at i c (host_after (closes i c l) h) ≡ Some y
        → in_state state.Closing l ≡ y
    is-it y f = same-some (in_state state.Closing l) y
        (sym (find-changed (is_link i c) (in_state state.Closing) h.links (λ x. refl)
        ∙ ap (option_map (in_state state.Closing)) e) ∙ f)

-- ---- a step was answered

-- it is due still where the next one is asked
behind-due : {p : Purpose} {g h : Host} → IsBehind p g h → IsDue p.step p g → IsDue p.step p h
behind-due {p} (as_answered at) due = subst (IsDue p.step p) (sym at) due
behind-due {p} {g} (with_update f keeps at) due =
    subst (IsDue p.step p) (sym at) (by (is_enumeration p.step) due)
  where
    by : (t : Bool) → IsDueBy t p.step p g → IsDueBy t p.step p (with_interface p.intf f g)
    by true next = next-interface g p.intf f keeps.intf keeps.awaits next
    by false idle = idle
behind-due {p} {g} (with_control is at) due =
    subst (IsDue p.step p) (sym at) (subst (λ s. IsDue s p (opened p g)) (sym is)
    (open_ (subst (λ s. IsDue s p g) is due)))
  where
    open_ : IsDue steps.CreateControl p g → IsDue steps.CreateControl p (opened p g)
    open_ next = record {
      cport = next.cport;
      none = λ e. absurd cc;
      idle = next.idle;
      present = next.present;
    }

-- and the next one is due then
next-due : (s : SequenceStep) (p : Purpose) (h : Host) → IsDue s p h
    → IfSome (step_behind s) (λ t. IsDue t (at_step t p) h)
next-due steps.CreateControl p h due =
    record { cport = due.cport; none = λ e. absurd cc; idle = due.idle; present = due.present }
next-due steps.AskVersion p h due =
    record { cport = due.cport; none = λ e. absurd cc; idle = due.idle; present = due.present }
next-due steps.AskSize p h due =
    record { cport = due.cport; none = λ e. absurd cc; idle = due.idle; present = due.present }
next-due steps.AskManifest p h due = tt
next-due steps.CreateConnection p h due =
    record { cport = due.cport; idle = due.idle; state = due.state }
next-due steps.TellConnected p h due = tt
next-due steps.TellDisconnecting p h due =
    record { cport = due.cport; idle = due.idle; state = due.state }
next-due steps.TellDisconnected p h due =
    record { cport = due.cport; idle = due.idle; state = due.state }
next-due steps.DestroyConnection p h due = tt
next-due _ p h due =
    record { cport = due.cport; none = λ e. due.none refl; idle = due.idle; present = due.present }

-- ---- a request is made

-- A step that is asked is due.
asked-due : {b : Bus} {x : Notice} {before : Host} {p : Purpose} {h : Host} → HostFits b before
    → IsAllowed x before → IsAskedAt x before p h → IsDue p.step p h
asked-due {b} {x} {before} {p} {h} fits allowed why = by why
  where
    at : {q : Purpose} {g : Host} → p ≡ q → h ≡ g → IsDue q.step q g → IsDue p.step p h
    at {q} {g} is here due =
        subst (IsDue p.step p) (sym here) (subst (λ r. IsDue r.step r g) (sym is) due)

    by : IsAskedAt x before p h → IsDue p.step p h
    by (to_enumerate q i e is here) =
        at is here (inserted-due q i before fits (subst (λ y. IsAllowed y before) e allowed))
    by (to_connect i c e is here) = at is here (connect-due i c before
        (may-connect i c before (subst (λ y. IsAllowed y before) e allowed).0))
    by (to_close i c l why found is here) = at is here
        (closing-due i c l before (closes-idle i c l fits allowed why found) found)
    by (to_go_on last step r next is behind) = at is refl
        (subst (λ o. IfSome o (λ t. IsDue t (at_step t last) h)) next
        (next-due last.step last h (behind-due behind (waited-due r.number last fits r.awaited))))

-- ---- a connection is made

-- a step with which one is made asks the supervisory controller for a new one
pub making-creates : {c : ℕ} {step : SequenceStep} → IsMaking c step → is_creating step ≡ true
making-creates (control zero_cport) = refl
making-creates (connection other) = refl

pub making-asks : {c : ℕ} {step : SequenceStep} → IsMaking c step → asks_control step ≡ false
making-asks (control zero_cport) = refl
making-asks (connection other) = refl

-- The connection of a purpose may be made.
pub record IsMakeable (p : Purpose) (h : Host) : Type 0 where
  pub step : IsMaking p.cport p.step
  pub within : p.cport ≤ 4095
  pub none : (l : Link) → IsIn l h.links → is_link p.intf p.cport l ≡ false
  pub idle : p.cport ≡ 0 → IsResting p.intf h.interfaces
  pub present : IsPresent p.intf h.interfaces

connect-makes : (i c : ℕ) (h : Host) → MayConnect i c h → c ≤ 4095
    → IsMakeable (purpose i c steps.CreateConnection) h
connect-makes i c h may low = record {
  step = connection may.other;
  within = low;
  none = λ l j. find-none (is_link i c) h.links l may.none j;
  idle = λ z. absurd (may.other z);
  present = may.present;
}

-- Control is made behind the route
route-behind : (s : SequenceStep)
    → IfSome (step_behind s) (λ t. is_creating t ≡ true → s ≡ steps.CreateRoute)
route-behind steps.CreateRoute = λ e. refl
route-behind steps.AskManifest = tt
route-behind steps.TellConnected = tt
route-behind steps.DestroyConnection = tt
route-behind _ = λ e. absurd cc

control-makes : (last : Purpose) (h : Host) → IsDue steps.CreateRoute last h
    → IsMakeable (at_step steps.CreateControl last) h
control-makes last h due = record {
  step = control due.cport;
  within = let z = due.cport in omega (arith, z);
  none = λ l i. ap (λ c. is_link last.intf c l) due.cport ∙ due.none refl l i;
  idle = λ e. due.idle;
  present = due.present;
}

asked-makes : {b : Bus} {x : Notice} {before : Host} {p : Purpose} {h : Host} → HostFits b before
    → IsAllowed x before → is_creating p.step ≡ true → IsAskedAt x before p h → IsMakeable p h
asked-makes {b} {x} {before} {p} {h} fits allowed makes why = by why
  where
    never : {q : Purpose} → p ≡ q → is_creating q.step ≡ false → IsMakeable p h
    never is plain = absurd (not-both (is_creating p.step) makes
        (ap (λ (r : Purpose). is_creating r.step) is ∙ plain))

    by : IsAskedAt x before p h → IsMakeable p h
    by (to_enumerate q i e is here) = never is refl
    by (to_close i c l why found is here) = never is refl
    by (to_connect i c e is here) =
        let may = subst (λ y. IsAllowed y before) e allowed in
        subst (λ r. IsMakeable r h) (sym is)
        (subst (IsMakeable (purpose i c steps.CreateConnection)) (sym here)
        (connect-makes i c before (may-connect i c before may.0) may.1))
    by (to_go_on last step r next is behind) =
        let route =
        subst (λ o. IfSome o (λ t. is_creating t ≡ true → last.step ≡ steps.CreateRoute)) next
        (route-behind last.step) (ap (λ (q : Purpose). is_creating q.step) (sym is) ∙ makes) in
        let step-is = same-some steps.CreateControl step (sym (ap step_behind route) ∙ next) in
        subst (λ r. IsMakeable r h) (sym (is ∙ ap (λ s. at_step s last) (sym step-is)))
        (control-makes last h (subst (λ s. IsDue s last h) route
        (behind-due behind (waited-due r.number last fits r.awaited))))

-- ---- occasions

-- What is known where changes begin.
abbrev pub Starts : Bus → Occasion → Type 0
Starts b (at_notice x before) = HostFits b before × IsAllowed x before
Starts b (at_unsent p before) =
    HostFits b before × (is_creating p.step ≡ false → IsDue p.step p before)

module _ (b : Bus) where
  pub noticed-allowed : (o : Occasion) (x : Notice) (h : Host) → Starts b o → Notices o x h
      → IsAllowed x h
  noticed-allowed (at_notice y before) x h start why =
      subst (IsAllowed x) (sym why.1) (subst (λ z. IsAllowed z before) why.0 start.1)
  noticed-allowed (at_unsent q before) x h start why = absurd why

  pub ends-well : (o : Occasion) (p : Purpose) (h : Host) → Ends o p h → HostFits b h
      → Resumed b p h (awaits_nothing p h)
  ends-well (at_notice x before) p h why fits = resumed why.0.number p h fits
      (waits-for why.0.number h p
      (subst (λ g. awaited why.0.number g ≡ Some p) (sym why.1) why.0.awaited))
  ends-well (at_unsent q before) p h why fits = absurd why

  pub closing-idle : (o : Occasion) (i c : ℕ) (l : Link) (h : Host) → Starts b o → Closes o i c h
      → link_at i c h ≡ Some l → (c ≢ 0) × (l.awaits ≡ None)
  closing-idle (at_notice x before) i c l h start why found =
      closes-idle i c l start.0 start.1 why.0 (ap (link_at i c) (sym why.1) ∙ found)
  closing-idle (at_unsent q before) i c l h start why found = absurd why

  pub completes-due : (o : Occasion) (p : Purpose) (step : SequenceStep) (h : Host) → Starts b o
      → Completes o p step h → IsDue step p h
  completes-due (at_notice x before) p step h start why = subst (λ s. IsDue s p h) why.1
      (subst (IsDue p.step p) (sym why.2) (waited-due why.0.number p start.0 why.0.awaited))
  completes-due (at_unsent q before) p step h start why = absurd why

  pub asks-due : (o : Occasion) (p : Purpose) (h : Host) → Starts b o → AsksAt o p h
      → IsDue p.step p h
  asks-due (at_notice x before) p h start why = asked-due start.0 start.1 why
  asks-due (at_unsent q before) p h start why = absurd why

  pub makes-free : (o : Occasion) (p : Purpose) (h : Host) → Starts b o → AsksAt o p h
      → is_creating p.step ≡ true → IsMakeable p h
  makes-free (at_notice x before) p h start why makes = asked-makes start.0 start.1 makes why
  makes-free (at_unsent q before) p h start why makes = absurd why

  fails-due : (o : Occasion) (p : Purpose) (h : Host) → Starts b o → FailsFor o p h
      → IsDue p.step p h
  fails-due (at_notice x before) p h start (inl why) =
      subst (IsDue p.step p) (sym why.1) (waited-due why.0.number p start.0 why.0.awaited)
  fails-due (at_notice x before) p h start (inr why) = asked-due start.0 start.1 why
  fails-due (at_unsent q before) p h start why = subst (IsDue p.step p) (sym why.1)
      (subst (λ r. IsDue r.step r before) why.0 (start.1 why.2))

  -- where a step fails, its connection waits for nothing
  pub fails-idle : (o : Occasion) (p : Purpose) (h : Host) → Starts b o → FailsFor o p h
      → HostFits b h → (l : Link) → link_at p.intf p.cport h ≡ Some l → l.awaits ≡ None
  fails-idle o p h start why fits l found =
      by (is_enumeration p.step) (fails-due o p h start why)
    where
      by : (t : Bool) → IsDueBy t p.step p h → l.awaits ≡ None
      by false due = due.idle l found
      by true due = control-idle p.intf p.cport l fits due.cport found
