-- What turns of the application processor make of connections that are closing, and which
-- connections they give up.
use Rattle.std.proofs.Common.{List, None, Option, Some, ap, inl, inr, refl}
use Rattle.std.proofs.Common.{subst, sym, ℕ, ⊎_elim, [], ◌++◌, ◌∙◌, ◌∷◌, ◌≡◌, ◌≢◌, ◌⊎◌}
use Rattle.std.specs.Prelude.{◌==◌}
use Rattle.gb_base.specs.declared.entry.ConnState.{ConnState}
use Rattle.gb_base.specs.declared.interface.Link.{Link}
use Rattle.gb_base.specs.declared.steps.{Purpose.Purpose, SequenceStep.SequenceStep}
use Rattle.gb_base.specs.declared.entry.ConnState.TheVariants as state
use Rattle.gb_base.specs.declared.steps.SequenceStep.TheVariants as steps
use Rattle.gb_machine.specs.Host.{Host, in_state, is_link, link_at, with_interface, with_link}
use Rattle.gb_machine.specs.Host.{without_link}
use Rattle.gb_machine.specs.HostTurns.{links_left, links_of, without_interface}
use Rattle.gb_machine.specs.Turns.{Act, Turn}
use Rattle.gb_machine.specs.{Bus.Bus, Failures.unsent, Members.IsIn}
use Rattle.gb_machine.specs.{Sequences.enumerated, Waits.waiting}
use Rattle.gb_invariants.proofs.HostChanges.{interface_awaits, link_awaits, waiting-by}
use Rattle.gb_invariants.proofs.HostChanges.{Completes, Finds, HostChange, HostEnd, IsFor, IsLast}
use Rattle.gb_invariants.proofs.HostChanges.{Occasion, TurnsFor, TurnLaw, acts_by, at_notice}
use Rattle.gb_invariants.proofs.HostChanges.{at_unsent, end_of, host_after}
use Rattle.gb_invariants.proofs.Lists.{found-in, in-behind, in-front, in-without}
use Rattle.gb_invariants.proofs.{Awaiting.same-some, Found.in-first, OverTurns.over-turn}
use Rattle.gb_invariants.proofs.{OverFailures.over-unsent}
use Rattle.gb_invariants.proofs.HostChanges.{Notice, turn_of}
use Rattle.gb_laws.proofs.{links.LinkEnds.waited-due, links.Links.HostFits}
use Rattle.gb_laws.proofs.{links.Links.IsDue}

-- a connection with this number is closing
pub record IsClosing (n : ℕ) (h : Host) : Type 0 where
  pub link : Link
  pub live : IsIn link h.links
  pub on : link.connection ≡ n
  pub closing : link.state ≡ state.Closing

-- what closes was closing before
abbrev pub ClosesFewer : Host → Host → Type 0
ClosesFewer h g = (n : ℕ) → IsClosing n g → IsClosing n h

-- Acts give up a connection before they close its side.
abbrev pub LeavesOpen : ℕ → List Act → Type 0
LeavesOpen k [] = ⊥
LeavesOpen k (Act.Shut j ∷ rest) = (j ≢ k) × LeavesOpen k rest
LeavesOpen k (Act.Leave j ∷ rest) = (j ≡ k) ⊎ LeavesOpen k rest
LeavesOpen k (Act.Ask q ∷ rest) = LeavesOpen k rest
LeavesOpen k (Act.Make w q ∷ rest) = LeavesOpen k rest
LeavesOpen k (Act.Tell e ∷ rest) = LeavesOpen k rest

-- What closes behind a turn was closing, or the turn closes its side; what it gives up without that
-- was closing.
pub record TurnCloses (h : Host) (t : Turn) : Type 0 where
  pub closing : (n : ℕ) → IsClosing n t.host → IsClosing n h ⊎ IsIn (Act.Shut n) t.acts
  pub left : (n : ℕ) → LeavesOpen n t.acts → IsClosing n h

-- ---- hosts

pub fewer-links : (h g : Host) → g.links ≡ h.links → ClosesFewer h g
fewer-links h g same n x = record {
  link = x.link;
  live = subst (λ ls. IsIn x.link ls) same x.live;
  on = x.on;
  closing = x.closing;
}

-- a connection has another state
pub fewer-state : (to : ConnState) → (to ≡ state.Closing → ⊥) → (i c : ℕ) (h : Host)
    → ClosesFewer h (with_link i c (in_state to) h)
fewer-state to other i c h n x = ⊎_elim
    (λ o. record { link = x.link; live = o; on = x.on; closing = x.closing })
    (λ w. absurd (other (sym (ap (λ (l : Link). l.state) w.3) ∙ x.closing)))
    (in-first (is_link i c) (in_state to) h.links x.link x.live)

-- a connection changes that keeps number and state
pub fewer-kept : (i c : ℕ) (f : Link → Link) (h : Host)
    → ((l : Link) → (f l).connection ≡ l.connection) → ((l : Link) → (f l).state ≡ l.state)
    → ClosesFewer h (with_link i c f h)
fewer-kept i c f h same kept n x = ⊎_elim
    (λ o. record { link = x.link; live = o; on = x.on; closing = x.closing }) (λ w. record {
      link = w.0;
      live = w.1;
      on = sym (same w.0) ∙ sym (ap (λ (l : Link). l.connection) w.3) ∙ x.on;
      closing = sym (kept w.0) ∙ sym (ap (λ (l : Link). l.state) w.3) ∙ x.closing;
    }) (in-first (is_link i c) f h.links x.link x.live)

-- some connections are there no more
pub fewer-without : (h g : Host) → ((l : Link) → IsIn l g.links → IsIn l h.links) → ClosesFewer h g
fewer-without h g in_h n x =
    record { link = x.link; live = in_h x.link x.live; on = x.on; closing = x.closing }

-- a sequence waits for something, or for nothing
pub fewer-waiting : (w : Option (ℕ × SequenceStep)) (p : Purpose) (h : Host)
    → ClosesFewer h (waiting w p h)
fewer-waiting w p h = waiting-by (ClosesFewer h) w p h
    (λ e. fewer-links h (with_interface p.intf (interface_awaits w) h) refl)
    (λ e. fewer-kept p.intf p.cport (link_awaits w) h (λ l. refl) (λ l. refl))

-- ---- changes

-- a change closes the side of no connection
abbrev ClosesNone : HostChange → Type 0
ClosesNone (HostChange.closes i c l) = ⊥
ClosesNone _ = Unit {0}

not-closing : (o : Occasion) (h : Host) (i c : ℕ) (to : ConnState) → TurnsFor to o h i c
    → to ≡ state.Closing → ⊥
not-closing o h i c state.Closing why e = why
not-closing o h i c _ why e = absurd cc

change-fewer : (o : Occasion) (x : HostChange) (h : Host) → IsFor o h x → ClosesNone x
    → ClosesFewer h (host_after x h)
change-fewer o (HostChange.departs i) h why none = fewer-without h (without_interface i h)
    (λ l j. (in-without (λ (k : Link). k.intf == i) h.links l j).0)
change-fewer o (HostChange.resumes p) h why none = fewer-waiting None p h
change-fewer o (HostChange.turns_to i c to l) h why none =
    fewer-state to (not-closing o h i c to why) i c h
change-fewer o (HostChange.closes i c l) h why none = absurd none
change-fewer o (HostChange.leaves p l) h why none =
    fewer-without h (without_link p.intf p.cport h)
    (λ l i. (in-without (is_link p.intf p.cport) h.links l i).0)
change-fewer o x h why none = fewer-links h (host_after x h) refl

-- what closes behind a change was closing, or the change closes its side
change-closes : (o : Occasion) (x : HostChange) (h : Host) → Finds h x → IsFor o h x → (n : ℕ)
    → IsClosing n (host_after x h) → IsClosing n h ⊎ IsIn (Act.Shut n) (acts_by x h)
change-closes o (HostChange.closes i c l) h found why n y = ⊎_elim
    (λ w. inl (record { link = y.link; live = w; on = y.on; closing = y.closing }))
    (λ w. inr (inl (ap Act.Shut (sym (ap (λ (k : Link). k.connection)
    (same-some l w.0 (sym found ∙ w.2)) ∙ ap (λ (k : Link). k.connection) (sym w.3) ∙ y.on)))))
    (in-first (is_link i c) (in_state state.Closing) h.links y.link y.live)
change-closes o x h finds why n y = inl (change-fewer o x h why tt n y)

-- connections are closed before they are given up
shut-first : (n : ℕ) (ls : List Link) (acts : List Act) → LeavesOpen n (links_left ls ++ acts)
    → LeavesOpen n acts
shut-first n [] acts x = x
shut-first n (l ∷ ls) acts x =
    ⊎_elim (λ same. absurd (x.0 same)) (λ y. shut-first n ls acts y) x.1

-- what is given up without that was closing
module _ (o : Occasion) (closed : (p : Purpose) (h : Host)
    → Completes o p steps.DestroyConnection h → (l : Link) → link_at p.intf p.cport h ≡ Some l
    → IsClosing l.connection h) where
  change-left : (x : HostChange) (h : Host) (acts : List Act) → Finds h x → IsFor o h x → (n : ℕ)
      → (LeavesOpen n acts → IsClosing n (host_after x h)) → LeavesOpen n (acts_by x h ++ acts)
      → IsClosing n h
  change-left (HostChange.departs i) h acts finds why n s y =
      change-fewer o (HostChange.departs i) h why tt n (s (shut-first n (links_of i h) acts y))
  change-left (HostChange.turns_to i c to None) h acts finds why n s y =
      change-fewer o (HostChange.turns_to i c to None) h why tt n (s y)
  change-left (HostChange.turns_to i c to (Some l)) h acts finds why n s y =
      change-fewer o (HostChange.turns_to i c to (Some l)) h why tt n (s y)
  change-left (HostChange.closes i c l) h acts found why n s y =
      ⊎_elim (λ x. x) (λ j. absurd (by j))
      (change-closes o (HostChange.closes i c l) h found why n (s y.1))
    where
      same : (k j : ℕ) → Act.Shut k ≡ Act.Shut j → j ≡ k
      same k j e = cc

      by : IsIn (Act.Shut n) (acts_by (HostChange.closes i c l) h) → ⊥
      by (inl e) = y.0 (same n l.connection e)
      by (inr (inl e)) = absurd cc
      by (inr (inr j)) = j
  change-left (HostChange.leaves p None) h acts found why n s y =
      change-fewer o (HostChange.leaves p None) h why tt n (s y)
  change-left (HostChange.leaves p (Some l)) h acts found why n s y =
      ⊎_elim (λ e. subst (λ k. IsClosing k h) e (closed p h why l found))
      (λ z. change-fewer o (HostChange.leaves p (Some l)) h why tt n (s z)) y
  change-left x h acts finds why n s y = change-fewer o x h why tt n (s y)

  end-closes : (x : HostEnd) (h : Host) → TurnCloses h (end_of x h)
  end-closes (HostEnd.enumerates p bytes) h = record {
    closing = λ n y. inl (fewer-links h (with_interface p.intf (enumerated bytes) h) refl n y);
    left = λ n y. absurd y;
  }
  end-closes HostEnd.rests h = record { closing = λ n y. inl y; left = λ n y. absurd y }
  end-closes (HostEnd.asks k p) h = record { closing = λ n y. inl y; left = λ n y. absurd y }
  end-closes (HostEnd.makes a protocol p) h =
      record { closing = λ n y. inl y; left = λ n y. absurd y }

  abbrev closes_law : TurnLaw o
  closes_law = record {
    says = λ h t. TurnCloses h t;
    ends = λ x h last. end-closes x h;
    over = λ x h t finds why s. record {
      closing = λ n y. ⊎_elim
          (λ c. ⊎_elim (λ k. inl k) (λ i. inr (in-front (Act.Shut n) (acts_by x h) t.acts i))
          (change-closes o x h finds why n c))
          (λ i. inr (in-behind (Act.Shut n) (acts_by x h) t.acts i)) (s.closing n y);
      left = λ n y. change-left x h t.acts finds why n (s.left n) y;
    };
  }

-- ---- turns

-- the connection of the last request of a close is closing
last-closing : {b : Bus} (e : Notice) (before : Host) → HostFits b before → (p : Purpose)
    (h : Host) → Completes (at_notice e before) p steps.DestroyConnection h → (l : Link)
    → link_at p.intf p.cport h ≡ Some l → IsClosing l.connection h
last-closing e before fits p h done l found = record {
  link = l;
  live = (found-in (is_link p.intf p.cport) h.links l found).0;
  on = refl;
  closing = (subst (λ s. IsDue s p h) done.1 (subst (IsDue p.step p) (sym done.2)
      (waited-due done.0.number p fits done.0.awaited))).state l found;
}

pub closes-turn : {b : Bus} (e : Notice) {h : Host} → HostFits b h → TurnCloses h (turn_of e h)
closes-turn e {h} fits =
    over-turn e h (closes_law (at_notice e h) (last-closing e h fits))

-- where a request can't be made
none-closed : (p : Purpose) (before : Host) (x : HostChange) (h : Host)
    → IsFor (at_unsent p before) h x → ClosesNone x
none-closed p before (HostChange.closes i c l) h why = absurd why
none-closed p before _ h why = tt

end-fewer : (p : Purpose) (before : Host) (x : HostEnd) (h : Host)
    → IsLast (at_unsent p before) h x → ClosesFewer h (end_of x h).host
end-fewer p before HostEnd.rests h last = λ n y. y
end-fewer p before (HostEnd.asks k q) h last = absurd last.0
end-fewer p before (HostEnd.makes a protocol q) h last = absurd last.0
end-fewer p before (HostEnd.enumerates q bytes) h last = absurd last

pub fewer-unsent : (p : Purpose) (h : Host) → ClosesFewer h (unsent p h).host
fewer-unsent p h = over-unsent p h (record {
  says = λ g t. ClosesFewer g t.host;
  ends = λ x g last. end-fewer p h x g last;
  over = λ x g t finds why s n y.
      change-fewer (at_unsent p h) x g why (none-closed p h x g why) n (s n y);
})
