-- Each turn of the application processor fits its connections.
use Rattle.std.proofs.Common.{Bool, List, None, Option, Some, ap, false, inl, inr, refl, subst}
use Rattle.std.proofs.Common.{sym, true, ℕ, ⊎_elim, [], ◌∙◌, ◌∷◌, ◌≡◌, ◌≢◌, ◌≤◌}
use Rattle.std.specs.Prelude.{not, ◌==◌}
use Rattle.gb_base.specs.declared.entry.ConnState.{ConnState}
use Rattle.gb_base.specs.declared.entry.ConnState.TheVariants as state
use Rattle.gb_base.specs.declared.entry.IntfStage.TheVariants as stage
use Rattle.gb_base.specs.declared.host_event.HostEvent.TheVariants as host_event
use Rattle.gb_base.specs.declared.interface.{Link.Link}
use Rattle.gb_base.specs.declared.steps.Purpose.{Purpose}
use Rattle.gb_base.specs.declared.steps.SequenceStep.TheVariants as steps
use Rattle.gb_machine.proofs.Conditions.{AreUnmet}
use Rattle.gb_machine.specs.Host.{Host, in_state, interface_of, intf_before, is_draining, is_intf}
use Rattle.gb_machine.specs.Host.{is_link, link_at, new_interface, staged, with_freed}
use Rattle.gb_machine.specs.HostRefusals.{drain_conditions, is_ending, is_failed, is_unopened}
use Rattle.gb_machine.specs.HostRefusals.{link_conditions}
use Rattle.gb_machine.specs.HostTurns.{links_left, links_of}
use Rattle.gb_machine.specs.{Arriving.state_takes, Bus.Bus, Failures.told_of}
use Rattle.gb_machine.specs.{Failures.unsent, Lists.without, Members.IsIn, Sequences.enumerated}
use Rattle.gb_machine.specs.{SequenceSteps.purpose}
use Rattle.gb_machine.specs.Turns.{Act, failed_turn, turn}
use Rattle.gb_invariants.proofs.HostChanges.{Finds, HostChange, HostEnd, IsFor, IsLast, Notice}
use Rattle.gb_invariants.proofs.HostChanges.{Occasion, TurnLaw, TurnsFor, acts_by, at_event}
use Rattle.gb_invariants.proofs.HostChanges.{at_insertion, at_notice, at_unsent, changes-ask}
use Rattle.gb_invariants.proofs.HostChanges.{end_of, host_after, is_creating, turn_of}
use Rattle.gb_invariants.proofs.Lists.{filter-in, found-in, in-filter, in-without, stays-without}
use Rattle.gb_invariants.proofs.Lists.{two-filter}
use Rattle.gb_invariants.proofs.{Awaiting.none-some, Awaiting.not-both, Awaiting.same-some}
use Rattle.gb_invariants.proofs.{Found.changed-in, Found.find-none, Found.in-ordered}
use Rattle.gb_invariants.proofs.{OverFailures.over-unsent, OverTurns.over-turn}
use Rattle.gb_laws.proofs.links.LinkAsks.{fits-asking, fits-making}
use Rattle.gb_laws.proofs.links.LinkDue.{IsAllowed, Starts, absent-other, asks-due, closing-idle}
use Rattle.gb_laws.proofs.links.LinkDue.{completes-due, control-idle, ends-well, fails-idle}
use Rattle.gb_laws.proofs.links.LinkDue.{makes-free, noticed-allowed, still-idle}
use Rattle.gb_laws.proofs.links.LinkFits.{TurnFits, fits-interface, fits-link, fits-same, fits-then}
use Rattle.gb_laws.proofs.links.LinkFits.{waits-not}
use Rattle.gb_laws.proofs.links.LinkHosts.{come-without, host-images, host-without}
use Rattle.gb_laws.proofs.links.LinkHosts.{same-link, state-link, stay-changed}
use Rattle.gb_laws.proofs.links.LinkLists.{found-its, found-there, link-is, one-link}
use Rattle.gb_laws.proofs.links.LinkLists.{ordered-differ, ordered-stays}
use Rattle.gb_laws.proofs.links.Links.{AreOther, ArePending, HostFits, IsDeaf, IsDue, IsEnumerating}
use Rattle.gb_laws.proofs.links.Links.{IsFollowed, leaves, stays}

-- ---- connections are given up

-- each other one stays
followed-left : (test : Link → Bool) (ls : List Link) (acts : List Act)
    → ((l : Link) → IsIn l ls → test l ≡ true → IsIn (Act.Leave l.connection) acts) → (l : Link)
    → IsIn l ls → IsFollowed l (without test ls) acts
followed-left test ls acts left l i = by (test l) refl
  where
    by : (t : Bool) → test l ≡ t → IsFollowed l (without test ls) acts
    by false e = stays l (stays-without test ls l i e) (same-link l)
    by true e = leaves (left l i e)

-- and has another number
left-other : {b : Bus} {h : Host} (test : Link → Bool) → HostFits b h → (l k : Link)
    → IsIn l h.links → test l ≡ true → IsIn k (without test h.links)
    → k.connection ≢ l.connection
left-other {h} test fits l k live its rest e =
    let w = in-without test h.links k rest in
    not-both (test k) (ap test (one-link h.links k l fits.links.rise w.0 live e) ∙ its) w.1

-- ---- an interface comes or goes

fits-arriving : {b : Bus} (p i : ℕ) (h : Host) → HostFits b h → interface_of i h ≡ None
    → HostFits b (host_after (HostChange.arrives p i) h)
fits-arriving p i h fits absent = record {
  links = fits.links;
  interfaces = λ x j. ⊎_elim (λ e. subst (IsEnumerating h.links) (sym e)
      (λ w f. absurd (none-some f)))
      (λ o. fits.interfaces x o) (in-ordered intf_before x (new_interface p i) h.interfaces j);
  differ = ordered-differ intf_before (new_interface p i) h.interfaces
      (λ x j e. absent-other i h absent x j (sym e)) fits.differ;
  present = λ l j. let q = fits.present l j in
      record {
        interface = q.interface;
        known = ordered-stays intf_before q.interface (new_interface p i) h.interfaces q.known;
        is = q.is;
      };
}

pending-left : (g : Host) (ls : List Link) → ((l : Link) → IsIn l ls → 2 ≤ l.connection)
    → ((l k : Link) → IsIn l ls → IsIn k g.links → k.connection ≡ l.connection → ⊥)
    → ArePending g (links_left ls)
pending-left g [] two none = tt
pending-left g (l ∷ ls) two none = (
  (two l (inl refl), λ k j e. absurd (none l k (inl refl) j e)),
  (
    (two l (inl refl), λ k j e. none l k (inl refl) j e),
    (tt, pending-left g ls (λ m i. two m (inr i)) (λ m k i j e. none m k (inr i) j e)),
  ),
)

left-in : (ls : List Link) (l : Link) → IsIn l ls → IsIn (Act.Leave l.connection) (links_left ls)
left-in [] l i = absurd i
left-in (k ∷ ks) l (inl e) = inr (inl (ap (λ (x : Link). Act.Leave x.connection) e))
left-in (k ∷ ks) l (inr j) = inr (inr (inr (left-in ks l j)))

fits-departing : {b : Bus} (i : ℕ) (h : Host) → HostFits b h
    → TurnFits b h (turn (host_after (HostChange.departs i) h) (links_left (links_of i h)))
fits-departing {b} i h fits = record {
  host = record {
    links = rest.links;
    interfaces = λ x j. rest.interfaces x (in-without (is_intf i) h.interfaces x j).0;
    differ = two-filter AreOther (λ x. not (is_intf i x)) h.interfaces fits.differ;
    present = λ l j. let p = rest.present l j in record {
      interface = p.interface;
      known = filter-in (λ x. not (is_intf i x)) h.interfaces p.interface p.known
          (ap not (ap (λ n. n == i) p.is ∙ (in-without its h.links l j).1));
      is = p.is;
    };
  };
  pending = pending-left (host_after (HostChange.departs i) h) (links_of i h)
      (λ l j. (fits.links.numbered l (in-filter its h.links l j).0).from_two)
      (λ l k j r. let f = in-filter its h.links l j in left-other its fits l k f.0 f.1 r);
  followed = followed-left its h.links (links_left (links_of i h))
      (λ l j e. left-in (links_of i h) l (filter-in its h.links l j e));
  come = come-without its h.links;
}
  where
    its : Link → Bool
    its l = l.intf == i

    rest : HostFits b (record h { links = without its h.links })
    rest = host-without its fits

-- ---- a connection changes

-- one that waits for nothing has another state
fits-state : {b : Bus} {h : Host} (i c : ℕ) (to : ConnState) (o : Option Link)
    → ((l : Link) → link_at i c h ≡ Some l → l.awaits ≡ None)
    → ((l : Link) → link_at i c h ≡ Some l → IsDeaf l → state_takes to ≡ false)
    → ((l : Link) → link_at i c h ≡ Some l → is_draining to ≡ true → l.cport ≢ 0)
    → HostFits b h
    → TurnFits b h (turn (host_after (HostChange.turns_to i c to o) h)
    (acts_by (HostChange.turns_to i c to o) h))
fits-state i c to o idle takes plain fits =
    fits-link i c (in_state to) (told_of to o) (state-link to)
    (λ l e. record {
      waiting = λ w. waits-not (in_state to l) (idle l e);
      deaf = λ d. record { cport = d.cport; takes = takes l e d };
      draining = λ d drains. plain l e drains;
    }) fits

-- an open connection isn't ending
open-state : (s : ConnState) → is_unopened s ≡ false → is_ending s ≡ false → is_failed s ≡ false
    → s ≡ state.Open
open-state state.Open h k f = refl
open-state _ h k f = absurd cc

-- nothing is taken, and something is
hears : {A : Type 0} (s : ConnState) → state_takes s ≡ true → state_takes s ≡ false → A
hears s takes deaf = absurd (not-both (state_takes s) takes deaf)

fits-closing : {b : Bus} (i c : ℕ) (l : Link) (h : Host) → (c ≢ 0) × (l.awaits ≡ None)
    → link_at i c h ≡ Some l → HostFits b h
    → TurnFits b h (turn (host_after (HostChange.closes i c l) h)
    (acts_by (HostChange.closes i c l) h))
fits-closing {b} i c l h idle found fits = record {
  host = r.host;
  pending = (
    (
      (fits.links.numbered l at.0).from_two,
      λ k j e. subst IsDeaf (one-link _ (in_state state.Closing l) k r.host.links.rise
          (changed-in (is_link i c) (in_state state.Closing) h.links l found) j (sym e))
          (record { cport = λ z. idle.0 (sym at.2 ∙ z); takes = refl }),
    ),
    (tt, tt),
  );
  followed = λ k j. let s = stay-changed h.links i c (in_state state.Closing)
      (state-link state.Closing) k j in stays s.0 s.1 s.2;
  come = r.come;
}
  where
    at : IsIn l h.links × (l.intf ≡ i) × (l.cport ≡ c)
    at = found-its i c h.links l found

    r : TurnFits b (with_freed l.connection h)
        (turn (host_after (HostChange.closes i c l) h) [])
    r = fits-state i c state.Closing None
        (λ y f. ap (λ (x : Link). x.awaits) (sym (same-some l y (sym found ∙ f))) ∙ idle.1)
        (λ y f d. refl) (λ y f drains. absurd cc)
        (host-images (with_freed l.connection h).images fits)

-- one is given up
fits-leaving : {b : Bus} (p : Purpose) (o : Option Link) (h : Host)
    → link_at p.intf p.cport h ≡ o → HostFits b h
    → TurnFits b h (turn (host_after (HostChange.leaves p o) h)
    (acts_by (HostChange.leaves p o) h))
fits-leaving {b} p o h found fits = by o found
  where
    its : Link → Bool
    its = is_link p.intf p.cport

    by : (o : Option Link) → link_at p.intf p.cport h ≡ o
        → TurnFits b h (turn (host_after (HostChange.leaves p o) h)
        (acts_by (HostChange.leaves p o) h))
    by None found = record {
      host = host-without its fits;
      pending = tt;
      followed = followed-left its h.links []
          (λ l i e. absurd (not-both (its l) e (find-none its h.links l found i)));
      come = come-without its h.links;
    }
    by (Some k) found = let there = found-in its h.links k found in record {
      host = host-without its fits;
      pending = (
        (
          (fits.links.numbered k there.0).from_two,
          λ l i. left-other its fits k l there.0 there.1 i,
        ),
        (tt, tt),
      );
      followed = followed-left its h.links _ (λ l i e.
          let at = link-is p.intf p.cport l e in
          inl (ap (λ (x : Link). Act.Leave x.connection) (same-some l k
          (sym (found-there h.links l fits.links.rise i at.0 at.1) ∙ found))));
      come = come-without its h.links;
    }

-- ---- the law of turns

module _ (b : Bus) (o : Occasion) (start : Starts b o) where
  turning-fits : (i c : ℕ) (to : ConnState) (l : Option Link) (h : Host) → TurnsFor to o h i c
      → HostFits b h → TurnFits b h (turn (host_after (HostChange.turns_to i c to l) h)
      (acts_by (HostChange.turns_to i c to l) h))
  turning-fits i c state.Open l h (step, inl why) fits =
      let due = completes-due b o (purpose i c step) steps.CreateControl h start why in
      fits-state i c state.Open l (λ k e. control-idle i c k fits due.cport e)
      (λ k e d. absurd (d.cport ((found-its i c h.links k e).2 ∙ due.cport)))
      (λ k e drains. absurd cc) fits
  turning-fits i c state.Open l h (step, inr why) fits =
      let due = completes-due b o (purpose i c step) steps.TellConnected h start why in
      fits-state i c state.Open l due.idle
      (λ k e d. hears k.state (ap state_takes (due.state k e)) d.takes)
      (λ k e drains. absurd cc) fits
  turning-fits i c state.Draining l h why fits =
      fits-state i c state.Draining l (λ k e. still-idle k
      (fits.links.waiting k (found-its i c h.links k e).0)
      (λ f. let is = open_ k e in absurd cc) (λ f. let is = open_ k e in absurd cc))
      (λ k e d. hears k.state (ap state_takes (open_ k e)) d.takes)
      (λ k e drains z. not-both (c == 0)
      (ap (λ n. n == 0) (sym (found-its i c h.links k e).2 ∙ z)) met.1.0) fits
    where
      met : AreUnmet (drain_conditions i c h)
      met = noticed-allowed b o (at_event (host_event.Drain i c)) h start why

      open_ : (k : Link) → link_at i c h ≡ Some k → k.state ≡ state.Open
      open_ k e =
          let may = subst (λ x. AreUnmet (link_conditions is_ending x)) e met.1.1 in
          open-state k.state may.0 may.1.0 may.1.1.0
  turning-fits i c state.Failed l h (step, why) fits =
      fits-state i c state.Failed l (fails-idle b o (purpose i c step) h start why fits)
      (λ k e d. refl) (λ k e drains. absurd cc) fits
  turning-fits i c _ l h why fits = absurd why

  change-fits : (x : HostChange) (h : Host) → Finds h x → IsFor o h x → HostFits b h
      → TurnFits b h (turn (host_after x h) (acts_by x h))
  change-fits (HostChange.tells e) h of why fits = fits-same (e ∷ []) refl fits
  change-fits (HostChange.arrives p i) h finds why fits =
      fits-same [] refl
      (fits-arriving p i h fits (noticed-allowed b o (at_insertion p i) h start why))
  change-fits (HostChange.departs i) h finds why fits = fits-departing i h fits
  change-fits (HostChange.resumes p) h finds why fits =
      (ends-well b o p h why fits).fits
  change-fits (HostChange.updates i f) h keeps why fits =
      fits-interface i f [] keeps.intf keeps.awaits fits
  change-fits (HostChange.fails i) h finds why fits =
      fits-interface i (staged stage.Failed) [] (λ x. refl) (λ x. refl) fits
  change-fits (HostChange.turns_to i c to l) h finds why fits =
      turning-fits i c to l h why fits
  change-fits (HostChange.closes i c l) h found why fits =
      fits-closing i c l h (closing-idle b o i c l h start why found) found fits
  change-fits (HostChange.leaves p l) h found why fits = fits-leaving p l h found fits

  end-fits : (x : HostEnd) (h : Host) → IsLast o h x → HostFits b h → TurnFits b h (end_of x h)
  end-fits HostEnd.rests h last fits = fits-same [] refl fits
  end-fits (HostEnd.asks k p) h last fits =
      fits-asking k p h (asks-due b o p h start last.0) last.1 last.2 fits
  end-fits (HostEnd.makes a protocol p) h last fits =
      fits-making a protocol p h (makes-free b o p h start last.0 last.1) last.2 fits
  end-fits (HostEnd.enumerates p bytes) h last fits =
      fits-interface p.intf (enumerated bytes) (_ ∷ []) (λ x. refl) (λ x. refl) fits

  abbrev fits_law : TurnLaw o
  fits_law = record {
    says = λ h t. HostFits b h → TurnFits b h t;
    ends = end-fits;
    over = λ x h t finds why s fits.
        let first = change-fits x h finds why fits in
        fits-then (host_after x h) (acts_by x h) t (changes-ask x h) first (s first.host);
  }

-- ---- turns

-- What the application processor does at what it takes notice of fits.
pub turn-fits : {b : Bus} (x : Notice) {h : Host} → IsAllowed x h → HostFits b h
    → TurnFits b h (turn_of x h)
turn-fits {b} x {h} allowed fits =
    over-turn x h (fits_law b (at_notice x h) (fits, allowed)) fits

-- So does what it does where a request can't be made.
pub unsent-fits : {b : Bus} (p : Purpose) {h : Host}
    → (is_creating p.step ≡ false → IsDue p.step p h) → HostFits b h
    → TurnFits b h (failed_turn (unsent p h))
unsent-fits {b} p {h} due fits = over-unsent p h (fits_law b (at_unsent p h) (fits, due)) fits
