-- Of the application processor's connections to one CPort none drains but the first. So one that
-- drains is found by its CPort, and it is the one that closes where it is idle.
use Rattle.std.proofs.Common.{Bool, List, None, Some, ap, cond, false, inl, inr, refl, subst, sym}
use Rattle.std.proofs.Common.{true, ℕ, [], ◌++◌, ◌∙◌, ◌∷◌, ◌≡◌}
use Rattle.std.specs.List.{find}
use Rattle.std.specs.Prelude.{Option, not, ◌==◌}
use Rattle.gb_base.specs.declared.interface.Link.{Link}
use Rattle.gb_base.specs.declared.steps.{Purpose.Purpose, SequenceStep.SequenceStep}
use Rattle.gb_base.specs.declared.entry.ConnState.TheVariants as state
use Rattle.gb_machine.specs.Host.{Host, in_state, is_draining, is_link, link_at, link_of}
use Rattle.gb_machine.specs.{Failures.unsent, Lists.at_first, Lists.without}
use Rattle.gb_machine.specs.{Members.Each, Members.EachTwo, Members.IsIn}
use Rattle.gb_machine.specs.{Waits.waiting}
use Rattle.gb_invariants.proofs.HostChanges.{link_awaits, waiting-by}
use Rattle.gb_invariants.proofs.HostChanges.{HostChange, HostEnd, Occasion, TurnLaw, at_notice}
use Rattle.gb_invariants.proofs.HostChanges.{at_unsent, end_of, host_after}
use Rattle.gb_invariants.proofs.Lists.{each-from, each-in, each-weaker, found-in, two-filter}
use Rattle.gb_invariants.proofs.Lists.{two-pushed}
use Rattle.gb_invariants.proofs.{Awaiting.not-both, OverTurns.over-turn, OverFailures.over-unsent}
use Rattle.gb_invariants.proofs.HostChanges.{Notice, turn_of}
use Rattle.gb_laws.proofs.links.LinkHosts.{awaits-link, state-link}
use Rattle.gb_laws.proofs.links.LinkLists.{is-link, link-is}
use Rattle.gb_laws.proofs.links.Links.{SameLink}

-- behind a connection none to its CPort drains
abbrev RestsBehind : Link → Link → Type 0
RestsBehind l k = is_link l.intf l.cport k ≡ true → is_draining k.state ≡ false

-- Only the first connection to a CPort drains.
abbrev pub FirstDrains : List Link → Type 0
FirstDrains ls = EachTwo RestsBehind ls

-- One that drains is found by its CPort.
pub draining-found : (ls : List Link) (l : Link) → FirstDrains ls → IsIn l ls
    → is_draining l.state ≡ true → find (is_link l.intf l.cport) ls ≡ Some l
draining-found [] l first live drains = absurd live
draining-found (x ∷ xs) l first (inl e) drains =
    ap (λ b. cond b (Some x) (find (is_link l.intf l.cport) xs))
    (is-link l.intf l.cport x (sym (ap (λ (y : Link). y.intf) e))
    (sym (ap (λ (y : Link). y.cport) e))) ∙ ap Some (sym e)
draining-found (x ∷ xs) l first (inr live) drains =
    ap (λ b. cond b (Some x) (find (is_link l.intf l.cport) xs))
    (by (is_link l.intf l.cport x) refl) ∙ draining-found xs l first.1 live drains
  where
    by : (b : Bool) → is_link l.intf l.cport x ≡ b → b ≡ false
    by false e = refl
    by true e =
        let at = link-is l.intf l.cport x e in
        absurd (not-both (is_draining l.state) drains
        (each-in (RestsBehind x) xs l first.0 live
        (is-link x.intf x.cport l (sym at.0) (sym at.1))))

pub draining-at : (k : ℕ) (h : Host) (l : Link) → FirstDrains h.links → link_of k h ≡ Some l
    → is_draining l.state ≡ true → link_at l.intf l.cport h ≡ Some l
draining-at k h l first found drains =
    draining-found h.links l first (found-in (λ x. x.connection == k) h.links l found).0 drains

-- ---- connections change

-- the connection of a CPort changes, and that of another rests behind one still
rests-changed : (i c : ℕ) (f : Link → Link) → ((l : Link) → SameLink l (f l)) → (l : Link)
    → is_link i c l ≡ false → (ks : List Link) → Each (RestsBehind l) ks
    → Each (RestsBehind l) (at_first (is_link i c) f ks)
rests-changed i c f same l other [] rest = tt
rests-changed i c f same l other (k ∷ ks) rest =
    by (is_link i c k) refl (rests-changed i c f same l other ks rest.1)
  where
    by : (t : Bool) → is_link i c k ≡ t → Each (RestsBehind l) (at_first (is_link i c) f ks)
        → Each (RestsBehind l) (cond t (f k ∷ ks) (k ∷ at_first (is_link i c) f ks))
    by false e behind = (rest.0, behind)
    by true e behind = (
      λ there.
          let here = link-is i c k e in
          let its = link-is l.intf l.cport (f k) there in
          absurd (not-both (is_link i c l) (is-link i c l
          (sym its.0 ∙ (same k).intf ∙ here.0) (sym its.1 ∙ (same k).cport ∙ here.1)) other),
      rest.1,
    )

pub drains-changed : (i c : ℕ) (f : Link → Link) → ((l : Link) → SameLink l (f l))
    → (ls : List Link) → FirstDrains ls → FirstDrains (at_first (is_link i c) f ls)
drains-changed i c f same [] first = tt
drains-changed i c f same (l ∷ ls) first =
    by (is_link i c l) refl (drains-changed i c f same ls first.1)
  where
    by : (t : Bool) → is_link i c l ≡ t → FirstDrains (at_first (is_link i c) f ls)
        → FirstDrains (cond t (f l ∷ ls) (l ∷ at_first (is_link i c) f ls))
    by true e rest = (
      each-weaker (RestsBehind l) (RestsBehind (f l)) ls (λ k rest there.
          rest (subst (λ c. is_link l.intf c k ≡ true) (same l).cport
          (subst (λ i. is_link i (f l).cport k ≡ true) (same l).intf there))) first.0,
      first.1,
    )
    by false e rest = (rests-changed i c f same l e ls first.0, rest)

-- a connection more, which doesn't drain
pub drains-pushed : (ls : List Link) (l : Link) → is_draining l.state ≡ false → FirstDrains ls
    → FirstDrains (ls ++ l ∷ [])
drains-pushed ls l other first =
    two-pushed RestsBehind ls l first (each-from (λ k. RestsBehind k l) ls (λ k i at. other))

-- some connections are there no more
drains-without : (test : Link → Bool) (ls : List Link) → FirstDrains ls
    → FirstDrains (without test ls)
drains-without test ls first = two-filter RestsBehind (λ l. not (test l)) ls first

-- a sequence waits for something, or for nothing
pub drains-waiting : (w : Option (ℕ × SequenceStep)) (p : Purpose) (h : Host)
    → FirstDrains h.links → FirstDrains (waiting w p h).links
drains-waiting w p h first =
    waiting-by (λ g. FirstDrains g.links) w p h (λ e. first)
    (λ e. drains-changed p.intf p.cport (link_awaits w) (awaits-link w) h.links first)

-- ---- turns

change-drains : (x : HostChange) (h : Host) → FirstDrains h.links
    → FirstDrains (host_after x h).links
change-drains (HostChange.departs i) h first = drains-without (λ l. l.intf == i) h.links first
change-drains (HostChange.resumes p) h first = drains-waiting None p h first
change-drains (HostChange.turns_to i c to o) h first =
    drains-changed i c (in_state to) (state-link to) h.links first
change-drains (HostChange.closes i c l) h first =
    drains-changed i c (in_state state.Closing) (state-link state.Closing) h.links first
change-drains (HostChange.leaves p o) h first =
    drains-without (is_link p.intf p.cport) h.links first
change-drains _ h first = first

end-drains : (x : HostEnd) (h : Host) → FirstDrains h.links → FirstDrains (end_of x h).host.links
end-drains (HostEnd.enumerates p bytes) h first = first
end-drains _ h first = first

abbrev drains_law : (o : Occasion) → TurnLaw o
drains_law o = record {
  says = λ h t. FirstDrains h.links → FirstDrains t.host.links;
  ends = λ x h last. end-drains x h;
  over = λ x h t finds why s first. s (change-drains x h first);
}

-- It is so behind each turn, and where a request can't be made.
pub drains-turn : (e : Notice) (h : Host) → FirstDrains h.links
    → FirstDrains (turn_of e h).host.links
drains-turn e h = over-turn e h (drains_law (at_notice e h))

pub drains-unsent : (p : Purpose) (h : Host) → FirstDrains h.links
    → FirstDrains (unsent p h).host.links
drains-unsent p h = over-unsent p h (drains_law (at_unsent p h))
