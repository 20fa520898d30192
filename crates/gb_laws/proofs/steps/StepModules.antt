-- A law of points goes over the insertion and the removal of a module: the turns of its interfaces,
-- one after another.
use Rattle.std.proofs.Common.{List, None, ap, arith, inl, inr, refl, subst, suc, sym, zero, ℕ, []}
use Rattle.std.proofs.Common.{false, ◌++◌, ◌+◌, ◌∙◌, ◌∷◌, ◌≡◌, ◌≤◌}
use Rattle.std.proofs.lemmas.Bool.Decides.{nat_tests}
use Rattle.std.specs.Prelude.{◌==◌}
use Rattle.gb_base.specs.declared.entry.Entry.{Entry}
use Rattle.gb_base.specs.declared.host_event.HostEvent.TheVariants as host_event
use Rattle.gb_base.specs.declared.interface.Link.{Link}
use Rattle.gb_machine.proofs.Opened.{machine_opened}
use Rattle.gb_machine.specs.Actions.{Told, each}
use Rattle.gb_machine.specs.Host.{Host, interface_of, interfaces_of}
use Rattle.gb_machine.specs.HostActs.{notices}
use Rattle.gb_machine.specs.Lists.{span}
use Rattle.gb_machine.specs.{Members.IsIn, Runs.Moment, State.State}
use Rattle.gb_invariants.proofs.HostChanges.{at_insertion, at_removal}
use Rattle.gb_invariants.proofs.Lists.{in-without}
use Rattle.gb_invariants.proofs.ModuleHosts.{inserted-others}
use Rattle.gb_invariants.proofs.ModuleTurns.{in-span, inserted-each, removed-each}
use Rattle.gb_invariants.proofs.ModuleTurns.{removed-host, removed-requests, takes_notice}
use Rattle.gb_laws.proofs.points.PointParts.{IsNoticed}
use Rattle.gb_laws.proofs.steps.StepActLaws.{ActLaw}
use Rattle.gb_laws.proofs.steps.StepActions.{At, goes-nothing, goes-▸}
use Rattle.gb_laws.proofs.steps.StepActs.{Acts, goes-notice}
use Rattle.gb_laws.proofs.points.PointParts.{Untouched}

module _ (m : Moment) (law : ActLaw m) where
  -- an action leads from rest to rest
  abbrev Leads : State → Told → Type 0
  Leads s r = (told : List Entry) → At m law None [] Untouched told s
      → At m law None [] Untouched (told ++ r.entries) r.state

  -- of these interfaces none is known that wasn't before
  abbrev AbsentStill : List ℕ → State → Type 0
  AbsentStill is s =
      (i : ℕ) → IsIn i is → interface_of i m.before.host ≡ None → interface_of i s.host ≡ None

  goes-insertions : (p count : ℕ) → IsNoticed m (host_event.Inserted p count) → (n more : ℕ)
      → ((i : ℕ) → IsIn i (span n more) → IsIn i (span p count)) → (s : State)
      → AbsentStill (span n more) s
      → Acts m law [] [] (each (span n more) (λ i. takes_notice (at_insertion p i))) s
  unfolding machine_opened
  goes-insertions p count noticed n zero within s absent =
      goes-nothing m law None [] Untouched s
  goes-insertions p count noticed n (suc more) within s absent =
      goes-▸ m law (takes_notice (at_insertion p n))
      (each (span (n + 1) more) (λ i. takes_notice (at_insertion p i)))
      (goes-notice m law (at_insertion p n) s tt (record {
        count = count;
        noticed = noticed;
        within = within n (inl refl);
        absent = absent n (inl refl);
      }))
      (goes-insertions p count noticed (n + 1) more (λ i j. within i (inr j))
      (takes_notice (at_insertion p n) s).state
      (λ i j none. inserted-others p n i s (apart i (in-span i (n + 1) more j).0)
      ∙ absent i (inr j) none))
    where
      apart : (i : ℕ) → n + 1 ≤ i → (n == i) ≡ false
      apart i low = grind (arith, nat_tests, low)

  -- a module is inserted
  pub goes-inserted : (p count : ℕ) → IsNoticed m (host_event.Inserted p count) → (s : State)
      → s.host ≡ m.before.host → Acts m law [] [] (notices (host_event.Inserted p count)) s
  goes-inserted p count noticed s same = subst (Leads s) (sym (inserted-each p count s))
      (goes-insertions p count noticed p count (λ i j. j) s
      (λ i j none. ap (interface_of i) same ∙ none))

  goes-removals : (p : ℕ) → IsNoticed m (host_event.Removed p) → (is : List ℕ)
      → ((i : ℕ) → IsIn i is → IsIn i (interfaces_of p m.before.host)) → (s : State)
      → ((l : Link) → IsIn l s.host.links → IsIn l m.before.host.links)
      → s.bus.requests ≡ m.before.bus.requests
      → Acts m law [] [] (each is (λ i. takes_notice (at_removal i))) s
  unfolding machine_opened
  goes-removals p noticed [] within s fewer made = goes-nothing m law None [] Untouched s
  goes-removals p noticed (i ∷ is) within s fewer made =
      let next = (takes_notice (at_removal i) s).state in
      goes-▸ m law (takes_notice (at_removal i)) (each is (λ j. takes_notice (at_removal j)))
      (goes-notice m law (at_removal i) s made (record {
        primary = p;
        noticed = noticed;
        known = within i (inl refl);
        links = fewer;
      }))
      (goes-removals p noticed is (λ j k. within j (inr k)) next
      (λ l j. fewer l (in-without (λ (x : Link). x.intf == i) s.host.links l
      (subst (λ (h : Host). IsIn l h.links) (removed-host i s) j)).0)
      (removed-requests i s ∙ made))

  -- a module is removed
  pub goes-removed : (p : ℕ) → IsNoticed m (host_event.Removed p) → (s : State)
      → s.host ≡ m.before.host → s.bus.requests ≡ m.before.bus.requests
      → Acts m law [] [] (notices (host_event.Removed p)) s
  goes-removed p noticed s same made = subst (Leads s) (sym (removed-each p s))
      (goes-removals p noticed (interfaces_of p s.host)
      (λ i j. subst (λ h. IsIn i (interfaces_of p h)) same j) s
      (λ l j. subst (λ (h : Host). IsIn l h.links) same j) made)
