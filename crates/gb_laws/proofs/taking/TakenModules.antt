-- What follows where the application processor takes notice of something, and doesn't know the
-- connection of a message that was taken.
use Rattle.std.proofs.Common.{List, subst, sym, ℕ, [], ◌∷◌, ◌≡◌}
use Rattle.std.specs.Prelude.{◌==◌}
use Rattle.gb_base.specs.declared.host_event.HostEvent.TheVariants as host_event
use Rattle.gb_base.specs.declared.host_event.HostEvent.{HostEvent}
use Rattle.gb_base.specs.declared.interface.Link.{Link}
use Rattle.gb_machine.proofs.{Opened.machine_opened}
use Rattle.gb_machine.specs.Actions.{Told, each}
use Rattle.gb_machine.specs.Host.{Host, interfaces_of}
use Rattle.gb_machine.specs.{Bus.Bus, HostActs.notices, Lists.span, Members.Each, Members.IsIn}
use Rattle.gb_machine.specs.State.{State}
use Rattle.gb_invariants.proofs.HostChanges.{at_event, at_insertion, at_removal}
use Rattle.gb_invariants.proofs.Lists.{in-without}
use Rattle.gb_invariants.proofs.ModuleTurns.{inserted-each, removed-each, removed-host}
use Rattle.gb_invariants.proofs.ModuleTurns.{takes_notice}
use Rattle.gb_laws.proofs.links.LinkLeaves.{WhyLeft, closed, insertion-leaves, removal-leaves}
use Rattle.gb_laws.proofs.links.LinkLeaves.{removed, why-left}
use Rattle.gb_laws.proofs.links.Links.{HostFits}
use Rattle.gb_laws.proofs.taking.TakenActs.{Follows, Left, Taking, follows-notice, follows-nothing}
use Rattle.gb_laws.proofs.taking.TakenActs.{follows-▸}

module _ (aim : Taking) where
  -- the application processor doesn't know the connection
  abbrev pub Unlinked : Host → Type 0
  Unlinked h = (l : Link) → IsIn l h.links → l.connection ≡ aim.number → ⊥

  follows-insertions : (p : ℕ) (is : List ℕ) (s : State)
      → Follows aim (each is (λ i. takes_notice (at_insertion p i))) s
  unfolding machine_opened
  follows-insertions p [] s = follows-nothing aim s
  follows-insertions p (i ∷ is) s =
      follows-▸ aim (takes_notice (at_insertion p i))
      (each is (λ j. takes_notice (at_insertion p j))) {s = s}
      (follows-notice aim (at_insertion p i) s (insertion-leaves p i s.host aim.number))
      (follows-insertions p is (takes_notice (at_insertion p i) s).state)

  follows-removals : (is : List ℕ) (s : State) → Unlinked s.host
      → Follows aim (each is (λ i. takes_notice (at_removal i))) s
  unfolding machine_opened
  follows-removals [] s none = follows-nothing aim s
  follows-removals (i ∷ is) s none =
      follows-▸ aim (takes_notice (at_removal i)) (each is (λ j. takes_notice (at_removal j)))
      {s = s}
      (follows-notice aim (at_removal i) s
      (λ j. let l = removal-leaves i s.host aim.number j in none l.0 l.1 l.2))
      (follows-removals is (takes_notice (at_removal i) s).state
      (λ l j. none l (in-without (λ (x : Link). x.intf == i) s.host.links l
      (subst (λ (h : Host). IsIn l h.links) (removed-host i s) j)).0))

  -- Then it doesn't give it up.
  pub follows-notices : {b : Bus} (e : HostEvent) (s : State) → HostFits b s.host
      → Unlinked s.host → Follows aim (notices e) s
  unfolding machine_opened
  follows-notices (host_event.Inserted p count) s fits none =
      subst (λ (r : Told). Each aim.tells r.entries × (Left aim s.bus → Left aim r.state.bus))
      (sym (inserted-each p count s)) (follows-insertions p (span p count) s)
  follows-notices (host_event.Removed p) s fits none =
      subst (λ (r : Told). Each aim.tells r.entries × (Left aim s.bus → Left aim r.state.bus))
      (sym (removed-each p s)) (follows-removals (interfaces_of p s.host) s none)
  follows-notices {b} e s fits none = follows-notice aim (at_event e) s (λ j. by
      (why-left b (at_event e) s.host aim.number fits j))
    where
      by : WhyLeft s.host (at_event e) aim.number → ⊥
      by (removed j l is known at number) = none l known number
      by (closed k result payload l is known waits number) = none l known number
