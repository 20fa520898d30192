-- Which connections a turn of the application processor gives up, and why.
use Rattle.std.proofs.Common.{List, None, Some, ap, inl, inr, refl}
use Rattle.std.proofs.Common.{subst, sym, ℕ, ⊎_elim, [], ◌∙◌, ◌∷◌, ◌≡◌}
use Rattle.std.specs.{Prelude.◌==◌}
use Rattle.gb_base.specs.declared.host_event.HostEvent.TheVariants as host_event
use Rattle.gb_base.specs.declared.interface.Link.{Link}
use Rattle.gb_base.specs.declared.steps.{Purpose.Purpose}
use Rattle.gb_base.specs.declared.outcome.Outcome.TheVariants as outcome
use Rattle.gb_base.specs.declared.steps.SequenceStep.TheVariants as steps
use Rattle.gb_machine.specs.Host.{Host, link_at}
use Rattle.gb_machine.specs.HostTurns.{host_inserted, host_removed, host_turn, links_left, links_of}
use Rattle.gb_machine.specs.Waits.{awaits_nothing}
use Rattle.gb_machine.specs.{Bus.Bus, Failures.told_of, Members.IsIn}
use Rattle.gb_machine.specs.{SequenceSteps.is_enumeration, Turns.Act}
use Rattle.gb_invariants.proofs.HostChanges.{link_awaits}
use Rattle.gb_invariants.proofs.HostChanges.{Finds, HostChange, HostEnd, IsAnswered, IsFor, acts_by}
use Rattle.gb_invariants.proofs.HostChanges.{at_notice, end_of}
use Rattle.gb_invariants.proofs.{Awaiting.not-both, Awaiting.same-some}
use Rattle.gb_invariants.proofs.{Lists.in-append, Lists.in-filter, Outcomes.same-number}
use Rattle.gb_invariants.proofs.{OverTurns.over-turn}
use Rattle.gb_invariants.proofs.HostChanges.{Notice, at_removal, turn_of}
use Rattle.gb_invariants.proofs.HostChanges.{at_event}
use Rattle.gb_invariants.proofs.HostChanges.{at_insertion}
use Rattle.gb_laws.proofs.links.LinkLists.{found-there, found-waiting}
use Rattle.gb_laws.proofs.{links.LinkActs.none-leaves}
use Rattle.gb_laws.proofs.{links.Links.HostFits}
use Rattle.gb_laws.proofs.links.Waited.{WaitsFor, connecting, enumerating, waits-for}

-- A connection is given up where the removal of its interface is handled, or where the last request
-- of its close was answered.
pub data WhyLeft (h : Host) (e : Notice) (k : ℕ) : Type 0 where
  removed : (i : ℕ) (l : Link) → e ≡ at_removal i → IsIn l h.links → l.intf ≡ i
      → l.connection ≡ k → WhyLeft h e k
  closed : (n result : ℕ) (payload : List ℕ) (l : Link)
      → e ≡ at_event (host_event.Ended n (outcome.Answered result payload)) → IsIn l h.links
      → l.awaits ≡ Some (n, steps.DestroyConnection) → l.connection ≡ k → WhyLeft h e k

-- the connection that a close waits on is the one that is found behind its last answer
why-closed : (b : Bus) (h : Host) (e : Notice) (p : Purpose) (l : Link) → HostFits b h
    → IsAnswered e h p → p.step ≡ steps.DestroyConnection
    → link_at p.intf p.cport (awaits_nothing p h) ≡ Some l → WhyLeft h e l.connection
why-closed b h e p l fits r last found = by (waits-for r.number h p r.awaited)
  where
    by : WaitsFor h r.number p → WhyLeft h e l.connection
    by (enumerating x i intf cport awaits) = absurd (not-both (is_enumeration p.step)
        (fits.interfaces x i (r.number, p.step) awaits).0 (ap is_enumeration last))
    by (connecting k i intf cport awaits) =
        let then : link_at p.intf p.cport (awaits_nothing p h) ≡ Some (link_awaits None k) =
        found-waiting None p h k (ap is_enumeration last)
        (found-there h.links k fits.links.rise i intf cport) in
        closed r.number r.result r.payload k r.is i
        (awaits ∙ ap (λ s. Some (r.number, s)) last)
        (ap (λ (y : Link). y.connection) (same-some (link_awaits None k) l (sym then ∙ found)))

-- ---- changes

leave-in : (ls : List Link) (k : ℕ) → IsIn (Act.Leave k) (links_left ls)
    → (l : Link) × IsIn l ls × (l.connection ≡ k)
leave-in [] k i = absurd i
leave-in (l ∷ ls) k (inl e) = absurd cc
leave-in (l ∷ ls) k (inr (inl e)) = (l, inl refl, same k l.connection e)
  where
    same : (n m : ℕ) → Act.Leave n ≡ Act.Leave m → m ≡ n
    same n m e = cc
leave-in (l ∷ ls) k (inr (inr (inl e))) = absurd cc
leave-in (l ∷ ls) k (inr (inr (inr j))) = let w = leave-in ls k j in (w.0, inr w.1, w.2)

-- a connection that a turn gives up
module _ (e : Notice) (h : Host) (closing : (p : Purpose) (l : Link) → IsAnswered e h p
    → p.step ≡ steps.DestroyConnection → link_at p.intf p.cport (awaits_nothing p h) ≡ Some l
    → WhyLeft h e l.connection) where
  change-left : (x : HostChange) (g : Host) → Finds g x → IsFor (at_notice e h) g x → (k : ℕ)
      → IsIn (Act.Leave k) (acts_by x g) → WhyLeft h e k
  change-left (HostChange.tells f) g finds why k j = absurd (none-leaves k (f ∷ []) j)
  change-left (HostChange.departs i) g finds why k j =
      let w = leave-in (links_of i g) k j in
      let f = in-filter (λ (l : Link). l.intf == i) g.links w.0 w.1 in
      removed i w.0 why.0 (subst (λ (y : Host). IsIn w.0 y.links) why.1 f.0)
      (same-number w.0.intf i f.1) w.2
  change-left (HostChange.turns_to i c to o) g finds why k j =
      absurd (none-leaves k (told_of to o) j)
  change-left (HostChange.closes i c l) g finds why k (inl f) = absurd cc
  change-left (HostChange.closes i c l) g finds why k (inr j) = absurd (none-leaves k (_ ∷ []) j)
  change-left (HostChange.leaves p None) g found why k j = absurd j
  change-left (HostChange.leaves p (Some l)) g found why k (inl f) =
      subst (WhyLeft h e) (same k l.connection f) (closing p l why.0 why.1
      (ap (link_at p.intf p.cport) (sym why.2) ∙ found))
    where
      same : (n m : ℕ) → Act.Leave n ≡ Act.Leave m → m ≡ n
      same n m f = cc
  change-left (HostChange.leaves p (Some l)) g found why k (inr j) =
      absurd (none-leaves k (_ ∷ []) j)
  change-left _ g finds why k j = absurd j

  end-left : (x : HostEnd) (g : Host) (k : ℕ) → IsIn (Act.Leave k) (end_of x g).acts → ⊥
  end-left HostEnd.rests g k j = j
  end-left (HostEnd.enumerates p bytes) g k j = none-leaves k (_ ∷ []) j
  end-left (HostEnd.asks n p) g k (inl f) = absurd cc
  end-left (HostEnd.asks n p) g k (inr j) = j
  end-left (HostEnd.makes a protocol p) g k (inl f) = absurd cc
  end-left (HostEnd.makes a protocol p) g k (inr j) = j

  left-by : (k : ℕ) → IsIn (Act.Leave k) (turn_of e h).acts → WhyLeft h e k
  left-by k = over-turn e h (record {
    says = λ g t. IsIn (Act.Leave k) t.acts → WhyLeft h e k;
    ends = λ x g last j. absurd (end-left x g k j);
    over = λ x g t finds why s j. ⊎_elim (λ i. change-left x g finds why k i) s
        (in-append (Act.Leave k) (acts_by x g) t.acts j);
  })

-- Why a turn gives up a connection.
pub why-left : (b : Bus) (e : Notice) (h : Host) (k : ℕ) → HostFits b h
    → IsIn (Act.Leave k) (turn_of e h).acts → WhyLeft h e k
why-left b e h k fits =
    left-by e h (λ p l answered last found. why-closed b h e p l fits answered last found) k

-- None is given up where one is idle.
pub idle-leaves : (n : ℕ) (h : Host) (k : ℕ)
    → IsIn (Act.Leave k) (host_turn (host_event.Idle n) h).acts → ⊥
idle-leaves n h k j =
    by (left-by (at_event (host_event.Idle n)) h
    (λ p l answered. let is = answered.is in absurd cc) k j)
  where
    by : WhyLeft h (at_event (host_event.Idle n)) k → ⊥
    by (removed i l is live at on) = absurd cc
    by (closed m result payload l is live awaits on) = absurd cc

-- Where an interface is removed they are known connections, and none is where one is inserted.
pub removal-leaves : (i : ℕ) (h : Host) (k : ℕ) → IsIn (Act.Leave k) (host_removed i h).acts
    → (l : Link) × IsIn l h.links × (l.connection ≡ k)
removal-leaves i h k j =
    by (left-by (at_removal i) h (λ p l answered. let is = answered.is in absurd cc) k j)
  where
    by : WhyLeft h (at_removal i) k → (l : Link) × IsIn l h.links × (l.connection ≡ k)
    by (removed n l is live at on) = (l, live, on)
    by (closed m result payload l is live awaits on) = absurd cc

pub insertion-leaves : (p i : ℕ) (h : Host) (k : ℕ) → IsIn (Act.Leave k) (host_inserted p i h).acts
    → ⊥
insertion-leaves p i h k j =
    by (left-by (at_insertion p i) h (λ q l answered. let is = answered.is in absurd cc) k j)
  where
    by : WhyLeft h (at_insertion p i) k → ⊥
    by (removed n l is live at on) = absurd cc
    by (closed m result payload l is live awaits on) = absurd cc
