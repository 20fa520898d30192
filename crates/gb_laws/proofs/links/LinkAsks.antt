-- What a turn of the application processor asks for fits its connections.
use Rattle.std.proofs.Common.{Some, ap, arith, cond, false, refl, subst, sym, true, ℕ}
use Rattle.std.proofs.Common.{◌∙◌, ◌≡◌, ◌≢◌, ◌≤◌}
use Rattle.std.specs.List.{list_any}
use Rattle.std.specs.Prelude.{◌==◌}
use Rattle.gb_base.specs.declared.interface.Link.{Link}
use Rattle.gb_base.specs.declared.steps.{Purpose.Purpose, SequenceStep.SequenceStep}
use Rattle.gb_base.specs.declared.steps.SequenceStep.TheVariants as steps
use Rattle.gb_machine.specs.Host.{Host, control_of, free_cport, link_at}
use Rattle.gb_machine.specs.SequenceSteps.{asks_control}
use Rattle.gb_machine.specs.Sequences.{ap_in, asking, target, way_of}
use Rattle.gb_machine.specs.{Bus.Bus}
use Rattle.gb_invariants.proofs.HostChanges.{HostEnd, end_of, is_creating}
use Rattle.gb_invariants.proofs.{Awaiting.not-both, Awaiting.same-some, Found.first_free-is}
use Rattle.gb_invariants.proofs.{Found.none-any, Outcomes.is-same}
use Rattle.gb_laws.proofs.links.LinkDue.{IsMakeable, making-asks}
use Rattle.gb_laws.proofs.links.LinkFits.{TurnFits}
use Rattle.gb_laws.proofs.links.LinkHosts.{come-same, same-link}
use Rattle.gb_laws.proofs.links.LinkLists.{on-control}
use Rattle.gb_laws.proofs.links.Links.{HostFits, IsDue, IsFormed, IsMaking, connection, control}
use Rattle.gb_laws.proofs.links.Links.{stays}

-- the request of a step is formed
formed : (k a : ℕ) (p : Purpose) (h : Host)
    → (p.step ≡ steps.CreateConnection → (p.cport ≢ 0) × (p.cport ≤ 4095))
    → (asks_control p.step ≡ false → k ≡ 1) → (asks_control p.step ≡ true → 2 ≤ k)
    → IsFormed (asking k p (target a p h))
formed k a p h created on far = record {
  target = target a p h;
  kind = refl;
  payload = refl;
  intf = refl;
  cport = refl;
  created = created;
  on = on;
  control = far;
}

-- A step that is due is asked.
pub fits-asking : {b : Bus} (k : ℕ) (p : Purpose) (h : Host) → IsDue p.step p h
    → is_creating p.step ≡ false → way_of p h ≡ Some k → HostFits b h
    → TurnFits b h (end_of (HostEnd.asks k p) h)
fits-asking k p h due plain way fits = record {
  host = fits;
  pending = (
    (
      due,
      refl,
      formed k (ap_in (link_at p.intf p.cport h)) p h
          (λ e. absurd (not-both (is_creating p.step) (ap is_creating e) plain))
          (λ e. same-some k 1 (sym way ∙ ap (λ c. cond c (control_of p.intf h) (Some 1)) e))
          (λ e. let l = on-control p h k way e in
          subst (λ n. 2 ≤ n) l.2 (fits.links.numbered l.0 l.1).from_two),
      on-control p h k way,
    ),
    tt,
  );
  followed = λ l i. stays l i (same-link l);
  come = come-same h.links;
}

-- A connection is made that may be, on the least free CPort of the application processor.
pub fits-making : {b : Bus} (a protocol : ℕ) (p : Purpose) (h : Host) → IsMakeable p h
    → free_cport h ≡ Some a → HostFits b h
    → TurnFits b h (end_of (HostEnd.makes a protocol p) h)
fits-making a protocol p h may free fits =
    let f = first_free-is (λ n. list_any (λ (l : Link). l.ap == n) h.links) 4095 1 a free in
    record {
      host = fits;
      pending = (
        (
          record {
            step = may.step;
            intf = refl;
            cport = refl;
            from_one = f.1;
            within = omega (arith, f.2);
            cport_within = may.within;
            ap = λ l i same. not-both (l.ap == a) (ap (λ n. n == a) same ∙ is-same a)
                (none-any (λ (l : Link). l.ap == a) h.links l f.0 i);
            at = may.none;
            idle = may.idle;
            present = may.present;
            formed = formed 1 a p h (λ e. (
              other steps.CreateConnection (subst (IsMaking p.cport) e may.step) refl,
              may.within,
            )) (λ e. refl)
                (λ e. absurd (not-both (asks_control p.step) e (making-asks may.step)));
          },
          refl,
        ),
        tt,
      );
      followed = λ l i. stays l i (same-link l);
      come = come-same h.links;
    }
  where
    other : (s : SequenceStep) → IsMaking p.cport s → s ≡ steps.CreateConnection → p.cport ≢ 0
    other _ (control zero_cport) e = absurd cc
    other _ (connection apart) e = apart
