-- Where a connection is wired, its module is plugged and its interface is routed.
use Rattle.std.proofs.Common.{Bool, List, None, Option, Some, ap, arith, false, inl, inr, refl}
use Rattle.std.proofs.Common.{subst, sym, true, ℕ, ⊎_elim, ◌∙◌, ◌≡◌, ◌≤◌, ◌⊎◌}
use Rattle.std.proofs.lemmas.Bool.Decides.{nat_tests}
use Rattle.std.specs.Prelude.{nat_lt, option_map, ◌&&◌, ◌==◌}
use Rattle.gb_base.specs.declared.end.End.TheVariants as end
use Rattle.gb_formats.specs.ValidEvents.{IsIntf}
use Rattle.gb_machine.specs.Bus.{Bus, Connection, has_number}
use Rattle.gb_machine.specs.Ports.{is_powered, level_in, level_of, port_of, unrouted}
use Rattle.gb_machine.specs.{Members.IsIn, Modules.is_plugged, Runs.Moment, State.Port, State.State}
use Rattle.gb_machine.specs.{SvcTable.svc_step, Wiring.is_at, Wiring.is_wired_to}
use Rattle.gb_invariants.proofs.{Awaiting.not-both, Lists.in-at_first, Numbers.same-connection}
use Rattle.gb_invariants.proofs.{BusChanges.BusChange, Outcomes.is-same, Outcomes.same-number}
use Rattle.gb_invariants.proofs.{Wires.WasWired}
use Rattle.gb_invariants.proofs.{Wires.was-wired}
use Rattle.gb_laws.proofs.svc.Levels.{StepOn, by_record, nothing_changes, other-port, same-port}
use Rattle.gb_laws.proofs.svc.Levels.{step-levels}
use Rattle.gb_laws.proofs.points.Points.{Change, IsElse, IsOfSvc, PortsFrom, acts_asked, as_before}
use Rattle.gb_laws.proofs.points.Points.{SamePlugs, asks, changed, finishes, loses_route, others}
use Rattle.gb_laws.proofs.points.Points.{served, wires}
use Rattle.gb_laws.proofs.{points.Awaited.awaited-rest, points.ChangeBuses.bus_change}
use Rattle.gb_laws.proofs.{links.LinkActs.awaited-plugs}
use Rattle.gb_laws.proofs.points.LoaderFacts.{asked-plugs, module-plugs}
use Rattle.gb_laws.proofs.{points.PointParts.Basis}
use Rattle.gb_laws.proofs.{points.PointParts.Point}
use Rattle.gb_laws.proofs.marks.Wholes.{still-plugged}

-- What is wired to a module, and what is powered, is plugged, at interfaces in range. What is wired
-- is routed, which is the highest level.
pub record WiredFit (s : State) : Type 0 where
  pub wired : (c : Connection) → IsIn c s.bus.connections → c.wired ≡ true → (i p : ℕ)
      → c.peer ≡ end.Module i p → is_plugged i s.modules ≡ true
  pub powered : (i : ℕ) → is_powered i s.ports ≡ true → is_plugged i s.modules ≡ true
  pub range : (i : ℕ) → is_plugged i s.modules ≡ true → IsIntf i
  pub bound : (i : ℕ) → level_of i s.ports ≤ 6
  pub routed : (c : Connection) → IsIn c s.bus.connections → c.wired ≡ true → (i p : ℕ)
      → c.peer ≡ end.Module i p → level_of i s.ports ≡ 6

-- the bus changes so, and what is plugged and levels stay
fit-plugged : (s : State) {t : State} → WasWired s.bus t.bus
    → ((i : ℕ) → is_plugged i t.modules ≡ is_plugged i s.modules) → t.ports ≡ s.ports
    → WiredFit s → WiredFit t
fit-plugged s was plugged ports h = record {
  wired = λ c live wired i p at. let w =
      was c live wired in plugged i ∙ h.wired w.0 w.1 w.3 i p (sym w.2.peer ∙ at);
  powered = λ i e. plugged i ∙ h.powered i (sym (ap (is_powered i) ports) ∙ e);
  range = λ i e. h.range i (sym (plugged i) ∙ e);
  bound = λ i. subst (λ ps. level_of i ps ≤ 6) (sym ports) (h.bound i);
  routed = λ c live wired i p at. let w = was c live wired in
      ap (level_of i) ports ∙ h.routed w.0 w.1 w.3 i p (sym w.2.peer ∙ at);
}

-- nothing else that matters changes
pub fit-bus : (s : State) {t : State} → WasWired s.bus t.bus → t.modules ≡ s.modules → t.ports ≡
    s.ports → WiredFit s → WiredFit t
fit-bus s was modules ports h = fit-plugged s was (λ i. ap (is_plugged i) modules) ports h

-- modules change, and what is plugged stays
fit-modules : (s : State) {t : State} → WasWired s.bus t.bus
    → SamePlugs s t.booted s.ports t.modules → t.ports ≡ s.ports → WiredFit s → WiredFit t
fit-modules s was plugs ports h =
    fit-plugged s was (λ i. still-plugged i _ _ (plugs.plugged i)) ports h

-- a level that isn't below the highest is that
pub at-most : (n : ℕ) → n ≤ 6 → nat_lt n 6 ≡ false → n ≡ 6
at-most n most h = grind (arith, nat_tests, most, h)

-- what becomes of levels: none is too high, and what is routed stays so, unless nothing is wired
record LevelsKept (s : State) (ports : List Port) : Type 0 where
  bound : (i : ℕ) → level_of i ports ≤ 6
  routed : (i : ℕ) → level_of i s.ports ≡ 6 → (level_of i ports ≡ 6)
      ⊎ ((c : Connection) → IsIn c s.bus.connections → is_wired_to i c ≡ false)

step-kept : (i : ℕ) (before : List Port) (kind : ℕ) (payload : List ℕ) → level_of i before ≤ 6
    → (level_of i (svc_step before kind payload).ports ≤ 6)
    × (level_of i before ≡ 6 → level_of i (svc_step before kind payload).ports ≡ 6)
step-kept i before kind payload most = by (step-levels i before)
  where
    by : StepOn i kind payload (level_of i before) (level_of i (svc_step before kind payload).ports)
        → (level_of i (svc_step before kind payload).ports ≤ 6)
        × (level_of i before ≡ 6 → level_of i (svc_step before kind payload).ports ≡ 6)
    by (nothing_changes e) = (subst (λ n. n ≤ 6) (sym e) most, λ h. e ∙ h)
    by (by_record ask e l) = (l.bound most, l.routed)

levels-kept : (m : Moment) (s : State) (ports : List Port) → ((i : ℕ) → level_of i s.ports ≤ 6)
    → PortsFrom m s ports → LevelsKept s ports
levels-kept m s ports most (as_before e) = record {
  bound = λ i. subst (λ ps. level_of i ps ≤ 6) (sym e) (most i);
  routed = λ i h. inl (ap (level_of i) e ∙ h);
}
levels-kept m s ports most (served q w e) = record {
  bound = λ i. subst (λ ps. level_of i ps ≤ 6) (sym e) (kept i).0;
  routed = λ i h. inl (ap (level_of i) e ∙ (kept i).1 (sym (ap (level_of i) w.ports) ∙ h));
}
  where
    kept : (i : ℕ) → (level_of i (svc_step m.before.ports q.kind q.payload).ports ≤ 6)
        × (level_of i m.before.ports ≡ 6
        → level_of i (svc_step m.before.ports q.kind q.payload).ports ≡ 6)
    kept i = step-kept i m.before.ports q.kind q.payload
        (subst (λ ps. level_of i ps ≤ 6) w.ports (most i))
levels-kept m s ports most (loses_route q j w lost e none) = record {
  bound = λ i. subst (λ ps. level_of i ps ≤ 6) (sym e) (bound i (i == j) refl);
  routed = λ i h. routed i (i == j) refl (sym (ap (level_of i) w.ports) ∙ h);
}
  where
    kept : (i : ℕ) → (level_of i (svc_step m.before.ports q.kind q.payload).ports ≤ 6)
        × (level_of i m.before.ports ≡ 6
        → level_of i (svc_step m.before.ports q.kind q.payload).ports ≡ 6)
    kept i = step-kept i m.before.ports q.kind q.payload
        (subst (λ ps. level_of i ps ≤ 6) w.ports (most i))

    low : (o : Option Port) → level_in (option_map (λ (p : Port). record p { level = 5 }) o) ≤ 6
    low None = omega arith
    low (Some p) = omega arith

    bound : (i : ℕ) (t : Bool) → (i == j) ≡ t
        → level_of i (unrouted j (svc_step m.before.ports q.kind q.payload).ports) ≤ 6
    bound i false f = subst (λ o. level_in o ≤ 6) (sym (other-port i j (λ p. record p { level = 5 })
        (svc_step m.before.ports q.kind q.payload).ports (λ p. refl) f)) (kept i).0
    bound i true f =
        subst (λ k. level_of k (unrouted j (svc_step m.before.ports q.kind q.payload).ports) ≤ 6)
        (sym (same-number i j f))
        (subst (λ o. level_in o ≤ 6) (sym (same-port j (λ p. record p { level = 5 })
        (svc_step m.before.ports q.kind q.payload).ports (λ p. refl)))
        (low (port_of j (svc_step m.before.ports q.kind q.payload).ports)))

    routed : (i : ℕ) (t : Bool) → (i == j) ≡ t → level_of i m.before.ports ≡ 6
        → (level_of i ports ≡ 6)
        ⊎ ((c : Connection) → IsIn c s.bus.connections → is_wired_to i c ≡ false)
    routed i false f h = inl (ap (level_of i) e
        ∙ ap level_in (other-port i j (λ p. record p { level = 5 })
        (svc_step m.before.ports q.kind q.payload).ports (λ p. refl) f) ∙ (kept i).1 h)
    routed i true f h = inr (λ c live. subst (λ k. is_wired_to k c ≡ false)
        (sym (same-number i j f)) (none c live))

same-module : (i j c d : ℕ) → end.Module i c ≡ end.Module j d → i ≡ j
same-module i j c d e = cc

pub wired-kept : (m : Moment) → (IsOfSvc m.event → ⊥) → (a : Point) (x : Change m a) → Basis a
    → WiredFit a.state → WiredFit (changed m a x).state
wired-kept m other a (wires k free untouched live powered) basis h = record {
  wired = λ c alive wired i p at. ⊎_elim (λ o. h.wired c o wired i p at)
      (λ w. ap (λ n. is_plugged n a.state.modules) (sym (same c i p at w))
      ∙ h.powered live.intf powered.0)
      (in-at_first (has_number k) (λ (x : Connection). record x { wired = true })
      a.state.bus.connections c alive);
  powered = h.powered;
  range = h.range;
  bound = h.bound;
  routed = λ c alive wired i p at. ⊎_elim (λ o. h.routed c o wired i p at)
      (λ w. ap (λ n. level_of n a.state.ports) (sym (same c i p at w))
      ∙ at-most (level_of live.intf a.state.ports) (h.bound live.intf) powered.1)
      (in-at_first (has_number k) (λ (x : Connection). record x { wired = true })
      a.state.bus.connections c alive);
}
  where
    same : (c : Connection) (i p : ℕ) → c.peer ≡ end.Module i p
        → (x : Connection) × IsIn x a.state.bus.connections × (has_number k x ≡ true)
        × (c ≡ record x { wired = true }) → live.intf ≡ i
    same c i p at w =
        let one = same-connection a.state.bus.connections w.0 live.connection
        basis.bus.numbers.rise w.1 live.live (same-number w.0.number k w.2 ∙ sym live.number) in
        same-module live.intf i live.cport p (sym live.peer
        ∙ ap (λ (x : Connection). x.peer) (sym one)
        ∙ sym (ap (λ (x : Connection). x.peer) w.3) ∙ at)
wired-kept m other a (acts_asked q n rest is) basis h =
    let plugs = awaited-plugs q.purpose n in
    let bus = (awaited-rest q.purpose n).bus in
    let ports = (awaited-rest q.purpose n).ports in record {
      wired = λ c live wired i p at. still-plugged i _ _ (plugs.plugged i)
          ∙ h.wired c (subst (λ (b : Bus). IsIn c b.connections) bus live) wired i p at;
      powered = λ i e. still-plugged i _ _ (plugs.plugged i) ∙ h.powered i (plugs.powered i e);
      range = λ i e. h.range i (sym (still-plugged i _ _ (plugs.plugged i)) ∙ e);
      bound = λ i. subst (λ ps. level_of i ps ≤ 6) (sym ports) (h.bound i);
      routed = λ c live wired i p at. ap (level_of i) ports
          ∙ h.routed c (subst (λ (b : Bus). IsIn c b.connections) bus live) wired i p at;
    }
wired-kept m other a (others booted marks ports modules same) basis h = by same.0
  where
    by : IsElse m a booted marks ports modules
        → WiredFit (changed m a (others booted marks ports modules same)).state
    by (inl s) = record {
      wired = λ c live wired i p at. still-plugged i _ _ (s.0.plugged i)
          ∙ h.wired c live wired i p at;
      powered = λ i e. still-plugged i _ _ (s.0.plugged i) ∙ h.powered i (s.0.powered i e);
      range = λ i e. h.range i (sym (still-plugged i _ _ (s.0.plugged i)) ∙ e);
      bound = (levels-kept m a.state ports h.bound s.1).bound;
      routed = λ c live wired i p at. ⊎_elim (λ e. e) (λ none. absurd (not-both (is_wired_to i c)
          (ap (λ t. t && is_at i c.peer) wired ∙ ap (is_at i) at ∙ is-same i) (none c live)))
          ((levels-kept m a.state ports h.bound s.1).routed i (h.routed c live wired i p at));
    }
    by (inr of) = absurd (other of.0)
wired-kept m other a (asks d c label free live drawn who) basis h =
    fit-modules a.state (was-wired (BusChange.sends d label) a.state.bus refl)
    (asked-plugs m a c d who) refl h
wired-kept m other a (finishes i c x tag size idle is) basis h =
    fit-modules a.state (was-wired BusChange.rests a.state.bus refl) (module-plugs a.state i x) refl
    h
wired-kept m other a x basis h = fit-bus a.state
    (was-wired (bus_change x) a.state.bus refl) refl refl h
