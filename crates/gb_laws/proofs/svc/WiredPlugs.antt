-- Where a connection is wired its module is plugged and its interface routed: this is kept where
-- the supervisory controller starts, and where modules are plugged and pulled.
use Rattle.std.proofs.Common.{Bool, List, None, Option, Some, ap, arith, cond, false, inl, inr}
use Rattle.std.proofs.Common.{length, map, refl, subst, sym, true, ℕ, ⊎_elim, [], ◌∙◌, ◌∷◌, ◌≡◌}
use Rattle.std.proofs.Common.{◌≢◌, ◌≤◌}
use Rattle.std.specs.List.{filter, find}
use Rattle.std.specs.Prelude.{is_some, option_map, ◌&&◌, ◌==◌}
use Rattle.gb_base.specs.declared.end.End.TheVariants as end
use Rattle.gb_base.specs.declared.entry.Entry.{Entry}
use Rattle.gb_base.specs.declared.host_event.HostEvent.{HostEvent}
use Rattle.gb_formats.specs.Module.{Module}
use Rattle.gb_formats.specs.{SvcRecords.SvcAsk, ValidEvents.IsIntf}
use Rattle.gb_machine.proofs.{Opened.machine_opened}
use Rattle.gb_machine.specs.Modules.{interfaces_of, is_plugged, is_plugged_at, is_primary, part_at}
use Rattle.gb_machine.specs.Modules.{plugged, unplugged}
use Rattle.gb_machine.specs.Plugging.{boots, parts_of, plugs, pulls, pulls_module, pulls_one}
use Rattle.gb_machine.specs.Plugging.{recalled, tells_inserted, tells_removed, wired_numbers}
use Rattle.gb_machine.specs.Plugging.{with_plugged, with_pulled, with_told}
use Rattle.gb_machine.specs.Ports.{is_port, is_powered, level_in, level_of, port_of, powered}
use Rattle.gb_machine.specs.Ports.{unpowered}
use Rattle.gb_machine.specs.State.{Plugged, Port, State}
use Rattle.gb_machine.specs.{Actions.each, Actions.when, Bus.Connection, Bus.has_number}
use Rattle.gb_machine.specs.{Bus.next_number, Bus.request_of}
use Rattle.gb_machine.specs.{Members.EachTwo, Members.IsIn}
use Rattle.gb_machine.specs.{OwnAsking.svc_asks, Wires.unwires}
use Rattle.gb_machine.specs.{Wires.with_unwired, Wiring.is_at, Wiring.is_wired_to}
use Rattle.gb_machine.specs.Actions.{change, given}
use Rattle.gb_invariants.proofs.{Awaiting.not-both, Found.find-left, Found.none-of, Lists.filter-in}
use Rattle.gb_invariants.proofs.{Lists.two-at_first, Numbers.in-changed, Outcomes.is-same}
use Rattle.gb_invariants.proofs.{Outcomes.same-number}
use Rattle.gb_invariants.specs.Facts.{IsBefore}
use Rattle.gb_invariants.proofs.Lists.{each-in}
use Rattle.gb_laws.proofs.links.LinkRuns.{LinkedTo}
use Rattle.gb_laws.proofs.marks.MarkPulls.{svc-asked}
use Rattle.gb_laws.proofs.marks.MarkTells.{AfterAsk, QueueIsAsked, after-ask}
use Rattle.gb_laws.proofs.svc.WiredWell.{WiredFit, fit-bus}
use Rattle.gb_laws.proofs.marks.PullParts.{pulled-other, pulls-each}
use Rattle.gb_laws.proofs.marks.PlugParts.{CanPlug, all-plugged, in-parts, parts-differ, parts-free}
use Rattle.gb_laws.proofs.marks.PlugParts.{plugged-at, plugged-other}
use Rattle.gb_laws.proofs.marks.Wholes.{AreElsewhere}
use Rattle.gb_laws.proofs.steps.Ticking.{unwired-plugs}

-- ---- the supervisory controller asks

fit-ask : {s t : State} (o : Option HostEvent) → AfterAsk s t o → WiredFit s → WiredFit t
fit-ask {s} o a h = fit-bus s a.wired a.modules a.ports h

fit-tells : (ps : List Plugged) {s : State} → QueueIsAsked s.bus → WiredFit s
    → WiredFit (each ps (λ p. tells_inserted p.primary p.count) s).state
unfolding machine_opened
fit-tells [] asked h = h
fit-tells (p ∷ ps) asked h =
    let a = after-ask (SvcAsk.ModuleInserted p.primary p.count 0) asked in
    fit-tells ps a.asked (fit-ask _ a h)

pub fit-boots : (s : State) → QueueIsAsked s.bus → WiredFit s → WiredFit (boots s).state
unfolding machine_opened
fit-boots s asked h =
    let s0 = record s { booted = true } in
    let s1 = (svc_asks (SvcAsk.ProtocolVersion 0 1) s0).state in
    let s2 = (svc_asks (SvcAsk.Hello 1 1) s1).state in
    let a1 = after-ask (SvcAsk.ProtocolVersion 0 1) asked in
    let a2 = after-ask (SvcAsk.Hello 1 1) a1.asked in
    fit-tells (filter is_primary s.modules) a2.asked (fit-ask _ a2 (fit-ask _ a1 (record {
      wired = h.wired;
      powered = h.powered;
      range = h.range;
      bound = h.bound;
      routed = h.routed;
    })))

-- ---- plugging

fit-plugged : (p : Plugged) (s : State) → IsIntf p.intf → is_plugged p.intf s.modules ≡ false
    → WiredFit s → WiredFit (with_plugged p s)
fit-plugged new s valid free h = record {
  wired = λ c live wired j p at. stays j (h.wired c live wired j p at);
  powered = λ j e. by_power j (new.intf == j) refl e;
  range = λ j e. by_range j (new.intf == j) refl e;
  bound = λ j. by_bound j (new.intf == j);
  routed = λ c live wired j p at. by_route c live wired j p at (new.intf == j) refl;
}
  where
    by_bound : (j : ℕ) (t : Bool)
        → level_in (cond t (Some (record { intf = new.intf; level = 0; device = None }))
        (port_of j s.ports)) ≤ 6
    by_bound j true = omega arith
    by_bound j false = h.bound j

    by_route : (c : Connection) → IsIn c s.bus.connections → c.wired ≡ true → (j p : ℕ)
        → c.peer ≡ end.Module j p → (t : Bool) → (new.intf == j) ≡ t
        → level_in (cond t (Some (record { intf = new.intf; level = 0; device = None }))
        (port_of j s.ports)) ≡ 6
    by_route c live wired j p at true e =
        absurd (not-both (is_plugged new.intf s.modules)
        (ap (λ n. is_plugged n s.modules) (same-number new.intf j e)
        ∙ h.wired c live wired j p at) free)
    by_route c live wired j p at false e = h.routed c live wired j p at

    stays : (j : ℕ) → is_plugged j s.modules ≡ true → is_plugged j (plugged new s.modules) ≡ true
    stays j e = by (new.intf == j) refl
      where
        by : (t : Bool) → (new.intf == j) ≡ t → is_plugged j (plugged new s.modules) ≡ true
        by true f = plugged-at j new s.modules f
        by false f = plugged-other j new s.modules f ∙ e

    by_power : (j : ℕ) (t : Bool) → (new.intf == j) ≡ t
        → is_powered j (powered new.intf s.ports) ≡ true
        → is_plugged j (plugged new s.modules) ≡ true
    by_power j true f e = plugged-at j new s.modules f
    by_power j false f e = plugged-other j new s.modules f
        ∙ h.powered j (sym (ap (λ t. is_some
        (cond t (Some (let p : Port = record { intf = new.intf; level = 0; device = None } in p))
        (find (is_port j) s.ports))) f) ∙ e)

    by_range : (j : ℕ) (t : Bool) → (new.intf == j) ≡ t
        → is_plugged j (plugged new s.modules) ≡ true → IsIntf j
    by_range j true f e = subst IsIntf (same-number new.intf j f) valid
    by_range j false f e =
        h.range j (sym (plugged-other j new s.modules f) ∙ e)

-- parts one after another
fit-plugged_all : (ps : List Plugged) (s : State) → ((p : Plugged) → IsIn p ps → IsIntf p.intf)
    → EachTwo AreElsewhere ps → ((p : Plugged) → IsIn p ps → is_plugged p.intf s.modules ≡ false)
    → WiredFit s → WiredFit (each ps (λ p. change (with_plugged p)) s).state
unfolding machine_opened
fit-plugged_all [] s valid apart free h = h
fit-plugged_all (p ∷ ps) s valid apart free h =
    fit-plugged_all ps (with_plugged p s) (λ q i. valid q (inr i)) apart.1
    (λ q i. plugged-other q.intf p s.modules (other q i (p.intf == q.intf) refl) ∙ free q (inr i))
    (fit-plugged p s (valid p (inl refl)) (free p (inl refl)) h)
  where
    other : (q : Plugged) → IsIn q ps → (t : Bool) → (p.intf == q.intf) ≡ t → t ≡ false
    other q i false e = refl
    other q i true e =
        absurd (each-in (AreElsewhere p) ps q apart.0 i (same-number p.intf q.intf e))

pub fit-plugs : (i : ℕ) (ms : List Module) {s : State} → CanPlug i ms s.modules
    → QueueIsAsked s.bus → WiredFit s → WiredFit (plugs i ms s).state
unfolding machine_opened
fit-plugs i ms {s} can asked h = by s.booted
  where
    w : State
    w = (each (parts_of i ms) (λ p. change (with_plugged p)) s).state

    fit : WiredFit (each (parts_of i ms) (λ p. change (with_plugged p)) s).state
    fit = fit-plugged_all (parts_of i ms) s
        (λ p k. let r = in-parts i i (length ms) ms p k in
        (omega (arith, can.range.two, r.from), omega (arith, can.range.within, r.below)))
        (parts-differ i i (length ms) ms) (parts-free i ms s.modules can.free) h

    queue : QueueIsAsked (each (parts_of i ms) (λ p. change (with_plugged p)) s).state.bus
    queue = subst (λ (t : State). QueueIsAsked t.bus) (sym (all-plugged (parts_of i ms) s)) asked

    by : (t : Bool) → WiredFit (when t (tells_inserted i (length ms))
        (each (parts_of i ms) (λ p. change (with_plugged p)) s).state).state
    by true = fit-ask _ (after-ask (SvcAsk.ModuleInserted i (length ms) 0) queue) fit
    by false = fit

-- ---- pulling

-- what is wired still was wired, and has none of the numbers
cut-from : (ns : List ℕ) (s : State) (c : Connection) → EachTwo IsBefore s.bus.connections
    → IsIn c (each ns unwires s).state.bus.connections
    → c.wired ≡ true → IsIn c s.bus.connections × ((n : ℕ) → IsIn n ns → c.number ≢ n)
unfolding machine_opened
cut-from [] s c rise live wired = (live, λ n i. absurd i)
cut-from (n ∷ ns) s c rise live wired =
    let f = λ (x : Connection). record x { wired = false; to_ap = []; to_far = [] } in
    let rec = cut-from ns (with_unwired n s) c
    (two-at_first IsBefore (has_number n) f s.bus.connections (λ x y r. r) (λ x y r. r) rise) live
    wired in
    let here = ⊎_elim (λ o. o) (λ w. absurd
    (not-both c.wired wired (ap (λ (x : Connection). x.wired) w.3)))
    (in-changed s.bus.connections n f c rise rec.0) in
    (here.0, λ k i. ⊎_elim (λ e g. here.1 (g ∙ e)) (λ j. rec.1 k j) i)

number-in : (cs : List Connection) (c : Connection) → IsIn c cs
    → IsIn c.number (map (λ (x : Connection). x.number) cs)
number-in [] c i = i
number-in (x ∷ xs) c (inl e) = inl (ap (λ (y : Connection). y.number) e)
number-in (x ∷ xs) c (inr j) = inr (number-in xs c j)

fit-pulled : (i : ℕ) (s : State) → EachTwo IsBefore s.bus.connections → WiredFit s
    → (s1 : State) → s1 ≡ (each (wired_numbers i s.bus) unwires s).state → s1.modules ≡ s.modules
    → s1.ports ≡ s.ports → WiredFit (with_pulled i s1)
fit-pulled i s rise h s1 is modules ports = record {
  wired = λ c live wired j p at.
      let w = cut-from (wired_numbers i s.bus) s c rise
      (subst (λ t. IsIn c t.bus.connections) is live) wired in
      by_wired c j p w.0 wired at w.1 (i == j) refl;
  powered =
      λ j e. by_power j (i == j) refl (sym (ap (λ ps. is_powered j (unpowered i ps)) ports) ∙ e);
  range = λ j e. by_range j (i == j) refl
      (sym (ap (λ ms. is_plugged j (unplugged i ms)) modules) ∙ e);
  bound = λ j. subst (λ ps. level_of j (unpowered i ps) ≤ 6) (sym ports) (by_bound j (i == j) refl);
  routed = λ c live wired j p at.
      let w = cut-from (wired_numbers i s.bus) s c rise
      (subst (λ t. IsIn c t.bus.connections) is live) wired in
      ap (λ ps. level_of j (unpowered i ps)) ports ∙ by_route c j p w.0 wired at w.1 (i == j) refl;
}
  where
    past : (j : ℕ) → (i == j) ≡ false → (p : Port) (t : Bool) → (p.intf == i) ≡ t → p.intf ≡ j
        → t ≡ false
    past j e p false k same = refl
    past j e p true k same = absurd (not-both (i == j)
        (ap (λ n. n == j) (sym (same-number p.intf i k) ∙ same) ∙ is-same j) e)

    left : (j : ℕ) → (i == j) ≡ false → port_of j (unpowered i s.ports) ≡ port_of j s.ports
    left j e = find-left (is_port j) (is_port i) s.ports
        (λ p g. past j e p (p.intf == i) refl (same-number p.intf j g))

    by_bound : (j : ℕ) (t : Bool) → (i == j) ≡ t → level_of j (unpowered i s.ports) ≤ 6
    by_bound j true e = subst (λ k. level_of k (unpowered i s.ports) ≤ 6) (same-number i j e)
        (subst (λ o. level_in o ≤ 6) (sym (none-of (is_port i) s.ports)) (omega arith))
    by_bound j false e = subst (λ o. level_in o ≤ 6) (sym (left j e)) (h.bound j)

    by_route : (c : Connection) (j p : ℕ) → IsIn c s.bus.connections → c.wired ≡ true
        → c.peer ≡ end.Module j p
        → ((n : ℕ) → IsIn n (wired_numbers i s.bus) → c.number ≢ n) → (t : Bool) → (i == j) ≡ t
        → level_of j (unpowered i s.ports) ≡ 6
    by_route c j p live wired at other true e =
        let to : is_wired_to i c ≡ true =
        ap (λ t. t && is_at i c.peer) wired ∙ ap (is_at i) at
        ∙ ap (λ n. n == i) (sym (same-number i j e)) ∙ is-same i in
        absurd (other c.number (number-in (filter (is_wired_to i) s.bus.connections) c
        (filter-in (is_wired_to i) s.bus.connections c live to)) refl)
    by_route c j p live wired at other false e =
        ap level_in (left j e) ∙ h.routed c live wired j p at

    by_wired : (c : Connection) (j p : ℕ) → IsIn c s.bus.connections → c.wired ≡ true
        → c.peer ≡ end.Module j p
        → ((n : ℕ) → IsIn n (wired_numbers i s.bus) → c.number ≢ n) → (t : Bool) → (i == j) ≡ t
        → is_plugged j (unplugged i s1.modules) ≡ true
    by_wired c j p live wired at other true e =
        let to : is_wired_to i c ≡ true =
        ap (λ t. t && is_at i c.peer) wired ∙ ap (is_at i) at
        ∙ ap (λ n. n == i) (sym (same-number i j e)) ∙ is-same i in
        absurd (other c.number (number-in (filter (is_wired_to i) s.bus.connections) c
        (filter-in (is_wired_to i) s.bus.connections c live to)) refl)
    by_wired c j p live wired at other false e =
        ap (λ ms. is_plugged j (unplugged i ms)) modules ∙ pulled-other i j s.modules e
        ∙ h.wired c live wired j p at

    by_power : (j : ℕ) (t : Bool) → (i == j) ≡ t → is_powered j (unpowered i s.ports) ≡ true
        → is_plugged j (unplugged i s1.modules) ≡ true
    by_power j true e f =
        absurd (not-both (is_powered j (unpowered i s.ports)) f
        (ap (λ k. is_powered k (unpowered i s.ports)) (sym (same-number i j e))
        ∙ ap is_some (none-of (is_port i) s.ports)))
    by_power j false e f =
        ap (λ ms. is_plugged j (unplugged i ms)) modules ∙ pulled-other i j s.modules e
        ∙ h.powered j (sym (ap is_some (left j e)) ∙ f)

    by_range : (j : ℕ) (t : Bool) → (i == j) ≡ t → is_plugged j (unplugged i s.modules) ≡ true
        → IsIntf j
    by_range j true e f =
        absurd (not-both (is_plugged j (unplugged i s.modules)) f
        (ap (λ k. is_plugged k (unplugged i s.modules)) (sym (same-number i j e))
        ∙ ap (λ o. is_some (option_map (λ (p : Plugged). p.body) o))
        (none-of (is_plugged_at i) s.modules)))
    by_range j false e f = h.range j (sym (pulled-other i j s.modules e) ∙ f)

-- numbers rise still where connections are unwired
unwired-rise : (ns : List ℕ) (s : State) → EachTwo IsBefore s.bus.connections
    → EachTwo IsBefore (each ns unwires s).state.bus.connections
unfolding machine_opened
unwired-rise [] s rise = rise
unwired-rise (n ∷ ns) s rise = unwired-rise ns (with_unwired n s)
    (two-at_first IsBefore (has_number n)
    (λ (x : Connection). record x { wired = false; to_ap = []; to_far = [] }) s.bus.connections
    (λ x y r. r) (λ x y r. r) rise)

-- interfaces one after another
fit-each : (is : List ℕ) (s : State) → EachTwo IsBefore s.bus.connections → WiredFit s
    → WiredFit (each is pulls_one s).state
unfolding machine_opened
fit-each [] s rise h = h
fit-each (i ∷ is) s rise h =
    let cut = unwired-plugs (wired_numbers i s.bus) s in
    fit-each is (pulls_one i s).state (unwired-rise (wired_numbers i s.bus) s rise)
    (fit-pulled i s rise h _ refl cut.0 cut.1)

-- what is remembered of pulls is no matter here
fit-recalled : (n : ℕ) (is : List ℕ) {s : State} → WiredFit s → WiredFit (recalled n is s)
fit-recalled n is {s} h = by (is_some (request_of n s.bus))
  where
    by : (t : Bool) → WiredFit (cond t (with_told n is s) s)
    by true = record {
      wired = h.wired;
      powered = h.powered;
      range = h.range;
      bound = h.bound;
      routed = h.routed;
    }
    by false = h

pub fit-pulls : (i : ℕ) (told : List Entry) (s : State) → LinkedTo told s → QueueIsAsked s.bus
    → WiredFit s → WiredFit (pulls i s).state
unfolding machine_opened
fit-pulls i told s start asked h = by (part_at i s.modules)
  where
    module-fit : (p : Plugged) → WiredFit (pulls_module p s).state
    module-fit p = by s.booted
      where
        fit : WiredFit (each (interfaces_of p) pulls_one s).state
        fit = fit-each (interfaces_of p) s start.0.bus.numbers.rise h

        queue : QueueIsAsked (each (interfaces_of p) pulls_one s).state.bus
        queue = svc-asked s (pulls-each (interfaces_of p) s
            (λ c j on. (start.1.svc c j on).peer)).svc asked

        by : (t : Bool) → WiredFit (when t (tells_removed p.primary (interfaces_of p))
            (each (interfaces_of p) pulls_one s).state).state
        by true = fit-recalled
            (next_number (each (interfaces_of p) pulls_one s).state.bus) (interfaces_of p)
            (fit-ask _ (after-ask (SvcAsk.ModuleRemoved p.primary) queue) fit)
        by false = fit

    by : (o : Option Plugged) → WiredFit (given o pulls_module s).state
    by None = h
    by (Some p) = module-fit p
