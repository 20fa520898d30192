-- Insertions and removals come in turn where a module is plugged.
use Rattle.std.proofs.Common.{Bool, List, None, Option, Some, ap, append-nil, cond, false, length}
use Rattle.std.proofs.Common.{refl, subst, sym, true, ℕ, ⊎_elim, [], ◌++◌, ◌+◌, ◌<◌, ◌∙◌, ◌∷◌, ◌≡◌}
use Rattle.std.proofs.Common.{◌≤◌}
use Rattle.gb_base.specs.declared.host_event.HostEvent.TheVariants as host_event
use Rattle.gb_base.specs.declared.host_event.HostEvent.{HostEvent}
use Rattle.gb_formats.specs.SvcRecords.{SvcAsk, svc_ask_kind, svc_ask_payload}
use Rattle.gb_formats.specs.Module.{Module}
use Rattle.gb_machine.proofs.Opened.{machine_opened}
use Rattle.gb_machine.specs.Plugging.{parts_of, plugs, tells_inserted}
use Rattle.gb_machine.specs.State.{Past, State}
use Rattle.gb_machine.specs.{Actions.when, Bus.next_number, Members.EachTwo}
use Rattle.gb_machine.specs.{Lists.span, Modules.is_plugged, SvcQueues.is_told}
use Rattle.gb_machine.specs.Lists.{is_within}
use Rattle.gb_invariants.proofs.{Awaiting.not-both, Awaiting.same-some, Found.none-any}
use Rattle.gb_laws.proofs.marks.MarkTells.{AfterAsk, MarksAfter, QueueIsAsked, after-ask}
use Rattle.gb_laws.proofs.marks.MarkTells.{tells-inserted, told, untold}
use Rattle.gb_laws.proofs.marks.Marks.{AreInserted, ArePulled, Mark, MarksFit, Reads, came}
use Rattle.gb_laws.proofs.marks.Marks.{known_at, mark_in, marks, notice_of, pulled-more}
use Rattle.gb_laws.proofs.marks.Marks.{reads-plugged, reads-told}
use Rattle.gb_laws.proofs.marks.PlugParts.{CanPlug, all-plugged, now, now-differ, now-other}
use Rattle.gb_laws.proofs.marks.PlugParts.{now-there, now-whole, powered_all}
use Rattle.gb_laws.proofs.marks.Wholes.{AreElsewhere, AreWhole, IsRange, plugged-none}
use Rattle.gb_laws.proofs.marks.Wholes.{plugged_at, span-in, true-within, within-true}

-- ---- one insertion is told

-- marks behind an insertion that is told
pub reads-inserted : (known : Option ℕ) (ms after : List Mark) (p count j : ℕ) (own : Bool)
    (plugged : Option ℕ) → after ≡ ms ++ mark_in j own (Some (host_event.Inserted p count))
    → Reads known ms plugged → (p ≤ j → j < p + count → Reads known ms None)
    → (p ≤ j → j < p + count → plugged ≡ Some p) → Reads known after plugged
reads-inserted known ms after p count j own plugged e r free there =
    subst (λ l. Reads known l plugged) (sym e) (by (is_within p count j) refl)
  where
    by : (t : Bool) → is_within p count j ≡ t
        → Reads known (ms ++ cond t (came p ∷ []) []) plugged
    by true f =
        let w = within-true p count j f in
        subst (Reads known (ms ++ came p ∷ [])) (sym (there w.0 w.1))
        (reads-told known ms p (free w.0 w.1))
    by false f = subst (λ l. Reads known l plugged) (sym (append-nil ms)) r

-- what is read goes with the parts of a state that stay
pub reads-onto : (j : ℕ) (s : State) {t : State} {o : Option HostEvent} (x y : Option ℕ)
    → AfterAsk s t o → y ≡ x → Reads (known_at j s.host) (marks j s.past.pulled t.bus) x
    → Reads (known_at j t.host) (marks j t.past.pulled t.bus) y
reads-onto j s {t} x y a e r =
    subst (λ h. Reads (known_at j h) (marks j t.past.pulled t.bus) y) (sym a.host)
    (subst (λ (q : Past). Reads (known_at j s.host) (marks j q.pulled t.bus) y) (sym a.past)
    (subst (Reads (known_at j s.host) (marks j s.past.pulled t.bus)) (sym e) r))

pub pulled-onto : (s : State) {t : State} {o : Option HostEvent} → AfterAsk s t o
    → ArePulled s.past.pulled s.bus → ArePulled t.past.pulled t.bus
pulled-onto s {t} a h = subst (λ (q : Past). ArePulled q.pulled t.bus) (sym a.past)
    (pulled-more s.past.pulled s.bus t.bus a.keeps h)

-- where what is told is of a module that there can be
pub inserted-onto : (s : State) {t : State} {o : Option HostEvent} → AfterAsk s t o
    → ((p count : ℕ) → o ≡ Some (host_event.Inserted p count) → IsRange p count)
    → AreInserted s.bus → AreInserted t.bus
inserted-onto s a range h n r made on far p count notice = ⊎_elim
    (λ old. h n r old on far p count notice) (λ new. range p count (sym new ∙ notice))
    (a.fresh n r made)

-- an insertion tells its own module
pub told-range : (p count : ℕ) → IsRange p count → (q many : ℕ)
    → notice_of (svc_ask_kind (SvcAsk.ModuleInserted p count 0))
    (svc_ask_payload (SvcAsk.ModuleInserted p count 0)) ≡ Some (host_event.Inserted q many)
    → IsRange q many
told-range p count range q many e =
    let same : host_event.Inserted p count ≡ host_event.Inserted q many =
    same-some (host_event.Inserted p count) (host_event.Inserted q many)
    (sym (tells-inserted p count) ∙ e) in
    let first : p ≡ q = cc in
    let second : count ≡ many = cc in
    subst (λ k. IsRange k many) first (subst (IsRange p) second range)

-- ---- plugging

module _ (i : ℕ) (ms : List Module) (s : State) (can : CanPlug i ms s.modules)
    (start : MarksFit s) where
  -- the state once it is plugged
  abbrev with_it : State
  with_it = record s {
    modules = now i ms s.modules can start.differ;
    ports = powered_all (parts_of i ms) s.ports;
  }

  none-there : (j : ℕ) → i ≤ j → j < i + length ms
      → Reads (known_at j s.host) (marks j s.past.pulled s.bus) None
  none-there j from below = subst (Reads (known_at j s.host) (marks j s.past.pulled s.bus))
      (plugged-none j s.modules
      (none-any (λ k. is_plugged k s.modules) (span i (length ms)) j can.free
      (span-in j i (length ms) from below))) (start.reads j)

  plug-reads : (j : ℕ) → Reads (known_at j s.host) (marks j s.past.pulled s.bus)
      (plugged_at j with_it.modules)
  plug-reads j = by (is_within i (length ms) j) refl
    where
      by : (t : Bool) → is_within i (length ms) j ≡ t
          → Reads (known_at j s.host) (marks j s.past.pulled s.bus) (plugged_at j with_it.modules)
      by true e =
          let w = within-true i (length ms) j e in
          reads-plugged (known_at j s.host) (marks j s.past.pulled s.bus)
          (plugged_at j with_it.modules) (none-there j w.0 w.1)
      by false e = subst (Reads (known_at j s.host) (marks j s.past.pulled s.bus))
          (sym (now-other i ms s.modules can start.differ j
          (λ from below. not-both (is_within i (length ms) j)
          (true-within i (length ms) j from below) e))) (start.reads j)

  asked-kept : (t : State) → AfterAsk with_it t
      (notice_of (svc_ask_kind (SvcAsk.ModuleInserted i (length ms) 0))
      (svc_ask_payload (SvcAsk.ModuleInserted i (length ms) 0))) → s.booted ≡ true → MarksFit t
  asked-kept t a booted = record {
    reads = λ j. reads-onto j with_it (plugged_at j with_it.modules)
        (plugged_at j t.modules) a (ap (plugged_at j) a.modules) (reads a.marks_after j);
    unstarted = λ e. absurd (not-both t.booted (a.started ∙ booted) e);
    differ = subst (EachTwo AreElsewhere) (sym a.modules)
        (now-differ i ms s.modules can start.differ);
    pulled = pulled-onto with_it a start.pulled;
    whole = subst AreWhole (sym a.modules)
        (now-whole i ms s.modules can start.differ start.whole);
    told = inserted-onto with_it a (told-range i (length ms) can.range) start.told;
  }
    where
      reads : MarksAfter s.bus t.bus
          (notice_of (svc_ask_kind (SvcAsk.ModuleInserted i (length ms) 0))
          (svc_ask_payload (SvcAsk.ModuleInserted i (length ms) 0))) → (j : ℕ)
          → Reads (known_at j s.host) (marks j s.past.pulled t.bus)
          (plugged_at j with_it.modules)
      reads (untold e) j = subst (λ l. Reads (known_at j s.host) l
          (plugged_at j with_it.modules)) (sym (e j s.past.pulled)) (plug-reads j)
      reads (told e) j = reads-inserted (known_at j s.host) (marks j s.past.pulled s.bus)
          (marks j s.past.pulled t.bus) i (length ms) j
          (is_told (next_number s.bus) j s.past.pulled) (plugged_at j with_it.modules)
          (e j s.past.pulled ∙ ap (λ o. marks j s.past.pulled s.bus
          ++ mark_in j (is_told (next_number s.bus) j s.past.pulled) o)
          (tells-inserted i (length ms)))
          (plug-reads j) (none-there j) (now-there i ms s.modules can start.differ j)

  pub plug-kept : QueueIsAsked s.bus → MarksFit (plugs i ms s).state
  unfolding machine_opened
  plug-kept asked = subst (λ (w : State). MarksFit
      (when s.booted (tells_inserted i (length ms)) w).state)
      (sym (all-plugged (parts_of i ms) s)) (by s.booted refl)
    where
      by : (t : Bool) → s.booted ≡ t
          → MarksFit (when t (tells_inserted i (length ms)) with_it).state
      by true e = asked-kept _ (after-ask (SvcAsk.ModuleInserted i (length ms) 0) asked) e
      by false e = record {
        reads = plug-reads;
        unstarted = start.unstarted;
        differ = now-differ i ms s.modules can start.differ;
        pulled = start.pulled;
        whole = now-whole i ms s.modules can start.differ start.whole;
        told = start.told;
      }
