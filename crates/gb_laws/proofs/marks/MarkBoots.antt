-- Insertions and removals come in turn where the supervisory controller starts.
use Rattle.std.proofs.Common.{Bool, List, None, Option, Some, ap, append-nil, cond, false, inl, inr}
use Rattle.std.proofs.Common.{refl, subst, sym, true, ℕ, [], ◌++◌, ◌+◌, ◌<◌, ◌∙◌, ◌∷◌, ◌≡◌, ◌≤◌}
use Rattle.std.specs.List.{filter}
use Rattle.std.specs.Prelude.{option_map}
use Rattle.gb_base.specs.declared.host_event.HostEvent.TheVariants as host_event
use Rattle.gb_base.specs.declared.host_event.HostEvent.{HostEvent}
use Rattle.gb_base.specs.declared.interface.Interface.{Interface}
use Rattle.gb_formats.specs.SvcRecords.{SvcAsk, svc_ask_kind, svc_ask_payload}
use Rattle.gb_machine.proofs.Opened.{machine_opened}
use Rattle.gb_machine.specs.Modules.{is_primary}
use Rattle.gb_machine.specs.Plugging.{boots, tells_inserted}
use Rattle.gb_machine.specs.State.{Plugged, State}
use Rattle.gb_machine.specs.{Actions.each, Bus.next_number, Members.EachTwo, Members.IsIn}
use Rattle.gb_machine.specs.{OwnAsking.svc_asks, SvcQueues.is_told}
use Rattle.gb_invariants.proofs.Awaiting.{none-some, not-both}
use Rattle.gb_invariants.proofs.Lists.{each-from, each-in, in-filter}
use Rattle.gb_invariants.proofs.Outcomes.{same-number}
use Rattle.gb_laws.proofs.marks.MarkPlugs.{inserted-onto, pulled-onto, reads-inserted, reads-onto}
use Rattle.gb_laws.proofs.marks.MarkPlugs.{told-range}
use Rattle.gb_laws.proofs.marks.MarkTells.{AfterAsk, MarksAfter, QueueIsAsked, after-ask}
use Rattle.gb_laws.proofs.marks.MarkTells.{tells-hello, tells-inserted, tells-version, told, untold}
use Rattle.gb_laws.proofs.marks.Marks.{AreInserted, ArePulled, MarksFit, Reads, known_at, mark_in}
use Rattle.gb_laws.proofs.marks.Marks.{marks, notice_of}
use Rattle.gb_laws.proofs.marks.Wholes.{AreElsewhere, AreWhole, IsRange, one-part, plugged_at}
use Rattle.gb_laws.proofs.marks.Wholes.{whole-there}

-- ---- the modules that are told

-- an interface is one of the module of this part
abbrev IsOfModule : ℕ → Plugged → Type 0
IsOfModule j p = (p.primary ≤ j) × (j < p.primary + p.count)

-- two modules have no interface in common
abbrev AreDisjoint : Plugged → Plugged → Type 0
AreDisjoint p q = (j : ℕ) → IsOfModule j p → IsOfModule j q → ⊥

module _ (ms : List Plugged) (differ : EachTwo AreElsewhere ms) (whole : AreWhole ms) where
  -- parts at the primary interfaces of modules that share an interface are one
  one-module : (p q : Plugged) → IsIn p ms → IsIn q ms → is_primary p ≡ true → is_primary q ≡ true
      → (j : ℕ) → IsOfModule j p → IsOfModule j q → p.intf ≡ q.intf
  one-module p q i k first second j a b =
      let h = (whole p i).each j a.0 a.1 in
      let g = (whole q k).each j b.0 b.1 in
      let same = one-part ms h.part g.part differ h.there g.there (h.intf ∙ sym g.intf) in
      same-number p.intf p.primary first ∙ sym h.primary
      ∙ ap (λ (v : Plugged). v.primary) same ∙ g.primary ∙ sym (same-number q.intf q.primary second)

  disjoint : (ps : List Plugged) → ((p : Plugged) → IsIn p ps → IsIn p ms)
      → EachTwo AreElsewhere ps → EachTwo AreDisjoint (filter is_primary ps)
  disjoint [] within apart = tt
  disjoint (p ∷ ps) within apart =
      by (is_primary p) refl (disjoint ps (λ q i. within q (inr i)) apart.1)
    where
      by : (t : Bool) → is_primary p ≡ t → EachTwo AreDisjoint (filter is_primary ps)
          → EachTwo AreDisjoint (cond t (p ∷ filter is_primary ps) (filter is_primary ps))
      by true e rec = (
        each-from (AreDisjoint p) (filter is_primary ps) (λ q i j a b.
            let f = in-filter is_primary ps q i in
            each-in (AreElsewhere p) ps q apart.0 f.0
            (one-module p q (within p (inl refl)) (within q (inr f.0)) e f.1 j a b)),
        rec,
      )
      by false e rec = rec

-- ---- starting

-- where modules are still to be told, each of their interfaces is read as absent
record IsTelling (ps : List Plugged) (s : State) : Type 0 where
  reads : (j : ℕ) → Reads (known_at j s.host) (marks j s.past.pulled s.bus)
      (plugged_at j s.modules)
  free : (p : Plugged) → IsIn p ps → (j : ℕ) → IsOfModule j p
      → Reads (known_at j s.host) (marks j s.past.pulled s.bus) None
  there : (p : Plugged) → IsIn p ps → (j : ℕ) → IsOfModule j p
      → plugged_at j s.modules ≡ Some p.primary
  range : (p : Plugged) → IsIn p ps → IsRange p.primary p.count
  asked : QueueIsAsked s.bus
  apart : EachTwo AreDisjoint ps
  started : s.booted ≡ true
  differ : EachTwo AreElsewhere s.modules
  pulled : ArePulled s.past.pulled s.bus
  whole : AreWhole s.modules
  told : AreInserted s.bus

telling-next : (p : Plugged) (ps : List Plugged) (s : State) {t : State} → IsTelling (p ∷ ps) s
    → AfterAsk s t (notice_of (svc_ask_kind (SvcAsk.ModuleInserted p.primary p.count 0))
    (svc_ask_payload (SvcAsk.ModuleInserted p.primary p.count 0))) → IsTelling ps t
telling-next p ps s {t} h a = record {
  reads = λ j. reads-onto j s (plugged_at j s.modules) (plugged_at j t.modules) a
      (ap (plugged_at j) a.modules) (reads a.marks_after j);
  free = λ q i j of. reads-onto j s None None a refl (free a.marks_after q i j of);
  there = λ q i j of. ap (plugged_at j) a.modules ∙ h.there q (inr i) j of;
  range = λ q i. h.range q (inr i);
  asked = a.asked;
  apart = h.apart.1;
  started = a.started ∙ h.started;
  differ = subst (EachTwo AreElsewhere) (sym a.modules) h.differ;
  pulled = pulled-onto s a h.pulled;
  whole = subst AreWhole (sym a.modules) h.whole;
  told = inserted-onto s a (told-range p.primary p.count (h.range p (inl refl))) h.told;
}
  where
    behind : (j : ℕ) → marks j s.past.pulled t.bus ≡ marks j s.past.pulled s.bus
        ++ mark_in j (is_told (next_number s.bus) j s.past.pulled)
        (notice_of (svc_ask_kind (SvcAsk.ModuleInserted p.primary p.count 0))
        (svc_ask_payload (SvcAsk.ModuleInserted p.primary p.count 0)))
        → marks j s.past.pulled t.bus ≡ marks j s.past.pulled s.bus
        ++ mark_in j (is_told (next_number s.bus) j s.past.pulled)
        (Some (host_event.Inserted p.primary p.count))
    behind j e = e ∙ ap (λ o. marks j s.past.pulled s.bus
        ++ mark_in j (is_told (next_number s.bus) j s.past.pulled) o)
        (tells-inserted p.primary p.count)

    reads : MarksAfter s.bus t.bus
        (notice_of (svc_ask_kind (SvcAsk.ModuleInserted p.primary p.count 0))
        (svc_ask_payload (SvcAsk.ModuleInserted p.primary p.count 0))) → (j : ℕ)
        → Reads (known_at j s.host) (marks j s.past.pulled t.bus) (plugged_at j s.modules)
    reads (untold e) j = subst (λ l. Reads (known_at j s.host) l
        (plugged_at j s.modules)) (sym (e j s.past.pulled)) (h.reads j)
    reads (told e) j = reads-inserted (known_at j s.host) (marks j s.past.pulled s.bus)
        (marks j s.past.pulled t.bus) p.primary p.count j
        (is_told (next_number s.bus) j s.past.pulled)
        (plugged_at j s.modules) (behind j (e j s.past.pulled)) (h.reads j)
        (λ from below. h.free p (inl refl) j (from, below))
        (λ from below. h.there p (inl refl) j (from, below))

    free : MarksAfter s.bus t.bus
        (notice_of (svc_ask_kind (SvcAsk.ModuleInserted p.primary p.count 0))
        (svc_ask_payload (SvcAsk.ModuleInserted p.primary p.count 0)))
        → (q : Plugged) → IsIn q ps → (j : ℕ) → IsOfModule j q
        → Reads (known_at j s.host) (marks j s.past.pulled t.bus) None
    free (untold e) q i j of = subst (λ l. Reads (known_at j s.host) l None)
        (sym (e j s.past.pulled)) (h.free q (inr i) j of)
    free (told e) q i j of = reads-inserted (known_at j s.host)
        (marks j s.past.pulled s.bus) (marks j s.past.pulled t.bus) p.primary p.count j
        (is_told (next_number s.bus) j s.past.pulled) None
        (behind j (e j s.past.pulled)) (h.free q (inr i) j of)
        (λ from below. absurd (each-in (AreDisjoint p) ps q h.apart.0 i j (from, below) of))
        (λ from below. absurd (each-in (AreDisjoint p) ps q h.apart.0 i j (from, below) of))

telling-all : (ps : List Plugged) {s : State} → IsTelling ps s
    → IsTelling [] (each ps (λ p. tells_inserted p.primary p.count) s).state
unfolding machine_opened
telling-all [] h = h
telling-all (p ∷ ps) {s} h = telling-all ps
    (telling-next p ps s h (after-ask (SvcAsk.ModuleInserted p.primary p.count 0) h.asked))

-- something that is no mark is told
telling-other : {ps : List Plugged} (s t : State) (o : Option HostEvent) → o ≡ None → IsTelling ps s
    → AfterAsk s t o → IsTelling ps t
telling-other s t o none h a = record {
  reads = λ j. reads-onto j s (plugged_at j s.modules) (plugged_at j t.modules) a
      (ap (plugged_at j) a.modules)
      (subst (λ l. Reads (known_at j s.host) l (plugged_at j s.modules))
      (sym (same a.marks_after j)) (h.reads j));
  free = λ p i j of. reads-onto j s None None a refl
      (subst (λ l. Reads (known_at j s.host) l None)
      (sym (same a.marks_after j)) (h.free p i j of));
  there = λ p i j of. ap (plugged_at j) a.modules ∙ h.there p i j of;
  range = h.range;
  asked = a.asked;
  apart = h.apart;
  started = a.started ∙ h.started;
  differ = subst (EachTwo AreElsewhere) (sym a.modules) h.differ;
  pulled = pulled-onto s a h.pulled;
  whole = subst AreWhole (sym a.modules) h.whole;
  told = inserted-onto s a (λ p count e. absurd (none-some (sym none ∙ e))) h.told;
}
  where
    same : MarksAfter s.bus t.bus o → (j : ℕ)
        → marks j s.past.pulled t.bus ≡ marks j s.past.pulled s.bus
    same (untold e) j = e j s.past.pulled
    same (told e) j = e j s.past.pulled
        ∙ ap (λ x. marks j s.past.pulled s.bus
        ++ mark_in j (is_told (next_number s.bus) j s.past.pulled) x) none
        ∙ append-nil (marks j s.past.pulled s.bus)

pub boot-kept : (s : State) → QueueIsAsked s.bus → s.booted ≡ false → MarksFit s
    → MarksFit (boots s).state
unfolding machine_opened
boot-kept s asked unbooted start =
    let s0 = record s { booted = true } in
    let s1 = (svc_asks (SvcAsk.ProtocolVersion 0 1) s0).state in
    let s2 = (svc_asks (SvcAsk.Hello 1 1) s1).state in
    let t1 = telling-other s0 s1 _ tells-version first
    (after-ask (SvcAsk.ProtocolVersion 0 1) asked) in
    let t2 = telling-other s1 s2 _ tells-hello t1 (after-ask (SvcAsk.Hello 1 1) t1.asked) in
    let t = telling-all (filter is_primary s.modules) t2 in record {
      reads = t.reads;
      unstarted = λ e. absurd (not-both _ t.started e);
      differ = t.differ;
      pulled = t.pulled;
      whole = t.whole;
      told = t.told;
    }
  where
    member : (p : Plugged) → IsIn p (filter is_primary s.modules) → IsIn p s.modules
    member p i = (in-filter is_primary s.modules p i).0

    first : IsTelling (filter is_primary s.modules) (record s { booted = true })
    first = record {
      reads = start.reads;
      free = λ p i j of. let q = start.unstarted unbooted j in
          subst (λ l. Reads (known_at j s.host) l None) (sym q.0)
          (λ r e. absurd (none-some
          (sym (ap (option_map (λ (x : Interface). x.primary)) q.1) ∙ e)));
      there = λ p i j of.
          whole-there s.modules start.differ start.whole p (member p i) j of.0 of.1;
      range = λ p i. (start.whole p (member p i)).range;
      asked = asked;
      apart = disjoint s.modules start.differ start.whole s.modules (λ p i. i) start.differ;
      started = refl;
      differ = start.differ;
      pulled = start.pulled;
      whole = start.whole;
      told = start.told;
    }
