-- Insertions and removals come in turn where a module is pulled.
use Rattle.std.proofs.Common.{Bool, List, None, Option, Some, ap, cond, false, map, refl, subst}
use Rattle.std.proofs.Common.{sym, true, ℕ, [], ◌++◌, ◌∙◌, ◌∷◌, ◌≡◌}
use Rattle.std.specs.List.{list_any}
use Rattle.std.specs.Prelude.{is_none, is_some, option_map, ◌==◌}
use Rattle.gb_base.specs.declared.end.Side.TheVariants as side
use Rattle.gb_base.specs.declared.host_event.HostEvent.TheVariants as host_event
use Rattle.gb_base.specs.declared.interface.Interface.{Interface}
use Rattle.gb_formats.specs.SvcRecords.{SvcAsk, svc_ask_kind, svc_ask_payload}
use Rattle.gb_machine.proofs.Opened.{machine_opened}
use Rattle.gb_machine.specs.Bus.{Ask, Bus, Item, Raw, RawReply, Reply, connection_of, next_number}
use Rattle.gb_machine.specs.Members.{EachTwo, IsIn}
use Rattle.gb_machine.specs.Modules.{interfaces_of, is_plugged_at, part_at}
use Rattle.gb_machine.specs.Plugging.{pulls, pulls_module, pulls_one, tells_removed, with_told}
use Rattle.gb_machine.specs.{Actions.each, Actions.given, Actions.when, Host.interface_of}
use Rattle.gb_machine.specs.{Labels.next_label, Lists.nth, OwnAsking.svc_asks}
use Rattle.gb_machine.specs.{Refusals.has_no_label}
use Rattle.gb_machine.specs.State.{Past, Plugged, State}
use Rattle.gb_machine.specs.SvcQueues.{is_told, items_in, svc_items}
use Rattle.gb_invariants.proofs.Awaiting.{none-some, not-both, same-some}
use Rattle.gb_invariants.proofs.Drawing.{next_label-same}
use Rattle.gb_invariants.proofs.{BusChanges.KeepsRequests, Lists.found-in, Numbers.found-by_number}
use Rattle.gb_invariants.proofs.{Outcomes.same-number}
use Rattle.gb_invariants.specs.Facts.{IsBefore}
use Rattle.gb_laws.proofs.marks.MarkPlugs.{inserted-onto}
use Rattle.gb_laws.proofs.marks.MarkTells.{AfterAsk, IsToldThen, QueueIsAsked, after-ask, ask-told}
use Rattle.gb_laws.proofs.marks.MarkTells.{tells-removed}
use Rattle.gb_laws.proofs.marks.Marks.{AreInserted, ArePulled, IsRemoval, MarksFit, Reads}
use Rattle.gb_laws.proofs.marks.Marks.{item_mark, known_at, mark_in, marks, marks-recalled}
use Rattle.gb_laws.proofs.marks.Marks.{marks_of, next-none, notice_of, pulled-more, reads-other}
use Rattle.gb_laws.proofs.marks.Marks.{reads-removed, request_mark, told-new, told-others}
use Rattle.gb_laws.proofs.marks.Marks.{untold-yet, went}
use Rattle.gb_laws.proofs.marks.PullParts.{OneIsSvc, SameSvc, left-differ, left-other, left-whole}
use Rattle.gb_laws.proofs.marks.PullParts.{pulled-only, pulled-there, pulls-each, unplugged_all}
use Rattle.gb_laws.proofs.marks.Wholes.{AreElsewhere, AreWhole, plugged_at}
use Rattle.gb_laws.proofs.{svc.SvcThere.There}

-- marks are those of the same requests
marks-same : (j : ℕ) (ps : List (ℕ × ℕ)) (b after : Bus) (xs : List Item)
    → after.requests ≡ b.requests → marks_of j ps after xs ≡ marks_of j ps b xs
marks-same j ps b after [] e = refl
marks-same j ps b after (x ∷ xs) e = ap (λ ms. ms ++ marks_of j ps after xs) (one x)
    ∙ ap (λ ms. item_mark j ps b x ++ ms) (marks-same j ps b after xs e)
  where
    one : (y : Item) → item_mark j ps after y ≡ item_mark j ps b y
    one (Ask n) = ap (λ rs. request_mark j (is_told n j ps) (nth n rs)) e
    one (Reply n result payload) = refl
    one (Raw bytes) = refl
    one (RawReply label kind result payload) = refl

svc-marks : (s : State) {t : State} → SameSvc s t → (j : ℕ) (ps : List (ℕ × ℕ))
    → marks j ps t.bus ≡ marks j ps s.bus
svc-marks s {t} h j ps =
    ap (λ o. marks_of j ps t.bus (items_in side.Ap o)) h.connection
    ∙ marks-same j ps s.bus t.bus (svc_items side.Ap s.bus) h.requests

pub svc-asked : (s : State) {t : State} → SameSvc s t → QueueIsAsked s.bus → QueueIsAsked t.bus
svc-asked s h asked n i =
    let a = asked n (subst (λ o. IsIn (Ask n) (items_in side.Ap o)) h.connection i) in
    (a.0, ap (nth n) h.requests ∙ a.1)

-- ---- a module is pulled, and nothing is told of that yet

record IsAway (p : Plugged) (s t : State) : Type 0 where
  marks_still : (j : ℕ) (ps : List (ℕ × ℕ)) → marks j ps t.bus ≡ marks j ps s.bus
  host : t.host ≡ s.host
  modules : t.modules ≡ unplugged_all (interfaces_of p) s.modules
  started : t.booted ≡ s.booted
  pulled : t.past.pulled ≡ s.past.pulled
  keeps : KeepsRequests s.bus t.bus
  asked : QueueIsAsked t.bus
  told : AreInserted t.bus

-- the pulls that the next request tells
abbrev told_by : State → Plugged → List (ℕ × ℕ)
told_by u p = map (λ i. (next_number u.bus, i)) (interfaces_of p)

module _ (p : Plugged) (s : State) (here : IsIn p s.modules) (start : MarksFit s) where
  -- what stays plugged
  away-differ : (t : State) → IsAway p s t → EachTwo AreElsewhere t.modules
  away-differ t away = subst (EachTwo AreElsewhere) (sym away.modules)
      (left-differ (interfaces_of p) s.modules start.differ)

  away-whole : (t : State) → IsAway p s t → AreWhole t.modules
  away-whole t away = subst AreWhole (sym away.modules)
      (left-whole s.modules start.differ start.whole p here)

  away-pulled : (t : State) → IsAway p s t → ArePulled s.past.pulled t.bus
  away-pulled t away = pulled-more s.past.pulled s.bus t.bus away.keeps start.pulled

  -- before the supervisory controller has started nothing is told
  untold-kept : (t : State) → IsAway p s t → s.booted ≡ false → MarksFit t
  untold-kept t away unbooted = record {
    reads = λ j. subst (λ l. Reads (known_at j t.host) l (plugged_at j t.modules))
        (sym (unmarked j)) (λ q e. absurd (none-some
        (sym (ap (option_map (λ (x : Interface). x.primary)) (unknown j)) ∙ e)));
    unstarted = λ e j. (unmarked j, unknown j);
    differ = away-differ t away;
    pulled = subst (λ ps. ArePulled ps t.bus) (sym away.pulled) (away-pulled t away);
    whole = away-whole t away;
    told = away.told;
  }
    where
      unmarked : (j : ℕ) → marks j t.past.pulled t.bus ≡ []
      unmarked j = ap (λ ps. marks j ps t.bus) away.pulled
          ∙ away.marks_still j s.past.pulled ∙ (start.unstarted unbooted j).0

      unknown : (j : ℕ) → interface_of j t.host ≡ None
      unknown j = ap (interface_of j) away.host ∙ (start.unstarted unbooted j).1

  -- behind it the removal is told, and remembered
  told-kept : (u t : State) → IsAway p s u
      → AfterAsk u t (notice_of (svc_ask_kind (SvcAsk.ModuleRemoved p.primary))
      (svc_ask_payload (SvcAsk.ModuleRemoved p.primary)))
      → IsToldThen (SvcAsk.ModuleRemoved p.primary) u t → s.booted ≡ true
      → MarksFit (with_told (next_number u.bus) (interfaces_of p) t)
  told-kept u t away a told booted = record {
    reads = λ j. subst (λ h. Reads (known_at j h) (marks j (t.past.pulled ++ told_by u p) t.bus)
        (plugged_at j t.modules)) (sym (a.host ∙ away.host))
        (subst (λ ms. Reads (known_at j s.host) (marks j (t.past.pulled ++ told_by u p) t.bus)
        (plugged_at j ms)) (sym (a.modules ∙ away.modules))
        (subst (λ ms. Reads (known_at j s.host) ms
        (plugged_at j (unplugged_all (interfaces_of p) s.modules)))
        (sym (marked j)) (reads j (list_any (λ i. i == j) (interfaces_of p)) refl)));
    unstarted = λ e. absurd (not-both t.booted (a.started ∙ away.started ∙ booted) e);
    differ = subst (EachTwo AreElsewhere) (sym a.modules) (away-differ u away);
    pulled = λ k j e. remembered k j (n == k) refl e;
    whole = subst AreWhole (sym a.modules) (away-whole u away);
    told = inserted-onto u a (λ q count e. absurd (apart q count
        (sym (tells-removed p.primary) ∙ e))) away.told;
  }
    where
      n : ℕ
      n = next_number u.bus

      apart : (q count : ℕ)
          → Some (host_event.Removed p.primary) ≡ Some (host_event.Inserted q count) → ⊥
      apart q count e = absurd cc

      past : t.past.pulled ≡ s.past.pulled
      past = ap (λ (q : Past). q.pulled) a.past ∙ away.pulled

      untold : (j : ℕ) → is_told (next_number u.bus) j s.past.pulled ≡ false
      untold j = untold-yet (next_number u.bus) j s.past.pulled u.bus
          (away-pulled u away) (next-none u.bus)

      marked : (j : ℕ) → marks j (t.past.pulled ++ told_by u p) t.bus
          ≡ marks j s.past.pulled s.bus
          ++ went p.primary (list_any (λ i. i == j) (interfaces_of p)) ∷ []
      marked j =
          ap (λ ps. marks j (ps ++ told_by u p) t.bus) past
          ∙ told.marks_after j (s.past.pulled ++ told_by u p)
          ∙ ap (λ o. marks j (s.past.pulled ++ told_by u p) u.bus ++ mark_in j
          (is_told (next_number u.bus) j (s.past.pulled ++ told_by u p)) o)
          (tells-removed p.primary)
          ∙ ap (λ own. marks j (s.past.pulled ++ told_by u p) u.bus ++ went p.primary own ∷ [])
          (told-new (next_number u.bus) (interfaces_of p) j s.past.pulled (untold j))
          ∙ ap (λ ms. ms ++ went p.primary (list_any (λ i. i == j) (interfaces_of p)) ∷ [])
          (marks-recalled (next_number u.bus) (interfaces_of p) j s.past.pulled u.bus
          (svc_items side.Ap u.bus) away.asked (next-none u.bus)
          ∙ away.marks_still j s.past.pulled)

      reads : (j : ℕ) (own : Bool) → list_any (λ i. i == j) (interfaces_of p) ≡ own
          → Reads (known_at j s.host) (marks j s.past.pulled s.bus ++ went p.primary own ∷ [])
          (plugged_at j (unplugged_all (interfaces_of p) s.modules))
      reads j true e = reads-removed (known_at j s.host) (marks j s.past.pulled s.bus) p.primary
          (plugged_at j s.modules) (plugged_at j (unplugged_all (interfaces_of p) s.modules))
          (λ q k. same-some q p.primary
          (sym k ∙ pulled-there s.modules start.differ start.whole p here j e)) (start.reads j)
      reads j false e = subst (Reads (known_at j s.host)
          (marks j s.past.pulled s.bus ++ went p.primary false ∷ []))
          (sym (ap (option_map (λ (q : Plugged). q.primary))
          (left-other j (interfaces_of p) s.modules e)))
          (reads-other (known_at j s.host) (marks j s.past.pulled s.bus) p.primary
          (plugged_at j s.modules) (λ k. not-both (list_any (λ i. i == j) (interfaces_of p))
          (pulled-only s.modules start.differ start.whole p here j k) e) (start.reads j))

      remembered : (k j : ℕ) (own : Bool) → (next_number u.bus == k) ≡ own
          → is_told k j (t.past.pulled ++ told_by u p) ≡ true → IsRemoval k t.bus
      remembered k j true f e = subst (λ x. IsRemoval x t.bus)
          (same-number (next_number u.bus) k f) (record {
            request = told.request;
            primary = p.primary;
            made = told.made;
            notice = ap (λ x. notice_of x told.request.payload) told.kind
                ∙ ap (notice_of (svc_ask_kind (SvcAsk.ModuleRemoved p.primary))) told.payload
                ∙ tells-removed p.primary;
          })
      remembered k j false f e =
          pulled-more s.past.pulled u.bus t.bus a.keeps (away-pulled u away) k j
          (sym (told-others (next_number u.bus) (interfaces_of p) k j s.past.pulled f)
          ∙ ap (λ ps. is_told k j (ps ++ told_by u p)) (sym past) ∙ e)

  -- A module is pulled.
  module-kept : EachTwo IsBefore s.bus.connections → QueueIsAsked s.bus → OneIsSvc s.bus
      → There s.bus → has_no_label 1 side.Far s ≡ false → MarksFit (pulls_module p s).state
  unfolding machine_opened
  module-kept rise asked one there free = by s.booted refl
    where
      s2 : State
      s2 = (each (interfaces_of p) pulls_one s).state

      cut : SameSvc s (each (interfaces_of p) pulls_one s).state
      cut = (pulls-each (interfaces_of p) s one).svc

      away : IsAway p s (each (interfaces_of p) pulls_one s).state
      away = let c = pulls-each (interfaces_of p) s one in record {
        marks_still = svc-marks s c.svc;
        host = c.svc.host;
        modules = c.modules;
        started = c.svc.started;
        pulled = c.svc.pulled;
        keeps = λ k r made. ap (nth k) c.svc.requests ∙ made;
        asked = svc-asked s c.svc asked;
        told = λ k r made. start.told k r (sym (ap (nth k) c.svc.requests) ∙ made);
      }

      some-label : (o : Option ℕ) → is_none o ≡ false → (l : ℕ) × (o ≡ Some l)
      some-label None e = absurd (not-both true refl e)
      some-label (Some l) e = (l, refl)

      told : IsToldThen (SvcAsk.ModuleRemoved p.primary)
          (each (interfaces_of p) pulls_one s).state
          (svc_asks (SvcAsk.ModuleRemoved p.primary)
          (each (interfaces_of p) pulls_one s).state).state
      told =
          let found = found-by_number s.bus.connections there.connection rise there.live in
          let first : connection_of 1 s.bus ≡ Some there.connection = subst
          (λ n. connection_of n s.bus ≡ Some there.connection) there.number found in
          let label = some-label (next_label 1 side.Far s.bus) free in
          ask-told (SvcAsk.ModuleRemoved p.primary) s2 there.connection label.0 away.asked
          (cut.connection ∙ first) there.wired
          (next_label-same 1 side.Far s.bus s2.bus cut.connection cut.used ∙ label.1)

      by : (t : Bool) → s.booted ≡ t
          → MarksFit (when t (tells_removed p.primary (interfaces_of p))
          (each (interfaces_of p) pulls_one s).state).state
      by true e = subst (λ b. MarksFit (cond b (with_told (next_number s2.bus) (interfaces_of p)
          (svc_asks (SvcAsk.ModuleRemoved p.primary) s2).state)
          (svc_asks (SvcAsk.ModuleRemoved p.primary) s2).state))
          (sym (ap is_some told.made))
          (told-kept s2 (svc_asks (SvcAsk.ModuleRemoved p.primary) s2).state away
          (after-ask (SvcAsk.ModuleRemoved p.primary) away.asked) told e)
      by false e = untold-kept s2 away e

pub pull-kept : (i : ℕ) (s : State) → EachTwo IsBefore s.bus.connections → QueueIsAsked s.bus
    → OneIsSvc s.bus → There s.bus
    → has_no_label 1 side.Far s ≡ false → MarksFit s → MarksFit (pulls i s).state
unfolding machine_opened
pull-kept i s rise asked one there free start = by (part_at i s.modules) refl
  where
    by : (o : Option Plugged) → part_at i s.modules ≡ o → MarksFit (given o pulls_module s).state
    by None e = start
    by (Some p) e = module-kept p s (found-in (is_plugged_at i) s.modules p e).0 start rise asked
        one there free
