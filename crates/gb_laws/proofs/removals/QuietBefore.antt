-- While a removal waits, only starts of the enumeration of its interface wait, and no answer that
-- it waits for comes before the removal.
use Rattle.std.proofs.Common.{Bool, List, Some, ap, cond, false, refl, subst, sym, true, ℕ, [], ◌∙◌}
use Rattle.std.proofs.Common.{◌∷◌, ◌≡◌, ◌≢◌}
use Rattle.std.specs.List.{list_any}
use Rattle.std.specs.Prelude.{not, ◌&&◌}
use Rattle.gb_base.specs.declared.end.Side.TheVariants as side
use Rattle.gb_base.specs.declared.entry.Entry.{Entry}
use Rattle.gb_base.specs.declared.interface.Interface.{Interface}
use Rattle.gb_base.specs.declared.steps.SequenceStep.{SequenceStep}
use Rattle.gb_machine.specs.Bus.{Ask, Item, Raw, RawReply, Reply, Request, request_of}
use Rattle.gb_machine.specs.LawsSvc.{IsQuiet, IsStart, awaits_removal, before_last}
use Rattle.gb_machine.specs.SvcQueues.{is_removal_in, is_reply_to, items_in, svc_items}
use Rattle.gb_machine.specs.{Members.Each, Members.IsIn, Ports.level_of}
use Rattle.gb_machine.specs.{SequenceSteps.asks_control, State.State}
use Rattle.gb_invariants.proofs.{Awaiting.same-some, Outcomes.same-number}
use Rattle.gb_laws.proofs.enumerations.AwaitsOwn.{OwnTo, own-throughout, waiting-interface}
use Rattle.gb_laws.proofs.enumerations.Enums.{IsClean, clean-none, enums, enums-requests}
use Rattle.gb_laws.proofs.enumerations.Enums.{starts-requests}
use Rattle.gb_laws.proofs.removals.QuietRuns.{QuietTo, quiet-throughout}
use Rattle.gb_laws.proofs.{removals.QuietBuses.svc-found, runs.Runs.HoldsByMoments}

-- ---- answers in front of a removal

-- none of those in front of the last removal is a reply to request n
clean-before : (n i : ℕ) (ps : List (ℕ × ℕ)) (xs : List Item) → IsClean n i ps xs
    → Each (λ item. is_reply_to n item ≡ false) (before_last (is_removal_in i ps) xs)
clean-before n i ps [] h = tt
clean-before n i ps (x ∷ xs) h =
    by (list_any (is_removal_in i ps) xs) refl (clean-before n i ps xs h.1)
  where
    by : (t : Bool) → list_any (is_removal_in i ps) xs ≡ t
        → Each (λ item. is_reply_to n item ≡ false) (before_last (is_removal_in i ps) xs)
        → Each (λ item. is_reply_to n item ≡ false)
        (cond t (x ∷ before_last (is_removal_in i ps) xs) [])
    by true e rec = (h.0 e, rec)
    by false e rec = tt

-- ---- the law

quiet-before : {told : List Entry} {s : State} → QuietTo told s → OwnTo told s → IsQuiet told s
quiet-before {s} h own = record {
  low = λ i r. (h.quiet i).low.low r;
  starts = λ i r one. subst (Each IsStart) (sym (enums-requests i s.bus (svc_items side.Far s.bus)))
      (starts-requests (enums i s.bus) ((h.quiet i).low.starts (r, one)));
  unanswered = λ i n step r one e. clean-before n i s.past.pulled (svc_items side.Ap s.bus)
      (clean i n step r one (waiting-interface i s.host (n, step) e) (asks_control step) refl);
}
  where
    -- no reply to a request on another connection is here
    none : (n : ℕ) (r : Request) → request_of n s.bus ≡ Some r → r.connection ≢ 1 → (x : Item)
        → IsIn x (svc_items side.Ap s.bus) → (t : Bool) → is_reply_to n x ≡ t → t ≡ false
    none n r made other x i false e = refl
    none n r made other (Reply k result payload) i true e =
        let links = own.links in
        let c = svc-found links.0 links.3 in
        let of = links.0.bus.items.own c.0 side.Ap (Reply k result payload) c.3
        (subst (λ o. IsIn (Reply k result payload) (items_in side.Ap o)) c.1 i) in
        absurd (other (ap (λ (q : Request). q.connection) (same-some r of.0
        (sym made ∙ ap (λ m. request_of m s.bus) (sym (same-number k n e)) ∙ of.1)) ∙ of.2 ∙ c.4))
    none n r made other (Ask k) i true e = absurd cc
    none n r made other (Raw bytes) i true e = absurd cc
    none n r made other (RawReply label kind result payload) i true e = absurd cc

    clean : (i n : ℕ) (step : SequenceStep) → awaits_removal i s ≡ true → level_of i s.ports ≡ 1
        → (x : Interface) × IsIn x s.host.interfaces × (x.intf ≡ i) × (x.awaits ≡ Some (n, step))
        → (t : Bool) → asks_control step ≡ t → IsClean n i s.past.pulled (svc_items side.Ap s.bus)
    clean i n step r one x true e =
        let w = own.own.waits x.0 x.1 (n, step) x.3 in
        clean-none n i s.past.pulled (svc_items side.Ap s.bus) (λ y j.
        none n w.request w.made (w.control e) y j (is_reply_to n y) refl)
    clean i n step r one x false e =
        let enumeration = (own.links.1.host.interfaces x.0 x.1 (n, step) x.3).0 in
        (((h.quiet i).waits x.0 x.1 x.2 (n, step) x.3
        (ap (λ t. t && not (asks_control step)) enumeration ∙ ap not e)).quiet
        (r, one)).clean

-- Before a removal it is quiet.
pub quiet-before_moments : HoldsByMoments IsQuiet
quiet-before_moments es are = quiet-before (quiet-throughout es are) (own-throughout es are)
