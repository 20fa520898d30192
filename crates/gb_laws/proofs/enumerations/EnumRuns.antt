-- What waits of an enumeration toward the supervisory controller, in each state of a run.
use Rattle.std.proofs.Common.{Bool, List, ap, cond, false, map, refl, subst, sym, true, ℕ, [], ◌∙◌}
use Rattle.std.proofs.Common.{◌∷◌, ◌≡◌}
use Rattle.std.specs.List.{filter}
use Rattle.std.specs.Prelude.{not, ◌&&◌, ◌==◌}
use Rattle.gb_base.specs.declared.end.Side.TheVariants as side
use Rattle.gb_base.specs.declared.entry.Entry.{Entry}
use Rattle.gb_machine.specs.SvcQueues.{is_ask, is_enumeration_request, svc_items, svc_requests}
use Rattle.gb_machine.specs.{Bus.Ask, Bus.Request, LawsSvc.HasNoEnumeration, LawsSvc.IsStart}
use Rattle.gb_machine.specs.{Lists.behind_first, Members.Each, Members.IsIn}
use Rattle.gb_machine.specs.{SequenceSteps.asks_control, State.State}
use Rattle.gb_invariants.proofs.{Awaiting.not-both, Found.none-any, Outcomes.is-same}
use Rattle.gb_laws.proofs.enumerations.Enums.{enum-waits, enums, enums-requests, starts-requests}
use Rattle.gb_laws.proofs.{enumerations.AwaitsOwn.waiting-interface, removals.Quiet.IsLast}
use Rattle.gb_laws.proofs.{removals.Quiet.last-in}
use Rattle.gb_laws.proofs.{removals.QuietRuns.QuietTo, removals.QuietRuns.quiet-throughout}
use Rattle.gb_laws.proofs.{runs.Runs.HoldsByMoments}
use Rattle.gb_laws.proofs.{runs.Runs.weaker}
use Rattle.gb_laws.specs.OwnWaits.{OnlyRestarts, ServedLeavesNone}

-- ---- lists

behind-map : {A B : Type 0} (f : A → B) (xs : List A)
    → behind_first (map f xs) ≡ map f (behind_first xs)
behind-map f [] = refl
behind-map f (x ∷ xs) = refl

-- none passes where none is left
pub none-left : {A : Type 0} (test : A → Bool) (xs : List A) → filter test xs ≡ []
    → Each (λ x. test x ≡ false) xs
none-left test [] e = tt
none-left test (x ∷ xs) e = by (test x) refl e (none-left test xs)
  where
    by : (t : Bool) → test x ≡ t → cond t (x ∷ filter test xs) (filter test xs) ≡ []
        → (filter test xs ≡ [] → Each (λ y. test y ≡ false) xs)
        → Each (λ y. test y ≡ false) (x ∷ xs)
    by true f g rec = absurd cc
    by false f g rec = (f, rec g)

-- ---- restarts

-- Each but the first of the requests of an enumeration that wait is a start.
restarts : (told : List Entry) (s : State) → QuietTo told s → OnlyRestarts told s
restarts told s h i =
    subst (λ rs. Each IsStart (behind_first rs))
    (sym (enums-requests i s.bus (svc_items side.Far s.bus)))
    (subst (Each IsStart) (sym (behind-map (λ (e : ℕ × Request). e.1) (enums i s.bus)))
    (starts-requests (behind_first (enums i s.bus)) (h.quiet i).low.restarts))

pub restarts-by_moments : HoldsByMoments OnlyRestarts
restarts-by_moments = weaker QuietTo OnlyRestarts restarts quiet-throughout

-- ---- what is served

-- None waits where the one that is waited for doesn't.
served-none : (told : List Entry) (s : State) → QuietTo told s → ServedLeavesNone told s
served-none told s h i n step e asks gone =
    let x = waiting-interface i s.host (n, step) e in
    let enumeration = (h.wired.links.1.host.interfaces x.0 x.1 (n, step) x.3).0 in
    by (enums i s.bus) refl ((h.quiet i).waits x.0 x.1 x.2 (n, step) x.3
    (ap (λ t. t && not (asks_control step)) enumeration ∙ ap not asks)).last
  where
    by : (es : List (ℕ × Request)) → enums i s.bus ≡ es → IsLast n es → HasNoEnumeration i s.bus
    by [] is last = none-left (is_enumeration_request i) (svc_requests side.Far s.bus)
        (enums-requests i s.bus (svc_items side.Far s.bus) ∙ ap (map (λ (z : ℕ × Request). z.1)) is)
    by (z ∷ es) is last =
        let r = last-in n z es last in
        let w = enum-waits i s.bus (svc_items side.Far s.bus) (n, r.0)
        (subst (λ y. IsIn (n, r.0) y) (sym is) r.1) in
        absurd (not-both (n == n) (is-same n)
        (none-any (is_ask n) (svc_items side.Far s.bus) (Ask n) gone w.0))

pub served-by_moments : HoldsByMoments ServedLeavesNone
served-by_moments = weaker QuietTo ServedLeavesNone served-none quiet-throughout
