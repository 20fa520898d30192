-- What an enumeration waits for, where its request ended.
use Rattle.std.proofs.Common.{List, false, refl}
use Rattle.std.proofs.Common.{subst, sym, ℕ, [], ◌∷◌, ◌≡◌}
use Rattle.gb_base.specs.declared.end.Side.TheVariants as side
use Rattle.gb_machine.specs.Bus.{Ask, Request}
use Rattle.gb_machine.specs.{LawsBus.is_awaited, Members.IsIn}
use Rattle.gb_machine.specs.{SvcQueues.items_in, SvcQueues.svc_items}
use Rattle.gb_invariants.proofs.{Awaiting.not-both}
use Rattle.gb_laws.proofs.{enumerations.Enums.enum-waits}
use Rattle.gb_laws.proofs.{enumerations.Enums.enums}
use Rattle.gb_laws.proofs.{links.LinkKept.LinkedAt}
use Rattle.gb_laws.proofs.{points.PointParts.Basis}
use Rattle.gb_laws.proofs.{points.PointParts.Point, removals.Quiet.IsLast, removals.Quiet.last-in}
use Rattle.gb_laws.proofs.{removals.QuietBuses.svc-found}
use Rattle.gb_laws.proofs.{svc.SvcThere.There}

-- ---- what waits to be served is awaited

-- the last of an enumeration's requests that wait, where it isn't awaited any more: none waits
pub none-over : (i n : ℕ) (a : Point) → Basis a → LinkedAt a → There a.state.bus
    → is_awaited n a.state.bus ≡ false → IsLast n (enums i a.state.bus) → enums i a.state.bus ≡ []
none-over i n a basis links there over last = by (enums i a.state.bus) refl last
  where
    by : (es : List (ℕ × Request)) → enums i a.state.bus ≡ es → IsLast n es → es ≡ []
    by [] e h = refl
    by (x ∷ es) e h =
        let r = last-in n x es h in
        let c = svc-found basis there in
        let w = enum-waits i a.state.bus (svc_items side.Far a.state.bus) (n, r.0)
        (subst (λ z. IsIn (n, r.0) z) (sym e) r.1) in
        let waits = subst (λ o. IsIn (Ask n) (items_in side.Far o)) c.1 w.0 in
        let svc = links.svc c.0 c.3 c.4 in
        absurd (not-both (is_awaited n a.state.bus)
        ((basis.bus.items.answerable c.0 side.Far (Ask n) c.3 waits).due svc.clean
        (λ f. svc.shut) r.0 w.1 r.2) over)
