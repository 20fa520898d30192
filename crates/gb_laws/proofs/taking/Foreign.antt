-- No end handles a message of another connection.
use Rattle.std.proofs.Common.{List, ap, inl, inr, sym, ℕ, [], ◌∙◌, ◌∷◌, ◌≡◌}
use Rattle.gb_base.specs.declared.end.End.TheVariants as end
use Rattle.gb_base.specs.declared.end.Side.TheVariants as side
use Rattle.gb_base.specs.declared.entry.Entry.{Entry}
use Rattle.gb_machine.specs.LawsHotPlug.{HasOwnItems, HaveOwnItems, IsOwnItem}
use Rattle.gb_machine.specs.State.{Held, State, first_state}
use Rattle.gb_machine.specs.{Bus.Connection, Bus.svc_connection, Holding.held_on}
use Rattle.gb_machine.specs.{Holding.is_held_on, Members.IsIn, Runs.Moment}
use Rattle.gb_invariants.proofs.{Lists.each-from, Lists.in-filter, Outcomes.same-number}
use Rattle.gb_laws.proofs.basis.Basics.{basis, basis-first, none-waits, rested}
use Rattle.gb_laws.proofs.points.PointParts.{Basis, loose_held, resting}
use Rattle.gb_laws.proofs.runs.Runs.{HoldsByMoments, throughout, weaker}
use Rattle.gb_laws.proofs.{basis.Loosening.map-held-in, taking.Owned.own-kept}
use Rattle.gb_laws.proofs.{taking.Owning.OwnTold}
use Rattle.gb_laws.proofs.{points.Points.Law, points.Points.upon, steps.Steps.over-step}

abbrev own_law : (m : Moment) → Law m
own_law m = upon (basis m) OwnTold (λ a x g h. own-kept m a x g h)

-- the basis, and that items are of their own connection
abbrev pub OwnAt : List Entry → State → Type 0
OwnAt told s = Basis (resting told s) × OwnTold (resting told s)

own-first : OwnTold (resting [] first_state)
own-first = record {
  waiting = λ c at item live i. absurd (none-waits c at item live i);
  hanging = λ c l live i on. absurd i;
  opened = λ c i p live at. absurd (first-peer c live at);
}
  where
    first-peer : (c : Connection) → IsIn c (svc_connection ∷ []) → {i p : ℕ}
        → c.peer ≡ end.Module i p → ⊥
    first-peer c (inl e) at = let svc = sym (ap (λ (x : Connection). x.peer) e) ∙ at in absurd cc
    first-peer c (inr j) at = j

pub own-throughout : HoldsByMoments OwnAt
own-throughout = throughout OwnAt (basis-first, own-first)
    (λ m one h. let r = over-step m (own_law m) one h in (
      rested _ _ r.0 r.1.0,
      record {
        waiting = r.1.1.waiting;
        hanging = r.1.1.hanging;
        opened = r.1.1.opened;
      },
    ))

-- Each item is of its own connection.
pub own-items : HoldsByMoments HaveOwnItems
own-items = weaker OwnAt HaveOwnItems
    (λ told s h. each-from (HasOwnItems told s) s.bus.connections (λ c live. record {
      to_ap = each-from (IsOwnItem told s.bus c side.Ap) c.to_ap
          (λ item i. h.1.waiting c side.Ap item live i);
      to_far = each-from (IsOwnItem told s.bus c side.Far) c.to_far
          (λ item i. h.1.waiting c side.Far item live i);
      held = each-from (λ (x : Held). IsOwnItem told s.bus c side.Far x.item)
          (held_on c.number s.held) (λ x i.
          let f = in-filter (is_held_on c.number) s.held x i in
          h.1.hanging c (loose_held x) live (map-held-in x s.held f.0)
          (sym (same-number x.connection c.number f.1)));
    })) own-throughout
