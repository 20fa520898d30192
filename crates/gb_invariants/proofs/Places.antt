-- What is known of the place of an end.
use Rattle.std.proofs.Common.{Bool, List, None, Option, Some, ap, cond, false, inl, inr, refl}
use Rattle.std.proofs.Common.{subst, sym, true, [], ◌∙◌, ◌∷◌, ◌≡◌}
use Rattle.std.specs.Prelude.{option_map, ◌&&◌, ◌==◌}
use Rattle.gb_base.specs.declared.end.{End.End, Side.Side}
use Rattle.gb_base.specs.declared.end.End.TheVariants as end
use Rattle.gb_base.specs.declared.end.Side.TheVariants as side
use Rattle.gb_machine.specs.Bus.{Connection, Place, end_of, or_else, place_of, same_end, side_at}
use Rattle.gb_machine.specs.Members.{IsIn}
use Rattle.gb_invariants.proofs.{Awaiting.same-some, Outcomes.both-true, Outcomes.same-number}

-- ends that test as one are one
pub same_end-is : (a b : End) → same_end a b ≡ true → a ≡ b
same_end-is (end.Ap a) (end.Ap b) h = ap end.Ap (same-number a b h)
same_end-is end.Svc end.Svc h = refl
same_end-is (end.Module i c) (end.Module j d) h =
    let p = both-true (i == j) (c == d) h in
    ap (λ k. end.Module k c) (same-number i j p.0) ∙ ap (end.Module j) (same-number c d p.1)
same_end-is (end.Ap a) end.Svc h = absurd cc
same_end-is (end.Ap a) (end.Module j d) h = absurd cc
same_end-is end.Svc (end.Ap b) h = absurd cc
same_end-is end.Svc (end.Module j d) h = absurd cc
same_end-is (end.Module i c) (end.Ap b) h = absurd cc
same_end-is (end.Module i c) end.Svc h = absurd cc

-- What is known of the place of an end: its connection is live and wired, and the end is there.
pub record IsPlace (at : End) (cs : List Connection) (p : Place) : Type 0 where
  pub live : IsIn p.connection cs
  pub wired : p.connection.wired ≡ true
  pub is : end_of p.side p.connection ≡ at

side-is : (at : End) (c : Connection) (s : Side) → side_at at c ≡ Some s → (c.wired ≡ true)
    × (end_of s c ≡ at)
side-is at c s h =
    by (c.wired && same_end at (end.Ap c.ap)) refl (c.wired && same_end at c.peer) refl h
  where
    by : (x : Bool) → (c.wired && same_end at (end.Ap c.ap)) ≡ x → (y : Bool)
        → (c.wired && same_end at c.peer) ≡ y
        → cond x (Some side.Ap) (cond y (Some side.Far) None) ≡ Some s → (c.wired ≡ true)
        × (end_of s c ≡ at)
    by true e y f h =
        let p = both-true c.wired (same_end at (end.Ap c.ap)) e in (
          p.0,
          ap (λ t. end_of t c) (sym (same-some side.Ap s h))
              ∙ sym (same_end-is at (end.Ap c.ap) p.1),
        )
    by false e true f h =
        let p = both-true c.wired (same_end at c.peer) f in
        (p.0, ap (λ t. end_of t c) (sym (same-some side.Far s h)) ∙ sym (same_end-is at c.peer p.1))
    by false e false f h = absurd cc

pub place-is : (at : End) (cs : List Connection) (p : Place) → place_of at cs ≡ Some p
    → IsPlace at cs p
place-is at [] p h = absurd cc
place-is at (c ∷ cs) p h = by (side_at at c) refl h (place-is at cs p)
  where
    by : (o : Option Side) → side_at at c ≡ o
        → or_else (option_map (λ s. record { connection = c; side = s }) o) (place_of at cs) ≡ Some
        p → (place_of at cs ≡ Some p → IsPlace at cs p) → IsPlace at (c ∷ cs) p
    by None e h rec = let r = rec h in record { live = inr r.live; wired = r.wired; is = r.is }
    by (Some s) e h rec =
        let k = side-is at c s e in
        let q : Place = record { connection = c; side = s } in
        subst (λ x. IsPlace at (c ∷ cs) x) (same-some q p h)
        (record { live = inl refl; wired = k.0; is = k.1 })
