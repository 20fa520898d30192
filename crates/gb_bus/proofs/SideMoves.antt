-- The sides of connections where one side changes, and all others are the same.
use Rattle.std.proofs.Common.{◌≡◌, ◌⊎◌, ℕ, Bool, true, false, Some, List, refl, sym, ap, ◌∙◌, inl}
use Rattle.std.proofs.Common.{inr, subst}
use Rattle.std.proofs.lemmas.Bool.{cases_eq}
use Rattle.gb_base.specs.declared.end.Side.{Side}
use Rattle.gb_base.specs.declared.end.Side.TheVariants as side
use Rattle.gb_bus.proofs.Finding.{twin}
use Rattle.gb_bus.proofs.SideLists.{Was, here, past, was}
use Rattle.gb_bus.proofs.ConnectionChanges.{ops-number}
use Rattle.gb_bus.proofs.SideParts.{with_ops-other, with_ops-own}
use Rattle.gb_bus.proofs.SideStates.{SameSide, keeps-same, same-side}
use Rattle.gb_bus.proofs.Standing.{AreShown}
use Rattle.gb_bus.specs.Parts.{numbered, ops_of, with_ops}
use Rattle.gb_bus.specs.Sides.{ChangesSide}
use Rattle.gb_bus.specs.Stands.{KeepSides, KeepsSide}
use Rattle.gb_bus.specs.Connection.{Connection}
use Rattle.gb_invariants.proofs.Awaiting.{is_of-is, same-some}
use Rattle.std.specs.List.{find}
use Rattle.gb_machine.specs.Bus as machine
use Rattle.gb_machine.specs.Bus.{Request, connection_of, has_number}
use Rattle.gb_machine.specs.Labels.{last_label}
use Rattle.gb_machine.specs.Lists.{at_first}
use Rattle.gb_machine.specs.Requests.{is_of}
use Rattle.gb_machine.specs.Wiring.{with_connection}
use Rattle.gb_ops.specs.Operations.{Operations}

same-or-not : (at on : Side) → (at ≡ on) ⊎ (at ≡ on → ⊥)
same-or-not side.Ap side.Ap = inl refl
same-or-not side.Far side.Far = inl refl
same-or-not side.Ap side.Far = inr (λ e. absurd cc)
same-or-not side.Far side.Ap = inr (λ e. absurd cc)

-- a request of one side isn't one of another
pub elsewhere : (k j : ℕ) (at on : Side) (r : Request) → (k ≡ j → at ≡ on → ⊥) → is_of k at r ≡ true
    → is_of j on r ≡ false
elsewhere k j at on r other own = by (is_of j on r) refl
  where
    by : (t : Bool) → is_of j on r ≡ t → t ≡ false
    by false e = refl
    by true e =
        let p = is_of-is k at r own in
        let q = is_of-is j on r e in
        absurd (other (sym p.0 ∙ q.0) (p.1 ∙ sym q.1))

-- the same said in other words
pub moved : (k j : ℕ) (at on : Side) (x y : Operations) (last next : ℕ) (b : machine.Bus) → k ≡ j
    → at ≡ on → x ≡ y → last ≡ next → KeepsSide k at x last b → KeepsSide j on y next b
moved k j at on x y last next b e f g h keeps =
    subst (λ i. KeepsSide i on y next b) e
    (subst (λ s. KeepsSide k s y next b) f
    (subst (λ z. KeepsSide k at z next b) g (subst (λ n. KeepsSide k at x n b) h keeps)))

-- One side changes, and all others are the same.
pub combine : (xs : List Connection) (b after : machine.Bus) (k : ℕ) (at : Side)
    (f : Connection → Connection) (g : machine.Connection → machine.Connection)
    → ((x : Connection) → (f x).number ≡ x.number)
    → ((on : Side) (x : Connection) → (at ≡ on → ⊥) → ops_of on (f x) ≡ ops_of on x)
    → ((on : Side) (c : machine.Connection) → (at ≡ on → ⊥)
    → last_label on (g c) ≡ last_label on c)
    → ((j : ℕ) (c : machine.Connection) → connection_of j after ≡ Some c
    → Was (λ (d : machine.Connection). d.number) k j g b.connections c)
    → ((x : Connection) (c : machine.Connection) → find (numbered k) xs ≡ Some x
    → connection_of k b ≡ Some c → KeepsSide k at (ops_of at (f x)) (last_label at (g c)) after)
    → ((j : ℕ) (on : Side) → (k ≡ j → at ≡ on → ⊥) → SameSide j on b after)
    → KeepSides xs b → KeepSides (at_first (numbered k) f xs) after
combine xs b after k at f g number ops last lives own others keeps j on x c found live =
    by (was (λ (y : Connection). y.number) k j f xs x number found) (lives j c live)
  where
    side_by : (y : Connection) (d : machine.Connection) → j ≡ k → find (numbered j) xs ≡ Some y
        → connection_of j b ≡ Some d → (at ≡ on) ⊎ (at ≡ on → ⊥)
        → KeepsSide j on (ops_of on (f y)) (last_label on (g d)) after
    side_by y d is e i (inl one) =
        moved k j at on (ops_of at (f y)) (ops_of on (f y)) (last_label at (g d))
        (last_label on (g d)) after (sym is) one (ap (λ s. ops_of s (f y)) one)
        (ap (λ s. last_label s (g d)) one)
        (own y d (ap (λ n. find (numbered n) xs) (sym is) ∙ e)
        (ap (λ n. connection_of n b) (sym is) ∙ i))
    side_by y d is e i (inr two) =
        moved j j on on (ops_of on y) (ops_of on (f y)) (last_label on d) (last_label on (g d))
        after refl refl (sym (ops on y two)) (sym (last on d two))
        (keeps-same j on (ops_of on y) (last_label on d) b after (others j on (λ p q. two q))
        (keeps j on y d e i))

    by : Was (λ (y : Connection). y.number) k j f xs x
        → Was (λ (d : machine.Connection). d.number) k j g b.connections c
        → KeepsSide j on (ops_of on x) (last_label on c) after
    by (here y is e s) (here d is' i t) =
        moved j j on on (ops_of on (f y)) (ops_of on x) (last_label on (g d)) (last_label on c)
        after refl refl (ap (ops_of on) (sym s)) (ap (last_label on) (sym t))
        (side_by y d is e i (same-or-not at on))
    by (past other e) (past other' i) =
        keeps-same j on (ops_of on x) (last_label on c) b after
        (others j on (λ p q. other (sym p))) (keeps j on x c e i)
    by (here y is e s) (past other i) = absurd (other is)
    by (past other e) (here d is i t) = absurd (other is)

-- where the machine's connections stay
pub unchanged : (b : machine.Bus) (k j : ℕ) (c : machine.Connection) → connection_of j b ≡ Some c
    → Was (λ (d : machine.Connection). d.number) k j (λ d. d) b.connections c
unchanged b k j c live = by (cases_eq j k)
  where
    by : (j ≡ k) ⊎ (j ≡ k → ⊥)
        → Was (λ (d : machine.Connection). d.number) k j (λ d. d) b.connections c
    by (inl is) = here c is live refl
    by (inr other) = past other live

-- where one of them changes
pub changed : (b : machine.Bus) (k j : ℕ) (g : machine.Connection → machine.Connection)
    (c : machine.Connection)
    → ((c : machine.Connection) → (g c).number ≡ c.number)
    → connection_of j (with_connection k g b) ≡ Some c
    → Was (λ (d : machine.Connection). d.number) k j g b.connections c
changed b k j g c number live =
    was (λ (d : machine.Connection). d.number) k j g b.connections c number live

-- requests are as they were
pub same-requests : (k : ℕ) (at : Side) (b : machine.Bus) (cs : List machine.Connection)
    → SameSide k at b (record b { connections = cs })
same-requests k at b cs =
    same-side k at b (record b { connections = cs }) refl (λ n r made own. (refl, refl))

-- What is kept of the side that changes, before it does.
pub record Before (xs : List Connection) (b : machine.Bus) (k : ℕ) (at : Side)
    (o : Operations) : Type 0 where
  pub connection : machine.Connection
  pub live : connection_of k b ≡ Some connection
  pub keeps : KeepsSide k at o (last_label at connection) b

pub before : (xs : List Connection) (b : machine.Bus) (k : ℕ) (at : Side) (x : Connection)
    → AreShown b.requests xs b.connections → find (numbered k) xs ≡ Some x → KeepSides xs b
    → Before xs b k at (ops_of at x)
before xs b k at x shown found keeps =
    let t = twin b.requests k xs b.connections x shown found in record {
      connection = t.connection;
      live = t.live;
      keeps = keeps k at x t.connection found t.live;
    }

-- A side changes, and the machine's connections stay.
pub changes-side : (xs ys : List Connection) (b after : machine.Bus) (k : ℕ) (at : Side)
    (R : Operations → Operations → Type 0)
    → after.connections ≡ b.connections
    → (c : ChangesSide xs ys k at R)
    → ((last : ℕ) → KeepsSide k at (ops_of at c.connection) last b
    → KeepsSide k at c.after last after)
    → ((j : ℕ) (on : Side) → (k ≡ j → at ≡ on → ⊥) → SameSide j on b after)
    → KeepSides xs b → KeepSides ys after
changes-side xs ys b after k at R same c own others keeps =
    subst (λ zs. KeepSides zs after) (sym c.rest)
    (combine xs b after k at (with_ops at c.after) (λ d. d) (ops-number at c.after)
    (λ on x other. with_ops-other at on c.after x other) (λ on d other. refl)
    (λ j d live. unchanged b k j d (ap (find (has_number j)) (sym same) ∙ live))
    (λ x d found live.
    moved k k at at c.after (ops_of at (with_ops at c.after x)) (last_label at d) (last_label at d)
    after refl refl (sym (with_ops-own at c.after x)) refl
    (own (last_label at d)
    (moved k k at at (ops_of at x) (ops_of at c.connection) (last_label at d) (last_label at d) b
    refl refl (ap (ops_of at) (same-some x c.connection (sym found ∙ c.found))) refl
    (keeps k at x d found live))))
    others keeps)
