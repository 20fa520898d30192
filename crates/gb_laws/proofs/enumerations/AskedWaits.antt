-- What acts ask, and what interfaces wait for.
use Rattle.std.proofs.Common.{Bool, List, None, Some, ap, inl, inr, refl, subst, sym}
use Rattle.std.proofs.Common.{ℕ, ⊎_elim, [], ◌++◌, ◌∙◌, ◌∷◌, ◌≡◌}
use Rattle.std.specs.Prelude.{not, ◌&&◌}
use Rattle.gb_base.specs.declared.interface.Interface.{Interface}
use Rattle.gb_base.specs.declared.steps.{Purpose.Purpose, SequenceStep.SequenceStep}
use Rattle.gb_machine.specs.Host.{Host, is_intf, with_interface}
use Rattle.gb_machine.specs.Turns.{Act, Asking, Making}
use Rattle.gb_machine.specs.{Members.Each, Members.IsIn, SequenceSteps.asks_control}
use Rattle.gb_machine.specs.{SequenceSteps.is_enumeration, Waits.awaits_nothing}
use Rattle.gb_invariants.proofs.HostChanges.{waiting-by}
use Rattle.gb_invariants.proofs.{Awaiting.none-some, HostChanges.AsksNone, Lists.in-at_first}

-- ---- what is asked

-- a step of an enumeration that asks the supervisory controller
abbrev pub is_power_step : SequenceStep → Bool
is_power_step step = is_enumeration step && not (asks_control step)

-- a request is to be made, on a connection that is there or is made for it
pub data AsksIn (q : Asking) (acts : List Act) : Type 0 where
  asks_in : IsIn (Act.Ask q) acts → AsksIn q acts
  opens_in : (w : Making) → IsIn (Act.Make w q) acts → AsksIn q acts

pub asks-more : (q : Asking) (x : Act) {acts : List Act} → AsksIn q acts → AsksIn q (x ∷ acts)
asks-more q x (asks_in i) = asks_in (inr i)
asks-more q x (opens_in w i) = opens_in w (inr i)

pub no-asks : {q : Asking} → AsksIn q [] → ⊥
no-asks (asks_in i) = i
no-asks (opens_in w i) = i

-- behind acts that ask for nothing
pub asks-behind : {q : Asking} (xs : List Act) {acts : List Act} → Each AsksNone xs
    → AsksIn q (xs ++ acts) → AsksIn q acts
asks-behind [] none j = j
asks-behind (x ∷ xs) none (asks_in (inl e)) = absurd (subst AsksNone (sym e) none.0)
asks-behind (x ∷ xs) none (asks_in (inr i)) = asks-behind xs none.1 (asks_in i)
asks-behind (x ∷ xs) none (opens_in w (inl e)) = absurd (subst AsksNone (sym e) none.0)
asks-behind (x ∷ xs) none (opens_in w (inr i)) = asks-behind xs none.1 (opens_in w i)

-- a request that is asked alone
pub asked-alone : {p q : Asking} → AsksIn q (Act.Ask p ∷ []) → p ≡ q
asked-alone {p} {q} (asks_in (inl e)) = same q p e
  where
    same : (x y : Asking) → Act.Ask x ≡ Act.Ask y → y ≡ x
    same x y f = cc
asked-alone (asks_in (inr i)) = absurd i
asked-alone (opens_in w (inl e)) = absurd cc
asked-alone (opens_in w (inr i)) = absurd i

pub opened-alone : {p q : Asking} (w : Making) → AsksIn q (Act.Make w p ∷ []) → p ≡ q
opened-alone w (asks_in (inl e)) = absurd cc
opened-alone w (asks_in (inr i)) = absurd i
opened-alone {p} {q} w (opens_in v (inl e)) = same v w q p e
  where
    same : (v u : Making) (x y : Asking) → Act.Make v x ≡ Act.Make u y → y ≡ x
    same v u x y f = cc
opened-alone w (opens_in v (inr i)) = absurd i

-- ---- what is waited for

-- an interface waits for what one waited for before
pub record Waited (x : Interface) (xs : List Interface) : Type 0 where
  pub was : Interface
  pub known : IsIn was xs
  pub intf : was.intf ≡ x.intf
  pub awaits : was.awaits ≡ x.awaits

-- no interface waits for more
abbrev pub WaitsFewer : Host → Host → Type 0
WaitsFewer h g = (x : Interface) → IsIn x g.interfaces → (w : ℕ × SequenceStep)
    → x.awaits ≡ Some w → Waited x h.interfaces

pub same-waits : (h : Host) → WaitsFewer h h
same-waits h x i w e = record { was = x; known = i; intf = refl; awaits = refl }

pub then-waits : (h g k : Host) → WaitsFewer h g → WaitsFewer g k → WaitsFewer h k
then-waits h g k f f' x i w e =
    let a = f' x i w e in
    let b = f a.was a.known w (a.awaits ∙ e) in
    record { was = b.was; known = b.known; intf = b.intf ∙ a.intf; awaits = b.awaits ∙ a.awaits }

-- where an interface changes, and waits for the same
pub waits-interface : (h : Host) (i : ℕ) (f : Interface → Interface)
    → ((x : Interface) → (f x).intf ≡ x.intf) → ((x : Interface) → (f x).awaits ≡ x.awaits)
    → WaitsFewer h (with_interface i f h)
waits-interface h i f intf same x j w e =
    ⊎_elim (λ o. record { was = x; known = o; intf = refl; awaits = refl }) (λ v. record {
      was = v.0;
      known = v.1;
      intf = sym (ap (λ (y : Interface). y.intf) v.3 ∙ intf v.0);
      awaits = sym (ap (λ (y : Interface). y.awaits) v.3 ∙ same v.0);
    }) (in-at_first (is_intf i) f h.interfaces x j)

-- or for nothing
waits-nothing : (h : Host) (i : ℕ)
    → WaitsFewer h (with_interface i (λ x. record x { awaits = None }) h)
waits-nothing h i x j w e =
    ⊎_elim (λ o. record { was = x; known = o; intf = refl; awaits = refl })
    (λ v. absurd (none-some (sym (ap (λ (y : Interface). y.awaits) v.3) ∙ e)))
    (in-at_first (is_intf i) (λ (y : Interface). record y { awaits = None }) h.interfaces x j)

pub waits-purpose : (p : Purpose) (h : Host) → WaitsFewer h (awaits_nothing p h)
waits-purpose p h =
    waiting-by (WaitsFewer h) None p h (λ e. waits-nothing h p.intf) (λ e. same-waits h)
