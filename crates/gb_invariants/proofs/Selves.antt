-- What a connection keeps when only its queues and identifiers change: what it is, and its ends.
use Rattle.std.proofs.Common.{Bool, List, cond, false, inl, inr, refl, true, ℕ, ⊎_elim, [], ◌++◌}
use Rattle.std.proofs.Common.{◌∙◌, ◌∷◌, ◌≡◌, ◌⊎◌}
use Rattle.gb_base.specs.declared.end.Side.{Side}
use Rattle.gb_base.specs.declared.end.End.TheVariants as end
use Rattle.gb_base.specs.declared.end.Side.TheVariants as side
use Rattle.gb_machine.specs.Bus.{Connection, Item, queue, with_queue}
use Rattle.gb_machine.specs.Sending.{Draft, drawn, put, queued}
use Rattle.gb_machine.specs.{Delivery.without_front, Labels.with_last_label, Lists.behind_first}
use Rattle.gb_machine.specs.{Members.IsIn}
use Rattle.gb_invariants.proofs.Lists.{in-pushed}

-- sides and ends differ
pub ap-no-far : side.Ap ≡ side.Far → ⊥
ap-no-far e = absurd cc

pub far-no-ap : side.Far ≡ side.Ap → ⊥
far-no-ap e = absurd cc

pub module-no-svc : {i c : ℕ} → end.Module i c ≡ end.Svc → ⊥
module-no-svc e = absurd cc

pub svc-no-module : {i c : ℕ} → end.Svc ≡ end.Module i c → ⊥
svc-no-module e = absurd cc

-- number, whether it is clean and closed, and its ends
pub record SameSelf (c d : Connection) : Type 0 where
  pub number : d.number ≡ c.number
  pub clean : d.clean ≡ c.clean
  pub shut : d.shut ≡ c.shut
  pub ap : d.ap ≡ c.ap
  pub peer : d.peer ≡ c.peer

-- the same, whether it is wired, and its protocol
pub record SameBody (c d : Connection) : Type 0 where
  pub self : SameSelf c d
  pub wired : d.wired ≡ c.wired
  pub protocol : d.protocol ≡ c.protocol

same-body : (c : Connection) → SameBody c c
same-body c = record { self = same-self c; wired = refl; protocol = refl }
  where
    same-self : (d : Connection) → SameSelf d d
    same-self d = record { number = refl; clean = refl; shut = refl; ap = refl; peer = refl }

queue-body : (at : Side) (is : List Item) (c : Connection) → SameBody c (with_queue at is c)
queue-body side.Ap is c = record {
  self = record { number = refl; clean = refl; shut = refl; ap = refl; peer = refl };
  wired = refl;
  protocol = refl;
}
queue-body side.Far is c = record {
  self = record { number = refl; clean = refl; shut = refl; ap = refl; peer = refl };
  wired = refl;
  protocol = refl;
}

-- an item goes to a connection
pub put-body : (at : Side) (item : Item) (c : Connection) → SameBody c (put at item c)
put-body at item c = by c.wired
  where
    by : (t : Bool) → SameBody c (cond t (queued at item c) c)
    by true = queue-body at (queue at c ++ item ∷ []) c
    by false = same-body c

-- an identifier is drawn
pub drawn-body : (d : Draft) (label : ℕ) (c : Connection) → SameBody c (drawn d label c)
drawn-body d label c = by d.side d.oneway
  where
    last : (s : Side) → SameSelf c (with_last_label s label c)
    last side.Ap = record { number = refl; clean = refl; shut = refl; ap = refl; peer = refl }
    last side.Far = record { number = refl; clean = refl; shut = refl; ap = refl; peer = refl }

    by : (s : Side) (t : Bool) → SameBody c (cond t c (with_last_label s label c))
    by side.Ap false = record { self = last side.Ap; wired = refl; protocol = refl }
    by side.Far false = record { self = last side.Far; wired = refl; protocol = refl }
    by s true = same-body c

-- the front item is taken
pub front-body : (at : Side) (c : Connection) → SameBody c (without_front at c)
front-body at c = queue-body at (behind_first (queue at c)) c

pub put-self : (at : Side) (item : Item) (c : Connection) → SameSelf c (put at item c)
put-self at item c = (put-body at item c).self

pub drawn-self : (d : Draft) (label : ℕ) (c : Connection) → SameSelf c (drawn d label c)
drawn-self d label c = (drawn-body d label c).self

pub front-self : (at : Side) (c : Connection) → SameSelf c (without_front at c)
front-self at c = (front-body at c).self

pub both-self : (c d e : Connection) → SameSelf c d → SameSelf d e → SameSelf c e
both-self c d e h k = record {
  number = k.number ∙ h.number;
  clean = k.clean ∙ h.clean;
  shut = k.shut ∙ h.shut;
  ap = k.ap ∙ h.ap;
  peer = k.peer ∙ h.peer;
}

pub queued-queue : (s at : Side) (new item : Item) (c : Connection)
    → IsIn item (queue s (queued at new c)) → IsIn item (queue s c) ⊎ ((s ≡ at) × (item ≡ new))
queued-queue side.Ap side.Ap new item c i = ⊎_elim (λ a. inl a) (λ e. inr (refl, e))
    (in-pushed item c.to_ap new i)
queued-queue side.Far side.Far new item c i = ⊎_elim (λ a. inl a) (λ e. inr (refl, e))
    (in-pushed item c.to_far new i)
queued-queue side.Ap side.Far new item c i = inl i
queued-queue side.Far side.Ap new item c i = inl i

-- what waits once an item was put is old, or the item on a connection that is wired
pub put-queue : (s at : Side) (new item : Item) (c : Connection)
    → IsIn item (queue s (put at new c))
    → IsIn item (queue s c) ⊎ ((s ≡ at) × (item ≡ new) × (c.wired ≡ true))
put-queue s at new item c i = by c.wired refl i
  where
    by : (t : Bool) → c.wired ≡ t → IsIn item (queue s (cond t (queued at new c) c))
        → IsIn item (queue s c) ⊎ ((s ≡ at) × (item ≡ new) × (c.wired ≡ true))
    by true e i = ⊎_elim (λ old. inl old) (λ x. inr (x.0, x.1, e)) (queued-queue s at new item c i)
    by false e i = inl i

pub drawn-queue : (s : Side) (d : Draft) (label : ℕ) (c : Connection)
    → queue s (drawn d label c) ≡ queue s c
drawn-queue s d label c = by s d.side d.oneway
  where
    by : (s at : Side) (t : Bool) → queue s (cond t c (with_last_label at label c)) ≡ queue s c
    by side.Ap side.Ap false = refl
    by side.Ap side.Far false = refl
    by side.Far side.Ap false = refl
    by side.Far side.Far false = refl
    by s at true = refl

pub front-queue : (s at : Side) (item : Item) (c : Connection)
    → IsIn item (queue s (without_front at c)) → IsIn item (queue s c)
front-queue s at item c i = by s at i
  where
    later : (is : List Item) → IsIn item (behind_first is) → IsIn item is
    later [] j = absurd j
    later (x ∷ xs) j = inr j

    by : (s at : Side) → IsIn item (queue s (without_front at c)) → IsIn item (queue s c)
    by side.Ap side.Ap i = later c.to_ap i
    by side.Far side.Far i = later c.to_far i
    by side.Ap side.Far i = i
    by side.Far side.Ap i = i
