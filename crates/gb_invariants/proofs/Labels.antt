-- Identifiers that are in use differ, whatever becomes of the bus.
use Rattle.std.proofs.Common.{Bool, Some, ap, arith, cond, false, inl, inr, refl, sym, true, ℕ, ◌∙◌}
use Rattle.std.proofs.Common.{◌≡◌, ◌≤◌, ◌⊎◌}
use Rattle.gb_base.specs.declared.end.Side.{Side}
use Rattle.gb_base.specs.declared.end.Side.TheVariants as side
use Rattle.gb_machine.proofs.Lists.{nth-within}
use Rattle.gb_machine.specs.Bus.{Ask, Bus, Connection, Item, Request, next_number, other_side}
use Rattle.gb_machine.specs.Bus.{request_of}
use Rattle.gb_machine.specs.Labels.{greatest_label, next_label, with_last_label}
use Rattle.gb_machine.specs.Sending.{Draft, drawn, label_for, put, queued, requested, sent}
use Rattle.gb_machine.specs.{LawsBus.OwnLabels, LawsBus.is_awaited, Lists.nth, Requests.is_used}
use Rattle.gb_invariants.proofs.Awaiting.{AwaitsFewer, not-both, sent-before, sent-made, unasked}
use Rattle.gb_invariants.proofs.Drawing.{IsFree, awaited-used, drawn-is-free}
use Rattle.gb_invariants.specs.Facts.{OutcomesFit}

-- ---- fewer requests are awaited

made-same : (b after : Bus) → AwaitsFewer b after → (n : ℕ) (r : Request)
    → request_of n after ≡ Some r → request_of n b ≡ Some r
made-same b after fewer n r made = ap (nth n) (sym fewer.same) ∙ made

-- identifiers differ where fewer requests are awaited
pub labels-fewer : (b after : Bus) → AwaitsFewer b after → OwnLabels b → OwnLabels after
labels-fewer b after fewer h = record {
  differ = λ n m r q made other waits waiting. h.differ n m r q (made-same b after fewer n r made)
      (made-same b after fewer m q other) (fewer.before n waits) (fewer.before m waiting);
  range = λ n r made waits. h.range n r (made-same b after fewer n r made) (fewer.before n waits);
}

-- ---- a request is made

-- what the new request of a draft has for an identifier
pub record IsDrawn (d : Draft) (label : ℕ) (b : Bus) : Type 0 where
  pub free : d.oneway ≡ false → IsFree d.connection d.side label b

-- A request that is awaited once one is made: an old one that was, or the new one.
data WaitsThen (d : Draft) (label : ℕ) (b : Bus) (n : ℕ) (r : Request) : Type 0 where
  old : request_of n b ≡ Some r → is_awaited n b ≡ true → WaitsThen d label b n r
  new : n ≡ next_number b → r ≡ requested d label → d.oneway ≡ false → WaitsThen d label b n r

waits-then : (d : Draft) (label : ℕ) (b : Bus) (n : ℕ) (r : Request) → OutcomesFit b
    → request_of n (sent d label b) ≡ Some r → is_awaited n (sent d label b) ≡ true
    → WaitsThen d label b n r
waits-then d label b n r fits made waits = by (sent-made d label b n r made)
    (sent-before d label b n fits waits)
  where
    by : (request_of n b ≡ Some r) ⊎ ((n ≡ next_number b) × (r ≡ requested d label))
        → (is_awaited n b ≡ true) ⊎ ((n ≡ next_number b) × (d.oneway ≡ false))
        → WaitsThen d label b n r
    by (inl m) (inl w) = old m w
    by (inr m) (inl w) = absurd (not-both (is_awaited n b) w
        (ap (λ k. is_awaited k b) m.0 ∙ unasked b fits))
    by (inl m) (inr w) = absurd (omega (arith, nth-within n b.requests r m, w.0))
    by (inr m) (inr w) = new m.0 m.1 w.1

-- an old request hasn't the identifier of the new one
old-differs : (d : Draft) (label : ℕ) (b : Bus) (n : ℕ) (r q : Request) → IsDrawn d label b
    → request_of n b ≡ Some r → is_awaited n b ≡ true → q ≡ requested d label → d.oneway ≡ false
    → r.connection ≡ q.connection → r.side ≡ q.side → r.label ≡ q.label → ⊥
old-differs d label b n r q is made waits same_as twoway on at same =
    not-both (is_used d.connection d.side b label)
    (ap (λ (x : Request). is_used x.connection x.side b x.label) (sym same_as)
    ∙ ap (λ k. is_used k q.side b q.label) (sym on) ∙ ap (λ s. is_used r.connection s b q.label)
    (sym at) ∙ ap (is_used r.connection r.side b) (sym same) ∙ awaited-used b n r made waits)
    (is.free twoway).unused

-- identifiers differ where a new one is free
pub labels-sent : (d : Draft) (label : ℕ) (b : Bus) → OutcomesFit b → IsDrawn d label b
    → OwnLabels b → OwnLabels (sent d label b)
labels-sent d label b fits is h = record {
  differ = λ n m r q made other waits waiting. differ n m r q
      (waits-then d label b n r fits made waits) (waits-then d label b m q fits other waiting);
  range = λ n r made waits. range n r (waits-then d label b n r fits made waits);
}
  where
    differ : (n m : ℕ) (r q : Request) → WaitsThen d label b n r → WaitsThen d label b m q
        → r.connection ≡ q.connection → r.side ≡ q.side → r.label ≡ q.label → n ≡ m
    differ n m r q (old made w) (old other v) on at same = h.differ n m r q made other w v on at
        same
    differ n m r q (old made w) (new e f g) on at same =
        absurd (old-differs d label b n r q is made w f g on at same)
    differ n m r q (new e f g) (old other v) on at same =
        absurd (old-differs d label b m q r is other v f g (sym on) (sym at) (sym same))
    differ n m r q (new e f g) (new i j k) on at same = e ∙ sym i

    range : (n : ℕ) (r : Request) → WaitsThen d label b n r
        → (1 ≤ r.label) × (r.label ≤ greatest_label)
    range n r (old made w) = h.range n r made w
    range n r (new e f g) =
        let free = is.free g in
        let same = ap (λ (x : Request). x.label) f in
        (omega (arith, free.least, same), omega (arith, free.greatest, same))

-- ---- the connection of a new request

-- an item goes to a connection, which stays what it is
pub put-number : (at : Side) (item : Item) (c : Connection) → (put at item c).number ≡ c.number
put-number at item c = by at c.wired
  where
    by : (s : Side) (t : Bool) → (cond t (queued s item c) c).number ≡ c.number
    by side.Ap true = refl
    by side.Far true = refl
    by s false = refl

pub drawn-number : (d : Draft) (label : ℕ) (c : Connection) → (drawn d label c).number ≡ c.number
drawn-number d label c = by d.side d.oneway
  where
    by : (s : Side) (t : Bool) → (cond t c (with_last_label s label c)).number ≡ c.number
    by side.Ap false = refl
    by side.Far false = refl
    by s true = refl

-- what becomes of the connection of a new request
abbrev pub asked_on : Draft → ℕ → Bus → Connection → Connection
asked_on d label b c = put (other_side d.side) (Ask (next_number b)) (drawn d label c)

pub asked_on-number : (d : Draft) (label : ℕ) (b : Bus) (c : Connection)
    → (asked_on d label b c).number ≡ c.number
asked_on-number d label b c =
    put-number (other_side d.side) (Ask (next_number b)) (drawn d label c) ∙ drawn-number d label c

-- The identifier that a request is made with is drawn.
pub label_for-drawn : (d : Draft) (label : ℕ) (b : Bus) → label_for d b ≡ Some label
    → IsDrawn d label b
label_for-drawn d label b h = record {
  free = λ twoway. drawn-is-free d.connection d.side b label
      (ap (λ t. cond t (Some 0) (next_label d.connection d.side b)) (sym twoway) ∙ h);
}
