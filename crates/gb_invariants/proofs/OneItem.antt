-- Each number is in one item at most, whatever becomes of the bus.
use Rattle.std.proofs.Common.{Bool, List, None, Some, ap, arith, cond, false, refl, subst, sym}
use Rattle.std.proofs.Common.{true, ℕ, ◌+◌, ◌==◌, ◌∙◌, ◌∷◌, ◌≡◌, ◌≤◌}
use Rattle.gb_base.specs.declared.end.Side.{Side}
use Rattle.gb_base.specs.declared.end.Side.TheVariants as side
use Rattle.gb_machine.proofs.Lists.{nth-past}
use Rattle.gb_machine.specs.Bus.{Ask, Bus, Connection, Item, Raw, RawReply, Reply, Request}
use Rattle.gb_machine.specs.Bus.{next_number, request_of}
use Rattle.gb_machine.specs.{LawsBus.is_item_of, Members.IsIn, Sending.Draft, Sending.sent}
use Rattle.gb_invariants.proofs.Counts.{one, sent-counts, times-cons, times-none, times-some}
use Rattle.gb_invariants.proofs.Counts.{total-none, total-some}
use Rattle.gb_invariants.proofs.Items.{HasNumber, Lies, answers, asks, hangs, waits}
use Rattle.gb_invariants.proofs.Outcomes.{is-same, same-number}
use Rattle.gb_invariants.specs.Facts.{IsOwn, ItemsFit, Loose, OneEach, times_in, times_on}

-- ---- items of a number

pub has-number : (n : ℕ) (item : Item) → is_item_of n item ≡ true → HasNumber n item
has-number n (Ask m) h = asks (ap Ask (same-number m n h))
has-number n (Reply m result payload) h = answers result payload
    (ap (λ k. Reply k result payload) (same-number m n h))
has-number n (Raw bytes) h = absurd cc
has-number n (RawReply label kind result payload) h = absurd cc

pub number-is : (n : ℕ) (item : Item) → HasNumber n item → is_item_of n item ≡ true
number-is n item (asks e) = ap (is_item_of n) e ∙ is-same n
number-is n item (answers result payload e) = ap (is_item_of n) e ∙ is-same n

-- an item with a number is of a request that was made
made-own : (b : Bus) (k : ℕ) (at : Side) (item : Item) (n : ℕ) → HasNumber n item
    → IsOwn b k at item → (r : Request) × (request_of n b ≡ Some r)
made-own b k at item n (asks e) own = let o = subst (λ x. IsOwn b k at x) e own in (o.0, o.1)
made-own b k at item n (answers result payload e) own = let o = subst (λ x. IsOwn b k at x) e own in
    (o.0, o.1)

-- a number that no request has is in no item
pub none-unmade : (loose : List Loose) (b : Bus) (n : ℕ) → ItemsFit loose b → request_of n b ≡ None
    → times_in (is_item_of n) loose b ≡ 0
none-unmade loose b n fits unmade =
    let queues = total-none (times_on (is_item_of n)) b.connections on in
    let rest = times-none (λ (l : Loose). is_item_of n l.item) loose
    (λ l i. out l.connection l.side l.item (fits.own_loose l i)) in
    omega (arith, queues, rest)
  where
    out : (k : ℕ) (at : Side) (item : Item) → IsOwn b k at item → is_item_of n item ≡ false
    out k at item own = by (is_item_of n item) refl
      where
        by : (t : Bool) → is_item_of n item ≡ t → is_item_of n item ≡ false
        by false e = e
        by true e =
            let m = made-own b k at item n (has-number n item e) own in
            absurd (none-some m.0 (sym unmade ∙ m.1))
          where
            none-some : (r : Request) → None ≡ Some r → ⊥
            none-some r e = absurd cc

    on : (c : Connection) → IsIn c b.connections → times_on (is_item_of n) c ≡ 0
    on c live =
        let ap_side = times-none (is_item_of n) c.to_ap (λ item i. out c.number side.Ap item
        (fits.own c side.Ap item live i)) in
        let far_side = times-none (is_item_of n) c.to_far (λ item i. out c.number side.Far item
        (fits.own c side.Far item live i)) in
        omega (arith, ap_side, far_side)

-- an item that lies on a live connection is counted
pub lies-counted : (loose : List Loose) (b : Bus) (c : Connection) (at : Side) (item : Item) (n : ℕ)
    → IsIn c b.connections → Lies loose c at item → HasNumber n item
    → 1 ≤ times_in (is_item_of n) loose b
lies-counted loose b c side.Ap item n live (waits i) has =
    let here = times-some (is_item_of n) c.to_ap item i (number-is n item has) in
    omega (arith, here, total-some (times_on (is_item_of n)) b.connections c live)
lies-counted loose b c side.Far item n live (waits i) has =
    let here = times-some (is_item_of n) c.to_far item i (number-is n item has) in
    omega (arith, here, total-some (times_on (is_item_of n)) b.connections c live)
lies-counted loose b c at item n live (hangs l i on toward is) has =
    let here = times-some (λ (x : Loose). is_item_of n x.item) loose l i
    (ap (is_item_of n) is ∙ number-is n item has) in
    omega (arith, here)

-- where an item is being handled, no other has its number
pub none-other : (hand : Loose) (loose : List Loose) (b : Bus) (n : ℕ) → OneEach (hand ∷ loose) b
    → HasNumber n hand.item → times_in (is_item_of n) loose b ≡ 0
none-other hand loose b n ones has =
    let here : one (λ (l : Loose). is_item_of n l.item) hand ≡ 1 =
    ap (λ t. cond t (0 + 1) 0) (number-is n hand.item has) ∙ omega arith in
    omega (arith, ones n, here, times-cons (λ (l : Loose). is_item_of n l.item) hand loose)

-- ---- a request is made

pub ones-sent : (loose : List Loose) (d : Draft) (label : ℕ) (b : Bus) → ItemsFit loose b
    → OneEach loose b → OneEach loose (sent d label b)
ones-sent loose d label b fits ones n = by (next_number b == n) refl
  where
    more : times_in (is_item_of n) loose (sent d label b) ≤ times_in (is_item_of n) loose b + one
        (is_item_of n) (Ask (next_number b))
    more = sent-counts (is_item_of n) loose d label b

    by : (t : Bool) → (next_number b == n) ≡ t → times_in (is_item_of n) loose (sent d label b) ≤ 1
    by true e =
        let unmade : request_of n b ≡ None =
        ap (λ k. request_of k b) (sym (same-number (next_number b) n e)) ∙ nth-past (next_number b)
        b.requests (omega arith) in
        let single : one (is_item_of n) (Ask (next_number b)) ≡ 1 = ap (λ t. cond t (0 + 1) 0) e
        ∙ omega arith in
        omega (arith, more, single, none-unmade loose b n fits unmade)
    by false e =
        let none : one (is_item_of n) (Ask (next_number b)) ≡ 0 = ap (λ t. cond t (0 + 1) 0) e in
        omega (arith, more, none, ones n)
