-- What the application processor asks of the supervisory controller is served in the order in which
-- it is asked.
use Rattle.std.proofs.Common.{List, Some, ap, arith, false, inl, inr, subst, sym, ℕ, ⊎_elim, []}
use Rattle.std.proofs.Common.{◌++◌, ◌<◌, ◌∙◌, ◌∷◌, ◌≡◌, ◌≤◌}
use Rattle.gb_base.specs.declared.end.Side.TheVariants as side
use Rattle.gb_machine.proofs.Lists.{nth-within}
use Rattle.gb_machine.specs.Bus.{Ask, Bus, Item, Request, next_number, request_of}
use Rattle.gb_machine.specs.{LawsBus.is_awaited, Lists.behind_first, Lists.nth, Members.IsIn}
use Rattle.gb_machine.specs.{SvcQueues.items_in, SvcQueues.svc_items}
use Rattle.gb_invariants.proofs.Lists.{in-behind, in-front, in-pushed}
use Rattle.gb_invariants.proofs.Awaiting.{not-both, sent-made}
use Rattle.gb_laws.proofs.svc.SvcMoves.{FarMoves, asked, elsewhere, puts, stays, taken}
use Rattle.gb_laws.proofs.{links.LinkKept.LinkedAt, marks.MarkFrame.asked-toward}
use Rattle.gb_laws.proofs.{points.PointParts.Basis}
use Rattle.gb_laws.proofs.{points.PointParts.Point, removals.QuietBuses.svc-found}
use Rattle.gb_laws.proofs.{svc.SvcThere.There}

-- the numbers of requests among items rise
abbrev pub Rising : List Item → Type 0
Rising [] = Unit {0}
Rising (x ∷ xs) = ((n k : ℕ) → x ≡ Ask n → IsIn (Ask k) xs → n < k) × Rising xs

-- Requests wait toward the supervisory controller in the order of their numbers, and with each that
-- the application processor made all that it made later.
pub record SvcOrder (b : Bus) : Type 0 where
  pub rise : Rising (svc_items side.Far b)
  pub later : (n k : ℕ) (r : Request) → request_of n b ≡ Some r → r.connection ≡ 1
      → r.side ≡ side.Ap → k ≤ n → IsIn (Ask k) (svc_items side.Far b)
      → IsIn (Ask n) (svc_items side.Far b)

-- ---- lists

rising-pushed : (xs : List Item) (x : Item) → ((n k : ℕ) → x ≡ Ask n → IsIn (Ask k) xs → k < n)
    → Rising xs → Rising (xs ++ x ∷ [])
rising-pushed [] x above h = (λ n k e i. absurd i, tt)
rising-pushed (y ∷ ys) x above h = (
  λ n k e i. ⊎_elim (λ o. h.0 n k e o) (λ f. above k n (sym f) (inl (sym e)))
      (in-pushed (Ask k) ys x i),
  rising-pushed ys x (λ n k e i. above n k e (inr i)) h.1,
)

rising-behind : (xs : List Item) → Rising xs → Rising (behind_first xs)
rising-behind [] h = tt
rising-behind (x ∷ xs) h = h.1

in-behind_first : (xs : List Item) (x : Item) → IsIn x (behind_first xs) → IsIn x xs
in-behind_first [] x i = absurd i
in-behind_first (y ∷ ys) x i = inr i

-- a later one stays behind the first where an earlier one does
stays-behind : (xs : List Item) (n k : ℕ) → Rising xs → k ≤ n → IsIn (Ask k) (behind_first xs)
    → IsIn (Ask n) xs → IsIn (Ask n) (behind_first xs)
stays-behind [] n k h low i j = absurd i
stays-behind (x ∷ xs) n k h low i (inr j) = j
stays-behind (x ∷ xs) n k h low i (inl e) =
    let less = h.0 n k (sym e) i in absurd (omega (arith, less, low))

pub same-ask : (n k : ℕ) → Ask n ≡ Ask k → n ≡ k
same-ask n k e = cc

-- ---- each change

pub order-kept : (a : Point) {after : Bus} → Basis a → FarMoves a.state.bus after
    → SvcOrder a.state.bus → SvcOrder after
order-kept a basis (stays requests far) h = record {
  rise = subst Rising (sym far) h.rise;
  later = λ n k r made on own low i. subst (λ xs. IsIn (Ask n) xs) (sym far)
      (h.later n k r (sym (ap (λ rs. nth n rs) requests) ∙ made) on own low
      (subst (λ xs. IsIn (Ask k) xs) far i));
}
order-kept a basis (taken requests far) h = record {
  rise = subst Rising (sym far) (rising-behind (svc_items side.Far a.state.bus) h.rise);
  later = λ n k r made on own low i.
      let j = subst (λ xs. IsIn (Ask k) xs) far i in
      subst (λ xs. IsIn (Ask n) xs) (sym far)
      (stays-behind (svc_items side.Far a.state.bus) n k h.rise low j
      (h.later n k r (sym (ap (λ rs. nth n rs) requests) ∙ made) on own low
      (in-behind_first (svc_items side.Far a.state.bus) (Ask k) j)));
}
order-kept a basis (puts x unasked requests far) h = record {
  rise = subst Rising (sym far) (rising-pushed (svc_items side.Far a.state.bus) x
      (λ n k e i. absurd (unasked n e)) h.rise);
  later = λ n k r made on own low i. subst (λ xs. IsIn (Ask n) xs) (sym far)
      (in-front (Ask n) (svc_items side.Far a.state.bus) (x ∷ [])
      (h.later n k r (sym (ap (λ rs. nth n rs) requests) ∙ made) on own low
      (⊎_elim (λ o. o) (λ e. absurd (unasked k (sym e)))
      (in-pushed (Ask k) (svc_items side.Far a.state.bus) x
      (subst (λ xs. IsIn (Ask k) xs) far i)))));
}
order-kept a basis (asked d label is one own_side far) h = record {
  rise = subst Rising (sym far) (rising-pushed (svc_items side.Far a.state.bus)
      (Ask (next_number a.state.bus)) (λ n k e i. above n k (same-ask _ n e) i) h.rise);
  later = λ n k r made on own low i. subst (λ xs. IsIn (Ask n) xs) (sym far) (⊎_elim
      (λ old. in-front (Ask n) (svc_items side.Far a.state.bus) (Ask (next_number a.state.bus) ∷ [])
      (h.later n k r old on own low (⊎_elim (λ o. o)
      (λ e. let high = same-ask k (next_number a.state.bus) e in
      let within = nth-within n a.state.bus.requests r old in
      absurd (omega (arith, high, within, low)))
      (in-pushed (Ask k) (svc_items side.Far a.state.bus) (Ask (next_number a.state.bus))
      (subst (λ xs. IsIn (Ask k) xs) far i)))))
      (λ new. in-behind (Ask n) (svc_items side.Far a.state.bus)
      (Ask (next_number a.state.bus) ∷ []) (inl (ap Ask new.0)))
      (sent-made d label a.state.bus n r (ap (request_of n) (sym is) ∙ made)));
}
  where
    above : (n k : ℕ) → next_number a.state.bus ≡ n → IsIn (Ask k) (svc_items side.Far a.state.bus)
        → k < n
    above n k e i =
        let made = asked-toward side.Far a basis k i in
        let within = nth-within k a.state.bus.requests made.0 made.1 in
        omega (arith, within, e)
order-kept a basis (elsewhere d label is other far) h = record {
  rise = subst Rising (sym far) h.rise;
  later = λ n k r made on own low i. subst (λ xs. IsIn (Ask n) xs) (sym far) (⊎_elim
      (λ old. h.later n k r old on own low (subst (λ xs. IsIn (Ask k) xs) far i))
      (λ new. absurd (other (ap (λ (q : Request). q.connection) (sym new.1) ∙ on)
      (ap (λ (q : Request). q.side) (sym new.1) ∙ own)))
      (sent-made d label a.state.bus n r (ap (request_of n) (sym is) ∙ made)));
}

-- ---- what was answered was served

-- Where a request isn't awaited any more, none that was made before it waits.
pub none-earlier : (a : Point) → Basis a → LinkedAt a → There a.state.bus → SvcOrder a.state.bus
    → (n k : ℕ) (r : Request) → request_of n a.state.bus ≡ Some r → r.connection ≡ 1
    → r.side ≡ side.Ap → r.oneway ≡ false → is_awaited n a.state.bus ≡ false → k ≤ n
    → IsIn (Ask k) (svc_items side.Far a.state.bus) → ⊥
none-earlier a basis links there order n k r made on own twoway over low i =
    let c = svc-found basis there in
    let svc = links.svc c.0 c.3 c.4 in
    let waits = subst (λ o. IsIn (Ask n) (items_in side.Far o)) c.1
    (order.later n k r made on own low i) in
    not-both (is_awaited n a.state.bus)
    ((basis.bus.items.answerable c.0 side.Far (Ask n) c.3 waits).due svc.clean
    (λ f. svc.shut) r made twoway) over
