-- Each connection is remembered as wired once at most: its request was served then, and no other is
-- made for it.
use Rattle.std.proofs.Common.{Bool, List, None, Some, ap, arith, cond, false, inl, inr, length}
use Rattle.std.proofs.Common.{refl, subst, sym, true, ℕ, ⊎_elim, [], ◌++◌, ◌+◌, ◌∙◌, ◌∷◌, ◌≡◌, ◌≤◌}
use Rattle.std.specs.Prelude.{◌==◌}
use Rattle.gb_base.specs.declared.end.Side.TheVariants as side
use Rattle.gb_machine.specs.Bus.{Ask, Bus, Item, Request, request_of}
use Rattle.gb_machine.specs.{Lists.behind_first, Members.IsIn, Members.times, Runs.Moment}
use Rattle.gb_machine.specs.{SvcQueues.svc_items}
use Rattle.gb_invariants.proofs.{BusChanges.KeepsRequests, Lists.in-pushed, Outcomes.same-number}
use Rattle.gb_laws.proofs.{creations.Creating.creates_one, creations.Creating.is_create}
use Rattle.gb_laws.proofs.{creations.CreatingFacts.CreatesFit}
use Rattle.gb_laws.proofs.{creations.CreatingFacts.creates-one, creations.OwnCreation.IsCreation}
use Rattle.gb_laws.proofs.{creations.Stale.waited}
use Rattle.gb_laws.proofs.{svc.SvcMoves.FarMoves, svc.SvcOrder.Rising}

-- The request to create connection k was made and doesn't wait any more.
pub record IsSpent (k : ℕ) (b : Bus) (pairs : List (ℕ × ℕ)) : Type 0 where
  pub number : ℕ
  pub request : Request
  pub pair : IsIn (number, k) pairs
  pub made : request_of number b ≡ Some request
  pub creates : creates_one request ≡ true
  pub served : IsIn (Ask number) (svc_items side.Far b) → ⊥

-- Of each connection that was wired the request is spent, and it was wired once.
pub record WiringsFit (b : Bus) (pairs : List (ℕ × ℕ)) (wired : List ℕ) : Type 0 where
  pub spent : (k : ℕ) → IsIn k wired → IsSpent k b pairs
  pub once : (k : ℕ) → times (λ j. j == k) wired ≤ 1

-- ---- lists

times-none : (k : ℕ) (ks : List ℕ) → (IsIn k ks → ⊥) → times (λ j. j == k) ks ≡ 0
times-none k [] none = refl
times-none k (x ∷ xs) none = by (x == k) refl (times-none k xs (λ i. none (inr i)))
  where
    by : (t : Bool) → (x == k) ≡ t → times (λ j. j == k) xs ≡ 0
        → cond t (times (λ j. j == k) xs + 1) (times (λ j. j == k) xs) ≡ 0
    by true e rest = absurd (none (inl (sym (same-number x k e))))
    by false e rest = rest

times-more : (k x : ℕ) (ks : List ℕ) → times (λ j. j == k) (ks ++ x ∷ [])
    ≡ times (λ j. j == k) ks + cond (x == k) 1 0
times-more k x [] = by (x == k)
  where
    by : (t : Bool) → cond t (0 + 1) 0 ≡ 0 + cond t 1 0
    by true = refl
    by false = refl
times-more k x (y ∷ ys) = by (y == k) (times-more k x ys)
  where
    by : (t : Bool) → times (λ j. j == k) (ys ++ x ∷ [])
        ≡ times (λ j. j == k) ys + cond (x == k) 1 0
        → cond t (times (λ j. j == k) (ys ++ x ∷ []) + 1) (times (λ j. j == k) (ys ++ x ∷ []))
        ≡ cond t (times (λ j. j == k) ys + 1) (times (λ j. j == k) ys) + cond (x == k) 1 0
    by true h = omega (arith, h)
    by false h = h

-- ---- the queue moves

pub wirings-on : {b after : Bus} {pairs now : List (ℕ × ℕ)} {wired : List ℕ} → FarMoves b after
    → KeepsRequests b after → ((n k : ℕ) → IsIn (n, k) pairs → n ≤ length b.requests)
    → ((n k : ℕ) → IsIn (n, k) pairs → IsIn (n, k) now)
    → WiringsFit b pairs wired → WiringsFit after now wired
wirings-on moves keeps below more h = record {
  spent = λ k i. let x = h.spent k i in record {
    number = x.number;
    request = x.request;
    pair = more x.number k x.pair;
    made = keeps x.number x.request x.made;
    creates = x.creates;
    served = λ j. x.served (waited x.number moves (below x.number k x.pair) j);
  };
  once = h.once;
}

-- ---- a connection is wired

module _ (m : Moment) (k : ℕ) (c : IsCreation m k)
    (fit : CreatesFit m.before.bus.requests m.before.host.links m.before.past.made_for None)
    (rise : Rising (svc_items side.Far m.before.bus))
    (h : WiringsFit m.before.bus m.before.past.made_for m.before.past.wired) where
  -- It wasn't wired before.
  pub unwired-before : IsIn k m.before.past.wired → ⊥
  unwired-before i =
      let x = h.spent k i in
      let one = creates-one fit x.number c.number k x.request c.request x.pair c.own x.made c.made
      x.creates (ap is_create c.creates) in
      x.served (subst (λ n. IsIn (Ask n) (svc_items side.Far m.before.bus)) (sym one)
      (subst (λ xs. IsIn (Ask c.number) xs) (sym c.front) (inl refl)))

  pub none-before : times (λ j. j == k) m.before.past.wired ≡ 0
  none-before = times-none k m.before.past.wired unwired-before

  -- what was served waits no more
  taken : IsIn (Ask c.number) (behind_first (svc_items side.Far m.before.bus)) → ⊥
  taken i =
      let less = (subst Rising c.front rise).0 c.number c.number refl i in omega (arith, less)

  pub wirings-more : {b : Bus} → svc_items side.Far b
      ≡ behind_first (svc_items side.Far m.before.bus)
      → ((n : ℕ) → request_of n b ≡ request_of n m.before.bus)
      → WiringsFit b m.before.past.made_for (m.before.past.wired ++ k ∷ [])
  wirings-more far requests = record {
    spent = λ j i. ⊎_elim (λ old. let x = h.spent j old in record {
      number = x.number;
      request = x.request;
      pair = x.pair;
      made = requests x.number ∙ x.made;
      creates = x.creates;
      served = λ w. x.served (in-behind (svc_items side.Far m.before.bus) (Ask x.number)
          (subst (λ xs. IsIn (Ask x.number) xs) far w));
    }) (λ e. record {
      number = c.number;
      request = c.request;
      pair = subst (λ n. IsIn (c.number, n) m.before.past.made_for) (sym e) c.own;
      made = requests c.number ∙ c.made;
      creates = ap is_create c.creates;
      served = λ w. taken (subst (λ xs. IsIn (Ask c.number) xs) far w);
    }) (in-pushed j m.before.past.wired k i);
    once = λ j. by j (k == j) refl;
  }
    where
      in-behind : (xs : List Item) (x : Item) → IsIn x (behind_first xs) → IsIn x xs
      in-behind [] x i = absurd i
      in-behind (y ∷ ys) x i = inr i

      by : (j : ℕ) (t : Bool) → (k == j) ≡ t
          → times (λ x. x == j) (m.before.past.wired ++ k ∷ []) ≤ 1
      by j true e =
          let count = times-more j k m.before.past.wired
          ∙ ap (λ u. times (λ x. x == j) m.before.past.wired + cond u 1 0) e in
          let none = ap (λ n. times (λ x. x == n) m.before.past.wired) (sym (same-number k j e))
          ∙ none-before in
          omega (arith, count, none)
      by j false e =
          let count = times-more j k m.before.past.wired
          ∙ ap (λ u. times (λ x. x == j) m.before.past.wired + cond u 1 0) e in
          let low = h.once j in
          omega (arith, count, low)
