-- Requests are held, taken and lost, connection by connection.
use Rattle.std.proofs.Common.{◌≡◌, ◌≢◌, ◌<◌, ℕ, zero, suc, ◌-◌, ◌==◌, Bool, true, false, cond, not}
use Rattle.std.proofs.Common.{◌⊎◌, inl, inr, Some, List, [], ◌∷◌, ◌++◌, length, append-nil, refl}
use Rattle.std.proofs.Common.{sym, ap, ◌∙◌, subst, arith}
use Rattle.std.proofs.lemmas.Bool.{cases_eq}
use Rattle.std.proofs.lemmas.Bool.Decides.{nat_tests}
use Rattle.std.proofs.lemmas.List.Elements.{filter-append}
use Rattle.std.specs.List.{remove}
use Rattle.gb_machine.specs.Bus.{Request}
use Rattle.gb_machine.specs.Holding.{held_on, held_without, is_held_on}
use Rattle.gb_machine.specs.Lists.{nth, without}
use Rattle.gb_machine.specs.State.{Held}
use Rattle.gb_system.specs.Held.{HoldsAs, held_at}
use Rattle.gb_system.specs.Stands.{HeldStand, StandForHeld, StandsForHeld}
use Rattle.gb_system.specs.declared.held.HeldRequest.{HeldRequest}
use Rattle.gb_system.specs.declared.held.HeldRequests.{HeldRequests}

same-number : (a b : ℕ) → (a == b) ≡ true → a ≡ b
same-number a b h = grind (arith, nat_tests)

is-number : (a b : ℕ) → a ≡ b → (a == b) ≡ true
is-number a b h = grind (arith, nat_tests)

other-number : (a b : ℕ) → a ≢ b → (a == b) ≡ false
other-number a b h = grind (arith, nat_tests)

-- numbers past one, as places are counted down
past-one : (q : ℕ) → (suc (suc q) == 1) ≡ false
past-one q = grind (arith, nat_tests)

one-less : (q : ℕ) → suc (suc q) - 1 ≡ suc q
one-less q = omega arith

-- ---- two lists

-- one more stands at the end
held-pushed : (rs : List Request) (xs : List HeldRequest) (hs : List Held) (x : HeldRequest)
    (h : Held) → StandForHeld rs xs hs → StandsForHeld rs x h
    → StandForHeld rs (xs ++ x ∷ []) (hs ++ h ∷ [])
held-pushed rs [] [] x h st one = (one, tt)
held-pushed rs (y ∷ ys) (g ∷ gs) x h st one = (st.0, held-pushed rs ys gs x h st.1 one)
held-pushed rs [] (g ∷ gs) x h st one = absurd st
held-pushed rs (y ∷ ys) [] x h st one = absurd st

-- as many stand in both
held-long : (rs : List Request) (xs : List HeldRequest) (hs : List Held) → StandForHeld rs xs hs
    → length xs ≡ length hs
held-long rs [] [] st = refl
held-long rs (x ∷ xs) (h ∷ hs) st = ap suc (held-long rs xs hs st.1)
held-long rs [] (h ∷ hs) st = absurd st
held-long rs (x ∷ xs) [] st = absurd st

-- one is taken from both
held-removed : (rs : List Request) (xs : List HeldRequest) (hs : List Held) (i : ℕ)
    → StandForHeld rs xs hs → StandForHeld rs (remove xs i) (remove hs i)
held-removed rs [] [] zero st = tt
held-removed rs [] [] (suc i) st = tt
held-removed rs (x ∷ xs) (h ∷ hs) zero st = st.1
held-removed rs (x ∷ xs) (h ∷ hs) (suc i) st = (st.0, held-removed rs xs hs i st.1)
held-removed rs [] (h ∷ hs) i st = absurd st
held-removed rs (x ∷ xs) [] i st = absurd st

-- the machine's request at a place
pub record IsOne (rs : List Request) (i : ℕ) (x : HeldRequest) (hs : List Held) : Type 0 where
  pub one : Held
  pub there : nth (suc i) hs ≡ Some one
  pub stands : StandsForHeld rs x one

held-one : (rs : List Request) (xs : List HeldRequest) (hs : List Held) (i : ℕ) (x : HeldRequest)
    → StandForHeld rs xs hs → nth (suc i) xs ≡ Some x → IsOne rs i x hs
held-one rs [] [] i x st is = absurd cc
held-one rs (y ∷ ys) (g ∷ gs) zero x st is = record {
  one = g;
  there = refl;
  stands = subst (λ r. StandsForHeld rs r g) (let same : y ≡ x = cc in same) st.0;
}
held-one rs (y ∷ ys) (g ∷ gs) (suc i) x st is = let o = held-one rs ys gs i x st.1 is in
    record { one = o.one; there = o.there; stands = o.stands }
held-one rs [] (g ∷ gs) i x st is = absurd st
held-one rs (y ∷ ys) [] i x st is = absurd st

-- ---- which one of the machine is taken

-- The machine's list around the request at a place among those of a connection.
pub record Around (k i : ℕ) (hs : List Held) (one : Held) : Type 0 where
  pub before : List Held
  pub after : List Held
  pub whole : hs ≡ before ++ one ∷ after
  pub left : held_without k (suc i) hs ≡ before ++ after
  pub on : one.connection ≡ k
  pub here : held_on k (held_without k (suc i) hs) ≡ remove (held_on k hs) i
  pub others : (j : ℕ) → j ≢ k → held_on j (held_without k (suc i) hs) ≡ held_on j hs

-- one of this connection is not of another
elsewhere-on : (j k : ℕ) (h : Held) (hs : List Held) → (h.connection == k) ≡ true → j ≢ k
    → held_on j hs ≡ held_on j (h ∷ hs)
elsewhere-on j k h hs mine other =
    sym (ap (λ t. cond t (h ∷ held_on j hs) (held_on j hs))
    (other-number h.connection j (λ e. other (sym e ∙ same-number h.connection k mine))))

-- it is the first
around-first : (k : ℕ) (h one : Held) (hs : List Held) → (h.connection == k) ≡ true → h ≡ one
    → Around k 0 (h ∷ hs) one
around-first k h one hs mine is =
    let left : held_without k 1 (h ∷ hs) ≡ hs =
    ap (λ t. cond t hs (h ∷ held_without k 1 hs)) mine in
    record {
      before = [];
      after = hs;
      whole = ap (λ g. g ∷ hs) is;
      left = left;
      on = ap (λ (g : Held). g.connection) (sym is) ∙ same-number h.connection k mine;
      here = ap (held_on k) left
          ∙ sym (ap (λ t. remove (cond t (h ∷ held_on k hs) (held_on k hs)) 0) mine);
      others = λ j other. ap (held_on j) left ∙ elsewhere-on j k h hs mine other;
    }

-- it is behind another request, which stays
around-cons : (k i place : ℕ) (h one : Held) (hs : List Held)
    → held_without k (suc place) (h ∷ hs) ≡ h ∷ held_without k (suc i) hs
    → held_on k (h ∷ held_without k (suc i) hs) ≡ remove (held_on k (h ∷ hs)) place
    → Around k i hs one → Around k place (h ∷ hs) one
around-cons k i place h one hs left here a = record {
  before = h ∷ a.before;
  after = a.after;
  whole = ap (λ gs. h ∷ gs) a.whole;
  left = left ∙ ap (λ gs. h ∷ gs) a.left;
  on = a.on;
  here = ap (held_on k) left ∙ here;
  others = λ j apart.
      ap (held_on j) left
      ∙ ap (λ gs. cond (h.connection == j) (h ∷ gs) gs) (a.others j apart);
}

-- that is of the connection
around-behind : (k i : ℕ) (h one : Held) (hs : List Held) → (h.connection == k) ≡ true
    → Around k i hs one → Around k (suc i) (h ∷ hs) one
around-behind k i h one hs mine a =
    around-cons k i (suc i) h one hs
    (ap (λ t. cond t (cond (suc (suc i) == 1) hs (h ∷ held_without k (suc (suc i) - 1) hs))
    (h ∷ held_without k (suc (suc i)) hs)) mine
    ∙ ap (λ t. cond t hs (h ∷ held_without k (suc (suc i) - 1) hs)) (past-one i)
    ∙ ap (λ m. h ∷ held_without k m hs) (one-less i))
    (ap (λ t. cond t (h ∷ held_on k (held_without k (suc i) hs))
    (held_on k (held_without k (suc i) hs))) mine
    ∙ ap (λ gs. h ∷ gs) a.here
    ∙ sym (ap (λ t. remove (cond t (h ∷ held_on k hs) (held_on k hs)) (suc i)) mine)) a

-- or of another
around-past : (k i : ℕ) (h one : Held) (hs : List Held) → (h.connection == k) ≡ false
    → Around k i hs one → Around k i (h ∷ hs) one
around-past k i h one hs other a =
    around-cons k i i h one hs
    (ap (λ t. cond t (cond (suc i == 1) hs (h ∷ held_without k (suc i - 1) hs))
    (h ∷ held_without k (suc i) hs)) other)
    (ap (λ t. cond t (h ∷ held_on k (held_without k (suc i) hs))
    (held_on k (held_without k (suc i) hs))) other
    ∙ a.here
    ∙ sym (ap (λ t. remove (cond t (h ∷ held_on k hs) (held_on k hs)) i) other)) a

pub around : (k i : ℕ) (hs : List Held) (one : Held) → nth (suc i) (held_on k hs) ≡ Some one
    → Around k i hs one
around k i [] one is = absurd cc
around k i (h ∷ hs) one is =
    by (λ j e. around k j hs one e) i (h.connection == k) refl is
  where
    by : ((j : ℕ) → nth (suc j) (held_on k hs) ≡ Some one → Around k j hs one) → (i : ℕ) (t : Bool)
        → (h.connection == k) ≡ t
        → nth (suc i) (cond t (h ∷ held_on k hs) (held_on k hs)) ≡ Some one
        → Around k i (h ∷ hs) one
    by rec i false other e = around-past k i h one hs other (rec i e)
    by rec zero true mine e =
        around-first k h one hs mine (let same : h ≡ one = cc in same)
    by rec (suc i) true mine e = around-behind k i h one hs mine (rec i e)

-- ---- what is held, and what of it changes

-- what is held on one connection changes
record Changes (rs : List Request) (old new : List Held) (k : ℕ) (xs : List HeldRequest)
    : Type 0 where
  here : StandForHeld rs xs (held_on k new)
  others : (j : ℕ) → j ≢ k → held_on j new ≡ held_on j old

changed : {rs : List Request} {x y : HeldRequests} {old new : List Held} (k : ℕ)
    (xs : List HeldRequest) → HeldStand rs x old → HoldsAs x y k xs → Changes rs old new k xs
    → HeldStand rs y new
changed {rs} {x} {y} {old} {new} k xs st code machine j = by (cases_eq j k)
  where
    by : (j ≡ k) ⊎ (j ≡ k → ⊥) → StandForHeld rs (held_at y j) (held_on j new)
    by (inl is) =
        subst (λ n. StandForHeld rs (held_at y n) (held_on n new)) (sym is)
        (subst (λ ys. StandForHeld rs ys (held_on k new)) (sym code.here) machine.here)
    by (inr ne) =
        subst (λ ys. StandForHeld rs ys (held_on j new)) (sym (code.others j ne))
        (subst (λ hs. StandForHeld rs (held_at x j) hs) (sym (machine.others j ne)) (st j))

-- one more is held
pub stand-pushed : {rs : List Request} {x y : HeldRequests} (hs : List Held) (k : ℕ)
    (request : HeldRequest) (h : Held) → HeldStand rs x hs
    → HoldsAs x y k (held_at x k ++ request ∷ []) → h.connection ≡ k
    → StandsForHeld rs request h → HeldStand rs y (hs ++ h ∷ [])
stand-pushed {rs} {x} {y} hs k request h st code on one =
    changed k (held_at x k ++ request ∷ []) st code (record {
      here =
          subst (λ gs. StandForHeld rs (held_at x k ++ request ∷ []) gs)
          (ap (λ t. held_on k hs ++ cond t (h ∷ []) []) (sym (is-number h.connection k on))
          ∙ sym (filter-append (is_held_on k) hs (h ∷ [])))
          (held-pushed rs (held_at x k) (held_on k hs) request h (st k) one);
      others = λ j other.
          filter-append (is_held_on j) hs (h ∷ [])
          ∙ ap (λ t. held_on j hs ++ cond t (h ∷ []) [])
          (other-number h.connection j (λ e. other (sym e ∙ on)))
          ∙ append-nil (held_on j hs);
    })

-- none is held on a connection
held-without-on : (k : ℕ) (hs : List Held) → held_on k (without (is_held_on k) hs) ≡ []
held-without-on k [] = refl
held-without-on k (h ∷ hs) = by (h.connection == k) refl (held-without-on k hs)
  where
    left : List Held
    left = without (is_held_on k) hs

    by : (t : Bool) → (h.connection == k) ≡ t → held_on k left ≡ []
        → held_on k (cond (not t) (h ∷ left) left) ≡ []
    by true is rec = rec
    by false is rec = ap (λ t. cond t (h ∷ held_on k left) (held_on k left)) is ∙ rec

held-without-others : (k j : ℕ) (hs : List Held) → j ≢ k
    → held_on j (without (is_held_on k) hs) ≡ held_on j hs
held-without-others k j [] other = refl
held-without-others k j (h ∷ hs) other =
    by (h.connection == k) refl (held-without-others k j hs other)
  where
    left : List Held
    left = without (is_held_on k) hs

    by : (t : Bool) → (h.connection == k) ≡ t → held_on j left ≡ held_on j hs
        → held_on j (cond (not t) (h ∷ left) left) ≡ held_on j (h ∷ hs)
    by true is rec = rec ∙ elsewhere-on j k h hs is other
    by false is rec = ap (λ gs. cond (h.connection == j) (h ∷ gs) gs) rec

pub stand-lost : (rs : List Request) {x y : HeldRequests} (hs : List Held) (k : ℕ)
    → HeldStand rs x hs → HoldsAs x y k [] → HeldStand rs y (without (is_held_on k) hs)
stand-lost rs hs k st code =
    changed k [] st code (record {
      here = subst (λ gs. StandForHeld rs [] gs) (sym (held-without-on k hs)) tt;
      others = λ j other. held-without-others k j hs other;
    })

-- Where the code takes one, it is the machine's, and the rest stands for the rest.
pub record IsTaken (rs : List Request) (k i : ℕ) (x : HeldRequest) (y : HeldRequests)
    (hs : List Held) : Type 0 where
  pub one : Held
  pub there : nth (suc i) (held_on k hs) ≡ Some one
  pub on : one.connection ≡ k
  pub stands : StandsForHeld rs x one
  pub around : Around k i hs one
  pub rest : HeldStand rs y (held_without k (suc i) hs)

pub stand-taken : {rs : List Request} {x y : HeldRequests} (hs : List Held) (k i : ℕ)
    (taken : HeldRequest) → HeldStand rs x hs → nth (suc i) (held_at x k) ≡ Some taken
    → HoldsAs x y k (remove (held_at x k) i) → IsTaken rs k i taken y hs
stand-taken {rs} {x} {y} hs k i taken st is code =
    let o = held-one rs (held_at x k) (held_on k hs) i taken (st k) is in
    let a = around k i hs o.one o.there in
    record {
      one = o.one;
      there = o.there;
      on = a.on;
      stands = o.stands;
      around = a;
      rest = changed k (remove (held_at x k) i) st code (record {
        here =
            subst (λ gs. StandForHeld rs (remove (held_at x k) i) gs) (sym a.here)
            (held-removed rs (held_at x k) (held_on k hs) i (st k));
        others = a.others;
      });
    }

-- where it takes none, fewer are held
pub stand-fewer : (rs : List Request) (x : HeldRequests) (hs : List Held) (k place : ℕ)
    → HeldStand rs x hs → length (held_at x k) < place → length (held_on k hs) < place
stand-fewer rs x hs k place st few =
    subst (λ n. n < place) (held-long rs (held_at x k) (held_on k hs) (st k)) few
