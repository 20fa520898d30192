-- What is kept of deadlines, when a request comes and when one ends.
use Rattle.std.proofs.Common.{◌≡◌, ◌≢◌, ◌<◌, ◌≤◌, ℕ, zero, suc, ◌+◌, ◌-◌, Bool, true, false, cond}
use Rattle.std.proofs.Common.{◌⊎◌, inl, inr, Option, Some, None, eqb, refl, sym, ap, subst}
use Rattle.std.proofs.Common.{◌∙◌, arith}
use Rattle.std.proofs.lemmas.Bool.{both_ways, cases_eq, cases_lt, eqb-true}
use Rattle.std.specs.BTreeMap.{is_at}
use Rattle.std.specs.List.{list_any}
use Rattle.gb_bus.proofs.SlotMaps.{each-number, latest, none-some, same-number}
use Rattle.gb_bus.proofs.SlotMaps.{same-some, time-here, time-others}
use Rattle.gb_bus.specs.Keeping.{Adds, AreTimed, IsNext, Removes, Retimed, Stays, by_latest}
use Rattle.gb_bus.specs.Keeping.{has_deadline, how_many, one_open}
use Rattle.gb_bus.specs.declared.deadlines.Deadlines.{Deadlines}
use Rattle.gb_bus.specs.declared.tally.Tally.{Tally}

-- ---- how many are open

pub count-below : (f g : ℕ → Option ℕ) (n : ℕ) → ((m : ℕ) → m ≤ n → g m ≡ f m)
    → how_many g n ≡ how_many f n
unfolding how_many
count-below f g zero same = ap one_open (same 0 (omega arith))
count-below f g (suc n) same =
    ap (λ o. one_open o + how_many g n) (same (suc n) (omega arith))
    ∙ ap (λ k. one_open (f (suc n)) + k)
    (count-below f g n (λ m low. same m (omega (arith, low))))

pub count-none : (f : ℕ → Option ℕ) (n : ℕ) → ((m : ℕ) → m ≤ n → f m ≡ None) → how_many f n ≡ 0
unfolding how_many
count-none f zero none = ap one_open (none 0 (omega arith))
count-none f (suc n) none =
    let last = ap one_open (none (suc n) (omega arith)) in
    let rest = count-none f n (λ m low. none m (omega (arith, low))) in
    omega (arith, last, rest)

open-one : (o : Option ℕ) (c : ℕ) → o ≡ Some c → one_open o ≡ 1
open-one o c e = ap one_open e

count-some : (f : ℕ → Option ℕ) (n m c : ℕ) → m ≤ n → f m ≡ Some c → 1 ≤ how_many f n
unfolding how_many
count-some f zero m c low e =
    let is : m ≡ 0 = omega (arith, low) in
    let one = open-one (f 0) c (ap f (sym is) ∙ e) in
    omega (arith, one)
count-some f (suc n) m c low e = by (cases_eq m (suc n)) (λ under. count-some f n m c under e)
  where
    by : (m ≡ suc n) ⊎ (m ≡ suc n → ⊥) → (m ≤ n → 1 ≤ how_many f n)
        → 1 ≤ one_open (f (suc n)) + how_many f n
    by (inl is) later = let one = open-one (f (suc n)) c (ap f (sym is) ∙ e) in omega (arith, one)
    by (inr ne) later = let some = later (omega (arith, low, ne)) in omega (arith, some)

-- one less is open
count-ended : (f g : ℕ → Option ℕ) (n m c : ℕ) → m ≤ n → f m ≡ Some c → g m ≡ None
    → ((k : ℕ) → k ≢ m → g k ≡ f k) → how_many g n + 1 ≡ how_many f n
unfolding how_many
count-ended f g zero m c low e over same =
    let is : m ≡ 0 = omega (arith, low) in
    let one = open-one (f 0) c (ap f (sym is) ∙ e) in
    let none = ap one_open (ap g (sym is) ∙ over) in
    omega (arith, one, none)
count-ended f g (suc n) m c low e over same =
    by (cases_eq m (suc n)) (λ under. count-ended f g n m c under e over same)
  where
    by : (m ≡ suc n) ⊎ (m ≡ suc n → ⊥) → (m ≤ n → how_many g n + 1 ≡ how_many f n)
        → (one_open (g (suc n)) + how_many g n) + 1 ≡ one_open (f (suc n)) + how_many f n
    by (inl is) later =
        let one = open-one (f (suc n)) c (ap f (sym is) ∙ e) in
        let none = ap one_open (ap g (sym is) ∙ over) in
        let rest = count-below f g n
        (λ k under. same k (λ s. absurd (omega (arith, under, s, is)))) in
        omega (arith, one, none, rest)
    by (inr ne) later =
        let rest = later (omega (arith, low, ne)) in
        let stays = ap one_open (same (suc n) (λ s. ne (sym s))) in
        omega (arith, rest, stays)

-- one more is open
count-opened : (f g : ℕ → Option ℕ) (n c : ℕ) → g (suc n) ≡ Some c
    → ((m : ℕ) → m ≤ n → g m ≡ f m) → how_many g (suc n) ≡ how_many f n + 1
unfolding how_many
count-opened f g n c e same =
    let one = open-one (g (suc n)) c e in
    let rest = count-below f g n same in
    omega (arith, one, rest)

count-unopened : (f : ℕ → Option ℕ) (n : ℕ) → f (suc n) ≡ None
    → how_many f (suc n) ≡ how_many f n
unfolding how_many
count-unopened f n e = let none = ap one_open e in omega (arith, none)

-- ---- all is as it was

pub timed-same : (f g : ℕ → Option ℕ) (d d2 : Deadlines) (t : Tally)
    → ((n : ℕ) → g n ≡ f n) → Stays d d2 → AreTimed f d t → AreTimed g d2 t
timed-same f g d d2 t same stays k = record {
  early = λ c n e. same n ∙ k.early c n (sym (has c n) ∙ e);
  least = λ n c e. subst (λ x. x ≤ n) (sym stays.first) (k.least n c (sym (same n) ∙ e));
  found = λ e. k.found (ap f (sym stays.first) ∙ sym (same d2.first) ∙ e);
  rise = λ m n b c low before after late.
      k.rise m n b c low (sym (same m) ∙ before) (sym (same n) ∙ after) (sym (has c n) ∙ late);
  latest = λ n c e.
      subst (λ x. c ≤ x) (sym stays.latest) (k.latest n c (sym (same n) ∙ e));
  waiting = k.waiting ∙ sym (count-below f g t.requests (λ m low. same m));
}
  where
    has : (c n : ℕ) → has_deadline d2.early (c, n) ≡ has_deadline d.early (c, n)
    has c n = ap (list_any (is_at (by_latest (latest c n)))) stays.keys

pub stays-same : (d : Deadlines) → Stays d d
stays-same d = record { first = refl; latest = refl; keys = refl }

-- one more was made, which isn't open
pub timed-counted : (f : ℕ → Option ℕ) (d : Deadlines) (t t2 : Tally) → AreTimed f d t
    → ((n c : ℕ) → f n ≡ Some c → n ≤ t.requests) → t2.requests ≡ t.requests + 1
    → t2.left_open ≡ t.left_open → AreTimed f d t2
timed-counted f d t t2 k made requests left = record {
  early = k.early;
  least = k.least;
  found = λ e. left ∙ k.found e;
  rise = k.rise;
  latest = k.latest;
  waiting = left ∙ k.waiting ∙ sym (ap (how_many f) last ∙ count-unopened f t.requests none);
}
  where
    last : t2.requests ≡ suc t.requests
    last = omega (arith, requests)

    none : f (suc t.requests) ≡ None
    none = by (f (suc t.requests)) refl
      where
        by : (o : Option ℕ) → f (suc t.requests) ≡ o → o ≡ None
        by None e = refl
        by (Some c) e = let low = made (suc t.requests) c e in absurd (omega (arith, low))

-- ---- which are open

module _ (f : ℕ → Option ℕ) (d : Deadlines) (t : Tally) (k : AreTimed f d t) where
  pub some-waits : (n c : ℕ) → n ≤ t.requests → f n ≡ Some c → 1 ≤ t.left_open
  some-waits n c low e =
      let some = count-some f t.requests n c low e in
      let all = k.waiting in omega (arith, some, all)

  -- no number has a deadline where none is open
  pub none-waits : ((n c : ℕ) → f n ≡ Some c → n ≤ t.requests) → t.left_open ≡ 0
      → (n : ℕ) → f n ≡ None
  none-waits made none n = by (f n) refl
    where
      by : (o : Option ℕ) → f n ≡ o → o ≡ None
      by None e = refl
      by (Some c) e =
          let some = some-waits n c (made n c e) e in absurd (omega (arith, some, none))

-- ---- one ends

module _ (f g : ℕ → Option ℕ) (d d2 : Deadlines) (t t2 : Tally) (n c next : ℕ)
    (k : AreTimed f d t) (was : f n ≡ Some c) (over : g n ≡ None)
    (same : (m : ℕ) → m ≢ n → g m ≡ f m) (low : n ≤ t.requests) (r : Removes n c d d2)
    (nx : IsNext g n d2.first t2 next) (requests : t2.requests ≡ t.requests)
    (left : t2.left_open ≡ t.left_open - 1) where
  other : (m e : ℕ) → g m ≡ Some e → m ≢ n
  other m e is = λ s. absurd (none-some e (sym over ∙ ap g (sym s) ∙ is))

  old : (m e : ℕ) → g m ≡ Some e → f m ≡ Some e
  old m e is = sym (same m (other m e is)) ∙ is

  from-next : (m e : ℕ) → g m ≡ Some e → next ≤ m
  from-next m e is = by (cases_lt m next)
    where
      by : (m < next) ⊎ (next ≤ m) → next ≤ m
      by (inl under) =
          absurd (none-some e
          (sym (nx.passed m (subst (λ x. x ≤ m) (sym r.first) (k.least m e (old m e is))) under)
          ∙ is))
      by (inr up) = up

  still : (e m : ℕ) → has_deadline d2.early (e, m) ≡ true → g m ≡ Some e
  still e = each-number n (λ m. has_deadline d2.early (e, m) ≡ true → g m ≡ Some e)
      (λ h. let there = sym (time-here d.early d2.early c n false r.early e) ∙ h in
      absurd (gone (eqb c e) (has_deadline d.early (e, n)) refl refl there))
      (λ m ne h. same m ne
      ∙ k.early e m (sym (time-others d.early d2.early c n false r.early e m ne) ∙ h))
    where
      gone : (x y : Bool) → eqb c e ≡ x → has_deadline d.early (e, n) ≡ y
          → cond x false y ≡ true → ⊥
      gone true y is has h = absurd (cc h)
      gone false false is has h = absurd (cc h)
      gone false true is has h =
          both_ways (eqb c e) is
          (same-number c e (same-some c e (sym was ∙ k.early e n has)))

  none-left : g next ≡ None → t2.left_open ≡ 0
  none-left h = by (cases_eq t2.left_open 0) (cases_eq n d2.first)
    where
      every : next ≡ t2.requests → (m : ℕ) → m ≤ t2.requests → g m ≡ None
      every is m up = at (g m) refl
        where
          at : (o : Option ℕ) → g m ≡ o → o ≡ None
          at None e = refl
          at (Some x) e =
              let above = from-next m x e in
              let same-one : m ≡ next = omega (arith, above, up, is) in
              absurd (none-some x (sym h ∙ ap g (sym same-one) ∙ e))

      by : (t2.left_open ≡ 0) ⊎ (t2.left_open ≡ 0 → ⊥) → (n ≡ d2.first) ⊎ (n ≡ d2.first → ⊥)
          → t2.left_open ≡ 0
      by (inl none) x = none
      by (inr some) (inl first) =
          let all = count-none g t2.requests (every (nx.ends first some h)) in
          let is = counted in omega (arith, all, is)
        where
          counted : t2.left_open ≡ how_many g t2.requests
          counted =
              let less = count-ended f g t.requests n c low was over same in
              let before = k.waiting in
              let now = ap (how_many g) requests in omega (arith, less, before, now, left)
      by (inr some) (inr ne) =
          let stays = nx.stays ne in
          let none = k.found
          (ap f (sym r.first) ∙ sym (same d2.first (λ s. ne (sym s))) ∙ ap g (sym stays) ∙ h) in
          omega (arith, none, left)

  pub timed-ended : AreTimed g (record d2 { first = next }) t2
  timed-ended = record {
    early = still;
    least = from-next;
    found = none-left;
    rise = λ m q b e low before after late.
        k.rise m q b e low (old m b before) (old q e after)
        (sym (time-others d.early d2.early c n false r.early e q (other q e after)) ∙ late);
    latest = λ m e is. subst (λ x. e ≤ x) (sym r.latest) (k.latest m e (old m e is));
    waiting =
        let less = count-ended f g t.requests n c low was over same in
        let before = k.waiting in
        let now = ap (how_many g) requests in omega (arith, less, before, now, left);
  }

-- ---- one comes

module _ (f g : ℕ → Option ℕ) (d d2 : Deadlines) (t t2 : Tally) (n c : ℕ)
    (k : AreTimed f d t) (fresh : f n ≡ None) (is : g n ≡ Some c)
    (same : (m : ℕ) → m ≢ n → g m ≡ f m) (newest : n ≡ t.requests + 1)
    (made : (m e : ℕ) → f m ≡ Some e → m ≤ t.requests)
    (requests : t2.requests ≡ t.requests + 1) (left : t2.left_open ≡ t.left_open + 1) where
  not-newest : (m e : ℕ) → f m ≡ Some e → m ≢ n
  not-newest m e o = λ s. let low = made m e o in absurd (omega (arith, low, s, newest))

  new-one : (e : ℕ) → g n ≡ Some e → c ≡ e
  new-one e o = same-some c e (sym is ∙ o)

  old-one : (m e : ℕ) → m ≢ n → g m ≡ Some e → f m ≡ Some e
  old-one m e ne o = sym (same m ne) ∙ o

  -- none has a greater number
  under : (m e : ℕ) → g m ≡ Some e → m ≤ n
  under m e o = by (cases_eq m n)
    where
      by : (m ≡ n) ⊎ (m ≡ n → ⊥) → m ≤ n
      by (inl s) = omega (arith, s)
      by (inr ne) = let low = made m e (old-one m e ne o) in omega (arith, low, newest)

  counted-more : t2.left_open ≡ how_many g t2.requests
  counted-more =
      let last : n ≡ suc t.requests = omega (arith, newest) in
      let more = count-opened f g t.requests c (ap g (sym last) ∙ is)
      (λ m low. same m (λ s. absurd (omega (arith, low, s, newest)))) in
      let before = k.waiting in
      let now = ap (how_many g) (requests ∙ sym newest ∙ last) in
      omega (arith, more, before, now, left)

  -- the only one
  pub timed-alone : t.left_open ≡ 0 → d2 ≡ record d { first = n; latest = c } → AreTimed g d2 t2
  timed-alone none at = subst (λ x. AreTimed g x t2) (sym at) (record {
    early = λ e m h. absurd (none-some e (sym (nothing m) ∙ k.early e m h));
    least = λ m e o. let s = only m e o in omega (arith, s);
    found = λ h. absurd (none-some c (sym h ∙ is));
    rise = λ m q b e low before after late.
        let one = only m b before in let other = only q e after in
        absurd (omega (arith, one, other, low));
    latest = λ m e o.
        let s = new-one e (ap g (sym (only m e o)) ∙ o) in omega (arith, s);
    waiting = counted-more;
  })
    where
      nothing : (m : ℕ) → f m ≡ None
      nothing = none-waits f d t k made none

      only : (m e : ℕ) → g m ≡ Some e → m ≡ n
      only m e o = by (cases_eq m n)
        where
          by : (m ≡ n) ⊎ (m ≡ n → ⊥) → m ≡ n
          by (inl s) = s
          by (inr ne) = absurd (none-some e (sym (nothing m) ∙ old-one m e ne o))

  module _ (more : t.left_open ≢ 0) where
    first-under : d.first ≤ t.requests
    first-under = by (f d.first) refl
      where
        by : (o : Option ℕ) → f d.first ≡ o → d.first ≤ t.requests
        by None e = absurd (more (k.found e))
        by (Some x) e = made d.first x e

    first-stays : g d.first ≡ f d.first
    first-stays =
        same d.first (λ s. let low = first-under in absurd (omega (arith, low, s, newest)))

    from-first : (m e : ℕ) → g m ≡ Some e → d.first ≤ m
    from-first m e o = by (cases_eq m n)
      where
        by : (m ≡ n) ⊎ (m ≡ n → ⊥) → d.first ≤ m
        by (inl s) = let low = first-under in omega (arith, low, s, newest)
        by (inr ne) = k.least m e (old-one m e ne o)

    -- the last of all
    pub timed-last : d.latest ≤ c → d2 ≡ record d { latest = c } → AreTimed g d2 t2
    timed-last late at = subst (λ x. AreTimed g x t2) (sym at) (record {
      early = λ e m h.
          let o = k.early e m h in same m (not-newest m e o) ∙ o;
      least = from-first;
      found = λ h. absurd (more (k.found (sym first-stays ∙ h)));
      rise = λ m q b e low before after has.
          let up = under q e after in
          let ne : m ≢ n = (λ s. absurd (omega (arith, low, up, s))) in
          rises m q b e low ne before after has (cases_eq q n);
      latest = λ m e o. most m e o (cases_eq m n);
      waiting = counted-more;
    })
      where
        most : (m e : ℕ) → g m ≡ Some e → (m ≡ n) ⊎ (m ≡ n → ⊥) → e ≤ c
        most m e o (inl s) = let one = new-one e (ap g (sym s) ∙ o) in omega (arith, one)
        most m e o (inr ne) =
            let low = k.latest m e (old-one m e ne o) in omega (arith, low, late)

        rises : (m q b e : ℕ) → m < q → m ≢ n → g m ≡ Some b → g q ≡ Some e
            → has_deadline d.early (e, q) ≡ false → (q ≡ n) ⊎ (q ≡ n → ⊥) → b ≤ e
        rises m q b e low ne before after has (inl s) =
            let one = new-one e (ap g (sym s) ∙ after) in
            let top = k.latest m b (old-one m b ne before) in omega (arith, one, top, late)
        rises m q b e low ne before after has (inr other) =
            k.rise m q b e low (old-one m b ne before) (old-one q e other after) has

    -- one that times out before an older one
    pub timed-early : (d2.first ≡ d.first) × (d2.latest ≡ d.latest)
        × Retimed d.early d2.early c n true → c < d.latest → AreTimed g d2 t2
    timed-early add soon = record {
      early = has-new;
      least = λ m e o. subst (λ x. x ≤ m) (sym add.0) (from-first m e o);
      found = λ h. absurd (more (k.found (sym first-stays ∙ ap g (sym add.0) ∙ h)));
      rise = λ m q b e low before after has.
          let up = under q e after in
          let ne : m ≢ n = (λ s. absurd (omega (arith, low, up, s))) in
          rises m q b e low ne before after has (cases_eq q n);
      latest = λ m e o. subst (λ x. e ≤ x) (sym add.1) (most m e o (cases_eq m n));
      waiting = counted-more;
    }
      where
        has-new : (e m : ℕ) → has_deadline d2.early (e, m) ≡ true → g m ≡ Some e
        has-new e = each-number n (λ m. has_deadline d2.early (e, m) ≡ true → g m ≡ Some e)
            (λ h. is ∙ ap Some (own (eqb c e) (has_deadline d.early (e, n)) refl refl
            (sym (time-here d.early d2.early c n true add.2 e) ∙ h)))
            (λ m ne h. same m ne
            ∙ k.early e m (sym (time-others d.early d2.early c n true add.2 e m ne) ∙ h))
          where
            own : (x y : Bool) → eqb c e ≡ x → has_deadline d.early (e, n) ≡ y
                → cond x true y ≡ true → c ≡ e
            own true y s has h = eqb-true c e s
            own false false s has h = absurd (cc h)
            own false true s has h = absurd (none-some e (sym fresh ∙ k.early e n has))

        most : (m e : ℕ) → g m ≡ Some e → (m ≡ n) ⊎ (m ≡ n → ⊥) → e ≤ d.latest
        most m e o (inl s) = let one = new-one e (ap g (sym s) ∙ o) in omega (arith, one, soon)
        most m e o (inr ne) = k.latest m e (old-one m e ne o)

        rises : (m q b e : ℕ) → m < q → m ≢ n → g m ≡ Some b → g q ≡ Some e
            → has_deadline d2.early (e, q) ≡ false → (q ≡ n) ⊎ (q ≡ n → ⊥) → b ≤ e
        rises m q b e low ne before after has (inl s) =
            let one = new-one e (ap g (sym s) ∙ after) in
            let there = ap (λ x. has_deadline d2.early (e, x)) (sym s) in
            absurd (both_ways (has_deadline d2.early (e, q)) has
            (sym there ∙ time-here d.early d2.early c n true add.2 e
            ∙ ap (λ x. cond x true (has_deadline d.early (e, n))) (same-number c e one)))
        rises m q b e low ne before after has (inr other) =
            k.rise m q b e low (old-one m b ne before) (old-one q e other after)
            (sym (time-others d.early d2.early c n true add.2 e q other) ∙ has)

pub timed-opened : (f g : ℕ → Option ℕ) (d d2 : Deadlines) (t t2 : Tally) (n c : ℕ) (alone : Bool)
    → AreTimed f d t → f n ≡ None → g n ≡ Some c → ((m : ℕ) → m ≢ n → g m ≡ f m)
    → n ≡ t.requests + 1 → ((m e : ℕ) → f m ≡ Some e → m ≤ t.requests)
    → t2.requests ≡ t.requests + 1 → t2.left_open ≡ t.left_open + 1
    → alone ≡ eqb t.left_open 0 → Adds n c alone d d2 → AreTimed g d2 t2
timed-opened f g d d2 t t2 n c true k fresh is same newest made requests left at a =
    timed-alone f g d d2 t t2 n c k fresh is same newest made requests left
    (eqb-true t.left_open 0 (sym at)) (a.only refl)
timed-opened f g d d2 t t2 n c false k fresh is same newest made requests left at a =
    by (cases_lt c d.latest)
  where
    more : t.left_open ≢ 0
    more = λ s. absurd (both_ways (eqb t.left_open 0) (sym at) (same-number t.left_open 0 s))

    by : (c < d.latest) ⊎ (d.latest ≤ c) → AreTimed g d2 t2
    by (inl soon) =
        timed-early f g d d2 t t2 n c k fresh is same newest made requests left more
        (a.early refl soon) soon
    by (inr late) =
        timed-last f g d d2 t t2 n c k fresh is same newest made requests left more late
        (a.last refl late)
