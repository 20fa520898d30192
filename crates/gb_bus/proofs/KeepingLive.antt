-- How the index of live connections is kept where one is added, or removed.
use Rattle.std.proofs.Common.{◌≡◌, ◌≢◌, ℕ, Bool, true, false, cond, ◌⊎◌, inl, inr, ⊎_elim}
use Rattle.std.proofs.Common.{Option, Some, None, refl, sym, ap, ◌∙◌, subst, is_some, IsSome, List}
use Rattle.std.proofs.lemmas.Bool.{cases_eq, true≢false}
use Rattle.std.specs.Ordering.{eq_by_cmp}
use Rattle.std.specs.Prelude.{nat_eq}
use Rattle.indexmap.specs.IndexMap.{IsUnique, get}
use Rattle.gb_base.specs.declared.end.End.{End}
use Rattle.gb_base.specs.declared.end.End.TheVariants as end
use Rattle.gb_bus.proofs.Entries.{other-number, same-number, same-some, some-none}
use Rattle.gb_bus.proofs.Keeping.{ends-apart, marked-others}
use Rattle.gb_bus.specs.Connection.{Connection}
use Rattle.gb_bus.specs.Ends.{is_far}
use Rattle.gb_bus.specs.Index.{Ends, GetsNumber, HasEnd, IsEndOf, IsIdle, IsIndexed}
use Rattle.gb_bus.specs.Index.{IsMarked, KeepsNumbers, MapsAgree, Live, LosesNumber}
use Rattle.gb_bus.specs.Index.{Remarks, number_at}
use Rattle.gb_bus.specs.Parts.{idled}
use Rattle.gb_bus.specs.Seen.{seen}
use Rattle.gb_bus.specs.declared.connection.Connection as code
use Rattle.gb_switch.proofs.Places.{by-false, cmp-other, cmp-own, is-end}
use Rattle.gb_switch.specs.Places.{end_cmp}
use Rattle.gb_switch.specs.Queue.{has_items}
use Rattle.gb_switch.specs.WaitingEnds.{is_in}

-- ---- a connection is removed

-- what a map of numbers has after a change at one
abbrev pub Changed : Live → Live → ℕ → Option code.Connection → Type 0
Changed m n k w = (j : ℕ) → get nat_eq n j ≡ cond (nat_eq k j) w (get nat_eq m j)

pub changed-others : (m n : Live) (k j : ℕ) (w : Option code.Connection) → Changed m n k w → j ≢ k
    → get nat_eq n j ≡ get nat_eq m j
changed-others m n k j w u ne =
    u j ∙ ap (λ b. cond b w (get nat_eq m j)) (other-number k j (λ e. ne (sym e)))

pub changed-here : (m n : Live) (k : ℕ) (w : Option code.Connection) → Changed m n k w
    → get nat_eq n k ≡ w
changed-here m n k w u = u k ∙ ap (λ b. cond b w (get nat_eq m k)) (same-number k k refl)

-- what numbers by end are after a change at one
abbrev pub Updated : Ends → Ends → End → Option ℕ → Type 0
Updated m n p w =
    (q : End) → number_at n q ≡ cond (eq_by_cmp end_cmp p q) w (number_at m q)

pub index-others : (m n : Ends) (p q : End) (w : Option ℕ) → Updated m n p w → q ≢ p
    → number_at n q ≡ number_at m q
index-others m n p q w u ne =
    u q ∙ ap (λ b. cond b w (number_at m q)) (cmp-other p q (λ e. ne (sym e)))

pub index-here : (m n : Ends) (p : End) (w : Option ℕ) → Updated m n p w
    → number_at n p ≡ w
index-here m n p w u = u p ∙ ap (λ b. cond b w (number_at m p)) (cmp-own p)

-- the ends of a connection aren't marked
pub record IsUnmarked (marked : List End) (x : code.Connection) : Type 0 where
  pub near : is_in marked (end.Ap x.ap) ≡ false
  pub far : is_in marked x.peer ≡ false

-- so it is where nothing waits there any more
pub unmarked : (old new : List End) (x y : code.Connection) → seen 0 y ≡ idled (seen 0 x)
    → Remarks old new x y → IsUnmarked new x
unmarked old new x y is m = record {
  near =
      ap (λ a. is_in new (end.Ap a)) (sym m.near) ∙ m.own.near
      ∙ ap (λ (c : Connection). has_items c.to_ap) is;
  far =
      ap (is_in new) (sym m.far) ∙ m.own.far ∙ ap (λ (c : Connection). has_items c.to_far) is;
}

pub kept-removed : (live live' : Live) (e f : Ends) (old new : List End) (n : ℕ)
    (x y : code.Connection) → get nat_eq live n ≡ Some x → Changed live live' n None
    → IsUnique nat_eq live' → LosesNumber e f (end.Ap x.ap) x.peer
    → seen 0 y ≡ idled (seen 0 x) → Remarks old new x y → MapsAgree live e old
    → MapsAgree live' f new
kept-removed live live' e f old new n x y found gone s loses lost m k = record {
  unique = s;
  indexed = λ j z there.
      let ne = other j z there in
      let was = before j z ne there in
      let i = k.indexed j z was in
      record {
        near = still j z ne was (end.Ap z.ap) (inl refl) ∙ i.near;
        far = still j z ne was z.peer (inr refl) ∙ i.far;
        beyond = i.beyond;
      };
  numbered = λ a j has. has-still a j has (is-end a (end.Ap x.ap)) (is-end a x.peer);
  marked = λ j z there.
      let ne = other j z there in
      let was = before j z ne there in
      marked-others live e old new j n z x k.indexed was found ne m.others (k.marked j z was);
  owned = λ a is. whose a is (is-end a (end.Ap x.ap)) (is-end a x.peer);
}
  where
    other : (j : ℕ) (z : code.Connection) → get nat_eq live' j ≡ Some z → j ≢ n
    other j z there same =
        some-none z (sym there ∙ ap (λ m. get nat_eq live' m) same
        ∙ changed-here live live' n None gone)

    before : (j : ℕ) (z : code.Connection) → j ≢ n → get nat_eq live' j ≡ Some z
        → get nat_eq live j ≡ Some z
    before j z ne there = sym (changed-others live live' n j None gone ne) ∙ there

    still : (j : ℕ) (z : code.Connection) → j ≢ n → get nat_eq live j ≡ Some z → (a : End)
        → IsEndOf a z → number_at f a ≡ number_at e a
    still j z ne was a own =
        loses.others a
        (ends-apart live e j n z x a (end.Ap x.ap) k.indexed was found ne own (inl refl))
        (ends-apart live e j n z x a x.peer k.indexed was found ne own (inr refl))

    gone-marks : IsUnmarked new x
    gone-marks = unmarked old new x y lost m

    whose : (a : End) → is_in new a ≡ true → (a ≡ end.Ap x.ap) ⊎ (a ≢ end.Ap x.ap)
        → (a ≡ x.peer) ⊎ (a ≢ x.peer) → IsSome (number_at f a)
    whose a is (inl near) far =
        absurd (true≢false (sym is ∙ ap (is_in new) near ∙ gone-marks.near))
    whose a is (inr near) (inl far) =
        absurd (true≢false (sym is ∙ ap (is_in new) far ∙ gone-marks.far))
    whose a is (inr near) (inr far) =
        subst IsSome (sym (loses.others a near far))
        (k.owned a (sym (m.others a (λ own. ⊎_elim near far own)) ∙ is))

    -- an end that has a number still isn't one of the connection that is gone
    elsewhere : (a : End) (j : ℕ) → a ≢ end.Ap x.ap → a ≢ x.peer → HasEnd live j a → j ≢ n
    elsewhere a j near far h same =
        ⊎_elim near far
        (subst (IsEndOf a)
        (same-some h.connection x (sym h.there ∙ ap (λ m. get nat_eq live m) same ∙ found)) h.own)

    has-still : (a : End) (j : ℕ) → number_at f a ≡ Some j
        → (a ≡ end.Ap x.ap) ⊎ (a ≢ end.Ap x.ap) → (a ≡ x.peer) ⊎ (a ≢ x.peer) → HasEnd live' j a
    has-still a j has (inl near) far =
        absurd (some-none j (sym has ∙ ap (number_at f) near ∙ loses.at_near))
    has-still a j has (inr near) (inl far) =
        absurd (some-none j (sym has ∙ ap (number_at f) far ∙ loses.at_far))
    has-still a j has (inr near) (inr far) =
        let h = k.numbered a j (sym (loses.others a near far) ∙ has) in
        record {
          connection = h.connection;
          there = changed-others live live' n j None gone (elsewhere a j near far h) ∙ h.there;
          own = h.own;
        }

-- ---- ends get a number, or lose it

-- the numbers that ends have stay, and no other end has one
pub kept-numbers : (live : Live) (e f : Ends) (old : List End) → KeepsNumbers e f
    → MapsAgree live e old → MapsAgree live f old
kept-numbers live e f old keeps k = record {
  unique = k.unique;
  indexed = λ j x there.
      let i = k.indexed j x there in
      record {
        near = keeps (end.Ap x.ap) ∙ i.near;
        far = keeps x.peer ∙ i.far;
        beyond = i.beyond;
      };
  numbered = λ a j has. k.numbered a j (sym (keeps a) ∙ has);
  marked = k.marked;
  owned = λ a is. subst IsSome (sym (keeps a)) (k.owned a is);
}

-- nothing is there where a map has nothing
pub none-there : {A : Type 0} (o : Option A) (b : Bool) → b ≡ is_some o → b ≡ false → o ≡ None
none-there None b e f = refl
none-there (Some a) b e f = absurd (true≢false (sym e ∙ f))

-- two ends lose theirs
pub loses : (m n o : Ends) (near far p r : End) → p ≡ near → r ≡ far
    → Updated m n p None → Updated n o r None → LosesNumber m o near far
loses m n o near far p r is-p is-r u t = record {
  at_near = ap (number_at o) (sym is-p) ∙ first-lost;
  at_far = ap (number_at o) (sym is-r) ∙ index-here n o r None t;
  others = λ at ne_near ne_far.
      index-others n o r at None t (λ e. ne_far (e ∙ is-r))
      ∙ index-others m n p at None u (λ e. ne_near (e ∙ is-p));
}
  where
    by : (b : Bool) → cond b (let none : Option ℕ = None in none) None ≡ None
    by true = refl
    by false = refl

    first-lost : number_at o p ≡ None
    first-lost =
        t p
        ∙ ap (λ x. cond (eq_by_cmp end_cmp r p) None x) (index-here m n p None u)
        ∙ by (eq_by_cmp end_cmp r p)

-- two ends that have no number get one
pub gets : (m n o : Ends) (near far p r : End) (v : ℕ) → p ≡ near → r ≡ far
    → number_at m near ≡ None → number_at m far ≡ None
    → Updated m n p (Some v) → Updated n o r (Some v) → GetsNumber m o near far v
gets m n o near far p r v is-p is-r free-near free-far u t = record {
  free_near = free-near;
  free_far = free-far;
  at_near = ap (number_at o) (sym is-p) ∙ first-got;
  at_far = ap (number_at o) (sym is-r) ∙ index-here n o r (Some v) t;
  others = λ at ne_near ne_far.
      index-others n o r at (Some v) t (λ e. ne_far (e ∙ is-r))
      ∙ index-others m n p at (Some v) u (λ e. ne_near (e ∙ is-p));
}
  where
    by : (b : Bool) → cond b (Some v) (Some v) ≡ Some v
    by true = refl
    by false = refl

    first-got : number_at o p ≡ Some v
    first-got =
        t p
        ∙ ap (λ x. cond (eq_by_cmp end_cmp r p) (Some v) x) (index-here m n p (Some v) u)
        ∙ by (eq_by_cmp end_cmp r p)

-- what ends got and lost again is as it was
pub gets-loses : (m n o : Ends) (near far : End) (v : ℕ) → GetsNumber m n near far v
    → LosesNumber n o near far → KeepsNumbers m o
gets-loses m n o near far v got lost at = by (is-end at near) (is-end at far)
  where
    by : (at ≡ near) ⊎ (at ≢ near) → (at ≡ far) ⊎ (at ≢ far) → number_at o at ≡ number_at m at
    by (inl e) other =
        ap (number_at o) e ∙ lost.at_near ∙ sym (ap (number_at m) e ∙ got.free_near)
    by (inr ne) (inl e) =
        ap (number_at o) e ∙ lost.at_far ∙ sym (ap (number_at m) e ∙ got.free_far)
    by (inr ne) (inr differs) = lost.others at ne differs ∙ got.others at ne differs

-- an end that has no number isn't marked
pub not-marked : (live : Live) (e : Ends) (old : List End) (a : End) → MapsAgree live e old
    → number_at e a ≡ None → is_in old a ≡ false
not-marked live e old a k none =
    by-false (is_in old a) (λ is. never (number_at e a) none (k.owned a is))
  where
    never : (o : Option ℕ) → o ≡ None → IsSome o → ⊥
    never None e is = absurd (cc is)
    never (Some j) e is = absurd (some-none j e)

-- a connection is there whose ends have its number, and where nothing waits
pub kept-added : (live live' : Live) (e f : Ends) (old : List End) (n : ℕ) (x : code.Connection)
    → get nat_eq live n ≡ None → Changed live live' n (Some x) → IsUnique nat_eq live'
    → GetsNumber e f (end.Ap x.ap) x.peer n → is_far x.peer ≡ true → IsIdle x
    → MapsAgree live e old → MapsAgree live' f old
kept-added live live' e f old n x free more s got beyond idle k = record {
  unique = s;
  indexed = λ j z there. by j z there (cases_eq j n);
  numbered = λ a j has. has-now a j has (is-end a (end.Ap x.ap)) (is-end a x.peer);
  marked = λ j z there. mark j z there (cases_eq j n);
  owned = λ a is. still a (number_at e a) refl (k.owned a is);
}
  where
    stays : (j : ℕ) (z : code.Connection) → get nat_eq live j ≡ Some z
        → get nat_eq live' j ≡ Some z
    stays j z there =
        changed-others live live' n j (Some x) more
        (λ same. some-none z (sym there ∙ ap (λ m. get nat_eq live m) same ∙ free))
        ∙ there

    is-new : (j : ℕ) (z : code.Connection) → get nat_eq live' j ≡ Some z → j ≡ n → x ≡ z
    is-new j z there same =
        same-some x z (sym (changed-here live live' n (Some x) more)
        ∙ ap (λ m. get nat_eq live' m) (sym same) ∙ there)

    own : IsMarked old x
    own = record {
      near = not-marked live e old (end.Ap x.ap) k got.free_near ∙ ap has_items (sym idle.0);
      far = not-marked live e old x.peer k got.free_far ∙ ap has_items (sym idle.1);
      idle = λ loose. idle;
    }

    mark : (j : ℕ) (z : code.Connection) → get nat_eq live' j ≡ Some z → (j ≡ n) ⊎ (j ≢ n)
        → IsMarked old z
    mark j z there (inl same) = subst (IsMarked old) (is-new j z there same) own
    mark j z there (inr ne) =
        k.marked j z (sym (changed-others live live' n j (Some x) more ne) ∙ there)

    -- an end that had a number has it
    keeps : (j : ℕ) (a : End) → number_at e a ≡ Some j → number_at f a ≡ Some j
    keeps j a has =
        got.others a
        (λ same. some-none j (sym has ∙ ap (number_at e) same ∙ got.free_near))
        (λ same. some-none j (sym has ∙ ap (number_at e) same ∙ got.free_far))
        ∙ has

    still : (a : End) (o : Option ℕ) → number_at e a ≡ o → IsSome o → IsSome (number_at f a)
    still a None has is = absurd (cc is)
    still a (Some j) has is = subst IsSome (sym (keeps j a has)) refl

    by : (j : ℕ) (z : code.Connection) → get nat_eq live' j ≡ Some z → (j ≡ n) ⊎ (j ≢ n)
        → IsIndexed f j z
    by j z there (inl same) =
        subst (λ c. IsIndexed f j c) (is-new j z there same)
        (subst (λ m. IsIndexed f m x) (sym same)
        (record { near = got.at_near; far = got.at_far; beyond = beyond }))
    by j z there (inr ne) =
        let i = k.indexed j z (sym (changed-others live live' n j (Some x) more ne) ∙ there) in
        record {
          near = keeps j (end.Ap z.ap) i.near;
          far = keeps j z.peer i.far;
          beyond = i.beyond;
        }

    own-now : (a : End) (j : ℕ) → Some n ≡ Some j → IsEndOf a x → HasEnd live' j a
    own-now a j same own =
        subst (λ m. HasEnd live' m a) (same-some n j same)
        (record { connection = x; there = changed-here live live' n (Some x) more; own = own })

    has-now : (a : End) (j : ℕ) → number_at f a ≡ Some j
        → (a ≡ end.Ap x.ap) ⊎ (a ≢ end.Ap x.ap) → (a ≡ x.peer) ⊎ (a ≢ x.peer) → HasEnd live' j a
    has-now a j has (inl near) far =
        own-now a j (sym got.at_near ∙ ap (number_at f) (sym near) ∙ has) (inl near)
    has-now a j has (inr near) (inl far) =
        own-now a j (sym got.at_far ∙ ap (number_at f) (sym far) ∙ has) (inr far)
    has-now a j has (inr near) (inr far) =
        let h = k.numbered a j (sym (got.others a near far) ∙ has) in
        record {
          connection = h.connection;
          there = stays j h.connection h.there;
          own = h.own;
        }
