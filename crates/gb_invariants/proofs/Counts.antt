-- How many items pass a test after a change of the bus.
use Rattle.std.proofs.Common.{Bool, List, Some, ap, arith, cond, false, inl, inr, not, refl, sym}
use Rattle.std.proofs.Common.{true, ℕ, [], ◌++◌, ◌+◌, ◌∙◌, ◌∷◌, ◌≡◌, ◌≤◌}
use Rattle.std.specs.List.{filter, find}
use Rattle.gb_base.specs.declared.end.Side.{Side}
use Rattle.gb_base.specs.declared.end.End.TheVariants as end
use Rattle.gb_base.specs.declared.end.Side.TheVariants as side
use Rattle.gb_machine.specs.Bus.{Ask, Bus, Connection, Item, Raw, connection_of, has_number}
use Rattle.gb_machine.specs.Bus.{next_number, other_side, queue}
use Rattle.gb_machine.specs.Delivery.{popped, replied, without_front}
use Rattle.gb_machine.specs.Members.{IsIn, times, total}
use Rattle.gb_machine.specs.Sending.{Draft, drawn, put, queued, sent}
use Rattle.gb_machine.specs.Wiring.{attached, detached, injected, new_connection, next_connection}
use Rattle.gb_machine.specs.Wiring.{with_connection}
use Rattle.gb_machine.specs.{Labels.with_last_label, Lists.at_first, Lists.first}
use Rattle.gb_invariants.proofs.{Awaiting.not-both, Awaiting.same-some, Labels.asked_on}
use Rattle.gb_invariants.specs.Facts.{Loose, times_in, times_on}

-- ---- lists

-- one item counts where it passes
abbrev pub one : {A : Type 0} → (A → Bool) → A → ℕ
one test x = times test (x ∷ [])

pub times-cons : {A : Type 0} (test : A → Bool) (x : A) (xs : List A)
    → times test (x ∷ xs) ≡ one test x + times test xs
times-cons test x xs = by (test x)
  where
    by : (b : Bool) → cond b (times test xs + 1) (times test xs) ≡ cond b (0 + 1) 0 + times test xs
    by true = omega arith
    by false = omega arith

pub times-append : {A : Type 0} (test : A → Bool) (xs ys : List A)
    → times test (xs ++ ys) ≡ times test xs + times test ys
times-append test [] ys = omega arith
times-append test (x ∷ xs) ys =
    omega (arith, times-cons test x (xs ++ ys), times-cons test x xs, times-append test xs ys)

pub times-filter : {A : Type 0} (test keep : A → Bool) (xs : List A)
    → times test (filter keep xs) ≤ times test xs
times-filter test keep [] = omega arith
times-filter test keep (x ∷ xs) = by (keep x) (times-filter test keep xs)
  where
    by : (b : Bool) → times test (filter keep xs) ≤ times test xs
        → times test (cond b (x ∷ filter keep xs) (filter keep xs)) ≤ times test (x ∷ xs)
    by true h = omega (arith, h, times-cons test x (filter keep xs), times-cons test x xs)
    by false h = omega (arith, h, times-cons test x xs)

-- nothing is counted where no member passes
pub times-none : {A : Type 0} (test : A → Bool) (xs : List A)
    → ((x : A) → IsIn x xs → test x ≡ false) → times test xs ≡ 0
times-none test [] h = refl
times-none test (x ∷ xs) h =
    ap (λ b. cond b (times test xs + 1) (times test xs)) (h x (inl refl)) ∙ times-none test xs
    (λ y i. h y (inr i))

-- a member that passes is counted
pub times-some : {A : Type 0} (test : A → Bool) (xs : List A) (x : A) → IsIn x xs → test x ≡ true
    → 1 ≤ times test xs
times-some test [] x i h = absurd i
times-some test (y ∷ ys) x (inl e) h =
    let t : one test y ≡ 1 = ap (λ b. cond b (0 + 1) 0) (ap test (sym e) ∙ h) ∙ omega arith in
    omega (arith, times-cons test y ys, t)
times-some test (y ∷ ys) x (inr i) h = omega (arith, times-cons test y ys, times-some test ys x i h)

-- as many pass a test or more, where each that passes another does
pub times-weaker : {A : Type 0} (test other : A → Bool) (xs : List A)
    → ((x : A) → test x ≡ true → other x ≡ true) → times test xs ≤ times other xs
times-weaker test other [] h = omega arith
times-weaker test other (x ∷ xs) h = by (test x) refl (other x) refl (times-weaker test other xs h)
  where
    by : (s : Bool) → test x ≡ s → (t : Bool) → other x ≡ t → times test xs ≤ times other xs
        → cond s (times test xs + 1) (times test xs) ≤ cond t (times other xs + 1) (times other xs)
    by true e true f r = omega (arith, r)
    by true e false f r = absurd (not-both (other x) (h x e) f)
    by false e true f r = omega (arith, r)
    by false e false f r = r

pub total-weaker : {A : Type 0} (number other : A → ℕ) (xs : List A)
    → ((x : A) → number x ≤ other x) → total number xs ≤ total other xs
total-weaker number other [] h = omega arith
total-weaker number other (x ∷ xs) h = omega (arith, h x, total-weaker number other xs h)

pub total-none : {A : Type 0} (number : A → ℕ) (xs : List A) → ((x : A) → IsIn x xs → number x ≡ 0)
    → total number xs ≡ 0
total-none number [] h = refl
total-none number (x ∷ xs) h = omega (
  arith,
  h x (inl refl),
  total-none number xs
      (λ y i. h y (inr i)),
)

-- a member's number is in the sum
pub total-some : {A : Type 0} (number : A → ℕ) (xs : List A) (x : A) → IsIn x xs
    → number x ≤ total number xs
total-some number [] x i = absurd i
total-some number (y ∷ ys) x (inl e) = omega (arith, ap number e)
total-some number (y ∷ ys) x (inr i) = omega (arith, total-some number ys x i)

pub total-append : {A : Type 0} (number : A → ℕ) (xs : List A) (y : A)
    → total number (xs ++ y ∷ []) ≡ total number xs + number y
total-append number [] y = omega arith
total-append number (x ∷ xs) y = omega (arith, total-append number xs y)

pub total-filter : {A : Type 0} (number : A → ℕ) (keep : A → Bool) (xs : List A)
    → total number (filter keep xs) ≤ total number xs
total-filter number keep [] = omega arith
total-filter number keep (x ∷ xs) = by (keep x) (total-filter number keep xs)
  where
    by : (b : Bool) → total number (filter keep xs) ≤ total number xs
        → total number (cond b (x ∷ filter keep xs) (filter keep xs)) ≤ number x + total number xs
    by true h = omega (arith, h)
    by false h = omega (arith, h)

-- where the first that passes is changed, and grows by so much at most
pub total-grows : {A : Type 0} (number : A → ℕ) (test : A → Bool) (change : A
    → A) (more : ℕ) (xs : List A) → ((x : A) → number (change x) ≤ number x + more)
    → total number (at_first test change xs) ≤ total number xs + more
total-grows number test change more [] h = omega arith
total-grows number test change more (x ∷ xs) h = by (test x)
    (total-grows number test change more xs h)
  where
    by : (b : Bool) → total number (at_first test change xs) ≤ total number xs + more
        → total number (cond b (change x ∷ xs) (x ∷ at_first test change xs)) ≤ number x + total
        number xs + more
    by true k = omega (arith, h x)
    by false k = omega (arith, k)

-- where it falls by so much
pub total-falls : {A : Type 0} (number : A → ℕ) (test : A → Bool) (change : A
    → A) (fewer : ℕ) (xs : List A) (x : A)
    → find test xs ≡ Some x → number (change x) + fewer ≡ number x
    → total number (at_first test change xs) + fewer ≡ total number xs
total-falls number test change fewer [] x h e = absurd cc
total-falls number test change fewer (y ∷ ys) x h e = by (test y) refl h
    (total-falls number test change fewer ys x)
  where
    by : (b : Bool) → test y ≡ b → cond b (Some y) (find test ys) ≡ Some x
        → (find test ys ≡ Some x → number (change x) + fewer ≡ number x
        → total number (at_first test change ys) + fewer ≡ total number ys)
        → total number (cond b (change y ∷ ys) (y ∷ at_first test change ys)) + fewer ≡ number y
        + total number ys
    by true f h rec =
        let is : y ≡ x = same-some y x h in
        let same : number (change y) + fewer ≡ number y = ap (λ z. number (change z) + fewer) is ∙ e
        ∙ sym (ap number is) in
        omega (arith, same)
    by false f h rec = omega (arith, rec h e)

-- ---- a connection

pub queued-counts : (test : Item → Bool) (at : Side) (item : Item) (c : Connection)
    → times_on test (queued at item c) ≡ times_on test c + one test item
queued-counts test side.Ap item c = omega (arith, times-append test c.to_ap (item ∷ []))
queued-counts test side.Far item c = omega (arith, times-append test c.to_far (item ∷ []))

pub put-counts : (test : Item → Bool) (at : Side) (item : Item) (c : Connection)
    → times_on test (put at item c) ≤ times_on test c + one test item
put-counts test at item c = by c.wired
  where
    by : (t : Bool) → times_on test (cond t (queued at item c) c) ≤ times_on test c + one test item
    by true = omega (arith, queued-counts test at item c)
    by false = omega arith

drawn-counts : (test : Item → Bool) (d : Draft) (label : ℕ) (c : Connection)
    → times_on test (drawn d label c) ≡ times_on test c
drawn-counts test d label c = by d.side d.oneway
  where
    by : (s : Side) (t : Bool)
        → times_on test (cond t c (with_last_label s label c)) ≡ times_on test c
    by side.Ap false = refl
    by side.Far false = refl
    by s true = refl

-- the front item is what is taken
pub front-counts : (test : Item → Bool) (at : Side) (item : Item) (c : Connection)
    → first (queue at c) ≡ Some item
    → times_on test (without_front at c) + one test item ≡ times_on test c
front-counts test side.Ap item c h = by c.to_ap h
  where
    by : (is : List Item) → first is ≡ Some item
        → times test (Rattle.gb_machine.specs.Lists.behind_first is) + times test c.to_far + one
        test item ≡ times test is + times test c.to_far
    by [] h = absurd cc
    by (i ∷ is) h = omega (arith, times-cons test i is, ap (one test) (same-some i item h))
front-counts test side.Far item c h = by c.to_far h
  where
    by : (is : List Item) → first is ≡ Some item
        → times test c.to_ap + times test (Rattle.gb_machine.specs.Lists.behind_first is) + one test
        item ≡ times test c.to_ap + times test is
    by [] h = absurd cc
    by (i ∷ is) h = omega (arith, times-cons test i is, ap (one test) (same-some i item h))

-- ---- the bus

-- a request is made
pub sent-counts : (test : Item → Bool) (loose : List Loose) (d : Draft) (label : ℕ) (b : Bus)
    → times_in test loose (sent d label b) ≤ times_in test loose b + one test (Ask (next_number b))
sent-counts test loose d label b =
    omega (
      arith,
      total-grows (times_on test) (has_number d.connection) (asked_on d label b)
          (one test (Ask (next_number b))) b.connections (λ c.
          omega (
            arith,
            put-counts test (other_side d.side) (Ask (next_number b)) (drawn d label c),
            drawn-counts test d label c,
          )),
    )

-- an item is put on a connection
pub replied-counts : (test : Item
    → Bool) (loose : List Loose) (k : ℕ) (at : Side) (item : Item) (b : Bus)
    → times_in test loose (replied k at item b) ≤ times_in test loose b + one test item
replied-counts test loose k at item b =
    omega (
      arith,
      total-grows (times_on test) (has_number k) (put at item) (one test item)
          b.connections (put-counts test at item),
    )

-- the front item of a connection is taken, and is loose
pub popped-counts : (test : Item
    → Bool) (loose : List Loose) (k : ℕ) (at : Side) (item : Item) (c : Connection) (b : Bus)
    → connection_of k b ≡ Some c → first (queue at c) ≡ Some item
    → times_in test loose (popped k at b) + one test item ≡ times_in test loose b
popped-counts test loose k at item c b live front =
    omega (
      arith,
      total-falls (times_on test) (has_number k) (without_front at) (one test item) b.connections c
          live (front-counts test at item c front),
    )

-- where a connection changes and has no more items
pub changed-counts : (test : Item → Bool) (loose : List Loose) (k : ℕ) (change : Connection
    → Connection) (b : Bus) → ((c : Connection) → times_on test (change c) ≤ times_on test c)
    → times_in test loose (with_connection k change b) ≤ times_in test loose b
changed-counts test loose k change b h =
    omega (
      arith,
      total-grows (times_on test) (has_number k) change 0 b.connections
          (λ c. omega (arith, h c)),
    )

-- bytes are injected
pub injected-counts : (test : Item → Bool) (loose : List Loose) (k : ℕ) (bytes : List ℕ) (b : Bus)
    → test (Raw bytes) ≡ false → times_in test loose (injected k bytes b) ≤ times_in test loose b
injected-counts test loose k bytes b h =
    changed-counts test loose k (λ c. queued side.Ap (Raw bytes) (record c { clean = false })) b
    (λ c. omega (
      arith,
      queued-counts test side.Ap (Raw bytes) (record c { clean = false }),
      ap
          (λ t. cond t (0 + 1) 0) h,
    ))

-- a connection is made
pub attached-counts : (test : Item → Bool) (loose : List Loose) (b : Bus) (a i c protocol : ℕ)
    → times_in test loose (attached a i c protocol b) ≡ times_in test loose b
attached-counts test loose b a i c protocol =
    omega (
      arith,
      total-append (times_on test) b.connections
          (new_connection (next_connection b) a (end.Module i c) protocol),
    )

-- a connection is there no more
pub detached-counts : (test : Item → Bool) (loose : List Loose) (b : Bus) (k : ℕ)
    → times_in test loose (detached k b) ≤ times_in test loose b
detached-counts test loose b k =
    omega (arith, total-filter (times_on test) (λ c. not (has_number k c)) b.connections)

-- as many items pass a test or more, where each that passes another does
pub in-weaker : (test other : Item → Bool) (loose : List Loose) (b : Bus)
    → ((item : Item) → test item ≡ true → other item ≡ true)
    → times_in test loose b ≤ times_in other loose b
in-weaker test other loose b h =
    omega (
      arith,
      total-weaker (times_on test) (times_on other) b.connections
          (λ c. omega (
            arith,
            times-weaker test other c.to_ap h,
            times-weaker test other c.to_far
                h,
          )),
      times-weaker (λ (l : Loose). test l.item) (λ (l : Loose). other l.item) loose (λ l. h l.item),
    )
