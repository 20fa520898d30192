-- Requesters that run on, one after the other.
use Rattle.std.proofs.Common.{◌≡◌, ◌≢◌, ℕ, zero, suc, ◌+◌, ◌<◌, ◌≤◌, ⊎_elim, Some, List, []}
use Rattle.std.proofs.Common.{◌∷◌, ◌++◌, length, map, refl, sym, ap, ◌∙◌, arith, append_assoc}
use Rattle.std.proofs.Common.{subst}
use Rattle.std.proofs.lemmas.Bool.{cases_lt}
use Rattle.std.specs.List.{slice_get}
use Rattle.std.specs.Prelude.{slice_set}
use Rattle.gb_base.specs.declared.event.Event.{Event}
use Rattle.gb_desk.proofs.SlotLists.{get_set_other, get_set_same}
use Rattle.gb_desk.specs.declared.view.View.{View}
use Rattle.gb_share.proofs.Places.{longer_length}
use Rattle.gb_share.proofs.BehindFull.{others_marked}
use Rattle.gb_share.proofs.Queues.{by_who}
use Rattle.gb_share.proofs.Teams.{get_low, longer_both, ran_by_none, ran_on, tagged_other}
use Rattle.gb_share.specs.Doing.{Adds, done_by, tagged}
use Rattle.gb_share.specs.Lines.{AreValid}
use Rattle.gb_share.specs.Requesters.{AllValid, AreMarked, AreNumbered, AreSame, AreWhole}
use Rattle.gb_share.specs.Requesters.{HaveRun, IsMarked, IsWhole, Runs, lines_of, ran_by}
use Rattle.gb_share.specs.Requesters.{ran_of}
use Rattle.gb_share.specs.declared.requester.Requester.{Requester}

-- ---- who requesters are

heads : {A : Type 0} (x y : A) (xs ys : List A) → x ∷ xs ≡ y ∷ ys → (x ≡ y) × (xs ≡ ys)
heads x y xs ys is = (cc, cc)

-- a requester as it was
pub same_get : (xs ys : List Requester) → AreSame xs ys → (n : ℕ) (y : Requester)
    → slice_get ys n ≡ Some y
    → (x : Requester) × (slice_get xs n ≡ Some x) × (lines_of y ≡ lines_of x)
same_get xs [] same n y at = absurd cc
same_get [] (z ∷ zs) same n y at = absurd cc
same_get (x ∷ xs) (z ∷ zs) same zero y at =
    let is : z ≡ y = cc in
    let head = heads (lines_of z) (lines_of x) (map lines_of zs) (map lines_of xs) same in
    (x, refl, ap lines_of (sym is) ∙ head.0)
same_get (x ∷ xs) (z ∷ zs) same (suc n) y at =
    let head = heads (lines_of z) (lines_of x) (map lines_of zs) (map lines_of xs) same in
    same_get xs zs head.1 n y at

pub numbered_same : (xs ys : List Requester) → AreSame xs ys → AreNumbered xs → AreNumbered ys
numbered_same xs ys same numbered n y at =
    let was = same_get xs ys same n y at in
    ap (λ p. p.0) was.2 ∙ numbered n was.0 was.1

pub valid_same : (xs ys : List Requester) → AreSame xs ys → AllValid xs → AllValid ys
valid_same xs ys same valid n y at =
    let was = same_get xs ys same n y at in
    subst AreValid (sym (ap (λ p. p.1) was.2)) (valid n was.0 was.1)

-- one requester in front of others
pub valid_first : (x : Requester) (xs : List Requester) → AreValid x.lines → AllValid xs
    → AllValid (x ∷ xs)
valid_first x xs one others zero y at =
    let same : x ≡ y = cc in subst (λ (z : Requester). AreValid z.lines) same one
valid_first x xs one others (suc n) y at = others n y at

pub same_length : (xs ys : List Requester) → AreSame xs ys → length ys ≡ length xs
same_length [] [] same = refl
same_length [] (y ∷ ys) same = absurd cc
same_length (x ∷ xs) [] same = absurd cc
same_length (x ∷ xs) (y ∷ ys) same =
    ap suc (same_length xs ys
    (heads (lines_of y) (lines_of x) (map lines_of ys) (map lines_of xs) same).1)

-- the first of them, and the others
pub same_first : (x y : Requester) (xs ys : List Requester) → AreSame (x ∷ xs) (y ∷ ys)
    → (y.who ≡ x.who) × AreSame xs ys
same_first x y xs ys same =
    let two = heads (lines_of y) (lines_of x) (map lines_of ys) (map lines_of xs) same in
    (ap (λ p. p.0) two.0, two.1)

pub same_more : (xs ys zs : List Requester) → AreSame xs ys → AreSame ys zs → AreSame xs zs
same_more xs ys zs a b = b ∙ a

set_same : (ys : List Requester) (k : ℕ) (y z : Requester) → slice_get ys k ≡ Some y
    → lines_of z ≡ lines_of y → AreSame ys (slice_set ys k z)
set_same [] k y z at is = absurd cc
set_same (x ∷ xs) zero y z at is =
    let same : x ≡ y = cc in
    ap (λ l. l ∷ map lines_of xs) (is ∙ ap lines_of (sym same))
set_same (x ∷ xs) (suc k) y z at is = ap (λ l. lines_of x ∷ l) (set_same xs k y z at is)

-- one of them runs on
pub same_set : (xs ys : List Requester) (k : ℕ) (y z : Requester) → AreSame xs ys
    → slice_get ys k ≡ Some y → z.who ≡ y.who → z.lines ≡ y.lines → AreSame xs (slice_set ys k z)
same_set xs ys k y z same at who lines =
    set_same ys k y z at (λ i. (who i, lines i)) ∙ same

-- ---- what they have run

ran_set : (ys : List Requester) (k : ℕ) (y z : Requester) (more : List Event) (r : ℕ)
    → slice_get ys k ≡ Some y → z.who ≡ y.who → ran_of z ≡ ran_of y ++ more
    → ((n : ℕ) (x : Requester) → k < n → slice_get ys n ≡ Some x → x.who ≢ y.who)
    → ran_by (slice_set ys k z) r ≡ ran_by ys r ++ tagged y.who more r
ran_set [] k y z more r at who is apart = absurd cc
ran_set (x ∷ xs) zero y z more r at who is apart =
    let same : x ≡ y = cc in
    ran_on [] xs y z more r who is (λ by. ran_by_none xs r (λ n u there same_who.
    apart (suc n) u (omega arith) there (same_who ∙ sym by)))
    ∙ ap (λ (u : Requester). ran_by (u ∷ xs) r ++ tagged y.who more r) (sym same)
ran_set (x ∷ xs) (suc k) y z more r at who is apart =
    ap (λ l. tagged x.who (ran_of x) r ++ l)
    (ran_set xs k y z more r at who is (λ n u low there. apart (suc n) u (omega arith) there))
    ∙ sym (append_assoc (tagged x.who (ran_of x) r) (ran_by xs r) (tagged y.who more r))

pub run_next : (ys : List Requester) (k : ℕ) (y z : Requester) (v w u : View) → AreNumbered ys
    → slice_get ys k ≡ Some y → z.who ≡ y.who → Runs y z w u → HaveRun ys v w
    → HaveRun (slice_set ys k z) v u
run_next ys k y z v w u numbered at who runs have = record { adds = adds; marked = marked }
  where
    adds : Adds (ran_by (slice_set ys k z)) v u
    adds =
        let long = longer_length v.seen w.seen have.adds.seen in record {
          seen = longer_both v.seen w.seen u.seen have.adds.seen runs.adds.seen;
          low = λ n low. runs.adds.low n (omega arith) ∙ have.adds.low n low;
          done = λ r. runs.adds.done r
              ∙ (ap (λ l. l ++ tagged y.who runs.more r) (have.adds.done r)
              ∙ (append_assoc (done_by r v) (ran_by ys r) (tagged y.who runs.more r)
              ∙ ap (λ l. done_by r v ++ l)
              (sym (ran_set ys k y z runs.more r at who runs.ran (λ n x low there same.
              (let one = numbered n x there in
              let other = numbered k y at in omega arith))))));
          first = runs.adds.first ∙ have.adds.first;
          told = runs.adds.told ∙ have.adds.told;
        }

    marked : AreMarked (slice_set ys k z) u
    marked n x there = by_who (λ m. slice_get (slice_set ys k z) m ≡ Some x → IsMarked x u) k
        (λ here.
        (let is : Some z ≡ Some x = sym (get_set_same ys k z (get_low ys k y at)) ∙ here in
        let same : z ≡ x = cc in
        subst (λ t. IsMarked t u) same (runs.marks (have.marked k y at))))
        (λ m apart here.
        (let was = sym (get_set_other ys k m z apart) ∙ here in
        others_marked (tagged y.who runs.more) w u x runs.adds
        (tagged_other y.who x.who runs.more (λ same.
        (let one = numbered m x was in
        let other = numbered k y at in apart (omega arith))))
        (have.marked m x was)))
        n there

-- ---- who has run all

-- one requester in front of others
pub whole_first : (x : Requester) (xs : List Requester) → IsWhole x → AreWhole xs
    → AreWhole (x ∷ xs)
whole_first x xs one others zero y at = let same : x ≡ y = cc in subst IsWhole same one
whole_first x xs one others (suc n) y at = others n y at

pub whole_next : (ys : List Requester) (k : ℕ) (z : Requester) → k < length ys → IsWhole z
    → ((n : ℕ) (x : Requester) → n < k → slice_get ys n ≡ Some x → IsWhole x)
    → (n : ℕ) (x : Requester) → n < k + 1 → slice_get (slice_set ys k z) n ≡ Some x → IsWhole x
whole_next ys k z within whole before n x low at =
    ⊎_elim
    (λ (early : n < k). before n x early
    (sym (get_set_other ys k n z (λ same. omega arith)) ∙ at))
    (λ (last : k ≤ n). (
    let same : n ≡ k = omega arith in
    let is : Some z ≡ Some x =
    sym (get_set_same ys k z within) ∙ (ap (λ m. slice_get (slice_set ys k z) m) (sym same) ∙ at) in
    let one : z ≡ x = cc in subst IsWhole one whole))
    (cases_lt n k)
