-- What several requesters have run.
use Rattle.std.proofs.Common.{◌≡◌, ◌≢◌, ℕ, zero, suc, ◌+◌, ◌-◌, ◌<◌, Bool, true, false}
use Rattle.std.proofs.Common.{Some, List, [], ◌∷◌, ◌++◌, length, refl, sym, ap, ◌∙◌, arith}
use Rattle.std.proofs.Common.{append_assoc, subst}
use Rattle.std.proofs.lemmas.Bool.Decides.{nat_tests}
use Rattle.std.proofs.lemmas.List.{append-nil}
use Rattle.std.specs.List.{slice_get}
use Rattle.std.specs.Prelude.{◌==◌, ◌||◌, if◌then◌else◌}
use Rattle.gb_base.specs.declared.event.Event.{Event}
use Rattle.gb_base.specs.declared.journal.JournalEntry.{JournalEntry}
use Rattle.gb_desk.specs.Steps.{goes, stays}
use Rattle.gb_desk.specs.declared.view.View.{View}
use mathlib.Core.List.{IsPrefix}
use Rattle.gb_share.proofs.Places.{longer_length, none_from, stands_append}
use Rattle.gb_share.proofs.Views.{joined_first, joined_second}
use Rattle.gb_share.specs.Doing.{Adds, HasNone, IsJoined, IsWithin, done_by, stands_in}
use Rattle.gb_share.specs.Doing.{tagged}
use Rattle.gb_share.specs.Lines.{ran}
use Rattle.gb_share.specs.Requesters.{AreNumbered, Runs, parts_for, ran_by}
use Rattle.gb_share.specs.Requesters.{ran_of}
use Rattle.gb_base.specs.declared.parts.Asked.{Asked}
use Rattle.gb_share.specs.declared.requester.Requester.{Requester}

-- ---- tags

pub tagged_same : (by : ℕ) (es : List Event) → tagged by es by ≡ es
tagged_same by es =
    let same : (by == by) ≡ true = grind (arith, nat_tests) in
    ap (λ b. if b then es else []) same

pub tagged_other : (by r : ℕ) (es : List Event) → by ≢ r → tagged by es r ≡ []
tagged_other by r es apart =
    let other : (by == r) ≡ false = grind (arith, nat_tests) in
    ap (λ b. if b then es else []) other

pub tagged_append : (by r : ℕ) (es fs : List Event)
    → tagged by (es ++ fs) r ≡ tagged by es r ++ tagged by fs r
tagged_append by r es fs = go (by == r)
  where
    go : (b : Bool) → (if b then es ++ fs else [])
        ≡ (if b then es else []) ++ (if b then fs else [])
    go true = refl
    go false = refl

pub tagged_none : (by r : ℕ) → tagged by [] r ≡ []
tagged_none by r = go (by == r) []
  where
    go : (b : Bool) (es : List Event) → (if b then es else es) ≡ es
    go true es = refl
    go false es = refl

-- ---- runs one after the other

pub ran_none : (ls : List Asked) → ran ls [] ≡ []
ran_none [] = refl
ran_none (l ∷ ls) = refl

pub longer_both : (xs ys zs : List JournalEntry) → IsPrefix xs ys → IsPrefix ys zs → IsPrefix xs zs
longer_both xs ys zs p q =
    (p.0 ++ q.0, sym (append_assoc xs p.0 q.0) ∙ (ap (λ es. es ++ q.0) p.1 ∙ q.1))

pub adds_more : (by : ℕ) (es fs : List Event) (u v w : View) → Adds (tagged by es) u v
    → Adds (tagged by fs) v w → Adds (tagged by (es ++ fs)) u w
adds_more by es fs u v w a b =
    let long = longer_length u.seen v.seen a.seen in record {
      seen = longer_both u.seen v.seen w.seen a.seen b.seen;
      low = λ n low. b.low n (omega arith) ∙ a.low n low;
      done = λ r. b.done r ∙ (ap (λ l. l ++ tagged by fs r) (a.done r)
          ∙ (append_assoc (done_by r u) (tagged by es r) (tagged by fs r)
          ∙ ap (λ l. done_by r u ++ l) (sym (tagged_append by r es fs))));
      first = b.first ∙ a.first;
      told = b.told ∙ a.told;
    }

pub adds_none : (by : ℕ) (v : View) → Adds (tagged by []) v v
adds_none by v = record {
  seen = ([], append-nil v.seen);
  low = λ n low. refl;
  done = λ r. sym (ap (λ l. done_by r v ++ l) (tagged_none by r) ∙ append-nil (done_by r v));
  first = refl;
  told = refl;
}

pub runs_none : (x : Requester) (v : View) → Runs x x v v
runs_none x v = record {
  more = [];
  ran = sym (append-nil (ran_of x));
  adds = adds_none x.who v;
  few = omega arith;
  marks = λ m. m;
}

pub runs_more : (x y z : Requester) (u v w : View) → y.who ≡ x.who → Runs x y u v → Runs y z v w
    → Runs x z u w
runs_more x y z u v w who a b =
    let low = a.few in
    let high = b.few in record {
      more = a.more ++ b.more;
      ran = b.ran ∙ (ap (λ l. l ++ b.more) a.ran ∙ append_assoc (ran_of x) a.more b.more);
      adds = adds_more x.who a.more b.more u v w a.adds
          (subst (λ n. Adds (tagged n b.more) v w) who b.adds);
      few = omega arith;
      marks = λ m. b.marks (a.marks m);
    }

-- ---- several requesters

pub ran_append : (xs ys : List Requester) (r : ℕ) → ran_by (xs ++ ys) r ≡ ran_by xs r ++ ran_by ys r
ran_append [] ys r = refl
ran_append (x ∷ xs) ys r =
    ap (λ l. tagged x.who (ran_of x) r ++ l) (ran_append xs ys r)
    ∙ sym (append_assoc (tagged x.who (ran_of x) r) (ran_by xs r) (ran_by ys r))

pub ran_by_none : (xs : List Requester) (r : ℕ)
    → ((n : ℕ) (x : Requester) → slice_get xs n ≡ Some x → x.who ≢ r) → ran_by xs r ≡ []
ran_by_none [] r others = refl
ran_by_none (x ∷ xs) r others =
    ap (λ l. l ++ ran_by xs r) (tagged_other x.who r (ran_of x) (others 0 x refl))
    ∙ ran_by_none xs r (λ n y at. others (suc n) y at)

pub get_low : {A : Type 0} (xs : List A) (n : ℕ) (x : A) → slice_get xs n ≡ Some x → n < length xs
get_low [] n x at = absurd cc
get_low (y ∷ ys) zero x at = omega arith
get_low (y ∷ ys) (suc n) x at = let low = get_low ys n x at in omega arith

pub get_front : {A : Type 0} (xs ys : List A) (n : ℕ) (x : A) → slice_get xs n ≡ Some x
    → slice_get (xs ++ ys) n ≡ Some x
get_front [] ys n x at = absurd cc
get_front (z ∷ zs) ys zero x at = at
get_front (z ∷ zs) ys (suc n) x at = get_front zs ys n x at

pub get_last : {A : Type 0} (xs : List A) (x : A) → slice_get (xs ++ x ∷ []) (length xs) ≡ Some x
get_last [] x = refl
get_last (y ∷ ys) x = get_last ys x

pub parts_append : (xs : List Requester) (x : Requester)
    → parts_for (xs ++ x ∷ []) ≡ parts_for xs + (length x.lines + 1)
parts_append [] x = omega arith
parts_append (y ∷ ys) x = let later = parts_append ys x in omega arith

or_same : (b : Bool) → (b || b) ≡ b
or_same true = refl
or_same false = refl

or_none : (b : Bool) → (b || false) ≡ b
or_none true = refl
or_none false = refl

-- a pass that was cut off has done nothing
pub goes_none : (k : ℕ) (v : View) (r : ℕ) → done_by r (goes k v) ≡ []
goes_none k v r = none_from r [] 0 v.seen (λ m le. refl)

-- The last requester in a thread of its own, and the others beside it.
pub both_ran : (v w u j : View) (k : ℕ) (xs : List Requester) (x y : Requester) → HasNone v
    → IsWithin w → IsWithin u → Adds (ran_by xs) (stays k v) w → Runs x y (goes k v) u
    → x.full ≡ [] → x.who ≡ length xs + 1 → y.who ≡ x.who → AreNumbered xs → IsJoined w u j
    → Adds (ran_by (xs ++ y ∷ [])) v j
both_ran v w u j k xs x y none one two others last fresh who same numbered joined = record {
  seen = longer_both v.seen w.seen j.seen others.seen joined.this;
  low = λ n below. ap (λ ms. stands_in n ms) joined.mine
      ∙ (stands_append n w.mine u.mine
      ∙ (ap (λ b. b || stands_in n u.mine) (others.low n below)
      ∙ (ap (λ b. stands_in n v.mine || b) (last.adds.low n below)
      ∙ or_none (stands_in n v.mine))));
  done = λ r. go r (x.who == r) refl;
  first = joined.first ∙ others.first;
  told = joined.told ∙ (ap (λ b. b || u.told) others.told
      ∙ (ap (λ b. v.told || b) last.adds.told ∙ or_same v.told));
}
  where
    mine : ran_of y ≡ last.more
    mine = last.ran ∙ ap (λ l. l ++ last.more)
        (ap (λ ms. ran x.lines ms) fresh ∙ ran_none x.lines)

    did : (r : ℕ) → done_by r u ≡ tagged x.who last.more r
    did r = last.adds.done r ∙ ap (λ l. l ++ tagged x.who last.more r) (goes_none k v r)

    all : (r : ℕ) → ran_by (xs ++ y ∷ []) r ≡ ran_by xs r ++ tagged x.who last.more r
    all r = ran_append xs (y ∷ []) r
        ∙ ap (λ l. ran_by xs r ++ l) (append-nil (tagged y.who (ran_of y) r)
        ∙ (ap (λ n. tagged n (ran_of y) r) same ∙ ap (λ l. tagged x.who l r) mine))

    go : (r : ℕ) (b : Bool) → (x.who == r) ≡ b
        → done_by r j ≡ done_by r v ++ ran_by (xs ++ y ∷ []) r
    go r true is =
        let at : x.who ≡ r = grind (arith, nat_tests) in
        let empty : ran_by xs r ≡ [] = ran_by_none xs r (λ n z there same_who.
        (let low = get_low xs n z there in
        let number = numbered n z there in omega arith)) in
        let old : done_by r v ≡ [] = none r (omega arith) in
        let nothing : done_by r w ≡ [] =
        others.done r ∙ (ap (λ l. l ++ ran_by xs r) old ∙ empty) in
        joined_second w u j r joined one two nothing
        ∙ (did r
        ∙ sym (ap (λ l. l ++ ran_by (xs ++ y ∷ []) r) old
        ∙ (all r ∙ ap (λ l. l ++ tagged x.who last.more r) empty)))
    go r false is =
        let apart : x.who ≢ r = (λ at. grind (arith, nat_tests)) in
        let idle : tagged x.who last.more r ≡ [] = tagged_other x.who r last.more apart in
        joined_first w u j r joined one two (did r ∙ idle)
        ∙ (others.done r
        ∙ ap (λ l. done_by r v ++ l) (sym (all r ∙ (ap (λ l. ran_by xs r ++ l) idle
        ∙ append-nil (ran_by xs r)))))

-- ---- one requester of several runs on

pub ran_on : (front back : List Requester) (x y : Requester) (more : List Event) (r : ℕ)
    → y.who ≡ x.who → ran_of y ≡ ran_of x ++ more → (x.who ≡ r → ran_by back r ≡ [])
    → ran_by (front ++ y ∷ back) r ≡ ran_by (front ++ x ∷ back) r ++ tagged x.who more r
ran_on [] back x y more r who is alone = go (x.who == r) refl
  where
    go : (b : Bool) → (x.who == r) ≡ b
        → tagged y.who (ran_of y) r ++ ran_by back r
        ≡ (tagged x.who (ran_of x) r ++ ran_by back r) ++ tagged x.who more r
    go true at =
        let empty : ran_by back r ≡ [] = alone (grind (arith, nat_tests)) in
        ap (λ n. tagged n (ran_of y) r ++ ran_by back r) who
        ∙ (ap (λ l. tagged x.who l r ++ ran_by back r) is
        ∙ (ap (λ l. l ++ ran_by back r) (tagged_append x.who r (ran_of x) more)
        ∙ (ap (λ l. (tagged x.who (ran_of x) r ++ tagged x.who more r) ++ l) empty
        ∙ (append-nil (tagged x.who (ran_of x) r ++ tagged x.who more r)
        ∙ ap (λ l. l ++ tagged x.who more r)
        (sym (ap (λ l. tagged x.who (ran_of x) r ++ l) empty
        ∙ append-nil (tagged x.who (ran_of x) r)))))))
    go false at =
        let apart : x.who ≢ r = (λ same. grind (arith, nat_tests)) in
        let idle : tagged x.who more r ≡ [] = tagged_other x.who r more apart in
        ap (λ n. tagged n (ran_of y) r ++ ran_by back r) who
        ∙ (ap (λ l. l ++ ran_by back r) (tagged_other x.who r (ran_of y) apart
        ∙ sym (tagged_other x.who r (ran_of x) apart))
        ∙ sym (ap (λ l. (tagged x.who (ran_of x) r ++ ran_by back r) ++ l) idle
        ∙ append-nil (tagged x.who (ran_of x) r ++ ran_by back r)))
ran_on (z ∷ zs) back x y more r who is alone =
    ap (λ l. tagged z.who (ran_of z) r ++ l) (ran_on zs back x y more r who is alone)
    ∙ sym (append_assoc (tagged z.who (ran_of z) r) (ran_by (zs ++ x ∷ back) r)
    (tagged x.who more r))

-- ---- the last of several requesters

pub front_get : (all xs : List Requester) (x : Requester) → all ≡ xs ++ x ∷ [] → (n : ℕ)
    (y : Requester) → slice_get xs n ≡ Some y → slice_get all n ≡ Some y
front_get all xs x is n y at = ap (λ zs. slice_get zs n) is ∙ get_front xs (x ∷ []) n y at

pub last_get : (all xs : List Requester) (x : Requester) → all ≡ xs ++ x ∷ []
    → slice_get all (length xs) ≡ Some x
last_get all xs x is = ap (λ zs. slice_get zs (length xs)) is ∙ get_last xs x

-- there are parts for the last one, and then for the others
pub room_for : (all xs : List Requester) (x : Requester) (t k p : ℕ) → all ≡ xs ++ x ∷ []
    → t + parts_for all < p → k ≡ length x.lines + 1
    → (t + k < p) × (t + parts_for xs < p - k)
room_for all xs x t k p is room parts =
    let sum : parts_for all ≡ parts_for xs + (length x.lines + 1) =
    ap parts_for is ∙ parts_append xs x in
    (omega arith, omega arith)

-- what a requester has run that had run nothing
pub opening_ran : (x y : Requester) (v w : View) → x.who ≡ 0 → x.full ≡ [] → Runs x y v w
    → Adds (tagged 0 (ran_of y)) v w
opening_ran x y v w who fresh runs =
    let mine : ran_of y ≡ runs.more = runs.ran ∙ ap (λ l. l ++ runs.more)
    (ap (λ ms. ran x.lines ms) fresh ∙ ran_none x.lines) in
    subst (λ es. Adds (tagged 0 es) v w) (sym mine)
    (subst (λ n. Adds (tagged n runs.more) v w) who runs.adds)
