-- Full lines, and those that come late, as lines are placed.
use Rattle.std.proofs.Common.{◌≡◌, ◌≢◌, ◌⊎◌, ℕ, zero, suc, ◌≤◌, inl, inr}
use Rattle.std.proofs.Common.{Bool, true, false, List, [], ◌∷◌, ◌++◌, append_assoc, length, refl}
use Rattle.std.proofs.Common.{sym, ap, ◌∙◌, arith, subst}
use Rattle.std.proofs.lemmas.Bool.Decides.{nat_tests}
use Rattle.std.proofs.lemmas.List.{append-nil}
use Rattle.std.proofs.lemmas.List.Elements.{filter-append}
use Rattle.std.proofs.lemmas.List.Folds.{list_any-append}
use Rattle.std.specs.Prelude.{◌==◌, ◌&&◌, ◌||◌, if◌then◌else◌}
use Rattle.gb_base.specs.declared.journal.JournalEntry.{JournalEntry}
use Rattle.gb_base.specs.declared.parts.Asked.{Asked}
use Rattle.gb_formats.specs.Orders.{Merged, is_by}
use Rattle.gb_machine.specs.Journal.{events_of}
use Rattle.gb_machine.specs.Shared.{AskEnough, done_in, has_full}
use Rattle.gb_share.specs.Doing.{events_by, one_if}
use Rattle.gb_share.specs.Fulls.{AreExact, AskMost, ComeLate, GoOnLate, own_lines}

-- ---- lists that grow by one

pub done_append : (xs ys : List Merged) → done_in (xs ++ ys) ≡ done_in xs ++ done_in ys
done_append [] ys = refl
done_append ((a, true) ∷ xs) ys = done_append xs ys
done_append ((a, false) ∷ xs) ys = ap (λ es. a.event ∷ es) (done_append xs ys)

pub done_full : (placed : List Merged) (a : Asked)
    → done_in (placed ++ (a, true) ∷ []) ≡ done_in placed
done_full placed a = done_append placed ((a, true) ∷ []) ∙ append-nil (done_in placed)

-- a list with one more behind it, parted at a member
pub data Parted {A : Type 0} (xs : List A) (x : A) (front : List A) (y : A) (back : List A) : Type 0
  where
    within : (more : List A) → xs ≡ front ++ y ∷ more → Parted xs x front y back
    at_end : front ≡ xs → y ≡ x → Parted xs x front y back

pub parted_end : {A : Type 0} (xs front back : List A) (x y : A) → xs ++ x ∷ [] ≡ front ++ y ∷ back
    → Parted xs x front y back
parted_end [] [] back x y is = at_end refl cc
parted_end [] (z ∷ []) back x y is = absurd cc
parted_end [] (z ∷ w ∷ zs) back x y is = absurd cc
parted_end (w ∷ ws) [] back x y is =
    let head : w ≡ y = cc in within ws (ap (λ v. v ∷ ws) head)
parted_end (w ∷ ws) (z ∷ zs) back x y is =
    let head : w ≡ z = cc in
    let tail : ws ++ x ∷ [] ≡ zs ++ y ∷ back = cc in
    on head (parted_end ws zs back x y tail)
  where
    on : w ≡ z → Parted ws x zs y back → Parted (w ∷ ws) x (z ∷ zs) y back
    on head (within more is) =
        within more (ap (λ v. v ∷ ws) head ∙ ap (λ l. z ∷ l) is)
    on head (at_end is same) = at_end (ap (λ v. v ∷ zs) (sym head) ∙ ap (λ l. w ∷ l) is) same

-- ---- lines that come late

-- lines that weren't done make no difference
pub late_full : (r k : ℕ) (placed placed' : List Merged) (entries : List JournalEntry)
    → done_in placed' ≡ done_in placed → ComeLate r k placed entries
    → ComeLate r k placed' entries
late_full r k placed placed' entries same late front back e is by more =
    subst (λ es. AskMost (es ++ events_of front)) (sym same) (late front back e is by more)

-- The first entry was placed: what was behind it stays late.
pub late_done : (r k j : ℕ) (placed placed' : List Merged) (d : JournalEntry)
    (entries : List JournalEntry) → done_in placed' ≡ done_in placed ++ d.event ∷ []
    → ((front : List JournalEntry) → k ≤ length (events_by r front)
    → j ≤ length (events_by r (d ∷ front)))
    → ComeLate r j placed (d ∷ entries) → ComeLate r k placed' entries
late_done r k j placed placed' d entries done more late front back e is by enough =
    subst AskMost
    (sym (append_assoc (done_in placed) (d.event ∷ []) (events_of front))
    ∙ ap (λ es. es ++ events_of front) (sym done))
    (late (d ∷ front) back e (ap (λ es. d ∷ es) is) by (more front enough))

-- an entry more has no fewer events of a requester
pub no_fewer : (r : ℕ) (d : JournalEntry) (es : List JournalEntry)
    → length (events_by r es) ≤ length (events_by r (d ∷ es))
no_fewer r d es = go (d.by == r)
  where
    go : (b : Bool) → length (events_by r es) ≤ length (one_if b d.event ++ events_by r es)
    go true = omega arith
    go false = omega arith

-- an entry of its own is one more
pub one_more : (d : JournalEntry) (es : List JournalEntry)
    → length (events_by d.by (d ∷ es)) ≡ suc (length (events_by d.by es))
one_more d es =
    let mine : (d.by == d.by) ≡ true = grind (arith, nat_tests) in
    ap (λ b. length (one_if b d.event ++ events_by d.by es)) mine

-- ---- full lines that are placed

-- a line more, and whether a requester has a full one
pub full_more : (r : ℕ) (placed : List Merged) (a : Asked) (f : Bool)
    → has_full r (placed ++ (a, f) ∷ []) ≡ (has_full r placed || (is_by r a && f))
full_more r placed a f =
    list_any-append (λ m. is_by r m.0 && m.1) placed ((a, f) ∷ [])
    ∙ ap (λ b. has_full r placed || b) (or_none (is_by r a && f))
  where
    or_none : (b : Bool) → (b || false) ≡ b
    or_none true = refl
    or_none false = refl

-- a line that was done makes none full
pub none_full : (r : ℕ) (placed : List Merged) (a : Asked)
    → has_full r (placed ++ (a, false) ∷ []) ≡ has_full r placed
none_full r placed a = full_more r placed a false ∙ go (has_full r placed) (is_by r a)
  where
    go : (b c : Bool) → (b || (c && false)) ≡ b
    go true c = refl
    go false true = refl
    go false false = refl

-- a requester has a full one already, or it is this
pub full_or : (r : ℕ) (placed : List Merged) (a : Asked)
    → has_full r (placed ++ (a, true) ∷ []) ≡ true
    → (has_full r placed ≡ true) ⊎ (a.who ≡ r)
full_or r placed a is = go (has_full r placed) (is_by r a) refl refl
    (sym (full_more r placed a true) ∙ is)
  where
    go : (b c : Bool) → has_full r placed ≡ b → is_by r a ≡ c → (b || (c && true)) ≡ true
        → (has_full r placed ≡ true) ⊎ (a.who ≡ r)
    go true c has by is = inl has
    go false true has by is = inr (grind (arith, nat_tests))
    go false false has by is = absurd cc

-- ---- going on

pub going_full : (placed : List Merged) (a : Asked) → GoOnLate placed
    → GoOnLate (placed ++ (a, true) ∷ [])
going_full placed a going front back b is full =
    go (parted_end placed front back (a, true) (b, false) is)
  where
    go : Parted placed (a, true) front (b, false) back → AskEnough front
    go (within more at) = going front more b at full
    go (at_end at same) = let marks = ap (λ (m : Merged). m.1) same in absurd cc

pub going_done : (placed : List Merged) (a : Asked) (d : JournalEntry)
    (entries : List JournalEntry) → GoOnLate placed → d.by ≡ a.who
    → (has_full a.who placed ≡ true → ComeLate a.who 0 placed (d ∷ entries))
    → GoOnLate (placed ++ (a, false) ∷ [])
going_done placed a d entries going by late front back b is full =
    go (parted_end placed front back (a, false) (b, false) is)
  where
    go : Parted placed (a, false) front (b, false) back → AskEnough front
    go (within more at) = going front more b at full
    go (at_end at same) =
        let line : b ≡ a = ap (λ (m : Merged). m.0) same in
        let had : has_full a.who placed ≡ true =
        sym (ap (λ (c : Asked). has_full c.who front) line
        ∙ ap (λ ms. has_full a.who ms) at) ∙ full in
        let most : AskMost (done_in placed) =
        subst AskMost (append-nil (done_in placed))
        (late had [] entries d refl by (omega arith)) in
        subst AskEnough (sym at) most

-- ---- requester 0's lines

own_same : (who : ℕ) (a : Asked) → is_by who a ≡ true → (f : Bool) (placed later : List Merged)
    → own_lines who (placed ++ (a, f) ∷ []) ++ later ≡ own_lines who placed ++ (a, f) ∷ later
own_same who a mine f placed later =
    ap (λ l. l ++ later) (filter-append (λ m. is_by who m.0) placed ((a, f) ∷ [])
    ∙ ap (λ b. own_lines who placed ++ (if b then (a, f) ∷ [] else [])) mine)
    ∙ append_assoc (own_lines who placed) ((a, f) ∷ []) later

own_other : (who : ℕ) (a : Asked) → is_by who a ≡ false → (f : Bool) (placed later : List Merged)
    → own_lines who (placed ++ (a, f) ∷ []) ++ later ≡ own_lines who placed ++ later
own_other who a other f placed later =
    ap (λ l. l ++ later) (filter-append (λ m. is_by who m.0) placed ((a, f) ∷ [])
    ∙ (ap (λ b. own_lines who placed ++ (if b then (a, f) ∷ [] else [])) other
    ∙ append-nil (own_lines who placed)))

-- a line is placed: which lines of requester 0 are full stays as it is
pub exact_on : (placed : List Merged) (who : ℕ) (a : Asked) (f : Bool) (q p : ℕ → List Merged)
    → a.who ≡ who → q who ≡ (a, f) ∷ p who → ((r : ℕ) → r ≢ who → p r ≡ q r)
    → AreExact (own_lines 0 placed ++ q 0)
    → AreExact (own_lines 0 (placed ++ (a, f) ∷ []) ++ p 0)
exact_on placed who a f q p by here there exact = go who refl
  where
    go : (n : ℕ) → who ≡ n → AreExact (own_lines 0 (placed ++ (a, f) ∷ []) ++ p 0)
    go zero is =
        let mine : is_by 0 a ≡ true = grind (arith, nat_tests) in
        let front : q 0 ≡ (a, f) ∷ p 0 = subst (λ n. q n ≡ (a, f) ∷ p n) is here in
        subst AreExact
        (ap (λ l. own_lines 0 placed ++ l) front ∙ sym (own_same 0 a mine f placed (p 0))) exact
    go (suc n) is =
        let other : is_by 0 a ≡ false = grind (arith, nat_tests) in
        let same = there 0 (λ at. absurd (omega arith)) in
        subst AreExact
        (sym (own_other 0 a other f placed (p 0) ∙ ap (λ l. own_lines 0 placed ++ l) same)) exact
