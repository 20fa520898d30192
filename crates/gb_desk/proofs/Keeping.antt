-- The rule holds after a step that changes one pass.
use Rattle.std.proofs.Common.{◌≡◌, ◌≢◌, ℕ, ◌+◌, ◌<◌, ◌≤◌, ◌⊎◌, ⊎_elim, true, List, Some}
use Rattle.std.proofs.Common.{[], ◌∷◌, length, set, refl, ap, ◌∙◌, subst, arith}
use Rattle.std.specs.Prelude.{slice_index, slice_set}
use mathlib.Core.Option.{Option, some}
use lib.ListN.{get_elem?}
use Rattle.atomic_table.proofs.Lists.{at_set}
use Rattle.atomic_table.specs.Table.{State}
use Rattle.gb_desk.proofs.Totals.{total_set, total_at, total_two}
use Rattle.gb_desk.proofs.Words.{word_other, word_same, words_as_long}
use Rattle.gb_desk.specs.Rules.{Fits, Kept, Sound, held_in, home_of, once_below, parts_of}
use Rattle.gb_desk.specs.Rules.{times_in, told_in, total, turns_of}
use Rattle.gb_desk.specs.Slots.{times}
use Rattle.gb_desk.specs.declared.stored.Stored.{Stored}
use Rattle.gb_desk.specs.declared.view.View.{View}
use Rattle.gb_system.specs.declared.system.System.{System}
use Rattle.gb_desk.specs.Turns.{is_broken}

-- What a step changes: one pass, what is shared, and the words.
pub record Changes (first : System) (s : State Stored View) (id : ℕ) (v w : View) (x y : Stored)
    (words : List ℕ) : Type 0 where
  pub at : get_elem? s.views id ≡ some v
  pub size : length words ≡ 257
  pub word : slice_index words 0 ≤ 1
  pub turns : slice_index words 0 + turns_of v ≡ slice_index s.words 0 + turns_of w
  pub counts : (i : ℕ) → i < 256
      → slice_index words (i + 1) + held_in i v ≡ slice_index s.words (i + 1) + held_in i w
  pub holds : ((i : ℕ) → held_in i v ≡ 0 → held_in i w ≡ 0) ⊎ (0 < turns_of v)
  pub clear : (i : ℕ) → w.clear ≡ Some i
      → (i < 256) × (total (held_in i) s.views ≡ 0) × (held_in i w ≡ 0)
  pub sound : Sound first y
  pub fits : Fits first y w
  pub others : (j : ℕ) (u : View) → j ≢ id → get_elem? s.views j ≡ some u → Fits first x u
      → Fits first y u
  pub parts : w.parts ≡ v.parts
  pub places : (m : ℕ) → times m w.mine + once_below m (length x.journal)
      ≡ times m v.mine + once_below m (length y.journal)
  pub told : is_broken y ≡ true → (w.told ≡ true) ⊎ ((is_broken x ≡ true) × (w.told ≡ v.told))

-- what is so of each pass, where one changes
pub each_set : (first : System) (x y : Stored) (views : List View) (id : ℕ) (w : View)
    → ((j : ℕ) (u : View) → get_elem? views j ≡ some u → Fits first x u)
    → ((j : ℕ) (u : View) → j ≢ id → get_elem? views j ≡ some u → Fits first x u → Fits first y u)
    → Fits first y w
    → (j : ℕ) (u : View) → get_elem? (set views id w) j ≡ some u → Fits first y u
each_set first x y views id w each others fits j u at =
    ⊎_elim
    (λ (t : (j ≡ id) × (w ≡ u)). subst (λ z. Fits first y z) t.1 fits)
    (λ (t : (j ≢ id) × (get_elem? views j ≡ some u)). others j u t.0 t.1 (each j u t.1))
    (at_set views id j w u at)

-- a pass that knows of want of memory is counted
told_one : (w : View) → w.told ≡ true → told_in w ≡ 1
told_one w is = rw is refl

told_now : (s : State Stored View) (id : ℕ) (v w : View) (x : Stored)
    → get_elem? s.views id ≡ some v → (is_broken x ≡ true → 0 < total told_in s.views)
    → (w.told ≡ true) ⊎ ((is_broken x ≡ true) × (w.told ≡ v.told))
    → 0 < total told_in (set s.views id w)
told_now s id v w x at was how =
    let sum = total_set told_in s.views id v w at in
    let least = total_at told_in s.views id v at in
    ⊎_elim
    (λ (is : w.told ≡ true). (let one = told_one w is in omega arith))
    (λ (is : (is_broken x ≡ true) × (w.told ≡ v.told)).
    (let some_one = was is.0 in
    let same : told_in w ≡ told_in v = rw (is.1) refl in omega arith))
    how

-- what another pass found clear is so still
clear_other : (first : System) (s : State Stored View) (id : ℕ) (v w : View) (y : Stored)
    (words : List ℕ) (k : Kept first s) → Changes first s id v w k.current y words
    → (j : ℕ) (u : View) (i : ℕ) → j ≢ id → get_elem? s.views j ≡ some u → u.clear ≡ Some i
    → (i < 256) × (total (held_in i) (set s.views id w) ≡ 0)
clear_other first s id v w y words k c j u i apart there is =
    let was = k.clear j u i there is in
    let sum = total_set (held_in i) s.views id v w c.at in
    let least = total_at (held_in i) s.views id v c.at in
    ⊎_elim
    (λ (keeps : (i : ℕ) → held_in i v ≡ 0 → held_in i w ≡ 0).
    (was.0, (let none = keeps i (omega arith) in omega arith)))
    (λ (mine : 0 < turns_of v).
    (let its = (k.each j u there).clear i is in
    let two = total_two turns_of s.views id j v u apart c.at there in
    let all = k.turns in
    let most = k.word in absurd (omega arith)))
    c.holds

clear_now : (first : System) (s : State Stored View) (id : ℕ) (v w : View) (y : Stored)
    (words : List ℕ) (k : Kept first s) → Changes first s id v w k.current y words
    → (j : ℕ) (u : View) (i : ℕ) → get_elem? (set s.views id w) j ≡ some u → u.clear ≡ Some i
    → (i < 256) × (total (held_in i) (set s.views id w) ≡ 0)
clear_now first s id v w y words k c j u i there is =
    ⊎_elim
    (λ (t : (j ≡ id) × (w ≡ u)).
    (let own = c.clear i (ap (λ (z : View). z.clear) t.1 ∙ is) in
    let sum = total_set (held_in i) s.views id v w c.at in
    (own.0, (let none = own.1 in let here = own.2 in omega arith))))
    (λ (t : (j ≢ id) × (get_elem? s.views j ≡ some u)).
    clear_other first s id v w y words k c j u i t.0 t.1 is)
    (at_set s.views id j w u there)

pub changed : (first : System) (s : State Stored View) (id : ℕ) (v w : View) (y : Stored)
    (words : List ℕ) (homes : List (Option Stored)) (k : Kept first s)
    → Changes first s id v w k.current y words → homes ≡ home_of (slice_index words 0) y ∷ []
    → Kept first (record { words = words; homes = homes; views = set s.views id w })
changed first s id v w y words homes k c home = record {
  current = y;
  words = c.size;
  word = c.word;
  turns =
      let sum = total_set turns_of s.views id v w c.at in
      let was = k.turns in
      let is = c.turns in
      omega arith;
  home = home;
  sound = c.sound;
  each = each_set first k.current y s.views id w k.each c.others c.fits;
  counts = λ i within. (
      let sum = total_set (held_in i) s.views id v w c.at in
      let was = k.counts i within in
      let is = c.counts i within in
      omega arith);
  clear = clear_now first s id v w y words k c;
  parts =
      let sum = total_set parts_of s.views id v w c.at in
      let was = k.parts in
      let same = c.parts in
      omega arith;
  places = λ m. (
      let sum = total_set (times_in m) s.views id v w c.at in
      let was = k.places m in
      let is = c.places m in
      omega arith);
  told = λ broken. told_now s id v w k.current c.at k.told (c.told broken);
}

-- ---- the words

-- What a step changes of the words: the first alone.
pub record FirstWord (words was : List ℕ) (n : ℕ) : Type 0 where
  pub size : length words ≡ 257
  pub first : slice_index words 0 ≡ n
  pub rest : (i : ℕ) → slice_index words (i + 1) ≡ slice_index was (i + 1)

pub first_word : (was : List ℕ) (n : ℕ) → length was ≡ 257 → FirstWord (slice_set was 0 n) was n
first_word was n size = record {
  size = words_as_long was 0 n ∙ size;
  first = word_same was 0 n (omega arith);
  rest = λ i. word_other was 0 (i + 1) n (λ same. omega arith);
}

-- What a step changes of the words: one count.
pub record OneCount (words was : List ℕ) (at n : ℕ) : Type 0 where
  pub size : length words ≡ 257
  pub first : slice_index words 0 ≡ slice_index was 0
  pub here : slice_index words (at + 1) ≡ n
  pub rest : (i : ℕ) → i ≢ at → slice_index words (i + 1) ≡ slice_index was (i + 1)

pub one_count : (was : List ℕ) (at n : ℕ) → length was ≡ 257 → at < 256
    → OneCount (slice_set was (at + 1) n) was at n
one_count was at n size within = record {
  size = words_as_long was (at + 1) n ∙ size;
  first = word_other was (at + 1) 0 n (λ same. omega arith);
  here = word_same was (at + 1) n (omega arith);
  rest = λ i apart. word_other was (at + 1) (i + 1) n (λ same. apart (omega arith));
}
