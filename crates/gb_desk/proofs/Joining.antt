-- Two passes are made one, and it is settled which of them has seen more.
use Rattle.std.proofs.Common.{◌≡◌, ◌≢◌, ℕ, ◌+◌, ◌<◌, ◌≤◌, ◌⊎◌, inl, inr, ⊎_elim, Bool, true}
use Rattle.std.proofs.Common.{false, List, [], ◌∷◌, length, length-append, set, refl, sym, ap}
use Rattle.std.proofs.Common.{◌∙◌, arith, Some, None}
use Rattle.std.proofs.lemmas.Bool.Decides.{Decides-ltb, not_from_Decides}
use Rattle.std.specs.Prelude.{◌||◌, if◌then◌else◌, nat_lt, slice_index, slice_set}
use mathlib.Core.List.{IsPrefix}
use mathlib.Core.Option as core
use lib.ListN.{get_elem?}
use Rattle.atomic_table.proofs.Lists.{at_set}
use Rattle.atomic_table.specs.Table.{Allows, Joins, State, keeps, step}
use Rattle.gb_base.specs.declared.journal.JournalEntry.{JournalEntry}
use Rattle.gb_desk.proofs.Holding.{held_append, in_append}
use Rattle.gb_desk.proofs.Keeping.{Changes, changed, each_set, first_word}
use Rattle.gb_desk.proofs.Prefixes.{prefix_self, prefix_shorter}
use Rattle.gb_desk.proofs.Totals.{times_append, total_at, total_set, total_two}
use Rattle.gb_desk.specs.Rules.{Fits, Kept, all_parts, held_in, home_of, one_at, one_if}
use Rattle.gb_desk.specs.Rules.{parts_of, spent, times_in, told_in, total, turns_of}
use Rattle.gb_desk.specs.Steps.{Knows, Settles, both, longer, settled}
use Rattle.gb_desk.specs.declared.stored.Stored.{Stored}
use Rattle.gb_desk.specs.declared.view.View.{View}
use Rattle.gb_system.specs.declared.system.System.{System}
use Rattle.gb_desk.specs.Turns.{is_broken}

told_both : (a b : Bool) (P : Type 0) → (a ≡ true → P) → (b ≡ true → P) → (a || b) ≡ true → P
told_both true b P f g is = f refl
told_both false b P f g is = g is

fits_both : (first : System) (x : Stored) (v w : View) → 0 < v.parts → Fits first x v
    → Fits first x w → Fits first x (both v w)
fits_both first x v w part f g = record {
  seen = f.seen;
  beside = g.seen;
  told = told_both v.told w.told (is_broken x ≡ true) f.told g.told;
  tickets = λ t i. ⊎_elim (f.tickets t) (g.tickets t) (in_append t v.tickets w.tickets i);
  enough =
      let long = length-append v.tickets w.tickets in
      let one = f.enough in
      let other = g.enough in omega arith;
  clear = f.clear;
  first = λ _. f.first part;
  out = f.out;
  idle = λ none. absurd (omega arith);
}

fits_spent : (first : System) (x : Stored) → Fits first x spent
fits_spent first x = record {
  seen = (x.journal, refl);
  beside = (x.journal, refl);
  told = λ is. absurd (cc is);
  tickets = λ t i. absurd i;
  enough = omega arith;
  clear = λ i is. absurd (cc is);
  first = λ part. absurd (omega arith);
  out = λ y is. absurd (cc is);
  idle = λ _. refl;
}

-- the sum of a number that both have together afterwards
total_join : (f : View → ℕ) (views : List View) (id other : ℕ) (v w u : View) → f spent ≡ 0
    → get_elem? views id ≡ core.some v → get_elem? (set views id u) other ≡ core.some w
    → total f (set (set views id u) other spent) + f v + f w ≡ total f views + f u
total_join f views id other v w u none at there =
    let one = total_set f views id v u at in
    let two = total_set f (set views id u) other w spent there in omega arith

there_before : (views : List View) (id other : ℕ) (u w : View) → other ≢ id
    → get_elem? (set views id u) other ≡ core.some w → get_elem? views other ≡ core.some w
there_before views id other u w apart there =
    ⊎_elim
    (λ (t : (other ≡ id) × (u ≡ w)). absurd (apart t.0))
    (λ (t : (other ≢ id) × (get_elem? views other ≡ core.some w)). t.1)
    (at_set views id other u w there)

-- together they know of want of memory where one of them does
one_of_two : (a b : Bool)
    → (one_if (a || b) ≡ 1) ⊎ ((one_if a ≡ 0) × (one_if b ≡ 0))
one_of_two true b = inl refl
one_of_two false true = inl refl
one_of_two false false = inr (refl, refl)

joined_told : (views : List View) (id other : ℕ) (v w : View) → other ≢ id
    → get_elem? views id ≡ core.some v → get_elem? views other ≡ core.some w
    → get_elem? (set views id (both v w)) other ≡ core.some w → 0 < total told_in views
    → 0 < total told_in (set (set views id (both v w)) other spent)
joined_told views id other v w apart at before there some_one =
    let sum = total_join told_in views id other v w (both v w) refl at there in
    let least = total_two told_in views id other v w apart at before in
    ⊎_elim
    (λ (t : one_if (v.told || w.told) ≡ 1). (let one : told_in (both v w) ≡ 1 = t in omega arith))
    (λ (t : (one_if v.told ≡ 0) × (one_if w.told ≡ 0)).
    (let a : told_in v ≡ 0 = t.0 in let b : told_in w ≡ 0 = t.1 in omega arith))
    (one_of_two v.told w.told)

-- what others found clear is so still, where two hold their tickets together
joined_clear : (first : System) (s : State Stored View) (id other : ℕ) (v w : View)
    (k : Kept first s) → v.clear ≡ None → other ≢ id → get_elem? s.views id ≡ core.some v
    → get_elem? (set s.views id (both v w)) other ≡ core.some w
    → (j : ℕ) (z : View) (i : ℕ)
    → get_elem? (set (set s.views id (both v w)) other spent) j ≡ core.some z
    → z.clear ≡ Some i
    → (i < 256) × (total (held_in i) (set (set s.views id (both v w)) other spent) ≡ 0)
joined_clear first s id other v w k unclear apart at there j z i where_ is =
    let u = both v w in
    let sum = total_join (held_in i) s.views id other v w u refl at there in
    let both_held = held_append i v.tickets w.tickets in
    ⊎_elim
    (λ (t : (j ≡ other) × (spent ≡ z)).
    absurd (let none = ap (λ (y : View). y.clear) t.1 in cc (none, is)))
    (λ (t : (j ≢ other) × (get_elem? (set s.views id u) j ≡ core.some z)).
    ⊎_elim
    (λ (e : (j ≡ id) × (u ≡ z)).
    absurd (let none = ap (λ (y : View). y.clear) e.1 in cc (none, unclear, is)))
    (λ (e : (j ≢ id) × (get_elem? s.views j ≡ core.some z)).
    (let was = k.clear j z i e.1 is in
    (was.0, (let zero = was.1 in omega arith))))
    (at_set s.views id j u z t.1))
    (at_set (set s.views id u) other j spent z where_)

pub joins : (first : System) (id : ℕ) (v : View) (other : ℕ) (w : View) → v.out ≡ None
    → w.out ≡ None → v.clear ≡ None → 0 < v.parts
    → Joins (Kept first) id v other w (both v w) spent
joins first id v other w out out' unclear part s k at apart there =
    let x = k.current in
    let u = both v w in
    let before = there_before s.views id other u w apart there in
    let f = k.each id v at in
    let g = k.each other w before in
    record {
      current = x;
      words = k.words;
      word = k.word;
      turns =
          let none : turns_of v ≡ 0 = ap one_at out in
          let none' : turns_of w ≡ 0 = ap one_at out' in
          let is = total_join turns_of s.views id other v w u refl at there in
          let was = k.turns in omega arith;
      home = k.home;
      sound = k.sound;
      each = each_set first x x (set s.views id u) other spent
          (each_set first x x s.views id u k.each (λ j z apart' there' fits. fits)
          (fits_both first x v w part f g))
          (λ j z apart' there' fits. fits)
          (fits_spent first x);
      counts = λ i within. (
          let is = total_join (held_in i) s.views id other v w u refl at there in
          let both_held = held_append i v.tickets w.tickets in
          let was = k.counts i within in omega arith);
      clear = joined_clear first s id other v w k unclear apart at there;
      parts =
          let is = total_join parts_of s.views id other v w u refl at there in
          let was = k.parts in omega arith;
      places = λ m. (
          let is = total_join (times_in m) s.views id other v w u refl at there in
          let sum = times_append m v.mine w.mine in
          let was = k.places m in omega arith);
      told = λ broken. joined_told s.views id other v w apart at before there (k.told broken);
    }

-- ---- which is longer

longer_by : (b : Bool) (xs ys zs : List JournalEntry) → nat_lt (length xs) (length ys) ≡ b
    → IsPrefix xs zs → IsPrefix ys zs
    → IsPrefix xs (if b then ys else xs) × IsPrefix ys (if b then ys else xs)
    × IsPrefix (if b then ys else xs) zs
longer_by true xs ys zs is p q =
    let less = (Decides-ltb (length xs) (length ys)).0 is in
    (prefix_shorter xs ys zs p q (omega arith), prefix_self ys, q)
longer_by false xs ys zs is p q =
    let most = not_from_Decides _ (Decides-ltb (length xs) (length ys)) is in
    (prefix_self xs, prefix_shorter ys xs zs q p (omega arith), p)

is_longer : (xs ys zs : List JournalEntry) → IsPrefix xs zs → IsPrefix ys zs
    → IsPrefix xs (longer xs ys) × IsPrefix ys (longer xs ys) × IsPrefix (longer xs ys) zs
is_longer xs ys zs p q = longer_by (nat_lt (length xs) (length ys)) xs ys zs refl p q

fits_settled : (first : System) (x : Stored) (v : View) → 0 < v.parts → Fits first x v
    → Fits first x (settled v)
fits_settled first x v part f = record {
  seen = (is_longer v.seen v.beside x.journal f.seen f.beside).2;
  beside = (x.journal, refl);
  told = f.told;
  tickets = f.tickets;
  enough = f.enough;
  clear = f.clear;
  first = f.first;
  out = f.out;
  idle = λ none. absurd (omega arith);
}

pub settle : (slots : ℕ) (first : System) (id : ℕ) (me : Knows) → 0 < me.0.parts
    → me.0.clear ≡ None
    → Allows (Kept first) slots id me 0 (λ n. n) (Settles (step slots 0 0 0 core.none) me)
settle slots first id me part unclear s k len at small =
    let v = me.0 in
    let x = k.current in
    let f = k.each id v at in
    let n = slice_index s.words 0 in
    let words = first_word s.words n k.words in
    let c : Changes first s id v (settled v) x x (slice_set s.words 0 n) = record {
      at = at;
      size = words.size;
      word = (let now = words.first in let was = k.word in omega arith);
      turns = (let now = words.first in omega arith);
      counts = λ i within. ap (λ m. m + held_in i v) (words.rest i);
      holds = inl (λ i none. none);
      clear = λ i is. absurd (cc (unclear, is));
      sound = k.sound;
      fits = fits_settled first x v part f;
      others = λ j u apart there fits. fits;
      parts = refl;
      places = λ m. refl;
      told = λ broken. inr (broken, refl);
    } in
    let found = is_longer v.seen v.beside x.journal f.seen f.beside in
    let least = total_at parts_of s.views id v at in
    let most : v.parts ≤ all_parts = (let all = k.parts in omega arith) in (
      settled v,
      keeps,
      tt,
      changed first s id v (settled v) x (slice_set s.words 0 n) s.homes k c
          (k.home ∙ ap (λ m. home_of m x ∷ []) (sym words.first)),
      (refl, found.0, found.1, most),
    )
