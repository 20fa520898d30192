-- A pass is cut in two.
use Rattle.std.proofs.Common.{◌≡◌, ◌≢◌, ℕ, ◌+◌, ◌<◌, ◌≤◌, ⊎_elim, List, [], ◌∷◌, ◌++◌, length}
use Rattle.std.proofs.Common.{set, refl, ap, subst, arith, None}
use mathlib.Core.Option.{some}
use lib.ListN.{get_elem?}
use Rattle.atomic_table.proofs.Lists.{at_set, at_snoc}
use Rattle.atomic_table.specs.Table.{Splits}
use Rattle.gb_desk.proofs.Keeping.{each_set}
use Rattle.gb_desk.proofs.Totals.{total_set, total_snoc}
use Rattle.gb_desk.specs.Rules.{Fits, Kept, held_in, one_at, parts_of, times_in, told_in}
use Rattle.gb_desk.specs.Rules.{total, turns_of}
use Rattle.gb_desk.specs.Steps.{goes, stays}
use Rattle.gb_desk.specs.declared.stored.Stored.{Stored}
use Rattle.gb_desk.specs.declared.view.View.{View}
use Rattle.gb_system.specs.declared.system.System.{System}

fits_stays : (first : System) (x : Stored) (v : View) (c : ℕ) → c < v.parts
    → length v.tickets + c ≤ v.parts → Fits first x v → Fits first x (stays c v)
fits_stays first x v c fewer enough f = record {
  seen = f.seen;
  beside = f.beside;
  told = f.told;
  tickets = f.tickets;
  enough = omega arith;
  clear = f.clear;
  first = λ part. f.first (omega arith);
  out = f.out;
  idle = λ none. absurd (omega arith);
}

fits_goes : (first : System) (x : Stored) (v : View) (c : ℕ) → 0 < c → c < v.parts
    → Fits first x v → Fits first x (goes c v)
fits_goes first x v c part fewer f = record {
  seen = f.seen;
  beside = f.beside;
  told = f.told;
  tickets = λ t i. absurd i;
  enough = omega arith;
  clear = f.clear;
  first = λ _. f.first (omega arith);
  out = f.out;
  idle = λ none. absurd (omega arith);
}

-- the sum of a number that the one who stays keeps, and the other has so much of
total_split : (f : View → ℕ) (views : List View) (id : ℕ) (v w u : View) (more : ℕ)
    → get_elem? views id ≡ some v → f w + f u ≡ f v + more
    → total f (set views id w ++ u ∷ []) ≡ total f views + more
total_split f views id v w u more at is =
    let sum = total_set f views id v w at in
    let end = total_snoc f (set views id w) u in omega arith

pub splits : (first : System) (id : ℕ) (v : View) (c : ℕ) → v.out ≡ None → v.clear ≡ None
    → 0 < c → c < v.parts → length v.tickets + c ≤ v.parts
    → Splits (Kept first) id v (stays c v) (goes c v)
splits first id v c out unclear some_part fewer enough s k at =
    let x = k.current in
    let f = k.each id v at in
    let w = stays c v in
    let u = goes c v in
    record {
      current = x;
      words = k.words;
      word = k.word;
      turns =
          let none : turns_of v ≡ 0 = ap one_at out in
          let is = total_split turns_of s.views id v w u 0 at (omega arith) in
          let was = k.turns in omega arith;
      home = k.home;
      sound = k.sound;
      each = λ j z there. ⊎_elim
          (each_set first x x s.views id w k.each (λ j' z' apart there' fits. fits)
          (fits_stays first x v c fewer enough f) j z)
          (λ (is : u ≡ z). subst (Fits first x) is (fits_goes first x v c some_part fewer f))
          (at_snoc (set s.views id w) u z j there);
      counts = λ i within. (
          let is = total_split (held_in i) s.views id v w u 0 at (omega arith) in
          let was = k.counts i within in omega arith);
      clear = λ j z i there its. ⊎_elim
          (λ (before : get_elem? (set s.views id w) j ≡ some z).
          ⊎_elim
          (λ (t : (j ≡ id) × (w ≡ z)).
          absurd (let none = ap (λ (y : View). y.clear) t.1 in cc (none, unclear, its)))
          (λ (t : (j ≢ id) × (get_elem? s.views j ≡ some z)).
          (let was = k.clear j z i t.1 its in
          let is = total_split (held_in i) s.views id v w u 0 at (omega arith) in
          (was.0, (let zero = was.1 in omega arith))))
          (at_set s.views id j w z before))
          (λ (last : u ≡ z).
          absurd (let none = ap (λ (y : View). y.clear) last in cc (none, unclear, its)))
          (at_snoc (set s.views id w) u z j there);
      parts =
          let is = total_split parts_of s.views id v w u 0 at (omega arith) in
          let was = k.parts in omega arith;
      places = λ m. (
          let is = total_split (times_in m) s.views id v w u 0 at (omega arith) in
          let was = k.places m in omega arith);
      told = λ broken. (
          let is = total_split told_in s.views id v w u (told_in v) at refl in
          let was = k.told broken in omega arith);
    }
