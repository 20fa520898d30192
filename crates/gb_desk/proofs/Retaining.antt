-- A ticket of a request more, and one less.
use Rattle.std.proofs.Common.{◌≡◌, ◌≢◌, ℕ, ◌+◌, ◌-◌, ◌%◌, ◌^◌, ◌<◌, ◌≤◌, inl, inr, ⊎_elim, Bool}
use Rattle.std.proofs.Common.{true, false, List, [], ◌∷◌, length, refl, sym, ap, ◌∙◌, subst}
use Rattle.std.proofs.Common.{arith, Some, None}
use Rattle.std.proofs.lemmas.Bool.Decides.{nat_tests}
use Rattle.std.specs.Prelude.{◌==◌, slice_index, slice_set}
use mathlib.Core.Option as core
use lib.ListN.{get_elem?}
use Rattle.atomic_table.specs.Table.{Allows, State, keeps, step}
use Rattle.gb_desk.proofs.Holding.{fewer_held, fewer_in, fewer_long, held_most, held_one}
use Rattle.gb_desk.proofs.Holding.{hit_other, hit_same}
use Rattle.gb_desk.proofs.Keeping.{OneCount, changed, one_count}
use Rattle.gb_desk.proofs.Totals.{total_at, total_most}
use Rattle.gb_desk.proofs.Words.{one_down, one_up}
use Rattle.gb_desk.specs.Rules.{IsOfSlot, Kept, held_in, home_of}
use Rattle.gb_desk.specs.Rules.{parts_of}
use Rattle.gb_desk.specs.Slots.{slot_at}
use Rattle.gb_desk.specs.Steps.{Releases, Retains}
use Rattle.gb_desk.specs.Tickets.{fewer, held}
use Rattle.gb_desk.specs.declared.slots.Slot.{Slot}
use Rattle.gb_desk.specs.declared.stored.Stored.{Stored}
use Rattle.gb_desk.specs.declared.ticket.Ticket.{Ticket}
use Rattle.gb_desk.specs.declared.view.View.{View}
use Rattle.gb_machine.specs.Members.{IsIn}
use Rattle.gb_system.specs.declared.system.System.{System}

-- tickets of one slot are one
same_slot : (slots : List _) (t u : Ticket) → IsOfSlot slots t → IsOfSlot slots u
    → t.slot ≡ u.slot → t ≡ u
same_slot slots t u a b same =
    let there = subst (λ j. slot_at j slots ≡ Some a.slot) same a.there in
    let also = b.there in
    let is : a.slot ≡ b.slot = cc (there, also) in
    let number : t.number ≡ u.number =
    sym a.number ∙ ap (λ (z : Slot). z.number) is ∙ b.number in
    λ i. record { slot = same i; number = number i }

-- no count is above all parts
count_most : (first : System) (s : State Stored View) (i : ℕ) (k : Kept first s) → i < 256
    → slice_index s.words (i + 1) ≤ 4294967295
count_most first s i k within =
    let count = k.counts i within in
    let most = total_most (held_in i) parts_of s.views
    (λ j u there. (let held = held_most i u.tickets in let enough = (k.each j u there).enough in
    omega arith)) in
    let all = k.parts in omega arith

-- a pass that holds other tickets
holding : (first : System) (s : State Stored View) (id : ℕ) (v : View) (ts : List Ticket)
    (i n : ℕ) (k : Kept first s) → get_elem? s.views id ≡ core.some v → i < 256
    → 0 < v.parts → v.clear ≡ None → length ts ≤ v.parts
    → ((t : Ticket) → IsIn t ts → IsOfSlot k.current.slots t)
    → ((j : ℕ) → held j v.tickets ≡ 0 → held j ts ≡ 0)
    → n + held i v.tickets ≡ slice_index s.words (i + 1) + held i ts
    → ((j : ℕ) → j ≢ i → held j ts ≡ held j v.tickets)
    → Kept first (record {
      words = slice_set s.words (i + 1) n;
      homes = s.homes;
      views = slice_set s.views id (record v { tickets = ts });
    })
holding first s id v ts i n k at within part unclear enough of none here rest =
    let words = one_count s.words i n k.words within in
    let f = k.each id v at in
    let w : View = record v { tickets = ts } in
    changed first s id v w k.current (slice_set s.words (i + 1) n) s.homes k
    (record {
      at = at;
      size = words.size;
      word = (let now = words.first in let was = k.word in omega arith);
      turns = (let now = words.first in omega arith);
      counts = λ j low. counted j (slice_set s.words (i + 1) n) words (j == i) refl;
      holds = inl none;
      clear = λ j its. absurd (cc (unclear, its));
      sound = k.sound;
      fits = record {
        seen = f.seen;
        beside = f.beside;
        told = f.told;
        tickets = of;
        enough = enough;
        clear = f.clear;
        first = f.first;
        out = f.out;
        idle = λ no_part. absurd (omega arith);
      };
      others = λ j u apart there fits. fits;
      parts = refl;
      places = λ m. refl;
      told = λ broken. inr (broken, refl);
    })
    (k.home ∙ ap (λ m. home_of m k.current ∷ []) (sym words.first))
  where
    counted : (j : ℕ) (words : List ℕ) → OneCount words s.words i n → (b : Bool) → (j == i) ≡ b
        → slice_index words (j + 1) + held j v.tickets ≡ slice_index s.words (j + 1) + held j ts
    counted j words w true same =
        let is : j ≡ i = grind (arith, nat_tests) in
        let now = w.here in
        subst (λ m. slice_index words (m + 1) + held m v.tickets
        ≡ slice_index s.words (m + 1) + held m ts) (sym is) (omega arith)
    counted j words w false apart =
        let other : j ≢ i = λ same. grind (arith, nat_tests) in
        let now = w.rest j other in
        let same = rest j other in omega arith

-- ---- one more

pub retain : (slots : ℕ) (first : System) (id : ℕ) (v : View) (l : List (ℕ × Stored))
    (t : Ticket) → v.clear ≡ None → 0 < v.parts → length v.tickets < v.parts → IsIn t v.tickets
    → Allows (Kept first) slots id (v, l) (t.slot + 1) (λ n. (n + 1) % 2 ^ 64)
    (Retains (step slots (t.slot + 1) 1 0 core.none) (v, l))
retain slots first id v l t unclear part room there s k len at small =
    let f = k.each id v at in
    let of = f.tickets t there in
    let n = slice_index s.words (t.slot + 1) in
    let up = one_up n (count_most first s t.slot k of.within) in (
      record v { tickets = t ∷ v.tickets },
      keeps,
      tt,
      holding first s id v (t ∷ v.tickets) t.slot ((n + 1) % 2 ^ 64) k at of.within part unclear
          (omega arith)
          (λ u i. ⊎_elim (λ is. subst (IsOfSlot k.current.slots) (sym is) of)
          (λ old. f.tickets u old) i)
          (λ j none. (
          let zero = hit_other j t.slot
          (λ same. (let one = held_one t v.tickets there in
          let is = ap (λ m. held m v.tickets) same in absurd (omega arith))) in omega arith))
          (let one = hit_same t.slot in omega arith)
          (λ j other. (let zero = hit_other j t.slot (λ same. other (sym same)) in omega arith)),
      λ u word i. (
          let same = same_slot k.current.slots t u of (f.tickets u i) (omega arith) in
          ap (λ (m : Ticket). (record v { tickets = m ∷ v.tickets }, l)) same),
    )

-- ---- one less

pub release : (slots : ℕ) (first : System) (id : ℕ) (v : View) (l : List (ℕ × Stored))
    (t : Ticket) → v.clear ≡ None → 0 < v.parts → IsIn t v.tickets
    → Allows (Kept first) slots id (v, l) (t.slot + 1) (λ n. (n + (2 ^ 64 - 1)) % 2 ^ 64)
    (Releases (step slots (t.slot + 1) 1 0 core.none) (v, l))
release slots first id v l t unclear part there s k len at small =
    let f = k.each id v at in
    let of = f.tickets t there in
    let n = slice_index s.words (t.slot + 1) in
    let count = k.counts t.slot of.within in
    let least = total_at (held_in t.slot) s.views id v at in
    let one = held_one t v.tickets there in
    let down = one_down n (omega arith) (count_most first s t.slot k of.within) in
    let long = fewer_long t v.tickets there in
    let most = f.enough in (
      record v { tickets = fewer t v.tickets },
      keeps,
      tt,
      holding first s id v (fewer t v.tickets) t.slot ((n + (2 ^ 64 - 1)) % 2 ^ 64) k at of.within
          part unclear (omega arith)
          (λ u i. f.tickets u (fewer_in t u v.tickets i))
          (λ j none. (let less = fewer_held j t v.tickets there in omega arith))
          (let less = fewer_held t.slot t v.tickets there in let hit_one = hit_same t.slot in
          omega arith)
          (λ j other. (let less = fewer_held j t v.tickets there in
          let zero = hit_other j t.slot (λ same. other (sym same)) in omega arith)),
      λ u word i. (
          let same = same_slot k.current.slots t u of (f.tickets u i) (omega arith) in
          ap (λ (m : Ticket). (record v { tickets = fewer m v.tickets }, l)) same),
    )
