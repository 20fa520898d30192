-- In a turn the counts of slots are read, and the first ticket of a request is made.
use Rattle.std.proofs.Common.{◌≡◌, ◌≢◌, ℕ, zero, suc, ◌+◌, ◌%◌, ◌^◌, ◌<◌, inl, inr, ⊎_elim}
use Rattle.std.proofs.Common.{Bool, true, false, List, [], ◌∷◌, length, refl, sym, ap, ◌∙◌, subst}
use Rattle.std.proofs.Common.{arith, Some, None}
use Rattle.std.proofs.lemmas.Bool.Decides.{nat_tests}
use Rattle.std.specs.Prelude.{◌==◌, slice_index, slice_set}
use mathlib.Core.Option as core
use lib.ListN.{get_elem?}
use Rattle.atomic_table.specs.Table.{Act, Allows, State, Valid, carried_after, keeps, step}
use Rattle.atomic_table.specs.Table.{stepped}
use Rattle.gb_desk.proofs.Holding.{held_one, held_some, hit_other, hit_same}
use Rattle.gb_desk.proofs.Keeping.{Changes, OneCount, changed, one_count}
use Rattle.gb_desk.proofs.Totals.{total_alone, total_at, total_some}
use Rattle.gb_desk.proofs.Turning.{Follows, Holds, fits_gave, fits_other, holds, last_of, placed}
use Rattle.gb_desk.proofs.Words.{one_up}
use Rattle.gb_desk.specs.Rules.{Fits, IsOfSlot, Kept, Sound, all_parts, held_in, home_of}
use Rattle.gb_desk.specs.Rules.{once_below, total, turns_of}
use Rattle.gb_desk.specs.Slots.{hit, slot_at, times}
use Rattle.gb_desk.specs.Steps.{IsClear, IsHeld, Knows, Looks, Opens, clearing, opening}
use Rattle.gb_desk.specs.Tickets.{HasTicket, held}
use Rattle.gb_desk.specs.declared.slots.Slot.{Slot}
use Rattle.gb_desk.specs.declared.stored.Stored.{Stored}
use Rattle.gb_desk.specs.declared.ticket.Ticket.{Ticket}
use Rattle.gb_desk.specs.declared.view.View.{View}
use Rattle.gb_machine.specs.Members.{IsIn}
use Rattle.gb_system.specs.declared.system.System.{System}

-- ---- reading

-- where a count stays, all words do
pub same_counts : (words was : List ℕ) (at n : ℕ) → OneCount words was at n
    → slice_index was (at + 1) ≡ n → (i : ℕ) → slice_index words (i + 1) ≡ slice_index was (i + 1)
same_counts words was at n c is i = by (i == at) refl
  where
    by : (b : Bool) → (i == at) ≡ b → slice_index words (i + 1) ≡ slice_index was (i + 1)
    by true same =
        let here : i ≡ at = grind (arith, nat_tests) in
        ap (λ j. slice_index words (j + 1)) here ∙ c.here ∙ sym is
        ∙ ap (λ j. slice_index was (j + 1)) (sym here)
    by false apart = c.rest i (λ same. grind (arith, nat_tests))

-- what a look at the slot tells
abbrev LooksAt : ℕ → Stored → Knows → ℕ → Knows → Type 0
LooksAt i x me n me' = (n ≡ 0 → IsClear i me me') × (n ≢ 0 → IsHeld i x me me')

-- what a look has to show, where it finds this number
abbrev Looked : System → State Stored View → ℕ → View → List (ℕ × Stored) → ℕ → Stored → ℕ
    → Type 0
Looked first s id v l i x n = (w : View) × (a : Act Stored) × Valid s.homes l a
    × Kept first (stepped s (i + 1) n id l w a)
    × LooksAt i x (v, l) n (w, carried_after l a)

-- a pass that looks changes what it knows of slots
looking : (first : System) (s : State Stored View) (id : ℕ) (v w : View) (i n : ℕ)
    (k : Kept first s) → get_elem? s.views id ≡ core.some v → i < 256
    → slice_index s.words (i + 1) ≡ n → Fits first k.current w
    → turns_of w ≡ turns_of v → w.tickets ≡ v.tickets → w.parts ≡ v.parts → w.mine ≡ v.mine
    → w.told ≡ v.told
    → ((j : ℕ) → w.clear ≡ Some j → (j ≡ i) × (n ≡ 0))
    → Changes first s id v w k.current k.current (slice_set s.words (i + 1) n)
looking first s id v w i n k at within is fits turns tickets parts mine told clear =
    let words = one_count s.words i n k.words within in
    let same = same_counts (slice_set s.words (i + 1) n) s.words i n words is in
    record {
      at = at;
      size = words.size;
      word = (let now = words.first in let was = k.word in omega arith);
      turns = (let now = words.first in omega arith);
      counts = λ j low. (let now = same j in let its = ap (held j) tickets in omega arith);
      holds = inl (λ j none. ap (held j) tickets ∙ none);
      clear = λ j its. (
          let c = clear j its in
          let count = k.counts i within in
          let none : total (held_in i) s.views ≡ 0 = (let zero = c.1 in omega arith) in
          let least = total_at (held_in i) s.views id v at in
          let here : held_in i w ≡ 0 = (let its = ap (held i) tickets in omega arith) in
          subst (λ m. (m < 256) × (total (held_in m) s.views ≡ 0) × (held_in m w ≡ 0)) (sym c.0)
          (within, none, here));
      sound = k.sound;
      fits = fits;
      others = λ j u apart there f. f;
      parts = parts;
      places = λ m. ap (λ ps. times m ps + once_below m (length k.current.journal)) mine;
      told = λ broken. inr (broken, told);
    }

fits_clear : (first : System) (x : Stored) (v : View) (i : ℕ) → 0 < v.parts → 0 < turns_of v
    → Fits first x v → Fits first x (clearing i v)
fits_clear first x v i part turn f = record {
  seen = f.seen;
  beside = f.beside;
  told = f.told;
  tickets = f.tickets;
  enough = f.enough;
  clear = λ j is. turn;
  first = f.first;
  out = f.out;
  idle = λ none. absurd (omega arith);
}

fits_used : (first : System) (x : Stored) (v : View) (ns : List ℕ) → 0 < v.parts
    → Fits first x v → Fits first x (record v { used = ns })
fits_used first x v ns part f = record {
  seen = f.seen;
  beside = f.beside;
  told = f.told;
  tickets = f.tickets;
  enough = f.enough;
  clear = f.clear;
  first = f.first;
  out = f.out;
  idle = λ none. absurd (omega arith);
}

looked_clear : (first : System) (s : State Stored View) (id : ℕ) (v : View)
    (l : List (ℕ × Stored)) (i : ℕ) (x : Stored) (k : Kept first s) → v.out ≡ Some x
    → 0 < v.parts → i < 256 → get_elem? s.views id ≡ core.some v
    → slice_index s.words (i + 1) ≡ 0 → Looked first s id v l i x 0
looked_clear first s id v l i x k out part within at is =
    let h = holds first s id v x k out at in
    let turn : 0 < turns_of v = (let one = h.turns in omega arith) in
    let words = one_count s.words i 0 k.words within in
    let count = k.counts i within in
    let least = total_at (held_in i) s.views id v at in (
      clearing i v,
      keeps,
      tt,
      changed first s id v (clearing i v) k.current (slice_set s.words (i + 1) 0) s.homes k
          (looking first s id v (clearing i v) i 0 k at within is
          (fits_clear first k.current v i part turn (k.each id v at)) refl refl refl refl refl
          (λ j its. ((let same : i ≡ j = cc (its) in sym same), refl)))
          (k.home ∙ ap (λ n. home_of n k.current ∷ []) (sym words.first)),
      (
        (λ found. record { none = (let none : held_in i v ≡ 0 = omega arith in none); is = refl }),
        (λ found. absurd (found refl)),
      ),
    )

-- a ticket of the slot, and the slot
found_ticket : (first : System) (s : State Stored View) (i n : ℕ) (k : Kept first s) → i < 256
    → slice_index s.words (i + 1) ≡ suc n
    → (z : Slot) × (slot_at i k.current.slots ≡ Some z)
found_ticket first s i n k within is =
    let count = k.counts i within in
    let who = total_some (held_in i) s.views (omega arith) in
    let t = held_some i who.1.tickets who.3 in
    let of = (k.each who.0 who.1 who.2).tickets t.0 t.1 in
    (of.slot, subst (λ j. slot_at j k.current.slots ≡ Some of.slot) t.2 of.there)

-- one that has all parts finds its own
own_ticket : (first : System) (s : State Stored View) (id : ℕ) (v : View) (i n : ℕ)
    (k : Kept first s) (z : Slot) → i < 256 → get_elem? s.views id ≡ core.some v
    → slice_index s.words (i + 1) ≡ suc n → slot_at i k.current.slots ≡ Some z
    → v.parts ≡ all_parts → HasTicket v.tickets z.number
own_ticket first s id v i n k z within at is there all =
    let count = k.counts i within in
    let sum = total_alone (held_in i) s.views id v refl at (k.parts ∙ sym all)
    (λ j u where_. (k.each j u where_).idle) in
    let t = held_some i v.tickets (omega arith) in
    let of = (k.each id v at).tickets t.0 t.1 in
    let also = subst (λ j. slot_at j k.current.slots ≡ Some of.slot) t.2 of.there in
    let same : of.slot ≡ z = cc (also, there) in
    (t.0, t.1, sym of.number ∙ ap (λ (y : Slot). y.number) same)

looked_held : (first : System) (s : State Stored View) (id : ℕ) (v : View)
    (l : List (ℕ × Stored)) (i n : ℕ) (x : Stored) (k : Kept first s) → v.out ≡ Some x
    → v.clear ≡ None → 0 < v.parts → i < 256 → get_elem? s.views id ≡ core.some v
    → slice_index s.words (i + 1) ≡ suc n → Looked first s id v l i x (suc n)
looked_held first s id v l i n x k out unclear part within at is =
    let h = holds first s id v x k out at in
    let words = one_count s.words i (suc n) k.words within in
    let z = found_ticket first s i n k within is in
    let w : View = record v { used = z.0.number ∷ v.used } in (
      w,
      keeps,
      tt,
      changed first s id v w k.current (slice_set s.words (i + 1) (suc n)) s.homes k
          (looking first s id v w i (suc n) k at within is
          (fits_used first k.current v (z.0.number ∷ v.used) part (k.each id v at))
          refl refl refl refl refl (λ j its. absurd (cc (unclear, its))))
          (k.home ∙ ap (λ m. home_of m k.current ∷ []) (sym words.first)),
      (
        (λ found. absurd (omega arith)),
        (λ found. record {
          slot = z.0;
          there = subst (λ y. slot_at i y.slots ≡ Some z.0) h.is z.1;
          is = refl;
          own = own_ticket first s id v i n k z.0 within at is z.1;
        }),
      ),
    )

looked : (first : System) (s : State Stored View) (id : ℕ) (v : View)
    (l : List (ℕ × Stored)) (i : ℕ) (x : Stored) (k : Kept first s) → v.out ≡ Some x
    → v.clear ≡ None → 0 < v.parts → i < 256 → get_elem? s.views id ≡ core.some v
    → (n : ℕ) → slice_index s.words (i + 1) ≡ n → Looked first s id v l i x n
looked first s id v l i x k out unclear part within at zero is =
    looked_clear first s id v l i x k out part within at is
looked first s id v l i x k out unclear part within at (suc n) is =
    looked_held first s id v l i n x k out unclear part within at is

-- it is this slot, and what was taken
looks_told : (slots : ℕ) (me me' : Knows) (i n : ℕ) (x : Stored) → me.0.out ≡ Some x
    → LooksAt i x me n me' → Looks (step slots (i + 1) 0 0 core.none) me n me'
looks_told slots me me' i n x out told j y word out' =
    let slot : i ≡ j = omega arith in
    let same : x ≡ y = cc (out, out') in
    subst (λ z. LooksAt j z me n me') same (subst (λ m. LooksAt m x me n me') slot told)

pub look : (slots : ℕ) (first : System) (id : ℕ) (v : View) (l : List (ℕ × Stored)) (i : ℕ)
    (x : Stored) → v.out ≡ Some x → v.clear ≡ None → 0 < v.parts → i < 256
    → Allows (Kept first) slots id (v, l) (i + 1) (λ n. n)
    (Looks (step slots (i + 1) 0 0 core.none) (v, l))
look slots first id v l i x out unclear part within s k len at small =
    let n = slice_index s.words (i + 1) in
    let r = looked first s id v l i x k out unclear part within at n refl in
    (r.0, r.1, r.2, r.3, looks_told slots (v, l) (r.0, carried_after l r.1) i n x out r.4)

-- ---- the first ticket

-- no ticket of another pass is of a slot that was found clear
not_theirs : (i : ℕ) (ts : List Ticket) → held i ts ≡ 0 → (t : Ticket) → IsIn t ts → t.slot ≢ i
not_theirs i ts none t there same =
    let one = held_one t ts there in
    let is = ap (λ j. held j ts) same in absurd (omega arith)

fits_opening : (first : System) (x y : Stored) (v : View) (i : ℕ) (z : Slot) → 0 < v.parts
    → length v.tickets < v.parts → i < 256 → Follows x y i → held i v.tickets ≡ 0
    → slot_at i y.slots ≡ Some z → Fits first x v → Fits first y (opening i z.number v x y)
fits_opening first x y v i z part room within f none there fits =
    let g = fits_gave first x y i v part f (not_theirs i v.tickets none) fits in
    record {
      seen = g.seen;
      beside = g.beside;
      told = g.told;
      tickets = λ t j. ⊎_elim
          (λ is. subst (IsOfSlot y.slots) (sym is) (record {
            within = within;
            slot = z;
            there = there;
            number = refl;
          }))
          (λ old. g.tickets t old) j;
      enough = omega arith;
      clear = λ j is. absurd (cc is);
      first = g.first;
      out = λ u is. cc is;
      idle = λ no_part. absurd (omega arith);
    }

opens : (first : System) (s : State Stored View) (id : ℕ) (v : View) (i n : ℕ) (z : Slot)
    (x y : Stored) (k : Kept first s) → 0 < v.parts → length v.tickets < v.parts
    → Sound first y → Follows x y i → slot_at i y.slots ≡ Some z → v.clear ≡ Some i
    → get_elem? s.views id ≡ core.some v → Holds first s id v x k
    → slice_index s.words (i + 1) ≡ n
    → Changes first s id v (opening i z.number v x y) k.current y
    (slice_set s.words (i + 1) ((n + 1) % 2 ^ 64))
opens first s id v i n z x y k part room sound f there clear at h is =
    let c = k.clear id v i at clear in
    let count = k.counts i c.0 in
    let none : n ≡ 0 = (let zero = c.1 in omega arith) in
    let up = one_up n (omega arith) in
    let words = one_count s.words i ((n + 1) % 2 ^ 64) k.words c.0 in
    let least = total_at (held_in i) s.views id v at in
    let mine : held i v.tickets ≡ 0 = (let zero = c.1 in omega arith) in
    let f' : Follows k.current y i = subst (λ u. Follows u y i) (sym h.is) f in
    record {
      at = at;
      size = words.size;
      word = (let now = words.first in let was = k.word in omega arith);
      turns = (let now = words.first in let one = h.turns in omega arith);
      counts = λ j low. counted j (slice_set s.words (i + 1) ((n + 1) % 2 ^ 64)) words none up
          (j == i) refl;
      holds = inr (let one = h.turns in omega arith);
      clear = λ j its. absurd (cc its);
      sound = sound;
      fits = fits_opening first x y v i z part room c.0 f mine there
          (subst (λ u. Fits first u v) h.is (k.each id v at));
      others = λ j u apart where_ fits. fits_other first k.current y i u f'
          (h.alone j u apart where_)
          (not_theirs i u.tickets
          (let low = total_at (held_in i) s.views j u where_ in let zero = c.1 in omega arith))
          fits;
      parts = refl;
      places = λ m. rw h.is (placed x y i v m f);
      told = λ broken. inl broken;
    }
  where
    counted : (j : ℕ) (words : List ℕ) → OneCount words s.words i ((n + 1) % 2 ^ 64) → n ≡ 0
        → (n + 1) % 2 ^ 64 ≡ n + 1 → (b : Bool) → (j == i) ≡ b
        → slice_index words (j + 1) + held j v.tickets
        ≡ slice_index s.words (j + 1) + (hit j i + held j v.tickets)
    counted j words w none up true same =
        let here : j ≡ i = grind (arith, nat_tests) in
        let now = w.here in
        let one = hit_same i in
        subst (λ m. slice_index words (m + 1) + held m v.tickets
        ≡ slice_index s.words (m + 1) + (hit m i + held m v.tickets)) (sym here) (omega arith)
    counted j words w none up false apart =
        let now = w.rest j (λ same. grind (arith, nat_tests)) in
        let zero = hit_other j i (λ same. grind (arith, nat_tests)) in omega arith

opens_told : (slots : ℕ) (v : View) (i : ℕ) (x y : Stored) (z : Slot) → v.out ≡ Some x
    → slot_at i y.slots ≡ Some z → (n : ℕ)
    → Opens (step slots (i + 1) 1 0 core.none) (v, (0, y) ∷ []) n
    (opening i z.number v x y, (0, y) ∷ [])
opens_told slots v i x y z out there n j x' y' z' word out' me there' =
    let slot : i ≡ j = omega arith in
    let took : x ≡ x' = cc (out, out') in
    let gives : y ≡ y' = ap (λ l. last_of l y) me in
    let also : slot_at i y.slots ≡ Some z' =
    subst (λ u. slot_at i u.slots ≡ Some z') (sym gives)
    (subst (λ m. slot_at m y'.slots ≡ Some z') (sym slot) there') in
    let is : z ≡ z' = cc (there, also) in
    λ e. (opening (slot e) (is e).number v (took e) (gives e), (0, y) ∷ [])

pub first_ticket : (slots : ℕ) (first f : System) (id : ℕ) (v : View) (i : ℕ) (x y : Stored)
    (z : Slot) → v.out ≡ Some x → v.clear ≡ Some i → 0 < v.parts → length v.tickets < v.parts
    → v.first ≡ Some f → Sound f y → Follows x y i → slot_at i y.slots ≡ Some z
    → Allows (Kept first) slots id (v, (0, y) ∷ []) (i + 1) (λ n. (n + 1) % 2 ^ 64)
    (Opens (step slots (i + 1) 1 0 core.none) (v, (0, y) ∷ []))
first_ticket slots first f id v i x y z out clear part room is_first sound follows there s k len at
    small =
    let h = holds first s id v x k out at in
    let same : f ≡ first = (let is = (k.each id v at).first part in cc (is_first, is)) in
    let n = slice_index s.words (i + 1) in
    let c = k.clear id v i at clear in
    let words = one_count s.words i ((n + 1) % 2 ^ 64) k.words c.0 in (
      opening i z.number v x y,
      keeps,
      tt,
      changed first s id v (opening i z.number v x y) y
          (slice_set s.words (i + 1) ((n + 1) % 2 ^ 64)) s.homes k
          (opens first s id v i n z x y k part room (subst (λ u. Sound u y) same sound) follows
          there clear at h refl)
          (h.home ∙ ap (λ m. home_of m y ∷ []) (sym (words.first ∙ h.word))),
      opens_told slots v i x y z out there n,
    )
