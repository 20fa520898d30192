-- The turn is taken and given back.
use Rattle.std.proofs.Common.{◌≡◌, ◌≢◌, ℕ, zero, suc, ◌+◌, ◌<◌, ◌⊎◌, inl, inr, ⊎_elim}
use Rattle.std.proofs.Common.{Bool, true, false}
use Rattle.std.proofs.Common.{ne_eqb, length-append, List, [], ◌∷◌, ◌++◌, length, refl}
use Rattle.std.proofs.Common.{sym, ap, ◌∙◌, subst, arith, Some, None}
use Rattle.std.specs.Prelude.{◌==◌, slice_index, slice_set}
use mathlib.Core.List.{IsPrefix}
use mathlib.Core.Option as core
use lib.ListN.{get_elem?}
use prog.Atomic.{either}
use Rattle.atomic_table.specs.Table.{Act, Allows, State, Valid, carried_after, gives, keeps}
use Rattle.atomic_table.specs.Table.{step, stepped, takes}
use Rattle.gb_base.specs.declared.journal.JournalEntry.{JournalEntry}
use Rattle.gb_desk.proofs.Keeping.{Changes, changed, first_word}
use Rattle.gb_desk.proofs.Prefixes.{prefix_longer, prefix_self}
use Rattle.gb_desk.proofs.Totals.{times_append, total_alone, total_at, total_set}
use Rattle.gb_desk.proofs.Totals.{total_two}
use Rattle.gb_desk.specs.Calls.{IsFree}
use Rattle.gb_desk.specs.Rules.{Fits, IsOfSlot, Kept, Sound, all_parts, held_in, home_of}
use Rattle.gb_desk.specs.Rules.{once_below, one_at, times_in, turns_of}
use Rattle.gb_desk.specs.Slots.{hit, times}
use Rattle.gb_desk.specs.Steps.{ArePlaces, Gives, Knows, Takes, gave, met}
use Rattle.gb_desk.specs.Steps.{mine_after, taking}
use Rattle.gb_desk.specs.declared.ticket.Ticket.{Ticket}
use Rattle.gb_machine.specs.Members.{IsIn}
use Rattle.gb_desk.specs.declared.stored.Stored.{Stored}
use Rattle.gb_desk.specs.declared.view.View.{View}
use Rattle.gb_system.specs.declared.system.System.{System}
use Rattle.gb_desk.specs.Turns.{is_broken}

-- ---- taking

fits_taking : (first : System) (x : Stored) (v : View) → 0 < v.parts → Fits first x v
    → Fits first x (taking v x)
fits_taking first x v part f = record {
  seen = f.seen;
  beside = f.beside;
  told = f.told;
  tickets = f.tickets;
  enough = f.enough;
  clear = λ i is. omega arith;
  first = f.first;
  out = λ y is. cc is;
  idle = λ none. absurd (omega arith);
}

fits_met : (first : System) (x : Stored) (v : View) → 0 < v.parts → Fits first x v
    → Fits first x (met v)
fits_met first x v part f = record {
  seen = f.seen;
  beside = f.beside;
  told = f.told;
  tickets = f.tickets;
  enough = f.enough;
  clear = f.clear;
  first = f.first;
  out = f.out;
  idle = λ none. absurd (omega arith);
}

-- what a try to take the turn has to show, where it finds this number
abbrev Tried : ℕ → System → State Stored View → ℕ → View → ℕ → Type 0
Tried slots first s id v n = (w : View) × (a : Act Stored) × Valid s.homes [] a
    × Kept first (stepped s 0 (either (n == 0) 1 n) id [] w a)
    × Takes (step slots 0 0 1 core.none) (v, []) n (w, carried_after [] a)

tried_free : (slots : ℕ) (first : System) (s : State Stored View) (id : ℕ) (v : View)
    (k : Kept first s)
    → v.out ≡ None → v.clear ≡ None → 0 < v.parts → get_elem? s.views id ≡ core.some v
    → slice_index s.words 0 ≡ 0 → Tried slots first s id v 0
tried_free slots first s id v k out unclear part at free =
    let x = k.current in
    let f = k.each id v at in
    let home : s.homes ≡ core.some x ∷ [] = k.home ∙ ap (λ n. home_of n x ∷ []) free in
    let words = first_word s.words 1 k.words in
    let c : Changes first s id v (taking v x) x x (slice_set s.words 0 1) = record {
      at = at;
      size = words.size;
      word = (let now = words.first in omega arith);
      turns = (let now = words.first in let none = ap one_at out in omega arith);
      counts = λ i within. ap (λ m. m + held_in i v) (words.rest i);
      holds = inl (λ i none. none);
      clear = λ i is. absurd (cc (unclear, is));
      sound = k.sound;
      fits = fits_taking first x v part f;
      others = λ j u apart there fits. fits;
      parts = refl;
      places = λ m. refl;
      told = λ broken. inr (broken, refl);
    } in (
      taking v x,
      takes 0 x,
      ap (λ hs. get_elem? hs 0) home,
      changed first s id v (taking v x) x (slice_set s.words 0 1) (slice_set s.homes 0 core.none) k
          c (ap (λ hs. slice_set hs 0 core.none) home
          ∙ ap (λ n. home_of n x ∷ []) (sym words.first)),
      (
        (λ found. record {
          shared = x;
          first = first;
          me = refl;
          is_first = f.first part;
          sound = k.sound;
          seen = f.seen;
          told = f.told;
          tickets = f.tickets;
        }),
        (λ found. absurd (found refl)),
      ),
    )

tried_held : (slots : ℕ) (first : System) (s : State Stored View) (id : ℕ) (v : View) (n : ℕ)
    (k : Kept first s) → v.out ≡ None → v.clear ≡ None → 0 < v.parts
    → get_elem? s.views id ≡ core.some v
    → slice_index s.words 0 ≡ suc n → Tried slots first s id v (suc n)
tried_held slots first s id v n k out unclear part at held =
    let x = k.current in
    let words = first_word s.words (suc n) k.words in
    let c : Changes first s id v (met v) x x (slice_set s.words 0 (suc n)) = record {
      at = at;
      size = words.size;
      word = (let now = words.first in let was = k.word in omega arith);
      turns = (let now = words.first in omega arith);
      counts = λ i within. ap (λ m. m + held_in i v) (words.rest i);
      holds = inl (λ i none. none);
      clear = λ i is. absurd (cc (unclear, is));
      sound = k.sound;
      fits = fits_met first x v part (k.each id v at);
      others = λ j u apart there fits. fits;
      parts = refl;
      places = λ m. refl;
      told = λ broken. inr (broken, refl);
    } in
    let other : (suc n == 0) ≡ false = ne_eqb (suc n) 0 (λ is. omega arith) in
    let alone : v.parts ≡ all_parts → ⊥ = λ all. (
    let none = ap one_at out in
    let turns = total_alone turns_of s.views id v refl at (k.parts ∙ sym all)
    (λ j u there. (k.each j u there).idle) in
    let is = k.turns in omega arith) in (
      met v,
      keeps,
      tt,
      subst (λ b. Kept first (stepped s 0 (either b 1 (suc n)) id [] (met v) keeps)) (sym other)
          (changed first s id v (met v) x (slice_set s.words 0 (suc n)) s.homes k c
          (k.home ∙ ap (λ m. home_of m x ∷ []) (held ∙ sym words.first))),
      ((λ found. absurd (omega arith)), (λ found. record { me = refl; parts = alone })),
    )

tried : (slots : ℕ) (first : System) (s : State Stored View) (id : ℕ) (v : View) (k : Kept first s)
    → v.out ≡ None → v.clear ≡ None → 0 < v.parts → get_elem? s.views id ≡ core.some v
    → (n : ℕ) → slice_index s.words 0 ≡ n → Tried slots first s id v n
tried slots first s id v k out unclear part at zero is =
    tried_free slots first s id v k out unclear part at is
tried slots first s id v k out unclear part at (suc n) is =
    tried_held slots first s id v n k out unclear part at is

pub take : (slots : ℕ) (first : System) (id : ℕ) (me : Knows) → IsFree me
    → Allows (Kept first) slots id me 0 (λ n. either (n == 0) 1 n)
    (Takes (step slots 0 0 1 core.none) me)
take slots first id me free =
    subst
    (λ l. Allows (Kept first) slots id (me.0, l) 0 (λ n. either (n == 0) 1 n)
    (Takes (step slots 0 0 1 core.none) (me.0, l)))
    (sym free.rests)
    (λ s k len at small.
    tried slots first s id me.0 k free.out free.clear free.part at (slice_index s.words 0) refl)

-- ---- giving back

pub not_told : (b : Bool) → (b ≡ true → ⊥) → b ≡ false
not_told true none = absurd (none refl)
not_told false none = refl

-- What was taken is as before, or has one event more. Tickets keep their slots, but those
-- of one slot.
pub record Follows (x y : Stored) (but : ℕ) : Type 0 where
  pub journal : (y.journal ≡ x.journal)
      ⊎ ((e : JournalEntry) × (y.journal ≡ x.journal ++ e ∷ []))
  pub broken : is_broken x ≡ true → is_broken y ≡ true
  pub tickets : (t : Ticket) → t.slot ≢ but → IsOfSlot x.slots t → IsOfSlot y.slots t

begins : (x y : Stored) (but : ℕ) (xs : List JournalEntry) → Follows x y but
    → IsPrefix xs x.journal → IsPrefix xs y.journal
begins x y but xs f p =
    ⊎_elim
    (λ (same : y.journal ≡ x.journal). subst (IsPrefix xs) (sym same) p)
    (λ (more : (e : JournalEntry) × (y.journal ≡ x.journal ++ e ∷ [])).
    subst (IsPrefix xs) (sym more.1) (prefix_longer xs x.journal (more.0 ∷ []) p))
    f.journal

pub fits_other : (first : System) (x y : Stored) (but : ℕ) (u : View) → Follows x y but
    → turns_of u ≡ 0 → ((t : Ticket) → IsIn t u.tickets → t.slot ≢ but) → Fits first x u
    → Fits first y u
fits_other first x y but u f free apart fits = record {
  seen = begins x y but u.seen f fits.seen;
  beside = begins x y but u.beside f fits.beside;
  told = λ told. f.broken (fits.told told);
  tickets = λ t i. f.tickets t (apart t i) (fits.tickets t i);
  enough = fits.enough;
  clear = fits.clear;
  first = fits.first;
  out = λ z is. (let one = ap one_at is in absurd (omega arith));
  idle = fits.idle;
}

pub fits_gave : (first : System) (x y : Stored) (but : ℕ) (v : View) → 0 < v.parts
    → Follows x y but → ((t : Ticket) → IsIn t v.tickets → t.slot ≢ but) → Fits first x v
    → Fits first y (gave v x y)
fits_gave first x y but v part f apart fits = record {
  seen = prefix_self y.journal;
  beside = begins x y but v.beside f fits.beside;
  told = λ told. told;
  tickets = λ t i. f.tickets t (apart t i) (fits.tickets t i);
  enough = fits.enough;
  clear = λ i is. absurd (cc is);
  first = fits.first;
  out = λ z is. absurd (cc is);
  idle = λ none. absurd (omega arith);
}

-- no ticket is of a slot behind the last
pub no_such_slot : (first : System) (x : Stored) (u : View) → Fits first x u → (t : Ticket)
    → IsIn t u.tickets → t.slot ≢ 256
no_such_slot first x u fits t i is = let low = (fits.tickets t i).within in absurd (omega arith)

pub mine_same : (mine : List ℕ) (n m : ℕ) → m ≡ n → mine_after mine n m ≡ mine
mine_same mine n m is = grind (arith, is)

pub mine_more : (mine : List ℕ) (n m : ℕ) → m ≡ suc n → mine_after mine n m ≡ mine ++ n ∷ []
mine_more mine n m is = grind (arith, is)

-- the new place is a place of the pass
pub placed : (x y : Stored) (but : ℕ) (v : View) (m : ℕ) → Follows x y but
    → times m (gave v x y).mine + once_below m (length x.journal)
    ≡ times m v.mine + once_below m (length y.journal)
placed x y but v m f =
    ⊎_elim
    (λ (same : y.journal ≡ x.journal).
    (let long : length y.journal ≡ length x.journal = ap length same in
    let mine = ap (times m) (mine_same v.mine (length x.journal) (length y.journal) long) in
    let below = ap (once_below m) long in omega arith))
    (λ (more : (e : JournalEntry) × (y.journal ≡ x.journal ++ e ∷ [])).
    (let long : length y.journal ≡ suc (length x.journal) =
    ap length more.1 ∙ (length-append x.journal (more.0 ∷ []) ∙ omega arith) in
    let mine = ap (times m) (mine_more v.mine (length x.journal) (length y.journal) long)
    ∙ times_append m v.mine (length x.journal ∷ []) in
    let below : once_below m (length y.journal)
    ≡ hit m (length x.journal) + once_below m (length x.journal) =
    ap (once_below m) long in
    omega arith))
    f.journal

-- what holds where a pass holds the turn
pub record Holds (first : System) (s : State Stored View) (id : ℕ) (v : View) (x : Stored)
    (k : Kept first s) : Type 0 where
  pub is : k.current ≡ x
  pub word : slice_index s.words 0 ≡ 1
  pub turns : turns_of v ≡ 1
  pub alone : (j : ℕ) (u : View) → j ≢ id → get_elem? s.views j ≡ core.some u → turns_of u ≡ 0
  pub home : s.homes ≡ core.none ∷ []

pub holds : (first : System) (s : State Stored View) (id : ℕ) (v : View) (x : Stored)
    (k : Kept first s) → v.out ≡ Some x → get_elem? s.views id ≡ core.some v
    → Holds first s id v x k
holds first s id v x k out at =
    let one : turns_of v ≡ 1 = ap one_at out in
    let least = total_at turns_of s.views id v at in
    let most = k.word in
    let all = k.turns in
    let word : slice_index s.words 0 ≡ 1 = omega arith in
    record {
      is = sym ((k.each id v at).out x out);
      word = word;
      turns = one;
      alone = λ j u apart there. (
          let two = total_two turns_of s.views id j v u apart at there in omega arith);
      home = k.home ∙ ap (λ n. home_of n k.current ∷ []) word;
    }

given : (first : System) (s : State Stored View) (id : ℕ) (v : View) (x y : Stored)
    (k : Kept first s) → v.out ≡ Some x → 0 < v.parts → Sound first y → Follows x y 256
    → get_elem? s.views id ≡ core.some v → Holds first s id v x k
    → Changes first s id v (gave v x y) k.current y (slice_set s.words 0 0)
given first s id v x y k out part sound f at h =
    let words = first_word s.words 0 k.words in
    let f' : Follows k.current y 256 = subst (λ z. Follows z y 256) (sym h.is) f in
    let fits = subst (λ z. Fits first z v) h.is (k.each id v at) in
    record {
      at = at;
      size = words.size;
      word = (let now = words.first in omega arith);
      turns = (let now = words.first in let held = h.word in let one = h.turns in omega arith);
      counts = λ i within. ap (λ m. m + held_in i v) (words.rest i);
      holds = inl (λ i none. none);
      clear = λ i is. absurd (cc is);
      sound = sound;
      fits = fits_gave first x y 256 v part f (no_such_slot first x v fits) fits;
      others = λ j u apart there fits. fits_other first k.current y 256 u f'
          (h.alone j u apart there) (no_such_slot first k.current u fits) fits;
      parts = refl;
      places = λ m. rw h.is (placed x y 256 v m f);
      told = λ broken. inl broken;
    }

-- what a pass has as its own places are places of the history
pub are_places : (first : System) (s : State Stored View) (id : ℕ) (v w : View) (y : Stored)
    (words : List ℕ) (k : Kept first s) → Changes first s id v w k.current y words
    → w.seen ≡ y.journal → ArePlaces w
are_places first s id v w y words k c seen = λ m. (
    let sum = total_set (times_in m) s.views id v w c.at in
    let least = total_at (times_in m) s.views id v c.at in
    let was = k.places m in
    let is = c.places m in
    let long = ap (λ es. once_below m (length es)) seen in
    omega arith)

-- the slot that was taken last, or this
abbrev pub last_of : List (ℕ × Stored) → Stored → Stored
last_of [] z = z
last_of (p ∷ ps) z = p.1

gives_told : (v : View) (x y x' y' : Stored) → v.out ≡ Some x → v.out ≡ Some x'
    → ◌≡◌ {A = List (ℕ × Stored)} ((0, y) ∷ []) ((0, y') ∷ []) → gave v x y ≡ gave v x' y'
gives_told v x y x' y' out out' me =
    let same : x ≡ x' = cc (out, out') in
    let same' : y ≡ y' = ap (λ l. last_of l y) me in
    λ i. gave v (same i) (same' i)

pub give : (slots : ℕ) (first f : System) (id : ℕ) (v : View) (x y : Stored) → v.out ≡ Some x
    → 0 < v.parts → v.first ≡ Some f → Sound f y → Follows x y 256
    → Allows (Kept first) slots id (v, (0, y) ∷ []) 0 (λ _. 0)
    (λ _. Gives (step slots 0 0 0 core.none) (v, (0, y) ∷ []) 0)
give slots first f id v x y out part is_first sound follows s k len at small =
    let h = holds first s id v x k out at in
    let same : f ≡ first = (let is = (k.each id v at).first part in cc (is_first, is)) in
    let sound' = subst (λ z. Sound z y) same sound in
    let c = given first s id v x y k out part sound' follows at h in
    let words = first_word s.words 0 k.words in (
      gave v x y,
      gives,
      tt,
      changed first s id v (gave v x y) y (slice_set s.words 0 0)
          (slice_set s.homes 0 (core.some y)) k c
          (ap (λ hs. slice_set hs 0 (core.some y)) h.home
          ∙ ap (λ n. home_of n y ∷ []) (sym words.first)),
      λ x' y' out' me. (
        ap (λ w. (w, [])) (gives_told v x y x' y' out out' me),
        are_places first s id v (gave v x y) y (slice_set s.words 0 0) k c refl,
      ),
    )
