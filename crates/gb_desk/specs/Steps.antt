-- How each step changes what a pass knows, and what it tells.
use Rattle.std.specs.Prelude.{◌≡◌, ◌≢◌, ℕ, ◌+◌, ◌-◌, ◌==◌, ◌≤◌, true}
use Rattle.std.specs.Prelude.{if◌then◌else◌, nat_lt, List, [], ◌∷◌, ◌++◌, length, Some}
use Rattle.std.specs.Prelude.{None, ◌||◌}
use mathlib.Core.List.{IsPrefix}
use Rattle.atomic_table.specs.Table.{Me, Step}
use Rattle.gb_base.specs.declared.journal.JournalEntry.{JournalEntry}
use Rattle.gb_desk.specs.declared.stored.Stored.{Stored}
use Rattle.gb_desk.specs.declared.view.View.{View}
use Rattle.gb_desk.specs.Rules.{IsOfSlot, Sound, all_parts, once_below}
use Rattle.gb_desk.specs.Slots.{slot_at, times}
use Rattle.gb_desk.specs.Tickets.{HasTicket, fewer, held, ticket}
use Rattle.gb_desk.specs.Turns.{is_broken}
use Rattle.gb_desk.specs.declared.slots.Slot.{Slot}
use Rattle.gb_desk.specs.declared.ticket.Ticket.{Ticket}
use Rattle.gb_machine.specs.Members.{IsIn}
use Rattle.gb_system.specs.declared.system.System.{System}

-- what a pass knows, with the slot that it holds
abbrev pub Knows : Type 0
Knows = Me Stored View

-- ---- the turn is taken

-- a pass that met another one that holds the turn
abbrev pub met : View → View
met v = record v { met = v.met + 1 }

-- a pass that holds the turn, and has found these requests to have tickets
abbrev pub using : View → Stored → List ℕ → View
using v x numbers = record v { out = Some x; used = numbers }

-- a pass that holds the turn
abbrev pub taking : View → Stored → View
taking v x = using v x []

-- The turn was got, and what is shared with it.
pub record Took (v : View) (after : Knows) : Type 0 where
  pub shared : Stored
  pub first : System
  pub me : after ≡ (taking v shared, (0, shared) ∷ [])
  pub is_first : v.first ≡ Some first
  pub sound : Sound first shared
  pub seen : IsPrefix v.seen shared.journal
  pub told : v.told ≡ true → is_broken shared ≡ true
  pub tickets : (t : Ticket) → IsIn t v.tickets → IsOfSlot shared.slots t

-- The turn was held by another pass, so this one hasn't all parts.
pub record Met (v : View) (after : Knows) : Type 0 where
  pub me : after ≡ (met v, [])
  pub parts : v.parts ≢ all_parts

-- one try to take the turn
abbrev pub Takes : Step Stored → Knows → ℕ → Knows → Type 0
Takes st me n me' = (n ≡ 0 → Took me.0 me') × (n ≢ 0 → Met me.0 me')

-- ---- the turn is given back

-- the places of a pass, with a new one where the history grew
abbrev pub mine_after : List ℕ → ℕ → ℕ → List ℕ
mine_after mine before now = if before == now then mine else mine ++ before ∷ []

-- a pass that took x and gave y back
abbrev pub gave : View → Stored → Stored → View
gave v x y = record v {
  seen = y.journal;
  mine = mine_after v.mine (length x.journal) (length y.journal);
  told = is_broken y;
  clear = None;
  out = None;
}

-- a pass that took x and gave it back
abbrev pub left : View → Stored → View
left v x = record v { seen = x.journal; clear = None; out = None }

-- the turn is given back, and nothing was changed in it
abbrev pub Leaves : Step Stored → Knows → ℕ → Knows → Type 0
Leaves st me n me' = (x : Stored) → me.0.out ≡ Some x → me.1 ≡ (0, x) ∷ []
    → me' ≡ (left me.0 x, [])

-- no place stands twice, and each is one of the history that was seen
abbrev pub ArePlaces : View → Type 0
ArePlaces v = (n : ℕ) → times n v.mine ≤ once_below n (length v.seen)

-- the turn is given back
abbrev pub Gives : Step Stored → Knows → ℕ → Knows → Type 0
Gives st me n me' = (x y : Stored) → me.0.out ≡ Some x → me.1 ≡ (0, y) ∷ []
    → (me' ≡ (gave me.0 x y, [])) × ArePlaces me'.0

-- ---- the counts of tickets

-- a pass that found a slot to have no ticket
abbrev pub clearing : ℕ → View → View
clearing i v = record v { clear = Some i }

-- No ticket of the slot was found.
pub record IsClear (i : ℕ) (me me' : Knows) : Type 0 where
  pub none : held i me.0.tickets ≡ 0
  pub is : me' ≡ (clearing i me.0, me.1)

-- Tickets of the slot were found. Where the pass has all parts, they are its own.
pub record IsHeld (i : ℕ) (x : Stored) (me me' : Knows) : Type 0 where
  pub slot : Slot
  pub there : slot_at i x.slots ≡ Some slot
  pub is : me' ≡ (record me.0 { used = slot.number ∷ me.0.used }, me.1)
  pub own : me.0.parts ≡ all_parts → HasTicket me.0.tickets slot.number

-- the count of a slot is read in a turn
abbrev pub Looks : Step Stored → Knows → ℕ → Knows → Type 0
Looks st me n me' = (i : ℕ) (x : Stored) → st.word ≡ i + 1 → me.0.out ≡ Some x
    → (n ≡ 0 → IsClear i me me') × (n ≢ 0 → IsHeld i x me me')

-- a pass that took x, and did an event that asked request n, which gets slot i
abbrev pub opening : ℕ → ℕ → View → Stored → Stored → View
opening i n v x y = record v {
  seen = y.journal;
  mine = mine_after v.mine (length x.journal) (length y.journal);
  told = is_broken y;
  tickets = ticket i n ∷ v.tickets;
  clear = None;
  out = Some y;
}

-- the first ticket of a request is made in a turn
abbrev pub Opens : Step Stored → Knows → ℕ → Knows → Type 0
Opens st me n me' = (i : ℕ) (x y : Stored) (z : Slot) → st.word ≡ i + 1 → me.0.out ≡ Some x
    → me.1 ≡ (0, y) ∷ [] → slot_at i y.slots ≡ Some z
    → me' ≡ (opening i z.number me.0 x y, me.1)

-- one more ticket of a request
abbrev pub Retains : Step Stored → Knows → ℕ → Knows → Type 0
Retains st me n me' = (t : Ticket) → st.word ≡ t.slot + 1 → IsIn t me.0.tickets
    → me' ≡ (record me.0 { tickets = t ∷ me.0.tickets }, me.1)

-- one ticket of a request less
abbrev pub Releases : Step Stored → Knows → ℕ → Knows → Type 0
Releases st me n me' = (t : Ticket) → st.word ≡ t.slot + 1 → IsIn t me.0.tickets
    → me' ≡ (record me.0 { tickets = fewer t me.0.tickets }, me.1)

-- ---- passes are cut and put together

-- a pass without some of its parts
abbrev pub stays : ℕ → View → View
stays k v = record v { parts = v.parts - k; cuts = v.cuts + 1 }

-- a pass that was cut off, with these parts
abbrev pub goes : ℕ → View → View
goes k v = record v { mine = []; parts = k; met = 0; cuts = 0; tickets = []; used = [] }

abbrev pub longer : List JournalEntry → List JournalEntry → List JournalEntry
longer xs ys = if nat_lt (length xs) (length ys) then ys else xs

-- two passes together, which remember what each of them has seen
abbrev pub both : View → View → View
both v w = record v {
  beside = w.seen;
  mine = v.mine ++ w.mine;
  parts = v.parts + w.parts;
  told = v.told || w.told;
  tickets = v.tickets ++ w.tickets;
}

-- a pass that knows which of two beginnings of the history is the longer one
abbrev pub settled : View → View
settled v = record v { seen = longer v.seen v.beside; beside = [] }

-- both beginnings are ones of the longer, and no pass has more than all parts
abbrev pub Settles : Step Stored → Knows → ℕ → Knows → Type 0
Settles st me n me' = (me' ≡ (settled me.0, me.1))
    × IsPrefix me.0.seen me'.0.seen × IsPrefix me.0.beside me'.0.seen
    × (me.0.parts ≤ all_parts)
