-- When all slots are taken, and when not.
use Rattle.std.proofs.Common.{◌≡◌, ◌≢◌, ◌⊎◌, ℕ, ◌<◌, inl, inr, ⊎_elim, List}
use Rattle.std.proofs.Common.{length, sym, ap, ◌∙◌, subst, arith, Option, Some, None}
use Rattle.std.specs.Prelude.{slice_set}
use Rattle.gb_desk.proofs.Holding.{held_one}
use Rattle.gb_desk.proofs.SlotLists.{HasSlot, all_numbers, no_more, number_slot, number_stays}
use Rattle.gb_desk.proofs.SlotLists.{numbers_fewer, slot_number, slot_other}
use Rattle.gb_desk.proofs.Slotting.{open_untold}
use Rattle.gb_desk.specs.Calls.{AreTaken, IsFree, OfState}
use Rattle.gb_desk.specs.InTurn.{IsTaken, Start}
use Rattle.gb_desk.specs.Rules.{IsOfSlot, all_parts}
use Rattle.gb_desk.specs.Slots.{IsEnded, SlotsStand, numbers_of, requests_in, slot_at}
use Rattle.gb_desk.specs.Slots.{told_by}
use Rattle.gb_desk.specs.Steps.{Knows, Took}
use Rattle.gb_desk.specs.Tickets.{HasTicket, held}
use Rattle.gb_desk.specs.declared.slots.Slot.{Slot}
use Rattle.gb_desk.specs.declared.stored.Stored.{Stored}
use Rattle.gb_desk.specs.declared.ticket.Ticket.{Ticket}
use Rattle.gb_desk.specs.declared.view.View.{View}
use Rattle.gb_laws.proofs.tickets.Tickets.{twoway-never_sent}
use Rattle.gb_machine.specs.Bus.{outcome_of}
use Rattle.gb_machine.specs.Journal.{after, events_of}
use Rattle.gb_machine.specs.Members.{IsIn}
use Rattle.gb_machine.specs.Reached.{OfARun}
use Rattle.gb_machine.specs.State as machine
use Rattle.gb_system.specs.Stands.{Stands}
use Rattle.gb_system.specs.declared.system.System.{System}

pub started : (l : List (ℕ × Stored)) (v : View) (me : Knows) → IsFree (v, l) → (t : Took v me)
    → Start v t.shared t.first
started l v me free t = record {
  out = free.out;
  clear = free.clear;
  beside = free.beside;
  part = free.part;
  enough = free.enough;
  is_first = t.is_first;
  seen = t.seen;
  told = t.told;
  tickets = t.tickets;
  sound = t.sound;
}

-- a fact of the states to which the history leads
pub behind : (v : View) (x : Stored) (first : System) → Start v x first
    → (holds : machine.State → Type 0)
    → ((s : machine.State) → Stands first s → holds (after s (events_of x.journal)))
    → OfState v.first x.journal holds
behind v x first st holds so z is_z s stands =
    let is = st.is_first in
    let same : first ≡ z = cc (is, is_z) in so s (subst (λ y. Stands y s) (sym same) stands)

-- an open request has a slot whose request is open
pub slot_open : (t : machine.State) (made : List ℕ) (slots : List (Option Slot)) (i : ℕ)
    (x : Slot) → OfARun t → SlotsStand t made slots → slot_at i slots ≡ Some x → x.told ≡ None
    → outcome_of x.number t.bus ≡ None
slot_open t made slots i x run h there open_ =
    open_untold (outcome_of x.number t.bus)
    (twoway-never_sent t run x.number
    (h.twoway x.number (h.made_in x.number (slot_number slots i x there))))
    (h.told i x there ∙ open_)

-- ---- all are taken

-- a number of a taken slot is one of a request that is open, or has a ticket
taken_one : (t : machine.State) (made : List ℕ) (x : Stored) (used : List ℕ) (n : ℕ)
    → length x.slots ≡ 256 → OfARun t → SlotsStand t made x.slots
    → ((i : ℕ) → i < 256 → IsTaken x used i) → HasSlot x.slots n
    → (outcome_of n t.bus ≡ None) ⊎ IsIn n used
taken_one t made x used n long run h taken s =
    let low = s.within in
    let k = taken s.place (omega arith) in
    let one = s.there in
    let other = k.there in
    let same : k.slot ≡ s.slot = cc (one, other) in
    let number : k.slot.number ≡ n = ap (λ (z : Slot). z.number) same ∙ s.number in
    ⊎_elim
    (λ (open_ : k.slot.told ≡ None).
    inl (subst (λ m. outcome_of m t.bus ≡ None) number
    (slot_open t made x.slots s.place k.slot run h k.there open_)))
    (λ (i : IsIn k.slot.number used). inr (subst (λ m. IsIn m used) number i))
    k.why

pub are_taken : (v : View) (x : Stored) (first : System) (used : List ℕ) → Start v x first
    → ((i : ℕ) → i < 256 → IsTaken x used i) → (s : machine.State) → Stands first s
    → AreTaken (after s (events_of x.journal)) x.journal (λ n. IsIn n used)
are_taken v x first used st taken s stands =
    let f = st.sound.follows s stands in
    let h = f.slots in
    let long = st.sound.long in
    let many = all_numbers x.slots
    (λ i low. (let k = taken i (omega arith) in (k.slot, k.there))) in
    record {
      numbers = numbers_of x.slots;
      enough = omega arith;
      once = h.once;
      each = λ n i. (
        h.made_in n i,
        taken_one (after s (events_of x.journal)) (requests_in x.journal) x used n long f.run h
            taken
            (number_slot x.slots n i),
      );
    }

-- ---- one is free

-- a request that is open, or has a ticket, has another slot than a free one
other_slot : (t : machine.State) (made : List ℕ) (v : View) (x : Stored) (at n : ℕ)
    → SlotsStand t made x.slots → ((k : Ticket) → IsIn k v.tickets → IsOfSlot x.slots k)
    → IsEnded (slot_at at x.slots) → held at v.tickets ≡ 0 → IsIn n made
    → (outcome_of n t.bus ≡ None) ⊎ HasTicket v.tickets n
    → IsIn n (numbers_of (slice_set x.slots at None))
other_slot t made v x at n h tickets ended none is_made why =
    ⊎_elim
    (λ (open_ : outcome_of n t.bus ≡ None).
    number_stays x.slots at n None (λ y there same. (
    let closed = subst IsEnded there ended in
    let is = h.told at y there in
    let untold = ap (λ m. told_by (outcome_of m t.bus)) same ∙ ap told_by open_ in
    cc (is, untold, closed.1)))
    (h.all n is_made open_))
    (λ (k : HasTicket v.tickets n). (
    let of = tickets k.0 k.1 in
    let apart : k.0.slot ≢ at = λ same. (
    let one = held_one k.0 v.tickets k.1 in
    let is = ap (λ j. held j v.tickets) same in omega arith) in
    subst (λ m. IsIn m (numbers_of (slice_set x.slots at None))) (of.number ∙ k.2)
    (slot_number (slice_set x.slots at None) k.0.slot of.slot
    (slot_other x.slots at k.0.slot None apart ∙ of.there))))
    why

pub none_taken : (v : View) (x : Stored) (first : System) (at : ℕ) → Start v x first → at < 256
    → IsEnded (slot_at at x.slots) → held at v.tickets ≡ 0 → v.parts ≡ all_parts
    → OfState v.first x.journal (λ t. AreTaken t x.journal (HasTicket v.tickets) → ⊥)
none_taken v x first at st within ended none all =
    behind v x first st (λ t. AreTaken t x.journal (HasTicket v.tickets) → ⊥) (λ s stands taken. (
    let h = (st.sound.follows s stands).slots in
    let long = st.sound.long in
    let most = no_more taken.numbers (numbers_of (slice_set x.slots at None)) taken.once
    (λ n i. (let e = taken.each n i in
    other_slot (after s (events_of x.journal)) (requests_in x.journal) v x at n h st.tickets ended
    none e.0 e.1)) in
    let low = numbers_fewer x.slots at (omega arith) in
    let enough = taken.enough in omega arith))
