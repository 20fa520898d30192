-- What is told of a ticket's request.
use Rattle.std.proofs.Common.{◌≡◌, ◌<◌, ℕ, List, [], ◌∷◌, refl, sym, ◌∙◌, subst, Option}
use Rattle.std.proofs.Common.{Some, None}
use mathlib.Core.Option as core
use Rattle.atomic_table.specs.Table.{Allows, rest, step}
use Rattle.gb_desk.proofs.Calling.{giving, legal_from, taken_is}
use Rattle.gb_desk.proofs.Leaving.{leave}
use Rattle.gb_desk.proofs.Taking.{behind, slot_open, started}
use Rattle.gb_desk.specs.Calls.{IsFree, WasAnswered}
use Rattle.gb_desk.specs.InTurn.{Start}
use Rattle.gb_desk.specs.Rules.{Kept}
use Rattle.gb_desk.specs.Slots.{requests_in, slot_at, told_by}
use Rattle.gb_desk.specs.Steps.{Knows, Leaves, Took, left, taking}
use Rattle.gb_desk.specs.declared.slots.Slot.{Slot}
use Rattle.gb_desk.specs.declared.slots.Told.{Told}
use Rattle.gb_desk.specs.declared.stored.Stored.{Stored}
use Rattle.gb_desk.specs.declared.ticket.Ticket.{Ticket}
use Rattle.gb_desk.specs.declared.view.View.{View}
use Rattle.gb_machine.specs.Bus.{outcome_of}
use Rattle.gb_machine.specs.Journal.{after, events_of}
use Rattle.gb_machine.specs.Members.{IsIn}
use Rattle.gb_system.specs.declared.system.System.{System}

-- the turn is given back as it was taken
pub leave_held : (slots : ℕ) (first : System) (id : ℕ) (v : View) (me : Knows) (x : Stored)
    → 0 < v.parts → Took v me → me.1 ≡ (0, x) ∷ rest me.1
    → Allows (Kept first) slots id (me.0, (0, x) ∷ rest me.1) 0 (λ _. 0)
    (λ _. Leaves (step slots 0 0 0 core.none) (me.0, (0, x) ∷ rest me.1) 0)
leave_held slots first id v me x part t is =
    subst
    (λ (m : Knows). Allows (Kept first) slots id m 0 (λ _. 0)
    (λ _. Leaves (step slots 0 0 0 core.none) m 0))
    (giving v me x x t is)
    (leave slots first id (taking v x) x refl part)

-- what the pass knows then
pub left_is : (v : View) (me me' : Knows) (x : Stored) → Took v me
    → me.1 ≡ (0, x) ∷ rest me.1
    → Leaves (step 1 0 0 0 core.none) (me.0, (0, x) ∷ rest me.1) 0 me'
    → me' ≡ (left (taking v x) x, [])
left_is v me me' x t is leaves =
    let leaves' = subst (λ (m : Knows). Leaves (step 1 0 0 0 core.none) m 0 me')
    (sym (giving v me x x t is)) leaves in
    leaves' x refl refl

pub free_then : (l : List (ℕ × Stored)) (v : View) (me me' : Knows) (x : Stored) → IsFree (v, l)
    → Took v me → me.1 ≡ (0, x) ∷ rest me.1
    → Leaves (step 1 0 0 0 core.none) (me.0, (0, x) ∷ rest me.1) 0 me' → IsFree me'
free_then l v me me' x free t is leaves =
    subst IsFree (sym (left_is v me me' x t is leaves)) record {
      rests = refl;
      out = refl;
      clear = refl;
      beside = free.beside;
      part = free.part;
      enough = free.enough;
      within = free.within;
    }

told_left : (v : View) (x : Stored) (first : System) (t : Ticket) (told : Option Told)
    → Start v x first → IsIn t v.tickets
    → ((z : Slot) → slot_at t.slot x.slots ≡ Some z → told ≡ z.told)
    → WasAnswered v t.number told (left (taking v x) x)
told_left v x first t told st there is =
    let of = st.tickets t there in
    let same = is of.slot of.there in
    record {
      seen = st.seen;
      legal = legal_from first x v st.is_first st.sound;
      told_is = behind v x first st (λ u. told_by (outcome_of t.number u.bus) ≡ told)
          (λ s stands.
          (let h = (st.sound.follows s stands).slots in
          subst (λ n. told_by (outcome_of n (after s (events_of x.journal)).bus) ≡ told) of.number
          (h.told t.slot of.slot of.there ∙ sym same)));
      open_is = behind v x first st (λ u. told ≡ None → outcome_of t.number u.bus ≡ None)
          (λ s stands none.
          (let f = st.sound.follows s stands in
          subst (λ n. outcome_of n (after s (events_of x.journal)).bus ≡ None) of.number
          (slot_open (after s (events_of x.journal)) (requests_in x.journal) x.slots t.slot of.slot
          f.run f.slots of.there (sym same ∙ none))));
      rest = λ i. record (left (taking v x) x) { clear = sym st.clear i; out = sym st.out i };
    }

pub tells : (l : List (ℕ × Stored)) (v : View) (me me' : Knows) (x : Stored) (t : Ticket)
    (told : Option Told) → IsFree (v, l) → (took : Took v me) → me.1 ≡ (0, x) ∷ rest me.1
    → Leaves (step 1 0 0 0 core.none) (me.0, (0, x) ∷ rest me.1) 0 me' → IsIn t v.tickets
    → ((z : Slot) → slot_at t.slot x.slots ≡ Some z → told ≡ z.told)
    → WasAnswered v t.number told me'.0
tells l v me me' x t told free took is leaves there says =
    let same = taken_is v me x took is in
    let st = subst (λ z. Start v z took.first) same (started l v me free took) in
    subst (λ (m : Knows). WasAnswered v t.number told m.0)
    (sym (left_is v me me' x took is leaves))
    (told_left v x took.first t told st there says)
