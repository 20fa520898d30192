-- Slots stand for the requests of a history also once an event was done.
use Rattle.std.proofs.Common.{◌≡◌, ◌≢◌, ℕ, ◌<◌, ◌≤◌, inl, ⊎_elim, Bool, true}
use Rattle.std.proofs.Common.{false}
use Rattle.std.proofs.lemmas.Bool.Decides.{nat_tests}
use Rattle.std.proofs.Common.{Option, Some, None, List, [], ◌∷◌, ◌++◌, length, refl, sym, ap, ◌∙◌}
use Rattle.std.proofs.Common.{subst, append_assoc, append-nil, arith}
use Rattle.std.specs.Prelude.{◌==◌, option_map, slice_set}
use Rattle.gb_base.specs.declared.entry.Entry.{Entry}
use Rattle.gb_base.specs.declared.event.Event.{Event}
use Rattle.gb_base.specs.declared.journal.JournalEntry.{JournalEntry}
use Rattle.gb_base.specs.declared.outcome.Outcome.{Outcome}
use Rattle.gb_base.specs.declared.outcome.Outcome.TheVariants as outcome
use Rattle.gb_desk.proofs.Holding.{hit_other, hit_same}
use Rattle.gb_desk.proofs.SlotLists.{map_as_long, number_set, number_stays, numbers_noted}
use Rattle.gb_desk.proofs.SlotLists.{slot_noted, slot_number, slot_other}
use Rattle.gb_desk.proofs.SlotLists.{slot_same, times_none, times_set}
use Rattle.gb_desk.specs.Slots.{IsEnded, SlotsStand, all_noted, new_slot, noted, numbers_of}
use Rattle.gb_desk.specs.Slots.{request_in, requests_in, slot_at, times, told_by}
use Rattle.gb_desk.specs.declared.slots.Slot.{Slot}
use Rattle.gb_desk.specs.declared.slots.Told.{Told}
use Rattle.gb_formats.specs.ValidEvents.{IsValid}
use Rattle.gb_invariants.proofs.Lists.{in-append, in-behind, in-front}
use Rattle.gb_laws.proofs.tickets.TicketEnds.{ends-as_told}
use Rattle.gb_laws.proofs.tickets.Tickets.{twoway-never_sent, twoway-stays}
use Rattle.gb_laws.specs.Tickets.{Asks, IsTwoway, end_in}
use Rattle.gb_machine.proofs.Lists.{nth-past}
use Rattle.gb_machine.specs.Bus.{next_number, or_else, outcome_of, request_of}
use Rattle.gb_machine.specs.Events.{step}
use Rattle.gb_machine.specs.Members.{IsIn}
use Rattle.gb_machine.specs.Reached.{OfARun}
use Rattle.gb_machine.specs.State.{State}

-- ---- the requests of a history

pub requests_more : (es : List JournalEntry) (e : JournalEntry)
    → requests_in (es ++ e ∷ []) ≡ requests_in es ++ request_in e
requests_more [] e = append-nil (request_in e)
requests_more (x ∷ es) e =
    ap (λ ns. request_in x ++ ns) (requests_more es e)
    ∙ sym (append_assoc (request_in x) (requests_in es) (request_in e))

-- ---- outcomes

-- what was told stays
told_on : (o more : Option Outcome) (told : Option Told) → o ≢ Some outcome.Sent
    → told_by o ≡ told → told_by (or_else o more) ≡ or_else told (told_by more)
told_on None more told other is = ap (λ t. or_else t (told_by more)) is
told_on (Some outcome.Sent) more told other is = absurd (other refl)
told_on (Some (outcome.Answered result payload)) more told other is =
    sym (ap (λ t. or_else t (told_by more)) (sym is))
told_on (Some outcome.Cancelled) more told other is =
    sym (ap (λ t. or_else t (told_by more)) (sym is))
told_on (Some outcome.Timeout) more told other is =
    sym (ap (λ t. or_else t (told_by more)) (sym is))
told_on (Some outcome.Disconnected) more told other is =
    sym (ap (λ t. or_else t (told_by more)) (sym is))

-- nothing is told of an open request alone
pub open_untold : (o : Option Outcome) → o ≢ Some outcome.Sent → told_by o ≡ None → o ≡ None
open_untold None other is = refl
open_untold (Some outcome.Sent) other is = absurd (other refl)
open_untold (Some (outcome.Answered result payload)) other is = absurd cc
open_untold (Some outcome.Cancelled) other is = absurd cc
open_untold (Some outcome.Timeout) other is = absurd cc
open_untold (Some outcome.Disconnected) other is = absurd cc

-- what is there is something noted
noted_from : (es : List Entry) (o : Option Slot) (y : Slot) → option_map (noted es) o ≡ Some y
    → (x : Slot) × (o ≡ Some x) × (y ≡ noted es x)
noted_from es None y is = absurd cc
noted_from es (Some x) y is = (x, refl, (let same : noted es x ≡ y = cc in sym same))

-- open once more is told was open before
open_before : (o more : Option Outcome) → or_else o more ≡ None → o ≡ None
open_before None more is = refl
open_before (Some how) more is = absurd cc

-- ---- an event

module _ (t : State) (e : Event) (run : OfARun t) (valid : IsValid e) where
  -- what an event brings about
  abbrev told : List Entry
  told = (step t e).entries

  -- the state after it
  abbrev later : State
  later = (step t e).state

  -- the requests stay the same
  pub stand_on : (made : List ℕ) (slots : List (Option Slot)) → SlotsStand t made slots
      → SlotsStand later made (all_noted told slots)
  stand_on made slots h = record {
    twoway = λ n i. twoway-stays t e run valid n (h.twoway n i);
    told = λ i y is. (
        let f = noted_from told (slot_at i slots) y (sym (slot_noted told slots i) ∙ is) in
        let n = f.0.number in
        let two = h.twoway n (h.made_in n (slot_number slots i f.0 f.1)) in
        subst (λ z. told_by (outcome_of z.number later.bus) ≡ z.told) (sym f.2)
        (ap told_by (ends-as_told t e run valid n two)
        ∙ told_on (outcome_of n t.bus) (end_in n told) f.0.told
        (twoway-never_sent t run n two) (h.told i f.0 f.1)));
    made_in = λ n i. h.made_in n (subst (IsIn n) (numbers_noted told slots) i);
    once = λ n. subst (λ ns. times n ns ≤ 1) (sym (numbers_noted told slots)) (h.once n);
    all = λ n i free. subst (IsIn n) (sym (numbers_noted told slots))
        (h.all n i (open_before (outcome_of n t.bus) (end_in n told)
        (sym (ends-as_told t e run valid n (h.twoway n i)) ∙ free)));
  }

  -- the new request wasn't made before
  unmade : IsTwoway (next_number t.bus) t.bus → ⊥
  unmade w =
      let none : request_of (next_number t.bus) t.bus ≡ None =
      nth-past (next_number t.bus) t.bus.requests (omega arith) in
      let made = w.made in cc (none, made)

  -- an ended slot goes on being one
  still_ended : (o : Option Slot) (y : Slot) → IsEnded o → option_map (noted told) o ≡ Some y
      → (k : Told) × (y.told ≡ Some k)
  still_ended None y ended is = absurd cc
  still_ended (Some x) y ended is =
      let same : noted told x ≡ y = cc in (
        ended.0,
        ap (λ (z : Slot). z.told) (sym same)
            ∙ ap (λ k. or_else k (told_by (end_in x.number told))) ended.1,
      )

  -- a request more, in a slot that was free
  pub stand_asked : (made : List ℕ) (slots : List (Option Slot)) (at : ℕ)
      → SlotsStand t made slots → Asks t e → at < length slots → IsEnded (slot_at at slots)
      → SlotsStand later (made ++ next_number t.bus ∷ [])
      (slice_set (all_noted told slots) at (Some (new_slot (next_number t.bus))))
  stand_asked made slots at h a within ended = record {
    twoway = λ k i. ⊎_elim (s.twoway k)
        (λ last. ⊎_elim (λ is. subst (λ m. IsTwoway m later.bus) (sym is) a.made)
        (λ none. absurd none) last)
        (in-append k made (n ∷ []) i);
    told = λ i y is. told_at i y is (i == at) refl;
    made_in = λ k i. ⊎_elim
        (λ is. in-behind k made (n ∷ []) (inl is))
        (λ old. in-front k made (n ∷ []) (s.made_in k old))
        (number_set (all_noted told slots) at k (new_slot n) i);
    once = λ k. once_at k (n == k) refl;
    all = λ k i free. ⊎_elim (λ old. kept k free (s.all k old free))
        (λ last. ⊎_elim (λ is. subst (λ m. IsIn m numbers) (sym is) given)
        (λ none. absurd none) last)
        (in-append k made (n ∷ []) i);
  }
    where
      n : ℕ
      n = next_number t.bus

      new : Option Slot
      new = Some (new_slot n)

      s : SlotsStand later made (all_noted told slots)
      s = stand_on made slots h

      -- the slot is one of them
      inside : at < length (all_noted told slots)
      inside = let long = map_as_long (option_map (noted told)) slots in omega arith

      numbers : List ℕ
      numbers = numbers_of (slice_set (all_noted told slots) at new)

      there : slot_at at (slice_set (all_noted told slots) at new) ≡ new
      there = slot_same (all_noted told slots) at new inside

      given : IsIn n numbers
      given = slot_number (slice_set (all_noted told slots) at new) at (new_slot n) there

      told_at : (i : ℕ) (y : Slot) → slot_at i (slice_set (all_noted told slots) at new) ≡ Some y
          → (b : Bool) → (i == at) ≡ b → told_by (outcome_of y.number later.bus) ≡ y.told
      told_at i y is true same =
          let here : i ≡ at = grind (arith, nat_tests) in
          let found : Some (new_slot n) ≡ Some y =
          sym there
          ∙ (ap (λ j. slot_at j (slice_set (all_noted told slots) at new)) (sym here) ∙ is) in
          let slot : new_slot n ≡ y = cc in
          subst (λ z. told_by (outcome_of z.number later.bus) ≡ z.told) slot (ap told_by a.unended)
      told_at i y is false apart =
          s.told i y (sym (slot_other (all_noted told slots) at i new
          (λ same. grind (arith, nat_tests))) ∙ is)

      once_at : (k : ℕ) (b : Bool) → (n == k) ≡ b → times k numbers ≤ 1
      once_at k true same =
          let here : n ≡ k = grind (arith, nat_tests) in
          let most = times_set (all_noted told slots) at n (new_slot n) in
          let one = hit_same n in
          let none = times_none n (numbers_of (all_noted told slots))
          (λ i. unmade (h.twoway n (s.made_in n i))) in
          subst (λ m. times m numbers ≤ 1) here (omega arith)
      once_at k false apart =
          let most = times_set (all_noted told slots) at k (new_slot n) in
          let none = hit_other k n (λ same. grind (arith, nat_tests)) in
          let before = s.once k in omega arith

      kept : (k : ℕ) → outcome_of k later.bus ≡ None → IsIn k (numbers_of (all_noted told slots))
          → IsIn k numbers
      kept k free i =
          number_stays (all_noted told slots) at k new
          (λ x is same. (
          let closed = still_ended (slot_at at slots) x ended
          (sym (slot_noted told slots at) ∙ is) in
          let open_told = ap (λ m. told_by (outcome_of m later.bus)) same ∙ ap told_by free in
          let is_told = s.told at x is in
          cc (open_told, is_told, closed.1)))
          i
