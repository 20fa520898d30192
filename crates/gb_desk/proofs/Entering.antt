-- What an event leaves of what is shared.
use Rattle.std.proofs.Common.{◌≡◌, ℕ, ◌+◌, ◌<◌, inl, inr, Bool, true, false, List, [], ◌∷◌}
use Rattle.std.proofs.Common.{◌++◌, length, length-append, refl, sym, ap, ◌∙◌, subst, arith}
use Rattle.std.proofs.Common.{append-nil, Option, Some, None, is_some}
use Rattle.std.specs.Prelude.{if◌then◌else◌, option_map, slice_set}
use Rattle.gb_base.specs.declared.entry.Entry.{Entry}
use Rattle.gb_base.specs.declared.event.Event.{Event}
use Rattle.gb_base.specs.declared.journal.JournalEntry.{JournalEntry}
use Rattle.gb_base.specs.declared.refusal.Refusal.{Refusal}
use Rattle.gb_desk.proofs.Histories.{after_more, legal_more}
use Rattle.gb_desk.proofs.SlotLists.{map_as_long, set_as_long, slot_noted, slot_other}
use Rattle.gb_desk.proofs.Slotting.{requests_more, stand_asked, stand_on}
use Rattle.gb_desk.proofs.Turning.{Follows}
use Rattle.gb_desk.specs.Rules.{FollowsFrom, IsOfSlot, Sound}
use Rattle.gb_desk.specs.Slots.{IsEnded, SlotsStand, all_noted, listed, new_slot, noted, request_in}
use Rattle.gb_desk.specs.Slots.{requests_in, slot_at}
use Rattle.gb_base.specs.declared.errors.OutOfMemory.{OutOfMemory}
use Rattle.gb_desk.specs.Turns.{Breaks, Done, Enters, entry_of, with_new, is_broken}
use Rattle.gb_desk.specs.declared.slots.Slot.{Slot}
use Rattle.gb_desk.specs.declared.stored.Stored.{Stored}
use Rattle.gb_desk.specs.declared.ticket.Ticket.{Ticket}
use Rattle.gb_formats.specs.ValidEvents.{IsValid}
use Rattle.gb_laws.proofs.runs.Reached.{reached-step}
use Rattle.gb_laws.proofs.tickets.TicketLines.{lines-ask}
use Rattle.gb_laws.specs.Tickets.{Asks, asked_in}
use Rattle.gb_machine.specs.AskingEvents.{asks}
use Rattle.gb_machine.proofs.Steps.{step-refused}
use Rattle.gb_machine.specs.Bus.{next_number}
use Rattle.gb_machine.specs.Events.{step}
use Rattle.gb_machine.specs.Journal.{IsLegal, after, events_of}
use Rattle.gb_machine.specs.Reached.{OfARun}
use Rattle.gb_machine.specs.Refusals.{refusal}
use Rattle.gb_machine.specs.State as machine
use Rattle.gb_system.specs.Stands.{Stands, taken_of}
use Rattle.gb_system.specs.declared.system.System.{System}

-- ---- the history

one_more : (xs : List JournalEntry) (x : JournalEntry) → length (xs ++ x ∷ []) ≡ length xs + 1
one_more xs x = length-append xs (x ∷ [])

pub longer_by_one : (x y : Stored) (by : ℕ) (e : Event) (entries : List Entry)
    → Enters x by e entries y → length y.journal ≡ length x.journal + 1
longer_by_one x y by e entries n =
    ap length n.done.journal ∙ one_more x.journal (entry_of by e entries)

-- what stands for one state, history and slots, and for others that are the same
stand_as : (t u : machine.State) (made also : List ℕ) (slots same : List (Option Slot)) → u ≡ t
    → also ≡ made → same ≡ slots → SlotsStand t made slots → SlotsStand u also same
stand_as t u made also slots same a b c h =
    subst (λ z. SlotsStand z also same) (sym a)
    (subst (λ z. SlotsStand t z same) (sym b) (subst (SlotsStand t made) (sym c) h))

-- ---- an event

module _ (s : machine.State) (x y : Stored) (tag : ℕ) (e : Event) (entries : List Entry)
    (valid : IsValid e) (whole : is_broken x ≡ false) (d : Done x tag e entries y)
    (f : FollowsFrom s x) where
  abbrev before : machine.State
  before = after s (events_of x.journal)

  abbrev new : JournalEntry
  new = entry_of tag e entries

  state_is : after s (events_of y.journal) ≡ (step before e).state
  state_is = ap (λ j. after s (events_of j)) d.journal ∙ after_more s x.journal new

  did : (entries ≡ (step before e).entries) × Stands y.system (step before e).state
  did = d.steps before (f.stands whole)

  slots_are : y.slots ≡ all_noted (step before e).entries x.slots
  slots_are = d.slots ∙ ap (λ es. all_noted es x.slots) did.0

  requests_are : requests_in y.journal ≡ requests_in x.journal ++ request_in new
  requests_are = ap requests_in d.journal ∙ requests_more x.journal new

  -- the history goes on being legal, where the slots stand
  goes_on : (slots : List (Option Slot))
      → SlotsStand (step before e).state (requests_in y.journal) slots
      → FollowsFrom s (record y { slots = slots })
  goes_on slots stand = record {
    legal =
        subst (λ j. IsLegal s j (after s (events_of j))) (sym d.journal)
        (subst (IsLegal s (x.journal ++ new ∷ [])) (sym (after_more s x.journal new))
        (legal_more s before x.journal new f.legal did.0));
    run = subst OfARun (sym state_is) (reached-step before e valid f.run);
    slots = subst (λ t. SlotsStand t (requests_in y.journal) slots) (sym state_is) stand;
    stands = λ _. subst (Stands y.system) (sym state_is) did.1;
  }

  -- an event that asks no request of its own
  pub follows_plain : request_in new ≡ [] → FollowsFrom s y
  follows_plain none =
      goes_on y.slots (stand_as (step before e).state (step before e).state
      (requests_in x.journal) (requests_in y.journal)
      (all_noted (step before e).entries x.slots) y.slots refl
      (requests_are ∙ ap (λ ns. requests_in x.journal ++ ns) none
      ∙ append-nil (requests_in x.journal))
      slots_are (stand_on before e f.run valid (requests_in x.journal) x.slots f.slots))

  -- what asks a request isn't refused, and the request is the next
  pub asked_is : (n : ℕ) → asks e ≡ true → asked_in entries ≡ Some n
      → (refusal before e ≡ None) × Asks before e × (n ≡ next_number before.bus)
  asked_is n asking is = by (refusal before e) refl
    where
      by : (o : Option Refusal) → refusal before e ≡ o
          → (refusal before e ≡ None) × Asks before e × (n ≡ next_number before.bus)
      by None free =
          let a = lines-ask before e f.run valid asking free in
          let told = sym (ap asked_in did.0) ∙ is in
          let also = a.told in
          (free, a, (let same : n ≡ next_number before.bus = cc (told, also) in same))
      by (Some why) unmet =
          absurd (let none = ap asked_in (did.0
          ∙ ap (λ t. t.entries) (step-refused before e why unmet)) in cc (none, is))

  -- what asks none was refused
  pub refused_is : asks e ≡ true → asked_in entries ≡ None
      → (why : Refusal) × (refusal before e ≡ Some why)
  refused_is asking is = by (refusal before e) refl
    where
      by : (o : Option Refusal) → refusal before e ≡ o
          → (why : Refusal) × (refusal before e ≡ Some why)
      by None free =
          let a = lines-ask before e f.run valid asking free in
          let told = sym (ap asked_in did.0) ∙ is in
          let also = a.told in absurd (cc (told, also))
      by (Some why) unmet = (why, unmet)

  -- the request that it asks gets a slot that was free
  pub follows_asked : (at n : ℕ) → asks e ≡ true → asked_in entries ≡ Some n → at < length x.slots
      → IsEnded (slot_at at x.slots) → FollowsFrom s (with_new at (Some n) y)
  follows_asked at n asking is within ended =
      let r = asked_is n asking is in
      let m = next_number before.bus in
      goes_on (slice_set y.slots at (Some (new_slot n)))
      (stand_as (step before e).state (step before e).state
      (requests_in x.journal ++ m ∷ []) (requests_in y.journal)
      (slice_set (all_noted (step before e).entries x.slots) at (Some (new_slot m)))
      (slice_set y.slots at (Some (new_slot n))) refl
      (requests_are ∙ ap (λ ns. requests_in x.journal ++ ns) (listed_one r.2))
      (ap (λ ss. slice_set ss at (Some (new_slot n))) slots_are
      ∙ ap (λ k. slice_set (all_noted (step before e).entries x.slots) at (Some (new_slot k)))
      r.2)
      (stand_asked before e f.run valid (requests_in x.journal) x.slots at f.slots r.1 within
      ended))
    where
      listed_one : n ≡ next_number before.bus → request_in new ≡ next_number before.bus ∷ []
      listed_one same =
          ap (λ b. if b then listed (asked_in entries) else []) asking
          ∙ ap listed is ∙ ap (λ k. k ∷ []) same

-- where it asks none, none is in the history
pub asks_none : (by : ℕ) (e : Event) (entries : List Entry) → asked_in entries ≡ None
    → request_in (entry_of by e entries) ≡ []
asks_none by e entries none = by_kind (asks e)
  where
    by_kind : (b : Bool) → (if b then listed (asked_in entries) else []) ≡ []
    by_kind true = ap listed none
    by_kind false = refl

pub plain_none : (by : ℕ) (e : Event) (entries : List Entry) → asks e ≡ false
    → request_in (entry_of by e entries) ≡ []
plain_none by e entries plain = ap (λ b. if b then listed (asked_in entries) else []) plain

-- ---- what is shared is sound

sound_with : (first : System) (x y : Stored) (by : ℕ) (e : Event) (entries : List Entry)
    (slots : List (Option Slot)) → Sound first x → Enters x by e entries y
    → length slots ≡ 256
    → ((s : machine.State) → Stands first s → FollowsFrom s (record y { slots = slots }))
    → Sound first (record y { slots = slots })
sound_with first x y by e entries slots k n long follows = record {
  follows = follows;
  long = long;
  taken = λ _. (
      let long = longer_by_one x y by e entries n in
      let was = k.taken n.before in
      let now = n.done.taken in omega arith);
  room = λ broken. absurd (cc (n.after, broken));
}

-- there are as many slots as before
pub as_long : (first : System) (x y : Stored) (by : ℕ) (e : Event) (entries : List Entry)
    → Sound first x → Enters x by e entries y → length y.slots ≡ 256
as_long first x y by e entries k n =
    ap length n.done.slots ∙ (map_as_long (option_map (noted entries)) x.slots ∙ k.long)

pub sound_plain : (first : System) (x y : Stored) (by : ℕ) (e : Event) (entries : List Entry)
    → IsValid e → request_in (entry_of by e entries) ≡ [] → Sound first x
    → Enters x by e entries y → Sound first y
sound_plain first x y by e entries valid none k n =
    sound_with first x y by e entries y.slots k n (as_long first x y by e entries k n)
    (λ s stands. follows_plain s x y by e entries valid n.before n.done (k.follows s stands) none)

pub sound_asked : (first : System) (x y : Stored) (by : ℕ) (e : Event) (entries : List Entry)
    (at m : ℕ) → IsValid e → asks e ≡ true → asked_in entries ≡ Some m → at < 256
    → IsEnded (slot_at at x.slots) → Sound first x → Enters x by e entries y
    → Sound first (with_new at (Some m) y)
sound_asked first x y by e entries at m valid asking is within ended k n =
    sound_with first x y by e entries (slice_set y.slots at (Some (new_slot m))) k n
    (set_as_long y.slots at (Some (new_slot m)) ∙ as_long first x y by e entries k n)
    (λ s stands. follows_asked s x y by e entries valid n.before n.done (k.follows s stands) at m
    asking is (let long = k.long in omega arith) ended)

broken_room : (b : Bool) (P : Type 0) → (b ≡ true → P) → (b ≡ false → P) → P
broken_room true P f g = f refl
broken_room false P f g = g refl

pub sound_broken : (first : System) (x y : Stored) {refused : OutOfMemory} → Sound first x
    → Breaks x refused y → Sound first y
sound_broken first x y k b = record {
  follows = λ s stands. (
      let f = k.follows s stands in
      let state = ap (λ j. after s (events_of j)) b.journal in
      record {
        legal = subst (λ j. IsLegal s j (after s (events_of j))) (sym b.journal) f.legal;
        run = subst OfARun (sym state) f.run;
        slots = stand_as (after s (events_of x.journal)) (after s (events_of y.journal))
            (requests_in x.journal) (requests_in y.journal) x.slots y.slots state
            (ap requests_in b.journal) b.slots f.slots;
        stands = λ whole. absurd (cc (ap is_some b.after, whole));
      });
  long = ap length b.slots ∙ k.long;
  taken = λ whole. absurd (cc (ap is_some b.after, whole));
  room = λ _. (
      let long = ap length b.journal in
      broken_room (is_broken x) (taken_of first + length y.journal < 4294967295)
      (λ is. (let was = k.room is in omega arith))
      (λ is. (let was = k.taken is in let now = b.room is in omega arith)));
}

-- ---- tickets keep their slots

of_noted : (es : List Entry) (slots : List (Option Slot)) (t : Ticket) → IsOfSlot slots t
    → IsOfSlot (all_noted es slots) t
of_noted es slots t h = record {
  within = h.within;
  slot = noted es h.slot;
  there = slot_noted es slots t.slot ∙ ap (option_map (noted es)) h.there;
  number = h.number;
}

pub follows_self : (x : Stored) (but : ℕ) → Follows x x but
follows_self x but = record {
  journal = inl refl;
  broken = λ is. is;
  tickets = λ t apart of. of;
}

pub follows_entered : (x y : Stored) (by : ℕ) (e : Event) (entries : List Entry) (but : ℕ)
    → Enters x by e entries y → Follows x y but
follows_entered x y by e entries but n = record {
  journal = inr (entry_of by e entries, n.done.journal);
  broken = λ is. absurd (cc (n.before, is));
  tickets = λ t apart of. subst (λ ss. IsOfSlot ss t) (sym n.done.slots)
      (of_noted entries x.slots t of);
}

pub follows_new : (x y : Stored) (by : ℕ) (e : Event) (entries : List Entry) (at m : ℕ)
    → Enters x by e entries y → Follows x (with_new at (Some m) y) at
follows_new x y by e entries at m n =
    let f = follows_entered x y by e entries at n in
    record {
      journal = f.journal;
      broken = f.broken;
      tickets = λ t apart of. (
          let g = f.tickets t apart of in
          record {
            within = g.within;
            slot = g.slot;
            there = slot_other y.slots at t.slot (Some (new_slot m)) apart ∙ g.there;
            number = g.number;
          });
    }

pub follows_broken : (x y : Stored) (but : ℕ) {refused : OutOfMemory} → Breaks x refused y
    → Follows x y but
follows_broken x y but b = record {
  journal = inl b.journal;
  broken = λ _. ap is_some b.after;
  tickets = λ t apart of. subst (λ ss. IsOfSlot ss t) (sym b.slots) of;
}
