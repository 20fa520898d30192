-- What calls on a desk do to what a pass has done.
use Rattle.std.proofs.Common.{◌≡◌, ℕ, true, Result, Ok, Err, Option}
use Rattle.std.proofs.Common.{None, List, [], ◌∷◌, ◌++◌, length, sym, ap, ◌∙◌, arith}
use Rattle.std.proofs.Common.{append_assoc, subst}
use Rattle.std.proofs.lemmas.List.{append-nil, length-append}
use Rattle.std.specs.Prelude.{◌||◌}
use mathlib.Core.List.{IsPrefix}
use Rattle.gb_base.specs.declared.entry.Entry.{Entry}
use Rattle.gb_base.specs.declared.event.Event.{Event}
use Rattle.gb_base.specs.declared.journal.JournalEntry.{JournalEntry}
use Rattle.gb_desk.specs.Calls.{AsksAs, CallsAs, Closes, Entered, JoinedTo, MetAnother}
use Rattle.gb_desk.specs.Calls.{SawFull, SawPassSpent, SawSpent, WasTold, with_ticket}
use Rattle.gb_desk.specs.Turns.{entry_of}
use Rattle.gb_desk.specs.declared.desk_fault.DeskFault.{DeskFault}
use Rattle.gb_desk.specs.declared.desk_fault.DeskFault.TheVariants as fault
use Rattle.gb_desk.specs.declared.ticket.Opened.{Opened}
use Rattle.gb_desk.specs.declared.ticket.Ticket.{Ticket}
use Rattle.gb_desk.specs.declared.view.View.{View}
use Rattle.gb_machine.specs.AskingEvents.{asks}
use Rattle.gb_share.proofs.Places.{all_from, entered_from, joined_from, later_from, longer_length}
use Rattle.gb_share.proofs.Places.{longer_same, new_place, none_stands, once_high, once_low}
use Rattle.gb_share.proofs.Places.{some_stands}
use Rattle.gb_share.proofs.Places.{stands_append}
use Rattle.gb_share.proofs.Requests.{enough_made}
use Rattle.gb_share.specs.Doing.{Adds, DoesAs, IsAlike, IsJoined, IsWithin, Stays, done_by}
use Rattle.gb_share.specs.Doing.{done_from, events_by, stands_in, tagged}
use Rattle.gb_share.specs.Uses.{Grows, places_for}
use Rattle.gb_system.specs.declared.system.System.{System}

-- ---- a pass that saw more, and did nothing

-- what a pass that did nothing more has left as it was
pub record IsLonger (v w : View) : Type 0 where
  pub seen : IsPrefix v.seen w.seen
  pub mine : w.mine ≡ v.mine

pub longer_within : (v w : View) → IsLonger v w → IsWithin v → IsWithin w
longer_within v w l within n le =
    let long = longer_length v.seen w.seen l.seen in
    ap (λ ms. stands_in n ms) l.mine ∙ within n (omega arith)

pub longer_done : (v w : View) → IsLonger v w → IsWithin v → (r : ℕ) → done_by r w ≡ done_by r v
longer_done v w l within r =
    ap (λ ms. done_from r ms 0 w.seen) l.mine
    ∙ longer_same r v.mine v.seen w.seen l.seen within

longer_stays : (v w : View) → IsLonger v w → IsWithin v → w.first ≡ v.first → w.told ≡ v.told
    → Stays v w
longer_stays v w l within first told = record {
  seen = l.seen;
  low = λ n low. ap (λ ms. stands_in n ms) l.mine;
  done = λ r. longer_done v w l within r ∙ sym (append-nil (done_by r v));
  first = first;
  told = told;
}

spent_longer : (v w : View) → SawSpent v w → IsLonger v w
spent_longer v w s = record { seen = s.seen; mine = ap (λ u. u.mine) s.rest }

told_longer : (v w : View) → WasTold v w → IsLonger v w
told_longer v w s = record { seen = s.seen; mine = ap (λ u. u.mine) s.rest }

parts_longer : (v w : View) → SawPassSpent v w → IsLonger v w
parts_longer v w s = record { seen = s.seen; mine = ap (λ u. u.mine) s.rest }

full_longer : (v w : View) → SawFull v w → IsLonger v w
full_longer v w s = record { seen = s.seen; mine = ap (λ u. u.mine) s.rest }

met_longer : (v w : View) → MetAnother v w → IsLonger v w
met_longer v w m = record {
  seen = ([], append-nil v.seen ∙ sym (ap (λ u. u.seen) m.rest));
  mine = ap (λ u. u.mine) m.rest;
}

-- ---- an event

entered_within : (v : View) (by : ℕ) (e : Event) (entries : List Entry) (w : View)
    → Entered v by e entries w → IsWithin w
entered_within v by e entries w d n le =
    let least = d.places n in
    let none = once_high n (length w.seen) le in
    none_stands n w.mine (omega arith)

longer_more : (xs before : List JournalEntry) (e : JournalEntry) (ys : List JournalEntry)
    → IsPrefix xs before → ys ≡ before ++ e ∷ [] → IsPrefix xs ys
longer_more xs before e ys p is =
    (p.0 ++ e ∷ [], sym (append_assoc xs p.0 (e ∷ [])) ∙ (ap (λ es. es ++ e ∷ []) p.1 ∙ sym is))

entered_adds : (v : View) (by : ℕ) (e : Event) (entries : List Entry) (w : View) → IsWithin v
    → Entered v by e entries w → Adds (tagged by (e ∷ [])) v w
entered_adds v by e entries w within d =
    let long = longer_length v.seen d.before d.begins in record {
      seen = longer_more v.seen d.before (entry_of by e entries) w.seen d.begins d.seen;
      low = λ n low. ap (λ ms. stands_in n ms) d.mine
          ∙ new_place n v.mine (length d.before) (λ at. omega arith);
      done = λ r. (
          ap (λ ms. done_from r ms 0 w.seen) d.mine
          ∙ (ap (λ es. done_from r (v.mine ++ length d.before ∷ []) 0 es) d.seen
          ∙ (entered_from r v.mine d.before (entry_of by e entries)
          (λ m le. within m (omega arith))
          ∙ ap (λ l. l ++ tagged by (e ∷ []) r)
          (longer_same r v.mine v.seen d.before d.begins within))));
      first = ap (λ u. u.first) d.rest;
      told = ap (λ u. u.told) d.rest;
    }

-- what a call does that asks no request
pub calls_does : (v : View) (by : ℕ) (e : Event) (answer : Result (List Entry) DeskFault)
    (w : View) → IsWithin v → CallsAs v by e answer w → DoesAs v by e answer w
calls_does v by e (Ok entries) w within d = entered_adds v by e entries w within d.0
calls_does v by e (Err fault.Busy) w within d = (
  longer_stays v w (met_longer v w d) within (ap (λ u. u.first) d.rest)
      (ap (λ u. u.told) d.rest),
  d.parts,
)
calls_does v by e (Err fault.JournalSpent) w within d = d.taken
calls_does v by e (Err fault.PassSpent) w within d = absurd d
calls_does v by e (Err fault.Full) w within d = absurd d
calls_does v by e (Err (fault.Memory refused)) w within d = tt

pub calls_within : (v : View) (by : ℕ) (e : Event) (answer : Result (List Entry) DeskFault)
    (w : View) → IsWithin v → CallsAs v by e answer w → IsWithin w
calls_within v by e (Ok entries) w within d = entered_within v by e entries w d.0
calls_within v by e (Err fault.Busy) w within d = longer_within v w (met_longer v w d) within
calls_within v by e (Err fault.JournalSpent) w within d =
    longer_within v w (spent_longer v w d) within
calls_within v by e (Err fault.PassSpent) w within d = absurd d
calls_within v by e (Err fault.Full) w within d = absurd d
calls_within v by e (Err (fault.Memory refused)) w within d =
    longer_within v w (told_longer v w d) within

-- what a call answers without the ticket
abbrev pub entries_of : Result Opened DeskFault → Result (List Entry) DeskFault
entries_of (Ok o) = Ok o.entries
entries_of (Err why) = Err why

-- what a call does that asks a request
pub asks_does : (v : View) (by : ℕ) (e : Event) (answer : Result Opened DeskFault) (w : View)
    → IsWithin v → asks e ≡ true → AsksAs v by e answer w
    → DoesAs v by e (entries_of answer) w
asks_does v by e (Ok o) w within asking d = entered_adds v by e o.entries w within d.entered
asks_does v by e (Err fault.Busy) w within asking d = (
  longer_stays v w (met_longer v w d) within (ap (λ u. u.first) d.rest)
      (ap (λ u. u.told) d.rest),
  d.parts,
)
asks_does v by e (Err fault.JournalSpent) w within asking d = d.taken
asks_does v by e (Err fault.PassSpent) w within asking d =
    ap (λ u. length u.tickets) d.rest ∙ d.spent ∙ sym (ap (λ u. u.parts) d.rest)
asks_does v by e (Err fault.Full) w within asking d = (
  longer_stays v w (full_longer v w d) within (ap (λ u. u.first) d.rest)
      (ap (λ u. u.told) d.rest),
  asking,
  (λ x is s stands. enough_made _ w.seen _ (d.full x is s stands)),
)
asks_does v by e (Err (fault.Memory refused)) w within asking d = tt

pub asks_within : (v : View) (by : ℕ) (e : Event) (answer : Result Opened DeskFault) (w : View)
    → IsWithin v → AsksAs v by e answer w → IsWithin w
asks_within v by e (Ok o) w within d = entered_within v by e o.entries w d.entered
asks_within v by e (Err fault.Busy) w within d = longer_within v w (met_longer v w d) within
asks_within v by e (Err fault.JournalSpent) w within d =
    longer_within v w (spent_longer v w d) within
asks_within v by e (Err fault.PassSpent) w within d =
    longer_within v w (parts_longer v w d) within
asks_within v by e (Err fault.Full) w within d = longer_within v w (full_longer v w d) within
asks_within v by e (Err (fault.Memory refused)) w within d =
    longer_within v w (told_longer v w d) within

-- which ticket comes with an answer
abbrev pub ticket_of : Result Opened DeskFault → Option Ticket
ticket_of (Ok o) = o.ticket
ticket_of (Err why) = None

pub asks_tickets : (v : View) (by : ℕ) (e : Event) (answer : Result Opened DeskFault) (w : View)
    → AsksAs v by e answer w → w.tickets ≡ with_ticket (ticket_of answer) v.tickets
asks_tickets v by e (Ok o) w d = d.tickets
asks_tickets v by e (Err fault.Busy) w d = ap (λ u. u.tickets) d.rest
asks_tickets v by e (Err fault.JournalSpent) w d = ap (λ u. u.tickets) d.rest
asks_tickets v by e (Err fault.PassSpent) w d = ap (λ u. u.tickets) d.rest
asks_tickets v by e (Err fault.Full) w d = ap (λ u. u.tickets) d.rest
asks_tickets v by e (Err (fault.Memory refused)) w d = ap (λ u. u.tickets) d.rest

-- ---- how much more it is

longer_grows : (v w : View) → IsLonger v w → w.first ≡ v.first → Grows 0 v w
longer_grows v w l first =
    let same = ap (λ (ms : List ℕ). length ms) l.mine in record {
      seen = l.seen;
      first = first;
      few = omega arith;
    }

entered_grows : (v : View) (by : ℕ) (e : Event) (entries : List Entry) (w : View)
    → Entered v by e entries w → Grows 1 v w
entered_grows v by e entries w d =
    let long = ap (λ (ms : List ℕ). length ms) d.mine in record {
      seen = longer_more v.seen d.before (entry_of by e entries) w.seen d.begins d.seen;
      first = ap (λ u. u.first) d.rest;
      few = omega (arith, length-append v.mine (length d.before ∷ []));
    }

pub calls_grow : (v : View) (by : ℕ) (e : Event) (answer : Result (List Entry) DeskFault)
    (w : View) → CallsAs v by e answer w → Grows (places_for answer) v w
calls_grow v by e (Ok entries) w d = entered_grows v by e entries w d.0
calls_grow v by e (Err fault.Busy) w d =
    longer_grows v w (met_longer v w d) (ap (λ u. u.first) d.rest)
calls_grow v by e (Err fault.JournalSpent) w d =
    longer_grows v w (spent_longer v w d) (ap (λ u. u.first) d.rest)
calls_grow v by e (Err fault.PassSpent) w d = absurd d
calls_grow v by e (Err fault.Full) w d = absurd d
calls_grow v by e (Err (fault.Memory refused)) w d =
    longer_grows v w (told_longer v w d) (ap (λ u. u.first) d.rest)

pub asks_grow : (v : View) (by : ℕ) (e : Event) (answer : Result Opened DeskFault) (w : View)
    → AsksAs v by e answer w → Grows (places_for answer) v w
asks_grow v by e (Ok o) w d = entered_grows v by e o.entries w d.entered
asks_grow v by e (Err fault.Busy) w d =
    longer_grows v w (met_longer v w d) (ap (λ u. u.first) d.rest)
asks_grow v by e (Err fault.JournalSpent) w d =
    longer_grows v w (spent_longer v w d) (ap (λ u. u.first) d.rest)
asks_grow v by e (Err fault.PassSpent) w d =
    longer_grows v w (parts_longer v w d) (ap (λ u. u.first) d.rest)
asks_grow v by e (Err fault.Full) w d =
    longer_grows v w (full_longer v w d) (ap (λ u. u.first) d.rest)
asks_grow v by e (Err (fault.Memory refused)) w d =
    longer_grows v w (told_longer v w d) (ap (λ u. u.first) d.rest)

-- ---- tickets alone

pub alike_within : (v w : View) → IsAlike v w → IsWithin v → IsWithin w
alike_within v w is within = subst IsWithin (sym is) within

pub alike_adds : (more : ℕ → List Event) (v w u : View) → Adds more v w → IsAlike w u
    → Adds more v u
alike_adds more v w u a is = record {
  seen = subst (λ (x : View). IsPrefix v.seen x.seen) (sym is) a.seen;
  low = λ n low. ap (λ x. stands_in n x.mine) is ∙ a.low n low;
  done = λ r. ap (λ x. done_by r x) is ∙ a.done r;
  first = ap (λ x. x.first) is ∙ a.first;
  told = ap (λ x. x.told) is ∙ a.told;
}

pub alike_more : (v w u : View) → IsAlike v w → IsAlike w u → IsAlike v u
alike_more v w u a b = b ∙ ap (λ (x : View). record x { tickets = u.tickets }) a

-- ---- passes that are joined

pub joined_within : (v u w : View) → IsJoined v u w → IsWithin v → IsWithin u → IsWithin w
joined_within v u w j one two n le =
    let first_long = longer_length v.seen w.seen j.this in
    let second_long = longer_length u.seen w.seen j.that in
    let first_none = one n (omega arith) in
    let second_none = two n (omega arith) in
    ap (λ ms. stands_in n ms) j.mine
    ∙ (stands_append n v.mine u.mine
    ∙ (ap (λ b. b || stands_in n u.mine) first_none ∙ second_none))

-- what the second did not do, the first did
pub joined_first : (v u w : View) (r : ℕ) → IsJoined v u w → IsWithin v → IsWithin u
    → done_by r u ≡ [] → done_by r w ≡ done_by r v
joined_first v u w r j one two none =
    ap (λ ms. done_from r ms 0 w.seen) j.mine
    ∙ (joined_from r v.mine u.mine 0 w.seen (longer_same r u.mine u.seen w.seen j.that two ∙ none)
    ∙ longer_same r v.mine v.seen w.seen j.this one)

-- what the first did not do, the second did
pub joined_second : (v u w : View) (r : ℕ) → IsJoined v u w → IsWithin v → IsWithin u
    → done_by r v ≡ [] → done_by r w ≡ done_by r u
joined_second v u w r j one two none =
    ap (λ ms. done_from r ms 0 w.seen) j.mine
    ∙ (later_from r v.mine u.mine 0 w.seen (longer_same r v.mine v.seen w.seen j.this one ∙ none)
    ∙ longer_same r u.mine u.seen w.seen j.that two)

pub joined_to : (v u w : View) → JoinedTo v u w → IsJoined v u w
joined_to v u w j = record {
  this = j.this;
  that = j.that;
  mine = ap (λ x. x.mine) j.rest;
  first = ap (λ x. x.first) j.rest;
  told = ap (λ x. x.told) j.rest;
}

-- ---- the end

-- what a pass with all parts has done is what the history has
pub closed_done : (v : View) (system : System) (journal : List JournalEntry) → IsWithin v
    → Closes v system journal → (r : ℕ) → done_by r v ≡ events_by r journal
closed_done v system journal within c r =
    sym (longer_same r v.mine v.seen journal c.seen within)
    ∙ all_from r v.mine 0 journal (length journal) (omega arith) (λ m low.
    (let once = once_low m (length journal) low in
    let is = c.places m in
    some_stands m v.mine (omega arith)))
