-- The names of a pass follow those of the machine.
use Rattle.std.proofs.Common.{◌≡◌, ℕ, Bool, true, false, Option, Some, None, List, [], ◌∷◌, ◌++◌}
use Rattle.std.proofs.Common.{refl, sym, ap, ◌∙◌, subst}
use Rattle.std.specs.Prelude.{if◌then◌else◌, Result, Ok, Err}
use Rattle.gb_base.specs.declared.bridge.BridgeAsk.{BridgeAsk}
use Rattle.gb_base.specs.declared.end.End.{End}
use Rattle.gb_base.specs.declared.entry.Entry.{Entry}
use Rattle.gb_base.specs.declared.event.Event.{Event}
use Rattle.gb_base.specs.declared.event.Event.TheVariants as event
use Rattle.gb_base.specs.declared.journal.JournalEntry.{JournalEntry}
use Rattle.gb_base.specs.declared.name.Name.{Name}
use Rattle.gb_base.specs.declared.refusal.Refusal.{Refusal}
use Rattle.gb_desk.specs.Calls.{CallsAs, Entered, IsTicketOf, OfState}
use Rattle.gb_desk.specs.Turns.{entry_of}
use Rattle.gb_desk.specs.declared.desk_fault.DeskFault.{DeskFault}
use Rattle.gb_desk.specs.declared.desk_fault.DeskFault.TheVariants as fault
use Rattle.gb_desk.specs.declared.ticket.Ticket.{Ticket}
use Rattle.gb_desk.specs.declared.view.View.{View}
use Rattle.gb_formats.specs.ValidEvents.{IsValid}
use Rattle.gb_machine.proofs.Steps.{step-does, step-refused}
use Rattle.gb_machine.specs.Actions.{Told}
use Rattle.gb_machine.specs.AskingEvents.{asks}
use Rattle.gb_machine.specs.Bus.{next_number}
use Rattle.gb_machine.specs.Events.{step}
use Rattle.gb_machine.specs.Journal.{IsLegal, after, events_of}
use Rattle.gb_machine.specs.Lists.{without}
use Rattle.gb_machine.specs.Names.{named, same_name}
use Rattle.gb_machine.specs.Refusals.{refusal}
use Rattle.gb_machine.specs.State.{State}
use Rattle.gb_share.proofs.HandNames.{named_by, names_with, names_without}
use Rattle.gb_share.proofs.NameSteps.{apart_after, named_too, names_after, names_refused, renamed}
use Rattle.gb_share.specs.Names.{AreNames, FollowsAs, OpensAs, RenamesAs, changes_names, is_done}
use Rattle.gb_share.specs.Names.{names_of, ticket_by, with_second, without_name}
use Rattle.gb_share.specs.Tickets.{with_held}
use Rattle.gb_share.specs.declared.hand.Held.{Held}
use Rattle.gb_system.specs.NameOrder.{AreApart}

-- ---- what was answered

-- the last event of a legal history was answered as the machine steps it
pub legal_parts : (s t : State) (es : List JournalEntry) (e : JournalEntry)
    → IsLegal s (es ++ e ∷ []) t → IsLegal s es (after s (events_of es))
    × (e.entries ≡ (step (after s (events_of es)) e.event).entries)
legal_parts s t [] e legal = (refl, legal.0)
legal_parts s t (x ∷ es) e legal =
    let rec = legal_parts (step s x.event).state t es e legal.1 in ((legal.0, rec.0), rec.1)

pub entered_legal : (v : View) (by : ℕ) (e : Event) (entries : List Entry) (w : View)
    (d : Entered v by e entries w)
    → OfState w.first d.before (λ t. entries ≡ (step t e).entries)
entered_legal v by e entries w d x first s stands =
    (legal_parts s (after s (events_of (d.before ++ entry_of by e entries ∷ []))) d.before
    (entry_of by e entries)
    (subst (λ j. IsLegal s j (after s (events_of j))) d.seen (d.legal x first s stands))).1

done_told : (t : State) (e : Event) → refusal t e ≡ None → is_done (step t e).entries ≡ true
done_told t e allowed = ap (λ (w : Told). is_done w.entries) (step-does t e allowed)

refused_told : (t : State) (e : Event) (why : Refusal) → refusal t e ≡ Some why
    → is_done (step t e).entries ≡ false
refused_told t e why met = ap (λ (w : Told). is_done w.entries) (step-refused t e why met)

-- ---- names

-- names of a state, behind an event that was done
names_behind : (t : State) (e : Event) (hs ks : List Held) → IsValid e → AreNames t hs
    → refusal t e ≡ None → names_of ks ≡ renamed t e → AreNames (step t e).state ks
names_behind t e hs ks valid n allowed same = record {
  names = names_after t e valid allowed ∙ sym same;
  apart = apart_after t e valid n.apart;
}

-- or refused
names_kept : (t : State) (e : Event) (hs ks : List Held) (why : Refusal) → IsValid e
    → AreNames t hs → refusal t e ≡ Some why → ks ≡ hs → AreNames (step t e).state ks
names_kept t e hs ks why valid n met same = record {
  names = names_refused t e why met ∙ (n.names ∙ ap names_of (sym same));
  apart = apart_after t e valid n.apart;
}

-- ---- events that ask

opened_names : (t : State) (e : Event) (name : Name) (entries : List Entry) (o : Option Ticket)
    (hs ks : List Held) → IsValid e
    → renamed t e ≡ named_too name (Some (next_number t.bus)) t.names
    → IsTicketOf t e entries o → ks ≡ with_held name o hs → AreNames t hs
    → AreNames (step t e).state ks
opened_names t e name entries None hs ks valid renames is same n =
    names_kept t e hs ks is.0 valid n is.1 same
opened_names t e name entries (Some k) hs ks valid renames is same n =
    names_behind t e hs ks valid n is.0
    (ap names_of same
    ∙ (names_with name (Some k) hs
    ∙ (ap (λ m. named_too name (Some m) (names_of hs)) is.2
    ∙ (ap (λ ps. named_too name (Some (next_number t.bus)) ps) (sym n.names) ∙ sym renames))))

pub follows_open : (v : View) (hs : List Held) (by : ℕ) (e : Event) (name : Name)
    (answer : Result (List Entry) DeskFault) (w : View) (ks : List Held) → IsValid e
    → ((t : State) → renamed t e ≡ named_too name (Some (next_number t.bus)) t.names)
    → OpensAs v hs by e name answer w ks → FollowsAs v hs by e answer w ks
follows_open v hs by e name (Ok entries) w ks valid renames o = record {
  entered = o.entered.entered;
  names = λ room x first s stands n.
      opened_names (after s (events_of o.entered.entered.before)) e name entries o.ticket hs ks
      valid (renames (after s (events_of o.entered.entered.before)))
      (o.entered.ticket x first s stands) o.held n;
  free = λ asking all. o.entered.free all;
}
follows_open v hs by e name (Err fault.Full) w ks valid renames o = o
follows_open v hs by e name (Err fault.Busy) w ks valid renames o = o
follows_open v hs by e name (Err fault.JournalSpent) w ks valid renames o = o
follows_open v hs by e name (Err fault.PassSpent) w ks valid renames o = o
follows_open v hs by e name (Err (fault.Memory refused)) w ks valid renames o = o

-- ---- events that ask none

-- names that change where the event was done
changed_names : (change : List Held → List Held) (t : State) (e : Event) (entries : List Entry)
    (hs ks : List Held) → IsValid e → (AreNames t hs → names_of (change hs) ≡ renamed t e)
    → entries ≡ (step t e).entries → ks ≡ (if is_done entries then change hs else hs)
    → AreNames t hs → AreNames (step t e).state ks
changed_names change t e entries hs ks valid renames told same n = by (refusal t e) refl
  where
    by : (o : Option Refusal) → refusal t e ≡ o → AreNames (step t e).state ks
    by None allowed =
        names_behind t e hs ks valid n allowed
        (ap names_of (same ∙ ap (λ b. if b then change hs else hs)
        (ap is_done told ∙ done_told t e allowed)) ∙ renames n)
    by (Some why) met =
        names_kept t e hs ks why valid n met
        (same ∙ ap (λ b. if b then change hs else hs)
        (ap is_done told ∙ refused_told t e why met))

follows_renamed : (change : List Held → List Held) (v : View) (hs : List Held) (by : ℕ)
    (e : Event) (answer : Result (List Entry) DeskFault) (w : View) (ks : List Held) → IsValid e
    → asks e ≡ false → ((t : State) → AreNames t hs → names_of (change hs) ≡ renamed t e)
    → RenamesAs change v hs by e answer w ks → FollowsAs v hs by e answer w ks
follows_renamed change v hs by e (Ok entries) w ks valid plain renames r = record {
  entered = r.entered;
  names = λ room x first s stands n.
      changed_names change (after s (events_of r.entered.before)) e entries hs ks valid
      (renames (after s (events_of r.entered.before)))
      (entered_legal v by e entries w r.entered x first s stands) (r.held room) n;
  free = λ asking all. absurd (cc (asking, plain));
}
follows_renamed change v hs by e (Err fault.Full) w ks valid plain renames r = absurd r
follows_renamed change v hs by e (Err fault.Busy) w ks valid plain renames r = r
follows_renamed change v hs by e (Err fault.JournalSpent) w ks valid plain renames r = r
follows_renamed change v hs by e (Err fault.PassSpent) w ks valid plain renames r = r
follows_renamed change v hs by e (Err (fault.Memory refused)) w ks valid plain renames r = r

pub follows_copy : (v : View) (hs : List Held) (by : ℕ) (e : Event) (from to : Name)
    (answer : Result (List Entry) DeskFault) (w : View) (ks : List Held)
    → e ≡ event.Copy from to → IsValid e → RenamesAs (with_second from to) v hs by e answer w ks
    → FollowsAs v hs by e answer w ks
follows_copy v hs by e from to answer w ks is valid r =
    follows_renamed (with_second from to) v hs by e answer w ks valid (ap asks is)
    (λ t n. names_with to (ticket_by from hs) hs
    ∙ (ap (λ o. named_too to o (names_of hs)) (sym (named_by from hs))
    ∙ (ap (λ ps. named_too to (named from ps) ps) (sym n.names) ∙ ap (renamed t) (sym is))))
    r

pub follows_forget : (v : View) (hs : List Held) (by : ℕ) (e : Event) (name : Name)
    (answer : Result (List Entry) DeskFault) (w : View) (ks : List Held)
    → e ≡ event.Forget name → IsValid e → RenamesAs (without_name name) v hs by e answer w ks
    → FollowsAs v hs by e answer w ks
follows_forget v hs by e name answer w ks is valid r =
    follows_renamed (without_name name) v hs by e answer w ks valid (ap asks is)
    (λ t n. sym (names_without name hs (subst (λ ps. AreApart ps) n.names n.apart))
    ∙ (ap (λ ps. without (λ p. same_name p.0 name) ps) (sym n.names) ∙ ap (renamed t) (sym is)))
    r

-- events that change no names
asks_none : (e : Event) → changes_names e ≡ false → asks e ≡ false
asks_none (event.Send name to kind payload timeout) plain = absurd cc
asks_none (event.Bridge name i c what) plain = absurd cc
asks_none _ plain = refl

renames_none : (t : State) (e : Event) → changes_names e ≡ false → renamed t e ≡ t.names
renames_none t (event.Send name to kind payload timeout) plain = absurd cc
renames_none t (event.Bridge name i c what) plain = absurd cc
renames_none t (event.Copy from to) plain = absurd cc
renames_none t (event.Forget name) plain = absurd cc
renames_none t _ plain = refl

same_either : (b : Bool) (hs : List Held) → hs ≡ (if b then hs else hs)
same_either true hs = refl
same_either false hs = refl

pub calls_rename : (v : View) (hs : List Held) (by : ℕ) (e : Event)
    (answer : Result (List Entry) DeskFault) (w : View) (ks : List Held) → ks ≡ hs
    → CallsAs v by e answer w → RenamesAs (λ xs. xs) v hs by e answer w ks
calls_rename v hs by e (Ok entries) w ks same d = record {
  entered = d.0;
  held = λ room. same ∙ same_either (is_done entries) hs;
}
calls_rename v hs by e (Err fault.Full) w ks same d = absurd d
calls_rename v hs by e (Err fault.Busy) w ks same d = same
calls_rename v hs by e (Err fault.JournalSpent) w ks same d = same
calls_rename v hs by e (Err fault.PassSpent) w ks same d = same
calls_rename v hs by e (Err (fault.Memory refused)) w ks same d = same

pub follows_call : (v : View) (hs : List Held) (by : ℕ) (e : Event)
    (answer : Result (List Entry) DeskFault) (w : View) (ks : List Held) → IsValid e
    → changes_names e ≡ false → ks ≡ hs → CallsAs v by e answer w
    → FollowsAs v hs by e answer w ks
follows_call v hs by e answer w ks valid plain same d =
    follows_renamed (λ xs. xs) v hs by e answer w ks valid (asks_none e plain)
    (λ t n. sym n.names ∙ sym (renames_none t e plain))
    (calls_rename v hs by e answer w ks same d)

-- which events change names
pub plain_event : (e : Event)
    → ((name : Name) (to : End) (kind : ℕ) (payload : List ℕ) (timeout : ℕ)
    → e ≡ event.Send name to kind payload timeout → ⊥)
    → ((name : Name) (i c : ℕ) (what : BridgeAsk) → e ≡ event.Bridge name i c what → ⊥)
    → ((from to : Name) → e ≡ event.Copy from to → ⊥) → ((name : Name) → e ≡ event.Forget name → ⊥)
    → changes_names e ≡ false
plain_event (event.Send name to kind payload timeout) no_send no_bridge no_copy no_drop =
    absurd (no_send name to kind payload timeout refl)
plain_event (event.Bridge name i c what) no_send no_bridge no_copy no_drop =
    absurd (no_bridge name i c what refl)
plain_event (event.Copy from to) no_send no_bridge no_copy no_drop =
    absurd (no_copy from to refl)
plain_event (event.Forget name) no_send no_bridge no_copy no_drop = absurd (no_drop name refl)
plain_event _ no_send no_bridge no_copy no_drop = refl

-- an event that is one of these
pub follows_send : (v : View) (hs : List Held) (by : ℕ) (e : Event) (name : Name) (to : End)
    (kind : ℕ) (payload : List ℕ) (timeout : ℕ) (answer : Result (List Entry) DeskFault)
    (w : View) (ks : List Held) → e ≡ event.Send name to kind payload timeout → IsValid e
    → OpensAs v hs by e name answer w ks → FollowsAs v hs by e answer w ks
follows_send v hs by e name to kind payload timeout answer w ks is valid o =
    follows_open v hs by e name answer w ks valid
    (λ t. ap (renamed t) is) o

pub follows_bridge : (v : View) (hs : List Held) (by : ℕ) (e : Event) (name : Name) (i c : ℕ)
    (what : BridgeAsk) (answer : Result (List Entry) DeskFault)
    (w : View) (ks : List Held) → e ≡ event.Bridge name i c what → IsValid e
    → OpensAs v hs by e name answer w ks → FollowsAs v hs by e answer w ks
follows_bridge v hs by e name i c what answer w ks is valid o =
    follows_open v hs by e name answer w ks valid (λ t. ap (renamed t) is) o
