-- What the calls of a hand do with its names.
use Rattle.std.proofs.Common.{◌≡◌, ℕ, ◌+◌, ◌<◌, true, false, Option, Some, None, List, [], ◌∷◌}
use Rattle.std.proofs.Common.{◌++◌, length, refl, sym, ap, ◌∙◌, subst, arith, take, drop, add-one}
use Rattle.std.proofs.Math.ListN.{get_or}
use Rattle.std.specs.Prelude.{if◌then◌else◌, Ok, Err}
use Rattle.gb_base.specs.declared.entry.Entry.{Entry}
use Rattle.gb_base.specs.declared.event.Event.{Event}
use Rattle.gb_base.specs.declared.name.Name.{Name}
use Rattle.gb_desk.specs.Calls.{AsksAs, CallsAs, Entered, EnteredWith}
use Rattle.gb_desk.specs.declared.desk_fault.DeskFault.{DeskFault}
use Rattle.gb_desk.specs.declared.desk_fault.DeskFault.TheVariants as fault
use Rattle.gb_desk.specs.declared.ticket.Ticket.{Ticket}
use Rattle.gb_desk.specs.declared.view.View.{View}
use Rattle.gb_share.proofs.HandNames.{at_place, ticket_none, without_same}
use Rattle.gb_share.specs.Doing.{IsAlike}
use Rattle.gb_share.specs.Names.{OpensAs, Renames, RenamesAs, is_done, place_of, with_second}
use Rattle.gb_share.specs.Names.{without_name}
use Rattle.gb_share.specs.Tickets.{with_held}
use Rattle.gb_share.specs.declared.hand.Held.{Held}

-- ---- one call

-- a send or a bridge line that was done, or refused
pub opens_done : (v u : View) (hs gs : List Held) (by : ℕ) (e : Event) (name copy : Name)
    (entries : List Entry) (t : Option Ticket) (w : View) (ks : List Held) → u ≡ v → gs ≡ hs
    → copy ≡ name → EnteredWith u by e (record { entries = entries; ticket = t }) w
    → ks ≡ with_held copy t gs → OpensAs v hs by e name (Ok entries) w ks
opens_done v u hs gs by e name copy entries t w ks view old same d held = record {
  ticket = t;
  entered =
      subst (λ (x : View). EnteredWith x by e (record { entries = entries; ticket = t }) w) view d;
  held = held ∙ (ap (λ n. with_held n t gs) same ∙ ap (λ xs. with_held name t xs) old);
}

-- one that wasn't done
opens_not : (v : View) (hs : List Held) (by : ℕ) (e : Event) (name : Name)
    (why : DeskFault) (w : View) (ks : List Held) → AsksAs v by e (Err why) w → ks ≡ hs
    → OpensAs v hs by e name (Err why) w ks
opens_not v hs by e name fault.Full w ks a same = (a, same)
opens_not v hs by e name fault.Busy w ks a same = same
opens_not v hs by e name fault.JournalSpent w ks a same = same
opens_not v hs by e name fault.PassSpent w ks a same = same
opens_not v hs by e name (fault.Memory refused) w ks a same = same

pub opens_failed : (v u : View) (hs ks : List Held) (by : ℕ) (e : Event) (name : Name)
    (why : DeskFault) (w : View) → u ≡ v → ks ≡ hs → AsksAs u by e (Err why) w
    → OpensAs v hs by e name (Err why) w ks
opens_failed v u hs ks by e name why w view same a =
    opens_not v hs by e name why w ks
    (subst (λ (x : View). AsksAs x by e (Err why) w) view a) same

-- another event that wasn't done
pub calls_failed : (change : List Held → List Held) (v : View) (hs : List Held) (by : ℕ)
    (e : Event) (why : DeskFault) (w : View) (ks : List Held) → CallsAs v by e (Err why) w
    → ks ≡ hs → RenamesAs change v hs by e (Err why) w ks
calls_failed change v hs by e fault.Full w ks a same = absurd a
calls_failed change v hs by e fault.Busy w ks a same = same
calls_failed change v hs by e fault.JournalSpent w ks a same = same
calls_failed change v hs by e fault.PassSpent w ks a same = same
calls_failed change v hs by e (fault.Memory refused) w ks a same = same

-- ---- tickets that changed behind a call

entered_alike : (v : View) (by : ℕ) (e : Event) (entries : List Entry) (u w : View)
    → Entered v by e entries u → IsAlike u w → Entered v by e entries w
entered_alike v by e entries u w d is =
    subst (λ (x : View). Entered v by e entries x) (sym is) record {
      before = d.before;
      begins = d.begins;
      seen = d.seen;
      mine = d.mine;
      places = d.places;
      legal = d.legal;
      taken = d.taken;
      untold = d.untold;
      rest = ap (λ (x : View). record x { tickets = w.tickets }) d.rest;
    }

-- names after an event that was done
pub renames_done : (change : List Held → List Held) (v : View) (hs : List Held) (by : ℕ)
    (e : Event) (entries : List Entry) (u w : View) (ks : List Held)
    → CallsAs v by e (Ok entries) u → IsAlike u w → is_done entries ≡ true
    → (length u.tickets < u.parts → ks ≡ change hs) → Renames change v hs by e entries w ks
renames_done change v hs by e entries u w ks d is done so = record {
  entered = entered_alike v by e entries u w d.0 is;
  held = λ room. (
      let tickets = ap (λ (ts : List Ticket). length ts) d.1 in
      let parts = ap (λ (x : View). x.parts) d.0.rest in so (omega arith))
      ∙ sym (ap (λ b. if b then change hs else hs) done);
}

-- names after one that was refused
pub renames_undone : (change : List Held → List Held) (v : View) (hs : List Held) (by : ℕ)
    (e : Event) (entries : List Entry) (w : View) (ks : List Held)
    → CallsAs v by e (Ok entries) w → is_done entries ≡ false → ks ≡ hs
    → Renames change v hs by e entries w ks
renames_undone change v hs by e entries w ks d undone same = record {
  entered = d.0;
  held = λ room. same ∙ sym (ap (λ b. if b then change hs else hs) undone);
}

-- ---- a name more, and a name less

-- a second name where the first has no ticket
pub second_none : (from to : Name) (hs : List Held) → place_of from hs ≡ None
    → hs ≡ with_second from to hs
second_none from to hs none = sym (ap (λ o. with_held to o hs) (ticket_none from hs none))

-- where it has one
pub second_some : (from to : Name) (hs ks : List Held) (k : ℕ) (h g : Held) (t : Ticket)
    → place_of from hs ≡ Some k → h ≡ get_or hs k h → t ≡ h.ticket
    → ks ≡ hs ++ record { name = to; ticket = t } ∷ []
    → ks ≡ with_second from to hs
second_some from to hs ks k h g t place here ticket is =
    is
    ∙ ap (λ u. hs ++ record { name = to; ticket = u } ∷ []) ticket
    ∙ sym (ap (λ o. with_held to o hs) ((at_place from hs k place).ticket h here))

-- a name that is given back
pub without_some : (name : Name) (hs ks : List Held) (k : ℕ) → place_of name hs ≡ Some k
    → ks ≡ take k hs ++ drop (k + 1) hs → ks ≡ without_name name hs
without_some name hs ks k place is =
    is
    ∙ (ap (λ n. take k hs ++ drop n hs) (add-one k) ∙ (at_place name hs k place).without)

-- ---- drops

-- a drop that was done, of a name with a ticket
pub forgets_some : (name : Name) (v u w : View) (hs gs ks : List Held) (by : ℕ) (e : Event)
    (entries : List Entry) (k : ℕ) → CallsAs v by e (Ok entries) u → gs ≡ hs
    → true ≡ is_done entries → place_of name gs ≡ Some k → IsAlike u w
    → ks ≡ take k gs ++ drop (k + 1) gs
    → Renames (without_name name) v hs by e entries w ks
forgets_some name v u w hs gs ks by e entries k d same done place alike is =
    renames_done (without_name name) v hs by e entries u w ks d alike (sym done)
    (λ room. without_some name gs ks k place is ∙ ap (without_name name) same)

-- of a name without one
pub forgets_none : (name : Name) (v w : View) (hs gs : List Held) (by : ℕ) (e : Event)
    (entries : List Entry) → CallsAs v by e (Ok entries) w → gs ≡ hs → true ≡ is_done entries
    → place_of name gs ≡ None → Renames (without_name name) v hs by e entries w gs
forgets_none name v w hs gs by e entries d same done place =
    renames_done (without_name name) v hs by e entries w w gs d refl (sym done)
    (λ room. sym (without_same name gs place) ∙ ap (without_name name) same)
