-- What an event that asks a request does in its turn to what its pass knows.
use Rattle.std.proofs.Common.{◌≡◌, ℕ, ◌<◌, ◌≤◌, ⊎_elim, Bool, true, false}
use Rattle.std.proofs.Common.{List, [], ◌∷◌, length, refl, sym, ap, ◌∙◌, subst, arith}
use Rattle.std.proofs.Common.{Option, Some, None}
use Rattle.std.specs.Prelude.{MatchBool, Result, Ok, Err, option_map, slice_set}
use mathlib.Core.Option as core
use Rattle.atomic_table.specs.Table.{step}
use Rattle.gb_base.specs.declared.event.Event.{Event}
use Rattle.gb_desk.proofs.Calling.{InHand, entered, legal_from, of_taken, same_else, saw_first}
use Rattle.gb_desk.proofs.Calling.{told_then, untold}
use Rattle.gb_desk.proofs.Entering.{asked_is, asks_none, follows_broken, follows_entered}
use Rattle.gb_desk.proofs.Entering.{follows_self, refused_is, sound_asked, sound_broken}
use Rattle.gb_desk.proofs.Entering.{sound_plain}
use Rattle.gb_desk.proofs.Taking.{are_taken, behind, none_taken, started}
use Rattle.gb_desk.proofs.Turning.{Follows, mine_same}
use Rattle.gb_desk.specs.Calls.{AreTaken, AsksAs, EnteredWith, IsFree, IsTicketOf, OfState}
use Rattle.gb_desk.specs.Calls.{SawFull, SawPassSpent, SawSpent, WasTold}
use Rattle.gb_desk.specs.Calls.{with_ticket}
use Rattle.gb_desk.specs.InTurn.{AskedInTurn, HasStarted, OpensAs, Searched, Start}
use Rattle.gb_desk.specs.InTurn.{with_request}
use Rattle.gb_desk.specs.Rules.{Sound, all_parts}
use Rattle.gb_desk.specs.Slots.{IsEnded, new_slot, slot_at}
use Rattle.gb_desk.specs.Steps.{ArePlaces, Gives, Knows, Took, gave, mine_after, opening}
use Rattle.gb_desk.specs.Steps.{taking}
use Rattle.gb_desk.specs.Tickets.{HasTicket, ticket}
use Rattle.gb_desk.specs.Turns.{Enters, IsPassSpent, IsReady, with_new, is_broken}
use Rattle.gb_desk.specs.declared.desk_fault.DeskFault.{DeskFault}
use Rattle.gb_desk.specs.declared.desk_fault.DeskFault.TheVariants as fault
use Rattle.gb_desk.specs.declared.stored.Stored.{Stored}
use Rattle.gb_desk.specs.declared.ticket.Opened.{Opened}
use Rattle.gb_desk.specs.declared.ticket.Ticket.{Ticket}
use Rattle.gb_desk.specs.declared.view.View.{View}
use Rattle.gb_formats.specs.ValidEvents.{IsValid}
use Rattle.gb_laws.specs.Tickets.{asked_in}
use Rattle.gb_machine.specs.AskingEvents.{asks}
use Rattle.gb_machine.specs.Members.{IsIn}
use Rattle.gb_system.specs.declared.system.System.{System}

-- what a pass in its turn knows, with what it has read
abbrev reading : View → Stored → List ℕ → Option ℕ → View
reading v x used clear = record v { out = Some x; used = used; clear = clear }

-- ---- what is in hand

hand : (me : Knows) (w : View) (took now : Stored) (first : System) → me ≡ (w, (0, now) ∷ [])
    → w.out ≡ Some took → 0 < w.parts → w.first ≡ Some first → Sound first now
    → Follows took now 256 → InHand me
hand me w took now first is out part is_first sound follows =
    subst InHand (sym is) (record {
      took = took;
      now = now;
      first = first;
      me = refl;
      out = out;
      part = part;
      is_first = is_first;
      sound = sound;
      follows = follows;
    })

gives_as : (me me' : Knows) (w : View) (took now : Stored) → me ≡ (w, (0, now) ∷ [])
    → w.out ≡ Some took → Gives (step 1 0 0 0 core.none) me 0 me'
    → (me' ≡ (gave w took now, [])) × ArePlaces me'.0
gives_as me me' w took now is out gives =
    let g = subst (λ (m : Knows). Gives (step 1 0 0 0 core.none) m 0 me') is gives in
    g took now out refl

-- a fact of what a pass knows, once it gave the turn back
gave_so : (P : View → Type 0) (me me' : Knows) (w : View) (took now : Stored)
    → me ≡ (w, (0, now) ∷ []) → w.out ≡ Some took → Gives (step 1 0 0 0 core.none) me 0 me'
    → (ArePlaces (gave w took now) → P (gave w took now)) → P me'.0
gave_so P me me' w took now is out gives so =
    let g = gives_as me me' w took now is out gives in
    subst (λ (m : Knows). P m.0) (sym g.0)
    (so (subst (λ (m : Knows). ArePlaces m.0) g.0 g.1))

-- the pass is free then
free_gave : (me me' : Knows) (w : View) (took now : Stored) → me ≡ (w, (0, now) ∷ [])
    → w.out ≡ Some took → Gives (step 1 0 0 0 core.none) me 0 me' → w.beside ≡ []
    → 0 < w.parts → length w.tickets ≤ w.parts
    → ((t : Ticket) → IsIn t w.tickets → t.slot < 256) → IsFree me'
free_gave me me' w took now is out gives beside part enough within =
    subst IsFree (sym (gives_as me me' w took now is out gives).0) record {
      rests = refl;
      out = refl;
      clear = refl;
      beside = beside;
      part = part;
      enough = enough;
      within = within;
    }

-- what a pass has in hand once its event was done
asked_me : (v : View) (x : Stored) (by : ℕ) (e : Event) (o : Opened) (me : Knows)
    (a : AskedInTurn (taking v x) x by e o me) (q : Option ℕ) → asked_in o.entries ≡ q
    → me ≡ with_request a.at q (reading v x a.found.used (Some a.at)) x
    (with_new a.at q a.asked.after)
asked_me v x by e o me a q is =
    a.me
    ∙ ap (λ (m : Knows). with_request a.at (asked_in o.entries) m.0 x a.after) a.found.me
    ∙ ap (λ y. with_request a.at (asked_in o.entries)
    (reading v x a.found.used (Some a.at)) x y) a.asked.left
    ∙ ap (λ k. with_request a.at k (reading v x a.found.used (Some a.at)) x
    (with_new a.at k a.asked.after)) is

-- what was in front of the turn, with its event
module _ (v : View) (x : Stored) (first : System) (by : ℕ) (e : Event) (valid : IsValid e)
    (asking : asks e ≡ true) (st : Start v x first) where
  hand_asked : (o : Opened) (me : Knows) (a : AskedInTurn (taking v x) x by e o me)
      (q : Option ℕ) → asked_in o.entries ≡ q → InHand me
  hand_asked o me a None is =
      let y = a.asked.after in
      hand me (reading v x a.found.used (Some a.at)) x y first (asked_me v x by e o me a None is)
      refl st.part st.is_first
      (sound_plain first x y by e o.entries valid (asks_none by e o.entries is) st.sound
      a.asked.enters)
      (follows_entered x y by e o.entries 256 a.asked.enters)
  hand_asked o me a (Some n) is =
      let y = with_new a.at (Some n) a.asked.after in
      hand me (opening a.at n (reading v x a.found.used (Some a.at)) x y) y y first
      (asked_me v x by e o me a (Some n) is) refl st.part st.is_first
      (sound_asked first x a.asked.after by e o.entries a.at n valid asking is a.found.within
      a.found.ended st.sound a.asked.enters)
      (follows_self y 256)

  pub opened_hand : (spent : Bool) (r : Result Opened DeskFault) (me : Knows)
      → OpensAs (taking v x) x spent by e r me → InHand me
  opened_hand spent (Ok o) me h = hand_asked o me h.1 (asked_in o.entries) refl
  opened_hand spent (Err fault.Full) me h =
      hand me (reading v x h.1.used v.clear) x x first h.1.me refl st.part st.is_first st.sound
      (follows_self x 256)
  opened_hand spent (Err fault.JournalSpent) me h =
      hand me (taking v x) x x first h.1 refl st.part st.is_first st.sound (follows_self x 256)
  opened_hand spent (Err fault.PassSpent) me h =
      hand me (taking v x) x x first h.1 refl st.part st.is_first st.sound (follows_self x 256)
  opened_hand spent (Err (fault.Memory refused)) me h =
      hand me (reading v x h.used h.clear) x h.after first h.me refl st.part st.is_first
      (sound_broken first x h.after st.sound h.breaks) (follows_broken x h.after 256 h.breaks)
  opened_hand spent (Err fault.Busy) me h = absurd h

  -- ---- what the pass knows then

  ticket_none : (o : Opened) (y : Stored) → Enters x by e o.entries y
      → asked_in o.entries ≡ None
      → OfState v.first x.journal (λ t. IsTicketOf t e o.entries None)
  ticket_none o y n is =
      behind v x first st (λ t. IsTicketOf t e o.entries None)
      (λ s stands. refused_is s x y by e o.entries valid n.before n.done
      (st.sound.follows s stands) asking is)

  ticket_some : (o : Opened) (y : Stored) (at m : ℕ) → Enters x by e o.entries y
      → asked_in o.entries ≡ Some m
      → OfState v.first x.journal (λ t. IsTicketOf t e o.entries (Some (ticket at m)))
  ticket_some o y at m n is =
      behind v x first st (λ t. IsTicketOf t e o.entries (Some (ticket at m)))
      (λ s stands.
      (let r = asked_is s x y by e o.entries valid n.before n.done (st.sound.follows s stands)
      m asking is in (r.0, is, r.2)))

  with_none : (o : Opened) (at : ℕ) (used : List ℕ) (y : Stored) → length v.tickets < v.parts
      → Enters x by e o.entries y → asked_in o.entries ≡ None → o.ticket ≡ None
      → (v.parts ≡ all_parts → OfState v.first x.journal
      (λ t. AreTaken t x.journal (HasTicket v.tickets) → ⊥))
      → ArePlaces (gave (reading v x used (Some at)) x y)
      → EnteredWith v by e o (gave (reading v x used (Some at)) x y)
  with_none o at used y room n is none free places =
      let w = gave (reading v x used (Some at)) x y in record {
        entered = entered first v w x y by e o.entries y.slots st.is_first refl st.seen st.told
            (sound_plain first x y by e o.entries valid (asks_none by e o.entries is) st.sound n)
            n refl refl places
            (λ untold_. (
            let same : is_broken y ≡ v.told = n.after ∙ sym untold_ in
            λ i. record w {
              told = same i;
              clear = sym st.clear i;
              out = sym st.out i;
            }));
        tickets = ap (λ k. with_ticket k v.tickets) (sym none);
        room = room;
        ticket = subst (λ k. OfState v.first x.journal (λ t. IsTicketOf t e o.entries k))
            (sym none) (ticket_none o y n is);
        free = free;
      }

  with_some : (o : Opened) (at m : ℕ) (used : List ℕ) (y : Stored) → length v.tickets < v.parts
      → at < 256 → IsEnded (slot_at at x.slots) → Enters x by e o.entries y
      → asked_in o.entries ≡ Some m → o.ticket ≡ Some (ticket at m)
      → (v.parts ≡ all_parts → OfState v.first x.journal
      (λ t. AreTaken t x.journal (HasTicket v.tickets) → ⊥))
      → ArePlaces (gave (opening at m (reading v x used (Some at)) x (with_new at (Some m) y))
      (with_new at (Some m) y) (with_new at (Some m) y))
      → EnteredWith v by e o
      (gave (opening at m (reading v x used (Some at)) x (with_new at (Some m) y))
      (with_new at (Some m) y) (with_new at (Some m) y))
  with_some o at m used y room within ended n is some free places =
      let z = with_new at (Some m) y in
      let w = gave (opening at m (reading v x used (Some at)) x z) z z in record {
        entered = entered first v w x y by e o.entries
            (slice_set y.slots at (Some (new_slot m))) st.is_first refl st.seen st.told
            (sound_asked first x y by e o.entries at m valid asking is within ended st.sound n)
            n refl
            (mine_same (mine_after v.mine (length x.journal) (length y.journal))
            (length y.journal) (length y.journal) refl)
            places
            (λ untold_. (
            let same : is_broken y ≡ v.told = n.after ∙ sym untold_ in
            λ i. record w {
              told = same i;
              clear = sym st.clear i;
              out = sym st.out i;
            }));
        tickets = ap (λ k. with_ticket k v.tickets) (sym some);
        room = room;
        ticket = subst (λ k. OfState v.first x.journal (λ t. IsTicketOf t e o.entries k))
            (sym some) (ticket_some o y at m n is);
        free = free;
      }

  gave_asked : (o : Opened) (me me' : Knows) (a : AskedInTurn (taking v x) x by e o me)
      → length v.tickets < v.parts → Gives (step 1 0 0 0 core.none) me 0 me'
      → (q : Option ℕ) → asked_in o.entries ≡ q → EnteredWith v by e o me'.0
  gave_asked o me me' a room gives None is =
      gave_so (EnteredWith v by e o) me me' (reading v x a.found.used (Some a.at)) x a.asked.after
      (asked_me v x by e o me a None is) refl gives
      (with_none o a.at a.found.used a.asked.after room a.asked.enters is
      (a.asked.ticket ∙ ap (option_map (ticket a.at)) is)
      (none_taken v x first a.at st a.found.within a.found.ended a.found.none))
  gave_asked o me me' a room gives (Some m) is =
      let z = with_new a.at (Some m) a.asked.after in
      gave_so (EnteredWith v by e o) me me'
      (opening a.at m (reading v x a.found.used (Some a.at)) x z) z z
      (asked_me v x by e o me a (Some m) is) refl gives
      (with_some o a.at m a.found.used a.asked.after room a.found.within a.found.ended
      a.asked.enters is (a.asked.ticket ∙ ap (option_map (ticket a.at)) is)
      (none_taken v x first a.at st a.found.within a.found.ended a.found.none))

  -- the pass has a part left, where it isn't spent
  has_room : (spent : Bool) → MatchBool spent (v.parts ≤ length v.tickets)
      (length v.tickets < v.parts) → spent ≡ false → length v.tickets < v.parts
  has_room true is unspent = absurd cc
  has_room false is unspent = is

  is_full : (spent : Bool) → MatchBool spent (v.parts ≤ length v.tickets)
      (length v.tickets < v.parts) → spent ≡ true → length v.tickets ≡ v.parts
  is_full true is full = (let most = st.enough in omega arith)
  is_full false is full = absurd cc

  saw_full : (spent : Bool) (me : Knows) → MatchBool spent (v.parts ≤ length v.tickets)
      (length v.tickets < v.parts) → IsReady x spent → (h : Searched (taking v x) x 256 me)
      → SawFull v (gave (reading v x h.used v.clear) x x)
  saw_full spent me is ready h =
      let none = untold v x st.told ready.whole in record {
        seen = st.seen;
        legal = legal_from first x v st.is_first st.sound;
        taken = of_taken first v (λ m. m < 4294967295) x.journal st.is_first
            (let now = st.sound.taken ready.whole in let room = ready.room in omega arith);
        untold = none;
        room = has_room spent is ready.unspent;
        full = behind v x first st (λ t. AreTaken t x.journal (λ n. IsIn n h.used))
            (are_taken v x first h.used st h.taken);
        own = h.own;
        rest = same_else v x h.used v.clear st.out st.clear (ready.whole ∙ sym none);
      }

  saw_pass_spent : (spent : Bool) → MatchBool spent (v.parts ≤ length v.tickets)
      (length v.tickets < v.parts) → IsPassSpent x spent
      → SawPassSpent v (gave (taking v x) x x)
  saw_pass_spent spent is n =
      let none = untold v x st.told n.whole in record {
        seen = st.seen;
        legal = legal_from first x v st.is_first st.sound;
        taken = of_taken first v (λ m. m < 4294967295) x.journal st.is_first
            (let now = st.sound.taken n.whole in let room = n.room in omega arith);
        untold = none;
        spent = is_full spent is n.spent;
        rest = same_else v x [] v.clear st.out st.clear (n.whole ∙ sym none);
      }

  pub opened_gave : (spent : Bool) (r : Result Opened DeskFault) (me me' : Knows)
      → MatchBool spent (v.parts ≤ length v.tickets) (length v.tickets < v.parts)
      → OpensAs (taking v x) x spent by e r me → Gives (step 1 0 0 0 core.none) me 0 me'
      → AsksAs v by e r me'.0
  opened_gave spent (Ok o) me me' is h gives =
      gave_asked o me me' h.1 (has_room spent is h.0.unspent) gives (asked_in o.entries) refl
  opened_gave spent (Err fault.Full) me me' is h gives =
      gave_so (SawFull v) me me' (reading v x h.1.used v.clear) x x h.1.me refl gives
      (λ places. saw_full spent me is h.0 h.1)
  opened_gave spent (Err fault.JournalSpent) me me' is h gives =
      gave_so (SawSpent v) me me' (taking v x) x x h.1 refl gives
      (λ places. saw_first v (taking v x) x first st.out st.clear st.is_first st.seen st.told
      st.sound h.0 refl)
  opened_gave spent (Err fault.PassSpent) me me' is h gives =
      gave_so (SawPassSpent v) me me' (taking v x) x x h.1 refl gives
      (λ places. saw_pass_spent spent is h.0)
  opened_gave spent (Err (fault.Memory refused)) me me' is h gives =
      gave_so (WasTold v) me me' (reading v x h.used h.clear) x h.after h.me refl gives
      (λ places. told_then first v x h.after h.used h.clear st.out st.clear st.is_first st.seen
      (sound_broken first x h.after st.sound h.breaks) h.breaks)
  opened_gave spent (Err fault.Busy) me me' is h gives = absurd h

  -- ---- the pass is free then

  within_so : (t : Ticket) → IsIn t v.tickets → t.slot < 256
  within_so t i = (st.tickets t i).within

  free_asked : (o : Opened) (me me' : Knows) (a : AskedInTurn (taking v x) x by e o me)
      → length v.tickets < v.parts → Gives (step 1 0 0 0 core.none) me 0 me'
      → (q : Option ℕ) → asked_in o.entries ≡ q → IsFree me'
  free_asked o me me' a room gives None is =
      free_gave me me' (reading v x a.found.used (Some a.at)) x a.asked.after
      (asked_me v x by e o me a None is) refl gives st.beside st.part st.enough within_so
  free_asked o me me' a room gives (Some m) is =
      let z = with_new a.at (Some m) a.asked.after in
      free_gave me me' (opening a.at m (reading v x a.found.used (Some a.at)) x z) z z
      (asked_me v x by e o me a (Some m) is) refl gives st.beside st.part (omega arith)
      (λ t i. ⊎_elim
      (λ same. subst (λ (k : Ticket). k.slot < 256) (sym same) a.found.within)
      (λ old. within_so t old) i)

  pub opened_free : (spent : Bool) (r : Result Opened DeskFault) (me me' : Knows)
      → MatchBool spent (v.parts ≤ length v.tickets) (length v.tickets < v.parts)
      → OpensAs (taking v x) x spent by e r me → Gives (step 1 0 0 0 core.none) me 0 me'
      → IsFree me'
  opened_free spent (Ok o) me me' is h gives =
      free_asked o me me' h.1 (has_room spent is h.0.unspent) gives (asked_in o.entries) refl
  opened_free spent (Err fault.Full) me me' is h gives =
      free_gave me me' (reading v x h.1.used v.clear) x x h.1.me refl gives st.beside st.part
      st.enough within_so
  opened_free spent (Err fault.JournalSpent) me me' is h gives =
      free_gave me me' (taking v x) x x h.1 refl gives st.beside st.part st.enough within_so
  opened_free spent (Err fault.PassSpent) me me' is h gives =
      free_gave me me' (taking v x) x x h.1 refl gives st.beside st.part st.enough within_so
  opened_free spent (Err (fault.Memory refused)) me me' is h gives =
      free_gave me me' (reading v x h.used h.clear) x h.after h.me refl gives st.beside st.part
      st.enough within_so
  opened_free spent (Err fault.Busy) me me' is h gives = absurd h

-- ---- the clauses of the call

-- what a call leaves of parts and tickets
pub parts_after : (v : View) (by : ℕ) (e : Event) (r : Result Opened DeskFault) (w : View)
    → AsksAs v by e r w → w.parts ≡ v.parts
parts_after v by e (Ok o) w a = ap (λ z. z.parts) a.entered.rest
parts_after v by e (Err fault.Busy) w a = ap (λ z. z.parts) a.rest
parts_after v by e (Err fault.JournalSpent) w a = ap (λ z. z.parts) a.rest
parts_after v by e (Err fault.PassSpent) w a = ap (λ z. z.parts) a.rest
parts_after v by e (Err fault.Full) w a = ap (λ z. z.parts) a.rest
parts_after v by e (Err (fault.Memory refused)) w a = ap (λ z. z.parts) a.rest

-- what is done in the turn is of what was taken
pub opens_from : (v : View) (me me' : Knows) (spent : Bool) (by : ℕ) (e : Event)
    (r : Result Opened DeskFault) (t : Took v me)
    → ((x : Stored) → me.0.out ≡ Some x → OpensAs me.0 x spent by e r me')
    → OpensAs (taking v t.shared) t.shared spent by e r me'
opens_from v me me' spent by e r t opens =
    subst (λ w. OpensAs w t.shared spent by e r me') (ap (λ (m : Knows). m.0) t.me)
    (opens t.shared (ap (λ (m : Knows). m.0.out) t.me))

pub has_started : (l : List (ℕ × Stored)) (v : View) (me : Knows) → IsFree (v, l) → Took v me
    → HasStarted me
has_started l v me free t = record {
  view = v;
  shared = t.shared;
  first = t.first;
  start = started l v me free t;
  me = t.me;
}

pub spent_still : (v : View) (me : Knows) (spent : Bool) → Took v me
    → MatchBool spent (v.parts ≤ length v.tickets) (length v.tickets < v.parts)
    → MatchBool spent (me.0.parts ≤ length me.0.tickets) (length me.0.tickets < me.0.parts)
spent_still v me spent t is =
    subst (λ (m : Knows). MatchBool spent (m.0.parts ≤ length m.0.tickets)
    (length m.0.tickets < m.0.parts)) (sym t.me) is
