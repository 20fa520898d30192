-- What is done in the turn of a request.
use Rattle.std.proofs.Common.{◌≡◌, ℕ, ◌+◌, ◌%◌, ◌^◌, ◌<◌, Bool, true, false, List, [], ◌∷◌}
use Rattle.std.proofs.Common.{length, refl, sym, ap, ◌∙◌, subst, arith, Option, Some, None}
use Rattle.std.specs.Prelude.{Err, option_map, is_some}
use mathlib.Core.Option as core
use Rattle.atomic_table.specs.Table.{Allows, rest, step}
use Rattle.gb_base.specs.declared.event.Event.{Event}
use Rattle.gb_desk.proofs.Entering.{as_long, follows_new, sound_asked}
use Rattle.gb_desk.proofs.Looking.{first_ticket}
use Rattle.gb_desk.proofs.Searching.{lent_out}
use Rattle.gb_desk.proofs.SlotLists.{slot_same}
use Rattle.gb_desk.proofs.Turning.{Follows, last_of}
use Rattle.gb_desk.specs.InTurn.{AskedInTurn, BreaksInTurn, Found, HasStarted, HasTurn, OpensAs}
use Rattle.gb_desk.specs.InTurn.{with_request}
use Rattle.gb_desk.specs.Rules.{Kept, Sound}
use Rattle.gb_desk.specs.Slots.{IsEnded, new_slot, slot_at}
use Rattle.gb_desk.specs.Steps.{Knows, Opens, opening}
use Rattle.gb_desk.specs.Tickets.{ticket}
use Rattle.gb_base.specs.declared.errors.OutOfMemory.{OutOfMemory}
use Rattle.gb_desk.specs.Turns.{Asked, AsksInTurn, BarsAs, Breaks, IsReady, with_new, is_broken}
use Rattle.gb_desk.specs.declared.desk_fault.DeskFault.{DeskFault}
use Rattle.gb_desk.specs.declared.desk_fault.DeskFault.TheVariants as fault
use Rattle.gb_desk.specs.declared.stored.Stored.{Stored}
use Rattle.gb_desk.specs.declared.ticket.Opened.{Opened}
use Rattle.gb_desk.specs.declared.view.View.{View}
use Rattle.gb_formats.specs.ValidEvents.{IsValid}
use Rattle.gb_laws.specs.Tickets.{asked_in}
use Rattle.gb_machine.specs.AskingEvents.{asks}
use Rattle.gb_system.specs.declared.system.System.{System}

-- a pass that was free and took the turn has it
pub turn_of : (me : Knows) → HasStarted me → HasTurn me
turn_of me h =
    subst HasTurn (sym h.me) (record {
      shared = h.shared;
      out = refl;
      me = refl;
      part = h.start.part;
      clear = h.start.clear;
    })

-- also once what it took was lent
pub lent_turn : (me : Knows) (x : Stored) → HasStarted me → me.1 ≡ (0, x) ∷ rest me.1
    → HasTurn (me.0, (0, x) ∷ rest me.1)
lent_turn me x h is = subst HasTurn (λ i. (me.0, is i)) (turn_of me h)

pub unused_of : (me : Knows) → HasStarted me → me.0.used ≡ []
unused_of me h = ap (λ (m : Knows). m.0.used) h.me

-- what is lent is what it took
pub started_held : (me : Knows) (h : HasStarted me) → me.1 ≡ (0, h.shared) ∷ rest me.1
started_held me h = subst (λ (m : Knows). m.1 ≡ (0, h.shared) ∷ rest m.1) (sym h.me) refl

-- ---- what keeps it from the event

broken_still : (x : Stored) (refused : OutOfMemory) → x.broken ≡ Some refused
    → Breaks x refused x
broken_still x refused is = record {
  journal = refl;
  slots = refl;
  after = is;
  room = λ whole. absurd (cc (ap is_some is, whole));
}

barred_at : (v : View) (x : Stored) (spent : Bool) (by : ℕ) (e : Event) (f : DeskFault)
    → BarsAs x spent (Some f) → OpensAs v x spent by e (Err f) (v, (0, x) ∷ [])
barred_at v x spent by e (fault.Memory refused) bars = record {
  after = x;
  breaks = broken_still x refused bars;
  used = v.used;
  clear = v.clear;
  me = refl;
}
barred_at v x spent by e fault.JournalSpent bars = (bars, refl)
barred_at v x spent by e fault.PassSpent bars = (bars, refl)
barred_at v x spent by e fault.Busy bars = absurd bars
barred_at v x spent by e fault.Full bars = absurd bars

-- what is held then
held_is : (me : Knows) (x y : Stored) → HasTurn me → me.1 ≡ (0, x) ∷ rest me.1
    → me.0.out ≡ Some y → ◌≡◌ {A = Knows} (me.0, (0, x) ∷ rest me.1) (me.0, (0, y) ∷ [])
held_is me x y h is out =
    let same = lent_out me x y h is out in
    let took = h.out in
    let shared : h.shared ≡ y = cc (took, out) in
    let list : me.1 ≡ (0, y) ∷ [] =
    h.me ∙ ap (λ (z : Stored). let p : ℕ × Stored = (0, z) in p ∷ []) shared in
    λ i. (me.0, (sym is ∙ list) i)

pub barred : (me : Knows) (x y : Stored) (spent : Bool) (by : ℕ) (e : Event) (f : DeskFault)
    → HasStarted me → me.1 ≡ (0, x) ∷ rest me.1 → me.0.out ≡ Some y → BarsAs x spent (Some f)
    → OpensAs me.0 y spent by e (Err f) (me.0, (0, x) ∷ rest me.1)
barred me x y spent by e f h is out bars =
    let same = lent_out me x y (turn_of me h) is out in
    subst (OpensAs me.0 y spent by e (Err f)) (sym (held_is me x y (turn_of me h) is out))
    (barred_at me.0 y spent by e f (subst (λ z. BarsAs z spent (Some f)) (sym same) bars))

-- nothing does
pub ready : (me : Knows) (x y : Stored) (spent : Bool) → HasStarted me
    → me.1 ≡ (0, x) ∷ rest me.1 → me.0.out ≡ Some y → BarsAs x spent None → IsReady y spent
ready me x y spent h is out bars =
    subst (λ z. IsReady z spent) (sym (lent_out me x y (turn_of me h) is out)) bars

-- ---- a slot was found

-- what is held once a slot was found
pub found_held : (v : View) (x : Stored) (i : ℕ) (me : Knows) → Found v x i me
    → me.1 ≡ (0, x) ∷ rest me.1
found_held v x i me f = subst (λ (m : Knows). m.1 ≡ (0, x) ∷ rest m.1) (sym f.me) refl

-- and lent
pub found_lent : (v : View) (x y : Stored) (i : ℕ) (me : Knows) → Found v x i me
    → me.1 ≡ (0, y) ∷ rest me.1 → x ≡ y
found_lent v x y i me f is =
    let slot : ◌≡◌ {A = List (ℕ × Stored)} ((0, x) ∷ []) ((0, y) ∷ rest me.1) =
    sym (ap (λ (m : Knows). m.1) f.me) ∙ is in
    ap (λ l. last_of l y) slot

-- what is held once what was lent was changed
changed_held : (v : View) (x y z : Stored) (i : ℕ) (me : Knows) (f : Found v x i me)
    → ◌≡◌ {A = Knows} (me.0, (0, z) ∷ rest me.1)
    (record v { used = f.used; clear = Some i }, (0, z) ∷ [])
changed_held v x y z i me f = ap (λ (m : Knows). (m.0, (0, z) ∷ rest m.1)) f.me

pub broke : (v : View) (x y z : Stored) (refused : OutOfMemory) (i : ℕ) (me : Knows)
    → Found v x i me
    → me.1 ≡ (0, y) ∷ rest me.1 → Breaks y refused z
    → BreaksInTurn v x refused (me.0, (0, z) ∷ rest me.1)
broke v x y z refused i me f is b = record {
  after = z;
  breaks = subst (λ u. Breaks u refused z) (sym (found_lent v x y i me f is)) b;
  used = f.used;
  clear = Some i;
  me = changed_held v x y z i me f;
}

pub broke_by : (v : View) (x y z : Stored) (i by : ℕ) (e : Event) (spent : Bool)
    (f : DeskFault) (me : Knows) → Found v x i me → me.1 ≡ (0, y) ∷ rest me.1
    → AsksInTurn y i by e (Err f) z → OpensAs v x spent by e (Err f) (me.0, (0, z) ∷ rest me.1)
broke_by v x y z i by e spent (fault.Memory refused) me f is a = broke v x y z refused i me f is a
broke_by v x y z i by e spent fault.Busy me f is a = absurd a
broke_by v x y z i by e spent fault.JournalSpent me f is a = absurd a
broke_by v x y z i by e spent fault.PassSpent me f is a = absurd a
broke_by v x y z i by e spent fault.Full me f is a = absurd a

-- it was found by a pass that knows what it took
pub out_of : (old : Knows) (h : HasStarted old) → old.0.out ≡ Some h.shared
out_of old h = ap (λ (m : Knows). m.0.out) h.me

-- and still nothing keeps it from the event
pub still_ready : (old me : Knows) (x z : Stored) (i : ℕ) (spent : Bool) (h : HasStarted old)
    → old.1 ≡ (0, x) ∷ rest old.1 → BarsAs x spent None → Found old.0 h.shared i me
    → me.1 ≡ (0, z) ∷ rest me.1 → IsReady z spent
still_ready old me x z i spent h is bars f also =
    subst (λ u. IsReady u spent) (found_lent old.0 h.shared z i me f also)
    (ready old x h.shared spent h is (out_of old h) bars)

no_request : (o : Option ℕ) (i : ℕ) → is_some (option_map (ticket i) o) ≡ false → o ≡ None
no_request None i is = refl
no_request (Some n) i is = absurd cc

a_request : (o : Option ℕ) (i : ℕ) → is_some (option_map (ticket i) o) ≡ true
    → (n : ℕ) × (o ≡ Some n)
a_request None i is = absurd cc
a_request (Some n) i is = (n, refl)

-- an event that asked none
pub asked_none : (v : View) (x y z : Stored) (i by : ℕ) (e : Event) (o : Opened) (me : Knows)
    → Found v x i me → me.1 ≡ (0, y) ∷ rest me.1 → Asked y i by e o z
    → is_some o.ticket ≡ false → AskedInTurn v x by e o (me.0, (0, z) ∷ rest me.1)
asked_none v x y z i by e o me f is a none =
    let no = no_request (asked_in o.entries) i (ap is_some (sym a.ticket) ∙ none) in
    record {
      at = i;
      after = z;
      search = me;
      found = f;
      asked = subst (λ u. Asked u i by e o z) (sym (found_lent v x y i me f is)) a;
      me =
          let plain : ◌≡◌ {A = Knows} (me.0, (0, z) ∷ rest me.1) (me.0, (0, z) ∷ []) =
          ap (λ (l : List (ℕ × Stored)). (me.0, (0, z) ∷ rest l))
          (ap (λ (m : Knows). m.1) f.me) in
          plain ∙ ap (λ q. with_request i q me.0 x z) (sym no);
    }

-- what is known where a request was asked
record HasAsked (first : System) (x z : Stored) (i by : ℕ) (e : Event) (o : Opened) : Type 0 where
  number : ℕ
  is : asked_in o.entries ≡ Some number
  sound : Sound first z
  follows : Follows x z i
  there : slot_at i z.slots ≡ Some (new_slot number)

has_asked : (first : System) (x z : Stored) (i by : ℕ) (e : Event) (o : Opened) → IsValid e
    → asks e ≡ true → i < 256 → IsEnded (slot_at i x.slots) → Sound first x
    → (a : Asked x i by e o z) → is_some o.ticket ≡ true → HasAsked first x z i by e o
has_asked first x z i by e o valid asking low ended sound a some =
    let r = a_request (asked_in o.entries) i (ap is_some (sym a.ticket) ∙ some) in
    let left : z ≡ with_new i (Some r.0) a.after =
    a.left ∙ ap (λ q. with_new i q a.after) r.1 in
    let long = as_long first x a.after by e o.entries sound a.enters in
    record {
      number = r.0;
      is = r.1;
      sound = subst (Sound first) (sym left)
          (sound_asked first x a.after by e o.entries i r.0 valid asking r.1 low ended sound
          a.enters);
      follows = subst (λ u. Follows x u i) (sym left)
          (follows_new x a.after by e o.entries i r.0 a.enters);
      there = ap (λ u. slot_at i u.slots) left
          ∙ slot_same a.after.slots i (Some (new_slot r.0)) (omega arith);
    }

-- what it was that was taken
sound_of : (old : Knows) (x : Stored) (h : HasStarted old) → old.0.out ≡ Some x → Sound h.first x
sound_of old x h out =
    let is : Some h.shared ≡ Some x = sym (ap (λ (m : Knows). m.0.out) h.me) ∙ out in
    let same : h.shared ≡ x = cc in subst (Sound h.first) same h.start.sound

asked_of : (old me : Knows) (x y z : Stored) (i by : ℕ) (e : Event) (o : Opened)
    (h : HasStarted old) → old.0.out ≡ Some x → Found old.0 x i me → me.1 ≡ (0, y) ∷ rest me.1
    → Asked y i by e o z → is_some o.ticket ≡ true → IsValid e → asks e ≡ true
    → Asked x i by e o z × HasAsked h.first x z i by e o
asked_of old me x y z i by e o h out f is a some valid asking =
    let same = found_lent old.0 x y i me f is in
    let also = subst (λ u. Asked u i by e o z) (sym same) a in (
      also,
      has_asked h.first x z i by e o valid asking f.within f.ended (sound_of old x h out) also some,
    )

-- the step that makes the first ticket
pub makes_first : (slots : ℕ) (first : System) (id : ℕ) (old me : Knows) (x y z : Stored)
    (i by : ℕ) (e : Event) (o : Opened) → HasStarted old → old.0.out ≡ Some x
    → Found old.0 x i me → me.1 ≡ (0, y) ∷ rest me.1 → Asked y i by e o z
    → is_some o.ticket ≡ true → IsValid e → asks e ≡ true
    → length old.0.tickets < old.0.parts
    → Allows (Kept first) slots id (me.0, (0, z) ∷ rest me.1) (i + 1) (λ n. (n + 1) % 2 ^ 64)
    (Opens (step slots (i + 1) 1 0 core.none) (me.0, (0, z) ∷ rest me.1))
makes_first slots first id old me x y z i by e o h out f is a some valid asking room =
    let k = asked_of old me x y z i by e o h out f is a some valid asking in
    let is_first : old.0.first ≡ Some h.first =
    ap (λ (m : Knows). m.0.first) h.me ∙ h.start.is_first in
    subst
    (λ (m : Knows). Allows (Kept first) slots id m (i + 1) (λ n. (n + 1) % 2 ^ 64)
    (Opens (step slots (i + 1) 1 0 core.none) m))
    (sym (changed_held old.0 x y z i me f))
    (first_ticket slots first h.first id (record old.0 { used = f.used; clear = Some i }) i x z
    (new_slot k.1.number) out refl (turn_of old h).part room is_first k.1.sound k.1.follows
    k.1.there)

-- an event whose request has it
pub asked_some : (slots n : ℕ) (old me me' : Knows) (x y z : Stored) (i by : ℕ) (e : Event)
    (o : Opened) → HasStarted old → old.0.out ≡ Some x → Found old.0 x i me
    → me.1 ≡ (0, y) ∷ rest me.1 → Asked y i by e o z → is_some o.ticket ≡ true → IsValid e
    → asks e ≡ true → Opens (step slots (i + 1) 1 0 core.none) (me.0, (0, z) ∷ rest me.1) n me'
    → AskedInTurn old.0 x by e o me'
asked_some slots n old me me' x y z i by e o h out f is a some valid asking opens =
    let k = asked_of old me x y z i by e o h out f is a some valid asking in
    let list : ◌≡◌ {A = List (ℕ × Stored)} ((0, z) ∷ rest me.1) ((0, z) ∷ []) =
    ap (λ (m : Knows). let p : ℕ × Stored = (0, z) in p ∷ rest m.1) f.me in
    let took : me.0.out ≡ Some x = ap (λ (m : Knows). m.0.out) f.me ∙ out in
    record {
      at = i;
      after = z;
      search = me;
      found = f;
      asked = k.0;
      me = opens i x z (new_slot k.1.number) refl took list k.1.there
          ∙ ap (λ (l : List (ℕ × Stored)). (opening i k.1.number me.0 x z, l)) list
          ∙ ap (λ q. with_request i q me.0 x z) (sym k.1.is);
    }
