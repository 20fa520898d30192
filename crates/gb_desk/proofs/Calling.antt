-- What a call in its turn does to the history and to its pass.
use Rattle.std.proofs.Common.{◌≡◌, ℕ, ◌+◌, ◌<◌, ◌≤◌, true, false, List, [], ◌∷◌}
use Rattle.std.proofs.Common.{length, refl, sym, ap, ◌∙◌, subst, arith, Option, Some, None}
use Rattle.std.proofs.Common.{is_some}
use Rattle.std.specs.Prelude.{Result, Ok, Err}
use mathlib.Core.List.{IsPrefix}
use mathlib.Core.Option as core
use Rattle.atomic_table.specs.Table.{Allows, rest, step}
use Rattle.gb_base.specs.declared.entry.Entry.{Entry}
use Rattle.gb_base.specs.declared.event.Event.{Event}
use Rattle.gb_base.specs.declared.journal.JournalEntry.{JournalEntry}
use Rattle.gb_desk.proofs.Entering.{follows_broken, follows_entered, follows_self}
use Rattle.gb_desk.proofs.Entering.{longer_by_one, plain_none, sound_broken, sound_plain}
use Rattle.gb_desk.proofs.Turning.{Follows, give, last_of, mine_more, mine_same, not_told}
use Rattle.gb_desk.specs.Calls.{CallsAs, Entered, IsFree, IsLegalFrom, SawSpent}
use Rattle.gb_desk.specs.Calls.{WasTold}
use Rattle.gb_desk.specs.Rules.{Kept, Sound}
use Rattle.gb_desk.specs.Steps.{ArePlaces, Gives, Knows, Took, gave, mine_after, taking}
use Rattle.gb_base.specs.declared.errors.OutOfMemory.{OutOfMemory}
use Rattle.gb_desk.specs.Turns.{Breaks, Enters, IsSpent, TurnsAs, is_broken}
use Rattle.gb_desk.specs.declared.desk_fault.DeskFault.{DeskFault}
use Rattle.gb_desk.specs.declared.desk_fault.DeskFault.TheVariants as fault
use Rattle.gb_desk.specs.declared.slots.Slot.{Slot}
use Rattle.gb_desk.specs.declared.stored.Stored.{Stored}
use Rattle.gb_desk.specs.declared.view.View.{View}
use Rattle.gb_formats.specs.ValidEvents.{IsValid}
use Rattle.gb_machine.specs.AskingEvents.{asks}
use Rattle.gb_system.specs.Stands.{Stands, taken_of}
use Rattle.gb_system.specs.declared.system.System.{System}

-- ---- what is in hand

-- What a pass took, and what it has made of it, as it is about to give the turn back.
pub record InHand (it : Knows) : Type 0 where
  pub took : Stored
  pub now : Stored
  pub first : System
  pub me : it.1 ≡ (0, now) ∷ []
  pub out : it.0.out ≡ Some took
  pub part : 0 < it.0.parts
  pub is_first : it.0.first ≡ Some first
  pub sound : Sound first now
  pub follows : Follows took now 256

pub give_in_hand : (slots : ℕ) (first : System) (id : ℕ) (me : Knows) → InHand me
    → Allows (Kept first) slots id me 0 (λ _. 0) (λ _. Gives (step slots 0 0 0 core.none) me 0)
give_in_hand slots first id me h =
    subst
    (λ l. Allows (Kept first) slots id (me.0, l) 0 (λ _. 0)
    (λ _. Gives (step slots 0 0 0 core.none) (me.0, l) 0))
    (sym h.me)
    (give slots first h.first id me.0 h.took h.now h.out h.part h.is_first h.sound h.follows)

-- what was lent is what was taken
pub taken_is : (v : View) (me : Knows) (x : Stored) (t : Took v me) → me.1 ≡ (0, x) ∷ rest me.1
    → t.shared ≡ x
taken_is v me x t is =
    let slot : ◌≡◌ {A = List (ℕ × Stored)} ((0, t.shared) ∷ []) ((0, x) ∷ rest me.1) =
    sym (ap (λ m. m.1) t.me) ∙ is in
    ap (λ l. last_of l x) slot

-- what a pass knows as it gives the turn back
pub giving : (v : View) (me : Knows) (x y : Stored) (t : Took v me) → me.1 ≡ (0, x) ∷ rest me.1
    → ◌≡◌ {A = Knows} (taking v x, (0, y) ∷ []) (me.0, (0, y) ∷ rest me.1)
giving v me x y t is =
    let same = taken_is v me x t is in
    let was : ◌≡◌ {A = Knows} (taking v x, (0, x) ∷ []) me =
    ap (λ z. (taking v z, (0, z) ∷ [])) (sym same) ∙ sym t.me in
    ap (λ (m : Knows). (m.0, (0, y) ∷ rest m.1)) was

-- ---- an event

-- what a turn leaves is sound, and follows what it found
turned : (first : System) (x y : Stored) (by : ℕ) (e : Event) (r : Result (List Entry) DeskFault)
    → IsValid e → asks e ≡ false → Sound first x → TurnsAs x by e r y
    → Sound first y × Follows x y 256
turned first x y by e (Ok entries) valid plain k n = (
  sound_plain first x y by e entries valid (plain_none by e entries plain) k n,
  follows_entered x y by e entries 256 n,
)
turned first x y by e (Err fault.Busy) valid plain k n = absurd n
turned first x y by e (Err fault.PassSpent) valid plain k n = absurd n
turned first x y by e (Err fault.Full) valid plain k n = absurd n
turned first x y by e (Err fault.JournalSpent) valid plain k n =
    (subst (Sound first) (sym n.1) k, subst (λ z. Follows x z 256) (sym n.1) (follows_self x 256))
turned first x y by e (Err (fault.Memory refused)) valid plain k n =
    (sound_broken first x y k n, follows_broken x y 256 n)

-- what a call has in hand then
pub called_hand : (l : List (ℕ × Stored)) (v : View) (me : Knows) (x y : Stored) (by : ℕ)
    (e : Event) (r : Result (List Entry) DeskFault) → IsFree (v, l) → IsValid e → asks e ≡ false
    → Took v me → me.1 ≡ (0, x) ∷ rest me.1 → TurnsAs x by e r y
    → InHand (me.0, (0, y) ∷ rest me.1)
called_hand l v me x y by e r free valid plain t is turn =
    let sound = subst (Sound t.first) (taken_is v me x t is) t.sound in
    let now = turned t.first x y by e r valid plain sound turn in
    subst InHand (giving v me x y t is) (record {
      took = x;
      now = y;
      first = t.first;
      me = refl;
      out = refl;
      part = free.part;
      is_first = t.is_first;
      sound = now.0;
      follows = now.1;
    })

-- ---- what the pass knows then

pub legal_from : (first : System) (y : Stored) (v : View) → v.first ≡ Some first → Sound first y
    → IsLegalFrom v.first y.journal
legal_from first y v is k = λ x is_x s stands. (
    let same : first ≡ x = cc (is, is_x) in
    (k.follows s (subst (λ z. Stands z s) (sym same) stands)).legal)

pub of_taken : (first : System) (v : View) (P : ℕ → Type 0) (xs : List JournalEntry)
    → v.first ≡ Some first → P (taken_of first + length xs)
    → (x : System) → v.first ≡ Some x → P (taken_of x + length xs)
of_taken first v P xs is holds x is_x =
    let same : first ≡ x = cc (is, is_x) in subst (λ z. P (taken_of z + length xs)) same holds

pub untold : (v : View) (x : Stored) → (v.told ≡ true → is_broken x ≡ true) → is_broken x ≡ false
    → v.told ≡ false
untold v x told whole = not_told v.told (λ is. cc (told is, whole))

-- An event stands at the end of the history, also where a slot was given to its request.
abbrev pub entered : (first : System) (v w : View) (x y : Stored) (by : ℕ) (e : Event)
    (entries : List Entry) (slots : List (Option Slot)) → v.first ≡ Some first
    → w.first ≡ v.first → IsPrefix v.seen x.journal → (v.told ≡ true → is_broken x ≡ true)
    → Sound first (record y { slots = slots }) → Enters x by e entries y
    → w.seen ≡ y.journal → w.mine ≡ mine_after v.mine (length x.journal) (length y.journal)
    → ArePlaces w
    → (v.told ≡ false → w ≡ record v {
      seen = w.seen;
      mine = w.mine;
      used = w.used;
      tickets = w.tickets;
    })
    → Entered v by e entries w
entered first v w x y by e entries slots is same seen told k n saw mine places rest =
    let long = longer_by_one x y by e entries n in
    let none = untold v x told n.before in
    let is_first : w.first ≡ Some first = same ∙ is in
    record {
      before = x.journal;
      begins = seen;
      seen = saw ∙ n.done.journal;
      mine = mine ∙ mine_more v.mine (length x.journal) (length y.journal) (long ∙ omega arith);
      places = places;
      legal = subst (IsLegalFrom w.first) (sym saw)
          (legal_from first (record y { slots = slots }) w is_first k);
      taken = λ z is_z. subst (λ j. taken_of z + length j ≤ 4294967295) (sym saw)
          (of_taken first w (λ m. m ≤ 4294967295) y.journal is_first
          (let now = k.taken n.after in
          let more = n.done.taken in
          let room = n.room in omega arith) z is_z);
      untold = none;
      rest = rest none;
    }

-- what a pass that changed nothing in its turn knows, but for what it has read
pub same_else : (v : View) (x : Stored) (used : List ℕ) (clear : Option ℕ) → v.out ≡ None
    → v.clear ≡ None → is_broken x ≡ v.told
    → gave (record v { out = Some x; used = used; clear = clear }) x x
    ≡ record v { seen = x.journal; used = used }
same_else v x used clear out unclear told =
    let mine = mine_same v.mine (length x.journal) (length x.journal) refl in
    λ i. record (gave (record v { out = Some x; used = used; clear = clear }) x x) {
      mine = mine i;
      told = told i;
      clear = sym unclear i;
      out = sym out i;
    }

-- the history was seen, which is as long as it can get
pub saw_first : (v u : View) (x : Stored) (first : System) → v.out ≡ None → v.clear ≡ None
    → v.first ≡ Some first → IsPrefix v.seen x.journal → (v.told ≡ true → is_broken x ≡ true)
    → Sound first x → IsSpent x → u ≡ taking v x → SawSpent v (gave u x x)
saw_first v u x first out unclear is seen told k n taken =
    let none = untold v x told n.whole in
    subst (λ z. SawSpent v (gave z x x)) (sym taken) (record {
      seen = seen;
      legal = legal_from first x v is k;
      taken = of_taken first v (λ m. 4294967295 ≤ m) x.journal is
          (let now = k.taken n.whole in let most = n.taken in omega arith);
      untold = none;
      rest = same_else v x [] v.clear out unclear (n.whole ∙ sym none);
    })

-- no memory was found
pub told_then : (first : System) (v : View) (x y : Stored) (used : List ℕ) (clear : Option ℕ)
    {refused : OutOfMemory}
    → v.out ≡ None → v.clear ≡ None → v.first ≡ Some first → IsPrefix v.seen x.journal
    → Sound first y → Breaks x refused y
    → WasTold v (gave (record v { out = Some x; used = used; clear = clear }) x y)
told_then first v x y used clear out unclear is seen k n =
    let mine = mine_same v.mine (length x.journal) (length y.journal) (ap length n.journal) in
    record {
      seen = subst (IsPrefix v.seen) (sym n.journal) seen;
      legal = legal_from first y v is k;
      taken = of_taken first v (λ m. m < 4294967295) y.journal is (k.room (ap is_some n.after));
      rest = λ i. record (gave (record v { out = Some x; used = used; clear = clear }) x y) {
        mine = mine i;
        told = ap is_some n.after i;
        clear = sym unclear i;
        out = sym out i;
      };
    }

entered_plain : (first : System) (v : View) (x y : Stored) (by : ℕ) (e : Event)
    (entries : List Entry) → v.out ≡ None → v.clear ≡ None → v.first ≡ Some first
    → IsPrefix v.seen x.journal → (v.told ≡ true → is_broken x ≡ true) → Sound first y
    → Enters x by e entries y → ArePlaces (gave (taking v x) x y)
    → Entered v by e entries (gave (taking v x) x y)
entered_plain first v x y by e entries out unclear is seen told k n places =
    entered first v (gave (taking v x) x y) x y by e entries y.slots is refl seen told k n refl refl
    places
    (λ none. (
    let same : is_broken y ≡ v.told = n.after ∙ sym none in
    λ i. record (gave (taking v x) x y) {
      told = same i;
      clear = sym unclear i;
      out = sym out i;
    }))

saw_spent : (first : System) (v : View) (x y : Stored) → v.out ≡ None → v.clear ≡ None
    → v.first ≡ Some first → IsPrefix v.seen x.journal → (v.told ≡ true → is_broken x ≡ true)
    → Sound first x → IsSpent x → y ≡ x → SawSpent v (gave (taking v x) x y)
saw_spent first v x y out unclear is seen told k n same =
    subst (λ z. SawSpent v (gave (taking v x) x z)) (sym same)
    (saw_first v (taking v x) x first out unclear is seen told k n refl)

was_told : (first : System) (v : View) (x y : Stored) {refused : OutOfMemory} → v.out ≡ None
    → v.clear ≡ None → v.first ≡ Some first → IsPrefix v.seen x.journal → Sound first y
    → Breaks x refused y
    → WasTold v (gave (taking v x) x y)
was_told first v x y out unclear is seen k n =
    told_then first v x y [] v.clear out unclear is seen k n

calls_gave : (first : System) (v : View) (x y : Stored) (by : ℕ) (e : Event)
    (r : Result (List Entry) DeskFault) → v.out ≡ None → v.clear ≡ None → v.first ≡ Some first
    → IsPrefix v.seen x.journal → (v.told ≡ true → is_broken x ≡ true) → Sound first x
    → Sound first y → TurnsAs x by e r y → ArePlaces (gave (taking v x) x y)
    → CallsAs v by e r (gave (taking v x) x y)
calls_gave first v x y by e (Ok entries) out unclear is seen told was k n places =
    (entered_plain first v x y by e entries out unclear is seen told k n places, refl)
calls_gave first v x y by e (Err fault.Busy) out unclear is seen told was k n places = absurd n
calls_gave first v x y by e (Err fault.PassSpent) out unclear is seen told was k n places =
    absurd n
calls_gave first v x y by e (Err fault.Full) out unclear is seen told was k n places = absurd n
calls_gave first v x y by e (Err fault.JournalSpent) out unclear is seen told was k n places =
    saw_spent first v x y out unclear is seen told was n.0 n.1
calls_gave first v x y by e (Err (fault.Memory refused)) out unclear is seen told was k n places =
    was_told first v x y out unclear is seen k n

-- what a step that gives the turn back tells, of what a turn left
gave_is : (v : View) (me me' : Knows) (x y : Stored) → Took v me
    → me.1 ≡ (0, x) ∷ rest me.1 → Gives (step 1 0 0 0 core.none) (me.0, (0, y) ∷ rest me.1) 0 me'
    → (me' ≡ (gave (taking v x) x y, [])) × ArePlaces me'.0
gave_is v me me' x y t is gives =
    let gives' = subst (λ (m : Knows). Gives (step 1 0 0 0 core.none) m 0 me')
    (sym (giving v me x y t is)) gives in
    gives' x y refl refl

pub free_after : (l : List (ℕ × Stored)) (v : View) (me me' : Knows)
    (x y : Stored) → IsFree (v, l) → Took v me → me.1 ≡ (0, x) ∷ rest me.1
    → Gives (step 1 0 0 0 core.none) (me.0, (0, y) ∷ rest me.1) 0 me' → IsFree me'
free_after l v me me' x y free t is gives =
    subst IsFree (sym (gave_is v me me' x y t is gives).0) record {
      rests = refl;
      out = refl;
      clear = refl;
      beside = free.beside;
      part = free.part;
      enough = free.enough;
      within = free.within;
    }

pub called : (l : List (ℕ × Stored)) (v : View) (me me' : Knows)
    (x y : Stored) (by : ℕ) (e : Event) (r : Result (List Entry) DeskFault) → IsFree (v, l)
    → IsValid e → asks e ≡ false → Took v me → me.1 ≡ (0, x) ∷ rest me.1 → TurnsAs x by e r y
    → Gives (step 1 0 0 0 core.none) (me.0, (0, y) ∷ rest me.1) 0 me' → CallsAs v by e r me'.0
called l v me me' x y by e r free valid plain t is turn gives =
    let same = taken_is v me x t is in
    let sound = subst (Sound t.first) same t.sound in
    let now = turned t.first x y by e r valid plain sound turn in
    let gave' = gave_is v me me' x y t is gives in
    let places = subst (λ (m : Knows). ArePlaces m.0) gave'.0 gave'.1 in
    subst (λ (m : Knows). CallsAs v by e r m.0) (sym gave'.0)
    (calls_gave t.first v x y by e r free.out free.clear t.is_first
    (subst (λ z. IsPrefix v.seen z.journal) same t.seen)
    (λ told. ap is_broken (sym same) ∙ t.told told)
    sound now.0 turn places)

-- a call changes no parts
pub same_parts : (v : View) (by : ℕ) (e : Event) (r : Result (List Entry) DeskFault) (w : View)
    → CallsAs v by e r w → w.parts ≡ v.parts
same_parts v by e (Ok entries) w c = ap (λ z. z.parts) c.0.rest
same_parts v by e (Err fault.Busy) w c = ap (λ z. z.parts) c.rest
same_parts v by e (Err fault.PassSpent) w c = absurd c
same_parts v by e (Err fault.Full) w c = absurd c
same_parts v by e (Err fault.JournalSpent) w c = ap (λ z. z.parts) c.rest
same_parts v by e (Err (fault.Memory refused)) w c = ap (λ z. z.parts) c.rest

-- and no tickets
pub same_tickets : (v : View) (by : ℕ) (e : Event) (r : Result (List Entry) DeskFault)
    (w : View) → CallsAs v by e r w → w.tickets ≡ v.tickets
same_tickets v by e (Ok entries) w c = c.1
same_tickets v by e (Err fault.Busy) w c = ap (λ z. z.tickets) c.rest
same_tickets v by e (Err fault.PassSpent) w c = absurd c
same_tickets v by e (Err fault.Full) w c = absurd c
same_tickets v by e (Err fault.JournalSpent) w c = ap (λ z. z.tickets) c.rest
same_tickets v by e (Err (fault.Memory refused)) w c = ap (λ z. z.tickets) c.rest
