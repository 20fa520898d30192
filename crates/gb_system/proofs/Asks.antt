-- A request is made as the machine makes it.
use Rattle.std.proofs.Common.{◌≡◌, ◌≤◌, ◌==◌, ℕ, ◌+◌, Bool, true, false, cond, Option, Some, None}
use Rattle.std.proofs.Common.{option_map, option_and_then, List, [], ◌∷◌, ◌++◌, append_assoc, refl}
use Rattle.std.proofs.Common.{sym, ap, ◌∙◌, subst, arith}
use Rattle.std.proofs.lemmas.Bool.Decides.{nat_tests}
use Rattle.gb_base.specs.declared.bridge.Reading.TheVariants as reading
use Rattle.gb_base.specs.declared.end.End.{End}
use Rattle.gb_base.specs.declared.end.Side.{Side}
use Rattle.gb_base.specs.declared.end.Side.TheVariants as side
use Rattle.gb_base.specs.declared.entry.Entry.{Entry}
use Rattle.gb_base.specs.declared.entry.Entry.TheVariants as entry
use Rattle.gb_base.specs.declared.outcome.Outcome.TheVariants as outcome
use Rattle.gb_base.specs.declared.served.OwnAsk.{OwnAsk}
use Rattle.gb_bus.specs.Sending.{Sends, label_on}
use Rattle.gb_bus.specs.Wiring.{ends_of}
use Rattle.gb_bus.specs.declared.answers.Sent.{Sent}
use Rattle.gb_bus.specs.declared.bus.Bus.{Bus}
use Rattle.gb_formats.specs.Grammar.{default_timeout}
use Rattle.gb_formats.specs.Message.{message_size, request, spelling}
use Rattle.gb_machine.proofs.Opened.{machine_opened}
use Rattle.gb_machine.proofs.Steps.{told, with_bus}
use Rattle.gb_machine.specs.Actions.{Action, given, nothing, on_bus, tell, when, ◌▸◌}
use Rattle.gb_machine.specs.Asking.{asked, asks, asks_with}
use Rattle.gb_machine.specs.Bus as machine
use Rattle.gb_machine.specs.Bus.{Connection, connection_of, end_of, next_number, other_side}
use Rattle.gb_invariants.proofs.Drawing.{drawn-is-free}
use Rattle.gb_machine.specs.Labels.{next_label}
use Rattle.gb_machine.specs.OwnAsking.{far_asks, far_asks_all}
use Rattle.gb_machine.specs.Sending.{Draft, draft, is_lost, is_wired, label_for, requested, sent}
use Rattle.gb_machine.specs.State.{State}
use Rattle.gb_system.proofs.Doings.{does-given, does-given_none, does-is, does-unless, does-when}
use Rattle.gb_system.proofs.Standing.{each_more, held-stand-more, requested-more}
use Rattle.gb_laws.specs.Possible.{IsAskable}
use Rattle.gb_system.specs.Doing.{Does}
use Rattle.gb_system.specs.Drafts.{ask_told, end_at, own_ask}
use Rattle.gb_system.specs.Stands.{AreSound, IsSound, PartsStand, around_bus}
use Rattle.gb_system.specs.declared.parties.Parties.{Parties}

-- ---- no request is made

none-mapped : {A B : Type 0} (f : A → B) (o : Option A) → option_map f o ≡ None → o ≡ None
none-mapped f None h = refl
none-mapped f (Some v) h = absurd cc

-- what is done on the connection
abbrev on_connection : Draft → State → Connection → Action
on_connection d s c = given (label_for d s.bus) (λ label. asks_with d c label)

-- the connection isn't live
pub ask-nowhere : {x : Parties} {s : State} {a : List Entry} (d : Draft) → PartsStand [] x s
    → None ≡ option_map ends_of (connection_of d.connection s.bus) → Does x (asks d) s a a
unfolding machine_opened
ask-nowhere {x} {s} {a} d st none =
    let e : Does x (given (connection_of d.connection s.bus) (on_connection d s)) s a a =
    does-given_none (on_connection d s)
    (none-mapped ends_of (connection_of d.connection s.bus) (sym none)) st in
    record { told_is = e.told_is; stand = e.stand }

-- then there is no number
pub number-nowhere : {A : Type 0} (f : Connection → A) (d : Draft) (b : machine.Bus)
    → None ≡ option_map f (connection_of d.connection b)
    → None ≡ option_map (λ l. next_number b) (label_on d b)
number-nowhere f d b none = by (connection_of d.connection b) none
  where
    by : (o : Option Connection) → None ≡ option_map f o
        → None ≡ option_map (λ l. next_number b) (option_and_then (λ c. label_for d b) o)
    by None e = refl
    by (Some c) e = absurd cc

-- it is, and no identifier is left
pub ask-unlabelled : {x : Parties} {s : State} {a : List Entry} (d : Draft) → PartsStand [] x s
    → label_on d s.bus ≡ None → Does x (asks d) s a a
unfolding machine_opened
ask-unlabelled {x} {s} {a} d st none =
    by (connection_of d.connection s.bus) refl none
  where
    by : (o : Option Connection) → connection_of d.connection s.bus ≡ o
        → option_and_then (λ c. label_for d s.bus) o ≡ None → Does x (asks d) s a a
    by None e h = ask-nowhere d st (sym (ap (option_map ends_of) e))
    by (Some c) e h =
        let k : Does x (given (connection_of d.connection s.bus) (on_connection d s)) s a a =
        does-given (on_connection d s) c e
        (does-given_none (λ label. asks_with d c label) h st) in
        record { told_is = k.told_is; stand = k.stand }

-- no identifier is drawn where the connection isn't live
pub unlabelled-gone : (d : Draft) (b : machine.Bus) → connection_of d.connection b ≡ None
    → label_on d b ≡ None
unlabelled-gone d b gone = ap (option_and_then (λ c. label_for d b)) gone

-- ---- a request is made

-- the state after it
abbrev after_ask : Draft → ℕ → State → State
after_ask d label s = with_bus (sent d label s.bus) s

-- what is told of one that ends at once
abbrev sent_told : State → Entry
sent_told s = entry.Ended (next_number s.bus) outcome.Sent reading.Nothing

asks-twoway : (d : Draft) (c : Connection) (label : ℕ) (s : State) → d.oneway ≡ false
    → asks_with d c label s ≡ told (after_ask d label s) (asked d c label s.bus ∷ [])
unfolding machine_opened
asks-twoway d c label s e =
    ap (λ t. (on_bus (sent d label) ▸ tell (asked d c label s.bus)
    ▸ when t (tell (sent_told s))) s) e

asks-oneway : (d : Draft) (c : Connection) (label : ℕ) (s : State) → d.oneway ≡ true
    → asks_with d c label s
    ≡ told (after_ask d label s) (asked d c label s.bus ∷ sent_told s ∷ [])
unfolding machine_opened
asks-oneway d c label s e =
    ap (λ t. (on_bus (sent d label) ▸ tell (asked d c label s.bus)
    ▸ when t (tell (sent_told s))) s) e

-- the identifier that is drawn is none where no response comes, and else some
label-sound : (d : Draft) (b : machine.Bus) (label : ℕ) → label_for d b ≡ Some label
    → (label == 0) ≡ d.oneway
label-sound d b label h = by d.oneway refl h
  where
    above : 1 ≤ label → (label == 0) ≡ false
    above least = grind (arith, nat_tests)

    by : (t : Bool) → d.oneway ≡ t
        → cond t (Some 0) (next_label d.connection d.side b) ≡ Some label
        → (label == 0) ≡ d.oneway
    by true e f = let same : 0 ≡ label = cc in
        subst (λ n. (n == 0) ≡ true) same refl ∙ sym e
    by false e f = above (drawn-is-free d.connection d.side b label f).least ∙ sym e

-- the requests are sound still
sound-sent : (d : Draft) (b : machine.Bus) (label : ℕ) → AreSound b → IsAskable d.kind d.payload
    → (d.side ≡ side.Ap → d.oneway ≡ false) → label_for d b ≡ Some label
    → AreSound (sent d label b)
sound-sent d b label sound askable twoway drawn =
    each_more IsSound b.requests (requested d label) sound (record {
      kind = askable.0;
      fits = askable.1;
      label = label-sound d b label drawn;
      twoway = twoway;
    })

-- what is told of it
asked-is : (d : Draft) (c : Connection) (label : ℕ) (b : machine.Bus) (ends : ℕ × End)
    → ends ≡ ends_of c
    → ask_told d.side ends (next_number b) label d.kind d.payload (is_lost d b)
    ≡ asked d c label b
asked-is d c label b ends same =
    ap (λ e. ask_told d.side e (next_number b) label d.kind d.payload (is_lost d b)) same
    ∙ by d.side
  where
    from_to : End → End → Entry
    from_to from to = entry.Asked (next_number b) from to d.kind (message_size d.payload)
        (spelling (request label d.kind d.payload)) (is_lost d b)

    by : (at : Side) → from_to (end_at at (ends_of c)) (end_at (other_side at) (ends_of c))
        ≡ from_to (end_of at c) (end_of (other_side at) c)
    by side.Ap = refl
    by side.Far = refl

-- a connection that is there, and the identifier on it
record IsOn (d : Draft) (b : machine.Bus) (ends : ℕ × End) (label : ℕ) : Type 0 where
  connection : Connection
  live : connection_of d.connection b ≡ Some connection
  same : ends ≡ ends_of connection
  drawn : label_for d b ≡ Some label

is-on : (d : Draft) (b : machine.Bus) (ends : ℕ × End) (label : ℕ)
    → Some ends ≡ option_map ends_of (connection_of d.connection b)
    → label_on d b ≡ Some label → IsOn d b ends label
is-on d b ends label has drawn = by (connection_of d.connection b) refl has drawn
  where
    by : (o : Option Connection) → connection_of d.connection b ≡ o
        → Some ends ≡ option_map ends_of o
        → option_and_then (λ c. label_for d b) o ≡ Some label → IsOn d b ends label
    by None e h l = absurd cc
    by (Some c) e h l = record {
      connection = c;
      live = e;
      same = let is : ends ≡ ends_of c = cc in is;
      drawn = l;
    }

-- what is told of a request, and that it ended where it gets no response
abbrev pub entries_of : Draft → ℕ × End → Sent → List Entry
entries_of d ends r =
    ask_told d.side ends r.number r.label d.kind d.payload r.lost
    ∷ cond d.oneway (entry.Ended r.number outcome.Sent reading.Nothing ∷ []) []

-- the entries of one that gets a response, and of one that gets none
pub told-twoway : (a b : List Entry) (e : Entry) (d : Draft) (ends : ℕ × End) (r : Sent)
    → d.oneway ≡ false → e ≡ ask_told d.side ends r.number r.label d.kind d.payload r.lost
    → b ≡ a ++ e ∷ [] → b ≡ a ++ entries_of d ends r
told-twoway a b e d ends r o is pushed =
    pushed ∙ ap (λ f. a ++ f ∷ []) is
    ∙ sym (ap (λ u. a ++ ask_told d.side ends r.number r.label d.kind d.payload r.lost
    ∷ cond u (entry.Ended r.number outcome.Sent reading.Nothing ∷ []) []) o)

pub told-oneway : (a m b : List Entry) (e : Entry) (d : Draft) (ends : ℕ × End) (r : Sent)
    → d.oneway ≡ true → e ≡ ask_told d.side ends r.number r.label d.kind d.payload r.lost
    → m ≡ a ++ e ∷ [] → b ≡ m ++ entry.Ended r.number outcome.Sent reading.Nothing ∷ []
    → b ≡ a ++ entries_of d ends r
told-oneway a m b e d ends r o is pushed more =
    let last = entry.Ended r.number outcome.Sent reading.Nothing in
    more ∙ ap (λ es. es ++ last ∷ []) pushed ∙ append_assoc a (e ∷ []) (last ∷ [])
    ∙ ap (λ f. a ++ f ∷ last ∷ []) is
    ∙ sym (ap (λ u. a ++ ask_told d.side ends r.number r.label d.kind d.payload r.lost
    ∷ cond u (last ∷ []) []) o)

pub ask-made : {x : Parties} {s : State} {a b : List Entry} (y : Bus) (d : Draft)
    (ends : ℕ × End) (r : Sent) → PartsStand [] x s → IsAskable d.kind d.payload
    → (d.side ≡ side.Ap → d.oneway ≡ false)
    → Some ends ≡ option_map ends_of (connection_of d.connection s.bus)
    → Sends (around_bus [] s) y d s.bus r → b ≡ a ++ entries_of d ends r
    → Does (record x { bus = y }) (asks d) s a b
unfolding machine_opened
ask-made {x} {s} {a} {b} y d ends r st askable twoway has sends appended =
    let on = is-on d s.bus ends r.label has sends.label in
    let c = on.connection in
    let stands = requested-more [] y (sent d r.label s.bus) st sends.stands (record {
      sound = sound-sent d s.bus r.label st.requests.sound askable twoway on.drawn;
      held =
          held-stand-more s.bus.requests (requested d r.label) x.held s.held st.requests.held;
    }) in
    let k = does-given (on_connection d s) c on.live
    (does-given (λ label. asks_with d c label) r.label on.drawn
    (by c on.same stands d.oneway refl)) in
    record { told_is = k.told_is; stand = k.stand }
  where
    same_told : (c : Connection) → ends ≡ ends_of c
        → ask_told d.side ends r.number r.label d.kind d.payload r.lost ≡ asked d c r.label s.bus
    same_told c e =
        ap (λ n. ask_told d.side ends n r.label d.kind d.payload r.lost) sends.number
        ∙ ap (ask_told d.side ends (next_number s.bus) r.label d.kind d.payload) sends.lost
        ∙ asked-is d c r.label s.bus ends e

    by : (c : Connection) → ends ≡ ends_of c
        → PartsStand [] (record x { bus = y }) (after_ask d r.label s) → (t : Bool)
        → d.oneway ≡ t → Does (record x { bus = y }) (asks_with d c r.label) s a b
    by c e stands true o = does-is (after_ask d r.label s)
        (asked d c r.label s.bus ∷ sent_told s ∷ []) (asks-oneway d c r.label s o)
        (appended
        ∙ ap (λ u. a ++ ask_told d.side ends r.number r.label d.kind d.payload r.lost
        ∷ cond u (entry.Ended r.number outcome.Sent reading.Nothing ∷ []) []) o
        ∙ ap (λ f. a ++ f ∷ entry.Ended r.number outcome.Sent reading.Nothing ∷ []) (same_told c e)
        ∙ ap (λ n. a ++ asked d c r.label s.bus
        ∷ entry.Ended n outcome.Sent reading.Nothing ∷ []) sends.number) stands
    by c e stands false o = does-is (after_ask d r.label s) (asked d c r.label s.bus ∷ [])
        (asks-twoway d c r.label s o)
        (appended
        ∙ ap (λ u. a ++ ask_told d.side ends r.number r.label d.kind d.payload r.lost
        ∷ cond u (entry.Ended r.number outcome.Sent reading.Nothing ∷ []) []) o
        ∙ ap (λ f. a ++ f ∷ []) (same_told c e)) stands

-- ---- requests of a far side

-- a request of a far side, where its connection is wired
pub far-asked : {x : Parties} {s : State} {a b : List Entry} (k kind : ℕ) (payload : List ℕ)
    (oneway : Bool) (deadline : ℕ) → s.now + default_timeout ≡ deadline
    → true ≡ is_wired (connection_of k s.bus)
    → Does x (asks (draft k side.Far kind payload deadline oneway)) s a b
    → Does x (far_asks k (own_ask kind payload oneway)) s a b
unfolding machine_opened
far-asked {x} {s} {a} {b} k kind payload oneway deadline time wires d =
    let e : Does x (when (is_wired (connection_of k s.bus))
    (asks (draft k side.Far kind payload (s.now + default_timeout) oneway))) s a b =
    does-when (asks (draft k side.Far kind payload (s.now + default_timeout) oneway)) (sym wires)
    (subst (λ n. Does x (asks (draft k side.Far kind payload n oneway)) s a b)
    (sym time) d) in
    record { told_is = e.told_is; stand = e.stand }

-- and where it isn't
pub far-unasked : {x : Parties} {s : State} {a : List Entry} (k kind : ℕ) (payload : List ℕ)
    (oneway : Bool) → false ≡ is_wired (connection_of k s.bus) → PartsStand [] x s
    → Does x (far_asks k (own_ask kind payload oneway)) s a a
unfolding machine_opened
far-unasked {x} {s} {a} k kind payload oneway wires st =
    let e : Does x (when (is_wired (connection_of k s.bus))
    (asks (draft k side.Far kind payload (s.now + default_timeout) oneway))) s a a =
    does-unless (asks (draft k side.Far kind payload (s.now + default_timeout) oneway))
    (sym wires) st in
    record { told_is = e.told_is; stand = e.stand }

-- requests of a far side: the first, and the rest
pub far-cons : (k : ℕ) (own : OwnAsk) (rest : List OwnAsk)
    → far_asks_all k (own ∷ rest) ≡ far_asks k own ▸ far_asks_all k rest
unfolding machine_opened
far-cons k own rest = refl

pub far-nil : (k : ℕ) → far_asks_all k [] ≡ nothing
unfolding machine_opened
far-nil k = refl
