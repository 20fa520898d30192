-- What the machine's step is for each event, one equation for each way that it goes.
use Rattle.std.proofs.Common.{◌≡◌, ℕ, suc, ◌+◌, Bool, true, false, if◌then◌else◌, Option, Some}
use Rattle.std.proofs.Common.{None, is_none, List, [], ◌∷◌, ◌++◌, append-nil, refl, sym, ap, ◌∙◌}
use Rattle.gb_base.specs.declared.bridge.Reading.TheVariants as reading
use Rattle.gb_base.specs.declared.end.End.{End}
use Rattle.gb_base.specs.declared.end.Side.{Side}
use Rattle.gb_base.specs.declared.end.Side.TheVariants as side
use Rattle.gb_base.specs.declared.entry.Entry.{Entry}
use Rattle.gb_base.specs.declared.entry.Entry.TheVariants as entry
use Rattle.gb_base.specs.declared.event.Event.{Event}
use Rattle.gb_base.specs.declared.event.Event.TheVariants as event
use Rattle.gb_base.specs.declared.host_event.HostEvent.{HostEvent}
use Rattle.gb_base.specs.declared.host_event.HostEvent.TheVariants as host_event
use Rattle.gb_base.specs.declared.outcome.Outcome.{Outcome}
use Rattle.gb_base.specs.declared.outcome.Outcome.TheVariants as outcome
use Rattle.gb_base.specs.declared.interface.Link.{Link}
use Rattle.gb_base.specs.declared.refusal.Refusal.{Refusal}
use Rattle.gb_base.specs.declared.served.OwnAsk.{OwnAsk}
use Rattle.gb_base.specs.declared.steps.Purpose.{Purpose}
use Rattle.gb_formats.specs.Grammar.{default_timeout}
use Rattle.gb_formats.specs.Loader.{find_ask}
use Rattle.gb_formats.specs.Module.{Module}
use Rattle.gb_formats.specs.ModuleLoads.{module_load}
use Rattle.gb_machine.proofs.Opened.{machine_opened}
use Rattle.gb_machine.proofs.Conditions.{unrefused}
use Rattle.gb_machine.specs.Actions.{Action, Told, by_state, change, each, given, on_bus, tell}
use Rattle.gb_machine.specs.Actions.{when, ◌▸◌}
use Rattle.gb_machine.specs.Arriving.{arrives, asked_at, by_label, by_number, delivers, delivers_at}
use Rattle.gb_machine.specs.Arriving.{dropped, ends_answered, forgets, handles, is_held}
use Rattle.gb_machine.specs.Arriving.{keeps, takes}
use Rattle.gb_machine.specs.Asking.{asked, asks, asks_with}
use Rattle.gb_machine.specs.Bus.{Ask, Bus, Connection, Item, Place, Reply, Request}
use Rattle.gb_machine.specs.Bus.{connection_of, is_open, next_number, place_of, queue, request_of}
use Rattle.gb_machine.specs.Delivery.{forgotten, popped}
use Rattle.gb_machine.specs.Events.{decided, does, step}
use Rattle.gb_machine.specs.Host.{link_at}
use Rattle.gb_machine.specs.HostActs.{acts, asked_with, host_asks, host_draft, host_follows}
use Rattle.gb_machine.specs.HostActs.{idles, idles_behind, made_for, notices, made_with}
use Rattle.gb_machine.specs.HostActs.{with_awaited, with_made}
use Rattle.gb_machine.specs.HostTurns.{host_turn}
use Rattle.gb_machine.specs.Incoming.{incoming}
use Rattle.gb_machine.specs.Labels.{next_label}
use Rattle.gb_machine.specs.Lists.{first, holds_of}
use Rattle.gb_machine.specs.Loading.{asks_next, begins, with_begun, with_next}
use Rattle.gb_machine.specs.OwnAsking.{far_asks}
use Rattle.gb_machine.specs.Refusals.{deliver_conditions, has_nothing, is_end_unplugged, refusal}
use Rattle.gb_machine.specs.Requests.{is_idle, same_side}
use Rattle.gb_machine.specs.Responding.{serves}
use Rattle.gb_machine.specs.Sending.{Draft, draft, is_wired, label_for, sent}
use Rattle.gb_machine.specs.SequenceSteps.{is_for_connection}
use Rattle.gb_machine.specs.Settling.{settles_at, settles_from}
use Rattle.gb_machine.specs.State.{Load, Past, Plugged, State}
use Rattle.gb_machine.specs.Turns.{Act, Asking}
use Rattle.gb_machine.specs.Waits.{awaits}
use Rattle.gb_machine.specs.Waiting.{first_waiting}

-- a state and entries
abbrev pub told : State → List Entry → Told
told s es = record { state = s; entries = es }

-- the state with another bus part
abbrev pub with_bus : Bus → State → State
with_bus b s = record s { bus = b }

-- a refused event changes nothing
pub step-refused : (s : State) (e : Event) (why : Refusal) → refusal s e ≡ Some why
    → step s e ≡ told s (entry.Refused why ∷ [])
unfolding machine_opened
step-refused s e why h = ap (λ o. decided o e s) h

-- what is told behind the line's answer
abbrev pub behind_done : Told → Told
behind_done t = told t.state (entry.Done ∷ t.entries)

-- an event that isn't refused is done
pub step-does : (s : State) (e : Event) → refusal s e ≡ None → step s e ≡ behind_done (does e s)
unfolding machine_opened
step-does s e h = ap (λ o. decided o e s) h

-- taking is no matter of the bus
takes-bus : (at : Side) (c : Connection) (b : Bus) (s : State)
    → takes at c (with_bus b s) ≡ takes at c s
takes-bus side.Ap c b s = refl
takes-bus side.Far c b s = refl

-- and neither is holding
is_held-bus : (at : Side) (c : Connection) (b : Bus) (s : State)
    → is_held at c (with_bus b s) ≡ is_held at c s
is_held-bus side.Ap c b s = refl
is_held-bus side.Far c b s = refl

-- a delivery isn't refused where the end is there, and an item waits
pub deliver-allowed : (s : State) (at : End) (p : Place) (item : Item)
    → is_end_unplugged at s ≡ false
    → place_of at s.bus.connections ≡ Some p
    → first (queue p.side p.connection) ≡ Some item
    → refusal s (event.Deliver at) ≡ None
deliver-allowed s at p item there named front =
    unrefused (deliver_conditions s at)
    (there, (ap is_none named, (ap (holds_of has_nothing) named ∙ ap is_none front, tt)))

-- a delivery that isn't refused is done
pub step-deliver : (s : State) (at : End) → refusal s (event.Deliver at) ≡ None
    → step s (event.Deliver at) ≡ behind_done (delivers at s)
unfolding machine_opened
step-deliver s at h = step-does s (event.Deliver at) h

-- what is delivered is taken from its queue and handled
pub delivers-handles : (s : State) (at : End) (p : Place) (item : Item)
    → place_of at s.bus.connections ≡ Some p
    → first (queue p.side p.connection) ≡ Some item
    → delivers at s ≡ handles p.side p.connection item
    (with_bus (popped p.connection.number p.side s.bus) s)
unfolding machine_opened
delivers-handles s at p item named front =
    ap (λ o. given o delivers_at s) named
    ∙ ap (λ o. given o (λ i. on_bus (popped p.connection.number p.side) ▸ handles p.side
    p.connection i) s) front

-- where the end takes it, it arrives
pub delivers-arrives : (s : State) (at : End) (p : Place) (item : Item)
    → place_of at s.bus.connections ≡ Some p
    → first (queue p.side p.connection) ≡ Some item
    → takes p.side p.connection s ≡ true
    → delivers at s ≡ arrives p.side p.connection item
    (with_bus (popped p.connection.number p.side s.bus) s)
unfolding machine_opened
delivers-arrives s at p item named front taken =
    let t = with_bus (popped p.connection.number p.side s.bus) s in
    delivers-handles s at p item named front
    ∙ ap (λ b. (if b then arrives p.side p.connection item else tell (dropped item)) t)
    (takes-bus p.side p.connection (popped p.connection.number p.side s.bus) s ∙ taken)

-- where the end doesn't take it, it is dropped
pub delivers-drops : (s : State) (at : End) (p : Place) (item : Item)
    → place_of at s.bus.connections ≡ Some p
    → first (queue p.side p.connection) ≡ Some item
    → takes p.side p.connection s ≡ false
    → delivers at s ≡ told (with_bus (popped p.connection.number p.side s.bus) s)
    (dropped item ∷ [])
unfolding machine_opened
delivers-drops s at p item named front untaken =
    let t = with_bus (popped p.connection.number p.side s.bus) s in
    delivers-handles s at p item named front
    ∙ ap (λ b. (if b then arrives p.side p.connection item else tell (dropped item)) t)
    (takes-bus p.side p.connection (popped p.connection.number p.side s.bus) s ∙ untaken)

-- a request is delivered and served
pub delivers-serves : (s : State) (at : End) (p : Place) (n : ℕ) (r : Request)
    → place_of at s.bus.connections ≡ Some p
    → first (queue p.side p.connection) ≡ Some (Ask n)
    → takes p.side p.connection s ≡ true
    → is_held p.side p.connection s ≡ false
    → request_of n s.bus ≡ Some r
    → delivers at s ≡ serves p.side p.connection (incoming n r)
    (with_bus (popped p.connection.number p.side s.bus) s)
unfolding machine_opened
delivers-serves s at p n r named front taken free made =
    let t = with_bus (popped p.connection.number p.side s.bus) s in
    delivers-arrives s at p (Ask n) named front taken
    ∙ ap (λ o. given o (λ (m : Request). asked_at p.side p.connection (Ask n) (incoming n m)) t)
    made
    ∙ ap (λ b. (if b then keeps p.connection (Ask n) (incoming n r) else serves p.side p.connection
    (incoming n r)) t)
    (is_held-bus p.side p.connection (popped p.connection.number p.side s.bus) s ∙ free)

-- on a clean connection an answer is taken by its number
pub delivers-by_number : (s : State) (at : End) (p : Place) (n result : ℕ) (payload : List ℕ)
    → place_of at s.bus.connections ≡ Some p
    → first (queue p.side p.connection) ≡ Some (Reply n result payload)
    → takes p.side p.connection s ≡ true
    → p.connection.clean ≡ true
    → delivers at s ≡ by_number p.side p.connection n result payload
    (with_bus (popped p.connection.number p.side s.bus) s)
unfolding machine_opened
delivers-by_number s at p n result payload named front taken clean =
    let t = with_bus (popped p.connection.number p.side s.bus) s in
    delivers-arrives s at p (Reply n result payload) named front taken
    ∙ ap (λ b. (if b then by_number p.side p.connection n result payload
    else by_state (λ u. given (request_of n u.bus)
    (λ (r : Request). by_label p.side p.connection r.label result payload))) t) clean

-- an answer to a request that isn't open is delivered
pub delivers-late : (s : State) (at : End) (p : Place) (n result : ℕ) (payload : List ℕ)
    → place_of at s.bus.connections ≡ Some p
    → first (queue p.side p.connection) ≡ Some (Reply n result payload)
    → takes p.side p.connection s ≡ true
    → p.connection.clean ≡ true
    → is_open n s.bus ≡ false
    → delivers at s ≡ told (with_bus (forgotten n (popped p.connection.number p.side s.bus)) s)
    (entry.Late n ∷ [])
unfolding machine_opened
delivers-late s at p n result payload named front taken clean closed =
    let t = with_bus (popped p.connection.number p.side s.bus) s in
    delivers-by_number s at p n result payload named front taken clean
    ∙ ap (λ b. (if b then ends_answered p.side p.connection n result payload
    else forgets n (entry.Late n)) t) closed

-- ---- settles

-- a settle
pub step-settle : (s : State) (most : ℕ) → step s (event.Settle most)
    ≡ behind_done (settles_from most 0 s)
unfolding machine_opened
step-settle s most = refl

-- what is told before the rest of a settle
abbrev pub told_before : List Entry → Told → Told
told_before es t = told t.state (es ++ t.entries)

-- a delivery, and then the rest
pub settles-on : (s after : State) (left done : ℕ) (at : End) (es : List Entry)
    → first_waiting s.bus ≡ Some at
    → delivers at s ≡ told after es
    → settles_from (suc left) done s ≡ told_before es (settles_from left (done + 1) after)
unfolding machine_opened
settles-on s after left done at es waits is =
    ap (λ o. settles_at o done (settles_from left (done + 1)) s) waits
    ∙ ap (λ (w : Told). told_before w.entries (settles_from left (done + 1) w.state)) is

-- nothing waits any more
pub settles-none : (s : State) (left done : ℕ) → first_waiting s.bus ≡ None
    → settles_from (suc left) done s ≡ told s (entry.Settled done ∷ [])
unfolding machine_opened
settles-none s left done waits = ap (λ o. settles_at o done (settles_from left (done + 1)) s) waits

-- as many deliveries as there may be are made
pub settles-end : (s : State) (done : ℕ) → settles_from 0 done s ≡ told s (entry.Settled done ∷ [])
unfolding machine_opened
settles-end s done = refl

-- ---- firmware downloads

-- the state with other modules, last requests of firmware devices and past
abbrev pub beside : List Plugged → List Load → Past → State → State
beside ms ls p s = record s { modules = ms; loads = ls; past = p }

-- what a request that is made changes, and tells, is a matter of the bus alone
asks-beside : (d : Draft) (ms : List Plugged) (ls : List Load) (p : Past) (s : State)
    → asks d (beside ms ls p s)
    ≡ told (with_bus (asks d s).state.bus (beside ms ls p s)) (asks d s).entries
unfolding machine_opened
asks-beside d ms ls p s = by (connection_of d.connection s.bus) (label_for d s.bus)
  where
    at : Option Connection → Option ℕ → State → Told
    at c l = given c (λ c. given l (λ label. asks_with d c label))

    oneway : (t : Bool) (e f : Entry) (b : Bus)
        → (on_bus (λ a. b) ▸ tell e ▸ when t (tell f)) (beside ms ls p s)
        ≡ told (with_bus ((on_bus (λ a. b) ▸ tell e ▸ when t (tell f)) s).state.bus
        (beside ms ls p s)) ((on_bus (λ a. b) ▸ tell e ▸ when t (tell f)) s).entries
    oneway true e f b = refl
    oneway false e f b = refl

    by : (c : Option Connection) (l : Option ℕ) → at c l (beside ms ls p s)
        ≡ told (with_bus (at c l s).state.bus (beside ms ls p s)) (at c l s).entries
    by None l = refl
    by (Some c) None = refl
    by (Some c) (Some label) =
        oneway d.oneway (asked d c label s.bus)
        (entry.Ended (next_number s.bus) outcome.Sent reading.Nothing) (sent d label s.bus)

pub far_asks-beside : (k : ℕ) (own : OwnAsk) (ms : List Plugged) (ls : List Load) (p : Past)
    (s : State) → far_asks k own (beside ms ls p s)
    ≡ told (with_bus (far_asks k own s).state.bus (beside ms ls p s)) (far_asks k own s).entries
unfolding machine_opened
far_asks-beside k own ms ls p s = by (is_wired (connection_of k s.bus))
  where
    ask : Action
    ask = asks (draft k side.Far own.kind own.payload (s.now + default_timeout) own.oneway)

    by : (t : Bool) → when t ask (beside ms ls p s)
        ≡ told (with_bus (when t ask s).state.bus (beside ms ls p s)) (when t ask s).entries
    by true = asks-beside
        (draft k side.Far own.kind own.payload (s.now + default_timeout) own.oneway) ms ls p s
    by false = refl

-- so such a change behind a request of a far side might be made before it
changed-first : (k : ℕ) (own : OwnAsk) (f : State → State) (ms : List Plugged) (ls : List Load)
    (p : Past) (s : State) → ((b : Bus) → f (with_bus b s) ≡ beside ms ls p (with_bus b s))
    → (far_asks k own ▸ change f) s ≡ far_asks k own (beside ms ls p s)
unfolding machine_opened
changed-first k own f ms ls p s same =
    let t = far_asks k own s in
    ap (λ (w : Told). told (f w.state) (t.entries ++ []))
    (far_asks-beside k own s.modules s.loads s.past s)
    ∙ ap (λ u. told u (t.entries ++ [])) (same t.state.bus)
    ∙ ap (told (beside ms ls p (with_bus t.state.bus s))) (append-nil t.entries)
    ∙ sym (far_asks-beside k own ms ls p s)

-- a download that begins changes the module, and then asks
pub begins-first : (i c : ℕ) (tag : List ℕ) (k : ℕ) (m : Module) (s : State)
    → begins i c tag k m s
    ≡ far_asks k (find_ask tag) (with_begun i c k (next_number s.bus) (module_load m c tag) s)
unfolding machine_opened
begins-first i c tag k m s =
    let n = next_number s.bus in
    let t = with_begun i c k n (module_load m c tag) s in
    changed-first k (find_ask tag) (with_begun i c k n (module_load m c tag)) t.modules t.loads
    t.past s (λ b. refl)

-- and so does one that goes on
pub asks_next-first : (label k i c : ℕ) (own : OwnAsk) (m : Module) (s : State)
    → asks_next (Some label) k i c own m s
    ≡ far_asks k own (with_next i c (next_number s.bus) m s)
unfolding machine_opened
asks_next-first label k i c own m s =
    let n = next_number s.bus in
    let t = with_next i c n m s in
    changed-first k own (with_next i c n m) t.modules t.loads t.past s (λ b. refl)

-- what the application processor does leaves the last requests of firmware devices
asks-loads : (d : Draft) (s : State) → (asks d s).state.loads ≡ s.loads
asks-loads d s =
    ap (λ (t : Told). t.state.loads) (asks-beside d s.modules s.loads s.past s)

awaited-loads : (p : Purpose) (n : ℕ) (s : State) → (with_awaited p n s).loads ≡ s.loads
awaited-loads p n s = by (is_for_connection p.step)
  where
    t : State
    t = record s { host = awaits p n s.host }

    made : (o : Option Link) → (made_for n o t).loads ≡ s.loads
    made None = refl
    made (Some l) = refl

    by : (b : Bool)
        → (if b then made_for n (link_at p.intf p.cport t.host) t else t).loads ≡ s.loads
    by true = made (link_at p.intf p.cport t.host)
    by false = refl

host_asks-loads : (q : Asking) (s : State) → (host_asks q s).state.loads ≡ s.loads
unfolding machine_opened
host_asks-loads q s = by (next_label q.on side.Ap s.bus)
  where
    by : (o : Option ℕ) → (asked_with o q s).state.loads ≡ s.loads
    by None = refl
    by (Some label) =
        awaited-loads q.purpose (next_number s.bus) (asks (host_draft q s.now) s).state
        ∙ asks-loads (host_draft q s.now) s

act-loads : (a : Act) (s : State) → (acts a s).state.loads ≡ s.loads
unfolding machine_opened
act-loads (Act.Ask q) s = host_asks-loads q s
act-loads (Act.Make m q) s = by (next_label q.on side.Ap s.bus)
  where
    by : (o : Option ℕ) → (made_with o m q s).state.loads ≡ s.loads
    by None = refl
    by (Some label) = host_asks-loads q (with_made m s)
act-loads (Act.Shut k) s = refl
act-loads (Act.Leave k) s = refl
act-loads (Act.Tell e) s = refl

acts-loads : (all : List Act) (s : State) → (each all acts s).state.loads ≡ s.loads
unfolding machine_opened
acts-loads [] s = refl
acts-loads (a ∷ all) s = acts-loads all (acts a s).state ∙ act-loads a s

notices-loads : (e : HostEvent) (s : State) → (notices e s).state.loads ≡ s.loads
unfolding machine_opened
notices-loads e s =
    let t = host_turn e s.host in acts-loads t.acts (record s { host = t.host })

idles-loads : (k : ℕ) (s : State) → (idles k s).state.loads ≡ s.loads
unfolding machine_opened
idles-loads k s = by (is_idle k s.bus)
  where
    by : (b : Bool) → (when b (notices (host_event.Idle k)) s).state.loads ≡ s.loads
    by true = notices-loads (host_event.Idle k) s
    by false = refl

pub host_follows-loads : (n : ℕ) (how : Outcome) (s : State)
    → (host_follows n how s).state.loads ≡ s.loads
unfolding machine_opened
host_follows-loads n how s =
    by (request_of n s.bus) ∙ notices-loads e s
  where
    e : HostEvent
    e = host_event.Ended n how

    behind : (b : Bool) (k : ℕ) (t : State) → (when b (idles k) t).state.loads ≡ t.loads
    behind true k t = idles-loads k t
    behind false k t = refl

    by : (o : Option Request)
        → (given o idles_behind (notices e s).state).state.loads ≡ (notices e s).state.loads
    by None = refl
    by (Some r) = behind (same_side side.Ap r.side) r.connection (notices e s).state
