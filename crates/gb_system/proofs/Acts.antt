-- The acts of the application processor are done as the machine does them.
use Rattle.std.proofs.Common.{◌≡◌, ℕ, ◌+◌, ◌==◌, Bool, true, false, not, cond, Option, Some, None}
use Rattle.std.proofs.Common.{is_none, IsSome, option_map, option_and_then, List, [], ◌∷◌, ◌++◌}
use Rattle.std.proofs.Common.{map, append-nil, refl, sym, ap, ◌∙◌, subst}
use Rattle.gb_base.specs.declared.end.Side.TheVariants as side
use Rattle.gb_base.specs.declared.entry.ConnState.TheVariants as state
use Rattle.gb_base.specs.declared.entry.Entry.{Entry}
use Rattle.gb_base.specs.declared.entry.Entry.TheVariants as entry
use Rattle.gb_base.specs.declared.interface.Link.{Link}
use Rattle.gb_base.specs.declared.steps.Purpose.{Purpose}
use Rattle.gb_bus.specs.Sending.{label_on}
use Rattle.gb_bus.specs.Stands as bus
use Rattle.gb_bus.specs.Wiring.{Attaches, EndsAs, elsewhere}
use Rattle.gb_bus.specs.declared.bus.Bus.{Bus}
use Rattle.gb_formats.specs.Grammar.{default_timeout}
use Rattle.gb_host.specs.Stands as host
use Rattle.gb_invariants.specs.Facts.{Loose}
use Rattle.gb_host.specs.Turning.{Turns, spelled}
use Rattle.gb_host.specs.declared.acts.Act as code
use Rattle.gb_host.specs.declared.host.Host.{Host}
use Rattle.gb_machine.proofs.Opened.{machine_opened}
use Rattle.gb_machine.proofs.Steps.{told, with_bus}
use Rattle.gb_machine.specs.Actions.{Told, change, given, on_bus, ◌▸◌}
use Rattle.gb_machine.specs.Asking.{asks, asks_with}
use Rattle.gb_machine.specs.Bus as machine
use Rattle.gb_machine.specs.Bus.{Connection, connection_of, next_number}
use Rattle.gb_machine.specs.Failures.{unsent}
use Rattle.gb_machine.specs.Host as machine_host
use Rattle.gb_machine.specs.Host.{link_at, with_new_link}
use Rattle.gb_machine.specs.HostActs.{asked_with, fails, host_asks, host_draft, made_for}
use Rattle.gb_machine.specs.HostActs.{with_awaited, with_made}
use Rattle.gb_machine.specs.Labels.{cyclic_label, next_label}
use Rattle.gb_machine.specs.Lists.{without}
use Rattle.gb_machine.specs.Requests.{open_on}
use Rattle.gb_machine.specs.Sending.{Draft, draft, label_for}
use Rattle.gb_machine.specs.SequenceSteps.{is_for_connection}
use Rattle.gb_machine.specs.State.{Held, State}
use Rattle.gb_machine.specs.Turns.{Act, Asking, Failing, Making, failed_turn}
use Rattle.gb_machine.specs.Waits.{awaits}
use Rattle.gb_machine.specs.Wires.{disconnected_told, shuts, unwires, with_unwired}
use Rattle.gb_machine.specs.Wiring.{attached, detached, next_connection, shut_down, unwired}
use Rattle.gb_system.proofs.Doings.{does-as, does-change, does-is, does-on_bus, does-then}
use Rattle.gb_system.proofs.HoldMarks.{unmarked-alike}
use Rattle.gb_system.proofs.Holdings.{stand-lost}
use Rattle.gb_system.proofs.Standing.{rebussed, reheld, rehosted, remarked, repast}
use Rattle.gb_system.specs.Acting.{makes, tells_of}
use Rattle.gb_system.specs.Doing.{Does}
use Rattle.gb_system.specs.Held.{HoldsAs, MarksAs}
use Rattle.gb_system.specs.Stands.{PartsStand, around_bus, held_item, names_of}
use Rattle.gb_system.specs.declared.held.HeldRequests.{HeldRequests}
use Rattle.gb_system.specs.declared.parties.Parties.{Parties}

-- ---- a connection is closed or unwired

shuts-is : (k : ℕ) (s : State) → shuts k s
    ≡ told (with_bus (shut_down k s.bus) s) (map disconnected_told (open_on k side.Ap s.bus))
unfolding machine_opened
shuts-is k s = refl

pub shut-done : {x : Parties} {s : State} {a b : List Entry} (y : Bus) (k : ℕ) (now : List ℕ)
    → PartsStand [] x s
    → EndsAs (around_bus [] s) y k side.Ap s.bus (shut_down k s.bus) [] now
    → b ≡ a ++ map disconnected_told now → Does (record x { bus = y }) (shuts k) s a b
shut-done {x} {s} {a} {b} y k now st ends appended =
    does-is (with_bus (shut_down k s.bus) s) (map disconnected_told (open_on k side.Ap s.bus))
    (shuts-is k s) (appended ∙ ap (λ ns. a ++ map disconnected_told ns) ends.ended)
    (rebussed [] y (shut_down k s.bus) st ends.stands
    refl)

unwires-is : (k : ℕ) (s : State) → unwires k s
    ≡ told (with_unwired k s) (map disconnected_told (open_on k side.Far s.bus))
unfolding machine_opened
unwires-is k s = refl

-- what is held elsewhere is what is held but for one connection
held-elsewhere : (k : ℕ) (hs : List Held)
    → without (λ (l : Loose). l.connection == k) (map held_item hs)
    ≡ map held_item (without (λ h. h.connection == k) hs)
held-elsewhere k [] = refl
held-elsewhere k (h ∷ hs) = by (h.connection == k) (held-elsewhere k hs)
  where
    rest : List Held
    rest = without (λ h. h.connection == k) hs

    items : List Loose
    items = without (λ (l : Loose). l.connection == k) (map held_item hs)

    by : (b : Bool) → items ≡ map held_item rest
        → cond (not b) (held_item h ∷ items) items
        ≡ map held_item (cond (not b) (h ∷ rest) rest)
    by true same = same
    by false same = ap (λ ls. held_item h ∷ ls) same

pub unwire-done : {x : Parties} {s : State} {a b : List Entry} (y : Bus) (holds : List ℕ)
    (held : HeldRequests) (k : ℕ) (now : List ℕ) → PartsStand [] x s
    → EndsAs (elsewhere k (around_bus [] s)) y k side.Far s.bus (unwired k s.bus) [] now
    → MarksAs x.holds holds k false → HoldsAs x.held held k []
    → b ≡ a ++ map disconnected_told now
    → Does (record x { bus = y; holds = holds; held = held }) (unwires k) s a b
unwire-done {x} {s} {a} {b} y holds held k now st ends marks lost appended =
    does-is (with_unwired k s) (map disconnected_told (open_on k side.Far s.bus))
    (unwires-is k s) (appended ∙ ap (λ ns. a ++ map disconnected_told ns) ends.ended)
    (remarked holds (without (λ (j : ℕ). j == k) s.holds)
    (reheld [] y (unwired k s.bus) held (without (λ (h : Held). h.connection == k) s.held) st
    (subst (λ ls. bus.Stands (bus.around_of ls (names_of s)) y (unwired k s.bus))
    (held-elsewhere k s.held) ends.stands)
    refl (stand-lost s.bus.requests s.held k st.requests.held lost))
    (unmarked-alike x.holds holds s.holds k marks st.rest.holds))

-- ---- a sequence fails

fails-is : (f : machine_host.Host → Failing) (s : State)
    → fails f s ≡ told (record s { host = (f s.host).host }) (f s.host).told
unfolding machine_opened
fails-is f s = refl

-- the acts of a failure tell what it tells
tells-told : (es : List Entry) → tells_of (spelled (map Act.Tell es)) ≡ es
tells-told [] = refl
tells-told (e ∷ es) = ap (λ xs. e ∷ xs) (tells-told es)

pub fail-done : {x : Parties} {s : State} {a b : List Entry} (y : Host) (p : Purpose)
    (acts : List code.Act) → PartsStand [] x s → Turns (failed_turn (unsent p s.host)) [] y acts
    → b ≡ a ++ tells_of acts → Does (record x { host = y }) (fails (unsent p)) s a b
fail-done {x} {s} {a} {b} y p acts st turns appended =
    does-is (record s { host = (unsent p s.host).host }) (unsent p s.host).told
    (fails-is (unsent p) s)
    (appended ∙ ap (λ xs. a ++ tells_of xs) turns.acts
    ∙ ap (λ es. a ++ es) (tells-told (unsent p s.host).told))
    (rehosted y (unsent p s.host).host st turns.host)

-- ---- a request is made

-- what waits for a request
pub awaited-stands : {x : Parties} (s : State) (p : Purpose) (n : ℕ)
    → PartsStand [] x (record s { host = awaits p n s.host }) → PartsStand [] x (with_awaited p n s)
awaited-stands {x} s p n st = by (is_for_connection p.step)
  where
    t : State
    t = record s { host = awaits p n s.host }

    made : (o : Option Link) → PartsStand [] x (made_for n o t)
    made None = st
    made (Some l) = repast
        (record t.past { made_for = t.past.made_for ++ (n, l.connection) ∷ [] }) st

    by : (u : Bool) → PartsStand [] x (cond u (made_for n (link_at p.intf p.cport t.host) t) t)
    by true = made (link_at p.intf p.cport t.host)
    by false = st

-- the identifier of a request that gets a response
label-next : (d : Draft) (b : machine.Bus) → d.oneway ≡ false
    → label_on d b ≡ next_label d.connection d.side b
label-next d b twoway =
    ap (λ t. option_and_then (λ c. cond t (Some 0) (next_label d.connection d.side b))
    (connection_of d.connection b)) twoway
    ∙ by (connection_of d.connection b) refl
  where
    by : (o : Option Connection) → connection_of d.connection b ≡ o
        → option_and_then (λ c. next_label d.connection d.side b) o
        ≡ next_label d.connection d.side b
    by None e = sym (ap (option_and_then (cyclic_label d.connection d.side b)) e)
    by (Some c) e = refl

-- the request of an act, with this deadline
abbrev pub act_draft : Asking → ℕ → Draft
act_draft q deadline = draft q.on side.Ap q.kind q.payload deadline false

asked-some : (label : ℕ) (q : Asking) (s : State) → asked_with (Some label) q s
    ≡ (asks (host_draft q s.now) ▸ change (with_awaited q.purpose (next_number s.bus))) s
unfolding machine_opened
asked-some label q s = refl

host_asks-is : (q : Asking) (s : State) → host_asks q s
    ≡ asked_with (next_label q.on side.Ap s.bus) q s
unfolding machine_opened
host_asks-is q s = refl

-- where no identifier is left
asks-unlabelled : (d : Draft) (s : State) → label_on d s.bus ≡ None → asks d s ≡ told s []
unfolding machine_opened
asks-unlabelled d s none = by (connection_of d.connection s.bus) none
  where
    by : (o : Option Connection) → option_and_then (λ c. label_for d s.bus) o ≡ None
        → given o (λ c. given (label_for d s.bus) (λ label. asks_with d c label)) s ≡ told s []
    by None h = refl
    by (Some c) h = ap (λ l. given l (λ label. asks_with d c label) s) h

-- nothing was told where none is left, and the parties stand for the same state
record IsUnasked (x : Parties) (s : State) (a b : List Entry) : Type 0 where
  stand : PartsStand [] x s
  same : b ≡ a

is-unasked : {x : Parties} {s : State} {a b : List Entry} (d : Draft)
    → label_on d s.bus ≡ None → Does x (asks d) s a b → IsUnasked x s a b
is-unasked {x} {s} {a} {b} d none done = record {
  stand = subst (λ (t : Told). PartsStand [] x t.state) (asks-unlabelled d s none) done.stand;
  same = done.told_is ∙ ap (λ (t : Told). a ++ t.entries) (asks-unlabelled d s none)
      ∙ append-nil a;
}

none-from : (o : Option ℕ) (n : ℕ) → None ≡ option_map (λ l. n) o → o ≡ None
none-from None n h = refl
none-from (Some l) n h = absurd cc

record IsFrom (o : Option ℕ) (n m : ℕ) : Type 0 where
  label : ℕ
  some : o ≡ Some label
  number : m ≡ n

some-from : (o : Option ℕ) (n m : ℕ) → Some m ≡ option_map (λ l. n) o → IsFrom o n m
some-from None n m h = absurd cc
some-from (Some l) n m h = record { label = l; some = refl; number = let e : m ≡ n = cc in e }

-- the request is made, and its sequence waits for it
pub host-asked : {x : Parties} {s : State} {a b : List Entry} (y : Host) (q : Asking)
    (deadline n : ℕ) → s.now + default_timeout ≡ deadline
    → Some n ≡ option_map (λ l. next_number s.bus) (label_on (act_draft q deadline) s.bus)
    → Does x (asks (act_draft q deadline)) s a b
    → ((h : machine_host.Host) → host.Stands x.host h → host.Stands y (awaits q.purpose n h))
    → Does (record x { host = y }) (host_asks q) s a b
host-asked {x} {s} {a} {b} y q deadline n time has done waits =
    let from = some-from (label_on (act_draft q deadline) s.bus) (next_number s.bus) n has in
    let t = (asks (act_draft q deadline) s).state in
    let changed = does-change {a = b} (with_awaited q.purpose n)
    (awaited-stands t q.purpose n
    (rehosted y (awaits q.purpose n t.host) done.stand (waits t.host done.stand.host))) in
    let both = does-then done changed in
    does-as (sym (host_asks-is q s
    ∙ ap (λ o. asked_with o q s) (sym (label-next (act_draft q deadline) s.bus refl) ∙ from.some)
    ∙ asked-some from.label q s
    ∙ ap (λ m. (asks (act_draft q m)
    ▸ change (with_awaited q.purpose (next_number s.bus))) s) time
    ∙ ap (λ m. (asks (act_draft q deadline) ▸ change (with_awaited q.purpose m)) s)
    (sym from.number))) both

-- no identifier is left for it
pub host-unasked : {x y : Parties} {s : State} {a b c : List Entry} (q : Asking) (deadline : ℕ)
    → None ≡ option_map (λ l. next_number s.bus) (label_on (act_draft q deadline) s.bus)
    → Does x (asks (act_draft q deadline)) s a b
    → (PartsStand [] x s → Does y (fails (unsent q.purpose)) s b c)
    → Does y (host_asks q) s a c
unfolding machine_opened
host-unasked {x} {y} {s} {a} {b} {c} q deadline has done fail =
    let none = none-from (label_on (act_draft q deadline) s.bus) (next_number s.bus) has in
    let u = is-unasked (act_draft q deadline) none done in
    let f = fail u.stand in
    does-as {f = fails (unsent q.purpose)} (sym (host_asks-is q s
    ∙ ap (λ o. asked_with o q s) (sym (label-next (act_draft q deadline) s.bus refl) ∙ none)))
    (record {
      told_is = f.told_is ∙ ap (λ es. es ++ (fails (unsent q.purpose) s).entries) u.same;
      stand = f.stand;
    })

-- ---- a connection is made

makes-is : (m : Making) (s : State) → makes m s ≡ told (with_made m s)
    (entry.Connection (next_connection s.bus) m.ap m.intf m.cport state.Opening ∷ [])
unfolding machine_opened makes
makes-is m s = refl

-- an identifier is left
pub some-left : (o : Option ℕ) → false ≡ is_none o → IsSome o
some-left None h = absurd cc
some-left (Some label) h = refl

-- or none
pub none-left : (o : Option ℕ) → true ≡ is_none o → o ≡ None
none-left None h = refl
none-left (Some label) h = absurd cc

pub made-done : {x : Parties} {s : State} {a b : List Entry} (y : Bus) (z : Host) (m : Making)
    (p : Purpose) (k : ℕ) → PartsStand [] x s
    → Attaches (around_bus [] s) y m.ap m.intf m.cport m.protocol s.bus k
    → host.Stands z (with_new_link k m.ap p.intf p.cport m.protocol s.host)
    → p.intf ≡ m.intf → p.cport ≡ m.cport
    → b ≡ a ++ entry.Connection k m.ap m.intf m.cport state.Opening ∷ []
    → Does (record x { bus = y; host = z }) (makes m) s a b
made-done {x} {s} {a} {b} y z m p k st attaches hosts i c appended =
    does-is (with_made m s)
    (entry.Connection (next_connection s.bus) m.ap m.intf m.cport state.Opening ∷ [])
    (makes-is m s)
    (appended ∙ ap (λ n. a ++ entry.Connection n m.ap m.intf m.cport state.Opening ∷ [])
    attaches.number)
    (rehosted z (with_made m s).host
    (rebussed [] y (attached m.ap m.intf m.cport m.protocol s.bus) st attaches.stands
    refl)
    (subst (host.Stands z)
    (ap (λ n. with_new_link n m.ap p.intf p.cport m.protocol s.host) attaches.number
    ∙ ap (λ n. with_new_link (next_connection s.bus) m.ap n p.cport m.protocol s.host) i
    ∙ ap (λ n. with_new_link (next_connection s.bus) m.ap m.intf n m.protocol s.host) c) hosts))

-- ---- the other acts

pub leave-done : {x : Parties} {s : State} {a : List Entry} (y : Bus) (k : ℕ) → PartsStand [] x s
    → bus.Stands (around_bus [] s) y (detached k s.bus)
    → Does (record x { bus = y }) (on_bus (detached k)) s a a
leave-done {x} {s} {a} y k st stands =
    does-on_bus (detached k) (rebussed [] y (detached k s.bus) st stands
    refl)
