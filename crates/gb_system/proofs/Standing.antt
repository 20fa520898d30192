-- What of a state changes, and the parties stand for it still.
use Rattle.std.proofs.Common.{◌≡◌, ℕ, suc, ◌<◌, ◌≤◌, Bool, Some, List, [], ◌∷◌, ◌++◌, length}
use Rattle.std.proofs.Common.{map, refl, sym, ap, ◌∙◌, ⊎_elim, subst, arith, length-append}
use Rattle.std.proofs.lemmas.Bool.{cases_lt}
use Rattle.gb_bus.proofs.Loosening.{let-go}
use Rattle.gb_bus.specs.Stands as bus
use Rattle.gb_bus.specs.declared.bus.Bus.{Bus}
use Rattle.gb_host.specs.Stands as host
use Rattle.gb_host.specs.declared.acts.Act.{Act}
use Rattle.gb_host.specs.declared.host.Host.{Host}
use Rattle.gb_invariants.specs.Facts.{Loose}
use Rattle.gb_machine.proofs.Lists.{nth-past, nth-push, nth-push-below, nth-more}
use Rattle.gb_machine.proofs.Steps.{with_bus}
use Rattle.gb_machine.specs.Bus as machine
use Rattle.gb_machine.specs.Bus.{Request}
use Rattle.gb_machine.specs.Holding.{held_on}
use Rattle.gb_machine.specs.Host as machine_host
use Rattle.gb_machine.specs.Lists.{nth}
use Rattle.gb_machine.specs.Members.{Each}
use Rattle.gb_machine.specs.State.{Held, Load, Past, Plugged, Port, State}
use Rattle.gb_switch.specs.Stands as switch
use Rattle.gb_switch.specs.declared.ladder.Ladder.{Ladder}
use Rattle.gb_system.specs.Held.{held_at, is_marked}
use Rattle.gb_system.specs.Stands.{AreSound, HeldStand, IsShort, PartsStand, PluggedStand}
use Rattle.gb_system.specs.Stands.{RequestsStand, RestStands, StandForHeld, around_bus, held_item}
use Rattle.gb_system.specs.Stands.{names_of}
use Rattle.gb_system.specs.declared.held.HeldRequest.{HeldRequest}
use Rattle.gb_system.specs.declared.held.HeldRequests.{HeldRequests}
use Rattle.gb_system.specs.declared.parties.Parties.{Parties}

-- the same requests were made
pub same-sound : (b c : machine.Bus) → c.requests ≡ b.requests → AreSound b → AreSound c
same-sound b c same sound = λ n r h. sound n r (ap (nth n) (sym same) ∙ h)

-- the same requests stand for it
same-requests : {x : HeldRequests} {hs : List Held} (b c : machine.Bus)
    → RequestsStand x b hs → c.requests ≡ b.requests → RequestsStand x c hs
same-requests {x} {hs} b c h same = record {
  sound = same-sound b c same h.sound;
  held = subst (λ rs. HeldStand rs x hs) (sym same) h.held;
}

-- The parties stand for a state with another bus, other requests that are held, other power levels,
-- another application processor and another past.
pub standing : {x : Parties} {s : State} {was : List Loose} (loose : List Loose) (y : Bus)
    (b : machine.Bus) (held : HeldRequests) (hs : List Held) (v : Ladder) (ports : List Port)
    (z : Host) (h : machine_host.Host) (past : Past) → PartsStand was x s
    → bus.Stands (bus.around_of (loose ++ map held_item hs) (names_of s)) y b
    → RequestsStand held b hs → switch.Stands v ports → host.Stands z h
    → PartsStand loose (record x { bus = y; held = held; ladder = v; host = z })
    (record s { bus = b; held = hs; ports = ports; host = h; past = past })
standing loose y b held hs v ports z h past st on_bus requests on_ladder on_host = record {
  bus = on_bus;
  requests = requests;
  ports = on_ladder;
  plugged = st.plugged;
  host = on_host;
  names = st.names;
  rest = st.rest;
}

-- The parties stand for a state with another bus, on which these requests were made.
pub requested-more : {x : Parties} {s : State} {was : List Loose} (loose : List Loose) (y : Bus)
    (b : machine.Bus) → PartsStand was x s → bus.Stands (around_bus loose s) y b
    → RequestsStand x.held b s.held → PartsStand loose (record x { bus = y }) (with_bus b s)
requested-more {x} {s} loose y b st on_bus requests =
    standing loose y b x.held s.held x.ladder s.ports x.host s.host s.past st on_bus requests
    st.ports st.host

-- The parties stand for a state with another bus, on which the same requests were made.
pub rebussed : {x : Parties} {s : State} {was : List Loose} (loose : List Loose) (y : Bus)
    (b : machine.Bus) → PartsStand was x s → bus.Stands (around_bus loose s) y b
    → b.requests ≡ s.bus.requests → PartsStand loose (record x { bus = y }) (with_bus b s)
rebussed {x} {s} loose y b st on_bus same =
    requested-more loose y b st on_bus (same-requests s.bus b st.requests same)

-- The parties stand for a state with other requests that are held, and another bus and items.
pub reheld : {x : Parties} {s : State} {was : List Loose} (loose : List Loose) (y : Bus)
    (b : machine.Bus) (held : HeldRequests) (hs : List Held) → PartsStand was x s
    → bus.Stands (bus.around_of (loose ++ map held_item hs) (names_of s)) y b
    → b.requests ≡ s.bus.requests → HeldStand s.bus.requests held hs
    → PartsStand loose (record x { bus = y; held = held }) (record s { bus = b; held = hs })
reheld {x} {s} loose y b held hs st on_bus same kept =
    standing loose y b held hs x.ladder s.ports x.host s.host s.past st on_bus
    (same-requests s.bus b (record { sound = st.requests.sound; held = kept }) same) st.ports
    st.host

-- An item is let go.
pub let-gone : {x : Parties} {s : State} (l : Loose) (loose : List Loose)
    → PartsStand (l ∷ loose) x s → PartsStand loose x s
let-gone {x} {s} l loose st =
    rebussed loose x.bus s.bus st (let-go l (around_bus loose s) x.bus s.bus st.bus) refl

-- what holds of all requests and of a new one holds of all of them
pub each_more : (P : Request → Type 0) (rs : List Request) (q : Request)
    → ((n : ℕ) (r : Request) → nth n rs ≡ Some r → P r) → P q
    → (n : ℕ) (r : Request) → nth n (rs ++ q ∷ []) ≡ Some r → P r
each_more P rs q old new n r h =
    ⊎_elim above (λ below. old n r (sym (nth-push-below n rs q below) ∙ h)) (cases_lt (length rs) n)
  where
    above : length rs < n → P r
    above more = ⊎_elim past newest (cases_lt (suc (length rs)) n)
      where
        past : suc (length rs) < n → P r
        past beyond =
            let ends : length (rs ++ q ∷ []) < n = omega (arith, length-append rs (q ∷ [])) in
            absurd (cc (nth-past n (rs ++ q ∷ []) ends, h))

        newest : n ≤ suc (length rs) → P r
        newest most =
            let place : n ≡ suc (length rs) = omega arith in
            let same : q ≡ r = cc (ap (λ m. nth m (rs ++ q ∷ [])) place, nth-push rs q, h) in
            subst P same new

-- requests that are held stay those that were made where one more is made
held-more : (rs : List Request) (q : Request) (xs : List HeldRequest) (hs : List Held)
    → StandForHeld rs xs hs → StandForHeld (rs ++ q ∷ []) xs hs
held-more rs q [] [] h = tt
held-more rs q (x ∷ xs) (y ∷ ys) h =
    let a = h.0 in (
      record {
        number = a.number;
        request = a.request;
        item_is = a.item_is;
        made = nth-more a.number rs q a.request a.made;
        names = a.names;
        payload_is = a.payload_is;
      },
      held-more rs q xs ys h.1,
    )
held-more rs q [] (y ∷ ys) h = absurd h
held-more rs q (x ∷ xs) [] h = absurd h

pub held-stand-more : (rs : List Request) (q : Request) (x : HeldRequests) (hs : List Held)
    → HeldStand rs x hs → HeldStand (rs ++ q ∷ []) x hs
held-stand-more rs q x hs h = λ k. held-more rs q (held_at x k) (held_on k hs) (h k)

-- The parties stand for a state with another application processor.
pub rehosted : {x : Parties} {s : State} {loose : List Loose} (y : Host) (h : machine_host.Host)
    → PartsStand loose x s → host.Stands y h
    → PartsStand loose (record x { host = y }) (record s { host = h })
rehosted {x} {s} {loose} y h st on_host =
    standing loose x.bus s.bus x.held s.held x.ladder s.ports y h s.past st st.bus st.requests
    st.ports on_host

-- The room for what is to be done is no matter of a state.
pub reroomed : {x : Parties} {s : State} {loose : List Loose} (acts : List Act)
    → PartsStand loose x s → PartsStand loose (record x { acts = acts }) s
reroomed acts st = record {
  bus = st.bus;
  requests = st.requests;
  ports = st.ports;
  plugged = st.plugged;
  host = st.host;
  names = st.names;
  rest = st.rest;
}

-- The past is no matter of theirs.
pub repast : {x : Parties} {s : State} {loose : List Loose} (past : Past) → PartsStand loose x s
    → PartsStand loose x (record s { past = past })
repast {x} {s} {loose} past st =
    standing loose x.bus s.bus x.held s.held x.ladder s.ports x.host s.host past st st.bus
    st.requests st.ports st.host

-- The parties stand for a state with other power levels.
pub relevelled : {x : Parties} {s : State} {loose : List Loose} (y : Ladder) (ports : List Port)
    → PartsStand loose x s → switch.Stands y ports
    → PartsStand loose (record x { ladder = y }) (record s { ports = ports })
relevelled {x} {s} {loose} y ports st on_ladder =
    standing loose x.bus s.bus x.held s.held y ports x.host s.host s.past st st.bus st.requests
    on_ladder st.host

-- The parties stand for a state with other modules and other last requests of firmware devices.
pub replugged : {x : Parties} {s : State} {loose : List Loose} (mods ms : List Plugged)
    (last ls : List Load) → PartsStand loose x s → PluggedStand mods last ms ls
    → PartsStand loose (record x { modules = mods; loads = last })
    (record s { modules = ms; loads = ls })
replugged mods ms last ls st plugged = record {
  bus = st.bus;
  requests = st.requests;
  ports = st.ports;
  plugged = plugged;
  host = st.host;
  names = st.names;
  rest = st.rest;
}

-- The parties stand for a state with other modules.
pub stands-with : {x : Parties} {s : State} {loose : List Loose} (ms mods : List Plugged)
    → ms ≡ mods → Each IsShort ms → PartsStand loose x s
    → PartsStand loose (record x { modules = mods }) (record s { modules = ms })
stands-with {x} {s} ms mods same short st =
    replugged mods ms x.loads s.loads st
    (record { modules = same; loads = st.plugged.loads; short = short })

-- They do where the modules are the same.
pub modules-stay : {x : Parties} {s : State} {loose : List Loose} (mods : List Plugged)
    → mods ≡ x.modules → PartsStand loose x s → PartsStand loose (record x { modules = mods }) s
modules-stay {x} {s} mods same st =
    stands-with s.modules mods (st.plugged.modules ∙ sym same) st.plugged.short st

-- The parties stand for a state with other last requests of firmware devices.
pub reloaded : {x : Parties} {s : State} {loose : List Loose} (loads ls : List Load)
    → PartsStand loose x s → ls ≡ loads
    → PartsStand loose (record x { loads = loads }) (record s { loads = ls })
reloaded {x} {s} loads ls st same =
    replugged x.modules s.modules loads ls st
    (record { modules = st.plugged.modules; loads = same; short = st.plugged.short })

-- The parties stand for a state with another start, time and hold marks.
pub rested : {x : Parties} {s : State} {loose : List Loose} (begun : Bool) (clock : ℕ)
    (marks : List ℕ) (b : Bool) (now : ℕ) (ks : List ℕ) → PartsStand loose x s
    → RestStands begun clock marks b now ks
    → PartsStand loose (record x { booted = begun; time = clock; holds = marks })
    (record s { booted = b; now = now; holds = ks })
rested begun clock marks b now ks st rest = record {
  bus = st.bus;
  requests = st.requests;
  ports = st.ports;
  plugged = st.plugged;
  host = st.host;
  names = st.names;
  rest = rest;
}

-- The parties stand for a state with other hold marks.
pub remarked : {x : Parties} {s : State} {loose : List Loose} (marks ks : List ℕ)
    → PartsStand loose x s → ((k : ℕ) → is_marked k ks ≡ is_marked k marks)
    → PartsStand loose (record x { holds = marks }) (record s { holds = ks })
remarked {x} {s} marks ks st alike =
    rested x.booted x.time marks s.booted s.now ks st
    (record { booted = st.rest.booted; time = st.rest.time; holds = alike })
