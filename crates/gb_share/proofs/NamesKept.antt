-- Names stay as they are at requests, wires, what the application processor does, and modules.
-- NamesServed has all other events but sends, bridge lines, copies and drops.
use Rattle.std.proofs.Common.{◌≡◌, ℕ, Bool, true, false, if◌then◌else◌, Option, Some, None, List}
use Rattle.std.proofs.Common.{[], ◌∷◌, is_some, refl, ◌∙◌}
use Rattle.gb_base.specs.declared.download.Next.{Next}
use Rattle.gb_base.specs.declared.download.Next.TheVariants as next
use Rattle.gb_base.specs.declared.entry.Entry.{Entry}
use Rattle.gb_base.specs.declared.host_event.HostEvent.{HostEvent}
use Rattle.gb_base.specs.declared.name.Name.{Name}
use Rattle.gb_base.specs.declared.outcome.Outcome.{Outcome}
use Rattle.gb_base.specs.declared.interface.Link.{Link}
use Rattle.gb_base.specs.declared.served.OwnAsk.{OwnAsk}
use Rattle.gb_base.specs.declared.steps.Purpose.{Purpose}
use Rattle.gb_formats.specs.Devices.{Stir}
use Rattle.gb_formats.specs.Module.{Module}
use Rattle.gb_formats.specs.SvcRecords.{SvcAsk}
use Rattle.gb_machine.specs.Actions.{Action, by_state, change, each, given, nothing, on_bus}
use Rattle.gb_machine.specs.Actions.{on_host, tell, tell_all, when, ◌▸◌}
use Rattle.gb_machine.specs.Asking.{asks, asks_with}
use Rattle.gb_machine.specs.Bus.{Bus, Connection, Place, Request, next_number, request_of}
use Rattle.gb_machine.specs.GivingUp.{cancels, gives_up, ticks, times_out}
use Rattle.gb_machine.specs.Host.{Host, link_at}
use Rattle.gb_machine.specs.HostActs.{acts, asked_with, drains, fails, follows, host_asks}
use Rattle.gb_machine.specs.HostActs.{host_follows, host_makes, idles, idles_behind, made_for}
use Rattle.gb_machine.specs.HostActs.{notices, made_with, turns, with_awaited}
use Rattle.gb_machine.specs.LineActions.{stirred, stirs}
use Rattle.gb_machine.specs.Loading.{asks_at, asks_next, begins, fails_unasked, goes_on, load_ended}
use Rattle.gb_machine.specs.Loading.{load_follows, loads}
use Rattle.gb_machine.specs.OwnAsking.{far_asks, far_asks_all, svc_asks}
use Rattle.gb_machine.specs.Plugging.{boots, plugs, pulls, pulls_module, pulls_one, recalled}
use Rattle.gb_machine.specs.Plugging.{tells_inserted, tells_removed, with_told}
use Rattle.gb_machine.specs.Responding.{disconnects}
use Rattle.gb_machine.specs.Sending.{Draft}
use Rattle.gb_machine.specs.SequenceSteps.{is_for_connection}
use Rattle.gb_machine.specs.State.{Plugged, State}
use Rattle.gb_machine.specs.Turns.{Act, Asking, Failing, Making, Turn}
use Rattle.gb_machine.specs.Waits.{awaits}
use Rattle.gb_machine.specs.Wires.{shuts, unwires, wires}

-- ---- actions

-- an action changes no names
abbrev pub Keeps : Action → Type 0
Keeps f = (s : State) → (f s).state.names ≡ s.names

pub keeps_then : (f g : Action) → Keeps f → Keeps g → Keeps (f ▸ g)
unfolding ◌▸◌
keeps_then f g one two s = two (f s).state ∙ one s

pub keeps_by_state : (f : State → Action) → ((t : State) → Keeps (f t)) → Keeps (by_state f)
unfolding by_state
keeps_by_state f h s = h s s

pub keeps_given : {A : Type 0} (o : Option A) (f : A → Action) → ((x : A) → Keeps (f x))
    → Keeps (given o f)
unfolding given nothing
keeps_given None f h s = refl
keeps_given (Some x) f h s = h x s

pub keeps_if : (b : Bool) (f g : Action) → Keeps f → Keeps g → Keeps (if b then f else g)
keeps_if true f g one two = one
keeps_if false f g one two = two

pub keeps_nothing : Keeps nothing
unfolding nothing
keeps_nothing s = refl

pub keeps_tell : (e : Entry) → Keeps (tell e)
unfolding tell
keeps_tell e s = refl

pub keeps_tell_all : (es : List Entry) → Keeps (tell_all es)
unfolding tell_all
keeps_tell_all es s = refl

pub keeps_change : (f : State → State) → ((s : State) → (f s).names ≡ s.names) → Keeps (change f)
unfolding change
keeps_change f h s = h s

pub keeps_on_bus : (f : Bus → Bus) → Keeps (on_bus f)
unfolding on_bus change
keeps_on_bus f s = refl

pub keeps_on_host : (f : Host → Host) → Keeps (on_host f)
unfolding on_host change
keeps_on_host f s = refl

keeps_when : (b : Bool) (f : Action) → Keeps f → Keeps (when b f)
unfolding when
keeps_when b f h = keeps_if b f nothing h keeps_nothing

keeps_each : {A : Type 0} (xs : List A) (f : A → Action) → ((x : A) → Keeps (f x))
    → Keeps (each xs f)
unfolding each
keeps_each [] f h = keeps_nothing
keeps_each (x ∷ xs) f h = keeps_then (f x) (each xs f) (h x) (keeps_each xs f h)

-- ---- requests

keeps_asks_with : (d : Draft) (c : Connection) (label : ℕ) → Keeps (asks_with d c label)
unfolding asks_with
keeps_asks_with d c label =
    keeps_by_state _ (λ s.
    keeps_then _ _ (keeps_then _ _ (keeps_on_bus _) (keeps_tell _))
    (keeps_when d.oneway _ (keeps_tell _)))

pub keeps_asks : (d : Draft) → Keeps (asks d)
unfolding asks
keeps_asks d =
    keeps_by_state _ (λ s. keeps_given _ _ (λ c. keeps_given _ _ (λ l. keeps_asks_with d c l)))

keeps_far_asks : (k : ℕ) (own : OwnAsk) → Keeps (far_asks k own)
unfolding far_asks
keeps_far_asks k own = keeps_by_state _ (λ s. keeps_when _ _ (keeps_asks _))

pub keeps_far_asks_all : (k : ℕ) (own : List OwnAsk) → Keeps (far_asks_all k own)
unfolding far_asks_all
keeps_far_asks_all k own = keeps_each own _ (λ o. keeps_far_asks k o)

keeps_svc_asks : (ask : SvcAsk) → Keeps (svc_asks ask)
unfolding svc_asks
keeps_svc_asks ask = keeps_far_asks 1 _

-- ---- wires

pub keeps_wires : (k : ℕ) → Keeps (wires k)
unfolding wires
keeps_wires k = keeps_change _ (λ s. refl)

pub keeps_unwires : (k : ℕ) → Keeps (unwires k)
unfolding unwires
keeps_unwires k =
    keeps_by_state _ (λ s. keeps_then _ _ (keeps_change _ (λ t. refl)) (keeps_tell_all _))

keeps_shuts : (k : ℕ) → Keeps (shuts k)
unfolding shuts
keeps_shuts k = keeps_by_state _ (λ s. keeps_then _ _ (keeps_on_bus _) (keeps_tell_all _))

-- ---- the application processor

keeps_fails : (f : Host → Failing) → Keeps (fails f)
unfolding fails
keeps_fails f = keeps_by_state _ (λ s. keeps_then _ _ (keeps_on_host _) (keeps_tell_all _))

made_for_names : (n : ℕ) (o : Option Link) (s : State) → (made_for n o s).names ≡ s.names
made_for_names n None s = refl
made_for_names n (Some l) s = refl

awaited_names : (p : Purpose) (n : ℕ) (s : State) → (with_awaited p n s).names ≡ s.names
awaited_names p n s = by (is_for_connection p.step) (record s { host = awaits p n s.host })
  where
    by : (b : Bool) (t : State)
        → (if b then made_for n (link_at p.intf p.cport t.host) t else t).names ≡ t.names
    by true t = made_for_names n (link_at p.intf p.cport t.host) t
    by false t = refl

keeps_asked_with : (o : Option ℕ) (q : Asking) → Keeps (asked_with o q)
unfolding asked_with
keeps_asked_with None q = keeps_fails _
keeps_asked_with (Some label) q =
    keeps_by_state _ (λ s. keeps_then _ _ (keeps_asks _)
    (keeps_change _ (λ t. awaited_names q.purpose (next_number s.bus) t)))

keeps_host_asks : (q : Asking) → Keeps (host_asks q)
unfolding host_asks
keeps_host_asks q = keeps_by_state _ (λ s. keeps_asked_with _ q)

keeps_made_with : (o : Option ℕ) (m : Making) (q : Asking) → Keeps (made_with o m q)
unfolding made_with
keeps_made_with None m q = keeps_fails _
keeps_made_with (Some label) m q =
    keeps_by_state _ (λ s. keeps_then _ _
    (keeps_then _ _ (keeps_change _ (λ t. refl)) (keeps_tell _)) (keeps_host_asks q))

keeps_host_makes : (m : Making) (q : Asking) → Keeps (host_makes m q)
unfolding host_makes
keeps_host_makes m q = keeps_by_state _ (λ s. keeps_made_with _ m q)

keeps_acts : (a : Act) → Keeps (acts a)
unfolding acts
keeps_acts (Act.Ask q) = keeps_host_asks q
keeps_acts (Act.Make m q) = keeps_host_makes m q
keeps_acts (Act.Shut k) = keeps_shuts k
keeps_acts (Act.Leave k) = keeps_on_bus _
keeps_acts (Act.Tell e) = keeps_tell e

keeps_turns : (t : Turn) → Keeps (turns t)
unfolding turns
keeps_turns t = keeps_then _ _ (keeps_on_host _) (keeps_each t.acts _ keeps_acts)

pub keeps_notices : (e : HostEvent) → Keeps (notices e)
unfolding notices
keeps_notices e = keeps_by_state _ (λ s. keeps_turns _)

keeps_idles : (k : ℕ) → Keeps (idles k)
unfolding idles
keeps_idles k = keeps_by_state _ (λ s. keeps_when _ _ (keeps_notices _))

keeps_idles_behind : (r : Request) → Keeps (idles_behind r)
unfolding idles_behind
keeps_idles_behind r = keeps_when _ _ (keeps_idles r.connection)

keeps_host_follows : (n : ℕ) (how : Outcome) → Keeps (host_follows n how)
unfolding host_follows
keeps_host_follows n how =
    keeps_by_state _ (λ s. keeps_then _ _ (keeps_notices _)
    (keeps_given _ _ keeps_idles_behind))

-- ---- firmware downloads

keeps_fails_unasked : (i c : ℕ) (m : Module) → Keeps (fails_unasked i c m)
unfolding fails_unasked
keeps_fails_unasked i c m = keeps_then _ _ (keeps_change _ (λ s. refl)) (keeps_tell _)

keeps_asks_next : (o : Option ℕ) (k i c : ℕ) (own : OwnAsk) (m : Module)
    → Keeps (asks_next o k i c own m)
unfolding asks_next
keeps_asks_next None k i c own m = keeps_fails_unasked i c m
keeps_asks_next (Some label) k i c own m =
    keeps_by_state _ (λ s. keeps_then _ _ (keeps_far_asks k own) (keeps_change _ (λ t. refl)))

keeps_asks_at : (o : Option Place) (i c : ℕ) (own : OwnAsk) (m : Module)
    → Keeps (asks_at o i c own m)
unfolding asks_at
keeps_asks_at None i c own m = keeps_fails_unasked i c m
keeps_asks_at (Some p) i c own m =
    keeps_by_state _ (λ s. keeps_asks_next _ p.connection.number i c own m)

keeps_goes_on : (i c : ℕ) (n : Next) (m : Module) → Keeps (goes_on i c n m)
unfolding goes_on
keeps_goes_on i c (next.Ask own) m = keeps_by_state _ (λ s. keeps_asks_at _ i c own m)
keeps_goes_on i c (next.Done tag size) m =
    keeps_then _ _ (keeps_change _ (λ s. refl)) (keeps_tell _)
keeps_goes_on i c (next.Failed tag) m =
    keeps_then _ _ (keeps_change _ (λ s. refl)) (keeps_tell _)

keeps_load_follows : (n : ℕ) (how : Outcome) → Keeps (load_follows n how)
unfolding load_follows load_ended
keeps_load_follows n how =
    keeps_by_state _ (λ s. keeps_given _ _ (λ l. keeps_by_state _ (λ t. keeps_given _ _ (λ m.
    keeps_given _ _ (λ u. keeps_goes_on l.intf l.cport u.next u.after)))))

pub keeps_loads : (i c : ℕ) (tag : List ℕ) → Keeps (loads i c tag)
unfolding loads begins
keeps_loads i c tag =
    keeps_by_state _ (λ s. keeps_given _ _ (λ p. keeps_given _ _ (λ m. keeps_by_state _ (λ t.
    keeps_then _ _ (keeps_far_asks p.connection.number _) (keeps_change _ (λ u. refl))))))

pub keeps_disconnects : (k : ℕ) → Keeps (disconnects k)
unfolding disconnects
keeps_disconnects k =
    keeps_by_state _ (λ s. keeps_then _ _ (keeps_unwires k)
    (keeps_each _ _ (λ n. keeps_load_follows n _)))

-- ---- requests that ended

pub keeps_follows : (n : ℕ) (how : Outcome) → Keeps (follows n how)
unfolding follows
keeps_follows n how = keeps_then _ _ (keeps_host_follows n how) (keeps_load_follows n how)

pub keeps_drains : (i c : ℕ) → Keeps (drains i c)
unfolding drains
keeps_drains i c =
    keeps_then _ _ (keeps_notices _)
    (keeps_by_state _ (λ s. keeps_given _ _ (λ l. keeps_idles l.connection)))

keeps_gives_up : (how : Outcome) (n : ℕ) → Keeps (gives_up how n)
unfolding gives_up
keeps_gives_up how n =
    keeps_then _ _ (keeps_then _ _ (keeps_on_bus _) (keeps_tell _)) (keeps_follows n how)

pub keeps_cancels : (name : Name) → Keeps (cancels name)
unfolding cancels
keeps_cancels name = keeps_by_state _ (λ s. keeps_given _ _ (λ n. keeps_gives_up _ n))

pub keeps_ticks : (millis : ℕ) → Keeps (ticks millis)
unfolding ticks times_out
keeps_ticks millis =
    keeps_then _ _ (keeps_change _ (λ s. refl))
    (keeps_by_state _ (λ s. keeps_each _ _ (λ n. keeps_gives_up _ n)))

-- ---- modules

pub keeps_boots : Keeps boots
unfolding boots tells_inserted
keeps_boots =
    keeps_by_state _ (λ s.
    keeps_then _ _ (keeps_then _ _ (keeps_then _ _ (keeps_change _ (λ t. refl))
    (keeps_svc_asks _)) (keeps_svc_asks _))
    (keeps_each _ _ (λ p. keeps_svc_asks _)))

pub keeps_plugs : (i : ℕ) (ms : List Module) → Keeps (plugs i ms)
unfolding plugs tells_inserted
keeps_plugs i ms =
    keeps_by_state _ (λ s. keeps_then _ _ (keeps_each _ _ (λ p. keeps_change _ (λ t. refl)))
    (keeps_when _ _ (keeps_svc_asks _)))

keeps_pulls_one : (i : ℕ) → Keeps (pulls_one i)
unfolding pulls_one
keeps_pulls_one i =
    keeps_by_state _ (λ s. keeps_then _ _ (keeps_each _ _ keeps_unwires)
    (keeps_change _ (λ t. refl)))

recalled_names : (n : ℕ) (is : List ℕ) (s : State) → (recalled n is s).names ≡ s.names
recalled_names n is s = by (is_some (request_of n s.bus))
  where
    by : (t : Bool) → (if t then with_told n is s else s).names ≡ s.names
    by true = refl
    by false = refl

keeps_tells_removed : (p : ℕ) (is : List ℕ) → Keeps (tells_removed p is)
unfolding tells_removed
keeps_tells_removed p is =
    keeps_by_state _ (λ t. keeps_then _ _ (keeps_svc_asks _)
    (keeps_change _ (recalled_names (next_number t.bus) is)))

keeps_pulls_module : (p : Plugged) → Keeps (pulls_module p)
unfolding pulls_module
keeps_pulls_module p =
    keeps_by_state _ (λ s. keeps_then _ _ (keeps_each _ _ keeps_pulls_one)
    (keeps_when _ _ (keeps_tells_removed _ _)))

pub keeps_pulls : (i : ℕ) → Keeps (pulls i)
unfolding pulls
keeps_pulls i = keeps_by_state _ (λ s. keeps_given _ _ keeps_pulls_module)

pub keeps_stirs : (i c : ℕ) (stir : Stir) → Keeps (stirs i c stir)
unfolding stirs stirred
keeps_stirs i c stir =
    keeps_by_state _ (λ s. keeps_given _ _ (λ m. keeps_given _ _ (λ t.
    keeps_then _ _ (keeps_change _ (λ u. refl))
    (keeps_by_state _ (λ u. keeps_given _ _ (λ p. keeps_far_asks_all _ _))))))
