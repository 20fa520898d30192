-- A request that ended is noticed, and a connection that drains begins to close.
use Rattle.std.proofs.Common.{◌≡◌, ◌||◌, ℕ, Bool, true, false, Option, Some, None}
use Rattle.std.proofs.Common.{is_none, List, [], ◌∷◌, cond, option_map, refl, sym, ap, ◌∙◌}
use Rattle.std.proofs.Common.{if◌then◌else◌, inl, subst}
use Rattle.std.specs.Prelude.{nat_lt}
use Rattle.gb_base.specs.declared.host_event.HostEvent.TheVariants as host_event
use Rattle.gb_bus.specs.Listing.{count}
use Rattle.gb_base.specs.declared.end.Side.TheVariants as side
use Rattle.gb_base.specs.declared.entry.Entry.{Entry}
use Rattle.gb_base.specs.declared.outcome.Outcome.{Outcome}
use Rattle.gb_base.specs.declared.interface.Link.{Link}
use Rattle.gb_invariants.proofs.Awaiting.{awaited, late, none-some, opened, same-some}
use Rattle.gb_invariants.proofs.Lists.{in-behind}
use Rattle.gb_machine.proofs.Opened.{machine_opened}
use Rattle.gb_machine.proofs.Steps.{host_follows-loads}
use Rattle.gb_machine.specs.Actions.{given, nothing, tell, when, ◌▸◌}
use Rattle.gb_bus.specs.Naming.{about_of, asked_for}
use Rattle.gb_bus.specs.declared.answers.About.{About}
use Rattle.gb_machine.specs.Bus.{Bus, Request, connection_of, is_open, request_of}
use Rattle.gb_machine.specs.Host.{is_draining, link_of}
use Rattle.gb_machine.specs.HostActs.{follows, host_follows, idles, idles_behind, notices, turns}
use Rattle.gb_machine.specs.HostTurns.{drained, host_disconnects, host_turn}
use Rattle.gb_machine.specs.LawsBus.{is_awaited}
use Rattle.gb_machine.specs.Lists.{holds_of}
use Rattle.gb_machine.specs.Loading.{load_follows, load_of}
use Rattle.gb_machine.specs.Requests.{gave_up, is_idle, same_side}
use Rattle.gb_machine.specs.State.{Load, State}
use Rattle.gb_machine.specs.Turns.{turn}
use Rattle.gb_system.proofs.Doings.{does-as, does-by_state, does-given, does-nothing, does-then}
use Rattle.gb_system.proofs.Doings.{does-unless, does-when}
use Rattle.gb_system.proofs.Loadings.{follows-none}
use Rattle.gb_system.specs.Doing.{Does}
use Rattle.gb_system.specs.Ending.{IsAwaited, IsOver}
use Rattle.gb_laws.specs.Possible.{MayFollow, MayIdle}
use Rattle.gb_system.specs.Stands.{PartsStand, around_bus}
use Rattle.gb_system.specs.Ticking.{given_up}
use Rattle.gb_system.specs.declared.ending.Over.{Over}
use Rattle.gb_system.specs.declared.parties.Parties.{Parties}

told-state : (e : Entry) (s : State) → (tell e s).state ≡ s
unfolding machine_opened
told-state e s = refl

-- what is told leaves the state
pub over-told : (e : Entry) {over : Over} {s : State} → IsOver over s → IsOver over (tell e s).state
over-told e {over} {s} is = subst (IsOver over) (sym (told-state e s)) is

pub follow-told : (e : Entry) {n : ℕ} {how : Outcome} {s : State} → MayFollow n how s
    → MayFollow n how (tell e s).state
follow-told e {n} {how} {s} may = subst (MayFollow n how) (sym (told-state e s)) may

-- a request that was open is awaited where it was given up
pub lost : (n : ℕ) (how : Outcome) (s : State) → is_open n s.bus ≡ true
    → IsAwaited n (given_up n how s)
lost n how s unended =
    let o = opened n s.bus unended in record {
      request = o.0;
      made = o.1;
      awaited = awaited n (gave_up n how s.bus)
          (late (in-behind n s.bus.given_up (n ∷ []) (inl refl)));
    }

-- ---- connections that drain

-- nothing is done for a connection that doesn't drain
idle-rests : (k : ℕ) (s : State) (o : Option Link) → link_of k s.host ≡ o
    → holds_of (λ l. is_draining l.state) o ≡ false → notices (host_event.Idle k) s ≡ nothing s
unfolding machine_opened
idle-rests k s None is other = ap (λ p. turns (drained p s.host) s) is
idle-rests k s (Some l) is other =
    ap (λ p. turns (drained p s.host) s) is
    ∙ ap (λ b. turns (if b then host_disconnects l.intf l.cport s.host else turn s.host []) s) other

pub undrained : {x : Parties} {s : State} {a : List Entry} (k : ℕ) (drains : Bool)
    → drains ≡ holds_of (λ l. is_draining l.state) (link_of k s.host) → drains ≡ false
    → PartsStand [] x s → Does x (idles k) s a a
unfolding machine_opened
undrained {x} {s} {a} k drains is other st =
    does-by_state (λ t. when (is_idle k t.bus) (notices (host_event.Idle k))) (by (is_idle k s.bus))
  where
    by : (t : Bool) → Does x (when t (notices (host_event.Idle k))) s a a
    by false = does-nothing st
    by true = does-as (sym (idle-rests k s (link_of k s.host) refl (sym is ∙ other)))
        (does-nothing st)

-- what drains is live
pub live-drained : (k : ℕ) (s : State) (drains : Bool)
    → drains ≡ holds_of (λ l. is_draining l.state) (link_of k s.host) → drains ≡ true
    → MayIdle k s → is_none (connection_of k s.bus) ≡ false
live-drained k s drains is so may = by (link_of k s.host) refl (sym is ∙ so)
  where
    by : (o : Option Link) → link_of k s.host ≡ o → holds_of (λ l. is_draining l.state) o ≡ true
        → is_none (connection_of k s.bus) ≡ false
    by None e f = absurd cc
    by (Some l) e f = may.live l e

-- so whether it is idle is known
pub idle-is : (k : ℕ) (s : State) (idle : Bool)
    → idle ≡ (is_none (connection_of k s.bus) || is_idle k s.bus)
    → is_none (connection_of k s.bus) ≡ false → idle ≡ is_idle k s.bus
idle-is k s idle is live = is ∙ ap (λ t. t || is_idle k s.bus) live

-- nothing is done where a request is open
pub unidle : {x : Parties} {s : State} {a : List Entry} (k : ℕ) (idle : Bool)
    → idle ≡ is_idle k s.bus → idle ≡ false → PartsStand [] x s → Does x (idles k) s a a
unfolding machine_opened
unidle k idle is busy st =
    does-by_state (λ t. when (is_idle k t.bus) (notices (host_event.Idle k)))
    (does-unless (notices (host_event.Idle k)) (sym is ∙ busy) st)

-- else it begins to close
pub idle-closes : {x : Parties} {s : State} {a b : List Entry} (k : ℕ) (idle : Bool)
    → idle ≡ is_idle k s.bus → idle ≡ true → Does x (notices (host_event.Idle k)) s a b
    → Does x (idles k) s a b
unfolding machine_opened
idle-closes k idle is rests d =
    does-by_state (λ t. when (is_idle k t.bus) (notices (host_event.Idle k)))
    (does-when (notices (host_event.Idle k)) (sym is ∙ rests) d)

-- ---- what follows an end

-- what waited for a request goes on, and its connection may begin to close
pub follows-then : {x y : Parties} {s : State} {a b c : List Entry} (over : Over) (how : Outcome)
    → (is : IsOver over s) → Does x (notices (host_event.Ended over.number how)) s a b
    → Does y (idles_behind is.request) (notices (host_event.Ended over.number how) s).state b c
    → Does y (host_follows over.number how) s a c
unfolding machine_opened
follows-then over how is d e =
    does-by_state (λ t. notices (host_event.Ended over.number how)
    ▸ given (request_of over.number t.bus) idles_behind)
    (does-then d (does-given idles_behind is.request is.made e))

-- nothing is done where no sequence waits for a request
pub unawaited : {x : Parties} {s : State} {a : List Entry} (n : ℕ) (how : Outcome)
    → host_turn (host_event.Ended n how) s.host ≡ turn s.host [] → PartsStand [] x s
    → Does x (notices (host_event.Ended n how)) s a a
unfolding machine_opened
unawaited {s = s} n how quiet st =
    does-by_state (λ t. turns (host_turn (host_event.Ended n how) t.host))
    (does-as {f = nothing} (sym (ap (λ t. turns t s) quiet)) (does-nothing st))

-- what is told leaves the turn of the application processor
pub quiet-told : (e : Entry) (n : ℕ) (how : Outcome) (s : State)
    → host_turn (host_event.Ended n how) s.host ≡ turn s.host []
    → host_turn (host_event.Ended n how) (tell e s).state.host ≡ turn (tell e s).state.host []
quiet-told e n how s quiet =
    subst (λ (t : State). host_turn (host_event.Ended n how) t.host ≡ turn t.host [])
    (sym (told-state e s)) quiet

-- and then a download goes on
pub loads-then : {x y : Parties} {s : State} {a b c : List Entry} (n : ℕ) (how was : Outcome)
    → was ≡ how → Does x (host_follows n how) s a b
    → Does y (load_follows n was) (host_follows n how s).state b c → Does y (follows n how) s a c
unfolding machine_opened
loads-then {y = y} {s = s} {b = b} {c = c} n how was same d e =
    does-then d
    (subst (λ w. Does y (load_follows n w) (host_follows n how s).state b c) same e)

-- what was kept of the outcome is the outcome
pub awaited-is : (o : Option Load) (was how : Outcome) → Some was ≡ option_map (λ l. how) o
    → was ≡ how
awaited-is None was how e = absurd cc
awaited-is (Some l) was how e = same-some was how e

-- where none waits for the request, none does
pub loads-none : {x y : Parties} {s : State} {a b : List Entry} (n : ℕ) (how : Outcome)
    → PartsStand [] x s → Does y (host_follows n how) s a b
    → None ≡ option_map (λ l. how) (load_of n x.loads) → Does y (follows n how) s a b
unfolding machine_opened
loads-none {x} {y} {s} n how st d none =
    does-then {g = load_follows n how} d
    (does-as {f = nothing} (sym (follows-none n how (host_follows n how s).state
    (ap (load_of n) (host_follows-loads n how s ∙ st.plugged.loads)
    ∙ unwaited (load_of n x.loads) none)))
    (does-nothing d.stand))
  where
    unwaited : (o : Option Load) → None ≡ option_map (λ l. how) o → o ≡ None
    unwaited None e = refl
    unwaited (Some l) e = absurd cc

-- a request of a module leaves connections as they are
pub behind-far : {x : Parties} {s : State} {a : List Entry} {over : Over} {t : State}
    → (is : IsOver over t) → over.side ≡ side.Far → PartsStand [] x s
    → Does x (idles_behind is.request) s a a
unfolding machine_opened
behind-far is far st =
    does-unless (idles is.request.connection) (ap (same_side side.Ap) (is.side ∙ far)) st

-- one of the application processor may let its connection close
pub behind-ap : {x : Parties} {s : State} {a b : List Entry} {over : Over} {t : State}
    → (is : IsOver over t) → over.side ≡ side.Ap → Does x (idles over.connection) s a b
    → Does x (idles_behind is.request) s a b
unfolding machine_opened
behind-ap {x} {s} {a} {b} {over} is ap_side d =
    does-when (idles is.request.connection) (ap (same_side side.Ap) (is.side ∙ ap_side))
    (subst (λ k. Does x (idles k) s a b) (sym is.on) d)

-- ---- requests that were given up

-- one is known where something waits for its answer
asked-known : (b : Bus) (n : ℕ) (r : Request) (names : List ℕ) → is_awaited n b ≡ true
    → request_of n b ≡ Some r → option_map about_of (asked_for names n b) ≡ Some (about_of r)
asked-known b n r names waits made =
    ap (λ t. option_map about_of (cond (t || nat_lt 0 (count n names)) (request_of n b) None)) waits
    ∙ ap (option_map about_of) made

pub unasked : (n : ℕ) (about : Option About) (s : State) → IsAwaited n s
    → about ≡ option_map about_of (asked_for (around_bus [] s).names n s.bus) → about ≡ None → ⊥
unasked n about s is known none =
    none-some (sym none ∙ known
    ∙ asked-known s.bus n is.request (around_bus [] s).names is.awaited is.made)

pub about-is : (n : ℕ) (about : Option About) (a : About) (s : State) → (is : IsAwaited n s)
    → about ≡ option_map about_of (asked_for (around_bus [] s).names n s.bus) → about ≡ Some a
    → IsOver (record { number = n; connection = a.connection; side = a.side }) s
about-is n about a s is known some =
    let same = same-some a (about_of is.request)
    (sym some ∙ known
    ∙ asked-known s.bus n is.request (around_bus [] s).names is.awaited is.made) in record {
      request = is.request;
      made = is.made;
      on = sym (ap (λ (b : About). b.connection) same);
      side = sym (ap (λ (b : About). b.side) same);
    }
