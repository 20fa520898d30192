-- Time passes, and requests whose deadline came are given up as the machine does.
use Rattle.std.proofs.Common.{◌≡◌, ℕ, ◌+◌, true, false, Result, Ok, Err, is_ok, List, [], ◌∷◌}
use Rattle.std.proofs.Common.{drop, refl, sym, ap, ◌∙◌, subst}
use Rattle.gb_base.specs.declared.bridge.Reading.TheVariants as reading
use Rattle.gb_base.specs.declared.entry.Entry.{Entry}
use Rattle.gb_base.specs.declared.entry.Entry.TheVariants as entry
use Rattle.gb_base.specs.declared.event.Event.TheVariants as event
use Rattle.gb_base.specs.declared.outcome.Outcome.TheVariants as outcome
use Rattle.gb_bus.specs.Cancelling.{GivesUpAs}
use Rattle.gb_bus.specs.declared.answers.AlreadyEnded.{AlreadyEnded}
use Rattle.gb_bus.specs.declared.bus.Bus as code
use Rattle.gb_invariants.proofs.Awaiting.{not-both}
use Rattle.gb_laws.proofs.runs.Reached.{IsTicking, ticking-first, ticking-follows, ticking-next}
use Rattle.gb_laws.proofs.runs.Reached.{ticking-open}
use Rattle.gb_machine.proofs.Opened.{machine_opened}
use Rattle.gb_machine.specs.Actions.{each, tell, ◌▸◌}
use Rattle.gb_machine.specs.Bus.{is_open}
use Rattle.gb_machine.specs.Events.{does}
use Rattle.gb_machine.specs.GivingUp.{gives_up, later_by}
use Rattle.gb_machine.specs.HostActs.{follows}
use Rattle.gb_machine.specs.Reached.{OfARun}
use Rattle.gb_machine.specs.Requests.{gave_up, is_due, open_requests}
use Rattle.gb_machine.specs.State.{State}
use Rattle.gb_system.proofs.Doings.{does-by_state, does-change, does-then}
use Rattle.gb_system.proofs.Midways.{Midway, each-cons, midway-as, midway-first, midway-more}
use Rattle.gb_system.proofs.NamedRequests.{does-gives_up}
use Rattle.gb_system.proofs.Standing.{rebussed, rested}
use Rattle.gb_system.proofs.Endings.{lost}
use Rattle.gb_system.specs.Doing.{Does, IsDone}
use Rattle.gb_system.specs.Ending.{IsAwaited}
use Rattle.gb_laws.specs.Possible.{MayFollow}
use Rattle.gb_system.specs.Stands.{PartsStand, around_bus}
use Rattle.gb_system.specs.Ticking.{MayTimeOut, given_up}
use Rattle.gb_system.specs.declared.parties.Parties.{Parties}

-- ---- one request

-- it is given up, and told
pub time-out : {x : Parties} (y : Parties) (z : code.Bus) (s : State) (n : ℕ)
    (r : Result Unit AlreadyEnded) {a b : List Entry} → PartsStand [] x s → MayTimeOut n s
    → GivesUpAs (around_bus [] s) z outcome.Timeout n s.bus r → is_ok r ≡ true
    → ((t : State) → PartsStand [] (record x { bus = z }) t
    → IsAwaited n t → MayFollow n outcome.Timeout t
    → Does y (tell (entry.Ended n outcome.Timeout reading.Nothing) ▸ follows n outcome.Timeout) t
    a b)
    → Does y (gives_up outcome.Timeout n) s a b
time-out y z s n (Ok done) st may gives ok ends =
    does-gives_up s outcome.Timeout n
    (ends (given_up n outcome.Timeout s)
    (rebussed [] z (gave_up n outcome.Timeout s.bus) st gives.stands refl)
    (lost n outcome.Timeout s gives.unended) may.follow)
time-out y z s n (Err fault) st may gives ok ends = absurd cc

-- one that is open doesn't stay
pub time-kept : {x : Parties} (s : State) (n : ℕ) (r : Result Unit AlreadyEnded)
    (z : code.Bus) {a b : List Entry} → MayTimeOut n s
    → GivesUpAs (around_bus [] s) z outcome.Timeout n s.bus r → is_ok r ≡ false
    → Does x (gives_up outcome.Timeout n) s a b
time-kept s n (Ok done) z may gives ok = absurd cc
time-kept s n (Err fault) z may gives ok =
    absurd (not-both (is_open n s.bus) may.unended gives.over)

-- ---- a tick

-- Midway through a tick: these of all requests that are due are left.
pub record MidTick (x : Parties) (s : State) (millis : ℕ) (all left : List ℕ)
    (before told : List Entry) : Type 0 where
  pub midway : Midway x (each all (gives_up outcome.Timeout))
      (each left (gives_up outcome.Timeout)) (later_by millis s) before told
  pub going : IsTicking s millis left midway.state

-- the parties stand for the time that is passed
pub later-stand : {x : Parties} {s : State} (millis time : ℕ) → PartsStand [] x s
    → time ≡ x.time + millis → PartsStand [] (record x { time = time }) (later_by millis s)
later-stand {x} {s} millis time st is =
    rested x.booted time x.holds s.booted (s.now + millis) s.holds st (record {
      booted = st.rest.booted;
      time = ap (λ n. n + millis) st.rest.time ∙ sym is;
      holds = st.rest.holds;
    })

-- which requests are due at a time
abbrev pub due_at : ℕ → State → List ℕ
due_at now s = open_requests (is_due now) s.bus

-- those by the parties' time
pub due-are : {x : Parties} (s : State) (millis time : ℕ) → PartsStand [] x s
    → time ≡ x.time + millis
    → open_requests (is_due time) s.bus ≡ due_at (s.now + millis) s
due-are s millis time st is =
    ap (λ n. due_at n s) (is ∙ sym (ap (λ n. n + millis) st.rest.time))

-- at first all are left
pub mid-first : {x : Parties} {s : State} {a : List Entry} (run : OfARun s) (millis : ℕ)
    (all : List ℕ) → PartsStand [] x (later_by millis s) → all ≡ due_at (s.now + millis) s
    → MidTick x s millis all all a a
mid-first {x} {s} {a} run millis all st is = record {
  midway = midway-first (each all (gives_up outcome.Timeout)) st;
  going = subst (λ ns. IsTicking s millis ns (later_by millis s)) (sym is)
      (ticking-first s millis run);
}

-- the next one may time out
pub mid-may : {x : Parties} {s : State} {a b : List Entry} {millis : ℕ} {all rest : List ℕ}
    (n : ℕ) → (t : MidTick x s millis all (n ∷ rest) a b) → MayTimeOut n t.midway.state
mid-may {s = s} {millis = millis} {rest = rest} n t = record {
  unended = ticking-open s millis n rest t.midway.state t.going;
  follow = ticking-follows s millis n rest t.midway.state t.going;
}

-- where one is left at a place
pub mid-at : {x : Parties} {s : State} {a b : List Entry} {millis : ℕ}
    {all : List ℕ} (i n : ℕ) → drop i all ≡ n ∷ drop (i + 1) all
    → MidTick x s millis all (drop i all) a b
    → MidTick x s millis all (n ∷ drop (i + 1) all) a b
mid-at {x} {s} {a} {b} {millis} {all} i n next t =
    subst (λ ns. MidTick x s millis all ns a b) next t

-- one more is given up
pub mid-next : {x y : Parties} {s : State} {a b c : List Entry} {millis : ℕ}
    {all rest : List ℕ} (n : ℕ) → (t : MidTick x s millis all (n ∷ rest) a b)
    → Does y (gives_up outcome.Timeout n) t.midway.state b c → MidTick y s millis all rest a c
mid-next {s = s} {millis = millis} {rest = rest} n t d = record {
  midway = midway-more (gives_up outcome.Timeout n) (each rest (gives_up outcome.Timeout))
      (midway-as (gives_up outcome.Timeout n ▸ each rest (gives_up outcome.Timeout))
      (each-cons n rest (gives_up outcome.Timeout)) t.midway) d;
  going = ticking-next s millis n rest t.midway.state t.going;
}

-- all that were due are given up
does-ticks : {x y : Parties} (s : State) (millis : ℕ) {a b : List Entry}
    → PartsStand [] x (later_by millis s)
    → Does y (each (due_at (s.now + millis) s) (gives_up outcome.Timeout)) (later_by millis s) a b
    → Does y (does (event.Tick millis)) s a b
unfolding machine_opened
does-ticks s millis st d =
    does-then (does-change (later_by millis) st)
    (does-by_state (λ t. each (open_requests (is_due t.now) t.bus) (gives_up outcome.Timeout)) d)

pub tick-done : (x y : Parties) (s : State) (millis : ℕ) (all : List ℕ) (before es : List Entry)
    → PartsStand [] x (later_by millis s) → all ≡ due_at (s.now + millis) s
    → Does y (each all (gives_up outcome.Timeout)) (later_by millis s) before es
    → IsDone y s (event.Tick millis) before es
tick-done x y s millis all before es st is d = record {
  allowed = refl;
  done = does-ticks s millis st
      (subst (λ ns. Does y (each ns (gives_up outcome.Timeout)) (later_by millis s) before es) is
      d);
}
