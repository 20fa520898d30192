-- Running a made script comes to what the machine does.
use Rattle.std.proofs.Common.{◌≡◌, ◌≤◌, ℕ, zero, suc, ◌+◌, Bool, true, false, cond, List}
use Rattle.std.proofs.Common.{refl, subst, ap, ◌∙◌, arith}
use Rattle.gb_formats.proofs.MadeValid.{made-valid}
use Rattle.gb_formats.specs.Made.{made}
use Rattle.gb_machine.specs.Actions.{Told}
use Rattle.gb_machine.specs.Events.{last_state, step, trace, trace_from}
use Rattle.gb_machine.specs.Runs.{AreValid}
use Rattle.gb_machine.specs.State.{State, first_state}
use Rattle.gb_machine.specs.Summary.{counts, counts_at, is_refused, made_events, made_from}
use Rattle.gb_machine.specs.Summary.{refused_in}
use Rattle.gb_script.specs.Making.{Making}
use Rattle.gb_system.specs.Stands as system
use Rattle.gbus.specs.Driving.{Goes}
use Rattle.gbus.specs.declared.drive.Driven.{Driven}

-- ---- the events of a made script

made_from-valid : (seed left k : ℕ) → 1 ≤ k → k + left ≤ 20025 → AreValid (made_from seed k left)
unfolding made_from
made_from-valid seed zero k low high = tt
made_from-valid seed (suc left) k low high = (
  made-valid seed k low (omega arith),
  made_from-valid seed left (k + 1) (omega arith) (omega arith),
)

-- The made script is a run of valid events.
pub made_events-valid : (seed : ℕ) → AreValid (made_events seed)
made_events-valid seed = made_from-valid seed 20024 1 (omega arith) (omega arith)

-- The event that a maker gives next is that of its place.
pub made-next : (m : Making) (seed place : ℕ) → m.seed ≡ seed → m.given ≡ place
    → made m.seed (m.given + 1) ≡ made seed (place + 1)
made-next m seed place s g =
    ap (λ x. made x (m.given + 1)) s ∙ ap (λ n. made seed (n + 1)) g

-- ---- running it

-- the trace of the events that are left
abbrev ahead : ℕ → ℕ → ℕ → State → List Told
ahead seed k left s = trace_from s (made_from seed k left)

-- What a made script has come to, where so many events are left, the first being the k-th: the
-- state and the refusals so far, and those that are left, are those of the whole.
pub record Stage (x : Driven) (seed k left : ℕ) (state : State) : Type 0 where
  pub stands : system.Stands x.system state
  pub refused : x.refused + refused_in (ahead seed k left state)
      ≡ refused_in (trace (made_events seed))
  pub ends : last_state state (ahead seed k left state)
      ≡ last_state first_state (trace (made_events seed))

-- Before the first event all are left.
pub first-stage : (x : Driven) (seed : ℕ) → system.Stands x.system first_state → x.refused ≡ 0
    → Stage x seed 1 20024 first_state
first-stage x seed stands none = record {
  stands = stands;
  refused = counted x.refused (refused_in (ahead seed 1 20024 first_state)) none;
  ends = refl;
}
  where
    counted : (n later : ℕ) → n ≡ 0 → n + later ≡ later
    counted n later e = omega arith

-- an event is counted where it was refused
one-first : (t : Bool) (a n later : ℕ) → n ≡ cond t (a + 1) a
    → n + later ≡ a + cond t (later + 1) later
one-first true a n later h = omega arith
one-first false a n later h = ap (λ m. m + later) h

-- one event further
next-by : (old new : Driven) (seed k left : ℕ) (state : State)
    → Stage old seed k (suc left) state → Goes old new state (made seed k)
    → Stage new seed (k + 1) left (step state (made seed k)).state
unfolding made_from
next-by old new seed k left state h g = record {
  stands = g.stands;
  refused =
      one-first (is_refused (step state (made seed k)).entries) old.refused new.refused
      (refused_in (ahead seed (k + 1) left (step state (made seed k)).state)) g.refused
      ∙ h.refused;
  ends = h.ends;
}

pub next-stage : (old new : Driven) (seed k left less : ℕ) (state : State) → left ≡ suc less
    → Stage old seed k left state → Goes old new state (made seed k)
    → Stage new seed (k + 1) less (step state (made seed k)).state
next-stage old new seed k left less state e h g =
    next-by old new seed k less state (subst (λ n. Stage old seed k n state) e h) g

-- no event is left
no-more : (x : Driven) (seed k : ℕ) (state : State) → Stage x seed k zero state
    → counts_at x.refused state.bus ≡ counts (trace (made_events seed))
unfolding made_from
no-more x seed k state h =
    ap (λ n. counts_at n state.bus) (plain x.refused _ h.refused)
    ∙ ap (λ (s : State). counts_at (refused_in (trace (made_events seed))) s.bus) h.ends
  where
    plain : (a b : ℕ) → a + 0 ≡ b → a ≡ b
    plain a b e = omega arith

pub all-counted : (x : Driven) (seed k left : ℕ) (state : State) → left ≡ 0
    → Stage x seed k left state
    → counts_at x.refused state.bus ≡ counts (trace (made_events seed))
all-counted x seed k left state e h =
    no-more x seed k state (subst (λ n. Stage x seed k n state) e h)
