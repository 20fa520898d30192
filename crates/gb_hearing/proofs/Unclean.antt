-- A connection that is unclean stays so.
use Rattle.std.proofs.Common.{◌≡◌, ◌≤◌, ℕ, Bool, true, false, Some, List, [], ◌∷◌, refl, sym}
use Rattle.std.proofs.Common.{◌∙◌, ◌++◌, ap, arith}
use Rattle.gb_base.specs.declared.entry.Entry.{Entry}
use Rattle.gb_base.specs.declared.event.Event.{Event}
use Rattle.gb_formats.specs.ValidEvents.{IsValid}
use Rattle.gb_hearing.specs.Hearing.{IsClean, IsCleanAs}
use Rattle.gb_invariants.proofs.Awaiting.{none-some, same-some}
use Rattle.gb_invariants.proofs.BusChanges.{BusChange, Was, bus_after, came, clean_by, made_by}
use Rattle.gb_invariants.proofs.BusChanges.{stayed, was, went}
use Rattle.gb_invariants.proofs.Lists.{each-from, each-in}
use Rattle.gb_invariants.proofs.Numbers.{same-connection}
use Rattle.gb_invariants.specs.Facts.{IsMade, NumbersRise}
use Rattle.gb_laws.proofs.points.ChangeBuses.{bus_change, by-bus}
use Rattle.gb_laws.proofs.runs.Midway.{known-held, known-resting, known_law}
use Rattle.gb_laws.proofs.points.PointParts.{resting}
use Rattle.gb_laws.proofs.points.Points.{Law, upon}
use Rattle.gb_laws.proofs.runs.Reached.{reached-step}
use Rattle.gb_laws.proofs.steps.Steps.{over-step}
use Rattle.gb_machine.specs.Bus.{Bus, Connection}
use Rattle.gb_machine.specs.Events.{last_state, step, trace_from}
use Rattle.gb_machine.specs.Members.{Each, IsIn}
use Rattle.gb_machine.specs.Reached.{OfARun}
use Rattle.gb_machine.specs.Runs.{AreMoments, IsMoment, Moment, after, moments_from}
use Rattle.gb_machine.specs.State.{State}
use Rattle.gb_machine.specs.Wiring.{next_connection}

-- Connection k was made, and is unclean where it is live.
pub record IsUnclean (k : ℕ) (b : Bus) : Type 0 where
  pub made : k ≤ b.made
  pub unclean : (c : Connection) → IsIn c b.connections → c.number ≡ k → c.clean ≡ false

-- ---- each single change

made-more : (x : BusChange) (b : Bus) → b.made ≤ (bus_after x b).made
made-more (BusChange.opens a i c protocol) b = omega arith
made-more BusChange.rests b = omega arith
made-more _ b = omega arith

came-new : (x : BusChange) (b : Bus) (c : Connection) → made_by x b ≡ Some c
    → c.number ≡ next_connection b
came-new (BusChange.opens a i p protocol) b c e =
    ap (λ (d : Connection). d.number) (sym (same-some _ c e))
came-new BusChange.rests b c e = absurd (none-some e)
came-new _ b c e = absurd (none-some e)

stays-false : (x : BusChange) (t : Bool) → t ≡ false → clean_by x t ≡ false
stays-false (BusChange.injects k bytes) t e = refl
stays-false BusChange.rests t e = e
stays-false _ t e = e

unclean-after : (k : ℕ) (x : BusChange) (b : Bus) → IsUnclean k b → IsUnclean k (bus_after x b)
unclean-after k x b h = record {
  made = let low = h.made in let more = made-more x b in omega (arith, low, more);
  unclean = λ c i on. by c on (was x b c i);
}
  where
    by : (c : Connection) → c.number ≡ k → Was x b c → c.clean ≡ false
    by c on (stayed i) = h.unclean c i on
    by c on (went d i is e goes) =
        goes.clean ∙ stays-false x d.clean (h.unclean d i (sym goes.ends.number ∙ on))
    by c on (came e) =
        let low = h.made in let new = came-new x b c e in absurd (omega (arith, low, new, on))

-- ---- moments and runs

unclean_law : (m : Moment) → OfARun m.before → ℕ → Law m
unclean_law m run k = upon (known_law m run) (λ a. IsUnclean k a.state.bus)
    (λ a x g h. by-bus (IsUnclean k) x (unclean-after k (bus_change x) a.state.bus h))

unclean-moment : (m : Moment) → OfARun m.before → IsMoment m.event → (k : ℕ)
    → IsUnclean k m.before.bus → IsUnclean k (after m).bus
unfolding unclean_law
unclean-moment m run one k h =
    (over-step m (unclean_law m run k) one (known-resting m run, h)).1.1

-- a moment is a valid event
pub moment-valid : (e : Event) → IsMoment e → IsValid e
moment-valid (Event.Settle most) one = absurd one
moment-valid Event.Boot one = one
moment-valid _ one = one

unclean-run : (es : List Event) (told : List Entry) (s : State) → OfARun s → AreMoments es
    → (k : ℕ) → IsUnclean k s.bus → IsUnclean k (last_state s (trace_from s es)).bus
unclean-run [] told s run are k h = h
unclean-run (e ∷ es) told s run are k h =
    unclean-run es told (step s e).state (reached-step s e (moment-valid e are.0) run) are.1 k
    (unclean-moment (record { told = told; before = s; event = e }) run are.0 k h)

-- what isn't unclean is clean
clean-by : (k : ℕ) (s : State) → OfARun s → (IsUnclean k s.bus → ⊥) → IsClean k s
clean-by k s run none = each-from (IsCleanAs k) s.bus.connections (λ c live on. by c live on c.clean
    refl)
  where
    m : Moment
    m = record { told = []; before = s; event = Event.Boot }

    numbers : NumbersRise s.bus
    numbers = (known-held m run (resting [] s) (known-resting m run)).basis.bus.numbers

    by : (c : Connection) → IsIn c s.bus.connections → c.number ≡ k → (t : Bool) → c.clean ≡ t
        → t ≡ true
    by c live on true e = refl
    by c live on false e = absurd (none (record {
      made = let high = (each-in (IsMade s.bus) s.bus.connections c numbers.range live).1 in
          omega (arith, high, on);
      unclean = λ d i is. ap (λ (x : Connection). x.clean)
          (same-connection s.bus.connections d c numbers.rise i live (is ∙ sym on)) ∙ e;
    }))

-- Where a connection isn't unclean behind a run of moments, it was clean before each.
pub clean-run : (es : List Event) (told : List Entry) (s : State) → OfARun s → AreMoments es
    → (k : ℕ) → (IsUnclean k (last_state s (trace_from s es)).bus → ⊥)
    → Each (λ m. IsClean k m.before) (moments_from told s es)
clean-run [] told s run are k none = tt
clean-run (e ∷ es) told s run are k none = (
  clean-by k s run (λ h. none (unclean-run (e ∷ es) told s run are k h)),
  clean-run es (told ++ (step s e).entries) (step s e).state
      (reached-step s e (moment-valid e are.0) run) are.1 k none,
)
