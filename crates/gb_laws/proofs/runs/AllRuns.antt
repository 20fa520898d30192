-- From runs of moments to all runs: a settle is its deliveries.
use Rattle.std.proofs.Common.{List, ap, append-nil, subst, [], ◌++◌, ◌∙◌, ◌∷◌, ◌≡◌}
use Rattle.gb_base.specs.declared.entry.Entry.{Entry}
use Rattle.gb_base.specs.declared.event.Event.{Event}
use Rattle.gb_machine.specs.Runs.{AreMoments, HoldsAtEachMoment, HoldsThroughout, IsMoment, Moment}
use Rattle.gb_machine.specs.Runs.{happenings, moments_from, state_by, told_by, unsettled}
use Rattle.gb_machine.specs.{Events.step, Members.Each, State.State, State.first_state}
use Rattle.gb_invariants.proofs.Lists.{each-append}
use Rattle.gb_laws.proofs.{runs.Runs.HoldsAtMoments, runs.Runs.HoldsByMoments}
use Rattle.gb_laws.proofs.{runs.Settles.last-append}
use Rattle.gb_laws.proofs.{runs.Settles.told-append, runs.Settling.settles-are_deliveries}

-- A fact says the same of what was told and of what happened in it.
pub record SeesHappenings (Fact : List Entry → State → Type 0) : Type 0 where
  pub there : (told : List Entry) (s : State) → Fact told s → Fact (happenings told) s
  pub back : (told : List Entry) (s : State) → Fact (happenings told) s → Fact told s

-- Such a fact that holds of runs of moments holds of all runs.
pub of-all : (Fact : List Entry → State → Type 0) → SeesHappenings Fact
    → HoldsByMoments Fact → HoldsThroughout Fact
of-all Fact sees holds es valid =
    let d = settles-are_deliveries es valid in
    let apart = unsettled first_state es in
    sees.back (told_by es) (state_by es) (subst (λ told. Fact told (state_by es)) d.told
    (subst (Fact (happenings (told_by apart))) d.state
    (sees.there (told_by apart) (state_by apart) (holds apart d.moments))))

-- A fact for which it doesn't matter what was told is such a fact.
pub of-untold : (Fact : List Entry → State → Type 0)
    → ((told more : List Entry) (s : State) → Fact told s → Fact more s) → SeesHappenings Fact
of-untold Fact same = record {
  there = λ told s h. same told (happenings told) s h;
  back = λ told s h. same (happenings told) told s h;
}

-- A fact of the state alone is such a fact.
pub of-state : (Fact : State → Type 0) → SeesHappenings (λ told s. Fact s)
of-state Fact = record { there = λ told s h. h; back = λ told s h. h }

-- ---- moments

-- one more is told
told-one : (es : List Event) (e : Event)
    → told_by (es ++ e ∷ []) ≡ told_by es ++ (step (state_by es) e).entries
told-one es e =
    told-append es (e ∷ []) first_state
    ∙ ap (λ more. told_by es ++ more) (append-nil (step (state_by es) e).entries)

each-moment : (Law : Moment → Type 0) → HoldsAtMoments Law → (before es : List Event)
    → AreMoments before → AreMoments es
    → Each Law (moments_from (told_by before) (state_by before) es)
each-moment Law holds before [] done are = tt
each-moment Law holds before (e ∷ es) done are = (
  holds before e done are.0,
  subst (λ told. Each Law (moments_from told (step (state_by before) e).state es))
      (told-one before e) (subst (λ s. Each Law (moments_from (told_by (before ++ e ∷ [])) s es))
      (last-append before (e ∷ []) first_state) (each-moment Law holds (before ++ e ∷ []) es
      (each-append IsMoment before (e ∷ []) done (are.0, tt)) are.1)),
)

-- A law of moments that holds at each moment of runs of moments holds at each moment of all runs.
pub at-all : (Law : Moment → Type 0) → HoldsAtMoments Law → HoldsAtEachMoment Law
at-all Law holds es valid =
    each-moment Law holds [] (unsettled first_state es) tt (settles-are_deliveries es valid).moments
