-- Nothing is found in what the application processor hears of a connection that is clean.
use Rattle.std.proofs.Common.{◌≡◌, ℕ, true, List, [], ◌∷◌, ◌++◌, refl, sym}
use Rattle.std.proofs.Common.{subst}
use Rattle.gb_base.specs.declared.entry.Entry.{Entry}
use Rattle.gb_base.specs.declared.event.Event.{Event}
use Rattle.gb_hearing.specs.Hearing.{CleanWasClean, HasNoFinding, HeardHasNoFinding, IsClean}
use Rattle.gb_hearing.specs.Hearing.{NothingFound, Spoken, WasClean, WasSo, heard_at, heard_by}
use Rattle.gb_hearing.specs.Hearing.{heard_in}
use Rattle.gb_hearing.proofs.Findings.{AllFit, all-none, onto, onto-append}
use Rattle.gb_hearing.proofs.Hears.{Hears}
use Rattle.gb_hearing.proofs.HearsMoments.{hears-moment}
use Rattle.gb_hearing.proofs.Unclean.{IsUnclean, clean-run, moment-valid}
use Rattle.gb_invariants.proofs.Awaiting.{none-some, not-both}
use Rattle.gb_invariants.proofs.Lists.{each-from}
use Rattle.gb_laws.proofs.basis.Basics.{none-made}
use Rattle.gb_laws.proofs.runs.Reached.{reached-step}
use Rattle.gb_laws.proofs.runs.Settling.{settles-are_deliveries}
use Rattle.gb_machine.specs.Bus.{Connection, first_bus}
use Rattle.gb_machine.specs.Events.{step}
use Rattle.gb_machine.specs.Members.{Each, IsIn}
use Rattle.gb_machine.specs.Reached.{OfARun}
use Rattle.gb_machine.specs.Runs.{AreMoments, AreValid, Moment, moments_from, state_by}
use Rattle.gb_machine.specs.Runs.{unsettled}
use Rattle.gb_machine.specs.State.{State, first_state}

-- nothing was heard, and no request was made
hears-none : (k : ℕ) → Hears k first_bus []
hears-none k = record {
  fit = tt;
  far = λ v kind some e. none-some e;
  own = λ n r a w. absurd (none-made n r a.made);
  left = λ v kind some e. absurd (none-some e);
}

first-reached : OfARun first_state
first-reached = record { events = []; valid = tt; is = refl }

-- nothing is found at moments before which connection k is clean
fit-run : (k : ℕ) (es : List Event) (told : List Entry) (s : State) → OfARun s → AreMoments es
    → Each (λ m. IsClean k m.before) (moments_from told s es) → (past : List Spoken)
    → Hears k s.bus past → AllFit (onto past (heard_in k (moments_from told s es)))
fit-run k [] told s run are clean past h = h.fit
fit-run k (e ∷ es) told s run are clean past h =
    let m : Moment = record { told = told; before = s; event = e } in
    subst AllFit (sym (onto-append past (heard_at k m)
    (heard_in k (moments_from (told ++ (step s e).entries) (step s e).state es))))
    (fit-run k es (told ++ (step s e).entries) (step s e).state
    (reached-step s e (moment-valid e are.0) run) are.1 clean.1 (onto past (heard_at k m))
    (hears-moment m run are.0 k clean.0 past h))

-- Nothing is found in what is heard of a connection that was clean.
pub nothing-found : NothingFound
nothing-found es valid k clean =
    all-none [] 1 (heard_by k es) (fit-run k (unsettled first_state es) [] first_state first-reached
    (settles-are_deliveries es valid).moments clean [] (hears-none k))

-- A connection that is clean was always clean.
was-clean : (es : List Event) → AreValid es → (c : Connection)
    → IsIn c (state_by es).bus.connections → c.clean ≡ true → WasClean c.number es
was-clean es valid c live clean =
    let d = settles-are_deliveries es valid in
    clean-run (unsettled first_state es) [] first_state first-reached d.moments c.number
    (λ h. not-both c.clean clean
    ((subst (λ s. IsUnclean c.number s.bus) d.state h).unclean c live refl))

pub clean-was_clean : CleanWasClean
clean-was_clean es valid = each-from (WasSo es) (state_by es).bus.connections
    (λ c live clean. was-clean es valid c live clean)

-- So nothing is found in what is heard of it.
pub heard-no_finding : HeardHasNoFinding
heard-no_finding es valid = each-from (HasNoFinding es) (state_by es).bus.connections
    (λ c live clean. nothing-found es valid c.number (was-clean es valid c live clean))
