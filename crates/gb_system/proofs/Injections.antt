-- Raw bytes are injected as the machine does.
use Rattle.std.proofs.Common.{◌≡◌, ◌<◌, ◌≤◌, ℕ, nat_lt, Bool, true, false, Some, None, Ok, Err}
use Rattle.std.proofs.Common.{option_map, List, [], ◌∷◌, ◌++◌, length, refl, sym, ap, ◌∙◌, subst}
use Rattle.std.proofs.Common.{arith}
use Rattle.std.proofs.lemmas.Bool.Decides.{nat_tests}
use Rattle.gb_base.specs.declared.end.End.{End}
use Rattle.gb_base.specs.declared.end.End.TheVariants as end
use Rattle.gb_base.specs.declared.entry.Entry.{Entry}
use Rattle.gb_base.specs.declared.entry.Entry.TheVariants as entry
use Rattle.gb_base.specs.declared.event.Event.TheVariants as event
use Rattle.gb_base.specs.declared.refusal.Refusal.{Refusal}
use Rattle.gb_base.specs.declared.refusal.Refusal.TheVariants as why
use Rattle.gb_bus.specs.Delivering.{InjectsAs}
use Rattle.gb_bus.specs.Stands as bus
use Rattle.gb_bus.specs.Wiring.{ends_of}
use Rattle.gb_bus.specs.declared.bus.Bus.{Bus}
use Rattle.gb_invariants.proofs.Awaiting.{same-some}
use Rattle.gb_invariants.proofs.Places.{place-is}
use Rattle.gb_machine.proofs.Opened.{machine_opened}
use Rattle.gb_machine.proofs.Steps.{told}
use Rattle.gb_machine.specs.Actions.{given}
use Rattle.gb_machine.specs.Bus.{Place, connection_of}
use Rattle.gb_machine.specs.Events.{does}
use Rattle.gb_machine.specs.LineActions.{injects_at, with_injected}
use Rattle.gb_machine.specs.Lists.{Condition, first_met}
use Rattle.gb_machine.specs.Refusals.{longest_message, module_place, refusal, wired_conditions}
use Rattle.gb_machine.specs.Sending.{is_wired}
use Rattle.gb_machine.specs.State.{State}
use Rattle.gb_machine.specs.Wiring.{injected}
use Rattle.gb_system.proofs.Arrivals.{is-there}
use Rattle.gb_system.proofs.Doings.{does-by_state, does-given, does-is}
use Rattle.gb_system.proofs.HeldAsks.{is-at}
use Rattle.gb_system.proofs.Replies.{none-not}
use Rattle.gb_system.proofs.Standing.{rebussed, repast}
use Rattle.gb_system.proofs.Ways.{met-early, met-late}
use Rattle.gb_system.specs.Doing.{Does, IsDone, IsRefused}
use Rattle.gb_system.specs.Holding.{WiredAs}
use Rattle.gb_system.specs.Stands.{PartiesStand, around_bus}
use Rattle.gb_system.specs.declared.parties.Parties.{Parties}

-- ---- refusals

-- why it is refused where a connection is wired
abbrev size_conditions : List ℕ → List Condition
size_conditions bytes = (nat_lt longest_message (length bytes), why.TooLarge) ∷ []

pub inject-refused : {x : Parties} (s : State) (i c : ℕ) (bytes : List ℕ) (reason : Refusal)
    → PartiesStand x s → WiredAs s i c (Err reason) → IsRefused x s (event.Inject i c bytes) reason
inject-refused s i c bytes reason st wired = record {
  refused = met-early (wired_conditions s i c) (size_conditions bytes) reason wired;
  stand = st.parts;
}

late-refusal : (s : State) (i c : ℕ) (bytes : List ℕ) (large : Bool)
    → first_met (wired_conditions s i c) ≡ None → nat_lt longest_message (length bytes) ≡ large
    → refusal s (event.Inject i c bytes) ≡ first_met ((large, why.TooLarge) ∷ [])
late-refusal s i c bytes large wired is =
    met-late (wired_conditions s i c) (size_conditions bytes) wired
    ∙ ap (λ b. first_met ((b, why.TooLarge) ∷ [])) is

pub inject-large : {x : Parties} (s : State) (i c k : ℕ) (bytes : List ℕ) → PartiesStand x s
    → WiredAs s i c (Ok k) → longest_message < length bytes
    → IsRefused x s (event.Inject i c bytes) why.TooLarge
inject-large s i c k bytes st wired large = record {
  refused = late-refusal s i c bytes true wired.0 (is-less longest_message (length bytes) large);
  stand = st.parts;
}
  where
    is-less : (a b : ℕ) → a < b → nat_lt a b ≡ true
    is-less a b less = grind (arith, nat_tests, less)

-- ---- what is injected

-- What is known of the connection.
record IsWiredAt (s : State) (i c k : ℕ) : Type 0 where
  place : Place
  named : module_place i c s ≡ Some place
  number : place.connection.number ≡ k
  found : connection_of k s.bus ≡ Some place.connection
  wired : place.connection.wired ≡ true

wired-at : (x : Parties) (s : State) (i c k : ℕ) → PartiesStand x s → WiredAs s i c (Ok k)
    → IsWiredAt s i c k
wired-at x s i c k st wired =
    let w = is-at s i c k wired.1 in
    let there = is-there x s (end.Module i c) w.place st w.named in
    record {
      place = w.place;
      named = w.named;
      number = w.number;
      found = ap (λ j. connection_of j s.bus) (sym w.number) ∙ there.found;
      wired = (place-is (end.Module i c) s.bus.connections w.place w.named).wired;
    }

-- its ends are told
pub no-ends : (x : Parties) (s : State) (i c k : ℕ) → PartiesStand x s → WiredAs s i c (Ok k)
    → None ≡ option_map ends_of (connection_of k s.bus) → ⊥
no-ends x s i c k st wired none =
    let w = wired-at x s i c k st wired in
    none-not (ends_of w.place.connection) (option_map ends_of (connection_of k s.bus)) none
    (ap (option_map ends_of) w.found)

injects-is : (s : State) (i c : ℕ) (bytes : List ℕ) (p : Place)
    → injects_at i c bytes p s ≡ told (with_injected p.connection.number bytes s)
    (entry.Raw (end.Module i c) (end.Ap p.connection.ap) (length bytes) bytes ∷ [])
unfolding machine_opened
injects-is s i c bytes p = refl

does-injects : {y : Parties} {s : State} {a b : List Entry} (i c : ℕ) (bytes : List ℕ) (p : Place)
    → module_place i c s ≡ Some p → Does y (injects_at i c bytes p) s a b
    → Does y (does (event.Inject i c bytes)) s a b
unfolding machine_opened
does-injects i c bytes p named d =
    does-by_state (λ t. given (module_place i c t) (injects_at i c bytes))
    (does-given (injects_at i c bytes) p named d)

pub inject-done : (x : Parties) (y : Bus) (s : State) (i c k : ℕ) (bytes : List ℕ)
    (ends : ℕ × End) (before es : List Entry) → PartiesStand x s → WiredAs s i c (Ok k)
    → length bytes ≤ longest_message → InjectsAs x.bus y k bytes
    → Some ends ≡ option_map ends_of (connection_of k s.bus)
    → es ≡ before ++ entry.Raw (end.Module i c) (end.Ap ends.0) (length bytes) bytes ∷ []
    → IsDone (record x { bus = y }) s (event.Inject i c bytes) before es
inject-done x y s i c k bytes ends before es st wired fits injects has is =
    let w = wired-at x s i c k st wired in
    let p = w.place in
    let after = injected p.connection.number bytes s.bus in
    let stands = subst (λ j. bus.Stands (around_bus [] s) y (injected j bytes s.bus)) (sym w.number)
    (injects (around_bus [] s) s.bus st.parts.bus (ap is_wired w.found ∙ w.wired)) in
    let same : ends ≡ ends_of p.connection =
    same-some ends (ends_of p.connection) (has ∙ ap (option_map ends_of) w.found) in record {
      allowed =
          late-refusal s i c bytes false wired.0 (not-less longest_message (length bytes) fits);
      done =
          does-injects i c bytes p w.named
          (does-is (with_injected p.connection.number bytes s)
          (entry.Raw (end.Module i c) (end.Ap p.connection.ap) (length bytes) bytes ∷ [])
          (injects-is s i c bytes p)
          (is ∙ ap (λ (e : ℕ × End). before
          ++ entry.Raw (end.Module i c) (end.Ap e.0) (length bytes) bytes ∷ []) same)
          (repast (with_injected p.connection.number bytes s).past
          (rebussed [] y after st.parts stands refl)));
    }
  where
    not-less : (a b : ℕ) → b ≤ a → nat_lt a b ≡ false
    not-less a b most = grind (arith, nat_tests, most)
