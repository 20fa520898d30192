-- A connect, a disconnect and a drain are refused or done as the machine does.
use Rattle.std.proofs.Common.{◌≡◌, ℕ, Bool, true, false, Option, Some, None, is_none, List, []}
use Rattle.std.proofs.Common.{◌∷◌, ◌++◌, ap, option_map, refl, subst, sym, ◌∙◌}
use Rattle.gb_base.specs.declared.end.Side.TheVariants as side
use Rattle.gb_base.specs.declared.entry.ConnState.TheVariants as state
use Rattle.gb_base.specs.declared.entry.Entry.{Entry}
use Rattle.gb_base.specs.declared.event.Event.TheVariants as event
use Rattle.gb_base.specs.declared.host_event.HostEvent.TheVariants as host_event
use Rattle.gb_base.specs.declared.interface.Link.{Link}
use Rattle.gb_base.specs.declared.refusal.Refusal.{Refusal}
use Rattle.gb_base.specs.declared.refusal.Refusal.TheVariants as why
use Rattle.gb_formats.specs.ValidEvents.{IsValid}
use Rattle.gb_machine.proofs.Opened.{machine_opened}
use Rattle.gb_invariants.proofs.Awaiting.{same-some}
use Rattle.gb_invariants.proofs.Found.{find-changed}
use Rattle.gb_laws.proofs.runs.Reached.{reached-connects, reached-disconnects, reached-drained}
use Rattle.gb_laws.proofs.runs.Reached.{reached-drains}
use Rattle.gb_machine.specs.Actions.{given}
use Rattle.gb_machine.specs.Host.{control_of, in_state, is_link, link_at, with_link}
use Rattle.gb_machine.specs.HostActs.{idles, notices, turns}
use Rattle.gb_machine.specs.HostRefusals.{connect_conditions, disconnect_conditions}
use Rattle.gb_machine.specs.HostRefusals.{drain_conditions}
use Rattle.gb_machine.specs.Labels.{next_label}
use Rattle.gb_machine.specs.Lists.{Condition, first_met, holds_of}
use Rattle.gb_machine.specs.Refusals.{has_no_label, refusal}
use Rattle.gb_machine.specs.Sequences.{link_turn}
use Rattle.gb_machine.specs.State.{State}
use Rattle.gb_system.proofs.Doings.{does-by_state, does-given, does-then}
use Rattle.gb_system.proofs.Ways.{met-early, met-late}
use Rattle.gb_laws.specs.Possible.{MayTurn}
use Rattle.gb_system.specs.Doing.{Does, IsDone, IsRefused}
use Rattle.gb_laws.specs.Possible.{MayIdle}
use Rattle.gb_system.specs.Stands.{PartiesStand, PartsStand}
use Rattle.gb_system.specs.declared.parties.Parties.{Parties}

-- ---- connects

-- that no identifier is left for a request to the supervisory controller
abbrev last_condition : State → List Condition
last_condition s = (has_no_label 1 side.Ap s, why.NoLabel) ∷ []

-- the application processor refuses
pub connect-refused : {x : Parties} (s : State) (i c : ℕ) (why : Refusal) → PartiesStand x s
    → first_met (connect_conditions i c s.host) ≡ Some why → IsRefused x s (event.Connect i c) why
connect-refused s i c why st refused = record {
  refused = met-early (connect_conditions i c s.host) (last_condition s) why refused;
  stand = st.parts;
}

-- what is left of the refusals
last-met : (cs : List Condition) (left spent is : Bool) → first_met cs ≡ None → spent ≡ left
    → spent ≡ is → first_met (cs ++ (left, why.NoLabel) ∷ []) ≡ first_met ((is, why.NoLabel) ∷ [])
last-met cs left spent is free by so =
    met-late cs ((left, why.NoLabel) ∷ []) free
    ∙ ap (λ b. first_met ((b, why.NoLabel) ∷ [])) (sym by ∙ so)

-- no identifier is left
pub connect-spent : {x : Parties} (s : State) (i c : ℕ) (spent : Bool) → PartiesStand x s
    → first_met (connect_conditions i c s.host) ≡ None
    → spent ≡ is_none (next_label 1 side.Ap s.bus) → spent ≡ true
    → IsRefused x s (event.Connect i c) why.NoLabel
connect-spent s i c spent st free by so = record {
  refused =
      last-met (connect_conditions i c s.host) (has_no_label 1 side.Ap s) spent true free by so;
  stand = st.parts;
}

-- it is done
pub connect-done : (x y : Parties) (s : State) (i c : ℕ) (spent : Bool) (before es : List Entry)
    → IsValid (event.Connect i c) → PartiesStand x s
    → first_met (connect_conditions i c s.host) ≡ None
    → spent ≡ is_none (next_label 1 side.Ap s.bus) → spent ≡ false
    → ((t : State) → PartsStand [] x t → MayTurn (host_event.Connect i c) t
    → Does y (notices (host_event.Connect i c)) t before es)
    → IsDone y s (event.Connect i c) before es
unfolding machine_opened
connect-done x y s i c spent before es valid st free by so noticed =
    let allowed : refusal s (event.Connect i c) ≡ None =
    last-met (connect_conditions i c s.host) (has_no_label 1 side.Ap s) spent false free by so in
    record {
      allowed = allowed;
      done = noticed s st.parts (reached-connects s i c st.run allowed valid);
    }

-- ---- disconnects

-- that no identifier is left for a request to Control
abbrev control_spent : State → ℕ → Bool
control_spent s i = holds_of (λ k. has_no_label k side.Ap s) (control_of i s.host)

abbrev control_condition : State → ℕ → List Condition
control_condition s i = (control_spent s i, why.NoLabel) ∷ []

-- the application processor refuses
pub disconnect-refused : {x : Parties} (s : State) (i c : ℕ) (why : Refusal) → PartiesStand x s
    → first_met (disconnect_conditions i c s.host) ≡ Some why
    → IsRefused x s (event.Disconnect i c) why
disconnect-refused s i c why st refused = record {
  refused = met-early (disconnect_conditions i c s.host) (control_condition s i) why refused;
  stand = st.parts;
}

-- no identifier is left on the connection to Control
pub disconnect-spent : {x : Parties} (s : State) (i c : ℕ) (spent : Bool) → PartiesStand x s
    → first_met (disconnect_conditions i c s.host) ≡ None → spent ≡ control_spent s i
    → spent ≡ true → IsRefused x s (event.Disconnect i c) why.NoLabel
disconnect-spent s i c spent st free by so = record {
  refused =
      last-met (disconnect_conditions i c s.host) (control_spent s i) spent true free by so;
  stand = st.parts;
}

-- it is done
pub disconnect-done : (x y : Parties) (s : State) (i c : ℕ) (spent : Bool)
    (before es : List Entry) → PartiesStand x s
    → first_met (disconnect_conditions i c s.host) ≡ None → spent ≡ control_spent s i
    → spent ≡ false
    → ((t : State) → PartsStand [] x t → MayTurn (host_event.Disconnect i c) t
    → Does y (notices (host_event.Disconnect i c)) t before es)
    → IsDone y s (event.Disconnect i c) before es
unfolding machine_opened
disconnect-done x y s i c spent before es st free by so noticed =
    let allowed : refusal s (event.Disconnect i c) ≡ None =
    last-met (disconnect_conditions i c s.host) (control_spent s i) spent false free by so in
    record {
      allowed = allowed;
      done = noticed s st.parts (reached-disconnects s i c st.run allowed);
    }

-- ---- drains

-- the state once a connection drains
drains-is : (i c : ℕ) (s : State) (l : Link) → link_at i c s.host ≡ Some l
    → (notices (host_event.Drain i c) s).state
    ≡ record s { host = with_link i c (in_state state.Draining) s.host }
unfolding machine_opened
drains-is i c s l is = ap (λ o. (turns (link_turn state.Draining o
    (with_link i c (in_state state.Draining) s.host)) s).state) is

-- it is found where it was
still-there : (i c : ℕ) (s : State) (l : Link) → link_at i c s.host ≡ Some l
    → link_at i c (notices (host_event.Drain i c) s).state.host
    ≡ Some (in_state state.Draining l)
still-there i c s l is =
    ap (λ (t : State). link_at i c t.host) (drains-is i c s l is)
    ∙ find-changed (is_link i c) (in_state state.Draining) s.host.links (λ x. refl)
    ∙ ap (option_map (in_state state.Draining)) is

-- it is done
pub drain-done : (x y z : Parties) (s : State) (i c k : ℕ) (before mid es : List Entry)
    → PartiesStand x s → first_met (drain_conditions i c s.host) ≡ None
    → option_map (λ l. l.connection) (link_at i c s.host) ≡ Some k
    → ((t : State) → PartsStand [] x t → MayTurn (host_event.Drain i c) t
    → Does y (notices (host_event.Drain i c)) t before mid)
    → ((t : State) → PartsStand [] y t → MayIdle k t → Does z (idles k) t mid es)
    → IsDone z s (event.Drain i c) before es
unfolding machine_opened
drain-done x y z s i c k before mid es st free is noticed rests =
    by (link_at i c s.host) refl is
  where
    d : Does y (notices (host_event.Drain i c)) s before mid
    d = noticed s st.parts (reached-drains s i c st.run free)

    t : State
    t = (notices (host_event.Drain i c) s).state

    by : (o : Option Link) → link_at i c s.host ≡ o → option_map (λ l. l.connection) o ≡ Some k
        → IsDone z s (event.Drain i c) before es
    by None found own = absurd cc
    by (Some l) found own = record {
      allowed = free;
      done =
          does-then d
          (does-by_state (λ u. given (link_at i c u.host) (λ m. idles m.connection))
          (does-given (λ m. idles m.connection) (in_state state.Draining l)
          (still-there i c s l found)
          (subst (λ n. Does z (idles n) t mid es) (sym (same-some l.connection k own))
          (rests t d.stand (reached-drained s i c k st.run free)))));
    }
