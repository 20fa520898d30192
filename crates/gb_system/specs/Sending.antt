-- On which connection a request of a script goes, or why it isn't sent.
use Rattle.std.specs.Prelude.{◌≡◌, ⊤, ℕ, true, Some, None, option_map, IsSome, Result, Ok, Err}
use Rattle.std.specs.Prelude.{List, [], ◌∷◌, ◌++◌}
use Rattle.gb_base.specs.declared.end.End.{End}
use Rattle.gb_base.specs.declared.end.End.TheVariants as end
use Rattle.gb_base.specs.declared.end.Side.TheVariants as side
use Rattle.gb_base.specs.declared.name.Name.{Name}
use Rattle.gb_base.specs.declared.refusal.Refusal.{Refusal}
use Rattle.gb_base.specs.declared.refusal.Refusal.TheVariants as why
use Rattle.gb_machine.specs.Host.{Host, link_at}
use Rattle.gb_machine.specs.HostRefusals.{is_kept, send_conditions}
use Rattle.gb_machine.specs.Labels.{next_label}
use Rattle.gb_machine.specs.Lists.{Condition, conditions_of, first_met}
use Rattle.gb_machine.specs.Refusals.{is_reserved, send_to_conditions}
use Rattle.gb_machine.specs.State.{State}

-- a connection is the way to an end
abbrev pub IsWay : End → Host → ℕ → Type 0
IsWay end.Svc h k = k ≡ 1
IsWay (end.Module i c) h k = option_map (λ l. l.connection) (link_at i c h) ≡ Some k
IsWay (end.Ap a) h k = ⊤

-- when a request of a type isn't sent to an end, as far as the end and the type decide
abbrev pub way_conditions : End → ℕ → Host → List Condition
way_conditions end.Svc kind h = (is_reserved kind, why.Unsupported) ∷ []
way_conditions (end.Module i c) kind h =
    send_conditions i c h
    ++ conditions_of (λ l. (is_kept l kind, why.Unsupported) ∷ []) (link_at i c h)
way_conditions (end.Ap a) kind h = (true, why.NoConnection) ∷ []

-- The answer is the connection to an end exactly where no condition is met, and else the first.
abbrev pub LeadsAs : Host → End → ℕ → Result ℕ Refusal → Type 0
LeadsAs h to kind (Ok k) = (first_met (way_conditions to kind h) ≡ None) × IsWay to h k
LeadsAs h to kind (Err why) = first_met (way_conditions to kind h) ≡ Some why

-- The answer is the connection of a request exactly where no condition is met, and else the first.
-- None is sent to an end of the application processor, and then nothing is said.
abbrev pub GoesAs : State → Name → End → ℕ → List ℕ → Result ℕ Refusal → Type 0
GoesAs s name (end.Ap a) kind payload result = ⊤
GoesAs s name to kind payload (Ok k) =
    (first_met (send_to_conditions s name to kind payload) ≡ None) × IsWay to s.host k
    × IsSome (next_label k side.Ap s.bus)
GoesAs s name to kind payload (Err why) =
    first_met (send_to_conditions s name to kind payload) ≡ Some why
