-- What is reported of merged lines is the text of the trace of their events.
use Rattle.std.proofs.Common.{Bool, List, [], ap, false, refl, true, ◌++◌, ◌∷◌, ◌≡◌}
use Rattle.gb_base.specs.declared.entry.Entry.TheVariants as entry
use Rattle.gb_base.specs.declared.refusal.Refusal.TheVariants as why
use Rattle.gb_formats.specs.Orders.{Merged}
use Rattle.gb_formats.specs.Texts.{entries_text}
use Rattle.gb_machine.specs.Events.{step, trace_from}
use Rattle.gb_machine.specs.Runs.{AreValid}
use Rattle.gb_machine.specs.Shared.{IsMergedTrace, done_in, merged_text, report_merged}
use Rattle.gb_machine.specs.State.{State, first_state}

-- from a state on
lines-traced : (hex : Bool) (ms : List Merged) (s : State)
    → report_merged hex s ms ≡ merged_text hex ms (trace_from s (done_in ms))
lines-traced hex [] s = refl
lines-traced hex ((a, true) ∷ ms) s =
    ap (λ x. entries_text a.line hex (entry.Refused why.Full ∷ []) ++ x) (lines-traced hex ms s)
lines-traced hex ((a, false) ∷ ms) s =
    ap (λ x. entries_text a.line hex (step s a.event).entries ++ x)
    (lines-traced hex ms (step s a.event).state)

-- Every such report is that of a run of the events that are done.
pub merged-traced : (hex : Bool) (ms : List Merged) → AreValid (done_in ms) → IsMergedTrace hex ms
merged-traced hex ms valid = record {
  valid = valid;
  report_is = lines-traced hex ms first_state;
}
