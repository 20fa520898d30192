use Rattle.std.proofs.Common.{◌≡◌, ℕ, ◌<◌, ◌≤◌}
use Rattle.std.specs.Prelude.{option_map}
use Rattle.std.specs.List.{slice_get}
use Rattle.gb_desk.specs.Slots.{noted}
use Rattle.gb_desk.proofs.slots.note_all.Given as goal

-- the slots below this one know what was told, and the others are as before
abbrev pub invariant-loop-at : goal.invariant-loop-at
invariant-loop-at l = record {
  done : (k : ℕ) → k < l.at
      → slice_get l.slots k ≡ option_map (option_map (noted l.entries)) (slice_get l.fn.slots k);
  rest : (k : ℕ) → l.at ≤ k → slice_get l.slots k ≡ slice_get l.fn.slots k;
}
