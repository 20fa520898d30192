-- Sources and sinks in memory: what each call answers, and what it leaves.
use Rattle.std.specs.Prelude.{ℕ, ◌+◌, ◌==◌, Bool, List, ◌++◌, length, min, take, drop}
use Rattle.std.specs.Prelude.{Result, Ok, Err}
use Rattle.std.specs.List.{list_any}
use Rattle.gb_base.specs.declared.errors.Failed.{Failed}
use Rattle.gb_base.specs.declared.sink.WriteStop.{WriteStop}
use Rattle.gb_base.specs.declared.sink.WriteStop.TheVariants as stop

-- a source in memory: each read gives at most `step` bytes, and the reads whose number from 1 is in
-- `fail_at` fail
pub record MemInput : Type 0 where
  pub left : List ℕ
  pub step : ℕ
  pub fail_at : List ℕ
  pub calls : ℕ
  pub faults : ℕ

-- a sink in memory: the writes whose number from 1 is in `fail_at` fail
pub record MemOutput : Type 0 where
  pub taken : List ℕ
  pub fail_at : List ℕ
  pub calls : ℕ
  pub faults : ℕ

-- one call more; a count of 64 bits stays at its last number
abbrev pub one_more : ℕ → ℕ
one_more calls = min (calls + 1) 18_446_744_073_709_551_615

-- after so many calls the next one fails
abbrev pub next_fails : List ℕ → ℕ → Bool
next_fails fail_at calls = list_any (λ n. n == calls + 1) fail_at

-- how many bytes a read that doesn't fail gives into so much room
abbrev pub bytes_given : MemInput → ℕ → ℕ
bytes_given s room = min s.step (min room (length s.left))

abbrev pub after_read : MemInput → Result ℕ Failed → MemInput
after_read s (Ok n) =
    record {
      left = drop n s.left;
      step = s.step;
      fail_at = s.fail_at;
      calls = one_more s.calls;
      faults = s.faults;
    }
after_read s (Err _) =
    record {
      left = s.left;
      step = s.step;
      fail_at = s.fail_at;
      calls = one_more s.calls;
      faults = s.faults + 1;
    }

abbrev pub after_stop : MemOutput → WriteStop → MemOutput
after_stop s stop.Failed =
    record { taken = s.taken; fail_at = s.fail_at; calls = one_more s.calls; faults = s.faults + 1 }
after_stop s (stop.Memory _) =
    record { taken = s.taken; fail_at = s.fail_at; calls = one_more s.calls; faults = s.faults }

abbrev pub after_write : MemOutput → List ℕ → Result ℕ WriteStop → MemOutput
after_write s piece (Ok n) =
    record {
      taken = s.taken ++ take n piece;
      fail_at = s.fail_at;
      calls = one_more s.calls;
      faults = s.faults;
    }
after_write s piece (Err e) = after_stop s e
