-- A count of faults that stays 0 didn't rise, so that a run ends well.
use Rattle.std.proofs.Common.{ℕ, Option, Some, None, List, inl, inr, arith}
use Rattle.gb_base.specs.Faults.{Rose}
use Rattle.gb_base.specs.declared.status.Status.{Status}
use Rattle.gbus.specs.Program.{ByLine, Drive, Job, Share, Whole}
use Rattle.gbus.specs.Runs.{EndsWell, IsComplete}

pub no-rise : Rose 0 0 → ⊥
no-rise (inl less) = omega arith
no-rise (inr last) = omega arith

pub ends-well : (job : Option Job) (text : List ℕ) (s : Status)
    → IsComplete job (Some text) 0 0 0 0 s → EndsWell job text s
ends-well None text s h = tt
ends-well (Some (ByLine j)) text s h = h no-rise no-rise
ends-well (Some (Whole j)) text s h = h no-rise no-rise
ends-well (Some (Share hex)) text s h = h no-rise no-rise
ends-well (Some (Drive seed)) text s h = h text no-rise no-rise
