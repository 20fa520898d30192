-- Nothing was run yet.
use Rattle.std.proofs.Common.{refl}
use Rattle.gb_example.specs.Example.{HasRun, report_of, state_after}
use Rattle.gb_example.proofs.rig.Rig.new.Goals as goal

pub returns-clause-run : goal.returns-clause-run
unfolding HasRun report_of state_after
returns-clause-run c =
    record { stands = c.in_ok-new.ensures.first; report = c.new-3.ensures.bytes; count = refl }
