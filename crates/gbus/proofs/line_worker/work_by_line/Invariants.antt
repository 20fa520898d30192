-- The lines that were read were taken, and what is written of them was written or gathered.
use Rattle.std.proofs.Common.{◌≤◌, ◌-◌}
use Rattle.gb_script.specs.Readers.{number_of}
use Rattle.gbus.specs.Program.{LineJob}
use Rattle.gbus.specs.Stages.{Stage}
use Rattle.gbus.proofs.line_worker.work_by_line.Given as goal

abbrev pub invariant-loop-ended : goal.invariant-loop-ended
invariant-loop-ended g l = record {
  stage : (j : LineJob) → Stage l.initial.worker j (g.S.Source.left l.initial.source)
      (g.S.Source.left l.initial.source) (g.K.Sink.taken l.initial.sink)
      (g.K.Sink.taken l.initial.sink)
      → Stage l.worker j (g.S.Source.left l.initial.source) (g.S.Source.left l.source)
      (g.K.Sink.taken l.initial.sink) (g.K.Sink.taken l.sink);
  reads : g.S.Source.faults l.initial.source ≤ g.S.Source.faults l.source;
  writes : g.K.Sink.faults l.initial.sink ≤ g.K.Sink.faults l.sink;
}

abbrev pub decreases-loop-ended : goal.decreases-loop-ended
decreases-loop-ended g l = 1048577 - number_of l.worker.reader
