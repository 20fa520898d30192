use Rattle.std.proofs.Common.{arith}
use Rattle.gbus.proofs.Gathering.{rose-since}
use Rattle.gbus.proofs.Limits.{nothing-read}
use Rattle.gbus.proofs.LineEnds.{going, within-limit}
use Rattle.gbus.specs.Endings.{status_of}
use Rattle.gbus.specs.Jobs.{line_job_seen}
use Rattle.gbus.proofs.line_worker.work_by_line.Goals as goal

pub returns-in-Err-write_before_read-clause-ends : goal.returns-in-Err-write_before_read-clause-ends
returns-in-Err-write_before_read-clause-ends g c =
    let left = g.S.Source.left c.args.source.now in
    let taken = g.K.Sink.taken c.args.sink.now in
    let j = line_job_seen c.args.job in
    (c.in-Err-write_before_read.ensures.stage j left (g.S.Source.left c.loop-ended.source) taken
    (c.loop-ended.invariant.stage j (c.in-Ok.ensures left taken))).0

pub returns-in-Err-write_before_read-clause-prefix :
    goal.returns-in-Err-write_before_read-clause-prefix
returns-in-Err-write_before_read-clause-prefix g c =
    let left = g.S.Source.left c.args.source.now in
    let taken = g.K.Sink.taken c.args.sink.now in
    let j = line_job_seen c.args.job in
    (c.in-Err-write_before_read.ensures.stage j left (g.S.Source.left c.loop-ended.source) taken
    (c.loop-ended.invariant.stage j (c.in-Ok.ensures left taken))).1

pub returns-in-Err-clause-limit : goal.returns-in-Err-clause-limit
returns-in-Err-clause-limit g c = nothing-read (g.S.Source.left c.args.source.now)

pub returns-in-Err-write_before_read-clause-limit :
    goal.returns-in-Err-write_before_read-clause-limit
returns-in-Err-write_before_read-clause-limit g c =
    let left = g.S.Source.left c.args.source.now in
    let taken = g.K.Sink.taken c.args.sink.now in
    let stage = c.loop-ended.invariant.stage (line_job_seen c.args.job)
    (c.in-Ok.ensures left taken) in
    within-limit c.loop-ended.worker.reader left (g.S.Source.left c.loop-ended.source) stage.given
    stage.reads

pub turn-requires : goal.turn-requires
turn-requires g c =
    let left = g.S.Source.left c.args.source.now in
    let taken = g.K.Sink.taken c.args.sink.now in
    let j = line_job_seen c.args.job in
    (c.in_default.ensures.stage j left (g.S.Source.left c.loop-ended.source) taken
    (c.loop-ended.invariant.stage j (c.in-Ok.ensures left taken))).number

pub returns-in-Some-clause-ends : goal.returns-in-Some-clause-ends
returns-in-Some-clause-ends g c =
    let left = g.S.Source.left c.args.source.now in
    let taken = g.K.Sink.taken c.args.sink.now in
    let j = line_job_seen c.args.job in
    let stage = c.in_default.ensures.stage j left
    (g.S.Source.left c.loop-ended.source) taken
    (c.loop-ended.invariant.stage j (c.in-Ok.ensures left taken)) in
    (c.end.ensures.ends j left (g.S.Source.left c.turn.new.source) taken
    (c.in-Some.ensures.turns j left taken (g.K.Sink.taken c.write_before_read.new.sink) stage
    c.in_default.ensures.empty)).0

pub returns-in-Some-clause-prefix : goal.returns-in-Some-clause-prefix
returns-in-Some-clause-prefix g c =
    let left = g.S.Source.left c.args.source.now in
    let taken = g.K.Sink.taken c.args.sink.now in
    let j = line_job_seen c.args.job in
    let stage = c.in_default.ensures.stage j left
    (g.S.Source.left c.loop-ended.source) taken
    (c.loop-ended.invariant.stage j (c.in-Ok.ensures left taken)) in
    (c.end.ensures.ends j left (g.S.Source.left c.turn.new.source) taken
    (c.in-Some.ensures.turns j left taken (g.K.Sink.taken c.write_before_read.new.sink) stage
    c.in_default.ensures.empty)).1

pub returns-in-Some-clause-limit : goal.returns-in-Some-clause-limit
returns-in-Some-clause-limit g c =
    let left = g.S.Source.left c.args.source.now in
    let taken = g.K.Sink.taken c.args.sink.now in
    let j = line_job_seen c.args.job in
    let stage = c.in_default.ensures.stage j left
    (g.S.Source.left c.loop-ended.source) taken
    (c.loop-ended.invariant.stage j (c.in-Ok.ensures left taken)) in
    c.turn.ensures.limit left stage.given stage.reads

pub returns-in-Some-clause-faults : goal.returns-in-Some-clause-faults
returns-in-Some-clause-faults g c =
    let left = g.S.Source.left c.args.source.now in
    let taken = g.K.Sink.taken c.args.sink.now in
    let j = line_job_seen c.args.job in
    let inv = c.loop-ended.invariant in
    let stage = c.in_default.ensures.stage j left
    (g.S.Source.left c.loop-ended.source) taken (inv.stage j (c.in-Ok.ensures left taken)) in
    rose-since (g.S.Source.faults c.args.source.now) (g.S.Source.faults c.loop-ended.source)
    (g.S.Source.faults c.turn.new.source) (g.K.Sink.faults c.args.sink.now)
    (g.K.Sink.faults c.loop-ended.sink) (g.K.Sink.faults c.write_before_read.new.sink)
    (g.K.Sink.faults c.end.new.sink) (status_of c.end.result) inv.reads inv.writes
    c.write_before_read.ensures.writes
    (c.end.ensures.faults (g.S.Source.faults c.loop-ended.source)
    (g.S.Source.faults c.turn.new.source) (c.in-Some.ensures.faults
    (going c.write_before_read.new.self.reader left (g.S.Source.left c.loop-ended.source)
    stage.given stage.reads)))

pub loop-ended-preserved : goal.loop-ended-preserved
loop-ended-preserved g c =
    let inv = c.loop-ended.invariant in
    let left = g.S.Source.left c.args.source.now in
    let taken = g.K.Sink.taken c.args.sink.now in
    record {
      stage = λ j first.
          c.in_default-turn.ensures.turns j left taken
          (g.K.Sink.taken c.write_before_read.new.sink)
          (c.in_default.ensures.stage j left
          (g.S.Source.left c.loop-ended.source) taken (inv.stage j first))
          c.in_default.ensures.empty;
      reads = omega (arith, inv.reads, c.turn.ensures.reads);
      writes = omega (arith, inv.writes, c.write_before_read.ensures.writes);
    }
