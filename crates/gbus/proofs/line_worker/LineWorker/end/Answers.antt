use Rattle.gbus.proofs.Gathering.{front-within, left-over, rose-later, write-stops}
use Rattle.gbus.specs.Endings.{status_of}
use Rattle.gbus.proofs.line_worker.LineWorker.end.Goals as goal
use Rattle.gbus.specs.Sessions.{ending_of}

pub returns-in-Ok-clause-ends : goal.returns-in-Ok-clause-ends
returns-in-Ok-clause-ends g c = λ j left now taken last.
    c.write_ending.ensures.ends j left now taken
    (left-over c.args.self.now j left now taken (g.K.Sink.taken c.args.sink.now)
    (g.K.Sink.taken c.write.new.sink) (status_of c.args.ended) last c.in-Ok.ensures.bytes)

pub returns-in-Err-clause-ends : goal.returns-in-Err-clause-ends
returns-in-Err-clause-ends g c = λ j left now taken last.
    write-stops j left now taken (g.K.Sink.taken c.args.sink.now)
    (g.K.Sink.taken c.write.new.sink) c.args.self.now.gathered last.whole c.in-Err.stop
    (status_of c.ended_at.result) c.ended_at.ensures.status last.gathers
    (front-within j left last.whole (ending_of (status_of c.args.ended) c.args.self.now.session)
    last.within)
    c.in-Err.ensures.bytes.0

pub returns-in-Ok-clause-faults : goal.returns-in-Ok-clause-faults
returns-in-Ok-clause-faults g c = λ reads reads_after rose.
    rose-later reads reads_after (g.K.Sink.faults c.args.sink.now)
    (g.K.Sink.faults c.write.new.sink) (g.K.Sink.faults c.write_ending.new.sink)
    (status_of c.write_ending.result) c.write.ensures.later
    (c.write_ending.ensures.faults reads reads_after rose)
