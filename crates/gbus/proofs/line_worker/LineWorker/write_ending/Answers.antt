use Rattle.std.proofs.Common.{subst}
use Rattle.gbus.proofs.Gathering.{ending-stops, ending-written}
use Rattle.gbus.specs.Endings.{status_of}
use Rattle.gbus.proofs.line_worker.LineWorker.write_ending.Goals as goal
use Rattle.gbus.specs.Writing.{TakesPart}
use Rattle.std.specs.Io.KnownBytes.{Appends}

pub returns-in-Ok-clause-ends : goal.returns-in-Ok-clause-ends
returns-in-Ok-clause-ends g c = λ j left now taken over.
    ending-written c.args.self.now.session j left now taken (g.K.Sink.taken c.args.sink.now)
    (g.K.Sink.taken c.write_all.new.sink) (status_of c.args.ended) over
    (subst (Appends (g.K.Sink.taken c.args.sink.now) (g.K.Sink.taken c.write_all.new.sink))
    c.ending.ensures c.in-Ok.ensures.bytes)

pub returns-in-Err-clause-ends : goal.returns-in-Err-clause-ends
returns-in-Err-clause-ends g c = λ j left now taken over.
    ending-stops c.args.self.now.session j left now taken (g.K.Sink.taken c.args.sink.now)
    (g.K.Sink.taken c.write_all.new.sink) (status_of c.args.ended) c.in-Err.stop
    (status_of c.ended_at.result) c.ended_at.ensures.status over
    (subst (TakesPart (g.K.Sink.taken c.args.sink.now) (g.K.Sink.taken c.write_all.new.sink))
    c.ending.ensures c.in-Err.ensures.bytes.0)
