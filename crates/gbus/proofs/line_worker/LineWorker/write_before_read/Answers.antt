use Rattle.std.proofs.Common.{ℕ, List, subst, sym}
use Rattle.gbus.proofs.Gathering.{all-written, write-stops}
use Rattle.gbus.proofs.LineEnds.{behind-lines}
use Rattle.gbus.specs.Endings.{status_of}
use Rattle.gbus.proofs.line_worker.LineWorker.write_before_read.Goals as goal
use Rattle.gbus.specs.Program.{lines_text}
use Rattle.gbus.specs.Stages.{Gathers}

pub returns-in-Ok-clause-stage : goal.returns-in-Ok-clause-stage
returns-in-Ok-clause-stage g c = λ j left now taken st.
    let after = g.K.Sink.taken c.write.new.sink in
    record {
      given = st.given;
      behind = st.behind;
      gathers = subst (λ (held : List ℕ). Gathers j left now taken after held
          (lines_text j st.given)) (sym c.in-Ok.ensures.empty)
          (all-written j left now now taken (g.K.Sink.taken c.args.sink.now) after
          c.args.self.now.gathered (lines_text j st.given) st.gathers c.in-Ok.ensures.bytes);
      reads = st.reads;
      number = st.number;
    }

pub returns-in-Err-clause-stage : goal.returns-in-Err-clause-stage
returns-in-Err-clause-stage g c = λ j left now taken st.
    let old = c.args.self.now in
    write-stops j left now taken (g.K.Sink.taken c.args.sink.now)
    (g.K.Sink.taken c.write.new.sink) old.gathered (lines_text j st.given) c.in-Err.stop
    (status_of c.ended_at.result) c.ended_at.ensures.status st.gathers
    (behind-lines old.reader old.session j left now st.given st.reads st.behind)
    c.in-Err.ensures.bytes.0
