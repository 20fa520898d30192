use Rattle.std.proofs.Common.{◌+◌, Bool, Ok, refl, subst, ap, ◌∙◌}
use Rattle.gb_base.specs.declared.status.Status.TheVariants as status
use Rattle.gb_script.specs.Readers.{CountsOn, ReadsOn, StopsAfter}
use Rattle.gb_script.specs.declared.held.LineStop.{LineStop}
use Rattle.gbus.proofs.Endings.{at-last, closed-last, gathers-read}
use Rattle.gbus.proofs.LineEnds.{asked-within, cut-off, too-long}
use Rattle.gbus.proofs.line_worker.LineWorker.turn.Goals as goal

pub take_line-requires : goal.take_line-requires
take_line-requires g c =
    (subst (λ (b : Bool). CountsOn c.args.self.now.reader c.next.new.self b)
    c.in-Ok-true.field-0-test c.in-Ok-true.ensures.counts).0
    ∙ ap (λ n. n + 1) c.requires

pub returns-in-Ok-true-clause-turns : goal.returns-in-Ok-true-clause-turns
returns-in-Ok-true-clause-turns g c = λ j left taken after st none.
    let before = g.S.Source.left c.args.source.now in
    let now = g.S.Source.left c.next.new.source in
    let read = subst (λ (b : Bool). ReadsOn c.next.new.self left now st.given (Ok b))
    c.in-Ok-true.field-0-test (c.in-Ok-true.ensures.reads left st.given st.reads) in
    c.take_line.ensures.turns j left now taken after st.given read.line st.behind
    (gathers-read c.args.self.now j left before now taken after st
    (λ held. ap (λ s. g.S.Source.left s) (c.next.ensures.held held)) none)
    read.lends read.reads

pub returns-in-Ok-clause-turns : goal.returns-in-Ok-clause-turns
returns-in-Ok-clause-turns g c = λ j left taken after st none.
    let before = g.S.Source.left c.args.source.now in
    let now = g.S.Source.left c.next.new.source in
    let ended = subst (λ (b : Bool). ReadsOn c.next.new.self left now st.given (Ok b))
    c.in-Ok-false.field-0-test (c.in-Ok-false.ensures.reads left st.given st.reads) in
    closed-last c.args.self.now j left before now taken after st
    (λ held. ap (λ s. g.S.Source.left s) (c.next.ensures.held held)) none
    c.next.new.self c.close.new.self ended (c.in-Ok.ensures j st.given st.behind)

pub returns-in-Err-clause-turns : goal.returns-in-Err-clause-turns
returns-in-Err-clause-turns g c = λ j left taken after st none.
    let before = g.S.Source.left c.args.source.now in
    let now = g.S.Source.left c.next.new.source in
    at-last c.args.self.now j left before now taken after st
    (λ held. ap (λ s. g.S.Source.left s) (c.next.ensures.held held)) none
    c.next.new.self c.close.new.self status.NoMemory refl (λ later wrote. tt)

pub returns-in-Err-ReadFault-clause-turns : goal.returns-in-Err-ReadFault-clause-turns
returns-in-Err-ReadFault-clause-turns g c = λ j left taken after st none.
    let before = g.S.Source.left c.args.source.now in
    let now = g.S.Source.left c.next.new.source in
    let failed = subst (λ (e : LineStop). StopsAfter left now st.given e)
    c.in-Err-ReadFault.field-0-is (c.in-Err-ReadFault.ensures.reads left st.given st.reads) in
    at-last c.args.self.now j left before now taken after st
    (λ held. ap (λ s. g.S.Source.left s) (c.next.ensures.held held)) none
    c.next.new.self c.args.self.now.session status.ReadFault refl
    (λ later wrote.
    cut-off c.args.self.now.session j left now taken later st.given failed st.behind
    wrote)

pub returns-in-Err-TooLong-clause-turns : goal.returns-in-Err-TooLong-clause-turns
returns-in-Err-TooLong-clause-turns g c = λ j left taken after st none.
    let before = g.S.Source.left c.args.source.now in
    let now = g.S.Source.left c.next.new.source in
    let stopped = subst (λ (e : LineStop). StopsAfter left now st.given e)
    c.in-Err-TooLong.field-0-is (c.in-Err-TooLong.ensures.reads left st.given st.reads) in
    at-last c.args.self.now j left before now taken after st
    (λ held. ap (λ s. g.S.Source.left s) (c.next.ensures.held held)) none
    c.next.new.self c.args.self.now.session status.TooLong refl
    (λ later wrote.
    too-long c.args.self.now.session j left now taken later st.given stopped st.behind
    wrote)

pub returns-in-Ok-true-clause-limit : goal.returns-in-Ok-true-clause-limit
returns-in-Ok-true-clause-limit g c = λ left given read.
    asked-within c.next.new.self left (g.S.Source.left c.next.new.source) given c.next.result
    (c.next.ensures.reads left given read)

pub returns-in-Ok-clause-limit : goal.returns-in-Ok-clause-limit
returns-in-Ok-clause-limit g c = λ left given read.
    asked-within c.next.new.self left (g.S.Source.left c.next.new.source) given c.next.result
    (c.next.ensures.reads left given read)

pub returns-in-Err-clause-limit : goal.returns-in-Err-clause-limit
returns-in-Err-clause-limit g c = λ left given read.
    asked-within c.next.new.self left (g.S.Source.left c.next.new.source) given c.next.result
    (c.next.ensures.reads left given read)

pub returns-in-Err-ReadFault-clause-limit : goal.returns-in-Err-ReadFault-clause-limit
returns-in-Err-ReadFault-clause-limit g c = λ left given read.
    asked-within c.next.new.self left (g.S.Source.left c.next.new.source) given c.next.result
    (c.next.ensures.reads left given read)

pub returns-in-Err-TooLong-clause-limit : goal.returns-in-Err-TooLong-clause-limit
returns-in-Err-TooLong-clause-limit g c = λ left given read.
    asked-within c.next.new.self left (g.S.Source.left c.next.new.source) given c.next.result
    (c.next.ensures.reads left given read)
