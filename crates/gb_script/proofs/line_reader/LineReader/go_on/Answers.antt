use Rattle.std.proofs.Common.{Bool, Ok, refl, subst, sym, ◌∙◌}
use Rattle.gb_script.proofs.Handed.{ends-after, gives-ended, gives-last, none-of, some-of}
use Rattle.gb_script.proofs.Handed.{stops-after}
use Rattle.gb_script.proofs.Shown.{gathered-shows}
use Rattle.gb_script.specs.Reading.{ReadsLine}
use Rattle.gb_script.proofs.line_reader.LineReader.go_on.Goals as goal

pub returns-then-is_empty-clause-reads : goal.returns-then-is_empty-clause-reads
returns-then-is_empty-clause-reads g c = λ text given r.
    let line = subst (λ (b : Bool). ReadsLine c.args.self.now.held c.read_line.new.self
    (g.S.Source.left c.args.source.now) (g.S.Source.left c.read_line.new.source) (Ok b))
    c.in-Ok-false.field-0-test c.in-Ok-false.ensures.line in
    ends-after c.args.self.now _ text (g.S.Source.left c.args.source.now)
    (g.S.Source.left c.read_line.new.source) given line.raw r
    (none-of line.raw (sym (c.is_empty.ensures line.raw line.gathers.1) ∙ c.if-is_empty.true))
    line.taken line.at_end line.room refl refl c.read_line.ensures.few

pub returns-in-Ok-true-clause-reads : goal.returns-in-Ok-true-clause-reads
returns-in-Ok-true-clause-reads g c = λ text given r.
    let line = subst (λ (b : Bool). ReadsLine c.args.self.now.held c.read_line.new.self
    (g.S.Source.left c.args.source.now) (g.S.Source.left c.read_line.new.source) (Ok b))
    c.in-Ok-true.field-0-test c.in-Ok-true.ensures.line in
    gives-ended c.args.self.now _ text (g.S.Source.left c.args.source.now)
    (g.S.Source.left c.read_line.new.source) given line.raw r
    c.requires line.plain line.taken line.room line.shows refl refl
    c.read_line.ensures.few

pub returns-else-is_empty-clause-reads : goal.returns-else-is_empty-clause-reads
returns-else-is_empty-clause-reads g c = λ text given r.
    let line = subst (λ (b : Bool). ReadsLine c.args.self.now.held c.read_line.new.self
    (g.S.Source.left c.args.source.now) (g.S.Source.left c.read_line.new.source) (Ok b))
    c.in-Ok-false.field-0-test c.in-Ok-false.ensures.line in
    gives-last c.args.self.now _ text (g.S.Source.left c.args.source.now)
    (g.S.Source.left c.read_line.new.source) given line.raw r
    c.requires line.plain line.taken line.at_end line.room
    (gathered-shows c.read_line.new.self line.raw line.gathers)
    (some-of line.raw (sym (c.is_empty.ensures line.raw line.gathers.1) ∙ c.if-is_empty.false)) refl
    refl c.read_line.ensures.few

pub returns-in-Err-clause-reads : goal.returns-in-Err-clause-reads
returns-in-Err-clause-reads g c = λ text given r.
    stops-after c.args.self.now c.read_line.new.self text (g.S.Source.left c.args.source.now)
    (g.S.Source.left c.read_line.new.source) given c.in-Err.stop r
    c.requires c.in-Err.ensures.line
