use Rattle.std.proofs.Common.{sym, ◌∙◌}
use Rattle.gb_script.proofs.PlainLines.{by-words}
use Rattle.gb_script.proofs.plain_line.plain_line.Goals as goal

pub returns-then-are_printable-clause-script : goal.returns-then-are_printable-clause-script
returns-then-are_printable-clause-script c by_words =
    by-words c.args.line.now by_words c.if-line-gt-LONGEST_LINE.false
    (sym c.are_printable.ensures ∙ c.if-are_printable.true)

pub returns-then-are_printable-clause-capture : goal.returns-then-are_printable-clause-capture
returns-then-are_printable-clause-capture c by_words =
    by-words c.args.line.now by_words c.if-line-gt-LONGEST_LINE.false
    (sym c.are_printable.ensures ∙ c.if-are_printable.true)

pub returns-then-are_printable-clause-part : goal.returns-then-are_printable-clause-part
returns-then-are_printable-clause-part c by_words =
    by-words c.args.line.now by_words c.if-line-gt-LONGEST_LINE.false
    (sym c.are_printable.ensures ∙ c.if-are_printable.true)
