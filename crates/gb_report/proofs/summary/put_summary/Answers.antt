use Rattle.std.proofs.Common.{◌≡◌, List, ℕ, ◌++◌, ap, ◌∙◌, subst, IsAscii, sym}
use Rattle.std.proofs.lemmas.Result.{on_ok_weaker}
use Rattle.std.specs.String.{string_bytes}
use Rattle.gb_formats.specs.ShowTexts.{summary_text}
use Rattle.gb_formats.specs.Texts.{ended}
use Rattle.gb_report.specs.Counted.{counts_of}
use Rattle.gb_report.proofs.SummaryAscii.{IsAscii-summary_text}
use Rattle.gb_report.proofs.summary.put_summary.Goals as goal

pub put_line-requires : goal.put_line-requires
put_line-requires c =
    let text : ended (string_bytes c.in_ok-line.line)
    ≡ summary_text c.args.lines (counts_of c.args.counts.now)
    = ap ended c.in_ok-line.ensures in
    subst IsAscii (sym text) (IsAscii-summary_text c.args.lines (counts_of c.args.counts.now))

pub returns-clause-ok : goal.returns-clause-ok
returns-clause-ok c =
    let text : ended (string_bytes c.in_ok-line.line)
    ≡ summary_text c.args.lines (counts_of c.args.counts.now)
    = ap ended c.in_ok-line.ensures in
    on_ok_weaker c.put_line.result (λ e. e ∙ ap (λ (l : List ℕ). c.args.out.now ++ l) text)
    c.put_line.ensures.ok

pub returns-clause-err : goal.returns-clause-err
returns-clause-err c = c.put_line.ensures.err
