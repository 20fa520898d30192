use Rattle.std.proofs.Common.{ap, ◌++◌, ◌∙◌, subst, IsAscii, sym}
use Rattle.gb_formats.specs.Texts.{refusal_line_text}
use Rattle.gb_formats.proofs.Ascii.{IsAscii-refusal_line_text}
use Rattle.gb_report.proofs.report.put_refusal.Goals as goal

pub append-requires : goal.append-requires
append-requires c =
    let text = c.deref.ensures ∙ c.in_ok-append_refusal.ensures
    ∙ ap (λ l. l ++ refusal_line_text c.args.line c.args.why.now) c.in_ok-text.ensures in
    subst IsAscii (sym text) (IsAscii-refusal_line_text c.args.line c.args.why.now)
