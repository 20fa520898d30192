use Rattle.std.proofs.Common.{◌≡◌, List, ℕ, ◌++◌, ap, ◌∙◌, subst, IsAscii, sym, rules}
use Rattle.std.proofs.lemmas.Result.{on_ok_weaker}
use Rattle.std.specs.String.{string_bytes}
use Rattle.gb_formats.specs.Dump.{check_text}
use Rattle.gb_formats.specs.Texts.{ended}
use Rattle.gb_report.proofs.DumpAscii.{IsAscii-check_text}
use Rattle.gb_report.proofs.checked.put_accepted.Goals as goal

pub put_line-requires : goal.put_line-requires
put_line-requires c =
    let text : ended (string_bytes c.in_ok-line.line) ≡ check_text c.args.m.now = search rules in
    subst IsAscii (sym text) (IsAscii-check_text c.args.m.now)

pub returns-clause-ok : goal.returns-clause-ok
returns-clause-ok c =
    let text : ended (string_bytes c.in_ok-line.line) ≡ check_text c.args.m.now = search rules in
    on_ok_weaker c.put_line.result (λ e. e ∙ ap (λ (l : List ℕ). c.args.out.now ++ l) text)
    c.put_line.ensures.ok
