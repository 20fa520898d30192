use Rattle.gb_session.proofs.Reporting.{by-line}
use Rattle.gb_session.proofs.laws.a_report_is_that_of_its_lines.Goals as goal

pub returns : goal.returns
returns c = by-line
