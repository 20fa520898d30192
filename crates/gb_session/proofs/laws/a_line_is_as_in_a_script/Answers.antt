use Rattle.gb_session.proofs.Lines.{as-in-a-script}
use Rattle.gb_session.proofs.laws.a_line_is_as_in_a_script.Goals as goal

pub returns : goal.returns
returns c = as-in-a-script
