use Rattle.gb_desk.proofs.Asking.{parts_after}
use Rattle.gb_desk.proofs.desk.Desk.open_request.Goals as goal

pub returns-clause-parts : goal.returns-clause-parts
returns-clause-parts c = parts_after _ _ _ _ _ c.open-answer.ensures.opens
