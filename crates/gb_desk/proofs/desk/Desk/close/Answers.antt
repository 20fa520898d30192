use Rattle.gb_desk.proofs.Closing.{closes}
use Rattle.gb_desk.proofs.desk.Desk.close.Goals as goal

pub returns : goal.returns
returns c =
    closes _ _ _ _ _ _ c.close_with-closed.ensures.values.2 c.requires.all c.args.pass.free.out
    c.take-stored.ensures.value
