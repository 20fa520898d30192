use Rattle.gbus.proofs.Sharing.{few-asked}
use Rattle.gbus.proofs.share.share.Goals as goal

pub shared_text-requires-clause-few : goal.shared_text-requires-clause-few
shared_text-requires-clause-few g c κs within =
    few-asked c.args.text.now c.in_ok-asked.field-0 c.in_ok-asked.ensures.parts c.requires.short
