-- The image is given, and all else is as before.
use Rattle.gb_host.proofs.Given.{gives}
use Rattle.gb_host.proofs.host.Host.image.Goals as goal

pub returns-clause-step : goal.returns-clause-step
returns-clause-step c = λ h s.
    gives c.args.self.now h c.args.tag.now c.args.bytes.now c.put.new.self c.put.result s
    c.put.ensures
