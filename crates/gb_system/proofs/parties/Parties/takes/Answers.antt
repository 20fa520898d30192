-- The supervisory controller takes all, and a module by the state of its CPort.
use Rattle.gb_system.proofs.Takings.{module-takes, svc-takes}
use Rattle.gb_system.proofs.parties.Parties.takes.Goals as goal

pub returns-in-Svc : goal.returns-in-Svc
returns-in-Svc c = λ loose s p stand there side. svc-takes c.args.at s p c.in-Svc.is there

pub returns-in-Module : goal.returns-in-Module
returns-in-Module c = λ loose s p stand there side.
    module-takes c.args.at c.in-Module.intf c.in-Module.cport c.takes.result
    c.args.self.now.modules s p c.in-Module.is c.takes.ensures stand.plugged.modules there
