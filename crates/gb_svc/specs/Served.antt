-- What an answer stands for.
use Rattle.gb_machine.specs.SvcTable as machine
use Rattle.gb_svc.specs.declared.served.SvcServed.{SvcServed}
use Rattle.gb_svc.specs.declared.served.SvcServed.TheVariants as served

-- what the table of the supervisory controller says
abbrev pub served_of : SvcServed → machine.SvcServed
served_of (served.Answer result payload) = machine.SvcServed.Answered result payload.items
served_of (served.Create ap intf cport) = machine.SvcServed.Create ap intf cport
served_of (served.Destroy ap intf cport) = machine.SvcServed.Destroy ap intf cport
served_of (served.Unroute intf) = machine.SvcServed.Unroute intf
