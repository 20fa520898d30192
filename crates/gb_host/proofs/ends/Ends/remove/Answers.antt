-- The far end has no number any more.
use Rattle.gb_host.proofs.FarEnds.{ends-left}
use Rattle.gb_host.proofs.ends.Ends.remove.Goals as goal

pub returns : goal.returns
returns c = λ ls named.
    ends-left c.args.self.now (record { numbers = c.remove.new.self }) c.args.intf c.args.cport
    c.far_end.result ls c.far_end.ensures.fits c.far_end.ensures.number
    c.remove.ensures.updates named
