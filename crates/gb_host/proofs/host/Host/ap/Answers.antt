-- A request that doesn't speak of the CPort is the same for each.
use Rattle.std.proofs.Common.{◌≡◌, false}
use Rattle.gb_host.specs.Stands.{host_of}
use Rattle.gb_host.proofs.host.Host.ap.Goals as goal
use Rattle.gb_machine.specs.Host.{link_at}
use Rattle.gb_machine.specs.Sequences.{ap_in, target}

pub returns-then-not-speaks_of_ap : goal.returns-then-not-speaks_of_ap
returns-then-not-speaks_of_ap c =
    let says : c.speaks_of_ap.result ≡ false = search in
    let h = host_of c.args.self.now in
    c.speaks_of_ap.ensures says
    (target (ap_in (link_at c.args.purpose.intf c.args.purpose.cport h)) c.args.purpose h) 0
