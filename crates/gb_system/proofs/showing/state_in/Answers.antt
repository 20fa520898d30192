-- The state is that of the link, or that of the supervisory controller's connection.
use Rattle.std.proofs.Common.{refl}
use Rattle.gb_host.specs.Stands.{host_of}
use Rattle.gb_machine.specs.Host.{link_of}
use Rattle.gb_system.proofs.Showings.{state-nowhere, state-there}
use Rattle.gb_system.proofs.showing.state_in.Goals as goal

pub returns-in-Some : goal.returns-in-Some
returns-in-Some c =
    state-there (link_of c.args.connection (host_of c.args.host.now)) c.state.result
    c.in-Some.state (c.state.ensures.step (host_of c.args.host.now) refl) c.in-Some.is

pub returns-in-None : goal.returns-in-None
returns-in-None c =
    state-nowhere (link_of c.args.connection (host_of c.args.host.now)) c.state.result
    (c.state.ensures.step (host_of c.args.host.now) refl) c.in-None.is
