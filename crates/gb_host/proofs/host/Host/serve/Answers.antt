-- The request comes on the connection that was looked up.
use Rattle.std.proofs.Common.{subst, sym, ◌∙◌}
use Rattle.gb_host.specs.Serving.{IsSmallServed, ServesAs}
use Rattle.gb_host.specs.Stands.{host_of}
use Rattle.gb_host.proofs.host.Host.serve.Goals as goal
use Rattle.gb_machine.specs.HostServing.{host_serves, served_on}

pub returns-in-Some-clause-step : goal.returns-in-Some-clause-step
returns-in-Some-clause-step c = λ h s.
    subst (λ g. ServesAs (host_serves c.args.connection c.args.kind c.args.payload.now g)
    c.args.self.now c.serve_link.new.self c.serve_link.result) (sym s)
    (subst (λ o. ServesAs (served_on o c.args.kind c.args.payload.now (host_of c.args.self.now))
    c.args.self.now c.serve_link.new.self c.serve_link.result)
    (sym (sym c.of.ensures ∙ c.in-Some.is)) c.serve_link.ensures.step)

pub returns-in-Some-clause-few : goal.returns-in-Some-clause-few
returns-in-Some-clause-few c = λ h s few.
    c.serve_link.ensures.few
    (subst (λ o. IsSmallServed (served_on o c.args.kind c.args.payload.now
    (host_of c.args.self.now)) (host_of c.args.self.now)) (sym c.of.ensures ∙ c.in-Some.is)
    (subst (λ g. IsSmallServed (host_serves c.args.connection c.args.kind c.args.payload.now g) g)
    s few))
