-- What follows at the device, the CPort answers, but for a request that it may not make.
use Rattle.std.proofs.Common.{Ok, Option, subst}
use Rattle.std.specs.Option.{IsSomeAnd}
use Rattle.gb_base.specs.declared.download.Next.{Next}
use Rattle.gb_formats.specs.Devices.{Firmware}
use Rattle.gb_formats.specs.Module.{ModulePort}
use Rattle.gb_formats.specs.ModuleLoads.{loader_of}
use Rattle.gb_module.specs.Loading.{FollowsAs, IsLoaded, follows, follows_in, with_its_loader}
use Rattle.gb_module.specs.Views.{cport_state_of, seen}
use Rattle.gb_module.proofs.Loading.{loaded-by}
use Rattle.gb_module.proofs.port.Port.ended.Goals as goal

pub returns-clause-step : goal.returns-clause-step
returns-clause-step c =
    let how = c.args.outcome.now in
    let old = seen c.self.inside.device in
    let new = seen c.ended.new.self in
    let port : ModulePort = record {
      number = c.self.inside.number;
      protocol = c.self.inside.protocol;
      state = cport_state_of c.self.inside.state;
      device = old;
    } in
    subst (λ (p : ModulePort). IsSomeAnd (follows_in p.state how (loader_of p.device))
    (λ t. IsLoaded (with_its_loader p) t c.if_may_ask.new.self c.if_may_ask.result))
    c.self.view_is
    (loaded-by port c.if_may_ask.new.self new (follows how (loader_of old)) c.in-Some.next
    c.if_may_ask.result
    (subst (λ (o : Option Next). FollowsAs Firmware (follows how (loader_of old)) old new (Ok o))
    c.in-Some.is c.in_ok-next.ensures.step)
    c.if_may_ask.ensures.step)
