-- The enumerations begin, and the interfaces are known.
use Rattle.std.proofs.Common.{◌++◌, ap, subst, ◌∙◌, refl}
use Rattle.gb_host.proofs.Modules.{inserted-turns}
use Rattle.gb_host.specs.Changes.{with_module}
use Rattle.gb_host.specs.Stands.{host_of}
use Rattle.gb_host.specs.Turning.{Turns, begun, spelled}
use Rattle.gb_host.proofs.host.Host.inserted.Goals as goal
use Rattle.gb_machine.specs.HostTurns.{host_inserted, one_by_one}

pub returns : goal.returns
returns c = λ few.
    let all = c.in_ok-intfs.intfs in
    let new = record c.args.self.now { interfaces = c.add.new.self } in
    subst (λ is. Turns (one_by_one (host_inserted c.args.primary) is (host_of c.args.self.now))
    c.args.acts.now new c.begin_all.new.acts) (c.in_ok-intfs.ensures few)
    (inserted-turns c.args.primary all c.args.self.now new c.args.acts.now c.begin_all.new.acts
    (c.in_ok-add.ensures.ok
    ∙ ap (λ is. with_module c.args.primary is c.args.self.now.interfaces) c.items-2.ensures)
    refl refl
    (c.in_ok-begin_all.ensures ∙ ap (λ is. c.args.acts.now ++ spelled (begun is)) c.items.ensures))
