-- The interface is enumerated.
use Rattle.std.proofs.Common.{ap, subst, sym}
use Rattle.gb_base.specs.declared.interface.Interface.{Interface}
use Rattle.gb_host.proofs.Changing.{none-changes, one-changes}
use Rattle.gb_machine.specs.Host.{is_intf}
use Rattle.gb_machine.specs.Sequences.{enumerated}
use Rattle.gb_host.proofs.Known.{kept-accepted}
use Rattle.gb_manifest.specs.Checks.{IsAccepted}
use Rattle.gb_host.proofs.interfaces.Interfaces.enumerate.Goals as goal

pub returns-in-Some : goal.returns-in-Some
returns-in-Some c =
    one-changes (is_intf c.args.intf) c.args.self.now c.index.result c.in-Some.i
    c.index_mut-interface.result.now c.enumerate.new.interface (enumerated c.args.manifest)
    c.self.inside.known.items c.index.ensures.first c.in-Some.is c.self.view_is
    c.index_mut-interface.ensures.value c.enumerate.ensures

pub returns-in_default : goal.returns-in_default
returns-in_default c = none-changes (is_intf c.args.intf) c.args.self.now c.index.result
    (enumerated c.args.manifest) c.index.ensures.first c.in_default.is

pub invariant_of-self : goal.invariant_of-self
invariant_of-self c =
    kept-accepted _ c.self.inside.known.items c.in-Some.i c.index_mut-interface.result.now
    c.enumerate.new.interface c.index_mut-interface.ensures.value
    (ap (λ (x : Interface). x.awaits) c.enumerate.ensures)
    (subst IsAccepted (sym (ap (λ (x : Interface). x.manifest) c.enumerate.ensures)) c.requires)
    c.self.invariant
