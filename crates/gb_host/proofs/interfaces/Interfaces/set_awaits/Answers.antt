-- The enumeration waits.
use Rattle.std.proofs.Common.{refl, subst}
use Rattle.gb_host.proofs.Changing.{none-changes, one-changes}
use Rattle.gb_machine.specs.Host.{is_intf}
use Rattle.gb_host.specs.Changes.{interface_awaits}
use Rattle.gb_host.specs.Known.{AreQuiet, HasAccepted}
use Rattle.gb_host.proofs.Known.{all-set}
use Rattle.gb_host.proofs.interfaces.Interfaces.set_awaits.Goals as goal

pub returns-in-Some : goal.returns-in-Some
returns-in-Some c =
    one-changes (is_intf c.args.intf) c.args.self.now c.index.result c.in-Some.i
    c.index_mut.result.now _ (interface_awaits c.args.awaits) c.self.inside.known.items
    c.index.ensures.first c.in-Some.is c.self.view_is c.index_mut.ensures.value refl

pub returns-in_default : goal.returns-in_default
returns-in_default c = none-changes (is_intf c.args.intf) c.args.self.now c.index.result
    (interface_awaits c.args.awaits) c.index.ensures.first c.in_default.is

pub invariant_of-self : goal.invariant_of-self
invariant_of-self c = record {
  waits = λ says.
      subst AreQuiet c.as_slice.ensures.value (c.are_quiet-self-inside.ensures says);
  manifests =
      all-set HasAccepted c.self.inside.known.items c.in-Some.i c.index_mut.result.now _
      c.index_mut.ensures.value (λ has. has) c.self.invariant.manifests;
}
