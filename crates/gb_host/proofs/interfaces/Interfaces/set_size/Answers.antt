-- The interface is changed.
use Rattle.std.proofs.Common.{refl}
use Rattle.gb_host.proofs.Changing.{none-changes, one-changes}
use Rattle.gb_machine.specs.Host.{is_intf}
use Rattle.gb_host.specs.Changes.{changed}
use Rattle.gb_host.specs.declared.interfaces.Change.TheVariants as change
use Rattle.gb_host.proofs.Known.{kept-set}
use Rattle.gb_host.proofs.interfaces.Interfaces.set_size.Goals as goal

pub returns-in-Some : goal.returns-in-Some
returns-in-Some c =
    one-changes (is_intf c.args.intf) c.args.self.now c.index.result c.in-Some.i
    c.index_mut.result.now _ (changed (change.Size c.args.size)) c.self.inside.known.items
    c.index.ensures.first c.in-Some.is c.self.view_is c.index_mut.ensures.value refl

pub returns-in_default : goal.returns-in_default
returns-in_default c = none-changes (is_intf c.args.intf) c.args.self.now c.index.result (changed
    (change.Size c.args.size)) c.index.ensures.first c.in_default.is

pub invariant_of-self : goal.invariant_of-self
invariant_of-self c =
    kept-set _ c.self.inside.known.items c.in-Some.i c.index_mut.result.now _
    c.index_mut.ensures.value refl refl c.self.invariant
