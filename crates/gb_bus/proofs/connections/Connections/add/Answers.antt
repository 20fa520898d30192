-- The connection stands where its number belongs, and both its ends have its number.
use Rattle.std.proofs.Common.{ap, subst, sym, ◌∙◌}
use Rattle.gb_base.specs.declared.end.End.TheVariants as end
use Rattle.gb_bus.proofs.EndsTaken.{are-free}
use Rattle.gb_bus.proofs.Grouping.{all-added, all-same, all-undone}
use Rattle.gb_bus.proofs.KeepingLive.{gets-loses}
use Rattle.gb_bus.proofs.SeeingLive.{adds}
use Rattle.gb_bus.specs.Connection.{Connection}
use Rattle.gb_bus.specs.Ends.{is_far}
use Rattle.gb_bus.specs.Index.{Enters, GetsNumber}
use Rattle.gb_bus.proofs.connections.Connections.add.Goals as goal

pub set-requires-clause-near : goal.set-requires-clause-near
set-requires-clause-near c =
    (are-free c.self.inside.live.map c.self.inside.ends c.self.inside.waiting c.args.self.now
    c.args.number c.args.ap c.args.peer c.self.invariant.maps c.self.view_is c.requires.far
    c.requires.free).near

pub set-requires-clause-far : goal.set-requires-clause-far
set-requires-clause-far c =
    (are-free c.self.inside.live.map c.self.inside.ends c.self.inside.waiting c.args.self.now
    c.args.number c.args.ap c.args.peer c.self.invariant.maps c.self.view_is c.requires.far
    c.requires.free).far

pub invariant_of-self-in-Err : goal.invariant_of-self-in-Err
invariant_of-self-in-Err c =
    all-undone c.self.inside.live.map c.self.inside.ends c.set.new.ends c.self.inside.waiting
    c.self.inside.grouped c.add.new.grouped c.remove.new.grouped c.args.peer c.args.number
    (are-free c.self.inside.live.map c.self.inside.ends c.self.inside.waiting c.args.self.now
    c.args.number c.args.ap c.args.peer c.self.invariant.maps c.self.view_is c.requires.far
    c.requires.free).number
    c.in-Err.ensures.unchanged c.in_ok-add.ensures.added c.remove.ensures c.self.invariant

pub invariant_of-self-in-Ok : goal.invariant_of-self-in-Ok
invariant_of-self-in-Ok c =
    let x = c.in_ok-connection.connection in
    let is = c.in_ok-connection.ensures in
    let near = ap (λ (y : Connection). y.ap) is in
    let far = ap (λ (y : Connection). y.peer) is in
    let free = are-free c.self.inside.live.map c.self.inside.ends c.self.inside.waiting
    c.args.self.now c.args.number c.args.ap c.args.peer c.self.invariant.maps c.self.view_is
    c.requires.far c.requires.free in
    all-added c.self.inside.live.map c.insert.new.self c.self.inside.ends c.set.new.ends
    c.self.inside.waiting c.self.inside.grouped c.add.new.grouped c.args.number x free.number
    c.in-Ok.ensures.updates.0 c.in-Ok.ensures.unique
    (subst (λ e. GetsNumber c.self.inside.ends c.set.new.ends e x.peer c.args.number)
    (ap end.Ap (sym near))
    (subst
    (λ e. GetsNumber c.self.inside.ends c.set.new.ends (end.Ap c.args.ap) e c.args.number)
    (sym far) c.in_default.ensures.set))
    (subst (λ e. Enters c.self.inside.grouped c.add.new.grouped e c.args.number) (sym far)
    c.in_ok-add.ensures.added)
    (ap is_far far ∙ c.requires.far)
    (ap (λ (y : Connection). y.to_ap) is, ap (λ (y : Connection). y.to_far) is) c.self.invariant

pub invariant_of-self-in-Err-insert : goal.invariant_of-self-in-Err-insert
invariant_of-self-in-Err-insert c =
    all-same c.self.inside.live.map c.insert.new.self c.unset.new.ends c.self.inside.waiting
    c.in-Err-insert.ensures.err
    (all-undone c.self.inside.live.map c.self.inside.ends c.unset.new.ends c.self.inside.waiting
    c.self.inside.grouped c.add.new.grouped c.remove-in-Err-insert.new.grouped c.args.peer
    c.args.number
    (are-free c.self.inside.live.map c.self.inside.ends c.self.inside.waiting c.args.self.now
    c.args.number c.args.ap c.args.peer c.self.invariant.maps c.self.view_is c.requires.far
    c.requires.free).number
    (gets-loses c.self.inside.ends c.set.new.ends c.unset.new.ends (end.Ap c.args.ap) c.args.peer
    c.args.number c.in_default.ensures.set c.unset.ensures)
    c.in_ok-add.ensures.added c.remove-in-Err-insert.ensures c.self.invariant)

pub returns-in-Ok-clause-added : goal.returns-in-Ok-clause-added
returns-in-Ok-clause-added c =
    adds c.self.inside.live.map c.insert.new.self c.args.self.now
    c.args.number c.args.ap c.args.peer c.args.protocol c.in_ok-connection.connection
    c.self.invariant.maps.unique c.in-Ok.ensures.unique c.self.view_is
    (are-free c.self.inside.live.map c.self.inside.ends c.self.inside.waiting c.args.self.now
    c.args.number c.args.ap c.args.peer c.self.invariant.maps c.self.view_is c.requires.far
    c.requires.free).number
    c.in-Ok.ensures.updates.0 c.in_ok-connection.ensures
