-- A name that is free goes to its place, and there are as many names in order as there are.
use Rattle.std.proofs.Common.{◌≡◌, ◌∙◌, ap, arith, length, sym}
use Rattle.gb_machine.specs.Lists.{in_order}
use Rattle.gb_machine.specs.Names.{named}
use Rattle.gb_system.proofs.HashedNames.{bound-hashed, length-hashed}
use Rattle.gb_system.specs.Showing.{pair_before}
use Rattle.gb_system.proofs.names.Names.bind.Goals as goal

pub returns-clause-ok : goal.returns-clause-ok
returns-clause-ok c = λ free.
    c.make_room.ensures
    ∙ bound-hashed c.args.name c.args.number c.self.inside.bound.entries c.insert.new.self.entries
    c.self.invariant c.in_ok-insert.ensures.unique c.in_ok-insert.ensures.updates.0
    (ap (named c.args.name) c.self.view_is ∙ free)
    ∙ ap (in_order pair_before (c.args.name, c.args.number)) c.self.view_is

pub returns-clause-room : goal.returns-clause-room
returns-clause-room c =
    let same : length c.args.self.now ≡ c.len.result =
    sym (ap length c.self.view_is) ∙ length-hashed c.self.inside.bound.entries
    ∙ sym c.len.ensures.len in
    omega (arith, same, c.len.ensures.small)
