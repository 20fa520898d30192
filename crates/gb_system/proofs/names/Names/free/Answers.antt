-- The names that stay are those that aren't the name.
use Rattle.std.proofs.Common.{◌∙◌, ap}
use Rattle.gb_machine.specs.Lists.{without}
use Rattle.gb_machine.specs.Names.{named, same_name}
use Rattle.gb_system.proofs.HashedNames.{found-sorted, freed-hashed}
use Rattle.gb_system.proofs.names.Names.free.Goals as goal

pub returns-clause-number : goal.returns-clause-number
returns-clause-number c =
    c.remove.ensures.value
    ∙ found-sorted c.args.name.now c.self.inside.bound.entries c.self.invariant
    ∙ ap (named c.args.name.now) c.self.view_is

pub returns-clause-freed : goal.returns-clause-freed
returns-clause-freed c =
    freed-hashed c.args.name.now c.self.inside.bound.entries c.remove.new.self.entries
    c.self.invariant c.remove.ensures.unique c.remove.ensures.updates.0
    ∙ ap (without (λ p. same_name p.0 c.args.name.now)) c.self.view_is
