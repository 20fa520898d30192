-- The numbers of those that were given up are those that identifiers are in use for.
use Rattle.std.proofs.Common.{ap, ◌∙◌}
use Rattle.gb_ops.proofs.Listing.{late-are}
use Rattle.gb_ops.proofs.Maps.{none-held}
use Rattle.gb_ops.specs.Operations.{holder_of}
use Rattle.gb_ops.proofs.ops.Ops.late.Goals as goal

pub returns-in_err-numbers-clause-few : goal.returns-in_err-numbers-clause-few
returns-in_err-numbers-clause-few c = λ free.
    let nothing =
    none-held c.self.inside.tables.holders
    (λ label. ap (λ x. holder_of x label) c.self.view_is ∙ free label) in
    absurd (cc (c.in_err-numbers.ensures.few nothing))

pub returns-clause-lists : goal.returns-clause-lists
returns-clause-lists c =
    late-are c.args.self.now c.self.inside.tables.holders c.in_ok-numbers.numbers
    (ap (λ x. x.holders) c.self.view_is) c.in_ok-numbers.ensures.numbers
    c.in_ok-numbers.ensures.sorted c.in_ok-numbers.ensures.unique
