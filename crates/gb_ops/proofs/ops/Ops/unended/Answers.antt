-- The numbers of the open requests are those under which they are kept.
use Rattle.std.proofs.Common.{ap, ◌∙◌}
use Rattle.gb_ops.proofs.Listing.{unended-are}
use Rattle.gb_ops.proofs.Maps.{none-open}
use Rattle.gb_ops.specs.Operations.{pending_at}
use Rattle.gb_ops.proofs.ops.Ops.unended.Goals as goal

pub returns-in_err-numbers-clause-few : goal.returns-in_err-numbers-clause-few
returns-in_err-numbers-clause-few c = λ ended.
    let nothing =
    none-open c.self.inside.tables.pending
    (λ n. ap (λ x. pending_at x n) c.self.view_is ∙ ended n) in
    absurd (cc (c.in_err-numbers.ensures.few nothing))

pub returns-clause-lists : goal.returns-clause-lists
returns-clause-lists c =
    unended-are c.args.self.now c.self.inside.tables.pending c.in_ok-numbers.numbers
    (ap (λ x. x.pending) c.self.view_is) c.in_ok-numbers.ensures.numbers
    c.in_ok-numbers.ensures.ordered
