-- Numbers rise, so those that are less stand in front.
use Rattle.std.proofs.Common.{arith, ltb, rules}
use Rattle.std.proofs.lemmas.List.Sorted.{IsPartitionPoint-from_clause, IsPartitionedBy-ltb}
use Rattle.gb_ops.proofs.Placed.{by-places, parted-below, parted-beyond}
use Rattle.gb_ops.proofs.open_list.first_from.Goals as goal

pub returns-clause-below : goal.returns-clause-below
returns-clause-below c =
    parted-below c.args.places.now.items c.partition_point.result c.args.n
    (omega (arith, c.partition_point.ensures.bound, c.args.places.now.ok))
    (IsPartitionPoint-from_clause (λ p. ltb p.number c.args.n) c.args.places.now.items
    c.partition_point.result c.partition_point.ensures.partitioned
    (IsPartitionedBy-ltb (λ p. p.number) c.args.places.now.items c.args.n
    (by-places c.args.places.now.items c.requires))
    (λ a r f' k. search rules)).0

pub returns-clause-beyond : goal.returns-clause-beyond
returns-clause-beyond c =
    parted-beyond c.args.places.now.items c.partition_point.result c.args.n
    (IsPartitionPoint-from_clause (λ p. ltb p.number c.args.n) c.args.places.now.items
    c.partition_point.result c.partition_point.ensures.partitioned
    (IsPartitionedBy-ltb (λ p. p.number) c.args.places.now.items c.args.n
    (by-places c.args.places.now.items c.requires))
    (λ a r f' k. search rules)).1
