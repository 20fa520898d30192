-- The connection is at the place from which on numbers aren't smaller, or nowhere.
use Rattle.std.proofs.Common.{◌≡◌, ◌<◌, length, ltb, rules, sym}
use Rattle.std.proofs.lemmas.List.Sorted.{IsPartitionPoint-from_clause, IsPartitionedBy-ltb}
use Rattle.gb_host.specs.declared.places.Place.{Place}
use Rattle.gb_host.proofs.PlaceNumbers.{IsPoint, at-point, behind-all, climbs, past-point}
use Rattle.gb_host.proofs.places.place_halved.Goals as goal

pub returns-then-place-places-clause-first : goal.returns-then-place-places-clause-first
returns-then-place-places-clause-first c = λ rises.
    let ls = c.args.places.now in
    let k = c.args.connection in
    let i = c.partition_point-place.result in
    let point : IsPoint k ls i =
    IsPartitionPoint-from_clause (λ (h : Place). ltb h.link.connection k) ls i
    c.partition_point-place.ensures.partitioned
    (IsPartitionedBy-ltb (λ (h : Place). h.link.connection) ls k (climbs ls rises))
    (λ a r f' h. search rules) in
    let end : i ≡ length ls = search in
    sym (behind-all k ls i point end)

pub returns-then-at-connection-clause-first : goal.returns-then-at-connection-clause-first
returns-then-at-connection-clause-first c = λ rises.
    let ls = c.args.places.now in
    let k = c.args.connection in
    let i = c.partition_point-place.result in
    let point : IsPoint k ls i =
    IsPartitionPoint-from_clause (λ (h : Place). ltb h.link.connection k) ls i
    c.partition_point-place.ensures.partitioned
    (IsPartitionedBy-ltb (λ (h : Place). h.link.connection) ls k (climbs ls rises))
    (λ a r f' h. search rules) in
    let within : i < length ls = search rules in
    sym (at-point k ls i _ point within c.if-at-connection.true)

pub returns-else-at-connection-clause-first : goal.returns-else-at-connection-clause-first
returns-else-at-connection-clause-first c = λ rises.
    let ls = c.args.places.now in
    let k = c.args.connection in
    let i = c.partition_point-place.result in
    let point : IsPoint k ls i =
    IsPartitionPoint-from_clause (λ (h : Place). ltb h.link.connection k) ls i
    c.partition_point-place.ensures.partitioned
    (IsPartitionedBy-ltb (λ (h : Place). h.link.connection) ls k (climbs ls rises))
    (λ a r f' h. search rules) in
    let within : i < length ls = search rules in
    sym (past-point k ls i _ rises point within c.if-at-connection.false)
