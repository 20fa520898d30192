-- The interface is one of those not looked at yet.
use Rattle.std.proofs.Common.{◌≡◌, ◌==◌, drop}
use Rattle.std.specs.List.{list_any}
use Rattle.gb_host.proofs.removing.is_among.Given as goal

abbrev pub invariant-loop-one : goal.invariant-loop-one
invariant-loop-one l =
    list_any (λ i. l.intf == i) (drop l.one-index l.intfs)
    ≡ list_any (λ i. l.intf == i) l.intfs
