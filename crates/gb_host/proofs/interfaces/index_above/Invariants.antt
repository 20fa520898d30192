-- The interface stands among those not looked at yet.
use Rattle.std.proofs.Common.{◌≡◌, drop, nat_lt}
use Rattle.std.specs.List.{position_from}
use Rattle.gb_host.proofs.interfaces.index_above.Given as goal

abbrev pub invariant-loop-i : goal.invariant-loop-i
invariant-loop-i l =
    position_from (λ x. nat_lt l.intf x.intf) l.i (drop l.i l.known)
    ≡ position_from (λ x. nat_lt l.intf x.intf) 0 l.known
