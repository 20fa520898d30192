-- The ids with the numbers not looked at yet are freed after those of the others.
use Rattle.std.proofs.Common.{◌≡◌, drop}
use Rattle.gb_host.proofs.ByNumber.{numbers_forgotten}
use Rattle.gb_host.proofs.connections.free.Given as goal

abbrev pub invariant-loop-number : goal.invariant-loop-number
invariant-loop-number l =
    numbers_forgotten (drop l.number-index l.numbers) l.images
    ≡ numbers_forgotten l.numbers l.fn.images
