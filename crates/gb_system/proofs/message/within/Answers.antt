-- The front of a payload has as many bytes as a message has room for.
use Rattle.std.proofs.Common.{◌≡◌, ◌≤◌, ◌<◌, ℕ, List, length, take, sym, arith}
use Rattle.std.proofs.lemmas.List.{length-take-le}
use Rattle.gb_system.proofs.message.within.Goals as goal

-- a list that is longer than a number is as long as that once it is cut there
cut : (n : ℕ) (xs : List ℕ) → n < length xs → length (take n xs) ≡ n
cut n xs more = length-take-le n xs (omega (arith, more))

least : (n m : ℕ) → n ≡ m → n ≤ m
least n m e = omega (arith, e)

pub slice_bounds-result-end : goal.slice_bounds-result-end
slice_bounds-result-end c = sym (cut 2040 c.args.payload.now c.if-payload-gt-MOST_PAYLOAD.true)

pub returns-then-payload-gt-MOST_PAYLOAD-clause-most
    : goal.returns-then-payload-gt-MOST_PAYLOAD-clause-most
returns-then-payload-gt-MOST_PAYLOAD-clause-most c =
    least _ 2040 (cut 2040 c.args.payload.now c.if-payload-gt-MOST_PAYLOAD.true)
