use Rattle.std.proofs.Common.{◌<◌, arith}
use Rattle.gb_mnfs.proofs.HexNumbers.{small}
use Rattle.gb_mnfs.proofs.number.four_digits.Goals as goal

pub overflow_mul-number : goal.overflow_mul-number
overflow_mul-number c =
    let few : c.loop-d.d-index < 4 = omega (arith, c.if-digits-gt4.false, c.loop-d-test.true) in
    let s = small c.loop-d.d-index c.loop-d.number few c.loop-d.invariant.bound in
    omega (arith, s)

pub overflow_add-number : goal.overflow_add-number
overflow_add-number c =
    let few : c.loop-d.d-index < 4 = omega (arith, c.if-digits-gt4.false, c.loop-d-test.true) in
    let s = small c.loop-d.d-index c.loop-d.number few c.loop-d.invariant.bound in
    omega (arith, s, c.from.ensures, c.in_ok-hex_digit.ensures.bound)
