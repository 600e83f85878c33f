use Rattle.std.proofs.Common.{arith}
use Rattle.litemap_json.proofs.Digits.{first_digits-all, first_digits-zeros}
use Rattle.litemap_json.proofs.decimal.first_digits.Goals as goal

pub returns-then-digits-eq19 : goal.returns-then-digits-eq19
returns-then-digits-eq19 c = first_digits-all c.args.number c.digits-digits.result c.digits-digits.ensures.length c.if-digits-eq19.true

pub overflow_mul-result : goal.overflow_mul-result
overflow_mul-result c =
    rw c.pow.ensures (omega (
      arith,
      (first_digits-zeros c.args.number c.digits-digits.result (omega (arith, c.ranges.number.fits)) c.digits-digits.ensures.length
          (omega (arith, c.digits-digits.ensures.bound, c.if-digits-eq19.false))).1,
    ))

pub returns : goal.returns
returns c = rw c.pow.ensures
    (first_digits-zeros c.args.number c.digits-digits.result (omega (arith, c.ranges.number.fits)) c.digits-digits.ensures.length
    (omega (arith, c.digits-digits.ensures.bound, c.if-digits-eq19.false))).0
