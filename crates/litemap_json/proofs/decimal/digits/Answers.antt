use Rattle.std.proofs.Common.{arith}
use Rattle.litemap_json.proofs.Digits.{length-decimal}
use Rattle.litemap_json.proofs.decimal.digits.Goals as goal

pub returns-clause-length : goal.returns-clause-length
returns-clause-length c =
    let digits = c.checked_ilog10.ensures in
    rw c.unwrap_or.ensures
    (length-decimal c.args.number c.checked_ilog10.result (omega (arith, c.ranges.number.fits)) digits.none digits.power_le digits.next_power_gt)
