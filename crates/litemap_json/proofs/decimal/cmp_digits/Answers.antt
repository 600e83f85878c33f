use Rattle.std.proofs.Common.{◌∙◌, arith, sym}
use Rattle.litemap_json.proofs.Digits.{slice_cmp-decimal}
use Rattle.litemap_json.proofs.decimal.cmp_digits.Goals as goal

pub returns : goal.returns
returns c =
    let all = slice_cmp-decimal c.args.a c.args.b c.digits-first.result c.digits-second.result (omega (arith, c.ranges.a.fits))
    (omega (arith, c.ranges.b.fits)) c.digits-first.ensures.length c.digits-second.ensures.length in
    c.then.ensures ∙ rw (c.cmp.ensures, c.cmp-2.ensures, c.padded-left.ensures, c.padded-right.ensures, c.saturating_sub.ensures, c.saturating_sub-2.ensures)
    (sym all)
