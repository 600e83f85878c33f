use Rattle.litemap.proofs.Common.{◌∙◌, length, sym, ap, subst, arith, Rising, Rising-filter}
use Rattle.litemap.proofs.Sets.{list_all-past}
use Rattle.litemap.proofs.map.LiteMap.is_subset_counted.Goals as goal

pub loop-key-preserved : goal.loop-key-preserved
loop-key-preserved g c =
    let cmp = g.K.Ord.cmp in
    let inv = c.loop-key.invariant in
    let first = c.in-Some.ensures.steps in
    let rises = subst (Rising cmp) first inv.keys_ascend in
    let passed = c.skip_to.ensures.passed inv.rest_rises in
    let counted = c.skip_to.ensures.counted in
    let long = ap length first in
    record {
      rest_rises = subst (Rising cmp) (sym passed.0) (Rising-filter cmp _ c.loop-key.rest inv.rest_rises);
      keys_ascend = rises.1;
      all = list_all-past g.met.K.Ord.total _ _ _ _ _ _ passed.0 (sym passed.1 ∙ c.if-not-skip_to.false) first rises.0 ∙ inv.all;
      counted = (counted.0 ∙ inv.counted.0, omega arith, omega arith);
      cost = omega arith;
    }
