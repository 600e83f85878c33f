use Rattle.litemap.proofs.Common.{sym, arith}
use Rattle.litemap.proofs.Cuts.{length-before, length-between, sub_between, within-cut}
use Rattle.litemap.proofs.map.LiteMap.index_range_counted.Goals as goal

pub returns-clause-indices : goal.returns-clause-indices
returns-clause-indices g c =
    let start = c.start_of-start.ensures.cut in
    let end = c.end_of-end.ensures.cut in
    let far = c.saturating_sub.ensures in
    record {
      pairs = sub_between _ _ _ _ _ _ _ far (omega arith) start end;
      start = sym (length-before _ _ _ start);
      len = omega (arith, length-between _ _ _ _ _ start end, far);
      inside = omega (arith, within-cut _ _ _ start, within-cut _ _ _ end, far);
    }
