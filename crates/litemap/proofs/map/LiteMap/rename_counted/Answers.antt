use Rattle.litemap.proofs.Common.{◌≤◌, arith, length, digits, digits-mono, in_turn}
use Rattle.litemap.proofs.Outcomes.{length-cut}
use Rattle.litemap.proofs.map.LiteMap.rename_counted.Goals as goal

pub returns-clause-cost : goal.returns-clause-cost
returns-clause-cost g c =
    let old = c.args.self.now.entries in
    let cut = c.remove_counted.new.self.entries in
    let fewer : length cut ≤ length old = rw c.remove_counted.ensures.removed.cut (length-cut g.Q.Query.order old (g.Q.Query.sought c.args.key)) in
    let fewer_digits : digits (length cut) ≤ digits (length old) = digits-mono (length cut) (length old) fewer in
    in_turn (digits (length old)) (digits (length cut)) _ (omega arith) c.remove_counted.ensures.cost c.insert_counted.ensures.cost
