use Rattle.litemap.proofs.Common.{rules}
use Rattle.litemap.proofs.Bounded.{finds_between}
use Rattle.litemap.proofs.Queried.{keeps_part}
use Rattle.litemap.proofs.map.LiteMap.range_by.Goals as goal

pub returns-clause-pairs : goal.returns-clause-pairs
returns-clause-pairs g c = search rules

pub returns-clause-stays : goal.returns-clause-stays
returns-clause-stays g c bounds = keeps_part _ c.args.self.now.entries c.range.result.entries (returns-clause-pairs g c bounds)

pub returns-clause-keys : goal.returns-clause-keys
returns-clause-keys g c bounds =
    finds_between _ _ _ c.args.self.now.entries c.range.result.entries (returns-clause-pairs g c bounds) g.met.Q.Query.respects
