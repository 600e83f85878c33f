use Rattle.litemap.proofs.Common.{ap, rules}
use Rattle.litemap.proofs.Bounded.{each_between}
use Rattle.litemap.proofs.Queried.{kept_found}
use Rattle.litemap.proofs.map.LiteMap.iter_range.Goals as goal

pub returns-clause-pairs : goal.returns-clause-pairs
returns-clause-pairs g c = search rules

pub returns-clause-inside : goal.returns-clause-inside
returns-clause-inside g c = each_between _ _ _ c.args.self.now.entries c.between.result (returns-clause-pairs g c)

pub returns-clause-found : goal.returns-clause-found
returns-clause-found g c =
    kept_found g.met.K.Ord.total c.args.self.now.entries (rw (ap (λ m. m.entries) c.self.view_is) at c.self.invariant) _ c.between.result
    (returns-clause-pairs g c)
