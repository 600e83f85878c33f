use Rattle.std.proofs.lemmas.List.Elements.{All-from_recursion}
use Rattle.litemap.proofs.Common.{rules}
use Rattle.litemap.proofs.Bounded.{are_between}
use Rattle.litemap.proofs.Queried.{kept_found, keeps_part}
use Rattle.litemap.proofs.map.LiteMap.range.Goals as goal

pub returns-clause-pairs : goal.returns-clause-pairs
returns-clause-pairs g c = search rules

pub returns-clause-stays : goal.returns-clause-stays
returns-clause-stays g c = keeps_part _ c.args.self.now.entries c.unwrap.result.entries (returns-clause-pairs g c)

pub returns-clause-inside : goal.returns-clause-inside
returns-clause-inside g c = are_between _ _ _ c.args.self.now.entries c.unwrap.result.entries (returns-clause-pairs g c)

pub returns-clause-found : goal.returns-clause-found
returns-clause-found g c = All-from_recursion _ _
    (kept_found g.met.K.Ord.total c.args.self.now.entries c.keys_ascend.ensures.rising _ c.unwrap.result.entries (returns-clause-pairs g c))
