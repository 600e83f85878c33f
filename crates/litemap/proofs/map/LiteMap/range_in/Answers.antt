use Rattle.litemap.proofs.Bounded.{finds_between}
use Rattle.litemap_store.specs.Queries.{key_respects}
use Rattle.litemap.proofs.map.LiteMap.range_in.Goals as goal

pub returns-clause-pairs : goal.returns-clause-pairs
returns-clause-pairs g c bounds = rw (c.start_bound.ensures bounds, c.end_bound.ensures bounds) at c.range.ensures.pairs

pub returns-clause-stays : goal.returns-clause-stays
returns-clause-stays g c bounds = rw (c.start_bound.ensures bounds, c.end_bound.ensures bounds) at c.range.ensures.stays

pub returns-clause-inside : goal.returns-clause-inside
returns-clause-inside g c bounds = rw (c.start_bound.ensures bounds, c.end_bound.ensures bounds) at c.range.ensures.inside

pub returns-clause-keys : goal.returns-clause-keys
returns-clause-keys g c bounds =
    finds_between _ _ _ c.args.self.now.entries c.range.result.entries (returns-clause-pairs g c bounds) (key_respects g.met.K.Ord.total)
