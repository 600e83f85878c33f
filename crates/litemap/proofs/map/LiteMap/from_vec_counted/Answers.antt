use Rattle.litemap.proofs.Common.{key_alike, key_same, rules}
use Rattle.litemap_store.proofs.Callers.LastLookups.{value_at-last}
use Rattle.litemap_store.proofs.Last.Pairs.{Last-rising, Last-unique}
use Rattle.litemap.proofs.map.LiteMap.from_vec_counted.Goals as goal

pub returns-in-Ok-clause-made : goal.returns-in-Ok-clause-made
returns-in-Ok-clause-made g c = search rules

pub returns-in-Ok-clause-found : goal.returns-in-Ok-clause-found
returns-in-Ok-clause-found g c key =
    let o = g.met.K.Ord.total in
    value_at-last g.K.Ord.cmp o g.K.Ord.cmp key (key_same o key) (key_alike o key) c.args.pairs.items c.from_sorted_store_unchecked.result.entries
    (returns-in-Ok-clause-made g c)

pub returns-in-Ok-clause-stays : goal.returns-in-Ok-clause-stays
returns-in-Ok-clause-stays g c rises =
    let cmp = g.K.Ord.cmp in
    Last-unique cmp g.met.K.Ord.total c.args.pairs.items c.from_sorted_store_unchecked.result.entries c.args.pairs.items (returns-in-Ok-clause-made g c)
    (Last-rising cmp c.args.pairs.items rises)
