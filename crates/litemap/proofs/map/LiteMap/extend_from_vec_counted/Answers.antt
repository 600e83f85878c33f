use Rattle.litemap.proofs.Common.{◌++◌, ap, on_ok_weaker, rules}
use Rattle.litemap_store.proofs.Callers.LastLookups.{value_at-Last_of_more}
use Rattle.litemap_store.proofs.Last.Pairs.{Last-rising, Last-unique}
use Rattle.litemap.proofs.MergedTests.{overlays_last}
use Rattle.litemap.proofs.map.LiteMap.extend_from_vec_counted.Goals as goal

pub returns-clause-last : goal.returns-clause-last
returns-clause-last g c = search rules

pub returns-clause-found : goal.returns-clause-found
returns-clause-found g c =
    let rises = rw (ap (λ m. m.entries) c.self.view_is) at c.self.invariant in
    on_ok_weaker c.match-lm_extend_from_vec.result
    (λ last key. value_at-Last_of_more g.met.K.Ord.total c.args.self.now.entries c.args.pairs.items _ rises last key) (returns-clause-last g c)

pub returns-clause-overlays : goal.returns-clause-overlays
returns-clause-overlays g c =
    let rises = rw (ap (λ m. m.entries) c.self.view_is) at c.self.invariant in
    on_ok_weaker c.match-lm_extend_from_vec.result
    (λ last. overlays_last g.K.Ord.cmp g.met.K.Ord.total c.args.self.now.entries c.args.pairs.items _ last rises) (returns-clause-last g c)

pub returns-clause-stays : goal.returns-clause-stays
returns-clause-stays g c rises =
    let cmp = g.K.Ord.cmp in
    on_ok_weaker c.match-lm_extend_from_vec.result
    (λ last. Last-unique cmp g.met.K.Ord.total _ _ _ last (Last-rising cmp (c.args.self.now.entries ++ c.args.pairs.items) rises)) (returns-clause-last g c)
