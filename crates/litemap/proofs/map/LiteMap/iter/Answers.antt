use Rattle.litemap.proofs.Common.{ap, length, rules}
use Rattle.std.proofs.iter.runs.Sources.{from_front}
use Rattle.std.specs.Map.Iter.{deref_pair}
use Rattle.litemap.proofs.Queried.{all_found}
use Rattle.litemap.proofs.map.LiteMap.iter.Goals as goal

pub returns-clause-runs : goal.returns-clause-runs
returns-clause-runs g c =
    let first = (g.met.S.KeyValueIter.PairIter c.lifetimes (search rules)).first in
    from_front g.S.KeyValueIter.Iterator.next_gives deref_pair g.S.KeyValueIter.PairIter.rest (λ s t h. ap length (first s _ t h).0) (λ s x t h. first s _ t h)

pub returns-clause-found : goal.returns-clause-found
returns-clause-found g c = all_found g.met.K.Ord.total c.args.self.now.entries (rw (ap (λ m. m.entries) c.self.view_is) at c.self.invariant)
