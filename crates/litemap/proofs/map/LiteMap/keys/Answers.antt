use Rattle.litemap.proofs.Common.{ap, keys_of, length}
use Rattle.std.proofs.iter.runs.Sources.{from_front}
use Rattle.std.specs.Map.Iter.{deref}
use Rattle.litemap.proofs.map.LiteMap.keys.Goals as goal

pub returns-clause-runs : goal.returns-clause-runs
returns-clause-runs g c = from_front _ deref (λ s. keys_of (g.S.KeyValueIter.PairIter.rest s)) (λ s t h. ap length h.0) (λ s x t h. h)
