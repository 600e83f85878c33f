use Rattle.litemap_store.proofs.Last.Pairs.{Last-join}
use Rattle.litemap_store.proofs.laws.last_joins.Goals as goal

pub returns : goal.returns
returns g c = Last-join g.K.Ord.cmp g.met.K.Ord.total
