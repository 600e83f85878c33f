use Rattle.litemap_store.proofs.Last.Pairs.{last_of}
use Rattle.litemap_store.proofs.laws.last_is_one.Goals as goal

pub returns : goal.returns
returns g c = last_of g.K.Ord.cmp g.met.K.Ord.total
