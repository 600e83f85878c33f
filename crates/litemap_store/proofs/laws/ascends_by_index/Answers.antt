use Rattle.litemap_store.proofs.Lists.Places.{AllPairs-from_Rising, Rising-from_AllPairs}
use Rattle.litemap_store.proofs.laws.ascends_by_index.Goals as goal

pub returns : goal.returns
returns g c = λ L. (AllPairs-from_Rising g.K.Ord.cmp L, Rising-from_AllPairs g.K.Ord.cmp L)
