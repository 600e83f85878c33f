use Rattle.std.proofs.Common.{true}
use Rattle.litemap_set.proofs.Walking.{walk-union, walk-ascends, walk-own}
use Rattle.litemap_set.proofs.VecSet.union.Goals as goal

pub returns : goal.returns
returns g c = let e = c.combined.ensures in rw e.walked (record {
  members = walk-union g.met.K.Ord.total _ _ e.ascending e.other_ascending;
  own = λ k. walk-own g.met.K.Ord.total true true true k _ _ e.ascending e.other_ascending;
  ascending = walk-ascends g.met.K.Ord.total true true true _ _ e.ascending e.other_ascending;
})
