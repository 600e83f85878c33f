use Rattle.std.proofs.Common.{true, false}
use Rattle.litemap_set.proofs.Walking.{walk-intersection, walk-ascends, walk-own}
use Rattle.litemap_set.proofs.VecSet.intersection.Goals as goal

pub returns : goal.returns
returns g c = let e = c.combined.ensures in rw e.walked (record {
  members = walk-intersection g.met.K.Ord.total _ _ e.ascending e.other_ascending;
  own = λ k. walk-own g.met.K.Ord.total false true false k _ _ e.ascending e.other_ascending;
  ascending = walk-ascends g.met.K.Ord.total false true false _ _ e.ascending e.other_ascending;
})
