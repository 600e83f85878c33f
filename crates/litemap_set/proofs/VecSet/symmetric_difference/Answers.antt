use Rattle.std.proofs.Common.{true, false}
use Rattle.litemap_set.proofs.Walking.{walk-symmetric_difference, walk-ascends, walk-own}
use Rattle.litemap_set.proofs.VecSet.symmetric_difference.Goals as goal

pub returns : goal.returns
returns g c = let e = c.combined.ensures in rw e.walked (record {
  members = walk-symmetric_difference g.met.K.Ord.total _ _ e.ascending e.other_ascending;
  own = λ k. walk-own g.met.K.Ord.total true false true k _ _ e.ascending e.other_ascending;
  ascending = walk-ascends g.met.K.Ord.total true false true _ _ e.ascending e.other_ascending;
})
