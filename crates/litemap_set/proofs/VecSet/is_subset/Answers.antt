use Rattle.std.specs.Map.Iter.{deref}
use Rattle.litemap_set.proofs.Walking.{subset_if_none}
use Rattle.litemap_set.proofs.VecSet.is_subset.Goals as goal

pub returns : goal.returns
returns g c =
    subset_if_none g.met.K.Ord.total deref c.difference.result c.next.new.self c.next.result c.next.ensures.steps c.is_none.result c.is_none.ensures
    c.args.self.now.keys c.args.other.now.keys c.difference.ensures.members
