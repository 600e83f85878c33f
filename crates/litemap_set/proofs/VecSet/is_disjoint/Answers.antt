use Rattle.std.specs.Map.Iter.{deref}
use Rattle.litemap_set.proofs.Walking.{disjoint_if_none}
use Rattle.litemap_set.proofs.VecSet.is_disjoint.Goals as goal

pub returns : goal.returns
returns g c =
    disjoint_if_none g.met.K.Ord.total deref c.intersection.result c.next.new.self c.next.result c.next.ensures.steps c.is_none.result c.is_none.ensures
    c.args.self.now.keys c.args.other.now.keys c.intersection.ensures.members
