use Rattle.litemap.proofs.StdMaps.{sorted_from_Rising}
use Rattle.std.proofs.Common.{subst}
use Rattle.litemap_store.specs.Pairs.{Rising}
use Rattle.litemap_set.proofs.VecSet.combined.Goals as goal

pub returns-clause-ascending : goal.returns-clause-ascending
returns-clause-ascending g c =
    rw (← c.self.view_is)
    (sorted_from_Rising g.K.Ord.cmp c.self.inside.map.entries (subst (Rising g.K.Ord.cmp) c.as_slice.ensures.pairs c.as_slice.ensures.rising))

pub returns-clause-other_ascending : goal.returns-clause-other_ascending
returns-clause-other_ascending g c =
    rw (← c.other.view_is)
    (sorted_from_Rising g.K.Ord.cmp c.other.inside.map.entries (subst (Rising g.K.Ord.cmp) c.as_slice-2.ensures.pairs c.as_slice-2.ensures.rising))
