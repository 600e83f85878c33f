use Rattle.litemap.proofs.StdMaps.{sorted_from_Rising}
use Rattle.litemap_set.proofs.VecSet.len.Goals as goal

pub returns-clause-ascending : goal.returns-clause-ascending
returns-clause-ascending g c = rw (← c.self.view_is) (sorted_from_Rising g.K.Ord.cmp c.self.inside.map.entries c.len.ensures.rising)
