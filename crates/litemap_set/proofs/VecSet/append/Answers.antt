use Rattle.litemap_set.proofs.Keys.{on_ok_both, union_of_merge}
use Rattle.litemap_set.proofs.VecSet.append.Goals as goal

pub returns-clause-union : goal.returns-clause-union
returns-clause-union g c =
    let A = c.self.inside.map.entries in
    let B = c.other.inside.map.entries in
    rw (← c.self.view_is, ← c.other.view_is)
    (on_ok_both c.append.result (λ merge found. union_of_merge g.met.K.Ord.total A B c.append.new.self.entries merge found)
    c.append.ensures.merged c.append.ensures.found)
