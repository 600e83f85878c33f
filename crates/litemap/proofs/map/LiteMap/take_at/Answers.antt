use Rattle.litemap.proofs.Common.{Rising-remove}
use Rattle.litemap.proofs.Queried.{takes_at}
use Rattle.litemap.proofs.Updating.{places_remove}
use Rattle.litemap.proofs.map.LiteMap.take_at.Goals as goal

pub invariant_of-self : goal.invariant_of-self
invariant_of-self g c =
    rw c.lm_remove.ensures.pairs (Rising-remove g.K.Ord.cmp (g.S.Store.pairs c.self.inside.store) c.args.index c.self.invariant)

pub returns-clause-pairs : goal.returns-clause-pairs
returns-clause-pairs g c = rw (← c.self.view_is) c.lm_remove.ensures.pairs

pub returns-clause-taken : goal.returns-clause-taken
returns-clause-taken g c =
    let taken = takes_at g.met.K.Ord.total (g.S.Store.pairs c.self.inside.store) c.lm_remove.result c.self.invariant c.args.index c.lm_remove.ensures.old in
    rw (← c.self.view_is, c.lm_remove.ensures.pairs) taken

pub returns-clause-places : goal.returns-clause-places
returns-clause-places g c =
    rw (← c.self.view_is, c.lm_remove.ensures.pairs)
    (places_remove g.met.K.Ord.total (g.S.Store.pairs c.self.inside.store) c.self.invariant c.args.index c.lm_remove.result c.lm_remove.ensures.old)
