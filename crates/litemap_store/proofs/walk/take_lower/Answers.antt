use Rattle.litemap_store.proofs.Names.{append-nil, refl, sym}
use Rattle.litemap_store.proofs.Merging.Walking.{take_both, take_new, take_old}
use Rattle.litemap_store.proofs.walk.take_lower.Goals as goal

pub returns-in-Less-clause-taken : goal.returns-in-Less-clause-taken
returns-in-Less-clause-taken g c =
    (_, take_old g.K.Ord.cmp g.met.K.Ord.total _ _ _ _ _ _ (rw c.in-Less.is at c.requires.order) c.take_first.ensures, sym (append-nil _))

pub returns-in-Greater-clause-taken : goal.returns-in-Greater-clause-taken
returns-in-Greater-clause-taken g c =
    (_, take_new g.K.Ord.cmp g.met.K.Ord.total _ _ _ _ _ _ (rw c.in-Greater.is at c.requires.order) c.take_first-in-Greater.ensures, sym (append-nil _))

pub returns-in-Equal-clause-taken : goal.returns-in-Equal-clause-taken
returns-in-Equal-clause-taken g c =
    let order = rw c.in-Equal.is at c.requires.order in let first = c.take_first-key.ensures in let second = c.take_first-new_key.ensures in
    (_, take_both g.K.Ord.cmp g.met.K.Ord.total _ _ _ _ _ _ _ _ _ _ order first second c.choose.ensures.kept refl, c.choose.ensures.displaced)
