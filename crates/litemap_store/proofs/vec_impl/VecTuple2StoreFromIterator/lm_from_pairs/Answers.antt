use Rattle.litemap_store.proofs.vec_impl.VecTuple2StoreFromIterator.lm_from_pairs.Goals as goal

pub returns-clause-made : goal.returns-clause-made
returns-clause-made g c = let given = c.in-Ok.ensures.gathered in rw (given.1, c.new-pairs.ensures.items) given.2
