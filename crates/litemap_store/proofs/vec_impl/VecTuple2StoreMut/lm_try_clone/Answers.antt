use Rattle.litemap_store.proofs.vec_impl.VecTuple2StoreMut.lm_try_clone.Goals as goal

pub returns-clause-clones : goal.returns-clause-clones
returns-clause-clones g c = rw c.as_slice.ensures.value at c.from_clones.ensures.items
