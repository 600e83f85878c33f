use Rattle.litemap_store.proofs.Names.{arith, common_steps}
use Rattle.litemap_store.proofs.vec_impl.VecTuple2StoreMut.lm_insert.Goals as goal

pub offset_bounds-deref_mut-index : goal.offset_bounds-deref_mut-index
offset_bounds-deref_mut-index g c = grind (arith, common_steps)

pub rotate_right-requires : goal.rotate_right-requires
rotate_right-requires g c = grind (arith, common_steps)

pub slice_bounds-rotate_right-start : goal.slice_bounds-rotate_right-start
slice_bounds-rotate_right-start g c = grind (arith, common_steps)

pub slice_bounds-rotate_right-count : goal.slice_bounds-rotate_right-count
slice_bounds-rotate_right-count g c = grind (arith, common_steps)

pub returns-clause-ok : goal.returns-clause-ok
returns-clause-ok g c = grind (arith, common_steps)
