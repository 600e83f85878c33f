use Rattle.litemap_store.proofs.Names.{◌+◌, ◌≤◌, length, take}
use Rattle.litemap_store.specs.Clones.{PairsBecame}
use Rattle.litemap_store.proofs.store.StoreMut.lm_try_clone.Given as goal

abbrev pub invariant-loop-index : goal.invariant-loop-index
invariant-loop-index g l = let pairs = g.Self.Store.pairs l.fn.self in record {
  clones : PairsBecame g.K.Clone.is_clone g.V.Clone.is_clone (take l.index pairs) (g.Self.Store.pairs l.made);
  room : length pairs ≤ l.index + g.Self.Store.room l.made;
}
