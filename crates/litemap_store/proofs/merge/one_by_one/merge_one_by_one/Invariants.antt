use Rattle.litemap_store.proofs.Names.{◌≤◌, length}
use Rattle.litemap_store.proofs.Merging.Steps.{MergedUpTo}
use Rattle.litemap_store.proofs.merge.one_by_one.merge_one_by_one.Given as goal

abbrev pub invariant-loop-key : goal.invariant-loop-key
invariant-loop-key g l = record {
  can : (goal.iterator-loop-key g).can_next l.key-iterator;
  ends : (goal.iterator-loop-key g).is_finite l.key-iterator;
  so_far : MergedUpTo g.K.Ord.cmp g.met.K.Ord.total (g.S.Store.pairs l.fn.store) (g.S.Store.pairs l.fn.other) l.yielded
      (g.S.KeyValueIntoIter.PairIntoIter.owned l.key-iterator) (g.S.Store.pairs l.store) (g.S.Store.pairs l.rest) l.fn.count l.count;
  room : length (g.S.KeyValueIntoIter.PairIntoIter.owned l.key-iterator) ≤ g.S.Store.room l.store;
  rest_room : length (g.S.KeyValueIntoIter.PairIntoIter.owned l.key-iterator) ≤ g.S.Store.room l.rest;
}
