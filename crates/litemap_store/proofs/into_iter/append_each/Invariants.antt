use Rattle.litemap_store.proofs.Names.{◌++◌, ◌≡◌, ◌≤◌, length}
use Rattle.litemap_store.proofs.into_iter.append_each.Given as goal

abbrev pub invariant-loop-key : goal.invariant-loop-key
invariant-loop-key g l = record {
  can : (goal.iterator-loop-key g).can_next l.key-iterator;
  ends : (goal.iterator-loop-key g).is_finite l.key-iterator;
  list : g.S.Store.pairs l.store ++ g.I.PairIntoIter.owned l.key-iterator ≡ g.S.Store.pairs l.fn.store ++ g.I.PairIntoIter.owned l.fn.pairs;
  room : length (g.I.PairIntoIter.owned l.key-iterator) ≤ g.S.Store.room l.store;
}
