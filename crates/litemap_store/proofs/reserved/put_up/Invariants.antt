use Rattle.litemap_store.proofs.Names.{◌++◌, ◌≡◌, ◌≤◌, length, reverse, vec_len}
use Rattle.litemap_store.proofs.reserved.put_up.Given as goal

abbrev pub invariant-loop-key : goal.invariant-loop-key
invariant-loop-key g l = record {
  list : g.S.Store.pairs l.store ++ reverse l.pairs.items ≡ g.S.Store.pairs l.fn.store ++ reverse l.fn.pairs.items;
  room : length l.pairs.items ≤ g.S.Store.room l.store;
}

abbrev pub decreases-loop-key : goal.decreases-loop-key
decreases-loop-key g l = vec_len l.pairs
