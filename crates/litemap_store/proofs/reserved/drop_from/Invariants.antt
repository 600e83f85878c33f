use Rattle.std.proofs.Common.{◌+◌, ◌≡◌, ◌≤◌, length, take}
use Rattle.litemap_store.proofs.reserved.drop_from.Given as goal

abbrev pub invariant-loop-store : goal.invariant-loop-store
invariant-loop-store g l = record {
  first : take l.len (g.S.Store.pairs l.store) ≡ take l.len (g.S.Store.pairs l.fn.store);
  room : g.S.StoreMut.keeps_memory → g.S.Store.room l.fn.store + length (g.S.Store.pairs l.fn.store)
      ≤ g.S.Store.room l.store + length (g.S.Store.pairs l.store);
}

abbrev pub decreases-loop-store : goal.decreases-loop-store
decreases-loop-store g l = length (g.S.Store.pairs l.store)
