use Rattle.litemap_store.proofs.Names.{◌++◌, ◌+◌, ◌≡◌, ◌≤◌, drop, length, reverse, take, vec_capacity}
use Rattle.litemap_store.proofs.reserved.take_from.Given as goal

abbrev pub invariant-loop-side : goal.invariant-loop-side
invariant-loop-side g l = record {
  index : l.index ≤ length (g.S.Store.pairs l.store);
  first : take l.index (g.S.Store.pairs l.store) ≡ take l.index (g.S.Store.pairs l.fn.store);
  rest : drop l.index (g.S.Store.pairs l.store) ++ reverse l.side.items ≡ drop l.index (g.S.Store.pairs l.fn.store) ++ reverse l.fn.side.items;
  fits : length l.side.items + length (g.S.Store.pairs l.store) ≤ vec_capacity l.side + l.index;
  side_room : vec_capacity l.fn.side ≤ vec_capacity l.side;
  room : g.S.StoreMut.keeps_memory → g.S.Store.room l.fn.store + length (g.S.Store.pairs l.fn.store)
      ≤ g.S.Store.room l.store + length (g.S.Store.pairs l.store);
}

abbrev pub decreases-loop-side : goal.decreases-loop-side
decreases-loop-side g l = length (g.S.Store.pairs l.store)
