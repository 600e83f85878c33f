use Rattle.litemap_store.proofs.Names.{◌*◌, ◌++◌, ◌+◌, ◌≡◌, ◌≤◌, digits, left, length, List, Merge, reverse, Rising, vec_capacity}
use Rattle.litemap_store.proofs.merge.in_one_pass.merge_in_one_pass.Given as goal

abbrev pub invariant-loop-other : goal.invariant-loop-other
invariant-loop-other g l = record {
  store_rises : Rising g.K.Ord.cmp (g.S.Store.pairs l.store);
  other_rises : Rising g.K.Ord.cmp (g.S.Store.pairs l.other);
  merged : (M : List _) → Merge g.K.Ord.cmp (g.S.Store.pairs l.store) (g.S.Store.pairs l.other) M
      → Merge g.K.Ord.cmp (g.S.Store.pairs l.fn.store) (g.S.Store.pairs l.fn.other) (M ++ reverse l.side.items);
  left_over : left g.K.Ord.cmp (g.S.Store.pairs l.fn.store) (g.S.Store.pairs l.fn.other) ≡ left g.K.Ord.cmp (g.S.Store.pairs l.store) (g.S.Store.pairs l.other)
      ++ reverse l.displaced.items;
  side_fits : length l.side.items + (length (g.S.Store.pairs l.store) + length (g.S.Store.pairs l.other)) ≤ vec_capacity l.side;
  side_len : length l.side.items + (length (g.S.Store.pairs l.store) + length (g.S.Store.pairs l.other)) ≤ length (g.S.Store.pairs l.fn.store) + length
      (g.S.Store.pairs l.fn.other);
  displaced_fits : length l.displaced.items + length (g.S.Store.pairs l.other) ≤ vec_capacity l.displaced;
  displaced_len : length l.displaced.items + length (g.S.Store.pairs l.other) ≤ length (g.S.Store.pairs l.fn.other);
  fewer : length (g.S.Store.pairs l.store) ≤ length (g.S.Store.pairs l.fn.store);
  same : l.count.name ≡ l.fn.count.name;
  not_lowered : (l.fn.count.total ≤ l.count.total) × (l.fn.count.refusals ≤ l.count.refusals);
  most : l.count.total + length (g.S.Store.pairs l.other) * digits (length (g.S.Store.pairs l.fn.store) + length (g.S.Store.pairs l.fn.other))
      ≤ l.fn.count.total + length (g.S.Store.pairs l.fn.other) * digits (length (g.S.Store.pairs l.fn.store) + length (g.S.Store.pairs l.fn.other));
}

abbrev pub decreases-loop-other : goal.decreases-loop-other
decreases-loop-other g l = length (g.S.Store.pairs l.other)
