use Rattle.litemap.proofs.Common.{◌≡◌, ◌≤◌, Less, AllAdjacentBelow}
use Rattle.litemap.proofs.map.LiteMap.is_sorted_store.Given as goal

abbrev pub invariant-loop-index : goal.invariant-loop-index
invariant-loop-index g l = record {
  positive : 1 ≤ l.index;
  so_far : AllAdjacentBelow (λ p q. g.K.Ord.cmp p.0 q.0 ≡ Less) (g.S.Store.pairs l.store) l.index;
}
