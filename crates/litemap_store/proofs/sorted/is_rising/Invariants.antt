use Rattle.litemap_store.proofs.Names.{◌-◌, ◌≡◌, AllAdjacentBelow, length, Less, RisesByAtMost}
use Rattle.litemap_store.proofs.sorted.is_rising.Given as goal

abbrev pub invariant-loop-i : goal.invariant-loop-i
invariant-loop-i g l = record {
  near : AllAdjacentBelow (λ p q. g.K.Ord.cmp p.0 q.0 ≡ Less) l.pairs l.i;
  empty : length l.pairs ≡ 0 → l.i ≡ 1;
  cost : RisesByAtMost (l.i - 1) l.fn.count l.count;
}
