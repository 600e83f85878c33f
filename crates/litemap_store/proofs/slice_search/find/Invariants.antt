use Rattle.litemap_store.proofs.Names.{◌+◌, ◌≡◌, ◌≤◌, Callable, digits, length, Ordering, Shape}
use Rattle.litemap_store.proofs.Search.Halving.{Seen}
use Rattle.litemap_store.proofs.slice_search.find.Given as goal

abbrev pub invariant-loop-left : goal.invariant-loop-left
invariant-loop-left g l = let list = g.S.Keys.pairs l.keys in record {
  within : l.low + l.left ≤ length list;
  hit_within : l.hit ≤ length list;
  callable : Callable g.F.FnMut list (digits l.left) l.f;
  seen : (ord : g.row.K.Denot → Ordering) → Shape g.F.FnMut list ord (digits (length list)) l.fn.f
      → Shape g.F.FnMut list ord (digits l.left) l.f × Seen ord list l.hit l.low l.left;
  same : l.count.name ≡ l.fn.count.name;
  not_lowered : (l.fn.count.total ≤ l.count.total) × (l.fn.count.refusals ≤ l.count.refusals);
  cost : l.count.total + digits l.left ≤ l.fn.count.total + digits (length list);
}

abbrev pub decreases-loop-left : goal.decreases-loop-left
decreases-loop-left g l = l.left
