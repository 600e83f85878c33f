use Rattle.litemap_store.proofs.Names.{◌≡◌, KeptSoFar, length}
use Rattle.litemap_store.proofs.retain.keep_in_place.Given as goal

abbrev pub invariant-loop-index : goal.invariant-loop-index
invariant-loop-index g l = record {
  len : length (g.S.Store.pairs l.store) ≡ length (g.S.Store.pairs l.fn.store);
  room : g.S.Store.room l.store ≡ g.S.Store.room l.fn.store;
  kept : KeptSoFar g.F.FnMut l.fn.f (g.S.Store.pairs l.fn.store) l.f (g.S.Store.pairs l.store) l.kept l.index;
}
