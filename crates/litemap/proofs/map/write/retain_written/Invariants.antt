use Rattle.litemap.proofs.Common.{◌≡◌, ◌≤◌, List, ◌++◌, length, take, drop}
use Rattle.litemap.specs.KeptWritten.{CallableOnValues, KeptWritten}
use Rattle.litemap.proofs.map.write.retain_written.Given as goal

abbrev pub invariant-loop-index : goal.invariant-loop-index
invariant-loop-index g l =
    let old = g.S.Store.pairs l.fn.store in
    let pairs = g.S.Store.pairs l.store in
    record {
      callable : CallableOnValues g.F.FnMut l.f (drop l.index pairs);
      within : l.kept ≤ l.index;
      same_length : length pairs ≡ length old;
      room : g.S.Store.room l.store ≡ g.S.Store.room l.fn.store;
      so_far : (M : List (g.row.K.Denot × g.row.V.Denot)) → KeptWritten g.F.FnMut l.f (drop l.index pairs) M
          → KeptWritten g.F.FnMut l.fn.f old (take l.kept pairs ++ M);
    }
