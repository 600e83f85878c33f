use Rattle.litemap.proofs.Common.{◌≡◌, List, ◌++◌, length, take, drop}
use Rattle.litemap.specs.KeptWritten.{CallableOnValues}
use Rattle.litemap.specs.Written.{Written}
use Rattle.litemap.proofs.map.write.write_each.Given as goal

abbrev pub invariant-loop-index : goal.invariant-loop-index
invariant-loop-index g l =
    let old = g.S.Store.pairs l.fn.store in
    let pairs = g.S.Store.pairs l.store in
    record {
      same_length : length pairs ≡ length old;
      room : g.S.Store.room l.store ≡ g.S.Store.room l.fn.store;
      callable : CallableOnValues g.F.FnMut l.f (drop l.index pairs);
      so_far : (M : List (g.row.K.Denot × g.row.V.Denot)) → Written g.F.FnMut l.f (drop l.index pairs) M
          → Written g.F.FnMut l.fn.f old (take l.index pairs ++ M);
    }
