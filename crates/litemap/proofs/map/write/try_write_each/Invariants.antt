use Rattle.litemap.proofs.Common.{◌≡◌, List, ◌++◌, Result, length, take, drop}
use Rattle.litemap.specs.KeptWritten.{CallableOnValues}
use Rattle.litemap.specs.TryWritten.{WrittenUntil}
use Rattle.litemap.proofs.map.write.try_write_each.Given as goal

abbrev pub invariant-loop-index : goal.invariant-loop-index
invariant-loop-index g l =
    let old = g.S.Store.pairs l.fn.store in
    let pairs = g.S.Store.pairs l.store in
    record {
      callable : CallableOnValues g.F.FnMut l.f (drop l.index pairs);
      same_length : length pairs ≡ length old;
      room : g.S.Store.room l.store ≡ g.S.Store.room l.fn.store;
      so_far : (r : Result (Unit {0}) g.row.E.Denot) (M : List (g.row.K.Denot × g.row.V.Denot)) → WrittenUntil g.F.FnMut l.f (drop l.index pairs) M r
          → WrittenUntil g.F.FnMut l.fn.f old (take l.index pairs ++ M) r;
    }
