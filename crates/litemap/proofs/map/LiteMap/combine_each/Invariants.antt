use Rattle.litemap.proofs.Common.{◌≡◌, ◌*◌, List, ◌++◌, length, take, drop, RisesByAtMost, digits}
use Rattle.litemap.specs.Combined.{CallableOnEachOf, Combined}
use Rattle.litemap.proofs.map.LiteMap.combine_each.Given as goal

abbrev pub invariant-loop-index : goal.invariant-loop-index
invariant-loop-index g l =
    let old = g.S.Store.pairs l.fn.store in
    let pairs = g.S.Store.pairs l.store in
    let here = l.fn.self.entries in
    record {
      same_length : length pairs ≡ length old;
      room : g.S.Store.room l.store ≡ g.S.Store.room l.fn.store;
      callable : CallableOnEachOf g.F.Fn l.fn.f g.K.Ord.cmp here (drop l.index pairs);
      so_far : (M : List (g.row.K.Denot × g.row.V.Denot)) → Combined g.F.Fn l.fn.f g.K.Ord.cmp here (drop l.index pairs) M
          → Combined g.F.Fn l.fn.f g.K.Ord.cmp here old (take l.index pairs ++ M);
      cost : RisesByAtMost (l.index * digits (length here)) l.fn.count l.count;
    }
