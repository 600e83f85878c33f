use Rattle.litemap.proofs.Common.{◌≤◌, length}
use Rattle.litemap_store.specs.Retain.{CallableOnEach}
use Rattle.litemap.proofs.Parting.{SoFar}
use Rattle.litemap.proofs.map.take.part.Given as goal

abbrev pub invariant-loop-key : goal.invariant-loop-key
invariant-loop-key g l =
    let left = g.S.KeyValueIntoIter.PairIntoIter.owned l.key-iterator in
    record {
      can : (goal.iterator-loop-key g).can_next l.key-iterator;
      ends : (goal.iterator-loop-key g).is_finite l.key-iterator;
      callable : CallableOnEach g.F.FnMut l.f left;
      stays : length left ≤ g.S.Store.room l.stays;
      goes : length left ≤ g.S.Store.room l.goes;
      so_far : SoFar g.F.FnMut l.fn.f (g.S.Store.pairs l.fn.all) l.f left (g.S.Store.pairs l.stays) (g.S.Store.pairs l.goes);
    }
