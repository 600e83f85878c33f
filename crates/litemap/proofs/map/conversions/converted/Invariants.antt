use Rattle.litemap.proofs.Common.{◌+◌, ◌≤◌, length, take}
use Rattle.litemap_store.specs.Clones.{PairsBecame}
use Rattle.litemap.proofs.map.conversions.converted.Given as goal

abbrev pub invariant-loop-index : goal.invariant-loop-index
invariant-loop-index g l = let pairs = l.fn.map.entries in record {
  became : PairsBecame (g.X.Becomes.became l.fn.keys) (g.Y.Becomes.became l.fn.values) (take l.index pairs) (g.B.Store.pairs l.made);
  room : length pairs ≤ l.index + g.B.Store.room l.made;
}
