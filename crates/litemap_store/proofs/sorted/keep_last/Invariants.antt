use Rattle.litemap_store.proofs.Names.{◌+◌, ◌<◌, length}
use Rattle.litemap_store.proofs.Last.KeepLast.{KeptLast}
use Rattle.litemap_store.proofs.sorted.keep_last.Given as goal

abbrev pub invariant-loop-i : goal.invariant-loop-i
invariant-loop-i g l = record {
  before : l.last < l.i;
  within : l.last < length l.fn.pairs;
  kept : KeptLast g.K.Ord.cmp l.fn.pairs l.pairs (l.last + 1) l.i;
}
