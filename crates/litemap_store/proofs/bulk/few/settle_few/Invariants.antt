use Rattle.litemap_store.proofs.Names.{◌*◌, ◌-◌, ◌≤◌, digits, RisesByAtMost, vec_len}
use Rattle.litemap_store.proofs.Last.KeepLast.{KeptLast}
use Rattle.litemap_store.proofs.bulk.few.settle_few.Given as goal

abbrev pub invariant-loop-at : goal.invariant-loop-at
invariant-loop-at g l = record {
  start : l.from ≤ l.at;
  before : l.kept ≤ l.at;
  kept : KeptLast g.K.Ord.cmp l.fn.store.items l.store.items l.kept l.at;
  cost : RisesByAtMost ((l.at - l.from) * digits (vec_len l.fn.store)) l.initial.count l.count;
}
