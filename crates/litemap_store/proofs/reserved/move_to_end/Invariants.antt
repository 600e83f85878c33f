use Rattle.litemap_store.proofs.Names.{◌-◌, ◌<◌, ◌≡◌, insert, length, List}
use Rattle.litemap_store.proofs.reserved.move_to_end.Given as goal

abbrev pub invariant-loop-at : goal.invariant-loop-at
invariant-loop-at g l = record {
  moved : (R : List _) (x : _) → l.fn.items ≡ insert R l.fn.index x → l.items ≡ insert R l.at x;
  len : length l.items ≡ length l.fn.items;
  within : l.at < length l.fn.items;
}

abbrev pub decreases-loop-at : goal.decreases-loop-at
decreases-loop-at g l = length l.fn.items - l.at
