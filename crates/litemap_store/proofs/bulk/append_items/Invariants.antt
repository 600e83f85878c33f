use Rattle.litemap_store.proofs.Names.{◌++◌, ◌≡◌}
use Rattle.litemap_store.proofs.bulk.append_items.Given as goal

abbrev pub invariant-loop-item : goal.invariant-loop-item
invariant-loop-item g l = (l.items.items ≡ l.initial.items.items ++ l.yielded)
