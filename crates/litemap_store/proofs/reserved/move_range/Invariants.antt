use Rattle.std.proofs.Common.{◌≡◌, ◌+◌, ◌≤◌, ◌++◌, drop, slice_range, take, vec_capacity, vec_len}
use Rattle.std.specs.Vec.Iter.{drain_items, drain_kept, drain_len}
use Rattle.litemap_store.proofs.reserved.move_range.Given as goal

abbrev pub invariant-loop-item : goal.invariant-loop-item
invariant-loop-item g l =
    (goal.iterator-loop-item g).can_next l.item-iterator × (goal.iterator-loop-item g).is_finite l.item-iterator
    × (l.taken.items ++ drain_items l.item-iterator ≡ l.fn.taken.items ++ slice_range l.fn.items.items l.fn.range.start l.fn.range.end)
    × (vec_len l.taken + drain_len l.item-iterator ≤ vec_capacity l.taken)
    × (drain_kept l.item-iterator ≡ take l.fn.range.start l.fn.items.items ++ drop l.fn.range.end l.fn.items.items)
