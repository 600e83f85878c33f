use Rattle.litemap_store.proofs.Names.{◌+◌, ◌≡◌, length}
use Rattle.std.specs.Map.{keys_of}
use Rattle.litemap_set.specs.Walks.{walk}
use Rattle.litemap_set.proofs.CombinationIterator.next.Given as goal

abbrev pub invariant-loop-x : goal.invariant-loop-x
invariant-loop-x g l =
    walk g.K.Ord.cmp l.initial.self-inside.yields (keys_of l.initial.self-inside.one.now) (keys_of l.initial.self-inside.other.now)
    ≡ walk g.K.Ord.cmp l.self-inside.yields (keys_of l.self-inside.one.now) (keys_of l.self-inside.other.now)

abbrev pub decreases-loop-x : goal.decreases-loop-x
decreases-loop-x g l = length l.self-inside.one.now + length l.self-inside.other.now
