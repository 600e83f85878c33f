use Rattle.std.proofs.Common.{◌≡◌, ◌+◌, sum}
use Rattle.std.specs.Map.{values_of}
use Rattle.example_uses.proofs.stores.total.Given as goal

abbrev pub invariant-loop-key : goal.invariant-loop-key
invariant-loop-key g l =
    (goal.iterator-loop-key g).can_next l._key-iterator ×
    (goal.iterator-loop-key g).is_finite l._key-iterator ×
    (l.total + sum (values_of (g.S.KeyValueIter.PairIter.rest l._key-iterator)) ≡ sum (values_of l.fn.map.entries))
