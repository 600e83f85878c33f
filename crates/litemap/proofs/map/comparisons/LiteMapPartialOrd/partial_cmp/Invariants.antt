use Rattle.litemap.proofs.Common.{◌≡◌, length, slice_partial_cmp}
use Rattle.std.specs.Ordering.{partial_ordering_then}
use Rattle.litemap.proofs.map.comparisons.LiteMapPartialOrd.partial_cmp.Given as goal

abbrev pub invariant-loop-pair : goal.invariant-loop-pair
invariant-loop-pair g l =
    slice_partial_cmp (λ p q. partial_ordering_then (g.K.PartialOrd.partial_cmp p.0 q.0) (g.V.PartialOrd.partial_cmp p.1 q.1)) l.left l.right
    ≡ slice_partial_cmp (λ p q. partial_ordering_then (g.K.PartialOrd.partial_cmp p.0 q.0) (g.V.PartialOrd.partial_cmp p.1 q.1)) l.fn.self.entries
    l.fn.other.entries

abbrev pub decreases-loop-pair : goal.decreases-loop-pair
decreases-loop-pair g l = length l.left
