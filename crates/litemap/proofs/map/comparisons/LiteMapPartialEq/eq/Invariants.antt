use Rattle.litemap.proofs.Common.{◌≡◌, ◌&&◌, drop, pointwise}
use Rattle.litemap.proofs.map.comparisons.LiteMapPartialEq.eq.Given as goal

abbrev pub invariant-loop-index : goal.invariant-loop-index
invariant-loop-index g l =
    pointwise (λ p q. g.K.PartialEq.eq p.0 q.0 && g.V.PartialEq.eq p.1 q.1) (drop l.index l.fn.self.entries) (drop l.index l.fn.other.entries)
    ≡ pointwise (λ p q. g.K.PartialEq.eq p.0 q.0 && g.V.PartialEq.eq p.1 q.1) l.fn.self.entries l.fn.other.entries
