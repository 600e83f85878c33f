use Rattle.std.proofs.Common.{◌-◌}
use Rattle.name_index.specs.{order_by}
use Rattle.name_index.proofs.Halving.{Halved}
use Rattle.name_index.proofs.names.search.Given as goal

abbrev pub invariant-loop-low : goal.invariant-loop-low
invariant-loop-low g l = Halved (g.N.Entries.pairs l.names) (λ name. order_by l.past name l.text) l.low l.high l.fn.count l.count

abbrev pub decreases-loop-low : goal.decreases-loop-low
decreases-loop-low g l = l.high - l.low
