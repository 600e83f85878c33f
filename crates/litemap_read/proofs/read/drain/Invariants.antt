use Rattle.std.proofs.Common.{◌≡◌, ◌+◌, List, ◌++◌, ◌↔◌, vec_len}
use Rattle.litemap_read.proofs.read.drain.Given as goal

-- the vector has what the source gave so far; it allows what it allowed
abbrev pub invariant-loop-pair : goal.invariant-loop-pair
invariant-loop-pair g l = record {
  seen : (rest : List (g.row.K.Denot × g.row.V.Denot)) → g.P.PairSource.gives l.source rest → g.P.PairSource.gives l.fn.source (l.pairs.items ++ rest);
  left : vec_len l.pairs + g.P.PairSource.left l.source ≡ g.P.PairSource.left l.fn.source;
  errors : (e : _) → g.P.PairSource.allows l.source e ↔ g.P.PairSource.allows l.fn.source e;
  end : g.P.PairSource.ends l.source ↔ g.P.PairSource.ends l.fn.source;
  led : g.P.PairSource.leads l.fn.source l.source;
}

abbrev pub decreases-loop-pair : goal.decreases-loop-pair
decreases-loop-pair g l = g.P.PairSource.left l.source
