use Rattle.std.proofs.Common.{◌≡◌, ◌+◌, List, [], ◌++◌, ◌↔◌, length}
use Rattle.litemap_store.specs.Laws.{Sifted}
use Rattle.litemap_read.proofs.read.read_pairs.Given as goal

-- what the source gave so far was sifted into the map and the pairs put aside; it allows what it allowed
abbrev pub invariant-loop-key : goal.invariant-loop-key
invariant-loop-key g l = record {
  seen : (seen : List (g.row.K.Denot × g.row.V.Denot))
      × ((rest : List (g.row.K.Denot × g.row.V.Denot)) → g.P.PairSource.gives l.source rest → g.P.PairSource.gives l.fn.source (seen ++ rest))
      × Sifted g.K.Ord.cmp g.row.V.Denot [] [] seen l.map.entries l.aside.items
      × (length seen + g.P.PairSource.left l.source ≡ g.P.PairSource.left l.fn.source);
  errors : (e : _) → g.P.PairSource.allows l.source e ↔ g.P.PairSource.allows l.fn.source e;
  end : g.P.PairSource.ends l.source ↔ g.P.PairSource.ends l.fn.source;
  led : g.P.PairSource.leads l.fn.source l.source;
}

abbrev pub decreases-loop-key : goal.decreases-loop-key
decreases-loop-key g l = g.P.PairSource.left l.source
