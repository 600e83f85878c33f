use Rattle.std.proofs.Common.{◌≡◌, List, [], map, Ok}
use Rattle.litemap_store.specs.Laws.{Sifted}
use Rattle.litemap_read.proofs.read.read_results.Given as goal

-- what the iterator gave so far are pairs, which were sifted into the map and the pairs put aside
abbrev pub invariant-loop-item : goal.invariant-loop-item
invariant-loop-item g l =
    (seen : List (g.row.K.Denot × g.row.V.Denot)) × (l.yielded ≡ map (λ p. Ok p) seen)
    × Sifted g.K.Ord.cmp g.row.V.Denot [] [] seen l.map.entries l.aside.items
