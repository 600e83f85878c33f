use Rattle.litemap.proofs.Common.{◌≡◌, ◌++◌, length, flat_map, fold}
use Rattle.litemap.proofs.map.comparisons.LiteMapHash.hash.Given as goal

abbrev pub invariant-loop-key : goal.invariant-loop-key
invariant-loop-key g l =
    let F = flat_map (λ (p : g.row.K.Denot × g.row.V.Denot). g.K.Hash.hash_input p.0 ++ g.V.Hash.hash_input p.1) in
    fold g.H.Hasher.write l.state (F l.rest) ≡ fold g.H.Hasher.write l.initial.state (F l.initial.rest)

abbrev pub decreases-loop-key : goal.decreases-loop-key
decreases-loop-key g l = length l.rest
