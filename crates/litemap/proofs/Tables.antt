-- Tables whose keys are borrowed strings, looked up by the bytes of these.
use Rattle.std.proofs.Common.{◌≡◌, ℕ, List, [], ◌∷◌, map, Bor, arith}
use Rattle.std.proofs.lemmas.Grind.{common_steps}
use Rattle.litemap_store.specs.Pairs.{value_at}
use Rattle.litemap_store.specs.Queries.{bytes_cmp}
use Rattle.litemap.specs.ByBytes.{by_bytes}

-- a lookup finds what one by the bytes of the keys finds
pub by_keys : {V : Type 0} (L : List (Bor (List ℕ) × V)) (q : Bor (List ℕ)) → value_at bytes_cmp (map (λ p. (p.0.now, p.1)) L) q.now ≡ value_at by_bytes L q
by_keys [] q = grind (arith, common_steps)
by_keys (p ∷ L) q = grind (arith, common_steps, by_keys L q)
