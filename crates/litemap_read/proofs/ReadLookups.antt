-- What is read from a source that gives one list: lemmas for the proofs of callers.
--       Last-read      its last pairs;  value_at-read      a key finds its last value
-- If `Gives` is an equation, `only` is shown by `λ L h. h`.
use Rattle.std.proofs.Common.{◌≡◌, List, [], ap, option_map, reverse, subst}
use Rattle.std.specs.Cmp.{IsTotalOrder}
use Rattle.std.specs.declared.cmp.Ordering.{Ordering}
use Rattle.litemap_store.specs.Last.{Last}
use Rattle.litemap_store.specs.Pairs.{value_at}
use Rattle.litemap_store.proofs.Callers.LastLookups.{at-Last}
use Rattle.litemap_store.specs.Bulk.{IsGathered}

module _ {K V : Type 0} {cmp : K → K → Ordering} (Gives : List (K × V) → Type 0) (J M : List (K × V))
    (only : (L : List (K × V)) → Gives L → L ≡ J) (r : IsGathered cmp Gives [] M) where
  pub Last-read : Last cmp J M
  Last-read = subst (λ L. Last cmp L M) (only r.given r.gives) r.last

  pub value_at-read : IsTotalOrder cmp → (k : K) → value_at cmp M k ≡ value_at cmp (reverse J) k
  value_at-read o k = ap (option_map (λ p. p.1)) (at-Last o J M Last-read k)
