-- The pair next to a query, on one side of it.
use Rattle.std.specs.Prelude.{◌≡◌, ◌≢◌, List, Option, Some, IfSome, IsSome}
use Rattle.std.specs.declared.cmp.Ordering.{Ordering}
use Rattle.litemap_store.specs.Pairs.{at, value_at}

-- found is the pair of L that is nearest to q among those whose keys are not `past` it (`Greater`: above, `Less`: below), if
-- there is one
pub record Nearest {K Q V : Type 0} (cmp : K → K → Ordering) (order : K → Q → Ordering) (past : Ordering) (L : List (K × V)) (q : Q)
    (found : Option (K × V)) : Type 0 where
  pub there : IfSome found (λ p. at cmp L p.0 ≡ Some p)
  pub side : IfSome found (λ p. order p.0 q ≢ past)
  -- no key that is found in L lies between
  pub next : (k : K) → IsSome (value_at cmp L k) → order k q ≢ past → (p : K × V) × (found ≡ Some p) × (cmp k p.0 ≢ past)
