use Rattle.litemap.proofs.Common.{◌≡◌, List, Option, Some, Ordering, then_agrees, lists_agrees}
use Rattle.litemap.specs.Comparisons.{pairs_cmp, pairs_partial_cmp}
use Rattle.litemap.proofs.map.comparisons.LiteMapOrd.cmp.Goals as goal

decided : {K V : Type 0} (k : K → K → Option Ordering) (v : V → V → Option Ordering) (l : K → K → Ordering) (w : V → V → Ordering) (L M : List (K × V))
    → ((x y : K) → k x y ≡ Some (l x y)) → ((x y : V) → v x y ≡ Some (w x y)) → pairs_partial_cmp k v L M ≡ Some (pairs_cmp l w L M)
decided k v l w L M of_keys of_values = lists_agrees (then_agrees (λ p q. of_keys p.0 q.0) (λ p q. of_values p.1 q.1)) L M

pub unwrap-requires : goal.unwrap-requires
unwrap-requires g c =
    rw (
      c.partial_cmp.ensures,
      decided g.K.PartialOrd.partial_cmp g.V.PartialOrd.partial_cmp g.K.Ord.cmp g.V.Ord.cmp c.args.self.now.entries c.args.other.now.entries
          g.met.K.Ord.matches_partial_cmp g.met.V.Ord.matches_partial_cmp,
    )

pub returns : goal.returns
returns g c =
    cc (
      decided g.K.PartialOrd.partial_cmp g.V.PartialOrd.partial_cmp g.K.Ord.cmp g.V.Ord.cmp c.args.self.now.entries c.args.other.now.entries
          g.met.K.Ord.matches_partial_cmp g.met.V.Ord.matches_partial_cmp,
      c.partial_cmp.ensures,
      c.unwrap.ensures,
    )
