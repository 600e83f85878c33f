-- How two lists of pairs compare, and what of a list is hashed.
use Rattle.std.specs.Prelude.{Bool, List, Option, ◌&&◌, ◌++◌}
use Rattle.std.specs.Cmp.Lexicographic.{pointwise, slice_cmp as lexicographic, slice_partial_cmp as partial_lexicographic}
use Rattle.std.specs.Hash.{HashWrites, slice as in_turn}
use Rattle.std.specs.Ordering.{ordering_then, partial_ordering_then}
use Rattle.std.specs.declared.cmp.Ordering.{Ordering}

module _ {K V : Type 0} where
  -- of one length, with equal keys and equal values at each index
  abbrev pub equal_pairs : (K → K → Bool) → (V → V → Bool) → List (K × V) → List (K × V) → Bool
  equal_pairs same_key same_value = pointwise (λ p q. same_key p.0 q.0 && same_value p.1 q.1)

  -- by the first index at which they differ, keys before values; a list is less than a longer one that starts with it
  abbrev pub pairs_cmp : (K → K → Ordering) → (V → V → Ordering) → List (K × V) → List (K × V) → Ordering
  pairs_cmp by_key by_value = lexicographic (λ p q. ordering_then (by_key p.0 q.0) (by_value p.1 q.1))

  -- the same by partial orders: undecided if the first pairs that differ are
  abbrev pub pairs_partial_cmp : (K → K → Option Ordering) → (V → V → Option Ordering) → List (K × V) → List (K × V)
      → Option Ordering
  pairs_partial_cmp by_key by_value =
      partial_lexicographic (λ p q. partial_ordering_then (by_key p.0 q.0) (by_value p.1 q.1))

  -- the length, then each key and its value in turn
  abbrev pub pairs_hashed : (K → HashWrites) → (V → HashWrites) → List (K × V) → HashWrites
  pairs_hashed of_key of_value = in_turn (λ p. of_key p.0 ++ of_value p.1)
