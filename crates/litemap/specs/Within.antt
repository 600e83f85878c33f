-- The pairs whose keys are within two bounds, and those before the first. `order k q` is how the key k compares with the query
-- of a bound.
use Rattle.std.specs.Prelude.{◌≡◌, ℕ, zero, suc, ◌+◌, ◌-◌, ◌≤◌, List, [], ◌∷◌, length, slice_get, Some, None, IfSome, All, Bool, true, false}
use Rattle.std.specs.Prelude.{nat_lt, not, ◌&&◌, filter, ⊤}
use Rattle.std.specs.List.{AllByRecursion}
use Rattle.std.specs.Ordering.{is_gt, is_le, is_lt}
use Rattle.std.specs.declared.cmp.Ordering.{Ordering}
use Rattle.std.specs.declared.cmp.Ordering.TheVariants.{Less, Greater}
use Rattle.std.specs.declared.ops.Bound.{Bound}
use Rattle.std.specs.declared.ops.Bound.TheVariants.{Included, Excluded, Unbounded}
use Rattle.std.specs.declared.ops.Range.{Range}
use Rattle.litemap_store.specs.Pairs.{place, sub, value_at}

module _ {K Q : Type 0} (order : K → Q → Ordering) where
  -- the key is before a lower bound
  abbrev pub is_before : Bound Q → K → Bool
  is_before (Included q) k = is_lt (order k q)
  is_before (Excluded q) k = is_le (order k q)
  is_before Unbounded k = false

  -- the key is not past an upper bound
  abbrev pub is_up_to : Bound Q → K → Bool
  is_up_to (Included q) k = is_le (order k q)
  is_up_to (Excluded q) k = is_lt (order k q)
  is_up_to Unbounded k = true

  -- the same as facts: the key is not before a lower bound
  abbrev pub IsFrom : Bound Q → K → Type 0
  IsFrom (Included q) k = is_lt (order k q) ≡ false
  IsFrom (Excluded q) k = order k q ≡ Greater
  IsFrom Unbounded k = ⊤

  -- the key is not past an upper bound
  abbrev pub IsUpTo : Bound Q → K → Type 0
  IsUpTo (Included q) k = is_gt (order k q) ≡ false
  IsUpTo (Excluded q) k = order k q ≡ Less
  IsUpTo Unbounded k = ⊤

  -- the key is within both bounds
  abbrev pub IsBetween : Bound Q → Bound Q → K → Type 0
  IsBetween from to k = IsFrom from k × IsUpTo to k

module _ {K Q V : Type 0} (order : K → Q → Ordering) where
  -- the pairs whose keys are before a lower bound, in order
  abbrev pub before : List (K × V) → Bound Q → List (K × V)
  before L from = filter (λ p. is_before order from p.0) L

  -- the pairs whose keys are within both bounds, in order
  abbrev pub within : List (K × V) → Bound Q → Bound Q → List (K × V)
  within L from to = filter (λ p. not (is_before order from p.0) && is_up_to order to p.0) L

  -- the pairs within both bounds are at the indices from `start` to before `end`, after all that are before the lower one
  pub record IsIndexRange (L : List (K × V)) (from to : Bound Q) (range : Range ℕ) : Type 0 where
    pub pairs : sub L range.start range.end ≡ Some (within L from to)
    pub start : range.start ≡ length (before L from)
    pub len : range.end ≡ range.start + length (within L from to)
    pub inside : range.end ≤ length L

-- the keys of M are within two bounds, the first and the last one too
pub record AreBetween {K Q V : Type 0} (order : K → Q → Ordering) (from to : Bound Q) (M : List (K × V)) : Type 0 where
  pub each : All (λ p. IsBetween order from to p.0) M
  pub first : IfSome (slice_get M 0) (λ p. IsBetween order from to p.0)
  pub last : IfSome (slice_get M (length M - 1)) (λ p. IsBetween order from to p.0)

-- a key within two bounds finds in M what it finds in L, and each other one nothing
pub record FindsBetween {K Q V : Type 0} (cmp : K → K → Ordering) (order : K → Q → Ordering) (from to : Bound Q) (L M : List (K × V)) : Type 0 where
  pub stays : (k : K) → IsBetween order from to k → value_at cmp M k ≡ value_at cmp L k
  pub gone : (k : K) → (IsBetween order from to k → ⊥) → value_at cmp M k ≡ None

-- the key's index in the list, or the one where it would be inserted, is from a to b - 1
abbrev pub stands_within : {K V : Type 0} → (K → K → Ordering) → List (K × V) → ℕ → ℕ → K → Bool
stands_within cmp L a b k = not (nat_lt (place cmp L k) a) && nat_lt (place cmp L k) b

-- the test is true of the first n elements, and of no other
abbrev pub IsCut : {X : Type 0} → (X → Bool) → List X → ℕ → Type 0
IsCut test [] n = n ≡ 0
IsCut test (x ∷ L) zero = AllByRecursion (λ y. test y ≡ false) (x ∷ L)
IsCut test (x ∷ L) (suc n) = (test x ≡ true) × IsCut test L n
