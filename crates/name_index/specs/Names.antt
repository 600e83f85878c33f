-- Names whose keys ascend, and which of them begin with a string. A string is the list of its bytes.
use Rattle.std.specs.Prelude.{◌≡◌, ◌==◌, ℕ, Bool, List, Some, filter, length, slice_get}
use Rattle.std.specs.Cmp.Lexicographic.{slice_cmp}
use Rattle.std.specs.List.{starts_with}
use Rattle.std.specs.Ordering.{nat_cmp}
use Rattle.std.specs.declared.cmp.Ordering.{Ordering}
use Rattle.litemap_store.specs.Pairs.{Rising, place, sub}

-- the order of strings: by their bytes, where a proper prefix is less
abbrev pub text_order : List ℕ → List ℕ → Ordering
text_order a b = slice_cmp nat_cmp a b

-- so many entries are there, at each index the one of the pairs, and their keys ascend
pub record AreNames (At : ℕ → List ℕ × List ℕ → Type 0) (len : ℕ) (pairs : List (List ℕ × List ℕ)) : Type 0 where
  pub number : length pairs ≡ len
  pub each : (i : ℕ) (pair : List ℕ × List ℕ) → slice_get pairs i ≡ Some pair → At i pair
  pub rises : Rising text_order pairs

-- the key of the pair at an index
abbrev pub IsKeyAt : List (List ℕ × List ℕ) → ℕ → List ℕ → Type 0
IsKeyAt pairs index key = (value : List ℕ) × (slice_get pairs index ≡ Some (key, value))

-- the name begins with the string
abbrev pub begins : List ℕ → List ℕ → Bool
begins name text = starts_with (λ a b. a == b) name text

-- the range of the names that begin with the string, after all names that are below it
pub record IsPrefixRange (text : List ℕ) (start end : ℕ) (pairs : List (List ℕ × List ℕ)) : Type 0 where
  pub start_is : start ≡ place text_order pairs text
  pub names : sub pairs start end ≡ Some (filter (λ p. begins p.0 text) pairs)
