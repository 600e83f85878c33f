-- The words of `Words` for a map in the place of a hash map or an index map: what takes an order there takes an equality of the
-- keys here, such as `nat_eq`, or `K.eq`. The list of pairs is in key order all the same. `proofs/Hashed` has the lemmas.
pub use Rattle.litemap.specs.Words.{ℕ, List, [], Option, None, Some, Ok, Err, IsSome, IsNone, IsOk, IsErr, IsTrue, IsFalse}
pub use Rattle.litemap.specs.Words.{IfSome, IfNone, IfOk, IfErr, OnSome, OnOk, OnErr, MatchOption, MatchResult}
pub use Rattle.litemap.specs.Words.{All, length, map, filter, reverse, slice_get, sum, codes, count_by, string_bytes}
pub use Rattle.litemap.specs.Words.{is_some, option_map, unwrap_or, option_copied, option_or, keys_of, values_of, deref_pair}
pub use Rattle.litemap.specs.Words.{keys, values, hash_map_len, index_map_len, spare, get_by_text, IsUnchanged, IsEmpty}
pub use Rattle.std.specs.Prelude.{nat_eq}
pub use Rattle.std.specs.Ordering.{int_eq}
use Rattle.std.specs.Prelude.{Bool}
use Rattle.std.specs.Map.{lookup, lookup_key}
use Rattle.litemap_store.specs.Contents.{Contents}

module _ {K V : Type 0} (eq : K → K → Bool) where
  -- the map as a function: the value at the key k
  abbrev pub get : Contents K V → K → Option V
  get m k = lookup (eq k) m.entries

  -- the key of the map that is equal to k
  abbrev pub get_key : Contents K V → K → Option K
  get_key m k = lookup_key (eq k) m.entries

  -- whether the map has the key k
  abbrev pub contains : Contents K V → K → Bool
  contains m k = is_some (get m k)

  -- the map has the key k
  abbrev pub ContainsKey : Contents K V → K → Type 0
  ContainsKey m k = IsSome (get m k)
