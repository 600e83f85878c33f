-- Most of what a caller says of a map, for one import beside that of the operators. The words that are passed on are of a map's
-- list of pairs, `m.entries`; those below are of the map `m` itself, under the names that std has for its `BTreeMap`.
pub use Rattle.std.specs.Prelude.{ℕ, List, [], Option, None, Some, Ok, Err, IsSome, IsNone, IsOk, IsErr, IsTrue}
pub use Rattle.std.specs.Prelude.{IfSome, IfNone, IfOk, IfErr, OnSome, OnOk, OnErr, MatchOption, MatchResult}
pub use Rattle.std.specs.Prelude.{All, length, map, filter, reverse, slice_get, sum, codes, count_by, string_bytes}
pub use Rattle.std.specs.Prelude.{is_some, min, option_map, unwrap_or}
pub use Rattle.std.specs.Bool.{IsFalse}
pub use Rattle.std.specs.Option.{option_copied, option_or}
pub use Rattle.std.specs.Map.{keys_of, values_of}
pub use Rattle.std.specs.Map.Iter.{deref_pair}
pub use Rattle.std.specs.Ordering.{nat_cmp, int_cmp, is_eq}
pub use Rattle.std.specs.String.{string_cmp}
pub use Rattle.std.specs.declared.cmp.Ordering.TheVariants.{Less, Equal, Greater}
pub use Rattle.std.specs.declared.ops.Bound.TheVariants.{Included, Excluded, Unbounded}
pub use Rattle.litemap_store.specs.Pairs.{AllBelow, BelowAll, Rising, at, cut, index_of, place, put, value_at, value_in, write}
pub use Rattle.litemap_store.specs.Queries.{by_slice, by_string, bytes_cmp}
pub use Rattle.litemap_store.specs.Last.{Last}
pub use Rattle.litemap_store.specs.Merge.{Merge, left}
pub use Rattle.litemap_store.specs.Clones.{PairsBecame}
pub use Rattle.litemap_store.specs.Contents.{Contents}
pub use Rattle.litemap.specs.ByBytes.{by_bytes}
pub use Rattle.litemap.specs.Combined.{found_with}
pub use Rattle.litemap.specs.Within.{before, within}
use Rattle.std.specs.Prelude.{◌≡◌, ◌+ℤ◌, ℤ, pos}
use Rattle.std.specs.List.{fold}
use Rattle.std.specs.declared.cmp.Ordering.{Ordering}
use Rattle.std.specs.declared.string.String.{String}

module _ {K V : Type 0} where
  -- the keys, in order
  abbrev pub keys : Contents K V → List K
  keys m = keys_of m.entries

  -- the values, in the keys' order
  abbrev pub values : Contents K V → List V
  values m = values_of m.entries

  -- how many pairs
  abbrev pub btree_map_len : Contents K V → ℕ
  btree_map_len m = length m.entries

  -- the same, of what was a hash map or an index map
  abbrev pub hash_map_len : Contents K V → ℕ
  hash_map_len m = length m.entries

  abbrev pub index_map_len : Contents K V → ℕ
  index_map_len m = length m.entries

  -- how many further pairs it takes without failing
  abbrev pub spare : Contents K V → ℕ
  spare m = m.room

  -- n has the pairs of m
  abbrev pub IsUnchanged : Contents K V → Contents K V → Type 0
  IsUnchanged m n = n.entries ≡ m.entries

  -- no pairs
  abbrev pub IsEmpty : Contents K V → Type 0
  IsEmpty m = m.entries ≡ []

-- the sum of signed numbers; `sum` is that of unsigned ones
abbrev pub int_sum : List ℤ → ℤ
int_sum numbers = fold ◌+ℤ◌ (pos 0) numbers

-- the keys ascend, which holds of every map
abbrev pub IsOrdered : {K V : Type 0} → (K → K → Ordering) → Contents K V → Type 0
IsOrdered cmp m = Rising cmp m.entries

-- ---- `order` is how the keys compare with a query: with a key `cmp`, as in std
module _ {K Q V : Type 0} (order : K → Q → Ordering) where
  -- the map as a function: the value that the query finds
  abbrev pub get : Contents K V → Q → Option V
  get m q = value_at order m.entries q

  -- the key that the query finds
  abbrev pub get_key : Contents K V → Q → Option K
  get_key m q = option_map (λ p. p.0) (at order m.entries q)

  -- the query finds a key
  abbrev pub ContainsKey : Contents K V → Q → Type 0
  ContainsKey m q = IsSome (get m q)

  -- P holds of each query that finds a value, and of that value
  abbrev pub Each : (Q → V → Type 0) → Contents K V → Type 0
  Each P m = (q : Q) → IfSome (get m q) (P q)

-- the value at the `String` key with these bytes
abbrev pub get_by_text : {V Z : Type 0} → Contents (String Z) V → List ℕ → Option V
get_by_text m bytes = get by_string m bytes
