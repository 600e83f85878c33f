use Rattle.std.proofs.Common.{◌≡◌, ◌+◌, ◌≤◌, length, vec_capacity, vec_len}
use Rattle.std.specs.List.{zip}
use Rattle.std.specs.Vec.Iter.{into_iter_items}
use Rattle.litemap_columns.proofs.column_store.ColumnStoreStoreFromIterable.lm_sort_from_iter.Given as goal

abbrev pub invariant-loop-key : goal.invariant-loop-key
invariant-loop-key g l = record {
  list : zip l.keys.items l.values.items ≡ l.yielded;
  same_length : vec_len l.keys ≡ vec_len l.values;
  keys_fit : vec_len l.keys + length (into_iter_items l.key-iterator) ≤ vec_capacity l.keys;
  values_fit : vec_len l.values + length (into_iter_items l.key-iterator) ≤ vec_capacity l.values;
}
