use Rattle.std.proofs.Common.{◌≡◌, vec_len}
use Rattle.std.specs.List.{zip}
use Rattle.litemap_columns.proofs.column_store.ColumnStoreStoreFromIterator.lm_from_pairs.Given as goal

abbrev pub invariant-loop-key : goal.invariant-loop-key
invariant-loop-key g l = record {
  list : zip l.keys.items l.values.items ≡ l.yielded;
  same_length : vec_len l.keys ≡ vec_len l.values;
}
