-- The names of other libraries that many proofs cite, passed on from one place. Declares nothing.
pub use Rattle.std.proofs.Common.{Bool, Bor, Equal, Err, Greater, IfOk, IsNone, IsOk, IsSome, Less, List, MutBor, None, Ok, OnErr, OnOk, Option, Ordering}
pub use Rattle.std.proofs.Common.{Result, Some, String, T, Vec, [], add-one, ap, append-nil, append_assoc, arith, cond, drop, drop-set-lt, false, filter}
pub use Rattle.std.proofs.Common.{flat_map, fold, inl, inr, int_cmp, is_eq, is_gt, is_le, is_lt, is_some, le-leb, length, length-append, length-drop}
pub use Rattle.std.proofs.Common.{length-take, map, nat_cmp, nat_le, not, option_map, refl, remove, reverse, rules, slice_get, slice_range, slice_set}
pub use Rattle.std.proofs.Common.{string_bytes, string_cmp, subst, suc, sym, take, take_all, true, true≢false, unwrap_or, zero, ℕ, ℤ, ⊎_elim, ◌&&◌, ◌*◌, ◌++◌}
pub use Rattle.std.proofs.Common.{◌+◌, ◌-◌, ◌<◌, ◌∙◌, ◌∷◌, ◌≡◌, ◌≢◌, ◌≤◌}
pub use Rattle.std.proofs.lemmas.Cmp.{alike_right, int_cmp_total, nat_cmp_total}
pub use Rattle.std.proofs.lemmas.List.{drop_all, take_more, take_more_set}
pub use Rattle.std.proofs.lemmas.Option.{get_or_from_slice_get, slice_get_read, slice_get_within}
pub use Rattle.std.proofs.lemmas.Result.{on_ok_weaker}
pub use Rattle.std.specs.Cmp.{IsTotalOrder, then_agrees, tied_itself}
pub use Rattle.std.specs.Cmp.Lexicographic.{lists_agrees, nat_list_cmp_total, on_texts, pointwise, slice_cmp, slice_partial_cmp}
pub use Rattle.std.specs.Fn.{FnOnceReturnsAt, FnOnceTakesAt, Once, Shared}
pub use Rattle.std.specs.List.{AllAdjacentBelow, AllByRecursion, items_where_true, list_all}
pub use Rattle.std.specs.Map.{keys_of}
pub use Rattle.std.specs.Map.Iter.{TakesFirst, deref_pair}
pub use Rattle.std.specs.Option.{option_map_or, option_or}
pub use Rattle.litemap_store.proofs.Callers.Lookups.{at-filter_kept, at-put, value_at-between_apart, value_at-cut}
pub use Rattle.litemap_store.proofs.Callers.Lookups.{value_at-cut_apart, value_at-cut_other, value_at-put, value_at-put_other, value_at-set, value_at-write}
pub use Rattle.litemap_store.proofs.Callers.Lookups.{value_at-write_apart, value_at-written_apart, value_in-set}
pub use Rattle.litemap_store.proofs.Callers.MergeLookups.{at-rising, at-same, key_alike, key_same, value_at-left, value_at-merged}
pub use Rattle.litemap_store.proofs.Lists.Parts.{Less-from_Rising, Less-from_is_lt, Rising-sub}
pub use Rattle.litemap_store.proofs.Lists.Places.{drop_at, slice_get-None}
pub use Rattle.litemap_store.proofs.Lists.Seams.{found_get, found_remove, found_set_value, found_there, found_value, found_within, found_write}
pub use Rattle.litemap_store.proofs.Lists.Seams.{length-set_value, missing_insert, put_get, put_value, set_value-suc}
pub use Rattle.litemap_store.proofs.Search.Splitting.{Ascends-by_query, Rising-filter, Rising-put, Rising-remove, Rising-set_value, Splits-from_Finds}
pub use Rattle.litemap_store.proofs.Search.Splitting.{above_all, at_in, at_past, each-weaker, equal_from_is_eq, greater_back, greater_from_is_gt, key_or_equal}
pub use Rattle.litemap_store.proofs.Search.Splitting.{less_back, less_from_is_lt}
pub use Rattle.litemap_store.proofs.Stores.Counting.{in_turn}
pub use Rattle.litemap_store.proofs.Stores.Retaining.{Rising-from_Kept}
pub use Rattle.litemap_store.specs.Contents.{Contents, with_pairs}
pub use Rattle.litemap_store.specs.Counts.{GoesOn, RisesByAtMost, digits, digits-mono}
pub use Rattle.litemap_store.specs.Merge.{Merge, left}
pub use Rattle.litemap_store.specs.Pairs.{BelowAll, Rising, above, at, below, cut, index_of, key_or, place, put, set_value, sub, value_at, value_in, write}
pub use denote.Param.Members.{Called, Mut}
