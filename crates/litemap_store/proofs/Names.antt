-- The names that the proofs cite most, passed on from one place. Declares nothing.
pub use Rattle.std.proofs.Common.{[], ℕ, ◌&&◌, ◌*◌, ◌++◌, ◌+◌, ◌-◌, ◌/◌, ◌<◌, ◌==◌, ◌^◌, ◌↔◌, ◌∙◌, ◌∷◌, ◌≡◌, ◌≢◌, ◌≤◌, ◌⊎◌, All, AllPairs, Any, ap, append-nil}
pub use Rattle.std.proofs.Common.{append_assoc, arith, Bool, Bor, cond, drop, drop-drop, drop-set-lt, eqb-true, Equal, Err, false, filter, get_or, get_or-drop}
pub use Rattle.std.proofs.Common.{get_or-take, Greater, IfErr, IfOk, IfSome, inl, inr, insert, is_eq, is_gt, is_lt, is_some, IsOk, IsSome, IsSortedByKey}
pub use Rattle.std.proofs.Common.{IsTrue, length, length-append, length-drop, length-set, length-take, length-take-le, Less, List, map-id, min, nat_le, None}
pub use Rattle.std.proofs.Common.{not, Ok, OnErr, Option, option_map, Ordering, pow-suc, refl, remove, Result, reverse, rules, set, set-set, slice_get}
pub use Rattle.std.proofs.Common.{slice_index_or, slice_range, slice_set, Some, sub-one, subst, subst₂, suc, suc-add, suc-mul, swap, sym, take, take-add}
pub use Rattle.std.proofs.Common.{take-append-drop, take-take, take_all, take_at, true, true≢false, unwrap_or, Vec, vec_capacity, vec_len, zero, zero-mul, zip}
pub use Rattle.std.proofs.Math.Seq.{drop-append-add, drop-append_seam, set-append_seam, take-append-add, take-append_seam, take-set-lt}
pub use Rattle.std.proofs.lemmas.Bool.{cases_Bool, cases_lt}
pub use Rattle.std.proofs.lemmas.Cmp.{alike_right, tied_back, tied_itself}
pub use Rattle.std.proofs.lemmas.Grind.{common_steps}
pub use Rattle.std.proofs.lemmas.List.{drop-take, drop_all, drop_more, get_or_default, length-reverse, length_push, nil_from_length, reverse-append}
pub use Rattle.std.proofs.lemmas.List.{same_from_push, take-append-le, take-set-le, take_more, take_more_set}
pub use Rattle.std.proofs.lemmas.List.Edits.{length-swap, swap_is}
pub use Rattle.std.proofs.lemmas.List.Elements.{All-from_recursion, filter-append, filter_map-append, recursion_from_All}
pub use Rattle.std.proofs.lemmas.List.Folds.{find-append}
pub use Rattle.std.proofs.lemmas.List.Sorted.{answers_always, ranks_by, sorted_far}
pub use Rattle.std.proofs.lemmas.Option.{get_or_from_slice_get, slice_get_read, slice_get_within}
pub use Rattle.std.proofs.lemmas.Result.{on_ok_weaker}
pub use Rattle.std.specs.Bool.{then_some}
pub use Rattle.std.specs.Cmp.{IsTotalOrder}
pub use Rattle.std.specs.Fn.{Called, CalledAt, TakesAt}
pub use Rattle.std.specs.Iterator.{Drains, Yields, YieldsFirst}
pub use Rattle.std.specs.List.{AllAdjacentBelow, AllByRecursion, AllWithin, AllZip, cons_option, items_where_true}
pub use Rattle.std.specs.Option.{option_map_or, option_or}
pub use Rattle.std.specs.Ordering.{ordering_index, ordering_reverse}
pub use denote.Param.Members.{Mut}
pub use Rattle.litemap_store.specs.{above, AllBelow, Ascends, at, below, BelowAll, Callable, CallableOnEach, CalledOnPair, cut, digits}
pub use Rattle.litemap_store.specs.{digits-halved, digits-mono, digits-step, digits-zero, FindsEqual, Gives, GivesSome, index_of, IsCountedFor, IsGathered}
pub use Rattle.litemap_store.specs.{Kept, key_one_side, key_or, OneSide, place, put, ReturnsEach}
pub use Rattle.litemap_store.specs.{RisesByAtMost, Rising, set_value, Shape, sub, TakesKeyValue, value_at, value_in, write}
pub use Rattle.litemap_store.specs.Last.{In, Last, NoneEqual, Rises, StandsLast}
pub use Rattle.litemap_store.specs.Laws.{HasKey, Sifted}
pub use Rattle.litemap_store.specs.Merge.{Apart, IsMerged, left, Merge}
pub use Rattle.litemap_store.specs.Splits.{IsFoundAt, IsMissingAt, Splits}
pub use Rattle.litemap_store.specs.Steps.{ComparesFirsts, IsTakenFirst, IsPutIn, KeptSoFar, Walks}
pub use Rattle.litemap_store.specs.declared.count.Count.{Count}
