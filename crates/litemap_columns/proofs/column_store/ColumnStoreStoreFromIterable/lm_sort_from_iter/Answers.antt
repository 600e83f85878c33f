use Rattle.std.proofs.Common.{◌≡◌, ◌≤◌, ◌++◌, ◌∷◌, List, [], length, suc, ap, ◌∙◌, arith, inl, refl}
use Rattle.std.proofs.IntoIterSteps.{All-taken}
use Rattle.std.specs.Vec.Iter.{into_iter_items}
use Rattle.std.specs.declared.cmp.Ordering.{Ordering}
use Rattle.litemap_store.specs.Last.{Last}
use Rattle.litemap_store.proofs.Last.FirstGiven.{GivesSome-from_some}
use Rattle.litemap_columns.proofs.Columns.{same_length, zip-append}
use Rattle.litemap_columns.proofs.column_store.ColumnStoreStoreFromIterable.lm_sort_from_iter.Goals as goal

-- if pairs are left, some were given
some_given : {K V : Type 0} (cmp : K → K → Ordering) (given pairs : List (K × V)) → Last cmp given pairs → (length pairs ≤ 0 → ⊥) → 1 ≤ length given
some_given cmp [] [] last some = absurd (some (omega arith))
some_given cmp [] (p ∷ pairs) last some = absurd ((last.exactly p).0 (inl refl))
some_given cmp (x ∷ given) pairs last some = omega arith

pub returns-in-Err-clause-refused_some : goal.returns-in-Err-clause-refused_some
returns-in-Err-clause-refused_some g c _ =
    let extended = c.in_ok-pairs.ensures.made in
    let refused : length c.in_ok-pairs.pairs.items ≤ 0 → ⊥ =
    λ none. cc (c.in-Err.ensures.succeeds (omega (arith, none, c.len.ensures, c.in_ok-pairs.pairs.ok.0))) in
    GivesSome-from_some g.I.IntoIterator.into_iter_gives g.I.IntoIter.Iterator.next_gives c.args.iter extended.given extended.gives
    (some_given g.K.Ord.cmp extended.given _ extended.last refused)

pub loop-key-preserved : goal.loop-key-preserved
loop-key-preserved g c =
    let keys = c.loop-key.keys in
    let values = c.loop-key.values in
    let key = c.in-Some.key in
    let value = c.in-Some.value in
    let inv = c.loop-key.invariant in
    let push = c.push_reserved.ensures in
    let other = c.push_reserved-in-loop-key.ensures in
    let shorter : length (into_iter_items c.loop-key.key-iterator) ≡ suc (length (into_iter_items c.next.new.self)) = ap length c.in-Some.ensures.steps.0 in
    record {
      list = rw (push.items, other.items)
          (zip-append keys.items values.items key value (same_length keys values inv.same_length) ∙ ap (λ L. L ++ (key, value) ∷ []) inv.list);
      same_length = omega (arith, inv.same_length, push.len, other.len);
      keys_fit = omega (arith, inv.keys_fit, push.len, push.capacity, shorter);
      values_fit = omega (arith, inv.values_fit, other.len, other.capacity, shorter);
    }

pub returns-clause-made : goal.returns-clause-made
returns-clause-made g c =
    let all : c.loop-key.yielded ≡ c.in_ok-pairs.pairs.items =
    All-taken _ _ (c.next.new.self, (c.loop-key.key-iterator, c.loop-key.yielded_by, c.in-None.ensures.steps))
    ∙ c.into_iter-key-iterator.ensures.into_iter_gives.0 in
    rw (c.loop-key.invariant.list, all) c.in_ok-pairs.ensures.made
