use Rattle.std.proofs.Common.{◌++◌, ◌∷◌, [], ap, ◌∙◌, arith}
use Rattle.litemap_store.proofs.Stores.Counting.{always_on_err}
use Rattle.litemap_store.proofs.Last.FirstGiven.{GivesSome-from_Yields}
use Rattle.litemap_columns.proofs.Columns.{same_length, zip-append}
use Rattle.litemap_columns.proofs.column_store.ColumnStoreStoreFromIterator.lm_from_pairs.Goals as goal

pub loop-key-preserved : goal.loop-key-preserved
loop-key-preserved g c =
    let keys = c.loop-key.keys in
    let values = c.loop-key.values in
    let key = c.in-Some.key in
    let value = c.in-Some.value in
    let inv = c.loop-key.invariant in
    record {
      list = rw (c.in_ok-push.ensures.items, c.in_ok-push-2.ensures.items)
          (zip-append keys.items values.items key value (same_length keys values inv.same_length) ∙ ap (λ L. L ++ (key, value) ∷ []) inv.list);
      same_length = omega (arith, inv.same_length, c.in_ok-push.ensures.len, c.in_ok-push-2.ensures.len);
    }

pub returns-in_err-push-clause-refused_some : goal.returns-in_err-push-clause-refused_some
returns-in_err-push-clause-refused_some g c _ =
    always_on_err c.from_residual.result (GivesSome-from_Yields g.I.IntoIterator.into_iter_gives g.I.IntoIter.Iterator.next_gives c.args.iter
    c.into_iter-key-iterator.result c.loop-key.key-iterator c.next.new.self c.loop-key.yielded (c.in-Some.key, c.in-Some.value)
    c.into_iter-key-iterator.ensures.into_iter_gives c.loop-key.yielded_by c.in-Some.ensures.steps)

pub returns-in_err-push-2-clause-refused_some : goal.returns-in_err-push-2-clause-refused_some
returns-in_err-push-2-clause-refused_some g c _ =
    always_on_err c.from_residual-in_err-push-2.result (GivesSome-from_Yields g.I.IntoIterator.into_iter_gives g.I.IntoIter.Iterator.next_gives c.args.iter
    c.into_iter-key-iterator.result c.loop-key.key-iterator c.next.new.self c.loop-key.yielded (c.in-Some.key, c.in-Some.value)
    c.into_iter-key-iterator.ensures.into_iter_gives c.loop-key.yielded_by c.in-Some.ensures.steps)
