use Rattle.std.proofs.Common.{Ok, ap, append-nil, arith, ◌∙◌}
use Rattle.std.proofs.lemmas.List.{drop_all}
use Rattle.std.proofs.lemmas.Result.{err_from_is_err_and}
use Rattle.litemap_store.proofs.Stores.Counting.{always_on_err}
use Rattle.litemap_json.specs.Reading.{seen}
use Rattle.litemap_json.proofs.ByPlace.{next, seen_more}
use Rattle.litemap_json.proofs.Elements.{elements_some}
use Rattle.litemap_json.proofs.read.read_rows.Goals as goal

pub loop-place-preserved : goal.loop-place-preserved
loop-place-preserved g c =
    let so_far = rw (next c.deref-row-items.result.now c.loop-place.place c.row-item.result (omega arith) c.row-item.is) at c.loop-place.invariant in
    seen_more g.K.JsonItem.json g.V.JsonItem.json c.loop-place.found.items _ c.in_ok-pair.pair _ _ _ c.in_ok-push_pair.ensures c.in_ok-pair.ensures so_far

pub returns-clause-read : goal.returns-clause-read
returns-clause-read g c =
    let so_far = rw (drop_all c.loop-place.place c.deref-row-items.result.now (omega arith)) at c.loop-place.invariant in
    (rw c.deref-row-items.ensures.value at so_far) ∙ ap Ok (append-nil (seen g.K.JsonItem.json g.V.JsonItem.json c.loop-place.found.items))

pub returns-in_err-pair-clause-read : goal.returns-in_err-pair-clause-read
returns-in_err-pair-clause-read g c =
    let stopped = err_from_is_err_and c.from_residual.result c.from_residual.ensures.1 in
    let so_far = rw (next c.deref-row-items.result.now c.loop-place.place c.row-item.result (omega arith) c.row-item.is) at c.loop-place.invariant in
    rw (stopped.1, stopped.2) (λ known. rw (c.deref-row-items.ensures.value, c.in_err-pair.ensures known) at so_far)

pub returns-in_err-pair-clause-refused_some : goal.returns-in_err-pair-clause-refused_some
returns-in_err-pair-clause-refused_some g c =
    always_on_err c.from_residual.result (rw c.deref-row-items.ensures.value at (elements_some c.deref-row-items.result.now (omega arith)))

pub returns-in_err-push_pair-clause-refused_some : goal.returns-in_err-push_pair-clause-refused_some
returns-in_err-push_pair-clause-refused_some g c =
    always_on_err c.from_residual-in_err-push_pair.result (rw c.deref-row-items.ensures.value at (elements_some c.deref-row-items.result.now (omega arith)))
