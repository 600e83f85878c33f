use Rattle.std.proofs.Common.{Ok, ap, append-nil, arith, ◌∙◌}
use Rattle.litemap_store.proofs.Stores.Counting.{always_on_err}
use Rattle.litemap_json.specs.Reading.{seen}
use Rattle.litemap_json.proofs.ByPlace.{after_none, seen_more}
use Rattle.litemap_json.proofs.Elements.{members_some}
use Rattle.litemap_json.proofs.read.read_members.Goals as goal

pub loop-name-preserved : goal.loop-name-preserved
loop-name-preserved g c =
    let so_far = rw c.in-Some.ensures.steps at c.loop-name.invariant in (
      omega (arith, so_far.0),
      seen_more g.K.JsonItem.json g.V.JsonItem.json c.loop-name.found.items _ c.in_ok-pair.pair _ _ _ c.in_ok-push_pair.ensures
          c.in_ok-pair.ensures so_far.1,
    )

pub loop-name-init : goal.loop-name-init
loop-name-init g c =
    let all = c.into_iter-name-iterator.ensures.into_iter_gives ∙ c.iter-name-items.ensures.rest in
    rw (all, c.new-found.ensures.items) (omega (arith, c.len-count.ensures.len), after_none _)

pub returns-clause-read : goal.returns-clause-read
returns-clause-read g c =
    (rw c.in-None.ensures.steps.0 at c.loop-name.invariant.1) ∙ ap Ok (append-nil (seen g.K.JsonItem.json g.V.JsonItem.json c.loop-name.found.items))

pub returns-in_err-pair-clause-refused_some : goal.returns-in_err-pair-clause-refused_some
returns-in_err-pair-clause-refused_some g c =
    let so_far = rw c.in-Some.ensures.steps at c.loop-name.invariant in
    always_on_err c.from_residual.result (members_some c.args.members.now.entries (omega (arith, so_far.0, c.len-count.ensures.len)))

pub returns-in_err-push_pair-clause-refused_some : goal.returns-in_err-push_pair-clause-refused_some
returns-in_err-push_pair-clause-refused_some g c =
    let so_far = rw c.in-Some.ensures.steps at c.loop-name.invariant in
    always_on_err c.from_residual-in_err-push_pair.result (members_some c.args.members.now.entries (omega (arith, so_far.0, c.len-count.ensures.len)))
