use Rattle.std.proofs.Common.{arith, ◌≡◌, ◌∙◌, List, subst}
use Rattle.std.proofs.IntoIterSteps.{All-taken}
use Rattle.std.proofs.lemmas.Grind.{common_steps}
use Rattle.litemap_read.specs.Steps.{Run}
use Rattle.litemap_read.specs.declared.calls.Call.{Call}
use Rattle.litemap_read.proofs.Runs.{Run-push}
use Rattle.litemap_read.proofs.laws.run_calls.Goals as goal

pub loop-call-preserved : goal.loop-call-preserved
loop-call-preserved g c =
    let room = c.loop-call.invariant.room in
    let pushed = c.push_reserved.ensures in
    record {
      run = rw c.push_reserved.ensures.items
          (Run-push g.K.Ord.cmp c.in-Some.call c.answer.result c.args.map.now c.loop-call.map c.answer.new.map c.loop-call.yielded c.loop-call.answers.items
          c.loop-call.invariant.run c.answer.ensures);
      room = grind (arith, common_steps, c.in-Some.ensures.steps);
    }

pub returns-clause-run : goal.returns-clause-run
returns-clause-run g c =
    let all : c.loop-call.yielded ≡ c.args.calls.items =
    All-taken _ _ (c.next.new.self, (c.loop-call.call-iterator, c.loop-call.yielded_by, c.in-None.ensures.steps))
    ∙ c.into_iter-call-iterator.ensures.into_iter_gives.0 in
    subst (λ (calls : List (Call g.row.K.Denot g.row.V.Denot _)). Run g.K.Ord.cmp c.args.map.now calls c.loop-call.answers.items c.loop-call.map) all
    c.loop-call.invariant.run
