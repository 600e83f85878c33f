use Rattle.std.proofs.Common.{[], ◌∷◌, ◌++◌, append-nil, append_assoc, arith, length-append}
use Rattle.litemap_read.proofs.Asked.{asked_failed, asked_refused}
use Rattle.litemap_read.proofs.read.drain.Goals as goal

pub loop-pair-preserved : goal.loop-pair-preserved
loop-pair-preserved g c =
    let before = c.loop-pair.invariant in
    let next = rw c.in-Ok-Some.field-0-is at c.in-Ok-Some.ensures.next in
    let step = c.next_pair.ensures in
    let pushed = c.in_ok-push-in-Ok-Some.ensures in record {
      seen = λ rest h. rw (pushed, append_assoc) (before.seen (c.in-Ok-Some.pair ∷ rest) (next.0 rest h));
      left = omega (arith, rw (pushed, length-append) at c.push.new.items.ok.0, c.loop-pair.pairs.ok.0, before.left, next.1);
      errors = λ e. ((λ h. (before.errors e).0 ((step.keeps_faults e).0 h)), (λ h. (step.keeps_faults e).1 ((before.errors e).1 h)));
      end = ((λ h. before.end.0 (step.keeps_end.0 h)), (λ h. step.keeps_end.1 (before.end.1 h)));
      led = g.met.P.PairSource.leads_on _ _ _ before.led step.leads;
    }

-- the pair that had no room stood before what is left
pub returns-in_err-push-in-Ok-Some-clause-rest : goal.returns-in_err-push-in-Ok-Some-clause-rest
returns-in_err-push-in-Ok-Some-clause-rest g c =
    let before = c.loop-pair.invariant in
    let next = rw c.in-Ok-Some.field-0-is at c.in-Ok-Some.ensures.next in
    (c.loop-pair.pairs.items ++ c.in-Ok-Some.pair ∷ [], λ rest h. rw append_assoc (before.seen (c.in-Ok-Some.pair ∷ rest) (next.0 rest h)))

pub returns-in_err-push-in-Ok-Some-clause-asked : goal.returns-in_err-push-in-Ok-Some-clause-asked
returns-in_err-push-in-Ok-Some-clause-asked g c =
    let before = c.loop-pair.invariant in
    asked_refused c.from_residual.result c.from_residual.ensures.1 (returns-in_err-push-in-Ok-Some-clause-rest g c)
    (g.met.P.PairSource.leads_on _ _ _ before.led c.next_pair.ensures.leads)
    (omega (arith, before.left, (rw c.in-Ok-Some.field-0-is at c.in-Ok-Some.ensures.next).1))

pub returns-in-Err-clause-rest : goal.returns-in-Err-clause-rest
returns-in-Err-clause-rest g c = (c.loop-pair.pairs.items, λ rest h. c.loop-pair.invariant.seen rest ((c.in-Err.ensures.next.1.0 rest).0 h))

pub returns-in-Err-clause-asked : goal.returns-in-Err-clause-asked
returns-in-Err-clause-asked g c =
    let before = c.loop-pair.invariant in
    asked_failed c.in-Err.error ((before.errors c.in-Err.error).0 c.in-Err.ensures.next.0) (returns-in-Err-clause-rest g c)
    (g.met.P.PairSource.leads_on _ _ _ before.led c.next_pair.ensures.leads)

pub returns-in-Ok-None : goal.returns-in-Ok-None
returns-in-Ok-None g c =
    let before = c.loop-pair.invariant in
    let next = rw c.in-Ok-None.field-0-is at c.in-Ok-None.ensures.next in
    let led = g.met.P.PairSource.leads_on _ _ _ before.led c.next_pair.ensures.leads in record {
      given = rw append-nil at (before.seen [] ((next.1.0 []).0 next.2));
      rest = (c.loop-pair.pairs.items, λ rest h. before.seen rest ((next.1.0 rest).0 h));
      fewer = omega (arith, before.left, c.loop-pair.pairs.ok.0);
      asked = record { ends = before.end.0 next.0; empty = next.2; error = tt; rest = tt; leads = led; refused_some = tt };
    }
