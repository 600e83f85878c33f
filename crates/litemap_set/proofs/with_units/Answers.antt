use Rattle.litemap_store.proofs.Last.FirstGiven.{GivesSome-from_Yields}
use Rattle.litemap_set.proofs.Keys.{on_err}
use Rattle.litemap_set.proofs.with_units.Goals as goal

pub returns-in_err-push-clause-refused_some : goal.returns-in_err-push-clause-refused_some
returns-in_err-push-clause-refused_some g c =
    on_err c.from_residual.result
    (GivesSome-from_Yields g.I.IntoIterator.into_iter_gives g.I.IntoIter.Iterator.next_gives c.args.iter c.into_iter-key-iterator.result
    c.loop-key.key-iterator c.next.new.self
    c.loop-key.yielded c.in-Some.key c.into_iter-key-iterator.ensures.into_iter_gives c.loop-key.yielded_by c.in-Some.ensures.steps)
