use Rattle.litemap_store.proofs.Names.{arith, common_steps}
use Rattle.litemap_store.proofs.Last.FirstGiven.{GivesSome-from_Yields}
use Rattle.litemap_store.proofs.bulk.append_items.Goals as goal

pub returns-in-loop-item-clause-refused_some : goal.returns-in-loop-item-clause-refused_some
returns-in-loop-item-clause-refused_some g c =
    GivesSome-from_Yields g.I.IntoIterator.into_iter_gives g.I.IntoIter.Iterator.next_gives c.args.iter c.into_iter-item-iterator.result
    c.loop-item.item-iterator c.next.new.self
    c.loop-item.yielded c.in-Some.item c.into_iter-item-iterator.ensures.into_iter_gives c.loop-item.yielded_by c.in-Some.ensures.steps

pub loop-item-preserved : goal.loop-item-preserved
loop-item-preserved g c = grind (arith, common_steps)

pub returns-in-loop-item-clause-unchanged : goal.returns-in-loop-item-clause-unchanged
returns-in-loop-item-clause-unchanged g c = grind (arith, common_steps)
