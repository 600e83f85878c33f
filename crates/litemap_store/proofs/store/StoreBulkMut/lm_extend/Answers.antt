use Rattle.litemap_store.proofs.Names.{Gives, inr, IsCountedFor}
use Rattle.litemap_store.proofs.Last.FirstGiven.{counted_then, GivesSome-from_refused}
use Rattle.litemap_store.proofs.store.StoreBulkMut.lm_extend.Given.{Over}
use Rattle.litemap_store.proofs.store.StoreBulkMut.lm_extend.Goals as goal
use Rattle.litemap_store.proofs.store.StoreBulkMut.lm_extend.Goals.{After-put_pairs}

gathered : (g : Over) (c : After-put_pairs g)
    → Gives g.I.IntoIterator.into_iter_gives g.I.IntoIter.Iterator.next_gives c.args.iter c.append_items.new.items.items
gathered g c = let given = c.in_default.ensures.gathered in rw (given.1, c.new-pairs.ensures.items) given.2

pub returns-in-Ok-clause-extended : goal.returns-in-Ok-clause-extended
returns-in-Ok-clause-extended g c =
    let put = c.put_pairs.ensures in
    record {
      given = c.append_items.new.items.items;
      gives = gathered g (goal.at.returns-in-Ok-clause-extended g c).After-put_pairs;
      last = c.in-Ok.ensures.last;
      all_above = put.all_above;
      rising = λ _. put.cost;
    }

pub returns-clause-refused_some : goal.returns-clause-refused_some
returns-clause-refused_some g c _ =
    rw c.in-Err-put_pairs.is at
    (GivesSome-from_refused g.K.Ord.cmp g.I.IntoIterator.into_iter_gives g.I.IntoIter.Iterator.next_gives c.args.iter c.put_pairs.result
    (g.Self.Store.pairs c.args.self.now) c.append_items.new.items.items (g.Self.Store.room c.args.self.now)
    (gathered g (goal.at.returns-clause-refused_some g c).After-put_pairs) c.put_pairs.ensures.succeeds)

pub returns-clause-refused_cost : goal.returns-clause-refused_cost
returns-clause-refused_cost g c =
    let cost : IsCountedFor g.K.Ord.cmp (g.Self.Store.pairs c.args.self.now) c.append_items.new.items.items c.args.count.now c.put_pairs.new.count =
    record { all_above = c.put_pairs.ensures.all_above; rising = λ _. c.put_pairs.ensures.cost } in
    inr (_, gathered g (goal.at.returns-clause-refused_cost g c).After-put_pairs, counted_then cost c.refuse-in-Err-put_pairs.ensures.uncounted)
