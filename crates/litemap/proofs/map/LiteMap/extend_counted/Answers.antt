use Rattle.litemap.proofs.Common.{ap, on_ok_weaker, rules}
use Rattle.litemap_store.proofs.Callers.HandedOver.{gathered}
use Rattle.litemap_store.specs.Bulk.{Gives}
use Rattle.litemap.proofs.map.LiteMap.extend_counted.Goals as goal

pub returns-clause-extended : goal.returns-clause-extended
returns-clause-extended g c = search rules

pub returns-clause-gathered : goal.returns-clause-gathered
returns-clause-gathered g c =
    let rises = rw (ap (λ m. m.entries) c.self.view_is) at c.self.invariant in
    on_ok_weaker c.lm_extend.result
    (λ made. gathered g.met.K.Ord.total c.args.self.now.entries _ rises
    (Gives g.I.IntoIterator.into_iter_gives g.I.IntoIter.Iterator.next_gives c.args.iter) made.given made.gives made.last) (returns-clause-extended g c)
