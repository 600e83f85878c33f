use Rattle.litemap.proofs.Common.{[], subst, sym}
use Rattle.litemap_store.proofs.Callers.HandedOver.{gathered}
use Rattle.litemap_store.specs.Bulk.{Gives}
use Rattle.litemap_store.specs.Last.{Last}
use Rattle.litemap.proofs.map.LiteMap.from_iter_counted.Goals as goal

pub returns-clause-gathered : goal.returns-clause-gathered
returns-clause-gathered g c =
    let made = c.in_ok-store.ensures.made in
    gathered g.met.K.Ord.total [] _ tt (Gives g.I.IntoIterator.into_iter_gives g.I.IntoIter.Iterator.next_gives c.args.iter) made.given made.gives
    (subst (Last g.K.Ord.cmp made.given) (sym c.from_sorted_store_unchecked.ensures.pairs) made.last)
