use Rattle.litemap.proofs.Common.{ap, subst}
use Rattle.std.proofs.lemmas.Result.{on_err_weaker}
use Rattle.litemap_store.specs.Pairs.{Rising}
use Rattle.litemap.proofs.Collecting.{extends_items, gives_some}
use Rattle.litemap.proofs.map.traits.LiteMapExtendTuple2.extend.Goals as goal

pub returns-clause-ran : goal.returns-clause-ran
returns-clause-ran g c =
    extends_items g.met.K.Ord.total g.I.IntoIterator.into_iter_gives g.I.IntoIter.Iterator.next_gives c.args.iter c.into_iter.result
    c.args.self.now.entries _ _ c.into_iter.ensures.into_iter_gives
    (subst (Rising g.K.Ord.cmp) (ap (λ m. m.entries) c.self.view_is) c.self.invariant) c.extend.ensures.extended c.extend.ensures.unchanged

pub returns-clause-refused_some : goal.returns-clause-refused_some
returns-clause-refused_some g c some =
    on_err_weaker c.extend.result
    (gives_some g.met.K.Ord.total g.I.IntoIterator.into_iter_gives g.I.IntoIter.Iterator.next_gives c.args.iter c.into_iter.result
    c.into_iter.ensures.into_iter_gives)
    (c.extend.ensures.refused_some some)
