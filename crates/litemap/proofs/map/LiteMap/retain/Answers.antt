use Rattle.litemap.proofs.Common.{◌∙◌, ap, filter, Rising-from_Kept}
use Rattle.std.proofs.lemmas.Fn.{filter_same}
use Rattle.litemap.proofs.Retained.{length-kept, value_at-gone, value_at-stays}
use Rattle.litemap.proofs.Callable.{on_each}
use Rattle.litemap.proofs.Queried.{retains}
use Rattle.litemap.proofs.map.LiteMap.retain.Goals as goal

pub invariant_of-self : goal.invariant_of-self
invariant_of-self g c =
    Rising-from_Kept g.K.Ord.cmp g.F.FnMut c.args.f (g.S.Store.pairs c.self.inside.store) _ c.lm_retain.ensures.kept c.self.invariant

pub returns-clause-filtered : goal.returns-clause-filtered
returns-clause-filtered g c = λ test tests.
    filter_same _ test c.args.f tests _ _ c.lm_retain.ensures.kept ∙ ap (filter test) (ap (λ m. m.entries) c.self.view_is)

pub returns-clause-retains : goal.returns-clause-retains
returns-clause-retains g c =
    retains g.F.FnMut g.K.Ord.cmp c.args.f _ _ _ c.lm_retain.ensures.kept (ap (λ m. m.entries) c.self.view_is) c.self.invariant

pub returns-clause-stays : goal.returns-clause-stays
returns-clause-stays g c = value_at-stays g.F.FnMut c.args.f g.met.K.Ord.total _ _ (returns-clause-retains g c)

pub returns-clause-gone : goal.returns-clause-gone
returns-clause-gone g c = value_at-gone g.F.FnMut c.args.f g.met.K.Ord.total _ _ (returns-clause-retains g c)

pub returns-clause-fewer : goal.returns-clause-fewer
returns-clause-fewer g c =
    length-kept g.F.FnMut c.args.f _ _ _ c.lm_retain.ensures.kept (ap (λ m. m.entries) c.self.view_is)

pub lm_retain-requires : goal.lm_retain-requires
lm_retain-requires g c = on_each g.met.K.Ord.total _ _ (ap (λ m. m.entries) c.self.view_is) c.self.invariant c.args.f g.F.FnMut c.requires
