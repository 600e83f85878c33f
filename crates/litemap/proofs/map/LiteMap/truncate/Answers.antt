use Rattle.litemap.proofs.Common.{◌∙◌, ap, rules, subst, sym, Rising}
use Rattle.litemap_store.proofs.Lists.Parts.{Rising-take}
use Rattle.litemap.proofs.Positions.{take-placed}
use Rattle.litemap.proofs.Queried.{keeps_part}
use Rattle.litemap.proofs.map.LiteMap.truncate.Goals as goal

pub invariant_of-self : goal.invariant_of-self
invariant_of-self g c =
    subst (Rising g.K.Ord.cmp) (sym c.drop_from.ensures.pairs) (Rising-take g.K.Ord.cmp (g.S.Store.pairs c.self.inside.store) c.args.len c.self.invariant)

pub returns-clause-pairs : goal.returns-clause-pairs
returns-clause-pairs g c = search rules

pub returns-clause-stays : goal.returns-clause-stays
returns-clause-stays g c =
    let rises = rw (ap (λ m. m.entries) c.self.view_is) at c.self.invariant in
    keeps_part _ c.args.self.now.entries _ (returns-clause-pairs g c ∙ take-placed g.met.K.Ord.total c.args.self.now.entries rises c.args.len)
