use Rattle.litemap.proofs.Common.{◌∙◌, ap, subst, sym, Rising}
use Rattle.litemap.proofs.Positions.{Rising-cut_range, outside-placed, range-placed}
use Rattle.litemap.proofs.Queried.{keeps_part}
use Rattle.litemap.proofs.map.positions.LiteMap+K+V+Vec+tuple2+K+V+A.take_range.Goals as goal

pub invariant_of-self : goal.invariant_of-self
invariant_of-self g c =
    subst (Rising g.K.Ord.cmp) (sym c.move_range.ensures.left) (Rising-cut_range g.K.Ord.cmp c.self.inside.store.items _ _ c.requires.ascends c.self.invariant)

pub returns-clause-taken : goal.returns-clause-taken
returns-clause-taken g c = rw (c.in_ok-taken.ensures.items, ap (λ m. m.entries) c.self.view_is) at c.move_range.ensures.taken

pub returns-clause-left : goal.returns-clause-left
returns-clause-left g c = rw (ap (λ m. m.entries) c.self.view_is) at c.move_range.ensures.left

pub returns-clause-goes : goal.returns-clause-goes
returns-clause-goes g c =
    let rises = rw (ap (λ m. m.entries) c.self.view_is) at c.self.invariant in
    keeps_part _ c.args.self.now.entries _
    (returns-clause-taken g c ∙ range-placed g.met.K.Ord.total c.args.self.now.entries rises _ _ c.requires.ascends c.requires.within)

pub returns-clause-stays : goal.returns-clause-stays
returns-clause-stays g c =
    let rises = rw (ap (λ m. m.entries) c.self.view_is) at c.self.invariant in
    keeps_part _ c.args.self.now.entries _
    (returns-clause-left g c ∙ outside-placed g.met.K.Ord.total c.args.self.now.entries rises _ _ c.requires.ascends c.requires.within)
