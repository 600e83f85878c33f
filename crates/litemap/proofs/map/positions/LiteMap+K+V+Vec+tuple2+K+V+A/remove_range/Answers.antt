use Rattle.litemap.proofs.Common.{ap, arith, length, length-append, length-drop, length-take, subst, sym, ◌∙◌, Rising}
use Rattle.litemap.proofs.Positions.{Rising-cut_range, outside-placed}
use Rattle.litemap.proofs.Queried.{keeps_part}
use Rattle.litemap.proofs.map.positions.LiteMap+K+V+Vec+tuple2+K+V+A.remove_range.Goals as goal

pub invariant_of-self : goal.invariant_of-self
invariant_of-self g c =
    subst (Rising g.K.Ord.cmp) (sym (c.drop.ensures.items ∙ c.drain.ensures.kept))
    (Rising-cut_range g.K.Ord.cmp c.self.inside.store.items _ _ c.requires.ascends c.self.invariant)

pub returns-clause-pairs : goal.returns-clause-pairs
returns-clause-pairs g c = rw (ap (λ m. m.entries) c.self.view_is) at (c.drop.ensures.items ∙ c.drain.ensures.kept)

pub returns-clause-room : goal.returns-clause-room
returns-clause-room g c =
    let left = simp (length-append, length-take, length-drop) at (ap length (c.drop.ensures.items ∙ c.drain.ensures.kept)) in
    omega (arith, left, ap (λ m. m.room) c.self.view_is, ap (λ m. length m.entries) c.self.view_is, c.self.inside.store.ok)

pub returns-clause-stays : goal.returns-clause-stays
returns-clause-stays g c =
    let rises = rw (ap (λ m. m.entries) c.self.view_is) at c.self.invariant in
    keeps_part _ c.args.self.now.entries _
    (returns-clause-pairs g c ∙ outside-placed g.met.K.Ord.total c.args.self.now.entries rises _ _ c.requires.ascends c.requires.within)
