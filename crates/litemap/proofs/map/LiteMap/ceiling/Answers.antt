use Rattle.litemap.proofs.Common.{Rising, ap, slice_get, subst, ◌∙◌}
use Rattle.litemap.proofs.Nearest.{Nearest-ceiling, Nearest-ceiling_equal}
use Rattle.litemap.proofs.map.LiteMap.ceiling.Goals as goal

pub returns-in-Ok : goal.returns-in-Ok
returns-in-Ok g c =
    rw (c.lm_get.ensures ∙ ap (λ m. slice_get m.entries c.in-Ok.index) c.self.view_is)
    (Nearest-ceiling_equal g.met.K.Ord.total g.met.Q.Query.one_side g.met.Q.Query.respects c.args.self.now.entries _
    (subst (Rising g.K.Ord.cmp) (ap (λ m. m.entries) c.self.view_is) c.self.invariant) c.in-Ok.index c.in-Ok.ensures.splits)

pub returns-in-Err : goal.returns-in-Err
returns-in-Err g c =
    rw (c.lm_get-in-Err.ensures ∙ ap (λ m. slice_get m.entries c.in-Err.index) c.self.view_is)
    (Nearest-ceiling g.met.K.Ord.total g.met.Q.Query.one_side g.met.Q.Query.respects c.args.self.now.entries _
    (subst (Rising g.K.Ord.cmp) (ap (λ m. m.entries) c.self.view_is) c.self.invariant) c.in-Err.index c.in-Err.ensures.splits)
