use Rattle.litemap.proofs.Common.{Rising, ap, arith, slice_get, subst, ◌-◌, ◌∙◌}
use Rattle.litemap.proofs.Nearest.{Nearest-floor, Nearest-floor_equal, Nearest-no_floor}
use Rattle.litemap.proofs.map.LiteMap.floor.Goals as goal

pub returns-in-Ok : goal.returns-in-Ok
returns-in-Ok g c =
    rw (c.lm_get.ensures ∙ ap (λ m. slice_get m.entries c.in-Ok.index) c.self.view_is)
    (Nearest-floor_equal g.met.K.Ord.total g.met.Q.Query.one_side g.met.Q.Query.respects c.args.self.now.entries _
    (subst (Rising g.K.Ord.cmp) (ap (λ m. m.entries) c.self.view_is) c.self.invariant) c.in-Ok.index c.in-Ok.ensures.splits)

pub returns-in-Err-eq0 : goal.returns-in-Err-eq0
returns-in-Err-eq0 g c =
    Nearest-no_floor g.met.K.Ord.total g.met.Q.Query.one_side g.met.Q.Query.respects c.args.self.now.entries _
    (subst (Rising g.K.Ord.cmp) (ap (λ m. m.entries) c.self.view_is) c.self.invariant) c.in-Err-eq0.field-0 c.in-Err-eq0.ensures.splits
    c.in-Err-eq0.field-0-test

pub returns-in-Err : goal.returns-in-Err
returns-in-Err g c =
    rw (c.lm_get-in-Err.ensures ∙ ap (λ m. slice_get m.entries (c.in-Err.index - 1)) c.self.view_is)
    (Nearest-floor g.met.K.Ord.total g.met.Q.Query.one_side g.met.Q.Query.respects c.args.self.now.entries _
    (subst (Rising g.K.Ord.cmp) (ap (λ m. m.entries) c.self.view_is) c.self.invariant) c.in-Err.index c.in-Err.ensures.splits (c.in-Err.index - 1)
    (omega (arith, c.in-Err.index-test.1)))
