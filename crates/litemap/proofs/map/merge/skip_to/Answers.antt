use Rattle.litemap.proofs.Common.{◌∙◌}
use Rattle.litemap.proofs.Sets.{at_end, at_equal, at_greater}
use Rattle.litemap.proofs.map.merge.skip_to.Goals as goal

pub returns-in-Equal-clause-passed : goal.returns-in-Equal-clause-passed
returns-in-Equal-clause-passed g c = λ r.
    let inv = c.loop-there.invariant in
    let e = at_equal g.met.K.Ord.total _ _ _ _ _ c.in-Some.ensures c.next.ensures.steps c.in-Equal.ensures.answer (inv.rising r) in
    (e.0 ∙ inv.rest, e.1 ∙ inv.there)

pub returns-in-Greater-clause-passed : goal.returns-in-Greater-clause-passed
returns-in-Greater-clause-passed g c = λ r.
    let inv = c.loop-there.invariant in
    let e = at_greater g.met.K.Ord.total _ _ _ c.in-Some.ensures c.in-Greater.ensures.answer (inv.rising r) in
    (e.0 ∙ inv.rest, e.1 ∙ inv.there)

pub returns-clause-passed : goal.returns-clause-passed
returns-clause-passed g c = λ r.
    let inv = c.loop-there.invariant in
    let e = at_end g.met.K.Ord.total _ _ c.in_default.ensures in
    (e.0 ∙ inv.rest, e.1 ∙ inv.there)
