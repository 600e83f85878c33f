use Rattle.litemap.proofs.Common.{◌∙◌, on_ok_weaker, Rising, missing_insert, Rising-put}
use Rattle.litemap.proofs.Outcomes.{either_way}
use Rattle.litemap.proofs.map.LiteMap.insert_at.Goals as goal

pub invariant_of-self : goal.invariant_of-self
invariant_of-self g c =
    let pairs = g.S.Store.pairs c.self.inside.store in
    let missing = rw (← c.self.view_is) at c.requires in
    either_way (Rising g.K.Ord.cmp) c.lm_insert.result _ _ _ c.lm_insert.ensures.ok c.lm_insert.ensures.unchanged
    (rw (missing_insert g.K.Ord.cmp pairs c.args.key c.args.index missing c.args.value)
    (Rising-put g.met.K.Ord.total pairs c.args.key c.args.value c.self.invariant))
    c.self.invariant

pub returns-clause-put : goal.returns-clause-put
returns-clause-put g c =
    let pairs = g.S.Store.pairs c.self.inside.store in
    let missing = rw (← c.self.view_is) at c.requires in
    rw (← c.self.view_is)
    (on_ok_weaker c.lm_insert.result (λ e. e ∙ missing_insert g.K.Ord.cmp pairs c.args.key c.args.index missing c.args.value) c.lm_insert.ensures.ok)
