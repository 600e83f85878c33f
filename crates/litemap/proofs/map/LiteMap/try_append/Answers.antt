use Rattle.litemap_store.proofs.Lists.Ends.{Rising-push}
use Rattle.litemap.proofs.Updating.{places_push, updates_push}
use Rattle.litemap.proofs.map.LiteMap.try_append.Goals as goal

pub invariant_of-self-2 : goal.invariant_of-self-2
invariant_of-self-2 g c =
    let above = c.is_above_all.ensures.0 c.if-not-is_above_all.false in
    rw c.in_ok-lm_push.ensures.ok
    (Rising-push g.K.Ord.cmp (g.S.Store.pairs c.self.inside.store) c.args.key c.args.value c.self.invariant (rw (← c.self.view_is) at above))

pub returns-clause-updates : goal.returns-clause-updates
returns-clause-updates g c = λ added.
    let above = c.is_above_all.ensures.0 c.if-not-is_above_all.false in
    rw (c.in_ok-lm_push.ensures.ok, ← c.self.view_is)
    (updates_push g.met.K.Ord.total (g.S.Store.pairs c.self.inside.store) c.args.key c.args.value (rw (← c.self.view_is) at above))

pub returns-clause-places : goal.returns-clause-places
returns-clause-places g c = λ added.
    let above = c.is_above_all.ensures.0 c.if-not-is_above_all.false in
    rw (c.in_ok-lm_push.ensures.ok, ← c.self.view_is)
    (places_push g.met.K.Ord.total (g.S.Store.pairs c.self.inside.store) c.args.key c.args.value (rw (← c.self.view_is) at above))
