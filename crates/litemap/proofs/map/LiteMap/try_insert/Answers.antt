use Rattle.litemap.proofs.Common.{Err}
use Rattle.litemap.proofs.Updating.{places_put, updates_put}
use Rattle.litemap.proofs.map.LiteMap.try_insert.Goals as goal

pub returns-in_ok-insert_at-in-Err-clause-updates : goal.returns-in_ok-insert_at-in-Err-clause-updates
returns-in_ok-insert_at-in-Err-clause-updates g c = λ added.
    rw c.in_ok-insert_at-in-Err.ensures.put
    (updates_put g.met.K.Ord.total c.args.self.now.entries c.args.key c.args.value (Err c.in-Err.index) c.in-Err.ensures.splits)

pub returns-in_ok-insert_at-in-Err-clause-places : goal.returns-in_ok-insert_at-in-Err-clause-places
returns-in_ok-insert_at-in-Err-clause-places g c = λ added.
    rw c.in_ok-insert_at-in-Err.ensures.put
    (places_put g.met.K.Ord.total c.args.self.now.entries c.args.key c.args.value (Err c.in-Err.index) c.in-Err.ensures.splits)
