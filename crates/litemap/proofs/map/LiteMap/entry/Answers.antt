use Rattle.litemap.proofs.Common.{Err, Ok, ap, option_map, found_get, found_remove, found_set_value, found_value, found_within}
use Rattle.litemap.proofs.Updating.{updates_put}
use Rattle.litemap.proofs.map.LiteMap.entry.Goals as goal

pub returns-in-Ok-clause-writes : goal.returns-in-Ok-clause-writes
returns-in-Ok-clause-writes g c = found_set_value _ _ _ _ c.in-Ok.ensures.splits

pub returns-in-Ok-clause-removes : goal.returns-in-Ok-clause-removes
returns-in-Ok-clause-removes g c = found_remove _ _ _ _ c.in-Ok.ensures.splits

pub returns-in-Ok-clause-key : goal.returns-in-Ok-clause-key
returns-in-Ok-clause-key g c =
    rw c.in-Ok.ensures.splits.found (ap (option_map (λ p. p.0)) (found_get _ _ _ _ c.in-Ok.ensures.splits))

pub returns-in-Ok-clause-value : goal.returns-in-Ok-clause-value
returns-in-Ok-clause-value g c = found_value _ _ _ _ c.in-Ok.ensures.splits

pub invariant_of-result : goal.invariant_of-result
invariant_of-result g c = record { within = found_within _ _ _ _ c.in-Ok.ensures.splits }

pub returns-in-Ok-clause-updates : goal.returns-in-Ok-clause-updates
returns-in-Ok-clause-updates g c v =
    rw (found_set_value _ _ _ _ c.in-Ok.ensures.splits v)
    (updates_put g.met.K.Ord.total c.args.self.now.entries c.args.key v (Ok c.in-Ok.index) c.in-Ok.ensures.splits)

pub returns-clause-updates : goal.returns-clause-updates
returns-clause-updates g c v = updates_put g.met.K.Ord.total c.args.self.now.entries c.args.key v (Err c.in-Err.index) c.in-Err.ensures.splits
