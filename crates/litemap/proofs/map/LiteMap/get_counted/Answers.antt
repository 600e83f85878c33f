use Rattle.litemap.proofs.Common.{◌∙◌, found_value}
use Rattle.litemap.proofs.Queried.{member_lent}
use Rattle.litemap.proofs.map.LiteMap.get_counted.Goals as goal

pub returns-in-Ok-clause-value : goal.returns-in-Ok-clause-value
returns-in-Ok-clause-value g c =
    c.value_in.ensures ∙ found_value g.Q.Query.order c.args.self.now.entries (g.Q.Query.sought c.args.key) c.in-Ok.index c.in-Ok.ensures.splits

pub returns-in-Ok-clause-member : goal.returns-in-Ok-clause-member
returns-in-Ok-clause-member g c =
    member_lent g.Q.Query.order (g.Q.Query.sought c.args.key) c.args.self.now.entries c.value_in.result (returns-in-Ok-clause-value g c)
