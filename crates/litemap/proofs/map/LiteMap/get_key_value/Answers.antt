use Rattle.litemap.proofs.Common.{◌∙◌, found_there}
use Rattle.litemap.proofs.map.LiteMap.get_key_value.Goals as goal

pub returns-in-Ok-clause-pair : goal.returns-in-Ok-clause-pair
returns-in-Ok-clause-pair g c =
    rw (← c.self.view_is) c.lm_get.ensures ∙ found_there g.Q.Query.order c.args.self.now.entries
    (g.Q.Query.sought c.args.key) c.in-Ok.index c.in-Ok.ensures.splits
